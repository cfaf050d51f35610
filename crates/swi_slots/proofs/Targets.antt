-- The slots of all words, as a list.
use Rattle.std.proofs.Common.{◌≡◌, ℕ, suc, zero, ◌+◌, ◌<◌, ◌≤◌, List, [], replicate, length, slice_index, slice_set, arith, refl, sym, ◌∙◌, ap, subst, inl, inr}
use Rattle.std.proofs.lemmas.Bool.{cases_eq}
use Rattle.std.proofs.lemmas.List.{length-set, length-replicate, get_or-set_same, get_or-set_other, get_or_past, get_or-replicate, ext_get_or}
use Rattle.swi_links.specs.Chains.{ChainsData, IsFree}
use Rattle.swi_links.specs.Holders.{holder_of}
use Rattle.swi_links.specs.Lists.{linked_lists, linked_here, linked_other, holder_below, holder_empty}
use Rattle.swi_slots.specs.Homes.{TableData}
use Rattle.swi_slots.specs.Targets.{targets_from, targets_of}

pub length_targets : (ls : List (List ℕ)) (i n : ℕ) → length (targets_from ls i n) ≡ n
unfolding targets_from
length_targets ls i zero = refl
length_targets ls i (suc n) = ap suc (length_targets ls (i + 1) n)

target_from : (ls : List (List ℕ)) (i n k : ℕ) → k < n → slice_index (targets_from ls i n) k ≡ holder_of ls (i + k)
unfolding targets_from
target_from ls i zero k lt = absurd (omega arith)
target_from ls i (suc n) zero lt = ap (λ (j : ℕ). holder_of ls j) (omega arith)
target_from ls i (suc n) (suc k) lt = target_from ls (i + 1) n k (omega arith) ∙ ap (λ (j : ℕ). holder_of ls j) (omega arith)

pub target_at : (c : ChainsData) (k : ℕ) → k < c.words → slice_index (targets_of c) k ≡ holder_of c.lists k
target_at c k lt = target_from c.lists 0 c.words k lt ∙ ap (λ (j : ℕ). holder_of c.lists j) (omega arith)

pub target_past : (c : ChainsData) (k : ℕ) → c.words ≤ k → slice_index (targets_of c) k ≡ 0
target_past c k le = get_or_past (targets_of c) k 0 (omega (arith, length_targets c.lists 0 c.words))

-- an empty table
pub targets_empty : (words slots : ℕ) → targets_from (replicate slots []) 0 words ≡ replicate words slots
targets_empty words slots =
    ext_get_or 0 (targets_from (replicate slots []) 0 words) (replicate words slots) (length_targets (replicate slots []) 0 words ∙ sym (length-replicate words slots))
    (λ k lt. (let below : k < words = omega (arith, length_targets (replicate slots []) 0 words) in
    target_from (replicate slots []) 0 words k below ∙ holder_empty slots (0 + k) ∙ sym (get_or-replicate words k slots 0 below)))

pub targets_linked : (c : ChainsData) (at slot : ℕ) → slot < length c.lists → IsFree c at → targets_of (record c { lists = linked_lists c.lists at slot }) ≡ slice_set (targets_of c) at slot
targets_linked c at slot lt free =
    let d : ChainsData = record c { lists = linked_lists c.lists at slot } in
    ext_get_or 0 (targets_of d) (slice_set (targets_of c) at slot)
    (length_targets d.lists 0 c.words ∙ sym (length_targets c.lists 0 c.words) ∙ sym (length-set (targets_of c) at slot))
    (λ k below. (let small : k < c.words = omega (arith, length_targets d.lists 0 c.words) in
    target_at d k small ∙ elim (cases_eq k at) [
      | inl e ↦ ap (λ (j : ℕ). holder_of d.lists j) e ∙ linked_here c.lists at slot lt free
          ∙ sym (ap (λ (j : ℕ). slice_index (slice_set (targets_of c) at slot) j) e ∙ get_or-set_same (targets_of c) at slot 0 (omega (arith, e, length_targets c.lists 0 c.words)))
      | inr ne ↦ linked_other c.lists at slot k lt ne ∙ sym (target_at c k small) ∙ sym (get_or-set_other (targets_of c) at k slot 0 ne)
    ]))

-- as the code meets it
pub free_call : (t : TableData) (c : ChainsData) (at : ℕ) → c ≡ t.chains → at < length (targets_of t.chains) → length t.chains.lists ≤ slice_index (targets_of t.chains) at → IsFree c at
free_call t c at e lt free = subst (λ (x : ChainsData). IsFree x at) (sym e) (λ s h.
    omega (arith, holder_below t.chains.lists at s h, target_at t.chains at (omega (arith, length_targets t.chains.lists 0 t.chains.words))))

pub link_call : (t : TableData) (c d : ChainsData) (at slot : ℕ) → c ≡ t.chains → IsFree c at → slot < length t.chains.lists → d ≡ record c { lists = linked_lists c.lists at slot } → targets_of d ≡ slice_set (targets_of t.chains) at slot
link_call t c d at slot e free lt is =
    ap (λ (x : ChainsData). targets_of x) is ∙ targets_linked c at slot (omega (arith, ap (λ (x : ChainsData). length x.lists) e)) free
    ∙ ap (λ (x : ChainsData). slice_set (targets_of x) at slot) e

pub at_call : (t : TableData) (c : ChainsData) (at : ℕ) → c ≡ t.chains → at < length (targets_of t.chains) → at < c.words
at_call t c at e lt = omega (arith, length_targets t.chains.lists 0 t.chains.words, ap (λ (x : ChainsData). x.words) e)
