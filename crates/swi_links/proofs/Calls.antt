-- The calls on the lists, as their code meets them.
use Rattle.std.proofs.Common.{◌≡◌, ℕ, ◌<◌, ◌≤◌, ◌^◌, List, [], ◌∷◌, map, length, replicate, slice_index, slice_index_or, slice_set, Some, None, slice_get, arith, refl, sym, ◌∙◌, ap, subst, inl, inr}
use Rattle.std.proofs.lemmas.Bool.{cases_lt}
use Rattle.std.proofs.lemmas.List.{length-map, get_or_past, get_or_read, get_or-replicate, length-replicate}
use Rattle.swi_links.specs.Chains.{ChainsData, Has, list_of, IsApart, IsFree, without, Distinct}
use Rattle.swi_links.specs.Tied.{walk, lists_in, Chain, SlotChain, Tied}
use Rattle.swi_links.proofs.Chain.{chain_below}
use Rattle.swi_links.proofs.Tying.{Ready, ready_lists, list_is, link_ready, unlink_ready, head_place}

abbrev pub data_of : ℕ → List ℕ → List ℕ → ChainsData
data_of words heads nexts = record { words = words; lists = lists_in nexts words heads }

lists_long : (words : ℕ) (heads nexts : List ℕ) → length (lists_in nexts words heads) ≡ length heads
lists_long words heads nexts = length-map heads (λ (h : ℕ). walk nexts words h)

head_some : (N P : List ℕ) (none q h : ℕ) (L : List ℕ) → Chain N P none q h L → h < none → Some h ≡ slice_get L 0
head_some N P none q h [] c lt = absurd (omega arith)
head_some N P none q h (x ∷ xs) c lt = ap (λ (y : ℕ). Some y) c.0

head_none : (N P : List ℕ) (none q h : ℕ) (L : List ℕ) → Chain N P none q h L → none ≤ h → None ≡ slice_get L 0
head_none N P none q h [] c le = refl
head_none N P none q h (x ∷ xs) c le = absurd (omega arith)

own_list : (words slot : ℕ) (heads nexts : List ℕ) (d : ChainsData) → data_of words heads nexts ≡ d → slot < length heads → list_of d slot ≡ walk nexts words (slice_index heads slot)
own_list words slot heads nexts d e lt = ap (λ (x : ChainsData). list_of x slot) (sym e) ∙ list_is words slot heads nexts lt

slot_within : (words slot : ℕ) (heads nexts : List ℕ) (d : ChainsData) → data_of words heads nexts ≡ d → slot < length d.lists → slot < length heads
slot_within words slot heads nexts d e lt = omega (arith, ap (λ (x : ChainsData). length x.lists) e, lists_long words heads nexts)

pub first_some : (words slot h : ℕ) (heads nexts prevs owners : List ℕ) (d : ChainsData) → data_of words heads nexts ≡ d → Tied words heads nexts prevs owners → slot < length d.lists → h ≡ slice_index_or heads slot h → h < words →
    Some h ≡ slice_get (list_of d slot) 0
first_some words slot h heads nexts prevs owners d e tied lt is small =
    let below = slot_within words slot heads nexts d e lt in
    let at : h ≡ slice_index heads slot = get_or_read heads slot h below is 0 in
    subst (λ (xs : List ℕ). Some h ≡ slice_get xs 0) (sym (own_list words slot heads nexts d e below))
    (ap (λ (y : ℕ). Some y) at ∙ head_some nexts prevs words words (slice_index heads slot) _ (tied.chained slot below).chain (omega arith))

pub first_none : (words slot h : ℕ) (heads nexts prevs owners : List ℕ) (d : ChainsData) → data_of words heads nexts ≡ d → Tied words heads nexts prevs owners → slot < length d.lists → h ≡ slice_index_or heads slot h → words ≤ h →
    None ≡ slice_get (list_of d slot) 0
first_none words slot h heads nexts prevs owners d e tied lt is past =
    let below = slot_within words slot heads nexts d e lt in
    let at : h ≡ slice_index heads slot = get_or_read heads slot h below is 0 in
    subst (λ (xs : List ℕ). None ≡ slice_get xs 0) (sym (own_list words slot heads nexts d e below))
    (head_none nexts prevs words words (slice_index heads slot) _ (tied.chained slot below).chain (omega arith))

-- a word in a list is below `words`, and its slot is the one that is kept for it
pub has_slot : (words s at : ℕ) (heads nexts prevs owners : List ℕ) (d : ChainsData) → data_of words heads nexts ≡ d → Tied words heads nexts prevs owners → Has (list_of d s) at →
    (at < words) × (slice_index owners at ≡ s) × (s < length heads)
has_slot words s at heads nexts prevs owners d e tied has = elim (cases_lt s (length heads)) [
  | inl lt ↦ (let c = tied.chained s lt in
      let i : Has (walk nexts words (slice_index heads s)) at = subst (λ (xs : List ℕ). Has xs at) (own_list words s heads nexts d e lt) has in
      (chain_below nexts prevs words words (slice_index heads s) at _ c.chain i, c.owned at i, lt))
  | inr past ↦ absurd (subst (λ (xs : List ℕ). Has xs at) (ap (λ (x : ChainsData). list_of x s) (sym e) ∙ get_or_past (lists_in nexts words heads) s [] (omega (arith, lists_long words heads nexts))) has)
]

pub unowned_free : (words at : ℕ) (heads nexts prevs owners : List ℕ) (d : ChainsData) → data_of words heads nexts ≡ d → Tied words heads nexts prevs owners → length heads ≤ slice_index owners at → IsFree d at
unowned_free words at heads nexts prevs owners d e tied past = λ s has.
    let w = has_slot words s at heads nexts prevs owners d e tied has in
    omega (arith, w.1, w.2)

pub target_none : (words at o : ℕ) (heads nexts prevs owners : List ℕ) (d : ChainsData) → data_of words heads nexts ≡ d → Tied words heads nexts prevs owners → at < d.words → o ≡ slice_index_or owners at o → length heads ≤ o → IsFree d at
target_none words at o heads nexts prevs owners d e tied lt is past = λ s has.
    let w = has_slot words s at heads nexts prevs owners d e tied has in
    let at_is : o ≡ slice_index owners at = get_or_read owners at o (omega (arith, w.0, tied.owners_long)) is 0 in
    omega (arith, at_is, w.1, w.2)

pub target_some : (words at o : ℕ) (heads nexts prevs owners : List ℕ) (d : ChainsData) → data_of words heads nexts ≡ d → Tied words heads nexts prevs owners → at < d.words → o ≡ slice_index_or owners at o → o < length heads → Has (list_of d o) at
target_some words at o heads nexts prevs owners d e tied lt is below =
    let small : at < words = omega (arith, ap (λ (x : ChainsData). x.words) e) in
    let at_is : o ≡ slice_index owners at = get_or_read owners at o (omega (arith, tied.owners_long)) is 0 in
    subst (λ (xs : List ℕ). Has xs at) (sym (own_list words o heads nexts d e below))
    (subst (λ (k : ℕ). Has (walk nexts words (slice_index heads k)) at) (sym at_is) (tied.listed at small (omega arith)))

pub linked_ready : (words at slot : ℕ) (heads nexts prevs owners : List ℕ) (d : ChainsData) → data_of words heads nexts ≡ d → Tied words heads nexts prevs owners → at < d.words → IsFree d at → slot < length d.lists →
    Ready words (slice_set heads slot at) (slice_set nexts at (slice_index heads slot)) (slice_set (slice_set prevs (slice_index heads slot) at) at words) (slice_set owners at slot)
    (slice_set d.lists slot (at ∷ list_of d slot))
linked_ready words at slot heads nexts prevs owners d e tied lt free below =
    subst (λ (x : ChainsData). Ready words (slice_set heads slot at) (slice_set nexts at (slice_index heads slot)) (slice_set (slice_set prevs (slice_index heads slot) at) at words) (slice_set owners at slot)
    (slice_set x.lists slot (at ∷ list_of x slot))) e
    (link_ready words at slot heads nexts prevs owners tied (omega (arith, ap (λ (x : ChainsData). x.words) e)) (slot_within words slot heads nexts d e below)
    (λ s lt' has. free s (subst (λ (xs : List ℕ). Has xs at) (sym (own_list words s heads nexts d e lt')) has)))

pub unlinked_ready : (words at s : ℕ) (heads nexts prevs owners : List ℕ) (d : ChainsData) → data_of words heads nexts ≡ d → Tied words heads nexts prevs owners → Has (list_of d s) at →
    Ready words (slice_set heads (head_place (slice_index prevs at) words (slice_index owners at) (length heads)) (slice_index nexts at))
    (slice_set nexts (slice_index prevs at) (slice_index nexts at)) (slice_set prevs (slice_index nexts at) (slice_index prevs at)) (slice_set owners at (length heads))
    (map (λ (xs : List ℕ). without at xs) d.lists)
unlinked_ready words at s heads nexts prevs owners d e tied has =
    let w = has_slot words s at heads nexts prevs owners d e tied has in
    let below : slice_index owners at < length heads = omega (arith, w.1, w.2) in
    subst (λ (x : ChainsData). Ready words (slice_set heads (head_place (slice_index prevs at) words (slice_index owners at) (length heads)) (slice_index nexts at))
    (slice_set nexts (slice_index prevs at) (slice_index nexts at)) (slice_set prevs (slice_index nexts at) (slice_index prevs at)) (slice_set owners at (length heads))
    (map (λ (xs : List ℕ). without at xs) x.lists)) e
    (unlink_ready words at heads nexts prevs owners tied below (tied.listed at w.0 below))

pub empty_ready : (words slots : ℕ) → words < 2 ^ 32 → slots < 2 ^ 32 → Ready words (replicate slots words) (replicate words words) (replicate words words) (replicate words slots) (replicate slots [])
empty_ready words slots few few' = record {
  few = few;
  slots_few = omega (arith, length-replicate slots words);
  nexts_long = length-replicate words words;
  prevs_long = length-replicate words words;
  owners_long = length-replicate words slots;
  lists_long = length-replicate {A = List ℕ} slots [] ∙ sym (length-replicate slots words);
  chained = λ s lt. (let below : s < slots = omega (arith, length-replicate slots words) in
      subst (λ (xs : List ℕ). SlotChain (replicate words words) (replicate words words) (replicate words slots) words s (slice_index (replicate slots words) s) xs) (sym (get_or-replicate {A = List ℕ} slots s [] [] below))
      (record { chain = get_or-replicate slots s words 0 below; distinct = tt; owned = λ x has. absurd has }));
  listed = λ x lt o. absurd (omega (arith, get_or-replicate words x slots 0 lt, length-replicate slots words));
}

pub linked_put : (words at slot first : ℕ) (heads nexts prevs owners heads' nexts' between prevs' owners' : List ℕ) (d : ChainsData) → data_of words heads nexts ≡ d → Tied words heads nexts prevs owners → at < d.words → IsFree d at → slot < length d.lists →
    first ≡ slice_index_or heads slot first → between ≡ slice_set prevs first at → prevs' ≡ slice_set between at words → nexts' ≡ slice_set nexts at first → owners' ≡ slice_set owners at slot → heads' ≡ slice_set heads slot at →
    Ready words heads' nexts' prevs' owners' (slice_set d.lists slot (at ∷ list_of d slot))
linked_put words at slot first heads nexts prevs owners heads' nexts' between prevs' owners' d e tied lt free below is p p' n o h =
    let f : slice_index heads slot ≡ first = sym (get_or_read heads slot first (slot_within words slot heads nexts d e below) is 0) in
    let r = linked_ready words at slot heads nexts prevs owners d e tied lt free below in
    rw (h, n, p', p, o) (subst (λ (x : ℕ). Ready words (slice_set heads slot at) (slice_set nexts at x) (slice_set (slice_set prevs x at) at words) (slice_set owners at slot) (slice_set d.lists slot (at ∷ list_of d slot))) f r)

pub unlinked_put : (words at s slot next prev head slots : ℕ) (heads nexts prevs owners heads' nexts' prevs' owners' : List ℕ) (d : ChainsData) → data_of words heads nexts ≡ d → Tied words heads nexts prevs owners → Has (list_of d s) at →
    slot ≡ slice_index_or owners at slot → next ≡ slice_index_or nexts at next → prev ≡ slice_index_or prevs at prev → slots ≡ length heads → head ≡ head_place prev words slot slots →
    prevs' ≡ slice_set prevs next prev → nexts' ≡ slice_set nexts prev next → owners' ≡ slice_set owners at slots → heads' ≡ slice_set heads head next →
    Ready words heads' nexts' prevs' owners' (map (λ (xs : List ℕ). without at xs) d.lists)
unlinked_put words at s slot next prev head slots heads nexts prevs owners heads' nexts' prevs' owners' d e tied has slot_is next_is prev_is slots_is head_is p n o h =
    let w = has_slot words s at heads nexts prevs owners d e tied has in
    let sl : slice_index owners at ≡ slot = sym (get_or_read owners at slot (omega (arith, w.0, tied.owners_long)) slot_is 0) in
    let ne : slice_index nexts at ≡ next = sym (get_or_read nexts at next (omega (arith, w.0, tied.nexts_long)) next_is 0) in
    let pr : slice_index prevs at ≡ prev = sym (get_or_read prevs at prev (omega (arith, w.0, tied.prevs_long)) prev_is 0) in
    let r = unlinked_ready words at s heads nexts prevs owners d e tied has in
    let r1 = subst (λ (x : ℕ). Ready words (slice_set heads (head_place (slice_index prevs at) words x (length heads)) (slice_index nexts at))
    (slice_set nexts (slice_index prevs at) (slice_index nexts at)) (slice_set prevs (slice_index nexts at) (slice_index prevs at)) (slice_set owners at (length heads)) (map (λ (xs : List ℕ). without at xs) d.lists)) sl r in
    let r2 = subst (λ (x : ℕ). Ready words (slice_set heads (head_place (slice_index prevs at) words slot (length heads)) x)
    (slice_set nexts (slice_index prevs at) x) (slice_set prevs x (slice_index prevs at)) (slice_set owners at (length heads)) (map (λ (xs : List ℕ). without at xs) d.lists)) ne r1 in
    let r3 = subst (λ (x : ℕ). Ready words (slice_set heads (head_place x words slot (length heads)) next)
    (slice_set nexts x next) (slice_set prevs next x) (slice_set owners at (length heads)) (map (λ (xs : List ℕ). without at xs) d.lists)) pr r2 in
    rw (h, n, p, o, head_is) (subst (λ (x : ℕ). Ready words (slice_set heads (head_place prev words slot x) next) (slice_set nexts prev next) (slice_set prevs next prev) (slice_set owners at x) (map (λ (xs : List ℕ). without at xs) d.lists)) (sym slots_is) r3)

pub lists_now : (words : ℕ) (heads nexts heads' nexts' prevs' owners' : List ℕ) (ls : List (List ℕ)) (d : ChainsData) → data_of words heads nexts ≡ d → Ready words heads' nexts' prevs' owners' ls → data_of words heads' nexts' ≡ record d { lists = ls }
lists_now words heads nexts heads' nexts' prevs' owners' ls d e r =
    ap (λ (zs : List (List ℕ)). record { words = words; lists = zs }) (ready_lists words heads' nexts' prevs' owners' ls r) ∙ ap (λ (x : ChainsData). record x { lists = ls }) e

list_distinct : (words slot : ℕ) (heads nexts prevs owners : List ℕ) (d : ChainsData) → data_of words heads nexts ≡ d → Tied words heads nexts prevs owners → Distinct (list_of d slot)
list_distinct words slot heads nexts prevs owners d e tied = elim (cases_lt slot (length heads)) [
  | inl lt ↦ subst (λ (xs : List ℕ). Distinct xs) (sym (own_list words slot heads nexts d e lt)) (tied.chained slot lt).distinct
  | inr past ↦ subst (λ (xs : List ℕ). Distinct xs) (sym (ap (λ (x : ChainsData). list_of x slot) (sym e) ∙ get_or_past (lists_in nexts words heads) slot [] (omega (arith, lists_long words heads nexts)))) tt
]

pub apart : (words : ℕ) (heads nexts prevs owners : List ℕ) (d : ChainsData) → data_of words heads nexts ≡ d → Tied words heads nexts prevs owners → IsApart d
apart words heads nexts prevs owners d e tied = record {
  within = λ s x has. omega (arith, (has_slot words s x heads nexts prevs owners d e tied has).0, ap (λ (c : ChainsData). c.words) e);
  slot = λ s x has. omega (arith, (has_slot words s x heads nexts prevs owners d e tied has).2, ap (λ (c : ChainsData). length c.lists) e, lists_long words heads nexts);
  one = λ s t x has has'. sym (has_slot words s x heads nexts prevs owners d e tied has).1 ∙ (has_slot words t x heads nexts prevs owners d e tied has').1;
  distinct = λ s. list_distinct words s heads nexts prevs owners d e tied;
}
