-- All links from and to a slot are dropped.
use Rattle.std.proofs.Common.{◌≡◌, ℕ, suc, zero, ◌+◌, ◌*◌, ◌/◌, ◌%◌, ◌-◌, ◌<◌, ◌≤◌, min, Bool, true, false, Result, Ok, Err, OnOk, IfOk, if◌then◌else◌, length, slice_index, arith, refl, sym, ◌∙◌, ap, subst, inl, inr}
use Rattle.std.proofs.lemmas.Bool.{cases_Bool, cases_eq}
use Rattle.std.proofs.lemmas.Nat.{div-mul-add, div-add-mod', mod_below, row_fits}
use Rattle.swi_outside.specs.CacheRam.{RamState}
use Rattle.swi_links.specs.Chains.{ChainsData}
use Rattle.swi_links.specs.Holders.{holder_of}
use Rattle.swi_links.specs.Lists.{holder_most}
use Rattle.swi_rom.specs.Record.{ebreak}
use Rattle.swi_rom.specs.Writing.{Wrote}
use Rattle.swi_slots.specs.Steps.{Cleared, leads_in, is_dropped, leading_in}
use Rattle.swi_slots.specs.Tells.{own_tells, leads_tells, none_tells}
use Rattle.swi_links.specs.Undone.{is_own, comes_in, coming_in, is_dropped as is_gone}
use Rattle.swi_links.specs.Gone.{Gone}
use Rattle.swi_links.specs.Tells.{own_is, own_not, own_tells as owned, comes_tells, none_tells as neither}
use Rattle.swi_slots.specs.Homes.{TableData}
use Rattle.swi_slots.specs.Targets.{targets_of}
use Rattle.swi_slots.proofs.Targets.{length_targets, target_at, target_past}

-- where the words of a slot stand
row_own : (slot size i : ℕ) → 0 < size → i / size ≡ slot → (slot * size ≤ i) × (i < slot * size + size)
row_own slot size i pos e =
    let split : i / size * size + i % size ≡ i = div-add-mod' i size in
    let same : slot * size + i % size ≡ i = ap (λ (x : ℕ). x * size + i % size) (sym e) ∙ split in
    (omega (arith, same), omega (arith, same, mod_below i size pos))

abbrev pub Behind : ℕ → ℕ → ℕ → ChainsData → Type 0
Behind slot size words c = (o : ℕ) → words ≤ o → o < size → length c.lists ≤ slice_index (targets_of c) (slot * size + o)

-- a slot's word behind its block is no link
behind_free : (slot size words i : ℕ) (c : ChainsData) → 0 < size → Behind slot size words c → i < c.words → i / size ≡ slot → is_own (slot * size) (min words size) i ≡ false → holder_of c.lists i ≡ length c.lists
behind_free slot size words i c pos behind lt own foreign =
    let row = row_own slot size i pos own in
    let past : slot * size + min words size ≤ i = elim (own_not (slot * size) (min words size) i foreign) [ inl below ↦ absurd (omega (arith, row.0, below)) | inr past ↦ past ] in
    let free = behind (i - slot * size) (omega (arith, row.0, row.1, past)) (omega (arith, row.0, row.1)) in
    let here : slice_index (targets_of c) (slot * size + (i - slot * size)) ≡ holder_of c.lists i = ap (λ (x : ℕ). slice_index (targets_of c) x) (omega (arith, row.0)) ∙ target_at c i lt in
    omega (arith, free, here, holder_most c.lists i)

-- one of the block's own words is one of the slot
own_row : (slot size n i : ℕ) → n ≤ size → is_own (slot * size) n i ≡ true → i / size ≡ slot
own_row slot size n i le own =
    let at = own_is (slot * size) n i own in
    ap (λ (x : ℕ). x / size) (omega (arith, at.0)) ∙ div-mul-add slot size (i - slot * size) (omega (arith, at.0, at.1))

-- what the slots say of a word, and what its lists say
record Alike (slot size n i : ℕ) (c : ChainsData) : Type 0 where
  leads : leads_in size slot (targets_of c) i ≡ comes_in slot (slot * size) n c.lists i
  dropped : (if is_dropped size slot (targets_of c) i then length c.lists else holder_of c.lists i) ≡ (if is_gone slot (slot * size) n c.lists i then length c.lists else holder_of c.lists i)

alike : (slot size words i : ℕ) (c : ChainsData) → slot < length c.lists → 0 < size → Behind slot size words c → i < c.words → Alike slot size (min words size) i c
alike slot size words i c below pos behind lt = elim (cases_Bool (is_own (slot * size) (min words size) i)) [
  | inl own ↦ (
      let mine = own_tells size slot i (targets_of c) (own_row slot size (min words size) i (omega arith) own) in
      let his = owned slot (slot * size) (min words size) i c.lists own in
      record { leads = mine.1 ∙ sym his.1; dropped = rw (mine.0, his.0) refl })
  | inr foreign ↦ elim (cases_eq (i / size) slot) [
    | inl row ↦ (
        let mine = own_tells size slot i (targets_of c) row in
        let free = behind_free slot size words i c pos behind lt row foreign in
        let his = neither slot (slot * size) (min words size) i c.lists foreign (λ (e : holder_of c.lists i ≡ slot). omega (arith, e, free, below)) in
        record { leads = mine.1 ∙ sym his.1; dropped = rw (mine.0, his.0) (sym free) })
    | inr away ↦ elim (cases_eq (holder_of c.lists i) slot) [
      | inl is ↦ (
          let mine = leads_tells size slot i (targets_of c) away (target_at c i lt ∙ is) in
          let his = comes_tells slot (slot * size) (min words size) i c.lists foreign is in
          record { leads = mine.1 ∙ sym his.1; dropped = rw (mine.0, his.0) refl })
      | inr other ↦ (
          let mine = none_tells size slot i (targets_of c) away (λ (e : slice_index (targets_of c) i ≡ slot). other (sym (target_at c i lt) ∙ e)) in
          let his = neither slot (slot * size) (min words size) i c.lists foreign other in
          record { leads = mine.1 ∙ sym his.1; dropped = rw (mine.0, his.0) refl })
    ]
  ]
]

same_count : (slot size n k : ℕ) (c : ChainsData) → ((i : ℕ) → i < k → leads_in size slot (targets_of c) i ≡ comes_in slot (slot * size) n c.lists i) → coming_in slot (slot * size) n c.lists k ≡ leading_in size slot (targets_of c) k
unfolding leading_in coming_in
same_count slot size n zero c same = refl
same_count slot size n (suc k) c same =
    let rest = same_count slot size n k c (λ i lt. same i (omega arith)) in
    rw (same k (omega arith), rest) refl

pub number_is : (slot size words : ℕ) (c : ChainsData) → slot < length c.lists → 0 < size → Behind slot size words c → coming_in slot (slot * size) (min words size) c.lists c.words ≡ leading_in size slot (targets_of c) c.words
number_is slot size words c below pos behind = same_count slot size (min words size) c.words c (λ i lt. (alike slot size words i c below pos behind lt).leads)

cleared : (slot size words span : ℕ) (old new : ChainsData) (a b : RamState) → Gone slot (slot * size) (min words size) old new a b → new.words ≡ old.words → slot < length old.lists → 0 < size → Behind slot size words old →
    old.words ≡ span → span ≡ length old.lists * size → Cleared (length old.lists) size slot span (targets_of old) (targets_of new) a b
cleared slot size words span old new a b gone long below pos behind is all = record {
  length_stays = length_targets new.lists 0 new.words ∙ long ∙ sym (length_targets old.lists 0 old.words);
  dropped = λ i lt. target_at new i (omega (arith, long, is)) ∙ gone.dropped i (omega (arith, is)) ∙ sym (alike slot size words i old below pos behind (omega (arith, is))).dropped
      ∙ ap (λ (t : ℕ). if is_dropped size slot (targets_of old) i then length old.lists else t) (sym (target_at old i (omega (arith, is))));
  rest = λ i le. target_past new i (omega (arith, long, is)) ∙ sym (target_past old i (omega (arith, is)));
  undone = λ i lt. gone.undone i (omega (arith, is)) ∙ ap (λ (t : Bool). if t then ebreak else slice_index a.words i) (sym (alike slot size words i old below pos behind (omega (arith, is))).leads);
  beyond = λ i le. gone.beyond i (omega (arith, is));
  wrote = subst (λ (k : ℕ). Wrote (length old.lists * size) (leading_in size slot (targets_of old) k) a b) is
      (subst (λ (k : ℕ). Wrote k (leading_in size slot (targets_of old) old.words) a b) (is ∙ all)
      (subst (λ (k : ℕ). Wrote old.words k a b) (number_is slot size words old below pos behind) gone.wrote));
}

-- what holds of an answer gives what is asked of it
pub ok_gives : {T E P Q : Type 0} (r : Result T E) → OnOk r P → (P → Q) → IfOk r (λ (n : T). Q)
ok_gives (Ok n) p f = f p
ok_gives (Err e) p f = tt

pub number_gives : {T E : Type 0} {P Q : T → Type 0} (r : Result T E) → IfOk r P → ((n : T) → P n → Q n) → IfOk r Q
number_gives (Ok n) p f = f n p
number_gives (Err e) p f = tt

-- the calls, as their code meets them: `c` and `size` are the table's fields
pub words_are : (t : TableData) (c : ChainsData) → c ≡ t.chains → length (targets_of t.chains) ≡ length t.chains.lists * t.size → c.words ≡ length t.chains.lists * t.size
words_are t c e all = ap (λ (x : ChainsData). x.words) e ∙ sym (length_targets t.chains.lists 0 t.chains.words) ∙ all

pub same_length : (t : TableData) (c new : ChainsData) → c ≡ t.chains → new.words ≡ c.words → length (targets_of new) ≡ length (targets_of t.chains)
same_length t c new e words = length_targets new.lists 0 new.words ∙ words ∙ ap (λ (x : ChainsData). x.words) e ∙ sym (length_targets t.chains.lists 0 t.chains.words)

pub own_within : (t : TableData) (c : ChainsData) (size slot words w : ℕ) → c ≡ t.chains → size ≡ t.size → w ≡ min words size → length (targets_of t.chains) ≡ length t.chains.lists * t.size → slot < length t.chains.lists → slot * size + w ≤ c.words
own_within t c size slot words w e e' w_is all below =
    let fits : slot * t.size + t.size ≤ length t.chains.lists * t.size = row_fits slot t.size (length t.chains.lists) t.size below (omega arith) in
    let same : slot * size ≡ slot * t.size = ap (λ (x : ℕ). slot * x) e' in
    omega (arith, fits, same, w_is, e', words_are t c e all)

pub cleared_call : (t : TableData) (c new : ChainsData) (size slot words w : ℕ) (a b : RamState) → c ≡ t.chains → size ≡ t.size → w ≡ min words size → Gone slot (slot * size) w c new a b → new.words ≡ c.words →
    slot < length t.chains.lists → 0 < t.size → length (targets_of t.chains) ≡ length t.chains.lists * t.size → Behind slot t.size words t.chains →
    Cleared (length t.chains.lists) t.size slot (length t.chains.lists * t.size) (targets_of t.chains) (targets_of new) a b
cleared_call t c new size slot words w a b e e' w_is gone long below pos all behind =
    let g : Gone slot (slot * t.size) (min words t.size) t.chains new a b =
    subst (λ (x : ℕ). Gone slot (slot * x) (min words x) t.chains new a b) e' (subst (λ (x : ℕ). Gone slot (slot * size) x t.chains new a b) w_is (subst (λ (x : ChainsData). Gone slot (slot * size) w x new a b) e gone)) in
    cleared slot t.size words (length t.chains.lists * t.size) t.chains new a b g (long ∙ ap (λ (x : ChainsData). x.words) e) below pos behind (words_are t t.chains refl all) refl

pub number_call : (t : TableData) (c : ChainsData) (size slot words w n : ℕ) → c ≡ t.chains → size ≡ t.size → w ≡ min words size → n ≡ coming_in slot (slot * size) w c.lists c.words →
    slot < length t.chains.lists → 0 < t.size → length (targets_of t.chains) ≡ length t.chains.lists * t.size → Behind slot t.size words t.chains → n ≡ leading_in t.size slot (targets_of t.chains) (length t.chains.lists * t.size)
number_call t c size slot words w n e e' w_is is below pos all behind =
    is ∙ ap (λ (x : ChainsData). coming_in slot (slot * size) w x.lists x.words) e ∙ ap (λ (x : ℕ). coming_in slot (slot * size) x t.chains.lists t.chains.words) w_is
    ∙ ap (λ (x : ℕ). coming_in slot (slot * x) (min words x) t.chains.lists t.chains.words) e' ∙ number_is slot t.size words t.chains below pos behind
    ∙ ap (λ (k : ℕ). leading_in t.size slot (targets_of t.chains) k) (words_are t t.chains refl all)
