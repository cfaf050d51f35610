-- All links into a block and from it leave their lists.
use Rattle.std.proofs.Common.{◌≡◌, ℕ, ◌<◌, if◌then◌else◌, length, slice_index, arith, ◌∙◌, subst, inl, inr}
use Rattle.std.proofs.lemmas.Bool.{cases_Bool, cases_eq}
use Rattle.swi_outside.specs.CacheRam.{RamState}
use Rattle.swi_links.specs.Chains.{ChainsData}
use Rattle.swi_links.specs.Holders.{holder_of}
use Rattle.swi_rom.specs.Record.{ebreak}
use Rattle.swi_rom.specs.Writing.{Wrote}
use Rattle.swi_links.specs.Undone.{is_own, comes_in, coming_in, is_dropped, Undone, IsEmptied, Released}
use Rattle.swi_links.specs.Gone.{Gone}
use Rattle.swi_links.specs.Tells.{own_is, own_not, own_tells, comes_tells, none_tells, coming_nothing}

dropped_at : (list first n k i : ℕ) (old mid new : ChainsData) (a b : RamState) → Undone list first n k old mid a b → IsEmptied list mid → Released first n mid new → i < old.words →
    holder_of new.lists i ≡ (if is_dropped list first n old.lists i then length old.lists else holder_of old.lists i)
dropped_at list first n k i old mid new a b u empty r lt = elim (cases_Bool (is_own first n i)) [
  | inl own ↦ rw (own_tells list first n i old.lists own).0 (let at = own_is first n i own in r.dropped i at.0 at.1 ∙ u.lists_stay)
  | inr foreign ↦ r.others i (own_not first n i foreign) ∙ elim (cases_eq (holder_of old.lists i) list) [
    | inl is ↦ rw (comes_tells list first n i old.lists foreign is).0 (elim (u.each i lt) [
      | inl s ↦ absurd (empty.none i (s.holder_stays ∙ is))
      | inr l ↦ l.is_none
    ])
    | inr other ↦ rw (none_tells list first n i old.lists foreign other).0 (elim (u.each i lt) [
      | inl s ↦ s.holder_stays
      | inr l ↦ absurd (other l.was)
    ])
  ]
]

undone_at : (list first n k i : ℕ) (old mid : ChainsData) (a b : RamState) → Undone list first n k old mid a b → IsEmptied list mid → i < old.words →
    slice_index b.words i ≡ (if comes_in list first n old.lists i then ebreak else slice_index a.words i)
undone_at list first n k i old mid a b u empty lt = elim (cases_Bool (is_own first n i)) [
  | inl own ↦ rw (own_tells list first n i old.lists own).1 (elim (u.each i lt) [ inl s ↦ s.word_stays | inr l ↦ l.own own ])
  | inr foreign ↦ elim (cases_eq (holder_of old.lists i) list) [
    | inl is ↦ rw (comes_tells list first n i old.lists foreign is).1 (elim (u.each i lt) [
      | inl s ↦ absurd (empty.none i (s.holder_stays ∙ is))
      | inr l ↦ l.foreign foreign
    ])
    | inr other ↦ rw (none_tells list first n i old.lists foreign other).1 (elim (u.each i lt) [
      | inl s ↦ s.word_stays
      | inr l ↦ absurd (other l.was)
    ])
  ]
]

pub number_is : (list first n k : ℕ) (old mid : ChainsData) (a b : RamState) → Undone list first n k old mid a b → IsEmptied list mid → k ≡ coming_in list first n old.lists old.words
number_is list first n k old mid a b u empty = omega (arith, u.number, coming_nothing list first n old.words mid.lists (λ i lt e. empty.none i e))

pub gone : (list first n k : ℕ) (old mid new : ChainsData) (a b : RamState) → Undone list first n k old mid a b → IsEmptied list mid → Released first n mid new → Gone list first n old new a b
gone list first n k old mid new a b u empty r = record {
  dropped = λ i lt. dropped_at list first n k i old mid new a b u empty r lt;
  undone = λ i lt. undone_at list first n k i old mid a b u empty lt;
  beyond = u.beyond;
  wrote = subst (λ (m : ℕ). Wrote old.words m a b) (number_is list first n k old mid a b u empty) u.wrote;
}
