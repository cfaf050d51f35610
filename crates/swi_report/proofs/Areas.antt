-- The areas of a bus, and the rows of sixteen bytes of one.
use Rattle.std.proofs.Common.{◌≡◌, ◌+◌, ◌<◌, ◌≤◌, ◌^◌, ℕ, zero, suc, List, [], ◌∷◌, ◌++◌, length, map, take, set, slice_get, arith, refl, sym, ap, subst, ◌∙◌, Option, Some, None, IsSomeAnd, if◌then◌else◌}
use Rattle.std.proofs.lemmas.List.{map-append, take_more_set}
use Rattle.swi_memory.specs.Bus.{AreaData, AreInOrderFrom, grants}
use Rattle.swi_memory.specs.declared.right.Right.TheVariants.{Write}
use Rattle.swi_report.specs.State.{numbers, byte_in, area_text, rows_text}
use Rattle.swi_report.proofs.Pieces.{numbers_parted}

-- one more byte of a row
pub row_more : (base : ℕ) (bytes : List ℕ) (a k : ℕ) (row : List (Option ℕ)) (b : Option ℕ) → k < length row
    → take k row ≡ map (byte_in base bytes) (numbers a k) → b ≡ byte_in base bytes (a + k)
    → take (k + 1) (set row k b) ≡ map (byte_in base bytes) (numbers a (k + 1))
unfolding numbers
row_more base bytes a k row b within front is =
    take_more_set row k b within
    ∙ ap (λ l. l ++ b ∷ []) front
    ∙ ap (λ x. map (byte_in base bytes) (numbers a k) ++ x ∷ []) is
    ∙ sym (map-append (byte_in base bytes) (numbers a k) ((a + k) ∷ []))
    ∙ ap (λ l. map (byte_in base bytes) l) (sym (numbers_parted a k zero))

ends_in_range : (from : ℕ) (bus : List AreaData) → AreInOrderFrom from bus → from ≤ 2 ^ 32
ends_in_range from [] order = order
ends_in_range from (s ∷ rest) order =
    let end : s.base + length s.bytes ≤ 2 ^ 32 = ends_in_range (s.base + length s.bytes) rest order.3 in
    omega (arith, order.0)

-- an area ends at 2 ^ 32 at most
pub area_ends : (from : ℕ) (bus : List AreaData) (k : ℕ) (s : AreaData) → AreInOrderFrom from bus → slice_get bus k ≡ Some s
    → s.base + length s.bytes ≤ 2 ^ 32
area_ends from [] k s order at = cc
area_ends from (t ∷ rest) zero s order at =
    let same : t ≡ s = cc in
    subst (λ x. x.base + length x.bytes ≤ 2 ^ 32) same (ends_in_range (t.base + length t.bytes) rest order.3)
area_ends from (t ∷ rest) (suc k) s order at = area_ends (t.base + length t.bytes) rest k s order.3 at

-- an area by its place, and what is written of it
pub record Placed (bus : List AreaData) (k base flags : ℕ) (bytes : List ℕ) : Type 0 where
  pub area : AreaData
  pub at : slice_get bus k ≡ Some area
  pub text : (if grants Write flags then rows_text base bytes else []) ≡ area_text area
  pub size : base + length bytes ≡ area.base + length area.bytes

pub placed : (bus : List AreaData) (k base flags : ℕ) (bytes : List ℕ)
    → IsSomeAnd (slice_get bus k) (λ s. (base ≡ s.base) × (flags ≡ s.flags) × (bytes ≡ s.bytes)) → Placed bus k base flags bytes
placed bus k base flags bytes is = go (slice_get bus k) refl is
  where
    go : (o : Option AreaData) → slice_get bus k ≡ o → IsSomeAnd o (λ s. (base ≡ s.base) × (flags ≡ s.flags) × (bytes ≡ s.bytes))
        → Placed bus k base flags bytes
    go None at h = absurd h
    go (Some s) at h = record { area = s; at = at; text = rw (h.0, h.1, h.2) refl; size = rw (h.0, h.2) refl }
