-- The areas of a bus at the start are in order, and one of them at most can be executed.
use Rattle.std.proofs.Common.{◌≡◌, ℕ, ◌+◌, ◌-◌, ◌<◌, ◌≤◌, ◌^◌, inl, inr, List, [], ◌∷◌, ◌++◌, length, map, replicate, if◌then◌else◌, arith, refl, ap, length-append}
use Rattle.std.specs.List.{insert}
use Rattle.std.proofs.lemmas.Bool.Decides.{nat_tests}
use Rattle.std.proofs.lemmas.List.{length-replicate}
use Rattle.swi_memory.specs.declared.bank.Bank.{Bank}
use Rattle.swi_memory.specs.declared.layout.Layout.{Layout}
use Rattle.swi_memory.specs.Bus.{AreaData, AreInOrder, AreInOrderFrom, Execute, grants}
use Rattle.swi_memory.specs.BusOf.{AreApart, HasOneTextAtMost, IsClear, IsClearOf, Range, area_of, bus_of, placed, range_of, ranges, region, texts, with_area, with_areas}
use Rattle.swi_memory.specs.Gather.{AreWhole, place_in}
use Rattle.swi_memory.specs.Segment.{SegmentData}
use Rattle.swi_memory.specs.TextAt.{HasOne, executables}
use Rattle.swi_memory.specs.Views.{area, areas}

-- a bank put at its place
pub placed_banks : (banks : List Bank) (b : Bank) → areas (insert banks (place_in (areas banks) b.base) b) ≡ placed (areas banks) (area b)
placed_banks [] b = refl
placed_banks (x ∷ rest) b = grind (arith, nat_tests, placed_banks rest b)

abbrev range_at : AreaData → Range
range_at s = record { base = s.base; size = length s.bytes }

-- every range is clear of these areas
abbrev AreClear : List AreaData → List Range → Type 0
AreClear made [] = Unit {0}
AreClear made (r ∷ rest) = IsClearOf r (map range_at made) × AreClear made rest

clear_sym : (r s : Range) → IsClear r s → IsClear s r
clear_sym r s (inl h) = inr (inl h)
clear_sym r s (inr (inl h)) = inl h
clear_sym r s (inr (inr (inl h))) = inr (inr (inr h))
clear_sym r s (inr (inr (inr h))) = inr (inr (inl h))

-- an area with bytes, of which some came from a file, below 2 ^ 32
pub record IsWhole (s : AreaData) : Type 0 where
  pub file_size : s.file_size ≤ length s.bytes
  pub end : s.base + length s.bytes ≤ 2 ^ 32

order_placed : (from : ℕ) (made : List AreaData) (s : AreaData) → AreInOrderFrom from made → from ≤ s.base → 0 < length s.bytes → IsWhole s → IsClearOf (range_at s) (map range_at made) → AreInOrderFrom from (placed made s)
order_placed from [] s order behind some whole clear = (behind, some, whole.file_size, whole.end)
order_placed from (t ∷ rest) s order behind some whole clear =
    grind (arith, nat_tests, order.0, order.1, order.2, order.3, clear.0, whole.file_size, λ (end : t.base + length t.bytes ≤ s.base). order_placed (t.base + length t.bytes) rest s order.3 end some whole clear.1)

clear_of_placed : (r : Range) (made : List AreaData) (s : AreaData) → IsClearOf r (map range_at made) → IsClear r (range_at s) → IsClearOf r (map range_at (placed made s))
clear_of_placed r [] s made_clear clear = (clear, tt)
clear_of_placed r (t ∷ rest) s made_clear clear = grind (arith, nat_tests, made_clear.0, made_clear.1, clear_of_placed r rest s made_clear.1 clear)

clear_placed : (made : List AreaData) (s : AreaData) (rest : List Range) → AreClear made rest → IsClearOf (range_at s) rest → AreClear (placed made s) rest
clear_placed made s [] clear apart = tt
clear_placed made s (r ∷ rest) clear apart =
    (clear_of_placed r made s clear.0 (clear_sym (range_at s) r apart.0), clear_placed made s rest clear.1 apart.1)

-- areas that are in order, and clear of ranges that are to come
record Ready (made : List AreaData) (rest : List Range) : Type 0 where
  order : AreInOrder made
  clear : AreClear made rest

ready_more : (made : List AreaData) (s : AreaData) (rest : List Range) → Ready made (range_at s ∷ rest) → AreApart (range_at s ∷ rest) → IsWhole s → Ready (with_area made s) rest
ready_more made s rest ready apart whole = record {
  order = grind (arith, nat_tests, ready.order, λ (some : 0 < length s.bytes). order_placed 0 made s ready.order (omega arith) some whole ready.clear.0);
  clear = grind (arith, nat_tests, ready.clear.1, clear_placed made s rest ready.clear.1 apart.0);
}

abbrev pub AllWhole : List AreaData → Type 0
AllWhole [] = Unit {0}
AllWhole (s ∷ rest) = IsWhole s × AllWhole rest

ready_all : (made rest : List AreaData) → Ready made (map range_at rest) → AreApart (map range_at rest) → AllWhole rest → AreInOrder (with_areas made rest)
ready_all made [] ready apart whole = ready.order
ready_all made (s ∷ rest) ready apart whole =
    ready_all (with_area made s) rest (ready_more made s (map range_at rest) ready apart whole.0) apart.1 whole.1

clear_none : (rest : List Range) → AreClear [] rest
clear_none [] = tt
clear_none (r ∷ rest) = (tt, clear_none rest)

-- the areas that a bus is made of
abbrev pub parts : List SegmentData → Layout → List AreaData
parts segments l = map area_of segments ++ region l.heap l.heap_len ∷ region l.stack l.stack_len ∷ []

length_zeros : (n : ℕ) → length (replicate {A = ℕ} n 0) ≡ n
length_zeros n = length-replicate {A = ℕ} n 0

size_of_segment : (s : SegmentData) → length s.bytes ≤ s.size → length (s.bytes ++ replicate (s.size - length s.bytes) 0) ≡ s.size
size_of_segment s short = omega (arith, length-append s.bytes (replicate (s.size - length s.bytes) 0), length_zeros (s.size - length s.bytes))

ranges_are : (segments : List SegmentData) (l : Layout) → AreWhole segments → map range_at (parts segments l) ≡ ranges segments l
ranges_are [] l whole = rw (length_zeros l.heap_len, length_zeros l.stack_len) refl
ranges_are (s ∷ rest) l whole = rw (size_of_segment s whole.0) (ap (λ r. range_of s ∷ r) (ranges_are rest l whole.2))

pub all_whole : (segments : List SegmentData) (l : Layout) → AreWhole segments → l.heap + l.heap_len ≤ 2 ^ 32 → l.stack + l.stack_len ≤ 2 ^ 32 → AllWhole (parts segments l)
all_whole [] l whole heap stack = (
  record { file_size = omega arith; end = omega (arith, length_zeros l.heap_len, heap) },
  (record { file_size = omega arith; end = omega (arith, length_zeros l.stack_len, stack) }, tt),
)
all_whole (s ∷ rest) l whole heap stack = (
  record { file_size = omega (arith, size_of_segment s whole.0, whole.0); end = omega (arith, size_of_segment s whole.0, whole.1) },
  all_whole rest l whole.2 heap stack,
)

pub bus_in_order : (segments : List SegmentData) (l : Layout) → AreWhole segments → AreApart (ranges segments l) → l.heap + l.heap_len ≤ 2 ^ 32 → l.stack + l.stack_len ≤ 2 ^ 32 → AreInOrder (bus_of segments l)
bus_in_order segments l whole apart heap stack =
    ready_all [] (parts segments l) (record { order = omega arith; clear = clear_none (map range_at (parts segments l)) }) (rw (ranges_are segments l whole) apart) (all_whole segments l whole heap stack)

-- how many areas can be executed
ones_placed : (made : List AreaData) (s : AreaData) → executables (placed made s) ≡ executables (s ∷ made)
ones_placed [] s = refl
ones_placed (t ∷ rest) s = grind (arith, nat_tests, ones_placed rest s)

pub ones_with : (made : List AreaData) (s : AreaData) → executables (with_area made s) ≤ executables (s ∷ made)
ones_with made s = grind (arith, nat_tests, ones_placed made s)

ones_all : (made rest : List AreaData) → executables (with_areas made rest) ≤ executables made + executables rest
ones_all made [] = omega arith
ones_all made (s ∷ rest) = omega (arith, ones_all (with_area made s) rest, ones_with made s)

pub ones_of : (segments : List SegmentData) (l : Layout) → executables (parts segments l) ≡ texts segments
ones_of [] l = refl
ones_of (s ∷ rest) l = ap (λ n. (if grants Execute s.flags then 1 else 0) + n) (ones_of rest l)

pub bus_has_one : (segments : List SegmentData) (l : Layout) → HasOneTextAtMost segments → HasOne (bus_of segments l)
bus_has_one segments l one = omega (arith, ones_all [] (parts segments l), ones_of segments l, one)
