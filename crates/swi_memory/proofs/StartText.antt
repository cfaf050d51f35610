-- What is fetched from the bus at the start is the program's text.
use Rattle.std.proofs.Common.{◌≡◌, ℕ, ◌+◌, ◌-◌, ◌≤◌, ◌^◌, zero, suc, List, [], ◌∷◌, ◌++◌, length, replicate, true, false, Option, Some, None, if◌then◌else◌, arith, refl, sym, ◌∙◌}
use Rattle.std.proofs.lemmas.List.{get_or_append_left}
use Rattle.std.proofs.lemmas.Bool.Decides.{nat_tests}
use Rattle.swi_memory.specs.declared.layout.Layout.{Layout}
use Rattle.swi_memory.specs.Bus.{AreaData, AreInOrder, AreInOrderFrom, fetched, has_word, is_text_word, number_in}
use Rattle.swi_memory.specs.BusOf.{HasOneTextAtMost, bus_of, placed, with_area, with_areas, word_in}
use Rattle.swi_memory.specs.Gather.{AreWhole}
use Rattle.swi_memory.specs.Segment.{SegmentData}
use Rattle.swi_memory.specs.TextAt.{executables}
use Rattle.swi_memory.proofs.Accesses.{number_first, number_later}
use Rattle.swi_memory.proofs.Gathered.{AllWhole, IsWhole, all_whole, bus_has_one, bus_in_order, ones_of, ones_with, parts}

-- the word of the first area that has one at the address
abbrev word_among : List AreaData → ℕ → Option ℕ
word_among [] a = None
word_among (s ∷ rest) a = if has_word s a then Some (number_in s.bytes (a - s.base) 4) else word_among rest a

-- the first of two
abbrev first_of_two : Option ℕ → Option ℕ → Option ℕ
first_of_two None y = y
first_of_two (Some x) y = Some x

none_first : (y : Option ℕ) → first_of_two y None ≡ y
none_first None = refl
none_first (Some x) = refl

no_word_among : (bus : List AreaData) (a : ℕ) → executables bus ≡ 0 → word_among bus a ≡ None
no_word_among [] a none = refl
no_word_among (s ∷ rest) a none = grind (arith, nat_tests, no_word_among rest a)

-- of areas of which one at most can be executed, the word is the same in any order
word_placed : (made : List AreaData) (s : AreaData) (a : ℕ) → executables (s ∷ made) ≤ 1 → word_among (placed made s) a ≡ word_among (s ∷ made) a
word_placed [] s a one = refl
word_placed (t ∷ rest) s a one = grind (arith, nat_tests, word_placed rest s a)

word_with : (made : List AreaData) (s : AreaData) (a : ℕ) → executables (s ∷ made) ≤ 1 → IsWhole s → word_among (with_area made s) a ≡ word_among (s ∷ made) a
word_with made s a one whole = grind (arith, nat_tests, whole.file_size, word_placed made s a)

word_all : (made rest : List AreaData) (a : ℕ) → executables made + executables rest ≤ 1 → AllWhole rest → word_among (with_areas made rest) a ≡ first_of_two (word_among made a) (word_among rest a)
word_all made [] a one whole = sym (none_first (word_among made a))
word_all made (s ∷ rest) a one whole =
    let few : executables (with_area made s) + executables rest ≤ 1 = omega (arith, one, ones_with made s) in
    grind (arith, nat_tests, word_all (with_area made s) rest a few whole.1, λ (one : executables (s ∷ made) ≤ 1). word_with made s a one whole.0, no_word_among made a)

-- a number within the front of a list
number_in_front : (xs ys : List ℕ) (at n : ℕ) → at + n ≤ length xs → number_in (xs ++ ys) at n ≡ number_in xs at n
number_in_front xs ys at zero short = refl
number_in_front xs ys at (suc n) short = grind (arith, get_or_append_left xs ys 0 at, number_in_front xs ys (at + 1) n)

word_of_parts : (segments : List SegmentData) (l : Layout) (a : ℕ) → word_among (parts segments l) a ≡ word_in segments a
word_of_parts [] l a = refl
word_of_parts (s ∷ rest) l a = grind (arith, nat_tests, number_in_front s.bytes (replicate (s.size - length s.bytes) 0) (a - s.base) 4, word_of_parts rest l a)

-- text words of an ordered bus lie behind what is before it
word_behind : (from : ℕ) (bus : List AreaData) (a : ℕ) → AreInOrderFrom from bus → is_text_word bus a ≡ true → from ≤ a
word_behind from [] a order word = absurd (let no_way : false ≡ true = word in cc)
word_behind from (s ∷ rest) a order word = grind (arith, nat_tests, order.0, word_behind (s.base + length s.bytes) rest a order.3)

fetched_among : (from : ℕ) (bus : List AreaData) (a : ℕ) → AreInOrderFrom from bus → fetched bus a ≡ word_among bus a
fetched_among from [] a order = refl
fetched_among from (s ∷ rest) a order =
    grind (arith, nat_tests, order.2, number_first s rest a 4, number_later s rest a 4, word_behind (s.base + length s.bytes) rest a order.3, fetched_among (s.base + length s.bytes) rest a order.3)

pub start_text : (segments : List SegmentData) (l : Layout) (a : ℕ) → AreInOrder (bus_of segments l) → AreWhole segments → l.heap + l.heap_len ≤ 2 ^ 32 → l.stack + l.stack_len ≤ 2 ^ 32 → HasOneTextAtMost segments → fetched (bus_of segments l) a ≡ word_in segments a
start_text segments l a order whole heap stack one =
    let few : executables [] + executables (parts segments l) ≤ 1 = omega (arith, ones_of segments l, one) in
    fetched_among 0 (bus_of segments l) a order
    ∙ word_all [] (parts segments l) a few (all_whole segments l whole heap stack)
    ∙ word_of_parts segments l a

pub ruleset start = (bus_in_order, bus_has_one, start_text)
