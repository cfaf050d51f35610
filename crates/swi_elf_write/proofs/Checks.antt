-- The headers of a program's segments and of its image pass the checks of a reader.
use Rattle.std.proofs.Common.{◌≡◌, ℕ, ◌+◌, ◌%◌, ◌^◌, ◌≤◌, ◌==◌, length-append, ◌&&◌, ◌||◌, Bool, true, false, nat_lt, nat_le, if◌then◌else◌, List, [], ◌∷◌, ◌++◌, length, map, filter, find, position, fold, sum_by, arith, refl, sym, subst, ap, ◌∙◌, Some, None, inl, inr}
use Rattle.std.specs.List.{list_any, position_from}
use Rattle.std.proofs.lemmas.Bool.{cases_Bool}
use Rattle.std.proofs.lemmas.Bool.Decides.{nat_tests}
use Rattle.std.proofs.lemmas.Iterator.Adapters.{position_from-zero}
use Rattle.std.proofs.lemmas.List.Folds.{list_any-append}
use Rattle.std.proofs.lemmas.List.Sums.{sum_by-append}
use Rattle.std.proofs.lemmas.List.Elements.{filter-append}
use Rattle.swi_elf_read.specs.declared.program_header.ProgramHeader.{ProgramHeader}
use Rattle.swi_elf_read.specs.ProgramHeaders.{is_loaded, is_text, is_image, is_dynamic, is_extent_wrong, shares_address, is_overlap, is_second_text, is_too_large, passes_limit, memory_of, is_word_address, is_text_word, has_text_word, first_from}
use Rattle.swi_elf_read.specs.Elf.{table_refusal}
use Rattle.swi_elf_read.proofs.Scans.{memory_start}
use Rattle.swi_memory.specs.Segment.{SegmentData}
use Rattle.swi_memory.specs.BusOf.{IsClearOf, AreApart, IsClear, range_of, texts}
use Rattle.swi_program.specs.Program.{AreSegments, IsSegment, can_execute}
use Rattle.swi_program.specs.Text.{text_base}
use Rattle.swi_elf_write.specs.declared.program_header.ProgramHeader.{ProgramHeader as Written}
use Rattle.swi_elf_write.specs.Rewritten.{contents, segment_header, segment_headers, image_header}
use Rattle.swi_elf_write.proofs.Tables.{seen}

-- a segment's header as a reader sees it, and those of all segments
abbrev pub load : ℕ → SegmentData → ProgramHeader
load at s = seen (segment_header at s)

abbrev pub loads : ℕ → List SegmentData → List ProgramHeader
loads at [] = []
loads at (s ∷ rest) = load at s ∷ loads (at + length s.bytes) rest

abbrev pub own : ℕ → List ℕ → ProgramHeader
own at image = seen (image_header at image)

pub loads_are : (at : ℕ) (ss : List SegmentData) (h : Written) → map seen (segment_headers at ss ++ h ∷ []) ≡ loads at ss ++ seen h ∷ []
unfolding segment_headers
loads_are at [] h = refl
loads_are at (s ∷ rest) h = ap (λ (l : List ProgramHeader). load at s ∷ l) (loads_are (at + length s.bytes) rest h)

-- what is asked of one header

load_loaded : (at : ℕ) (s : SegmentData) → IsSegment s → is_loaded (load at s) ≡ true
unfolding is_loaded
load_loaded at s i = (let some = i.some in grind (arith, nat_tests))

load_text : (at : ℕ) (s : SegmentData) → IsSegment s → is_text (load at s) ≡ (s.flags % 2 == 1)
unfolding is_text
load_text at s i = rw (load_loaded at s i) refl

load_image : (at : ℕ) (s : SegmentData) → is_image (load at s) ≡ false
unfolding is_image
load_image at s = refl

load_static : (at : ℕ) (s : SegmentData) → is_dynamic (load at s) ≡ false
unfolding is_dynamic
load_static at s = refl

load_extent : (n at : ℕ) (s : SegmentData) → IsSegment s → at + length s.bytes ≤ n → is_extent_wrong n (load at s) ≡ false
unfolding is_extent_wrong
load_extent n at s i fits =
    let a : nat_lt s.size (length s.bytes) ≡ false = (let front = i.front in grind (arith, nat_tests)) in
    let b : nat_lt n (at + length s.bytes) ≡ false = grind (arith, nat_tests) in
    let c : nat_lt (2 ^ 32) (s.base + s.size) ≡ false = (let end = i.end in grind (arith, nat_tests)) in
    rw (a, b, c) (grind (arith, nat_tests))

pub own_loaded : (at : ℕ) (image : List ℕ) → is_loaded (own at image) ≡ false
unfolding is_loaded
own_loaded at image = refl

own_text : (at : ℕ) (image : List ℕ) → is_text (own at image) ≡ false
unfolding is_text
own_text at image = rw (own_loaded at image) refl

own_static : (at : ℕ) (image : List ℕ) → is_dynamic (own at image) ≡ false
unfolding is_dynamic
own_static at image = refl

own_extent : (n at : ℕ) (image : List ℕ) → at + length image ≤ n → is_extent_wrong n (own at image) ≡ false
unfolding is_extent_wrong
own_extent n at image fits =
    let a : nat_lt (length image) (length image) ≡ false = grind (arith, nat_tests) in
    let b : nat_lt n (at + length image) ≡ false = grind (arith, nat_tests) in
    rw (a, b) (grind (arith, nat_tests))

-- tests of each header by itself

position_none_from : (p : ProgramHeader → Bool) (i : ℕ) (hs : List ProgramHeader) → list_any p hs ≡ false → position_from p i hs ≡ None
position_none_from p i [] e = refl
position_none_from p i (x ∷ hs) e =
    elim (cases_Bool (p x)) [
      | inl held ↦ let wrong : true ≡ false = rw held at e in cc
      | inr missed ↦ rw missed (position_none_from p (i + 1) hs (rw missed at e))
    ]

position_none : (p : ProgramHeader → Bool) (hs : List ProgramHeader) → list_any p hs ≡ false → position p hs ≡ None
position_none p hs e = position_from-zero p hs ∙ position_none_from p 0 hs e

all_static : (at : ℕ) (ss : List SegmentData) (to : ℕ) (image : List ℕ) → list_any is_dynamic (loads at ss ++ own to image ∷ []) ≡ false
all_static at [] to image = rw (own_static to image) refl
all_static at (s ∷ rest) to image = rw (load_static at s) (all_static (at + length s.bytes) rest to image)

pub none_dynamic : (at : ℕ) (ss : List SegmentData) (to : ℕ) (image : List ℕ) → position is_dynamic (loads at ss ++ own to image ∷ []) ≡ None
none_dynamic at ss to image = position_none is_dynamic (loads at ss ++ own to image ∷ []) (all_static at ss to image)

all_inside : (n at : ℕ) (ss : List SegmentData) (to : ℕ) (image : List ℕ) → AreSegments ss → at + length (contents ss) ≤ n → to + length image ≤ n →
    list_any (is_extent_wrong n) (loads at ss ++ own to image ∷ []) ≡ false
unfolding contents
all_inside n at [] to image each fits end = rw (own_extent n to image end) refl
all_inside n at (s ∷ rest) to image each fits end =
    let both : length (s.bytes ++ contents rest) ≡ length s.bytes + length (contents rest) = length-append s.bytes (contents rest) in
    rw (load_extent n at s each.0 (omega arith)) (all_inside n (at + length s.bytes) rest to image each.1 (omega arith) end)

pub none_outside : (n at : ℕ) (ss : List SegmentData) (to : ℕ) (image : List ℕ) → AreSegments ss → at + length (contents ss) ≤ n → to + length image ≤ n →
    position (is_extent_wrong n) (loads at ss ++ own to image ∷ []) ≡ None
none_outside n at ss to image each fits end = position_none (is_extent_wrong n) (loads at ss ++ own to image ∷ []) (all_inside n at ss to image each fits end)

-- no two share an address

abbrev taken_with : SegmentData → ProgramHeader → Bool
taken_with s g = is_loaded g && shares_address g (load 0 s)

-- none of these headers shares an address with one of the segments
abbrev Clear : List ProgramHeader → List SegmentData → Type 0
Clear done [] = Unit {0}
Clear done (s ∷ rest) = (list_any (taken_with s) done ≡ false) × Clear done rest

clear_none : (ss : List SegmentData) → Clear [] ss
clear_none [] = tt
clear_none (s ∷ rest) = (refl, clear_none rest)

both_false : (a b : Bool) → a ≡ false → b ≡ false → (a || b) ≡ false
both_false a b e f = rw (e, f) refl

clear_one : (at : ℕ) (s r : SegmentData) → IsSegment s → IsSegment r → IsClear (range_of s) (range_of r) → shares_address (load at s) (load 0 r) ≡ false
unfolding shares_address
clear_one at s r i j clear =
    let a = i.some in
    let b = j.some in
    grind (arith, nat_tests)

clear_more : (done : List ProgramHeader) (at : ℕ) (s : SegmentData) (rest : List SegmentData) → IsSegment s → AreSegments rest → IsClearOf (range_of s) (map range_of rest) → Clear done rest →
    Clear (done ++ load at s ∷ []) rest
clear_more done at s [] i each apart clear = tt
clear_more done at s (r ∷ rest) i each apart clear =
    let one : shares_address (load at s) (load 0 r) ≡ false = clear_one at s r i each.0 apart.0 in
    let last : list_any (taken_with r) (load at s ∷ []) ≡ false = rw (load_loaded at s i, one) refl in
    (list_any-append (taken_with r) done (load at s ∷ []) ∙ both_false (list_any (taken_with r) done) (list_any (taken_with r) (load at s ∷ [])) clear.0 last, clear_more done at s rest i each.1 apart.1 clear.1)

pub none_shared : (done : List ProgramHeader) (at : ℕ) (ss : List SegmentData) (to : ℕ) (image : List ℕ) → AreSegments ss → AreApart (map range_of ss) → Clear done ss →
    first_from is_overlap done (loads at ss ++ own to image ∷ []) ≡ None
unfolding first_from is_overlap shares_address
none_shared done at [] to image each apart clear = rw (own_loaded to image) refl
none_shared done at (s ∷ rest) to image each apart clear =
    let more = none_shared (done ++ load at s ∷ []) (at + length s.bytes) rest to image each.1 apart.1 (clear_more done at s rest each.0 each.1 apart.0 clear.1) in
    rw (load_loaded at s each.0, clear.0) more

-- one segment can be executed

or_false : (b : Bool) → (b || false) ≡ b
or_false true = refl
or_false false = refl

or_true : (b : Bool) → (b || true) ≡ true
or_true true = refl
or_true false = refl

text_found : (done : List ProgramHeader) (at : ℕ) (s : SegmentData) → IsSegment s → can_execute s ≡ true → list_any is_text (done ++ load at s ∷ []) ≡ true
text_found done at s i held = list_any-append is_text done (load at s ∷ []) ∙ rw (load_text at s i, held) (or_true (list_any is_text done))

text_kept : (done : List ProgramHeader) (at : ℕ) (s : SegmentData) → IsSegment s → can_execute s ≡ false → list_any is_text (done ++ load at s ∷ []) ≡ list_any is_text done
text_kept done at s i missed = list_any-append is_text done (load at s ∷ []) ∙ rw (load_text at s i, missed) (or_false (list_any is_text done))

pub none_second : (done : List ProgramHeader) (at : ℕ) (ss : List SegmentData) (to : ℕ) (image : List ℕ) → AreSegments ss → (if list_any is_text done then 1 else 0) + texts ss ≤ 1 →
    first_from is_second_text done (loads at ss ++ own to image ∷ []) ≡ None
unfolding first_from is_second_text
none_second done at [] to image each few = rw (own_text to image) refl
none_second done at (s ∷ rest) to image each few =
    elim (cases_Bool (can_execute s)) [
      | inl held ↦ elim (cases_Bool (list_any is_text done)) [
        | inl two ↦ absurd (let wrong = rw (held, two) at few in omega arith)
        | inr first ↦
            let left : 0 + (1 + texts rest) ≤ 1 = rw (held, first) at few in
            let more = none_second (done ++ load at s ∷ []) (at + length s.bytes) rest to image each.1 (rw (text_found done at s each.0 held) (omega arith)) in
            rw (load_text at s each.0, held, first) more
      ]
      | inr missed ↦
          let left : (if list_any is_text done then 1 else 0) + (0 + texts rest) ≤ 1 = rw missed at few in
          let more = none_second (done ++ load at s ∷ []) (at + length s.bytes) rest to image each.1 (rw (text_kept done at s each.0 missed) (omega arith)) in
          rw (load_text at s each.0, missed) more
    ]

-- they take little memory

memory_more : (done : List ProgramHeader) (at : ℕ) (s : SegmentData) → IsSegment s → memory_of (done ++ load at s ∷ []) ≡ memory_of done + s.size
unfolding memory_of
memory_more done at s i =
    let size : ProgramHeader → ℕ = λ x. x.p_memsz in
    rw (filter-append is_loaded, sum_by-append size, load_loaded at s i) (omega arith)

pub sum_up : (total : ℕ) (ss : List SegmentData) → total ≤ fold (λ a s. a + s.size) total ss
sum_up total [] = omega arith
sum_up total (s ∷ rest) = omega (arith, sum_up (total + s.size) rest)

load_limit : (total at : ℕ) (s : SegmentData) → IsSegment s → total + s.size ≤ 2 ^ 25 → passes_limit total (load at s) ≡ false
unfolding passes_limit
load_limit total at s i fits =
    let a : nat_lt (2 ^ 25) (total + s.size) ≡ false = grind (arith, nat_tests) in
    elim (cases_Bool (can_execute s)) [
      | inl held ↦
          let b : nat_lt (2 ^ 21) (length s.bytes) ≡ false = (let few = i.text held in grind (arith, nat_tests)) in
          rw (load_loaded at s i, a, held, b) refl
      | inr missed ↦ rw (load_loaded at s i, a, missed) refl
    ]

own_limit : (total to : ℕ) (image : List ℕ) → passes_limit total (own to image) ≡ false
unfolding passes_limit
own_limit total to image = rw (own_loaded to image) refl

pub none_large : (done : List ProgramHeader) (at : ℕ) (ss : List SegmentData) (to : ℕ) (image : List ℕ) → AreSegments ss → fold (λ a s. a + s.size) (memory_of done) ss ≤ 2 ^ 25 →
    first_from is_too_large done (loads at ss ++ own to image ∷ []) ≡ None
unfolding first_from is_too_large
none_large done at [] to image each fits = rw (own_limit (memory_of done) to image) refl
none_large done at (s ∷ rest) to image each fits =
    let one : memory_of done + s.size ≤ 2 ^ 25 = omega (arith, sum_up (memory_of done + s.size) rest) in
    let more = none_large (done ++ load at s ∷ []) (at + length s.bytes) rest to image each.1 (rw (memory_more done at s each.0) fits) in
    rw (load_limit (memory_of done) at s each.0 one) more

-- a text word stands at the entry

pub found_segment : (ss : List SegmentData) (s : SegmentData) → find can_execute ss ≡ Some s → AreSegments ss → IsSegment s × (can_execute s ≡ true)
found_segment [] s found each = cc
found_segment (x ∷ rest) s found each =
    elim (cases_Bool (can_execute x)) [
      | inl held ↦
          let here : Some x ≡ Some s = rw held at found in
          let same : x ≡ s = cc in
          (subst (λ (y : SegmentData). IsSegment y) same each.0, subst (λ (y : SegmentData). can_execute y ≡ true) same held)
      | inr missed ↦ found_segment rest s (rw missed at found) each.1
    ]

some_pass : (test : ProgramHeader → Bool) (at : ℕ) (ss : List SegmentData) (s : SegmentData) (tail : List ProgramHeader) → find can_execute ss ≡ Some s → ((to : ℕ) → test (load to s) ≡ true) →
    list_any test (loads at ss ++ tail) ≡ true
some_pass test at [] s tail found passes = cc
some_pass test at (x ∷ rest) s tail found passes =
    elim (cases_Bool (can_execute x)) [
      | inl held ↦
          let here : Some x ≡ Some s = rw held at found in
          let same : x ≡ s = cc in
          let first : test (load at x) ≡ true = subst (λ (y : SegmentData). test (load at y) ≡ true) (sym same) (passes at) in
          rw first refl
      | inr missed ↦ rw (some_pass test (at + length x.bytes) rest s tail (rw missed at found) passes) (or_true (test (load at x)))
    ]

text_at : (at a : ℕ) (s : SegmentData) → IsSegment s → can_execute s ≡ true → a % 4 ≡ 0 → text_base s ≤ a → a + 4 ≤ s.base + length s.bytes → is_text_word a (load at s) ≡ true
unfolding is_text_word is_word_address
text_at at a s i held whole low high =
    let b : (a % 4 == 0) ≡ true = grind (arith, nat_tests) in
    let c : nat_le s.base a ≡ true = grind (arith, nat_tests) in
    let d : nat_le (a + 4) (s.base + length s.bytes) ≡ true = grind (arith, nat_tests) in
    rw (load_text at s i, held, b, c, d) refl

pub some_word : (at a : ℕ) (ss : List SegmentData) (s : SegmentData) (tail : List ProgramHeader) → AreSegments ss → find can_execute ss ≡ Some s →
    a % 4 ≡ 0 → text_base s ≤ a → a + 4 ≤ s.base + length s.bytes → list_any (is_text_word a) (loads at ss ++ tail) ≡ true
some_word at a ss s tail each found whole low high =
    let f = found_segment ss s found each in
    some_pass (is_text_word a) at ss s tail found (λ to. text_at to a s f.0 f.1 whole low high)

pub some_text : (at a : ℕ) (ss : List SegmentData) (s : SegmentData) (tail : List ProgramHeader) → AreSegments ss → find can_execute ss ≡ Some s →
    text_base s ≤ a → a + 4 ≤ s.base + length s.bytes → list_any has_text_word (loads at ss ++ tail) ≡ true
unfolding has_text_word
some_text at a ss s tail each found low high =
    let f = found_segment ss s found each in
    some_pass has_text_word at ss s tail found (λ to. text_at to (text_base s) s f.0 f.1 (omega arith) (omega arith) (omega arith))

-- they are the loaded ones, and the image's is the first of its type

pub filter_loads : (at : ℕ) (ss : List SegmentData) (to : ℕ) (image : List ℕ) → AreSegments ss → filter is_loaded (loads at ss ++ own to image ∷ []) ≡ loads at ss
filter_loads at [] to image each = rw (own_loaded to image) refl
filter_loads at (s ∷ rest) to image each = rw (load_loaded at s each.0, filter_loads (at + length s.bytes) rest to image each.1) refl

pub find_own : (at : ℕ) (ss : List SegmentData) (to : ℕ) (image : List ℕ) → find is_image (loads at ss ++ own to image ∷ []) ≡ Some (own to image)
unfolding is_image
find_own at [] to image = refl
find_own at (s ∷ rest) to image = find_own (at + length s.bytes) rest to image

-- all checks of the table, of a file of n bytes
pub table_passes : (n at a : ℕ) (ss : List SegmentData) (s : SegmentData) (to : ℕ) (image : List ℕ) → AreSegments ss → AreApart (map range_of ss) → texts ss ≤ 1 → sum_by (λ s. s.size) ss ≤ 2 ^ 25 →
    at + length (contents ss) ≤ n → to + length image ≤ n → find can_execute ss ≡ Some s → a % 4 ≡ 0 → text_base s ≤ a → a + 4 ≤ s.base + length s.bytes →
    table_refusal n a (loads at ss ++ own to image ∷ []) ≡ None
unfolding table_refusal
table_passes n at a ss s to image each apart one memory fits end found whole low high =
    let none : memory_of [] ≡ 0 = memory_start in
    let small : fold (λ a s. a + s.size) (memory_of []) ss ≤ 2 ^ 25 = rw none memory in
    rw (
      none_dynamic at ss to image,
      none_outside n at ss to image each fits end,
      none_shared [] at ss to image each apart (clear_none ss),
      some_text at a ss s (own to image ∷ []) each found low high,
      none_second [] at ss to image each (omega arith),
      none_large [] at ss to image each small,
      some_word at a ss s (own to image ∷ []) each found whole low high,
    )
    refl
