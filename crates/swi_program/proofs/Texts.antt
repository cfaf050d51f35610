-- The executable segment of a program, and its text.
use Rattle.std.proofs.Common.{◌≡◌, ℕ, ◌+◌, ◌-◌, ◌/◌, suc, true, List, [], ◌∷◌, length, filter, find, drop, Some, None, arith, refl, sym, ap, ◌∙◌, subst, inl, inr, get_or-drop}
use Rattle.std.specs.List.{list_any}
use Rattle.std.specs.Option.{is_some}
use Rattle.std.proofs.lemmas.Bool.{cases_Bool}
use Rattle.std.proofs.lemmas.Bool.Decides.{nat_tests}
use Rattle.byteorder.specs.Endian.{little_number}
use Rattle.swi_memory.specs.Bus.{number_in}
use Rattle.swi_memory.specs.BusOf.{texts, word_in}
use Rattle.swi_program.specs.Program.{SegmentData, ProgramData, IsProgram, IsSegment, AreSegments, can_execute, has_word_at}
use Rattle.swi_program.specs.Text.{TextData, words_from, text_base, text_in, text_of, word_of, IsTextAddress, HasText, IsSized}
use Rattle.swi_program.proofs.Words.{length_words, get_word}

none_held : (xs : List SegmentData) (a : ℕ) → length (filter can_execute xs) ≡ 0 → word_in xs a ≡ None
none_held [] a e = refl
none_held (t ∷ xs) a e = grind (arith, nat_tests, none_held xs a)

any_held : (xs : List SegmentData) (a : ℕ) → list_any (has_word_at a) xs ≡ is_some (word_in xs a)
any_held [] a = refl
any_held (t ∷ xs) a = grind (arith, nat_tests, any_held xs a)

-- the executable segment, where there is one
record IsText (xs : List SegmentData) (s : SegmentData) : Type 0 where
  found : find can_execute xs ≡ Some s
  runs : can_execute s ≡ true
  kept : IsSegment s
  held : (a : ℕ) → word_in xs a ≡ word_in (s ∷ []) a

the_text : (xs : List SegmentData) → AreSegments xs → length (filter can_execute xs) ≡ 1 → (s : SegmentData) × IsText xs s
the_text [] each one = absurd (omega arith)
the_text (t ∷ xs) each one =
    elim (cases_Bool (can_execute t)) [
      | inl runs ↦
          let rest : suc (length (filter can_execute xs)) ≡ 1 = rw runs at one in
          let none : length (filter can_execute xs) ≡ 0 = omega arith in
          (t, record { found = rw runs refl; runs = runs; kept = each.0; held = λ a. rw (none_held xs a none) refl })
      | inr missed ↦
          let x = the_text xs each.1 (rw missed at one) in
          (x.0, record { found = rw missed x.1.found; runs = x.1.runs; kept = x.1.kept; held = λ a. rw missed (x.1.held a) })
    ]

number_there : (bytes : List ℕ) (p : ℕ) → number_in bytes p 4 ≡ little_number 4 (drop p bytes)
number_there bytes p = grind (arith, get_or-drop {A = ℕ})

-- the words of a segment are where they stand
text_held : (s : SegmentData) (a : ℕ) → can_execute s ≡ true → word_in (s ∷ []) a ≡ word_of (text_in (Some s)) a
text_held s a runs =
    let n : ℕ = (s.base + length s.bytes - text_base s) / 4 in
    let count : length (words_from s.bytes (text_base s - s.base) n) ≡ n = length_words s.bytes (text_base s - s.base) n in
    grind (arith, nat_tests, get_word s.bytes (text_base s - s.base) n ((a - text_base s) / 4), number_there s.bytes (a - s.base))

pub program_held : (p q : ProgramData) → p ≡ q → IsProgram p → (a : ℕ) → word_in q.segments a ≡ word_of (text_of q.segments) a
unfolding text_of
program_held p q is sound a =
    let x = the_text p.segments sound.each sound.one_text in
    subst (λ (r : ProgramData). word_in r.segments a ≡ word_of (text_of r.segments) a) is (rw x.1.found (x.1.held a ∙ text_held x.0 a x.1.runs))

-- the entry is a text word's address
some_word : (t : TextData) (a : ℕ) → is_some (word_of t a) ≡ true → IsTextAddress t a
some_word t a e = record { aligned = grind (arith, nat_tests); first = grind (arith, nat_tests); last = grind (arith, nat_tests) }

pub entry_word : (p q : ProgramData) → p ≡ q → IsProgram p → IsTextAddress (text_of q.segments) p.entry
entry_word p q is sound =
    let own = some_word (text_of p.segments) p.entry (sym (ap is_some (program_held p p refl sound p.entry)) ∙ sym (any_held p.segments p.entry) ∙ sound.word) in
    subst (λ (r : ProgramData). IsTextAddress (text_of r.segments) p.entry) is own

-- the executable segment is there, and it has a whole word
pub text_there : (p : ProgramData) → IsProgram p → find can_execute p.segments ≡ None → ⊥
text_there p sound missing =
    let x = the_text p.segments sound.each sound.one_text in
    let found : find can_execute p.segments ≡ Some x.0 = x.1.found in
    cc

pub text_facts : (p : ProgramData) (s : SegmentData) → IsProgram p → find can_execute p.segments ≡ Some s → HasText s
text_facts p s sound found =
    let x = the_text p.segments sound.each sound.one_text in
    let first : find can_execute p.segments ≡ Some x.0 = x.1.found in
    let same : x.0 ≡ s = cc in
    let some : list_any (has_word_at p.entry) (x.0 ∷ []) ≡ true = any_held (x.0 ∷ []) p.entry ∙ ap is_some (sym (x.1.held p.entry)) ∙ sym (any_held p.segments p.entry) ∙ sound.word in
    subst HasText same (record { word = grind (arith, nat_tests); few = x.1.kept.text x.1.runs; end = omega (arith, x.1.kept.front, x.1.kept.end) })

-- the size of the text
pub text_sized : (s : SegmentData) → HasText s → IsSized (text_in (Some s))
text_sized s h =
    let count : length (words_from s.bytes (text_base s - s.base) ((s.base + length s.bytes - text_base s) / 4)) ≡ (s.base + length s.bytes - text_base s) / 4 = length_words s.bytes (text_base s - s.base) ((s.base + length s.bytes - text_base s) / 4) in
    record { aligned = omega arith; end = omega arith; some = omega arith; few = omega arith }

-- the executable segments, counted
pub texts-filter : (xs : List SegmentData) → texts xs ≡ length (filter can_execute xs)
texts-filter [] = refl
texts-filter (s ∷ xs) = grind (arith, nat_tests, texts-filter xs)

pub ruleset text_laws = (program_held, texts-filter)
