-- What the loaded segments of an accepted file keep.
use Rattle.std.proofs.Common.{◌≡◌, ℕ, ◌+◌, ◌≤◌, ◌<◌, cond, ◌%◌, ◌^◌, ◌&&◌, not, Bool, true, false, List, [], ◌∷◌, ◌++◌, length, drop, filter, arith, refl, sym, ◌∙◌, append_assoc, append-nil, length-take, length-drop, Option, Some, None, option_map, sum_by, inl, inr}
use Rattle.std.specs.List.{list_any, position_from}
use Rattle.std.proofs.lemmas.Bool.{cases_Bool, or_parts, eqb-true}
use Rattle.std.proofs.lemmas.Bool.Decides.{nat_tests}
use Rattle.std.proofs.lemmas.Iterator.Adapters.{position_from-zero}
use Rattle.std.proofs.lemmas.List.Folds.{fold-map, list_any-append}
use Rattle.swi_elf_read.specs.declared.program_header.ProgramHeader.{ProgramHeader}
use Rattle.swi_elf_read.specs.declared.refusal.ElfRefusal.{ElfRefusal}
use Rattle.swi_elf_read.specs.ProgramHeaders.{is_loaded, is_text, is_extent_wrong, shares_address, is_overlap, is_second_text, is_too_large, passes_limit, memory_of, memory_taken, is_word_address, is_text_word, has_text_word, first_from}
use Rattle.swi_elf_read.specs.Elf.{first_some, refuse_if, table_checks, table_refusal, first_refusal, identification_refusal, header_checks, header_refusal, program_headers, e_entry, e_flags}
use Rattle.swi_elf_read.proofs.Scans.{memory_one}
use Rattle.swi_elf_read.specs.Loaded.{loaded_of, loaded_from, loaded_segments, can_execute, has_word_at, IsLoadable, AreLoadable, IsClearOf, AreApart}

-- checks that all pass

abbrev AllNone : List (Option ElfRefusal) → Type 0
AllNone [] = Unit {0}
AllNone (x ∷ xs) = (x ≡ None) × AllNone xs

all_none : (xs : List (Option ElfRefusal)) → first_some xs ≡ None → AllNone xs
all_none [] h = tt
all_none (None ∷ xs) h = (refl, all_none xs h)
all_none (Some r ∷ xs) h = cc

refuse_unless : (b : Bool) (r : ElfRefusal) → refuse_if (not b) r ≡ None → b ≡ true
refuse_unless true r h = refl
refuse_unless false r h = cc

map_none : (f : ℕ → ElfRefusal) (o : Option ℕ) → option_map f o ≡ None → o ≡ None
map_none f None h = refl
map_none f (Some i) h = cc

position_from_none : (p : ProgramHeader → Bool) (i : ℕ) (hs : List ProgramHeader) → position_from p i hs ≡ None → list_any p hs ≡ false
position_from_none p i [] e = refl
position_from_none p i (x ∷ hs) e = grind (arith, nat_tests, position_from_none p (i + 1) hs)

first_from_none : (test : List ProgramHeader → ProgramHeader → Bool) (before : List ProgramHeader) (h : ProgramHeader) (rest : List ProgramHeader) →
    first_from test before (h ∷ rest) ≡ None → (test before h ≡ false) × (first_from test (before ++ h ∷ []) rest ≡ None)
unfolding first_from
first_from_none test before h rest e = grind (arith, nat_tests)

-- what the checks leave
record Accepted (file : List ℕ) : Type 0 where
  flags : e_flags file % 16 ≡ 0
  extents : list_any (is_extent_wrong (length file)) (program_headers file) ≡ false
  apart : first_from is_overlap [] (program_headers file) ≡ None
  some : list_any has_text_word (program_headers file) ≡ true
  single : first_from is_second_text [] (program_headers file) ≡ None
  sizes : first_from is_too_large [] (program_headers file) ≡ None
  entry : list_any (is_text_word (e_entry file)) (program_headers file) ≡ true

accepted : (file : List ℕ) → first_refusal file ≡ None → Accepted file
unfolding first_refusal table_refusal
accepted file e =
    let checks : List (Option ElfRefusal) = table_checks (length file) (e_entry file) (program_headers file) in
    let n : AllNone (identification_refusal file ∷ header_refusal file ∷ first_some checks ∷ []) = all_none (identification_refusal file ∷ header_refusal file ∷ first_some checks ∷ []) e in
    let h : AllNone (header_checks file) = all_none (header_checks file) n.1.0 in
    let t : AllNone checks = all_none checks n.1.1.0 in
    record {
      flags = eqb-true _ _ (refuse_unless _ _ h.1.1.1.0);
      extents = position_from_none (is_extent_wrong (length file)) 0 (program_headers file) (sym (position_from-zero (is_extent_wrong (length file)) (program_headers file)) ∙ map_none _ _ t.1.0);
      apart = map_none _ _ t.1.1.0;
      some = refuse_unless _ _ t.1.1.1.0;
      single = map_none _ _ t.1.1.1.1.0;
      sizes = map_none _ _ t.1.1.1.1.1.0;
      entry = refuse_unless _ _ t.1.1.1.1.1.1.0;
    }

-- each loaded segment

loadable_one : (file : List ℕ) (h : ProgramHeader) (total : ℕ) → is_loaded h ≡ true → is_extent_wrong (length file) h ≡ false → passes_limit total h ≡ false → IsLoadable (loaded_of file h)
unfolding is_loaded is_extent_wrong passes_limit
loadable_one file h total held extent limit =
    record {
      rights = omega arith;
      some = grind (arith, nat_tests);
      front = grind (arith, nat_tests, length-take h.p_filesz (drop h.p_offset file));
      end = grind (arith, nat_tests);
      text = λ e. grind (arith, nat_tests, length-take h.p_filesz (drop h.p_offset file));
    }

each_loadable : (file : List ℕ) (hs before : List ProgramHeader) → list_any (is_extent_wrong (length file)) hs ≡ false → first_from is_too_large before hs ≡ None → AreLoadable (loaded_from file hs)
unfolding is_too_large
each_loadable file [] before extents sizes = tt
each_loadable file (h ∷ hs) before extents sizes =
    let e = or_parts (is_extent_wrong (length file) h) (list_any (is_extent_wrong (length file)) hs) extents in
    let s = first_from_none is_too_large before h hs sizes in
    elim (cases_Bool (is_loaded h)) [
      | inl held ↦ rw held (loadable_one file h (memory_of before) held e.0 s.0, each_loadable file hs (before ++ h ∷ []) e.1 s.1)
      | inr missed ↦ rw missed (each_loadable file hs (before ++ h ∷ []) e.1 s.1)
    ]

-- no two share an address

clear_in : (file : List ℕ) (g : ProgramHeader) (hs xs ys : List ProgramHeader) → is_loaded g ≡ true → first_from is_overlap (xs ++ g ∷ ys) hs ≡ None →
    IsClearOf (loaded_of file g) (loaded_from file hs)
unfolding is_overlap shares_address
clear_in file g [] xs ys held e = tt
clear_in file g (h ∷ hs) xs ys held e =
    let s = first_from_none is_overlap (xs ++ g ∷ ys) h hs e in
    let rest = clear_in file g hs xs (ys ++ h ∷ []) held (rw append_assoc at s.1) in
    elim (cases_Bool (is_loaded h)) [
      | inl loaded ↦ rw loaded (grind (arith, nat_tests, rw list_any-append at s.0), rest)
      | inr missed ↦ rw missed rest
    ]

all_apart : (file : List ℕ) (hs before : List ProgramHeader) → first_from is_overlap before hs ≡ None → AreApart (loaded_from file hs)
all_apart file [] before e = tt
all_apart file (h ∷ hs) before e =
    let s = first_from_none is_overlap before h hs e in
    let rest = all_apart file hs (before ++ h ∷ []) s.1 in
    elim (cases_Bool (is_loaded h)) [
      | inl loaded ↦ rw loaded (clear_in file h hs before [] loaded s.1, rest)
      | inr missed ↦ rw missed rest
    ]

-- one executable segment

text_is : (file : List ℕ) (h : ProgramHeader) → is_text h ≡ (is_loaded h && can_execute (loaded_of file h))
unfolding is_text
text_is file h = grind (arith, nat_tests)

one_at_most : (file : List ℕ) (hs before : List ProgramHeader) → first_from is_second_text before hs ≡ None →
    length (filter can_execute (loaded_from file hs)) + cond (list_any is_text before) 1 0 ≤ 1
unfolding is_second_text
one_at_most file [] before e = grind (arith, nat_tests)
one_at_most file (h ∷ hs) before e =
    let s = first_from_none is_second_text before h hs e in
    let rest = rw list_any-append at (one_at_most file hs (before ++ h ∷ []) s.1) in
    grind (arith, nat_tests, s.0, rest, text_is file h)

one_at_least : (file : List ℕ) (hs : List ProgramHeader) → list_any has_text_word hs ≡ true → 0 < length (filter can_execute (loaded_from file hs))
unfolding has_text_word is_text_word
one_at_least file [] some = absurd (cc)
one_at_least file (h ∷ hs) some = grind (arith, nat_tests, one_at_least file hs, text_is file h)

-- the memory that they take

memory_more : (before : List ProgramHeader) (h : ProgramHeader) → memory_of before ≤ 2 ^ 25 → passes_limit (memory_of before) h ≡ false → memory_of (before ++ h ∷ []) ≤ 2 ^ 25
unfolding passes_limit memory_taken
memory_more before h fits e = rw (memory_one before h) (grind (arith, nat_tests))

memory_fits : (hs before : List ProgramHeader) → memory_of before ≤ 2 ^ 25 → first_from is_too_large before hs ≡ None → memory_of (before ++ hs) ≤ 2 ^ 25
unfolding is_too_large
memory_fits [] before fits e = rw append-nil fits
memory_fits (h ∷ hs) before fits e =
    let s = first_from_none is_too_large before h hs e in
    rw append_assoc at (memory_fits hs (before ++ h ∷ []) (memory_more before h fits s.0) s.1)

-- the entry

word_there : (file : List ℕ) (h : ProgramHeader) (a : ℕ) → is_extent_wrong (length file) h ≡ false → is_text_word a h ≡ true →
    (is_loaded h ≡ true) × (has_word_at a (loaded_of file h) ≡ true)
unfolding is_text_word is_text is_word_address is_extent_wrong is_loaded
word_there file h a extent e =
    (grind (arith, nat_tests), grind (arith, nat_tests, length-take h.p_filesz (drop h.p_offset file), length-drop h.p_offset file))

entry_there : (file : List ℕ) (a : ℕ) (hs : List ProgramHeader) → list_any (is_extent_wrong (length file)) hs ≡ false → list_any (is_text_word a) hs ≡ true →
    list_any (has_word_at a) (loaded_from file hs) ≡ true
entry_there file a [] extents e = cc
entry_there file a (h ∷ hs) extents e =
    let x = or_parts (is_extent_wrong (length file) h) (list_any (is_extent_wrong (length file)) hs) extents in
    grind (arith, nat_tests, entry_there file a hs x.1, word_there file h a x.0)

-- what an accepted file keeps

pub accepted_flags : (file : List ℕ) → first_refusal file ≡ None → e_flags file % 16 ≡ 0
accepted_flags file e = (accepted file e).flags

pub accepted_each : (file : List ℕ) → first_refusal file ≡ None → AreLoadable (loaded_segments file)
unfolding loaded_segments
accepted_each file e = each_loadable file (program_headers file) [] (accepted file e).extents (accepted file e).sizes

pub accepted_apart : (file : List ℕ) → first_refusal file ≡ None → AreApart (loaded_segments file)
unfolding loaded_segments
accepted_apart file e = all_apart file (program_headers file) [] (accepted file e).apart

pub accepted_text : (file : List ℕ) → first_refusal file ≡ None → length (filter can_execute (loaded_segments file)) ≡ 1
unfolding loaded_segments
accepted_text file e = omega (arith, one_at_least file (program_headers file) (accepted file e).some, one_at_most file (program_headers file) [] (accepted file e).single)

pub accepted_memory : (file : List ℕ) → first_refusal file ≡ None → sum_by (λ s. s.size) (loaded_segments file) ≤ 2 ^ 25
unfolding loaded_segments memory_of
accepted_memory file e = rw (fold-map) (memory_fits (program_headers file) [] (omega arith) (accepted file e).sizes)

pub accepted_entry : (file : List ℕ) → first_refusal file ≡ None → list_any (has_word_at (e_entry file)) (loaded_segments file) ≡ true
unfolding loaded_segments
accepted_entry file e = entry_there file (e_entry file) (program_headers file) (accepted file e).extents (accepted file e).entry

pub ruleset accepted_facts = (accepted_flags, accepted_each, accepted_apart, accepted_text, accepted_memory, accepted_entry)
