-- The program of a file.
use Rattle.std.proofs.Common.{◌≡◌, ℕ, ◌+◌, ◌%◌, ◌^◌, ◌≤◌, zero, suc, true, List, [], ◌∷◌, ◌++◌, length, map, filter, sum_by, drop, Some, option_map, arith, refl, sym, add-one, append_assoc, slice_get, subst, inr}
use Rattle.std.specs.List.{list_any}
use Rattle.std.proofs.lemmas.Grind.{common_steps}
use Rattle.std.proofs.lemmas.Bool.Decides.{nat_tests}
use Rattle.std.proofs.lemmas.List.{length-map}
use Rattle.std.proofs.lemmas.List.Folds.{fold-map}
use Rattle.swi_elf_read.specs.Loaded as loaded
use Rattle.swi_elf_read.specs.Loaded.{LoadedData}
use Rattle.swi_program.specs.Program.{SegmentData, IsProgram, AreSegments, can_execute, has_word_at}
use Rattle.swi_memory.specs.BusOf.{IsClearOf, AreApart, range_of}
use Rattle.swi_program.specs.ProgramOf.{segment_of}

pub loadable_at : (xs : List LoadedData) (k : ℕ) (s : LoadedData) → loaded.AreLoadable xs → slice_get xs k ≡ Some s → loaded.IsLoadable s
loadable_at [] k s each found = cc
loadable_at (x ∷ xs) zero s each found =
    let same : x ≡ s = cc in
    subst (λ (t : LoadedData). loaded.IsLoadable t) same each.0
loadable_at (x ∷ xs) (suc k) s each found = loadable_at xs k s each.1 found

-- the segments to come, one by one
drop_found : (xs : List LoadedData) (k : ℕ) (s : SegmentData) → option_map segment_of (slice_get xs k) ≡ Some s →
    map segment_of (drop k xs) ≡ s ∷ map segment_of (drop (suc k) xs)
drop_found [] k s found = cc
drop_found (x ∷ xs) zero s found = cc
drop_found (x ∷ xs) (suc k) s found = drop_found xs k s found

pub segment_step : (done grown : List SegmentData) (xs : List LoadedData) (k : ℕ) (s : SegmentData) → option_map segment_of (slice_get xs k) ≡ Some s → grown ≡ done ++ s ∷ [] →
    grown ++ map segment_of (drop (k + 1) xs) ≡ done ++ map segment_of (drop k xs)
segment_step done grown xs k s found is = rw (is, append_assoc, add-one, drop_found xs k s found) refl

pub segment_end : (done : List SegmentData) (xs : List LoadedData) (k : ℕ) → length xs ≤ k → done ++ map segment_of (drop k xs) ≡ done
segment_end done xs k past = grind (arith, common_steps)

pub ruleset file_steps = (segment_step, segment_end)

-- what is kept of the loaded segments
each_kept : (xs : List LoadedData) → loaded.AreLoadable xs → AreSegments (map segment_of xs)
each_kept [] each = tt
each_kept (x ∷ xs) each =
    (record { rights = each.0.rights; some = each.0.some; front = each.0.front; end = each.0.end; text = each.0.text }, each_kept xs each.1)

clear_kept : (x : LoadedData) (xs : List LoadedData) → loaded.IsClearOf x xs → IsClearOf (range_of (segment_of x)) (map range_of (map segment_of xs))
clear_kept x [] clear = tt
clear_kept x (y ∷ xs) clear = (inr (inr clear.0), clear_kept x xs clear.1)

apart_kept : (xs : List LoadedData) → loaded.AreApart xs → AreApart (map range_of (map segment_of xs))
apart_kept [] apart = tt
apart_kept (x ∷ xs) apart = (clear_kept x xs apart.0, apart_kept xs apart.1)

filter_kept : (xs : List LoadedData) → filter can_execute (map segment_of xs) ≡ map segment_of (filter loaded.can_execute xs)
filter_kept [] = refl
filter_kept (x ∷ xs) = grind (arith, nat_tests, filter_kept xs)

any_kept : (xs : List LoadedData) (a : ℕ) → list_any (has_word_at a) (map segment_of xs) ≡ list_any (loaded.has_word_at a) xs
any_kept [] a = refl
any_kept (x ∷ xs) a = rw (any_kept xs a) refl

pub file_program : (segments : List SegmentData) (xs : List LoadedData) (entry flags : ℕ) → segments ≡ map segment_of xs → flags % 16 ≡ 0 →
    loaded.AreLoadable xs → loaded.AreApart xs → length (filter loaded.can_execute xs) ≡ 1 → sum_by (λ s. s.size) xs ≤ 2 ^ 25 →
    list_any (loaded.has_word_at entry) xs ≡ true →
    IsProgram (record { entry = entry; flags = flags; segments = segments })
file_program segments xs entry flags is plain each apart one_text memory word =
    let made : IsProgram (record { entry = entry; flags = flags; segments = map segment_of xs }) = record {
      plain = plain;
      each = each_kept xs each;
      apart = apart_kept xs apart;
      one_text = rw (filter_kept xs, length-map (filter loaded.can_execute xs) segment_of) one_text;
      memory = rw fold-map memory;
      word = rw (any_kept xs entry) word;
    } in
    subst (λ (l : List SegmentData). IsProgram (record { entry = entry; flags = flags; segments = l })) (sym is) made
