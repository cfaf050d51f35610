-- Loaded headers, one by one.
use Rattle.std.proofs.Common.{◌≡◌, ℕ, ◌+◌, ◌<◌, ◌≤◌, ◌-◌, ◌≢◌, suc, true, false, List, [], ◌∷◌, length, get_or, drop, arith, refl, filter, find, slice_get, Some, None, sym, subst}
use Rattle.std.specs.List.{list_any}
use Rattle.std.specs.Option.{is_some}
use Rattle.std.proofs.lemmas.List.{drop_more}
use Rattle.std.proofs.lemmas.Bool.Decides.{nat_tests}
use Rattle.std.proofs.lemmas.Grind.{common_steps}
use Rattle.std.proofs.lemmas.List.Filters.{length-filter_more}
use Rattle.swi_elf_read.specs.declared.program_header.ProgramHeader.{ProgramHeader}
use Rattle.swi_elf_read.specs.ProgramHeaders.{is_loaded, is_image}

pub ruleset count_steps = (length-filter_more)

-- the loaded headers that are left, where one more is passed over
pub nth_found : (hs : List ProgramHeader) (i : ℕ) (d : ProgramHeader) → i < length hs → is_loaded (get_or hs i d) ≡ true →
    slice_get (filter is_loaded (drop i hs)) 0 ≡ Some (get_or hs i d)
nth_found hs i d within held = rw (drop_more hs i d within, held) refl

pub nth_next : (hs : List ProgramHeader) (i k : ℕ) (d : ProgramHeader) → i < length hs → is_loaded (get_or hs i d) ≡ true → k ≢ 0 →
    slice_get (filter is_loaded (drop (i + 1) hs)) (k - 1) ≡ slice_get (filter is_loaded (drop i hs)) k
nth_next hs i k d within held some =
    let step : k ≡ suc (k - 1) = omega arith in
    rw (drop_more hs i d within, held) (subst (λ (n : ℕ). slice_get (filter is_loaded (drop (i + 1) hs)) (k - 1) ≡ slice_get (get_or hs i d ∷ filter is_loaded (drop (i + 1) hs)) n) (sym step) refl)

pub nth_same : (hs : List ProgramHeader) (i k : ℕ) (d : ProgramHeader) → i < length hs → is_loaded (get_or hs i d) ≡ false →
    slice_get (filter is_loaded (drop (i + 1) hs)) k ≡ slice_get (filter is_loaded (drop i hs)) k
nth_same hs i k d within missed = rw (drop_more hs i d within, missed) refl

pub nth_end : (hs : List ProgramHeader) (i k : ℕ) → length hs ≤ i → slice_get (filter is_loaded (drop i hs)) k ≡ None
nth_end hs i k past = grind (arith, common_steps)

pub ruleset nth_steps = (nth_found, nth_next, nth_same, nth_end)

-- a first image is there exactly where there is one
pub image_there : (hs : List ProgramHeader) → list_any is_image hs ≡ is_some (find is_image hs)
image_there [] = refl
image_there (x ∷ hs) = grind (arith, nat_tests, image_there hs)
