-- The program of a file, placed for a run in a cache, and what is checked of it before.
use Rattle.std.specs.Prelude.{◌≡◌, ℕ, ◌*◌, List, [], ◌∷◌, map, Ok}
use Rattle.swi_elf_read.specs.Loaded.{image_of as image_in}
use Rattle.swi_program.specs.Layout.{IsLayoutOf}
use Rattle.swi_command.specs.declared.command.CacheOptions.{CacheOptions}
use Rattle.swi_command.specs.declared.command.RunLimits.{RunLimits}
use Rattle.swi_task.specs.Checks.{Check, IsShort, IsAcceptedElf, HasRoom, IsAcceptedImage, IsOwnImage, FitsUnlessImage, HoldsBlock, block_words, room_in}
use Rattle.swi_task.specs.Subject.{IsSubject}
use Rattle.swi_cached_task.specs.declared.placed.Placed.{Placed}

-- caches of these sizes hold a block of so many bytes
abbrev pub hold_block : List ℕ → ℕ → List Check
hold_block sizes least = map (λ bytes. HoldsBlock bytes least) sizes

-- the checks of the file, and then of each cache in turn, which holds a block
abbrev pub placed_checks : RunLimits → List ℕ → ℕ → List ℕ → List Check
placed_checks limits sizes most file =
    IsShort file ∷ IsAcceptedElf file ∷ HasRoom file limits ∷ IsAcceptedImage file ∷ IsOwnImage file ∷ FitsUnlessImage file most
    ∷ hold_block sizes (4 * block_words (image_in file) most)

-- those of a run in one cache
abbrev pub cached_checks : RunLimits → CacheOptions → List ℕ → List Check
cached_checks limits cache file = placed_checks limits (cache.cache_bytes ∷ []) cache.block_words file

-- the file's program with its image and its layout
pub record IsPlaced (file : List ℕ) (limits : RunLimits) (most : ℕ) (p : Placed) : Type 0 where
  pub subject : IsSubject file most p.subject
  pub layout : room_in file limits ≡ Ok p.layout
  pub laid_out : IsLayoutOf p.subject.program.segments p.layout
