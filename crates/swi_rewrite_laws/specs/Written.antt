-- What a command has written of a file, and that it runs as that.
use Rattle.std.specs.Prelude.{◌≡◌, ℕ, ◌*◌, ◌≤◌, List, [], ◌∷◌, ◌++◌, length, Some}
use Rattle.swi_elf_read.specs.Loaded.{image_of as image_in}
use Rattle.swi_image.specs.Format.{image_of}
use Rattle.swi_program.specs.ProgramOf.{program_of_file}
use Rattle.swi_command.specs.declared.command.CacheOptions.{CacheOptions}
use Rattle.swi_command.specs.declared.command.RunLimits.{RunLimits}
use Rattle.swi_command.specs.CommandLine.{Request, RewriteFile}
use Rattle.swi_task.specs.Checks.{FitsBlocks, HasRoom, IsAccepted, Passes, block_words, image_checks}
use Rattle.swi_file_commands.specs.ListFile.{list_checks}
use Rattle.swi_file_commands.specs.RewriteFile.{rewrite_checks}
use Rattle.swi_file_commands.specs.RunFlat.{flat_checks}
use Rattle.swi_cached_task.specs.Placing.{cached_checks}
use Rattle.swi_share_command.specs.RunShared.{guest_checks}
use Rattle.swi_rewrite_laws.specs.Ran.{Outcome, IsOutcomeOf, RunAlike}

-- the command worked on the one file, and stored the other, under some name: it was `rewrite` or `upgrade`, since no other stores a file
pub record HasWrittenFile (file out : List ℕ) (c : Outcome) : Type 0 where
  pub ended : IsOutcomeOf file c
  pub name : List ℕ
  pub stored : c.after.shelf.stored ≡ c.before.shelf.stored ++ (name, out) ∷ []

-- the most words of a block that it writes: those that `rewrite` was asked for, or those of the file's own image
abbrev pub block_written : Request → List ℕ → ℕ
block_written (RewriteFile input output block whole) file = block
block_written _ file = block_words (image_in file) 0

-- A file passes the checks of each command, where the other one's program has room for heap and stack, and a cache holds a block of so many
-- words.
pub record PassesAll (file out : List ℕ) (block : ℕ) : Type 0 where
  -- of `check` and `upgrade`, and of `list`
  pub checked : IsAccepted (image_checks out)
  pub listed : (most : ℕ) → IsAccepted (list_checks most out)
  -- of `rewrite`, into blocks for which the other one isn't too long
  pub rewritten : (most : ℕ) → Passes (FitsBlocks file most) → IsAccepted (rewrite_checks most out)
  -- of `plain`; of `cached`, `trace` and `prefetch`; and, as one of its files, of `share`
  pub plain : (limits : RunLimits) → Passes (HasRoom file limits) → IsAccepted (flat_checks limits out)
  pub cached : (limits : RunLimits) (cache : CacheOptions) → Passes (HasRoom file limits) → 4 * block ≤ cache.cache_bytes → IsAccepted (cached_checks limits cache out)
  pub shared : (limits : RunLimits) (most : ℕ) → Passes (HasRoom file limits) → IsAccepted (guest_checks limits most out)

-- a file has the program of another one, with an image of blocks of so many words at most, and runs as that
pub record IsAsOriginal (file out : List ℕ) (block : ℕ) : Type 0 where
  pub entry : (program_of_file out).entry ≡ (program_of_file file).entry
  pub segments : (program_of_file out).segments ≡ (program_of_file file).segments
  pub image : List ℕ
  pub has : image_in out ≡ Some image
  pub blocks : (image_of image).block_words ≡ block
  pub passes : PassesAll file out block
  pub runs : RunAlike file out

-- Whatever a command has written of a file of at most 63 segments runs as that. A file of 64 is written with 65 program headers, and no file
-- with more than 64 is accepted.
abbrev pub WritesOriginals : Type 0
WritesOriginals = (file out : List ℕ) (c : Outcome) → HasWrittenFile file out c → length (program_of_file file).segments ≤ 63 → IsAsOriginal file out (block_written c.request file)
