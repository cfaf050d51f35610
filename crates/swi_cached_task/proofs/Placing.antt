-- What is known of a program that is placed.
use Rattle.std.proofs.Common.{ℕ, ◌*◌, ◌≤◌, List, subst}
use Rattle.swi_elf_read.specs.Loaded.{image_of as image_in}
use Rattle.swi_image.specs.Format.{ImageData}
use Rattle.swi_command.specs.declared.command.CacheOptions.{CacheOptions}
use Rattle.swi_command.specs.declared.command.RunLimits.{RunLimits}
use Rattle.swi_task.specs.Checks.{IsAccepted}
use Rattle.swi_task.specs.Subject.{IsImageFor}
use Rattle.swi_task.proofs.Images.{size_is}
use Rattle.swi_cached_task.specs.Placing.{cached_checks}

-- a cache that passes holds a block of the image that is used
pub holds_block : (limits : RunLimits) (cache : CacheOptions) (file : List ℕ) (v : ImageData) → IsAccepted (cached_checks limits cache file) →
    IsImageFor file cache.block_words (image_in file) v → 4 * v.block_words ≤ cache.cache_bytes
holds_block limits cache file v passed own =
    subst (λ (words : ℕ). 4 * words ≤ cache.cache_bytes) (size_is file cache.block_words (image_in file) v own) passed.1.1.1.1.1.1.0
