-- What a service's writes leave in the ram.
use Rattle.std.specs.Prelude.{◌≡◌, ℕ, ◌+◌, ◌<◌, true, slice_index}
use Rattle.swi_outside.specs.Causes.{Rose, risen}
use Rattle.swi_outside.specs.CacheRam.{RamState}
use Rattle.swi_rom.specs.Served.{Spared}

-- so many sets below an index, none of which failed
pub record Wrote (span n : ℕ) (before after : RamState) : Type 0 where
  pub spared : Spared span before after
  pub quiet : after.faults ≡ before.faults
  pub sets_rise : after.sets ≡ risen before.sets n

-- sets below an index, of which the last one failed
pub record FailedBelow (span : ℕ) (before after : RamState) : Type 0 where
  pub spared : Spared span before after
  pub rose : Rose before.faults after.faults
  pub last_failed : after.last_failed ≡ true

-- the first n of these words stand from an index on, and no other word has changed
pub record Copied (word : ℕ → ℕ) (first n : ℕ) (before after : RamState) : Type 0 where
  pub wrote : Wrote (first + n) n before after
  pub copied : (k : ℕ) → k < n → slice_index after.words (first + k) ≡ word k
  pub below : (i : ℕ) → i < first → slice_index after.words i ≡ slice_index before.words i
