-- A run whose executions are counted.
use Rattle.std.specs.Prelude.{◌≡◌, ℕ, ◌+◌, ◌-◌, List, length, Option, Some, None, Result, OnOk, slice_index, slice_set}
use Rattle.swi_outside.specs.Source.{ForInput}
use Rattle.swi_outside.specs.Devices.{Devices}
use Rattle.swi_memory.specs.declared.word_range.WordRange.{WordRange}
use Rattle.swi_calls.specs.Flat.{started}
use Rattle.swi_calls.specs.declared.end.CallFault.{CallFault}
use Rattle.swi_calls.specs.declared.machine.Machine.{Machine}
use Rattle.swi_flat.specs.FlatData.{FlatData}
use Rattle.swi_flat.specs.Ran.{Ran}
use Rattle.swi_profile.specs.Executions.{AreCounts, executions}

-- The run is the flat machine's up to its limit; where no device failed in it, the counts are those of all steps made.
pub record Profiled (first : Machine) (limit : ℕ) (new : FlatData) (range : WordRange) (counts : List ℕ) (before after : Devices) (result : Result Unit CallFault) : Type 0 where
  pub ran : Ran first limit new before after result
  -- there is a count for each word
  pub long : length counts ≡ range.words
  pub counted : OnOk result (ForInput before.input after.input (λ input rest. AreCounts range counts (executions (new.machine.steps - first.steps) (started first input))))

-- the counts with one more of the word with an index, if there is one
abbrev pub with_one : List ℕ → Option ℕ → List ℕ
with_one counts None = counts
with_one counts (Some k) = slice_set counts k (slice_index counts k + 1)
