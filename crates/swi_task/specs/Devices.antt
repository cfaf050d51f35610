-- The devices that are handed in, each by what it tells of itself before and after a call.
use Rattle.std.specs.Prelude.{◌≡◌, ℕ, List, length, take}
use Rattle.std.specs.Io.KnownBytes.{Appends}
use Rattle.swi_outside.specs.CacheRam.{RamState}
use Rattle.swi_outside.specs.Causes.{Rose}
use Rattle.swi_outside.specs.Devices as outside
use Rattle.swi_outside.specs.Shelf.{ShelfState}
use Rattle.swi_outside.specs.Sink.{SinkState}
use Rattle.swi_outside.specs.Source.{SourceState}

pub record Devices : Type 0 where
  pub shelf : ShelfState
  pub input : SourceState
  pub output : SinkState
  pub error : SinkState
  pub ram : RamState

abbrev pub seen : ShelfState → SourceState → SinkState → SinkState → RamState → Devices
seen s i o e r = record { shelf = s; input = i; output = o; error = e; ram = r }

-- the input and the sinks
abbrev pub streams_of : Devices → outside.Devices
streams_of d = record { input = d.input; output = d.output; error = d.error }

-- their counts of faults
abbrev pub stream_faults : Devices → outside.Faults
stream_faults d = record { input = d.input.faults; output = d.output.faults; error = d.error.faults }

-- the same, but that the error sink has failed so often
abbrev pub with_error_faults : Devices → ℕ → Devices
with_error_faults d n = record d { error = record d.error { faults = n } }

-- no input was taken, nothing was written to the output, and the ram is as it was
pub record IsUntouched (before after : Devices) : Type 0 where
  pub input : after.input ≡ before.input
  pub output : after.output ≡ before.output
  pub ram : after.ram ≡ before.ram

-- of a line so much was written to the errors: all of it, where the error sink did not fail
pub record ShowsLine (old new : SinkState) (line : List ℕ) : Type 0 where
  pub shown : ℕ
  pub bytes : Appends old.held new.held (take shown line)
  pub whole : (Rose old.faults new.faults → ⊥) → shown ≡ length line
