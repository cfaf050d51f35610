-- The devices of a run but for the ram, and the one rule of their faults.
use Rattle.std.specs.Prelude.{◌≡◌, ℕ}
use Rattle.swi_outside.specs.Causes.{DeviceCause, PairCause, counted}
use Rattle.swi_outside.specs.Source.{SourceState}
use Rattle.swi_outside.specs.Sink.{SinkState}

pub record Devices : Type 0 where
  pub input : SourceState
  pub output : SinkState
  pub error : SinkState

-- a run's three streams, as the devices of a run
abbrev pub streams : SourceState → SinkState → SinkState → Devices
streams input output error = record { input = input; output = output; error = error }

-- their counts of faults
pub record Faults : Type 0 where
  pub input : ℕ
  pub output : ℕ
  pub error : ℕ

abbrev pub faults_of : Devices → Faults
faults_of d = record { input = d.input.faults; output = d.output.faults; error = d.error.faults }

-- A call over the devices, by what its answer names: no count falls, the answer names the input, or the sinks, only where a count of theirs
-- rose, and it names each count that rose. An input that failed was asked once: it wasn't asked again.
pub record HasCauses (before after : Faults) (source sink : Type 0) : Type 0 where
  pub input : DeviceCause before.input after.input source
  pub sinks : PairCause before.output after.output before.error after.error sink
  pub once : source → after.input ≡ counted before.input
