-- What a step takes from the input and gives to the output and the errors, and how a device breaks it off.
use Rattle.std.specs.Prelude.{◌≡◌, ℕ, List, [], Result, OnOk, OnErr, IsErrOf}
use Rattle.std.specs.Io.KnownBytes.{Appends}
use Rattle.swi_outside.specs.Sink.{AppendsPrefix}
use Rattle.swi_outside.specs.Source.{ForInput, HasGiven}
use Rattle.swi_outside.specs.Devices.{Devices, HasCauses, faults_of}
use Rattle.swi_calls.specs.declared.end.CallFault.{CallFault}
use Rattle.swi_calls.specs.declared.end.CallFault.TheVariants.{SourceFault, SinkFault}

-- what a step leaves of the input, and what it writes
pub record Exchange : Type 0 where
  pub input : List ℕ
  pub output : List ℕ
  pub error : List ℕ

-- A step that does this with each input from which what the source gave may have been read, by its answer. Without a failure it leaves the
-- rest of that input, and the sinks have gained just that. After a
-- failure each sink has gained a prefix of it: nothing where the input failed, on the errors nothing where the output failed, and on
-- the output all where the errors failed. Either way a sink to which nothing is due is not asked.
pub record Exchanged {T : Type 0} (does : List ℕ → Exchange) (before after : Devices) (result : Result T CallFault) : Type 0 where
  pub gave : HasGiven before.input after.input
  pub input : OnOk result (ForInput before.input after.input (λ left rest. (does left).input ≡ rest))
  pub output : OnOk result (ForInput before.input after.input (λ left rest. Appends before.output.held after.output.held (does left).output))
  pub error : OnOk result (ForInput before.input after.input (λ left rest. Appends before.error.held after.error.held (does left).error))
  pub output_prefix : OnErr result (ForInput before.input after.input (λ left rest. AppendsPrefix before.output.held after.output.held (does left).output))
  pub error_prefix : OnErr result (ForInput before.input after.input (λ left rest. AppendsPrefix before.error.held after.error.held (does left).error))
  pub failed_input : IsErrOf result SourceFault → (after.output ≡ before.output) × (after.error ≡ before.error)
  pub failed_output : OnErr result ((after.output.faults ≡ before.output.faults → ⊥) → after.error ≡ before.error)
  pub failed_error : OnErr result ((after.error.faults ≡ before.error.faults → ⊥) → ForInput before.input after.input (λ left rest.
      Appends before.output.held after.output.held (does left).output))
  pub unasked_output : (left : List ℕ) → (does left).output ≡ [] → after.output ≡ before.output
  pub unasked_error : (left : List ℕ) → (does left).error ≡ [] → after.error ≡ before.error
  pub causes : HasCauses (faults_of before) (faults_of after) (IsErrOf result SourceFault) (IsErrOf result SinkFault)
