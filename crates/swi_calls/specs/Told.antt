-- What is said of a source that tells what is left, said of every source.
use Rattle.std.specs.Prelude.{◌≡◌, ℕ, List, [], length, Option, Some, Result, OnOk, OnErr, IsErrOf}
use Rattle.std.specs.Option.{ForSome}
use Rattle.std.specs.Io.KnownBytes.{Appends, Consumes}
use Rattle.swi_outside.specs.Sink.{AppendsPrefix}
use Rattle.swi_outside.specs.Devices.{Devices, HasCauses, faults_of}
use Rattle.swi_memory.specs.Bus.{AreaData, with_bytes}
use Rattle.swi_calls.specs.declared.end.CallFault.{CallFault}
use Rattle.swi_calls.specs.declared.end.CallFault.TheVariants.{SourceFault, SinkFault}
use Rattle.swi_calls.specs.Exchange.{Exchange}

pub record ReadsIntoTold (bus bus' : List AreaData) (left left' : Option (List ℕ)) (a count : ℕ) : Type 0 where
  pub bytes : List ℕ
  pub number : length bytes ≡ count
  pub stored : bus' ≡ with_bytes bus a bytes
  pub consumed : Consumes left left' bytes

pub record ExchangedTold {T : Type 0} (does : List ℕ → Exchange) (before after : Devices) (result : Result T CallFault) : Type 0 where
  pub input : OnOk result (ForSome before.input.left (λ left. after.input.left ≡ Some (does left).input))
  pub output : OnOk result (ForSome before.input.left (λ left. Appends before.output.held after.output.held (does left).output))
  pub error : OnOk result (ForSome before.input.left (λ left. Appends before.error.held after.error.held (does left).error))
  pub output_prefix : OnErr result (ForSome before.input.left (λ left. AppendsPrefix before.output.held after.output.held (does left).output))
  pub error_prefix : OnErr result (ForSome before.input.left (λ left. AppendsPrefix before.error.held after.error.held (does left).error))
  pub failed_input : IsErrOf result SourceFault → (after.output ≡ before.output) × (after.error ≡ before.error)
  pub failed_output : OnErr result ((after.output.faults ≡ before.output.faults → ⊥) → after.error ≡ before.error)
  pub failed_error : OnErr result ((after.error.faults ≡ before.error.faults → ⊥) → ForSome before.input.left (λ left.
      Appends before.output.held after.output.held (does left).output))
  pub unasked_output : (left : List ℕ) → (does left).output ≡ [] → after.output ≡ before.output
  pub unasked_error : (left : List ℕ) → (does left).error ≡ [] → after.error ≡ before.error
  pub causes : HasCauses (faults_of before) (faults_of after) (IsErrOf result SourceFault) (IsErrOf result SinkFault)
