-- What a run of the flat machine leaves, by its answer.
use Rattle.std.specs.Prelude.{◌≡◌, ◌<◌, ◌≤◌, ◌++◌, ℕ, [], None, Result, is_err, OnOk, OnErr, IsErrOf}
use Rattle.std.specs.Io.KnownBytes.{Appends}
use Rattle.swi_outside.specs.Sink.{AppendsThenPrefix}
use Rattle.swi_outside.specs.Source.{ForInput, HasGiven}
use Rattle.swi_outside.specs.Devices.{Devices, HasCauses, faults_of}
use Rattle.swi_calls.specs.declared.end.CallFault.{CallFault}
use Rattle.swi_calls.specs.declared.end.CallFault.TheVariants.{SourceFault, SinkFault}
use Rattle.swi_calls.specs.declared.machine.Machine.{Machine}
use Rattle.swi_flat.specs.FlatData.{FlatData, unfailed, stopped, state_at, next_made, FillsFront}

-- A run from a machine up to a limit, over each input from which what the source gave may have been read. Without a failure it is the
-- definition's: the machine, what is left of the input, and what the sinks gained. After one it has not ended, and stands where the steps made have brought it: memory and what the sinks gained are theirs, and a
-- front of what the step that failed does: nothing of it where the input failed, on the errors nothing where the output failed, and on
-- the output all where the errors failed. A sink to which that step gives nothing is not asked by it.
pub record Ran (first : Machine) (limit : ℕ) (new : FlatData) (before after : Devices)
    (result : Result Unit CallFault) : Type 0 where
  pub gave : HasGiven before.input after.input
  pub machine : OnOk result (ForInput before.input after.input (λ left rest. new ≡ unfailed (state_at limit first left).machine))
  pub input : OnOk result (ForInput before.input after.input (λ left rest. (state_at limit first left).input ≡ rest))
  pub output : OnOk result (ForInput before.input after.input (λ left rest. Appends before.output.held after.output.held (state_at limit first left).output))
  pub error : OnOk result (ForInput before.input after.input (λ left rest. Appends before.error.held after.error.held (state_at limit first left).error))
  pub stops : OnOk result (new.machine.ending ≡ None → new.machine.steps ≡ limit)
  pub failed : new.failed ≡ is_err result
  pub going : OnErr result (new.machine.ending ≡ None)
  pub uncounted : OnErr result (new.machine.steps < limit)
  pub no_fewer : OnErr result (first.steps ≤ new.machine.steps)
  pub stays : OnErr result (ForInput before.input after.input (λ left rest. new ≡ stopped (state_at new.machine.steps first left).machine new.machine.bus))
  pub front : OnErr result (ForInput before.input after.input (λ left rest. FillsFront (state_at new.machine.steps first left) new.machine.bus rest))
  pub output_part : OnErr result (ForInput before.input after.input (λ left rest. AppendsThenPrefix before.output.held after.output.held
      (state_at new.machine.steps first left).output (next_made (state_at new.machine.steps first left)).output))
  pub error_part : OnErr result (ForInput before.input after.input (λ left rest. AppendsThenPrefix before.error.held after.error.held
      (state_at new.machine.steps first left).error (next_made (state_at new.machine.steps first left)).error))
  pub failed_input : IsErrOf result SourceFault → ForInput before.input after.input (λ left rest.
      Appends before.output.held after.output.held (state_at new.machine.steps first left).output
      × Appends before.error.held after.error.held (state_at new.machine.steps first left).error)
  pub failed_output : OnErr result ((after.output.faults ≡ before.output.faults → ⊥) → ForInput before.input after.input (λ left rest.
      Appends before.error.held after.error.held (state_at new.machine.steps first left).error))
  pub failed_error : OnErr result ((after.error.faults ≡ before.error.faults → ⊥) → ForInput before.input after.input (λ left rest. Appends before.output.held after.output.held
      ((state_at new.machine.steps first left).output ++ (next_made (state_at new.machine.steps first left)).output)))
  pub unasked_output : OnErr result (ForInput before.input after.input (λ left rest. (next_made (state_at new.machine.steps first left)).output ≡ [] →
      after.output.faults ≡ before.output.faults))
  pub unasked_error : OnErr result (ForInput before.input after.input (λ left rest. (next_made (state_at new.machine.steps first left)).error ≡ [] →
      after.error.faults ≡ before.error.faults))
  pub causes : HasCauses (faults_of before) (faults_of after) (IsErrOf result SourceFault) (IsErrOf result SinkFault)
