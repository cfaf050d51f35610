-- Which faults a step answers.
use Rattle.std.proofs.Common.{◌≡◌, Err, IsErrOf, refl, sym, subst}
use Rattle.swi_outside.specs.Devices.{Faults, HasCauses}
use Rattle.swi_outside.specs.Laws.{named_as, none_named}
use Rattle.swi_calls.specs.declared.end.CallFault.{CallFault}
use Rattle.swi_calls.specs.declared.end.CallFault.TheVariants as call
use Rattle.swi_hart.specs.declared.fault.BoardFault.{BoardFault}
use Rattle.swi_hart.specs.declared.fault.BoardFault.TheVariants.{RamFault, SourceFault, SinkFault}
use Rattle.swi_hart.specs.Calling.{OnDevice}
use Rattle.swi_hart.specs.Faults.{fault_of}

-- the ram failed
pub ram_causes : {T : Type 0} {before after : Faults} → after ≡ before → HasCauses before after (IsErrOf {T = T} (Err RamFault) SourceFault) (IsErrOf {T = T} (Err RamFault) SinkFault)
ram_causes same = none_named same (λ e. cc) (λ e. cc)

-- which call failed, by the answer
pub source_failed : {T U : Type 0} (fault : CallFault) (answer : BoardFault) → answer ≡ fault_of fault → IsErrOf {T = T} (Err answer) SourceFault → IsErrOf {T = U} (Err fault) call.SourceFault
source_failed call.SourceFault answer is e = refl
source_failed call.SinkFault answer is e = absurd (cc)

pub ram_unfailed : {T : Type 0} (fault : CallFault) (answer : BoardFault) → answer ≡ fault_of fault → IsErrOf {T = T} (Err answer) RamFault → ⊥
ram_unfailed call.SourceFault answer is e = cc
ram_unfailed call.SinkFault answer is e = cc

-- a fault of a system call is one of the input or of a sink
pub on_device : (T : Type 0) (P : Type 0) (fault : CallFault) (answer : BoardFault) → answer ≡ fault_of fault → P → OnDevice {T = T} (Err answer) P
on_device T P fault answer is p = subst (λ (k : BoardFault). OnDevice {T = T} (Err k) P) (sym is) (by fault)
  where
    by : (f : CallFault) → OnDevice {T = T} (Err (fault_of f)) P
    by call.SourceFault = p
    by call.SinkFault = p

-- the board's answer names what the call's does
pub causes_answer : {T U : Type 0} {before after : Faults} (fault : CallFault) (answer : BoardFault) → answer ≡ fault_of fault →
    HasCauses before after (IsErrOf {T = U} (Err fault) call.SourceFault) (IsErrOf {T = U} (Err fault) call.SinkFault) →
    HasCauses before after (IsErrOf {T = T} (Err answer) SourceFault) (IsErrOf {T = T} (Err answer) SinkFault)
causes_answer call.SourceFault answer is h = named_as h (λ n. cc) (λ n. refl) (λ n. absurd (cc)) (λ n. absurd (cc))
causes_answer call.SinkFault answer is h = named_as h (λ n. absurd (cc)) (λ n. absurd (cc)) (λ n. cc) (λ n. refl)
