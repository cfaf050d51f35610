-- A command's run over what was made ready for it, by its answer.
use Rattle.std.specs.Prelude.{◌≡◌, Result, IfOk, IfErr, ⊤}
use Rattle.swi_answer.specs.declared.answer.Ending.{Ending}
use Rattle.swi_answer.specs.declared.answer.Refusal.{Refusal}
use Rattle.swi_answer.specs.declared.answer.Refusal.TheVariants as refusal
use Rattle.swi_task.specs.Answers.{IsRunFault}
use Rattle.swi_task.specs.Causes.{HasCauses}
use Rattle.swi_task.specs.Devices.{Devices}

-- why a run over a service is refused
abbrev pub IsRunErr : Refusal → Type 0
IsRunErr refusal.SourceFault = ⊤
IsRunErr refusal.SinkFault = ⊤
IsRunErr refusal.RamFault = ⊤
IsRunErr refusal.Memory = ⊤
IsRunErr _ = ⊥

-- and where it takes no input
abbrev pub IsUnfedErr : Refusal → Type 0
IsUnfedErr refusal.SinkFault = ⊤
IsUnfedErr refusal.RamFault = ⊤
IsUnfedErr refusal.Memory = ⊤
IsUnfedErr _ = ⊥

-- What such a run does, with the refusals that it can have, what it leaves at its end, and what it leaves behind a failed device: it comes
-- to its end, or a device fails in it or behind it; or there was no memory, and nothing changed.
pub record RanOver (refusals : Refusal → Type 0) (ends : Ending → Type 0) (breaks : Refusal → Type 0) (before after : Devices) (result : Result Ending Refusal) : Type 0 where
  pub done : IfOk result ends
  pub refused : IfErr result refusals
  pub quiet : IfErr result (λ r. (IsRunFault r → ⊥) → after ≡ before)
  pub failed : IfErr result (λ r. IsRunFault r → breaks r)
  pub causes : HasCauses before after result
