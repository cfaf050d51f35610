-- Bounds of the machine steps and of the services of a run, and how a machine step raises them.
use Rattle.std.specs.Prelude.{◌≡◌, ℕ, zero, suc, ◌+◌, ◌*◌, ◌≤◌, Bool, true, false, ◌&&◌, Option, Some, None, is_some, if◌then◌else◌}
use Rattle.swi_calls.specs.declared.end.End.{End}
use Rattle.swi_calls.specs.declared.end.End.TheVariants as end
use Rattle.swi_calls.specs.declared.machine.Machine.{Machine}
use Rattle.swi_image.specs.Format.{ImageData}
use Rattle.swi_rom.specs.Record.{Record}
use Rattle.swi_hart.specs.declared.hart.Stage.TheVariants.{Start, Low, Return, Leave}
use Rattle.swi_hart.specs.declared.hart.Control.{Control}
use Rattle.swi_hart.specs.declared.hart.Control.TheVariants.{At, Outside}
use Rattle.swi_hart.specs.Hart.{HartData, is_fall}

-- whether control is at an address where no text word stands
abbrev pub is_outside : Control → Bool
is_outside (At i b o stage) = false
is_outside Outside = true

-- how far control is in what stands for an instruction
abbrev pub depth : ImageData → Machine → Control → ℕ
depth v m (At i b o Start) = if is_fall v m b o Start then 0 else 1
depth v m (At i b o Low) = 2
depth v m (At i b o Return) = 2
depth v m (At i b o Leave) = 3
depth v m Outside = 1

-- A bound of the machine steps, which each of them raises by one at least. While the run goes on it is three for each step, and how far
-- control is in what stands for the next instruction. Where the run has ended it is three for each step and one more, and two more
-- before a store into the text, which is no step.
abbrev pub most_by : Option End → ImageData → Machine → Control → ℕ
most_by None v m c = 3 * m.steps + depth v m c
most_by (Some (end.Exited code)) v m c = 3 * m.steps + 1
most_by (Some (end.Faulted k a)) v m c = 3 * m.steps + 1
most_by (Some (end.StoreText a)) v m c = 3 * m.steps + 2

abbrev pub most : ImageData → Machine → Control → ℕ
most v m c = most_by m.ending v m c

-- and of the services: two for each step
abbrev pub calls_by : ℕ → ℕ
calls_by zero = 0
calls_by (suc n) = 1

abbrev pub most_calls : ImageData → Machine → Control → ℕ
most_calls v m c = 2 * m.steps + calls_by (depth v m c)

-- what one machine step raises: the count, the bound of machine steps, and at most with that of services the services
pub record Grown (v : ImageData) (r new : Record) (h h' : HartData) : Type 0 where
  pub count : h'.count ≡ h.count + 1
  pub most : 3 * h.machine.steps + depth v h.machine h.control + 1 ≤ most v h'.machine h'.control
  pub one : h'.machine.steps ≤ h.machine.steps + 1
  pub failed : h'.failed ≡ h.failed
  pub booted : h'.booted ≡ h.booted
  -- a step at an address without a text word ends the run, and no other step ends it there
  pub outside : (is_some h'.machine.ending && is_outside h'.control) ≡ is_outside h.control
  pub calls : h'.machine.ending ≡ None → new.counts.services + most_calls v h.machine h.control ≤ r.counts.services + most_calls v h'.machine h'.control
