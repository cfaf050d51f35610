-- A hart and a copy engine that take turns over one service.
use Rattle.std.specs.Prelude.{◌≡◌, ℕ, ◌+◌, ◌≤◌, Bool, true, false, Option, Some, None, Result, Ok, OnOk, OnErr}
use Rattle.std.specs.Option.{ForSome}
use Rattle.swi_outside.specs.Devices.{Devices}
use Rattle.swi_memory.specs.Bus.{fetched}
use Rattle.swi_calls.specs.declared.end.End.{End}
use Rattle.swi_calls.specs.declared.machine.Machine.{Machine}
use Rattle.swi_image.specs.Format.{ImageData}
use Rattle.swi_render.specs.Carried.{Carries}
use Rattle.swi_rom.specs.Record.{Record}
use Rattle.swi_rom.specs.Served.{SameFrom}
use Rattle.swi_rom.specs.Service.{ServiceOf}
use Rattle.swi_hart.specs.declared.fault.BoardFault.{BoardFault}
use Rattle.swi_hart.specs.Bounds.{most, most_calls}
use Rattle.swi_hart.specs.Hart.{place_under, next_made}
use Rattle.swi_hart.specs.MachineStep.{BoardWithRam, BoardStepped}
use Rattle.swi_hart.specs.Matching.{Fits, Matches}
use Rattle.swi_hart.specs.Staying.{StaysUnder}
use Rattle.swi_board.specs.Ran.{Followed}
use Rattle.swi_engine.specs.Engine.{Event}
use Rattle.swi_engine.specs.Worked.{GoesTo}
use Rattle.swi_prefetch.specs.Engines.{EngineOf}

-- What stands between any two turns. The image fits the hart: control is in what stands for the instruction at its pc. The service
-- is sound for image and ram. Machine steps and services are within their bounds: of machine steps three for each original one, and what
-- the one under control has taken.
pub record Beside {S : Type 0} (k : ServiceOf S) (v : ImageData) (b : BoardWithRam S) : Type 0 where
  pub fits : Fits v (k.kept b.rom) b.hart
  pub sound : k.sound b.rom v b.ram.words
  pub unfailed : b.hart.failed ≡ false
  pub booted : b.hart.booted ≡ true
  pub steps_few : b.hart.count ≤ most v b.hart.machine b.hart.control
  pub services_few : b.hart.machine.ending ≡ None → (k.kept b.rom).counts.services ≤ most_calls v b.hart.machine b.hart.control

-- the event with control at a place; None where control is at none, or the run has ended
abbrev pub event_at : (Record → ImageData → ℕ → Option Event) → Record → ImageData → Option (ℕ × ℕ) → Option Event
event_at event r v None = None
event_at event r v (Some p) = event r v p.0

-- A turn of the engine: one event with control where it stands, and the hart is as before.
pub record EngineTurned {S : Type 0} (k : ServiceOf S) (e : EngineOf) (v : ImageData) (old new : BoardWithRam S) (wrote : Bool) : Type 0 where
  pub hart : new.hart ≡ old.hart
  -- exactly where there is an event its one word is written, below the span; nothing is fetched, and where there is none nothing changes
  pub moves : GoesTo (event_at (e.event (k.setting old.rom)) (k.kept old.rom) v (place_under old.hart.machine.ending old.hart.control)) wrote
      (k.span (k.setting old.rom)) (k.kept old.rom) (k.kept new.rom) old.ram new.ram
  -- control's block stays where it stands
  pub stays : StaysUnder (k.kept old.rom) (k.kept new.rom) old.hart.machine old.hart.control
  -- the words from the extent on are as before, of which none is given back
  pub unused : SameFrom (k.extent (k.setting old.rom) (k.kept new.rom)) old.ram.words new.ram.words
  pub grows : k.extent (k.setting old.rom) (k.kept old.rom) ≤ k.extent (k.setting old.rom) (k.kept new.rom)
  pub matches : (f : Machine) → Matches v (k.kept old.rom) f old.hart.machine old.hart.control → Matches v (k.kept new.rom) f new.hart.machine new.hart.control
  pub beside : Beside k v new
  pub setting : k.setting new.rom ≡ k.setting old.rom
  pub words_few : e.written (k.kept new.rom) ≤ e.written (k.kept old.rom) + 1

-- A turn of the hart: one machine step, which follows each flat machine that the board matches; nothing where the run has ended.
pub record HartTurned {S : Type 0} (k : ServiceOf S) (v : ImageData) (old new : BoardWithRam S) (before after : Devices) (result : Result Unit BoardFault) : Type 0 where
  pub ended : (x : End) → old.hart.machine.ending ≡ Some x → (result ≡ Ok tt) × (new ≡ old) × (after ≡ before)
  pub stepped : old.hart.machine.ending ≡ None → BoardStepped k v old new before after result
  pub follows : old.hart.machine.ending ≡ None → OnOk result (ForSome before.input.left (λ left. (f : Machine) → Carries (fetched f.bus) v →
      Matches v (k.kept old.rom) f old.hart.machine old.hart.control →
      Followed v (k.kept new.rom) new.hart (next_made v old.hart.machine old.hart.control f left)
      after.input.left before.output.held after.output.held before.error.held after.error.held))
  pub beside : OnOk result (Beside k v new)
  pub setting : k.setting new.rom ≡ k.setting old.rom
  -- after an error no further turn is possible
  pub failed : OnErr result (new.hart.failed ≡ true)
