-- An engine that copies blocks ahead beside a service: what an event of it does, and the laws that every engine keeps.
use Rattle.std.specs.Prelude.{◌≡◌, ℕ, ◌+◌, ◌≤◌, Bool, Option, Some}
use Rattle.swi_image.specs.Format.{ImageData}
use Rattle.swi_rom.specs.Record.{Record, Transfer, Placed}
use Rattle.swi_rom.specs.Served.{SameFrom}
use Rattle.swi_rom.specs.Service.{ServiceOf, Setting}
use Rattle.swi_hart.specs.Service.{ServiceWithRam}
use Rattle.swi_engine.specs.Engine.{Event}
use Rattle.swi_engine.specs.Worked.{GoesTo}

pub record EngineOf : Type 0 where
  -- what an event does, with control in a block; None where there is nothing to do
  pub event : Setting → Record → ImageData → ℕ → Option Event
  -- how many words the engine wrote to copy
  pub written : Record → ℕ

-- what every engine beside a service keeps
pub record IsEngine {S : Type 0} (k : ServiceOf S) (e : EngineOf) : Type 0 where
  -- no event counts a service
  pub uncounted : (by : Setting) (r : Record) (v : ImageData) (here : ℕ) (x : Event) → e.event by r v here ≡ Some x → x.next.counts.services ≡ r.counts.services
  -- no transfer counts a word of the engine
  pub unwritten : (by : Setting) (r : Record) (v : ImageData) (t : Transfer) → e.written (k.policy by r v t) ≡ e.written r
  -- no event takes back a part of the extent
  pub extent_rises : (by : Setting) (r : Record) (v : ImageData) (here : ℕ) (x : Event) → e.event by r v here ≡ Some x → k.extent by r ≤ k.extent by x.next

-- one event with control in a block, over whole services with their rams
pub record EventMade {S : Type 0} (k : ServiceOf S) (e : EngineOf) (v : ImageData) (here : ℕ) (old new : ServiceWithRam S) (wrote : Bool) : Type 0 where
  -- exactly where there is an event its word is written, and nothing else changes
  pub moves : GoesTo (e.event (k.setting old.rom) (k.kept old.rom) v here) wrote (k.span (k.setting old.rom)) (k.kept old.rom) (k.kept new.rom) old.ram new.ram
  -- control's block stays where it stands
  pub stays : (first : ℕ) → Placed (k.kept old.rom) here first → Placed (k.kept new.rom) here first
  -- the words from the extent on are as before
  pub unused : SameFrom (k.extent (k.setting old.rom) (k.kept new.rom)) old.ram.words new.ram.words
  pub sound : k.sound new.rom v new.ram.words
  pub setting : k.setting new.rom ≡ k.setting old.rom
  pub words_few : e.written (k.kept new.rom) ≤ e.written (k.kept old.rom) + 1
