-- A hart between two of its events.
use Rattle.std.specs.Prelude.{◌≡◌, ℕ, ◌+◌, ◌*◌, ◌≤◌, ⊤, true, false, Bool, Option, Some, None}
use Rattle.swi_memory.specs.Bus.{fetched}
use Rattle.swi_calls.specs.declared.end.End.{End}
use Rattle.swi_calls.specs.declared.end.End.TheVariants as end
use Rattle.swi_image.specs.Format.{ImageData}
use Rattle.swi_image.specs.Place.{place_of}
use Rattle.swi_render.specs.Carried.{Carries, GoesOn}
use Rattle.swi_rom.specs.Record.{Record, Placed}
use Rattle.swi_hart.specs.declared.hart.Stage.TheVariants.{Start, Low, Return, Leave}
use Rattle.swi_hart.specs.declared.hart.Control.{Control}
use Rattle.swi_hart.specs.declared.hart.Control.TheVariants.{At, Outside}
use Rattle.swi_hart.specs.Hart.{HartData, is_between, is_place}

-- control has come to the address, whether or not its block still stands in the ram
abbrev pub WaitsAt : ImageData → ℕ → Control → Type 0
WaitsAt v pc (At i b o Start) = GoesOn v pc b o
WaitsAt v pc (At i b o Low) = ⊥
WaitsAt v pc (At i b o Return) = ⊥
WaitsAt v pc (At i b o Leave) = ⊥
WaitsAt v pc Outside = place_of v pc ≡ None

-- where control's block stands, control is at its word
abbrev pub Holds : Record → Control → Type 0
Holds r (At i b o stage) = (f : ℕ) → Placed r b f → i ≡ f + o
Holds r Outside = ⊤

-- A bound of the machine instructions: four for each step, and two where the run has ended before a store into the text, which is no step.
abbrev pub most_steps : Option End → ℕ → ℕ
most_steps None n = 4 * n
most_steps (Some (end.Exited code)) n = 4 * n
most_steps (Some (end.Faulted k a)) n = 4 * n
most_steps (Some (end.StoreText a)) n = 4 * n + 2

-- and of the services: three for each event
abbrev pub most_services : Option End → ℕ → ℕ
most_services None n = 3 * n
most_services (Some (end.Exited code)) n = 3 * n
most_services (Some (end.Faulted k a)) n = 3 * n
most_services (Some (end.StoreText a)) n = 3 * n + 3

-- The image is one of what the hart fetches, and no device has failed. A hart that is booted and goes on is at its pc; the flat machine
-- that it matches is its own.
pub record Waits (v : ImageData) (r : Record) (h : HartData) : Type 0 where
  pub image : Carries (fetched h.machine.bus) v
  pub unfailed : h.failed ≡ false
  pub between : h.machine.ending ≡ None → is_between h.control ≡ true
  pub stands : h.booted ≡ true → h.machine.ending ≡ None → WaitsAt v h.machine.pc h.control
  pub holds : h.booted ≡ true → h.machine.ending ≡ None → Holds r h.control
  pub bounded : h.count ≤ most_steps h.machine.ending h.machine.steps
  pub unbooted : h.booted ≡ false → h.count ≡ 0

-- whether a place is shown at an index
abbrev pub shows_place : Option ℕ → Option (ℕ × ℕ) → (ℕ → Option (ℕ × ℕ)) → Bool
shows_place None p shown = true
shows_place (Some i) None shown = true
shows_place (Some i) (Some p) shown = is_place (shown i) p.0 p.1
