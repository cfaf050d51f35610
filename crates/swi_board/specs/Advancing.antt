-- Stretches of a run that ask no device.
use Rattle.std.specs.Prelude.{◌≡◌, ℕ, ◌^◌, ◌<◌, ◌≤◌, length}
use Rattle.swi_image.specs.Format.{ImageData}
use Rattle.swi_image.specs.Place.{length_at}
use Rattle.swi_image.specs.Row.{row_index}
use Rattle.swi_exec.specs.Arithmetic.{sum_of}
use Rattle.swi_rom.specs.Served.{SameFrom}
use Rattle.swi_rom.specs.Service.{ServiceOf}
use Rattle.swi_hart.specs.declared.hart.Stage.TheVariants.{Start}
use Rattle.swi_hart.specs.declared.hart.Control.TheVariants.{At}
use Rattle.swi_hart.specs.Hart.{HartData}
use Rattle.swi_hart.specs.MachineStep.{BoardWithRam}
use Rattle.swi_hart.specs.Service.{ServiceWithRam, StaysSound}
use Rattle.swi_board.specs.Tracking.{Course, Point, Running}

-- the point of a board with its ram, whatever its devices
abbrev pub with_board : {S : Type 0} → ServiceOf S → Point → BoardWithRam S → Point
with_board k p b = record p { hart = b.hart; kept = k.kept b.rom; ram = b.ram }

-- the course of a run of a service's board up to a limit of steps, from a point
abbrev pub course_from : {S : Type 0} → ServiceOf S → ImageData → ℕ → S → Point → Course
course_from k v limit rom from = record { policy = k.policy (k.setting rom); image = v; limit = limit; span = k.span (k.setting rom); from = from }

-- a run has come to a board with its ram
pub record Underway {S : Type 0} (k : ServiceOf S) (v : ImageData) (limit : ℕ) (b : BoardWithRam S) : Type 0 where
  pub from : Point
  pub now : Point
  pub running : Running (course_from k v limit b.rom from) (with_board k now b)
  pub count : from.hart.count ≤ 2 ^ 55
  pub services : from.kept.counts.services ≤ 2 ^ 49

-- every run that has come to the one board with its ram has come to the other
abbrev pub Onward : {S : Type 0} → ServiceOf S → ImageData → ℕ → BoardWithRam S → BoardWithRam S → Type 0
Onward k v limit old new = (from now : Point) → Running (course_from k v limit old.rom from) (with_board k now old) → Running (course_from k v limit old.rom from) (with_board k now new)

abbrev pub service_of : {S : Type 0} → BoardWithRam S → ServiceWithRam S
service_of b = record { rom = b.rom; ram = b.ram }

-- what a service keeps over calls of it
pub record ServiceStays {S : Type 0} (k : ServiceOf S) (v : ImageData) (old new : ServiceWithRam S) : Type 0 where
  pub setting : k.setting new.rom ≡ k.setting old.rom
  pub sound : StaysSound k v old new
  pub grows : k.extent (k.setting old.rom) (k.kept old.rom) ≤ k.extent (k.setting old.rom) (k.kept new.rom)
  pub unused : SameFrom (k.extent (k.setting old.rom) (k.kept new.rom)) old.ram.words new.ram.words

-- control is between two instructions at the word with an index in the row, and so far from there in the ram, modulo 2^32
pub record StandsInRow (v : ImageData) (h : HartData) (row delta : ℕ) : Type 0 where
  pub index : ℕ
  pub block : ℕ
  pub offset : ℕ
  pub control : h.control ≡ At index block offset Start
  pub known : block < length v.starts
  pub inside : offset < length_at v block
  pub is_row : row ≡ row_index v block offset
  pub is_index : sum_of row delta ≡ index
  pub short : h.machine.pc < 2 ^ 32
