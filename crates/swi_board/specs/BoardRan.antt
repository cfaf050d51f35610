-- What a run of a board leaves, by its answer.
use Rattle.std.specs.Prelude.{◌≡◌, ◌⊎◌, ℕ, ◌^◌, ◌<◌, ◌≤◌, None, Result, Ok, Err, is_some, true}
use Rattle.swi_outside.specs.Devices.{faults_of}
use Rattle.swi_image.specs.Format.{ImageData}
use Rattle.swi_rom.specs.Service.{ServiceOf}
use Rattle.swi_rom.specs.Served.{Keeps, SameFrom}
use Rattle.swi_hart.specs.declared.fault.BoardFault.{BoardFault}
use Rattle.swi_hart.specs.MachineStep.{BoardStepped, BoardWithRam}
use Rattle.swi_board.specs.Board.{BoardWithDevices}
use Rattle.swi_board.specs.Tracking.{Came, Course, Stays, point_of}

abbrev pub with_ram : {S : Type 0} → BoardWithDevices S → BoardWithRam S
with_ram b = record { hart = b.hart; rom = b.rom; ram = b.ram }

abbrev pub course_of : {S : Type 0} → ServiceOf S → ImageData → ℕ → BoardWithDevices S → Course
course_of k v n old = record { policy = k.policy (k.setting old.rom); image = v; limit = n; span = k.span (k.setting old.rom); from = point_of k old }

-- What holds all along a run of a whole board, whatever its devices tell.
pub record BoardStays {S : Type 0} (k : ServiceOf S) (v : ImageData) (n : ℕ) (old now : BoardWithDevices S) : Type 0 where
  pub point : Stays (course_of k v n old) (point_of k now)
  pub setting : k.setting now.rom ≡ k.setting old.rom
  pub sound : k.sound now.rom v now.ram.words
  pub keeps : Keeps k v old.rom now.rom old.ram.words now.ram.words
  pub unused : SameFrom (k.extent (k.setting old.rom) (k.kept now.rom)) old.ram.words now.ram.words
  pub quiet : faults_of now.devices ≡ faults_of old.devices

-- Machine instructions were made in a row, and no device has failed.
pub record Along {S : Type 0} (k : ServiceOf S) (v : ImageData) (n : ℕ) (old now : BoardWithDevices S) : Type 0 where
  pub made : ℕ
  pub came : Came (k.policy (k.setting old.rom)) (k.span (k.setting old.rom)) v n made (point_of k old) (point_of k now)
  pub stays : BoardStays k v n old now

-- one more was begun, and a device broke it off
pub record BrokeOff {S : Type 0} (k : ServiceOf S) (v : ImageData) (n : ℕ) (mid new : BoardWithDevices S) (fault : BoardFault) : Type 0 where
  pub running : mid.hart.machine.ending ≡ None
  pub more : mid.hart.machine.steps < n
  pub short : mid.hart.machine.pc < 2 ^ 32
  pub broke : BoardStepped k v (with_ram mid) (with_ram new) mid.devices new.devices (Err fault)

abbrev pub RunEnds : {S : Type 0} → ServiceOf S → ImageData → ℕ → BoardWithDevices S → BoardWithDevices S → Result Unit BoardFault → Type 0
RunEnds k v n mid new (Ok u) = (new ≡ mid) × ((n ≤ mid.hart.machine.steps) ⊎ (is_some mid.hart.machine.ending ≡ true))
RunEnds k v n mid new (Err fault) = BrokeOff k v n mid new fault

-- A run up to a limit of original steps: some machine instructions, and then none was left to make, or a device broke the next one off.
pub record BoardRan {S : Type 0} (k : ServiceOf S) (v : ImageData) (n : ℕ) (old new : BoardWithDevices S) (result : Result Unit BoardFault) : Type 0 where
  pub mid : BoardWithDevices S
  pub along : Along k v n old mid
  pub ends : RunEnds k v n mid new result
