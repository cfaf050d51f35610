-- The board of a hart that entered its service's ram.
use Rattle.std.specs.Prelude.{◌≡◌, ◌+◌, ◌-◌, None, true}
use Rattle.swi_image.specs.Format.{ImageData}
use Rattle.swi_image.specs.Place.{place_of}
use Rattle.swi_rom.specs.Record.{writes}
use Rattle.swi_rom.specs.Service.{ServiceOf}
use Rattle.swi_rom.specs.Served.{SameFrom, WordsMove, Keeps}
use Rattle.swi_hart.specs.Hart.{HartData, is_between}
use Rattle.swi_hart.specs.Matching.{Fits, Matches}
use Rattle.swi_hart.specs.Leaving.{RamServed, moved}
use Rattle.swi_hart.specs.MachineStep.{BoardWithRam}
use Rattle.swi_hart.specs.Service.{ServiceWithRam}
use Rattle.swi_board.specs.Board.{entry_transfer, entries}
use Rattle.swi_board.specs.Transfers.{here_of, spent_run}

-- a hart that entered the ram at its address, with a service and a ram that stood so before
pub record Entered {S : Type 0} (k : ServiceOf S) (v : ImageData) (h : HartData) (before : ServiceWithRam S) (b : BoardWithRam S) : Type 0 where
  pub hart : b.hart ≡ record h { control = b.hart.control; count = h.count + entries v h.machine.pc; booted = true }
  pub matches : Matches v (k.kept b.rom) h.machine b.hart.machine b.hart.control
  pub fits : Fits v (k.kept b.rom) b.hart
  pub here : here_of v h.machine b.hart.control ≡ place_of v h.machine.pc
  pub spent : spent_run h.machine b.hart.control ≡ 0
  pub between : is_between b.hart.control ≡ true
  pub policy : k.kept b.rom ≡ moved (k.policy (k.setting before.rom)) (k.kept before.rom) v (entry_transfer v h.machine.pc)
  pub setting : k.setting b.rom ≡ k.setting before.rom
  pub sound : k.sound b.rom v b.ram.words
  pub keeps : Keeps k v before.rom b.rom before.ram.words b.ram.words
  pub unused : SameFrom (k.extent (k.setting before.rom) (k.kept b.rom)) before.ram.words b.ram.words
  pub words : WordsMove v (k.kept before.rom) (k.kept b.rom) before.ram b.ram
  pub ram : RamServed (k.span (k.setting before.rom)) (writes (k.kept b.rom) - writes (k.kept before.rom)) before.ram b.ram
  -- where no text word stands nothing is called
  pub outside : place_of v h.machine.pc ≡ None → (b.rom ≡ before.rom) × (b.ram ≡ before.ram)
