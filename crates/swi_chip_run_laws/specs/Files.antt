-- A run of a processor from a file on. Own rule.
use Rattle.std.specs.Prelude.{◌≡◌, ℕ, suc, ◌<◌, ◌≤◌, ◌^◌, List}
use Rattle.swi_memory.specs.Bus.{fetched}
use Rattle.swi_calls.specs.declared.machine.Machine.{Machine}
use Rattle.swi_calls.specs.Flat.{started}
use Rattle.swi_program.specs.Text.{IsSized, TextData, word_of}
use Rattle.swi_image.specs.Format.{ImageData, image_of}
use Rattle.swi_image.specs.Words.{words_of}
use Rattle.swi_rom.specs.Record.{empty_record, indirect}
use Rattle.swi_rom.specs.Service.{Setting}
use Rattle.swi_slots.specs.Slots.{Slots, kept_by, setting_of}
use Rattle.swi_board.specs.Transfers.{cost, here_of}
use Rattle.swi_chip.specs.declared.chip.Chip.{Chip}
use Rattle.swi_chip.specs.Bounded.{IsBounded, fifo_few}
use Rattle.swi_chip.specs.Repeated.{EnterCalls}
use Rattle.swi_chip.specs.Service.{StaysPut}
use Rattle.swi_chip.specs.Starting.{CanStart, Starts}
use Rattle.swi_chip_start_laws.specs.Files.{HasFile, HasRoom, IsChecked}
use Rattle.swi_chip_run_laws.specs.Calls.{GoesOnAt, ProcessorMoved, ProcessorState}
use Rattle.swi_chip_run_laws.specs.Runs.{ProcessorRan}

-- A chip has a file's tables; `start` and then `enter` at the pc of a machine with the file's text were called; and the processor goes on at
-- the answer, with the registers and the memory of that machine.
pub record IsStarted (t : TextData) (bytes : List ℕ) (f : Machine) (p : ProcessorState) : Type 0 where
  pub sized : IsSized t
  pub checked : IsChecked t bytes
  pub text : (x : ℕ) → fetched f.bus x ≡ word_of t x
  pub given : Chip
  pub file : HasFile (words_of bytes) given
  pub room : HasRoom (image_of bytes) given
  pub empty : Chip
  pub starts : (v : ImageData) → CanStart given v → Starts given v empty
  pub stays : StaysPut given empty
  pub answer : ℕ
  pub enters : EnterCalls empty p.chip f.pc answer
  pub goes : GoesOnAt (image_of bytes) p.chip f.pc answer p.hart.control
  pub machine : p.hart.machine ≡ f

-- as many slots as the chip has, for one program
abbrev pub setting_in : Chip → Setting
setting_in c = record { slots = c.slots; slot_words = c.size.words; programs = 1 }

-- The run is k original steps, and its record moved on by the slots' policy from nothing on: first by the entry, and then by their transfers.
-- The bound is the one that was handed in, and no more links lead into a block.
pub record RanFromFile (v : ImageData) (by : Setting) (most k : ℕ) (f : Machine) (old new : ProcessorState) : Type 0 where
  pub s : Slots
  pub words : List ℕ
  pub setting : setting_of s ≡ by
  pub boot : kept_by s ≡ fifo_few most by empty_record v (indirect f.pc)
  pub bound : old.chip.most ≡ most
  pub ran : ProcessorRan v s words k f old new
  pub few : IsBounded most (kept_by ran.next)

abbrev pub RunsFromFile : Type 0
RunsFromFile = (t : TextData) (bytes : List ℕ) (n k : ℕ) (f : Machine) (at : ℕ → ProcessorState) → (is : IsStarted t bytes f (at 0)) →
    ((j : ℕ) → j < n → ProcessorMoved (image_of bytes) (at j) (at (suc j))) → ((j : ℕ) → j ≤ n → (at j).hart.machine.pc < 2 ^ 32) →
    n ≡ cost (image_of bytes) k (started f (at 0).input) (here_of (image_of bytes) f (at 0).hart.control) →
    RanFromFile (image_of bytes) (setting_in is.given) is.given.most k f (at 0) (at n)
