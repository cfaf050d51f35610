-- Where the steps of a stretch have come that asks no device.
use Rattle.std.specs.Prelude.{◌≡◌, ◌⊎◌, ℕ, ◌+◌, ◌-◌, ◌^◌, ◌<◌, ◌≤◌, length, Option, None}
use Rattle.swi_image.specs.Format.{ImageData}
use Rattle.swi_image.specs.Place.{length_at}
use Rattle.swi_image.specs.Row.{row_index}
use Rattle.swi_image_ops.specs.ImageOp.{IsWordOp}
use Rattle.swi_micro.specs.declared.class.Class.{Class}
use Rattle.swi_micro.specs.declared.class.Class.TheVariants.{Below, Equal, Less}
use Rattle.swi_micro.specs.declared.translator.MicroOp.{MicroOp}
use Rattle.swi_render.specs.Carried.{Carries, GoesOn}
use Rattle.swi_exec.specs.Arithmetic.{sum_of}
use Rattle.swi_outside.specs.CacheRam.{RamState}
use Rattle.swi_calls.specs.declared.machine.Machine.{Machine}
use Rattle.swi_rom.specs.Record.{Placed, Record}
use Rattle.swi_rom.specs.Service.{ServiceOf}
use Rattle.swi_hart.specs.declared.hart.Stage.TheVariants.{Start}
use Rattle.swi_hart.specs.declared.hart.Control.TheVariants.{At}
use Rattle.swi_hart.specs.Hart.{HartData}
use Rattle.swi_hart.specs.MachineStep.{BoardWithRam}
use Rattle.swi_hart.specs.Service.{ServiceWithRam}
use Rattle.swi_board.specs.declared.advance.Cursor.{Cursor}
use Rattle.swi_board.specs.Advancing.{Onward, ServiceStays, Underway}

-- an image that carries a text has at a place a text word's first word, of this address, or the exit to it behind a block's last text word
pub record Origin (v : ImageData) (b o : ℕ) : Type 0 where
  pub text : ℕ → Option ℕ
  pub pc : ℕ
  pub carries : Carries text v
  pub short : pc < 2 ^ 32
  pub goes : GoesOn v pc b o

-- the machine, whose pc and steps are the cursor's to tell, the service with its ram, and the cursor
pub record Turn (S : Type 0) : Type 0 where
  pub machine : Machine
  pub rom : S
  pub ram : RamState
  pub cursor : Cursor

-- where the word with an index in the row stands: in its block, in the ram, and for which original address
pub record Stood (v : ImageData) (r : Record) (row delta : ℕ) : Type 0 where
  pub block : ℕ
  pub offset : ℕ
  pub first : ℕ
  pub pc : ℕ
  pub known : block < length v.starts
  pub inside : offset < length_at v block
  pub is_row : row ≡ row_index v block offset
  pub is_placed : Placed r block first
  pub index : sum_of row delta ≡ first + offset
  pub goes : GoesOn v pc block offset
  pub short : pc < 2 ^ 32

abbrev pub StoodAt : {S : Type 0} → ServiceOf S → ImageData → Turn S → Type 0
StoodAt k v t = Stood v (k.kept t.rom) t.cursor.row t.cursor.delta

-- the machine there, up to a limit of steps
abbrev pub machine_at : {S : Type 0} → ℕ → Turn S → ℕ → Machine
machine_at limit t pc = record t.machine { pc = pc; steps = limit - t.cursor.left }

-- the board, of a hart that has the rest
abbrev pub board_at : {S : Type 0} (k : ServiceOf S) (v : ImageData) → HartData → ℕ → (t : Turn S) → StoodAt k v t → BoardWithRam S
board_at k v h limit t at = record {
  hart = record h {
    control = At (sum_of t.cursor.row t.cursor.delta) at.block at.offset Start;
    machine = machine_at limit t at.pc;
    count = t.cursor.total - t.cursor.left;
  };
  rom = t.rom;
  ram = t.ram;
}

abbrev pub service_at : {S : Type 0} → Turn S → ServiceWithRam S
service_at t = record { rom = t.rom; ram = t.ram }

-- the cursor is within the limit
pub record Within (limit : ℕ) (c : Cursor) : Type 0 where
  pub left : c.left ≤ limit
  pub counted : c.left ≤ c.total

-- a stretch that began at a turn has come to another one
pub record Turned {S : Type 0} (k : ServiceOf S) (v : ImageData) (limit : ℕ) (first : Turn S) (from : StoodAt k v first) (t : Turn S) : Type 0 where
  pub at : StoodAt k v t
  pub going : t.machine.ending ≡ None
  pub within : Within limit t.cursor
  pub ran : (h : HartData) → Onward k v limit (board_at k v h limit first from) (board_at k v h limit t at)
  pub stays : ServiceStays k v (service_at first) (service_at t)

-- a stretch begins at a turn, in a run
pub record Begins {S : Type 0} (k : ServiceOf S) (v : ImageData) (limit : ℕ) (t : Turn S) : Type 0 where
  pub at : StoodAt k v t
  pub hart : HartData
  pub underway : Underway k v limit (board_at k v hart limit t at)
  pub going : t.machine.ending ≡ None
  pub small : limit ≤ 2 ^ 48
  pub within : Within limit t.cursor
  pub sound : k.sound t.rom v t.ram.words

-- ---- a step of a stretch

abbrev pub turn : {S : Type 0} → Machine → S → RamState → Cursor → Turn S
turn machine rom ram cursor = record { machine = machine; rom = rom; ram = ram; cursor = cursor }

-- one step fewer is left
abbrev pub fewer : Cursor → Cursor
fewer c = record c { left = c.left - 1 }

-- a stretch has come to a turn, and a step is left
pub record Going {S : Type 0} (k : ServiceOf S) (v : ImageData) (t : Turn S) : Type 0 where
  pub limit : ℕ
  pub first : Turn S
  pub begins : Begins k v limit first
  pub turned : Turned k v limit first begins.at t
  pub some : 0 < t.cursor.left

-- each stretch that has come to the one turn has come to the other
abbrev pub TurnsTo : {S : Type 0} → ServiceOf S → ImageData → Turn S → Turn S → Type 0
TurnsTo {S} k v old new = (limit : ℕ) (first : Turn S) (b : Begins k v limit first) → Turned k v limit first b.at old → Turned k v limit first b.at new

-- the micro-op is that of the word with an index in the row, unless it stops
abbrev pub IsOpInRow : (ℕ → Option ℕ) → ImageData → ℕ → MicroOp → Type 0
IsOpInRow text v row m = (b o : ℕ) → b < length v.starts → o < length_at v b → row ≡ row_index v b o → IsWordOp text v b o m

-- a class of branches
abbrev pub IsComparison : Class → Type 0
IsComparison c = (c ≡ Equal) ⊎ (c ≡ Less) ⊎ (c ≡ Below)
