-- A board that stands where the definition's machine instructions have led.
use Rattle.std.specs.Prelude.{◌≡◌, ℕ, ◌+◌, ◌-◌, ◌<◌, ◌≤◌, List, ◌++◌, length, Option, Some, None}
use Rattle.std.specs.Io.KnownBytes.{Appends}
use Rattle.swi_outside.specs.CacheRam.{RamState, since}
use Rattle.swi_memory.specs.Bus.{fetched}
use Rattle.swi_image.specs.Format.{ImageData}
use Rattle.swi_render.specs.Carried.{Carries}
use Rattle.swi_rom.specs.Record.{Record, Transfer, writes}
use Rattle.swi_rom.specs.Service.{ServiceOf}
use Rattle.swi_hart.specs.Hart.{HartData}
use Rattle.swi_hart.specs.Bounds.{most, most_calls}
use Rattle.swi_hart.specs.Matching.{Fits, Matches}
use Rattle.swi_board.specs.Board.{BoardWithDevices}
use Rattle.swi_board.specs.Ran.{RamRan}
use Rattle.swi_board.specs.Runs.{fetched_by}
use Rattle.swi_board.specs.Transfers.{here_of, spent_run}
use Rattle.swi_board.specs.Moments.{Moment, Policy, GoesOn, events}

-- what stands at a point of a run: the hart, the service's record, the ram, what is left to read, and what the sinks hold
pub record Point : Type 0 where
  pub hart : HartData
  pub kept : Record
  pub ram : RamState
  pub left : Option (List ℕ)
  pub out : Option (List ℕ)
  pub err : Option (List ℕ)

abbrev pub point_of : {S : Type 0} → ServiceOf S → BoardWithDevices S → Point
point_of k b = record { hart = b.hart; kept = k.kept b.rom; ram = b.ram; left = b.devices.input.left; out = b.devices.output.held; err = b.devices.error.held }

-- it stands where machine instructions have led, from a point with this ram and these sinks
pub record Tracks (span : ℕ) (v : ImageData) (s : Moment) (from now : Point) : Type 0 where
  pub image : Carries (fetched s.flat.machine.bus) v
  -- the hart stands where the flat machine does, or midway to its next step
  pub matches : Matches v now.kept s.flat.machine now.hart.machine now.hart.control
  pub here : now.hart.machine.ending ≡ None → here_of v s.flat.machine now.hart.control ≡ s.here
  pub spent : spent_run s.flat.machine now.hart.control ≡ s.spent
  pub kept : now.kept ≡ s.kept
  pub count : now.hart.count ≡ s.count
  pub input : now.left ≡ Some s.flat.input
  pub output : Appends from.out now.out s.flat.output
  pub error : Appends from.err now.err s.flat.error
  -- these words were fetched, so many set, and none behind the service's has changed
  pub words : now.ram.fetched_at ≡ since from.ram.sets s.words ++ from.ram.fetched_at
  pub ram : RamRan span (length s.words) s.sets from.ram now.ram

-- so many machine instructions were made, from wherever the first point stands, and before each of them the run went on
pub record Came (by : Policy) (span : ℕ) (v : ImageData) (limit made : ℕ) (old new : Point) : Type 0 where
  pub tracks : (s : Moment) (from : Point) → Tracks span v s from old → Tracks span v (events by v made s) from new
  pub going : (s : Moment) (from : Point) → Tracks span v s from old → (j : ℕ) → j < made → GoesOn limit (events by v j s)

-- what stays the same along a run, and the point where it began
pub record Course : Type 0 where
  pub policy : Policy
  pub image : ImageData
  pub limit : ℕ
  pub span : ℕ
  pub from : Point

-- What holds all along a run, whatever its devices tell: its bounds, and what the ram has counted.
pub record Stays (run : Course) (now : Point) : Type 0 where
  pub steps : now.hart.machine.steps ≤ run.limit
  pub fits : Fits run.image now.kept now.hart
  pub failed : now.hart.failed ≡ run.from.hart.failed
  pub booted : now.hart.booted ≡ run.from.hart.booted
  pub later : run.from.hart.count ≤ now.hart.count
  pub count : now.hart.count + most run.image run.from.hart.machine run.from.hart.control
      ≤ run.from.hart.count + most run.image now.hart.machine now.hart.control
  pub calls : now.hart.machine.ending ≡ None → now.kept.counts.services + most_calls run.image run.from.hart.machine run.from.hart.control
      ≤ run.from.kept.counts.services + most_calls run.image now.hart.machine now.hart.control
  -- what no transfer lowers is no less
  pub rises : (measure : Record → ℕ) → ((r : Record) (v : ImageData) (t : Transfer) → measure r ≤ measure (run.policy r v t)) → measure run.from.kept ≤ measure now.kept
  -- a word was fetched for each machine instruction but one outside the text, and so many were set as the service has written
  pub ram : RamRan run.span (fetched_by run.from.hart now.hart) (writes now.kept - writes run.from.kept) run.from.ram now.ram

-- A run so far, from point to point.
pub record Running (run : Course) (now : Point) : Type 0 where
  pub made : ℕ
  pub came : Came run.policy run.span run.image run.limit made run.from now
  pub stays : Stays run now
