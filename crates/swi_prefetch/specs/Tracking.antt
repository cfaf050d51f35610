-- A board that stands where events of the hart and of the engine have led.
use Rattle.std.specs.Prelude.{◌≡◌, ◌+◌, ◌≤◌, ℕ, length, List, Option}
use Rattle.std.specs.Option.{ForSome}
use Rattle.swi_outside.specs.CacheRam.{RamState}
use Rattle.swi_outside.specs.Devices.{Devices}
use Rattle.swi_calls.specs.declared.machine.Machine.{Machine}
use Rattle.swi_image.specs.Format.{ImageData}
use Rattle.swi_rom.specs.Served.{SameFrom}
use Rattle.swi_board.specs.Board.{Around, BoardOf, BoardWithDevices, board_around}
use Rattle.swi_board.specs.Moments.{Moment}
use Rattle.swi_board.specs.Runs.{unfetched}
use Rattle.swi_board.specs.Tracking.{Point, Tracks, point_of}
use Rattle.swi_engine.specs.Engine.{extent_of, span_of}
use Rattle.swi_engine.specs.Service.{engine_service}
use Rattle.swi_engine.specs.State.{EngineData, kept_by, setting_of}
use Rattle.swi_prefetch.specs.Events.{Turn, booted, turned_all}
use Rattle.swi_prefetch.specs.Prefetching.{OfBoards, empty_for}

abbrev pub point_around : BoardOf EngineData → Around → Point
point_around b a = point_of engine_service (board_around b a)

-- the board stands where a moment does, from a point with this ram and these sinks
abbrev pub BoardTracks : ImageData → Moment → Point → BoardWithDevices EngineData → Type 0
BoardTracks v s from now = Tracks (span_of (setting_of now.rom)) v s from (point_of engine_service now)

-- a schedule that was made leads on from wherever the board stands
pub record Led (v : ImageData) (ts : List Turn) (old new : BoardWithDevices EngineData) : Type 0 where
  pub setting : setting_of new.rom ≡ setting_of old.rom
  pub tracks : (s : Moment) (from : Point) → BoardTracks v s from old → BoardTracks v (turned_all (setting_of old.rom) v ts s) from new
  -- the words of slots that were never taken stay
  pub unused : SameFrom (extent_of (setting_of old.rom) (kept_by new.rom)) old.ram.words new.ram.words
  pub grows : extent_of (setting_of old.rom) (kept_by old.rom) ≤ extent_of (setting_of old.rom) (kept_by new.rom)
  -- each machine instruction has fetched a word, but for one that ended the run outside the text
  pub fetched : (s : Moment) (from : Point) → BoardTracks v s from old →
      length (turned_all (setting_of old.rom) v ts s).words + unfetched new.hart + s.count
      ≡ length s.words + unfetched old.hart + (turned_all (setting_of old.rom) v ts s).count

abbrev pub Leads : ImageData → List Turn → Option (BoardOf EngineData) → Option (BoardOf EngineData) → Around → Around → Type 0
Leads v ts old new before after = OfBoards old new (λ a b. Led v ts (board_around a before) (board_around b after))

-- the boot has come to the first event, whatever the devices are, and whatever board the point before it has
abbrev pub BeginsOn : ImageData → Machine → ℕ → RamState → BoardOf EngineData → RamState → Type 0
BeginsOn v m bytes before b after = (d : Devices) (any : BoardOf EngineData) → ForSome d.input.left (λ left.
    BoardTracks v (booted (setting_of (empty_for bytes v)) v m left) (point_around any (record { ram = before; devices = d })) (board_around b (record { ram = after; devices = d })))

abbrev pub Begins : ImageData → Machine → ℕ → RamState → Option (BoardOf EngineData) → RamState → Type 0
Begins v m bytes before board after = OfBoards board board (λ a b. BeginsOn v m bytes before b after)
