-- A whole run beside whose hart an engine copies ahead, from its boot, as data: by its schedule.
use Rattle.std.specs.Prelude.{◌≡◌, ◌⊎◌, ℕ, ◌+◌, ◌*◌, ◌<◌, ◌≤◌, List, ◌∷◌, ◌++◌, replicate, reverse, Some}
use Rattle.swi_outside.specs.CacheRam.{Fetch}
use Rattle.swi_outside.specs.Devices.{Faults}
use Rattle.swi_calls.specs.declared.end.End.TheVariants.{StoreText}
use Rattle.swi_calls.specs.Held.{held_run}
use Rattle.swi_calls.specs.State.{FlatState}
use Rattle.swi_image.specs.Format.{ImageData}
use Rattle.swi_rom.specs.Coherent.{Coherent}
use Rattle.swi_rom.specs.Served.{SameFrom}
use Rattle.swi_rom.specs.Service.{Setting}
use Rattle.swi_hart.specs.declared.fault.BoardFault.{BoardFault}
use Rattle.swi_board.specs.Board.{BoardOf, Around, board_around}
use Rattle.swi_board.specs.Moments.{GoesOn, Moment}
use Rattle.swi_board.specs.Tracking.{Point}
use Rattle.swi_engine.specs.Engine.{extent_of, span_of}
use Rattle.swi_engine.specs.State.{EngineData, kept_by, setting_of}
use Rattle.swi_prefetch.specs.Events.{Turn, of_hart, of_engine, booted, rounds, turned_all}
use Rattle.swi_prefetch.specs.Prefetching.{empty_for}
use Rattle.swi_prefetch.specs.Running.{RoundStopped}
use Rattle.swi_prefetch.specs.Tracking.{BoardTracks, point_around}

pub record AheadRun : Type 0 where
  pub image : ImageData
  -- the bytes of its cache
  pub bytes : ℕ
  -- the program before its first step
  pub start : FlatState
  -- the most steps
  pub limit : ℕ
  -- how many events of the engine come behind each of the hart
  pub rate : ℕ

-- the slots of its cache
abbrev pub setting_for : AheadRun → Setting
setting_for c = setting_of (empty_for c.bytes c.image)

-- what stands behind the boot and these events
abbrev pub moment_of : AheadRun → List Turn → Moment
moment_of c ts = turned_all (setting_for c) c.image ts (booted (setting_for c) c.image c.start.machine c.start.input)

-- and behind so many rounds, each of an event of the hart and those of the engine
abbrev pub moment_after : AheadRun → ℕ → Moment
moment_after c k = moment_of c (rounds c.rate k)

-- the words that they fetch, in order, each behind the sets of the boot and of all events before it
abbrev pub words_of : AheadRun → List Turn → List Fetch
words_of c ts = reverse (moment_of c ts).words

-- The program at its end. It is the flat machine, but that it ends before a step that would store into the text.
abbrev pub end_of : AheadRun → FlatState
end_of c = held_run c.limit c.start

-- the rounds of a run: each began while it went on with fewer steps than its limit, and behind the last it doesn't
pub record AreRounds (c : AheadRun) (made : ℕ) : Type 0 where
  pub going : (j : ℕ) → j < made → GoesOn c.limit (moment_after c j)
  pub over : GoesOn c.limit (moment_after c made) → ⊥

-- A run that came to its end on this board: where its rounds have led, which is where the program ends.
pub record AheadEnded (c : AheadRun) (made : ℕ) (b : BoardOf EngineData) (before after : Around) : Type 0 where
  pub are : AreRounds c made
  pub tracks : BoardTracks c.image (moment_after c made) (point_around b before) (board_around b after)
  pub setting : setting_of b.rom ≡ setting_for c
  -- the ram holds what is placed
  pub coherent : Coherent c.image (kept_by b.rom) (span_of (setting_for c)) after.ram.words
  -- and each word of a slot that was never taken is as it was
  pub unused : SameFrom (extent_of (setting_for c) (moment_after c made).kept) before.ram.words after.ram.words
  pub flat : (moment_after c made).flat ≡ end_of c
  pub machine : b.hart.machine ≡ (end_of c).machine
  -- at most three machine instructions for each original step, and one for the boot; one more where it stopped before a store into the text
  pub most : b.hart.count ≤ 3 * b.hart.machine.steps + 2
  pub fewer : ((a : ℕ) → b.hart.machine.ending ≡ Some (StoreText a) → ⊥) → b.hart.count ≤ 3 * b.hart.machine.steps + 1

-- The events that were made where a device failed: whole rounds, and then none, or the hart's with none or some of the engine's.
-- Each round began while the run went on with fewer steps than its limit.
pub record AreBegun (c : AheadRun) (ts : List Turn) : Type 0 where
  pub made : ℕ
  pub going : (j : ℕ) → j < made + 1 → GoesOn c.limit (moment_after c j)
  pub events : (ts ≡ rounds c.rate made) ⊎ ((k : ℕ) × ((k ≡ 0) ⊎ (k < c.rate)) × (ts ≡ rounds c.rate made ++ of_hart ∷ replicate k of_engine))

-- A device broke the run off in the round behind so many, before each of which, and before that one, the run went on.
pub record AheadBroke (c : AheadRun) (fault : BoardFault) (from new : Point) (before after : Faults) : Type 0 where
  pub made : ℕ
  pub going : (j : ℕ) → j < made + 1 → GoesOn c.limit (moment_after c j)
  pub stopped : RoundStopped (setting_for c) c.image c.rate fault (moment_after c made) from new before after
