-- A run: rounds of one event of the hart and so many of the engine, up to a limit of original steps.
use Rattle.std.specs.Prelude.{◌≡◌, ◌⊎◌, ℕ, ◌+◌, ◌<◌, ◌≤◌, not, ◌&&◌, nat_lt, Bool, true, false, List, ◌∷◌, ◌++◌, length, replicate, reverse, Option, Some, None, is_some, Result, IfErr, IsErrOf}
use Rattle.std.specs.Io.KnownBytes.{Appends}
use Rattle.swi_outside.specs.CacheRam.{Fetch, KeepsBeyond, RamState, since}
use Rattle.swi_outside.specs.Causes.{risen}
use Rattle.swi_outside.specs.Devices.{Faults, faults_of}
use Rattle.swi_image.specs.Format.{ImageData}
use Rattle.swi_rom.specs.Service.{Setting}
use Rattle.swi_hart.specs.Bounds.{most}
use Rattle.swi_hart.specs.Hart.{HartData}
use Rattle.swi_hart.specs.declared.fault.BoardFault.{BoardFault}
use Rattle.swi_hart.specs.declared.fault.BoardFault.TheVariants.{RamFault}
use Rattle.swi_board.specs.Board.{BoardOf, Around, board_around}
use Rattle.swi_board.specs.Fetching.{FrontSince}
use Rattle.swi_board.specs.Moments.{GoesOn, Moment}
use Rattle.swi_board.specs.Ran.{Unasked, next_of}
use Rattle.swi_board.specs.Tracking.{Point}
use Rattle.swi_engine.specs.Engine.{beside, engine_words, span_of}
use Rattle.swi_engine.specs.State.{EngineData, kept_by, setting_of}
use Rattle.swi_run_laws.specs.Broken.{Broke, InOrder}
use Rattle.swi_prefetch.specs.Events.{Turn, of_hart, of_engine, round, rounds, turned_all}
use Rattle.swi_prefetch.specs.Prefetching.{GivenUp, HartEvent, OfBoards, PcShort, TakesTurns}
use Rattle.swi_prefetch.specs.Tracking.{BoardTracks, Leads, point_around}

-- the machine, whole
pub record Whole : Type 0 where
  pub board : Option (BoardOf EngineData)
  pub around : Around

-- a fact of the board, which is there
abbrev pub OfBoard : Option (BoardOf EngineData) → (BoardOf EngineData → Type 0) → Type 0
OfBoard None P = ⊥
OfBoard (Some b) P = P b

-- and of it wherever it stands: by the moment, and the point before the first event
abbrev pub FromHere : ImageData → Option (BoardOf EngineData) → Around → (BoardOf EngineData → Moment → Point → Type 0) → Type 0
FromHere v o a P = OfBoard o (λ b. (s : Moment) (from : Point) → BoardTracks v s from (board_around b a) → P b s from)

abbrev pub StepsUpTo : ℕ → Option (BoardOf EngineData) → Type 0
StepsUpTo n o = OfBoard o (λ b. b.hart.machine.steps ≤ n)

abbrev pub WordsUpTo : ℕ → Option (BoardOf EngineData) → Type 0
WordsUpTo n o = OfBoard o (λ b. engine_words (kept_by b.rom) ≤ n)

-- the run goes on, and fewer than so many original steps are made
abbrev pub goes_below : ℕ → Option (BoardOf EngineData) → Bool
goes_below n None = false
goes_below n (Some b) = not (is_some b.hart.machine.ending) && nat_lt b.hart.machine.steps n

-- the words of the ram behind a board's slots stay
abbrev pub KeepsBehind : Option (BoardOf EngineData) → RamState → RamState → Type 0
KeepsBehind o before after = OfBoard o (λ b. KeepsBeyond (span_of (setting_of b.rom)) before after)

-- Events were made in a row, and no device has failed.
pub record CameOn (v : ImageData) (ts : List Turn) (old new : Whole) : Type 0 where
  pub led : Leads v ts old.board new.board old.around new.around
  pub turns : TakesTurns v new.board new.around.ram
  -- each wrote at most one word ahead
  pub words : OfBoards old.board new.board (λ a b. engine_words (kept_by b.rom) ≤ engine_words (kept_by a.rom) + length ts)
  pub quiet : faults_of new.around.devices ≡ faults_of old.around.devices
  pub ram_quiet : new.around.ram.faults ≡ old.around.ram.faults
  -- the words of the ram behind the slots stay
  pub kept : KeepsBehind old.board old.around.ram new.around.ram

-- the engine's events leave the hart as it was
abbrev pub SameHart : Option (BoardOf EngineData) → Option (BoardOf EngineData) → Type 0
SameHart old new = OfBoards old new (λ a b. b.hart ≡ a.hart)

-- a round brings the hart on, by one machine step and at most one original step
pub record Rises (v : ImageData) (old new : HartData) : Type 0 where
  pub most : most v old.machine old.control + 1 ≤ most v new.machine new.control
  pub steps : new.machine.steps ≤ old.machine.steps + 1

abbrev pub RoundRises : ImageData → Option (BoardOf EngineData) → Option (BoardOf EngineData) → Type 0
RoundRises v old new = OfBoards old new (λ a b. a.hart.machine.ending ≡ None → Rises v a.hart b.hart)

abbrev pub whole : Option (BoardOf EngineData) → Around → Whole
whole b a = record { board = b; around = a }

-- a word of the engine failed, behind so many of its events
pub record AheadFailed (v : ImageData) (rate : ℕ) (old new : Whole) : Type 0 where
  pub made : ℕ
  pub fewer : made < rate
  pub mid : Whole
  pub came : CameOn v (replicate made of_engine) old mid
  pub same : SameHart old.board mid.board
  pub failed : GivenUp mid.board (record { board = new.board; ram = new.around.ram }) mid.around.ram
  pub devices : new.around.devices ≡ mid.around.devices

-- a device broke off the hart's event of a round, or one of the engine's
pub record HartBroke (v : ImageData) (ts : List Turn) (old new : Whole) (result : Result Unit BoardFault) : Type 0 where
  pub mid : Whole
  pub came : CameOn v ts old mid
  pub short : PcShort mid.board
  pub broke : HartEvent v (record { board = mid.board; ram = mid.around.ram }) (record { board = new.board; ram = new.around.ram }) mid.around.devices new.around.devices result

pub record EngineBroke (v : ImageData) (ts : List Turn) (rate : ℕ) (old new : Whole) (result : Result Unit BoardFault) : Type 0 where
  pub made : ℕ
  pub fewer : made < rate
  pub mid : Whole
  pub came : CameOn v (ts ++ of_hart ∷ replicate made of_engine) old mid
  pub failed : GivenUp mid.board (record { board = new.board; ram = new.around.ram }) mid.around.ram
  pub devices : new.around.devices ≡ mid.around.devices
  pub told : IsErrOf result RamFault

abbrev pub BrokeIn : ImageData → List Turn → ℕ → Whole → Whole → Result Unit BoardFault → Type 0
BrokeIn v ts rate old new result = HartBroke v ts old new result ⊎ EngineBroke v ts rate old new result

-- Behind this moment a device broke off the hart's next machine instruction: what stands then, which sinks it asked, and in which order.
pub record HartStopped (by : Setting) (v : ImageData) (fault : BoardFault) (s : Moment) (from new : Point) (before after : Faults) : Type 0 where
  pub broke : Broke (beside by) v fault s from new
  pub unasked : (fault ≡ RamFault → ⊥) → Unasked (next_of s.flat) before after
  pub in_order : (fault ≡ RamFault → ⊥) → InOrder s.flat from new before after

-- Or the ram failed in one of the engine's events behind that: no word was fetched, taken or written in it.
pub record EngineStopped (by : Setting) (v : ImageData) (rate : ℕ) (fault : BoardFault) (s : Moment) (from new : Point) : Type 0 where
  pub made : ℕ
  pub fewer : made < rate
  pub told : fault ≡ RamFault
  pub input : new.left ≡ Some (turned_all by v (round made) s).flat.input
  pub output : Appends from.out new.out (turned_all by v (round made) s).flat.output
  pub error : Appends from.err new.err (turned_all by v (round made) s).flat.error
  pub words : new.ram.fetched_at ≡ since from.ram.sets (turned_all by v (round made) s).words ++ from.ram.fetched_at
  pub fetches : new.ram.fetches ≡ risen from.ram.fetches (length (turned_all by v (round made) s).words)
  pub last_failed : new.ram.last_failed ≡ true

abbrev pub RoundStopped : Setting → ImageData → ℕ → BoardFault → Moment → Point → Point → Faults → Faults → Type 0
RoundStopped by v rate fault s from new before after = HartStopped by v fault s from new before after ⊎ EngineStopped by v rate fault s from new

-- the run goes on before each of so many rounds, from wherever the board stands
abbrev pub GoesBefore : ImageData → ℕ → ℕ → ℕ → Whole → Type 0
GoesBefore v limit rate made old = (j : ℕ) → j < made → FromHere v old.board old.around (λ b s from. GoesOn limit (turned_all (setting_of b.rom) v (rounds rate j) s))

-- the run came to its limit, or it ended; each round began before that
pub record RanTo (v : ImageData) (limit rate : ℕ) (old new : Whole) : Type 0 where
  pub made : ℕ
  pub came : CameOn v (rounds rate made) old new
  pub going : GoesBefore v limit rate made old
  pub done : goes_below limit new.board ≡ false

-- a device broke off a round, behind so many; it and each before it began while the run went on below its limit
pub record RunBroke (v : ImageData) (limit rate : ℕ) (old new : Whole) (result : Result Unit BoardFault) : Type 0 where
  pub made : ℕ
  pub going : GoesBefore v limit rate (made + 1) old
  pub broke : BrokeIn v (rounds rate made) rate old new result
  pub stopped : IfErr result (λ fault. FromHere v old.board old.around (λ b s from.
      RoundStopped (setting_of b.rom) v rate fault (turned_all (setting_of b.rom) v (rounds rate made) s) from (point_around b new.around)
      (faults_of old.around.devices) (faults_of new.around.devices)))
  -- the words that were fetched, each behind so many sets, are a front of those of these rounds
  pub words : FromHere v old.board old.around (λ b s from.
      (more : List Fetch) × ((turned_all (setting_of b.rom) v (rounds rate (made + 1)) s).words ≡ more ++ s.words) × FrontSince from.ram.sets (reverse more) old.around.ram new.around.ram)
