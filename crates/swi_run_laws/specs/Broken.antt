-- What stands where a device broke a machine instruction off, by the moment before it.
use Rattle.std.specs.Prelude.{◌≡◌, ◌⊎◌, ℕ, ◌+◌, ◌≤◌, List, ◌++◌, length, take, None, Some, true}
use Rattle.std.specs.Io.KnownBytes.{Appends, Consumes}
use Rattle.swi_outside.specs.CacheRam.{since}
use Rattle.swi_outside.specs.Causes.{risen}
use Rattle.swi_outside.specs.Devices.{Faults}
use Rattle.swi_calls.specs.State.{FlatState}
use Rattle.swi_image.specs.Format.{ImageData}
use Rattle.swi_hart.specs.declared.fault.BoardFault.{BoardFault}
use Rattle.swi_hart.specs.declared.fault.BoardFault.TheVariants.{RamFault, SourceFault, SinkFault}
use Rattle.swi_board.specs.Ran.{next_of}
use Rattle.swi_board.specs.Moments.{Moment, Policy, event}
use Rattle.swi_board.specs.Tracking.{Point}

-- as much input is left, and the same bytes are written
pub record SameBytes (s t : FlatState) : Type 0 where
  pub input : t.input ≡ s.input
  pub output : t.output ≡ s.output
  pub error : t.error ≡ s.error

-- The ram failed: what is written and taken is that of just the machine instructions whose words were fetched, which may be one more, an
-- exit. No call of it comes behind the one that failed.
pub record RamBroke (by : Policy) (v : ImageData) (s : Moment) (from new : Point) : Type 0 where
  pub reached : Moment
  pub is : (reached ≡ s) ⊎ (reached ≡ event by v s)
  -- the run goes on, and the next one fetches a word
  pub running : reached.flat.machine.ending ≡ None
  pub inside : reached.here ≡ None → ⊥
  pub input : new.left ≡ Some reached.flat.input
  pub output : Appends from.out new.out reached.flat.output
  pub error : Appends from.err new.err reached.flat.error
  pub words : new.ram.fetched_at ≡ since from.ram.sets reached.words ++ from.ram.fetched_at
  pub fetches : new.ram.fetches ≡ risen from.ram.fetches (length reached.words)
  pub last_failed : new.ram.last_failed ≡ true

-- The input or a sink failed: a front of what the next step writes is written, nothing where it was the input, and of the input no more is
-- gone than what it takes. Its word was fetched, and nothing was set behind that.
pub record DeviceBroke (by : Policy) (v : ImageData) (fault : BoardFault) (s : Moment) (from new : Point) : Type 0 where
  pub output_front : ℕ
  pub output : Appends from.out new.out (s.flat.output ++ take output_front (next_of s.flat).output)
  pub error_front : ℕ
  pub error : Appends from.err new.err (s.flat.error ++ take error_front (next_of s.flat).error)
  pub unwritten : fault ≡ SourceFault → (output_front ≡ 0) × (error_front ≡ 0)
  pub taken : List ℕ
  pub input : Consumes (Some s.flat.input) new.left taken
  pub few : length taken + length (next_of s.flat).input ≤ length s.flat.input
  pub words : new.ram.fetched_at ≡ since from.ram.sets (event by v s).words ++ from.ram.fetched_at
  pub fetches : new.ram.fetches ≡ risen from.ram.fetches (length (event by v s).words)
  pub sets : new.ram.sets ≡ risen from.ram.sets s.sets

-- Which sink failed. What the next step writes to the output comes before what it writes to the errors, as the line of a call comes behind
-- the call's output: where the output failed the errors hold nothing of that step, and where they failed the output has all of it.
pub record InOrder (s : FlatState) (from new : Point) (before after : Faults) : Type 0 where
  pub output_failed : (after.output ≡ before.output → ⊥) → Appends from.err new.err s.error
  pub error_failed : (after.error ≡ before.error → ⊥) → Appends from.out new.out (s.output ++ (next_of s).output)

abbrev pub Broke : Policy → ImageData → BoardFault → Moment → Point → Point → Type 0
Broke by v RamFault s from new = RamBroke by v s from new
Broke by v SourceFault s from new = DeviceBroke by v SourceFault s from new
Broke by v SinkFault s from new = DeviceBroke by v SinkFault s from new
