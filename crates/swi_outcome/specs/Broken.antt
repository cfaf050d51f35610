-- What a run leaves where a source or a sink failed at one of its steps, over any list of states.
use Rattle.std.specs.Prelude.{◌≡◌, ◌⊎◌, ℕ, ◌-◌, ◌<◌, ◌≤◌, List, [], ◌++◌, length, take, Some, None}
use Rattle.std.specs.Io.KnownBytes.{Appends, Consumes}
use Rattle.swi_outside.specs.Devices.{Devices, faults_of}
use Rattle.swi_outside.specs.Sink.{AppendsThenPrefix}
use Rattle.swi_calls.specs.State.{FlatState}
use Rattle.swi_calls.specs.Flat.{Made}
use Rattle.swi_board.specs.Ran.{Unasked, next_of}

-- a state, and the step that would come next
pub record Coming : Type 0 where
  pub state : FlatState
  -- what the errors hold once that step has been told of, where steps are told before they are made
  pub begun : List ℕ
  pub next : Made
  -- the most bytes of the input that it takes
  pub most : ℕ

-- the most bytes that the next step takes over a fixed text
abbrev pub taken_next : FlatState → ℕ
taken_next s = length s.input - length (next_of s).input

-- a run: its state after so many steps, each with the next one, and the most steps
pub record Steps : Type 0 where
  pub coming : ℕ → Coming
  pub limit : ℕ

-- what an answer calls a failed source, and a failed sink
pub record Names (R : Type 0) : Type 0 where
  pub source : R
  pub sink : R

-- The error sink failed at what is told of the next step before it is made, of which a front was written; the step was not begun.
abbrev pub FailedAtLine : Coming → (last : List ℕ) → Devices → Devices → Type 0
FailedAtLine c last before after = (told : List ℕ) × (c.begun ≡ c.state.error ++ told) × (told ≡ [] → ⊥)
    × Appends before.output.held after.output.held c.state.output
    × ((front : ℕ) × Appends before.error.held after.error.held ((c.state.error ++ take front told) ++ last))

-- A source or a sink failed in a state, at the step that would come next. Behind what the run wrote to the errors stands `last`.
pub record StepFailed {R : Type 0} (names : Names R) (c : Coming) (before after : Devices) (r : R) (last : List ℕ) : Type 0 where
  pub fault : (r ≡ names.source) ⊎ (r ≡ names.sink)
  pub going : c.state.machine.ending ≡ None
  -- the sinks gained what the steps so far wrote, and then a front of what the next one writes
  pub output : AppendsThenPrefix before.output.held after.output.held c.state.output c.next.output
  pub error_front : ℕ
  pub error : Appends before.error.held after.error.held ((c.state.error ++ take error_front c.next.error) ++ last)
  -- and nothing of that but what was told of it before, where the source failed
  pub source : r ≡ names.source → Appends before.output.held after.output.held c.state.output × Appends before.error.held after.error.held (c.begun ++ last)
  -- what that step writes to the output comes before what it writes to the errors, as the line of a call comes behind the call's output: where
  -- the output failed, the errors hold nothing of it but what was told before; where they failed behind that, the output has all of it
  pub output_failed : (after.output.faults ≡ before.output.faults → ⊥) → Appends before.error.held after.error.held (c.begun ++ last)
  pub error_failed : (after.error.faults ≡ before.error.faults → ⊥) → FailedAtLine c last before after ⊎ Appends before.output.held after.output.held (c.state.output ++ c.next.output)
  -- a sink to which that step gives nothing was not asked by it
  pub unasked : Unasked c.next (faults_of before) (faults_of after)
  -- of the input what those steps took is gone, and a front of what the next one reads
  pub taken : List ℕ
  pub no_more : length taken ≤ c.most
  pub input : Consumes (Some c.state.input) after.input.left taken

-- A source or a sink failed in a run: after so many steps, fewer than its limit.
pub record FailedAtStep {R : Type 0} (names : Names R) (run : Steps) (before after : Devices) (r : R) (last : List ℕ) : Type 0 where
  pub steps : ℕ
  pub fewer : steps < run.limit
  pub failed : StepFailed names (run.coming steps) before after r last
