-- The commands that run a file's program on the flat machine, and tell of the run behind the program's own bytes.
use Rattle.std.specs.Prelude.{◌≡◌, ◌⊎◌, ℕ, List, [], ◌∷◌, Some, None, Result, ⊤, true}
use Rattle.swi_memory.specs.declared.layout.Layout.{Layout}
use Rattle.swi_program.specs.Program.{ProgramData}
use Rattle.swi_program.specs.ProgramOf.{program_of_file}
use Rattle.swi_command.specs.declared.command.RunLimits.{RunLimits}
use Rattle.swi_command.specs.declared.command.RunOptions.{RunOptions}
use Rattle.swi_calls.specs.Call.{room_of_call}
use Rattle.swi_calls.specs.Flat.{flat_run, flat_start}
use Rattle.swi_calls.specs.State.{FlatState}
use Rattle.swi_flat.specs.FlatData.{next_made}
use Rattle.swi_answer.specs.declared.answer.Ending.{Ending}
use Rattle.swi_answer.specs.declared.answer.Refusal.{Refusal}
use Rattle.swi_answer.specs.declared.answer.Refusal.TheVariants as refusal
use Rattle.swi_task.specs.Checks.{NoCache, Check, IsShort, IsAcceptedElf, HasRoom, IsAcceptedImage, IsOwnImage}
use Rattle.swi_task.specs.Devices.{Devices}
use Rattle.swi_outcome.specs.Broken.{Coming, Steps}
use Rattle.swi_task.specs.Over.{RanOver}
use Rattle.swi_task.specs.Runs.{Ran, FailedAtStep, FailedAfterRun, start_of}
use Rattle.swi_task.specs.Task.{Task}

-- such a command, as data: the options of its run, and what it tells of a program that starts from a state
pub record FlatCommand : Type 0 where
  pub options : RunOptions
  pub told : ProgramData → FlatState → List ℕ

-- the most steps
abbrev pub limit_of : FlatCommand → ℕ
limit_of c = c.options.limits.steps

-- the file's program with this input, after so many steps
abbrev pub run_of : FlatCommand → List ℕ → List ℕ → ℕ → FlatState
run_of c file input n = flat_run n (start_of c.options file input)

-- what is told of it
abbrev pub told_of : FlatCommand → List ℕ → List ℕ → List ℕ
told_of c file input = c.told (program_of_file file) (start_of c.options file input)

abbrev pub Runs : FlatCommand → List ℕ → List ℕ → Devices → Devices → Ending → List ℕ → Type 0
Runs c file input before after e last = Ran (run_of c file input (limit_of c)) (told_of c file input) before after e last

-- the most bytes that the next step takes: those of the read that its registers ask for
abbrev pub read_room_of : FlatState → ℕ
read_room_of s = room_of_call s.machine.regs s.machine.bus

-- a state with its next step, which isn't told of before it is made
abbrev pub flat_coming : FlatState → Coming
flat_coming s = record { state = s; begun = s.error; next = next_made s; most = read_room_of s }

-- a run of such states
abbrev pub untold_steps : (ℕ → FlatState) → ℕ → Steps
untold_steps run limit = record { coming = λ n. flat_coming (run n); limit = limit }

-- a source or a sink failed, in the run or behind it
abbrev pub RunFailed : FlatCommand → List ℕ → List ℕ → Devices → Devices → Refusal → List ℕ → Type 0
RunFailed c file input before after r last =
    FailedAtStep (untold_steps (run_of c file input) (limit_of c)) before after r last
    ⊎ FailedAfterRun (run_of c file input (limit_of c)) (told_of c file input) [] before after r last

abbrev pub flat_checks : RunLimits → List ℕ → List Check
flat_checks limits file = IsShort file ∷ IsAcceptedElf file ∷ HasRoom file limits ∷ IsAcceptedImage file ∷ IsOwnImage file ∷ []

abbrev pub flat_task : List ℕ → FlatCommand → Task
flat_task name c = record {
  reads = name ∷ [];
  Files = List ℕ;
  contents = λ file. file ∷ [];
  writes = None;
  takes_input = true;
  caches = NoCache;
  checks = flat_checks c.options.limits;
  before_next = λ file. [];
  ends = λ e. ⊤;
  does = λ file before after e last. (input : List ℕ) → before.input.left ≡ Some input → Runs c file input before after e last;
  fails = λ file before after r last. (input : List ℕ) → before.input.left ≡ Some input → RunFailed c file input before after r last;
}

-- ---- as its functions say it

abbrev pub start_from : FlatCommand → ProgramData → Layout → List ℕ → FlatState
start_from c p l input = flat_start p l c.options.reports.calls input

abbrev pub run_from : FlatCommand → ProgramData → Layout → List ℕ → ℕ → FlatState
run_from c p l input n = flat_run n (start_from c p l input)

-- why such a run is refused
abbrev pub IsFlatErr : Refusal → Type 0
IsFlatErr refusal.SourceFault = ⊤
IsFlatErr refusal.SinkFault = ⊤
IsFlatErr refusal.Memory = ⊤
IsFlatErr _ = ⊥

-- what it does, whatever its input tells
abbrev pub RunsFlat : FlatCommand → ProgramData → Layout → Devices → Devices → Result Ending Refusal → Type 0
RunsFlat c p l before after result = RanOver IsFlatErr
    (λ e. (input : List ℕ) → before.input.left ≡ Some input → Ran (run_from c p l input (limit_of c)) (c.told p (start_from c p l input)) before after e [])
    (λ r. (input : List ℕ) → before.input.left ≡ Some input →
    FailedAtStep (untold_steps (run_from c p l input) (limit_of c)) before after r []
    ⊎ FailedAfterRun (run_from c p l input (limit_of c)) (c.told p (start_from c p l input)) [] before after r [])
    before after result
