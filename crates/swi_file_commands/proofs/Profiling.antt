-- A run whose executions are counted, and what `profile` tells of it.
use Rattle.std.proofs.Common.{◌≡◌, ℕ, ◌-◌, List, [], length, Some, Ok, Err, false, refl, ap, ◌∙◌, subst, arith}
use Rattle.std.specs.Io.KnownBytes.{Appends}
use Rattle.swi_outside.specs.Devices as outside
use Rattle.swi_outside.specs.declared.failure.Failed.{Failed}
use Rattle.swi_outside.specs.Sink.{AppendsPrefix, SinkState, WasWritten}
use Rattle.swi_outside.specs.Source.{ReadFrom, SourceState}
use Rattle.swi_outside.specs.Told.{told_as}
use Rattle.swi_memory.specs.declared.layout.Layout.{Layout}
use Rattle.swi_memory.specs.declared.word_range.WordRange.{WordRange}
use Rattle.swi_program.specs.Program.{ProgramData}
use Rattle.swi_program.specs.Text.{TextData, text_of}
use Rattle.swi_calls.specs.Flat.{flat_start, machine_of, started}
use Rattle.swi_calls.specs.State.{FlatState}
use Rattle.swi_calls.specs.declared.end.CallFault.{CallFault}
use Rattle.swi_flat.specs.FlatData.{FlatData, state_at, unfailed}
use Rattle.swi_flat.proofs.ToldRuns.{ran_as_told}
use Rattle.swi_command.specs.declared.command.RunLimits.{RunLimits}
use Rattle.swi_answer.specs.declared.answer.Ending.{Ending}
use Rattle.swi_answer.specs.declared.answer.Refusal.TheVariants as refusal
use Rattle.swi_profile.specs.Executions.{AreCounts, executions, lines_of, range_of}
use Rattle.swi_profile.specs.Profiled.{Profiled}
use Rattle.swi_task.specs.Devices.{Devices}
use Rattle.swi_task.specs.Runs.{ending_by}
use Rattle.swi_file_commands.specs.RunFlat.{RunsFlat, start_from}
use Rattle.swi_file_commands.specs.RunProfile.{profile_command}
use Rattle.swi_file_commands.proofs.Running.{refusal_of, run_done, run_failed, run_to, start_same, told_failed}

-- the steps of a run that has made none before it
steps_are : (limits : RunLimits) (p : ProgramData) (l : Layout) (first new : FlatData) (left : List ℕ) → first ≡ unfailed (machine_of p l false) →
    new ≡ unfailed (state_at limits.steps first.machine left).machine → new.machine.steps - 0 ≡ (state_at limits.steps (machine_of p l false) left).machine.steps
steps_are limits p l first new left first_is is =
    let one : new.machine.steps ≡ (state_at limits.steps first.machine left).machine.steps = ap (λ (f : FlatData). f.machine.steps) is in
    let other : (state_at limits.steps first.machine left).machine.steps ≡ (state_at limits.steps (machine_of p l false) left).machine.steps =
    ap (λ (f : FlatData). (state_at limits.steps f.machine left).machine.steps) first_is in
    omega (arith, one, other)

-- the lines of its counts are those that are told
lines_are : (limits : RunLimits) (p : ProgramData) (l : Layout) (first new : FlatData) (range : WordRange) (left : List ℕ) → first ≡ unfailed (machine_of p l false) →
    new ≡ unfailed (state_at limits.steps first.machine left).machine → range ≡ range_of (text_of p.segments) →
    lines_of range.from range.words (executions (new.machine.steps - first.machine.steps) (started first.machine left))
    ≡ (profile_command limits).told p (start_from (profile_command limits) p l left)
lines_are limits p l first new range left first_is is whole =
    let t : TextData = text_of p.segments in
    let s : FlatState = flat_start p l false left in
    let told : ℕ → List ℕ = λ n. lines_of t.base (length t.words) (executions n s) in
    let none = start_same (profile_command limits) p l (unfailed (machine_of p l false)) limits.steps left refl in
    ap (λ (r : WordRange). lines_of r.from r.words (executions (new.machine.steps - first.machine.steps) (started first.machine left))) whole
    ∙ ap (λ (f : FlatData). lines_of t.base (length t.words) (executions (new.machine.steps - f.machine.steps) (started f.machine left))) first_is
    ∙ ap told (steps_are limits p l first new left first_is is) ∙ ap (λ (q : FlatState). told q.machine.steps) none

module _ (limits : RunLimits) (p : ProgramData) (l : Layout) (first new : FlatData) (range : WordRange) (counts : List ℕ) (d : Devices) (i j : SourceState) (o mid e f : SinkState) (input rest : List ℕ)
    (read : ReadFrom i j input rest) (first_is : first ≡ unfailed (machine_of p l false)) (whole : range ≡ range_of (text_of p.segments)) where
  abbrev before : Devices
  before = run_to d (told_as i input) o e

  abbrev streams : SourceState → SinkState → SinkState → outside.Devices
  streams i o e = record { input = i; output = o; error = e }

  same_left : (left : List ℕ) → before.input.left ≡ Some left → input ≡ left
  same_left left told = let same : Some input ≡ Some left = told in cc

  -- it came to its end, and its lines were written
  pub profile_done : {u v : Unit} (out : SinkState) (x : Ending) → Profiled first.machine limits.steps new range counts (streams i o e) (streams j mid f) (Ok u) →
      x ≡ ending_by new.machine.ending new.machine.pc new.machine.steps →
      ((count : ℕ → ℕ) → AreCounts range counts count → WasWritten {E = Failed} mid out (Ok v) (lines_of range.from range.words count)) →
      RunsFlat (profile_command limits) p l before (run_to before (told_as j rest) out f) (Ok x)
  profile_done out x h ends written =
      let ran = ran_as_told first.machine limits.steps new (streams i o e) (streams j mid f) _ h.ran input rest read in
      let counted = written (executions (new.machine.steps - first.machine.steps) (started first.machine input)) (h.counted input rest read) in
      run_done (profile_command limits) p l first new before (told_as j rest) mid out f x first_is ran ends
      (λ left told. subst (λ (y : List ℕ). Appends mid.held out.held ((profile_command limits).told p (start_from (profile_command limits) p l y))) (same_left left told)
      (subst (λ (y : List ℕ). Appends mid.held out.held y) (lines_are limits p l first new range input first_is (ran.machine input refl) whole) counted.bytes))
      counted.cause.quiet

  -- or not to their end
  pub profile_broke : {u : Unit} {x : Failed} (out : SinkState) → Profiled first.machine limits.steps new range counts (streams i o e) (streams j mid f) (Ok u) →
      ((count : ℕ → ℕ) → AreCounts range counts count → WasWritten mid out (Err x) (lines_of range.from range.words count)) →
      ((count : ℕ → ℕ) → AreCounts range counts count → lines_of range.from range.words count ≡ [] → ⊥) →
      RunsFlat (profile_command limits) p l before (run_to before (told_as j rest) out f) (Err refusal.SinkFault)
  profile_broke out h written asked =
      let ran = ran_as_told first.machine limits.steps new (streams i o e) (streams j mid f) _ h.ran input rest read in
      let count : ℕ → ℕ = executions (new.machine.steps - first.machine.steps) (started first.machine input) in
      let counted = written count (h.counted input rest read) in
      let same = lines_are limits p l first new range input first_is (ran.machine input refl) whole in
      told_failed (profile_command limits) p l first new before (told_as j rest) mid out f first_is ran
      (λ left told. subst
      (λ (y : List ℕ). AppendsPrefix mid.held out.held ((profile_command limits).told p (start_from (profile_command limits) p l y)) × ((profile_command limits).told p (start_from (profile_command limits) p l y) ≡ [] → ⊥))
      (same_left left told)
      (subst (λ (y : List ℕ). AppendsPrefix mid.held out.held y × (y ≡ [] → ⊥)) same (counted.bytes, asked count (h.counted input rest read))))
      counted.cause.later counted.cause.failed

  -- a device failed in it
  pub profile_failed : (x : CallFault) → Profiled first.machine limits.steps new range counts (streams i o e) (streams j mid f) (Err x) →
      RunsFlat (profile_command limits) p l before (run_to before (told_as j rest) mid f) (Err (refusal_of x))
  profile_failed x h =
      run_failed x (profile_command limits) p l first new before (told_as j rest) mid f first_is
      (ran_as_told first.machine limits.steps new (streams i o e) (streams j mid f) _ h.ran input rest read)
