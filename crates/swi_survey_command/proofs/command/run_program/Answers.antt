use Rattle.std.proofs.Common.{◌≡◌, ◌≤◌, ℕ, List, Ok, Err, length, refl, arith, subst}
use Rattle.std.specs.Io.KnownBytes.{Appends}
use Rattle.std.specs.Prelude.{map}
use Rattle.swi_outside.specs.Sink.{AppendsPrefix}
use Rattle.swi_outside.specs.Told.{told_as}
use Rattle.swi_outside.proofs.SourceLemmas.{rest_is}
use Rattle.swi_cached_task.specs.Caching.{work_of}
use Rattle.swi_file_commands.proofs.Running.{run_to}
use Rattle.swi_survey.specs.Survey as survey
use Rattle.swi_survey_command.specs.RunSurvey.{run_through, survey_from, survey_lines}
use Rattle.swi_survey_command.proofs.Counting.{counts_as, lines_are, lines_some, run_as}
use Rattle.swi_survey_command.proofs.Sizes.{are_frames}
use Rattle.swi_survey_command.proofs.Surveying.{came, lines_broke, no_memory, run_stopped, streams, survey_done}
use Rattle.swi_survey_command.proofs.command.run_program.Goals as goal

pub returns-in_default-clause-ran : goal.returns-in_default-clause-ran
returns-in_default-clause-ran g c = λ d input rest read. rw (rest_is read) (no_memory _ _)

pub run_survey-ran-requires-clause-frames : goal.run_survey-ran-requires-clause-frames
run_survey-ran-requires-clause-frames g c =
    let words = c.block_words.ensures.value in
    let some : 2 ≤ c.args.image.now.block_words = omega (arith, c.block_words.ensures.least, words) in
    let most : c.args.image.now.block_words ≤ 1024 = omega (arith, c.block_words.ensures.most, words) in
    rw (c.deref.ensures.value, c.in-Ok.ensures, words) (are_frames c.args.kind c.args.image.now.block_words c.args.sizes.now some most c.requires.held)

pub returns-in-Err-clause-ran : goal.returns-in-Err-clause-ran
returns-in-Err-clause-ran g c = λ d input rest read.
    let h = rw (c.deref.ensures.value, c.in-Ok.ensures, c.block_words.ensures.value) at c.in-Err.ensures in
    rw c.refusal_of.ensures (run_stopped c.args.kind c.args.sizes.now c.args.limits.now c.args.image.now c.args.program.now c.args.layout.now d (g.I.Source.state c.args.input.now) (g.I.Source.state c.run_survey-ran.new.input)
    (g.O.Sink.state c.args.out.now) (g.O.Sink.state c.run_survey-ran.new.out) (g.E.Sink.state c.args.err.now) (g.E.Sink.state c.run_survey-ran.new.err) c.in-Err.stop input rest read h)

pub returns-in-Ok-write_rows-clause-ran : goal.returns-in-Ok-write_rows-clause-ran
returns-in-Ok-write_rows-clause-ran g c = λ d input rest read.
    let h = rw (c.deref.ensures.value, c.in-Ok.ensures, c.block_words.ensures.value) at c.in-Ok-ran.ensures in
    let s = c.in-Ok-ran.surveyed in
    let all = survey_from c.args.kind c.args.sizes.now c.args.limits.now c.args.image.now c.args.program.now c.args.layout.now in
    let middle = g.O.Sink.state c.run_survey-ran.new.out in
    let out = g.O.Sink.state c.write_rows.new.out in
    let ends = came c.args.kind c.args.sizes.now c.args.limits.now c.args.image.now c.args.program.now c.args.layout.now d (g.I.Source.state c.args.input.now) (g.I.Source.state c.run_survey-ran.new.input)
    (g.O.Sink.state c.args.out.now) middle (g.E.Sink.state c.args.err.now) (g.E.Sink.state c.run_survey-ran.new.err) s input rest read h in
    let counts = counts_as c.args.kind c.args.sizes.now c.args.limits.now c.args.image.now c.args.program.now c.args.layout.now input s (h.told input rest read) in
    let wrote = c.in-Ok-write_rows.ensures (λ bytes. work_of (run_through (all input) bytes)) counts in
    let written = subst (λ (l : List ℕ). Appends middle.held out.held l) (lines_are (all input) s.steps ends.steps) wrote.bytes in
    survey_done all (run_to d (told_as (g.I.Source.state c.args.input.now) input) (g.O.Sink.state c.args.out.now) (g.E.Sink.state c.args.err.now))
    (run_to d (told_as (g.I.Source.state c.run_survey-ran.new.input) rest) middle (g.E.Sink.state c.run_survey-ran.new.err)) out s c.ending_by.result input refl refl refl ends c.ending_by.ensures written wrote.cause.quiet

pub returns-clause-ran : goal.returns-clause-ran
returns-clause-ran g c = λ d input rest read.
    let h = rw (c.deref.ensures.value, c.in-Ok.ensures, c.block_words.ensures.value) at c.in-Ok-ran.ensures in
    let s = c.in-Ok-ran.surveyed in
    let all = survey_from c.args.kind c.args.sizes.now c.args.limits.now c.args.image.now c.args.program.now c.args.layout.now in
    let middle = g.O.Sink.state c.run_survey-ran.new.out in
    let out = g.O.Sink.state c.write_rows.new.out in
    let ends = came c.args.kind c.args.sizes.now c.args.limits.now c.args.image.now c.args.program.now c.args.layout.now d (g.I.Source.state c.args.input.now) (g.I.Source.state c.run_survey-ran.new.input)
    (g.O.Sink.state c.args.out.now) middle (g.E.Sink.state c.args.err.now) (g.E.Sink.state c.run_survey-ran.new.err) s input rest read h in
    let counts = counts_as c.args.kind c.args.sizes.now c.args.limits.now c.args.image.now c.args.program.now c.args.layout.now input s (h.told input rest read) in
    let wrote = c.in-Err-write_rows.ensures (λ bytes. work_of (run_through (all input) bytes)) counts in
    let part = subst (λ (l : List ℕ). AppendsPrefix middle.held out.held l) (lines_are (all input) s.steps ends.steps) wrote.bytes in
    lines_broke all (run_to d (told_as (g.I.Source.state c.args.input.now) input) (g.O.Sink.state c.args.out.now) (g.E.Sink.state c.args.err.now))
    (run_to d (told_as (g.I.Source.state c.run_survey-ran.new.input) rest) middle (g.E.Sink.state c.run_survey-ran.new.err)) out s input refl refl refl ends part (lines_some (all input) c.requires.sizes.some) wrote.cause.later wrote.cause.failed
