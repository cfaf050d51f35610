use Rattle.std.proofs.Common.{ℕ, Option, Err, sym, ap, ◌∙◌, subst}
use Rattle.swi_outside.proofs.SourceLemmas.{rest_is}
use Rattle.swi_outside.specs.Told.{told_as}
use Rattle.swi_memory.specs.declared.word_range.WordRange.{WordRange}
use Rattle.swi_program.specs.Text.{TextData}
use Rattle.swi_calls.specs.declared.end.End.{End}
use Rattle.swi_calls.specs.declared.end.CallFault.{CallFault}
use Rattle.swi_profile.specs.Executions.{range_of}
use Rattle.swi_task.specs.Devices.{Devices}
use Rattle.swi_task.specs.Runs.{ending_by}
use Rattle.swi_file_commands.specs.RunFlat.{RunsFlat}
use Rattle.swi_file_commands.specs.RunProfile.{profile_command}
use Rattle.swi_file_commands.proofs.Profiling.{profile_broke, profile_done, profile_failed}
use Rattle.swi_file_commands.proofs.Running.{no_memory, refusal_of, run_to}
use Rattle.swi_file_commands.proofs.profile_file.run_profile.Goals as goal

pub returns-in_default-clause-ran : goal.returns-in_default-clause-ran
returns-in_default-clause-ran g c = λ d input rest read. rw (rest_is read) (no_memory (profile_command c.args.limits.now) c.args.prepared.now.program c.args.prepared.now.layout _)

pub returns-in_default-new-clause-ran : goal.returns-in_default-new-clause-ran
returns-in_default-new-clause-ran g c = λ d input rest read. rw (rest_is read) (no_memory (profile_command c.args.limits.now) c.args.prepared.now.program c.args.prepared.now.layout _)

pub returns-in-Err-SourceFault-clause-ran : goal.returns-in-Err-SourceFault-clause-ran
returns-in-Err-SourceFault-clause-ran g c = λ d input rest read.
    let before : Devices = run_to d (told_as (g.I.Source.state c.args.input.now) input) (g.O.Sink.state c.args.out.now) (g.E.Sink.state c.args.err.now) in
    let after : Devices = run_to before (told_as (g.I.Source.state c.run.new.input) rest) (g.O.Sink.state c.run.new.out) (g.E.Sink.state c.run.new.err) in
    let whole = c.in-Ok-new.ensures.range ∙ ap (λ (t : TextData). range_of t) c.text.ensures.value in
    subst (λ (f : CallFault). RunsFlat (profile_command c.args.limits.now) c.args.prepared.now.program c.args.prepared.now.layout before after (Err (refusal_of f))) c.in-Err-SourceFault.field-0-is
    (profile_failed c.args.limits.now c.args.prepared.now.program c.args.prepared.now.layout c.in-Ok.machine c.run.new.flat c.in-Ok-new.profile.range c.run.new.self.counts.items d
    (g.I.Source.state c.args.input.now) (g.I.Source.state c.run.new.input) (g.O.Sink.state c.args.out.now) (g.O.Sink.state c.run.new.out) (g.E.Sink.state c.args.err.now) (g.E.Sink.state c.run.new.err)
    input rest read c.in-Ok.ensures.machine whole c.in-Err-SourceFault.field-0 c.in-Err-SourceFault.ensures.profiled)

pub returns-in-Err-SinkFault-clause-ran : goal.returns-in-Err-SinkFault-clause-ran
returns-in-Err-SinkFault-clause-ran g c = λ d input rest read.
    let before : Devices = run_to d (told_as (g.I.Source.state c.args.input.now) input) (g.O.Sink.state c.args.out.now) (g.E.Sink.state c.args.err.now) in
    let after : Devices = run_to before (told_as (g.I.Source.state c.run.new.input) rest) (g.O.Sink.state c.run.new.out) (g.E.Sink.state c.run.new.err) in
    let whole = c.in-Ok-new.ensures.range ∙ ap (λ (t : TextData). range_of t) c.text.ensures.value in
    subst (λ (f : CallFault). RunsFlat (profile_command c.args.limits.now) c.args.prepared.now.program c.args.prepared.now.layout before after (Err (refusal_of f))) c.in-Err-SinkFault.field-0-is
    (profile_failed c.args.limits.now c.args.prepared.now.program c.args.prepared.now.layout c.in-Ok.machine c.run.new.flat c.in-Ok-new.profile.range c.run.new.self.counts.items d
    (g.I.Source.state c.args.input.now) (g.I.Source.state c.run.new.input) (g.O.Sink.state c.args.out.now) (g.O.Sink.state c.run.new.out) (g.E.Sink.state c.args.err.now) (g.E.Sink.state c.run.new.err)
    input rest read c.in-Ok.ensures.machine whole c.in-Err-SinkFault.field-0 c.in-Err-SinkFault.ensures.profiled)

pub write-requires-clause-long : goal.write-requires-clause-long
write-requires-clause-long g c = c.in-Ok-run.ensures.profiled.long ∙ ap (λ (r : WordRange). r.words) (sym c.in-Ok-run.ensures.range)

pub returns-in-Ok-write-clause-ran : goal.returns-in-Ok-write-clause-ran
returns-in-Ok-write-clause-ran g c = λ d input rest read.
    let whole = c.in-Ok-new.ensures.range ∙ ap (λ (t : TextData). range_of t) c.text.ensures.value in
    let written = rw c.in-Ok-run.ensures.range at c.in-Ok-write.ensures.written in
    let ends = c.ending_by.ensures ∙ ap (λ (x : Option End). ending_by x c.pc.result c.steps.result) c.ending.ensures
    ∙ ap (λ (n : ℕ). ending_by c.run.new.flat.machine.ending n c.steps.result) c.pc.ensures
    ∙ ap (λ (n : ℕ). ending_by c.run.new.flat.machine.ending c.run.new.flat.machine.pc n) c.steps.ensures in
    profile_done c.args.limits.now c.args.prepared.now.program c.args.prepared.now.layout c.in-Ok.machine c.run.new.flat c.in-Ok-new.profile.range c.run.new.self.counts.items d
    (g.I.Source.state c.args.input.now) (g.I.Source.state c.run.new.input) (g.O.Sink.state c.args.out.now) (g.O.Sink.state c.run.new.out) (g.E.Sink.state c.args.err.now) (g.E.Sink.state c.run.new.err)
    input rest read c.in-Ok.ensures.machine whole (g.O.Sink.state c.write.new.out) _ c.in-Ok-run.ensures.profiled ends written

pub returns-clause-ran : goal.returns-clause-ran
returns-clause-ran g c = λ d input rest read.
    let whole = c.in-Ok-new.ensures.range ∙ ap (λ (t : TextData). range_of t) c.text.ensures.value in
    let written = rw c.in-Ok-run.ensures.range at c.in-Err.ensures.written in
    let asked = rw c.in-Ok-run.ensures.range at c.in-Err.ensures.asked in
    profile_broke c.args.limits.now c.args.prepared.now.program c.args.prepared.now.layout c.in-Ok.machine c.run.new.flat c.in-Ok-new.profile.range c.run.new.self.counts.items d
    (g.I.Source.state c.args.input.now) (g.I.Source.state c.run.new.input) (g.O.Sink.state c.args.out.now) (g.O.Sink.state c.run.new.out) (g.E.Sink.state c.args.err.now) (g.E.Sink.state c.run.new.err)
    input rest read c.in-Ok.ensures.machine whole (g.O.Sink.state c.write.new.out) c.in-Ok-run.ensures.profiled written asked
