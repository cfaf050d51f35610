use Rattle.std.proofs.Common.{◌≡◌, ℕ, List, [], Option, Err, sym, ap, ◌∙◌, subst}
use Rattle.std.specs.Io.KnownBytes.{Appends}
use Rattle.swi_outside.specs.Sink.{AppendsPrefix}
use Rattle.swi_outside.proofs.SourceLemmas.{given_still, rest_is}
use Rattle.swi_outside.specs.Devices as streams
use Rattle.swi_outside.specs.Told.{told_as}
use Rattle.swi_calls.specs.declared.end.End.{End}
use Rattle.swi_calls.specs.declared.end.CallFault.{CallFault}
use Rattle.swi_answer.specs.declared.answer.Refusal.TheVariants as refusal
use Rattle.swi_flat.proofs.ToldRuns.{ran_as_told}
use Rattle.swi_task.specs.Devices.{Devices}
use Rattle.swi_file_commands.specs.RunFlat.{RunsFlat}
use Rattle.swi_file_commands.specs.RunPlain.{plain_command}
use Rattle.swi_task.specs.Runs.{ending_by}
use Rattle.swi_file_commands.proofs.Running.{no_memory, plain_told, refusal_of, run_done, run_failed, run_to, told_failed}
use Rattle.swi_file_commands.proofs.run_plain.run_plain.Goals as goal

pub returns-in_default-clause-gave : goal.returns-in_default-clause-gave
returns-in_default-clause-gave g c = given_still _

pub returns-in_default-clause-ran : goal.returns-in_default-clause-ran
returns-in_default-clause-ran g c = λ d input rest read.
    let before : Devices = record d { input = told_as (g.I.Source.state c.args.input.now) input; output = g.O.Sink.state c.args.out.now; error = g.E.Sink.state c.args.err.now } in
    subst (λ (l : List ℕ). RunsFlat (plain_command c.args.options.now) c.args.prepared.now.program c.args.prepared.now.layout before (record before { input = told_as (g.I.Source.state c.args.input.now) l }) (Err refusal.Memory)) (sym (rest_is read)) (no_memory (plain_command c.args.options.now) c.args.prepared.now.program c.args.prepared.now.layout before)

pub returns-in-Err-SourceFault-clause-gave : goal.returns-in-Err-SourceFault-clause-gave
returns-in-Err-SourceFault-clause-gave g c = c.in-Err-SourceFault.ensures.gave

pub returns-in-Err-SourceFault-clause-ran : goal.returns-in-Err-SourceFault-clause-ran
returns-in-Err-SourceFault-clause-ran g c = λ d input rest read.
    let before : Devices = record d { input = told_as (g.I.Source.state c.args.input.now) input; output = g.O.Sink.state c.args.out.now; error = g.E.Sink.state c.args.err.now } in
    let from : streams.Devices = record { input = g.I.Source.state c.args.input.now; output = g.O.Sink.state c.args.out.now; error = g.E.Sink.state c.args.err.now } in
    let to : streams.Devices = record { input = g.I.Source.state c.run.new.input; output = g.O.Sink.state c.run.new.out; error = g.E.Sink.state c.run.new.err } in
    let e = c.in-Err-SourceFault.ensures in
    let after : Devices = run_to before (told_as (g.I.Source.state c.run.new.input) rest) (g.O.Sink.state c.run.new.out) (g.E.Sink.state c.run.new.err) in
    subst (λ (f : CallFault). RunsFlat (plain_command c.args.options.now) c.args.prepared.now.program c.args.prepared.now.layout before after (Err (refusal_of f))) c.in-Err-SourceFault.field-0-is
    (run_failed c.in-Err-SourceFault.field-0 (plain_command c.args.options.now) c.args.prepared.now.program c.args.prepared.now.layout c.in-Ok.machine c.run.new.self before (told_as (g.I.Source.state c.run.new.input) rest) (g.O.Sink.state c.run.new.out) (g.E.Sink.state c.run.new.err)
    c.in-Ok.ensures.machine (ran_as_told c.in-Ok.machine.machine c.args.options.now.limits.steps c.run.new.self from to _ e input rest read))

pub returns-in-Err-SinkFault-clause-gave : goal.returns-in-Err-SinkFault-clause-gave
returns-in-Err-SinkFault-clause-gave g c = c.in-Err-SinkFault.ensures.gave

pub returns-in-Err-SinkFault-clause-ran : goal.returns-in-Err-SinkFault-clause-ran
returns-in-Err-SinkFault-clause-ran g c = λ d input rest read.
    let before : Devices = record d { input = told_as (g.I.Source.state c.args.input.now) input; output = g.O.Sink.state c.args.out.now; error = g.E.Sink.state c.args.err.now } in
    let from : streams.Devices = record { input = g.I.Source.state c.args.input.now; output = g.O.Sink.state c.args.out.now; error = g.E.Sink.state c.args.err.now } in
    let to : streams.Devices = record { input = g.I.Source.state c.run.new.input; output = g.O.Sink.state c.run.new.out; error = g.E.Sink.state c.run.new.err } in
    let e = c.in-Err-SinkFault.ensures in
    let after : Devices = run_to before (told_as (g.I.Source.state c.run.new.input) rest) (g.O.Sink.state c.run.new.out) (g.E.Sink.state c.run.new.err) in
    subst (λ (f : CallFault). RunsFlat (plain_command c.args.options.now) c.args.prepared.now.program c.args.prepared.now.layout before after (Err (refusal_of f))) c.in-Err-SinkFault.field-0-is
    (run_failed c.in-Err-SinkFault.field-0 (plain_command c.args.options.now) c.args.prepared.now.program c.args.prepared.now.layout c.in-Ok.machine c.run.new.self before (told_as (g.I.Source.state c.run.new.input) rest) (g.O.Sink.state c.run.new.out) (g.E.Sink.state c.run.new.err)
    c.in-Ok.ensures.machine (ran_as_told c.in-Ok.machine.machine c.args.options.now.limits.steps c.run.new.self from to _ e input rest read))

pub returns-in-Ok-write_report-clause-gave : goal.returns-in-Ok-write_report-clause-gave
returns-in-Ok-write_report-clause-gave g c = c.in-Ok-run.ensures.gave

pub returns-in-Ok-write_report-clause-ran : goal.returns-in-Ok-write_report-clause-ran
returns-in-Ok-write_report-clause-ran g c = λ d input rest read.
    let before : Devices = record d { input = told_as (g.I.Source.state c.args.input.now) input; output = g.O.Sink.state c.args.out.now; error = g.E.Sink.state c.args.err.now } in
    let from : streams.Devices = record { input = g.I.Source.state c.args.input.now; output = g.O.Sink.state c.args.out.now; error = g.E.Sink.state c.args.err.now } in
    let to : streams.Devices = record { input = g.I.Source.state c.run.new.input; output = g.O.Sink.state c.run.new.out; error = g.E.Sink.state c.run.new.err } in
    let e = c.in-Ok-run.ensures in
    let written = rw (c.final_state.ensures.pc, c.final_state.ensures.steps, c.final_state.ensures.regs, c.final_state.ensures.bus, c.final_state.ensures.heap) at c.in-Ok-write_report.ensures.bytes in
    let ends = c.ending_by.ensures ∙ ap (λ (x : Option End). ending_by x c.pc.result c.steps.result) c.ending.ensures
    ∙ ap (λ (n : ℕ). ending_by c.run.new.self.machine.ending n c.steps.result) c.pc.ensures
    ∙ ap (λ (n : ℕ). ending_by c.run.new.self.machine.ending c.run.new.self.machine.pc n) c.steps.ensures in
    let o = c.args.options.now in
    let p = c.args.prepared.now.program in
    let l = c.args.prepared.now.layout in
    let ran = ran_as_told c.in-Ok.machine.machine o.limits.steps c.run.new.self from to _ e input rest read in
    run_done (plain_command o) p l c.in-Ok.machine c.run.new.self before (told_as (g.I.Source.state c.run.new.input) rest) (g.O.Sink.state c.run.new.out) (g.O.Sink.state c.write_report.new.out) (g.E.Sink.state c.run.new.err) _
    c.in-Ok.ensures.machine ran ends
    (λ left told. subst (λ (t : List ℕ). Appends (g.O.Sink.state c.run.new.out).held (g.O.Sink.state c.write_report.new.out).held t) (plain_told o p l c.in-Ok.machine c.run.new.self left c.in-Ok.ensures.machine (ran.machine left told)) written)
    c.in-Ok-write_report.ensures.cause.quiet

pub returns-clause-gave : goal.returns-clause-gave
returns-clause-gave g c = c.in-Ok-run.ensures.gave

pub returns-clause-ran : goal.returns-clause-ran
returns-clause-ran g c = λ d input rest read.
    let before : Devices = record d { input = told_as (g.I.Source.state c.args.input.now) input; output = g.O.Sink.state c.args.out.now; error = g.E.Sink.state c.args.err.now } in
    let from : streams.Devices = record { input = g.I.Source.state c.args.input.now; output = g.O.Sink.state c.args.out.now; error = g.E.Sink.state c.args.err.now } in
    let to : streams.Devices = record { input = g.I.Source.state c.run.new.input; output = g.O.Sink.state c.run.new.out; error = g.E.Sink.state c.run.new.err } in
    let e = c.in-Ok-run.ensures in
    let part = rw (c.final_state.ensures.pc, c.final_state.ensures.steps, c.final_state.ensures.regs, c.final_state.ensures.bus, c.final_state.ensures.heap) at c.in-Err.ensures.bytes in
    let due = rw (c.final_state.ensures.pc, c.final_state.ensures.steps, c.final_state.ensures.regs, c.final_state.ensures.bus, c.final_state.ensures.heap) at c.in-Err.ensures.asked in
    let o = c.args.options.now in
    let p = c.args.prepared.now.program in
    let l = c.args.prepared.now.layout in
    let ran = ran_as_told c.in-Ok.machine.machine o.limits.steps c.run.new.self from to _ e input rest read in
    told_failed (plain_command o) p l c.in-Ok.machine c.run.new.self before (told_as (g.I.Source.state c.run.new.input) rest) (g.O.Sink.state c.run.new.out) (g.O.Sink.state c.write_report.new.out) (g.E.Sink.state c.run.new.err)
    c.in-Ok.ensures.machine ran
    (λ left told.
    let same = plain_told o p l c.in-Ok.machine c.run.new.self left c.in-Ok.ensures.machine (ran.machine left told) in (
      subst (λ (t : List ℕ). AppendsPrefix (g.O.Sink.state c.run.new.out).held (g.O.Sink.state c.write_report.new.out).held t) same part,
      subst (λ (t : List ℕ). t ≡ [] → ⊥) same due,
    ))
    c.in-Err.ensures.cause.later c.in-Err.ensures.cause.failed
