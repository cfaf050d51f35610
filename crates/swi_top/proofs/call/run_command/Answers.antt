use Rattle.swi_outside.specs.Told.{told_as}
use Rattle.swi_command.specs.CommandLine.{request_of}
use Rattle.swi_answer.specs.declared.answer.Refusal.TheVariants as refusal
use Rattle.swi_task.specs.Devices.{Devices, seen}
use Rattle.swi_top.specs.Tasks.{task_of}
use Rattle.swi_top.proofs.Lined.{lined}
use Rattle.swi_task.proofs.Lines.{ended_line, ending_failed, refused_line, told_to}
use Rattle.swi_top.proofs.call.run_command.Goals as goal

pub returns-in-Ok-write_ending-clause-gave : goal.returns-in-Ok-write_ending-clause-gave
returns-in-Ok-write_ending-clause-gave g c = c.perform.ensures.gave

pub returns-in-Ok-write_ending-clause-answers : goal.returns-in-Ok-write_ending-clause-answers
returns-in-Ok-write_ending-clause-answers g c = λ input rest was.
    let middle : Devices = seen (g.F.Shelf.state c.perform.new.shelf) (told_as (g.I.Source.state c.perform.new.input) rest) (g.O.Sink.state c.perform.new.out) (g.E.Sink.state c.perform.new.err) (g.R.CacheRam.state c.perform.new.ram) in
    ended_line (task_of (request_of c.args.command.now)) (lined (request_of c.args.command.now)) _ middle c.in-Ok.ending (g.E.Sink.state c.write_ending.new.err)
    c.in-Ok-write_ending.ensures.cause.quiet (c.in-Ok.ensures.answers input rest was) c.in-Ok-write_ending.ensures.bytes c.in-Ok-write_ending.ensures.unasked

pub returns-in-Err-write_ending-clause-gave : goal.returns-in-Err-write_ending-clause-gave
returns-in-Err-write_ending-clause-gave g c = c.perform.ensures.gave

pub returns-in-Err-write_ending-clause-answers : goal.returns-in-Err-write_ending-clause-answers
returns-in-Err-write_ending-clause-answers g c = λ input rest was.
    let middle : Devices = seen (g.F.Shelf.state c.perform.new.shelf) (told_as (g.I.Source.state c.perform.new.input) rest) (g.O.Sink.state c.perform.new.out) (g.E.Sink.state c.perform.new.err) (g.R.CacheRam.state c.perform.new.ram) in
    rw c.refuse.ensures.same
    (refused_line (task_of (request_of c.args.command.now)) (lined (request_of c.args.command.now)) _ (told_to middle (g.E.Sink.state c.write_ending.new.err)) refusal.SinkFault
    (g.E.Sink.state c.refuse.new.err)
    (ending_failed (task_of (request_of c.args.command.now)) (lined (request_of c.args.command.now)) _ middle c.in-Ok.ending (g.E.Sink.state c.write_ending.new.err)
    (c.in-Ok.ensures.answers input rest was) c.in-Err-write_ending.ensures.bytes c.in-Err-write_ending.ensures.asked c.in-Err-write_ending.ensures.cause.later c.in-Err-write_ending.ensures.cause.failed)
    c.refuse.ensures.line c.refuse.ensures.later)

pub returns-in-Err-clause-gave : goal.returns-in-Err-clause-gave
returns-in-Err-clause-gave g c = c.perform.ensures.gave

pub returns-in-Err-clause-answers : goal.returns-in-Err-clause-answers
returns-in-Err-clause-answers g c = λ input rest was.
    let middle : Devices = seen (g.F.Shelf.state c.perform.new.shelf) (told_as (g.I.Source.state c.perform.new.input) rest) (g.O.Sink.state c.perform.new.out) (g.E.Sink.state c.perform.new.err) (g.R.CacheRam.state c.perform.new.ram) in
    rw c.refuse-in-Err.ensures.same
    (refused_line (task_of (request_of c.args.command.now)) (lined (request_of c.args.command.now)) _ middle c.in-Err.refusal (g.E.Sink.state c.refuse-in-Err.new.err)
    (c.in-Err.ensures.answers input rest was) c.refuse-in-Err.ensures.line c.refuse-in-Err.ensures.later)
