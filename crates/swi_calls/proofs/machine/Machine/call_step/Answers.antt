use Rattle.std.proofs.Common.{sym, ◌∙◌, rules}
use Rattle.std.proofs.lemmas.Result.{err_from_is_err_and}
use Rattle.std.specs.Io.KnownBytes.{Appends}
use Rattle.swi_outside.specs.Sink.{AppendsPrefix}
use Rattle.swi_outside.proofs.SinkLemmas.{write_failed, write_done}
use Rattle.swi_calls.specs.Call.{called, request_of}
use Rattle.swi_calls.proofs.CallLemmas.{call_failed, line_failed, line_told, line_as}
use Rattle.swi_calls.proofs.TextLemmas.{moved_text}
use Rattle.swi_calls.proofs.machine.Machine.call_step.Goals as goal

pub returns-in_err-called-clause-text : goal.returns-in_err-called-clause-text
returns-in_err-called-clause-text g c =
    moved_text c.args.self.now.regs c.args.self.now.bus c.serve.new.bus (g.I.Source.state c.args.input.now) (g.I.Source.state c.serve.new.input) (rw c.of-request.ensures at c.serve.ensures.moved)

pub returns-then-is_err-clause-text : goal.returns-then-is_err-clause-text
returns-then-is_err-clause-text g c =
    moved_text c.args.self.now.regs c.args.self.now.bus c.serve.new.bus (g.I.Source.state c.args.input.now) (g.I.Source.state c.serve.new.input) (rw c.of-request.ensures at c.serve.ensures.moved)

pub returns-in-Returned-clause-text : goal.returns-in-Returned-clause-text
returns-in-Returned-clause-text g c =
    moved_text c.args.self.now.regs c.args.self.now.bus c.serve.new.bus (g.I.Source.state c.args.input.now) (g.I.Source.state c.serve.new.input) (rw c.of-request.ensures at c.serve.ensures.moved)

pub returns-in-Exited-clause-text : goal.returns-in-Exited-clause-text
returns-in-Exited-clause-text g c =
    rw c.end.ensures (moved_text c.args.self.now.regs c.args.self.now.bus c.serve.new.bus (g.I.Source.state c.args.input.now) (g.I.Source.state c.serve.new.input) (rw c.of-request.ensures at c.serve.ensures.moved))

pub returns-in_err-called-clause-devices : goal.returns-in_err-called-clause-devices
returns-in_err-called-clause-devices g c =
    let p = err_from_is_err_and c.from_residual.result c.from_residual.ensures.1 in
    rw (p.1, p.2) (call_failed c.args.self.now _ _ _ (rw c.of-request.ensures at c.in_err-called.ensures.devices))

pub returns-then-is_err-clause-devices : goal.returns-then-is_err-clause-devices
returns-then-is_err-clause-devices g c =
    line_failed c.args.self.now _ _ c.in_ok-called.called (g.E.Sink.state c.tell.new.err) (rw c.of-request.ensures at c.in_ok-called.ensures.devices) c.tell.ensures.unasked
    c.tell.result (sym c.is_err.ensures.value ∙ c.if-is_err.true)
    (λ left rest told. line_as (AppendsPrefix (g.E.Sink.state c.serve.new.err).held (g.E.Sink.state c.tell.new.err).held) c.args.self.now.log (request_of c.args.self.now.regs) _ c.in_ok-called.called
    (rw c.of-request.ensures at (c.in_ok-called.ensures.served left rest told).answered)
    (write_failed (g.E.Sink.state c.serve.new.err).held (g.E.Sink.state c.tell.new.err).held c.tell.result _ (sym c.is_err.ensures.value ∙ c.if-is_err.true) (rw c.of-request.ensures at c.tell.ensures.written.bytes)))
    c.tell.ensures.written.cause

pub returns-in-Returned-clause-devices : goal.returns-in-Returned-clause-devices
returns-in-Returned-clause-devices g c =
    line_told c.args.self.now _ _ c.in_ok-called.called (g.E.Sink.state c.tell.new.err) (rw c.of-request.ensures at c.in_ok-called.ensures.devices) c.tell.ensures.unasked
    (search rules)
    (λ left rest told. line_as (Appends (g.E.Sink.state c.serve.new.err).held (g.E.Sink.state c.tell.new.err).held) c.args.self.now.log (request_of c.args.self.now.regs) _ c.in_ok-called.called
    (rw c.of-request.ensures at (c.in_ok-called.ensures.served left rest told).answered)
    (write_done (g.E.Sink.state c.serve.new.err).held (g.E.Sink.state c.tell.new.err).held c.tell.result _ (sym c.is_err.ensures.value ∙ c.if-is_err.false) (rw c.of-request.ensures at c.tell.ensures.written.bytes)))

pub returns-in-Exited-clause-devices : goal.returns-in-Exited-clause-devices
returns-in-Exited-clause-devices g c =
    line_told c.args.self.now _ _ c.in_ok-called.called (g.E.Sink.state c.tell.new.err) (rw c.of-request.ensures at c.in_ok-called.ensures.devices) c.tell.ensures.unasked
    (search rules)
    (λ left rest told. line_as (Appends (g.E.Sink.state c.serve.new.err).held (g.E.Sink.state c.tell.new.err).held) c.args.self.now.log (request_of c.args.self.now.regs) _ c.in_ok-called.called
    (rw c.of-request.ensures at (c.in_ok-called.ensures.served left rest told).answered)
    (write_done (g.E.Sink.state c.serve.new.err).held (g.E.Sink.state c.tell.new.err).held c.tell.result _ (sym c.is_err.ensures.value ∙ c.if-is_err.false) (rw c.of-request.ensures at c.tell.ensures.written.bytes)))

pub returns-in-Returned-clause-machine : goal.returns-in-Returned-clause-machine
unfolding called
returns-in-Returned-clause-machine g c left rest r = let served = c.in_ok-called.ensures.served left rest r in search rules

pub returns-in-Exited-clause-machine : goal.returns-in-Exited-clause-machine
unfolding called
returns-in-Exited-clause-machine g c left rest r = let served = c.in_ok-called.ensures.served left rest r in search rules
