use Rattle.std.proofs.Common.{◌≡◌, ◌∙◌, List, ℕ, true, ap, rules, subst, sym}
use Rattle.swi_outside.specs.Sink.{WasWritten}
use Rattle.swi_outside.proofs.SinkLemmas.{written_front, written_then}
use Rattle.swi_share.specs.Sharing.{seen}
use Rattle.swi_report.specs.Shared.{shared_text_of}
use Rattle.swi_report.specs.declared.shared.SharedWork.{SharedWork}
use Rattle.swi_share_command.specs.RunShared.{guest_lines, shared_work}
use Rattle.swi_share_command.proofs.SharedGuests.{told_if}
use Rattle.swi_share_command.proofs.command.report_share.Goals as goal

pub returns-in_err-write_guests : goal.returns-in_err-write_guests
returns-in_err-write_guests g c =
    written_front (g.O.Sink.state c.args.out.now) (g.O.Sink.state c.write_guests.new.out) c.from_residual.result (guest_lines (seen c.args.share.now).contexts) _
    c.from_residual.ensures.0 c.in_err-write_guests.ensures

pub returns : goal.returns
returns g c =
    let s = seen c.args.share.now in
    let asked : c.args.options.now.stats ≡ true = search rules in
    let text = ap (λ (w : SharedWork). shared_text_of w) c.shared_work.ensures ∙ sym (told_if c.args.options.now.stats (shared_text_of (shared_work s)) asked) in
    written_then (g.O.Sink.state c.args.out.now) (g.O.Sink.state c.write_guests.new.out) (g.O.Sink.state c.shared_text.new.sink) c.shared_text.result (guest_lines s.contexts) _ c.in_ok-write_guests.ensures
    (subst (λ (l : List ℕ). WasWritten (g.O.Sink.state c.write_guests.new.out) (g.O.Sink.state c.shared_text.new.sink) c.shared_text.result l) text c.shared_text.ensures)
