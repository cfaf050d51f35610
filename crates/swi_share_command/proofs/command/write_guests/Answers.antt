use Rattle.std.proofs.Common.{◌≡◌, ◌<◌, ◌∙◌, ℕ, List, None, length, slice_index_or, refl, sym, ap, subst, arith, rules}
use Rattle.std.proofs.lemmas.List.{length-map}
use Rattle.std.specs.Io.KnownBytes.{Appends}
use Rattle.swi_outside.specs.Sink.{AppendsPrefix}
use Rattle.swi_outside.proofs.SinkLemmas.{written_part}
use Rattle.swi_report.proofs.Pieces.{numbered_broken, numbered_more, numbered_none}
use Rattle.swi_share.specs.Sharing.{context_of, seen}
use Rattle.swi_answer.specs.declared.answer.Ending.{Ending}
use Rattle.swi_answer.specs.Lines.{guest_line}
use Rattle.swi_task.specs.Runs.{ending_by}
use Rattle.swi_share_command.specs.RunShared.{context_line}
use Rattle.swi_share_command.proofs.SharedGuests.{line_told}
use Rattle.swi_share_command.proofs.command.write_guests.Goals as goal

pub loop-g-init : goal.loop-g-init
loop-g-init g c = record {
  written = numbered_none (λ k. context_line k (slice_index_or (seen c.args.share.now).contexts k None)) 0 0 (g.O.Sink.state c.args.out.now).held refl;
  still = search rules;
}

pub returns-in_err-write : goal.returns-in_err-write
returns-in_err-write g c =
    let cs = (seen c.args.share.now).contexts in
    let h = c.hart-hart.result.now in
    let long = length-map c.args.share.now.processes context_of in
    let all = c.requires.programs in
    let lt : c.loop-g.g < length cs = let few = c.loop-g-test.true in omega (arith, few, long, all) in
    let ends : c.ending_by-ending.result ≡ ending_by h.machine.ending h.machine.pc h.machine.steps = c.ending_by-ending.ensures ∙ rw (c.ending.ensures, c.origin_pc.ensures.value, c.steps.ensures) refl in
    let line = c.as_bytes.ensures ∙ c.line_of_guest.ensures ∙ ap (λ (e : Ending). guest_line c.loop-g.g e) ends ∙ sym (line_told c.loop-g.g h (slice_index_or cs c.loop-g.g None) c.hart-hart.ensures) in
    written_part (g.O.Sink.state c.args.out.now) (g.O.Sink.state c.loop-g.out) (g.O.Sink.state c.write.new.self) c.from_residual.result _ c.from_residual.ensures.0 c.loop-g.invariant.still c.in_err-write.ensures.written
    (numbered_broken (λ k. context_line k (slice_index_or cs k None)) 0 c.loop-g.g c.loop-g.g (length cs)
    (g.O.Sink.state c.args.out.now).held (g.O.Sink.state c.loop-g.out).held (g.O.Sink.state c.write.new.self).held (omega arith) lt
    c.loop-g.invariant.written
    (subst (λ (l : List ℕ). AppendsPrefix (g.O.Sink.state c.loop-g.out).held (g.O.Sink.state c.write.new.self).held l) line c.in_err-write.ensures.written.bytes))

pub loop-g-preserved : goal.loop-g-preserved
loop-g-preserved g c =
    let cs = (seen c.args.share.now).contexts in
    let h = c.hart-hart.result.now in
    let ends : c.ending_by-ending.result ≡ ending_by h.machine.ending h.machine.pc h.machine.steps = c.ending_by-ending.ensures ∙ rw (c.ending.ensures, c.origin_pc.ensures.value, c.steps.ensures) refl in
    let line = c.as_bytes.ensures ∙ c.line_of_guest.ensures ∙ ap (λ (e : Ending). guest_line c.loop-g.g e) ends ∙ sym (line_told c.loop-g.g h (slice_index_or cs c.loop-g.g None) c.hart-hart.ensures) in
    record {
      written = numbered_more (λ k. context_line k (slice_index_or cs k None)) 0 c.loop-g.g c.loop-g.g
          (g.O.Sink.state c.args.out.now).held (g.O.Sink.state c.loop-g.out).held (g.O.Sink.state c.write.new.self).held (omega arith)
          c.loop-g.invariant.written
          (subst (λ (l : List ℕ). Appends (g.O.Sink.state c.loop-g.out).held (g.O.Sink.state c.write.new.self).held l) line c.in_ok-write.ensures.written.bytes);
      still = search rules;
    }
