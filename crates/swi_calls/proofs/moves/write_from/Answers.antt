use Rattle.std.proofs.Common.{◌≡◌, rules, arith}
use Rattle.std.proofs.lemmas.Result.{err_from_is_err_and}
use Rattle.swi_calls.proofs.MovesLemmas.{written_more, written_part}
use Rattle.swi_calls.proofs.moves.write_from.Goals as goal

pub returns-in_err-write-clause-written : goal.returns-in_err-write-clause-written
returns-in_err-write-clause-written g c =
    let p = err_from_is_err_and c.from_residual.result c.from_residual.ensures.1 in
    rw p.1 (record {
      bytes = written_part c.args.bus.now c.args.a c.args.count c.loop-done.done c.piece_at-piece.result.now (g.S.Sink.state c.args.sink.now).held (g.S.Sink.state c.loop-done.sink).held (g.S.Sink.state c.write.new.self).held
          c.piece_at-piece.ensures.within c.loop-done.invariant.written c.piece_at-piece.ensures.bytes c.in_err-write.ensures.written.bytes;
      cause = rw c.loop-done.invariant.still at c.in_err-write.ensures.written.cause;
    })

pub loop-done-preserved : goal.loop-done-preserved
loop-done-preserved g c = record {
  within = c.piece_at-piece.ensures.within;
  written = written_more c.args.bus.now c.args.a c.loop-done.done c.piece_at-piece.result.now (g.S.Sink.state c.args.sink.now).held (g.S.Sink.state c.loop-done.sink).held (g.S.Sink.state c.write.new.self).held
      c.loop-done.invariant.written c.piece_at-piece.ensures.bytes c.in_ok-write.ensures.written.bytes;
  unasked = λ (none : c.args.count ≡ 0). absurd (omega arith);
  still = search rules;
}
