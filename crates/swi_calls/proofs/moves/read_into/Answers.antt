use Rattle.std.proofs.Common.{rules}
use Rattle.swi_calls.proofs.MovesLemmas.{reads_join}
use Rattle.swi_calls.proofs.moves.read_into.Goals as goal

pub loop-done-preserved : goal.loop-done-preserved
loop-done-preserved g c = record {
  within = c.in_ok-taken.ensures.within;
  reads = reads_join c.args.bus.now c.loop-done.bus c.read_piece.new.bus (g.I.Source.state c.args.input.now) (g.I.Source.state c.loop-done.input) (g.I.Source.state c.read_piece.new.input)
      c.args.a c.loop-done.done c.in_ok-taken.taken c.loop-done.invariant.reads c.in_ok-taken.ensures.reads;
  held = c.read_piece.ensures.held_still;
  still = search rules;
}
