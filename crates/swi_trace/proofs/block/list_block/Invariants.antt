use Rattle.std.proofs.Common.{◌≡◌}
use Rattle.std.specs.Io.KnownBytes.{Appends}
use Rattle.swi_program.specs.Text.{text_of}
use Rattle.swi_trace.specs.Block.{first_lines}
use Rattle.swi_trace.proofs.block.list_block.Given as goal

abbrev pub invariant-loop-offset : goal.invariant-loop-offset
invariant-loop-offset g l = record {
  written : Appends (g.S.Sink.state l.fn.sink).held (g.S.Sink.state l.sink).held (first_lines (text_of l.p.segments) l.image l.block l.offset);
  still : (g.S.Sink.state l.sink).faults ≡ (g.S.Sink.state l.fn.sink).faults;
}
