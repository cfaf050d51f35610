use Rattle.std.proofs.Common.{◌≡◌}
use Rattle.std.specs.Io.KnownBytes.{Appends}
use Rattle.swi_program.specs.Text.{text_of}
use Rattle.swi_file_commands.specs.ListFile.{first_blocks}
use Rattle.swi_file_commands.proofs.list_file.list_blocks.Given as goal

abbrev pub invariant-loop-block : goal.invariant-loop-block
invariant-loop-block g l = record {
  written : Appends (g.O.Sink.state l.fn.out).held (g.O.Sink.state l.out).held (first_blocks (text_of l.program.segments) l.image l.block);
  still : (g.O.Sink.state l.out).faults ≡ (g.O.Sink.state l.fn.out).faults;
}
