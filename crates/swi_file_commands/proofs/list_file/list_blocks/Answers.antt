use Rattle.std.proofs.Common.{◌<◌, length, refl, arith, rules}
use Rattle.swi_program.specs.Text.{text_of}
use Rattle.swi_outside.proofs.SinkLemmas.{write_failed, write_done}
use Rattle.swi_trace.specs.Block.{block_lines}
use Rattle.swi_file_commands.proofs.Listings.{no_blocks, block_more, block_broken}
use Rattle.swi_file_commands.proofs.list_file.list_blocks.Goals as goal

pub loop-block-init : goal.loop-block-init
loop-block-init g c = record {
  written = no_blocks (text_of c.args.program.now.segments) c.args.image.now (g.O.Sink.state c.args.out.now).held;
  still = search rules;
}

pub returns-then-is_err-clause-failed : goal.returns-then-is_err-clause-failed
returns-then-is_err-clause-failed g c =
    let within : c.loop-block.block < length c.args.image.now.starts = omega arith in (
      refl,
      block_broken (text_of c.args.program.now.segments) c.args.image.now c.loop-block.block (length c.args.image.now.starts)
          (g.O.Sink.state c.args.out.now).held (g.O.Sink.state c.loop-block.out).held (g.O.Sink.state c.list_block.new.sink).held within c.loop-block.invariant.written
          (write_failed (g.O.Sink.state c.loop-block.out).held (g.O.Sink.state c.list_block.new.sink).held c.list_block.result
          (block_lines (text_of c.args.program.now.segments) c.args.image.now c.loop-block.block) (search rules) c.list_block.ensures.written.bytes),
    )

pub loop-block-preserved : goal.loop-block-preserved
loop-block-preserved g c = record {
  written = block_more (text_of c.args.program.now.segments) c.args.image.now c.loop-block.block
      (g.O.Sink.state c.args.out.now).held (g.O.Sink.state c.loop-block.out).held (g.O.Sink.state c.list_block.new.sink).held c.loop-block.invariant.written
      (write_done (g.O.Sink.state c.loop-block.out).held (g.O.Sink.state c.list_block.new.sink).held c.list_block.result
      (block_lines (text_of c.args.program.now.segments) c.args.image.now c.loop-block.block) (search rules) c.list_block.ensures.written.bytes);
  still = search rules;
}
