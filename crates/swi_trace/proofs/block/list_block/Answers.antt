use Rattle.std.proofs.Common.{◌≡◌, ◌<◌, ◌∙◌, List, ℕ, length, ap, subst, arith, rules}
use Rattle.std.specs.Io.KnownBytes.{Appends}
use Rattle.swi_image.specs.Place.{block_at}
use Rattle.swi_outside.specs.Sink.{AppendsPrefix}
use Rattle.swi_program.specs.Text.{TextData, text_of}
use Rattle.swi_trace.specs.Block.{list_line}
use Rattle.swi_outside.proofs.SinkLemmas.{written_part}
use Rattle.swi_trace.proofs.Lines.{no_lines, line_more, line_broken}
use Rattle.swi_trace.proofs.Origins.{lists_text_words}
use Rattle.swi_trace.proofs.block.list_block.Goals as goal

pub loop-offset-init : goal.loop-offset-init
loop-offset-init g c = record {
  written = no_lines (text_of c.args.p.now.segments) c.args.image.now c.args.block (g.S.Sink.state c.args.sink.now).held;
  still = search rules;
}

pub returns-in_err-write-clause-written : goal.returns-in_err-write-clause-written
returns-in_err-write-clause-written g c =
    let own : c.list_line.result ≡ list_line (text_of c.args.p.now.segments) c.args.image.now c.args.block c.loop-offset.offset =
    c.list_line.ensures ∙ ap (λ (t : TextData). list_line t c.args.image.now c.args.block c.loop-offset.offset) c.text-text.ensures.value in
    let line : c.as_bytes.result.now ≡ list_line (text_of c.args.p.now.segments) c.args.image.now c.args.block c.loop-offset.offset =
    c.as_bytes.ensures ∙ own in
    let within : c.loop-offset.offset < length (block_at c.args.image.now c.args.block) = omega arith in
    written_part (g.S.Sink.state c.args.sink.now) (g.S.Sink.state c.loop-offset.sink) (g.S.Sink.state c.write.new.self) c.from_residual.result _ c.from_residual.ensures.0 c.loop-offset.invariant.still c.in_err-write.ensures.written
    (line_broken (text_of c.args.p.now.segments) c.args.image.now c.args.block c.loop-offset.offset
    (length (block_at c.args.image.now c.args.block))
    (g.S.Sink.state c.args.sink.now).held (g.S.Sink.state c.loop-offset.sink).held (g.S.Sink.state c.write.new.self).held within
    c.loop-offset.invariant.written
    (subst (λ (l : List ℕ). AppendsPrefix (g.S.Sink.state c.loop-offset.sink).held (g.S.Sink.state c.write.new.self).held l)
    line c.in_err-write.ensures.written.bytes))

pub loop-offset-preserved : goal.loop-offset-preserved
loop-offset-preserved g c =
    let own : c.list_line.result ≡ list_line (text_of c.args.p.now.segments) c.args.image.now c.args.block c.loop-offset.offset =
    c.list_line.ensures ∙ ap (λ (t : TextData). list_line t c.args.image.now c.args.block c.loop-offset.offset) c.text-text.ensures.value in
    let line : c.as_bytes.result.now ≡ list_line (text_of c.args.p.now.segments) c.args.image.now c.args.block c.loop-offset.offset =
    c.as_bytes.ensures ∙ own in
    record {
      written = line_more (text_of c.args.p.now.segments) c.args.image.now c.args.block c.loop-offset.offset
          (g.S.Sink.state c.args.sink.now).held (g.S.Sink.state c.loop-offset.sink).held (g.S.Sink.state c.write.new.self).held
          c.loop-offset.invariant.written
          (subst (λ (l : List ℕ). Appends (g.S.Sink.state c.loop-offset.sink).held (g.S.Sink.state c.write.new.self).held l)
          line c.in_ok-write.ensures.written.bytes);
      still = search rules;
    }

pub returns-in_err-write-clause-words : goal.returns-in_err-write-clause-words
returns-in_err-write-clause-words g c =
    lists_text_words (text_of c.args.p.now.segments) c.args.image.now c.args.block c.text-text.ensures.sized c.blocks-2.ensures.sound c.requires.image c.requires.block

pub returns-clause-words : goal.returns-clause-words
returns-clause-words g c =
    lists_text_words (text_of c.args.p.now.segments) c.args.image.now c.args.block c.text-text.ensures.sized c.blocks-2.ensures.sound c.requires.image c.requires.block
