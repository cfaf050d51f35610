use Rattle.std.proofs.Common.{◌≡◌, ◌+◌, ◌*◌, ◌<◌, ◌∙◌, refl, ap, subst, arith, rules}
use Rattle.std.proofs.lemmas.List.{get_or_read}
use Rattle.std.proofs.lemmas.Result.{err_from_is_err_and}
use Rattle.std.specs.List.{flat_map}
use Rattle.swi_report.specs.State.{numbers}
use Rattle.std.specs.Io.KnownBytes.{Appends}
use Rattle.swi_outside.specs.Sink.{AppendsPrefix}
use Rattle.swi_outside.proofs.SinkLemmas.{written_part}
use Rattle.swi_report.proofs.Pieces.{numbered_broken, numbered_more, numbered_none}
use Rattle.swi_profile.specs.Executions.{word_line}
use Rattle.swi_profile.proofs.Writing.{piece_of}
use Rattle.swi_profile.proofs.profile.Profile.write.Goals as goal

pub loop-k-init : goal.loop-k-init
loop-k-init g c = record {
  written = λ count are. numbered_none (λ k. word_line (c.args.self.now.range.from + 4 * k) (count (c.args.self.now.range.from + 4 * k))) 0 0 (g.O.Sink.state c.args.out.now).held refl;
  within = omega arith;
  still = refl;
}

pub returns-in_err-write_word-clause-written : goal.returns-in_err-write_word-clause-written
returns-in_err-write_word-clause-written g c = λ count are.
    let from = c.args.self.now.range.from in
    let k = c.loop-k.k in
    let within : k < c.args.self.now.range.words = omega (arith, c.loop-k-test.true) in
    let held = get_or_read c.args.self.now.counts.items k c.index.result.now (omega (arith, within, c.requires.long)) c.index.ensures 0 in
    written_part (g.O.Sink.state c.args.out.now) (g.O.Sink.state c.loop-k.out) (g.O.Sink.state c.write_word.new.out) c.from_residual.result _ c.from_residual.ensures.0 c.loop-k.invariant.still c.in_err-write_word.ensures.written
    (numbered_broken (λ j. word_line (from + 4 * j) (count (from + 4 * j))) 0 k k c.args.self.now.range.words
    (g.O.Sink.state c.args.out.now).held (g.O.Sink.state c.loop-k.out).held (g.O.Sink.state c.write_word.new.out).held (omega arith) within
    (c.loop-k.invariant.written count are)
    (subst (λ n. AppendsPrefix (g.O.Sink.state c.loop-k.out).held (g.O.Sink.state c.write_word.new.out).held (word_line (from + 4 * k) n)) (held ∙ are.each k within) c.in_err-write_word.ensures.written.bytes))

pub returns-in_err-write_word-clause-asked : goal.returns-in_err-write_word-clause-asked
returns-in_err-write_word-clause-asked g c =
    let p = err_from_is_err_and c.from_residual.result c.from_residual.ensures.1 in
    let from = c.args.self.now.range.from in
    let k = c.loop-k.k in
    let within : k < c.args.self.now.range.words = omega (arith, c.loop-k-test.true) in
    let held = get_or_read c.args.self.now.counts.items k c.index.result.now (omega (arith, within, c.requires.long)) c.index.ensures 0 in
    rw p.1 (λ count are none. c.in_err-write_word.ensures.asked
    (ap (λ n. word_line (from + 4 * k) n) (held ∙ are.each k within) ∙ piece_of (λ j. word_line (from + 4 * j) (count (from + 4 * j))) c.args.self.now.range.words k within none))

pub loop-k-preserved : goal.loop-k-preserved
loop-k-preserved g c = record {
  written = λ count are.
      let from = c.args.self.now.range.from in
      let k = c.loop-k.k in
      let within : k < c.args.self.now.range.words = omega (arith, c.loop-k-test.true) in
      let held = get_or_read c.args.self.now.counts.items k c.index.result.now (omega (arith, within, c.requires.long)) c.index.ensures 0 in
      numbered_more (λ j. word_line (from + 4 * j) (count (from + 4 * j))) 0 k k
      (g.O.Sink.state c.args.out.now).held (g.O.Sink.state c.loop-k.out).held (g.O.Sink.state c.write_word.new.out).held (omega arith)
      (c.loop-k.invariant.written count are)
      (subst (λ n. Appends (g.O.Sink.state c.loop-k.out).held (g.O.Sink.state c.write_word.new.out).held (word_line (from + 4 * k) n)) (held ∙ are.each k within) c.in_ok-write_word.ensures.written.bytes);
  within = omega (arith, c.loop-k-test.true);
  still = search rules;
}

pub returns-clause-written : goal.returns-clause-written
returns-clause-written g c = λ count are.
    let from = c.args.self.now.range.from in
    let still = c.loop-k.invariant.still in
    let most = c.loop-k.invariant.within in
    let all : c.loop-k.k ≡ c.args.self.now.range.words = omega (arith, c.loop-k-test.false, most) in
    record {
      bytes = subst (λ n. Appends (g.O.Sink.state c.args.out.now).held (g.O.Sink.state c.loop-k.out).held (flat_map (λ j. word_line (from + 4 * j) (count (from + 4 * j))) (numbers 0 n))) all
          (c.loop-k.invariant.written count are);
      cause = record { later = omega (arith, still); failed = tt; quiet = still };
    }
