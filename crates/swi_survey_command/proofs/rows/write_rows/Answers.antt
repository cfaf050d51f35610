use Rattle.std.proofs.Common.{◌≡◌, ◌<◌, ◌≤◌, ℕ, List, length, arith, rules, ap, subst}
use Rattle.std.proofs.lemmas.Option.{slice_get-get_or}
use Rattle.std.specs.Io.KnownBytes.{Appends}
use Rattle.std.specs.Prelude.{slice_index}
use Rattle.swi_outside.specs.Sink.{AppendsPrefix}
use Rattle.swi_outside.proofs.SinkLemmas.{written_part}
use Rattle.swi_report.specs.declared.stats.Work.{Work}
use Rattle.swi_report.proofs.Pieces.{each_broken, each_more}
use Rattle.swi_survey_command.specs.Rows.{size_line}
use Rattle.swi_survey_command.proofs.Lines.{all_written, work_told}
use Rattle.swi_survey_command.proofs.rows.write_rows.Goals as goal

pub returns-in_err-write_row : goal.returns-in_err-write_row
returns-in_err-write_row g c = λ work counts.
    let s = c.args.surveyed.now in
    let sizes = c.args.sizes.now in
    let k = c.loop-k.k in
    let few : k < length s.caches.caches = omega (arith, c.loop-k-test.true, c.len-k-end.ensures.value) in
    let within : k < length sizes = omega (arith, few, c.requires.caches) in
    let line = ap (λ (w : Work). size_line (slice_index sizes k) s.steps w) (work_told s sizes work k c.work_of-work.result c.requires.caches few counts c.work_of-work.ensures) in
    written_part (g.O.Sink.state c.args.out.now) (g.O.Sink.state c.loop-k.out) (g.O.Sink.state c.write_row.new.out) c.from_residual.result _ c.from_residual.ensures.0 c.loop-k.invariant.still c.in_err-write_row.ensures
    (each_broken (λ (bytes : ℕ). size_line bytes s.steps (work bytes)) sizes k (slice_index sizes k) (g.O.Sink.state c.args.out.now).held (g.O.Sink.state c.loop-k.out).held (g.O.Sink.state c.write_row.new.out).held
    (slice_get-get_or sizes k 0 within) (c.loop-k.invariant.written work counts)
    (subst (λ (l : List ℕ). AppendsPrefix (g.O.Sink.state c.loop-k.out).held (g.O.Sink.state c.write_row.new.out).held l) line c.in_err-write_row.ensures.bytes))

pub loop-k-preserved : goal.loop-k-preserved
loop-k-preserved g c = record {
  written = λ work counts.
      let s = c.args.surveyed.now in
      let sizes = c.args.sizes.now in
      let k = c.loop-k.k in
      let few : k < length s.caches.caches = omega (arith, c.loop-k-test.true, c.len-k-end.ensures.value) in
      let within : k < length sizes = omega (arith, few, c.requires.caches) in
      let line = ap (λ (w : Work). size_line (slice_index sizes k) s.steps w) (work_told s sizes work k c.work_of-work.result c.requires.caches few counts c.work_of-work.ensures) in
      each_more (λ (bytes : ℕ). size_line bytes s.steps (work bytes)) sizes k (slice_index sizes k) (g.O.Sink.state c.args.out.now).held (g.O.Sink.state c.loop-k.out).held (g.O.Sink.state c.write_row.new.out).held
      (slice_get-get_or sizes k 0 within) (c.loop-k.invariant.written work counts)
      (subst (λ (l : List ℕ). Appends (g.O.Sink.state c.loop-k.out).held (g.O.Sink.state c.write_row.new.out).held l) line c.in_ok-write_row.ensures.bytes);
  still = search rules;
}

pub returns : goal.returns
returns g c = λ work counts.
    let past : length c.args.sizes.now ≤ c.loop-k.k = omega (arith, c.loop-k-test.false, c.len-k-end.ensures.value, c.requires.caches) in
    all_written (g.O.Sink.state c.args.out.now) (g.O.Sink.state c.loop-k.out) (λ (bytes : ℕ). size_line bytes c.args.surveyed.now.steps (work bytes)) c.args.sizes.now c.loop-k.k past c.loop-k.invariant.still
    (c.loop-k.invariant.written work counts)
