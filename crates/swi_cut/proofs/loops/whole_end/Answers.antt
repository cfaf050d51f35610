use Rattle.std.proofs.Common.{◌≡◌, ℕ, arith, subst, sym, ◌∙◌}
use Rattle.std.proofs.lemmas.Bool.{false≢true}
use Rattle.swi_cut.proofs.Sequences.{SplitsNone, none_more, whole_all, whole_run, whole_before}
use Rattle.swi_cut.proofs.loops.whole_end.Goals as goal

pub returns-then-is_split-clause-run : goal.returns-then-is_split-clause-run
returns-then-is_split-clause-run c =
    whole_run c.args.text.now c.args.most c.args.first c.args.end c.loop-lr.lr c.requires.run c.requires.greedy c.loop-lr.auto.lr c.loop-lr-test.true (c.is_split.ensures.0 c.if-is_split.true)

pub returns-then-is_split-clause-whole : goal.returns-then-is_split-clause-whole
returns-then-is_split-clause-whole c =
    whole_before c.args.text.now c.args.most c.args.first c.args.end c.loop-lr.lr c.requires.run c.requires.greedy c.loop-lr.invariant c.loop-lr.auto.lr c.loop-lr-test.true (c.is_split.ensures.0 c.if-is_split.true)

pub loop-lr-preserved : goal.loop-lr-preserved
loop-lr-preserved c =
    none_more c.args.text.now c.args.most c.args.first c.args.end c.loop-lr.lr c.loop-lr.invariant (λ p. absurd (false≢true (sym c.if-is_split.false ∙ c.is_split.ensures.1 p)))

pub returns-clause-whole : goal.returns-clause-whole
returns-clause-whole c =
    let all : c.loop-lr.lr ≡ c.args.end = omega (arith, c.requires.run.some) in
    whole_all c.args.text.now c.args.most c.args.first c.args.end c.requires.greedy (subst (λ (k : ℕ). SplitsNone c.args.text.now c.args.most c.args.first c.args.end k) all c.loop-lr.invariant)
