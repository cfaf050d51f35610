use Rattle.std.proofs.Common.{length, sym, arith, ap, ◌∙◌}
use Rattle.swi_tally.specs.Tally.{TallyData}
use Rattle.swi_tally.proofs.Arriving.{met_at, met_none}
use Rattle.swi_tally.proofs.tally.Tally.is_met.Goals as goal

pub returns : goal.returns
returns c = sym (met_none _ _ _ _ _ (λ k lt. c.loop-k.invariant k (omega (arith, lt, c.len-k-end.ensures, ap (λ (s : TallyData). length s.queue) c.self.view_is))))

pub returns-then-is_in_way : goal.returns-then-is_in_way
returns-then-is_in_way c =
    sym (met_at _ _ _ _ _ c.loop-k.k (omega (arith, c.len-k-end.ensures, ap (λ (s : TallyData). length s.queue) c.self.view_is)) (sym c.is_in_way.ensures ∙ c.if-is_in_way.true))
