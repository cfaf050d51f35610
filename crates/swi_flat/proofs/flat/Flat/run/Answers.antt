use Rattle.std.proofs.Common.{◌≡◌, is_some, true, false, ap, rules}
use Rattle.std.proofs.lemmas.Result.{err_from_is_err_and}
use Rattle.swi_flat.proofs.Runs.{going_first, going_ahead, going_on, ran_over, ran_all, ran_broken}
use Rattle.swi_flat.proofs.flat.Flat.run.Goals as goal

pub loop-self-init : goal.loop-self-init
loop-self-init g c = going_first c.args.self.now c.args.limit _ c.requires.within c.requires.unfailed

pub loop-self-preserved : goal.loop-self-preserved
loop-self-preserved g c = going_ahead c.loop-self.invariant (record { machine = c.self.inside.machine; failed = c.self.inside.failed }) c.advance.new.machine c.self.view_is c.advance.ensures.run c.advance.ensures.no_fewer c.advance.ensures.within

pub loop-self-preserved-in-Continue-1 : goal.loop-self-preserved-in-Continue-1
loop-self-preserved-in-Continue-1 g c =
    let ahead = going_ahead c.loop-self.invariant (record { machine = c.self.inside.machine; failed = c.self.inside.failed }) c.advance.new.machine c.self.view_is c.advance.ensures.run c.advance.ensures.no_fewer c.advance.ensures.within in
    let open_end : is_some c.advance.new.machine.ending ≡ false = ap (λ o. is_some o) c.advance.ensures.going in
    going_on ahead c.step.new.self _ (search rules) open_end c.in_ok-step.ensures.machine c.in_ok-step.ensures.counted c.in_ok-step.ensures.failed c.in_ok-step.ensures.devices

pub returns-in_err-step : goal.returns-in_err-step
returns-in_err-step g c =
    let p = err_from_is_err_and c.from_residual.result c.from_residual.ensures.1 in
    let ahead = going_ahead c.loop-self.invariant (record { machine = c.self.inside.machine; failed = c.self.inside.failed }) c.advance.new.machine c.self.view_is c.advance.ensures.run c.advance.ensures.no_fewer c.advance.ensures.within in
    rw (p.1, p.2) (ran_broken ahead c.step.new.self _ _ (search rules) c.advance.ensures.going c.in_err-step.ensures.stays c.in_err-step.ensures.moved c.in_err-step.ensures.devices)

pub returns-else-is_none : goal.returns-else-is_none
returns-else-is_none g c = let over : is_some c.loop-self.self.machine.ending ≡ true = search rules in ran_over c.loop-self.invariant over

pub returns-after-loop-self : goal.returns-after-loop-self
returns-after-loop-self g c = ran_all c.loop-self.invariant (search rules)
