use Rattle.std.proofs.Common.{subst}
use Rattle.swi_tally.specs.Exits.{AreExits, ExitsData}
use Rattle.swi_tally.proofs.Adding.{with_call}
use Rattle.swi_tally.proofs.exits.Exits.with.Goals as goal

pub invariant_of-result : goal.invariant_of-result
invariant_of-result c = with_call c.args.self c.self.inside.from c.self.inside.into _ _ c.self.inside.offsets.items c.self.inside.ats.items _ _ c.args.exit.block c.args.exit.offset c.args.exit.into c.args.exit.at (subst (λ (e : ExitsData). AreExits e) c.self.view_is c.self.invariant.0)
    c.self.view_is c.self.invariant.1 c.in_ok-push.ensures.pushed c.in_ok-push-2.ensures.pushed c.in_ok-append.ensures.pushed c.in_ok-append-2.ensures.pushed
    c.requires.few c.requires.block c.requires.into c.requires.offset c.requires.at c.requires.free

pub returns-clause-are : goal.returns-clause-are
returns-clause-are c =
    (with_call c.args.self c.self.inside.from c.self.inside.into _ _ c.self.inside.offsets.items c.self.inside.ats.items _ _ c.args.exit.block c.args.exit.offset c.args.exit.into c.args.exit.at (subst (λ (e : ExitsData). AreExits e) c.self.view_is c.self.invariant.0)
    c.self.view_is c.self.invariant.1 c.in_ok-push.ensures.pushed c.in_ok-push-2.ensures.pushed c.in_ok-append.ensures.pushed c.in_ok-append-2.ensures.pushed
    c.requires.few c.requires.block c.requires.into c.requires.offset c.requires.at c.requires.free).0
