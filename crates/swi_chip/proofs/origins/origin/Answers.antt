use Rattle.std.proofs.Common.{ℕ, Option, Some, None, refl, subst}
use Rattle.swi_slots.specs.Slots.{kept_by}
use Rattle.swi_chip.specs.Standing.{StandsIn}
use Rattle.swi_chip.proofs.Stands.{stands_known}
use Rattle.swi_chip.proofs.origins.origin.Goals as goal

pub returns-in_default : goal.returns-in_default
returns-in_default c = λ s vs ram lists k. (None, subst (λ (q : Option (ℕ × ℕ)). StandsIn c.args.chip.now (vs s.turn) (kept_by s) c.args.pc q) c.in_default.is (c.standing.ensures s vs ram lists k), refl)

pub text_address-requires : goal.text_address-requires
text_address-requires c = (let k = c.requires.some in record { some = k; block = (stands_known k.stands c.args.pc c.in-Some.block c.in-Some.offset (subst (λ (q : Option (ℕ × ℕ)). StandsIn c.args.chip.now (k.vs k.s.turn) (kept_by k.s) c.args.pc q) c.in-Some.is (c.standing.ensures k.s k.vs k.ram k.lists k.stands))).2 })

pub returns : goal.returns
returns c = λ s vs ram lists k. (Some (c.in-Some.block, c.in-Some.offset), subst (λ (q : Option (ℕ × ℕ)). StandsIn c.args.chip.now (vs s.turn) (kept_by s) c.args.pc q) c.in-Some.is (c.standing.ensures s vs ram lists k), c.text_address.ensures s vs ram lists k)
