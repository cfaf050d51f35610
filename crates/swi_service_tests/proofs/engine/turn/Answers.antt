use Rattle.std.proofs.Common.{ℕ, Option, sym, subst}
use Rattle.swi_rom.specs.Coherent.{StandsAt}
use Rattle.swi_engine.specs.State.{kept_by}
use Rattle.swi_engine.specs.Laws.{engine_shown}
use Rattle.swi_service_tests.proofs.engine.turn.Goals as goal

pub work-requires-clause-here : goal.work-requires-clause-here
work-requires-clause-here g c =
    let s = subst (λ (o : Option (ℕ × ℕ)). StandsAt c.args.image.now (kept_by c.args.rom.now) c.args.at o) (sym c.in-Some.ensures) (engine_shown c.args.rom.now c.args.image.now c.args.ram.now.words c.requires c.args.at) in
    (s.0, s.1)
