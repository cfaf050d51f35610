use Rattle.std.proofs.Common.{ℕ, Option, arith, sym, subst, ◌∙◌}
use Rattle.swi_rom.specs.Coherent.{StandsAt}
use Rattle.swi_service_tests.proofs.Exits.{exit_is}
use Rattle.swi_service_tests.proofs.transfers.exit_at.Goals as goal

pub returns : goal.returns
returns g c =
    let r = g.R.CacheRom.service.kept c.args.rom.now in
    let v = c.args.image.now in
    let words = c.args.ram.now.words in
    exit_is v r _ c.args.at _ words c.in-Some.place (g.met.R.CacheRom.laws.coherent c.args.rom.now v words c.requires)
    (subst (λ (o : Option (ℕ × ℕ)). StandsAt v r c.args.at o) (sym c.in-Some.ensures) (g.met.R.CacheRom.laws.shown_is c.args.rom.now v words c.requires c.args.at))
    (omega (arith, c.if-offset-length.false, c.length-length.ensures.value)) (sym c.word-word.ensures ∙ c.if-word-ne-E.false) c.word-target.ensures c.if-target-ne0.false
    (sym c.word-held.ensures ∙ c.if-held-ne-E.false)
