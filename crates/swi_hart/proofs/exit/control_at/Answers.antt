use Rattle.std.proofs.Common.{◌≡◌, ℕ, Option, Some, None, subst}
use Rattle.swi_rom.specs.Coherent.{StandsAt}
use Rattle.swi_hart.proofs.Leaving.{arrives_shown, none_shown}
use Rattle.swi_hart.proofs.exit.control_at.Goals as goal

pub returns-in-Some : goal.returns-in-Some
returns-in-Some g c = λ v words t sound at.
    let shown = g.met.R.CacheRom.laws.shown_is c.args.rom.now v words sound c.args.index in
    let is : g.R.CacheRom.service.shown c.args.rom.now c.args.index ≡ Some (c.in-Some.b, c.in-Some.o) = cc in
    let stands = subst (λ (p : Option (ℕ × ℕ)). StandsAt v (g.R.CacheRom.service.kept c.args.rom.now) c.args.index p) is shown in
    arrives_shown v (g.R.CacheRom.service.kept c.args.rom.now) (g.R.CacheRom.service.span (g.R.CacheRom.service.setting c.args.rom.now)) words t c.args.index c.in-Some.b c.in-Some.o
    (g.met.R.CacheRom.laws.coherent c.args.rom.now v words sound) (g.met.R.CacheRom.laws.image c.args.rom.now v words sound) stands at

pub returns-in-None : goal.returns-in-None
returns-in-None g c = λ v words t sound at.
    let shown = g.met.R.CacheRom.laws.shown_is c.args.rom.now v words sound c.args.index in
    let is : g.R.CacheRom.service.shown c.args.rom.now c.args.index ≡ None = cc in
    let stands = subst (λ (p : Option (ℕ × ℕ)). StandsAt v (g.R.CacheRom.service.kept c.args.rom.now) c.args.index p) is shown in
    absurd (none_shown v (g.R.CacheRom.service.kept c.args.rom.now) t c.args.index (g.met.R.CacheRom.laws.image c.args.rom.now v words sound) stands at)
