use Rattle.std.proofs.Common.{sym, ap, ◌∙◌}
use Rattle.swi_hart.specs.Hart.{HartData}
use Rattle.swi_hart.proofs.Homes.{home}
use Rattle.swi_hart.proofs.Exchanging.{home_inside}
use Rattle.swi_hart.proofs.plain.plain_place.Goals as goal

pub word-own-requires-clause-offset : goal.word-own-requires-clause-offset
word-own-requires-clause-offset c =
    home_inside c.args.image.now c.requires.fits.0 c.args.hart.now.machine c.in-At.index c.in-At.block c.in-At.offset c.in-At.stage
    (home c.args.image.now c.requires.fits.0 c.args.hart.now c.in-At.index c.in-At.block c.in-At.offset c.in-At.stage c.requires.fits.1
    (sym (ap (λ (h : HartData). h.control) c.hart.view_is) ∙ sym c.control.ensures ∙ c.in-At.is) c.requires.running c.origin_pc-pc.ensures.word)
