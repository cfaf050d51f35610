use Rattle.std.proofs.Common.{subst, sym}
use Rattle.swi_memory.specs.Bus.{fetched}
use Rattle.swi_image_ops.specs.ImageOp.{AreImageOps}
use Rattle.swi_hart.specs.Hart.{HartData}
use Rattle.swi_board.proofs.Knowing.{ops_same}
use Rattle.swi_board.proofs.learnt.Learnt.advance.Goals as goal

pub start-requires-clause-fits : goal.start-requires-clause-fits
start-requires-clause-fits g c = (g.R.CacheRom.service.kept c.args.rom.now, c.requires.underway.running.stays.fits)

pub advance-block-requires-clause-found : goal.advance-block-requires-clause-found
advance-block-requires-clause-found g c = c.forget.ensures c.args.image.now (g.R.CacheRom.service.kept c.args.rom.now)

pub learn-requires-clause-ops : goal.learn-requires-clause-ops
learn-requires-clause-ops g c =
    subst (λ (h : HartData). AreImageOps (fetched h.machine.bus) c.args.image.now c.args.self.now.ops) (sym c.hart.view_is)
    (ops_same (fetched c.args.hart.now.machine.bus) (fetched c.advance-block.new.hart.machine.bus) c.advance-block.ensures.text c.args.image.now _ c.requires.knows)
