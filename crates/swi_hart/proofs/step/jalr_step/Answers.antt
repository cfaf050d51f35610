use Rattle.std.proofs.Common.{rules}
use Rattle.swi_hart.specs.declared.hart.Control.TheVariants.{At}
use Rattle.swi_hart.specs.Leaving.{step_to}
use Rattle.swi_hart.proofs.Falls.{jumps_by}
use Rattle.swi_hart.proofs.Results.{ok_map}
use Rattle.swi_hart.proofs.step.jalr_step.Goals as goal

pub returns-clause-step : goal.returns-clause-step
returns-clause-step g c =
    let x = c.args.x in
    ok_map c.jump_step.result
    (λ step. λ input. jumps_by c.args.image.now (g.R.CacheRom.service.kept c.jump_step.new.rom) (step_to c.jump_step.new.hart input) input
    (At c.args.at.index c.args.at.block c.args.at.offset c.args.at.stage) c.args.hart.now.machine x.rd x.rs1 x.imm _ c.args.link (search rules) (step input))
    c.jump_step.ensures.step
