use Rattle.std.proofs.Common.{◌<◌, ◌∙◌, length, arith, refl}
use Rattle.std.proofs.lemmas.List.{length-set}
use Rattle.swi_report.specs.State.{numbers}
use Rattle.swi_report.proofs.Areas.{row_more}
use Rattle.swi_report.proofs.memory.row_at.Goals as goal

pub loop-offset-init : goal.loop-offset-init
unfolding numbers
loop-offset-init c = record { size = refl; front = refl }

pub loop-offset-preserved : goal.loop-offset-preserved
loop-offset-preserved c =
    let within : c.loop-offset.offset < length c.loop-offset.byte-items = omega (arith, c.loop-offset.invariant.size) in
    record {
      size = length-set c.loop-offset.byte-items c.loop-offset.offset _ ∙ c.loop-offset.invariant.size;
      front = row_more c.args.area.now.base c.args.area.now.bytes.now c.args.address c.loop-offset.offset c.loop-offset.byte-items _
          within c.loop-offset.invariant.front c.byte_in.ensures;
    }
