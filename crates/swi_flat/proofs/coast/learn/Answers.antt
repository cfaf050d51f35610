use Rattle.swi_memory.specs.Bus.{fetched}
use Rattle.swi_micro.specs.Decoded.{IsOpOf}
use Rattle.swi_micro.proofs.Forgetting.{made_one}
use Rattle.swi_flat.proofs.Stepping.{op_made}
use Rattle.swi_flat.proofs.coast.learn.Goals as goal

pub returns-in-Some-decode : goal.returns-in-Some-decode
returns-in-Some-decode c =
    let is : IsOpOf (fetched c.args.bus.now) c.args.range.now c.args.k c.micro_op.result =
    op_made c.args.bus.now c.args.range.now c.args.k c.address.result c.in-Some.word c.in-Some-decode.instr c.micro_op.result c.fetch.result c.decode.result
    c.address.ensures c.fetch.ensures.value c.in-Some.is c.decode.ensures c.in-Some-decode.is c.micro_op.ensures in
    made_one (fetched c.args.bus.now) c.args.range.now c.args.ops.now c.args.k c.micro_op.result c.requires c.if-k-range.false is
