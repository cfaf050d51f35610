use Rattle.swi_memory.specs.Bus.{fetched}
use Rattle.swi_micro.specs.Decoded.{IsOpOf}
use Rattle.swi_micro.proofs.Forgetting.{made_one, same_words}
use Rattle.swi_flat.proofs.Stepping.{Stepped, op_made, stepped}
use Rattle.swi_flat.proofs.advance.decode_and_step.Goals as goal
use Rattle.swi_flat.proofs.advance.decode_and_step.Goals.{then-stops+in_default, else-stops}

-- the micro-op that is made, and the step by it
made : (c : goal.In-Some) → IsOpOf (fetched c.args.bus.now) c.args.range.now c.args.k c.micro_op-m.result
made c =
    op_made c.args.bus.now c.args.range.now c.args.k c.address.result c.in_ok-word.word c.in_ok-instr.instr c.micro_op-m.result c.fetch.result c.decode.result
    c.address.ensures c.fetch.ensures.value c.in_ok-word.was c.decode.ensures c.in_ok-instr.was c.micro_op-m.ensures

goes : (c : goal.In-Some) → Stepped c.args.range.now c.args.k c.args.regs.now c.args.bus.now c.in-Some.next c.step.new.regs c.step.new.bus
goes c =
    stepped c.args.range.now c.args.k c.micro_op-m.result c.args.regs.now c.step.new.regs c.args.bus.now c.step.new.bus c.step.result c.in-Some.next
    c.requires.decoded.whole c.requires.within (made c) c.step.ensures.next c.in-Some.is c.step.ensures.regs c.step.ensures.bus

pub returns-in-Some-clause-step : goal.returns-in-Some-clause-step
returns-in-Some-clause-step c = (goes c).goes

pub returns-in-Some-clause-within : goal.returns-in-Some-clause-within
returns-in-Some-clause-within c = (goes c).within

pub returns-in-Some-clause-decoded : goal.returns-in-Some-clause-decoded
returns-in-Some-clause-decoded c =
    same_words (fetched c.args.bus.now) (fetched c.step.new.bus) c.args.range.now _ c.step.ensures.text
    (made_one (fetched c.args.bus.now) c.args.range.now c.args.ops.now c.args.k c.micro_op-m.result c.requires.decoded c.requires.within (made c))

pub store_word-requires-clause-decoded : goal.store_word-requires-clause-decoded
store_word-requires-clause-decoded c = elim c.if-stops.branch [
  | then-stops+in_default w ↦
      let m = w.micro_op-m.result in
      let is : IsOpOf (fetched c.args.bus.now) c.args.range.now c.args.k m =
      op_made c.args.bus.now c.args.range.now c.args.k c.address.result c.in_ok-word.word c.in_ok-instr.instr m c.fetch.result c.decode.result
      c.address.ensures c.fetch.ensures.value c.in_ok-word.was c.decode.ensures c.in_ok-instr.was w.micro_op-m.ensures in
      rw (w.ops-is, w.bus-is) (same_words (fetched c.args.bus.now) (fetched w.step.new.bus) c.args.range.now _ w.step.ensures.text
      (made_one (fetched c.args.bus.now) c.args.range.now c.args.ops.now c.args.k m c.requires.decoded c.requires.within is))
  | else-stops w ↦ rw (w.ops-is, w.bus-is) c.requires.decoded
]
