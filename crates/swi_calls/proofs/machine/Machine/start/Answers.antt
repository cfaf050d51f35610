use Rattle.std.proofs.Common.{List, arith, ap, ◌∙◌}
use Rattle.swi_memory.specs.Segment.{SegmentData}
use Rattle.swi_memory.specs.BusOf.{word_in}
use Rattle.swi_calls.proofs.machine.Machine.start.Goals as goal

pub overflow_add-result : goal.overflow_add-result
overflow_add-result c = let room = c.segments.ensures.room c.args.l.now c.requires.laid_out in omega (arith, room.stack, room.end)

pub returns-clause-text : goal.returns-clause-text
returns-clause-text c a = c.in_ok-bus.ensures.text a ∙ ap (λ (segments : List SegmentData). word_in segments a) c.segments.ensures.value ∙ c.segments.ensures.held a
