use Rattle.std.proofs.Common.{◌+◌, ◌<◌, ◌≤◌, arith, length, subst}
use Rattle.swi_memory.specs.Bus.{fetched}
use Rattle.swi_image.specs.Place.{next_start}
use Rattle.swi_image_ops.proofs.Learning.{none_between, own_inside, own_short}
use Rattle.swi_image_ops.proofs.words.learn_text.Goals.{then-t-next, else-t-next}
use Rattle.swi_image_ops.proofs.words.learn_text.Goals as goal

pub overflow_mul-t : goal.overflow_mul-t
overflow_mul-t c =
    let to = c.requires.to in
    let next = c.next-next.ensures.value in
    let within = c.next-next.ensures.within in
    let few = c.next-next.ensures.sound.few in
    omega (arith, to, next, within, few)

pub overflow_add-t : goal.overflow_add-t
overflow_add-t c =
    let to = c.requires.to in
    let next = c.next-next.ensures.value in
    let within = c.next-next.ensures.within in
    let few = c.next-next.ensures.sound.few in
    omega (arith, to, next, within, few)

pub overflow_step-offset : goal.overflow_step-offset
overflow_step-offset c =
    let within : next_start c.args.image.now c.args.block ≤ length c.args.image.now.offsets = subst (λ n. n ≤ length c.args.image.now.offsets) c.next-next.ensures.value c.next-next.ensures.within in
    let short = own_short c.args.image.now c.args.block c.args.t c.next-next.ensures.sound c.requires.block c.requires.from c.requires.to within in
    let at = c.offset-offset.ensures in
    omega (arith, short, at)

pub learn_exit-requires-clause-offset : goal.learn_exit-requires-clause-offset
learn_exit-requires-clause-offset c =
    let within : next_start c.args.image.now c.args.block ≤ length c.args.image.now.offsets = subst (λ n. n ≤ length c.args.image.now.offsets) c.next-next.ensures.value c.next-next.ensures.within in
    let below = c.loop-offset-test.true in
    let from = c.requires.from in
    let next = c.next-next.ensures.value in
    elim c.if-t-next.branch [
      | then-t-next w ↦
          let more = w.if-t-next in
          let on : c.args.t + 1 < next_start c.args.image.now c.args.block = omega (arith, more, next) in
          let inside = own_inside c.args.image.now c.args.block (c.args.t + 1) c.next-next.ensures.sound c.requires.block (omega (arith, from)) on within in
          let end = w.end-is in
          let at = w.offset-end.ensures in
          omega (arith, below, inside, end, at)
      | else-t-next w ↦
          let end = w.end-is in
          let size = w.length-end.ensures.value in
          omega (arith, below, end, size)
    ]

pub learn_exit-requires-clause-free : goal.learn_exit-requires-clause-free
learn_exit-requires-clause-free c =
    let v = c.args.image.now in
    let at = c.offset-offset.ensures in
    let behind = c.loop-offset.auto.offset in
    none_between v c.args.block c.args.t c.loop-offset.offset c.if-t-next.end c.next-next.ensures.sound c.requires.block c.requires.from c.requires.to (omega (arith, at, behind)) c.loop-offset-test.true
    (λ on.
    let next = c.next-next.ensures.value in
    elim c.if-t-next.branch [
      | then-t-next w ↦ let end = w.end-is in let begins = w.offset-end.ensures in omega (arith, end, begins)
      | else-t-next w ↦ let last = w.if-t-next in absurd (omega (arith, on, next, last))
    ])

pub loop-offset-preserved : goal.loop-offset-preserved
loop-offset-preserved c = c.learn_exit.ensures (fetched c.args.bus.now) c.loop-offset.invariant
