use Rattle.std.proofs.Common.{◌≡◌, ℕ, ◌+◌, ◌-◌, ◌/◌, ◌<◌, ◌≤◌, length, get_or, arith, sym}
use Rattle.swi_image.proofs.Views.{halved_right, halved_left, halved_block, halved_own, counted_next}
use Rattle.swi_image.proofs.image.ImageView.block_of.Goals as goal

pub loop-low-preserved-then-start-k : goal.loop-low-preserved-then-start-k
loop-low-preserved-then-start-k g c =
    let i = c.loop-low.invariant in
    let v = c.args.self.now in
    let low : ℕ = c.loop-low.low in
    let high : ℕ = c.loop-low.high in
    let middle : ℕ = low + (high - low) / 2 in
    let found : get_or v.starts middle 0 ≤ c.args.k = omega (arith, c.start.ensures.value) in
    let step : c.start.new.steps - c.args.steps.now ≡ c.loop-low.steps - c.args.steps.now + 1 = omega (arith, c.start.ensures.step, i.3) in (
      i.0,
      halved_right v c.args.k low high middle i.1 (omega arith) (omega arith) found,
      rw step (counted_next (length v.starts) (c.loop-low.steps - c.args.steps.now) (high - low) (high - (middle + 1)) i.2 (omega arith) (omega arith)),
      omega (arith, c.start.ensures.step, i.3),
    )

pub loop-low-preserved : goal.loop-low-preserved
loop-low-preserved g c =
    let i = c.loop-low.invariant in
    let v = c.args.self.now in
    let low : ℕ = c.loop-low.low in
    let high : ℕ = c.loop-low.high in
    let middle : ℕ = low + (high - low) / 2 in
    let passed : c.args.k < get_or v.starts middle 0 = omega (arith, c.start.ensures.value) in
    let step : c.start.new.steps - c.args.steps.now ≡ c.loop-low.steps - c.args.steps.now + 1 = omega (arith, c.start.ensures.step, i.3) in (
      i.0,
      halved_left v c.args.k low high middle i.1 (omega arith) (omega arith) passed,
      rw step (counted_next (length v.starts) (c.loop-low.steps - c.args.steps.now) (high - low) (middle - low) i.2 (omega arith) (omega arith)),
      omega (arith, c.start.ensures.step, i.3),
    )

pub returns-clause-block : goal.returns-clause-block
returns-clause-block g c =
    let i = c.loop-low.invariant in
    let all = halved_block c.args.self.now c.args.k c.loop-low.low c.loop-low.high i.0 i.1 c.loop-low-test.false in
    sym all.0

pub returns-clause-own : goal.returns-clause-own
returns-clause-own g c =
    halved_own c.args.self.now c.args.k c.loop-low.low c.loop-low.high c.loop-low.invariant.0 c.loop-low.invariant.1 c.loop-low-test.false c.requires
