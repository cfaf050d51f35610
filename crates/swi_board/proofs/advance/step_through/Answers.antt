use Rattle.std.proofs.Common.{◌≡◌, ◌==◌, ℕ, ◌+◌, Bool, true, false, List, refl, sym, ap, subst, ◌∙◌, arith, rules}
use Rattle.swi_memory.specs.Bus.{AreaData, fetched}
use Rattle.swi_micro.proofs.Straight.{else_straight}
use Rattle.swi_board.specs.Turning.{Turn, Turned, turn}
use Rattle.swi_board.proofs.Going.{call_inside, exit_fewer, op_in_row, row_in, stays_fewer}
use Rattle.swi_board.proofs.Knowing.{ops_same}
use Rattle.swi_board.proofs.Turns.{turned_none}
use Rattle.swi_board.proofs.advance.step_through.Goals as goal
use Rattle.swi_board.proofs.advance.step_through.Goals.{in-Equal, in-Lui, in-Jal+then-writes_x0, in-Jal+else-writes_x0+else-not-is_exit, in-Jalr+else-not-jalr_step, in_default+else-not-straight_step}

-- rd isn't x0
some_rd : (r : ℕ) (b : Bool) → b ≡ (r == 0) → b ≡ false → r ≡ 0 → ⊥
some_rd r b is set zero = let never : true ≡ false = ap (λ (n : ℕ). n == 0) (sym zero) ∙ sym is ∙ set in cc

pub loop-at-init : goal.loop-at-init
loop-at-init g c = record {
  turned = λ limit b. turned_none {from = b.at} g.met.R.CacheRom.laws b.sound b.going b.within;
  text = λ a. refl;
  found = c.requires.found;
}

pub offset_bounds-ops-at : goal.offset_bounds-ops-at
offset_bounds-ops-at g c =
    let b = c.requires.begins in
    let within = row_in g.met.R.CacheRom.laws b.1 (c.loop-at.invariant.turned b.0 b.1) c.loop-at-test.true in
    let small = c.words-words.ensures.small in
    let value = c.words-words.ensures.value in
    omega (arith, within, small, value)

pub bounds-ops-at : goal.bounds-ops-at
bounds-ops-at g c =
    let b = c.requires.begins in
    let within = row_in g.met.R.CacheRom.laws b.1 (c.loop-at.invariant.turned b.0 b.1) c.loop-at-test.true in
    let count = c.requires.ops.count in
    omega (arith, within, count)

pub branch_step-requires-clause-going : goal.branch_step-requires-clause-going
branch_step-requires-clause-going g c =
    let b = c.requires.begins in
    record {
      limit = b.0;
      first = turn c.args.machine.now c.args.rom.now (g.M.CacheRam.state c.args.ram.now) c.args.cursor.now;
      begins = b.1;
      turned = c.loop-at.invariant.turned b.0 b.1;
      some = c.loop-at-test.true;
    }

pub branch_step-requires-clause-op : goal.branch_step-requires-clause-op
branch_step-requires-clause-op g c = op_in_row (ops_same (fetched c.args.machine.now.bus) (fetched c.loop-at.machine.bus) c.loop-at.invariant.text c.args.image.now c.args.ops.now c.requires.ops) c.loop-at.at.row c.index-ops-at.result c.index-ops-at.result c.index-ops-at.is

pub exit_step-requires-clause-going : goal.exit_step-requires-clause-going
exit_step-requires-clause-going g c =
    let b = c.requires.begins in
    record {
      limit = b.0;
      first = turn c.args.machine.now c.args.rom.now (g.M.CacheRam.state c.args.ram.now) c.args.cursor.now;
      begins = b.1;
      turned = c.loop-at.invariant.turned b.0 b.1;
      some = c.loop-at-test.true;
    }

pub exit_step-requires-clause-op : goal.exit_step-requires-clause-op
exit_step-requires-clause-op g c = op_in_row (ops_same (fetched c.args.machine.now.bus) (fetched c.loop-at.machine.bus) c.loop-at.invariant.text c.args.image.now c.args.ops.now c.requires.ops) c.loop-at.at.row c.index-ops-at.result c.index-ops-at.result c.index-ops-at.is

pub overflow_add-exit : goal.overflow_add-exit
overflow_add-exit g c =
    let b = c.requires.begins in
    let within = row_in g.met.R.CacheRom.laws b.1 (c.loop-at.invariant.turned b.0 b.1) c.loop-at-test.true in
    let small = c.words-words.ensures.small in
    let value = c.words-words.ensures.value in
    omega (arith, within, small, value)

pub offset_bounds-ops-at-else-writes_x0 : goal.offset_bounds-ops-at-else-writes_x0
offset_bounds-ops-at-else-writes_x0 g c =
    let b = c.requires.begins in
    let within = row_in g.met.R.CacheRom.laws b.1 (c.loop-at.invariant.turned b.0 b.1) c.loop-at-test.true in
    let small = c.words-words.ensures.small in
    let value = c.words-words.ensures.value in
    omega (arith, within, small, value)

pub bounds-ops-at-else-writes_x0 : goal.bounds-ops-at-else-writes_x0
bounds-ops-at-else-writes_x0 g c =
    let b = c.requires.begins in
    let within = call_inside g.met.R.CacheRom.laws b.1 (c.loop-at.invariant.turned b.0 b.1) c.loop-at-test.true c.index-ops-at.result (op_in_row (ops_same (fetched c.args.machine.now.bus) (fetched c.loop-at.machine.bus) c.loop-at.invariant.text c.args.image.now c.args.ops.now c.requires.ops) c.loop-at.at.row c.index-ops-at.result c.index-ops-at.result c.index-ops-at.is)
    (sym c.class-class.ensures ∙ c.in-Jal.is) (some_rd _ c.writes_x0.result c.writes_x0.ensures c.if-writes_x0.false) in
    let count = c.requires.ops.count in
    omega (arith, within, count)

pub call_step-requires-clause-going : goal.call_step-requires-clause-going
call_step-requires-clause-going g c =
    let b = c.requires.begins in
    record {
      limit = b.0;
      first = turn c.args.machine.now c.args.rom.now (g.M.CacheRam.state c.args.ram.now) c.args.cursor.now;
      begins = b.1;
      turned = c.loop-at.invariant.turned b.0 b.1;
      some = c.loop-at-test.true;
    }

pub call_step-requires-clause-op : goal.call_step-requires-clause-op
call_step-requires-clause-op g c = op_in_row (ops_same (fetched c.args.machine.now.bus) (fetched c.loop-at.machine.bus) c.loop-at.invariant.text c.args.image.now c.args.ops.now c.requires.ops) c.loop-at.at.row c.index-ops-at.result c.index-ops-at.result c.index-ops-at.is

pub call_step-requires-clause-exit : goal.call_step-requires-clause-exit
call_step-requires-clause-exit g c =
    op_in_row (ops_same (fetched c.args.machine.now.bus) (fetched c.loop-at.machine.bus) c.loop-at.invariant.text c.args.image.now c.args.ops.now c.requires.ops) (c.loop-at.at.row + 2) c.index-ops-at-else-writes_x0.result
    c.index-ops-at-else-writes_x0.result c.index-ops-at-else-writes_x0.is

pub jalr_step-requires-clause-going : goal.jalr_step-requires-clause-going
jalr_step-requires-clause-going g c =
    let b = c.requires.begins in
    record {
      limit = b.0;
      first = turn c.args.machine.now c.args.rom.now (g.M.CacheRam.state c.args.ram.now) c.args.cursor.now;
      begins = b.1;
      turned = c.loop-at.invariant.turned b.0 b.1;
      some = c.loop-at-test.true;
    }

pub jalr_step-requires-clause-op : goal.jalr_step-requires-clause-op
jalr_step-requires-clause-op g c = op_in_row (ops_same (fetched c.args.machine.now.bus) (fetched c.loop-at.machine.bus) c.loop-at.invariant.text c.args.image.now c.args.ops.now c.requires.ops) c.loop-at.at.row c.index-ops-at.result c.index-ops-at.result c.index-ops-at.is

pub upper_step-requires-clause-going : goal.upper_step-requires-clause-going
upper_step-requires-clause-going g c =
    let b = c.requires.begins in
    record {
      limit = b.0;
      first = turn c.args.machine.now c.args.rom.now (g.M.CacheRam.state c.args.ram.now) c.args.cursor.now;
      begins = b.1;
      turned = c.loop-at.invariant.turned b.0 b.1;
      some = c.loop-at-test.true;
    }

pub upper_step-requires-clause-op : goal.upper_step-requires-clause-op
upper_step-requires-clause-op g c = op_in_row (ops_same (fetched c.args.machine.now.bus) (fetched c.loop-at.machine.bus) c.loop-at.invariant.text c.args.image.now c.args.ops.now c.requires.ops) c.loop-at.at.row c.index-ops-at.result c.index-ops-at.result c.index-ops-at.is

pub straight_step-requires-clause-going : goal.straight_step-requires-clause-going
straight_step-requires-clause-going g c =
    let b = c.requires.begins in
    record {
      limit = b.0;
      first = turn c.args.machine.now c.args.rom.now (g.M.CacheRam.state c.args.ram.now) c.args.cursor.now;
      begins = b.1;
      turned = c.loop-at.invariant.turned b.0 b.1;
      some = c.loop-at-test.true;
    }

pub straight_step-requires-clause-op : goal.straight_step-requires-clause-op
straight_step-requires-clause-op g c = op_in_row (ops_same (fetched c.args.machine.now.bus) (fetched c.loop-at.machine.bus) c.loop-at.invariant.text c.args.image.now c.args.ops.now c.requires.ops) c.loop-at.at.row c.index-ops-at.result c.index-ops-at.result c.index-ops-at.is

pub straight_step-requires-clause-straight : goal.straight_step-requires-clause-straight
straight_step-requires-clause-straight g c =
    else_straight c.class-class.result c.in_default.not-Equal c.in_default.not-Less c.in_default.not-Below c.in_default.not-Jal c.in_default.not-Jalr c.in_default.not-Stop

pub loop-at-smaller : goal.loop-at-smaller
loop-at-smaller g c =
    let b = c.requires.begins in
    let left = c.loop-at.at.left in
    let some = c.loop-at-test.true in
    elim c.match-class.branch [
      | in-Equal w ↦ rw w.at-is (stays_fewer left _ _ _ some w.branch_step.ensures.left)
      | in-Lui w ↦ rw w.at-is (stays_fewer left _ _ _ some w.upper_step.ensures.left)
      | in-Jal+then-writes_x0 w ↦
          rw w.at-is (exit_fewer g.met.R.CacheRom.laws b.1 (c.loop-at.invariant.turned b.0 b.1) some
          (ops_same (fetched c.args.machine.now.bus) (fetched c.loop-at.machine.bus) c.loop-at.invariant.text c.args.image.now c.args.ops.now c.requires.ops)
          c.index-ops-at.result c.index-ops-at.is (sym c.class-class.ensures ∙ w.in-Jal.is) _ _ w.exit_step.ensures.left w.exit_step.ensures.lands)
      | in-Jal+else-writes_x0+else-not-is_exit w ↦ rw w.at-is (stays_fewer left _ _ _ some w.call_step.ensures.left)
      | in-Jalr+else-not-jalr_step w ↦ rw w.at-is (stays_fewer left _ _ _ some w.jalr_step.ensures.left)
      | in_default+else-not-straight_step w ↦ rw w.at-is (stays_fewer left _ _ _ some w.straight_step.ensures.left)
    ]

pub loop-at-preserved : goal.loop-at-preserved
loop-at-preserved g c =
    let i = c.loop-at.invariant in
    let some = c.loop-at-test.true in
    let m = c.index-ops-at.result in
    let op = (op_in_row (ops_same (fetched c.args.machine.now.bus) (fetched c.loop-at.machine.bus) c.loop-at.invariant.text c.args.image.now c.args.ops.now c.requires.ops) c.loop-at.at.row c.index-ops-at.result c.index-ops-at.result c.index-ops-at.is) in
    elim c.match-class.branch [
      | in-Equal w ↦ rw (w.machine-is, w.rom-is, w.ram-is, w.ways-is, w.at-is) (record {
        turned = λ limit b. w.branch_step.ensures.turns limit _ b (i.turned limit b);
        text = i.text;
        found = w.branch_step.ensures.found;
      })
      | in-Lui w ↦ rw (w.machine-is, w.rom-is, w.ram-is, w.ways-is, w.at-is) (record {
        turned = λ limit b. w.upper_step.ensures.turns limit _ b (i.turned limit b);
        text = λ a. ap (λ (l : List AreaData). fetched l a) w.upper_step.ensures.bus ∙ i.text a;
        found = i.found;
      })
      | in-Jal+then-writes_x0 w ↦ rw (w.machine-is, w.rom-is, w.ram-is, w.ways-is, w.at-is) (record {
        turned = λ limit b. w.exit_step.ensures.turns limit _ b (i.turned limit b);
        text = i.text;
        found = w.exit_step.ensures.found;
      })
      | in-Jal+else-writes_x0+else-not-is_exit w ↦ rw (w.machine-is, w.rom-is, w.ram-is, w.ways-is, w.at-is) (record {
        turned = λ limit b. w.call_step.ensures.turns limit _ b (i.turned limit b);
        text = λ a. ap (λ (l : List AreaData). fetched l a) w.call_step.ensures.bus ∙ i.text a;
        found = w.call_step.ensures.found;
      })
      | in-Jalr+else-not-jalr_step w ↦ rw (w.machine-is, w.rom-is, w.ram-is, w.ways-is, w.at-is) (record {
        turned = λ limit b. w.jalr_step.ensures.turns w.if-not-jalr_step.false limit _ b (i.turned limit b);
        text = λ a. ap (λ (l : List AreaData). fetched l a) w.jalr_step.ensures.bus ∙ i.text a;
        found = w.jalr_step.ensures.found;
      })
      | in_default+else-not-straight_step w ↦ rw (w.machine-is, w.rom-is, w.ram-is, w.ways-is, w.at-is) (record {
        turned = λ limit b. w.straight_step.ensures.turns w.if-not-straight_step.false limit _ b (i.turned limit b);
        text = λ a. w.straight_step.ensures.text a ∙ i.text a;
        found = i.found;
      })
    ]

pub returns-then-not-jalr_step-clause-turned : goal.returns-then-not-jalr_step-clause-turned
returns-then-not-jalr_step-clause-turned g c limit b =
    subst (λ (t : Turn g.row.R.Denot). Turned g.R.CacheRom.service c.args.image.now limit (turn c.args.machine.now c.args.rom.now (g.M.CacheRam.state c.args.ram.now) c.args.cursor.now) b.at t)
    (sym (c.jalr_step.ensures.stays (search rules))) (c.loop-at.invariant.turned limit b)

pub returns-then-not-jalr_step-clause-text : goal.returns-then-not-jalr_step-clause-text
returns-then-not-jalr_step-clause-text g c a = ap (λ (l : List AreaData). fetched l a) c.jalr_step.ensures.bus ∙ c.loop-at.invariant.text a

pub returns-then-not-straight_step-clause-turned : goal.returns-then-not-straight_step-clause-turned
returns-then-not-straight_step-clause-turned g c limit b =
    subst (λ (t : Turn g.row.R.Denot). Turned g.R.CacheRom.service c.args.image.now limit (turn c.args.machine.now c.args.rom.now (g.M.CacheRam.state c.args.ram.now) c.args.cursor.now) b.at t)
    (sym (c.straight_step.ensures.stays (search rules))) (c.loop-at.invariant.turned limit b)

pub returns-then-not-straight_step-clause-text : goal.returns-then-not-straight_step-clause-text
returns-then-not-straight_step-clause-text g c a = c.straight_step.ensures.text a ∙ c.loop-at.invariant.text a
