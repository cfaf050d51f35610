use Rattle.std.proofs.Common.{◌≡◌, ℕ, ◌≤◌, ◌<◌, ◌+◌, ◌-◌, List, get_or, None, is_some, refl, sym, ap, arith, subst, ◌∙◌}
use Rattle.swi_calls.specs.declared.machine.Machine.{Machine}
use Rattle.swi_exec.specs.Registers.{Registers}
use Rattle.swi_memory.specs.Bus.{AreaData, fetched}
use Rattle.swi_memory.specs.declared.word_range.WordRange.{WordRange}
use Rattle.swi_micro.specs.MicroOp.{address_at}
use Rattle.swi_micro.proofs.Forgetting.{same_words}
use Rattle.swi_micro.proofs.Sums.{Target, target}
use Rattle.swi_flat.specs.Advanced.{Advances, GoesOnAt}
use Rattle.swi_flat.proofs.Quiet.{advances_none, advances_more}
use Rattle.swi_flat.proofs.Stepping.{Stepped, stepped_at, written_back}
use Rattle.swi_flat.proofs.advance.advance.Goals as goal
use Rattle.swi_flat.proofs.advance.advance.Goals.{in-Some-step, in-None+in-Some-step_anew, else-loop-left-test, then-loop-left-test+in-None+in-None-step_anew}

pub returns-in_default-clause-run : goal.returns-in_default-clause-run
returns-in_default-clause-run c = advances_none c.args.machine.now

pub loop-left-init : goal.loop-left-init
loop-left-init c =
    let within = c.requires.within in
    let back : c.args.limit - (c.args.limit - c.args.machine.now.steps) ≡ c.args.machine.now.steps = omega (arith, within) in
    let pc = c.args.machine.now.pc in
    let at : Target c.args.decoded.now.range pc c.in-Some.first = target c.args.decoded.now.range pc c.in-Some.first c.requires.decoded.whole (omega arith) (sym c.index_of.ensures ∙ c.in-Some.is) in
    let here = at.within in
    record {
      run = rw (back, at.address) (advances_none c.args.machine.now);
      going = c.requires.going;
      index = omega (arith, here);
      decoded = rw c.as_mut_slice-ops.ensures.value c.requires.decoded;
      within = omega arith;
      no_fewer = omega (arith, within);
    }

-- one step more of the run, and one fewer that is left
on : (first m : Machine) (limit left : ℕ) (range : WordRange) (k next : ℕ) (regs : Registers) (bus : List AreaData) → m.ending ≡ None → 0 < left → left ≤ limit → first.steps ≤ limit - left →
    Advances first (record m { pc = address_at range k; steps = limit - left }) → GoesOnAt (address_at range k) m.regs m.bus (address_at range next) regs bus →
    Advances first (record m { pc = address_at range next; regs = regs; bus = bus; steps = limit - (left - 1) })
on first m limit left range k next regs bus going some within no_fewer run goes =
    let now : Machine = record m { pc = address_at range k; steps = limit - left } in
    let after : Machine = record m { pc = address_at range next; regs = regs; bus = bus; steps = limit - left + 1 } in
    let counted : after.steps ≡ limit - (left - 1) = omega (arith, some, within) in
    subst (λ n. Advances first (record after { steps = n })) counted
    (advances_more first now after run no_fewer refl (ap (λ o. is_some o) going) (goes now))

pub loop-left-preserved : goal.loop-left-preserved
loop-left-preserved c =
    let i = c.loop-left.invariant in
    let m = c.loop-left.machine in
    let range = c.args.decoded.now.range in
    let no_fewer = i.no_fewer in
    let within = i.within in
    elim c.match-step.branch [
      | in-Some-step w ↦
          let s : Stepped range c.loop-left.k m.regs m.bus w.in-Some-step.next c.step.new.regs c.step.new.bus =
          stepped_at range c.loop-left.ops c.loop-left.k (get_or c.loop-left.ops c.loop-left.k c.index-ops-k.result) m.regs c.step.new.regs m.bus c.step.new.bus c.step.result w.in-Some-step.next i.decoded i.index (ap (get_or c.loop-left.ops c.loop-left.k) c.index-ops-k.is)
          c.step.ensures.next w.in-Some-step.is c.step.ensures.regs c.step.ensures.bus in
          let here = s.within in
          rw (w.machine-is, w.ops-is, w.k-is) (record {
            run = on c.args.machine.now m c.args.limit c.loop-left.left range c.loop-left.k w.in-Some-step.next c.step.new.regs c.step.new.bus i.going c.loop-left-test.true within no_fewer i.run s.goes;
            going = i.going;
            index = here;
            decoded = same_words (fetched m.bus) (fetched c.step.new.bus) range c.loop-left.ops c.step.ensures.text i.decoded;
            within = omega (arith, within);
            no_fewer = omega (arith, no_fewer);
          })
      | in-None+in-Some-step_anew w ↦
          let next = w.in-Some-step_anew.next in
          let regs = w.step_anew.new.regs in
          let bus = w.step_anew.new.bus in
          let stays = w.in-None.ensures.unchanged in
          let made = w.in-Some-step_anew.ensures.step in
          let goes : GoesOnAt (address_at range c.loop-left.k) m.regs m.bus (address_at range next) regs bus = rw (stays.0, stays.1) at made in
          let here = w.in-Some-step_anew.ensures.within in
          rw (w.machine-is, w.ops-is, w.k-is) (record {
            run = on c.args.machine.now m c.args.limit c.loop-left.left range c.loop-left.k next regs bus i.going c.loop-left-test.true within no_fewer i.run goes;
            going = i.going;
            index = here;
            decoded = w.step_anew.ensures.decoded;
            within = omega (arith, within);
            no_fewer = omega (arith, no_fewer);
          })
    ]

pub returns-clause-decoded : goal.returns-clause-decoded
returns-clause-decoded c = elim c.loop-left-test.branch [
  | else-loop-left-test w ↦
      rw (w.machine-is, w.decoded-is) (written_back c.loop-left.machine.bus c.args.decoded.now.range c.args.decoded.now.ops c.loop-left.ops (c.loop-left.auto.ops ∙ c.as_mut_slice-ops.ensures.len) c.loop-left.invariant.decoded)
  | then-loop-left-test+in-None+in-None-step_anew w ↦
      rw (w.machine-is, w.decoded-is) (written_back w.step_anew.new.bus c.args.decoded.now.range c.args.decoded.now.ops w.step_anew.new.ops (w.step_anew.auto.ops ∙ c.loop-left.auto.ops ∙ c.as_mut_slice-ops.ensures.len) w.step_anew.ensures.decoded)
]
