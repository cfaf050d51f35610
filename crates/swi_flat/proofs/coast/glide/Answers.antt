use Rattle.std.proofs.Common.{◌≡◌, ◌-◌, ◌+◌, length, sym, arith, refl, subst, ◌∙◌}
use Rattle.std.proofs.lemmas.Option.{slice_get_read}
use Rattle.swi_calls.specs.declared.machine.Machine.{Machine}
use Rattle.swi_memory.specs.Bus.{fetched}
use Rattle.swi_micro.specs.declared.class.Class.TheVariants as class
use Rattle.swi_micro.specs.Decoded.{AreDecoded}
use Rattle.swi_micro.proofs.Forgetting.{same_words}
use Rattle.swi_flat.specs.Coasted.{Coasts, Gates, is_open}
use Rattle.swi_micro.proofs.Straight.{else_straight}
use Rattle.swi_flat.proofs.Coasting.{Gone, at_word, coasts_on, gone_by, jumped, left_so, straight_toll}
use Rattle.swi_flat.proofs.coast.glide.Goals as goal
use Rattle.swi_flat.proofs.coast.glide.Goals.{in-Equal, in-Less, in-Below, in-Jal, else-loop-left-test, then-loop-left-test+then-gate, then-loop-left-test+else-gate+in-Jalr, then-loop-left-test+else-gate+in_default+in_default-step_as, then-loop-left-test+else-gate+in_default-gone}

pub loop-left-preserved-in_default : goal.loop-left-preserved-in_default
loop-left-preserved-in_default c =
    let i = c.loop-left.invariant in
    let g : Gates = record { base = c.args.range.now.from; words = c.args.gates.now.items; masks = c.args.masks.now; pass = c.args.pass } in
    let range = c.args.range.now in
    let m = c.loop-left.machine in
    let n : Machine = record m { regs = c.step_as.new.regs; bus = c.step_as.new.bus } in
    let k = c.loop-left.k in
    let ops = c.args.ops.now in
    let op = c.index-ops-k.result in
    let gate = c.index-gate.result.now in
    let within = i.within in
    let no_fewer = i.no_fewer in
    let index = i.index in
    let few = i.few in
    let long = c.requires.long in
    let d = c.in_default in
    let o : Gone g range k m n c.in-Some.next 0 =
    gone_by g range k m n op ops gate c.class.result c.in-Some.next 0 i.decoded i.index c.index-ops-k.is
    (slice_get_read c.args.gates.now.items (length c.args.gates.now.items) k gate refl (omega (arith, index, long)) c.index-gate.ensures) c.if-gate.false c.class.ensures
    (straight_toll c.class.result gate.ends (is_open g.masks g.pass gate.exit) op m.regs (else_straight c.class.result d.not-Equal d.not-Less d.not-Below d.not-Jal d.not-Jalr d.not-Stop))
    (sym c.step_as.ensures.next ∙ c.in-Some.is) c.step_as.ensures.regs c.step_as.ensures.bus refl c.step_as.ensures.text (omega arith) in
    let none : c.loop-left.paid + 0 ≡ c.loop-left.paid = omega arith in
    record {
      run = subst (λ p. Coasts g c.args.first c.args.machine.now (c.args.limit - (c.loop-left.left - 1) - c.args.machine.now.steps) c.in-Some.next (at_word range n c.in-Some.next (c.args.limit - (c.loop-left.left - 1))) p) none
          (coasts_on g range c.args.machine.now m n c.args.limit c.loop-left.left c.args.first k c.in-Some.next c.loop-left.paid 0 refl long c.loop-left-test.true within no_fewer o i.run);
      index = o.step.within;
      decoded = same_words (fetched m.bus) (fetched n.bus) range ops o.text i.decoded;
      within = omega (arith, within);
      no_fewer = omega (arith, within, no_fewer);
      few = omega (arith, few, within, no_fewer, c.loop-left-test.true);
    }

pub loop-left-preserved : goal.loop-left-preserved
loop-left-preserved c =
    let i = c.loop-left.invariant in
    let g : Gates = record { base = c.args.range.now.from; words = c.args.gates.now.items; masks = c.args.masks.now; pass = c.args.pass } in
    let range = c.args.range.now in
    let m = c.loop-left.machine in
    let n = c.match-class.machine in
    let k = c.loop-left.k in
    let ops = c.args.ops.now in
    let op = c.index-ops-k.result in
    let gate = c.index-gate.result.now in
    let within = i.within in
    let no_fewer = i.no_fewer in
    let index = i.index in
    let few = i.few in
    let long = c.requires.long in
    let op_is = c.index-ops-k.is in
    let gate_is = slice_get_read c.args.gates.now.items (length c.args.gates.now.items) k gate refl (omega (arith, index, long)) c.index-gate.ensures in
    let o : Gone g range k m n c.in-Some-gone.next c.in-Some-gone.more = elim c.match-class.branch [
      | in-Equal w ↦
          let j = w.jump-gone in
          rw w.machine-is (jumped g range k m (record m { regs = j.new.regs; bus = j.new.bus }) op ops gate class.Equal j.result c.in-Some-gone.next c.in-Some-gone.more i.decoded i.index op_is gate_is c.if-gate.false (sym w.in-Equal.is ∙ c.class.ensures)
          (sym w.gone-is ∙ c.in-Some-gone.is) j.ensures.pays j.ensures.next j.ensures.regs j.ensures.bus refl j.ensures.text j.ensures.few)
      | in-Less w ↦
          let j = w.jump-gone-in-Less in
          rw w.machine-is (jumped g range k m (record m { regs = j.new.regs; bus = j.new.bus }) op ops gate class.Less j.result c.in-Some-gone.next c.in-Some-gone.more i.decoded i.index op_is gate_is c.if-gate.false (sym w.in-Less.is ∙ c.class.ensures)
          (sym w.gone-is ∙ c.in-Some-gone.is) j.ensures.pays j.ensures.next j.ensures.regs j.ensures.bus refl j.ensures.text j.ensures.few)
      | in-Below w ↦
          let j = w.jump-gone-in-Below in
          rw w.machine-is (jumped g range k m (record m { regs = j.new.regs; bus = j.new.bus }) op ops gate class.Below j.result c.in-Some-gone.next c.in-Some-gone.more i.decoded i.index op_is gate_is c.if-gate.false (sym w.in-Below.is ∙ c.class.ensures)
          (sym w.gone-is ∙ c.in-Some-gone.is) j.ensures.pays j.ensures.next j.ensures.regs j.ensures.bus refl j.ensures.text j.ensures.few)
      | in-Jal w ↦
          let j = w.jump-gone-in-Jal in
          rw w.machine-is (jumped g range k m (record m { regs = j.new.regs; bus = j.new.bus }) op ops gate class.Jal j.result c.in-Some-gone.next c.in-Some-gone.more i.decoded i.index op_is gate_is c.if-gate.false (sym w.in-Jal.is ∙ c.class.ensures)
          (sym w.gone-is ∙ c.in-Some-gone.is) j.ensures.pays j.ensures.next j.ensures.regs j.ensures.bus refl j.ensures.text j.ensures.few)
    ] in
    let more = o.few in
    record {
      run = coasts_on g range c.args.machine.now m n c.args.limit c.loop-left.left c.args.first k c.in-Some-gone.next c.loop-left.paid c.in-Some-gone.more refl long c.loop-left-test.true within no_fewer o i.run;
      index = o.step.within;
      decoded = same_words (fetched m.bus) (fetched n.bus) range ops o.text i.decoded;
      within = omega (arith, within);
      no_fewer = omega (arith, within, no_fewer);
      few = omega (arith, few, more, within, no_fewer, c.loop-left-test.true);
    }

pub returns-clause-decoded : goal.returns-clause-decoded
returns-clause-decoded c =
    subst (λ (q : Machine). AreDecoded (fetched q.bus) c.args.range.now c.args.ops.now) (sym (elim c.loop-left-test.branch [
      | else-loop-left-test w ↦ w.machine-is
      | then-loop-left-test+then-gate w ↦ w.machine-is
      | then-loop-left-test+else-gate+in-Jalr w ↦ w.machine-is
      | then-loop-left-test+else-gate+in_default+in_default-step_as w ↦
          left_so c.loop-left.machine c.loop-left-test.machine w.step_as.new.regs w.step_as.new.bus w.in_default-step_as.ensures.unchanged.0 w.in_default-step_as.ensures.unchanged.1 w.machine-is
      | then-loop-left-test+else-gate+in_default-gone w ↦ w.machine-is ∙ elim w.match-class.branch [
        | in-Equal v ↦ left_so c.loop-left.machine w.match-class.machine v.jump-gone.new.regs v.jump-gone.new.bus (v.jump-gone.ensures.same_regs (sym v.gone-is ∙ w.in_default-gone.is)) (v.jump-gone.ensures.same_bus (sym v.gone-is ∙ w.in_default-gone.is)) v.machine-is
        | in-Less v ↦
            let j = v.jump-gone-in-Less in
            left_so c.loop-left.machine w.match-class.machine j.new.regs j.new.bus (j.ensures.same_regs (sym v.gone-is ∙ w.in_default-gone.is)) (j.ensures.same_bus (sym v.gone-is ∙ w.in_default-gone.is)) v.machine-is
        | in-Below v ↦
            let j = v.jump-gone-in-Below in
            left_so c.loop-left.machine w.match-class.machine j.new.regs j.new.bus (j.ensures.same_regs (sym v.gone-is ∙ w.in_default-gone.is)) (j.ensures.same_bus (sym v.gone-is ∙ w.in_default-gone.is)) v.machine-is
        | in-Jal v ↦
            let j = v.jump-gone-in-Jal in
            left_so c.loop-left.machine w.match-class.machine j.new.regs j.new.bus (j.ensures.same_regs (sym v.gone-is ∙ w.in_default-gone.is)) (j.ensures.same_bus (sym v.gone-is ∙ w.in_default-gone.is)) v.machine-is
      ]
    ])) c.loop-left.invariant.decoded
