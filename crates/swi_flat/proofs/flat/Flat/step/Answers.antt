use Rattle.std.proofs.Common.{◌≡◌, Option, Some, false, List, ℕ, Result, None, is_some, ap, subst, sym, ◌∙◌, rules}
use Rattle.swi_calls.specs.declared.end.CallFault.{CallFault}
use Rattle.swi_outside.specs.Devices.{Devices}
use Rattle.swi_calls.specs.Exchange.{Exchange, Exchanged}
use Rattle.swi_calls.specs.Flat.{call_made, exchange_of, made}
use Rattle.swi_calls.specs.StoresText.{read_into_text, text_store_of}
use Rattle.swi_isa.specs.declared.instr.Instr.{Instr}
use Rattle.swi_isa.specs.declared.instr.Instr.TheVariants.{Ecall}
use Rattle.swi_exec.specs.Registers.{Registers}
use Rattle.swi_memory.specs.Bus.{AreaData, fetched}
use Rattle.swi_micro.specs.Decoded.{AreDecoded}
use Rattle.swi_micro.proofs.Forgetting.{same_words}
use Rattle.swi_flat.proofs.QuietSteps.{made_by, no_call, no_instruction, no_word, not_break, not_fault, not_next, quiet_step}
use Rattle.swi_flat.proofs.Stepping.{calls, written_back, fetches_beside}
use Rattle.swi_flat.proofs.flat.Flat.step.Goals as goal
use Rattle.swi_flat.proofs.flat.Flat.step.Goals.{then-is_some, else-is_some}

-- the same step, spelled in another way
spelled : {T : Type 0} {does other : List ℕ → Exchange} {d e : Devices} {r : Result T CallFault} → ((left : List ℕ) → does left ≡ other left) → Exchanged does d e r → Exchanged other d e r
spelled {d = d} {e = e} {r = r} same x = subst (λ (f : List ℕ → Exchange). Exchanged f d e r) (λ i left. same left i) x

pub invariant_of-self-in-Some-stored : goal.invariant_of-self-in-Some-stored
invariant_of-self-in-Some-stored g c =
    let m = c.self.inside.machine in
    let d = c.self.inside.decoded in
    let before : AreDecoded (fetched m.bus) d.range c.as_mut_slice.result.now = rw c.as_mut_slice.ensures.value c.self.invariant.decoded in
    record {
      aligned = c.in-Next.ensures.aligned;
      decoded =
          written_back c.exec.new.bus d.range d.ops c.forget.new.ops (c.forget.auto.ops ∙ c.as_mut_slice.ensures.len)
          (c.forget.ensures (fetched m.bus) (fetched c.exec.new.bus)
          (fetches_beside c.in-Some-decode.instruction m.pc m.regs m.bus c.exec.new.bus c.text_access-stored.result c.in-Some-stored.a c.text_access-stored.ensures c.in-Some-stored.is c.exec.ensures.bus) before);
    }

-- a call that would not read into the text
unread : (reads : Option ℕ) (i : Instr) (regs : Registers) (bus : List AreaData) → reads ≡ text_store_of i regs bus → is_some reads ≡ false → i ≡ Ecall → read_into_text regs bus ≡ None
unread None i regs bus is none call = ap (λ j. text_store_of j regs bus) (sym call) ∙ sym is
unread (Some a) i regs bus is none call = absurd (cc)

pub invariant_of-self-in-Call : goal.invariant_of-self-in-Call
invariant_of-self-in-Call g c =
    let m = c.self.inside.machine in
    let d = c.self.inside.decoded in
    let bus = c.call_step-result.new.self.bus in
    record {
      aligned = c.call_step-result.ensures.aligned c.self.invariant.aligned;
      decoded = elim c.if-is_some.branch [
        | then-is_some w ↦
            let before : AreDecoded (fetched m.bus) d.range w.as_mut_slice-then-is_some.result.now = rw w.as_mut_slice-then-is_some.ensures.value c.self.invariant.decoded in
            rw w.self-inside-is (written_back bus d.range d.ops w.forget_all.new.ops (w.forget_all.auto.ops ∙ w.as_mut_slice-then-is_some.ensures.len)
            (w.forget_all.ensures (fetched m.bus) (fetched bus) d.range before))
        | else-is_some w ↦
            let none : read_into_text c.exec.new.regs c.exec.new.bus ≡ None =
            unread c.text_store-reads.result c.in-Some-decode.instruction c.exec.new.regs c.exec.new.bus c.text_store-reads.ensures (sym c.is_some.ensures ∙ w.if-is_some.false) (c.exec.ensures.call c.in-Call.is) in
            rw w.self-inside-is (same_words (fetched m.bus) (fetched bus) d.range d.ops.items
            (λ x. c.call_step-result.ensures.text none x ∙ ap (λ b. fetched b x) c.in-Call.ensures.unchanged.1) c.self.invariant.decoded)
      ];
    }

pub returns-after-is_some-clause-devices : goal.returns-after-is_some-clause-devices
returns-after-is_some-clause-devices g c =
    let m = c.self.inside.machine in
    let is : (left : List ℕ) → call_made (record m { regs = c.exec.new.regs; bus = c.exec.new.bus }) left ≡ made c.args.self.now.machine left =
    λ left.
    calls m c.exec.new.regs c.exec.new.bus c.in-Some.word c.in-Some-decode.instruction c.fetch.result c.decode.result c.fetch.ensures.value c.in-Some.is c.decode.ensures c.in-Some-decode.is
    (c.exec.ensures.call c.in-Call.is) c.in-Call.ensures.unchanged.0 c.in-Call.ensures.unchanged.1 left
    ∙ ap (λ f. made f.machine left) c.self.view_is in
    spelled (λ left. ap exchange_of (is left)) c.call_step-result.ensures.devices

-- steps that ask for no device
pub returns-in_default-clause-devices : goal.returns-in_default-clause-devices
returns-in_default-clause-devices g c =
    rw (← c.self.view_is) (quiet_step c.self.inside.machine _ _ _ (no_word c.self.inside.machine c.fetch.result c.fetch.ensures.value c.in_default.is))

pub returns-in_default-decode-clause-devices : goal.returns-in_default-decode-clause-devices
returns-in_default-decode-clause-devices g c =
    rw (← c.self.view_is) (quiet_step c.self.inside.machine _ _ _
    (no_instruction c.self.inside.machine c.in-Some.word c.fetch.result c.decode.result c.fetch.ensures.value c.in-Some.is c.decode.ensures c.in_default-decode.is))

pub returns-in-Some-stored-clause-devices : goal.returns-in-Some-stored-clause-devices
returns-in-Some-stored-clause-devices g c =
    rw (← c.self.view_is) (quiet_step c.self.inside.machine _ _ _
    (no_call c.self.inside.machine c.in-Some.word c.in-Some-decode.instruction c.fetch.result c.decode.result c.exec.result c.fetch.ensures.value c.in-Some.is c.decode.ensures c.in-Some-decode.is
    c.exec.ensures.done (not_next c.exec.result c.in-Next.next c.in-Next.is)))

pub returns-in_default-stored-clause-devices : goal.returns-in_default-stored-clause-devices
returns-in_default-stored-clause-devices g c =
    rw (← c.self.view_is) (quiet_step c.self.inside.machine _ _ _
    (no_call c.self.inside.machine c.in-Some.word c.in-Some-decode.instruction c.fetch.result c.decode.result c.exec.result c.fetch.ensures.value c.in-Some.is c.decode.ensures c.in-Some-decode.is
    c.exec.ensures.done (not_next c.exec.result c.in-Next.next c.in-Next.is)))

pub returns-in-Break-clause-devices : goal.returns-in-Break-clause-devices
returns-in-Break-clause-devices g c =
    rw (← c.self.view_is) (quiet_step c.self.inside.machine _ _ _
    (no_call c.self.inside.machine c.in-Some.word c.in-Some-decode.instruction c.fetch.result c.decode.result c.exec.result c.fetch.ensures.value c.in-Some.is c.decode.ensures c.in-Some-decode.is
    c.exec.ensures.done (not_break c.exec.result c.in-Break.is)))

pub returns-in-Fault-clause-devices : goal.returns-in-Fault-clause-devices
returns-in-Fault-clause-devices g c =
    rw (← c.self.view_is) (quiet_step c.self.inside.machine _ _ _
    (no_call c.self.inside.machine c.in-Some.word c.in-Some-decode.instruction c.fetch.result c.decode.result c.exec.result c.fetch.ensures.value c.in-Some.is c.decode.ensures c.in-Some-decode.is
    c.exec.ensures.done (not_fault c.exec.result c.in-Fault.kind c.in-Fault.address c.in-Fault.is)))

-- the step of a call
pub returns-after-is_some-clause-machine : goal.returns-after-is_some-clause-machine
returns-after-is_some-clause-machine g c =
    let m = c.self.inside.machine in
    let is : (left : List ℕ) → call_made (record m { regs = c.exec.new.regs; bus = c.exec.new.bus }) left ≡ made c.args.self.now.machine left =
    λ left.
    calls m c.exec.new.regs c.exec.new.bus c.in-Some.word c.in-Some-decode.instruction c.fetch.result c.decode.result c.fetch.ensures.value c.in-Some.is c.decode.ensures c.in-Some-decode.is
    (c.exec.ensures.call c.in-Call.is) c.in-Call.ensures.unchanged.0 c.in-Call.ensures.unchanged.1 left
    ∙ ap (λ f. made f.machine left) c.self.view_is in
    made_by c.call_step-result.result _ c.call_step-result.new.self c.args.self.now.machine (record m { regs = c.exec.new.regs; bus = c.exec.new.bus }) _ _ (search rules) is c.call_step-result.ensures.machine
