use Rattle.std.proofs.Common.{◌≡◌, true, false, sym, ◌∙◌, subst, inl, inr}
use Rattle.swi_memory.specs.Bus.{fetched}
use Rattle.swi_exec.specs.Laws.{IsStore}
use Rattle.swi_micro.proofs.Forgetting.{same_words}
use Rattle.swi_flat.proofs.Stepping.{fetches_beside, store_goes}
use Rattle.swi_flat.proofs.advance.store_word.Goals as goal
use Rattle.swi_flat.proofs.advance.store_word.Goals.{in-Store, in_default, in-Some, in_default-stored}

stores : (c : goal.Joined-stored) → IsStore c.args.instr.now
stores c = elim c.match-matches.branch [
  | in-Store w ↦ elim w.in-Store.is [
    | inl is ↦ let (op, rs1, rs2, imm, same) = is in subst IsStore (sym same) tt
    | inr is ↦ let (op, rd, rs1, rs2, same) = is in subst IsStore (sym same) tt
  ]
  | in_default w ↦ absurd (let never : false ≡ true = rw w.matches-is at c.if-not-matches.false in cc)
]

pub returns-after-stored-clause-step : goal.returns-after-stored-clause-step
returns-after-stored-clause-step c =
    store_goes c.args.range.now c.args.k c.args.instr.now c.args.regs.now c.exec.new.regs c.args.bus.now c.exec.new.bus c.address.result c.in-Next.field-0 c.exec.result
    c.address.ensures c.requires.here (stores c) c.exec.ensures.done c.in-Next.is c.exec.ensures.regs c.exec.ensures.bus

pub returns-after-stored-clause-decoded : goal.returns-after-stored-clause-decoded
returns-after-stored-clause-decoded c = elim c.match-stored.branch [
  | in-Some w ↦
      rw w.ops-is (w.forget.ensures (fetched c.args.bus.now) (fetched c.exec.new.bus)
      (fetches_beside c.args.instr.now c.address.result c.args.regs.now c.args.bus.now c.exec.new.bus c.text_access-stored.result w.in-Some.a c.text_access-stored.ensures w.in-Some.is c.exec.ensures.bus)
      c.requires.decoded)
  | in_default-stored w ↦
      rw w.ops-is (same_words (fetched c.args.bus.now) (fetched c.exec.new.bus) c.args.range.now c.args.ops.now
      (c.exec.ensures.text (sym c.text_access-stored.ensures ∙ w.in_default-stored.is)) c.requires.decoded)
]
