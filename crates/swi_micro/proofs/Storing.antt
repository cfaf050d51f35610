-- The micro-op of a store does what its instruction does, where it is made, and changes no word but those of four bytes.
use Rattle.std.proofs.Common.{◌≡◌, ℕ, ◌+◌, ◌<◌, ◌≤◌, true, Option, Some, None, List, get_or, arith, refl, sym, ap, subst, ◌∙◌, inl, inr}
use Rattle.std.proofs.lemmas.Bool.{cases_Bool, cond-false, cond-true}
use Rattle.swi_isa.specs.Decode.{decoded}
use Rattle.swi_isa.specs.declared.instr.BranchOp.{BranchOp}
use Rattle.swi_isa.specs.declared.instr.BranchOp.TheVariants.{Beq}
use Rattle.swi_isa.specs.declared.instr.ImmOp.{ImmOp}
use Rattle.swi_isa.specs.declared.instr.ImmOp.TheVariants.{Addi}
use Rattle.swi_isa.specs.declared.instr.LoadOp.{LoadOp}
use Rattle.swi_isa.specs.declared.instr.LoadOp.TheVariants.{Lb}
use Rattle.swi_isa.specs.declared.instr.RegOp.{RegOp}
use Rattle.swi_isa.specs.declared.instr.RegOp.TheVariants.{Add}
use Rattle.swi_isa.specs.declared.instr.StoreOp.{StoreOp}
use Rattle.swi_isa.specs.declared.instr.StoreOp.TheVariants.{Sb, Sh, Sw}
use Rattle.swi_isa.specs.declared.instr.Instr.{Instr}
use Rattle.swi_isa.specs.declared.instr.Instr.TheVariants as instr
use Rattle.swi_memory.specs.declared.right.Right.TheVariants.{Write}
use Rattle.swi_memory.specs.declared.word_range.WordRange.{WordRange}
use Rattle.swi_memory.specs.Bus.{AreaData, fetched, holds, lowest, stored}
use Rattle.swi_memory.specs.Laws.{fetched_beside, length-lowest}
use Rattle.swi_exec.specs.Registers.{Registers, reg}
use Rattle.swi_exec.specs.Execute.{address_of, executed, faults, goes_on, store_size}
use Rattle.swi_exec.specs.Arithmetic.{sum_of}
use Rattle.swi_exec.specs.declared.done.Done.TheVariants.{Next}
use Rattle.swi_exec.specs.declared.done.FaultKind.TheVariants.{StoreAccess}
use Rattle.swi_micro.specs.declared.class.Class.{Class}
use Rattle.swi_micro.specs.declared.class.Class.TheVariants as class
use Rattle.swi_micro.specs.declared.translator.MicroOp.{MicroOp}
use Rattle.swi_micro.specs.Classes.{class_of, code_of}
use Rattle.swi_micro.specs.Decoded.{AreDecoded, AreSameBeside, IsOpOf}
use Rattle.swi_micro.specs.MicroOp.{address_at, branch_or_stop, class_of_imm, class_of_load, class_of_op, class_of_store, index_at, jump_or_stop, micro_op_of}
use Rattle.swi_micro.specs.Stored.{Wrote, size_of, writes, wrote}
use Rattle.swi_micro.proofs.Sums.{next_address}

-- ---- a micro-op that stores is that of a store

abbrev size : MicroOp → Option ℕ
size m = size_of (class_of m.code)

pub record IsStoreOf (x : Instr) (m : MicroOp) (n : ℕ) : Type 0 where
  pub op : StoreOp
  pub is : x ≡ instr.Store op m.rs1 m.rs2 m.imm
  pub size : n ≡ store_size op

none_stored : {A : Type 0} (o : Option ℕ) (n : ℕ) → o ≡ None → o ≡ Some n → A
none_stored o n none some = absurd (let never : None ≡ Some n = sym none ∙ some in cc)

by_imm : (o : ImmOp) → size_of (class_of (code_of (class_of_imm o))) ≡ None
by_imm Addi = refl
by_imm _ = refl

by_op : (o : RegOp) → size_of (class_of (code_of (class_of_op o))) ≡ None
by_op Add = refl
by_op _ = refl

by_load : (o : LoadOp) → size_of (class_of (code_of (class_of_load o))) ≡ None
by_load Lb = refl
by_load _ = refl

by_store : (o : StoreOp) → size_of (class_of (code_of (class_of_store o))) ≡ Some (store_size o)
by_store Sb = refl
by_store Sh = refl
by_store Sw = refl

by_branch : (o : BranchOp) (rs1 rs2 : ℕ) (i : Option ℕ) → size (branch_or_stop o rs1 rs2 i) ≡ None
by_branch o rs1 rs2 None = refl
by_branch Beq rs1 rs2 (Some j) = refl
by_branch _ rs1 rs2 (Some j) = refl

by_jump : (rd : ℕ) (i : Option ℕ) → size (jump_or_stop rd i) ≡ None
by_jump rd None = refl
by_jump rd (Some j) = refl

store_of : (range : WordRange) (k : ℕ) (x : Instr) (n : ℕ) → size (micro_op_of range k x) ≡ Some n → IsStoreOf x (micro_op_of range k x) n
store_of range k (instr.Store o rs1 rs2 imm) n is = record { op = o; is = refl; size = let same : Some n ≡ Some (store_size o) = sym is ∙ by_store o in cc }
store_of range k (instr.Alu o rd rs1 imm) n is = none_stored _ n (by_imm o) is
store_of range k (instr.Op o rd rs1 rs2) n is = none_stored _ n (by_op o) is
store_of range k (instr.Load o rd rs1 imm) n is = none_stored _ n (by_load o) is
store_of range k (instr.Branch o rs1 rs2 off) n is = none_stored _ n (by_branch o rs1 rs2 (index_at range (sum_of (address_at range k) off))) is
store_of range k (instr.Jal rd off) n is = none_stored _ n (by_jump rd (index_at range (sum_of (address_at range k) off))) is
store_of range k x n is = absurd (cc)

-- ---- a store that is made

record IsMade (o : Option ℕ) (m : MicroOp) (regs : Registers) (bus : List AreaData) (a : ℕ) : Type 0 where
  pub n : ℕ
  pub has : o ≡ Some n
  pub at : address_of regs m.rs1 m.imm ≡ a
  pub held : holds bus Write (address_of regs m.rs1 m.imm) n ≡ true
  pub is : (writes o m regs bus).bus ≡ stored bus (address_of regs m.rs1 m.imm) n (reg regs m.rs2)

made : (o : Option ℕ) (m : MicroOp) (regs : Registers) (bus : List AreaData) (a : ℕ) → (writes o m regs bus).at ≡ Some a → IsMade o m regs bus a
made None m regs bus a is = absurd (cc)
made (Some n) m regs bus a is =
    let first : ℕ = address_of regs m.rs1 m.imm in
    let done : Wrote = record { at = Some first; bus = stored bus first n (reg regs m.rs2) } in
    let refused : Wrote = record { at = None; bus = bus } in
    elim (cases_Bool (holds bus Write first n)) [
      | inl held ↦
          let one : writes (Some n) m regs bus ≡ done = cond-true (holds bus Write first n) done refused held in
          let same : Some first ≡ Some a = sym (ap (λ (w : Wrote). w.at) one) ∙ is in
          record { n = n; has = refl; at = cc; held = held; is = ap (λ (w : Wrote). w.bus) one }
      | inr denied ↦
          let one : writes (Some n) m regs bus ≡ refused = cond-false (holds bus Write first n) done refused denied in
          none_stored (writes (Some n) m regs bus).at a (ap (λ (w : Wrote). w.at) one) is
    ]

small : (c : Class) (n : ℕ) → size_of c ≡ Some n → n ≤ 4
small class.Sw n is = let four : 4 ≡ n = cc in omega (arith, four)
small class.Sb n is = let one : 1 ≡ n = cc in omega (arith, one)
small class.Sh n is = let two : 2 ≡ n = cc in omega (arith, two)
small _ n is = absurd (cc)

-- it leaves each word of which none of the four bytes from its address on is
pub store_beside : (m : MicroOp) (regs : Registers) (bus : List AreaData) (a : ℕ) → (wrote m regs bus).at ≡ Some a → AreSameBeside (fetched bus) (fetched (wrote m regs bus).bus) a
store_beside m regs bus a is x beside =
    let h : IsMade (size m) m regs bus a = made (size m) m regs bus a is in
    let four : h.n ≤ 4 = small (class_of m.code) h.n h.has in
    let at = h.at in
    ap (λ b. fetched b x) h.is
    ∙ fetched_beside bus (address_of regs m.rs1 m.imm) (lowest h.n (reg regs m.rs2)) x (elim beside [
      | inl below ↦ inl (omega (arith, below, at))
      | inr above ↦ inr (omega (arith, above, at, four, length-lowest h.n (reg regs m.rs2)))
    ])

-- ---- the law

-- a store stands at the word with this index, and does what the micro-op does
pub record Stores (words : ℕ → Option ℕ) (range : WordRange) (k : ℕ) (m : MicroOp) (regs : Registers) (bus : List AreaData) : Type 0 where
  pub word : ℕ
  pub instruction : Instr
  pub stands : words (address_at range k) ≡ Some word
  pub decodes : decoded word ≡ Some instruction
  pub effect : executed instruction (address_at range k) regs bus ≡ record { done = Next (address_at range (k + 1)); regs = regs; bus = (wrote m regs bus).bus }

effect_of : (range : WordRange) (k : ℕ) (x : Instr) (m : MicroOp) (regs : Registers) (bus bus' : List AreaData) (n : ℕ) → IsStoreOf x m n → holds bus Write (address_of regs m.rs1 m.imm) n ≡ true →
    bus' ≡ stored bus (address_of regs m.rs1 m.imm) n (reg regs m.rs2) → executed x (address_at range k) regs bus ≡ record { done = Next (address_at range (k + 1)); regs = regs; bus = bus' }
effect_of range k x m regs bus bus' n h held is =
    let pc : ℕ = address_at range k in
    let a : ℕ = address_of regs m.rs1 m.imm in
    let may : holds bus Write a (store_size h.op) ≡ true = ap (λ i. holds bus Write a i) (sym h.size) ∙ held in
    let same : bus' ≡ stored bus a (store_size h.op) (reg regs m.rs2) = is ∙ ap (λ i. stored bus a i (reg regs m.rs2)) h.size in
    ap (λ i. executed i pc regs bus) h.is
    ∙ cond-true (holds bus Write a (store_size h.op)) (goes_on pc regs (stored bus a (store_size h.op) (reg regs m.rs2))) (faults StoreAccess a regs bus) may
    ∙ rw (next_address range k, same) refl

-- where the micro-op at an index stores, one that is that of its word, or stops
pub store_agrees : (words : ℕ → Option ℕ) (range : WordRange) (ops : List MicroOp) (k : ℕ) (m : MicroOp) (regs : Registers) (bus : List AreaData) (a : ℕ) → AreDecoded words range ops → k < range.words → m ≡ get_or ops k m →
    (wrote m regs bus).at ≡ Some a → Stores words range k m regs bus
store_agrees words range ops k m regs bus a d here at is = elim (d.each k here m) [
  | inl none ↦ none_stored (wrote m regs bus).at a (ap (λ q. (wrote q regs bus).at) (at ∙ none)) is
  | inr one ↦
      let h : IsOpOf words range k m = subst (λ q. IsOpOf words range k q) (sym at) one in
      let w : IsMade (size m) m regs bus a = made (size m) m regs bus a is in
      let has : size (micro_op_of range k h.instruction) ≡ Some w.n = ap size (sym h.is) ∙ w.has in
      let s : IsStoreOf h.instruction m w.n = subst (λ q. IsStoreOf h.instruction q w.n) (sym h.is) (store_of range k h.instruction w.n has) in
      record {
        word = h.word;
        instruction = h.instruction;
        stands = h.stands;
        decodes = h.decodes;
        effect = effect_of range k h.instruction m regs bus (wrote m regs bus).bus w.n s w.held w.is;
      }
]
