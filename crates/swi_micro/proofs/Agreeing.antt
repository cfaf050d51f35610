-- A micro-op does what its instruction does, where it goes on. What it does is brought to the words of `executed` by cases on the
-- operation, each of which computes; then the instruction goes straight on, jumps, or is left.
use Rattle.std.proofs.Common.{◌≡◌, ℕ, ◌+◌, ◌*◌, ◌/◌, ◌%◌, ◌<◌, ◌≤◌, ◌^◌, ◌==◌, true, Option, Some, None, List, get_or, arith, if◌then◌else◌, refl, sym, ap, subst, ◌∙◌, inl, inr}
use Rattle.std.proofs.lemmas.Bool.{and_parts, cases_Bool, cases_lt, cond-false, cond-true, eq-eqb}
use Rattle.swi_isa.specs.Decode.{decoded}
use Rattle.swi_isa.specs.declared.instr.BranchOp.{BranchOp}
use Rattle.swi_isa.specs.declared.instr.BranchOp.TheVariants as branch
use Rattle.swi_isa.specs.declared.instr.ImmOp.{ImmOp}
use Rattle.swi_isa.specs.declared.instr.ImmOp.TheVariants.{Addi, Slti, Sltiu, Xori, Ori, Andi, Slli, Srli, Srai}
use Rattle.swi_isa.specs.declared.instr.RegOp.{RegOp}
use Rattle.swi_isa.specs.declared.instr.RegOp.TheVariants as op
use Rattle.swi_isa.specs.declared.instr.LoadOp.{LoadOp}
use Rattle.swi_isa.specs.declared.instr.LoadOp.TheVariants as load
use Rattle.swi_isa.specs.declared.instr.StoreOp.{StoreOp}
use Rattle.swi_isa.specs.declared.instr.StoreOp.TheVariants as store
use Rattle.swi_isa.specs.declared.instr.Instr.{Instr}
use Rattle.swi_isa.specs.declared.instr.Instr.TheVariants as instr
use Rattle.swi_memory.specs.Bus.{AreaData, holds, lets_store, number_at, stored}
use Rattle.swi_memory.specs.declared.right.Right.TheVariants.{Read, Write}
use Rattle.swi_memory.specs.declared.word_range.WordRange.{WordRange}
use Rattle.swi_memory.specs.WordRange.{IsWordRange}
use Rattle.swi_exec.specs.Execute
use Rattle.swi_exec.specs.Execute.{Effect, address_of, executed, goes_on, imm_value, is_taken, load_size, load_value, op_value, store_size}
use Rattle.swi_exec.specs.Arithmetic.{sum_of}
use Rattle.swi_exec.specs.Registers.{Registers, reg, with_reg}
use Rattle.swi_exec.specs.declared.done.Done.TheVariants.{Next}
use Rattle.swi_exec.specs.declared.done.FaultKind.TheVariants.{FetchMisaligned, LoadAccess, StoreAccess}
use Rattle.swi_micro.specs.declared.class.Class.{Class}
use Rattle.swi_micro.specs.declared.class.Class.TheVariants as class
use Rattle.swi_micro.specs.declared.translator.MicroOp.{MicroOp}
use Rattle.swi_micro.specs.Decoded.{AreDecoded, IsOpOf}
use Rattle.swi_micro.specs.MicroOp.{address_at, branch_op, branch_or_stop, class_of_imm, class_of_load, class_of_op, class_of_store, index_at, jump_or_stop, made_op, micro_op_of, number_of, stop_op}
use Rattle.swi_micro.specs.Ran.{Ran, goes_to, jumps, leaves, loads, operated, ran, stores}
use Rattle.swi_micro.proofs.Sums.{Target, joined_none, next_address, sum_none, target}

-- the effect of an instruction that goes on at the word with this index
abbrev pub gone : WordRange → ℕ → Ran → Effect
gone range k r = record { done = Next (address_at range k); regs = r.regs; bus = r.bus }

-- the instruction goes on where its micro-op does, and leaves the same; that is within the range, or behind its last word
pub record Agrees (range : WordRange) (k : ℕ) (x : Instr) (m : MicroOp) (regs : Registers) (bus : List AreaData) (next : ℕ) : Type 0 where
  pub effect : executed x (address_at range k) regs bus ≡ gone range next (ran range m k regs bus)
  pub within : next ≤ range.words

-- ---- over plain values

abbrev effect_at : ℕ → Registers → List AreaData → Effect
effect_at a regs bus = record { done = Next a; regs = regs; bus = bus }

next_is : (j next : ℕ) (regs : Registers) (bus : List AreaData) (r : Ran) → r ≡ goes_to j regs bus → r.next ≡ Some next → j ≡ next
next_is j next regs bus r is goes = let same : Some j ≡ Some next = sym (ap (λ (q : Ran). q.next) is) ∙ goes in cc

nowhere : {A : Type 0} (next : ℕ) (regs : Registers) (bus : List AreaData) (r : Ran) → r ≡ leaves regs bus → r.next ≡ Some next → A
nowhere next regs bus r is goes = absurd (let never : None ≡ Some next = sym (ap (λ (q : Ran). q.next) is) ∙ goes in cc)

arrives : (range : WordRange) (k : ℕ) (x : Instr) (m : MicroOp) (regs regs' : Registers) (bus bus' : List AreaData) (j next t : ℕ) →
    executed x (address_at range k) regs bus ≡ effect_at t regs' bus' → ran range m k regs bus ≡ goes_to j regs' bus' → address_at range j ≡ t → j ≤ range.words → (ran range m k regs bus).next ≡ Some next →
    Agrees range k x m regs bus next
arrives range k x m regs regs' bus bus' j next t does is at within goes =
    let same : j ≡ next = next_is j next regs' bus' (ran range m k regs bus) is goes in
    record {
      effect = does ∙ ap (λ a. effect_at a regs' bus') (sym at) ∙ ap (λ n. effect_at (address_at range n) regs' bus') same ∙ ap (gone range next) (sym is);
      within = omega (arith, within, same);
    }

lands : (t : ℕ) (old new : Registers) (bus : List AreaData) → t % 4 ≡ 0 → Execute.jumps t old new bus ≡ effect_at t new bus
lands t old new bus aligned = cond-true (t % 4 == 0) (effect_at t new bus) (Execute.faults FetchMisaligned t old bus) (eq-eqb (t % 4) 0 aligned)

module _ (range : WordRange) (k : ℕ) (regs : Registers) (bus : List AreaData) where
  -- ---- a micro-op of each kind, in the words of the instruction's operation

  as_sum : (rd imm : ℕ) → imm < 2 ^ 32 → ran range (made_op class.Add rd 0 0 imm) k regs bus ≡ goes_to (k + 1) (with_reg regs rd imm) bus
  as_sum rd imm word = ap (λ v. goes_to (k + 1) (with_reg regs rd v) bus) (sum_none imm word)

  as_imm : (o : ImmOp) (rd rs1 imm : ℕ) → ran range (made_op (class_of_imm o) rd rs1 0 imm) k regs bus ≡ goes_to (k + 1) (with_reg regs rd (imm_value o (reg regs rs1) imm)) bus
  as_imm Addi rd rs1 imm = refl
  as_imm Slti rd rs1 imm = refl
  as_imm Sltiu rd rs1 imm = refl
  as_imm Xori rd rs1 imm = refl
  as_imm Ori rd rs1 imm = refl
  as_imm Andi rd rs1 imm = refl
  as_imm Slli rd rs1 imm = refl
  as_imm Srli rd rs1 imm = refl
  as_imm Srai rd rs1 imm = refl

  -- without an immediate the second operand is rs2
  plain : (o : RegOp) (c : Class) (rd rs1 rs2 : ℕ) →
      goes_to (k + 1) (operated o (made_op c rd rs1 rs2 0) regs) bus ≡ goes_to (k + 1) (with_reg regs rd (op_value o (reg regs rs1) (reg regs rs2))) bus
  plain o c rd rs1 rs2 = ap (λ v. goes_to (k + 1) (with_reg regs rd (op_value o (reg regs rs1) v)) bus) (joined_none (reg regs rs2))

  as_op : (o : RegOp) (rd rs1 rs2 : ℕ) → ran range (made_op (class_of_op o) rd rs1 rs2 (number_of o)) k regs bus ≡ goes_to (k + 1) (with_reg regs rd (op_value o (reg regs rs1) (reg regs rs2))) bus
  as_op op.Add rd rs1 rs2 = plain op.Add class.Add rd rs1 rs2
  as_op op.Sub rd rs1 rs2 = plain op.Sub class.Sub rd rs1 rs2
  as_op op.Sll rd rs1 rs2 = plain op.Sll class.Sll rd rs1 rs2
  as_op op.Slt rd rs1 rs2 = plain op.Slt class.Slt rd rs1 rs2
  as_op op.Sltu rd rs1 rs2 = plain op.Sltu class.Sltu rd rs1 rs2
  as_op op.Xor rd rs1 rs2 = plain op.Xor class.Xor rd rs1 rs2
  as_op op.Srl rd rs1 rs2 = plain op.Srl class.Srl rd rs1 rs2
  as_op op.Sra rd rs1 rs2 = plain op.Sra class.Sra rd rs1 rs2
  as_op op.Or rd rs1 rs2 = plain op.Or class.Or rd rs1 rs2
  as_op op.And rd rs1 rs2 = plain op.And class.And rd rs1 rs2
  as_op op.Mul rd rs1 rs2 = plain op.Mul class.Mul rd rs1 rs2
  as_op op.Mulh rd rs1 rs2 = refl
  as_op op.Mulhsu rd rs1 rs2 = refl
  as_op op.Mulhu rd rs1 rs2 = refl
  as_op op.Div rd rs1 rs2 = refl
  as_op op.Divu rd rs1 rs2 = refl
  as_op op.Rem rd rs1 rs2 = refl
  as_op op.Remu rd rs1 rs2 = refl

  as_load : (o : LoadOp) (rd rs1 imm : ℕ) → ran range (made_op (class_of_load o) rd rs1 0 imm) k regs bus ≡ loads o (made_op (class_of_load o) rd rs1 0 imm) k regs bus
  as_load load.Lb rd rs1 imm = refl
  as_load load.Lh rd rs1 imm = refl
  as_load load.Lw rd rs1 imm = refl
  as_load load.Lbu rd rs1 imm = refl
  as_load load.Lhu rd rs1 imm = refl

  as_store : (o : StoreOp) (rs1 rs2 imm : ℕ) → ran range (made_op (class_of_store o) 0 rs1 rs2 imm) k regs bus ≡ stores (store_size o) (made_op (class_of_store o) 0 rs1 rs2 imm) k regs bus
  as_store store.Sb rs1 rs2 imm = refl
  as_store store.Sh rs1 rs2 imm = refl
  as_store store.Sw rs1 rs2 imm = refl

  as_branch : (o : BranchOp) (rs1 rs2 j : ℕ) → ran range (branch_op o rs1 rs2 j) k regs bus ≡ goes_to (if is_taken o (reg regs rs1) (reg regs rs2) then j else k + 1) regs bus
  as_branch branch.Beq rs1 rs2 j = refl
  as_branch branch.Bne rs1 rs2 j = refl
  as_branch branch.Blt rs1 rs2 j = refl
  as_branch branch.Bge rs1 rs2 j = refl
  as_branch branch.Bltu rs1 rs2 j = refl
  as_branch branch.Bgeu rs1 rs2 j = refl

  module _ (next : ℕ) (whole : IsWordRange range) (here : k < range.words) where
    abbrev pc : ℕ
    pc = address_at range k

    -- the micro-op of an instruction here goes on
    abbrev Goes : Instr → Type 0
    Goes x = (ran range (micro_op_of range k x) k regs bus).next ≡ Some next

    -- and the instruction does the same
    abbrev Same : Instr → Type 0
    Same x = Agrees range k x (micro_op_of range k x) regs bus next

    -- ---- it goes on at the next word, at a target, or nowhere

    straight : (x : Instr) (regs' : Registers) (bus' : List AreaData) → executed x pc regs bus ≡ goes_on pc regs' bus' → ran range (micro_op_of range k x) k regs bus ≡ goes_to (k + 1) regs' bus' → Goes x → Same x
    straight x regs' bus' does is goes =
        arrives range k x (micro_op_of range k x) regs regs' bus bus' (k + 1) next (sum_of pc 4) does is (next_address range k) (omega (arith, here)) goes

    jumped : (x : Instr) (regs' : Registers) (t j : ℕ) → executed x pc regs bus ≡ effect_at t regs' bus → ran range (micro_op_of range k x) k regs bus ≡ goes_to j regs' bus → Target range t j → Goes x → Same x
    jumped x regs' t j does is at goes =
        arrives range k x (micro_op_of range k x) regs regs' bus bus j next t does is at.address (omega (arith, at.within)) goes

    left : (x : Instr) → ran range (micro_op_of range k x) k regs bus ≡ leaves regs bus → Goes x → Same x
    left x is goes = nowhere next regs bus (ran range (micro_op_of range k x) k regs bus) is goes

    -- ---- the instructions that do not always go straight on

    of_jal : (rd off : ℕ) (o : Option ℕ) → index_at range (sum_of pc off) ≡ o → Goes (instr.Jal rd off) → Same (instr.Jal rd off)
    of_jal rd off None is goes = left (instr.Jal rd off) (ap (λ i. ran range (jump_or_stop rd i) k regs bus) is) goes
    of_jal rd off (Some j) is goes =
        let at : Target range (sum_of pc off) j = target range (sum_of pc off) j whole (omega arith) is in
        let ran_is : ran range (micro_op_of range k (instr.Jal rd off)) k regs bus ≡ goes_to j (with_reg regs rd (sum_of pc 4)) bus =
        ap (λ i. ran range (jump_or_stop rd i) k regs bus) is ∙ ap (λ a. goes_to j (with_reg regs rd a) bus) (next_address range k) in
        jumped (instr.Jal rd off) (with_reg regs rd (sum_of pc 4)) (sum_of pc off) j (lands (sum_of pc off) regs (with_reg regs rd (sum_of pc 4)) bus at.aligned) ran_is at goes

    of_jalr : (rd rs1 imm : ℕ) (o : Option ℕ) → index_at range (address_of regs rs1 imm / 2 * 2) ≡ o → Goes (instr.Jalr rd rs1 imm) → Same (instr.Jalr rd rs1 imm)
    of_jalr rd rs1 imm None is goes = left (instr.Jalr rd rs1 imm) (ap (λ i. jumps range (made_op class.Jalr rd rs1 0 imm) k regs bus i) is) goes
    of_jalr rd rs1 imm (Some j) is goes =
        let at : Target range (address_of regs rs1 imm / 2 * 2) j = target range (address_of regs rs1 imm / 2 * 2) j whole (omega arith) is in
        let ran_is : ran range (micro_op_of range k (instr.Jalr rd rs1 imm)) k regs bus ≡ goes_to j (with_reg regs rd (sum_of pc 4)) bus =
        ap (λ i. jumps range (made_op class.Jalr rd rs1 0 imm) k regs bus i) is ∙ ap (λ a. goes_to j (with_reg regs rd a) bus) (next_address range k) in
        jumped (instr.Jalr rd rs1 imm) (with_reg regs rd (sum_of pc 4)) (address_of regs rs1 imm / 2 * 2) j
        (lands (address_of regs rs1 imm / 2 * 2) regs (with_reg regs rd (sum_of pc 4)) bus at.aligned) ran_is at goes

    of_branch : (o : BranchOp) (rs1 rs2 off : ℕ) (i : Option ℕ) → index_at range (sum_of pc off) ≡ i → Goes (instr.Branch o rs1 rs2 off) → Same (instr.Branch o rs1 rs2 off)
    of_branch o rs1 rs2 off None is goes = left (instr.Branch o rs1 rs2 off) (ap (λ i. ran range (branch_or_stop o rs1 rs2 i) k regs bus) is) goes
    of_branch o rs1 rs2 off (Some j) is goes =
        let at : Target range (sum_of pc off) j = target range (sum_of pc off) j whole (omega arith) is in
        let ran_is : ran range (micro_op_of range k (instr.Branch o rs1 rs2 off)) k regs bus ≡ goes_to (if is_taken o (reg regs rs1) (reg regs rs2) then j else k + 1) regs bus =
        ap (λ i. ran range (branch_or_stop o rs1 rs2 i) k regs bus) is ∙ as_branch o rs1 rs2 j in
        elim (cases_Bool (is_taken o (reg regs rs1) (reg regs rs2))) [
          | inl taken ↦
              jumped (instr.Branch o rs1 rs2 off) regs (sum_of pc off) j
              (cond-true (is_taken o (reg regs rs1) (reg regs rs2)) (Execute.jumps (sum_of pc off) regs regs bus) (goes_on pc regs bus) taken ∙ lands (sum_of pc off) regs regs bus at.aligned)
              (ran_is ∙ ap (λ n. goes_to n regs bus) (cond-true (is_taken o (reg regs rs1) (reg regs rs2)) j (k + 1) taken)) at goes
          | inr passed ↦
              straight (instr.Branch o rs1 rs2 off) regs bus
              (cond-false (is_taken o (reg regs rs1) (reg regs rs2)) (Execute.jumps (sum_of pc off) regs regs bus) (goes_on pc regs bus) passed)
              (ran_is ∙ ap (λ n. goes_to n regs bus) (cond-false (is_taken o (reg regs rs1) (reg regs rs2)) j (k + 1) passed)) goes
        ]

    of_load : (o : LoadOp) (rd rs1 imm : ℕ) → Goes (instr.Load o rd rs1 imm) → Same (instr.Load o rd rs1 imm)
    of_load o rd rs1 imm goes =
        let a : ℕ = address_of regs rs1 imm in
        let regs' : Registers = with_reg regs rd (load_value o (number_at bus a (load_size o))) in
        elim (cases_Bool (holds bus Read a (load_size o))) [
          | inl held ↦
              straight (instr.Load o rd rs1 imm) regs' bus
              (cond-true (holds bus Read a (load_size o)) (goes_on pc regs' bus) (Execute.faults LoadAccess a regs bus) held)
              (as_load o rd rs1 imm ∙ cond-true (holds bus Read a (load_size o)) (goes_to (k + 1) regs' bus) (leaves regs bus) held) goes
          | inr denied ↦
              left (instr.Load o rd rs1 imm)
              (as_load o rd rs1 imm ∙ cond-false (holds bus Read a (load_size o)) (goes_to (k + 1) regs' bus) (leaves regs bus) denied) goes
        ]

    of_store : (o : StoreOp) (rs1 rs2 imm : ℕ) → Goes (instr.Store o rs1 rs2 imm) → Same (instr.Store o rs1 rs2 imm)
    of_store o rs1 rs2 imm goes =
        let a : ℕ = address_of regs rs1 imm in
        let bus' : List AreaData = stored bus a (store_size o) (reg regs rs2) in
        elim (cases_Bool (lets_store bus a (store_size o))) [
          | inl may ↦
              let held : holds bus Write a (store_size o) ≡ true = (and_parts _ _ may).0 in
              straight (instr.Store o rs1 rs2 imm) regs bus'
              (cond-true (holds bus Write a (store_size o)) (goes_on pc regs bus') (Execute.faults StoreAccess a regs bus) held)
              (as_store o rs1 rs2 imm ∙ cond-true (lets_store bus a (store_size o)) (goes_to (k + 1) regs bus') (leaves regs bus) may) goes
          | inr denied ↦
              left (instr.Store o rs1 rs2 imm)
              (as_store o rs1 rs2 imm ∙ cond-false (lets_store bus a (store_size o)) (goes_to (k + 1) regs bus') (leaves regs bus) denied) goes
        ]

    -- ---- the law

    pub agrees : (x : Instr) → Goes x → Same x
    agrees (instr.Lui rd imm) goes = straight (instr.Lui rd imm) (with_reg regs rd imm) bus refl refl goes
    agrees (instr.Auipc rd imm) goes = straight (instr.Auipc rd imm) (with_reg regs rd (sum_of pc imm)) bus refl (as_sum rd (sum_of pc imm) (omega arith)) goes
    agrees (instr.Jal rd off) goes = of_jal rd off (index_at range (sum_of pc off)) refl goes
    agrees (instr.Jalr rd rs1 imm) goes = of_jalr rd rs1 imm (index_at range (address_of regs rs1 imm / 2 * 2)) refl goes
    agrees (instr.Branch o rs1 rs2 off) goes = of_branch o rs1 rs2 off (index_at range (sum_of pc off)) refl goes
    agrees (instr.Load o rd rs1 imm) goes = of_load o rd rs1 imm goes
    agrees (instr.Store o rs1 rs2 imm) goes = of_store o rs1 rs2 imm goes
    agrees (instr.Alu o rd rs1 imm) goes = straight (instr.Alu o rd rs1 imm) (with_reg regs rd (imm_value o (reg regs rs1) imm)) bus refl (as_imm o rd rs1 imm) goes
    agrees (instr.Op o rd rs1 rs2) goes = straight (instr.Op o rd rs1 rs2) (with_reg regs rd (op_value o (reg regs rs1) (reg regs rs2))) bus refl (as_op o rd rs1 rs2) goes
    agrees (instr.Atomic o rd rs1 rs2) goes = left (instr.Atomic o rd rs1 rs2) refl goes
    agrees instr.Fence goes = straight instr.Fence regs bus refl refl goes
    agrees instr.Ecall goes = left instr.Ecall refl goes
    agrees instr.Ebreak goes = left instr.Ebreak refl goes

-- ---- among the micro-ops of a range

-- an instruction stands at the word with this index, and does what the micro-op does
pub record Steps (words : ℕ → Option ℕ) (range : WordRange) (k : ℕ) (m : MicroOp) (regs : Registers) (bus : List AreaData) (next : ℕ) : Type 0 where
  pub here : k < range.words
  pub word : ℕ
  pub instruction : Instr
  pub stands : words (address_at range k) ≡ Some word
  pub decodes : decoded word ≡ Some instruction
  pub same : Agrees range k instruction m regs bus next

-- where the micro-op of a word goes on
pub steps : (words : ℕ → Option ℕ) (range : WordRange) (k : ℕ) (m : MicroOp) (regs : Registers) (bus : List AreaData) (next : ℕ) → IsWordRange range → k < range.words → IsOpOf words range k m →
    (ran range m k regs bus).next ≡ Some next → Steps words range k m regs bus next
steps words range k m regs bus next whole here h goes =
    let made_goes : (ran range (micro_op_of range k h.instruction) k regs bus).next ≡ Some next = subst (λ q. (ran range q k regs bus).next ≡ Some next) h.is goes in
    record {
      here = here;
      word = h.word;
      instruction = h.instruction;
      stands = h.stands;
      decodes = h.decodes;
      same = subst (λ q. Agrees range k h.instruction q regs bus next) (sym h.is) (agrees range k regs bus next whole here h.instruction made_goes);
    }

-- one that stops goes on nowhere
stops : {A : Type 0} (range : WordRange) (k : ℕ) (m : MicroOp) (regs : Registers) (bus : List AreaData) (next : ℕ) → m ≡ stop_op → (ran range m k regs bus).next ≡ Some next → A
stops range k m regs bus next is goes = nowhere next regs bus (ran range m k regs bus) (ap (λ q. ran range q k regs bus) is) goes

-- where that at any index goes on, the one behind the last word's included
pub steps_at : (words : ℕ → Option ℕ) (range : WordRange) (ops : List MicroOp) (k : ℕ) (m : MicroOp) (regs : Registers) (bus : List AreaData) (next : ℕ) → AreDecoded words range ops → k ≤ range.words → m ≡ get_or ops k m →
    (ran range m k regs bus).next ≡ Some next → Steps words range k m regs bus next
steps_at words range ops k m regs bus next h bound is goes = elim (cases_lt k range.words) [
  | inl here ↦ elim (h.each k here m) [
    | inl none ↦ stops range k m regs bus next (is ∙ none) goes
    | inr one ↦ steps words range k m regs bus next h.whole here (subst (λ q. IsOpOf words range k q) (sym is) one) goes
  ]
  | inr past ↦
      let at : k ≡ range.words = omega (arith, bound, past) in
      stops range k m regs bus next (is ∙ ap (λ i. get_or ops i m) at ∙ h.last m) goes
]
