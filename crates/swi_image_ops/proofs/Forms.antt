-- Which instructions have a micro-op of a class.
use Rattle.std.proofs.Common.{◌≡◌, ◌==◌, ℕ, Bool, true, false, Option, Some, None, refl, sym, ap, ◌∙◌}
use Rattle.swi_isa.specs.declared.instr.BranchOp.{BranchOp}
use Rattle.swi_isa.specs.declared.instr.BranchOp.TheVariants.{Beq}
use Rattle.swi_isa.specs.declared.instr.ImmOp.{ImmOp}
use Rattle.swi_isa.specs.declared.instr.ImmOp.TheVariants.{Addi}
use Rattle.swi_isa.specs.declared.instr.Instr.{Instr}
use Rattle.swi_isa.specs.declared.instr.Instr.TheVariants as instr
use Rattle.swi_isa.specs.declared.instr.LoadOp.{LoadOp}
use Rattle.swi_isa.specs.declared.instr.LoadOp.TheVariants.{Lb}
use Rattle.swi_isa.specs.declared.instr.RegOp.{RegOp}
use Rattle.swi_isa.specs.declared.instr.RegOp.TheVariants.{Add}
use Rattle.swi_isa.specs.declared.instr.StoreOp.{StoreOp}
use Rattle.swi_isa.specs.declared.instr.StoreOp.TheVariants.{Sb, Sh, Sw}
use Rattle.swi_exec.specs.Arithmetic.{sum_of}
use Rattle.swi_image.specs.Format.{ImageData}
use Rattle.swi_micro.specs.declared.class.Class.{Class}
use Rattle.swi_micro.specs.declared.class.Class.TheVariants as class
use Rattle.swi_micro.specs.declared.translator.MicroOp.{MicroOp}
use Rattle.swi_micro.specs.Classes.{class_of, code_of}
use Rattle.swi_micro.specs.MicroOp.{branch_op, branch_or_stop, class_of_imm, class_of_load, class_of_op, class_of_store}
use Rattle.swi_image_ops.specs.ImageOp.{jump_op, jump_or_stop, row_of, text_op}

-- what a step does with control: it puts a value into a register, jumps, jumps over a register, compares, goes on at the next word
-- alone, or is left to the executor
pub data Kind : Type 0 where
  Value : Kind
  Jump : Kind
  Register : Kind
  Compare : Kind
  Plain : Kind
  Left : Kind

abbrev pub kind_of_class : Class → Kind
kind_of_class class.Lui = Value
kind_of_class class.Jal = Jump
kind_of_class class.Jalr = Register
kind_of_class class.Equal = Compare
kind_of_class class.Less = Compare
kind_of_class class.Below = Compare
kind_of_class class.Stop = Left
kind_of_class _ = Plain

abbrev pub kind_of : Instr → Kind
kind_of (instr.Lui rd imm) = Value
kind_of (instr.Auipc rd imm) = Value
kind_of (instr.Jal rd off) = Jump
kind_of (instr.Jalr rd rs1 imm) = Register
kind_of (instr.Branch op rs1 rs2 off) = Compare
kind_of (instr.Atomic op rd rs1 rs2) = Left
kind_of instr.Ecall = Left
kind_of instr.Ebreak = Left
kind_of _ = Plain

abbrev kind : MicroOp → Kind
kind m = kind_of_class (class_of m.code)

-- ---- the micro-op of an instruction is of its kind, or stops

by_imm : (o : ImmOp) → kind_of_class (class_of (code_of (class_of_imm o))) ≡ Plain
by_imm Addi = refl
by_imm _ = refl

by_op : (o : RegOp) → kind_of_class (class_of (code_of (class_of_op o))) ≡ Plain
by_op Add = refl
by_op _ = refl

by_load : (o : LoadOp) → kind_of_class (class_of (code_of (class_of_load o))) ≡ Plain
by_load Lb = refl
by_load _ = refl

by_store : (o : StoreOp) → kind_of_class (class_of (code_of (class_of_store o))) ≡ Plain
by_store Sb = refl
by_store Sh = refl
by_store Sw = refl

by_branch : (o : BranchOp) (rs1 rs2 k : ℕ) → kind (branch_op o rs1 rs2 k) ≡ Compare
by_branch Beq rs1 rs2 k = refl
by_branch _ rs1 rs2 k = refl

by_branches : (o : BranchOp) (rs1 rs2 : ℕ) (i : Option ℕ) → (kind (branch_or_stop o rs1 rs2 i) ≡ Left → ⊥) → kind (branch_or_stop o rs1 rs2 i) ≡ Compare
by_branches o rs1 rs2 None some = absurd (some refl)
by_branches o rs1 rs2 (Some k) some = by_branch o rs1 rs2 k

by_jump : (t : Bool) (rd return k : ℕ) → kind (jump_op t rd return k) ≡ Jump
by_jump true rd return k = refl
by_jump false rd return k = refl

by_jumps : (rd return : ℕ) (i : Option ℕ) → (kind (jump_or_stop rd return i) ≡ Left → ⊥) → kind (jump_or_stop rd return i) ≡ Jump
by_jumps rd return None some = absurd (some refl)
by_jumps rd return (Some k) some = by_jump (rd == 0) rd return k

pub kind_is : (v : ImageData) (a : ℕ) (x : Instr) → (kind_of_class (class_of (text_op v a x).code) ≡ Left → ⊥) → kind_of x ≡ kind_of_class (class_of (text_op v a x).code)
kind_is v a (instr.Lui rd imm) some = refl
kind_is v a (instr.Auipc rd imm) some = refl
kind_is v a (instr.Jal rd off) some = sym (by_jumps rd (sum_of a 4) (row_of v (sum_of a off)) some)
kind_is v a (instr.Jalr rd rs1 imm) some = refl
kind_is v a (instr.Branch op rs1 rs2 off) some = sym (by_branches op rs1 rs2 (row_of v (sum_of a off)) some)
kind_is v a (instr.Load op rd rs1 imm) some = sym (by_load op)
kind_is v a (instr.Store op rs1 rs2 imm) some = sym (by_store op)
kind_is v a (instr.Alu op rd rs1 imm) some = sym (by_imm op)
kind_is v a (instr.Op op rd rs1 rs2) some = sym (by_op op)
kind_is v a (instr.Atomic op rd rs1 rs2) some = absurd (some refl)
kind_is v a instr.Fence some = refl
kind_is v a instr.Ecall some = absurd (some refl)
kind_is v a instr.Ebreak some = absurd (some refl)

-- by its class
pub kind_by : (v : ImageData) (a : ℕ) (x : Instr) (c : Class) (k : Kind) → class_of (text_op v a x).code ≡ c → kind_of_class c ≡ k → (k ≡ Left → ⊥) → kind_of x ≡ k
kind_by v a x c k is kinds some =
    let same : kind_of_class (class_of (text_op v a x).code) ≡ k = ap kind_of_class is ∙ kinds in
    kind_is v a x (λ left. some (sym same ∙ left)) ∙ same

-- ---- jumps

pub record JumpsTo (v : ImageData) (a : ℕ) (x : Instr) : Type 0 where
  pub rd : ℕ
  pub off : ℕ
  pub is : x ≡ instr.Jal rd off
  pub k : ℕ
  pub target : row_of v (sum_of a off) ≡ Some k
  pub op : text_op v a x ≡ jump_op (rd == 0) rd (sum_of a 4) k

pub jal_is : (v : ImageData) (a : ℕ) (x : Instr) → class_of (text_op v a x).code ≡ class.Jal → JumpsTo v a x
jal_is v a x is = of_kind x (kind_by v a x class.Jal Jump is refl (λ e. cc)) is
  where
    of_target : (rd off : ℕ) (i : Option ℕ) → row_of v (sum_of a off) ≡ i → class_of (text_op v a (instr.Jal rd off)).code ≡ class.Jal → JumpsTo v a (instr.Jal rd off)
    of_target rd off None at jumps = absurd (let stops : class_of (text_op v a (instr.Jal rd off)).code ≡ class.Stop = ap (λ i. class_of (jump_or_stop rd (sum_of a 4) i).code) at in cc)
    of_target rd off (Some k) at jumps = record { rd = rd; off = off; is = refl; k = k; target = at; op = ap (jump_or_stop rd (sum_of a 4)) at }

    of_kind : (x : Instr) → kind_of x ≡ Jump → class_of (text_op v a x).code ≡ class.Jal → JumpsTo v a x
    of_kind (instr.Jal rd off) k jumps = of_target rd off (row_of v (sum_of a off)) refl jumps
    of_kind x k jumps = absurd (cc)

jump_unmarked : (t : Bool) (rd return k : ℕ) → ((jump_op t rd return k).rs1 == 1) ≡ false
jump_unmarked true rd return k = refl
jump_unmarked false rd return k = refl

pub jal_unmarked : (v : ImageData) (a : ℕ) (x : Instr) → class_of (text_op v a x).code ≡ class.Jal → ((text_op v a x).rs1 == 1) ≡ false
jal_unmarked v a x is =
    let j = jal_is v a x is in
    ap (λ (q : MicroOp). q.rs1 == 1) j.op ∙ jump_unmarked (j.rd == 0) j.rd (sum_of a 4) j.k

-- ---- branches

pub record ComparesTo (v : ImageData) (a : ℕ) (x : Instr) : Type 0 where
  pub by : BranchOp
  pub rs1 : ℕ
  pub rs2 : ℕ
  pub off : ℕ
  pub is : x ≡ instr.Branch by rs1 rs2 off
  pub k : ℕ
  pub target : row_of v (sum_of a off) ≡ Some k
  pub op : text_op v a x ≡ branch_op by rs1 rs2 k

pub branch_is : (v : ImageData) (a : ℕ) (x : Instr) → kind_of_class (class_of (text_op v a x).code) ≡ Compare → ComparesTo v a x
branch_is v a x is = of_kind x (kind_is v a x (λ e. cc) ∙ is) is
  where
    of_target : (op : BranchOp) (rs1 rs2 off : ℕ) (i : Option ℕ) → row_of v (sum_of a off) ≡ i → kind (text_op v a (instr.Branch op rs1 rs2 off)) ≡ Compare → ComparesTo v a (instr.Branch op rs1 rs2 off)
    of_target op rs1 rs2 off None at goes = absurd (let stops : kind (text_op v a (instr.Branch op rs1 rs2 off)) ≡ Left = ap (λ i. kind (branch_or_stop op rs1 rs2 i)) at in cc)
    of_target op rs1 rs2 off (Some k) at goes = record { by = op; rs1 = rs1; rs2 = rs2; off = off; is = refl; k = k; target = at; op = ap (branch_or_stop op rs1 rs2) at }

    of_kind : (x : Instr) → kind_of x ≡ Compare → kind (text_op v a x) ≡ Compare → ComparesTo v a x
    of_kind (instr.Branch op rs1 rs2 off) k goes = of_target op rs1 rs2 off (row_of v (sum_of a off)) refl goes
    of_kind x k goes = absurd (cc)
