-- Exits behind blocks' last text words take turns, but no steps: behind one stands a text word.
use Rattle.std.proofs.Common.{◌≡◌, ◌==◌, ℕ, ◌+◌, ◌-◌, ◌*◌, ◌<◌, Bool, true, false, ◌&&◌, Option, Some, None, if◌then◌else◌, refl, ap, ◌∙◌, inl, inr, arith}
use Rattle.swi_isa.specs.declared.instr.BranchOp.{BranchOp}
use Rattle.swi_isa.specs.declared.instr.BranchOp.TheVariants as branch
use Rattle.swi_isa.specs.declared.instr.ImmOp.{ImmOp}
use Rattle.swi_isa.specs.declared.instr.ImmOp.TheVariants as imm
use Rattle.swi_isa.specs.declared.instr.LoadOp.{LoadOp}
use Rattle.swi_isa.specs.declared.instr.LoadOp.TheVariants as load
use Rattle.swi_isa.specs.declared.instr.RegOp.{RegOp}
use Rattle.swi_isa.specs.declared.instr.RegOp.TheVariants as reg_op
use Rattle.swi_isa.specs.declared.instr.StoreOp.{StoreOp}
use Rattle.swi_isa.specs.declared.instr.StoreOp.TheVariants as store
use Rattle.swi_exec.specs.Arithmetic.{sum_of}
use Rattle.swi_isa.specs.declared.instr.Instr.{Instr}
use Rattle.swi_isa.specs.declared.instr.Instr.TheVariants as instr
use Rattle.swi_image.specs.Format.{ImageData}
use Rattle.swi_image.specs.Place.{place_of}
use Rattle.swi_micro.specs.declared.class.Class.TheVariants as class
use Rattle.swi_micro.specs.declared.translator.MicroOp.{MicroOp}
use Rattle.swi_micro.specs.Classes.{code_of}
use Rattle.swi_micro.specs.MicroOp.{branch_op, branch_or_stop, class_of_imm, class_of_load, class_of_op, class_of_store}
use Rattle.swi_image_ops.specs.ImageOp.{IsWordOp, jump_op, jump_or_stop, row_of, text_op}

-- whether a micro-op is that of such an exit
abbrev pub is_fall_op : MicroOp → Bool
is_fall_op m = (m.rs1 == 1) && (m.code == code_of class.Jal)

jump_unmarked : (t : Bool) (rd back k : ℕ) → is_fall_op (jump_op t rd back k) ≡ false
jump_unmarked true rd back k = refl
jump_unmarked false rd back k = refl

jumps_unmarked : (rd back : ℕ) (to : Option ℕ) → is_fall_op (jump_or_stop rd back to) ≡ false
jumps_unmarked rd back None = refl
jumps_unmarked rd back (Some k) = jump_unmarked (rd == 0) rd back k

no_jal : (m : MicroOp) → (m.code == code_of class.Jal) ≡ false → is_fall_op m ≡ false
no_jal m other = by (m.rs1 == 1) (m.code == code_of class.Jal) other
  where
    by : (s t : Bool) → t ≡ false → (s && t) ≡ false
    by true t is = is
    by false t is = refl

branches_unmarked : (op : BranchOp) (rs1 rs2 k : ℕ) → is_fall_op (branch_op op rs1 rs2 k) ≡ false
branches_unmarked branch.Beq rs1 rs2 k = no_jal (branch_op branch.Beq rs1 rs2 k) refl
branches_unmarked branch.Bne rs1 rs2 k = no_jal (branch_op branch.Bne rs1 rs2 k) refl
branches_unmarked branch.Blt rs1 rs2 k = no_jal (branch_op branch.Blt rs1 rs2 k) refl
branches_unmarked branch.Bge rs1 rs2 k = no_jal (branch_op branch.Bge rs1 rs2 k) refl
branches_unmarked branch.Bltu rs1 rs2 k = no_jal (branch_op branch.Bltu rs1 rs2 k) refl
branches_unmarked branch.Bgeu rs1 rs2 k = no_jal (branch_op branch.Bgeu rs1 rs2 k) refl

branch_unmarked : (op : BranchOp) (rs1 rs2 : ℕ) (to : Option ℕ) → is_fall_op (branch_or_stop op rs1 rs2 to) ≡ false
branch_unmarked op rs1 rs2 None = refl
branch_unmarked op rs1 rs2 (Some k) = branches_unmarked op rs1 rs2 k

load_code : (op : LoadOp) → (code_of (class_of_load op) == code_of class.Jal) ≡ false
load_code load.Lb = refl
load_code load.Lh = refl
load_code load.Lw = refl
load_code load.Lbu = refl
load_code load.Lhu = refl

imm_code : (op : ImmOp) → (code_of (class_of_imm op) == code_of class.Jal) ≡ false
imm_code imm.Addi = refl
imm_code imm.Slti = refl
imm_code imm.Sltiu = refl
imm_code imm.Xori = refl
imm_code imm.Ori = refl
imm_code imm.Andi = refl
imm_code imm.Slli = refl
imm_code imm.Srli = refl
imm_code imm.Srai = refl

op_code : (op : RegOp) → (code_of (class_of_op op) == code_of class.Jal) ≡ false
op_code reg_op.Add = refl
op_code reg_op.Sub = refl
op_code reg_op.Sll = refl
op_code reg_op.Slt = refl
op_code reg_op.Sltu = refl
op_code reg_op.Xor = refl
op_code reg_op.Srl = refl
op_code reg_op.Sra = refl
op_code reg_op.Or = refl
op_code reg_op.And = refl
op_code reg_op.Mul = refl
op_code _ = refl

store_code : (op : StoreOp) → (code_of (class_of_store op) == code_of class.Jal) ≡ false
store_code store.Sb = refl
store_code store.Sh = refl
store_code store.Sw = refl

-- none of an instruction is
pub text_unmarked : (v : ImageData) (a : ℕ) (x : Instr) → is_fall_op (text_op v a x) ≡ false
text_unmarked v a (instr.Lui rd imm) = refl
text_unmarked v a (instr.Auipc rd imm) = refl
text_unmarked v a (instr.Jal rd off) = jumps_unmarked rd (sum_of a 4) (row_of v (sum_of a off))
text_unmarked v a (instr.Jalr rd rs1 imm) = no_jal (text_op v a (instr.Jalr rd rs1 imm)) refl
text_unmarked v a (instr.Branch op rs1 rs2 off) = branch_unmarked op rs1 rs2 (row_of v (sum_of a off))
text_unmarked v a (instr.Load op rd rs1 imm) = no_jal (text_op v a (instr.Load op rd rs1 imm)) (load_code op)
text_unmarked v a (instr.Store op rs1 rs2 imm) = no_jal (text_op v a (instr.Store op rs1 rs2 imm)) (store_code op)
text_unmarked v a (instr.Alu op rd rs1 imm) = no_jal (text_op v a (instr.Alu op rd rs1 imm)) (imm_code op)
text_unmarked v a (instr.Op op rd rs1 rs2) = no_jal (text_op v a (instr.Op op rd rs1 rs2)) (op_code op)
text_unmarked v a (instr.Atomic op rd rs1 rs2) = refl
text_unmarked v a instr.Fence = refl
text_unmarked v a instr.Ecall = refl
text_unmarked v a instr.Ebreak = refl

-- so none stands at a text word's place
pub place_unmarked : (text : ℕ → Option ℕ) (v : ImageData) (a b o : ℕ) (m : MicroOp) → place_of v a ≡ Some (b, o) → IsWordOp text v b o m → is_fall_op m ≡ false
place_unmarked text v a b o m at (inl stops) = ap (λ (q : MicroOp). is_fall_op q) stops
place_unmarked text v a b o m at (inr (inl t)) = ap (λ (q : MicroOp). is_fall_op q) t.is ∙ text_unmarked v t.address t.instruction
place_unmarked text v a b o m at (inr (inr e)) = absurd (e.free a at)

pub turn_falls : (left : ℕ) (x y : Bool) → 0 < left → 2 * (left - 1) + (if x then 1 else 0) < 2 * left + (if y then 1 else 0)
turn_falls left true true some = omega (arith, some)
turn_falls left true false some = omega (arith, some)
turn_falls left false true some = omega (arith, some)
turn_falls left false false some = omega (arith, some)
