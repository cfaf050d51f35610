-- The micro-ops of an image's words, by the text that the image carries. A jump or a branch leads to the row of the image's words.
use Rattle.std.specs.Prelude.{◌≡◌, ◌⊎◌, ◌==◌, ℕ, ◌+◌, ◌%◌, ◌^◌, ◌<◌, ◌≤◌, Bool, true, false, List, length, Option, Some, None}
use Rattle.std.proofs.Common.{get_or}
use Rattle.swi_isa.specs.declared.instr.Instr.{Instr}
use Rattle.swi_isa.specs.declared.instr.Instr.TheVariants as instr
use Rattle.swi_isa.specs.Decode.{decoded}
use Rattle.swi_memory.specs.declared.word_range.WordRange.{WordRange}
use Rattle.swi_exec.specs.Arithmetic.{sum_of}
use Rattle.swi_image.specs.Format.{ImageData}
use Rattle.swi_image.specs.Place.{place_of, word_at, length_at}
use Rattle.swi_image.specs.Row.{row_index, row_length}
use Rattle.swi_render.specs.Rendering.{ebreak}
use Rattle.swi_micro.specs.declared.class.Class.TheVariants as class
use Rattle.swi_micro.specs.declared.translator.MicroOp.{MicroOp}
use Rattle.swi_micro.specs.MicroOp.{branch_or_stop, made_op, micro_op_of, stop_op}

-- the index in the row of a place, and of the first word that stands for the text word at an address
abbrev pub row_at : ImageData → Option (ℕ × ℕ) → Option ℕ
row_at v None = None
row_at v (Some p) = Some (row_index v p.0 p.1)

abbrev pub row_of : ImageData → ℕ → Option ℕ
row_of v a = row_at v (place_of v a)

-- an exit to the word with this index in the row: a step of its own, or none where it stands behind a block's last text word
abbrev pub exit_op : ℕ → MicroOp
exit_op k = made_op class.Jal 0 0 0 k

abbrev pub fall_op : ℕ → MicroOp
fall_op k = made_op class.Jal 0 1 0 k

-- a value that is put into rd by two words
abbrev pub pair_op : ℕ → ℕ → MicroOp
pair_op rd value = made_op class.Lui rd 1 0 value

-- a jump that keeps this return address in rd, or none where that is x0; the exit of one that keeps it stands two words on, and says
-- where it leads
abbrev pub jump_op : Bool → ℕ → ℕ → ℕ → MicroOp
jump_op true rd return k = exit_op k
jump_op false rd return k = made_op class.Jal rd 0 0 return

abbrev pub jump_or_stop : ℕ → ℕ → Option ℕ → MicroOp
jump_or_stop rd return None = stop_op
jump_or_stop rd return (Some k) = jump_op (rd == 0) rd return k

-- no place in a text is asked for by the micro-op of any other instruction
abbrev pub no_words : WordRange
no_words = record { from = 0; words = 0 }

-- the micro-op of the instruction at an address
abbrev pub text_op : ImageData → ℕ → Instr → MicroOp
text_op v a (instr.Auipc rd imm) = pair_op rd (sum_of a imm)
text_op v a (instr.Jal rd off) = jump_or_stop rd (sum_of a 4) (row_of v (sum_of a off))
text_op v a (instr.Branch op rs1 rs2 off) = branch_or_stop op rs1 rs2 (row_of v (sum_of a off))
text_op v a x = micro_op_of no_words 0 x

-- at a place stands the text word at an address, which is this instruction, and this is its micro-op
pub record IsTextOp (text : ℕ → Option ℕ) (v : ImageData) (b o : ℕ) (m : MicroOp) : Type 0 where
  pub address : ℕ
  pub short : address < 2 ^ 32
  pub place : place_of v address ≡ Some (b, o)
  pub word : ℕ
  pub stands : text address ≡ Some word
  pub instruction : Instr
  pub decodes : decoded word ≡ Some instruction
  pub is : m ≡ text_op v address instruction

-- at a place stands an exit, and no text word
pub record IsExitOp (v : ImageData) (b o : ℕ) (m : MicroOp) : Type 0 where
  pub free : (a : ℕ) → place_of v a ≡ Some (b, o) → ⊥
  pub inside : o + 1 < length_at v b
  pub leaves : word_at v b o ≡ ebreak
  pub direct : word_at v b (o + 1) % 4 ≡ 0
  pub to : ℕ
  pub leads : row_of v (word_at v b (o + 1)) ≡ Some to
  pub is : m ≡ fall_op to

-- the micro-op of the word at a place, unless it stops
abbrev pub IsWordOp : (ℕ → Option ℕ) → ImageData → ℕ → ℕ → MicroOp → Type 0
IsWordOp text v b o m = (m ≡ stop_op) ⊎ (IsTextOp text v b o m ⊎ IsExitOp v b o m)

-- each micro-op of an image's row is that of its word, or it stops
pub record AreImageOps (text : ℕ → Option ℕ) (v : ImageData) (ops : List MicroOp) : Type 0 where
  pub count : row_length v ≤ length ops
  pub each : (b o : ℕ) → b < length v.starts → o < length_at v b → (d : MicroOp) → IsWordOp text v b o (get_or ops (row_index v b o) d)
