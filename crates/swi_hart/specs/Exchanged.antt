-- A step over a plain word that another hand put into the ram.
use Rattle.std.specs.Prelude.{◌≡◌, ℕ, Bool, true, false, List, [], Option, Some, slice_index, slice_set}
use Rattle.swi_isa.specs.declared.instr.Instr.{Instr}
use Rattle.swi_isa.specs.declared.instr.Instr.TheVariants as instr
use Rattle.swi_isa.specs.Decode.{decoded}
use Rattle.swi_image.specs.Format.{ImageData}
use Rattle.swi_image.specs.Place.{word_at}
use Rattle.swi_hart.specs.declared.hart.Stage.{Stage}
use Rattle.swi_hart.specs.declared.hart.Control.{Control}
use Rattle.swi_hart.specs.declared.hart.Control.TheVariants.{At}
use Rattle.swi_hart.specs.Hart.{HartData, hart_after, word_stepped, role_of, original}

-- a word that writes a register and goes on to the next one: LUI, and arithmetic
abbrev pub is_plain : Option Instr → Bool
is_plain (Some (instr.Lui rd imm)) = true
is_plain (Some (instr.Alu op rd rs1 imm)) = true
is_plain (Some (instr.Op op rd rs1 rs2)) = true
is_plain _ = false

-- the word under control is plain, in the image and in the ram
pub record PlainAt (v : ImageData) (words : List ℕ) (c : Control) (i b o : ℕ) (stage : Stage) : Type 0 where
  pub control : c ≡ At i b o stage
  pub own : is_plain (decoded (word_at v b o)) ≡ true
  pub held : is_plain (decoded (slice_index words i)) ≡ true

-- the ram holds another plain word there: with the image's word put back the service is sound
pub record Exchanged (sound : List ℕ → Type 0) (v : ImageData) (words : List ℕ) (c : Control) : Type 0 where
  pub index : ℕ
  pub block : ℕ
  pub offset : ℕ
  pub stage : Stage
  pub plain : PlainAt v words c index block offset stage
  pub put_back : sound (slice_set words index (word_at v block offset))

-- The word that the ram holds there is executed, in the part that the image's word has in its instruction. Nothing but the hart changes,
-- besides the ram's count of fetches.
pub record ExecutesHeld {R : Type 0} (h h' : HartData) (rom rom' : R) (i b o : ℕ) (stage : Stage) (words words' : List ℕ) (left left' out out' err err' : Option (List ℕ)) : Type 0 where
  pub hart : (x : Instr) → decoded (slice_index words i) ≡ Some x → h' ≡ hart_after h (word_stepped (role_of stage (original h.machine)) i b o stage h.machine x [])
  pub rom_stays : rom' ≡ rom
  pub words_stay : words' ≡ words
  pub input : left' ≡ left
  pub output : out' ≡ out
  pub error : err' ≡ err
