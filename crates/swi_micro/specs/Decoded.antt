-- Micro-ops that stand beside the words of a range. `words` says which word stands at an address, and where none does.
use Rattle.std.specs.Prelude.{◌≡◌, ◌⊎◌, ℕ, ◌+◌, ◌<◌, ◌≤◌, List, length, slice_set, Option, Some, None}
use Rattle.std.proofs.Common.{get_or}
use Rattle.swi_isa.specs.declared.instr.Instr.{Instr}
use Rattle.swi_isa.specs.Decode.{decoded}
use Rattle.swi_memory.specs.declared.word_range.WordRange.{WordRange}
use Rattle.swi_memory.specs.WordRange.{IsWordRange}
use Rattle.swi_micro.specs.declared.translator.MicroOp.{MicroOp}
use Rattle.swi_micro.specs.MicroOp.{address_at, micro_op_of, stop_op}

-- the micro-op is that of the instruction which the word with this index is
pub record IsOpOf (words : ℕ → Option ℕ) (range : WordRange) (k : ℕ) (m : MicroOp) : Type 0 where
  pub word : ℕ
  pub instruction : Instr
  pub stands : words (address_at range k) ≡ Some word
  pub decodes : decoded word ≡ Some instruction
  pub is : m ≡ micro_op_of range k instruction

-- each micro-op is that of the word that stands there, or it stops; behind the last word's stands one that stops
pub record AreDecoded (words : ℕ → Option ℕ) (range : WordRange) (ops : List MicroOp) : Type 0 where
  pub whole : IsWordRange range
  pub count : length ops ≡ range.words + 1
  pub each : (k : ℕ) → k < range.words → (d : MicroOp) → (get_or ops k d ≡ stop_op) ⊎ IsOpOf words range k (get_or ops k d)
  pub last : (d : MicroOp) → get_or ops range.words d ≡ stop_op

-- the same words stand at the same addresses, but for words of which one of the four bytes from a on is
abbrev pub AreSameBeside : (ℕ → Option ℕ) → (ℕ → Option ℕ) → ℕ → Type 0
AreSameBeside old new a = (x : ℕ) → (x + 4 ≤ a) ⊎ (a + 4 ≤ x) → new x ≡ old x

-- the micro-ops without that of the word with this index
abbrev pub without : List MicroOp → Option ℕ → List MicroOp
without ops None = ops
without ops (Some k) = slice_set ops k stop_op
