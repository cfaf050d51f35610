-- The cut that keeps each LR/SC sequence in one block where a block has room for it, and that is the greedy cut
-- everywhere else. Over the sequences of the RISC-V unprivileged specification (section "Eventual Success of
-- Store-Conditional Instructions"): one begins with an LR and ends with an SC, and its loop has at most 16 instructions,
-- placed sequentially in memory.
use Rattle.std.specs.Prelude.{◌≡◌, ◌≢◌, ◌⊎◌, ℕ, ◌+◌, ◌<◌, ◌≤◌, length, slice_index, Option, Some, None}
use Rattle.swi_isa.specs.Decode.{decoded}
use Rattle.swi_isa.specs.declared.instr.AtomicOp.{AtomicOp}
use Rattle.swi_isa.specs.declared.instr.AtomicOp.TheVariants.{LrW, ScW}
use Rattle.swi_isa.specs.declared.instr.Instr.{Instr}
use Rattle.swi_isa.specs.declared.instr.Instr.TheVariants.{Atomic}
use Rattle.swi_program.specs.Text.{TextData}
use Rattle.swi_image.specs.Format.{ImageData}
use Rattle.swi_image.specs.Place.{next_start}
use Rattle.swi_render.specs.ImageOf.{IsImageOf, block_between, start_of}

-- the atomic operation that an instruction is, and text word k
abbrev pub atomic_of : Option Instr → Option AtomicOp
atomic_of (Some (Atomic op rd rs1 rs2)) = Some op
atomic_of i = None

abbrev pub atomic_at : TextData → ℕ → Option AtomicOp
atomic_at t k = atomic_of (decoded (slice_index t.words k))

-- the text words from an LR.W up to an SC.W are a sequence: 16 at most, with no other LR.W or SC.W among them
pub record IsSequence (t : TextData) (lr sc : ℕ) : Type 0 where
  pub reserves : atomic_at t lr ≡ Some LrW
  pub stores : atomic_at t sc ≡ Some ScW
  pub behind : lr < sc
  pub near : sc < lr + 16
  pub within : sc < length t.words
  pub no_other_lr : (k : ℕ) → lr < k → k < sc → atomic_at t k ≢ Some LrW
  pub no_other_sc : (k : ℕ) → lr < k → k < sc → atomic_at t k ≢ Some ScW

-- no text word is an LR.W
abbrev pub HasNoLr : TextData → Type 0
HasNoLr t = (k : ℕ) → k < length t.words → atomic_at t k ≢ Some LrW

-- a sequence stays in one block, where a block of it alone has no more words than a block may have
pub record IsKept (t : TextData) (most lr sc : ℕ) : Type 0 where
  pub sequence : IsSequence t lr sc
  pub fits : length (block_between t lr (sc + 1)) ≤ most

-- in a block of the text words from one up to another, each of those that begin in it ends in it
abbrev pub KeepsSequences : TextData → ℕ → ℕ → ℕ → Type 0
KeepsSequences t most first end = (lr sc : ℕ) → IsKept t most lr sc → first ≤ lr → lr < end → sc < end

-- the block has no room for one text word more
abbrev pub EndsFull : TextData → ℕ → ℕ → ℕ → Type 0
EndsFull t most first end = most < length (block_between t first (end + 1))

-- the next text word begins a sequence that stays in one block, and this one has no room for all of it
abbrev pub EndsBeforeSequence : TextData → ℕ → ℕ → ℕ → Type 0
EndsBeforeSequence t most first end =
    (sc : ℕ) × IsKept t most end sc × (most < length (block_between t first (sc + 1)))

-- the version 2 image whose blocks keep their sequences, and in which no block but the last ends before it must
pub record IsLoopCut (t : TextData) (most : ℕ) (v : ImageData) : Type 0 where
  pub image : IsImageOf t v
  pub version : v.version ≡ 2
  pub most_words : v.block_words ≡ most
  pub keeps : (b : ℕ) → b < length v.starts → KeepsSequences t most (start_of v b) (next_start v b)
  pub ends : (b : ℕ) → b + 1 < length v.starts →
      EndsFull t most (start_of v b) (next_start v b) ⊎ EndsBeforeSequence t most (start_of v b) (next_start v b)
