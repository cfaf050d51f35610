-- The vector's memo: whether an entry was filled, and 16 targets. A target's entry is told by its bits from 2 on.
use Rattle.std.specs.Prelude.{◌≡◌, ℕ, ◌+◌, ◌/◌, ◌%◌, ◌<◌, List, slice_index}
use Rattle.swi_chip.specs.declared.chip.Chip.{Chip}

-- no entry was filled, so that none has a target of its own number
pub record HasNone (memo : List ℕ) : Type 0 where
  pub filled : slice_index memo 0 ≡ 0
  pub none : (e : ℕ) → e < 16 → slice_index memo (e + 1) / 4 % 16 ≡ e → ⊥

-- The memo stays but where a block has left: then none is filled, if one was.
pub record Forgets (old new : Chip) : Type 0 where
  pub stays : new.counts.evictions ≡ old.counts.evictions → new.memo.now ≡ old.memo.now
  pub forgets : (new.counts.evictions ≡ old.counts.evictions → ⊥) → (slice_index old.memo.now 0 ≡ 0 → ⊥) → HasNone new.memo.now
  pub unfilled : (new.counts.evictions ≡ old.counts.evictions → ⊥) → slice_index old.memo.now 0 ≡ 0 → new.memo.now ≡ old.memo.now

-- no block has left
pub record KeepsMemo (old new : Chip) : Type 0 where
  pub evictions : new.counts.evictions ≡ old.counts.evictions
  pub memo : new.memo.now ≡ old.memo.now
