-- Pieces of a range on a bus.
use Rattle.std.proofs.Common.{◌≡◌, ℕ, ◌+◌, ◌-◌, ◌<◌, ◌≤◌, ◌^◌, ◌%◌, List, length, true, false, arith, Result, Ok, Err, OnOk, OnErr}
use Rattle.swi_memory.specs.declared.right.Right.{Right}
use Rattle.swi_memory.specs.declared.right.Right.TheVariants.{Write}
use Rattle.swi_memory.specs.Bus.{AreaData, holds, with_bytes}
use Rattle.swi_memory.specs.Laws.{holds_at, holds_from, holds_front}

-- a piece of a range that holds, at the address that wraps: it doesn't
pub piece_place : (bus : List AreaData) (r : Right) (a n d : ℕ) → holds bus r a n ≡ true → d < n → (a + d) % 2 ^ 32 ≡ a + d
piece_place bus r a n d h more = let here = holds_at bus r a n d h more in omega (arith, here.0)

pub piece_held : (bus : List AreaData) (r : Right) (a n d k : ℕ) → holds bus r a n ≡ true → d + k ≤ n → holds bus r (a + d) k ≡ true
piece_held bus r a n d k h within = holds_front bus r (a + d) (n - d) k (holds_from bus r a n d h (omega arith)) (omega arith)

-- a copy of a piece that may be made
pub copied : {E : Type 0} (r : Result Unit E) (old new : List AreaData) (a n d : ℕ) (bytes : List ℕ) → holds old Write a n ≡ true → d < n → d + length bytes ≤ n →
    OnOk r (new ≡ with_bytes old ((a + d) % 2 ^ 32) bytes) → OnErr r (holds old Write ((a + d) % 2 ^ 32) (length bytes) ≡ false) → new ≡ with_bytes old (a + d) bytes
copied (Ok u) old new a n d bytes held more within ok refused = rw (piece_place old Write a n d held more) at ok
copied (Err e) old new a n d bytes held more within ok refused = cc (piece_place old Write a n d held more, piece_held old Write a n d (length bytes) held within)

pub ruleset pieces = (piece_place, piece_held)
