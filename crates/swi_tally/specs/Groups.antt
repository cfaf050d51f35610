-- Numbers from 0 on, each in a group.
use Rattle.std.specs.Prelude.{◌≡◌, ℕ, zero, suc, ◌+◌, ◌<◌, ◌==◌, ◌&&◌, Bool, true, false, not, List, length, slice_index, nat_le, if◌then◌else◌}
use Rattle.swi_tally.specs.Masks.{has_at}

pub record GroupsData : Type 0 where
  -- of each number its group
  pub keys : List ℕ
  -- how many groups there are
  pub groups : ℕ

abbrev pub is_in : List ℕ → ℕ → ℕ → Bool
is_in keys group x = slice_index keys x == group

-- the number behind the last of the first n that is in the group; 0 where none is
unfoldable pub end_of : List ℕ → ℕ → ℕ → ℕ
end_of keys group zero = 0
end_of keys group (suc n) = if is_in keys group n then suc n else end_of keys group n

-- of each group such an end of all numbers, and of each number that of the ones before it in its own group
pub record Grouped (keys ends befores : List ℕ) : Type 0 where
  pub long : length befores ≡ length keys
  pub known : (x : ℕ) → x < length keys → slice_index keys x < length ends
  pub last : (g : ℕ) → g < length ends → slice_index ends g ≡ end_of keys g (length keys)
  pub earlier : (x : ℕ) → x < length keys → slice_index befores x ≡ end_of keys (slice_index keys x) x

-- how many of the first n are in the group, and have the cache in their set
unfoldable pub held_in : List ℕ → ℕ → List ℕ → ℕ → ℕ → ℕ
held_in keys group masks cache zero = 0
held_in keys group masks cache (suc n) =
    if is_in keys group n && has_at masks cache n then held_in keys group masks cache n + 1 else held_in keys group masks cache n

-- no number of the group has the cache in its set
abbrev pub NoneIn : List ℕ → ℕ → List ℕ → ℕ → Type 0
NoneIn keys group masks cache = (x : ℕ) → x < length keys → is_in keys group x ≡ true → has_at masks cache x ≡ false

-- the cache has left the sets of the numbers from one on that are in the group, and no other
pub record Left (keys : List ℕ) (group cache from : ℕ) (old new : List ℕ) : Type 0 where
  pub long : length new ≡ length old
  pub sets : (d x : ℕ) → d < 64 → x < length old → has_at new d x ≡ (has_at old d x && not (d == cache && (is_in keys group x && nat_le from x)))

-- the cache has left the set of one number, and no other
pub record Drops (x cache : ℕ) (old new : List ℕ) : Type 0 where
  pub long : length new ≡ length old
  pub here : (d : ℕ) → d < 64 → has_at new d x ≡ (has_at old d x && not (d == cache))
  pub others : (y : ℕ) → (y ≡ x → ⊥) → slice_index new y ≡ slice_index old y
