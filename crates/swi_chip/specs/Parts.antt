-- What a chip's tables and memory hold of a service with slots, where some words are given up.
use Rattle.std.specs.Prelude.{◌≡◌, ℕ, ◌+◌, ◌-◌, ◌*◌, ◌<◌, ◌≤◌, true, List, length, slice_index}
use Rattle.swi_links.specs.Chains.{Has}
use Rattle.swi_slots.specs.Slots.{Slots}
use Rattle.swi_slots.specs.Keys.{number_of}
use Rattle.swi_chip.specs.Lists.{StandIn, list_at}
use Rattle.swi_chip.specs.Owned.{AreCounted, is_jump, lands_in}

-- The cache has the words of the model's ram, but for its cells; each slot's list has just the words that are linked to it.
pub record HoldsParts (s : Slots) (ram cache heads links blocks : List ℕ) (lists : List (List ℕ)) (Held : ℕ → Type 0) : Type 0 where
  pub stand : StandIn cache heads lists
  pub slots_are : length heads ≡ s.slots
  pub long : s.slots * s.size ≤ length cache
  pub links_long : length links ≡ length heads
  pub counted : AreCounted links lists
  pub linked : (n x : ℕ) → Has (list_at lists n) x → (n < s.slots) × (0 < x) × (x - 1 < s.slots * s.size) × (slice_index s.targets (x - 1) ≡ n)
  pub listed : (i : ℕ) → i < s.slots * s.size → slice_index s.targets i < s.slots → Has (list_at lists (slice_index s.targets i)) (i + 1)
  -- a linked word is a jump into its slot
  pub leads : (i : ℕ) → i < s.slots * s.size → slice_index s.targets i < s.slots → (is_jump (slice_index ram i) ≡ true) × (lands_in s.size i (slice_index ram i) ≡ slice_index s.targets i)
  pub held : (i : ℕ) → i < s.slots * s.size → Held i → ((n : ℕ) → Has (list_at lists n) i → ⊥) → slice_index cache i ≡ slice_index ram i
  pub blocks_long : length blocks ≡ s.slots
  pub blocks_are : (n : ℕ) → n < s.filled → slice_index blocks n ≡ number_of (slice_index s.blocks n)
