-- When a service with slots may serve its programs' images over the words of a ram.
use Rattle.std.specs.Prelude.{◌≡◌, ℕ, ◌+◌, ◌*◌, ◌/◌, ◌<◌, ◌≤◌, List, length, Some, slice_index}
use Rattle.swi_image.specs.Format.{ImageData}
use Rattle.swi_image.specs.Sound.{IsImage}
use Rattle.swi_rom.specs.Record.{IsJump}
use Rattle.swi_slots.specs.Slots.{Slots, InShape, links_of}
use Rattle.swi_slots.specs.Keys.{Images, word_in, words_in, ExitOf, IsKnown, goes}

-- word o of slot n is a link, and the jump that stands there leads to its target's place
pub record LinkStands (s : Slots) (vs : Images) (words : List ℕ) (n o : ℕ) : Type 0 where
  pub is_exit : ExitOf vs (slice_index s.blocks n) o
  pub target : slice_index s.targets (n * s.size + o) < s.filled
  pub offset : ℕ
  pub place_is : goes vs (slice_index s.blocks n) (word_in vs (slice_index s.blocks n) (o + 1)) ≡ Some (slice_index s.blocks (slice_index s.targets (n * s.size + o)), offset)
  pub jumps : IsJump (n * s.size + o) (slice_index s.targets (n * s.size + o) * s.size + offset) (slice_index words (n * s.size + o))

-- for each program its image
pub record SlotsServe (s : Slots) (vs : Images) (words : List ℕ) : Type 0 where
  pub shape : InShape s
  pub images : (p : ℕ) → IsImage (vs p)
  pub size_most : (p : ℕ) → (vs p).block_words ≤ s.size
  pub fits : s.slots * s.size ≤ length words
  -- no block stands in two slots
  pub distinct : (n m : ℕ) → n < s.filled → m < s.filled → slice_index s.blocks n ≡ slice_index s.blocks m → n ≡ m
  pub known : (n : ℕ) → n < s.filled → IsKnown vs (slice_index s.blocks n)
  pub lengths_are : (n : ℕ) → n < s.filled → slice_index s.lengths n ≡ words_in vs (slice_index s.blocks n)
  -- only words of filled slots are links
  pub stands : (i : ℕ) → i < s.slots * s.size → slice_index s.targets i < s.slots → i / s.size < s.filled
  pub linked : (n o : ℕ) → n < s.filled → o < s.size → slice_index s.targets (n * s.size + o) < s.slots → LinkStands s vs words n o
  pub plain : (n o : ℕ) → n < s.filled → o < words_in vs (slice_index s.blocks n) → s.slots ≤ slice_index s.targets (n * s.size + o) →
      slice_index words (n * s.size + o) ≡ word_in vs (slice_index s.blocks n) o
  -- the counts stay small
  pub misses_few : s.counts.misses ≤ s.counts.services + 1
  pub evictions_few : s.counts.evictions ≤ s.counts.misses
  pub copied_few : s.counts.copied ≤ s.counts.misses * 1024
  pub links_few : s.counts.links ≤ s.counts.services
  pub unlinks_few : s.counts.unlinks + length (links_of s) ≤ s.counts.links

-- the program in turn has this image among them
abbrev pub Serves : Slots → ImageData → Images → List ℕ → Type 0
Serves s v vs words = (vs s.turn ≡ v) × SlotsServe s vs words

-- of the other programs' images it is only known that there are some
abbrev pub SlotsSound : Slots → ImageData → List ℕ → Type 0
SlotsSound s v words = (vs : Images) × Serves s v vs words
