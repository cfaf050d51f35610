-- When a ring may serve an image over the words of a ram.
use Rattle.std.specs.Prelude.{◌≡◌, ℕ, ◌+◌, ◌*◌, ◌<◌, ◌≤◌, List, length, Some, slice_index}
use Rattle.swi_image.specs.Format.{ImageData}
use Rattle.swi_image.specs.Place.{place_of, word_at, length_at}
use Rattle.swi_image.specs.Sound.{IsImage}
use Rattle.swi_rom.specs.Record.{IsJump}
use Rattle.swi_rom.specs.Coherent.{IsExit}
use Rattle.swi_rom.specs.Policy.{more_service}
use Rattle.swi_links.specs.Chains.{Has}
use Rattle.swi_ring.specs.Ring.{Ring, InShape, first_at, target_at, links_of}

-- word o of a placed block is a link, and the jump that stands there leads to its target's place
pub record LinkStands (s : Ring) (v : ImageData) (words : List ℕ) (b o : ℕ) : Type 0 where
  pub is_exit : IsExit v b o
  pub target : Has s.queue (target_at s (first_at s b + o))
  pub offset : ℕ
  pub place_is : place_of v (word_at v b (o + 1)) ≡ Some (target_at s (first_at s b + o), offset)
  pub jumps : IsJump (first_at s b + o) (first_at s (target_at s (first_at s b + o)) + offset) (slice_index words (first_at s b + o))

-- the word is one of a placed block
pub record IsOwned (s : Ring) (i : ℕ) : Type 0 where
  pub placed : Has s.queue (slice_index s.owners i)
  pub from : first_at s (slice_index s.owners i) ≤ i
  pub to : i < first_at s (slice_index s.owners i) + slice_index s.lengths (slice_index s.owners i)

pub record RingSound (s : Ring) (v : ImageData) (words : List ℕ) : Type 0 where
  pub shape : InShape s
  pub image : IsImage v
  pub blocks_most : length v.blocks ≤ length s.firsts
  pub known : (b : ℕ) → Has s.queue b → b < length v.blocks
  pub holds_one : v.block_words ≤ s.words
  pub fits : s.words ≤ length words
  pub lengths_are : (b : ℕ) → Has s.queue b → slice_index s.lengths b ≡ length_at v b
  -- each word of a placed block was copied for it last
  pub owned : (b o : ℕ) → Has s.queue b → o < length_at v b → slice_index s.owners (first_at s b + o) ≡ b
  -- only words of placed blocks are links
  pub stands : (i : ℕ) → i < s.words → target_at s i < length s.firsts → IsOwned s i
  pub linked : (b o : ℕ) → Has s.queue b → o < length_at v b → target_at s (first_at s b + o) < length s.firsts → LinkStands s v words b o
  pub plain : (b o : ℕ) → Has s.queue b → o < length_at v b → length s.firsts ≤ target_at s (first_at s b + o) →
      slice_index words (first_at s b + o) ≡ word_at v b o
  -- no word behind those that were copied is used
  pub next_copied : s.next ≤ s.counts.copied
  pub ends : (b : ℕ) → Has s.queue b → first_at s b + length_at v b ≤ s.counts.copied
  -- the counts stay small
  pub misses_few : s.counts.misses ≤ s.counts.services + more_service (length s.queue)
  pub evictions_few : s.counts.evictions + length s.queue ≤ s.counts.misses
  pub copied_few : s.counts.copied ≤ s.counts.misses * 1024
  pub links_few : s.counts.links ≤ s.counts.services
  pub unlinks_few : s.counts.unlinks + length (links_of s) ≤ s.counts.links

-- a ring serves one program
abbrev pub Serves : Ring → ImageData → (ℕ → ImageData) → List ℕ → Type 0
Serves s v images words = RingSound s v words
