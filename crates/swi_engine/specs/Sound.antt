-- When the service may serve an image over the words of a ram.
use Rattle.std.specs.Prelude.{◌≡◌, ◌⊎◌, ℕ, ◌+◌, ◌*◌, ◌^◌, ◌<◌, ◌≤◌, ⊤, List, [], ◌∷◌, length, Option, Some, None, slice_index}
use Rattle.swi_image.specs.Format.{ImageData}
use Rattle.swi_image.specs.Place.{place_of, word_at, length_at}
use Rattle.swi_image.specs.Sound.{IsImage}
use Rattle.swi_rom.specs.Record.{Has, IsJump}
use Rattle.swi_rom.specs.Coherent.{IsExit}
use Rattle.swi_engine.specs.declared.copying.Copying.{Copying}
use Rattle.swi_engine.specs.declared.joints.Joint.{Joint}
use Rattle.swi_engine.specs.State.{EngineData, used}

-- no element stands twice
abbrev pub Distinct : {X : Type 0} → List X → Type 0
Distinct [] = ⊤
Distinct (x ∷ xs) = (Has xs x → ⊥) × Distinct xs

-- each placed block's slot is found by its number
pub record Homed (slots : ℕ) (queue blocks homes : List ℕ) : Type 0 where
  pub known : (n : ℕ) → Has queue n → slice_index blocks n < length homes
  pub home : (n : ℕ) → Has queue n → slice_index homes (slice_index blocks n) ≡ n
  pub only : (b : ℕ) → b < length homes → slice_index homes b < slots → Has queue (slice_index homes b) × (slice_index blocks (slice_index homes b) ≡ b)

-- the numbers keep their shape, whatever stands in the slots
pub record InShape (e : EngineData) : Type 0 where
  pub slots_some : 1 ≤ e.slots
  pub size_least : 2 ≤ e.size
  pub size_most : e.size ≤ 1024
  pub words_few : e.slots * e.size ≤ 2 ^ 21
  pub used_most : used e ≤ e.slots
  pub blocks_long : length e.blocks ≡ e.slots
  pub lengths_long : length e.lengths ≡ e.slots
  pub below : (n : ℕ) → Has e.queue n → n < e.slots
  pub homed : Homed e.slots e.queue e.blocks e.homes

-- a link stands at its word: an exit of a block that stands, and a jump to its target's place, which stands too
pub record JointStands (e : EngineData) (v : ImageData) (words : List ℕ) (j : Joint) : Type 0 where
  pub home : ℕ
  pub home_queued : Has e.queue home
  pub home_is : slice_index e.blocks home ≡ j.block
  pub index : j.at ≡ home * e.size + j.offset
  pub is_exit : IsExit v j.block j.offset
  pub target : ℕ
  pub offset : ℕ
  pub target_queued : Has e.queue target
  pub target_is : slice_index e.blocks target ≡ j.into
  pub place_is : place_of v (word_at v j.block (j.offset + 1)) ≡ Some (j.into, offset)
  pub jumps : IsJump j.at (target * e.size + offset) (slice_index words j.at)

-- no link stands at a word
abbrev pub NoJoint : EngineData → ℕ → Type 0
NoJoint e i = (j : Joint) → Has e.joints j → j.at ≡ i → ⊥

-- no two links stand at one word
abbrev pub Apart : List Joint → Type 0
Apart [] = ⊤
Apart (j ∷ js) = ((k : Joint) → Has js k → k.at ≡ j.at → ⊥) × Apart js

-- the copy: a block that stands nowhere, in a slot without a block, of which so many words stand
pub record CopyStands (e : EngineData) (v : ImageData) (words : List ℕ) (c : Copying) : Type 0 where
  pub slot_used : c.slot < used e
  pub slot_free : Has e.queue c.slot → ⊥
  pub known : c.block < length v.blocks
  pub absent : (n : ℕ) → Has e.queue n → slice_index e.blocks n ≡ c.block → ⊥
  pub more : c.done < length_at v c.block
  pub stands : (k : ℕ) → k < c.done → slice_index words (c.slot * e.size + k) ≡ word_at v c.block k

abbrev pub CopyIs : Option Copying → EngineData → ImageData → List ℕ → Type 0
CopyIs None e v words = ⊤
CopyIs (Some c) e v words = CopyStands e v words c

-- the slots below the number of used ones have a block or the copy
abbrev pub HasCopy : Option Copying → ℕ → Type 0
HasCopy None n = ⊥
HasCopy (Some c) n = c.slot ≡ n

-- the ram has the placed blocks but for the links, and the words of the copy
pub record Standing (e : EngineData) (v : ImageData) (words : List ℕ) : Type 0 where
  pub shape : InShape e
  pub image : IsImage v
  pub holds_block : v.block_words ≤ e.size
  pub blocks_most : length v.blocks ≤ length e.homes
  pub fits : e.slots * e.size ≤ length words
  -- no slot stands twice in the queue, and no block in two slots
  pub once : Distinct e.queue
  pub distinct : (n m : ℕ) → Has e.queue n → Has e.queue m → slice_index e.blocks n ≡ slice_index e.blocks m → n ≡ m
  pub known : (n : ℕ) → Has e.queue n → slice_index e.blocks n < length v.blocks
  pub lengths_are : (n : ℕ) → Has e.queue n → slice_index e.lengths n ≡ length_at v (slice_index e.blocks n)
  -- the lowest slots are used
  pub low : (n : ℕ) → Has e.queue n → n < used e
  pub filled : (n : ℕ) → n < used e → Has e.queue n ⊎ HasCopy e.copy n
  pub copy_is : CopyIs e.copy e v words
  pub linked : (j : Joint) → Has e.joints j → JointStands e v words j
  pub apart : Apart e.joints
  pub plain : (n o : ℕ) → Has e.queue n → o < length_at v (slice_index e.blocks n) → NoJoint e (n * e.size + o) →
      slice_index words (n * e.size + o) ≡ word_at v (slice_index e.blocks n) o

-- the counts stay small
pub record Few (e : EngineData) : Type 0 where
  pub misses_few : e.counts.misses ≤ e.counts.services + 1
  pub unbooted : e.queue ≡ [] → e.counts.misses ≡ 0
  pub copied_few : e.counts.copied ≤ e.counts.misses * 1024
  pub evictions_few : e.counts.evictions ≤ e.counts.misses + e.words
  pub links_few : e.counts.links ≤ e.counts.services
  pub unlinks_few : e.counts.unlinks + length e.joints ≤ e.counts.links
  pub copies_few : e.copies ≤ e.words
  pub queue_few : length e.queue ≤ e.counts.misses + e.copies
  pub words_few : e.words ≤ 2 ^ 60
  pub services_few : e.counts.services ≤ 2 ^ 50

pub record EngineSound (e : EngineData) (v : ImageData) (words : List ℕ) : Type 0 where
  pub stands : Standing e v words
  pub few : Few e

-- it serves one program
abbrev pub Serves : EngineData → ImageData → (ℕ → ImageData) → List ℕ → Type 0
Serves e v images words = EngineSound e v words
