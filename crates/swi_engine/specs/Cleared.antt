-- The links into a block from others are undone, one after the other, before it leaves by a miss.
use Rattle.std.specs.Prelude.{◌≡◌, ◌⊎◌, ℕ, ◌+◌, ◌-◌, ◌*◌, ◌≤◌, ◌==◌, filter, not, length, slice_index}
use Rattle.swi_image.specs.Format.{ImageData}
use Rattle.swi_outside.specs.CacheRam.{RamState}
use Rattle.swi_rom.specs.Record.{Has, ebreak}
use Rattle.swi_rom.specs.Writing.{Wrote}
use Rattle.swi_engine.specs.declared.joints.Joint.{Joint}
use Rattle.swi_engine.specs.State.{EngineData}
use Rattle.swi_engine.specs.Sound.{Standing}
use Rattle.swi_links.specs.Undone.{is_own}
use Rattle.swi_engine.specs.Joints.{NoneInto}
use Rattle.swi_engine.specs.Moves.{leads_in, left_data}

-- a word is as before, or a link stood there that is gone
abbrev pub Undone : EngineData → EngineData → RamState → RamState → ℕ → Type 0
Undone e f before after i = (slice_index after.words i ≡ slice_index before.words i)
    ⊎ ((j : Joint) × Has e.joints j × (Has f.joints j → ⊥) × (j.at ≡ i))

-- some of the links into a block from others are undone
pub record Clearing (v : ImageData) (b : ℕ) (e f : EngineData) (before after : RamState) : Type 0 where
  pub stands : Standing f v after.words
  pub rest : f ≡ record e { joints = f.joints; counts = record e.counts { unlinks = f.counts.unlinks } }
  pub others : filter (λ j. not (leads_in j b)) f.joints ≡ filter (λ j. not (leads_in j b)) e.joints
  pub number : f.counts.unlinks + length (filter (λ j. leads_in j b) f.joints) ≡ e.counts.unlinks + length (filter (λ j. leads_in j b) e.joints)
  pub fewer : f.counts.unlinks + length f.joints ≡ e.counts.unlinks + length e.joints
  pub from : (j : Joint) → Has f.joints j → Has e.joints j
  pub later : e.counts.unlinks ≤ f.counts.unlinks
  pub words : (i : ℕ) → Undone e f before after i
  -- a link that is gone is an exit again
  pub gone : (j : Joint) → Has e.joints j → Has f.joints j ⊎ (slice_index after.words j.at ≡ ebreak)
  pub wrote : Wrote (e.slots * e.size) (f.counts.unlinks - e.counts.unlinks) before after

-- the links from the block at a place of the queue are those at its words, which lie in its slot
pub record OwnsLinks (e : EngineData) (k : ℕ) : Type 0 where
  pub inside : slice_index e.lengths (slice_index e.queue k) ≤ e.size
  pub owns : (j : Joint) → Has e.joints j → is_own (slice_index e.queue k * e.size) (slice_index e.lengths (slice_index e.queue k)) j.at ≡ (j.block == slice_index e.blocks (slice_index e.queue k))

-- the oldest block has left its slot
pub record MadeRoom (v : ImageData) (n : ℕ) (e f : EngineData) (before after : RamState) : Type 0 where
  pub room : EngineData
  pub clears : Clearing v (slice_index e.blocks (slice_index e.queue 0)) e room before after
  pub all : NoneInto room.joints (slice_index e.blocks (slice_index e.queue 0))
  pub leaves : f ≡ left_data room 0
  pub slot : n ≡ slice_index e.queue 0
