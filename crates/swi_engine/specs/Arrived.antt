-- What the parts of a service do to what is kept and to the ram.
use Rattle.std.specs.Prelude.{◌≡◌, ◌⊎◌, ℕ, ◌+◌, ◌-◌, ◌*◌, ◌≤◌, true, false, Bool, length, slice_index, Some, None}
use Rattle.swi_image.specs.Format.{ImageData}
use Rattle.swi_image.specs.Place.{length_at}
use Rattle.swi_outside.specs.CacheRam.{RamState}
use Rattle.swi_rom.specs.Record.{Has, ebreak, IsJump, writes}
use Rattle.swi_rom.specs.Policy.{counted}
use Rattle.swi_rom.specs.Served.{WordsMove}
use Rattle.swi_rom.specs.Writing.{Wrote}
use Rattle.swi_engine.specs.declared.joints.Joint.{Joint}
use Rattle.swi_engine.specs.declared.copying.Copying.{Copying}
use Rattle.swi_engine.specs.Engine.{arrived, missed, brought, span_of}
use Rattle.swi_engine.specs.State.{EngineData, kept_by, setting_of}
use Rattle.swi_engine.specs.Sound.{EngineSound, Standing}
use Rattle.swi_engine.specs.Moves.{CopiedOn, OneSet, brought_data, linked_data, more_service}
use Rattle.swi_engine.specs.Cleared.{Undone}

-- a copy of block b is to be completed, as if the engine had begun it
pub record Ready (v : ImageData) (b : ℕ) (c : Copying) (e f : EngineData) (before after : RamState) : Type 0 where
  pub is_block : c.block ≡ b
  pub stands : Standing (record f { copy = Some c }) v after.words
  pub brings : missed (setting_of e) v (kept_by e) b e.copy ≡ brought (kept_by (record f { copy = None })) b (c.slot * e.size) (length_at v b - c.done)
  pub setting_stays : setting_of f ≡ setting_of e
  pub blocks_stay : f.blocks ≡ e.blocks
  pub counts_are : f.counts ≡ record e.counts { evictions = f.counts.evictions; unlinks = f.counts.unlinks }
  pub words_stay : f.words ≡ e.words
  pub copies_stay : f.copies ≡ e.copies
  pub evicts_one : f.counts.evictions ≤ e.counts.evictions + 1
  pub links_few : f.counts.unlinks + length f.joints ≤ e.counts.unlinks + length e.joints
  pub fewer : (n : ℕ) → Has f.queue n → Has e.queue n
  pub queue_few : length f.queue ≤ length e.queue
  pub joints_left : (j : Joint) → Has f.joints j → Has e.joints j
  pub later : e.counts.unlinks ≤ f.counts.unlinks
  pub words : (i : ℕ) → Undone e f before after i
  -- a link that is gone is an exit again, or its block is gone
  pub gone : (j : Joint) → Has e.joints j → Has f.joints j ⊎ ((slice_index after.words j.at ≡ ebreak) ⊎ ((n : ℕ) → Has f.queue n → slice_index e.blocks n ≡ j.block → ⊥))
  pub wrote : Wrote (span_of (setting_of e)) (f.counts.unlinks - e.counts.unlinks) before after

-- a block that stood nowhere has been copied
pub record Filled (v : ImageData) (b n : ℕ) (e t : EngineData) (before after : RamState) : Type 0 where
  pub copy : Copying
  pub room : EngineData
  pub between : RamState
  pub ready : Ready v b copy e room before between
  pub copied : CopiedOn v b (copy.slot * e.size) copy.done (length_at v b) between after
  pub settles : t ≡ brought_data room b copy.slot (length_at v b) (length_at v b - copy.done)
  pub slot : n ≡ copy.slot

-- the block stands in a slot, before any link
pub record Arrived (v : ImageData) (b n : ℕ) (e t : EngineData) (before after : RamState) : Type 0 where
  pub moves : kept_by t ≡ arrived (setting_of e) v (counted (kept_by e)) b
  pub sound : EngineSound t v after.words
  pub setting_stays : setting_of t ≡ setting_of e
  pub stands : Has t.queue n
  pub block_is : slice_index t.blocks n ≡ b
  -- a block that stood and stands is where it was
  pub older : (m c : ℕ) → Has e.queue m → slice_index e.blocks m ≡ c → (k : ℕ) → Has t.queue k → slice_index t.blocks k ≡ c → k ≡ m
  pub joints_left : (j : Joint) → Has t.joints j → Has e.joints j
  pub wrote : Wrote (span_of (setting_of e)) (writes (kept_by t) - writes (kept_by e)) before after
  pub written : writes (kept_by e) ≤ writes (kept_by t)
  pub links_stay : t.counts.links ≡ e.counts.links
  pub services_are : t.counts.services ≡ e.counts.services + more_service e.queue
  pub words : WordsMove v (kept_by e) (kept_by t) before after

-- an exit has been made a link to a word
pub record Linked (e f : EngineData) (j : Joint) (to : ℕ) (before after : RamState) : Type 0 where
  pub data_is : f ≡ linked_data e j
  pub word : ℕ
  pub jumps : IsJump j.at to word
  pub set : OneSet j.at word before after

-- or it hasn't, and nothing has changed
pub record MaybeLinked (e f : EngineData) (links : Bool) (j : Joint) (to : ℕ) (before after : RamState) : Type 0 where
  pub linked : links ≡ true → Linked e f j to before after
  pub stays : links ≡ false → (f ≡ e) × (after ≡ before)
