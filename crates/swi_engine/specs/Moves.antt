-- What the parts of a call do to the service and to the ram.
use Rattle.std.specs.Prelude.{◌≡◌, ℕ, ◌+◌, ◌-◌, ◌<◌, ◌≤◌, ◌==◌, ◌&&◌, Bool, not, List, [], ◌∷◌, ◌++◌, filter, remove, Some, None, slice_index, slice_set, nat_lt, if◌then◌else◌}
use Rattle.swi_image.specs.Format.{ImageData}
use Rattle.swi_image.specs.Place.{word_at}
use Rattle.swi_outside.specs.CacheRam.{RamState, with_set}
use Rattle.swi_rom.specs.Record.{Has, reaches}
use Rattle.swi_rom.specs.Writing.{Wrote}
use Rattle.swi_engine.specs.declared.copying.Copying.{Copying}
use Rattle.swi_engine.specs.declared.joints.Joint.{Joint}
use Rattle.swi_engine.specs.State.{EngineData}

-- the link leads into a block from another one
abbrev pub leads_in : Joint → ℕ → Bool
leads_in j b = not (j.block == b) && j.into == b

-- one word is set
abbrev pub OneSet : ℕ → ℕ → RamState → RamState → Type 0
OneSet i w before after =
    after ≡ with_set before i w

-- a block's words from one to n stand from an index on, and no other word has changed
pub record CopiedOn (v : ImageData) (b first from n : ℕ) (before after : RamState) : Type 0 where
  pub wrote : Wrote (first + n) (n - from) before after
  pub copied : (k : ℕ) → from ≤ k → k < n → slice_index after.words (first + k) ≡ word_at v b k
  pub below : (i : ℕ) → i < first + from → slice_index after.words i ≡ slice_index before.words i

-- the slot has the block
abbrev pub is_block_in : List ℕ → ℕ → ℕ → Bool
is_block_in blocks b n = slice_index blocks n == b

-- no slot of the queue has the block
abbrev pub IsAbsent : EngineData → ℕ → Type 0
IsAbsent e b = (n : ℕ) → Has e.queue n → slice_index e.blocks n ≡ b → ⊥

-- one more service, but for the boot
abbrev pub more_service : List ℕ → ℕ
more_service [] = 0
more_service (n ∷ ns) = 1

abbrev pub counted_data : EngineData → EngineData
counted_data e = record e { counts = record e.counts { services = e.counts.services + more_service e.queue } }

-- the k-th link has left
abbrev pub undone_data : EngineData → ℕ → EngineData
undone_data e k = record e { joints = remove e.joints k; counts = record e.counts { unlinks = e.counts.unlinks + 1 } }

-- the block at a place of the queue has left, with the links from it
abbrev pub left_data : EngineData → ℕ → EngineData
left_data e k = record e {
  queue = remove e.queue k;
  homes = slice_set e.homes (slice_index e.blocks (slice_index e.queue k)) e.slots;
  joints = filter (λ j. not (j.block == slice_index e.blocks (slice_index e.queue k))) e.joints;
  counts = record e.counts { evictions = e.counts.evictions + 1 };
}

-- the block with a length has taken a slot
abbrev pub placed_data : EngineData → ℕ → ℕ → ℕ → EngineData
placed_data e b n long = record e {
  queue = e.queue ++ n ∷ [];
  blocks = slice_set e.blocks n b;
  lengths = slice_set e.lengths n long;
  homes = slice_set e.homes b n;
  copy = None;
}

-- the engine has written the copy's next word
abbrev pub wrote_data : EngineData → Copying → ℕ → EngineData
wrote_data e c long =
    if c.done + 1 == long
    then record (placed_data e c.block c.slot long) { words = e.words + 1; copies = e.copies + 1 }
    else record e { copy = Some (record c { done = c.done + 1 }); words = e.words + 1 }

-- an exit has become a link
abbrev pub linked_data : EngineData → Joint → EngineData
linked_data e j = record e {
  joints = j ∷ e.joints;
  counts = record e.counts { links = e.counts.links + 1 };
}

-- a block has arrived in a slot, where so many of its words were missing
abbrev pub brought_data : EngineData → ℕ → ℕ → ℕ → ℕ → EngineData
brought_data e b n long missing = record (placed_data e b n long) {
  counts = record e.counts { misses = e.counts.misses + 1; copied = e.counts.copied + missing };
}

-- the exit's block still stands, and a JAL reaches
abbrev pub can_link : EngineData → Joint → ℕ → Bool
can_link e j to = nat_lt (slice_index e.homes j.block) e.slots && reaches j.at to
