-- What the undoing of a block's links comes to.
use Rattle.std.specs.Prelude.{◌≡◌, ℕ, ◌<◌, ◌≤◌, length, slice_index, if◌then◌else◌}
use Rattle.swi_outside.specs.CacheRam.{RamState}
use Rattle.swi_links.specs.Chains.{ChainsData}
use Rattle.swi_links.specs.Holders.{holder_of}
use Rattle.swi_rom.specs.Record.{ebreak}
use Rattle.swi_rom.specs.Writing.{Wrote}
use Rattle.swi_links.specs.Undone.{comes_in, coming_in, is_dropped}

-- all links into a block, which has n words from the first on, and all links from its words are gone; those from other blocks are exits again
pub record Gone (list first n : ℕ) (old new : ChainsData) (before after : RamState) : Type 0 where
  pub dropped : (i : ℕ) → i < old.words → holder_of new.lists i ≡ (if is_dropped list first n old.lists i then length old.lists else holder_of old.lists i)
  pub undone : (i : ℕ) → i < old.words → slice_index after.words i ≡ (if comes_in list first n old.lists i then ebreak else slice_index before.words i)
  pub beyond : (i : ℕ) → old.words ≤ i → slice_index after.words i ≡ slice_index before.words i
  pub wrote : Wrote old.words (coming_in list first n old.lists old.words) before after
