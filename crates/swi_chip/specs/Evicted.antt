-- A block has left its slot.
use Rattle.std.specs.Prelude.{◌≡◌, ℕ, ◌*◌, ◌/◌, ◌<◌, ◌≤◌, List, length, slice_index, if◌then◌else◌}
use Rattle.swi_rom.specs.Record.{ebreak}
use Rattle.swi_slots.specs.Slots.{Slots}
use Rattle.swi_slots.specs.Keys.{Images, words_in}
use Rattle.swi_slots.specs.Sound.{SlotsServe}
use Rattle.swi_slots.specs.Steps.{is_dropped, leads_in, leading_in}
use Rattle.swi_chip.specs.Held.{RowsHold, Holds, InBlock}
use Rattle.swi_chip.specs.Parts.{HoldsParts}

-- the tables and the memory stand for a service that serves its images, and the slot is one of the filled, whose block has so many words
pub record Known (s : Slots) (vs : Images) (ram cache heads links : List ℕ) (slot length : ℕ) (blocks ends words : List ℕ) (size : ℕ) (lists : List (List ℕ)) : Type 0 where
  pub serves : SlotsServe s vs ram
  pub holds : Holds s ram cache heads links blocks lists
  pub rows : RowsHold vs ends words
  pub filled : slot < s.filled
  pub length_is : length ≡ words_in vs (slice_index s.blocks slot)
  pub size_is : size ≡ s.size

abbrev pub SomeKnown : List ℕ → List ℕ → List ℕ → ℕ → ℕ → List ℕ → List ℕ → List ℕ → ℕ → Type 0
SomeKnown cache heads links slot length blocks ends words size =
    (s : Slots) × (vs : Images) × (ram : List ℕ) × (lists : List (List ℕ)) × Known s vs ram cache heads links slot length blocks ends words size lists

-- The links from the slot and to it are dropped, and those of other slots are undone in the model's ram: as `Cleared` says. The tables and
-- the memory stand for that, but for the slot's own words.
pub record Evicted (s : Slots) (ram : List ℕ) (slot number : ℕ) (cache heads links blocks : List ℕ) : Type 0 where
  pub targets : List ℕ
  pub words : List ℕ
  pub lists : List (List ℕ)
  pub targets_long : length targets ≡ length s.targets
  pub words_long : length words ≡ length ram
  pub dropped : (i : ℕ) → i < s.slots * s.size → slice_index targets i ≡ (if is_dropped s.size slot s.targets i then s.slots else slice_index s.targets i)
  pub undone : (i : ℕ) → i < s.slots * s.size → slice_index words i ≡ (if leads_in s.size slot s.targets i then ebreak else slice_index ram i)
  pub beyond : (i : ℕ) → s.slots * s.size ≤ i → slice_index words i ≡ slice_index ram i
  pub number_is : number ≡ leading_in s.size slot s.targets (s.slots * s.size)
  pub holds : HoldsParts (record s { targets = targets }) words cache heads links blocks lists (λ i. InBlock s i × (i / s.size ≡ slot → ⊥))
