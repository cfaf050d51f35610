-- A cache with room for all blocks: no block leaves it, so each is copied once at most, and each exit linked once at most.
use Rattle.std.specs.Prelude.{◌≡◌, ℕ, ◌+◌, ◌*◌, ◌%◌, ◌^◌, ◌≤◌, ◌==◌, ◌&&◌, Bool, false, List, [], ◌∷◌, ◌++◌, length, sum_by, Some, if◌then◌else◌}
use Rattle.swi_image.specs.Format.{ImageData}
use Rattle.swi_image.specs.Place.{place_of, word_at}
use Rattle.swi_image.specs.Sound.{IsImage}
use Rattle.swi_rom.specs.Record.{Record, Transfer, Has, direct, indirect, target_of, ebreak, writes}
use Rattle.swi_rom.specs.Coherent.{IsExit}
use Rattle.swi_rom.specs.Service.{Setting}
use Rattle.swi_ring.specs.Fifo.{ring}
use Rattle.swi_slots.specs.Fifo.{fifo}
use Rattle.swi_cache_laws.specs.Transfers.{block_entered, after_boot}

-- the words of all blocks of an image
abbrev pub words_of : ImageData → ℕ
words_of v = sum_by length v.blocks

-- its direct exits, each as block and offset: an EBREAK, before the address that it leads to
abbrev pub is_exit : ℕ → List ℕ → Bool
is_exit w [] = false
is_exit w (x ∷ ws) = w == ebreak && x % 4 == 0

abbrev pub exits_in : ℕ → ℕ → List ℕ → List (ℕ × ℕ)
exits_in b o [] = []
exits_in b o (w ∷ ws) = if is_exit w ws then (b, o) ∷ exits_in b (o + 1) ws else exits_in b (o + 1) ws

abbrev pub exits_from : ℕ → List (List ℕ) → List (ℕ × ℕ)
exits_from b [] = []
exits_from b (ws ∷ blocks) = exits_in b 0 ws ++ exits_from (b + 1) blocks

abbrev pub exits_of : ImageData → List (ℕ × ℕ)
exits_of v = exits_from 0 v.blocks

-- how many jumps over registers enter a block, among transfers
abbrev pub register_jumps : ImageData → List Transfer → ℕ
register_jumps v [] = 0
register_jumps v (direct b o t ∷ ts) = register_jumps v ts
register_jumps v (indirect t ∷ ts) = length (block_entered (place_of v t)) + register_jumps v ts

-- A direct transfer is one of a program: it leaves a block that was entered before, by an exit of the image, to the address behind that.
abbrev pub LeavesByExit : ImageData → List ℕ → Transfer → Type 0
LeavesByExit v before (direct b o t) = Has before b × IsExit v b o × (word_at v b (o + 1) ≡ t)
LeavesByExit v before (indirect t) = Unit {0}

abbrev pub AreTransfers : ImageData → List ℕ → List Transfer → Type 0
AreTransfers v before [] = Unit {0}
AreTransfers v before (t ∷ ts) = LeavesByExit v before t × AreTransfers v (block_entered (place_of v (target_of t)) ++ before) ts

-- However many transfers were served, so many of them jumps over registers. The blocks stand in the first `extent` words.
pub record HasRoom (v : ImageData) (extent registers : ℕ) (r : Record) : Type 0 where
  pub evictions : r.counts.evictions ≡ 0
  pub unlinks : r.counts.unlinks ≡ 0
  pub misses : r.counts.misses ≤ length v.blocks
  pub links : r.counts.links ≤ length (exits_of v)
  pub writes : writes r ≤ words_of v + length (exits_of v)
  -- where a JAL reaches from each of these words to each, all other services make a link
  pub services : extent ≤ 2 ^ 18 → r.counts.services ≡ r.counts.links + registers

-- slots for all blocks
abbrev pub RoomInSlots : Type 0
RoomInSlots = (by : Setting) (v : ImageData) → IsImage v → length v.blocks ≤ by.slots → v.block_words ≤ by.slot_words →
    (boot : ℕ) (place : ℕ × ℕ) (ts : List Transfer) → place_of v boot ≡ Some place → AreTransfers v (place.0 ∷ []) ts →
    HasRoom v (length v.blocks * by.slot_words) (register_jumps v ts) (after_boot (fifo by) v boot ts)

-- a ring of the words of all blocks
abbrev pub RoomInRing : Type 0
RoomInRing = (by : Setting) (v : ImageData) → IsImage v → words_of v ≤ by.slot_words →
    (boot : ℕ) (place : ℕ × ℕ) (ts : List Transfer) → place_of v boot ≡ Some place → AreTransfers v (place.0 ∷ []) ts →
    HasRoom v (words_of v) (register_jumps v ts) (after_boot (ring by) v boot ts)
