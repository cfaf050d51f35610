-- What the parts of a call do to the slots and to the ram.
use Rattle.std.specs.Prelude.{◌≡◌, ℕ, suc, zero, ◌+◌, ◌*◌, ◌/◌, ◌<◌, ◌≤◌, ◌==◌, ◌&&◌, ◌||◌, Bool, true, false, not, List, length, slice_index, slice_set, if◌then◌else◌, min}
use Rattle.swi_image.specs.Format.{ImageData}
use Rattle.swi_image.specs.Place.{word_at, length_at}
use Rattle.swi_outside.specs.CacheRam.{RamState}
use Rattle.swi_rom.specs.Record.{ebreak, IsJump, reaches}
use Rattle.swi_rom.specs.Policy.{more_service}
use Rattle.swi_rom.specs.Writing.{Wrote, Copied}
use Rattle.swi_slots.specs.Table.{NotAmong}
use Rattle.swi_slots.specs.Slots.{Slots}
use Rattle.swi_slots.specs.Keys.{key_of}

-- word i is a link into the slot from another slot
abbrev pub leads_in : ℕ → ℕ → List ℕ → ℕ → Bool
leads_in size slot targets i = slice_index targets i == slot && not (i / size == slot)

-- word i is a link into the slot, or it belongs to the slot
abbrev pub is_dropped : ℕ → ℕ → List ℕ → ℕ → Bool
is_dropped size slot targets i = slice_index targets i == slot || i / size == slot

-- how many of the first n words are links into the slot from another slot
unfoldable pub leading_in : ℕ → ℕ → List ℕ → ℕ → ℕ
leading_in size slot targets zero = 0
leading_in size slot targets (suc n) = if leads_in size slot targets n then leading_in size slot targets n + 1 else leading_in size slot targets n

-- of the first n words, the links from and to the slot are dropped, and those of other slots are undone
pub record Cleared (slots size slot n : ℕ) (old new : List ℕ) (before after : RamState) : Type 0 where
  pub length_stays : length new ≡ length old
  pub dropped : (i : ℕ) → i < n → slice_index new i ≡ (if is_dropped size slot old i then slots else slice_index old i)
  pub rest : (i : ℕ) → n ≤ i → slice_index new i ≡ slice_index old i
  pub undone : (i : ℕ) → i < n → slice_index after.words i ≡ (if leads_in size slot old i then ebreak else slice_index before.words i)
  pub beyond : (i : ℕ) → n ≤ i → slice_index after.words i ≡ slice_index before.words i
  pub wrote : Wrote (slots * size) (leading_in size slot old n) before after

abbrev pub wrapped : ℕ → ℕ → ℕ
wrapped n slots = if n == slots then 0 else n

-- one more slot is filled, or the next one is emptied
pub record MadeRoom (s t : Slots) (before after : RamState) : Type 0 where
  pub free : s.filled < s.slots → (t ≡ s) × (after ≡ before)
  pub full : s.slots ≤ s.filled → Cleared s.slots s.size s.next (s.slots * s.size) s.targets t.targets before after
      × (t ≡ record s {
        targets = t.targets;
        counts = record s.counts {
          evictions = s.counts.evictions + 1;
          unlinks = s.counts.unlinks + leading_in s.size s.next s.targets (s.slots * s.size);
        };
      })

-- the block with a key and a length has taken the next slot
abbrev pub settled : Slots → ℕ → ℕ → Slots
settled s b n = record s {
  next = wrapped (s.next + 1) s.slots;
  filled = min (s.filled + 1) s.slots;
  blocks = slice_set s.blocks s.next b;
  lengths = slice_set s.lengths s.next n;
  counts = record s.counts { misses = s.counts.misses + 1; copied = s.counts.copied + n };
}

-- the word at an index has been made a link to an index in a slot
pub record Linked (s t : Slots) (at slot to : ℕ) (before after : RamState) : Type 0 where
  pub slots_are : t ≡ record s { targets = slice_set s.targets at slot; counts = record s.counts { links = s.counts.links + 1 } }
  pub jumps : IsJump at to (slice_index after.words at)
  pub others : (i : ℕ) → (i ≡ at → ⊥) → slice_index after.words i ≡ slice_index before.words i
  pub wrote : Wrote (s.slots * s.size) 1 before after

abbrev pub counted_slots : Slots → Slots
counted_slots s = record s { counts = record s.counts { services = s.counts.services + more_service s.filled } }

-- a block that stood nowhere has been copied into the next slot
pub record Filled (v : ImageData) (s : Slots) (b : ℕ) (t : Slots) (before after : RamState) : Type 0 where
  pub room : Slots
  pub between : RamState
  pub made_room : MadeRoom s room before between
  pub copied : Copied (word_at v b) (room.next * room.size) (length_at v b) between after
  pub settles : t ≡ settled room (key_of s.turn b) (length_at v b)

-- no slot has the block with a key
abbrev pub IsAbsent : Slots → ℕ → Type 0
IsAbsent s b = NotAmong s.filled s.blocks b

-- the links of a slot stand within its block's length
abbrev pub LinksInside : Slots → ℕ → Type 0
LinksInside s n = (o : ℕ) → slice_index s.lengths n ≤ o → o < s.size → s.slots ≤ slice_index s.targets (n * s.size + o)

-- the word at an index has been made a link, or it hasn't and nothing has changed
pub record MaybeLinked (s t : Slots) (links : Bool) (at slot to : ℕ) (before after : RamState) : Type 0 where
  pub yes : links ≡ true → Linked s t at slot to before after
  pub no : links ≡ false → (t ≡ s) × (after ≡ before)

-- the exit's block still stands in its slot, and a JAL reaches
abbrev pub can_link : Slots → ℕ → ℕ → ℕ → Bool
can_link s at home to = (slice_index s.blocks (at / s.size) == home) && reaches at to
