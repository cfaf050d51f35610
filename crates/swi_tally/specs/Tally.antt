-- A cache without a ram as plain data, and what it keeps.
use Rattle.std.specs.Prelude.{◌≡◌, ℕ, zero, suc, ◌+◌, ◌-◌, ◌*◌, ◌^◌, ◌<◌, ◌≤◌, ◌⊎◌, Bool, true, false, List, [], ◌∷◌, ◌++◌, map, length, replicate, slice_index, slice_index_or, slice_set, nat_lt, if◌then◌else◌}
use Rattle.swi_image.specs.Format.{ImageData}
use Rattle.swi_rom.specs.Record.{Record, Placement, Transfer}
use Rattle.swi_rom.specs.Service.{Setting}
use Rattle.swi_image.specs.Sound.{IsImage}
use Rattle.swi_rom.specs.Policy.{Arrival, evicted, linked, more_service, with_link}
use Rattle.swi_rom.specs.declared.rom.Counts.{Counts}
use Rattle.swi_links.specs.Chains.{Has, Distinct}
use Rattle.swi_slots.specs.Fifo as slots
use Rattle.swi_slots.specs.Homes.{nowhere}
use Rattle.swi_ring.specs.Fifo as ring
use Rattle.swi_ring.specs.Ring.{behind, queue_of}
use Rattle.swi_tally.specs.declared.tally.Placing.{Placing}
use Rattle.swi_tally.specs.declared.tally.Placing.TheVariants.{Slots, Ring}
use Rattle.swi_tally.specs.Masks.{has_at}
use Rattle.swi_tally.specs.Exits.{ExitsData, AreExits, links_of}

pub record TallyData : Type 0 where
  -- how blocks are placed: in how many slots, of how many words each; a ring is one slot
  pub placing : Placing
  pub slots : ℕ
  pub slot_words : ℕ
  -- of a ring the word behind the block that was placed last
  pub next : ℕ
  -- the placed blocks, the oldest first
  pub queue : List ℕ
  -- of each block its first word; of one that isn't placed nowhere
  pub homes : List ℕ
  -- of each block whether a block that came later may have a link into it
  pub led : List Bool
  -- how many blocks the queue has room for
  pub room : ℕ
  pub counts : Counts

abbrev pub span : TallyData → ℕ
span s = s.slots * s.slot_words

abbrev pub setting_of : TallyData → Setting
setting_of s = record { slots = s.slots; slot_words = s.slot_words; programs = 1 }

abbrev pub more_of : Placing → ℕ → List ℕ
more_of Slots next = []
more_of Ring next = behind next

-- what it keeps, with these exits linked
abbrev pub kept_by : ExitsData → (ℕ → Bool) → TallyData → Record
kept_by e linked s = record { turn = 0; placed = queue_of s.homes s.queue; links = links_of e linked; counts = s.counts; more = more_of s.placing s.next }

-- the policy by which that goes on
abbrev pub policy_of : Placing → Setting → Record → ImageData → Transfer → Record
policy_of Slots = slots.fifo
policy_of Ring = ring.ring

abbrev pub arrival_of : Placing → Arrival
arrival_of Slots = slots.arrived
arrival_of Ring = ring.arrived

-- the one block came before the other, and both stand
abbrev pub Before : List ℕ → ℕ → ℕ → Type 0
Before [] a b = ⊥
Before (q ∷ qs) a b = ((q ≡ a) × Has qs b) ⊎ Before qs a b

-- it came before, or what is kept of the other says that it may have come later
abbrev pub Leads : TallyData → ℕ → ℕ → Type 0
Leads s a b = Before s.queue a b ⊎ (Has s.queue b × (slice_index_or s.led b true ≡ true))

-- so it is of each other block that stands
abbrev pub AreLeading : TallyData → ℕ → Type 0
AreLeading s b = (a : ℕ) → Has s.queue a → (a ≡ b → ⊥) → Leads s a b

-- the numbers keep their shape
pub record InShape (s : TallyData) : Type 0 where
  pub some_slot : 1 ≤ s.slots
  pub words_few : s.slots * s.slot_words ≤ 2 ^ 21
  pub words_most : s.slot_words ≤ 2 ^ 21
  pub next_most : s.next ≤ span s
  pub few : length s.homes ≤ 2 ^ 19
  pub led_long : length s.led ≡ length s.homes
  pub room_is : s.room ≡ length s.homes
  -- no block stands twice, and those that stand are placed
  pub distinct : Distinct s.queue
  pub known : (b : ℕ) → Has s.queue b → b < length s.homes
  pub placed : (b : ℕ) → Has s.queue b → slice_index s.homes b < span s
  pub absent : (b : ℕ) → b < length s.homes → (Has s.queue b → ⊥) → slice_index s.homes b ≡ nowhere

-- the counts are bounded by the services, and no link leads into a block from a later one but where that is kept of it
pub record Bounded (e : ExitsData) (linked : ℕ → Bool) (s : TallyData) : Type 0 where
  pub misses : s.counts.misses ≤ s.counts.services + 1
  pub links : s.counts.links ≤ s.counts.services + 1
  pub evictions : s.counts.evictions + length s.queue ≡ s.counts.misses
  pub copied : s.counts.copied ≤ 1024 * s.counts.misses
  pub undone : s.counts.unlinks + length (links_of e linked) ≤ s.counts.links
  pub led : (x : ℕ) → x < length e.from → linked x ≡ true → (slice_index e.from x ≡ slice_index e.into x → ⊥) → Leads s (slice_index e.from x) (slice_index e.into x)

-- the oldest block has left, but for the links that it had
abbrev pub without_oldest : TallyData → ℕ → List ℕ → TallyData
without_oldest s b rest = record s {
  queue = rest;
  homes = slice_set s.homes b nowhere;
  counts = record s.counts { evictions = s.counts.evictions + 1 };
}

-- a block stands from a word on, in so many words; none came later
abbrev pub settled : TallyData → ℕ → ℕ → ℕ → TallyData
settled s b first n = record s {
  next = first + n;
  queue = s.queue ++ b ∷ [];
  homes = slice_set s.homes b first;
  led = slice_set s.led b false;
  counts = record s.counts { misses = s.counts.misses + 1; copied = s.counts.copied + n };
}

-- one more service, but for the boot
abbrev pub counted_tally : TallyData → TallyData
counted_tally s = record s { counts = record s.counts { services = s.counts.services + more_service (length s.queue) } }

-- where all slots are taken, the oldest block leaves
abbrev pub freed : Setting → Record → Record
freed by r = if nat_lt (length r.placed) by.slots then r else evicted r r.placed

-- nothing else has changed but what stands, what is linked and what is counted; the links of other caches stay
pub record Moved (e : ExitsData) (cache : ℕ) (s t : TallyData) (old new : List ℕ) : Type 0 where
  pub placing : t.placing ≡ s.placing
  pub slots : t.slots ≡ s.slots
  pub slot_words : t.slot_words ≡ s.slot_words
  pub homes : length t.homes ≡ length s.homes
  pub masks : length new ≡ length old
  pub others : (d x : ℕ) → d < 64 → (d ≡ cache → ⊥) → x < length e.from → has_at new d x ≡ has_at old d x
  pub shape : InShape t
  pub bounded : Bounded e (has_at new cache) t

-- it may serve the image, with these exits, as this one of the caches in these sets
pub record Stands (v : ImageData) (e : ExitsData) (cache : ℕ) (masks : List ℕ) (s : TallyData) : Type 0 where
  pub image : IsImage v
  pub are : AreExits e
  pub blocks : length v.starts ≡ e.blocks
  pub homes : e.blocks ≡ length s.homes
  pub masks_long : length masks ≡ length e.from
  pub cache_below : cache < 64
  pub words : v.block_words ≤ s.slot_words
  pub shape : InShape s
  pub bounded : Bounded e (has_at masks cache) s

-- some of the oldest blocks have left
pub record Receded (s t : TallyData) : Type 0 where
  pub services : t.counts.services ≡ s.counts.services
  pub misses : t.counts.misses ≡ s.counts.misses
  pub links : t.counts.links ≡ s.counts.links
  pub next : t.next ≡ s.next
  pub fewer : (x : ℕ) → Has t.queue x → Has s.queue x

-- a block has come to stand, by the policy
pub record Arrives (v : ImageData) (e : ExitsData) (cache b : ℕ) (s t : TallyData) (old new : List ℕ) : Type 0 where
  pub kept : kept_by e (has_at new cache) t ≡ arrival_of s.placing (setting_of s) v (kept_by e (has_at old cache) s) b
  pub moved : Moved e cache s t old new
  pub stands : Stands v e cache new t
  pub here : Has t.queue b
  pub services : t.counts.services ≡ s.counts.services
  pub links : t.counts.links ≡ s.counts.links

-- it may serve the image, where a ring is one slot; and before a block has stood nothing is counted
pub record Serves (v : ImageData) (e : ExitsData) (cache : ℕ) (masks : List ℕ) (s : TallyData) : Type 0 where
  pub stands : Stands v e cache masks s
  pub one : s.placing ≡ Ring → s.slots ≡ 1
  pub unmissed : s.queue ≡ [] → s.counts.misses ≡ 0
  pub unlinked : s.queue ≡ [] → s.counts.links ≡ 0

-- of each of n blocks the caches in which it stands: of one cache these are the blocks that stand in it
pub record AreMarked (n cache : ℕ) (queue placed : List ℕ) : Type 0 where
  pub long : length placed ≡ n
  pub stand : (b : ℕ) → b < n → has_at placed cache b ≡ true → Has queue b
  pub marked : (b : ℕ) → b < n → Has queue b → has_at placed cache b ≡ true

-- they are so of one cache, and as before of the others
pub record Marks (n cache : ℕ) (queue old new : List ℕ) : Type 0 where
  pub are : AreMarked n cache queue new
  pub others : (d b : ℕ) → d < 64 → (d ≡ cache → ⊥) → b < n → has_at new d b ≡ has_at old d b

-- an exit has become a link where the policy says so; the same blocks stand
pub record Links (e : ExitsData) (cache x : ℕ) (s t : TallyData) (old new : List ℕ) : Type 0 where
  pub kept : kept_by e (has_at new cache) t ≡ linked with_link (kept_by e (has_at old cache) s) (slice_index e.from x) (slice_index e.offsets x)
      (slice_index e.into x, slice_index e.ats x)
  pub moved : Moved e cache s t old new
  pub queue : t.queue ≡ s.queue
  pub services : t.counts.services ≡ s.counts.services

-- a cache in which nothing stands and nothing was counted, of so many slots of so many words, for so many blocks
abbrev pub empty_tally : Placing → ℕ → ℕ → ℕ → TallyData
empty_tally placing slots slot_words blocks = record {
  placing = placing;
  slots = slots;
  slot_words = slot_words;
  next = 0;
  queue = [];
  homes = replicate blocks nowhere;
  led = replicate blocks false;
  room = blocks;
  counts = record { services = 0; misses = 0; evictions = 0; links = 0; unlinks = 0; copied = 0 };
}
