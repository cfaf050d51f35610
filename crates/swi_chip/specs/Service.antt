-- What a service on a chip stands for: a service with slots of one program, its image, and the words of its ram.
use Rattle.std.specs.Prelude.{◌≡◌, ◌⊎◌, ℕ, ◌+◌, ◌-◌, ◌*◌, ◌%◌, ◌/◌, ◌^◌, ◌<◌, ◌≤◌, ◌==◌, ◌&&◌, Bool, true, false, List, length, slice_index, slice_set, Option, Some, None, nat_lt, if◌then◌else◌}
use Rattle.swi_image.specs.Format.{ImageData}
use Rattle.swi_image.specs.Checks.{block_of}
use Rattle.swi_image.specs.Place.{length_at, place_of}
use Rattle.swi_outside.specs.CacheRam.{RamState}
use Rattle.swi_rom.specs.Coherent.{ExitAt, TargetAt}
use Rattle.swi_rom.specs.Policy.{counted}
use Rattle.swi_rom.specs.Record.{IsJump, Placed, Transfer, direct, ebreak, exit_among, indirect, target_of}
use Rattle.swi_rom.specs.declared.rom.Counts.{Counts}
use Rattle.swi_slots.specs.Arrived.{Arrived}
use Rattle.swi_slots.specs.Fifo.{arrived}
use Rattle.swi_slots.specs.Keys.{Images, key_of}
use Rattle.swi_slots.specs.Slots.{Slots, kept_by, links_of, setting_of}
use Rattle.swi_slots.specs.Sound.{SlotsServe}
use Rattle.swi_slots.specs.Steps.{IsAbsent, can_link, counted_slots}
use Rattle.swi_chip.specs.declared.chip.Chip.{Chip}
use Rattle.swi_chip.specs.declared.chip.ChipCounts.{ChipCounts}
use Rattle.swi_chip.specs.Bounded.{fifo_few, is_refused}
use Rattle.swi_chip.specs.Held.{Holds, RowsHold}
use Rattle.swi_chip.specs.Sizes.{IsInverse}
use Rattle.swi_chip.specs.Undone.{begin_in}

-- counts of 32 bits, which begin anew behind the last
pub record CountsBy (model : Counts) (chip : ChipCounts) : Type 0 where
  pub services : chip.services ≡ model.services % 2 ^ 32
  pub misses : chip.misses ≡ model.misses % 2 ^ 32
  pub evictions : chip.evictions ≡ model.evictions % 2 ^ 32
  pub links : chip.links ≡ model.links % 2 ^ 32
  pub unlinks : chip.unlinks ≡ model.unlinks % 2 ^ 32
  pub copied : chip.copied ≡ model.copied % 2 ^ 32

-- The mark of a block is the index of its first word, plus 1; 0 where it stands in no slot.
pub record KnowsMarks (s : Slots) (marks : List ℕ) : Type 0 where
  pub found : (b : ℕ) → b < length marks → (slice_index marks b ≡ 0 → ⊥) → (n : ℕ) × (n < s.filled) × (slice_index s.blocks n ≡ b) × (slice_index marks b ≡ n * s.size + 1)
  pub known : (n : ℕ) → n < s.filled → (slice_index s.blocks n < length marks) × (slice_index marks (slice_index s.blocks n) ≡ n * s.size + 1)

-- the tables are those of the program's image
pub record HasTables (v : ImageData) (base : ℕ) (places ends : List ℕ) : Type 0 where
  pub base_is : base ≡ v.base
  pub places_long : length places ≡ length v.offsets
  pub places_are : (k : ℕ) → k < length places → slice_index places k ≡ block_of v.starts k * 2 ^ 13 + slice_index v.offsets k
  pub ends_long : length ends ≡ length v.blocks
  pub ends_are : (b : ℕ) → b < length ends → slice_index ends b ≡ begin_in ends b + length_at v b

-- numbers that are reckoned once: of so many words of the cache, of a slot and of the text
pub record HasNumbers (cells size texts inverse text_bytes cache_at cache_bytes memo : ℕ) : Type 0 where
  pub inverse_is : IsInverse size inverse
  pub text_is : text_bytes ≡ 4 * texts
  pub bytes_are : cache_bytes ≡ 4 * cells
  -- the cache's words have addresses
  pub aligned : cache_at % 4 ≡ 0
  pub room : cache_at + 4 * cells ≤ 2 ^ 32
  pub memo_long : memo ≡ 17

-- the chip stands for a service of one program that serves its image over these words of a ram
pub record StandsFor (s : Slots) (vs : Images) (ram : List ℕ) (lists : List (List ℕ)) (c : Chip) : Type 0 where
  pub serves : SlotsServe s vs ram
  pub holds : Holds s ram c.cache.now c.heads.now c.links.now c.blocks.now lists
  pub rows : RowsHold vs c.ends.now c.words.now
  pub tables : HasTables (vs s.turn) c.base c.places.now c.ends.now
  pub one : s.programs ≡ 1
  pub slots_are : c.slots ≡ s.slots
  pub size_is : c.size.words ≡ s.size
  pub next_is : c.next ≡ s.next
  pub filled_is : c.filled ≡ s.filled
  -- the cache is just the slots' words
  pub cache_long : length c.cache.now ≡ s.slots * s.size
  pub marks : KnowsMarks s c.marks.now
  pub marks_long : length c.marks.now ≡ length (vs s.turn).blocks
  pub counts : CountsBy s.counts c.counts
  pub starts_are : c.starts.now ≡ (vs s.turn).starts
  pub numbers : HasNumbers (s.slots * s.size) c.size.words (length c.places.now) c.size.inverse c.text_bytes c.cache_at c.cache_bytes (length c.memo.now)

-- the chip stands for some service
pub record IsSome (c : Chip) : Type 0 where
  pub s : Slots
  pub vs : Images
  pub ram : List ℕ
  pub lists : List (List ℕ)
  pub stands : StandsFor s vs ram lists c

-- The block stands in the ram, and its service is counted, as the model's own arrival leaves it; the mark is that of its slot.
pub record HasArrived (s : Slots) (vs : Images) (ram : List ℕ) (block mark : ℕ) (c : Chip) : Type 0 where
  pub next : Slots
  pub words : List ℕ
  pub lists : List (List ℕ)
  pub slot : ℕ
  pub stands : StandsFor next vs words lists c
  pub mark_is : mark ≡ slot * s.size + 1
  pub arrived : (before : RamState) → before.words ≡ ram → (after : RamState) × (after.words ≡ words) × Arrived vs s block slot next before after

-- the service is counted, and the block, one of the image's, stands in no slot
pub record ToFill (s : Slots) (vs : Images) (ram : List ℕ) (lists : List (List ℕ)) (block : ℕ) (c : Chip) : Type 0 where
  pub serves : SlotsServe s vs ram
  pub stands : StandsFor (counted_slots s) vs ram lists c
  pub known : block < length (vs s.turn).blocks
  pub absent : IsAbsent s (key_of s.turn block)

-- a block can fill a slot; an exit stands at an index
pub record CanFill (c : Chip) (block : ℕ) : Type 0 where
  pub s : Slots
  pub vs : Images
  pub ram : List ℕ
  pub lists : List (List ℕ)
  pub to : ToFill s vs ram lists block c

pub record CanCross (c : Chip) (at target : ℕ) : Type 0 where
  pub some : IsSome c
  pub exit : ExitAt (some.vs some.s.turn) (kept_by some.s) at target

-- An exit of a block stands at an index, and a word of a slot is its target. Where the block still stands there, the exit is no link.
pub record ToLinkExit (t : Slots) (vs : Images) (words : List ℕ) (lists : List (List ℕ)) (at home slot to : ℕ) (c : Chip) : Type 0 where
  pub stands : StandsFor t vs words lists c
  pub behind : at + 1 < t.slots * t.size
  pub row : at / t.size < t.filled
  pub low : slot < t.slots
  pub target : to < t.slots * t.size
  pub in_slot : to / t.size ≡ slot
  pub exit : slice_index t.blocks (at / t.size) ≡ home → (slice_index words at ≡ ebreak) × (t.slots ≤ slice_index t.targets at)

pub record CanLinkExit (c : Chip) (at home slot to : ℕ) : Type 0 where
  pub t : Slots
  pub vs : Images
  pub words : List ℕ
  pub lists : List (List ℕ)
  pub k : ToLinkExit t vs words lists at home slot to c

-- the same, and the block still stands there
pub record CanLinkHere (c : Chip) (at slot to : ℕ) : Type 0 where
  pub t : Slots
  pub vs : Images
  pub words : List ℕ
  pub lists : List (List ℕ)
  pub home : ℕ
  pub k : ToLinkExit t vs words lists at home slot to c
  pub here : slice_index c.blocks.now (at / c.size.words) ≡ home

-- the model's slots with the word linked to the slot
abbrev pub linked_to : Slots → ℕ → ℕ → Slots
linked_to t at slot = record t { targets = slice_set t.targets at slot; counts = record t.counts { links = t.counts.links + 1 } }

-- The model's ram has a jump there, and where its service serves the images so, the chip stands for it.
pub record LinkedStands (t : Slots) (vs : Images) (words : List ℕ) (at slot to : ℕ) (c : Chip) : Type 0 where
  pub word : ℕ
  pub jumps : IsJump at to word
  pub lists : List (List ℕ)
  pub stands : SlotsServe (linked_to t at slot) vs (slice_set words at word) → StandsFor (linked_to t at slot) vs (slice_set words at word) lists c

-- the bound stays, and what it refuses is counted
pub record CountsRefused (refuses : Bool) (old new : Chip) : Type 0 where
  pub most : new.most ≡ old.most
  pub refused : new.counts.refused ≡ (if refuses then (old.counts.refused + 1) % 2 ^ 32 else old.counts.refused)

-- The exit's block is gone, and nothing has changed; or it has become a link; or as many lead into the slot as may, and only that is counted.
abbrev pub LinkedExit : Slots → Images → List ℕ → List (List ℕ) → ℕ → ℕ → ℕ → ℕ → Chip → Chip → Type 0
LinkedExit t vs words lists at home slot to old c =
    ((can_link t at home to ≡ false) × StandsFor t vs words lists c × CountsRefused false old c)
    ⊎ (((can_link t at home to ≡ true) × (slice_index old.links.now slot < old.most) × LinkedStands t vs words at slot to c × CountsRefused false old c)
    ⊎ ((can_link t at home to ≡ true) × (old.most ≤ slice_index old.links.now slot) × StandsFor t vs words lists c × CountsRefused true old c))

-- the reasons for which a call answers no address, which is a multiple of 4
abbrev pub no_text : ℕ
no_text = 1

abbrev pub again : ℕ
again = 2

abbrev pub damaged : ℕ
damaged = 3

abbrev pub misaligned : ℕ
misaligned = 5

-- the address of a word of the cache
abbrev pub address_of : Chip → ℕ → ℕ
address_of c i = c.cache_at + 4 * i

-- how far an address lies behind that of the cache's first word
abbrev pub far_in : Chip → ℕ → ℕ
far_in c pc = (pc + (2 ^ 32 - c.cache_at)) % 2 ^ 32

-- the answer: the address of the target's place; `no_text` where the target has none, and then nothing has changed
abbrev pub AnswersAt : Option (ℕ × ℕ) → Slots → Slots → ImageData → Chip → ℕ → ℕ → Type 0
AnswersAt None s next v c target answer = (answer ≡ no_text) × (next ≡ s)
AnswersAt (Some p) s next v c target answer = (i : ℕ) × (answer ≡ address_of c i) × TargetAt v (kept_by next) target i

-- the service has served a transfer by its policy
pub record ChipServed (s : Slots) (vs : Images) (t : Transfer) (answer : ℕ) (old c : Chip) : Type 0 where
  pub next : Slots
  pub words : List ℕ
  pub lists : List (List ℕ)
  pub stands : StandsFor next vs words lists c
  pub setting : setting_of next ≡ setting_of s
  pub moves : kept_by next ≡ fifo_few old.most (setting_of s) (kept_by s) (vs s.turn) t
  pub bound : CountsRefused (is_refused old.most (setting_of s) (kept_by s) (vs s.turn) t) old c
  pub answers : AnswersAt (place_of (vs s.turn) (target_of t)) s next (vs s.turn) c (target_of t) answer

-- what the caller has set stays
pub record StaysPut (old new : Chip) : Type 0 where
  pub cache_at : new.cache_at ≡ old.cache_at
  pub most : new.most ≡ old.most

-- how many links one call undoes before the caller may let an interrupt in
abbrev pub portion : ℕ
portion = 8

-- the slot that is filled next has a block, and more links than that lead into it
abbrev pub is_crowded : Chip → Bool
is_crowded c = (c.filled == c.slots) && nat_lt portion (slice_index c.links.now c.next)

-- a transfer to a place waits where its block stands in no slot, and the next one is crowded
abbrev pub must_wait : Chip → Option (ℕ × ℕ) → Bool
must_wait c None = false
must_wait c (Some p) = (slice_index c.marks.now p.0 == 0) && is_crowded c

-- a service with other links, and so many undone in all
abbrev pub with_links : Slots → List ℕ → ℕ → Slots
with_links s targets unlinks = record s { targets = targets; counts = record s.counts { unlinks = unlinks } }

-- So many links into the slot that is filled next were undone: the chip stands for the same service without them, and a block that stands
-- in no slot arrives as it would have before.
pub record HasFewer (k : ℕ) (s : Slots) (vs : Images) (old new : Chip) : Type 0 where
  pub targets : List ℕ
  pub unlinks : ℕ
  pub words : List ℕ
  pub lists : List (List ℕ)
  pub stands : StandsFor (with_links s targets unlinks) vs words lists new
  pub arrives : (v : ImageData) (b : ℕ) → IsAbsent s (key_of s.turn b) → arrived (setting_of s) v (counted (kept_by (with_links s targets unlinks))) b ≡ arrived (setting_of s) v (counted (kept_by s)) b
  pub among : (p b o : ℕ) → exit_among (links_of (with_links s targets unlinks)) p b o ≡ true → exit_among (links_of s) p b o ≡ true
  pub fewer : slice_index new.links.now new.next + k ≡ slice_index old.links.now old.next

-- A portion of links was undone: the chip stands for the same service without them, and the transfer comes to the same by its policy.
pub record ChipWaits (s : Slots) (vs : Images) (t : Transfer) (old new : Chip) : Type 0 where
  pub targets : List ℕ
  pub unlinks : ℕ
  pub words : List ℕ
  pub lists : List (List ℕ)
  pub stands : StandsFor (with_links s targets unlinks) vs words lists new
  pub moves : fifo_few old.most (setting_of s) (kept_by (with_links s targets unlinks)) (vs s.turn) t ≡ fifo_few old.most (setting_of s) (kept_by s) (vs s.turn) t
  pub refuses : is_refused old.most (setting_of s) (kept_by (with_links s targets unlinks)) (vs s.turn) t ≡ is_refused old.most (setting_of s) (kept_by s) (vs s.turn) t
  -- the links are some of those that were
  pub among : (p b o : ℕ) → exit_among (links_of (with_links s targets unlinks)) p b o ≡ true → exit_among (links_of s) p b o ≡ true
  pub fewer : slice_index new.links.now new.next + portion ≡ slice_index old.links.now old.next
  pub bound : CountsRefused false old new
  pub cache_at : new.cache_at ≡ old.cache_at

-- the call is to be made again, or the transfer was served
pub record Called (s : Slots) (vs : Images) (t : Transfer) (old new : Chip) (answer : ℕ) : Type 0 where
  pub waits : must_wait old (place_of (vs s.turn) (target_of t)) ≡ true → (answer ≡ again) × ChipWaits s vs t old new
  pub serves : must_wait old (place_of (vs s.turn) (target_of t)) ≡ false → ChipServed s vs t answer old new

-- `enter` and `cross`, for whatever service the chip stands for
abbrev pub Enters : Chip → Chip → ℕ → ℕ → Type 0
Enters old new target answer = (s : Slots) (vs : Images) (ram : List ℕ) (lists : List (List ℕ)) → StandsFor s vs ram lists old → Called s vs (indirect target) old new answer

abbrev pub Crosses : Chip → Chip → ℕ → ℕ → ℕ → Type 0
Crosses old new at target answer = (s : Slots) (vs : Images) (ram : List ℕ) (lists : List (List ℕ)) → StandsFor s vs ram lists old → ExitAt (vs s.turn) (kept_by s) at target →
    (b o f : ℕ) → Placed (kept_by s) b f → o < length_at (vs s.turn) b → at ≡ f + o → Called s vs (direct b o target) old new answer

-- the same, where the target's block, with an offset, stands in no slot
pub record CanEnterNew (c : Chip) (block offset : ℕ) : Type 0 where
  pub some : IsSome c
  pub target : ℕ
  pub is : place_of (some.vs some.s.turn) target ≡ Some (block, offset)
  pub absent : slice_index c.marks.now block ≡ 0

pub record CanCrossNew (c : Chip) (at block offset : ℕ) : Type 0 where
  pub some : IsSome c
  pub target : ℕ
  pub is : place_of (some.vs some.s.turn) target ≡ Some (block, offset)
  pub absent : slice_index c.marks.now block ≡ 0
  pub exit : ExitAt (some.vs some.s.turn) (kept_by some.s) at target

abbrev pub EntersNew : Chip → Chip → ℕ → ℕ → ℕ → Type 0
EntersNew old new block offset answer = (s : Slots) (vs : Images) (ram : List ℕ) (lists : List (List ℕ)) → StandsFor s vs ram lists old → (target : ℕ) → place_of (vs s.turn) target ≡ Some (block, offset) → slice_index old.marks.now block ≡ 0 → Called s vs (indirect target) old new answer

abbrev pub CrossesNew : Chip → Chip → ℕ → ℕ → ℕ → ℕ → Type 0
CrossesNew old new at block offset answer = (s : Slots) (vs : Images) (ram : List ℕ) (lists : List (List ℕ)) → StandsFor s vs ram lists old → (target : ℕ) → place_of (vs s.turn) target ≡ Some (block, offset) → slice_index old.marks.now block ≡ 0 → ExitAt (vs s.turn) (kept_by s) at target →
    (b o f : ℕ) → Placed (kept_by s) b f → o < length_at (vs s.turn) b → at ≡ f + o → Called s vs (direct b o target) old new answer

-- what is counted at a miss, and at a service
pub record CountedMiss (old new : ChipCounts) (evicts : Bool) (undone words : ℕ) : Type 0 where
  pub services : new.services ≡ old.services
  pub misses : new.misses ≡ (old.misses + 1) % 2 ^ 32
  pub evictions : new.evictions ≡ (if evicts then (old.evictions + 1) % 2 ^ 32 else old.evictions)
  pub links : new.links ≡ old.links
  pub unlinks : new.unlinks ≡ (if evicts then (old.unlinks + undone) % 2 ^ 32 else old.unlinks)
  pub copied : new.copied ≡ (old.copied + words) % 2 ^ 32
  pub refused : new.refused ≡ old.refused

pub record CountedService (old new : ChipCounts) (filled : ℕ) : Type 0 where
  pub services : new.services ≡ (if nat_lt 0 filled then (old.services + 1) % 2 ^ 32 else old.services)
  pub misses : new.misses ≡ old.misses
  pub evictions : new.evictions ≡ old.evictions
  pub links : new.links ≡ old.links
  pub unlinks : new.unlinks ≡ old.unlinks
  pub copied : new.copied ≡ old.copied
  pub refused : new.refused ≡ old.refused

-- links into the slot that is filled next can be undone
pub record CanUndo (c : Chip) : Type 0 where
  pub some : IsSome c
  pub full : c.filled ≡ c.slots
  pub linked : 0 < slice_index c.links.now c.next

pub record CanWait (c : Chip) : Type 0 where
  pub some : IsSome c
  pub crowded : is_crowded c ≡ true

-- so many were, whatever service the chip stands for
abbrev pub Undoes : ℕ → Chip → Chip → Type 0
Undoes k old new = (s : Slots) (vs : Images) (ram : List ℕ) (lists : List (List ℕ)) → StandsFor s vs ram lists old → HasFewer k s vs old new

-- what is counted at a link that is undone, where it counts
pub record CountedUndone (old new : ChipCounts) (counts : Bool) : Type 0 where
  pub services : new.services ≡ old.services
  pub misses : new.misses ≡ old.misses
  pub evictions : new.evictions ≡ old.evictions
  pub links : new.links ≡ old.links
  pub unlinks : new.unlinks ≡ (if counts then (old.unlinks + 1) % 2 ^ 32 else old.unlinks)
  pub copied : new.copied ≡ old.copied
  pub refused : new.refused ≡ old.refused

-- the exit at an address of the cache
pub record CanExit (c : Chip) (pc target : ℕ) : Type 0 where
  pub some : IsSome c
  pub exit : far_in c pc < c.cache_bytes → ExitAt (some.vs some.s.turn) (kept_by some.s) (far_in c pc / 4) target

-- `exit`: as `cross`, at an address of the cache
abbrev pub Exits : Chip → Chip → ℕ → ℕ → ℕ → Type 0
Exits old new pc target answer = (far_in old pc < old.cache_bytes → Crosses old new (far_in old pc / 4) target answer) × (old.cache_bytes ≤ far_in old pc → (answer ≡ damaged) × (new ≡ old))
