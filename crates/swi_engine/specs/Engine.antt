-- A service beside which an engine copies blocks ahead: what a transfer and what an event of the engine do to the record.
use Rattle.std.specs.Prelude.{◌≡◌, ◌≤◌, ℕ, zero, suc, ◌+◌, ◌-◌, ◌*◌, ◌/◌, ◌==◌, ◌&&◌, min, Bool, not, List, [], ◌∷◌, ◌++◌, length, filter, Option, Some, None, if◌then◌else◌, slice_index, nat_lt}
use Rattle.std.specs.List.{list_any}
use Rattle.swi_image.specs.Format.{ImageData}
use Rattle.swi_image.specs.Place.{word_at, length_at}
use Rattle.swi_rom.specs.Record.{Record, Placement, Link, Transfer, empty_record, same_link, ebreak, writes}
use Rattle.swi_rom.specs.Service.{Setting}
use Rattle.swi_rom.specs.Policy.{IsArrival, evicted, is_placed, is_undone, first_of, served_by, evicted_services, evicted_writes}
use Rattle.swi_engine.specs.declared.copying.Copying.{Copying}
use Rattle.std.proofs.Common.{arith, refl}

-- The further numbers of a record: the words that the engine wrote to copy, the copies that it completed, and the copy, if there is one:
-- its block, its slot, and how many of its words stand.
abbrev pub numbers : ℕ → ℕ → Option Copying → List ℕ
numbers words copies None = words ∷ copies ∷ []
numbers words copies (Some c) = words ∷ copies ∷ c.block ∷ c.slot ∷ c.done ∷ []

abbrev pub copy_in : List ℕ → Option Copying
copy_in (words ∷ copies ∷ b ∷ s ∷ d ∷ []) = Some (record { block = b; slot = s; done = d })
copy_in _ = None

abbrev pub copy_of : Record → Option Copying
copy_of r = copy_in r.more

abbrev pub engine_words : Record → ℕ
engine_words r = slice_index r.more 0

abbrev pub engine_copies : Record → ℕ
engine_copies r = slice_index r.more 1

-- nothing is placed, linked, counted or copied yet
abbrev pub empty_beside : Record
empty_beside = record empty_record { more = numbers 0 0 None }

abbrev pub dropped : Record → Record
dropped r = record r { more = numbers (engine_words r) (engine_copies r) None }

-- the words of all slots
abbrev pub span_of : Setting → ℕ
span_of by = by.slots * by.slot_words

-- how many copies are in work: one, or none
abbrev pub copies_begun : Option Copying → ℕ
copies_begun None = 0
copies_begun (Some c) = 1

-- how often a slot was taken: by each block that a service or the engine has copied, and by the copy in work
abbrev pub taken : Record → ℕ
taken r = r.counts.misses + engine_copies r + copies_begun (copy_of r)

-- the words of the slots that were ever taken, the lowest first
abbrev pub extent_of : Setting → Record → ℕ
extent_of by r = min (taken r) by.slots * by.slot_words

-- whether a placed block stands in a slot
abbrev pub is_taken : ℕ → List Placement → ℕ → Bool
is_taken size placed n = list_any (λ e. e.first == n * size) placed

-- the lowest of some slots in which none does
unfoldable pub lowest : ℕ → List Placement → ℕ → ℕ → Option ℕ
lowest size placed n zero = None
lowest size placed n (suc k) = if is_taken size placed n then lowest size placed (n + 1) k else Some n

abbrev pub free_slot : Setting → Record → Option ℕ
free_slot by r = lowest by.slot_words r.placed 0 by.slots

abbrev pub with_block : Record → ℕ → ℕ → List Placement
with_block r c first = r.placed ++ record { program = r.turn; block = c; first = first } ∷ []

-- a miss has copied so many words, and the block stands
abbrev pub brought : Record → ℕ → ℕ → ℕ → Record
brought r c first words = record r {
  placed = with_block r c first;
  counts = record r.counts { misses = r.counts.misses + 1; copied = r.counts.copied + words };
}

abbrev pub first_word : List Placement → ℕ
first_word [] = 0
first_word (e ∷ es) = e.first

-- the whole block is copied into the free slot, or into that of the oldest, which is evicted
abbrev pub into : ℕ → ImageData → Record → ℕ → Option ℕ → Record
into size v r c (Some n) = brought r c (n * size) (length_at v c)
into size v r c None = brought (evicted r r.placed) c (first_word r.placed) (length_at v c)

-- a miss writes what is missing of the engine's copy where that is of the same block, and else drops it
abbrev pub missed : Setting → ImageData → Record → ℕ → Option Copying → Record
missed by v r c None = into by.slot_words v r c (free_slot by r)
missed by v r c (Some k) =
    if k.block == c
    then brought (dropped r) c (k.slot * by.slot_words) (length_at v c - k.done)
    else into by.slot_words v (dropped r) c (free_slot by r)

-- the block stands in the ram
unfoldable pub arrived : Setting → ImageData → Record → ℕ → Record
arrived by v r c = if is_placed r c then r else missed by v r c (copy_of r)

-- the newest link stands first
abbrev pub newest_first : Link → List Link → List Link
newest_first l ls = l ∷ ls

-- the policy of transfers
abbrev pub beside : Setting → Record → ImageData → Transfer → Record
beside = served_by arrived newest_first

-- what an event of the engine does: the next record, and the word that it writes at an index of the ram
pub record Event : Type 0 where
  pub next : Record
  pub at : ℕ
  pub word : ℕ

-- the copy's next word is written; behind the last one the block stands
abbrev pub wrote_next : ℕ → ImageData → Record → Copying → Record
wrote_next size v r c =
    if c.done + 1 == length_at v c.block
    then record r { placed = with_block r c.block (c.slot * size); more = numbers (engine_words r + 1) (engine_copies r + 1) None }
    else record r { more = numbers (engine_words r + 1) (engine_copies r) (Some (record c { done = c.done + 1 })) }

abbrev pub goes_on : ℕ → ImageData → Record → Copying → Event
goes_on size v r c = record { next = wrote_next size v r c; at = c.slot * size + c.done; word = word_at v c.block c.done }

-- a copy begins, with its first word
abbrev pub begins : ℕ → ImageData → Record → ℕ → ℕ → Event
begins size v r c n = goes_on size v r (record { block = c; slot = n; done = 0 })

-- the oldest placed block other than one
abbrev pub oldest_but : ℕ → List Placement → Option Placement
oldest_but h [] = None
oldest_but h (e ∷ es) = if e.block == h then oldest_but h es else Some e

abbrev pub others : Placement → List Placement → List Placement
others e es = filter (λ f. not (f.block == e.block)) es

-- the newest link into a block from another one
abbrev pub newest_into : Placement → List Link → Option Link
newest_into e [] = None
newest_into e (l ∷ ls) = if is_undone e l then Some l else newest_into e ls

abbrev pub undone : Record → Link → Record
undone r l = record r {
  links = filter (λ k. not (same_link k l)) r.links;
  counts = record r.counts { unlinks = r.counts.unlinks + 1 };
}

-- the newest of the links into a block from others is undone; where there is none, the block is evicted and a copy begins in its slot
abbrev pub made_way : ℕ → ImageData → Record → ℕ → Placement → Option Link → Event
made_way size v r c e (Some l) = record { next = undone r l; at = first_of r l.block + l.offset; word = ebreak }
made_way size v r c e None = begins size v (evicted r (e ∷ others e r.placed)) c (e.first / size)

abbrev pub into_oldest : ℕ → ImageData → Record → ℕ → Option Placement → Option Event
into_oldest size v r c None = None
into_oldest size v r c (Some e) = Some (made_way size v r c e (newest_into e r.links))

abbrev pub into_free : ℕ → ImageData → Record → ℕ → ℕ → Option ℕ → Option Event
into_free size v r h c (Some n) = Some (begins size v r c n)
into_free size v r h c None = into_oldest size v r c (oldest_but h r.placed)

-- the block c comes in ahead of control, which is in block h, where it is a block of the image that isn't placed
abbrev pub ahead : Setting → ImageData → Record → ℕ → ℕ → Option Event
ahead by v r h c =
    if nat_lt c (length v.starts) && not (is_placed r c)
    then into_free by.slot_words v r h c (free_slot by r)
    else None

abbrev pub event_by : Setting → ImageData → Record → ℕ → Option Copying → Option Event
event_by by v r h (Some c) = Some (goes_on by.slot_words v r c)
event_by by v r h None = ahead by v r h (h + 1)

-- an event of the engine with control in block h; None where it has nothing to do
unfoldable pub event : Setting → Record → ImageData → ℕ → Option Event
event by r v h = event_by by v r h (copy_of r)

into_services : (size : ℕ) (v : ImageData) (r : Record) (c : ℕ) (o : Option ℕ) → (into size v r c o).counts.services ≡ r.counts.services
into_services size v r c None = evicted_services r r.placed
into_services size v r c (Some n) = refl

missed_services : (by : Setting) (v : ImageData) (r : Record) (c : ℕ) (k : Option Copying) → (missed by v r c k).counts.services ≡ r.counts.services
missed_services by v r c None = into_services by.slot_words v r c (free_slot by r)
missed_services by v r c (Some k) = grind (arith, into_services by.slot_words v (dropped r) c (free_slot by r))

into_writes : (size : ℕ) (v : ImageData) (r : Record) (c : ℕ) (o : Option ℕ) → writes r ≤ writes (into size v r c o)
into_writes size v r c None = omega (arith, evicted_writes r r.placed)
into_writes size v r c (Some n) = omega arith

missed_writes : (by : Setting) (v : ImageData) (r : Record) (c : ℕ) (k : Option Copying) → writes r ≤ writes (missed by v r c k)
missed_writes by v r c None = into_writes by.slot_words v r c (free_slot by r)
missed_writes by v r c (Some k) = grind (arith, into_writes by.slot_words v (dropped r) c (free_slot by r))

arrived_services : (by : Setting) (v : ImageData) (r : Record) (c : ℕ) → (arrived by v r c).counts.services ≡ r.counts.services
unfolding arrived
arrived_services by v r c = grind (arith, missed_services by v r c (copy_of r))

arrived_writes : (by : Setting) (v : ImageData) (r : Record) (c : ℕ) → writes r ≤ writes (arrived by v r c)
unfolding arrived
arrived_writes by v r c = grind (arith, missed_writes by v r c (copy_of r))

-- an arrival beside the engine is one
pub beside_arrival : IsArrival arrived
beside_arrival = record { services_stay = arrived_services; writes_rise = arrived_writes }
