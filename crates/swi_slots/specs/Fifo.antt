-- First in, first out over slots of one size: a block takes the next slot, and where all are taken the oldest leaves it.
use Rattle.std.specs.Prelude.{◌≡◌, ◌≤◌, ℕ, ◌+◌, ◌*◌, ◌%◌, [], ◌∷◌, ◌++◌, length, min, if◌then◌else◌, nat_lt}
use Rattle.swi_image.specs.Format.{ImageData}
use Rattle.swi_image.specs.Place.{length_at}
use Rattle.swi_rom.specs.Record.{Record, Transfer, writes}
use Rattle.swi_rom.specs.Service.{Setting}
use Rattle.swi_rom.specs.Policy.{IsArrival, Rises, is_placed, evicted, with_link, served_by, served_rises, evicted_services, evicted_writes, evicted_misses, counted_misses, linked_misses}
use Rattle.std.proofs.Common.{arith}
use Rattle.std.proofs.lemmas.Nat.{mul-le}

-- the block is appended in the next slot
unfoldable pub appended : Setting → ImageData → Record → ℕ → Record
appended by v r c = record r {
  placed = r.placed ++ record { program = r.turn; block = c; first = r.counts.misses % by.slots * by.slot_words } ∷ [];
  counts = record r.counts { misses = r.counts.misses + 1; copied = r.counts.copied + length_at v c };
}

-- the block stands in the ram
unfoldable pub arrived : Setting → ImageData → Record → ℕ → Record
arrived by v r c =
    if is_placed r c then r
    else appended by v (if nat_lt (length r.placed) by.slots then r else evicted r r.placed) c

-- the policy: links stand in order
abbrev pub fifo : Setting → Record → ImageData → Transfer → Record
fifo = served_by arrived with_link

-- the words of the slots that were ever filled, the lowest first and one for each miss
abbrev pub extent_of : Setting → Record → ℕ
extent_of by r = min r.counts.misses by.slots * by.slot_words

arrived_services : (by : Setting) (v : ImageData) (r : Record) (c : ℕ) → (arrived by v r c).counts.services ≡ r.counts.services
unfolding arrived appended
arrived_services by v r c = grind (arith, evicted_services)

arrived_writes : (by : Setting) (v : ImageData) (r : Record) (c : ℕ) → writes r ≤ writes (arrived by v r c)
unfolding arrived appended
arrived_writes by v r c = grind (arith, evicted_writes)

arrived_misses : (by : Setting) (v : ImageData) (r : Record) (c : ℕ) → r.counts.misses ≤ (arrived by v r c).counts.misses
unfolding arrived appended
arrived_misses by v r c = grind (arith, evicted_misses)

pub fifo_arrival : IsArrival arrived
fifo_arrival = record { services_stay = arrived_services; writes_rise = arrived_writes }

-- no transfer takes a miss back
fifo_misses : (by : Setting) → Rises arrived with_link by (λ (r : Record). r.counts.misses)
fifo_misses by = record { counting = counted_misses; linking = linked_misses with_link; arriving = arrived_misses by }

-- nor the words that were used
pub fifo_extent : (by : Setting) (r : Record) (v : ImageData) (t : Transfer) → extent_of by r ≤ extent_of by (fifo by r v t)
fifo_extent by r v t =
    mul-le _ _ _ _ (fewer _ _ by.slots (served_rises arrived with_link by (λ (s : Record). s.counts.misses) (fifo_misses by) r v t)) (omega arith)
  where
    fewer : (m n k : ℕ) → m ≤ n → min m k ≤ min n k
    fewer m n k le = grind arith
