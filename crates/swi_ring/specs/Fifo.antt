-- First in, first out over a ring: a block stands behind the one that was placed last, or from the first word on where it doesn't fit
-- there; and while the words where it is to stand are not free, the oldest block leaves.
use Rattle.std.specs.Prelude.{◌≡◌, ◌≤◌, ℕ, ◌+◌, ◌&&◌, Bool, true, false, not, List, [], ◌∷◌, ◌++◌, min, if◌then◌else◌, slice_index, nat_le, nat_lt}
use Rattle.std.specs.List.{list_any}
use Rattle.swi_image.specs.Format.{ImageData}
use Rattle.swi_image.specs.Place.{length_at}
use Rattle.swi_rom.specs.Record.{Record, Placement, Transfer, writes}
use Rattle.swi_rom.specs.Service.{Setting}
use Rattle.swi_rom.specs.Policy.{IsArrival, Rises, is_placed, evicted, with_link, served_by, served_rises, evicted_services, evicted_writes, evicted_copied, counted_copied, linked_copied}
use Rattle.std.proofs.Common.{arith, refl, ◌∙◌}

-- a ring is one slot
abbrev pub span_of : Setting → ℕ
span_of by = by.slot_words

-- the block has one of the n words from the first on
abbrev pub meets : ImageData → ℕ → ℕ → Placement → Bool
meets v first n e = nat_lt e.first (first + n) && nat_lt first (e.first + length_at v e.block)

-- these words are free
abbrev pub is_free : ImageData → ℕ → ℕ → List Placement → Bool
is_free v first n es = not (list_any (meets v first n) es)

-- while they are not, the oldest leaves
unfoldable pub cleared : ImageData → ℕ → ℕ → List Placement → Record → Record
cleared v first n [] r = r
cleared v first n (e ∷ es) r = if is_free v first n (e ∷ es) then r else cleared v first n es (evicted r (e ∷ es))

-- the word behind the block that was placed last; before one was placed, the first word
abbrev pub next_of : Record → ℕ
next_of r = slice_index r.more 0

-- where a block of n words is to stand
unfoldable pub first_for : ℕ → Record → ℕ → ℕ
first_for span r n = if nat_le (next_of r + n) span then next_of r else 0

-- the block is appended, from a word on
unfoldable pub appended : ImageData → ℕ → Record → ℕ → Record
appended v first r c = record r {
  placed = r.placed ++ record { program = r.turn; block = c; first = first } ∷ [];
  counts = record r.counts { misses = r.counts.misses + 1; copied = r.counts.copied + length_at v c };
  more = (first + length_at v c) ∷ [];
}

abbrev pub placed : ImageData → ℕ → Record → ℕ → Record
placed v first r c = appended v first (cleared v first (length_at v c) r.placed r) c

-- the block stands in the ram
unfoldable pub arrived : Setting → ImageData → Record → ℕ → Record
arrived by v r c = if is_placed r c then r else placed v (first_for (span_of by) r (length_at v c)) r c

-- the policy: links stand in order
abbrev pub ring : Setting → Record → ImageData → Transfer → Record
ring = served_by arrived with_link

-- the words that can have been used: no more than were copied
abbrev pub extent_of : Setting → Record → ℕ
extent_of by r = min r.counts.copied (span_of by)

-- evictions count no service, copy no word and take no write back
record Fewer (r t : Record) : Type 0 where
  services_stay : t.counts.services ≡ r.counts.services
  copied_stays : t.counts.copied ≡ r.counts.copied
  writes_rise : writes r ≤ writes t

fewer_either : (free : Bool) (r t : Record) → Fewer r t → Fewer r (if free then r else t)
fewer_either true r t f = record { services_stay = refl; copied_stays = refl; writes_rise = omega arith }
fewer_either false r t f = f

fewer_more : (r : Record) (es : List Placement) (t : Record) → Fewer (evicted r es) t → Fewer r t
fewer_more r es t f = record {
  services_stay = f.services_stay ∙ evicted_services r es;
  copied_stays = f.copied_stays ∙ evicted_copied r es;
  writes_rise = omega (arith, f.writes_rise, evicted_writes r es);
}

cleared_fewer : (v : ImageData) (first n : ℕ) (es : List Placement) (r : Record) → Fewer r (cleared v first n es r)
unfolding cleared
cleared_fewer v first n [] r = record { services_stay = refl; copied_stays = refl; writes_rise = omega arith }
cleared_fewer v first n (e ∷ es) r =
    fewer_either (is_free v first n (e ∷ es)) r (cleared v first n es (evicted r (e ∷ es)))
    (fewer_more r (e ∷ es) _ (cleared_fewer v first n es (evicted r (e ∷ es))))

-- nor does an arrival count a service, or take a copied word back
record Onward (r t : Record) : Type 0 where
  services_stay : t.counts.services ≡ r.counts.services
  copied_rises : r.counts.copied ≤ t.counts.copied
  writes_rise : writes r ≤ writes t

appended_onward : (v : ImageData) (first : ℕ) (r m : Record) (c : ℕ) → Fewer r m → Onward r (appended v first m c)
unfolding appended
appended_onward v first r m c f = record { services_stay = f.services_stay; copied_rises = omega (arith, f.copied_stays); writes_rise = omega (arith, f.writes_rise) }

onward_either : (stands : Bool) (r t : Record) → Onward r t → Onward r (if stands then r else t)
onward_either true r t f = record { services_stay = refl; copied_rises = omega arith; writes_rise = omega arith }
onward_either false r t f = f

arrived_onward : (by : Setting) (v : ImageData) (r : Record) (c : ℕ) → Onward r (arrived by v r c)
unfolding arrived
arrived_onward by v r c =
    onward_either (is_placed r c) r _
    (appended_onward v (first_for (span_of by) r (length_at v c)) r _ c (cleared_fewer v (first_for (span_of by) r (length_at v c)) (length_at v c) r.placed r))

pub ring_arrival : IsArrival arrived
ring_arrival = record {
  services_stay = λ by v r c. (arrived_onward by v r c).services_stay;
  writes_rise = λ by v r c. (arrived_onward by v r c).writes_rise;
}

ring_copied : (by : Setting) → Rises arrived with_link by (λ (r : Record). r.counts.copied)
ring_copied by = record { counting = counted_copied; linking = linked_copied with_link; arriving = λ v r c. (arrived_onward by v r c).copied_rises }

pub ring_extent : (by : Setting) (r : Record) (v : ImageData) (t : Transfer) → extent_of by r ≤ extent_of by (ring by r v t)
ring_extent by r v t =
    fewer _ _ (span_of by) (served_rises arrived with_link by (λ (s : Record). s.counts.copied) (ring_copied by) r v t)
  where
    fewer : (m n k : ℕ) → m ≤ n → min m k ≤ min n k
    fewer m n k le = grind arith
