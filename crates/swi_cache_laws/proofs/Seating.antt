-- Slots for all blocks, and a ring of all their words, have a seat for each.
use Rattle.std.proofs.Common.{◌≡◌, ℕ, ◌+◌, ◌*◌, ◌%◌, ◌<◌, ◌≤◌, ◌&&◌, Bool, true, false, List, [], ◌∷◌, length, if◌then◌else◌, slice_index, nat_lt, nat_le, arith, refl, sym, ap, subst, inl, inr}
use Rattle.std.proofs.lemmas.Bool.{lt-ltb, le-leb, le-ltb}
use Rattle.std.proofs.lemmas.Nat.{mod-mul-add, row_fits}
use Rattle.std.specs.List.{list_any}
use Rattle.swi_image.specs.Format.{ImageData}
use Rattle.swi_image.specs.Place.{length_at}
use Rattle.swi_image.specs.Sound.{IsImage}
use Rattle.swi_rom.specs.Record.{Record, Placement, Has}
use Rattle.swi_rom.specs.Service.{Setting}
use Rattle.swi_rom.specs.Policy.{is_placed}
use Rattle.swi_rom.specs.Blocks.{block_short}
use Rattle.swi_slots.specs.Fifo as slots
use Rattle.swi_ring.specs.Fifo as ring
use Rattle.swi_cache_laws.specs.Room.{words_of, RoomInSlots, RoomInRing}
use Rattle.swi_cache_laws.proofs.Few.{has_append}
use Rattle.swi_cache_laws.proofs.Keeping.{Seat, Seats, HasSeats, one_more}
use Rattle.swi_cache_laws.proofs.Roomy.{has_room}

-- ---- slots

abbrev anywhere : Seat
anywhere es more copied = Unit {0}

slots_stay : (by : Setting) (v : ImageData) (r : Record) (c : ℕ) → is_placed r c ≡ true → slots.arrived by v r c ≡ r
unfolding slots.arrived
slots_stay by v r c there = rw there refl

slots_next : (by : Setting) (v : ImageData) (r : Record) (c : ℕ) → is_placed r c ≡ false → length r.placed < by.slots → slots.arrived by v r c ≡ slots.appended by v r c
unfolding slots.arrived
slots_next by v r c none free = rw (none, lt-ltb (length r.placed) by.slots free) refl

-- the slots are taken one after the other
slot_is : (m slots words : ℕ) → m < slots → m % slots * words ≡ m * words
slot_is m slots words lt = ap (λ (n : ℕ). n * words) (grind (arith, mod-mul-add 0 slots m lt))

slots_appended : (by : Setting) (v : ImageData) (r : Record) (c : ℕ) → IsImage v → v.block_words ≤ by.slot_words → c < length v.blocks → r.counts.misses < length v.blocks → length v.blocks ≤ by.slots →
    Seats v (length v.blocks * by.slot_words) anywhere r c (slots.appended by v r c)
unfolding slots.appended
slots_appended by v r c image short lt few many = record {
  first = r.counts.misses % by.slots * by.slot_words;
  placed = refl;
  turn = refl;
  links = refl;
  services = refl;
  misses = refl;
  evictions = refl;
  made = refl;
  unlinks = refl;
  copied = refl;
  ends = omega (arith, slot_is r.counts.misses by.slots by.slot_words (omega arith), row_fits r.counts.misses by.slot_words (length v.blocks) by.slot_words few (omega arith), block_short v c image lt);
  seated = tt;
}

slots_seats : (by : Setting) (v : ImageData) → IsImage v → length v.blocks ≤ by.slots → v.block_words ≤ by.slot_words → HasSeats slots.arrived by v (length v.blocks * by.slot_words) anywhere
slots_seats by v image many short = record {
  stays = slots_stay by v;
  seats = λ before registers r c k none lt.
      (let more = one_more v (length v.blocks * by.slot_words) before registers anywhere r c k none lt in
      subst (λ (t : Record). Seats v (length v.blocks * by.slot_words) anywhere r c t) (sym (slots_next by v r c none (omega (arith, more.fewer))))
      (slots_appended by v r c image short lt (omega (arith, more.fewer, k.misses)) many));
  empty = tt;
}

pub room_in_slots : RoomInSlots
room_in_slots by v image many short boot place ts is are =
    has_room slots.arrived by v image (length v.blocks * by.slot_words) anywhere (slots_seats by v image many short) boot place ts is are

-- ---- a ring

-- the next block stands behind all others
abbrev behind_all : ImageData → Seat
behind_all v es more copied = (slice_index more 0 ≡ copied) × ((e : Placement) → Has es e → e.first + length_at v e.block ≤ copied)

ring_stay : (by : Setting) (v : ImageData) (r : Record) (c : ℕ) → is_placed r c ≡ true → ring.arrived by v r c ≡ r
unfolding ring.arrived
ring_stay by v r c there = rw there refl

none_meets : (v : ImageData) (first n : ℕ) (es : List Placement) → ((e : Placement) → Has es e → e.first + length_at v e.block ≤ first) → list_any (ring.meets v first n) es ≡ false
none_meets v first n [] before = refl
none_meets v first n (e ∷ es) before =
    let past : nat_lt first (e.first + length_at v e.block) ≡ false = le-ltb first (e.first + length_at v e.block) (before e (inl refl)) in
    let here : ring.meets v first n e ≡ false = rw past (and_no _) in
    rw here (none_meets v first n es (λ f h. before f (inr h)))
  where
    and_no : (x : Bool) → (x && false) ≡ false
    and_no true = refl
    and_no false = refl

none_leaves : (v : ImageData) (first n : ℕ) (es : List Placement) (r : Record) → list_any (ring.meets v first n) es ≡ false → ring.cleared v first n es r ≡ r
unfolding ring.cleared
none_leaves v first n [] r free = refl
none_leaves v first n (e ∷ es) r free = rw free refl

ring_next : (by : Setting) (v : ImageData) (r : Record) (c : ℕ) → is_placed r c ≡ false → behind_all v r.placed r.more r.counts.copied → r.counts.copied + length_at v c ≤ by.slot_words →
    ring.arrived by v r c ≡ ring.appended v r.counts.copied r c
unfolding ring.arrived ring.first_for
ring_next by v r c none seated fits =
    let first_is : (if nat_le (slice_index r.more 0 + length_at v c) by.slot_words then slice_index r.more 0 else 0) ≡ r.counts.copied =
    rw (seated.0, le-leb (r.counts.copied + length_at v c) by.slot_words fits) refl in
    rw (none, first_is, none_leaves v r.counts.copied (length_at v c) r.placed r (none_meets v r.counts.copied (length_at v c) r.placed seated.1)) refl

ring_appended : (v : ImageData) (r : Record) (c : ℕ) → behind_all v r.placed r.more r.counts.copied → r.counts.copied + length_at v c ≤ words_of v →
    Seats v (words_of v) (behind_all v) r c (ring.appended v r.counts.copied r c)
unfolding ring.appended
ring_appended v r c seated fits = record {
  first = r.counts.copied;
  placed = refl;
  turn = refl;
  links = refl;
  services = refl;
  misses = refl;
  evictions = refl;
  made = refl;
  unlinks = refl;
  copied = refl;
  ends = fits;
  seated = (
    refl,
    λ e h. elim (has_append r.placed (record { program = r.turn; block = c; first = r.counts.copied } ∷ []) e h) [
      | inl old ↦ omega (arith, seated.1 e old)
      | inr new ↦ elim new [
        | inl same ↦ subst (λ (f : Placement). f.first + length_at v f.block ≤ r.counts.copied + length_at v c) same (omega arith)
        | inr nothing ↦ absurd nothing
      ]
    ],
  );
}

ring_seats : (by : Setting) (v : ImageData) → words_of v ≤ by.slot_words → HasSeats ring.arrived by v (words_of v) (behind_all v)
ring_seats by v many = record {
  stays = ring_stay by v;
  seats = λ before registers r c k none lt.
      (let more = one_more v (words_of v) before registers (behind_all v) r c k none lt in
      subst (λ (t : Record). Seats v (words_of v) (behind_all v) r c t) (sym (ring_next by v r c none k.seated (omega (arith, more.words))))
      (ring_appended v r c k.seated more.words));
  empty = (refl, λ e h. absurd h);
}

pub room_in_ring : RoomInRing
room_in_ring by v image many boot place ts is are =
    has_room ring.arrived by v image (words_of v) (behind_all v) (ring_seats by v many) boot place ts is are
