-- Where a missing block comes to stand.
use Rattle.std.proofs.Common.{◌≡◌, ℕ, suc, zero, ◌+◌, ◌-◌, ◌*◌, ◌<◌, ◌≤◌, ◌==◌, ◌^◌, List, [], ◌∷◌, map, remove, filter, Bool, false, not, length, slice_index, Some, None, Option, arith, refl, sym, ◌∙◌, ap, subst, inl, inr}
use Rattle.std.specs.List.{position_from}
use Rattle.std.proofs.lemmas.Bool.{eq-eqb, eqb-true, ne_eqb, cases_Bool}
use Rattle.std.proofs.lemmas.List.Edits.{length-remove}
use Rattle.swi_image.specs.Format.{ImageData}
use Rattle.swi_image.specs.Place.{length_at}
use Rattle.swi_outside.specs.CacheRam.{RamState}
use Rattle.swi_rom.specs.Record.{Record, Placement, Has}
use Rattle.swi_rom.specs.Policy.{evicted}
use Rattle.swi_rom.specs.Writing.{Wrote}
use Rattle.swi_rom.specs.Rams.{wrote_none}
use Rattle.swi_engine.specs.declared.joints.Joint.{Joint}
use Rattle.swi_engine.specs.declared.copying.Copying.{Copying}
use Rattle.swi_engine.specs.Engine.{numbers, missed, into, brought, dropped, first_word, free_slot}
use Rattle.swi_engine.specs.State.{EngineData, kept_by, setting_of, spot}
use Rattle.swi_engine.specs.Sound.{Standing, EngineSound}
use Rattle.swi_engine.specs.Moves.{leads_in, left_data, IsAbsent}
use Rattle.swi_engine.specs.Cleared.{Clearing, MadeRoom}
use Rattle.swi_engine.specs.Arrived.{Ready}
use Rattle.swi_engine.proofs.Shapes.{has_index, remove_has, removed_distinct, filter_has, has_filter, length_filter}
use Rattle.swi_engine.proofs.Standing.{begun_stands, rebegun_stands, left_stands}
use Rattle.swi_engine.proofs.Eventing.{missing, words_kept, copies_kept, free_is, free_none, free_copy, filter_every, none_filtered, evicted_is, own}

-- without its copy, the record is that of the service without it
pub dropped_is : (e : EngineData) → dropped (kept_by e) ≡ kept_by (record e { copy = None })
dropped_is e = rw (words_kept e, copies_kept e) refl

-- the block is copied where nothing has to leave
still_ready : (v : ImageData) (b n d : ℕ) (e : EngineData) (a : RamState) → Standing (record e { copy = Some (record { block = b; slot = n; done = d }) }) v a.words →
    missed (setting_of e) v (kept_by e) b e.copy ≡ brought (kept_by (record e { copy = None })) b (n * e.size) (length_at v b - d) → Ready v b (record { block = b; slot = n; done = d }) e e a a
still_ready v b n d e a stands brings = record {
  is_block = refl;
  stands = stands;
  brings = brings;
  setting_stays = refl;
  blocks_stay = refl;
  counts_are = refl;
  words_stay = refl;
  copies_stay = refl;
  evicts_one = omega arith;
  links_few = omega arith;
  fewer = λ m h. h;
  queue_few = omega arith;
  joints_left = λ j h. h;
  later = omega arith;
  words = λ i. inl refl;
  gone = λ j h. inl h;
  wrote = subst (λ (m : ℕ). Wrote (e.slots * e.size) m a a) (omega arith) (wrote_none (e.slots * e.size) a);
}

missed_same : (v : ImageData) (b : ℕ) (e : EngineData) (k : Copying) → k.block ≡ b → missed (setting_of e) v (kept_by e) b (Some k) ≡ brought (kept_by (record e { copy = None })) b (k.slot * e.size) (length_at v b - k.done)
missed_same v b e k is = rw (eq-eqb _ _ is) (ap (λ (r : Record). brought r b (k.slot * e.size) (length_at v b - k.done)) (dropped_is e))

missed_other : (v : ImageData) (b : ℕ) (e : EngineData) (k : Copying) → (k.block ≡ b → ⊥) → free_slot (setting_of e) (kept_by e) ≡ Some k.slot →
    missed (setting_of e) v (kept_by e) b (Some k) ≡ brought (kept_by (record e { copy = None })) b (k.slot * e.size) (length_at v b)
missed_other v b e k ne free =
    rw (ne_eqb _ _ ne) (ap (λ (o : Option ℕ). into e.size v (dropped (kept_by e)) b o) free ∙ ap (λ (r : Record). brought r b (k.slot * e.size) (length_at v b)) (dropped_is e))

whole : (n : ℕ) → n ≡ n - 0
whole n = omega arith

-- the engine's copy is of the block
pub same_ready : (v : ImageData) (b : ℕ) (e : EngineData) (k : Copying) (a : RamState) → Standing e v a.words → e.copy ≡ Some k → k.block ≡ b → Ready v b k e e a a
same_ready v b e k a stands is block =
    subst (λ (x : ℕ). Ready v x k e e a a) block
    (still_ready v k.block k.slot k.done e a (subst (λ (o : Option Copying). Standing (record e { copy = o }) v a.words) is stands)
    (ap (λ (o : Option Copying). missed (setting_of e) v (kept_by e) k.block o) is ∙ missed_same v k.block e k refl))

-- or of another one
pub other_ready : (v : ImageData) (b : ℕ) (e : EngineData) (k : Copying) (a : RamState) → Standing e v a.words → e.copy ≡ Some k → (k.block ≡ b → ⊥) → b < length v.starts → IsAbsent e b →
    Ready v b (record { block = b; slot = k.slot; done = 0 }) e e a a
other_ready v b e k a stands is ne known absent =
    still_ready v b k.slot 0 e a (rebegun_stands e v a.words b k stands is (omega (arith, known, stands.image.blocks)) (omega (arith, (stands.image.lengths b known).0)) absent)
    (ap (λ (o : Option Copying). missed (setting_of e) v (kept_by e) b o) is ∙ missed_other v b e k ne (free_copy e v a.words k stands is) ∙ ap (λ (m : ℕ). brought (kept_by (record e { copy = None })) b (k.slot * e.size) m) (whole (length_at v b)))

no_copy : (e : EngineData) → e.copy ≡ None → kept_by e ≡ kept_by (record e { copy = None })
no_copy e none = ap (λ (o : Option Copying). record (kept_by e) { more = numbers e.words e.copies o }) none

-- there is none, and a slot is free
pub free_ready : (v : ImageData) (b : ℕ) (e : EngineData) (a : RamState) → Standing e v a.words → e.copy ≡ None → length e.queue < e.slots → b < length v.starts → IsAbsent e b →
    Ready v b (record { block = b; slot = length e.queue; done = 0 }) e e a a
free_ready v b e a stands none room known absent =
    still_ready v b (length e.queue) 0 e a (begun_stands e v a.words b stands none room (omega (arith, known, stands.image.blocks)) (omega (arith, (stands.image.lengths b known).0)) absent)
    (ap (λ (o : Option Copying). missed (setting_of e) v (kept_by e) b o) none ∙ ap (λ (o : Option ℕ). into e.size v (kept_by e) b o) (free_is e v a.words stands none room)
    ∙ ap (λ (r : Record). brought r b (length e.queue * e.size) (length_at v b)) (no_copy e none) ∙ ap (λ (m : ℕ). brought (kept_by (record e { copy = None })) b (length e.queue * e.size) m) (whole (length_at v b)))

pub free_at : (v : ImageData) (b n : ℕ) (e : EngineData) (a : RamState) → Standing e v a.words → e.copy ≡ None → length e.queue < e.slots → n ≡ length e.queue → b < length v.starts → IsAbsent e b →
    Ready v b (record { block = b; slot = n; done = 0 }) e e a a
free_at v b n e a stands none room is known absent = subst (λ (m : ℕ). Ready v b (record { block = b; slot = m; done = 0 }) e e a a) (sym is) (free_ready v b e a stands none room known absent)

-- or the oldest block makes room
first_left : (size : ℕ) (blocks queue : List ℕ) (r : Record) → 0 < length queue → r.placed ≡ map (λ n. spot size blocks n) queue →
    (evicted r r.placed ≡ evicted r (own (slice_index blocks (slice_index queue 0)) (slice_index queue 0 * size) ∷ map (λ n. spot size blocks n) (remove queue 0))) × (first_word r.placed ≡ slice_index queue 0 * size)
first_left size blocks [] r lt is = absurd (omega (arith, lt))
first_left size blocks (n ∷ ns) r lt is = (ap (λ (ps : List Placement). evicted r ps) is, ap (λ (ps : List Placement). first_word ps) is)

abbrev cleared : EngineData → List Joint → ℕ → EngineData
cleared e js u = record e { joints = js; counts = record e.counts { unlinks = u } }

left_brings : (v : ImageData) (words : List ℕ) (b u : ℕ) (e : EngineData) (js : List Joint) → Standing e v words → e.copy ≡ None → e.slots ≤ length e.queue → 0 < length e.queue →
    filter (λ j. not (leads_in j (slice_index e.blocks (slice_index e.queue 0)))) js ≡ filter (λ j. not (leads_in j (slice_index e.blocks (slice_index e.queue 0)))) e.joints →
    u + length (filter (λ j. leads_in j (slice_index e.blocks (slice_index e.queue 0))) js) ≡ e.counts.unlinks + length (filter (λ j. leads_in j (slice_index e.blocks (slice_index e.queue 0))) e.joints) →
    ((j : Joint) → Has js j → leads_in j (slice_index e.blocks (slice_index e.queue 0)) ≡ false) →
    missed (setting_of e) v (kept_by e) b e.copy ≡ brought (kept_by (record (left_data (cleared e js u) 0) { copy = None })) b (slice_index e.queue 0 * e.size) (length_at v b - 0)
left_brings v words b u e js stands none full some others number all =
    let w = first_left e.size e.blocks e.queue (kept_by e) some refl in
    let links : filter (λ j. not (j.block == slice_index e.blocks (slice_index e.queue 0))) js ≡ filter (λ j. not (j.block == slice_index e.blocks (slice_index e.queue 0))) (filter (λ j. not (leads_in j (slice_index e.blocks (slice_index e.queue 0)))) e.joints) =
    ap (λ (ks : List Joint). filter (λ j. not (j.block == slice_index e.blocks (slice_index e.queue 0))) ks) (sym (filter_every (λ j. not (leads_in j (slice_index e.blocks (slice_index e.queue 0)))) js (λ j h. ap (λ (t : Bool). not t) (all j h))) ∙ others) in
    let count : u ≡ e.counts.unlinks + length (filter (λ j. leads_in j (slice_index e.blocks (slice_index e.queue 0))) e.joints) =
    omega (arith, number, ap (λ (ks : List Joint). length ks) (none_filtered (slice_index e.blocks (slice_index e.queue 0)) js all)) in
    let gone : kept_by (left_data (cleared e js u) 0) ≡ evicted (kept_by e) (own (slice_index e.blocks (slice_index e.queue 0)) (slice_index e.queue 0 * e.size) ∷ map (λ n. spot e.size e.blocks n) (remove e.queue 0)) =
    evicted_is e 0 u (slice_index e.queue 0 * e.size) js (map (λ n. spot e.size e.blocks n) (remove e.queue 0)) links count refl in
    let left : evicted (kept_by e) (kept_by e).placed ≡ kept_by (record (left_data (cleared e js u) 0) { copy = None }) = w.0 ∙ sym gone ∙ no_copy (left_data (cleared e js u) 0) none in
    ap (λ (o : Option Copying). missed (setting_of e) v (kept_by e) b o) none ∙ ap (λ (o : Option ℕ). into e.size v (kept_by e) b o) (free_none e v words stands none full)
    ∙ ap (λ (r : Record). brought r b (first_word (kept_by e).placed) (length_at v b)) left
    ∙ ap (λ (f : ℕ). brought (kept_by (record (left_data (cleared e js u) 0) { copy = None })) b f (length_at v b)) w.1
    ∙ ap (λ (m : ℕ). brought (kept_by (record (left_data (cleared e js u) 0) { copy = None })) b (slice_index e.queue 0 * e.size) m) (whole (length_at v b))

left_ready : (v : ImageData) (b : ℕ) (e g : EngineData) (a d : RamState) → Standing e v a.words → e.copy ≡ None → e.slots ≤ length e.queue → 0 < length e.queue → b < length v.starts → IsAbsent e b →
    (c : Clearing v (slice_index e.blocks (slice_index e.queue 0)) e g a d) → position_from (λ j. leads_in j (slice_index e.blocks (slice_index e.queue 0))) 0 g.joints ≡ None →
    Ready v b (record { block = b; slot = slice_index e.queue 0; done = 0 }) e (left_data (cleared e g.joints g.counts.unlinks) 0) a d
left_ready v b e g a d stands none full some known absent c all =
    let clear : (j : Joint) → Has g.joints j → leads_in j (slice_index e.blocks (slice_index e.queue 0)) ≡ false = missing (λ j. leads_in j (slice_index e.blocks (slice_index e.queue 0))) 0 g.joints all in
    let now : Standing (cleared e g.joints g.counts.unlinks) v d.words = subst (λ (x : EngineData). Standing x v d.words) c.rest c.stands in record {
      is_block = refl;
      stands = left_stands (cleared e g.joints g.counts.unlinks) v d.words 0 b now none some (omega (arith, known, stands.image.blocks)) (omega (arith, (stands.image.lengths b known).0)) absent clear;
      brings = left_brings v a.words b g.counts.unlinks e g.joints stands none full some c.others c.number clear;
      setting_stays = refl;
      blocks_stay = refl;
      counts_are = refl;
      words_stay = refl;
      copies_stay = refl;
      evicts_one = omega arith;
      links_few = omega (arith, c.fewer, length_filter (λ (j : Joint). not (j.block == slice_index e.blocks (slice_index e.queue 0))) g.joints);
      fewer = λ n h. remove_has e.queue 0 n h;
      queue_few = omega (arith, length-remove e.queue 0 some);
      joints_left = λ j h. c.from j (filter_has (λ (j : Joint). not (j.block == slice_index e.blocks (slice_index e.queue 0))) g.joints j h).0;
      later = c.later;
      words = λ i. elim (c.words i) [
        | inl same ↦ inl same
        | inr w ↦ inr (w.0, w.1, (λ (h : Has (filter (λ (j : Joint). not (j.block == slice_index e.blocks (slice_index e.queue 0))) g.joints) w.0). w.2 (filter_has (λ (j : Joint). not (j.block == slice_index e.blocks (slice_index e.queue 0))) g.joints w.0 h).0), w.3)
      ];
      gone = λ j h. elim (c.gone j h) [
        | inr back ↦ inr (inl back)
        | inl stays ↦ elim (cases_Bool (j.block == slice_index e.blocks (slice_index e.queue 0))) [
          | inr other ↦ inl (has_filter (λ (j : Joint). not (j.block == slice_index e.blocks (slice_index e.queue 0))) g.joints j stays (ap (λ (t : Bool). not t) other))
          | inl from ↦ inr (inr (λ n hn is.
              let same : n ≡ slice_index e.queue 0 = stands.distinct n (slice_index e.queue 0) (remove_has e.queue 0 n hn) (has_index e.queue 0 some) (is ∙ eqb-true _ _ from) in
              removed_distinct e.queue 0 stands.once some (subst (λ (m : ℕ). Has (remove e.queue 0) m) same hn)))
        ]
      ];
      wrote = c.wrote;
    }

pub made_ready : (v : ImageData) (b n : ℕ) (e f : EngineData) (a d : RamState) → EngineSound e v a.words → e.copy ≡ None → e.slots ≤ length e.queue → 0 < length e.queue → b < length v.starts → IsAbsent e b → MadeRoom v n e f a d →
    Ready v b (record { block = b; slot = n; done = 0 }) e f a d
made_ready v b n e f a d sound none full some known absent m =
    let f_is : f ≡ left_data (cleared e m.room.joints m.room.counts.unlinks) 0 = m.leaves ∙ ap (λ (x : EngineData). left_data x 0) m.clears.rest in
    subst (λ (x : EngineData). Ready v b (record { block = b; slot = n; done = 0 }) e x a d) (sym f_is)
    (subst (λ (s : ℕ). Ready v b (record { block = b; slot = s; done = 0 }) e (left_data (cleared e m.room.joints m.room.counts.unlinks) 0) a d) (sym m.slot)
    (left_ready v b e m.room a d sound.stands none full some known absent m.clears m.all))

-- as the code meets it
pub room_made : (v : ImageData) (e g f : EngineData) (b n : ℕ) (a d : RamState) → b ≡ slice_index e.blocks (slice_index e.queue 0) → Clearing v b e g a d → position_from (λ j. leads_in j b) 0 g.joints ≡ None → f ≡ left_data g 0 → n ≡ slice_index g.queue 0 →
    MadeRoom v n e f a d
room_made v e g f b n a d is clears all leaves slot = record {
  room = g;
  clears = subst (λ (x : ℕ). Clearing v x e g a d) is clears;
  all = subst (λ (x : ℕ). position_from (λ j. leads_in j x) 0 g.joints ≡ None) is all;
  leaves = leaves;
  slot = slot ∙ ap (λ (x : EngineData). slice_index x.queue 0) clears.rest;
}

-- the shape of what is kept allows it
pub room_needs : (e : EngineData) (v : ImageData) (words : List ℕ) → EngineSound e v words → (e.slots ≤ 2 ^ 21) × (e.counts.evictions < 2 ^ 62) × (e.counts.unlinks + length e.joints < 2 ^ 60)
room_needs e v words sound =
    let s = sound.stands.shape in
    let few = sound.few in
    (omega (arith, few_slots e.slots e.size s.size_least s.words_few), omega (arith, few.evictions_few, few.misses_few, few.services_few, few.words_few), omega (arith, few.unlinks_few, few.links_few, few.services_few))
  where
    few_slots : (n k : ℕ) → 2 ≤ k → n * k ≤ 2 ^ 21 → n ≤ 2 ^ 21
    few_slots n k le most = omega (arith, grows n k le, most)
      where
        grows : (n k : ℕ) → 2 ≤ k → n ≤ n * k
        grows zero k le = omega arith
        grows (suc n) k le = omega (arith, grows n k le, le)
