-- A block arrives: it stood, or it has taken the next slot.
use Rattle.std.proofs.Common.{◌≡◌, ◌⊎◌, ℕ, suc, zero, ◌+◌, ◌-◌, ◌*◌, ◌/◌, ◌%◌, ◌^◌, ◌<◌, ◌≤◌, ◌==◌, ◌&&◌, true, false, List, [], ◌∷◌, length, slice_index, slice_set, arith, refl, sym, ◌∙◌, ap, subst, inl, inr}
use Rattle.std.proofs.lemmas.Bool.{cases_Bool, cases_lt, both_ways, and_parts, and_from, or_left, or_right, or_cases, false_from_ne_true, eq-eqb, eqb-true}
use Rattle.std.proofs.lemmas.Bool.Decides.{nat_tests}
use Rattle.std.proofs.lemmas.Nat.{same_from_place}
use Rattle.std.specs.List.{list_any}
use Rattle.swi_image.specs.Format.{ImageData}
use Rattle.swi_image.specs.Place.{length_at}
use Rattle.swi_outside.specs.CacheRam.{RamState}
use Rattle.swi_rom.specs.Record.{Record, Placement, Link, Has, has_link, Placed, ebreak}
use Rattle.swi_rom.specs.Policy.{is_placed, counted, more_services}
use Rattle.swi_slots.specs.Fifo.{arrived}
use Rattle.swi_rom.specs.Served.{WordsMove, NewlyPlaced, LinkChanged}
use Rattle.swi_slots.specs.Slots.{Slots, InShape, links_of, link_at, queue_of, kept_by}
use Rattle.swi_slots.specs.Keys.{Images, key_of, key_parts, word_in}
use Rattle.swi_slots.specs.Sound.{SlotsServe, SlotsSound, Serves}
use Rattle.swi_rom.specs.Writing.{Wrote, Copied}
use Rattle.swi_slots.specs.Steps.{IsAbsent, counted_slots, is_dropped, leads_in}
use Rattle.swi_rom.specs.Policy.{more_service}
use Rattle.swi_slots.specs.Arrived.{Arrived}
use Rattle.swi_rom.specs.declared.rom.Counts.{Counts}
use Rattle.swi_rom.specs.Rams.{wrote_none}
use Rattle.swi_slots.specs.Queue.{has_slot, slot_has, placed_slot, slot_placed, length_queue}
use Rattle.swi_slots.specs.SlotLinks.{Tidy, link_of, link_key, linked_word, never_link, word_linked, word_below, word_slot, word_is}
use Rattle.swi_slots.specs.Coheres.{tidy_of}
use Rattle.swi_slots.proofs.Missing.{Roomy, CountsMove, filled_slots, next_filled, other_block, other_slot, here_block, moved_tidy}
use Rattle.swi_slots.proofs.MissLinks.{link_moved}

-- a block is among the placed ones exactly where a slot has it
any_has : (es : List Placement) (p b f : ℕ) → Has es (record { program = p; block = b; first = f }) → list_any (λ (e : Placement). e.program == p && e.block == b) es ≡ true
any_has [] p b f h = absurd h
any_has (e ∷ es) p b f (inl same) =
    or_left _ _ (and_from (e.program == p) (e.block == b) (eq-eqb _ _ (ap (λ (x : Placement). x.program) same)) (eq-eqb _ _ (ap (λ (x : Placement). x.block) same)))
any_has (e ∷ es) p b f (inr h) = or_right _ _ (any_has es p b f h)

place_is : (e : Placement) (p b : ℕ) → e.program ≡ p → e.block ≡ b → let x : Placement = record { program = p; block = b; first = e.first } in e ≡ x
place_is e p b f g = rw (← f, ← g) refl

has_any : (es : List Placement) (p b : ℕ) → list_any (λ (e : Placement). e.program == p && e.block == b) es ≡ true → (f : ℕ) × Has es (record { program = p; block = b; first = f })
has_any [] p b h = absurd (both_ways false refl h)
has_any (e ∷ es) p b h = elim (or_cases (e.program == p && e.block == b) (list_any (λ (x : Placement). x.program == p && x.block == b) es) h) [
  | inl t ↦ (let both = and_parts (e.program == p) (e.block == b) t in (e.first, inl (place_is e p b (eqb-true _ _ both.0) (eqb-true _ _ both.1))))
  | inr r ↦ (let w = has_any es p b r in (w.0, inr w.1))
]

pub slot_is_placed : (s : Slots) (n b : ℕ) → InShape s → n < s.filled → b < 2 ^ 19 → slice_index s.blocks n ≡ key_of s.turn b → is_placed (kept_by s) b ≡ true
unfolding is_placed Placed
slot_is_placed s n b shape lt small e = any_has (queue_of s) s.turn b (n * s.size) (slot_placed s n b shape lt small e)

pub is_placed_slot : (s : Slots) (b : ℕ) → InShape s → is_placed (kept_by s) b ≡ true → (n : ℕ) × (n < s.filled) × (slice_index s.blocks n ≡ key_of s.turn b)
unfolding is_placed Placed
is_placed_slot s b shape h =
    let w = has_any (queue_of s) s.turn b h in
    let p = placed_slot s b w.0 shape w.1 in
    (p.0, p.1, p.2)

pub absent_not_placed : (s : Slots) (b : ℕ) → InShape s → IsAbsent s (key_of s.turn b) → is_placed (kept_by s) b ≡ false
absent_not_placed s b shape absent =
    false_from_ne_true (is_placed (kept_by s) b) (λ (h : is_placed (kept_by s) b ≡ true). let w = is_placed_slot s b shape h in absent w.0 w.1 w.2)

-- the counts alone change neither queue nor links
pub same_queue : (s : Slots) (targets : List ℕ) (counts : Counts) → queue_of (record s { targets = targets; counts = counts }) ≡ queue_of s
unfolding queue_of
same_queue s targets counts = refl

pub same_links : (s : Slots) (counts : Counts) → links_of (record s { counts = counts }) ≡ links_of s
unfolding links_of link_at
same_links s counts = refl

more_length : (es : List Placement) (n : ℕ) → length es ≡ n → more_services es ≡ more_service n
more_length [] n e = rw (← e) refl
more_length (x ∷ es) n e = rw (← e) refl

pub counted_is : (s : Slots) → InShape s → kept_by (counted_slots s) ≡ counted (kept_by s)
unfolding counted queue_of links_of link_at
counted_is s shape = ap (λ (n : ℕ). record (kept_by s) { counts = record s.counts { services = s.counts.services + n } }) (sym (more_length (queue_of s) s.filled (length_queue s shape)))

-- and nothing but them has changed where a service was counted
pub counted_alone : (s t : Slots) → t ≡ counted_slots s → kept_by t ≡ record (kept_by s) { counts = (kept_by t).counts }
unfolding queue_of links_of link_at
counted_alone s t e = subst (λ (x : Slots). kept_by x ≡ record (kept_by s) { counts = (kept_by x).counts }) (sym e) refl

-- a service has been counted
pub counted_sound : (s : Slots) (vs : Images) (words : List ℕ) → SlotsServe s vs words → SlotsServe (counted_slots s) vs words
counted_sound s vs words sound = record {
  shape = record {
    some_slot = sound.shape.some_slot;
    size_least = sound.shape.size_least;
    size_most = sound.shape.size_most;
    words_few = sound.shape.words_few;
    turn_below = sound.shape.turn_below;
    programs_most = sound.shape.programs_most;
    next_below = sound.shape.next_below;
    filled_most = sound.shape.filled_most;
    blocks_long = sound.shape.blocks_long;
    lengths_long = sound.shape.lengths_long;
    targets_long = sound.shape.targets_long;
    next_is = sound.shape.next_is;
    filled_is = sound.shape.filled_is;
  };
  images = sound.images;
  size_most = sound.size_most;
  fits = sound.fits;
  distinct = sound.distinct;
  known = sound.known;
  lengths_are = sound.lengths_are;
  stands = sound.stands;
  linked = λ n o lt lt' t. (let k = sound.linked n o lt lt' t in record { is_exit = k.is_exit; target = k.target; offset = k.offset; place_is = k.place_is; jumps = k.jumps });
  plain = sound.plain;
  misses_few = omega (arith, sound.misses_few);
  evictions_few = sound.evictions_few;
  copied_few = sound.copied_few;
  links_few = omega (arith, sound.links_few);
  unlinks_few = subst (λ (ls : List Link). s.counts.unlinks + length ls ≤ s.counts.links) (sym (same_links s (counted_slots s).counts)) sound.unlinks_few;
}

pub counted_serves : (s : Slots) (v : ImageData) (vs : Images) (words : List ℕ) → Serves s v vs words → Serves (counted_slots s) v vs words
counted_serves s v vs words serves = (serves.0, counted_sound s vs words serves.1)

pub counted_service : (s : Slots) (v : ImageData) (words : List ℕ) → SlotsSound s v words → SlotsSound (counted_slots s) v words
counted_service s v words sound = (sound.0, counted_serves s v sound.0 words sound.1)

-- and the misses are not more than the services
pub counted_few : (s : Slots) (vs : Images) (words : List ℕ) → SlotsServe s vs words → (counted_slots s).counts.misses ≤ (counted_slots s).counts.services
counted_few s vs words sound = ways s.filled refl
  where
    ways : (f : ℕ) → f ≡ s.filled → s.counts.misses ≤ s.counts.services + more_service f
    ways zero e = omega (arith, sound.shape.filled_is, sound.shape.some_slot)
    ways (suc f) e = omega (arith, sound.misses_few)

unchanged : (v : ImageData) (r t : Record) (a : RamState) → r.links ≡ t.links → WordsMove v r t a a
unchanged v r t a e = record {
  changes = λ i. inl refl;
  restored = λ k f was is h h'. absurd (both_ways (has_link t.links k) is (ap (λ (ls : List Link). has_link ls k) (sym e) ∙ was));
}

-- the block stood
pub hit_arrived : (s : Slots) (vs : Images) (b n : ℕ) (a : RamState) → SlotsServe s vs a.words → n < s.filled → b < 2 ^ 19 → slice_index s.blocks n ≡ key_of s.turn b → Arrived vs s b n (counted_slots s) a a
unfolding arrived
hit_arrived s vs b n a sound lt small e =
    let sound' = counted_sound s vs a.words sound in
    let stands : is_placed (counted (kept_by s)) b ≡ true = subst (λ (r : Record). is_placed r b ≡ true) (counted_is s sound.shape) (slot_is_placed (counted_slots s) n b sound'.shape lt small e) in
    record {
      moves = rw stands (counted_is s sound.shape);
      sound = sound';
      small = small;
      turn_stays = refl;
      slots_stay = refl;
      size_stays = refl;
      programs_stay = refl;
      filled = lt;
      stands = e;
      blocks_move = inl (refl, refl);
      grows = omega arith;
      wrote = subst (λ (k : ℕ). Wrote (s.slots * s.size) k a a) (omega arith) (wrote_none (s.slots * s.size) a);
      words = unchanged (vs s.turn) (kept_by s) (kept_by (counted_slots s)) a (sym (same_links s (counted_slots s).counts));
    }

leads_parts : (s : Slots) (i : ℕ) → leads_in s.size s.next s.targets i ≡ true → (slice_index s.targets i ≡ s.next) × (i / s.size ≡ s.next → ⊥)
leads_parts s i l = (grind (arith, nat_tests), λ e. both_ways (leads_in s.size s.next s.targets i) (grind (arith, nat_tests)) l)

-- an undone link is a change
undone_changed : (s : Slots) (targets : List ℕ) (counts : Counts) (vs : Images) (b n k i : ℕ) (before between : RamState) → SlotsServe s vs before.words →
    Roomy s targets k before between → CountsMove s counts k → IsAbsent s b → i < s.slots * s.size → leads_in s.size s.next s.targets i ≡ true →
    LinkChanged (kept_by s) (kept_by (filled_slots s targets counts b n)) i
undone_changed s targets counts vs b n k i before between sound roomy move absent below leads =
    let t : Slots = filled_slots s targets counts b n in
    let tidy : Tidy t = moved_tidy s targets counts vs b n k before between sound roomy move absent in
    let parts = leads_parts s i leads in
    let p = word_is s i sound.shape in
    let small : slice_index s.targets i < s.slots = omega (arith, parts.0, sound.shape.next_below) in
    let row : i / s.size < s.filled = sound.stands i below small in
    let was : has_link (links_of s) (link_of s (i / s.size) (i % s.size)) ≡ true =
    word_linked s (i / s.size) (i % s.size) sound.shape (omega (arith, sound.shape.filled_most)) p.1 (subst (λ (j : ℕ). slice_index s.targets j < s.slots) (sym p.0) small) in
    let drops : is_dropped s.size s.next s.targets i ≡ true = grind (arith, nat_tests) in
    let is : has_link (links_of t) (link_of s (i / s.size) (i % s.size)) ≡ false =
    never_link t (i / s.size) (i % s.size) (link_of s (i / s.size) (i % s.size)) tidy (omega (arith, row, sound.shape.filled_most))
    (other_block s b (i / s.size) parts.1 ∙ sym (key_parts (slice_index s.blocks (i / s.size)))) refl
    (subst (λ (j : ℕ). s.slots ≤ slice_index targets j) (sym p.0) (roomy.dropped i below drops)) in
    record {
      link = link_of s (i / s.size) (i % s.size);
      first = i / s.size * s.size;
      stood = inl (slot_has s (i / s.size) sound.shape row);
      changed = λ same. both_ways (has_link (links_of t) (link_of s (i / s.size) (i % s.size))) is (sym same ∙ was);
      index = sym p.0;
    }

older_word : (s : Slots) (targets : List ℕ) (counts : Counts) (vs : Images) (b n k i w : ℕ) (before between : RamState) → SlotsServe s vs before.words →
    Roomy s targets k before between → CountsMove s counts k → IsAbsent s b → w ≡ slice_index between.words i →
    (w ≡ slice_index before.words i) ⊎ (NewlyPlaced (vs s.turn) (kept_by s) (kept_by (filled_slots s targets counts b n)) i ⊎ LinkChanged (kept_by s) (kept_by (filled_slots s targets counts b n)) i)
older_word s targets counts vs b n k i w before between sound roomy move absent e = elim (cases_lt i (s.slots * s.size)) [
  | inl below ↦ elim (cases_Bool (leads_in s.size s.next s.targets i)) [
    | inl l ↦ inr (inr (undone_changed s targets counts vs b n k i before between sound roomy move absent below l))
    | inr l ↦ inl (e ∙ roomy.others i (λ h. l))
  ]
  | inr le ↦ inl (e ∙ roomy.others i (λ h. absurd (omega arith)))
]

slot_from : (m n size : ℕ) → 0 < size → m * size ≡ n * size → m ≡ n
slot_from m n size pos e = (same_from_place m 0 n 0 size pos pos (omega arith)).0

-- a removed link whose block stays is an exit again
undone_restored : (s : Slots) (targets : List ℕ) (counts : Counts) (vs : Images) (b n k : ℕ) (before between after : RamState) (l : Link) (f : ℕ) → SlotsServe s vs before.words →
    Roomy s targets k before between → CountsMove s counts k → IsAbsent s b → n ≤ s.size → Copied (λ (i : ℕ). word_in vs b i) (s.next * s.size) n between after →
    has_link (links_of s) l ≡ true → has_link (links_of (filled_slots s targets counts b n)) l ≡ false →
    Has (queue_of s) (record { program = l.program; block = l.block; first = f }) → Has (queue_of (filled_slots s targets counts b n)) (record { program = l.program; block = l.block; first = f }) →
    slice_index after.words (f + l.offset) ≡ ebreak
undone_restored s targets counts vs b n k before between after l f sound roomy move absent le copied was is h h' =
    let t : Slots = filled_slots s targets counts b n in
    let tidy : Tidy t = moved_tidy s targets counts vs b n k before between sound roomy move absent in
    let w = linked_word s l (tidy_of s vs before.words sound) was in
    let p = has_slot s l.program l.block f sound.shape h in
    let p' = has_slot t l.program l.block f tidy.shape h' in
    let block : slice_index s.blocks w.0 ≡ key_of l.program l.block = link_key s w.0 w.1 l w.4 in
    let here : w.1 ≡ l.offset = ap (λ (x : Link). x.offset) w.4 in
    let row : p.0 ≡ w.0 = sound.distinct p.0 w.0 p.1 w.2 (p.2 ∙ sym block) in
    let row' : p'.0 ≡ w.0 = slot_from p'.0 p.0 s.size (omega (arith, sound.shape.size_least)) (p'.3 ∙ sym p.3) ∙ row in
    let ne : w.0 ≡ s.next → ⊥ = λ (e : w.0 ≡ s.next). absent w.0 w.2 (block ∙ sym p'.2 ∙ ap (λ (x : ℕ). slice_index (slice_set s.blocks s.next b) x) (row' ∙ e) ∙ here_block s b sound.shape) in
    let below : w.0 * s.size + w.1 < s.slots * s.size = word_below s w.0 w.1 sound.shape (omega (arith, w.2, sound.shape.filled_most)) w.3 in
    let column : (w.0 * s.size + w.1) / s.size ≡ w.0 = (word_slot s w.0 w.1 w.3).0 in
    let leads : leads_in s.size s.next s.targets (w.0 * s.size + w.1) ≡ true =
    elim (cases_Bool (is_dropped s.size s.next s.targets (w.0 * s.size + w.1))) [
      | inl d ↦ dropped_leads s (w.0 * s.size + w.1) d (λ (e : (w.0 * s.size + w.1) / s.size ≡ s.next). ne (sym column ∙ e))
      | inr d ↦ absurd (
          let same = roomy.rest (w.0 * s.size + w.1) below d in
          let elsewhere : slice_index s.targets (w.0 * s.size + w.1) ≡ s.next → ⊥ = λ (e : slice_index s.targets (w.0 * s.size + w.1) ≡ s.next). both_ways (is_dropped s.size s.next s.targets (w.0 * s.size + w.1)) d (to_next s (w.0 * s.size + w.1) e) in
          both_ways (has_link (links_of t) l) is
          (subst (λ (x : Link). has_link (links_of t) x ≡ true) (link_moved s targets counts b n w.0 w.1 ne elsewhere same ∙ w.4)
          (word_linked t w.0 w.1 tidy.shape (omega (arith, w.2, sound.shape.filled_most)) w.3 (omega (arith, same, w.5)))))
    ] in
    ap (λ (j : ℕ). slice_index after.words j) (ap (λ (x : ℕ). x + l.offset) (sym p.3 ∙ ap (λ (x : ℕ). x * s.size) row) ∙ ap (λ (x : ℕ). w.0 * s.size + x) (sym here))
    ∙ other_slot s (λ (i : ℕ). word_in vs b i) w.0 w.1 n between after sound.shape copied le ne w.3 ∙ roomy.undone (w.0 * s.size + w.1) below leads
  where
    dropped_leads : (s : Slots) (i : ℕ) → is_dropped s.size s.next s.targets i ≡ true → (i / s.size ≡ s.next → ⊥) → leads_in s.size s.next s.targets i ≡ true
    dropped_leads s i d ne = grind (arith, nat_tests)

    to_next : (s : Slots) (i : ℕ) → slice_index s.targets i ≡ s.next → is_dropped s.size s.next s.targets i ≡ true
    to_next s i e = grind (arith, nat_tests)

-- which words change on a miss of block b of the program in turn, of n words
pub miss_words : (s : Slots) (targets : List ℕ) (counts : Counts) (vs : Images) (b n k : ℕ) (before between after : RamState) → SlotsServe s vs before.words →
    Roomy s targets k before between → CountsMove s counts k → IsAbsent s (key_of s.turn b) → b < 2 ^ 19 → n ≡ length_at (vs s.turn) b → n ≤ s.size → Copied (λ (i : ℕ). word_in vs (key_of s.turn b) i) (s.next * s.size) n between after →
    WordsMove (vs s.turn) (kept_by s) (kept_by (filled_slots s targets counts (key_of s.turn b) n)) before after
miss_words s targets counts vs b n k before between after sound roomy move absent small long le copied =
    let key : ℕ = key_of s.turn b in
    let t : Slots = filled_slots s targets counts key n in
    let tidy : Tidy t = moved_tidy s targets counts vs key n k before between sound roomy move absent in
    record {
      changes = λ i. elim (cases_lt i (s.next * s.size)) [
        | inl below ↦ older_word s targets counts vs key n k i _ before between sound roomy move absent (copied.below i below)
        | inr from ↦ elim (cases_lt i (s.next * s.size + n)) [
          | inl inside ↦ inr (inl (record {
            block = b;
            first = s.next * s.size;
            offset = i - s.next * s.size;
            stands = slot_placed t s.next b tidy.shape (next_filled s sound.shape) small (here_block s key sound.shape);
            is_new = λ (h : Placed (kept_by s) b (s.next * s.size)). (let p = placed_slot s b (s.next * s.size) sound.shape h in absent p.0 p.1 p.2);
            inside = omega arith;
            index = omega arith;
          }))
          | inr past ↦ older_word s targets counts vs key n k i _ before between sound roomy move absent (copied.wrote.spared.beyond i past)
        ]
      ];
      restored = λ l f was is h h'. undone_restored s targets counts vs key n k before between after l f sound roomy move absent le copied was is h h';
    }
