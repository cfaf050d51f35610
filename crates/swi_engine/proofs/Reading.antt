-- What the readers answer.
use Rattle.std.proofs.Common.{◌≡◌, ℕ, suc, zero, ◌+◌, ◌*◌, ◌/◌, ◌%◌, ◌<◌, ◌≤◌, ◌^◌, ◌==◌, ◌&&◌, List, [], ◌∷◌, map, filter, replicate, length, Bool, true, false, not, Option, Some, None, slice_index, slice_get, nat_lt, arith, refl, sym, ◌∙◌, ap, subst}
use Rattle.std.proofs.lemmas.Bool.{lt-ltb, le-ltb}
use Rattle.std.proofs.lemmas.List.{length-replicate}
use Rattle.std.proofs.lemmas.Nat.{div-add-mod', mod_below}
use Rattle.swi_image.specs.Format.{ImageData}
use Rattle.swi_image.specs.Sound.{IsImage}
use Rattle.swi_rom.specs.Record.{Placement}
use Rattle.swi_rom.specs.Coherent.{resident_of, pair_of}
use Rattle.swi_engine.specs.declared.joints.Joint.{Joint}
use Rattle.swi_engine.specs.State.{EngineData, empty_data, kept_by, shown_by, spot, used, is_copied_to}
use Rattle.swi_engine.specs.Sound.{EngineSound, InShape}

-- nothing stands at the word
pub shown_none : (e now : EngineData) (i : ℕ) → e ≡ now → (nat_lt (i / e.size) (used e) && (not (is_copied_to e.copy (i / e.size)) && nat_lt (i % e.size) (slice_index e.lengths (i / e.size)))) ≡ false → None ≡ shown_by now i
unfolding shown_by
shown_none e now i same is = subst (λ (t : EngineData). None ≡ shown_by t i) same (rw is refl)

pub shown_some : (e now : EngineData) (i b : ℕ) → e ≡ now → (nat_lt (i / e.size) (used e) && (not (is_copied_to e.copy (i / e.size)) && nat_lt (i % e.size) (slice_index e.lengths (i / e.size)))) ≡ true → b ≡ slice_index e.blocks (i / e.size) →
    Some (b, i % e.size) ≡ shown_by now i
unfolding shown_by
shown_some e now i b same is block = subst (λ (t : EngineData). Some (b, i % e.size) ≡ shown_by t i) same (rw is (ap (λ (x : ℕ). Some (x, i % e.size)) block))

-- the k-th oldest block
own_all : (size : ℕ) (blocks ns : List ℕ) → filter (λ (p : Placement). p.program == 0) (map (λ n. spot size blocks n) ns) ≡ map (λ n. spot size blocks n) ns
own_all size blocks [] = refl
own_all size blocks (n ∷ ns) = ap (λ (ps : List Placement). spot size blocks n ∷ ps) (own_all size blocks ns)

get_map : (size : ℕ) (blocks ns : List ℕ) (k : ℕ) → k < length ns → slice_get (map (λ n. spot size blocks n) ns) k ≡ Some (spot size blocks (slice_index ns k))
get_map size blocks [] k lt = absurd (omega arith)
get_map size blocks (n ∷ ns) zero lt = refl
get_map size blocks (n ∷ ns) (suc k) lt = get_map size blocks ns k (omega arith)

get_past : (size : ℕ) (blocks ns : List ℕ) (k : ℕ) → length ns ≤ k → slice_get (map (λ n. spot size blocks n) ns) k ≡ None
get_past size blocks [] k le = refl
get_past size blocks (n ∷ ns) zero le = absurd (omega arith)
get_past size blocks (n ∷ ns) (suc k) le = get_past size blocks ns k (omega arith)

pub resident_some : (e now : EngineData) (k n b : ℕ) → e ≡ now → k < length e.queue → n ≡ slice_index e.queue k → b ≡ slice_index e.blocks n → Some (b, n * e.size) ≡ resident_of (kept_by now) k
unfolding resident_of
resident_some e now k n b same lt n_is b_is =
    subst (λ (t : EngineData). Some (b, n * e.size) ≡ resident_of (kept_by t) k) same
    (sym (ap (λ (ps : List Placement). pair_of (slice_get ps k)) (own_all e.size e.blocks e.queue) ∙ ap (λ (o : Option Placement). pair_of o) (get_map e.size e.blocks e.queue k lt)
    ∙ ap (λ (m : ℕ). Some (slice_index e.blocks m, m * e.size)) (sym n_is) ∙ ap (λ (x : ℕ). Some (x, n * e.size)) (sym b_is)))

pub resident_none : (e now : EngineData) (k : ℕ) → e ≡ now → length e.queue ≤ k → None ≡ resident_of (kept_by now) k
unfolding resident_of
resident_none e now k same le =
    subst (λ (t : EngineData). None ≡ resident_of (kept_by t) k) same
    (sym (ap (λ (ps : List Placement). pair_of (slice_get ps k)) (own_all e.size e.blocks e.queue) ∙ ap (λ (o : Option Placement). pair_of o) (get_past e.size e.blocks e.queue k le)))

-- a new service
zeros_at : (n m : ℕ) (b : ℕ) → b < n → slice_index (replicate n m) b ≡ m
zeros_at zero m b lt = absurd (omega (arith, lt))
zeros_at (suc n) m zero lt = refl
zeros_at (suc n) m (suc b) lt = zeros_at n m b (omega (arith, lt))

-- there is a slot
slots_at : (q r k x : ℕ) → q * k + r ≡ x → r < k → k ≤ x → 1 ≤ q
slots_at zero r k x e lt le = absurd (omega (arith, e, lt, le))
slots_at (suc q) r k x e lt le = omega arith

pub some_slots : (bytes k : ℕ) → 2 ≤ k → 4 * k ≤ bytes → 1 ≤ bytes / 4 / k
some_slots bytes k least le = slots_at (bytes / 4 / k) (bytes / 4 % k) k (bytes / 4) (div-add-mod' (bytes / 4) k) (mod_below (bytes / 4) k (omega (arith, least))) (omega (arith, le))

pub new_shape : (slots size blocks : ℕ) → 1 ≤ slots → 2 ≤ size → size ≤ 1024 → slots * size ≤ 2 ^ 21 → InShape (empty_data slots size blocks)
new_shape slots size blocks some least most few = record {
  slots_some = some;
  size_least = least;
  size_most = most;
  words_few = few;
  used_most = omega arith;
  blocks_long = length-replicate slots 0;
  lengths_long = length-replicate slots 0;
  below = λ n h. absurd h;
  homed = record {
    known = λ n h. absurd h;
    home = λ n h. absurd h;
    only = λ b lt low. absurd (omega (arith, low, zeros_at blocks slots b (omega (arith, lt, length-replicate blocks slots))));
  };
}

pub new_sound : (slots size blocks : ℕ) (v : ImageData) (words : List ℕ) → 1 ≤ slots → 2 ≤ size → size ≤ 1024 → slots * size ≤ 2 ^ 21 → IsImage v → length v.blocks ≤ blocks → v.block_words ≤ size → slots * size ≤ length words →
    EngineSound (empty_data slots size blocks) v words
new_sound slots size blocks v words some least most few image all holds fits = record {
  stands = record {
    shape = new_shape slots size blocks some least most few;
    image = image;
    holds_block = holds;
    blocks_most = omega (arith, all, length-replicate blocks slots);
    fits = fits;
    once = tt;
    distinct = λ n m h h' s. absurd h;
    known = λ n h. absurd h;
    lengths_are = λ n h. absurd h;
    low = λ n h. absurd h;
    filled = λ n lt. absurd (omega (arith, lt));
    copy_is = tt;
    linked = λ j h. absurd h;
    apart = tt;
    plain = λ n o h lt none. absurd h;
  };
  few = record {
    misses_few = omega arith;
    unbooted = λ s. refl;
    copied_few = omega arith;
    evictions_few = omega arith;
    links_few = omega arith;
    unlinks_few = omega arith;
    copies_few = omega arith;
    queue_few = omega arith;
    words_few = omega arith;
    services_few = omega arith;
  };
}

-- what stands at a word, by the tests
pub at_beyond : (e now : EngineData) (i : ℕ) → e ≡ now → used e ≤ i / e.size → None ≡ shown_by now i
at_beyond e now i same le = shown_none e now i same (rw (le-ltb (i / e.size) (used e) le) refl)

pub at_copy : (e now : EngineData) (i : ℕ) → e ≡ now → is_copied_to e.copy (i / e.size) ≡ true → None ≡ shown_by now i
at_copy e now i same is = shown_none e now i same (rw is (second (nat_lt (i / e.size) (used e))))
  where
    second : (t : Bool) → (t && false) ≡ false
    second true = refl
    second false = refl

pub at_behind : (e now : EngineData) (i : ℕ) → e ≡ now → slice_index e.lengths (i / e.size) ≤ i % e.size → None ≡ shown_by now i
at_behind e now i same le = shown_none e now i same (rw (le-ltb (i % e.size) (slice_index e.lengths (i / e.size)) le) (third (nat_lt (i / e.size) (used e)) (not (is_copied_to e.copy (i / e.size)))))
  where
    third : (t u : Bool) → (t && (u && false)) ≡ false
    third true true = refl
    third true false = refl
    third false u = refl

pub at_word : (e now : EngineData) (i b : ℕ) → e ≡ now → i / e.size < used e → is_copied_to e.copy (i / e.size) ≡ false → i % e.size < slice_index e.lengths (i / e.size) → b ≡ slice_index e.blocks (i / e.size) → Some (b, i % e.size) ≡ shown_by now i
at_word e now i b same lt free lt' is = shown_some e now i b same (rw (lt-ltb (i / e.size) (used e) lt, free, lt-ltb (i % e.size) (slice_index e.lengths (i / e.size)) lt') refl) is

pub used_slots : (e : EngineData) (n : ℕ) → InShape e → n < used e → (n < length e.lengths) × (n < length e.blocks)
used_slots e n shape lt = (omega (arith, lt, shape.used_most, shape.lengths_long), omega (arith, lt, shape.used_most, shape.blocks_long))

pub new_is : (slots size blocks : ℕ) (q bs ls hs : List ℕ) (js : List Joint) → q ≡ [] → bs ≡ replicate slots 0 → ls ≡ replicate slots 0 → hs ≡ replicate blocks slots → js ≡ [] →
    let e : EngineData = record {
      slots = slots;
      size = size;
      queue = q;
      blocks = bs;
      lengths = ls;
      homes = hs;
      joints = js;
      copy = None;
      counts = record { services = 0; misses = 0; evictions = 0; links = 0; unlinks = 0; copied = 0 };
      words = 0;
      copies = 0;
    } in e ≡ empty_data slots size blocks
new_is slots size blocks q bs ls hs js qs bss lss hss jss = rw (qs, bss, lss, hss, jss) refl
