-- What `arrive`, `place` and `enter` come to.
use Rattle.std.proofs.Common.{◌≡◌, ◌==◌, ◌&&◌, ℕ, zero, suc, ◌+◌, ◌-◌, ◌*◌, ◌/◌, ◌%◌, ◌^◌, ◌<◌, ◌≤◌, Bool, true, false, nat_lt, if◌then◌else◌, List, length, slice_index, Option, Some, None, arith, refl, sym, ◌∙◌, ap, subst}
use Rattle.std.proofs.lemmas.Bool.{lt-ltb, le-ltb, eq-eqb, ne_eqb, and_left}
use Rattle.std.proofs.lemmas.Nat.{row_fits}
use Rattle.swi_image.specs.Checks.{block_of}
use Rattle.swi_image.specs.Format.{ImageData}
use Rattle.swi_image.specs.Laws.{block_inside, place_inside}
use Rattle.swi_image.specs.Place.{distance, length_at, place_of}
use Rattle.swi_image.specs.Sound.{IsImage}
use Rattle.swi_rom.specs.Blocks.{block_short}
use Rattle.swi_rom.specs.Policy.{more_service}
use Rattle.swi_rom.specs.Record.{indirect}
use Rattle.swi_slots.specs.Arrived.{Arrived}
use Rattle.swi_slots.specs.Keys.{Images, key_of}
use Rattle.swi_slots.specs.Slots.{Slots, kept_by, setting_of}
use Rattle.swi_slots.specs.Sound.{SlotsServe}
use Rattle.swi_slots.specs.Steps.{IsAbsent, counted_slots}
use Rattle.swi_slots.proofs.Arriving.{counted_sound, hit_arrived}
use Rattle.swi_slots.proofs.Crossing.{entered}
use Rattle.swi_chip.specs.declared.chip.Chip.{Chip}
use Rattle.swi_chip.specs.declared.chip.ChipCounts.{ChipCounts}
use Rattle.swi_chip.specs.Service.{HasTables, StandsFor, ToFill, HasArrived, CountedService, CountsRefused, ChipServed, AnswersAt, address_of, no_text}
use Rattle.swi_chip.proofs.Bounding.{entry_not, few_fifo, few_outside}
use Rattle.swi_chip.proofs.Filling.{few_blocks, key_is, small_mark}
use Rattle.swi_chip.proofs.Filled.{any_ram, any_words}

-- ---- a service is counted

services_by : (f x m y : ℕ) → x ≡ m % 2 ^ 32 → y ≡ (if nat_lt 0 f then (x + 1) % 2 ^ 32 else x) → y ≡ (m + more_service f) % 2 ^ 32
services_by zero x m y e is = is ∙ e ∙ ap (λ (n : ℕ). n % 2 ^ 32) (let same : m ≡ m + 0 = omega arith in same)
services_by (suc f) x m y e is =
    is ∙ ap (λ (t : Bool). if t then (x + 1) % 2 ^ 32 else x) (lt-ltb 0 (suc f) (omega arith)) ∙ (let w : (x + 1) % 2 ^ 32 ≡ (m + 1) % 2 ^ 32 = omega (arith, e) in w)

module _ {s : Slots} {vs : Images} {ram : List ℕ} {lists : List (List ℕ)} {c : Chip} (k : StandsFor s vs ram lists c) where
  pub counted_stands : (q : ChipCounts) → CountedService c.counts q c.filled → StandsFor (counted_slots s) vs ram lists (record c { counts = q })
  counted_stands q did = record {
    serves = counted_sound s vs ram k.serves;
    holds = record {
      stand = k.holds.stand;
      slots_are = k.holds.slots_are;
      long = k.holds.long;
      links_long = k.holds.links_long;
      counted = k.holds.counted;
      linked = k.holds.linked;
      listed = k.holds.listed;
      leads = k.holds.leads;
      held = k.holds.held;
      blocks_long = k.holds.blocks_long;
      blocks_are = k.holds.blocks_are;
    };
    rows = k.rows;
    tables = k.tables;
    one = k.one;
    slots_are = k.slots_are;
    size_is = k.size_is;
    next_is = k.next_is;
    filled_is = k.filled_is;
    cache_long = k.cache_long;
    marks = record { found = k.marks.found; known = k.marks.known };
    marks_long = k.marks_long;
    counts = record {
      services = services_by s.filled c.counts.services s.counts.services q.services k.counts.services (did.services ∙ ap (λ (f : ℕ). if nat_lt 0 f then (c.counts.services + 1) % 2 ^ 32 else c.counts.services) k.filled_is);
      misses = did.misses ∙ k.counts.misses;
      evictions = did.evictions ∙ k.counts.evictions;
      links = did.links ∙ k.counts.links;
      unlinks = did.unlinks ∙ k.counts.unlinks;
      copied = did.copied ∙ k.counts.copied;
    };
    starts_are = k.starts_are;
    numbers = k.numbers;
  }

  module _ (block : ℕ) (known : block < length (vs s.turn).blocks) where
    pub known_mark : block < length c.marks.now
    known_mark = (let a = k.marks_long in omega (arith, a, known))

    -- without a mark the block stands in no slot
    pub no_slot : slice_index c.marks.now block ≡ 0 → IsAbsent s (key_of s.turn block)
    no_slot none n lt is =
        let m = (k.marks.known n lt).1 in
        let same : slice_index c.marks.now (slice_index s.blocks n) ≡ slice_index c.marks.now block = ap (λ (b : ℕ). slice_index c.marks.now b) (is ∙ key_is k block) in
        omega (arith, m, same, none)

    -- with one it stands there
    pub hit : (q : ChipCounts) → CountedService c.counts q c.filled → (slice_index c.marks.now block ≡ 0 → ⊥) → HasArrived s vs ram block (slice_index c.marks.now block) (record c { counts = q })
    hit q did some =
        let f = k.marks.found block known_mark some in
        record {
          next = counted_slots s;
          words = ram;
          lists = lists;
          slot = f.0;
          stands = counted_stands q did;
          mark_is = f.3;
          arrived = λ before same. (
            before,
            same,
            hit_arrived s vs block f.0 before (subst (λ (ws : List ℕ). SlotsServe s vs ws) (sym same) k.serves) f.1 (let a = known_mark in let b = few_blocks k in omega (arith, a, b)) (f.2 ∙ sym (key_is k block)),
          );
        }

    pub hit_at : (mark : ℕ) → mark ≡ slice_index c.marks.now block → (q : ChipCounts) → CountedService c.counts q c.filled → (mark ≡ 0 → ⊥) → HasArrived s vs ram block mark (record c { counts = q })
    hit_at mark is q did some = subst (λ (n : ℕ). HasArrived s vs ram block n (record c { counts = q })) (sym is) (hit q did (λ none. some (is ∙ none)))

    pub to_fill : (q : ChipCounts) → CountedService c.counts q c.filled → slice_index c.marks.now block ≡ 0 → ToFill s vs ram lists block (record c { counts = q })
    to_fill q did none = record { serves = k.serves; stands = counted_stands q did; known = known; absent = no_slot none }

-- ---- places

distance_is : (a b c : ℕ) → b ≡ c → b < 2 ^ 32 → (a + (2 ^ 32 - b)) % 2 ^ 32 ≡ (a + 2 ^ 32 - c) % 2 ^ 32
distance_is a b c e lt = ap (λ (n : ℕ). n % 2 ^ 32) (let same : a + (2 ^ 32 - b) ≡ a + 2 ^ 32 - c = omega (arith, e, lt) in same)

module _ (v : ImageData) (base target : ℕ) (places ends : List ℕ) (image : IsImage v) (tables : HasTables v base places ends) (low : base < 2 ^ 32) (text_bytes : ℕ) (text : text_bytes ≡ 4 * length places) where
  abbrev far : ℕ
  far = (target + (2 ^ 32 - base)) % 2 ^ 32

  far_is : far ≡ distance v target
  far_is = distance_is target base v.base tables.base_is low

  pub place_odd : (far % 4 ≡ 0 → ⊥) → None ≡ place_of v target
  unfolding place_of
  place_odd odd =
      let t : (distance v target % 4 == 0) ≡ false = ne_eqb _ _ (λ e. odd (ap (λ (n : ℕ). n % 4) far_is ∙ e)) in
      sym (ap (λ (q : Bool). if q then Some (block_of v.starts (distance v target / 4), slice_index v.offsets (distance v target / 4)) else None) (and_left (distance v target % 4 == 0) (nat_lt (distance v target / 4) (length v.offsets)) t))

  pub place_past : far % 4 ≡ 0 → text_bytes ≤ far → None ≡ place_of v target
  unfolding place_of
  place_past even beyond =
      let past : length places ≤ far / 4 = omega (arith, beyond, text) in
      let t : (distance v target % 4 == 0) ≡ true = eq-eqb _ _ (ap (λ (n : ℕ). n % 4) (sym far_is) ∙ even) in
      let d : far / 4 ≡ distance v target / 4 = ap (λ (n : ℕ). n / 4) far_is in
      let u : nat_lt (distance v target / 4) (length v.offsets) ≡ false = le-ltb _ _ (let l = tables.places_long in omega (arith, d, l, past)) in
      sym (ap (λ (q : Bool). if q && nat_lt (distance v target / 4) (length v.offsets) then Some (block_of v.starts (distance v target / 4), slice_index v.offsets (distance v target / 4)) else None) t
      ∙ ap (λ (q : Bool). if q then Some (block_of v.starts (distance v target / 4), slice_index v.offsets (distance v target / 4)) else None) u)

  word_inside : far % 4 ≡ 0 → far < text_bytes → far / 4 < length places
  word_inside even below = omega (arith, below, text)

  pub place_here : far % 4 ≡ 0 → far < text_bytes → Some (slice_index places (far / 4) / 8192, slice_index places (far / 4) % 1024) ≡ place_of v target
  unfolding place_of
  place_here even below =
      let inside = word_inside even below in
      let t : (distance v target % 4 == 0) ≡ true = eq-eqb _ _ (ap (λ (n : ℕ). n % 4) (sym far_is) ∙ even) in
      let d : far / 4 ≡ distance v target / 4 = ap (λ (n : ℕ). n / 4) far_is in
      let low' : far / 4 < length v.offsets = (let l = tables.places_long in omega (arith, l, inside)) in
      let u : nat_lt (distance v target / 4) (length v.offsets) ≡ true = lt-ltb _ _ (omega (arith, d, low')) in
      let w = tables.places_are (far / 4) inside in
      let o : slice_index v.offsets (far / 4) < 1024 =
      offset_short (block_of v.starts (far / 4)) (block_inside v.starts (far / 4) image.some) (image.within (far / 4) low') in
      let high : slice_index places (far / 4) / 8192 ≡ block_of v.starts (far / 4) = parts_high (block_of v.starts (far / 4)) (slice_index v.offsets (far / 4)) (slice_index places (far / 4)) w o in
      let rest : slice_index places (far / 4) % 1024 ≡ slice_index v.offsets (far / 4) = parts_rest (block_of v.starts (far / 4)) (slice_index v.offsets (far / 4)) (slice_index places (far / 4)) w o in
      ap (λ (n : ℕ). Some (n, slice_index places (far / 4) % 1024)) high ∙ ap (λ (n : ℕ). Some (block_of v.starts (far / 4), n)) rest
      ∙ ap (λ (n : ℕ). Some (block_of v.starts n, slice_index v.offsets n)) d
      ∙ sym (ap (λ (q : Bool). if q && nat_lt (distance v target / 4) (length v.offsets) then Some (block_of v.starts (distance v target / 4), slice_index v.offsets (distance v target / 4)) else None) t
      ∙ ap (λ (q : Bool). if q then Some (block_of v.starts (distance v target / 4), slice_index v.offsets (distance v target / 4)) else None) u)
    where
      parts_high : (b o w : ℕ) → w ≡ b * 2 ^ 13 + o → o < 1024 → w / 8192 ≡ b
      parts_high b o w e lt = omega (arith, e, lt)

      parts_rest : (b o w : ℕ) → w ≡ b * 2 ^ 13 + o → o < 1024 → w % 1024 ≡ o
      parts_rest b o w e lt = omega (arith, e, lt)

      offset_short : (b : ℕ) → b < length v.starts → slice_index v.offsets (far / 4) < length_at v b → slice_index v.offsets (far / 4) < 1024
      offset_short b known lt = (let l = (image.lengths b known).1 in let m = image.most in omega (arith, l, m, lt))

-- ---- a jump

-- what a place says of its block
pub place_known : (v : ImageData) (target block offset : ℕ) → IsImage v → place_of v target ≡ Some (block, offset) → (block < length v.blocks) × (offset < length_at v block) × (offset < 1024)
place_known v target block offset image is =
    let p = place_inside v image target block offset is in
    let known : block < length v.starts = (let a = image.blocks in let b = p.0 in omega (arith, a, b)) in
    (p.0, p.1, (let l = (image.lengths block known).1 in let m = image.most in let b = p.1 in omega (arith, l, m, b)))

-- an answer is small
pub mark_low : {s : Slots} {vs : Images} {ram : List ℕ} {block mark : ℕ} {c' : Chip} → HasArrived s vs ram block mark c' → (h : ℕ) → h ≡ mark → h < 2 ^ 16
mark_low {s} {vs} {ram} {block} {mark} {c'} h n e =
    let arr = (h.arrived (any_ram ram) (any_words ram)).2 in
    let low : h.slot < h.next.slots = (let a = arr.filled in let b = arr.sound.shape.filled_most in omega (arith, a, b)) in
    let m = small_mark h.stands h.slot low in
    let row : h.slot * h.next.size ≡ h.slot * s.size = ap (λ (x : ℕ). h.slot * x) arr.size_stays in
    let w = h.mark_is in
    let l = arr.sound.shape.size_least in
    omega (arith, m, row, w, l, e)

-- an address of the cache
pub index_inside : {s : Slots} {vs : Images} {ram : List ℕ} {block mark : ℕ} {c' : Chip} (h : HasArrived s vs ram block mark c') (target offset : ℕ) → place_of (vs s.turn) target ≡ Some (block, offset) → h.slot * s.size + offset < h.next.slots * h.next.size
index_inside {s} {vs} {ram} {block} {mark} {c'} h target offset is =
    let arr = (h.arrived (any_ram ram) (any_words ram)).2 in
    let low : h.slot < h.next.slots = (let a = arr.filled in let b = arr.sound.shape.filled_most in omega (arith, a, b)) in
    let p = place_known (vs s.turn) target block offset (arr.sound.images s.turn) is in
    let q = block_short (vs s.turn) block (arr.sound.images s.turn) p.0 in
    let m = arr.sound.size_most s.turn in
    let r = row_fits h.slot h.next.size h.next.slots h.next.size low (omega arith) in
    let same : h.slot * s.size ≡ h.slot * h.next.size = ap (λ (n : ℕ). h.slot * n) (sym arr.size_stays) in
    let o = p.1 in
    omega (arith, o, q, m, r, same)

pub address_is : {s : Slots} {vs : Images} {ram : List ℕ} {lists : List (List ℕ)} {c : Chip} → StandsFor s vs ram lists c → (i : ℕ) → i < s.slots * s.size → (c.cache_at + 4 * i) % 2 ^ 32 ≡ address_of c i
address_is k i lt = (let r = k.numbers.room in omega (arith, r, lt))

-- and such an index is small
pub index_few : {s : Slots} {vs : Images} {ram : List ℕ} {block mark : ℕ} {c' : Chip} (h : HasArrived s vs ram block mark c') (target offset : ℕ) → place_of (vs s.turn) target ≡ Some (block, offset) → mark - 1 + offset < 2 ^ 16
index_few h target offset is =
    let i = index_inside h target offset is in
    let m = h.mark_is in
    let a = h.stands.holds.long in
    let b = h.stands.holds.stand.few in
    omega (arith, i, m, a, b)

-- nothing was refused
pub refuses_none : {q : Bool} {old new : Chip} → q ≡ false → CountsRefused false old new → CountsRefused q old new
refuses_none {q} {old} {new} e stays = subst (λ (x : Bool). CountsRefused x old new) (sym e) stays

pub entered_none : {s : Slots} {vs : Images} {ram : List ℕ} {lists : List (List ℕ)} {c : Chip} (k : StandsFor s vs ram lists c) (target : ℕ) → place_of (vs s.turn) target ≡ None → ChipServed s vs (indirect target) no_text c c
entered_none {s} {vs} {ram} {lists} {c} k target none = record {
  next = s;
  words = ram;
  lists = lists;
  stands = k;
  setting = refl;
  moves = sym (few_outside c.most (setting_of s) (kept_by s) (vs s.turn) (indirect target) none);
  bound = refuses_none (entry_not c.most (setting_of s) (kept_by s) (vs s.turn) target) (record { most = refl; refused = refl });
  answers = subst (λ (p : Option (ℕ × ℕ)). AnswersAt p s s (vs s.turn) c target no_text) (sym none) (refl, refl);
}

pub entered_some : {s : Slots} {vs : Images} {ram : List ℕ} {c c' : Chip} → CountsRefused false c c' → (target block offset mark : ℕ) → place_of (vs s.turn) target ≡ Some (block, offset) → HasArrived s vs ram block mark c' →
    (answer : ℕ) → answer ≡ (c'.cache_at + 4 * (mark - 1 + offset)) % 2 ^ 32 → ChipServed s vs (indirect target) answer c c'
entered_some {s} {vs} {ram} {c} {c'} stays target block offset mark is h answer answer_is =
    let a = h.arrived (any_ram ram) (any_words ram) in
    let arr : Arrived vs s block h.slot h.next (any_ram ram) a.0 = a.2 in
    let e = entered vs s h.next block offset h.slot target (any_ram ram) a.0 arr is in
    record {
      next = h.next;
      words = h.words;
      lists = h.lists;
      stands = h.stands;
      setting = setting_same s h.next arr.slots_stay arr.size_stays arr.programs_stay;
      moves = e.moves ∙ sym (few_fifo c.most (setting_of s) (kept_by s) (vs s.turn) (indirect target) (entry_not c.most (setting_of s) (kept_by s) (vs s.turn) target));
      bound = refuses_none (entry_not c.most (setting_of s) (kept_by s) (vs s.turn) target) stays;
      answers = subst (λ (p : Option (ℕ × ℕ)). AnswersAt p s h.next (vs s.turn) c' target answer) (sym is)
          (h.slot * s.size + offset, answer_is ∙ ap (λ (n : ℕ). (c'.cache_at + 4 * n) % 2 ^ 32) (index_is h.mark_is) ∙ address_is h.stands (h.slot * s.size + offset) (index_inside h target offset is), e.answer);
    }
  where
    index_is : mark ≡ h.slot * s.size + 1 → mark - 1 + offset ≡ h.slot * s.size + offset
    index_is m = omega (arith, m)

    setting_same : (s t : Slots) → t.slots ≡ s.slots → t.size ≡ s.size → t.programs ≡ s.programs → setting_of t ≡ setting_of s
    setting_same s t a b d = λ i. record { slots = a i; slot_words = b i; programs = d i }
