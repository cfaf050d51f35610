-- A miss: the slots and the ram after a block has taken the next slot.
use Rattle.std.proofs.Common.{◌≡◌, ◌⊎◌, ℕ, ◌+◌, ◌*◌, ◌/◌, ◌%◌, ◌<◌, ◌≤◌, min, true, false, List, length, Some, slice_index, slice_set, arith, refl, sym, ◌∙◌, ap, subst, inl, inr}
use Rattle.std.proofs.lemmas.Bool.{cases_Bool, cases_eq, cases_lt, both_ways}
use Rattle.std.proofs.lemmas.Bool.Decides.{nat_tests}
use Rattle.std.proofs.lemmas.List.{get_or-set_same, get_or-set_other}
use Rattle.std.proofs.lemmas.Nat.{row_fits}
use Rattle.swi_slots.specs.Keys.{Images, owner_of, word_in, words_in, ExitOf, IsKnown, goes}
use Rattle.swi_outside.specs.CacheRam.{RamState}
use Rattle.swi_rom.specs.Record.{ebreak, IsJump}
use Rattle.swi_slots.specs.Slots.{Slots, InShape, links_of}
use Rattle.swi_slots.specs.Sound.{SlotsServe, LinkStands}
use Rattle.swi_rom.specs.Writing.{Wrote, Copied}
use Rattle.swi_slots.specs.Steps.{is_dropped, leads_in, settled, IsAbsent, Cleared, leading_in}
use Rattle.swi_rom.specs.declared.rom.Counts.{Counts}
use Rattle.swi_rom.specs.Rams.{wrote_none}
use Rattle.swi_slots.proofs.Shapes.{settled_shape}
use Rattle.swi_slots.specs.Queue.{next_free}
use Rattle.swi_slots.specs.SlotLinks.{Tidy, word_below, word_slot, word_is}
use Rattle.swi_slots.specs.Coheres.{length_most}
use Rattle.swi_slots.specs.Inside.{known_short}

-- room has been made for a block in the next slot: no link leads from it or to it
pub record Roomy (s : Slots) (targets : List ℕ) (k : ℕ) (before between : RamState) : Type 0 where
  pub long : length targets ≡ length s.targets
  pub dropped : (i : ℕ) → i < s.slots * s.size → is_dropped s.size s.next s.targets i ≡ true → s.slots ≤ slice_index targets i
  pub rest : (i : ℕ) → i < s.slots * s.size → is_dropped s.size s.next s.targets i ≡ false → slice_index targets i ≡ slice_index s.targets i
  pub undone : (i : ℕ) → i < s.slots * s.size → leads_in s.size s.next s.targets i ≡ true → slice_index between.words i ≡ ebreak
  pub others : (i : ℕ) → (i < s.slots * s.size → leads_in s.size s.next s.targets i ≡ false) → slice_index between.words i ≡ slice_index before.words i
  pub wrote : Wrote (s.slots * s.size) k before between

-- where a slot is free, no link leads to it
free_target : (s : Slots) (vs : Images) (words : List ℕ) (i : ℕ) → SlotsServe s vs words → s.filled < s.slots → i < s.slots * s.size → slice_index s.targets i ≡ s.next → ⊥
free_target s vs words i sound lt below e =
    let next : s.next ≡ s.filled = next_free s sound.shape lt in
    let small : slice_index s.targets i < s.slots = omega (arith, sound.shape.next_below) in
    let p = word_is s i sound.shape in
    let row : i / s.size < s.filled = sound.stands i below small in
    let k = sound.linked (i / s.size) (i % s.size) row p.1 (subst (λ (j : ℕ). slice_index s.targets j < s.slots) (sym p.0) small) in
    let t : slice_index s.targets i < s.filled = subst (λ (j : ℕ). slice_index s.targets j < s.filled) p.0 k.target in
    omega arith

pub roomy_free : (s : Slots) (vs : Images) (before : RamState) → SlotsServe s vs before.words → s.filled < s.slots → Roomy s s.targets 0 before before
roomy_free s vs before sound lt = record {
  long = refl;
  dropped = λ i below d. elim (cases_lt (slice_index s.targets i) s.slots) [
    | inl small ↦ absurd (elim (cases_eq (slice_index s.targets i) s.next) [
      | inl e ↦ free_target s vs before.words i sound lt below e
      | inr ne ↦ (let row : i / s.size < s.filled = sound.stands i below small in
          let next : s.next ≡ s.filled = next_free s sound.shape lt in
          let no : is_dropped s.size s.next s.targets i ≡ false = grind (arith, nat_tests) in
          both_ways (is_dropped s.size s.next s.targets i) no d)
    ])
    | inr le ↦ le
  ];
  rest = λ i below d. refl;
  undone = λ i below l. absurd (free_target s vs before.words i sound lt below (grind (arith, nat_tests)));
  others = λ i f. refl;
  wrote = wrote_none (s.slots * s.size) before;
}

pub roomy_full : (s : Slots) (targets : List ℕ) (before between : RamState) → Cleared s.slots s.size s.next (s.slots * s.size) s.targets targets before between →
    Roomy s targets (leading_in s.size s.next s.targets (s.slots * s.size)) before between
roomy_full s targets before between c = record {
  long = c.length_stays;
  dropped = λ i below d. let e = rw d at (c.dropped i below) in omega arith;
  rest = λ i below d. rw d at (c.dropped i below);
  undone = λ i below l. rw l at (c.undone i below);
  others = λ i f. elim (cases_lt i (s.slots * s.size)) [
    | inl below ↦ (let l = f below in rw l at (c.undone i below))
    | inr le ↦ c.beyond i le
  ];
  wrote = c.wrote;
}

abbrev pub filled_slots : Slots → List ℕ → Counts → ℕ → ℕ → Slots
filled_slots s targets counts b n = settled (record s { targets = targets; counts = counts }) b n

-- a filled slot is the one that was filled last, or it was filled before
pub slot_cases : (s : Slots) (m : ℕ) → InShape s → m < min (s.filled + 1) s.slots → (m ≡ s.next) ⊎ ((m < s.filled) × (m ≡ s.next → ⊥))
slot_cases s m shape lt = elim (cases_eq m s.next) [
  | inl e ↦ inl e
  | inr ne ↦ elim (cases_lt s.filled s.slots) [
    | inl free ↦ (let next : s.next ≡ s.filled = next_free s shape free in inr (grind arith, ne))
    | inr full ↦ inr (omega arith, ne)
  ]
]

pub next_filled : (s : Slots) → InShape s → s.next < min (s.filled + 1) s.slots
next_filled s shape = elim (cases_lt s.filled s.slots) [
  | inl free ↦ (let next : s.next ≡ s.filled = next_free s shape free in omega arith)
  | inr full ↦ omega (arith, shape.next_below)
]

-- a word of another slot keeps its block
pub other_block : (s : Slots) (b m : ℕ) → (m ≡ s.next → ⊥) → slice_index (slice_set s.blocks s.next b) m ≡ slice_index s.blocks m
other_block s b m ne = get_or-set_other s.blocks s.next m b 0 ne

pub here_block : (s : Slots) (b : ℕ) → InShape s → slice_index (slice_set s.blocks s.next b) s.next ≡ b
here_block s b shape = get_or-set_same s.blocks s.next b 0 (omega (arith, shape.next_below, shape.blocks_long))

-- a target that is left is that of a link of another slot to another slot
pub record Left (s : Slots) (targets : List ℕ) (m o : ℕ) : Type 0 where
  pub filled : m < s.filled
  pub other : m ≡ s.next → ⊥
  pub same : slice_index targets (m * s.size + o) ≡ slice_index s.targets (m * s.size + o)
  pub elsewhere : slice_index s.targets (m * s.size + o) ≡ s.next → ⊥

pub target_left : (s : Slots) (targets : List ℕ) (k m o : ℕ) (a b : RamState) → InShape s → Roomy s targets k a b → m < min (s.filled + 1) s.slots → o < s.size → slice_index targets (m * s.size + o) < s.slots →
    Left s targets m o
target_left s targets k m o a b shape roomy lt lt' t =
    let below : m * s.size + o < s.slots * s.size = word_below s m o shape (omega arith) lt' in
    let row : (m * s.size + o) / s.size ≡ m = (word_slot s m o lt').0 in
    elim (cases_Bool (is_dropped s.size s.next s.targets (m * s.size + o))) [
      | inl d ↦ absurd (omega (arith, roomy.dropped (m * s.size + o) below d))
      | inr d ↦ (let ne : m ≡ s.next → ⊥ = λ (e : m ≡ s.next). both_ways (is_dropped s.size s.next s.targets (m * s.size + o)) d (grind (arith, nat_tests)) in record {
        filled = elim (slot_cases s m shape lt) [ inl e ↦ absurd (ne e) | inr w ↦ w.0 ];
        other = ne;
        same = roomy.rest (m * s.size + o) below d;
        elsewhere = λ (e : slice_index s.targets (m * s.size + o) ≡ s.next). both_ways (is_dropped s.size s.next s.targets (m * s.size + o)) d (grind (arith, nat_tests));
      })
    ]

-- the words of another slot are as when room was made
pub other_slot : (s : Slots) (word : ℕ → ℕ) (m o n : ℕ) (between after : RamState) → InShape s → Copied word (s.next * s.size) n between after → n ≤ s.size → (m ≡ s.next → ⊥) → o < s.size →
    slice_index after.words (m * s.size + o) ≡ slice_index between.words (m * s.size + o)
other_slot s word m o n between after shape copied le ne lt = elim (cases_lt m s.next) [
  | inl less ↦ copied.below (m * s.size + o) (omega (arith, row_fits m s.size s.next s.size less (omega arith)))
  | inr more ↦ copied.wrote.spared.beyond (m * s.size + o) (omega (arith, row_fits s.next s.size m s.size (grind arith) (omega arith)))
]

moved_link : (s : Slots) (targets : List ℕ) (counts : Counts) (vs : Images) (b m o n k : ℕ) (before between after : RamState) → SlotsServe s vs before.words → Roomy s targets k before between →
    Copied (λ (i : ℕ). word_in vs b i) (s.next * s.size) n between after → n ≤ s.size → m < min (s.filled + 1) s.slots → o < s.size → slice_index targets (m * s.size + o) < s.slots →
    LinkStands (filled_slots s targets counts b n) vs after.words m o
moved_link s targets counts vs b m o n k before between after sound roomy copied le lt lt' t =
    let left = target_left s targets k m o before between sound.shape roomy lt lt' t in
    let link = sound.linked m o left.filled lt' (omega (arith, left.same)) in
    let block : slice_index (slice_set s.blocks s.next b) m ≡ slice_index s.blocks m = other_block s b m left.other in
    let row : (m * s.size + o) / s.size ≡ m = (word_slot s m o lt').0 in
    let quiet : leads_in s.size s.next s.targets (m * s.size + o) ≡ false =
    (let ne = left.elsewhere in grind (arith, nat_tests)) in
    let words : slice_index after.words (m * s.size + o) ≡ slice_index before.words (m * s.size + o) =
    other_slot s (λ (i : ℕ). word_in vs b i) m o n between after sound.shape copied le left.other lt' ∙ roomy.others (m * s.size + o) (λ h. quiet) in
    let target : slice_index (slice_set s.blocks s.next b) (slice_index s.targets (m * s.size + o)) ≡ slice_index s.blocks (slice_index s.targets (m * s.size + o)) =
    other_block s b (slice_index s.targets (m * s.size + o)) left.elsewhere in
    record {
      is_exit = subst (λ (c : ℕ). ExitOf vs c o) (sym block) link.is_exit;
      target = omega (arith, left.same, link.target, sound.shape.filled_most);
      offset = link.offset;
      place_is = ap (λ (c : ℕ). goes vs c (word_in vs c (o + 1))) block ∙ link.place_is
          ∙ ap (λ (c : ℕ). Some (c, link.offset)) (sym target ∙ ap (λ (x : ℕ). slice_index (slice_set s.blocks s.next b) x) (sym left.same));
      jumps = subst (λ (x : ℕ). IsJump (m * s.size + o) (x * s.size + link.offset) (slice_index after.words (m * s.size + o))) (sym left.same)
          (subst (λ (w : ℕ). IsJump (m * s.size + o) (slice_index s.targets (m * s.size + o) * s.size + link.offset) w) (sym words) link.jumps);
    }

moved_plain : (s : Slots) (targets : List ℕ) (vs : Images) (b m o n k : ℕ) (before between after : RamState) → SlotsServe s vs before.words → Roomy s targets k before between →
    Copied (λ (i : ℕ). word_in vs b i) (s.next * s.size) n between after → n ≤ s.size → m < s.filled → (m ≡ s.next → ⊥) → o < words_in vs (slice_index s.blocks m) → s.slots ≤ slice_index targets (m * s.size + o) →
    slice_index after.words (m * s.size + o) ≡ word_in vs (slice_index s.blocks m) o
moved_plain s targets vs b m o n k before between after sound roomy copied le lt ne lt' t =
    let inside : o < s.size = omega (arith, length_most s vs before.words m sound lt) in
    let below : m * s.size + o < s.slots * s.size = word_below s m o sound.shape (omega (arith, sound.shape.filled_most)) inside in
    let row : (m * s.size + o) / s.size ≡ m = (word_slot s m o inside).0 in
    other_slot s (λ (i : ℕ). word_in vs b i) m o n between after sound.shape copied le ne inside ∙
    elim (cases_eq (slice_index s.targets (m * s.size + o)) s.next) [
      | inl e ↦ (let leads : leads_in s.size s.next s.targets (m * s.size + o) ≡ true = grind (arith, nat_tests) in
          roomy.undone (m * s.size + o) below leads ∙ sym (sound.linked m o lt inside (omega (arith, sound.shape.next_below))).is_exit.leaves)
      | inr other ↦ (let quiet : leads_in s.size s.next s.targets (m * s.size + o) ≡ false = grind (arith, nat_tests) in
          let kept : is_dropped s.size s.next s.targets (m * s.size + o) ≡ false = grind (arith, nat_tests) in
          roomy.others (m * s.size + o) (λ h. quiet) ∙ sound.plain m o lt lt' (omega (arith, roomy.rest (m * s.size + o) below kept)))
    ]

-- what the counts are afterwards, but for evictions and unlinks
pub record CountsMove (s : Slots) (counts : Counts) (k : ℕ) : Type 0 where
  pub services : counts.services ≡ s.counts.services
  pub misses : counts.misses ≡ s.counts.misses
  pub evictions : counts.evictions ≤ s.counts.misses + 1
  pub links : counts.links ≡ s.counts.links
  pub unlinks : counts.unlinks ≡ s.counts.unlinks + k
  pub copied : counts.copied ≡ s.counts.copied

moved_shape : (s : Slots) (targets : List ℕ) (counts : Counts) (b n k : ℕ) → InShape s → length targets ≡ length s.targets → CountsMove s counts k → InShape (filled_slots s targets counts b n)
moved_shape s targets counts b n k shape long move =
    settled_shape (record s { targets = targets; counts = counts }) b n (record {
      some_slot = shape.some_slot;
      size_least = shape.size_least;
      size_most = shape.size_most;
      words_few = shape.words_few;
      turn_below = shape.turn_below;
      programs_most = shape.programs_most;
      next_below = shape.next_below;
      filled_most = shape.filled_most;
      blocks_long = shape.blocks_long;
      lengths_long = shape.lengths_long;
      targets_long = long ∙ shape.targets_long;
      next_is = shape.next_is ∙ ap (λ (m : ℕ). m % s.slots) (sym move.misses);
      filled_is = shape.filled_is ∙ ap (λ (m : ℕ). min m s.slots) (sym move.misses);
    })

pub moved_tidy : (s : Slots) (targets : List ℕ) (counts : Counts) (vs : Images) (b n k : ℕ) (before between : RamState) → SlotsServe s vs before.words → Roomy s targets k before between → CountsMove s counts k → IsAbsent s b →
    Tidy (filled_slots s targets counts b n)
moved_tidy s targets counts vs b n k before between sound roomy move absent = record {
  shape = moved_shape s targets counts b n k sound.shape roomy.long move;
  distinct = λ m l lt lt' e. elim (slot_cases s m sound.shape lt) [
    | inl here ↦ elim (slot_cases s l sound.shape lt') [
      | inl here' ↦ here ∙ sym here'
      | inr other ↦ absurd (absent l other.0 (sym (other_block s b l other.1) ∙ sym e ∙ ap (λ (x : ℕ). slice_index (slice_set s.blocks s.next b) x) here ∙ here_block s b sound.shape))
    ]
    | inr other ↦ elim (slot_cases s l sound.shape lt') [
      | inl here ↦ absurd (absent m other.0 (sym (other_block s b m other.1) ∙ e ∙ ap (λ (x : ℕ). slice_index (slice_set s.blocks s.next b) x) here ∙ here_block s b sound.shape))
      | inr other' ↦ sound.distinct m l other.0 other'.0 (sym (other_block s b m other.1) ∙ e ∙ other_block s b l other'.1)
    ]
  ];
  stands = λ i below t. elim (cases_Bool (is_dropped s.size s.next s.targets i)) [
    | inl d ↦ absurd (omega (arith, roomy.dropped i below d))
    | inr d ↦ (let row : i / s.size < s.filled = sound.stands i below (omega (arith, roomy.rest i below d)) in omega (arith, sound.shape.filled_most))
  ];
}

pub moved_sound : (s : Slots) (targets : List ℕ) (counts : Counts) (vs : Images) (b n k : ℕ) (before between after : RamState) → SlotsServe s vs before.words → s.counts.misses ≤ s.counts.services →
    Roomy s targets k before between → CountsMove s counts k → IsAbsent s b → IsKnown vs b → n ≡ words_in vs b → Copied (λ (i : ℕ). word_in vs b i) (s.next * s.size) n between after →
    counts.unlinks + length (links_of (filled_slots s targets counts b n)) ≤ s.counts.links →
    SlotsServe (filled_slots s targets counts b n) vs after.words
moved_sound s targets counts vs b n k before between after sound few roomy move absent known long copied unlinks =
    let tidy = moved_tidy s targets counts vs b n k before between sound roomy move absent in
    let le : n ≤ s.size = omega (arith, known_short vs b (sound.images (owner_of b)) known, sound.size_most (owner_of b)) in
    let words : length after.words ≡ length before.words = copied.wrote.spared.length_stays ∙ roomy.wrote.spared.length_stays in
    record {
      shape = tidy.shape;
      images = sound.images;
      size_most = sound.size_most;
      fits = omega (arith, sound.fits);
      distinct = tidy.distinct;
      known = λ m lt. elim (slot_cases s m sound.shape lt) [
        | inl here ↦ subst (λ (x : ℕ). IsKnown vs (slice_index (slice_set s.blocks s.next b) x)) (sym here) (subst (λ (c : ℕ). IsKnown vs c) (sym (here_block s b sound.shape)) known)
        | inr other ↦ subst (λ (c : ℕ). IsKnown vs c) (sym (other_block s b m other.1)) (sound.known m other.0)
      ];
      lengths_are = λ m lt. elim (slot_cases s m sound.shape lt) [
        | inl here ↦ subst (λ (x : ℕ). slice_index (slice_set s.lengths s.next n) x ≡ words_in vs (slice_index (slice_set s.blocks s.next b) x)) (sym here)
            (get_or-set_same s.lengths s.next n 0 (omega (arith, sound.shape.next_below, sound.shape.lengths_long)) ∙ long ∙ ap (λ (c : ℕ). words_in vs c) (sym (here_block s b sound.shape)))
        | inr other ↦ get_or-set_other s.lengths s.next m n 0 other.1 ∙ sound.lengths_are m other.0 ∙ ap (λ (c : ℕ). words_in vs c) (sym (other_block s b m other.1))
      ];
      stands = tidy.stands;
      linked = λ m o lt lt' t. moved_link s targets counts vs b m o n k before between after sound roomy copied le lt lt' t;
      plain = λ m o lt lt' t. elim (slot_cases s m sound.shape lt) [
        | inl here ↦ (
            let inside : o < n = omega (arith, subst (λ (c : ℕ). o < words_in vs c) (ap (λ (x : ℕ). slice_index (slice_set s.blocks s.next b) x) here ∙ here_block s b sound.shape) lt') in
            ap (λ (x : ℕ). slice_index after.words (x * s.size + o)) here ∙ copied.copied o inside ∙ ap (λ (c : ℕ). word_in vs c o) (sym (ap (λ (x : ℕ). slice_index (slice_set s.blocks s.next b) x) here ∙ here_block s b sound.shape)))
        | inr other ↦ (
            let block = other_block s b m other.1 in
            moved_plain s targets vs b m o n k before between after sound roomy copied le other.0 other.1 (subst (λ (c : ℕ). o < words_in vs c) block lt') t ∙ ap (λ (c : ℕ). word_in vs c o) (sym block))
      ];
      misses_few = omega (arith, move.misses, move.services);
      evictions_few = omega (arith, move.evictions, move.misses);
      copied_few = (let c : s.counts.copied + n ≤ (s.counts.misses + 1) * 1024 = omega (arith, sound.copied_few, sound.shape.size_most) in omega (arith, move.copied, move.misses));
      links_few = omega (arith, sound.links_few, move.links, move.services);
      unlinks_few = omega (arith, move.links);
    }
