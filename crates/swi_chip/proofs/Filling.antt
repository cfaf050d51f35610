-- A block that stood in no slot has taken the next one: what the chip's numbers and marks are then.
use Rattle.std.proofs.Common.{◌≡◌, ℕ, ◌+◌, ◌*◌, ◌%◌, ◌^◌, ◌<◌, ◌≤◌, true, false, min, List, length, slice_index, slice_set, arith, refl, sym, ◌∙◌, ap, inl, inr}
use Rattle.std.proofs.lemmas.Bool.{cases_eq}
use Rattle.std.proofs.lemmas.List.{length-set, get_or-set_same, get_or-set_other}
use Rattle.std.proofs.Math.Nat.{mul-le-mul_left}
use Rattle.swi_image.specs.Place.{length_at}
use Rattle.swi_rom.specs.declared.rom.Counts.{Counts}
use Rattle.swi_slots.specs.Keys.{Images, key_of, number_of, owner_of, words_in}
use Rattle.swi_slots.specs.Slots.{Slots}
use Rattle.swi_chip.specs.declared.chip.Chip.{Chip}
use Rattle.swi_chip.specs.declared.chip.ChipCounts.{ChipCounts}
use Rattle.swi_chip.specs.Service.{CountsBy, StandsFor, CountedMiss}
use Rattle.swi_chip.specs.Undone.{begin_in}

-- ---- marks

-- the marks once the block has the slot
pub record MarksSettled (filled slots slot size block : ℕ) (blocks marks marks' : List ℕ) : Type 0 where
  pub long : length marks' ≡ length marks
  pub found : (b : ℕ) → b < length marks' → (slice_index marks' b ≡ 0 → ⊥) →
      (n : ℕ) × (n < min (filled + 1) slots) × (slice_index (slice_set blocks slot block) n ≡ b) × (slice_index marks' b ≡ n * size + 1)
  pub known : (n : ℕ) → n < min (filled + 1) slots → (slice_index (slice_set blocks slot block) n < length marks') × (slice_index marks' (slice_index (slice_set blocks slot block) n) ≡ n * size + 1)

-- what is asked of the slot and the block
pub record Settles (filled slots slot block : ℕ) (blocks marks : List ℕ) : Type 0 where
  pub below : slot < slots
  pub most : filled ≤ slots
  pub next : slot ≤ filled
  pub rows : slots ≤ length blocks
  pub inside : block < length marks
  pub absent : (n : ℕ) → n < filled → slice_index blocks n ≡ block → ⊥

grown : (filled slots slot n : ℕ) → filled ≤ slots → slot ≤ filled → slot < slots → n < filled → n < min (filled + 1) slots
grown filled slots slot n a b c d = grind arith

new_slot : (filled slots slot : ℕ) → filled ≤ slots → slot ≤ filled → slot < slots → slot < min (filled + 1) slots
new_slot filled slots slot a b c = grind arith

old_slot : (filled slots slot n : ℕ) → (filled < slots → slot ≡ filled) → n < min (filled + 1) slots → (n ≡ slot → ⊥) → n < filled
old_slot filled slots slot n a b c = grind arith

module _ (filled slots slot size block : ℕ) (blocks marks : List ℕ) (free : filled < slots → slot ≡ filled) (w : Settles filled slots slot block blocks marks)
    (found : (b : ℕ) → b < length marks → (slice_index marks b ≡ 0 → ⊥) → (n : ℕ) × (n < filled) × (slice_index blocks n ≡ b) × (slice_index marks b ≡ n * size + 1))
    (known : (n : ℕ) → n < filled → (slice_index blocks n < length marks) × (slice_index marks (slice_index blocks n) ≡ n * size + 1)) where
  block_here : slice_index (slice_set blocks slot block) slot ≡ block
  block_here = get_or-set_same blocks slot block 0 (let a = w.below in let b = w.rows in omega (arith, a, b))

  block_other : (n : ℕ) → (n ≡ slot → ⊥) → slice_index (slice_set blocks slot block) n ≡ slice_index blocks n
  block_other n ne = get_or-set_other blocks slot n block 0 ne

  -- over marks of which only that of the slot's old block is gone
  settled_marks : (mid : List ℕ) → length mid ≡ length marks → ((b : ℕ) → b < length marks → (slice_index mid b ≡ 0 → ⊥) → (slice_index mid b ≡ slice_index marks b) × ((n : ℕ) → n < filled → slice_index blocks n ≡ b → n ≡ slot → ⊥)) →
      ((n : ℕ) → n < filled → (n ≡ slot → ⊥) → slice_index mid (slice_index blocks n) ≡ slice_index marks (slice_index blocks n)) → MarksSettled filled slots slot size block blocks marks (slice_set mid block (slot * size + 1))
  settled_marks mid long same stay =
      let set : length (slice_set mid block (slot * size + 1)) ≡ length mid = length-set mid block (slot * size + 1) in
      let here : slice_index (slice_set mid block (slot * size + 1)) block ≡ slot * size + 1 = get_or-set_same mid block (slot * size + 1) 0 (let a = w.inside in omega (arith, a, long)) in
      record {
        long = set ∙ long;
        found = λ b lt some. elim (cases_eq b block) [
          | inl e ↦ (
            slot,
            new_slot filled slots slot w.most w.next w.below,
            block_here ∙ sym e,
            ap (λ (n : ℕ). slice_index (slice_set mid block (slot * size + 1)) n) e ∙ here,
          )
          | inr ne ↦
              let old : slice_index (slice_set mid block (slot * size + 1)) b ≡ slice_index mid b = get_or-set_other mid block b (slot * size + 1) 0 ne in
              let low : b < length marks = omega (arith, lt, set, long) in
              let m = same b low (λ none. some (old ∙ none)) in
              let f = found b low (λ none. some (old ∙ m.0 ∙ none)) in
              (f.0, grown filled slots slot f.0 w.most w.next w.below f.1, block_other f.0 (m.1 f.0 f.1 f.2) ∙ f.2, old ∙ m.0 ∙ f.3)
        ];
        known = λ n lt. elim (cases_eq n slot) [
          | inl e ↦
              let is : slice_index (slice_set blocks slot block) n ≡ block = ap (λ (x : ℕ). slice_index (slice_set blocks slot block) x) e ∙ block_here in (
                (let a = w.inside in omega (arith, a, is, set, long)),
                ap (λ (x : ℕ). slice_index (slice_set mid block (slot * size + 1)) x) is ∙ here ∙ ap (λ (x : ℕ). x * size + 1) (sym e),
              )
          | inr ne ↦
              let is = block_other n ne in
              let low = old_slot filled slots slot n free lt ne in
              let k = known n low in
              let other : slice_index blocks n ≡ block → ⊥ = w.absent n low in (
                (let a = k.0 in omega (arith, a, is, set, long)),
                ap (λ (x : ℕ). slice_index (slice_set mid block (slot * size + 1)) x) is ∙ (get_or-set_other mid block (slice_index blocks n) (slot * size + 1) 0 other ∙ (stay n low ne ∙ k.1)),
              )
        ];
      }

  -- while a slot is free
  pub marks_free : slot ≡ filled → MarksSettled filled slots slot size block blocks marks (slice_set marks block (slot * size + 1))
  marks_free next = settled_marks marks refl (λ b lt some. (refl, λ n low is e. omega (arith, low, e, next))) (λ n low ne. refl)

  -- where the slot's block leaves
  pub marks_full : slot < filled → ((n : ℕ) → n < filled → slice_index blocks n ≡ slice_index blocks slot → n ≡ slot) → MarksSettled filled slots slot size block blocks marks (slice_set (slice_set marks (slice_index blocks slot) 0) block (slot * size + 1))
  marks_full inside once =
      let old : ℕ = slice_index blocks slot in
      let low : old < length marks = (known slot inside).0 in
      let gone : slice_index (slice_set marks (slice_index blocks slot) 0) (slice_index blocks slot) ≡ 0 = get_or-set_same marks (slice_index blocks slot) 0 0 low in
      settled_marks (slice_set marks (slice_index blocks slot) 0) (length-set marks (slice_index blocks slot) 0)
      (λ b lt some. (
        get_or-set_other marks (slice_index blocks slot) b 0 0 (λ e. some (ap (λ (n : ℕ). slice_index (slice_set marks (slice_index blocks slot) 0) n) e ∙ gone)),
        λ n lower is e. some (ap (λ (n : ℕ). slice_index (slice_set marks (slice_index blocks slot) 0) n) (sym is ∙ ap (λ (x : ℕ). slice_index blocks x) e) ∙ gone),
      ))
      (λ n lower ne. get_or-set_other marks (slice_index blocks slot) (slice_index blocks n) 0 0 (λ e. ne (once n lower e)))

-- ---- counts

wraps : (x m n : ℕ) → x ≡ m % 2 ^ 32 → (x + n) % 2 ^ 32 ≡ (m + n) % 2 ^ 32
wraps x m n e = omega (arith, e)

pub count_free : (model : Counts) (old new : ChipCounts) (undone words : ℕ) → CountsBy model old → CountedMiss old new false undone words → CountsBy (record model { misses = model.misses + 1; copied = model.copied + words }) new
count_free model old new undone words by c = record {
  services = c.services ∙ by.services;
  misses = c.misses ∙ wraps old.misses model.misses 1 by.misses;
  evictions = c.evictions ∙ by.evictions;
  links = c.links ∙ by.links;
  unlinks = c.unlinks ∙ by.unlinks;
  copied = c.copied ∙ wraps old.copied model.copied words by.copied;
}

pub count_full : (model : Counts) (old new : ChipCounts) (undone words : ℕ) → CountsBy model old → CountedMiss old new true undone words →
    CountsBy (record model { evictions = model.evictions + 1; unlinks = model.unlinks + undone; misses = model.misses + 1; copied = model.copied + words }) new
count_full model old new undone words by c = record {
  services = c.services ∙ by.services;
  misses = c.misses ∙ wraps old.misses model.misses 1 by.misses;
  evictions = c.evictions ∙ wraps old.evictions model.evictions 1 by.evictions;
  links = c.links ∙ by.links;
  unlinks = c.unlinks ∙ wraps old.unlinks model.unlinks undone by.unlinks;
  copied = c.copied ∙ wraps old.copied model.copied words by.copied;
}

-- ---- what holds of a chip

number_same : (k : ℕ) → k < 2 ^ 19 → (number_of k ≡ k) × (owner_of k ≡ 0)
unfolding number_of owner_of
number_same k lt = (omega (arith, lt), omega (arith, lt))

module _ {s : Slots} {vs : Images} {ram : List ℕ} {lists : List (List ℕ)} {c : Chip} (k : StandsFor s vs ram lists c) where
  pub turn_is : s.turn ≡ 0
  turn_is = (let a = k.serves.shape.turn_below in let b = k.one in omega (arith, a, b))

  -- an image has few blocks
  pub few_blocks : length c.marks.now ≤ 2 ^ 19
  few_blocks =
      let i = k.serves.images s.turn in
      let a = i.blocks in let b = i.fewer in let d = i.few in let e = k.marks_long in
      omega (arith, a, b, d, e)

  pub key_is : (block : ℕ) → key_of s.turn block ≡ block
  key_is block = ap (λ (p : ℕ). key_of p block) turn_is ∙ omega arith

  -- the block of a filled slot, by its key
  pub own_block : (n : ℕ) → n < s.filled → (slice_index s.blocks n < length c.marks.now) × (slice_index c.blocks.now n ≡ slice_index s.blocks n)
  own_block n lt =
      let small : slice_index s.blocks n < length c.marks.now = (k.marks.known n lt).0 in
      (small, k.holds.blocks_are n lt ∙ (number_same (slice_index s.blocks n) (let f = few_blocks in omega (arith, small, f))).0)

  pub own_words : (n : ℕ) → n < s.filled → words_in vs (slice_index s.blocks n) ≡ length_at (vs s.turn) (slice_index s.blocks n)
  own_words n lt =
      let small = (own_block n lt).0 in
      let both = number_same (slice_index s.blocks n) (let f = few_blocks in omega (arith, small, f)) in
      ap (λ (p : ℕ). length_at (vs p) (number_of (slice_index s.blocks n))) (both.1 ∙ sym turn_is) ∙ ap (λ (b : ℕ). length_at (vs s.turn) b) both.0

  -- a block's words, by where they end
  pub ends_at : (block : ℕ) → block < length c.marks.now → (block < length c.ends.now) × (slice_index c.ends.now block ≡ begin_in c.ends.now block + length_at (vs s.turn) block)
  ends_at block lt =
      let inside : block < length c.ends.now = (let a = k.tables.ends_long in let b = k.marks_long in omega (arith, a, b, lt)) in
      (inside, k.tables.ends_are block inside)

  pub few_slots : s.slots ≤ 2 ^ 20
  few_slots = (let a = k.serves.shape.words_few in let b = mul-le-mul_left s.slots k.serves.shape.size_least in omega (arith, a, b))

  -- a slot's first word has a small index
  pub small_mark : (n : ℕ) → n < s.slots → n * s.size + s.size < 2 ^ 16
  small_mark n lt =
      let up : n + 1 ≤ s.slots = omega (arith, lt) in
      let m = mul-le-mul_left s.size up in
      let a = k.holds.long in
      let f = k.holds.stand.few in
      omega (arith, m, a, f)
