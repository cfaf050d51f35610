-- What `fill` needs and leaves.
use Rattle.std.proofs.Common.{◌≡◌, ℕ, ◌+◌, ◌-◌, ◌*◌, ◌^◌, ◌<◌, ◌≤◌, Bool, true, false, min, if◌then◌else◌, List, [], length, slice_index, slice_set, arith, refl, sym, ◌∙◌, ap, subst, inl, inr}
use Rattle.std.proofs.lemmas.Bool.{cases_lt}
use Rattle.swi_image.specs.Place.{length_at}
use Rattle.swi_outside.specs.CacheRam.{RamState}
use Rattle.swi_rom.specs.declared.rom.Counts.{Counts}
use Rattle.swi_slots.specs.Arrived.{Arrived}
use Rattle.swi_slots.specs.Keys.{Images, key_of, key_owner, key_number, number_of, words_in}
use Rattle.swi_slots.specs.Queue.{next_free}
use Rattle.swi_slots.specs.Slots.{Slots}
use Rattle.swi_slots.specs.Sound.{SlotsServe}
use Rattle.swi_slots.specs.Steps.{counted_slots, settled, wrapped}
use Rattle.swi_slots.proofs.Misses.{miss_arrived}
use Rattle.swi_chip.specs.declared.chip.Chip.{Chip}
use Rattle.swi_chip.specs.Held.{RowsHold}
use Rattle.swi_chip.specs.Missed.{ToMiss, Missed}
use Rattle.swi_chip.specs.Service.{CountsBy, KnowsMarks, HasNumbers, HasTables, StandsFor, ToFill, HasArrived, CountedMiss}
use Rattle.swi_chip.specs.Undone.{begin_in}
use Rattle.swi_chip.proofs.Filling.{MarksSettled, Settles, marks_free, marks_full, count_free, count_full, few_blocks, key_is, own_block, own_words, ends_at, few_slots, small_mark}

pub any_ram : List ℕ → RamState
any_ram words = record { words = words; fetches = 0; sets = 0; faults = 0; reach = 0; last_failed = false; fetched_at = [] }

pub any_words : (words : List ℕ) → (any_ram words).words ≡ words
unfolding any_ram
any_words words = refl

-- a chip that has been left so by `fill`
pub record FilledFields (c c' : Chip) (full : Bool) (undone words block old mark : ℕ) : Type 0 where
  pub counts : CountedMiss c.counts c'.counts full undone words
  pub slots : c'.slots ≡ c.slots
  pub size : c'.size.words ≡ c.size.words
  pub base : c'.base ≡ c.base
  pub next : c'.next ≡ wrapped (c.next + 1) c.slots
  pub filled : c'.filled ≡ min (c.filled + 1) c.slots
  pub marks : c'.marks.now ≡ slice_set (if full then slice_set c.marks.now old 0 else c.marks.now) block mark
  pub places : c'.places.now ≡ c.places.now
  pub ends : c'.ends.now ≡ c.ends.now
  pub image : c'.words.now ≡ c.words.now
  pub cache : length c'.cache.now ≡ length c.cache.now
  pub rest : c' ≡ record c { counts = c'.counts; next = c'.next; filled = c'.filled; cache = c'.cache; heads = c'.heads; links = c'.links; blocks = c'.blocks; marks = c'.marks; memo = c'.memo }
  pub memo : length c'.memo.now ≡ length c.memo.now

module _ {s : Slots} {vs : Images} {ram : List ℕ} {lists : List (List ℕ)} {block : ℕ} {c : Chip} (k : ToFill s vs ram lists block c) where
  abbrev t : Slots
  t = counted_slots s

  st : StandsFor (counted_slots s) vs ram lists c
  st = k.stands

  pub next_low : c.next < s.slots
  next_low = (let a = st.next_is in let b = k.serves.shape.next_below in omega (arith, a, b))

  pub next_block : c.next < length c.blocks.now
  next_block = (let a = st.holds.blocks_long in let b = next_low in omega (arith, a, b))

  pub block_low : block < length c.marks.now
  block_low = (let a = st.marks_long in let b = k.known in omega (arith, a, b))

  small : block < 2 ^ 19
  small = (let a = block_low in let b = few_blocks st in omega (arith, a, b))

  next_filled : s.filled ≡ s.slots → c.next < s.filled
  next_filled full = (let a = next_low in omega (arith, a, full))

  pub old_block : s.filled ≡ s.slots → (slice_index c.blocks.now c.next < length c.marks.now) × (slice_index c.blocks.now c.next ≡ slice_index s.blocks c.next)
  old_block full =
      let o = own_block st c.next (next_filled full) in
      (subst (λ (n : ℕ). n < length c.marks.now) (sym o.1) o.0, o.1)

  -- the words of a block, by the table
  pub words_at : (b : ℕ) → b < length c.marks.now → slice_index c.ends.now b - begin_in c.ends.now b ≡ length_at (vs s.turn) b
  words_at b lt = (let e = (ends_at st b lt).1 in omega (arith, e))

  pub words_order : (b : ℕ) → b < length c.marks.now → begin_in c.ends.now b ≤ slice_index c.ends.now b
  words_order b lt = (let e = (ends_at st b lt).1 in omega (arith, e))

  pub words_inside : (b : ℕ) → b < length c.marks.now → b < length c.ends.now
  words_inside b lt = (ends_at st b lt).0

  key_words : words_in vs (key_of s.turn block) ≡ length_at (vs s.turn) block
  key_words = ap (λ (p : ℕ). length_at (vs p) (number_of (key_of s.turn block))) (key_owner s.turn block small) ∙ ap (λ (b : ℕ). length_at (vs s.turn) b) (key_number s.turn block small)

  pub to_miss : (full : Bool) (old words : ℕ) → (full ≡ true → s.filled ≡ s.slots) → (full ≡ false → s.filled < s.slots) →
      (full ≡ true → old ≡ slice_index c.ends.now (slice_index c.blocks.now c.next) - begin_in c.ends.now (slice_index c.blocks.now c.next)) →
      words ≡ slice_index c.ends.now block - begin_in c.ends.now block →
      ToMiss (counted_slots s) vs ram c.cache.now c.heads.now c.links.now c.next full old block words c.blocks.now c.ends.now c.words.now c.size.words lists
  to_miss full old words is_full not_full old_is words_is = record {
    serves = st.serves;
    holds = st.holds;
    rows = st.rows;
    next_is = st.next_is;
    is_full = λ e. (let f = is_full e in omega (arith, f));
    not_full = not_full;
    old_is = λ e.
        let f = is_full e in
        let o = old_block f in
        old_is e ∙ words_at (slice_index c.blocks.now c.next) o.0 ∙ ap (λ (b : ℕ). length_at (vs s.turn) b) o.1 ∙ sym (own_words st c.next (next_filled f));
    absent = k.absent;
    known = k.known;
    small = small;
    len_is = words_is ∙ words_at block block_low ∙ sym key_words;
    size_is = st.size_is;
  }

  -- the mark is small
  pub mark_small : c.next * c.size.words + 1 < 2 ^ 16
  mark_small =
      let m = small_mark st c.next next_low in
      let e = ap (λ (n : ℕ). c.next * n) st.size_is in
      let l = k.serves.shape.size_least in
      omega (arith, m, e, l)

  pub filled_small : c.filled + 1 < 2 ^ 32
  filled_small = (let a = st.filled_is in let b = k.serves.shape.filled_most in let f = few_slots st in omega (arith, a, b, f))

  -- ---- behind it

  module _ {c' : Chip} {full : Bool} {undone words mark : ℕ} (is_full : full ≡ true → s.filled ≡ s.slots) (not_full : full ≡ false → s.filled < s.slots)
      (words_is : words ≡ slice_index c.ends.now block - begin_in c.ends.now block) (mark_is : mark ≡ c.next * c.size.words + 1)
      (f : FilledFields c c' full undone words block (slice_index c.blocks.now c.next) mark) (m : Missed (counted_slots s) vs ram block undone c'.cache.now c'.heads.now c'.links.now c'.blocks.now) where
    abbrev L : ℕ
    L = length_at (vs s.turn) block

    mark_at : mark ≡ s.next * s.size + 1
    mark_at = mark_is ∙ ap (λ (n : ℕ). n * c.size.words + 1) st.next_is ∙ ap (λ (n : ℕ). s.next * n + 1) st.size_is

    settles : Settles s.filled s.slots s.next block s.blocks c.marks.now
    settles = record {
      below = k.serves.shape.next_below;
      most = k.serves.shape.filled_most;
      next = next_most;
      rows = (let a = k.serves.shape.blocks_long in omega (arith, a));
      inside = block_low;
      absent = subst (λ (b : ℕ). (n : ℕ) → n < s.filled → slice_index s.blocks n ≡ b → ⊥) (key_is st block) k.absent;
    }
      where
        next_most : s.next ≤ s.filled
        next_most = elim (cases_lt s.filled s.slots) [
          | inl free ↦ (let e = next_free s k.serves.shape free in omega (arith, e))
          | inr full ↦ (let b = k.serves.shape.next_below in omega (arith, full, b))
        ]

    settled_by : (q : Bool) → (q ≡ true → s.filled ≡ s.slots) → (q ≡ false → s.filled < s.slots) →
        MarksSettled s.filled s.slots s.next s.size block s.blocks c.marks.now (slice_set (if q then slice_set c.marks.now (slice_index c.blocks.now c.next) 0 else c.marks.now) block (s.next * s.size + 1))
    settled_by true full' free' =
        let old : slice_index c.blocks.now c.next ≡ slice_index s.blocks s.next = (old_block (full' refl)).1 ∙ ap (λ (n : ℕ). slice_index s.blocks n) st.next_is in
        let inside : s.next < s.filled = (let e = full' refl in let b = k.serves.shape.next_below in omega (arith, e, b)) in
        subst (λ (o : ℕ). MarksSettled s.filled s.slots s.next s.size block s.blocks c.marks.now (slice_set (slice_set c.marks.now o 0) block (s.next * s.size + 1))) (sym old)
        (marks_full s.filled s.slots s.next s.size block s.blocks c.marks.now (next_free s k.serves.shape) settles st.marks.found st.marks.known inside
        (λ n low e. k.serves.distinct n s.next low inside e))
    settled_by false full' free' =
        marks_free s.filled s.slots s.next s.size block s.blocks c.marks.now (next_free s k.serves.shape) settles st.marks.found st.marks.known (next_free s k.serves.shape (free' refl))

    marks_now : MarksSettled s.filled s.slots s.next s.size block s.blocks c.marks.now c'.marks.now
    marks_now =
        subst (λ (xs : List ℕ). MarksSettled s.filled s.slots s.next s.size block s.blocks c.marks.now xs)
        (sym (f.marks ∙ ap (λ (n : ℕ). slice_set (if full then slice_set c.marks.now (slice_index c.blocks.now c.next) 0 else c.marks.now) block n) mark_at)) (settled_by full is_full not_full)

    abbrev N : Slots
    N = settled (record (counted_slots s) { targets = m.targets; counts = m.counts }) (key_of s.turn block) (length_at (vs s.turn) block)

    knows_now : KnowsMarks N c'.marks.now
    knows_now =
        subst (λ (b : ℕ). KnowsMarks (record N { blocks = slice_set s.blocks s.next b }) c'.marks.now) (sym (key_is st block)) (record { found = marks_now.found; known = marks_now.known })

    counts_by : (q : Bool) → (q ≡ true → s.filled ≡ s.slots) → (q ≡ false → s.filled < s.slots) → CountedMiss c.counts c'.counts q undone L → CountsBy N.counts c'.counts
    counts_by true full' free' did =
        subst (λ (x : Counts). CountsBy (record x { misses = x.misses + 1; copied = x.copied + L }) c'.counts) (sym (m.counts_full (let e = full' refl in omega (arith, e))))
        (count_full (counted_slots s).counts c.counts c'.counts undone L st.counts did)
    counts_by false full' free' did =
        subst (λ (x : Counts). CountsBy (record x { misses = x.misses + 1; copied = x.copied + L }) c'.counts) (sym (m.counts_free (free' refl)))
        (count_free (counted_slots s).counts c.counts c'.counts undone L st.counts did)

    rows_now : RowsHold vs c'.ends.now c'.words.now
    rows_now = subst (λ (xs : List ℕ). RowsHold vs xs c'.words.now) (sym f.ends) (subst (λ (xs : List ℕ). RowsHold vs c.ends.now xs) (sym f.image) st.rows)

    tables_now : HasTables (vs s.turn) c'.base c'.places.now c'.ends.now
    tables_now =
        subst (λ (b : ℕ). HasTables (vs s.turn) b c'.places.now c'.ends.now) (sym f.base)
        (subst (λ (xs : List ℕ). HasTables (vs s.turn) c.base xs c'.ends.now) (sym f.places) (subst (λ (xs : List ℕ). HasTables (vs s.turn) c.base c.places.now xs) (sym f.ends) st.tables))

    arrived_at : (before : RamState) → before.words ≡ ram → (after : RamState) × (after.words ≡ m.words) × Arrived vs s block s.next m.next before after
    arrived_at before same =
        let a = m.filled before same in
        (a.0, a.1, miss_arrived vs s m.next block before a.0 (subst (λ (ws : List ℕ). SlotsServe s vs ws) (sym same) k.serves) k.absent k.known a.2)

    serves_now : SlotsServe m.next vs m.words
    serves_now = (let a = arrived_at (any_ram ram) (any_words ram) in subst (λ (ws : List ℕ). SlotsServe m.next vs ws) a.1 a.2.sound)

    starts_now : c'.starts.now ≡ (vs s.turn).starts
    starts_now = subst (λ (x : Chip). x.starts.now ≡ (vs s.turn).starts) (sym f.rest) st.starts_are

    numbers_now : HasNumbers (s.slots * s.size) c'.size.words (length c'.places.now) c'.size.inverse c'.text_bytes c'.cache_at c'.cache_bytes (length c'.memo.now)
    numbers_now =
        subst (λ (n : ℕ). HasNumbers (s.slots * s.size) c'.size.words (length c'.places.now) c'.size.inverse c'.text_bytes c'.cache_at c'.cache_bytes n) (sym f.memo)
        (subst (λ (x : Chip). HasNumbers (s.slots * s.size) x.size.words (length x.places.now) x.size.inverse x.text_bytes x.cache_at x.cache_bytes (length c.memo.now)) (sym f.rest) st.numbers)

    stands_now : StandsFor m.next vs m.words m.lists c'
    stands_now = record {
      serves = serves_now;
      holds = m.holds;
      rows = rows_now;
      tables = subst (λ (x : Slots). HasTables (vs x.turn) c'.base c'.places.now c'.ends.now) (sym m.next_is) tables_now;
      one = ap (λ (x : Slots). x.programs) m.next_is ∙ st.one;
      slots_are = f.slots ∙ st.slots_are ∙ ap (λ (x : Slots). x.slots) (sym m.next_is);
      size_is = f.size ∙ st.size_is ∙ ap (λ (x : Slots). x.size) (sym m.next_is);
      next_is = f.next ∙ ap (λ (n : ℕ). wrapped (n + 1) c.slots) st.next_is ∙ ap (λ (n : ℕ). wrapped (s.next + 1) n) st.slots_are ∙ ap (λ (x : Slots). x.next) (sym m.next_is);
      filled_is = f.filled ∙ ap (λ (n : ℕ). min (n + 1) c.slots) st.filled_is ∙ ap (λ (n : ℕ). min (s.filled + 1) n) st.slots_are ∙ ap (λ (x : Slots). x.filled) (sym m.next_is);
      cache_long = f.cache ∙ st.cache_long ∙ ap (λ (x : Slots). x.slots * x.size) (sym m.next_is);
      marks = subst (λ (x : Slots). KnowsMarks x c'.marks.now) (sym m.next_is) knows_now;
      marks_long = marks_now.long ∙ st.marks_long ∙ ap (λ (x : Slots). length (vs x.turn).blocks) (sym m.next_is);
      counts = subst (λ (x : Slots). CountsBy x.counts c'.counts) (sym m.next_is)
          (counts_by full is_full not_full (subst (λ (n : ℕ). CountedMiss c.counts c'.counts full undone n) (words_is ∙ words_at block block_low) f.counts));
      starts_are = subst (λ (x : Slots). c'.starts.now ≡ (vs x.turn).starts) (sym m.next_is) starts_now;
      numbers = subst (λ (x : Slots). HasNumbers (x.slots * x.size) c'.size.words (length c'.places.now) c'.size.inverse c'.text_bytes c'.cache_at c'.cache_bytes (length c'.memo.now)) (sym m.next_is) numbers_now;
    }

    pub has_filled : HasArrived s vs ram block mark c'
    has_filled = record { next = m.next; words = m.words; lists = m.lists; slot = s.next; stands = stands_now; mark_is = mark_at; arrived = arrived_at }
