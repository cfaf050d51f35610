-- An empty chip stands for empty slots.
use Rattle.std.proofs.Common.{◌≡◌, ◌∙◌, ℕ, ◌*◌, ◌%◌, ◌<◌, ◌≤◌, List, [], length, slice_index, replicate, ap, arith, refl, sym, subst, inl, inr}
use Rattle.std.proofs.lemmas.Bool.{cases_lt}
use Rattle.std.proofs.lemmas.List.{get_or-replicate, get_or_past, length-replicate}
use Rattle.swi_image.specs.Format.{ImageData}
use Rattle.swi_links.specs.Chains.{Distinct, Has}
use Rattle.swi_slots.specs.Slots.{InShape, Slots, empty_slots}
use Rattle.swi_slots.proofs.Empty.{empty_serves}
use Rattle.swi_chip.specs.declared.chip.Chip.{Chip}
use Rattle.swi_chip.specs.declared.chip.ChipCounts.{ChipCounts}
use Rattle.swi_chip.specs.Lists.{Run, befores, list_at, nexts}
use Rattle.swi_chip.specs.Service.{StandsFor}
use Rattle.swi_chip.specs.Starting.{CanStart, Starts}

-- no list has a cell
empty_list : (n s : ℕ) → list_at (replicate n []) s ≡ []
empty_list n s = elim (cases_lt s n) [
  | inl lt ↦ get_or-replicate n s [] [] lt
  | inr past ↦ get_or_past (replicate n []) s [] (let l = length-replicate {A = List ℕ} n [] in omega (arith, l, past))
]

no_cell : (n s x : ℕ) → Has (list_at (replicate n []) s) x → ⊥
no_cell n s x has = subst (λ (L : List ℕ). Has L x) (empty_list n s) has

-- zeros
zero_at : (n i : ℕ) (xs : List ℕ) → xs ≡ replicate n 0 → slice_index xs i ≡ 0
zero_at n i xs e = ap (λ (ys : List ℕ). slice_index ys i) e ∙ elim (cases_lt i n) [
  | inl lt ↦ get_or-replicate n i 0 0 lt
  | inr past ↦ get_or_past (replicate n 0) i 0 (let l = length-replicate {A = ℕ} n 0 in omega (arith, l, past))
]

-- a chip that has been left so by `start`
pub record StartedFields (c c' : Chip) : Type 0 where
  pub heads : c'.heads.now ≡ replicate (length c.heads.now) 0
  pub links : c'.links.now ≡ replicate (length c.links.now) 0
  pub marks : c'.marks.now ≡ replicate (length c.marks.now) 0
  pub memo : length c'.memo.now ≡ length c.memo.now
  pub counts : c'.counts ≡ record { services = 0; misses = 0; evictions = 0; links = 0; unlinks = 0; copied = 0; refused = 0 }
  pub rest : c' ≡ record c { counts = c'.counts; next = 0; filled = 0; heads = c'.heads; links = c'.links; marks = c'.marks; memo = c'.memo }

module _ {c : Chip} {v : ImageData} (k : CanStart c v) where
  abbrev s : Slots
  s = empty_slots c.slots c.size.words 1

  least : 2 ≤ c.size.words
  least = k.numbers.inverse_is.least

  shape : InShape (empty_slots c.slots c.size.words 1)
  shape = record {
    some_slot = k.some_slot;
    size_least = least;
    size_most = k.numbers.inverse_is.most;
    words_few = (let a = k.cache_long in let b = k.few in omega (arith, a, b));
    turn_below = omega arith;
    programs_most = omega arith;
    next_below = (let a = k.some_slot in omega (arith, a));
    filled_most = omega arith;
    blocks_long = length-replicate {A = ℕ} c.slots 0;
    lengths_long = length-replicate {A = ℕ} c.slots 0;
    targets_long = length-replicate {A = ℕ} (c.slots * c.size.words) c.slots;
    next_is = zero_rest c.slots k.some_slot;
    filled_is = (let a = k.some_slot in omega (arith, a));
  }
    where
      zero_rest : (n : ℕ) → 1 ≤ n → 0 ≡ 0 % n
      zero_rest n some = omega (arith, some)

  free : (i : ℕ) → i < c.slots * c.size.words → slice_index (replicate (c.slots * c.size.words) c.slots) i ≡ c.slots
  free i lt = get_or-replicate (c.slots * c.size.words) i c.slots 0 lt

  never : (i : ℕ) → i < c.slots * c.size.words → slice_index (replicate (c.slots * c.size.words) c.slots) i < c.slots → ⊥
  never i lt linked = (let e = free i lt in omega (arith, e, linked))

  module _ {c' : Chip} (f : StartedFields c c') where
    heads : c'.heads.now ≡ replicate (length c.heads.now) 0
    heads = f.heads

    links : c'.links.now ≡ replicate (length c.links.now) 0
    links = f.links

    marks : c'.marks.now ≡ replicate (length c.marks.now) 0
    marks = f.marks

    heads_long : length c'.heads.now ≡ c.slots
    heads_long = ap (λ (xs : List ℕ). length xs) heads ∙ length-replicate {A = ℕ} (length c.heads.now) 0 ∙ k.heads_long

    links_long : length c'.links.now ≡ c.slots
    links_long = ap (λ (xs : List ℕ). length xs) links ∙ length-replicate {A = ℕ} (length c.links.now) 0 ∙ k.links_long

    marks_long : length c'.marks.now ≡ length v.blocks
    marks_long = ap (λ (xs : List ℕ). length xs) marks ∙ length-replicate {A = ℕ} (length c.marks.now) 0 ∙ k.marks_long

    stands : StandsFor (empty_slots c.slots c.size.words 1) (λ p. v) c.cache.now (replicate c.slots []) (record c { counts = c'.counts; next = 0; filled = 0; heads = c'.heads; links = c'.links; marks = c'.marks; memo = c'.memo })
    stands = record {
      serves = empty_serves (empty_slots c.slots c.size.words 1) (λ p. v) c.cache.now
          (record { shape = shape; filled = refl; targets = refl; services = refl; misses = refl; evictions = refl; links = refl; unlinks = refl; copied = refl }) (λ p. k.image) (λ p. k.fits) (let a = k.cache_long in omega (arith, a));
      holds = record {
        stand = record {
          long = (let a = heads_long in let l = length-replicate {A = List ℕ} c.slots [] in omega (arith, a, l));
          few = k.few;
          runs = λ n lt. subst (λ (L : List ℕ). Run (nexts c.cache.now) (befores c.cache.now) (length c.cache.now) 0 (slice_index c'.heads.now n) L) (sym (empty_list c.slots n)) (zero_at (length c.heads.now) n c'.heads.now heads);
          distinct = λ n lt. subst (λ (L : List ℕ). Distinct L) (sym (empty_list c.slots n)) tt;
          one = λ n t x has other. absurd (no_cell c.slots n x has);
        };
        slots_are = heads_long;
        long = (let a = k.cache_long in omega (arith, a));
        links_long = (let a = heads_long in let b = links_long in omega (arith, a, b));
        counted = λ n lt. zero_at (length c.links.now) n c'.links.now links ∙ ap (λ (L : List ℕ). length L) (sym (empty_list c.slots n));
        linked = λ n x has. absurd (no_cell c.slots n x has);
        listed = λ i lt linked. absurd (never i lt linked);
        leads = λ i lt linked. absurd (never i lt linked);
        held = λ i lt ib none. absurd (let a = ib.0 in omega (arith, a));
        blocks_long = k.blocks_long;
        blocks_are = λ n lt. absurd (omega (arith, lt));
      };
      rows = k.rows;
      tables = k.tables;
      one = refl;
      slots_are = refl;
      size_is = refl;
      next_is = refl;
      filled_is = refl;
      cache_long = k.cache_long;
      marks = record {
        found = λ b lt some. absurd (some (zero_at (length c.marks.now) b c'.marks.now marks));
        known = λ n lt. absurd (omega (arith, lt));
      };
      marks_long = marks_long;
      counts = record {
        services = ap (λ (x : ChipCounts). x.services) f.counts;
        misses = ap (λ (x : ChipCounts). x.misses) f.counts;
        evictions = ap (λ (x : ChipCounts). x.evictions) f.counts;
        links = ap (λ (x : ChipCounts). x.links) f.counts;
        unlinks = ap (λ (x : ChipCounts). x.unlinks) f.counts;
        copied = ap (λ (x : ChipCounts). x.copied) f.counts;
      };
      starts_are = k.starts_are;
      numbers = record {
        inverse_is = k.numbers.inverse_is;
        text_is = k.numbers.text_is;
        bytes_are = k.numbers.bytes_are;
        aligned = k.numbers.aligned;
        room = k.numbers.room;
        memo_long = f.memo ∙ k.numbers.memo_long;
      };
    }

    pub starts : Starts c v c'
    starts = subst (λ (x : Chip). StandsFor (empty_slots c.slots c.size.words 1) (λ p. v) c.cache.now (replicate c.slots []) x) (sym f.rest) stands
