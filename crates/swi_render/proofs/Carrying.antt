-- An image of a text carries it.
use Rattle.std.proofs.Common.{◌≡◌, ◌==◌, ◌&&◌, ℕ, ◌+◌, ◌-◌, ◌*◌, ◌/◌, ◌%◌, ◌^◌, ◌<◌, ◌≤◌, suc, List, [], ◌∷◌, length, get_or, nat_lt, nat_le, Option, Some, None, arith, refl, ap, sym, subst, true, false, inl, inr}
use Rattle.std.proofs.lemmas.Bool.{cases_Bool, cases_lt}
use Rattle.std.proofs.lemmas.Bool.Decides.{nat_tests}
use Rattle.swi_program.specs.Text.{TextData, IsSized, word_of}
use Rattle.swi_image.specs.Format.{ImageData}
use Rattle.swi_image.specs.Checks.{block_of}
use Rattle.swi_image.specs.Place.{distance, place_of, place_of_word, block_at, word_at, next_start}
use Rattle.swi_image.specs.Sound.{IsImage}
use Rattle.swi_image.specs.Laws.{in_block, place_is, place_found, place_none, place_whole, place_lands}
use Rattle.swi_image.proofs.Counting.{block_is}
use Rattle.swi_render.specs.Rendering.{Slot, As, fall_exit, sum}
use Rattle.swi_render.specs.ImageOf.{address_of, rendering_at, falls_at, pad, filled, start_of, block_between, offset_in, AreWordsOf, IsBlockOf, IsImageOf}
use Rattle.swi_render.specs.Among.{StandIn}
use Rattle.swi_render.specs.Carried.{StandAt, FallAt, GoesOn, StandsFor, Carries}
use Rattle.swi_render.proofs.Runs.{offset_next, offset_up}
use Rattle.swi_render.proofs.Stands.{stands_word, stands_exit}

-- the words of a block, where slots stand among what is asked of them

stand_on : (ss : List Slot) (r : Slot) (rr : List Slot) (from : ℕ) → StandIn ss (r ∷ rr) from → StandIn ss rr (from + 1)
stand_on ss r rr from s = record {
  fits = omega (arith, s.fits);
  each = λ j within. (let on : from + 1 + j ≡ from + suc j = omega arith in rw on (s.each (suc j) (omega arith)));
}

stand_first : (ss : List Slot) (r : Slot) (rr : List Slot) (from : ℕ) → StandIn ss (r ∷ rr) from → get_or ss from pad ≡ r
stand_first ss r rr from s = (let on : from + 0 ≡ from = omega arith in rw on at (s.each 0 (omega arith)))

stand_at : (v : ImageData) (b o : ℕ) (ss rr : List Slot) → AreWordsOf ss (block_at v b) → StandIn ss rr o → StandAt v b o rr
stand_at v b o ss [] w s = omega (arith, s.fits, w.size)
stand_at v b o ss (r ∷ rr) w s =
    (subst (λ (q : Slot). As q.asked (word_at v b o)) (stand_first ss r rr o s) (w.each o (omega (arith, s.fits))), stand_at v b (o + 1) ss rr w (stand_on ss r rr o s))

-- the block of a text word

test_lt : (a b : ℕ) → a < b → nat_lt a b ≡ true
test_lt a b h = grind (arith, nat_tests)

test_ge : (a b : ℕ) → b ≤ a → nat_lt a b ≡ false
test_ge a b h = grind (arith, nat_tests)

record IsIn (v : ImageData) (b k : ℕ) : Type 0 where
  within : b < length v.starts
  from : start_of v b ≤ k
  to : k < next_start v b

next_is : (v : ImageData) (b : ℕ) → b + 1 < length v.starts → next_start v b ≡ start_of v (b + 1)
next_is v b more = rw (test_lt (b + 1) (length v.starts) more) refl

next_most : (v : ImageData) (b : ℕ) → IsImage v → next_start v b ≤ length v.offsets
next_most v b i = elim (cases_lt (b + 1) (length v.starts)) [
  | inl more ↦ omega (arith, next_is v b more, i.inside (b + 1) more)
  | inr last ↦ rw (test_ge (b + 1) (length v.starts) last) (omega arith)
]

own_block : (v : ImageData) (k : ℕ) → IsImage v → k < length v.offsets → IsIn v (block_of v.starts k) k
own_block v k i within =
    let own = in_block v.starts (length v.offsets) k (record { next = i.ascending }) i.some i.first within in
    record { within = own.0; from = own.1; to = own.2 }

block_same : (v : ImageData) (b k : ℕ) → IsImage v → IsIn v b k → block_of v.starts k ≡ b
block_same v b k i h = block_is v.starts k b (record { next = i.ascending }) h.within h.from (λ more. omega (arith, next_is v b more, h.to))

-- the block of text word k is as the text asks
record IsWordIn (t : TextData) (v : ImageData) (b k : ℕ) : Type 0 where
  own : IsIn v b k
  block : IsBlockOf t v b
  end : next_start v b ≤ length t.words
  offset : get_or v.offsets k 0 ≡ offset_in t (start_of v b) k

word_in : (t : TextData) (v : ImageData) (k : ℕ) → IsImage v → IsImageOf t v → k < length t.words → IsWordIn t v (block_of v.starts k) k
word_in t v k i of within =
    let own = own_block v k i (omega (arith, of.len)) in
    let block = of.blocks (block_of v.starts k) own.within in
    record {
      own = own;
      block = block;
      end = omega (arith, next_most v (block_of v.starts k) i, of.len);
      offset = block.offsets k own.from own.to;
    }

-- behind a text word
next_address : (base k n : ℕ) → base + 4 * n ≤ 2 ^ 32 → k + 1 < n → (base + 4 * k + 4) % 2 ^ 32 ≡ base + 4 * (k + 1)
next_address base k n end within = omega arith

distance_is : (base k n : ℕ) → base + 4 * n ≤ 2 ^ 32 → k < n → (base + 4 * k + 2 ^ 32 - base) % 2 ^ 32 ≡ 4 * k
distance_is base k n end within = omega arith

place_next : (t : TextData) (v : ImageData) (k a : ℕ) → IsSized t → IsImageOf t v → k < length t.words → a ≡ address_of t k → place_of v a ≡ Some (place_of_word v k)
place_next t v k a s of within is =
    place_found v a k (rw (is, of.base) (distance_is t.base k (length t.words) s.end within)) (omega (arith, of.len))

fall_at : (t : TextData) (v : ImageData) (b k : ℕ) → IsSized t → IsImage v → IsImageOf t v → IsWordIn t v b k → next_start v b ≡ k + 1 → falls_at t k ≡ true →
    FallAt v (sum (address_of t k) 4) b (offset_in t (start_of v b) (k + 1))
fall_at t v b k s i of h last on =
    let first : ℕ = start_of v b in
    let end : ℕ = next_start v b in
    let same : end - 1 ≡ k = omega arith in
    let stand : StandAt v b (offset_in t first (k + 1)) (fall_exit (address_of t k)) =
    stand_at v b (offset_in t first (k + 1)) (filled v (block_between t first end)) (fall_exit (address_of t k)) h.block.words
    (stands_exit t v first end (address_of t k) (offset_in t first (k + 1)) (ap (offset_in t first) (sym last)) (omega (arith, h.own.from)) h.end (rw same on) (rw same refl)) in
    record {
      leaves = stand.0;
      leads = stand.1.0;
      inside = omega (arith, stand.1.1);
      known = omega (arith, i.blocks, h.own.within);
      aligned = omega (arith, s.aligned);
      no_place = λ a e.
          let j : ℕ = distance v a / 4 in
          let place = place_is v a b (offset_in t first (k + 1)) e in
          let there = place_lands v i a b (offset_in t first (k + 1)) e in
          let right = h.block.offsets j there.from there.to in
          omega (arith, place.2, there.to, offset_up t first j (k + 1) there.from (omega (arith, there.to)) (omega (arith, h.end)));
    }

goes_on : (t : TextData) (v : ImageData) (b k : ℕ) → IsSized t → IsImage v → IsImageOf t v → IsWordIn t v b k → falls_at t k ≡ true →
    GoesOn v (sum (address_of t k) 4) b (offset_in t (start_of v b) (k + 1))
goes_on t v b k s i of h on = elim (cases_lt (k + 1) (next_start v b)) [
  | inl more ↦
      let within : k + 1 < length t.words = omega (arith, h.end) in
      let address : sum (address_of t k) 4 ≡ t.base + 4 * (k + 1) = next_address t.base k (length t.words) s.end within in
      let next : IsIn v b (k + 1) = record { within = h.own.within; from = omega (arith, h.own.from); to = more } in
      let place = place_next t v (k + 1) (sum (address_of t k) 4) s of within address in
      inl (rw (block_same v b (k + 1) i next, h.block.offsets (k + 1) next.from more) at place)
  | inr last ↦ inr (fall_at t v b k s i of h (omega (arith, h.own.to)) on)
]

stands_for : (t : TextData) (v : ImageData) (b k o : ℕ) → IsSized t → IsImage v → IsImageOf t v → IsWordIn t v b k → k < length t.words → o ≡ offset_in t (start_of v b) k →
    StandsFor v (get_or t.words k 0) (address_of t k) b o
stands_for t v b k o s i of h within is =
    let first : ℕ = start_of v b in
    let behind : offset_in t first (k + 1) ≡ o + length (rendering_at t k) = omega (arith, offset_next t first k h.own.from within) in
    record {
      words = stand_at v b o (filled v (block_between t first (next_start v b))) (rendering_at t k) h.block.words
          (stands_word t v first k (next_start v b) o is h.own.from h.own.to h.end);
      known = omega (arith, i.blocks, h.own.within);
      behind = λ on. subst (λ (n : ℕ). GoesOn v (sum (address_of t k) 4) b n) behind (goes_on t v b k s i of h on);
    }

-- the text word at an address
record IsAt (t : TextData) (a w : ℕ) : Type 0 where
  index : ℕ
  within : index < length t.words
  address : a ≡ t.base + 4 * index
  word : w ≡ get_or t.words index 0

some_number : (x y : ℕ) → ◌≡◌ {A = Option ℕ} (Some x) (Some y) → x ≡ y
some_number x y e = cc

address_split : (a base n : ℕ) → base % 4 ≡ 0 → (a % 4 == 0 && (nat_le base a && nat_le (a + 4) (base + 4 * n))) ≡ true → (a ≡ base + 4 * ((a - base) / 4)) × ((a - base) / 4 < n)
address_split a base n even e =
    let aligned : a % 4 ≡ 0 = grind (arith, nat_tests) in
    let low : base ≤ a = grind (arith, nat_tests) in
    let high : a + 4 ≤ base + 4 * n = grind (arith, nat_tests) in
    (omega arith, omega arith)

is_at : (t : TextData) (a w : ℕ) → IsSized t → word_of t a ≡ Some w → IsAt t a w
is_at t a w s e = elim (cases_Bool (a % 4 == 0 && (nat_le t.base a && nat_le (a + 4) (t.base + 4 * length t.words)))) [
  | inl stands ↦
      let parts = address_split a t.base (length t.words) s.aligned stands in
      record { index = (a - t.base) / 4; within = parts.1; address = parts.0; word = sym (some_number (get_or t.words ((a - t.base) / 4) 0) w (rw stands at e)) }
  | inr none ↦ absurd (let differs : ◌≡◌ {A = Option ℕ} None (Some w) = rw none at e in cc)
]

-- an address without a text word
far_away : (a base n : ℕ) → base % 4 ≡ 0 → base + 4 * n ≤ 2 ^ 32 → a < 2 ^ 32 → 0 < n →
    (a % 4 == 0 && (nat_le base a && nat_le (a + 4) (base + 4 * n))) ≡ false → (a + 2 ^ 32 - base) % 2 ^ 32 % 4 ≡ 0 → n ≤ (a + 2 ^ 32 - base) % 2 ^ 32 / 4
far_away a base n even end small some e whole = elim (cases_lt a base) [
  | inl below ↦ omega arith
  | inr above ↦
      let d : (a + 2 ^ 32 - base) % 2 ^ 32 ≡ a - base = omega arith in
      let aligned : a % 4 ≡ 0 = omega arith in
      let past : base + 4 * n < a + 4 = grind (arith, nat_tests) in
      omega arith
]

nowhere : (t : TextData) (v : ImageData) (a : ℕ) → IsSized t → IsImageOf t v → a < 2 ^ 32 → word_of t a ≡ None → place_of v a ≡ None
nowhere t v a s of small e = elim (cases_Bool (a % 4 == 0 && (nat_le t.base a && nat_le (a + 4) (t.base + 4 * length t.words)))) [
  | inl stands ↦ absurd (let differs : ◌≡◌ {A = Option ℕ} (Some (get_or t.words ((a - t.base) / 4) 0)) None = rw stands at e in cc)
  | inr none ↦
      let base : distance v a ≡ (a + 2 ^ 32 - t.base) % 2 ^ 32 = ap (λ (n : ℕ). (a + 2 ^ 32 - n) % 2 ^ 32) of.base in
      place_none v a (λ whole. omega (arith, far_away a t.base (length t.words) s.aligned s.end small s.some none (omega arith), of.len))
]

stands_there : (t : TextData) (v : ImageData) (a w k : ℕ) → IsSized t → IsImage v → IsImageOf t v → k < length t.words → a ≡ address_of t k → w ≡ get_or t.words k 0 →
    (b : ℕ) × (o : ℕ) × (place_of v a ≡ Some (b, o)) × StandsFor v w a b o
stands_there t v a w k s i of within address word =
    let h = word_in t v k i of within in
    let b : ℕ = block_of v.starts k in
    let o : ℕ = get_or v.offsets k 0 in
    (b, o, place_next t v k a s of within address, rw (word, address) (stands_for t v b k o s i of h within h.offset))

-- an image of a text carries it
pub image_carries : (t : TextData) (v : ImageData) → IsSized t → IsImage v → IsImageOf t v → Carries (word_of t) v
image_carries t v s i of = record {
  image = i;
  aligned = λ a b o e. omega (arith, place_whole v a (b, o) e, of.base, s.aligned, s.end);
  nowhere = λ a small e. nowhere t v a s of small e;
  stands = λ a w e. (let here = is_at t a w s e in stands_there t v a w here.index s i of here.within here.address here.word);
}
