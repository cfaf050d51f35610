-- Which text word a word of its rendering is of.
use Rattle.std.proofs.Common.{◌≡◌, ◌==◌, ◌&&◌, ℕ, ◌+◌, ◌-◌, ◌*◌, ◌/◌, ◌%◌, ◌^◌, ◌<◌, ◌≤◌, true, nat_le, List, length, get_or, Option, Some, None, arith, sym, ap, ◌∙◌, inl, inr}
use Rattle.std.proofs.lemmas.Bool.{cases_Bool}
use Rattle.std.proofs.lemmas.Bool.Decides.{nat_tests}
use Rattle.swi_program.specs.Text.{TextData, IsSized, word_of}
use Rattle.swi_image.specs.Format.{ImageData}
use Rattle.swi_image.specs.Sound.{IsImage}
use Rattle.swi_image.specs.Place.{distance, next_start, origin_of, place_of, word_before}
use Rattle.swi_image.specs.Laws.{place_inside, place_is, place_lands}
use Rattle.swi_image.proofs.Views.{Narrowed, narrowed_word}
use Rattle.swi_render.specs.Rendering.{Slot, rendering}
use Rattle.swi_render.specs.ImageOf.{address_of, rendering_at, start_of, offset_in, IsImageOf}
use Rattle.swi_render.proofs.Runs.{offset_next}

-- the text word at an address
record IsWord (t : TextData) (a w : ℕ) : Type 0 where
  index : ℕ
  within : index < length t.words
  address : a ≡ address_of t index
  word : w ≡ get_or t.words index 0

address_split : (a base n : ℕ) → base % 4 ≡ 0 → (a % 4 == 0 && (nat_le base a && nat_le (a + 4) (base + 4 * n))) ≡ true → (a ≡ base + 4 * ((a - base) / 4)) × ((a - base) / 4 < n)
address_split a base n even e =
    let aligned : a % 4 ≡ 0 = grind (arith, nat_tests) in
    let low : base ≤ a = grind (arith, nat_tests) in
    let high : a + 4 ≤ base + 4 * n = grind (arith, nat_tests) in
    (omega arith, omega arith)

some_number : (x y : ℕ) → ◌≡◌ {A = Option ℕ} (Some x) (Some y) → x ≡ y
some_number x y e = cc

is_word : (t : TextData) (a w : ℕ) → IsSized t → word_of t a ≡ Some w → IsWord t a w
is_word t a w s e = elim (cases_Bool (a % 4 == 0 && (nat_le t.base a && nat_le (a + 4) (t.base + 4 * length t.words)))) [
  | inl stands ↦
      let parts = address_split a t.base (length t.words) s.aligned stands in
      record { index = (a - t.base) / 4; within = parts.1; address = parts.0; word = sym (some_number (get_or t.words ((a - t.base) / 4) 0) w (rw stands at e)) }
  | inr none ↦ absurd (let differs : ◌≡◌ {A = Option ℕ} None (Some w) = rw none at e in cc)
]

distance_is : (base a k n : ℕ) → base + 4 * n ≤ 2 ^ 32 → k < n → a ≡ base + 4 * k → (a + 2 ^ 32 - base) % 2 ^ 32 ≡ 4 * k
distance_is base a k n end within is = omega arith

back : (base k n : ℕ) → base + 4 * n ≤ 2 ^ 32 → k < n → (base + 4 * k) % 2 ^ 32 ≡ base + 4 * k
back base k n end within = omega arith

-- the text word that begins last at or before a word of a rendering is the one that it is of
pub origin_within : (t : TextData) (v : ImageData) (a w b o j : ℕ) → IsSized t → IsImage v → IsImageOf t v → word_of t a ≡ Some w → place_of v a ≡ Some (b, o) → j < length (rendering w a) → (origin_of v b (o + j)).0 ≡ a
origin_within t v a w b o j s i of read place short =
    let x = is_word t a w s read in
    let k : ℕ = distance v a / 4 in
    let far : distance v a ≡ 4 * x.index = ap (λ (n : ℕ). (a + 2 ^ 32 - n) % 2 ^ 32) of.base ∙ distance_is t.base a x.index (length t.words) s.end x.within x.address in
    let index : k ≡ x.index = omega (arith, far) in
    let own = place_lands v i a b o place in
    let at : o ≡ get_or v.offsets k 0 = (place_is v a b o place).2 in
    let known : b < length v.starts = (let inside = (place_inside v i a b o place).0 in let all = i.blocks in omega (arith, inside, all)) in
    let from : start_of v b ≤ k = own.from in
    let to : k < next_start v b = own.to in
    let block = of.blocks b known in
    let here : get_or v.offsets k 0 ≡ offset_in t (start_of v b) k = block.offsets k from to in
    let within : k < length t.words = omega (arith, index, x.within) in
    let grows : offset_in t (start_of v b) (k + 1) ≡ offset_in t (start_of v b) k + length (rendering_at t k) = offset_next t (start_of v b) k from within in
    let same : rendering_at t k ≡ rendering w a = ap (λ (n : ℕ). rendering_at t n) index ∙ (ap (λ (n : ℕ). rendering n (address_of t x.index)) (sym x.word) ∙ ap (λ (n : ℕ). rendering w n) (sym x.address)) in
    let size : length (rendering_at t k) ≡ length (rendering w a) = ap (λ (ss : List Slot). length ss) same in
    let next : k + 1 < next_start v b → o + j < get_or v.offsets (k + 1) 0 =
    λ more. (let there : get_or v.offsets (k + 1) 0 ≡ offset_in t (start_of v b) (k + 1) = block.offsets (k + 1) (omega (arith, from)) more in omega (arith, there, grows, here, at, size, short)) in
    let one : k + 1 - 1 ≡ k = omega arith in
    let low : get_or v.offsets k 0 ≤ o + j = omega (arith, at) in
    let n : Narrowed v b (o + j) (k + 1) (k + 1) = record { first = omega (arith, from); order = omega arith; fits = omega (arith, to); below = λ some. rw one low; above = next } in
    let word : word_before v b (o + j) ≡ k + 1 - 1 = (narrowed_word v b (o + j) (k + 1) (k + 1) i known n (omega arith)).0 in
    let found : word_before v b (o + j) ≡ x.index = word ∙ one ∙ index in
    ap (λ (d : ℕ). (v.base + 4 * d) % 2 ^ 32) found ∙ (ap (λ (d : ℕ). (d + 4 * x.index) % 2 ^ 32) of.base ∙ (back t.base x.index (length t.words) s.end x.within ∙ sym x.address))
