-- Bytes by their words, and the words of an image by what it says.
use Rattle.std.proofs.Common.{◌≡◌, ◌==◌, ◌*◌, ◌-◌, ℕ, ◌+◌, ◌<◌, ◌≤◌, List, [], ◌∷◌, ◌++◌, length, get_or, drop, zero, suc, true, false, refl, arith, sym, ap, ◌∙◌, inl, inr}
use Rattle.std.proofs.Math.Seq.{drop-append-add}
use Rattle.std.proofs.lemmas.List.{ext_get_or}
use Rattle.std.proofs.lemmas.Bool.{cases_lt}
use Rattle.std.proofs.lemmas.Bool.Decides.{nat_tests}
use Rattle.byteorder.specs.Endian.{little_number}
use Rattle.swi_program.specs.Text.{words_from}
use Rattle.swi_image.specs.Format.{ImageData, image_of_words, version_of, blocks_of, len_of, starts_of, ends_of, offsets_of, offsets_at, body_of, pieces}
use Rattle.swi_image.specs.Checks.{begin_of, size_of}
use Rattle.swi_image.specs.Row.{row_begin}
use Rattle.swi_image.specs.Kept.{IsAccepted}
use Rattle.swi_image.proofs.Reading.{start_read, end_read, offset_read}
use Rattle.swi_image.proofs.Rows.{row_is}
use Rattle.swi_image.proofs.Views.{seen_blocks, seen_len, seen_length, seen_word}

-- ---- bytes

words_shift : (bs rest : List ℕ) (at n : ℕ) → length bs ≡ 4 → words_from (bs ++ rest) (4 + at) n ≡ words_from rest at n
unfolding words_from
words_shift bs rest at zero four = refl
words_shift bs rest at (suc n) four =
    let here : drop (4 + at) (bs ++ rest) ≡ drop at rest = rw four at (drop-append-add bs rest at) in
    let on : 4 + at + 4 ≡ 4 + (at + 4) = omega arith in
    rw (here, on, words_shift bs rest (at + 4) n four) refl

four_once : (a b c d e f g h : ℕ) (xs ys : List ℕ) → a < 256 → b < 256 → c < 256 → d < 256 → e < 256 → f < 256 → g < 256 → h < 256 →
    little_number 4 (a ∷ b ∷ c ∷ d ∷ xs) ≡ little_number 4 (e ∷ f ∷ g ∷ h ∷ ys) → (a ≡ e) × ((b ≡ f) × ((c ≡ g) × (d ≡ h)))
four_once a b c d e f g h xs ys p q r s t u v w same = (omega arith, (omega arith, (omega arith, omega arith)))

heads : (x y : ℕ) (xs ys : List ℕ) → x ∷ xs ≡ y ∷ ys → (x ≡ y) × (xs ≡ ys)
heads x y xs ys e = (ap (λ (l : List ℕ). get_or l 0 0) e, ap (λ (l : List ℕ). drop 1 l) e)

pub bytes_once : (n : ℕ) (xs ys : List ℕ) → length xs ≡ 4 * n → length ys ≡ 4 * n → ((i : ℕ) → get_or xs i 0 < 256) → ((i : ℕ) → get_or ys i 0 < 256) → words_from xs 0 n ≡ words_from ys 0 n → xs ≡ ys
unfolding words_from
bytes_once zero [] [] p q s t e = refl
bytes_once zero (x ∷ xs) ys p q s t e = absurd (omega arith)
bytes_once zero [] (y ∷ ys) p q s t e = absurd (omega arith)
bytes_once (suc n) [] ys p q s t e = absurd (omega arith)
bytes_once (suc n) (a ∷ []) ys p q s t e = absurd (omega arith)
bytes_once (suc n) (a ∷ b ∷ []) ys p q s t e = absurd (omega arith)
bytes_once (suc n) (a ∷ b ∷ c ∷ []) ys p q s t e = absurd (omega arith)
bytes_once (suc n) (a ∷ b ∷ c ∷ d ∷ xs) [] p q s t e = absurd (omega arith)
bytes_once (suc n) (a ∷ b ∷ c ∷ d ∷ xs) (e1 ∷ []) p q s t e = absurd (omega arith)
bytes_once (suc n) (a ∷ b ∷ c ∷ d ∷ xs) (e1 ∷ f ∷ []) p q s t e = absurd (omega arith)
bytes_once (suc n) (a ∷ b ∷ c ∷ d ∷ xs) (e1 ∷ f ∷ g ∷ []) p q s t e = absurd (omega arith)
bytes_once (suc n) (a ∷ b ∷ c ∷ d ∷ xs) (e1 ∷ f ∷ g ∷ h ∷ ys) p q s t e =
    let split = heads (little_number 4 (a ∷ b ∷ c ∷ d ∷ xs)) (little_number 4 (e1 ∷ f ∷ g ∷ h ∷ ys)) (words_from (a ∷ b ∷ c ∷ d ∷ xs) 4 n) (words_from (e1 ∷ f ∷ g ∷ h ∷ ys) 4 n) e in
    let first = four_once a b c d e1 f g h xs ys (s 0) (s 1) (s 2) (s 3) (t 0) (t 1) (t 2) (t 3) split.0 in
    let one : words_from (a ∷ b ∷ c ∷ d ∷ xs) 4 n ≡ words_from xs 0 n = words_shift (a ∷ b ∷ c ∷ d ∷ []) xs 0 n refl in
    let other : words_from (e1 ∷ f ∷ g ∷ h ∷ ys) 4 n ≡ words_from ys 0 n = words_shift (e1 ∷ f ∷ g ∷ h ∷ []) ys 0 n refl in
    let rest : xs ≡ ys = bytes_once n xs ys (omega arith) (omega arith) (λ i. s (suc (suc (suc (suc i))))) (λ i. t (suc (suc (suc (suc i))))) (sym one ∙ (split.1 ∙ other)) in
    let a1 : a ≡ e1 = first.0 in
    let a2 : b ≡ f = first.1.0 in
    let a3 : c ≡ g = first.1.1.0 in
    let a4 : d ≡ h = first.1.1.1 in
    cc

-- ---- words

begin_next : (ends : List ℕ) (b : ℕ) → begin_of ends (suc b) ≡ get_or ends b 0
begin_next ends b =
    let same : suc b - 1 ≡ b = omega arith in
    let other : (suc b == 0) ≡ false = grind (arith, nat_tests) in
    rw (other, same) refl

-- two images of version 2 in words that say the same
pub record SaySame (w w_ : List ℕ) : Type 0 where
  pub one : IsAccepted w
  pub other : IsAccepted w_
  pub magic : get_or w 0 0 ≡ get_or w_ 0 0
  pub two : version_of w ≡ 2
  pub same : image_of_words w ≡ image_of_words w_

blocks_same : (w w_ : List ℕ) → SaySame w w_ → blocks_of w ≡ blocks_of w_
blocks_same w w_ s =
    let e : length (starts_of w) ≡ length (starts_of w_) = ap (λ (v : ImageData). length v.starts) s.same in
    seen_blocks w s.one.sizes ∙ (e ∙ sym (seen_blocks w_ s.other.sizes))

len_same : (w w_ : List ℕ) → SaySame w w_ → len_of w ≡ len_of w_
len_same w w_ s =
    let e : length (offsets_of w) ≡ length (offsets_of w_) = ap (λ (v : ImageData). length v.offsets) s.same in
    seen_len w s.one.sizes ∙ (e ∙ sym (seen_len w_ s.other.sizes))

two_same : (w w_ : List ℕ) → SaySame w w_ → version_of w_ ≡ 2
two_same w w_ s = sym (ap (λ (v : ImageData). v.version) s.same) ∙ s.two

begin_same : (w w_ : List ℕ) → SaySame w w_ → (b : ℕ) → b ≤ blocks_of w → begin_of (ends_of w) b ≡ begin_of (ends_of w_) b
begin_same w w_ s b within =
    let e : row_begin (image_of_words w) b ≡ row_begin (image_of_words w_) b = ap (λ (v : ImageData). row_begin v b) s.same in
    sym (row_is w s.one b within) ∙ (e ∙ row_is w_ s.other b (omega (arith, blocks_same w w_ s)))

end_same : (w w_ : List ℕ) → SaySame w w_ → (b : ℕ) → b < blocks_of w → get_or (ends_of w) b 0 ≡ get_or (ends_of w_) b 0
end_same w w_ s b within = sym (begin_next (ends_of w) b) ∙ (begin_same w w_ s (suc b) (omega arith) ∙ begin_next (ends_of w_) b)

offsets_here : (w : List ℕ) → version_of w ≡ 2 → offsets_at w ≡ 6 + 2 * blocks_of w
unfolding offsets_at
offsets_here w two = let test : (version_of w == 2) ≡ true = grind (arith, nat_tests) in rw test refl

size_here : (w : List ℕ) → IsAccepted w → version_of w ≡ 2 → length w ≡ 6 + 2 * blocks_of w + len_of w + get_or (ends_of w) (blocks_of w - 1) 0
unfolding size_of
size_here w a two =
    let test : (version_of w == 2) ≡ true = grind (arith, nat_tests) in
    let all : length w ≡ 6 + 2 * blocks_of w + len_of w + get_or w (5 + 2 * blocks_of w) 0 = rw test at a.sizes.size in
    let place : 6 + blocks_of w + (blocks_of w - 1) ≡ 5 + 2 * blocks_of w = omega (arith, a.sizes.some) in
    let last : get_or (ends_of w) (blocks_of w - 1) 0 ≡ get_or w (5 + 2 * blocks_of w) 0 = rw place at (end_read w (blocks_of w - 1) two (omega (arith, a.sizes.some))) in
    omega arith

six : (w w_ : List ℕ) → SaySame w w_ → (i : ℕ) → i < 6 → get_or w i 0 ≡ get_or w_ i 0
six w w_ s zero low = s.magic
six w w_ s (suc zero) low = ap (λ (v : ImageData). v.version) s.same
six w w_ s (suc (suc zero)) low = ap (λ (v : ImageData). v.block_words) s.same
six w w_ s (suc (suc (suc zero))) low = blocks_same w w_ s
six w w_ s (suc (suc (suc (suc zero)))) low = len_same w w_ s
six w w_ s (suc (suc (suc (suc (suc zero))))) low = ap (λ (v : ImageData). v.base) s.same
six w w_ s (suc (suc (suc (suc (suc (suc i)))))) low = absurd (omega arith)

start_same : (w w_ : List ℕ) → SaySame w w_ → (i : ℕ) → 6 ≤ i → i < 6 + blocks_of w → get_or w i 0 ≡ get_or w_ i 0
start_same w w_ s i low high =
    let on : 6 + (i - 6) ≡ i = omega arith in
    let e : get_or (starts_of w) (i - 6) 0 ≡ get_or (starts_of w_) (i - 6) 0 = ap (λ (v : ImageData). get_or v.starts (i - 6) 0) s.same in
    let one = rw on at (start_read w (i - 6) (omega arith)) in
    let other = rw on at (start_read w_ (i - 6) (omega (arith, blocks_same w w_ s))) in
    sym one ∙ (e ∙ other)

ends_same : (w w_ : List ℕ) → SaySame w w_ → (i : ℕ) → 6 + blocks_of w ≤ i → i < 6 + 2 * blocks_of w → get_or w i 0 ≡ get_or w_ i 0
ends_same w w_ s i low high =
    let b : ℕ = i - (6 + blocks_of w) in
    let on : 6 + blocks_of w + b ≡ i = omega arith in
    let on_ : 6 + blocks_of w_ + b ≡ i = omega (arith, blocks_same w w_ s) in
    let one = rw on at (end_read w b s.two (omega arith)) in
    let other = rw on_ at (end_read w_ b (two_same w w_ s) (omega (arith, blocks_same w w_ s))) in
    sym one ∙ (end_same w w_ s b (omega arith) ∙ other)

offset_same : (w w_ : List ℕ) → SaySame w w_ → (i : ℕ) → 6 + 2 * blocks_of w ≤ i → i < 6 + 2 * blocks_of w + len_of w → get_or w i 0 ≡ get_or w_ i 0
offset_same w w_ s i low high =
    let k : ℕ = i - (6 + 2 * blocks_of w) in
    let on : offsets_at w + k ≡ i = omega (arith, offsets_here w s.two) in
    let on_ : offsets_at w_ + k ≡ i = omega (arith, offsets_here w_ (two_same w w_ s), blocks_same w w_ s) in
    let e : get_or (offsets_of w) k 0 ≡ get_or (offsets_of w_) k 0 = ap (λ (v : ImageData). get_or v.offsets k 0) s.same in
    let one = rw on at (offset_read w k (omega arith)) in
    let other = rw on_ at (offset_read w_ k (omega (arith, len_same w w_ s))) in
    sym one ∙ (e ∙ other)

-- the block of a word of the body
record Among (ends : List ℕ) (n j : ℕ) : Type 0 where
  block : ℕ
  within : block < n
  low : begin_of ends block ≤ j
  high : j < get_or ends block 0

among : (ends : List ℕ) (n j : ℕ) → j < begin_of ends n → Among ends n j
among ends zero j less = absurd (omega arith)
among ends (suc n) j less = elim (cases_lt j (begin_of ends n)) [
  | inl before ↦ (let a = among ends n j before in record { block = a.block; within = omega (arith, a.within); low = a.low; high = a.high })
  | inr here ↦ record { block = n; within = omega arith; low = here; high = omega (arith, begin_next ends n) }
]

body_same : (w w_ : List ℕ) → SaySame w w_ → (i : ℕ) → 6 + 2 * blocks_of w + len_of w ≤ i → i < length w → get_or w i 0 ≡ get_or w_ i 0
body_same w w_ s i low high =
    let j : ℕ = i - (6 + 2 * blocks_of w + len_of w) in
    let last : ℕ = blocks_of w - 1 in
    let one_more : suc last ≡ blocks_of w = omega (arith, s.one.sizes.some) in
    let all : begin_of (ends_of w) (blocks_of w) ≡ get_or (ends_of w) last 0 = rw one_more at (begin_next (ends_of w) last) in
    let a = among (ends_of w) (blocks_of w) j (omega (arith, size_here w s.one s.two, all)) in
    let b : ℕ = a.block in
    let o : ℕ = j - begin_of (ends_of w) b in
    let within_ : b < blocks_of w_ = omega (arith, a.within, blocks_same w w_ s) in
    let p : get_or (get_or (pieces 0 (ends_of w) (body_of w)) b []) o 0 ≡ get_or (get_or (pieces 0 (ends_of w_) (body_of w_)) b []) o 0 = ap (λ (v : ImageData). get_or (get_or v.blocks b []) o 0) s.same in
    let inside : o < length (get_or (pieces 0 (ends_of w) (body_of w)) b []) = omega (arith, seen_length w b s.one a.within, a.low, a.high) in
    let size : length (get_or (pieces 0 (ends_of w) (body_of w)) b []) ≡ length (get_or (pieces 0 (ends_of w_) (body_of w_)) b []) = ap (λ (v : ImageData). length (get_or v.blocks b [])) s.same in
    let at : offsets_at w + len_of w + begin_of (ends_of w) b + o ≡ i = omega (arith, offsets_here w s.two, a.low) in
    let at_ : offsets_at w_ + len_of w_ + begin_of (ends_of w_) b + o ≡ i = omega (arith, offsets_here w_ (two_same w w_ s), blocks_same w w_ s, len_same w w_ s, begin_same w w_ s b (omega (arith, a.within)), a.low) in
    let one = rw at at (seen_word w b o s.one a.within inside) in
    let other = rw at_ at (seen_word w_ b o s.other within_ (omega arith)) in
    sym one ∙ (p ∙ other)

words_same : (w w_ : List ℕ) → SaySame w w_ → (i : ℕ) → i < length w → get_or w i 0 ≡ get_or w_ i 0
words_same w w_ s i within = elim (cases_lt i 6) [
  | inl a ↦ six w w_ s i a
  | inr a ↦ elim (cases_lt i (6 + blocks_of w)) [
    | inl b ↦ start_same w w_ s i a b
    | inr b ↦ elim (cases_lt i (6 + 2 * blocks_of w)) [
      | inl c ↦ ends_same w w_ s i b c
      | inr c ↦ elim (cases_lt i (6 + 2 * blocks_of w + len_of w)) [
        | inl d ↦ offset_same w w_ s i c d
        | inr d ↦ body_same w w_ s i d within
      ]
    ]
  ]
]

size_same : (w w_ : List ℕ) → SaySame w w_ → length w ≡ length w_
size_same w w_ s =
    let last = end_same w w_ s (blocks_of w - 1) (omega (arith, s.one.sizes.some)) in
    let same : get_or (ends_of w_) (blocks_of w - 1) 0 ≡ get_or (ends_of w_) (blocks_of w_ - 1) 0 = ap (λ (n : ℕ). get_or (ends_of w_) (n - 1) 0) (blocks_same w w_ s) in
    omega (arith, size_here w s.one s.two, size_here w_ s.other (two_same w w_ s), last, same, blocks_same w w_ s, len_same w w_ s)

pub words_once : (w w_ : List ℕ) → SaySame w w_ → w ≡ w_
words_once w w_ s = ext_get_or 0 w w_ (size_same w w_ s) (words_same w w_ s)

pub say_same : (w w_ : List ℕ) → IsAccepted w → IsAccepted w_ → get_or w 0 0 ≡ get_or w_ 0 0 → version_of w ≡ 2 → image_of_words w ≡ image_of_words w_ → SaySame w w_
say_same w w_ a b m v e = record { one = a; other = b; magic = m; two = v; same = e }
