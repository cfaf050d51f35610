-- The words of all blocks of an image in a row, block behind block. Own format: so they stand in its bytes.
use Rattle.std.proofs.Common.{◌≡◌, ℕ, zero, suc, ◌+◌, ◌-◌, ◌<◌, ◌≤◌, length, arith, refl, inl, inr}
use Rattle.std.proofs.lemmas.Bool.{cases_eq, cases_lt}
use Rattle.swi_image.specs.Format.{ImageData}
use Rattle.swi_image.specs.Place.{length_at}

-- how many words stand before a block's
unfoldable pub row_begin : ImageData → ℕ → ℕ
row_begin v zero = 0
row_begin v (suc b) = row_begin v b + length_at v b

-- how many there are
abbrev pub row_length : ImageData → ℕ
row_length v = row_begin v (length v.starts)

-- the index of a block's word
abbrev pub row_index : ImageData → ℕ → ℕ → ℕ
row_index v b o = row_begin v b + o

pub row_first : (v : ImageData) → row_begin v 0 ≡ 0
unfolding row_begin
row_first v = refl

pub row_next : (v : ImageData) (b : ℕ) → row_begin v (b + 1) ≡ row_begin v b + length_at v b
unfolding row_begin
row_next v b = let on : b + 1 ≡ suc b = omega arith in rw on refl

-- a block's words stand before those of each block behind it
behind : (v : ImageData) (b d : ℕ) → row_begin v b + length_at v b ≤ row_begin v (b + suc d)
unfolding row_begin
behind v b zero = let next : b + suc 0 ≡ suc b = omega arith in rw next (omega arith)
behind v b (suc d) = let next : b + suc (suc d) ≡ suc (b + suc d) = omega arith in rw next (omega (arith, behind v b d))

pub row_apart : (v : ImageData) (b c : ℕ) → b < c → row_begin v b + length_at v b ≤ row_begin v c
row_apart v b c less = let on : b + suc (c - suc b) ≡ c = omega arith in rw on at (behind v b (c - suc b))

-- no two places have one index
pub row_once : (v : ImageData) (b c o q : ℕ) → o < length_at v b → q < length_at v c → row_index v b o ≡ row_index v c q → (b ≡ c) × (o ≡ q)
row_once v b c o q inside within same = elim (cases_lt b c) [
  | inl less ↦ let apart = row_apart v b c less in absurd (omega arith)
  | inr most ↦ elim (cases_eq b c) [
    | inl is ↦ let here : row_begin v b ≡ row_begin v c = rw is refl in (is, omega arith)
    | inr other ↦ let apart = row_apart v c b (omega arith) in absurd (omega arith)
  ]
]

-- each lies in the row
pub row_inside : (v : ImageData) (b o : ℕ) → b < length v.starts → o < length_at v b → row_index v b o < row_length v
row_inside v b o known inside = let apart = row_apart v b (length v.starts) known in omega arith
