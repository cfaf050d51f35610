-- Halving among the blocks of a row.
use Rattle.std.proofs.Common.{◌≡◌, ℕ, ◌+◌, ◌-◌, ◌<◌, ◌≤◌, length, arith, inl, inr, refl}
use Rattle.std.proofs.lemmas.Bool.{cases_eq}
use Rattle.swi_image.specs.Format.{ImageData}
use Rattle.swi_image.specs.Place.{length_at}
use Rattle.swi_image.specs.Row.{row_begin, row_first, row_length, row_next}

-- the block of a word of the row is one of those from low - 1 up to high
pub record Halved (v : ImageData) (k low high : ℕ) : Type 0 where
  pub ordered : low ≤ high
  pub fits : high ≤ length v.starts
  pub below : 0 < low → row_begin v (low - 1) ≤ k
  pub above : k < row_begin v high

pub halved_all : (v : ImageData) (k high : ℕ) → high ≡ length v.starts → k < row_length v → Halved v k 0 high
halved_all v k high is within = record {
  ordered = omega arith;
  fits = omega arith;
  below = λ some. absurd (omega arith);
  above = rw is within;
}

pub halved_right : (v : ImageData) (k low high middle : ℕ) → Halved v k low high → middle < high → row_begin v middle ≤ k → Halved v k (middle + 1) high
halved_right v k low high middle h to found =
    let same : middle + 1 - 1 ≡ middle = omega arith in
    record { ordered = omega arith; fits = h.fits; below = λ some. rw same found; above = h.above }

pub halved_left : (v : ImageData) (k low high middle : ℕ) → Halved v k low high → low ≤ middle → middle < high → k < row_begin v middle → Halved v k low middle
halved_left v k low high middle h from to found = record { ordered = from; fits = omega (arith, h.fits); below = h.below; above = found }

-- the block is found
pub record Found (v : ImageData) (k low : ℕ) : Type 0 where
  pub some : 0 < low
  pub known : low - 1 < length v.starts
  pub begins : row_begin v (low - 1) ≤ k
  pub inside : k - row_begin v (low - 1) < length_at v (low - 1)

pub halved_found : (v : ImageData) (k low high : ℕ) → Halved v k low high → high ≤ low → Found v k low
halved_found v k low high h done =
    let end : high ≡ low = omega (arith, h.ordered) in
    let above : k < row_begin v low = rw end at h.above in
    let some : 0 < low = elim (cases_eq low 0) [
      | inl none ↦ let wrong : k < row_begin v 0 = rw none at above in absurd (omega (arith, row_first v))
      | inr more ↦ omega arith
    ] in
    let same : low - 1 + 1 ≡ low = omega arith in
    let next = row_next v (low - 1) in
    let begins : row_begin v (low - 1) ≤ k = h.below some in
    let here : row_begin v (low - 1 + 1) ≡ row_begin v low = rw same refl in
    record { some = some; known = omega (arith, h.fits); begins = begins; inside = omega arith }
