-- The text word that a word of a block is rendered from is one of the text.
use Rattle.std.proofs.Common.{inl, inr, ◌≡◌, ℕ, ◌+◌, ◌-◌, ◌<◌, ◌≤◌, length, drop, nat_lt, true, false, arith, slice_index}
use Rattle.std.proofs.lemmas.Bool.{cases_lt}
use Rattle.std.proofs.lemmas.Bool.Decides.{nat_tests}
use Rattle.std.proofs.lemmas.List.{length-take, length-drop}
use Rattle.swi_image.specs.Format.{ImageData}
use Rattle.swi_image.specs.Laws.{at_most_le}
use Rattle.swi_image.specs.Place.{next_start, word_before}
use Rattle.swi_image.specs.Sound.{IsImage}
use Rattle.swi_image.specs.Words.{part}

-- the text words of a block end within the text
pub next_within : (v : ImageData) → IsImage v → (b : ℕ) → next_start v b ≤ length v.offsets
next_within v i b = elim (cases_lt (b + 1) (length v.starts)) [
  | inl more ↦
      let test : nat_lt (b + 1) (length v.starts) ≡ true = grind (arith, nat_tests) in
      let within : slice_index v.starts (b + 1) < length v.offsets = i.inside (b + 1) more in
      rw test (omega arith)
  | inr last ↦
      let test : nat_lt (b + 1) (length v.starts) ≡ false = grind (arith, nat_tests) in
      rw test (omega arith)
]

pub word_inside : (v : ImageData) → IsImage v → (b o : ℕ) → b < length v.starts → word_before v b o < length v.offsets
unfolding word_before
word_inside v i b o block =
    let s : ℕ = slice_index v.starts b in
    let first : s < length v.offsets = i.inside b block in
    let end : next_start v b ≤ length v.offsets = next_within v i b in
    let few = at_most_le o (part s (next_start v b - s) v.offsets) in
    omega (arith, few, length-take (next_start v b - s) (drop s v.offsets), length-drop s v.offsets)
