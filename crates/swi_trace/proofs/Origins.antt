-- Which text word a word of a block is listed as.
use Rattle.std.proofs.Common.{inl, inr, ◌≡◌, ℕ, ◌+◌, ◌-◌, ◌*◌, ◌%◌, ◌^◌, ◌<◌, ◌≤◌, List, length, get_or, slice_index, drop, get_or-take, get_or-drop, arith, refl}
use Rattle.std.proofs.lemmas.Bool.{cases_lt}
use Rattle.std.proofs.lemmas.List.{length-take, length-drop}
use Rattle.swi_image.specs.Checks.{at_most}
use Rattle.swi_image.specs.Format.{ImageData}
use Rattle.swi_image.specs.Laws.{Ascends, at_most_le, at_most_bounds}
use Rattle.swi_image.specs.Place.{next_start, word_before}
use Rattle.swi_image.specs.Sound.{IsImage}
use Rattle.swi_image.specs.Words.{part}
use Rattle.swi_program.specs.Text.{TextData, IsSized}
use Rattle.swi_render.proofs.Runs.{offset_next}
use Rattle.swi_render.specs.ImageOf.{IsImageOf, address_of, offset_in, start_of}
use Rattle.swi_trace.proofs.TextWords.{next_within}
use Rattle.swi_trace.specs.Block.{ListsTextWords}

-- of ascending numbers so many are at most x as stand before the first that is above
count_is : (x : ℕ) (xs : List ℕ) (i : ℕ) → Ascends xs → i < length xs → get_or xs i 0 ≤ x
    → (i + 1 < length xs → x < get_or xs (i + 1) 0) → at_most x xs ≡ i + 1
count_is x xs i up within here next =
    let bounds = at_most_bounds x xs up in
    let most : at_most x xs ≤ length xs = at_most_le x xs in
    elim (cases_lt (at_most x xs) (i + 1)) [
      | inl few ↦ let above : x < get_or xs i 0 = bounds.1 i (omega arith) within in absurd (omega arith)
      | inr enough ↦ elim (cases_lt (i + 1) (at_most x xs)) [
        | inl many ↦
            let low : get_or xs (i + 1) 0 ≤ x = bounds.0 (i + 1) many in
            let high : x < get_or xs (i + 1) 0 = next (omega arith) in
            absurd (omega arith)
        | inr all ↦ omega arith
      ]
    ]

part_read : (i n k : ℕ) (w : List ℕ) → k < n → get_or (part i n w) k 0 ≡ get_or w (i + k) 0
part_read i n k w within = rw (get_or-take n (drop i w) k 0 within, get_or-drop i w k 0) refl

length_part : (i n : ℕ) (w : List ℕ) → i + n ≤ length w → length (part i n w) ≡ n
length_part i n w within = omega (arith, length-take n (drop i w), length-drop i w)

-- the text word that begins last, at or before an offset
word_is : (v : ImageData) → IsImage v → (b k o : ℕ) → b < length v.starts → start_of v b ≤ k → k < next_start v b
    → slice_index v.offsets k ≤ o → (k + 1 < next_start v b → o < slice_index v.offsets (k + 1)) → word_before v b o ≡ k
unfolding word_before
word_is v i b k o block from to here next =
    let s : ℕ = start_of v b in
    let n : ℕ = next_start v b - s in
    let end : next_start v b ≤ length v.offsets = next_within v i b in
    let size : length (part s n v.offsets) ≡ n = length_part s n v.offsets (omega arith) in
    let up : Ascends (part s n v.offsets) = record {
      next = λ j within.
          (let later : slice_index v.offsets (s + (j + 1) - 1) < slice_index v.offsets (s + (j + 1)) =
          i.ordered b (s + (j + 1)) block (omega arith) (omega arith) in
          let same : s + (j + 1) - 1 ≡ s + j = omega arith in
          let later' : slice_index v.offsets (s + j) < slice_index v.offsets (s + (j + 1)) = rw same at later in
          rw (part_read s n j v.offsets (omega arith), part_read s n (j + 1) v.offsets (omega arith)) later');
    } in
    let at : s + (k - s) ≡ k = omega arith in
    let behind : s + (k - s + 1) ≡ k + 1 = omega arith in
    let low : get_or (part s n v.offsets) (k - s) 0 ≤ o =
    rw (part_read s n (k - s) v.offsets (omega arith), at) here in
    let high : k - s + 1 < length (part s n v.offsets) → o < get_or (part s n v.offsets) (k - s + 1) 0 =
    λ more. rw (part_read s n (k - s + 1) v.offsets (omega arith), behind) (next (omega arith)) in
    let count : at_most o (part s n v.offsets) ≡ (k - s) + 1 = count_is o (part s n v.offsets) (k - s) up (omega arith) low high in
    omega arith

-- the words of a block are listed as those of its text words
pub lists_text_words : (t : TextData) (v : ImageData) (b : ℕ) → IsSized t → IsImage v → IsImageOf t v → b < length v.starts
    → ListsTextWords t v b
lists_text_words t v b sized i of block = λ k j from to few.
    let own = (of.blocks b block).offsets in
    let end : next_start v b ≤ length v.offsets = next_within v i b in
    let here : slice_index v.offsets k ≡ offset_in t (start_of v b) k = own k from to in
    let next : k + 1 < next_start v b → offset_in t (start_of v b) k + j < slice_index v.offsets (k + 1) =
    λ more.
    (let then : slice_index v.offsets (k + 1) ≡ offset_in t (start_of v b) (k + 1) = own (k + 1) (omega arith) more in
    let step = offset_next t (start_of v b) k from (omega (arith, of.len)) in
    let less = few more in
    omega arith) in
    let word : word_before v b (offset_in t (start_of v b) k + j) ≡ k =
    word_is v i b k (offset_in t (start_of v b) k + j) block from to (omega arith) next in
    let address : (v.base + 4 * k) % 2 ^ 32 ≡ address_of t k = omega (arith, of.base, of.len, sized.end) in
    let distance : offset_in t (start_of v b) k + j - slice_index v.offsets k ≡ j = omega arith in
    rw (word, address, distance) refl
