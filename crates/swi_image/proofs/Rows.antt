-- Where blocks begin in the row of all words.
use Rattle.std.proofs.Common.{◌≡◌, ℕ, zero, suc, [], ◌+◌, ◌-◌, ◌<◌, ◌≤◌, ◌==◌, false, List, length, get_or, arith, refl, sym, ap, ◌∙◌, None, ◌^◌}
use Rattle.std.proofs.lemmas.Bool.Decides.{nat_tests}
use Rattle.swi_image.specs.Words.{words_of}
use Rattle.swi_image.specs.Format.{image_of_words, blocks_of, body_of, ends_of, starts_of, len_of, offsets_at, pieces}
use Rattle.swi_image.specs.Checks.{begin_of, first_refusal}
use Rattle.swi_image.specs.Kept.{IsAccepted, IsView}
use Rattle.swi_image.specs.declared.checks.Header.{Header}
use Rattle.swi_image.specs.Place.{block_at}
use Rattle.swi_image.specs.Row.{row_begin}
use Rattle.swi_image.proofs.Reading.{length_words}
use Rattle.swi_image.proofs.Views.{block_length, end_within, few_bytes, length_right, seen_word}
use Rattle.swi_image.proofs.Counting.{length_starts, length_ends}

-- a block but the first begins where the one before ends
begin_next : (ends : List ℕ) (b : ℕ) → begin_of ends (suc b) ≡ get_or ends b 0
begin_next ends b =
    let same : suc b - 1 ≡ b = omega arith in
    let other : (suc b == 0) ≡ false = grind (arith, nat_tests) in
    rw (other, same) refl

pub row_is : (w : List ℕ) → IsAccepted w → (b : ℕ) → b ≤ blocks_of w → row_begin (image_of_words w) b ≡ begin_of (ends_of w) b
unfolding row_begin block_at
row_is w a zero within = refl
row_is w a (suc b) within =
    let ordered = length_right _ (ends_of w) a.lengths b (omega (arith, length_ends w a.sizes)) in
    let size = block_length w a.sizes a.lengths b (omega arith) in
    let here = row_is w a b (omega arith) in
    let end : begin_of (ends_of w) (suc b) ≡ get_or (ends_of w) b 0 = begin_next (ends_of w) b in
    omega (arith, ordered.0, size, here, end)

-- what is seen of it
pub seen_begin : (w : List ℕ) → IsAccepted w → (b : ℕ) → b < blocks_of w → row_begin (image_of_words w) b ≡ begin_of (ends_of w) b
seen_begin w a b within = row_is w a b (omega arith)

pub seen_row : (w : List ℕ) → IsAccepted w → row_begin (image_of_words w) (length (starts_of w)) ≡ get_or (ends_of w) (blocks_of w - 1) 0
seen_row w a =
    let on : length (starts_of w) ≡ suc (blocks_of w - 1) = omega (arith, length_starts w a.sizes, a.sizes.some) in
    let end : begin_of (ends_of w) (suc (blocks_of w - 1)) ≡ get_or (ends_of w) (blocks_of w - 1) 0 = begin_next (ends_of w) (blocks_of w - 1) in
    rw (on, row_is w a (suc (blocks_of w - 1)) (omega (arith, a.sizes.some)), end) refl

pub ruleset rows = (seen_begin, seen_row)

-- how many there are
few_words : (bytes : List ℕ) → first_refusal bytes ≡ None → length (words_of bytes) < 2 ^ 30
few_words bytes e = omega (arith, few_bytes bytes e, length_words bytes)

pub end_few : (h : Header) (bytes : List ℕ) (b : ℕ) → IsView bytes h → b < blocks_of (words_of bytes) → get_or (ends_of (words_of bytes)) b 0 < 2 ^ 30
end_few h bytes b i within =
    let end = end_within h (words_of bytes) b i.header i.kept within in
    let few = few_words bytes i.accepted in
    omega arith

pub begin_few : (h : Header) (bytes : List ℕ) (b : ℕ) → IsView bytes h → b < blocks_of (words_of bytes) → begin_of (ends_of (words_of bytes)) b < 2 ^ 30
begin_few h bytes b i within =
    let ordered = length_right _ (ends_of (words_of bytes)) i.kept.lengths b (omega (arith, length_ends (words_of bytes) i.kept.sizes)) in
    let end = end_few h bytes b i within in
    omega (arith, ordered.0)

-- a word of the row is among the words
pub row_word_inside : (h : Header) (bytes : List ℕ) (k : ℕ) → IsView bytes h → k < row_begin (image_of_words (words_of bytes)) (length (starts_of (words_of bytes))) → h.body + k < length (words_of bytes)
row_word_inside h bytes k i within =
    let some = i.kept.sizes.some in
    let end = end_within h (words_of bytes) (blocks_of (words_of bytes) - 1) i.header i.kept (omega arith) in
    let all = seen_row (words_of bytes) i.kept in
    omega arith

-- and that of its block
pub row_word : (h : Header) (bytes : List ℕ) (k b o : ℕ) → IsView bytes h → b < blocks_of (words_of bytes) → o < length (get_or (pieces 0 (ends_of (words_of bytes)) (body_of (words_of bytes))) b []) →
    k ≡ row_begin (image_of_words (words_of bytes)) b + o → get_or (words_of bytes) (h.body + k) 0 ≡ get_or (get_or (pieces 0 (ends_of (words_of bytes)) (body_of (words_of bytes))) b []) o 0
row_word h bytes k b o i within inside is =
    let begin = seen_begin (words_of bytes) i.kept b within in
    let body = i.header.body in
    let on : h.body + k ≡ offsets_at (words_of bytes) + len_of (words_of bytes) + begin_of (ends_of (words_of bytes)) b + o = omega arith in
    ap (λ (n : ℕ). get_or (words_of bytes) n 0) on ∙ sym (seen_word (words_of bytes) b o i.kept within inside)
