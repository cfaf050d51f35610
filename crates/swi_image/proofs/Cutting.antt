-- The words of a block in the bytes of its image.
use Rattle.std.proofs.Common.{◌≡◌, ℕ, ◌+◌, ◌-◌, ◌*◌, ◌/◌, ◌<◌, ◌≤◌, zero, suc, List, [], length, get_or, take, drop, slice_range, arith, refl, ◌∙◌, sym, ap, length-take, length-drop}
use Rattle.std.proofs.lemmas.List.{drop-drop}
use Rattle.swi_program.specs.Text.{words_from}
use Rattle.swi_program.proofs.Words.{words_cut}
use Rattle.swi_image.specs.Words.{words_of, part}
use Rattle.swi_image.specs.Format.{pieces, blocks_of, len_of, ends_of, offsets_at, body_of}
use Rattle.swi_image.specs.Checks.{begin_of, length_of}
use Rattle.swi_image.specs.declared.checks.Header.{Header}
use Rattle.swi_image.specs.Kept.{IsHeader, IsAccepted}
use Rattle.swi_image.proofs.Counting.{length_ends}
use Rattle.swi_image.proofs.Reading.{length_words}
use Rattle.swi_image.proofs.Views.{piece_at, end_within, seen_ordered}

words_within : (bytes : List ℕ) (at k i n : ℕ) → i + n ≤ k → take n (drop i (words_from bytes at k)) ≡ words_from bytes (at + 4 * i) n
unfolding words_from
words_within bytes at zero zero zero within = refl
words_within bytes at zero zero (suc n) within = absurd (omega arith)
words_within bytes at zero (suc i) n within = absurd (omega arith)
words_within bytes at (suc k) zero zero within = refl
words_within bytes at (suc k) zero (suc n) within = grind (arith, words_within bytes (at + 4) k zero n)
words_within bytes at (suc k) (suc i) n within = grind (arith, words_within bytes (at + 4) k i n)

-- n words from the i-th on, as the words of their own bytes
cut_words : (bytes : List ℕ) (i n : ℕ) → i + n ≤ length bytes / 4 → words_of (take (4 * n) (drop (4 * i) bytes)) ≡ part i n (words_of bytes)
unfolding words_of
cut_words bytes i n within =
    let m : ℕ = 4 * n in
    let whole : length (take m (drop (4 * i) bytes)) ≡ m = omega (arith, length-take m (drop (4 * i) bytes), length-drop (4 * i) bytes) in
    let count : m / 4 ≡ n = omega arith in
    let here : 4 * i + 0 ≡ 0 + 4 * i = omega arith in
    rw (whole, count, words_within bytes 0 (length bytes / 4) i n within, words_cut bytes m (4 * i) 0 n (omega arith), here) refl

-- a block's words stand in the bytes from its begin to its end
pub block_cut : (h : Header) (bytes : List ℕ) (b from to : ℕ) → IsHeader h (words_of bytes) → IsAccepted (words_of bytes) → b < blocks_of (words_of bytes) →
    from ≡ h.body + begin_of (ends_of (words_of bytes)) b → to ≡ h.body + get_or (ends_of (words_of bytes)) b 0 →
    words_of (slice_range bytes (4 * from) (4 * to)) ≡ get_or (pieces 0 (ends_of (words_of bytes)) (body_of (words_of bytes))) b []
unfolding body_of
block_cut h bytes b from to is a within from_is to_is =
    let w : List ℕ = words_of bytes in
    let begin : ℕ = begin_of (ends_of w) b in
    let size : ℕ = length_of (ends_of w) b in
    let order = seen_ordered w b a within in
    let inside = end_within h w b is a within in
    let bytes_of : 4 * to - 4 * from ≡ 4 * size = omega (arith, order.0) in
    let words : words_of (take (4 * size) (drop (4 * from) bytes)) ≡ part from size w = cut_words bytes from size (omega (arith, order.0, inside, length_words bytes)) in
    let at : offsets_at w + len_of w + begin ≡ from = omega (arith, is.body) in
    let piece = piece_at (ends_of w) (body_of w) b (omega (arith, length_ends w a.sizes)) in
    let deep : drop begin (drop (offsets_at w + len_of w) w) ≡ drop from w = drop-drop begin (offsets_at w + len_of w) w ∙ ap (λ (n : ℕ). drop n w) at in
    ap (λ (n : ℕ). words_of (take n (drop (4 * from) bytes))) bytes_of ∙ words ∙ sym (ap (λ (ws : List ℕ). take size ws) deep) ∙ sym piece
