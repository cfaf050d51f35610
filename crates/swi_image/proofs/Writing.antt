-- Bytes that are written, read back.
use Rattle.std.proofs.Common.{◌≢◌, ◌≡◌, ℕ, ◌+◌, ◌-◌, ◌*◌, ◌/◌, ◌^◌, ◌<◌, ◌≤◌, zero, suc, List, [], ◌∷◌, ◌++◌, length, get_or, take, drop, arith, refl, ap, ◌∙◌, sym, append_assoc, length-append, true, false, nat_le, nat_lt, ◌||◌, not, ◌==◌, None, inl, inr}
use Rattle.std.proofs.Math.Seq.{get_or-append_right, drop-append-add, drop-append_seam, take-append_seam}
use Rattle.std.proofs.Math.ListN.{get_or-append}
use Rattle.std.proofs.lemmas.Bool.{cases_lt, cases_eq}
use Rattle.std.proofs.lemmas.Bool.Decides.{nat_tests}
use Rattle.byteorder.specs.Endian.{little_number, little_bytes}
use Rattle.swi_program.specs.Text.{words_from}
use Rattle.swi_program.specs.ProgramOf.{bytes_of_words}
use Rattle.swi_program.proofs.FromWords.{length_bytes}
use Rattle.swi_image.specs.Words.{words_of}
use Rattle.swi_image.specs.Format.{image_of, image_of_words, starts_of, ends_of, offsets_at, offsets_of, body_of}
use Rattle.swi_image.specs.Checks.{begin_of, length_of, block_of, first_below, is_start_wrong, is_end_wrong, is_offset_wrong, size_of, header_refusal, tables_refusal, first_refusal}
use Rattle.swi_image.specs.Laws.{Ascends, in_block}
use Rattle.swi_image.proofs.Reading.{end_read, pick_none}
use Rattle.swi_image.specs.Sound.{AreTables, image_of_tables, header_words, image_words}

words_shift : (bs rest : List ℕ) (at n : ℕ) → length bs ≡ 4 → words_from (bs ++ rest) (4 + at) n ≡ words_from rest at n
unfolding words_from
words_shift bs rest at zero four = refl
words_shift bs rest at (suc n) four =
    let here : drop (4 + at) (bs ++ rest) ≡ drop at rest = rw four at (drop-append-add bs rest at) in
    let on : 4 + at + 4 ≡ 4 + (at + 4) = omega arith in
    rw (here, on, words_shift bs rest (at + 4) n four) refl

number_back : (w : ℕ) (rest : List ℕ) → w < 2 ^ 32 → little_number 4 (little_bytes 4 w ++ rest) ≡ w
number_back w rest small = omega arith

words_back : (ws : List ℕ) → ((i : ℕ) → get_or ws i 0 < 2 ^ 32) → words_from (bytes_of_words ws) 0 (length ws) ≡ ws
unfolding words_from bytes_of_words
words_back [] small = refl
words_back (w ∷ ws) small =
    let first : little_number 4 (little_bytes 4 w ++ bytes_of_words ws) ≡ w = number_back w (bytes_of_words ws) (small 0) in
    let rest : words_from (little_bytes 4 w ++ bytes_of_words ws) (4 + 0) (length ws) ≡ words_from (bytes_of_words ws) 0 (length ws) = words_shift (little_bytes 4 w) (bytes_of_words ws) 0 (length ws) refl in
    rw (first, rest, words_back ws (λ i. small (suc i))) refl

pub words_of_bytes : (ws : List ℕ) → ((i : ℕ) → get_or ws i 0 < 2 ^ 32) → words_of (bytes_of_words ws) ≡ ws
unfolding words_of
words_of_bytes ws small =
    let size : length (bytes_of_words ws) / 4 ≡ length ws = omega (arith, length_bytes ws) in
    rw size (words_back ws small)

pub bytes_append : (xs ys : List ℕ) → bytes_of_words (xs ++ ys) ≡ bytes_of_words xs ++ bytes_of_words ys
unfolding bytes_of_words
bytes_append [] ys = refl
bytes_append (x ∷ xs) ys = rw (bytes_append xs ys, append_assoc) refl

-- a list put together, and its parts

part_at : (a b c : List ℕ) (i n : ℕ) → i ≡ length a → n ≡ length b → take n (drop i (a ++ (b ++ c))) ≡ b
part_at a b c i n at size = rw (at, size, drop-append_seam, take-append_seam) refl

rest_at : (a b : List ℕ) (i : ℕ) → i ≡ length a → drop i (a ++ b) ≡ b
rest_at a b i at = rw (at, drop-append_seam) refl

regroup_1 : (a b c d e : List ℕ) → (((a ++ b) ++ c) ++ d) ++ e ≡ a ++ (b ++ (c ++ (d ++ e)))
regroup_1 a b c d e = simp append_assoc

regroup_2 : (a b c d e : List ℕ) → (((a ++ b) ++ c) ++ d) ++ e ≡ (a ++ b) ++ (c ++ (d ++ e))
regroup_2 a b c d e = simp append_assoc

regroup_3 : (a b c d e : List ℕ) → (((a ++ b) ++ c) ++ d) ++ e ≡ ((a ++ b) ++ c) ++ (d ++ e)
regroup_3 a b c d e = simp append_assoc

starts_back : (most base : ℕ) (starts ends offsets words : List ℕ) → starts_of (image_words most base starts ends offsets words) ≡ starts
unfolding starts_of
starts_back most base starts ends offsets words =
    let h : List ℕ = header_words most (length starts) (length offsets) base in
    ap (λ (l : List ℕ). take (length starts) (drop 6 l)) (regroup_1 h starts ends offsets words)
    ∙ part_at h starts (ends ++ (offsets ++ words)) 6 (length starts) refl refl

ends_back : (most base : ℕ) (starts ends offsets words : List ℕ) → length ends ≡ length starts → ends_of (image_words most base starts ends offsets words) ≡ ends
unfolding ends_of
ends_back most base starts ends offsets words same =
    let h : List ℕ = header_words most (length starts) (length offsets) base in
    ap (λ (l : List ℕ). take (length starts) (drop (6 + length starts) l)) (regroup_2 h starts ends offsets words)
    ∙ part_at (h ++ starts) ends (offsets ++ words) (6 + length starts) (length starts) (omega (arith, length-append h starts)) (sym same)

at_back : (most base : ℕ) (starts ends offsets words : List ℕ) → offsets_at (image_words most base starts ends offsets words) ≡ 6 + 2 * length starts
unfolding offsets_at
at_back most base starts ends offsets words = refl

offsets_back : (most base : ℕ) (starts ends offsets words : List ℕ) → length ends ≡ length starts → offsets_of (image_words most base starts ends offsets words) ≡ offsets
unfolding offsets_of
offsets_back most base starts ends offsets words same =
    let h : List ℕ = header_words most (length starts) (length offsets) base in
    ap (λ (n : ℕ). take (length offsets) (drop n (image_words most base starts ends offsets words))) (at_back most base starts ends offsets words)
    ∙ (ap (λ (l : List ℕ). take (length offsets) (drop (6 + 2 * length starts) l)) (regroup_3 h starts ends offsets words)
    ∙ part_at ((h ++ starts) ++ ends) offsets words (6 + 2 * length starts) (length offsets) (omega (arith, length-append (h ++ starts) ends, length-append h starts)) refl)

body_back : (most base : ℕ) (starts ends offsets words : List ℕ) → length ends ≡ length starts → body_of (image_words most base starts ends offsets words) ≡ words
unfolding body_of
body_back most base starts ends offsets words same =
    let h : List ℕ = header_words most (length starts) (length offsets) base in
    ap (λ (n : ℕ). drop (n + length offsets) (image_words most base starts ends offsets words)) (at_back most base starts ends offsets words)
    ∙ rest_at (((h ++ starts) ++ ends) ++ offsets) words (6 + 2 * length starts + length offsets) (omega (arith, length-append ((h ++ starts) ++ ends) offsets, length-append (h ++ starts) ends, length-append h starts))

-- they are read back as the tables
words_image : (most base : ℕ) (starts ends offsets words : List ℕ) → length ends ≡ length starts →
    image_of_words (image_words most base starts ends offsets words) ≡ image_of_tables most base starts ends offsets words
words_image most base starts ends offsets words same =
    rw (starts_back most base starts ends offsets words, ends_back most base starts ends offsets words same, offsets_back most base starts ends offsets words same, body_back most base starts ends offsets words same) refl

-- how many words there are
size_back : (most base : ℕ) (starts ends offsets words : List ℕ) → length ends ≡ length starts → 1 ≤ length starts → get_or ends (length starts - 1) 0 ≡ length words →
    size_of (image_words most base starts ends offsets words) ≡ length (image_words most base starts ends offsets words)
unfolding size_of
size_back most base starts ends offsets words same some last =
    let w : List ℕ = image_words most base starts ends offsets words in
    let h : List ℕ = header_words most (length starts) (length offsets) base in
    let read : get_or (ends_of w) (length starts - 1) 0 ≡ get_or w (6 + length starts + (length starts - 1)) 0 = end_read w (length starts - 1) refl (omega arith) in
    let place : 6 + length starts + (length starts - 1) ≡ 5 + 2 * length starts = omega arith in
    let end : get_or w (5 + 2 * length starts) 0 ≡ length words = rw place at (sym read) ∙ (ap (λ (l : List ℕ). get_or l (length starts - 1) 0) (ends_back most base starts ends offsets words same) ∙ last) in
    let all : length w ≡ 6 + length starts + length ends + length offsets + length words =
    omega (arith, length-append (((h ++ starts) ++ ends) ++ offsets) words, length-append ((h ++ starts) ++ ends) offsets, length-append (h ++ starts) ends, length-append h starts) in
    omega (arith, end, all)

small_append : (xs ys : List ℕ) → ((i : ℕ) → get_or xs i 0 < 2 ^ 32) → ((i : ℕ) → get_or ys i 0 < 2 ^ 32) → (i : ℕ) → get_or (xs ++ ys) i 0 < 2 ^ 32
small_append xs ys a b i = elim (cases_lt i (length xs)) [
  | inl left ↦ rw (get_or-append xs ys 0 i left) (a i)
  | inr right ↦ rw (get_or-append_right xs ys i 0 right) (b (i - length xs))
]

small_header : (most blocks len base : ℕ) → most < 2 ^ 32 → blocks < 2 ^ 32 → len < 2 ^ 32 → base < 2 ^ 32 → (i : ℕ) → get_or (header_words most blocks len base) i 0 < 2 ^ 32
small_header most blocks len base a b c d zero = omega arith
small_header most blocks len base a b c d (suc zero) = omega arith
small_header most blocks len base a b c d (suc (suc zero)) = a
small_header most blocks len base a b c d (suc (suc (suc zero))) = b
small_header most blocks len base a b c d (suc (suc (suc (suc zero)))) = c
small_header most blocks len base a b c d (suc (suc (suc (suc (suc zero))))) = d
small_header most blocks len base a b c d (suc (suc (suc (suc (suc (suc i)))))) = omega arith

-- each table's words are words
pub record AreSmall (first : ℕ) (a b c d : List ℕ) : Type 0 where
  pub base : first < 2 ^ 32
  pub starts : (i : ℕ) → get_or a i 0 < 2 ^ 32
  pub ends : (i : ℕ) → get_or b i 0 < 2 ^ 32
  pub offsets : (i : ℕ) → get_or c i 0 < 2 ^ 32
  pub words : (i : ℕ) → get_or d i 0 < 2 ^ 32

small_image : (most base : ℕ) (starts ends offsets words : List ℕ) → AreTables most starts ends offsets words → AreSmall base starts ends offsets words →
    (i : ℕ) → get_or (image_words most base starts ends offsets words) i 0 < 2 ^ 32
small_image most base starts ends offsets words t s =
    let h : List ℕ = header_words most (length starts) (length offsets) base in
    small_append (((h ++ starts) ++ ends) ++ offsets) words
    (small_append ((h ++ starts) ++ ends) offsets
    (small_append (h ++ starts) ends
    (small_append h starts (small_header most (length starts) (length offsets) base (omega (arith, t.highest)) (omega (arith, t.few, t.fewer)) (omega (arith, t.few)) s.base) s.starts)
    s.ends)
    s.offsets)
    s.words

header_passes : (bytes w : List ℕ) (most base : ℕ) (starts ends offsets words : List ℕ) → w ≡ image_words most base starts ends offsets words → words_of bytes ≡ w → length bytes ≡ 4 * length w →
    AreTables most starts ends offsets words → header_refusal bytes ≡ None
unfolding header_refusal
header_passes bytes w most base starts ends offsets words is read four t =
    let size : length bytes ≡ 4 * size_of (image_words most base starts ends offsets words) = omega (arith, four, ap length is, size_back most base starts ends offsets words t.ended t.some t.all) in
    let least : nat_le 2 most ≡ true = (let f = t.least in grind (arith, nat_tests)) in
    let highest : nat_le most 1024 ≡ true = (let f = t.highest in grind (arith, nat_tests)) in
    let one : nat_le 1 (length offsets) ≡ true = (let f = t.some in let g = t.fewer in grind (arith, nat_tests)) in
    let two : nat_le (length offsets) (2 ^ 19) ≡ true = (let f = t.few in grind (arith, nat_tests)) in
    let three : nat_le 1 (length starts) ≡ true = (let f = t.some in grind (arith, nat_tests)) in
    let four_ : nat_le (length starts) (length offsets) ≡ true = (let g = t.fewer in grind (arith, nat_tests)) in
    let five : (length bytes == 4 * size_of (image_words most base starts ends offsets words)) ≡ true = grind (arith, nat_tests) in
    rw (read, is, least, highest, one, two, three, four_, five) refl

same_test : (a b : ℕ) → a ≡ b → (a == b) ≡ true
same_test a b e = grind (arith, nat_tests)

other_test : (a b : ℕ) → a ≢ b → (a == b) ≡ false
other_test a b e = grind (arith, nat_tests)

both_fit : (x y n : ℕ) → y < x → x < n → (nat_le x y || nat_le n x) ≡ false
both_fit x y n a b = grind (arith, nat_tests)

end_fits : (e b m : ℕ) → b < e → e ≤ b + m → (nat_le e b || nat_lt (b + m) e) ≡ false
end_fits e b m x y = grind (arith, nat_tests)

offset_first : (o l : ℕ) → o ≡ 0 → o < l → (not (o == 0) || nat_le l o) ≡ false
offset_first o l z w = grind (arith, nat_tests)

offset_later : (o p l : ℕ) → p < o → o < l → (nat_le o p || nat_le l o) ≡ false
offset_later o p l a w = grind (arith, nat_tests)

starts_pass : (most : ℕ) (starts ends offsets words : List ℕ) → AreTables most starts ends offsets words → (i : ℕ) → i < length starts → is_start_wrong (length offsets) starts i ≡ false
unfolding is_start_wrong
starts_pass most starts ends offsets words t i within = elim (cases_eq i 0) [
  | inl none ↦
      let first : get_or starts 0 0 ≡ 0 = t.first in
      let inside : get_or starts 0 0 < length offsets = t.inside 0 (omega (arith, t.some)) in
      rw none (grind (arith, nat_tests))
  | inr more ↦
      let other : (i == 0) ≡ false = grind (arith, nat_tests) in
      let same : i - 1 + 1 ≡ i = omega arith in
      let up : get_or starts (i - 1) 0 < get_or starts i 0 = rw same at (t.ascending (i - 1) (omega arith)) in
      let inside : get_or starts i 0 < length offsets = t.inside i within in
      rw other (both_fit (get_or starts i 0) (get_or starts (i - 1) 0) (length offsets) up inside)
]

ends_pass : (most : ℕ) (starts ends offsets words : List ℕ) → AreTables most starts ends offsets words → (i : ℕ) → i < length starts → is_end_wrong most ends i ≡ false
unfolding is_end_wrong
ends_pass most starts ends offsets words t i within =
    let l = t.lengths i within in
    end_fits (get_or ends i 0) (begin_of ends i) most l.0 l.1

offsets_pass : (most : ℕ) (starts ends offsets words : List ℕ) → AreTables most starts ends offsets words → (k : ℕ) → k < length offsets → is_offset_wrong starts ends offsets k ≡ false
unfolding is_offset_wrong
offsets_pass most starts ends offsets words t k within =
    let up : Ascends starts = record { next = t.ascending } in
    let own = in_block starts (length offsets) k up t.some t.first within in
    let b : ℕ = block_of starts k in
    let inside : get_or offsets k 0 < length_of ends b = t.within b k own.0 own.1 own.2 in
    elim (cases_eq (get_or starts b 0) k) [
      | inl begins ↦
          let same : (get_or starts b 0 == k) ≡ true = same_test (get_or starts b 0) k begins in
          let zero_here : get_or offsets k 0 ≡ 0 = (let z : get_or offsets (get_or starts b 0) 0 ≡ 0 = t.begins b own.0 in rw begins at z) in
          rw same (offset_first (get_or offsets k 0) (length_of ends b) zero_here inside)
      | inr later ↦
          let other : (get_or starts b 0 == k) ≡ false = other_test (get_or starts b 0) k later in
          let above : get_or offsets (k - 1) 0 < get_or offsets k 0 = t.ordered b k own.0 (omega (arith, own.1)) own.2 in
          rw other (offset_later (get_or offsets k 0) (get_or offsets (k - 1) 0) (length_of ends b) above inside)
    ]

tables_pass : (most base : ℕ) (starts ends offsets words : List ℕ) → AreTables most starts ends offsets words → tables_refusal (image_words most base starts ends offsets words) ≡ None
unfolding tables_refusal
tables_pass most base starts ends offsets words t =
    let a : first_below (is_start_wrong (length offsets) starts) (length starts) ≡ None = pick_none (is_start_wrong (length offsets) starts) 0 (length starts) (λ k low high. starts_pass most starts ends offsets words t k (omega arith)) in
    let b : first_below (is_end_wrong most ends) (length starts) ≡ None = pick_none (is_end_wrong most ends) 0 (length starts) (λ k low high. ends_pass most starts ends offsets words t k (omega arith)) in
    let c : first_below (is_offset_wrong starts ends offsets) (length offsets) ≡ None = pick_none (is_offset_wrong starts ends offsets) 0 (length offsets) (λ k low high. offsets_pass most starts ends offsets words t k (omega arith)) in
    rw (starts_back most base starts ends offsets words, ends_back most base starts ends offsets words t.ended, offsets_back most base starts ends offsets words t.ended, a, b, c) refl

-- what is written is an image, and reads back as the tables
pub tables_written : (bytes : List ℕ) (most base : ℕ) (starts ends offsets words : List ℕ) → bytes ≡ bytes_of_words (image_words most base starts ends offsets words) →
    AreTables most starts ends offsets words → AreSmall base starts ends offsets words →
    (first_refusal bytes ≡ None) × (image_of bytes ≡ image_of_tables most base starts ends offsets words)
unfolding first_refusal image_of
tables_written bytes most base starts ends offsets words is t s =
    let w : List ℕ = image_words most base starts ends offsets words in
    let read : words_of bytes ≡ w = ap words_of is ∙ words_of_bytes w (small_image most base starts ends offsets words t s) in
    let four : length bytes ≡ 4 * length w = ap length is ∙ length_bytes w in (
      rw (header_passes bytes w most base starts ends offsets words refl read four t, read, tables_pass most base starts ends offsets words t) refl,
      rw read (words_image most base starts ends offsets words t.ended),
    )

-- what five writes leave
pub five_written : (a b c d e z : List ℕ) → z ≡ ((((bytes_of_words a) ++ bytes_of_words b) ++ bytes_of_words c) ++ bytes_of_words d) ++ bytes_of_words e → z ≡ bytes_of_words ((((a ++ b) ++ c) ++ d) ++ e)
five_written a b c d e z is =
    is ∙ sym (bytes_append (((a ++ b) ++ c) ++ d) e ∙ ap (λ (l : List ℕ). l ++ bytes_of_words e)
    (bytes_append ((a ++ b) ++ c) d ∙ ap (λ (l : List ℕ). l ++ bytes_of_words d)
    (bytes_append (a ++ b) c ∙ ap (λ (l : List ℕ). l ++ bytes_of_words c) (bytes_append a b))))

pub five_writes : (a b c d e z0 z1 z2 z3 z4 z5 : List ℕ) → z0 ≡ [] → z1 ≡ z0 ++ bytes_of_words a → z2 ≡ z1 ++ bytes_of_words b → z3 ≡ z2 ++ bytes_of_words c → z4 ≡ z3 ++ bytes_of_words d → z5 ≡ z4 ++ bytes_of_words e →
    z5 ≡ bytes_of_words ((((a ++ b) ++ c) ++ d) ++ e)
five_writes a b c d e z0 z1 z2 z3 z4 z5 e0 e1 e2 e3 e4 e5 =
    let first : z1 ≡ bytes_of_words a = e1 ∙ ap (λ (l : List ℕ). l ++ bytes_of_words a) e0 in
    let second : z2 ≡ bytes_of_words a ++ bytes_of_words b = e2 ∙ ap (λ (l : List ℕ). l ++ bytes_of_words b) first in
    let third : z3 ≡ (bytes_of_words a ++ bytes_of_words b) ++ bytes_of_words c = e3 ∙ ap (λ (l : List ℕ). l ++ bytes_of_words c) second in
    let fourth : z4 ≡ ((bytes_of_words a ++ bytes_of_words b) ++ bytes_of_words c) ++ bytes_of_words d = e4 ∙ ap (λ (l : List ℕ). l ++ bytes_of_words d) third in
    five_written a b c d e z5 (e5 ∙ ap (λ (l : List ℕ). l ++ bytes_of_words e) fourth)
