-- The bytes of an image are one.
use Rattle.std.proofs.Common.{◌≡◌, ◌==◌, ◌/◌, ◌*◌, ◌^◌, ℕ, ◌+◌, ◌<◌, List, [], ◌∷◌, length, get_or, drop, true, nat_le, ◌&&◌, ◌||◌, Some, None, refl, arith, sym, ap, ◌∙◌, inl, inr, get_or-drop}
use Rattle.std.proofs.lemmas.List.{get_or_past}
use Rattle.std.proofs.lemmas.Bool.{cases_Bool, cases_lt}
use Rattle.std.proofs.lemmas.Bool.Decides.{nat_tests}
use Rattle.byteorder.specs.Endian.{little_number}
use Rattle.swi_program.specs.Text.{words_from}
use Rattle.swi_image.specs.declared.refusal.ImageRefusal.{ImageRefusal}
use Rattle.swi_image.specs.declared.refusal.ImageRefusal.TheVariants.{Magic, Version, BlockSize, Length}
use Rattle.swi_image.specs.Words.{words_of}
use Rattle.swi_image.specs.Format.{ImageData, image_of, image_of_words, block_words_of, blocks_of, len_of, magic_of, version_of, offsets_at, ends_of, body_of, pieces}
use Rattle.swi_image.specs.Place.{block_at}
use Rattle.swi_image.specs.Checks.{begin_of, first_refusal, has_length, header_refusal, size_of}
use Rattle.swi_image.proofs.Accepted.{accepted_words}
use Rattle.swi_image.proofs.Reading.{word_here, word_missing}
use Rattle.swi_image.proofs.Views.{accepted_sound, seen_blocks, seen_word}
use Rattle.swi_cut.specs.Cuts.{IsSound}
use Rattle.swi_cut.specs.declared.cutting.Cutting.TheVariants.{Greedy, WholeLoops}
use Rattle.swi_cut_laws.specs.Bytes.{AreImageBytes, CutBytesAreOne, ImageBytesAreOne, UpgradeBytesAreOne}
use Rattle.swi_cut_laws.proofs.Cuts.{cut_is_one, upgrade_is_one}
use Rattle.swi_cut_laws.proofs.ImageWords.{bytes_once, say_same, words_once}

not_none : (r : ImageRefusal) → Some r ≡ None → ⊥
not_none r e = cc

magic_is : (bytes : List ℕ) → first_refusal bytes ≡ None → magic_of (words_of bytes) ≡ 0x31434953
unfolding first_refusal header_refusal
magic_is bytes e = elim (cases_Bool (magic_of (words_of bytes) == 0x31434953)) [
  | inl yes_ ↦ grind (arith, nat_tests)
  | inr other ↦ absurd (not_none (Magic 0) (rw other at e))
]

-- the bytes are whole words
exact : (bytes w : List ℕ) → has_length bytes w ≡ true → length bytes ≡ 4 * size_of w
exact bytes w held = grind (arith, nat_tests)

whole : (bytes : List ℕ) → first_refusal bytes ≡ None → length bytes ≡ 4 * length (words_of bytes)
unfolding first_refusal header_refusal
whole bytes e =
    let w : List ℕ = words_of bytes in
    elim (cases_Bool (magic_of w == 0x31434953)) [
      | inr other ↦ absurd (not_none (Magic 0) (rw other at e))
      | inl a ↦ elim (cases_Bool (version_of w == 1 || version_of w == 2)) [
        | inr other ↦ absurd (not_none (Version 1) (rw (a, other) at e))
        | inl b ↦ elim (cases_Bool (nat_le 2 (block_words_of w) && nat_le (block_words_of w) 1024)) [
          | inr other ↦ absurd (not_none (BlockSize 2) (rw (a, b, other) at e))
          | inl c ↦ elim (cases_Bool (has_length bytes w)) [
            | inr other ↦ absurd (not_none (Length (length bytes / 4)) (rw (a, b, c, other) at e))
            | inl d ↦ omega (arith, exact bytes w d, (accepted_words bytes e).sizes.size)
          ]
        ]
      ]
    ]

image_words : (bytes : List ℕ) → image_of bytes ≡ image_of_words (words_of bytes)
unfolding image_of
image_words bytes = refl

words_by : (bytes : List ℕ) → words_of bytes ≡ words_from bytes 0 (length bytes / 4)
unfolding words_of
words_by bytes = refl

pub image_bytes_are_one : ImageBytesAreOne
image_bytes_are_one xs ys a b two e =
    let w : List ℕ = words_of xs in
    let u : List ℕ = words_of ys in
    let said : image_of_words w ≡ image_of_words u = sym (image_words xs) ∙ (e ∙ image_words ys) in
    let version : version_of w ≡ 2 = ap (λ (v : ImageData). v.version) (sym (image_words xs)) ∙ two in
    let same : w ≡ u = words_once w u (say_same w u (accepted_words xs a.accepted) (accepted_words ys b.accepted) (magic_is xs a.accepted ∙ sym (magic_is ys b.accepted)) version said) in
    let size : length w ≡ length u = ap length same in
    let n : ℕ = length xs / 4 in
    let m : length ys / 4 ≡ n = omega (arith, whole xs a.accepted, whole ys b.accepted) in
    bytes_once n xs ys (omega (arith, whole xs a.accepted)) (omega (arith, whole ys b.accepted, whole xs a.accepted)) a.small b.small (sym (words_by xs) ∙ (same ∙ (words_by ys ∙ ap (λ (k : ℕ). words_from ys 0 k) m)))

-- ---- the image that bytes say is sound

number_small : (xs : List ℕ) → ((k : ℕ) → get_or xs k 0 < 256) → little_number 4 xs < 2 ^ 32
number_small [] s = omega arith
number_small (a ∷ []) s = omega (arith, s 0)
number_small (a ∷ b ∷ []) s = omega (arith, s 0, s 1)
number_small (a ∷ b ∷ c ∷ []) s = omega (arith, s 0, s 1, s 2)
number_small (a ∷ b ∷ c ∷ d ∷ xs) s = omega (arith, s 0, s 1, s 2, s 3)

words_small : (bytes : List ℕ) → AreImageBytes bytes → (i : ℕ) → get_or (words_of bytes) i 0 < 2 ^ 32
words_small bytes a i = elim (cases_lt i (length bytes / 4)) [
  | inl within ↦ rw (word_here bytes i within) (number_small (drop (4 * i) bytes) (λ k. rw (get_or-drop (4 * i) bytes k 0) (a.small (4 * i + k))))
  | inr beyond ↦ rw (word_missing bytes i beyond) (omega arith)
]

piece_small : (w : List ℕ) (xs : List ℕ) (at o : ℕ) → ((i : ℕ) → get_or w i 0 < 2 ^ 32) → (o < length xs → get_or xs o 0 ≡ get_or w (at + o) 0) → get_or xs o 0 < 2 ^ 32
piece_small w xs at o s same = elim (cases_lt o (length xs)) [
  | inl inside ↦ rw (same inside) (s (at + o))
  | inr far ↦ rw (get_or_past xs o 0 far) (omega arith)
]

block_small : (bytes : List ℕ) → AreImageBytes bytes → (b o : ℕ) → get_or (get_or (image_of_words (words_of bytes)).blocks b []) o 0 < 2 ^ 32
block_small bytes a b o =
    let w : List ℕ = words_of bytes in
    let accepted = accepted_words bytes a.accepted in
    elim (cases_lt b (blocks_of w)) [
      | inl within ↦ piece_small w (get_or (pieces 0 (ends_of w) (body_of w)) b []) (offsets_at w + len_of w + begin_of (ends_of w) b) o (words_small bytes a) (seen_word w b o accepted within)
      | inr far ↦
          let many : length (pieces 0 (ends_of w) (body_of w)) ≡ blocks_of w =
          ap (λ (v : ImageData). length v.blocks) (sym (image_words bytes)) ∙ ((accepted_sound bytes a.accepted).blocks ∙ (ap (λ (v : ImageData). length v.starts) (image_words bytes) ∙ sym (seen_blocks w accepted.sizes))) in
          rw (get_or_past (pieces 0 (ends_of w) (body_of w)) b [] (omega (arith, many))) (omega arith)
    ]

pub sound_of : (bytes : List ℕ) → AreImageBytes bytes → IsSound (image_of bytes)
unfolding image_of block_at
sound_of bytes a = record { valid = accepted_sound bytes a.accepted; words = λ b o. block_small bytes a b o }

pub cut_bytes_are_one : CutBytesAreOne
cut_bytes_are_one Greedy t most xs ys a b c d =
    image_bytes_are_one xs ys a b c.version (cut_is_one Greedy t most (image_of xs) (image_of ys) (record { sound = sound_of xs a; cut = c }) (record { sound = sound_of ys b; cut = d }))
cut_bytes_are_one WholeLoops t most xs ys a b c d =
    image_bytes_are_one xs ys a b c.version (cut_is_one WholeLoops t most (image_of xs) (image_of ys) (record { sound = sound_of xs a; cut = c }) (record { sound = sound_of ys b; cut = d }))

pub upgrade_bytes_are_one : UpgradeBytesAreOne
upgrade_bytes_are_one t old xs ys a b c d =
    image_bytes_are_one xs ys a b c.version (upgrade_is_one t old (image_of xs) (image_of ys) (sound_of xs a) (sound_of ys b) c d)
