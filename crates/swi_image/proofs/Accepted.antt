-- What accepted bytes keep.
use Rattle.std.proofs.Common.{◌≡◌, ℕ, ◌+◌, ◌-◌, ◌*◌, ◌<◌, ◌==◌, Bool, true, false, List, [], ◌∷◌, length, get_or, arith, refl, Option, Some, None, inl, inr, not, nat_le, ◌||◌, ◌&&◌, ◌/◌}
use Rattle.std.specs.Prelude.{option_map}
use Rattle.std.proofs.lemmas.Bool.Decides.{nat_tests}
use Rattle.std.proofs.lemmas.Bool.{cases_eq}
use Rattle.swi_image.specs.Words.{words_of}
use Rattle.swi_image.specs.declared.checks.Header.{Header}
use Rattle.swi_image.specs.declared.refusal.ImageRefusal.{ImageRefusal}
use Rattle.swi_image.specs.declared.refusal.ImageRefusal.TheVariants.{Magic, Version, BlockSize, Length, Table, Lengths, Offsets}
use Rattle.swi_image.specs.Format.{multiples, magic_of, version_of, block_words_of, blocks_of, len_of, starts_of, ends_of, offsets_at, offsets_of}
use Rattle.swi_image.specs.Checks.{refuse_if, has_length, size_of, first_below, first_some, is_start_wrong, is_end_wrong, is_offset_wrong, starts_refusal, ends_refusal, offsets_refusal, tables_refusal, header_refusal, first_refusal}
use Rattle.swi_image.specs.Kept.{StartsRight, LengthsRight, OffsetsRight, HasSizes, IsAccepted, IsHeader, IsView}
use Rattle.swi_image.proofs.Reading.{none_picked, get_multiple, ends_made, length_words}
use Rattle.swi_image.proofs.Counting.{length_starts, length_ends}

mapped_none : (f : ℕ → ImageRefusal) (o : Option ℕ) → option_map f o ≡ None → o ≡ None
mapped_none f None e = refl
mapped_none f (Some i) e = cc

some_none : (o : Option ImageRefusal) (rest : List (Option ImageRefusal)) → first_some (o ∷ rest) ≡ None → (o ≡ None) × (first_some rest ≡ None)
some_none None rest e = (refl, e)
some_none (Some r) rest e = cc

-- no start is wrong
pub starts_right : (w : List ℕ) → HasSizes w → first_below (is_start_wrong (len_of w) (starts_of w)) (blocks_of w) ≡ None → StartsRight (len_of w) (starts_of w)
starts_right w h e = record {
  right = λ i within. none_picked (is_start_wrong (len_of w) (starts_of w)) 0 (blocks_of w) e i (omega arith) (omega (arith, length_starts w h));
}

pub ruleset passing = (starts_right)

-- no end is wrong
multiple_right : (b n : ℕ) → 0 < b → (i : ℕ) → i < n → is_end_wrong b (multiples b 0 n) i ≡ false
unfolding is_end_wrong
multiple_right b n some i within = elim (cases_eq i 0) [
  | inl first ↦
      let here : get_or (multiples b 0 n) 0 0 ≡ b * (0 + 1) = get_multiple b n 0 (omega arith) in
      rw first (grind (arith, nat_tests))
  | inr later ↦
      let other : (i == 0) ≡ false = grind (arith, nat_tests) in
      let here : get_or (multiples b 0 n) i 0 ≡ b * (i + 1) = get_multiple b n i within in
      let before : get_or (multiples b 0 n) (i - 1) 0 ≡ b * i = (let on : i - 1 + 1 ≡ i = omega arith in rw on at (get_multiple b n (i - 1) (omega arith))) in
      rw (other, here, before) (grind (arith, nat_tests))
]

ends_right : (w : List ℕ) → HasSizes w → ends_refusal w ≡ None → LengthsRight (block_words_of w) (ends_of w)
ends_right w h e = elim (cases_eq (version_of w) 2) [
  | inl two ↦
      let carried : ℕ → ImageRefusal = λ i. Lengths (6 + blocks_of w + i) in
      let found : Option ℕ = first_below (is_end_wrong (block_words_of w) (ends_of w)) (blocks_of w) in
      let none : option_map carried found ≡ None = rw two at e in
      record {
        right = λ i within.
            none_picked (is_end_wrong (block_words_of w) (ends_of w)) 0 (blocks_of w) (mapped_none carried found none) i (omega arith) (omega (arith, length_ends w h));
      }
  | inr other ↦
      record {
        right = λ i within.
            rw (ends_made w other) (multiple_right (block_words_of w) (blocks_of w) (omega (arith, h.least)) i (omega (arith, length_ends w h)));
      }
]

offsets_right : (w : List ℕ) → offsets_refusal w ≡ None → OffsetsRight w
offsets_right w e =
    let found : Option ℕ = first_below (is_offset_wrong (starts_of w) (ends_of w) (offsets_of w)) (len_of w) in
    record {
      right = λ k within.
          none_picked (is_offset_wrong (starts_of w) (ends_of w) (offsets_of w)) 0 (len_of w) (mapped_none (λ k. Offsets (offsets_at w + k)) found e) k (omega arith) (omega arith);
    }

-- all of them, from accepted tables
tables_right : (w : List ℕ) → HasSizes w → tables_refusal w ≡ None → IsAccepted w
unfolding tables_refusal
tables_right w h e =
    let one = some_none (starts_refusal w) (ends_refusal w ∷ offsets_refusal w ∷ []) e in
    let two = some_none (ends_refusal w) (offsets_refusal w ∷ []) one.1 in
    let three = some_none (offsets_refusal w) [] two.1 in
    record {
      sizes = h;
      starts = starts_right w h (mapped_none (λ i. Table (6 + i)) (first_below (is_start_wrong (len_of w) (starts_of w)) (blocks_of w)) one.0);
      lengths = ends_right w h two.0;
      offsets = offsets_right w three.0;
    }

pub is_view : (bytes : List ℕ) (h : Header) → IsHeader h (words_of bytes) → HasSizes (words_of bytes) → header_refusal bytes ≡ None → tables_refusal (words_of bytes) ≡ None → IsView bytes h
unfolding first_refusal
is_view bytes h header sizes e f = record { accepted = rw (e, f) refl; header = header; kept = tables_right (words_of bytes) sizes f }

-- the sizes, from the checks of the header alone

passed_first : (fails : Bool) (r : ImageRefusal) (rest : List (Option ImageRefusal)) → first_some (refuse_if fails r ∷ rest) ≡ None → (fails ≡ false) × (first_some rest ≡ None)
passed_first true r rest e = cc
passed_first false r rest e = (refl, e)

sized : (bytes w : List ℕ) → length w ≡ length bytes / 4 → not (version_of w == 1 || version_of w == 2) ≡ false →
    not (nat_le 2 (block_words_of w) && nat_le (block_words_of w) 1024) ≡ false → not (has_length bytes w) ≡ false → HasSizes w
sized bytes w all v b l = record {
  version = grind (arith, nat_tests);
  least = grind (arith, nat_tests);
  most = grind (arith, nat_tests);
  some = grind (arith, nat_tests);
  fewer = grind (arith, nat_tests);
  few = grind (arith, nat_tests);
  size =
      let exact : length bytes ≡ 4 * size_of w = grind (arith, nat_tests) in
      omega arith;
}

pub header_sizes : (bytes : List ℕ) → header_refusal bytes ≡ None → HasSizes (words_of bytes)
unfolding header_refusal
header_sizes bytes e =
    let w = words_of bytes in
    let magic = not (magic_of w == 0x31434953) in
    let version = not (version_of w == 1 || version_of w == 2) in
    let block = not (nat_le 2 (block_words_of w) && nat_le (block_words_of w) 1024) in
    let size = not (has_length bytes w) in
    let last : List (Option ImageRefusal) = refuse_if size (Length (length bytes / 4)) ∷ [] in
    let one = passed_first magic (Magic 0) (refuse_if version (Version 1) ∷ refuse_if block (BlockSize 2) ∷ last) e in
    let two = passed_first version (Version 1) (refuse_if block (BlockSize 2) ∷ last) one.1 in
    let three = passed_first block (BlockSize 2) last two.1 in
    let four = passed_first size (Length (length bytes / 4)) [] three.1 in
    sized bytes w (length_words bytes) two.0 three.0 four.0

-- the checks of the header and those of the tables
parts_of : (bytes : List ℕ) → first_refusal bytes ≡ None → (header_refusal bytes ≡ None) × (tables_refusal (words_of bytes) ≡ None)
unfolding first_refusal
parts_of bytes e =
    let one = some_none (header_refusal bytes) (tables_refusal (words_of bytes) ∷ []) e in
    let two = some_none (tables_refusal (words_of bytes)) [] one.1 in
    (one.0, two.0)

pub accepted_words : (bytes : List ℕ) → first_refusal bytes ≡ None → IsAccepted (words_of bytes)
accepted_words bytes e =
    let p = parts_of bytes e in
    tables_right (words_of bytes) (header_sizes bytes p.0) p.1

pub accepted_view : (bytes : List ℕ) (h : Header) → IsHeader h (words_of bytes) → first_refusal bytes ≡ None → IsView bytes h
accepted_view bytes h header e = record { accepted = e; header = header; kept = accepted_words bytes e }

pub ruleset passed = (header_sizes, is_view)

pub ruleset viewed = (accepted_view)
