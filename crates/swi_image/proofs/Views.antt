-- What is seen of accepted bytes.
use Rattle.std.proofs.Common.{slice_index, subst, sym, nat_lt, ◌≡◌, ℕ, ◌+◌, ◌-◌, ◌*◌, ◌<◌, ◌≤◌, ◌==◌, ◌≢◌, true, false, zero, suc, List, [], ◌∷◌, length, get_or, drop, arith, refl, None, inl, inr, length-take, length-drop, get_or-drop, mul_comm, ◌^◌, add-one, not, nat_le, if◌then◌else◌}
use Rattle.std.proofs.Math.Nat.{mul-le-mul_left, pow-suc}
use Rattle.std.proofs.lemmas.Bool.Decides.{nat_tests}
use Rattle.std.proofs.lemmas.Bool.{cases_eq, cases_lt}
use Rattle.swi_image.proofs.Reading.{or_parts, get_part, length_words}
use Rattle.swi_image.specs.Words.{words_of, part}
use Rattle.swi_image.specs.Format.{ImageData, image_of, image_of_words, pieces, version_of, block_words_of, blocks_of, len_of, starts_of, ends_of, offsets_at, offsets_of, body_of}
use Rattle.swi_image.specs.Checks.{begin_of, length_of, is_end_wrong, size_of, is_offset_wrong, block_of, at_most, header_refusal, tables_refusal, first_refusal}
use Rattle.swi_image.specs.declared.checks.Header.{Header}
use Rattle.swi_image.specs.Kept.{StartsRight, LengthsRight, OffsetsRight, HasSizes, IsAccepted, IsHeader}
use Rattle.swi_image.specs.Sound.{IsImage}
use Rattle.swi_image.specs.Place.{block_at, next_of, next_start, word_before, IsWordOf}
use Rattle.swi_image.specs.Laws.{Ascends, ascends, block_inside}
use Rattle.swi_image.proofs.Counting.{at_most_between, starts_ascend, starts_first, starts_inside, block_is, length_starts, length_ends, length_offsets}
use Rattle.swi_image.proofs.Reading.{end_read, end_made}
use Rattle.swi_image.proofs.Accepted.{accepted_words}

-- the pieces of a list

before : ℕ → List ℕ → ℕ → ℕ
before from ends zero = from
before from ends (suc b) = get_or ends b 0

begin_is : (ends : List ℕ) (b : ℕ) → begin_of ends b ≡ before 0 ends b
unfolding before
begin_is ends zero = refl
begin_is ends (suc b) =
    let same : suc b - 1 ≡ b = omega arith in
    let other : (suc b == 0) ≡ false = grind (arith, nat_tests) in
    rw (other, same) refl

piece_from : (from : ℕ) (ends ws : List ℕ) (b : ℕ) → b < length ends → get_or (pieces from ends ws) b [] ≡ part (before from ends b) (get_or ends b 0 - before from ends b) ws
unfolding pieces before
piece_from from [] ws b within = absurd (omega arith)
piece_from from (e ∷ ends) ws zero within = refl
piece_from from (e ∷ ends) ws (suc zero) within = piece_from e ends ws zero (omega arith)
piece_from from (e ∷ ends) ws (suc (suc b)) within = piece_from e ends ws (suc b) (omega arith)

pub piece_at : (ends ws : List ℕ) (b : ℕ) → b < length ends → get_or (pieces 0 ends ws) b [] ≡ part (begin_of ends b) (length_of ends b) ws
piece_at ends ws b within = rw (begin_is ends b) (piece_from 0 ends ws b within)

length_pieces : (from : ℕ) (ends ws : List ℕ) → length (pieces from ends ws) ≡ length ends
unfolding pieces
length_pieces from [] ws = refl
length_pieces from (e ∷ ends) ws = rw (length_pieces e ends ws) refl

-- the ends

pub ends_up : (most : ℕ) (ends : List ℕ) → LengthsRight most ends → Ascends ends
unfolding is_end_wrong
ends_up most ends r = record {
  next = λ i within.
      let right : is_end_wrong most ends (i + 1) ≡ false = r.right (i + 1) within in
      let same : i + 1 - 1 ≡ i = omega arith in
      let other : (i + 1 == 0) ≡ false = grind (arith, nat_tests) in
      let here = rw (other, same) at right in
      grind (arith, nat_tests);
}

pub length_right : (most : ℕ) (ends : List ℕ) → LengthsRight most ends → (b : ℕ) → b < length ends → (begin_of ends b < get_or ends b 0) × (get_or ends b 0 ≤ begin_of ends b + most)
unfolding is_end_wrong
length_right most ends r b within =
    let right : is_end_wrong most ends b ≡ false = r.right b within in
    (grind (arith, nat_tests), grind (arith, nat_tests))

offsets_few : (w : List ℕ) → offsets_at w ≤ 6 + 2 * blocks_of w
unfolding offsets_at
offsets_few w = grind (arith, nat_tests)

last_end : (w : List ℕ) → HasSizes w → offsets_at w + len_of w + get_or (ends_of w) (blocks_of w - 1) 0 ≡ size_of w
unfolding offsets_at size_of
last_end w h = elim (cases_eq (version_of w) 2) [
  | inl two ↦
      let read : get_or (ends_of w) (blocks_of w - 1) 0 ≡ get_or w (6 + blocks_of w + (blocks_of w - 1)) 0 = end_read w (blocks_of w - 1) two (omega (arith, h.some)) in
      let place : 6 + blocks_of w + (blocks_of w - 1) ≡ 5 + 2 * blocks_of w = omega (arith, h.some) in
      rw (two, read, place) (omega arith)
  | inr other ↦
      let none : (version_of w == 2) ≡ false = grind (arith, nat_tests) in
      let made : get_or (ends_of w) (blocks_of w - 1) 0 ≡ block_words_of w * (blocks_of w - 1 + 1) = end_made w (blocks_of w - 1) other (omega (arith, h.some)) in
      let all : blocks_of w - 1 + 1 ≡ blocks_of w = omega (arith, h.some) in
      rw (none, made, all) (omega (arith, mul_comm (block_words_of w) (blocks_of w)))
]

-- no end is above as many words as its block and those before can have
end_bound : (w : List ℕ) → HasSizes w → LengthsRight (block_words_of w) (ends_of w) → (b : ℕ) → b < blocks_of w → get_or (ends_of w) b 0 ≤ 1024 * (b + 1)
unfolding before
end_bound w h r zero within =
    let one = length_right (block_words_of w) (ends_of w) r 0 (omega (arith, length_ends w h)) in
    omega (arith, one.1, h.most)
end_bound w h r (suc b) within =
    let next = length_right (block_words_of w) (ends_of w) r (suc b) (omega (arith, length_ends w h)) in
    let before : get_or (ends_of w) b 0 ≤ 1024 * (b + 1) = end_bound w h r b (omega arith) in
    let begin : begin_of (ends_of w) (suc b) ≡ get_or (ends_of w) b 0 = begin_is (ends_of w) (suc b) in
    omega (arith, next.1, begin, before, h.most)

-- the bytes of an image are fewer than 2 ^ 32
pub few_bytes : (bytes : List ℕ) → first_refusal bytes ≡ None → length bytes < 2 ^ 32
few_bytes bytes e =
    let w : List ℕ = words_of bytes in
    let a : IsAccepted w = accepted_words bytes e in
    let last = end_bound w a.sizes a.lengths (blocks_of w - 1) (omega (arith, a.sizes.some)) in
    let all = last_end w a.sizes in
    let front = offsets_few w in
    omega (arith, last, all, front, a.sizes.size, a.sizes.some, a.sizes.fewer, a.sizes.few, length_words bytes)

body_length : (w : List ℕ) → HasSizes w → length (body_of w) ≡ get_or (ends_of w) (blocks_of w - 1) 0
unfolding body_of
body_length w h = omega (arith, h.size, length-drop (offsets_at w + len_of w) w, last_end w h)

end_inside : (w : List ℕ) → HasSizes w → LengthsRight (block_words_of w) (ends_of w) → (b : ℕ) → b < blocks_of w → get_or (ends_of w) b 0 ≤ length (body_of w)
end_inside w h r b within =
    let up = ascends (ends_of w) (ends_up (block_words_of w) (ends_of w) r) b (blocks_of w - 1) (omega arith) (omega (arith, length_ends w h, h.some)) in
    omega (arith, body_length w h)

-- a block has as many words as its end says
pub block_length : (w : List ℕ) → HasSizes w → LengthsRight (block_words_of w) (ends_of w) → (b : ℕ) → b < blocks_of w →
    length (get_or (pieces 0 (ends_of w) (body_of w)) b []) ≡ length_of (ends_of w) b
block_length w h r b within =
    let inside = end_inside w h r b within in
    let ordered = length_right (block_words_of w) (ends_of w) r b (omega (arith, length_ends w h)) in
    rw (piece_at (ends_of w) (body_of w) b (omega (arith, length_ends w h)))
    (omega (arith, ordered.0, length-take (length_of (ends_of w) b) (drop (begin_of (ends_of w) b) (body_of w)), length-drop (begin_of (ends_of w) b) (body_of w)))

-- in version 1 each block has all its words
whole_length : (w : List ℕ) → version_of w ≡ 1 → (b : ℕ) → b < blocks_of w → length_of (ends_of w) b ≡ block_words_of w
whole_length w one b within =
    let end : get_or (ends_of w) b 0 ≡ block_words_of w * (b + 1) = end_made w b (λ two. omega arith) within in
    elim (cases_eq b 0) [
      | inl first ↦
          let none : (b == 0) ≡ true = grind (arith, nat_tests) in
          let one_more : block_words_of w * (b + 1) ≡ block_words_of w = rw first (omega arith) in
          rw (none, end) (omega (arith, one_more))
      | inr later ↦
          let other : (b == 0) ≡ false = grind (arith, nat_tests) in
          let same : b - 1 + 1 ≡ b = omega arith in
          let begin : get_or (ends_of w) (b - 1) 0 ≡ block_words_of w * b = rw same at (end_made w (b - 1) (λ two. omega arith) (omega arith)) in
          rw (other, end, begin) (omega arith)
    ]

-- the offsets

test_true : (a : ℕ) → (a == a) ≡ true
test_true a = grind (arith, nat_tests)

test_zero : (a : ℕ) → not (a == 0) ≡ false → a ≡ 0
test_zero a e = grind (arith, nat_tests)

test_above : (a b : ℕ) → nat_le a b ≡ false → b < a
test_above a b e = grind (arith, nat_tests)

offset_right : (w : List ℕ) → OffsetsRight w → (k : ℕ) → k < len_of w →
    ((if get_or (starts_of w) (block_of (starts_of w) k) 0 == k then not (get_or (offsets_of w) k 0 == 0) else nat_le (get_or (offsets_of w) k 0) (get_or (offsets_of w) (k - 1) 0)) ≡ false)
    × (nat_le (length_of (ends_of w) (block_of (starts_of w) k)) (get_or (offsets_of w) k 0) ≡ false)
unfolding is_offset_wrong
offset_right w r k inside =
    or_parts (if get_or (starts_of w) (block_of (starts_of w) k) 0 == k then not (get_or (offsets_of w) k 0 == 0) else nat_le (get_or (offsets_of w) k 0) (get_or (offsets_of w) (k - 1) 0))
    (nat_le (length_of (ends_of w) (block_of (starts_of w) k)) (get_or (offsets_of w) k 0)) (r.right k inside)

offset_begins : (w : List ℕ) → OffsetsRight w → Ascends (starts_of w) → (b : ℕ) → b < length (starts_of w) → get_or (starts_of w) b 0 < len_of w →
    get_or (offsets_of w) (get_or (starts_of w) b 0) 0 ≡ 0
offset_begins w r up b within inside =
    let k = get_or (starts_of w) b 0 in
    let own : block_of (starts_of w) k ≡ b = block_is (starts_of w) k b up within (omega arith) (λ more. up.next b more) in
    let right = (offset_right w r k inside).0 in
    let here = rw own at right in
    let there = rw (test_true k) at here in
    test_zero (get_or (offsets_of w) k 0) there

offset_within : (w : List ℕ) → OffsetsRight w → (k : ℕ) → k < len_of w → get_or (offsets_of w) k 0 < length_of (ends_of w) (block_of (starts_of w) k)
offset_within w r k inside = test_above (length_of (ends_of w) (block_of (starts_of w) k)) (get_or (offsets_of w) k 0) (offset_right w r k inside).1

next_inside : (starts : List ℕ) (n b : ℕ) → b + 1 < length starts → next_of starts n b ≡ get_or starts (b + 1) 0
next_inside starts n b more =
    let t : nat_lt (b + 1) (length starts) ≡ true = grind (arith, nat_tests) in
    rw t refl

next_most : (n : ℕ) (starts : List ℕ) (b : ℕ) → StartsRight n starts → b < length starts → next_of starts n b ≤ n
next_most n starts b s within = elim (cases_lt (b + 1) (length starts)) [
  | inl more ↦ (let i : get_or starts (b + 1) 0 < n = starts_inside n starts s (b + 1) more in omega (arith, next_inside starts n b more))
  | inr last ↦ (let t : nat_lt (b + 1) (length starts) ≡ false = grind (arith, nat_tests) in rw t (omega arith))
]

other_is : (a b : ℕ) → a ≢ b → (a == b) ≡ false
other_is a b e = grind (arith, nat_tests)

offset_ordered : (w : List ℕ) → OffsetsRight w → StartsRight (len_of w) (starts_of w) → Ascends (starts_of w) → (b k : ℕ) → b < length (starts_of w) → get_or (starts_of w) b 0 < k → k < next_of (starts_of w) (len_of w) b →
    get_or (offsets_of w) (k - 1) 0 < get_or (offsets_of w) k 0
offset_ordered w r s up b k within low high =
    let inside : k < len_of w = (let m = next_most (len_of w) (starts_of w) b s within in omega arith) in
    let own : block_of (starts_of w) k ≡ b = block_is (starts_of w) k b up within (omega arith) (λ more. (let e = next_inside (starts_of w) (len_of w) b more in omega arith)) in
    let right = (offset_right w r k inside).0 in
    let here = rw own at right in
    let differs : get_or (starts_of w) b 0 ≢ k = λ e. omega arith in
    let there = rw (other_is (get_or (starts_of w) b 0) k differs) at here in
    test_above (get_or (offsets_of w) k 0) (get_or (offsets_of w) (k - 1) 0) there

sound_words : (w : List ℕ) → IsAccepted w → IsImage (image_of_words w)
unfolding block_at
sound_words w a =
    let h = a.sizes in
    let s = a.starts in
    let l = a.lengths in
    let o = a.offsets in
    let k : length (starts_of w) ≡ blocks_of w = length_starts w h in
    let e : length (ends_of w) ≡ blocks_of w = length_ends w h in
    let t : length (offsets_of w) ≡ len_of w = length_offsets w h in
    let up = starts_ascend (len_of w) (starts_of w) s in
    record {
      version = h.version;
      least = h.least;
      most = h.most;
      some = omega (arith, h.some);
      blocks = omega (arith, length_pieces 0 (ends_of w) (body_of w));
      fewer = omega (arith, h.fewer);
      few = omega (arith, h.few);
      first = starts_first (len_of w) (starts_of w) s (omega (arith, h.some));
      ascending = up.next;
      inside = λ b within. rw t (starts_inside (len_of w) (starts_of w) s b within);
      lengths = λ b within.
          let size = block_length w h l b (rw k at within) in
          let ordered = length_right (block_words_of w) (ends_of w) l b (omega arith) in
          (omega (arith, ordered.0), omega (arith, ordered.0, ordered.1));
      whole = λ one b within.
          let size = block_length w h l b (rw k at within) in
          rw size (whole_length w one b (rw k at within));
      begins = λ b within. offset_begins w o up b within (starts_inside (len_of w) (starts_of w) s b within);
      ordered = λ b k within low high. offset_ordered w o s up b k within low (subst (λ (n : ℕ). k < next_of (starts_of w) n b) t high);
      within = λ n inside.
          let b = block_of (starts_of w) n in
          let own : b < length (starts_of w) = block_inside (starts_of w) n (omega (arith, h.some)) in
          rw (block_length w h l b (rw k at own)) (offset_within w o n (rw t at inside));
    }

pub image_sound : (bytes : List ℕ) → IsAccepted (words_of bytes) → IsImage (image_of bytes)
unfolding image_of
image_sound bytes a = sound_words (words_of bytes) a

-- accepted bytes say an image
pub accepted_sound : (bytes : List ℕ) → first_refusal bytes ≡ None → IsImage (image_of bytes)
accepted_sound bytes e = image_sound bytes (accepted_words bytes e)

pub read_sound : (bytes : List ℕ) → header_refusal bytes ≡ None → tables_refusal (words_of bytes) ≡ None → IsImage (image_of bytes)
unfolding first_refusal
read_sound bytes e f = accepted_sound bytes (rw (e, f) refl)

pub ruleset sound = (accepted_sound, read_sound)

-- what is seen of the fields

pub seen_blocks : (w : List ℕ) → HasSizes w → blocks_of w ≡ length (starts_of w)
seen_blocks w h = omega (arith, length_starts w h)

pub seen_len : (w : List ℕ) → HasSizes w → len_of w ≡ length (offsets_of w)
seen_len w h = omega (arith, length_offsets w h)

pub seen_inside : (w : List ℕ) (b : ℕ) → IsAccepted w → b < length (starts_of w) → get_or (starts_of w) b 0 < length (offsets_of w)
seen_inside w b a within = rw (length_offsets w a.sizes) (starts_inside (len_of w) (starts_of w) a.starts b within)

pub seen_length : (w : List ℕ) (b : ℕ) → IsAccepted w → b < blocks_of w → length (get_or (pieces 0 (ends_of w) (body_of w)) b []) ≡ get_or (ends_of w) b 0 - begin_of (ends_of w) b
seen_length w b a within = block_length w a.sizes a.lengths b within

pub seen_ordered : (w : List ℕ) (b : ℕ) → IsAccepted w → b < blocks_of w → (begin_of (ends_of w) b < get_or (ends_of w) b 0) × (get_or (ends_of w) b 0 ≤ begin_of (ends_of w) b + block_words_of w)
seen_ordered w b a within = length_right (block_words_of w) (ends_of w) a.lengths b (omega (arith, length_ends w a.sizes))

pub seen_word : (w : List ℕ) (b o : ℕ) → IsAccepted w → b < blocks_of w → o < length (get_or (pieces 0 (ends_of w) (body_of w)) b []) →
    get_or (get_or (pieces 0 (ends_of w) (body_of w)) b []) o 0 ≡ get_or w (offsets_at w + len_of w + begin_of (ends_of w) b + o) 0
unfolding body_of
seen_word w b o a within inside =
    let begin : ℕ = begin_of (ends_of w) b in
    let size = seen_length w b a within in
    let piece : get_or (pieces 0 (ends_of w) (body_of w)) b [] ≡ part begin (length_of (ends_of w) b) (body_of w) = piece_at (ends_of w) (body_of w) b (omega (arith, length_ends w a.sizes)) in
    let read : get_or (part begin (length_of (ends_of w) b) (body_of w)) o 0 ≡ get_or (body_of w) (begin + o) 0 = get_part begin (length_of (ends_of w) b) o (body_of w) (omega arith) in
    let deep : get_or (drop (offsets_at w + len_of w) w) (begin + o) 0 ≡ get_or w (offsets_at w + len_of w + (begin + o)) 0 = get_or-drop (offsets_at w + len_of w) w (begin + o) 0 in
    let on : offsets_at w + len_of w + (begin + o) ≡ offsets_at w + len_of w + begin + o = omega arith in
    rw (piece, read, deep, on) refl

-- a block's words lie among the words
pub body_inside : (h : Header) (w : List ℕ) (b o : ℕ) → IsHeader h w → IsAccepted w → b < blocks_of w →
    o < length (get_or (pieces 0 (ends_of w) (body_of w)) b []) → h.body + begin_of (ends_of w) b + o < length w
unfolding body_of
body_inside h w b o is a within inside =
    let end = end_inside w a.sizes a.lengths b within in
    omega (arith, is.body, seen_length w b a within, end, length-drop (offsets_at w + len_of w) w)

pub end_within : (h : Header) (w : List ℕ) (b : ℕ) → IsHeader h w → IsAccepted w → b < blocks_of w → h.body + get_or (ends_of w) b 0 ≤ length w
unfolding body_of
end_within h w b is a within =
    let end = end_inside w a.sizes a.lengths b within in
    omega (arith, is.body, end, length-drop (offsets_at w + len_of w) w, last_end w a.sizes, a.sizes.size)

pub ruleset views = (seen_blocks, seen_len, seen_inside, seen_length, seen_ordered, seen_word)

-- halving

pub record Halved (v : ImageData) (k low high : ℕ) : Type 0 where
  pub ordered : low ≤ high
  pub fits : high ≤ length v.starts
  pub below : 0 < low → get_or v.starts (low - 1) 0 ≤ k
  pub above : high < length v.starts → k < get_or v.starts high 0

pub record Counted (n p left : ℕ) : Type 0 where
  pub few : 2 ^ p ≤ 2 * n
  pub rest : 2 ^ p * left ≤ n

last_next : (starts : List ℕ) (n low k : ℕ) → low < length starts → k < get_or starts low 0 → k < (if nat_lt low (length starts) then get_or starts low 0 else n)
last_next starts n low k more here = (let t : nat_lt low (length starts) ≡ true = grind (arith, nat_tests) in rw t here)

past_next : (starts : List ℕ) (n low k : ℕ) → length starts ≤ low → k < n → k < (if nat_lt low (length starts) then get_or starts low 0 else n)
past_next starts n low k last here = (let t : nat_lt low (length starts) ≡ false = grind (arith, nat_tests) in rw t here)

pub halved_block : (v : ImageData) (k low high : ℕ) → IsImage v → Halved v k low high → high ≤ low → (block_of v.starts k ≡ low - 1) × (low - 1 < length v.starts) × (0 < low)
halved_block v k low high s h done =
    let up : Ascends v.starts = record { next = s.ascending } in
    let end : high ≡ low = omega (arith, h.ordered) in
    let above : low < length v.starts → k < get_or v.starts low 0 = λ more. (let far : k < get_or v.starts high 0 = h.above (omega arith) in rw end at far) in
    let some : 0 < low = elim (cases_eq low 0) [
      | inl none ↦
          let far : k < get_or v.starts low 0 = above (omega (arith, s.some)) in
          let wrong : k < get_or v.starts 0 0 = rw none at far in
          absurd (omega (arith, s.first))
      | inr more ↦ omega arith
    ] in
    let same : low - 1 + 1 ≡ low = omega arith in
    (block_is v.starts k (low - 1) up (omega (arith, h.fits)) (h.below some) (λ more. rw same (above (omega arith))), omega (arith, h.fits), some)

pub halved_own : (v : ImageData) (k low high : ℕ) → IsImage v → Halved v k low high → high ≤ low → k < length v.offsets → IsWordOf v (low - 1) k
halved_own v k low high s h done within =
    let b = halved_block v k low high s h done in
    let end : high ≡ low = omega (arith, h.ordered) in
    let same : low - 1 + 1 ≡ low = omega (arith, b.2) in
    record {
      from = h.below b.2;
      to = elim (cases_lt low (length v.starts)) [
        | inl more ↦
            let far : k < get_or v.starts high 0 = h.above (omega arith) in
            let here : k < get_or v.starts low 0 = rw end at far in
            rw same (last_next v.starts (length v.offsets) low k more here)
        | inr last ↦ rw same (past_next v.starts (length v.offsets) low k last within)
      ];
      inside = subst (λ (n : ℕ). get_or v.offsets k 0 < length (block_at v n)) b.0 (s.within k within);
    }

pub halved_all : (v : ImageData) (k high : ℕ) → high ≡ length v.starts → Halved v k 0 high
halved_all v k high is = record { ordered = omega arith; fits = omega arith; below = λ none. absurd (omega arith); above = λ more. absurd (omega arith) }

pub halved_right : (v : ImageData) (k low high middle : ℕ) → Halved v k low high → low ≤ middle → middle < high → get_or v.starts middle 0 ≤ k → Halved v k (middle + 1) high
halved_right v k low high middle h from to found =
    let same : middle + 1 - 1 ≡ middle = omega arith in
    record { ordered = omega arith; fits = h.fits; below = λ some. rw same found; above = h.above }

pub halved_left : (v : ImageData) (k low high middle : ℕ) → Halved v k low high → low ≤ middle → middle < high → k < get_or v.starts middle 0 → Halved v k low middle
halved_left v k low high middle h from to found =
    record { ordered = from; fits = omega (arith, h.fits); below = h.below; above = λ more. found }

pub counted_start : (n left : ℕ) → left ≡ n → 1 ≤ n → Counted n 0 left
counted_start n left is some = record { few = omega arith; rest = omega arith }

pub counted_next : (n p left less : ℕ) → Counted n p left → 0 < left → 2 * less ≤ left → Counted n (p + 1) less
counted_next n p left less c some half =
    let double : 2 ^ (p + 1) ≡ 2 * 2 ^ p = rw add-one (omega (arith, pow-suc 2 p)) in
    let one : 2 ^ p * 1 ≤ 2 ^ p * left = mul-le-mul_left (2 ^ p) some in
    let more : 2 ^ p * (2 * less) ≤ 2 ^ p * left = mul-le-mul_left (2 ^ p) half in
    record {
      few = rw double (omega (arith, c.rest));
      rest = rw double (omega (arith, c.rest));
    }

pub ruleset halving = (halved_all, halved_right, halved_left, halved_block, counted_start, counted_next)

-- a block that has a text word between its first and the next block's
pub has_word : (v : ImageData) (b k : ℕ) → IsImage v → b < length v.starts → slice_index v.starts b ≤ k → k < next_start v b → k < length v.offsets →
    (b ≡ block_of v.starts k) × IsWordOf v b k
has_word v b k s within low high inside =
    let up : Ascends v.starts = record { next = s.ascending } in
    let is : block_of v.starts k ≡ b = block_is v.starts k b up within low (λ more. (let e = next_inside v.starts (length v.offsets) b more in omega (arith, high, e))) in (
      sym is,
      record { from = low; to = high; inside = subst (λ (n : ℕ). get_or v.offsets k 0 < length (block_at v n)) is (s.within k inside) },
    )

-- halving among the offsets of a block

pub record Narrowed (v : ImageData) (b o low high : ℕ) : Type 0 where
  pub first : slice_index v.starts b ≤ low
  pub order : low ≤ high
  pub fits : high ≤ next_start v b
  pub below : slice_index v.starts b < low → slice_index v.offsets (low - 1) ≤ o
  pub above : high < next_start v b → o < slice_index v.offsets high

pub narrowed_all : (v : ImageData) (b o low high : ℕ) → low ≡ slice_index v.starts b → high ≡ next_start v b → low ≤ high → Narrowed v b o low high
narrowed_all v b o low high is end order = record { first = omega arith; order = order; fits = omega arith; below = λ some. absurd (omega arith); above = λ more. absurd (omega arith) }

pub narrowed_right : (v : ImageData) (b o low high middle : ℕ) → Narrowed v b o low high → low ≤ middle → middle < high → slice_index v.offsets middle ≤ o → Narrowed v b o (middle + 1) high
narrowed_right v b o low high middle n from to found =
    let same : middle + 1 - 1 ≡ middle = omega arith in
    record { first = omega (arith, n.first); order = omega arith; fits = n.fits; below = λ some. rw same found; above = n.above }

pub narrowed_left : (v : ImageData) (b o low high middle : ℕ) → Narrowed v b o low high → low ≤ middle → middle < high → o < slice_index v.offsets middle → Narrowed v b o low middle
narrowed_left v b o low high middle n from to found =
    record { first = n.first; order = from; fits = omega (arith, n.fits); below = n.below; above = λ more. found }

next_fits : (v : ImageData) (b : ℕ) → IsImage v → b < length v.starts → (slice_index v.starts b < next_start v b) × (next_start v b ≤ length v.offsets)
next_fits v b i within = elim (cases_lt (b + 1) (length v.starts)) [
  | inl more ↦ (omega (arith, i.ascending b more, next_inside v.starts (length v.offsets) b more), omega (arith, i.inside (b + 1) more, next_inside v.starts (length v.offsets) b more))
  | inr last ↦ (let t : nat_lt (b + 1) (length v.starts) ≡ false = grind (arith, nat_tests) in (rw t (i.inside b within), rw t (omega arith)))
]

-- the offsets of the block's text words
own_part : (v : ImageData) (b k : ℕ) → IsImage v → b < length v.starts → slice_index v.starts b + k < next_start v b →
    get_or (part (slice_index v.starts b) (next_start v b - slice_index v.starts b) v.offsets) k 0 ≡ get_or v.offsets (slice_index v.starts b + k) 0
own_part v b k i within low = get_part (slice_index v.starts b) (next_start v b - slice_index v.starts b) k v.offsets (omega arith)

own_length : (v : ImageData) (b : ℕ) → IsImage v → b < length v.starts → length (part (slice_index v.starts b) (next_start v b - slice_index v.starts b) v.offsets) ≡ next_start v b - slice_index v.starts b
own_length v b i within =
    let f = next_fits v b i within in
    omega (arith, length-take (next_start v b - slice_index v.starts b) (drop (slice_index v.starts b) v.offsets), length-drop (slice_index v.starts b) v.offsets, f.1)

own_up : (v : ImageData) (b : ℕ) → IsImage v → b < length v.starts → Ascends (part (slice_index v.starts b) (next_start v b - slice_index v.starts b) v.offsets)
own_up v b i within = record {
  next = λ k more.
      let size = own_length v b i within in
      let s : ℕ = slice_index v.starts b in
      let here = own_part v b k i within (omega arith) in
      let there = own_part v b (k + 1) i within (omega arith) in
      let up : get_or v.offsets (s + (k + 1) - 1) 0 < get_or v.offsets (s + (k + 1)) 0 = i.ordered b (s + (k + 1)) within (omega arith) (omega arith) in
      let same : s + (k + 1) - 1 ≡ s + k = omega arith in
      let step = rw same at up in
      omega (arith, here, there, step);
}

-- the last text word at or before the offset
pub narrowed_word : (v : ImageData) (b o low high : ℕ) → IsImage v → b < length v.starts → Narrowed v b o low high → high ≤ low →
    (word_before v b o ≡ low - 1) × (low - 1 < length v.offsets) × (slice_index v.offsets (low - 1) ≤ o) × (0 < low)
unfolding word_before
narrowed_word v b o low high i within n done =
    let s : ℕ = slice_index v.starts b in
    let e : ℕ = next_start v b in
    let f = next_fits v b i within in
    let size = own_length v b i within in
    let end : high ≡ low = omega (arith, n.order) in
    let above : low < e → o < slice_index v.offsets low = λ more. (let far : o < slice_index v.offsets high = n.above (omega arith) in rw end at far) in
    let some : s < low = elim (cases_lt s low) [
      | inl more ↦ more
      | inr none ↦
          let here : low ≡ s = omega (arith, n.first) in
          let far : o < slice_index v.offsets low = above (omega (arith, f.0)) in
          let wrong : o < slice_index v.offsets s = rw here at far in
          absurd (omega (arith, i.begins b within))
    ] in
    let count : at_most o (part s (e - s) v.offsets) ≡ low - s = at_most_between o (part s (e - s) v.offsets) (low - s) (own_up v b i within) (omega (arith, n.fits))
    (λ more. (let on : s + (low - s - 1) ≡ low - 1 = omega arith in rw (own_part v b (low - s - 1) i within (omega (arith, n.fits)), on) (n.below some)))
    (λ more. (let on : s + (low - s) ≡ low = omega arith in rw (own_part v b (low - s) i within (omega arith), on) (above (omega arith)))) in
    (omega (arith, count), omega (arith, n.fits, f.1), n.below some, omega arith)
