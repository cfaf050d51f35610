-- Words in their bytes.
use Rattle.std.proofs.Common.{◌||◌, Bool, true, Some, None, inl, inr, ◌≡◌, ◌≢◌, ◌==◌, false, ℕ, ◌+◌, ◌-◌, ◌*◌, ◌/◌, ◌<◌, ◌≤◌, zero, suc, List, [], ◌∷◌, length, get_or, take, drop, arith, refl, get_or-drop, get_or-take}
use Rattle.std.proofs.lemmas.Bool.Decides.{nat_tests}
use Rattle.std.proofs.lemmas.Bool.{cases_Bool, cases_eq}
use Rattle.byteorder.specs.Endian.{little_number}
use Rattle.swi_program.proofs.Words as words
use Rattle.swi_image.specs.Words.{words_of}
use Rattle.swi_image.specs.Checks.{first_from, size_of}
use Rattle.swi_image.specs.Kept.{HasSizes, IsHeader}
use Rattle.swi_image.specs.declared.checks.Header.{Header}
use Rattle.swi_image.specs.Format.{multiples, version_of, block_words_of, blocks_of, len_of, starts_of, ends_of, offsets_at, offsets_of}

past : (xs : List ℕ) (i : ℕ) → length xs ≤ i → get_or xs i 0 ≡ 0
past [] i far = refl
past (x ∷ xs) zero far = absurd (omega arith)
past (x ∷ xs) (suc i) far = past xs i (omega arith)

pub length_words : (bytes : List ℕ) → length (words_of bytes) ≡ length bytes / 4
unfolding words_of
length_words bytes = words.length_words bytes 0 (length bytes / 4)

pub word_here : (bytes : List ℕ) (i : ℕ) → i < length bytes / 4 → get_or (words_of bytes) i 0 ≡ little_number 4 (drop (4 * i) bytes)
unfolding words_of
word_here bytes i within = words.get_word_first bytes (length bytes / 4) i within

pub word_missing : (bytes : List ℕ) (i : ℕ) → length bytes / 4 ≤ i → get_or (words_of bytes) i 0 ≡ 0
word_missing bytes i far = past (words_of bytes) i (omega (arith, length_words bytes))

pub ruleset reading = (word_here, word_missing)

pub get_part : (i n k : ℕ) (w : List ℕ) → k < n → get_or (take n (drop i w)) k 0 ≡ get_or w (i + k) 0
get_part i n k w within = rw (get_or-take n (drop i w) k 0 within, get_or-drop i w k 0) refl

get_multiples : (b a n k : ℕ) → k < n → get_or (multiples b a n) k 0 ≡ a + b * (k + 1)
unfolding multiples
get_multiples b a zero k within = absurd (omega arith)
get_multiples b a (suc n) zero within = omega arith
get_multiples b a (suc n) (suc k) within = omega (arith, get_multiples b (a + b) n k (omega arith))

pub get_multiple : (b n k : ℕ) → k < n → get_or (multiples b 0 n) k 0 ≡ b * (k + 1)
get_multiple b n k within = omega (arith, get_multiples b 0 n k within)

pub ends_made : (w : List ℕ) → version_of w ≢ 2 → ends_of w ≡ multiples (block_words_of w) 0 (blocks_of w)
unfolding ends_of
ends_made w one =
    let other : (version_of w == 2) ≡ false = grind (arith, nat_tests) in
    rw other refl

pub start_read : (w : List ℕ) (i : ℕ) → i < blocks_of w → get_or (starts_of w) i 0 ≡ get_or w (6 + i) 0
unfolding starts_of
start_read w i within = get_part 6 (blocks_of w) i w within

pub end_read : (w : List ℕ) (i : ℕ) → version_of w ≡ 2 → i < blocks_of w → get_or (ends_of w) i 0 ≡ get_or w (6 + blocks_of w + i) 0
unfolding ends_of
end_read w i two within = rw two (get_part (6 + blocks_of w) (blocks_of w) i w within)

pub end_made : (w : List ℕ) (i : ℕ) → version_of w ≢ 2 → i < blocks_of w → get_or (ends_of w) i 0 ≡ block_words_of w * (i + 1)
unfolding ends_of
end_made w i one within =
    let other : (version_of w == 2) ≡ false = grind (arith, nat_tests) in
    rw other (omega (arith, get_multiples (block_words_of w) 0 (blocks_of w) i within))

pub offset_read : (w : List ℕ) (k : ℕ) → k < len_of w → get_or (offsets_of w) k 0 ≡ get_or w (offsets_at w + k) 0
unfolding offsets_of
offset_read w k within = get_part (offsets_at w) (len_of w) k w within

pub ruleset tables = (start_read, end_read, end_made, offset_read)

-- the tables lie among the words

pub start_inside : (h : Header) (w : List ℕ) (i : ℕ) → IsHeader h w → HasSizes w → i < h.blocks → 6 + i < length w
unfolding size_of
start_inside h w i is s within = grind (arith, nat_tests, s.size, s.some, is.blocks)

pub end_inside : (h : Header) (w : List ℕ) (i : ℕ) → IsHeader h w → HasSizes w → h.version ≡ 2 → i < h.blocks → 6 + h.blocks + i < length w
unfolding size_of
end_inside h w i is s two within = grind (arith, nat_tests, s.size, is.blocks, is.version)

pub offset_inside : (h : Header) (w : List ℕ) (k : ℕ) → IsHeader h w → HasSizes w → k < h.len → h.offsets + k < length w
unfolding size_of offsets_at
offset_inside h w k is s within = grind (arith, nat_tests, s.size, is.blocks, is.version, is.len, is.offsets)

-- a search for the first number that a test picks
pub first_found : (test : ℕ → Bool) (i n : ℕ) → i < n → test i ≡ true → first_from test i (n - i) ≡ Some i
unfolding first_from
first_found test i n within picked =
    let step : n - i ≡ suc (n - (i + 1)) = omega arith in
    rw (step, picked) refl

pub first_next : (test : ℕ → Bool) (i n : ℕ) → i < n → test i ≡ false → first_from test (i + 1) (n - (i + 1)) ≡ first_from test i (n - i)
unfolding first_from
first_next test i n within passed =
    let step : n - i ≡ suc (n - (i + 1)) = omega arith in
    rw (step, passed) refl

pub first_end : (test : ℕ → Bool) (i n : ℕ) → n ≤ i → first_from test i (n - i) ≡ None
unfolding first_from
first_end test i n far =
    let none : n - i ≡ 0 = omega arith in
    rw none refl

pub ruleset first_steps = (first_found, first_next, first_end)

-- none is picked: no number fails the test, and the other way round
pub none_picked : (test : ℕ → Bool) (i n : ℕ) → first_from test i n ≡ None → (k : ℕ) → i ≤ k → k < i + n → test k ≡ false
unfolding first_from
none_picked test i zero e k low high = absurd (omega arith)
none_picked test i (suc n) e k low high = elim (cases_Bool (test i)) [
  | inl held ↦ let wrong : Some i ≡ None = rw held at e in cc
  | inr passed ↦ elim (cases_eq i k) [
    | inl same ↦ rw (← same) passed
    | inr other ↦ none_picked test (i + 1) n (rw passed at e) k (omega arith) (omega arith)
  ]
]

pub pick_none : (test : ℕ → Bool) (i n : ℕ) → ((k : ℕ) → i ≤ k → k < i + n → test k ≡ false) → first_from test i n ≡ None
unfolding first_from
pick_none test i zero f = refl
pick_none test i (suc n) f =
    let here : test i ≡ false = f i (omega arith) (omega arith) in
    rw here (pick_none test (i + 1) n (λ k low high. f k (omega arith) (omega arith)))

pub or_parts : (a b : Bool) → (a || b) ≡ false → (a ≡ false) × (b ≡ false)
or_parts true b e = cc
or_parts false b e = (refl, e)
