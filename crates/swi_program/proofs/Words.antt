-- Words of a list of bytes.
use Rattle.std.proofs.Common.{◌≡◌, ℕ, ◌+◌, ◌-◌, ◌*◌, ◌/◌, ◌<◌, ◌≤◌, zero, suc, List, length, get_or, take, drop, arith, refl, Some, length-take, length-drop, get_or-drop, get_or-take}
use Rattle.byteorder.specs.Endian.{little_number}
use Rattle.swi_elf_read.specs.ProgramHeaders.{round_up_4}
use Rattle.swi_program.specs.Program.{SegmentData}
use Rattle.swi_program.specs.Text.{words_from, text_in}
use Rattle.swi_program.specs.Viewed.{seen}

-- how many words there are
pub length_words : (bytes : List ℕ) (at n : ℕ) → length (words_from bytes at n) ≡ n
unfolding words_from
length_words bytes at zero = refl
length_words bytes at (suc n) = rw (length_words bytes (at + 4) n) refl

-- the k-th of them
pub get_word : (bytes : List ℕ) (at n k : ℕ) → k < n → get_or (words_from bytes at n) k 0 ≡ little_number 4 (drop (at + 4 * k) bytes)
unfolding words_from
get_word bytes at zero k within = absurd (omega arith)
get_word bytes at (suc n) zero within = grind arith
get_word bytes at (suc n) (suc k) within = grind (arith, get_word bytes (at + 4) n k)

pub get_word_first : (bytes : List ℕ) (n k : ℕ) → k < n → get_or (words_from bytes 0 n) k 0 ≡ little_number 4 (drop (4 * k) bytes)
get_word_first bytes n k within = grind (arith, get_word bytes 0 n k)

pub ruleset word_views = (length_words, get_word_first)

-- a number and the words of a part
number_cut : (bytes : List ℕ) (m j at : ℕ) → at + 4 ≤ m → little_number 4 (drop at (take m (drop j bytes))) ≡ little_number 4 (drop (j + at) bytes)
number_cut bytes m j at within = grind (arith, get_or-drop {A = ℕ}, get_or-take {A = ℕ})

pub words_cut : (bytes : List ℕ) (m j at n : ℕ) → at + 4 * n ≤ m → words_from (take m (drop j bytes)) at n ≡ words_from bytes (j + at) n
unfolding words_from
words_cut bytes m j at zero within = refl
words_cut bytes m j at (suc n) within = grind (arith, number_cut bytes m j at, words_cut bytes m j (at + 4) n)

-- the text of a segment, seen as the whole words of its bytes from the first multiple of 4 on
pub seen_text : (s : SegmentData) (base : ℕ) (part : List ℕ) → base ≡ round_up_4 s.base →
    part ≡ take ((length s.bytes - (base - s.base)) / 4 * 4) (drop (base - s.base) s.bytes) → seen base part ≡ text_in (Some s)
seen_text s base part is cut =
    let m : ℕ = (length s.bytes - (base - s.base)) / 4 * 4 in
    let whole : length (take m (drop (base - s.base) s.bytes)) ≡ m = omega (arith, length-take m (drop (base - s.base) s.bytes), length-drop (base - s.base) s.bytes) in
    let count : m / 4 ≡ (s.base + length s.bytes - base) / 4 = omega arith in
    let here : base - s.base + 0 ≡ base - s.base = omega arith in
    let words : words_from (take m (drop (base - s.base) s.bytes)) 0 (m / 4) ≡ words_from s.bytes (base - s.base + 0) (m / 4) = words_cut s.bytes m (base - s.base) 0 (m / 4) (omega arith) in
    rw (cut, whole, words, here, count, is) refl
