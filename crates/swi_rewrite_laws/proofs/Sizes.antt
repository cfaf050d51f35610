-- How long an image of a text is at most, and the file that it is put into.
use Rattle.std.proofs.Common.{◌≡◌, ℕ, ◌+◌, ◌-◌, ◌*◌, ◌%◌, ◌^◌, ◌<◌, ◌≤◌, ◌==◌, zero, suc, Bool, true, false, nat_lt, List, [], ◌∷◌, ◌++◌, length, get_or, slice_index, Option, Some, None, arith, refl, sym, ap, inl, inr, sum_by, append-nil, length-append}
use Rattle.std.proofs.lemmas.Bool.{cases_lt}
use Rattle.std.proofs.lemmas.Bool.Decides.{nat_tests}
use Rattle.std.proofs.lemmas.List.{length-replicate}
use Rattle.swi_isa.specs.Decode.{decoded}
use Rattle.swi_isa.specs.declared.instr.Instr.{Instr}
use Rattle.swi_isa.specs.declared.instr.Instr.TheVariants.{Auipc, Jal, Jalr, Branch, Ebreak}
use Rattle.swi_program.specs.Program.{AreSegments, ProgramData, SegmentData}
use Rattle.swi_program.specs.Text.{TextData}
use Rattle.swi_image.specs.Checks.{begin_of, first_refusal, size_of}
use Rattle.swi_image.specs.Format.{ImageData, blocks_of, ends_of, image_of, image_of_words, len_of, version_of}
use Rattle.swi_image.specs.Kept.{IsAccepted}
use Rattle.swi_image.specs.Place.{block_at, next_start}
use Rattle.swi_image.specs.Sound.{IsImage}
use Rattle.swi_image.specs.Words.{words_of}
use Rattle.swi_image.proofs.Accepted.{accepted_words}
use Rattle.swi_image.proofs.Counting.{length_ends, length_offsets, length_starts}
use Rattle.swi_image.proofs.Reading.{end_read, length_words}
use Rattle.swi_image.proofs.Views.{accepted_sound, block_length as words_there, length_right}
use Rattle.swi_render.specs.Rendering.{ending_of, jump, len, needs, ending, rendering, rendering_of, sum}
use Rattle.swi_render.specs.ImageOf.{IsImageOf, block_between, offset_in, start_of}
use Rattle.swi_render.proofs.Runs.{block_length, offset_first, offset_next}
use Rattle.swi_elf_write.specs.FileHeader.{program_header_bytes, table_bytes}
use Rattle.swi_elf_write.specs.Rewritten.{contents, contents_at, contents_end, headers, image_at, image_header, padding, rewritten_file, segment_header, segment_headers}
use Rattle.swi_elf_write.proofs.Headers.{few_contents}

-- ---- a text word takes at most four words of a block, as its last at most five

jump_most : (m l : Bool) (rd t a : ℕ) → length (jump m l rd t a) ≤ 4
jump_most false l rd t a = omega arith
jump_most true true rd t a = omega arith
jump_most true false rd t a = omega arith

most_of : (i : Option Instr) (w a : ℕ) → length (rendering_of i w a) ≤ 4
most_of None w a = omega arith
most_of (Some Ebreak) w a = omega arith
most_of (Some (Auipc rd imm)) w a = omega arith
most_of (Some (Jal rd off)) w a = jump_most (sum a off % 4 == 0) (rd == 0) rd (sum a off) a
most_of (Some (Branch op rs1 rs2 off)) w a = omega arith
most_of (Some (Jalr rd rs1 imm)) w a = omega arith
most_of (Some i) w a = omega arith

rendering_most : (w a : ℕ) → len w a ≤ 4
unfolding rendering
rendering_most w a = most_of (decoded w) w a

jump_last : (m l : Bool) (rd t a : ℕ) → length (jump m l rd t a) ≤ 5
jump_last m l rd t a = omega (arith, jump_most m l rd t a)

last_of : (i : Option Instr) (w a : ℕ) → length (ending_of i w a) ≤ 5
last_of None w a = omega arith
last_of (Some Ebreak) w a = omega arith
last_of (Some (Auipc rd imm)) w a = omega arith
last_of (Some (Jal rd off)) w a = rw (append-nil (jump (sum a off % 4 == 0) (rd == 0) rd (sum a off) a)) (jump_last (sum a off % 4 == 0) (rd == 0) rd (sum a off) a)
last_of (Some (Branch op rs1 rs2 off)) w a = omega arith
last_of (Some (Jalr rd rs1 imm)) w a = omega arith
last_of (Some i) w a = omega arith

needs_most : (w a : ℕ) → needs w a ≤ 5
unfolding ending
needs_most w a = last_of (decoded w) w a

offset_most : (t : TextData) (first d : ℕ) → first + d ≤ length t.words → offset_in t first (first + d) ≤ 4 * d
offset_most t first zero within =
    let same : first + 0 ≡ first = omega arith in
    rw (same, offset_first t first) (omega arith)
offset_most t first (suc d) within =
    let on : first + suc d ≡ first + d + 1 = omega arith in
    rw on (omega (arith, offset_most t first d (omega arith), offset_next t first (first + d) (omega arith) (omega arith), rendering_most (slice_index t.words (first + d)) (t.base + 4 * (first + d))))

-- a block of text words
block_most : (t : TextData) (first end : ℕ) → first < end → end ≤ length t.words → length (block_between t first end) ≤ 4 * (end - first) + 1
block_most t first end some within =
    let last : end - 1 + 1 ≡ end = omega arith in
    let on : first + (end - 1 - first) ≡ end - 1 = omega arith in
    let all = rw last at (block_length t first (end - 1) (omega arith) (omega arith)) in
    let front : offset_in t first (end - 1) ≤ 4 * (end - 1 - first) = rw on at (offset_most t first (end - 1 - first) (omega arith)) in
    omega (arith, all, front, needs_most (slice_index t.words (end - 1)) (t.base + 4 * (end - 1)))

-- ---- the words of an image

next_fits : (v : ImageData) (b : ℕ) → IsImage v → b < length v.starts → (start_of v b < next_start v b) × (next_start v b ≤ length v.offsets) × ((k : ℕ) → k ≡ b + 1 → k < length v.starts → next_start v b ≡ start_of v k)
next_fits v b i within = elim (cases_lt (b + 1) (length v.starts)) [
  | inl more ↦
      let t : nat_lt (b + 1) (length v.starts) ≡ true = grind (arith, nat_tests) in
      let inside = i.inside (b + 1) more in
      rw t (i.ascending b more, omega (arith, inside), λ k is known. ap (λ (n : ℕ). slice_index v.starts n) (sym is))
  | inr last ↦
      let t : nat_lt (b + 1) (length v.starts) ≡ false = grind (arith, nat_tests) in
      rw t (i.inside b within, omega arith, λ k is known. absurd (omega (arith, is, known)))
]

block_few : (t : TextData) (v : ImageData) (b : ℕ) → IsImage v → IsImageOf t v → v.version ≡ 2 → b < length v.starts → length (block_at v b) ≤ 4 * (next_start v b - start_of v b) + 1
block_few t v b i own two within =
    let fits = next_fits v b i within in
    let words = (own.blocks b within).words.size in
    let other : (v.version == 1) ≡ false = rw two refl in
    let size : length (block_at v b) ≡ length (block_between t (start_of v b) (next_start v b)) = rw other at words in
    omega (arith, size, block_most t (start_of v b) (next_start v b) fits.0 (omega (arith, fits.1, own.len)))

-- the words of a block and those before it, where each text word takes at most four and each block one more
end_few : (t : TextData) (w : List ℕ) (b : ℕ) → IsAccepted w → IsImage (image_of_words w) → IsImageOf t (image_of_words w) → version_of w ≡ 2 → b < blocks_of w →
    get_or (ends_of w) b 0 ≤ 4 * next_start (image_of_words w) b + (b + 1)
unfolding block_at
end_few t w zero a i own two within =
    let v = image_of_words w in
    let known : 0 < length v.starts = omega (arith, length_starts w a.sizes) in
    let ordered = length_right _ (ends_of w) a.lengths 0 (omega (arith, length_ends w a.sizes)) in
    omega (arith, ordered.0, words_there w a.sizes a.lengths 0 within, block_few t v 0 i own two known)
end_few t w (suc b) a i own two within =
    let v = image_of_words w in
    let known : suc b < length v.starts = omega (arith, length_starts w a.sizes) in
    let before : get_or (ends_of w) b 0 ≤ 4 * next_start v b + (b + 1) = end_few t w b a i own two (omega arith) in
    let next : next_start v b ≡ start_of v (suc b) = (next_fits v b i (omega arith)).2 (suc b) (omega arith) known in
    let fits = next_fits v (suc b) i known in
    let same : suc b - 1 ≡ b = omega arith in
    let other : (suc b == 0) ≡ false = grind (arith, nat_tests) in
    let begin : begin_of (ends_of w) (suc b) ≡ get_or (ends_of w) b 0 = rw (other, same) refl in
    let ordered = length_right _ (ends_of w) a.lengths (suc b) (omega (arith, length_ends w a.sizes)) in
    omega (arith, ordered.0, begin, before, next, fits.0, words_there w a.sizes a.lengths (suc b) within, block_few t v (suc b) i own two known)

size_two : (w : List ℕ) → version_of w ≡ 2 → size_of w ≡ 6 + 2 * blocks_of w + len_of w + slice_index w (5 + 2 * blocks_of w)
unfolding size_of
size_two w two = rw two refl

words_few : (t : TextData) (w : List ℕ) → IsAccepted w → IsImage (image_of_words w) → IsImageOf t (image_of_words w) → version_of w ≡ 2 → length w ≤ 6 + 8 * len_of w
words_few t w a i own two =
    let last : ℕ = blocks_of w - 1 in
    let within : last < blocks_of w = omega (arith, a.sizes.some) in
    let place : 6 + blocks_of w + last ≡ 5 + 2 * blocks_of w = omega (arith, a.sizes.some) in
    let read : get_or (ends_of w) last 0 ≡ get_or w (5 + 2 * blocks_of w) 0 = rw place at (end_read w last two within) in
    let few = end_few t w last a i own two within in
    let fits = next_fits (image_of_words w) last i (omega (arith, length_starts w a.sizes)) in
    omega (arith, a.sizes.size, size_two w two, read, few, fits.1, length_offsets w a.sizes, a.sizes.fewer)

-- the bytes of an image of a text
pub image_few : (t : TextData) (bytes : List ℕ) → first_refusal bytes ≡ None → IsImageOf t (image_of bytes) → (image_of bytes).version ≡ 2 → length bytes ≤ 2 ^ 24 + 2 ^ 5
unfolding image_of
image_few t bytes e own two =
    let w : List ℕ = words_of bytes in
    let a : IsAccepted w = accepted_words bytes e in
    omega (arith, words_few t w a (accepted_sound bytes e) own two, a.sizes.few, length_words bytes)

-- ---- the bytes of a rewritten file

table_length : (at to : ℕ) (ss : List SegmentData) (image : List ℕ) → length (table_bytes (segment_headers at ss ++ image_header to image ∷ [])) ≡ 32 * length ss + 32
unfolding segment_headers table_bytes
table_length at to [] image = omega (arith, length-append (program_header_bytes (image_header to image)) [])
table_length at to (s ∷ rest) image =
    let more = segment_headers (at + length s.bytes) rest ++ image_header to image ∷ [] in
    omega (arith, table_length (at + length s.bytes) to rest image, length-append (program_header_bytes (segment_header at s)) (table_bytes more))

pub file_few : (p : ProgramData) (image : List ℕ) → length p.segments ≤ 63 → AreSegments p.segments → sum_by (λ s. s.size) p.segments ≤ 2 ^ 25 → length image ≤ 2 ^ 24 + 2 ^ 5 →
    length (rewritten_file p image) ≤ 2 ^ 26
unfolding rewritten_file
file_few p image few each memory small =
    let ss = p.segments in
    let t : List ℕ = table_bytes (headers ss image) in
    let table : length t ≡ 32 * length ss + 32 = table_length (contents_at (length ss)) (image_at ss) ss image in
    let pad : length (padding ss) ≡ image_at ss - contents_end ss = length-replicate (image_at ss - contents_end ss) 0 in
    omega (arith, table, pad, few_contents ss each memory, length-append t (contents ss), length-append (t ++ contents ss) (padding ss), length-append ((t ++ contents ss) ++ padding ss) image)
