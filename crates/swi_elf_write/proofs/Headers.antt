-- The parts of a file as they are written.
use Rattle.std.proofs.Common.{◌≡◌, ℕ, ◌+◌, ◌-◌, ◌*◌, ◌/◌, ◌%◌, ◌^◌, ◌<◌, ◌≤◌, zero, suc, List, [], ◌∷◌, ◌++◌, length, get_or, take, drop, replicate, arith, refl, ap, ◌∙◌, append_assoc, append-nil, length-append}
use Rattle.std.specs.Prelude.{sum_by, fold}
use Rattle.std.proofs.lemmas.List.{drop_more}
use Rattle.std.proofs.lemmas.Grind.{common_steps}
use Rattle.swi_program.specs.Program.{SegmentData, ProgramData, AreSegments}
use Rattle.swi_program.specs.ProgramOf.{bytes_of_words}
use Rattle.swi_elf_write.specs.declared.program_header.ProgramHeader.{ProgramHeader}
use Rattle.swi_elf_write.specs.FileHeader.{FileHeader, file_header_bytes, program_header_bytes, table_bytes}
use Rattle.swi_elf_write.specs.Rewritten.{contents, contents_at, contents_end, image_at, executable_header, file_header, segment_header, segment_headers, image_header, padding, rewritten_file}

-- the ELF header as words: a half beside each other half
pub file_header_words : (entry flags n : ℕ) →
    bytes_of_words (0x464C457F ∷ 0x00010101 ∷ 0 ∷ 0 ∷ 0x00F30002 ∷ 1 ∷ entry ∷ 52 ∷ 0 ∷ flags ∷ 0x00200034 ∷ n % 65536 ∷ 0 ∷ []) ≡ file_header_bytes (executable_header entry flags n)
unfolding bytes_of_words
file_header_words entry flags n =
    let a : n % 65536 % 256 ≡ n % 256 = omega arith in
    let b : n % 65536 / 256 % 256 ≡ n / 256 % 256 = omega arith in
    let c : n % 65536 / 65536 % 256 ≡ 0 = omega arith in
    let d : n % 65536 / 16777216 % 256 ≡ 0 = omega arith in
    rw (a, b, c, d) refl

-- one segment more

pub header_step : (done grown : List ℕ) (segments : List SegmentData) (i at next : ℕ) (d : SegmentData) → i < length segments →
    grown ≡ done ++ program_header_bytes (segment_header at (get_or segments i d)) → next ≡ at + length (get_or segments i d).bytes →
    grown ++ table_bytes (segment_headers next (drop (i + 1) segments)) ≡ done ++ table_bytes (segment_headers at (drop i segments))
unfolding table_bytes segment_headers
header_step done grown segments i at next d within is on = rw (is, on, append_assoc, drop_more segments i d within) refl

pub header_end : (done : List ℕ) (segments : List SegmentData) (i at : ℕ) → length segments ≤ i → done ++ table_bytes (segment_headers at (drop i segments)) ≡ done
unfolding table_bytes segment_headers
header_end done segments i at past =
    let none : drop i segments ≡ [] = grind (arith, common_steps) in
    rw none (append-nil done)

pub content_step : (done grown : List ℕ) (segments : List SegmentData) (i : ℕ) (d : SegmentData) → i < length segments → grown ≡ done ++ (get_or segments i d).bytes →
    grown ++ contents (drop (i + 1) segments) ≡ done ++ contents (drop i segments)
unfolding contents
content_step done grown segments i d within is = rw (is, append_assoc, drop_more segments i d within) refl

pub content_end : (done : List ℕ) (segments : List SegmentData) (i : ℕ) → length segments ≤ i → done ++ contents (drop i segments) ≡ done
unfolding contents
content_end done segments i past =
    let none : drop i segments ≡ [] = grind (arith, common_steps) in
    rw none (append-nil done)

-- the bytes to come

pub size_step : (segments : List SegmentData) (i : ℕ) (d : SegmentData) → i < length segments →
    length (contents (drop i segments)) ≡ length (get_or segments i d).bytes + length (contents (drop (i + 1) segments))
unfolding contents
size_step segments i d within = rw (drop_more segments i d within) (length-append (get_or segments i d).bytes (contents (drop (i + 1) segments)))

pub size_end : (segments : List SegmentData) (i : ℕ) → length segments ≤ i → length (contents (drop i segments)) ≡ 0
unfolding contents
size_end segments i past =
    let none : drop i segments ≡ [] = grind (arith, common_steps) in
    rw none refl

pub ruleset segment_steps = (header_step, header_end, size_step, size_end)

pub ruleset content_steps = (content_step, content_end)

pub ruleset size_steps = (size_step, size_end)

-- how many segments and bytes there are, from the memory that the segments take
sizes_from : (total : ℕ) (segments : List SegmentData) → AreSegments segments →
    (total + length segments ≤ fold (λ a s. a + s.size) total segments) × (total + length (contents segments) ≤ fold (λ a s. a + s.size) total segments)
unfolding contents
sizes_from total [] each = (omega arith, omega arith)
sizes_from total (s ∷ rest) each =
    let more = sizes_from (total + s.size) rest each.1 in
    let some : 0 < s.size = each.0.some in
    let front : length s.bytes ≤ s.size = each.0.front in
    (omega (arith, more.0), omega (arith, more.1, length-append s.bytes (contents rest)))

pub few_segments : (segments : List SegmentData) → AreSegments segments → sum_by (λ s. s.size) segments ≤ 2 ^ 25 → length segments ≤ 2 ^ 25
few_segments segments each small = (let all = sizes_from 0 segments each in omega (arith, all.0))

pub few_contents : (segments : List SegmentData) → AreSegments segments → sum_by (λ s. s.size) segments ≤ 2 ^ 25 → length (contents segments) ≤ 2 ^ 25
few_contents segments each small = (let all = sizes_from 0 segments each in omega (arith, all.1))

pub ruleset sizes = (few_segments, few_contents)

-- the parts, one after the other

table_append : (xs ys : List ProgramHeader) → table_bytes (xs ++ ys) ≡ table_bytes xs ++ table_bytes ys
unfolding table_bytes
table_append [] ys = refl
table_append (x ∷ xs) ys = rw (table_append xs ys, append_assoc) refl

table_one : (h : ProgramHeader) → table_bytes (h ∷ []) ≡ program_header_bytes h
unfolding table_bytes
table_one h = append-nil (program_header_bytes h)

abbrev pub three : List ℕ
three = 0 ∷ 0 ∷ 0 ∷ []

pub padded : (n : ℕ) → n ≤ 3 → take n three ≡ replicate n 0
padded zero few = refl
padded (suc zero) few = refl
padded (suc (suc zero)) few = refl
padded (suc (suc (suc zero))) few = refl
padded (suc (suc (suc (suc n)))) few = absurd (omega arith)

pub file_written : (p : ProgramData) (segments : List SegmentData) (image bytes pad z0 z1 z2 z3 z4 z5 z6 : List ℕ) (header : FileHeader) (own : ProgramHeader) (begin at : ℕ) →
    header ≡ file_header p → segments ≡ p.segments → bytes ≡ image → own ≡ image_header at bytes → begin ≡ contents_at (length p.segments) → at ≡ image_at p.segments → pad ≡ padding p.segments →
    z0 ≡ [] → z1 ≡ z0 ++ file_header_bytes header → z2 ≡ z1 ++ table_bytes (segment_headers begin segments) →
    z3 ≡ z2 ++ program_header_bytes own → z4 ≡ z3 ++ contents segments → z5 ≡ z4 ++ pad → z6 ≡ z5 ++ bytes → z6 ≡ rewritten_file p image
unfolding rewritten_file
file_written p segments image bytes pad z0 z1 z2 z3 z4 z5 z6 header own begin at eh es eb eo en ea ep e0 e1 e2 e3 e4 e5 e6 =
    let sh : List ProgramHeader = segment_headers (contents_at (length p.segments)) p.segments in
    let ih : ProgramHeader = image_header (image_at p.segments) image in
    let first : z1 ≡ file_header_bytes (file_header p) = e1 ∙ ap (λ (l : List ℕ). l ++ file_header_bytes header) e0 ∙ ap (λ (h : FileHeader). file_header_bytes h) eh in
    let table : z3 ≡ file_header_bytes (file_header p) ++ table_bytes (sh ++ ih ∷ []) = rw (e3, e2, first, es, eo, eb, en, ea, table_append, table_one, append_assoc) refl in
    rw (e6, e5, e4, ep, es, eb, table) refl

-- the bytes between the segments' and the image
pub pad_is : (segments held : List SegmentData) (begin size : ℕ) → held ≡ segments → begin ≡ contents_at (length held) → size ≡ length (contents held) →
    ((begin + size + 3) / 4 * 4 ≡ image_at segments) × (take ((begin + size + 3) / 4 * 4 - (begin + size)) three ≡ padding segments)
pad_is segments held begin size is b s =
    let all : begin + size ≡ contents_end segments = omega (arith, ap length is, ap (λ (l : List SegmentData). length (contents l)) is) in
    rw all (refl, padded (image_at segments - contents_end segments) (omega arith))

pub file_header_is : (p : ProgramData) (segments : List SegmentData) (entry flags : ℕ) → entry ≡ p.entry → flags ≡ p.flags → segments ≡ p.segments →
    executable_header entry flags (length segments + 1) ≡ file_header p
file_header_is p segments entry flags e f s = rw (e, f, s) refl
