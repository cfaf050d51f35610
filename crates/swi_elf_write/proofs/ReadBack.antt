-- A rewritten file, read back.
use Rattle.std.proofs.Common.{◌≡◌, ℕ, ◌+◌, ◌-◌, ◌*◌, ◌/◌, ◌%◌, ◌^◌, ◌<◌, ◌≤◌, ◌==◌, nat_lt, false, true, List, [], ◌∷◌, ◌++◌, length, map, take, drop, fold, sum_by, find, arith, refl, sym, ap, subst, filter, ◌∙◌, Option, Some, None, append_assoc, length-append}
use Rattle.std.specs.Prelude.{option_map}
use Rattle.std.proofs.lemmas.List.{length-replicate}
use Rattle.std.proofs.lemmas.Bool.Decides.{nat_tests}
use Rattle.swi_elf_read.specs.declared.program_header.ProgramHeader.{ProgramHeader}
use Rattle.swi_elf_read.specs.ProgramHeaders.{half_at, word_at, table_at, is_loaded, is_image}
use Rattle.swi_elf_read.specs.Elf.{e_type, e_machine, e_version, e_entry, e_phoff, e_flags, e_ehsize, e_phentsize, e_phnum, program_headers, identification_refusal, header_refusal, table_refusal, first_refusal}
use Rattle.swi_elf_read.specs.Loaded.{loaded_of, loaded_segments, image_of, bytes_of}
use Rattle.swi_memory.specs.Segment.{SegmentData}
use Rattle.swi_memory.specs.BusOf.{AreApart, range_of, texts}
use Rattle.swi_program.specs.Program.{ProgramData, AreSegments, IsSegment, can_execute}
use Rattle.swi_program.specs.ProgramOf.{segment_of}
use Rattle.swi_program.specs.Text.{text_base, text_in, text_of, IsTextAddress}
use Rattle.swi_program.proofs.Words.{length_words}
use Rattle.swi_elf_write.specs.declared.program_header.ProgramHeader.{ProgramHeader as Written}
use Rattle.swi_elf_write.specs.FileHeader.{file_header_bytes, program_header_bytes, table_bytes}
use Rattle.swi_elf_write.specs.Rewritten.{contents, contents_at, contents_end, image_at, file_header, segment_headers, image_header, headers, padding, rewritten_file}
use Rattle.swi_elf_write.specs.ReadsAs.{ReadsAs}
use Rattle.swi_elf_write.proofs.Headers.{few_contents}
use Rattle.swi_elf_write.proofs.Tables.{AreWords, AllWords, seen, table_read, part_read, end_read}
use Rattle.swi_elf_write.proofs.Checks.{load, loads, own, loads_are, filter_loads, find_own, table_passes, sum_up}

-- what a program keeps, of 63 segments at most
pub record IsSmall (p : ProgramData) : Type 0 where
  pub few : length p.segments ≤ 63
  pub entry : p.entry < 2 ^ 32
  pub flags : p.flags < 2 ^ 32
  pub plain : p.flags % 16 ≡ 0
  pub each : AreSegments p.segments
  pub apart : AreApart (map range_of p.segments)
  pub one_text : texts p.segments ≡ 1
  pub memory : sum_by (λ s. s.size) p.segments ≤ 2 ^ 25
  pub word : IsTextAddress (text_of p.segments) p.entry

-- the ELF header

record HasFields (file : List ℕ) (p : ProgramData) : Type 0 where
  version : e_version file ≡ 1
  kind : e_type file ≡ 2
  machine : e_machine file ≡ 243
  entry : e_entry file ≡ p.entry
  flags : e_flags file ≡ p.flags
  table : e_phoff file ≡ 52
  own : e_ehsize file ≡ 52
  each : e_phentsize file ≡ 32
  count : e_phnum file ≡ length p.segments + 1

fields_read : (p : ProgramData) (rest : List ℕ) → IsSmall p → HasFields (file_header_bytes (file_header p) ++ rest) p
unfolding half_at word_at
fields_read p rest i = record {
  version = refl;
  kind = refl;
  machine = refl;
  entry = omega (arith, i.entry);
  flags = omega (arith, i.flags);
  table = refl;
  own = refl;
  each = refl;
  count = omega (arith, i.few);
}

identified : (p : ProgramData) (rest : List ℕ) → identification_refusal (file_header_bytes (file_header p) ++ rest) ≡ None
identified p rest =
    let size : length (file_header_bytes (file_header p) ++ rest) ≡ 52 + length rest = length-append (file_header_bytes (file_header p)) rest in
    let whole : nat_lt (length (file_header_bytes (file_header p) ++ rest)) 52 ≡ false = grind (arith, nat_tests) in
    rw whole refl

header_passes : (file : List ℕ) (p : ProgramData) → IsSmall p → HasFields file p → 52 + 32 * (length p.segments + 1) ≤ length file → header_refusal file ≡ None
header_passes file p i f fits =
    let plain : (p.flags % 16 == 0) ≡ true = (let h = i.plain in grind (arith, nat_tests)) in
    let few : nat_lt 64 (length p.segments + 1) ≡ false = (let h = i.few in grind (arith, nat_tests)) in
    let inside : nat_lt (length file) (52 + 32 * (length p.segments + 1)) ≡ false = grind (arith, nat_tests) in
    rw (f.version, f.kind, f.machine, f.flags, plain, f.own, f.each, f.count, few, f.table, inside) refl

-- the program headers

segments_words : (total at : ℕ) (ss : List SegmentData) (h : Written) → AreSegments ss → fold (λ a s. a + s.size) total ss ≤ 2 ^ 25 → at + length (contents ss) < 2 ^ 32 → AreWords h →
    AllWords (segment_headers at ss ++ h ∷ [])
unfolding segment_headers contents
segments_words total at [] h each small fits w = (w, tt)
segments_words total at (s ∷ rest) h each small fits w =
    let both : length (s.bytes ++ contents rest) ≡ length s.bytes + length (contents rest) = length-append s.bytes (contents rest) in
    let size : s.size ≤ 2 ^ 25 = omega (arith, sum_up (total + s.size) rest) in
    let i : IsSegment s = each.0 in (
      record {
        p_type = omega arith;
        p_offset = omega arith;
        p_vaddr = omega (arith, i.end, i.some);
        p_filesz = omega (arith, i.front);
        p_memsz = omega arith;
        p_flags = omega (arith, i.rights);
      },
      segments_words (total + s.size) (at + length s.bytes) rest h each.1 small (omega arith) w,
    )

headers_length : (at : ℕ) (ss : List SegmentData) (h : Written) → length (segment_headers at ss ++ h ∷ []) ≡ length ss + 1
unfolding segment_headers
headers_length at [] h = refl
headers_length at (s ∷ rest) h = omega (arith, headers_length (at + length s.bytes) rest h)

table_length : (hs : List Written) → length (table_bytes hs) ≡ 32 * length hs
unfolding table_bytes
table_length [] = refl
table_length (h ∷ hs) = omega (arith, table_length hs, length-append (program_header_bytes h) (table_bytes hs))

-- the segments

segment_read : (file : List ℕ) (at : ℕ) (s : SegmentData) → IsSegment s → take (length s.bytes) (drop at file) ≡ s.bytes → segment_of (loaded_of file (load at s)) ≡ s
segment_read file at s i same =
    let rights : s.flags % 8 ≡ s.flags = omega (arith, i.rights) in
    rw (rights, same) refl

segments_read : (file pre : List ℕ) (ss : List SegmentData) (post : List ℕ) (at : ℕ) → AreSegments ss → file ≡ pre ++ (contents ss ++ post) → at ≡ length pre →
    map segment_of (map (loaded_of file) (loads at ss)) ≡ ss
unfolding contents
segments_read file pre [] post at each is from = refl
segments_read file pre (s ∷ rest) post at each is from =
    let group : (s.bytes ++ contents rest) ++ post ≡ s.bytes ++ (contents rest ++ post) = append_assoc s.bytes (contents rest) post in
    let here : file ≡ pre ++ (s.bytes ++ (contents rest ++ post)) = is ∙ ap (λ (l : List ℕ). pre ++ l) group in
    let there : file ≡ (pre ++ s.bytes) ++ (contents rest ++ post) = here ∙ sym (append_assoc pre s.bytes (contents rest ++ post)) in
    let bytes : take (length s.bytes) (drop at file) ≡ s.bytes = ap (λ (l : List ℕ). take (length s.bytes) (drop at l)) here ∙ part_read pre s.bytes (contents rest ++ post) at (length s.bytes) from refl in
    let next : at + length s.bytes ≡ length (pre ++ s.bytes) = omega (arith, from, length-append pre s.bytes) in
    rw (segment_read file at s each.0 bytes, segments_read file (pre ++ s.bytes) rest post (at + length s.bytes) each.1 there next) refl

-- the entry

record IsIn (o : Option SegmentData) (a : ℕ) : Type 0 where
  segment : SegmentData
  found : o ≡ Some segment
  low : text_base segment ≤ a
  high : a + 4 ≤ segment.base + length segment.bytes

entry_in : (o : Option SegmentData) (a : ℕ) → IsTextAddress (text_in o) a → IsIn o a
entry_in None a t = absurd (omega (arith, t.last))
entry_in (Some s) a t =
    let count = length_words s.bytes (text_base s - s.base) ((s.base + length s.bytes - text_base s) / 4) in
    record { segment = s; found = refl; low = t.first; high = omega (arith, t.first, t.last, count) }

entry_word : (ss : List SegmentData) (a : ℕ) → IsTextAddress (text_of ss) a → IsIn (find can_execute ss) a
unfolding text_of
entry_word ss a t = entry_in (find can_execute ss) a t

-- the parts of a file, and where they stand

record AreParts (file f t c q i : List ℕ) : Type 0 where
  header : file ≡ f ++ (t ++ (c ++ (q ++ i)))
  segments : file ≡ (f ++ t) ++ (c ++ (q ++ i))
  image : file ≡ (((f ++ t) ++ c) ++ q) ++ i
  size : length file ≡ length f + length t + length c + length q + length i
  front : length (((f ++ t) ++ c) ++ q) ≡ length f + length t + length c + length q

parts_of : (f t c q i : List ℕ) → AreParts ((((f ++ t) ++ c) ++ q) ++ i) f t c q i
parts_of f t c q i =
    let front : length (((f ++ t) ++ c) ++ q) ≡ length f + length t + length c + length q =
    omega (arith, length-append ((f ++ t) ++ c) q, length-append (f ++ t) c, length-append f t) in
    record {
      header = simp append_assoc;
      segments = simp append_assoc;
      image = refl;
      size = omega (arith, front, length-append (((f ++ t) ++ c) ++ q) i);
      front = front;
    }

file_parts : (p : ProgramData) (image : List ℕ) →
    AreParts (rewritten_file p image) (file_header_bytes (file_header p)) (table_bytes (headers p.segments image)) (contents p.segments) (padding p.segments) image
unfolding rewritten_file
file_parts p image = parts_of (file_header_bytes (file_header p)) (table_bytes (headers p.segments image)) (contents p.segments) (padding p.segments) image

-- where the image begins, and how long the file is
record IsPlaced (p : ProgramData) (bytes : List ℕ) : Type 0 where
  segments : contents_at (length p.segments) ≡ length (file_header_bytes (file_header p) ++ table_bytes (headers p.segments bytes))
  image : image_at p.segments ≡ length (((file_header_bytes (file_header p) ++ table_bytes (headers p.segments bytes)) ++ contents p.segments) ++ padding p.segments)
  size : length (rewritten_file p bytes) ≡ image_at p.segments + length bytes
  low : contents_at (length p.segments) + length (contents p.segments) ≤ image_at p.segments

placed : (p : ProgramData) (image : List ℕ) → IsPlaced p image
placed p image =
    let ss = p.segments in
    let hs : List Written = headers ss image in
    let f : List ℕ = file_header_bytes (file_header p) in
    let parts = file_parts p image in
    let count : length hs ≡ length ss + 1 = headers_length (contents_at (length ss)) ss (image_header (image_at ss) image) in
    let table : length (table_bytes hs) ≡ 32 * length hs = table_length hs in
    let own : length f ≡ 52 = refl in
    let pad : length (padding ss) ≡ image_at ss - contents_end ss = length-replicate (image_at ss - contents_end ss) 0 in
    record {
      segments = omega (arith, count, table, own, length-append f (table_bytes hs));
      image = omega (arith, count, table, own, pad, parts.front);
      size = omega (arith, count, table, own, pad, parts.size);
      low = omega arith;
    }

headers_read : (p : ProgramData) (image : List ℕ) → IsSmall p → length image < 2 ^ 32 → HasFields (rewritten_file p image) p →
    program_headers (rewritten_file p image) ≡ loads (contents_at (length p.segments)) p.segments ++ own (image_at p.segments) image ∷ []
headers_read p image i small f =
    let ss = p.segments in
    let file : List ℕ = rewritten_file p image in
    let at : ℕ = contents_at (length ss) in
    let hs : List Written = headers ss image in
    let parts = file_parts p image in
    let rest : List ℕ = contents ss ++ (padding ss ++ image) in
    let bytes : length (contents ss) ≤ 2 ^ 25 = few_contents ss i.each i.memory in
    let last : AreWords (image_header (image_at ss) image) = record {
      p_type = omega arith;
      p_offset = omega (arith, i.few);
      p_vaddr = omega arith;
      p_filesz = small;
      p_memsz = small;
      p_flags = omega arith;
    } in
    let words : AllWords hs = segments_words 0 at ss (image_header (image_at ss) image) i.each i.memory (omega (arith, i.few)) last in
    let read : table_at (file_header_bytes (file_header p) ++ (table_bytes hs ++ rest)) 52 (length hs) ≡ map seen hs = table_read (file_header_bytes (file_header p)) hs rest words in
    let count : length hs ≡ length ss + 1 = headers_length at ss (image_header (image_at ss) image) in
    rw (f.table, f.count)
    (ap (λ (n : ℕ). table_at file 52 n) (sym count) ∙ ap (λ (l : List ℕ). table_at l 52 (length hs)) parts.header ∙ read ∙ loads_are at ss (image_header (image_at ss) image))

pub read_back : (p : ProgramData) (image : List ℕ) → IsSmall p → length image < 2 ^ 32 → ReadsAs (rewritten_file p image) p image
unfolding first_refusal loaded_segments image_of
read_back p image i small =
    let ss = p.segments in
    let file : List ℕ = rewritten_file p image in
    let at : ℕ = contents_at (length ss) in
    let to : ℕ = image_at ss in
    let parts = file_parts p image in
    let place = placed p image in
    let rest : List ℕ = table_bytes (headers ss image) ++ (contents ss ++ (padding ss ++ image)) in
    let f : HasFields file p = subst (λ (l : List ℕ). HasFields l p) (sym parts.header) (fields_read p rest i) in
    let ident : identification_refusal file ≡ None = subst (λ (l : List ℕ). identification_refusal l ≡ None) (sym parts.header) (identified p rest) in
    let header : header_refusal file ≡ None = header_passes file p i f (omega (arith, place.size, place.low)) in
    let hs : program_headers file ≡ loads at ss ++ own to image ∷ [] = headers_read p image i small f in
    let e = entry_word ss p.entry i.word in
    let table : table_refusal (length file) p.entry (loads at ss ++ own to image ∷ []) ≡ None =
    table_passes (length file) at p.entry ss e.segment to image i.each i.apart (omega (arith, i.one_text)) i.memory (omega (arith, place.size, place.low)) (omega (arith, place.size)) e.found i.word.aligned e.low e.high in
    let checks : table_refusal (length file) (e_entry file) (program_headers file) ≡ None =
    ap (λ (a : ℕ). table_refusal (length file) a (program_headers file)) f.entry ∙ ap (λ (l : List ProgramHeader). table_refusal (length file) p.entry l) hs ∙ table in
    let loaded : map (loaded_of file) (filter is_loaded (program_headers file)) ≡ map (loaded_of file) (loads at ss) =
    ap (λ (l : List ProgramHeader). map (loaded_of file) (filter is_loaded l)) hs ∙ ap (λ (l : List ProgramHeader). map (loaded_of file) l) (filter_loads at ss to image i.each) in
    let segments : map segment_of (map (loaded_of file) (filter is_loaded (program_headers file))) ≡ ss =
    ap (λ l. map segment_of l) loaded ∙ segments_read file (file_header_bytes (file_header p) ++ table_bytes (headers ss image)) ss (padding ss ++ image) at i.each parts.segments place.segments in
    let found : find is_image (program_headers file) ≡ Some (own to image) = ap (λ (l : List ProgramHeader). find is_image l) hs ∙ find_own at ss to image in
    let bytes : take (length image) (drop to file) ≡ image =
    ap (λ (l : List ℕ). take (length image) (drop to l)) parts.image ∙ end_read (((file_header_bytes (file_header p) ++ table_bytes (headers ss image)) ++ contents ss) ++ padding ss) image to (length image) place.image refl in
    record {
      accepted = rw (ident, header, checks) refl;
      program = rw (f.entry, f.flags, segments) refl;
      image = ap (λ (o : Option ProgramHeader). option_map (bytes_of file) o) found ∙ ap (λ (l : List ℕ). Some l) bytes;
    }
