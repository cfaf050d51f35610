-- The headers of a rewritten file, read back.
use Rattle.std.proofs.Common.{◌≡◌, ℕ, ◌+◌, ◌^◌, ◌<◌, List, [], ◌∷◌, ◌++◌, length, map, take, drop, arith, refl, sym, ap, ◌∙◌, append_assoc, length-append}
use Rattle.std.proofs.Math.Seq.{drop-append-add, drop-append_seam, take-append_seam, take-length}
use Rattle.byteorder.specs.Endian.{little_number}
use Rattle.swi_elf_read.specs.declared.program_header.ProgramHeader.{ProgramHeader}
use Rattle.swi_elf_read.specs.ProgramHeaders.{word_at, header_at, table_at}
use Rattle.swi_elf_write.specs.declared.program_header.ProgramHeader.{ProgramHeader as Written}
use Rattle.swi_elf_write.specs.FileHeader.{program_header_bytes, table_bytes}

-- what a reader sees of a program header
abbrev pub seen : Written → ProgramHeader
seen h = record {
  p_type = h.p_type;
  p_offset = h.p_offset;
  p_vaddr = h.p_vaddr;
  p_filesz = h.p_filesz;
  p_memsz = h.p_memsz;
  p_flags = h.p_flags;
}

-- each of these is a word
pub record AreWords (h : Written) : Type 0 where
  pub p_type : h.p_type < 2 ^ 32
  pub p_offset : h.p_offset < 2 ^ 32
  pub p_vaddr : h.p_vaddr < 2 ^ 32
  pub p_filesz : h.p_filesz < 2 ^ 32
  pub p_memsz : h.p_memsz < 2 ^ 32
  pub p_flags : h.p_flags < 2 ^ 32

abbrev pub AllWords : List Written → Type 0
AllWords [] = Unit {0}
AllWords (h ∷ rest) = AreWords h × AllWords rest

word_first : (pre xs : List ℕ) → word_at (pre ++ xs) (length pre) ≡ little_number 4 xs
unfolding word_at
word_first pre xs = rw (drop-append_seam pre xs) refl

word_later : (pre xs : List ℕ) (n : ℕ) → word_at (pre ++ xs) (length pre + n) ≡ little_number 4 (drop n xs)
unfolding word_at
word_later pre xs n = rw (drop-append-add pre xs n) refl

header_read : (pre rest : List ℕ) (h : Written) → AreWords h → header_at (pre ++ (program_header_bytes h ++ rest)) (length pre) ≡ seen h
header_read pre rest h w =
    let xs : List ℕ = program_header_bytes h ++ rest in
    let a : word_at (pre ++ xs) (length pre) ≡ h.p_type = word_first pre xs ∙ omega (arith, w.p_type) in
    let b : word_at (pre ++ xs) (length pre + 4) ≡ h.p_offset = word_later pre xs 4 ∙ omega (arith, w.p_offset) in
    let c : word_at (pre ++ xs) (length pre + 8) ≡ h.p_vaddr = word_later pre xs 8 ∙ omega (arith, w.p_vaddr) in
    let d : word_at (pre ++ xs) (length pre + 16) ≡ h.p_filesz = word_later pre xs 16 ∙ omega (arith, w.p_filesz) in
    let e : word_at (pre ++ xs) (length pre + 20) ≡ h.p_memsz = word_later pre xs 20 ∙ omega (arith, w.p_memsz) in
    let f : word_at (pre ++ xs) (length pre + 24) ≡ h.p_flags = word_later pre xs 24 ∙ omega (arith, w.p_flags) in
    rw (a, b, c, d, e, f) refl

-- the table behind some bytes
pub table_read : (pre : List ℕ) (hs : List Written) (rest : List ℕ) → AllWords hs → table_at (pre ++ (table_bytes hs ++ rest)) (length pre) (length hs) ≡ map seen hs
unfolding table_bytes table_at
table_read pre [] rest w = refl
table_read pre (h ∷ hs) rest w =
    let own : List ℕ = program_header_bytes h in
    let group : (own ++ table_bytes hs) ++ rest ≡ own ++ (table_bytes hs ++ rest) = append_assoc own (table_bytes hs) rest in
    let behind : pre ++ (own ++ (table_bytes hs ++ rest)) ≡ (pre ++ own) ++ (table_bytes hs ++ rest) = sym (append_assoc pre own (table_bytes hs ++ rest)) in
    let size : length (pre ++ own) ≡ length pre + 32 = length-append pre own in
    let first : header_at (pre ++ (own ++ (table_bytes hs ++ rest))) (length pre) ≡ seen h = header_read pre (table_bytes hs ++ rest) h w.0 in
    let more : table_at (pre ++ (own ++ (table_bytes hs ++ rest))) (length pre + 32) (length hs) ≡ map seen hs =
    ap (λ (l : List ℕ). table_at l (length pre + 32) (length hs)) behind ∙ ap (λ (n : ℕ). table_at ((pre ++ own) ++ (table_bytes hs ++ rest)) n (length hs)) (sym size) ∙ table_read (pre ++ own) hs rest w.1 in
    ap (λ (l : List ℕ). header_at (pre ++ l) (length pre) ∷ table_at (pre ++ l) (length pre + 32) (length hs)) group
    ∙ ap (λ (x : ProgramHeader). x ∷ table_at (pre ++ (own ++ (table_bytes hs ++ rest))) (length pre + 32) (length hs)) first
    ∙ ap (λ (l : List ProgramHeader). seen h ∷ l) more

-- the bytes that stand behind some others
pub part_read : (pre part rest : List ℕ) (at n : ℕ) → at ≡ length pre → n ≡ length part → take n (drop at (pre ++ (part ++ rest))) ≡ part
part_read pre part rest at n is size = rw (is, size, drop-append_seam, take-append_seam) refl

pub end_read : (pre part : List ℕ) (at n : ℕ) → at ≡ length pre → n ≡ length part → take n (drop at (pre ++ part)) ≡ part
end_read pre part at n is size = rw (is, size, drop-append_seam) (take-length part)
