-- A segment of a program. Source: System V ABI, "Program Header", p_vaddr, p_flags, p_memsz, p_filesz.
use Rattle.std.specs.Prelude.{ℕ, List}

-- a base address, rights (4 read, 2 write, 1 execute), a size in bytes, and the bytes that the file has
pub record SegmentData : Type 0 where
  pub base : ℕ
  pub flags : ℕ
  pub size : ℕ
  pub bytes : List ℕ
