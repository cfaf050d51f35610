-- Where the heap and the stack of a program lie. Source: own rule; that the stack pointer is a multiple of 16 is the
-- RISC-V ELF psABI's, "Integer Calling Convention".
use Rattle.std.specs.Prelude.{◌≡◌, ℕ, ◌+◌, ◌-◌, ◌*◌, ◌/◌, ◌^◌, ◌≤◌, max, nat_lt, List, [], ◌∷◌, Result, Ok, Err, if◌then◌else◌}
use Rattle.swi_memory.specs.declared.layout.Layout.{Layout}
use Rattle.swi_memory.specs.BusOf.{AreApart, ranges}
use Rattle.swi_program.specs.declared.placement.Room.{Room}
use Rattle.swi_program.specs.Program.{SegmentData}

-- the highest end of a segment
unfoldable pub highest_end : List SegmentData → ℕ
highest_end [] = 0
highest_end (s ∷ rest) = max (s.base + s.size) (highest_end rest)

-- the least multiple of 4096 that is not below a
abbrev pub round_up_page : ℕ → ℕ
round_up_page a = (a + 4095) / 4096 * 4096

-- the stack begins 4096 bytes after the heap's end, rounded up
abbrev pub stack_base : List SegmentData → ℕ → ℕ
stack_base segments heap = round_up_page (highest_end segments + heap) + 4096

abbrev pub stack_end : List SegmentData → ℕ → ℕ → ℕ
stack_end segments heap stack = stack_base segments heap + stack

-- the stack pointer at the start: 64 bytes below the stack's end, rounded down to a multiple of 16
abbrev pub stack_pointer : ℕ → ℕ
stack_pointer end = (end - 64) / 16 * 16

-- the layout, or the stack's end where it lies past the last address
unfoldable pub laid_out : List SegmentData → ℕ → ℕ → Result Layout Room
laid_out segments heap stack =
    if nat_lt (2 ^ 32) (stack_end segments heap stack)
    then Err (record { end = stack_end segments heap stack })
    else Ok (record {
      heap = highest_end segments;
      heap_len = heap;
      stack = stack_base segments heap;
      stack_len = stack;
      sp = stack_pointer (stack_end segments heap stack);
    })

-- the layout is the one that a program with these segments gets, with a heap and a stack of these lengths
abbrev pub IsLayoutOf : List SegmentData → Layout → Type 0
IsLayoutOf segments l = laid_out segments l.heap_len l.stack_len ≡ Ok l

-- every segment ends at or below an address
abbrev pub EndBelow : List SegmentData → ℕ → Type 0
EndBelow [] a = Unit {0}
EndBelow (s ∷ rest) a = (s.base + s.size ≤ a) × EndBelow rest a

-- the heap lies above the segments, the stack above the heap, and both below 2 ^ 32; no two share an address
pub record IsRoomy (segments : List SegmentData) (l : Layout) : Type 0 where
  pub heap : EndBelow segments l.heap
  pub stack : l.heap + l.heap_len + 4096 ≤ l.stack
  pub end : l.stack + l.stack_len ≤ 2 ^ 32
  pub apart : AreApart (ranges segments l)
