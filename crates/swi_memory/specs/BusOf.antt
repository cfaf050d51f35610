-- The bus at the start of a run: the segments of a program, and the heap and the stack of its layout.
-- Source: System V ABI, "Program Header" (the bytes past the file's are zero). The two regions and the order.
use Rattle.std.specs.Prelude.{◌≡◌, ◌⊎◌, ◌==◌, ℕ, ◌+◌, ◌-◌, ◌≤◌, nat_lt, List, [], ◌∷◌, ◌++◌, length, map, replicate, Option, Some, None, if◌then◌else◌}
use Rattle.swi_memory.specs.declared.layout.Layout.{Layout}
use Rattle.swi_memory.specs.Bus.{AreaData, Execute, grants, has_word, number_in}
use Rattle.swi_memory.specs.Segment.{SegmentData}

-- so many addresses from a base on
pub record Range : Type 0 where
  pub base : ℕ
  pub size : ℕ

-- the ranges share no address
abbrev pub IsClear : Range → Range → Type 0
IsClear r s = (r.size ≡ 0) ⊎ ((s.size ≡ 0) ⊎ ((r.base + r.size ≤ s.base) ⊎ (s.base + s.size ≤ r.base)))

-- the range shares no address with any of these
abbrev pub IsClearOf : Range → List Range → Type 0
IsClearOf r [] = Unit {0}
IsClearOf r (s ∷ rest) = IsClear r s × IsClearOf r rest

-- no two of the ranges share an address
abbrev pub AreApart : List Range → Type 0
AreApart [] = Unit {0}
AreApart (r ∷ rest) = IsClearOf r rest × AreApart rest

abbrev pub range_of : SegmentData → Range
range_of s = record { base = s.base; size = s.size }

-- the ranges of the segments, then the heap's and the stack's
abbrev pub ranges : List SegmentData → Layout → List Range
ranges segments l = map range_of segments ++ record { base = l.heap; size = l.heap_len } ∷ record { base = l.stack; size = l.stack_len } ∷ []

-- how many segments can be executed
abbrev pub texts : List SegmentData → ℕ
texts [] = 0
texts (s ∷ rest) = (if grants Execute s.flags then 1 else 0) + texts rest

-- one segment at most can be executed
abbrev pub HasOneTextAtMost : List SegmentData → Type 0
HasOneTextAtMost segments = texts segments ≤ 1

-- a segment in memory: the file's bytes, then zeros
abbrev pub area_of : SegmentData → AreaData
area_of s = record { base = s.base; flags = s.flags; file_size = length s.bytes; bytes = s.bytes ++ replicate (s.size - length s.bytes) 0 }

-- a region in memory: zeros that can be read and written
abbrev pub region : ℕ → ℕ → AreaData
region base size = record { base = base; flags = 6; file_size = 0; bytes = replicate size 0 }

-- the areas with one more, in ascending order of base
abbrev pub placed : List AreaData → AreaData → List AreaData
placed [] s = s ∷ []
placed (t ∷ rest) s = if nat_lt s.base t.base then s ∷ (t ∷ rest) else t ∷ placed rest s

-- the same, but an area without bytes is left out
abbrev pub with_area : List AreaData → AreaData → List AreaData
with_area bus s = if length s.bytes == 0 then bus else placed bus s

-- the areas with these too, one after the other
abbrev pub with_areas : List AreaData → List AreaData → List AreaData
with_areas bus [] = bus
with_areas bus (s ∷ rest) = with_areas (with_area bus s) rest

-- the bus at the start: segments, heap and stack in ascending order of base, as far as they have bytes
abbrev pub bus_of : List SegmentData → Layout → List AreaData
bus_of segments l = with_areas [] (map area_of segments ++ region l.heap l.heap_len ∷ region l.stack l.stack_len ∷ [])

-- the word of a program's text that stands at the address: the number of four bytes of the file, where a text word stands
abbrev pub word_in : List SegmentData → ℕ → Option ℕ
word_in [] a = None
word_in (s ∷ rest) a = if has_word (area_of s) a then Some (number_in s.bytes (a - s.base) 4) else word_in rest a
