-- What is seen of a segment's fields, and what is true of them.
use Rattle.std.specs.Prelude.{◌+◌, ◌<◌, ◌≤◌, ◌^◌, length}
use Rattle.swi_memory.specs.declared.segment.Segment.TheInside.{Inside}
use Rattle.swi_memory.specs.Segment.{SegmentData}

abbrev pub data_of : Inside → SegmentData
data_of s = record { base = s.base; flags = s.flags; size = s.size; bytes = s.bytes.now }

-- three rights, no more bytes than the size, and no byte past the last address
pub record Fits (s : Inside) : Type 0 where
  pub rights : s.flags < 8
  pub front : length s.bytes.now ≤ s.size
  pub end : s.base + s.size ≤ 2 ^ 32
