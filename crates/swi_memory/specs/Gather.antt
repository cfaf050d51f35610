-- Places in the order of areas, for the contracts between the parts of this crate.
use Rattle.std.specs.Prelude.{ℕ, ◌+◌, ◌≤◌, ◌^◌, suc, List, [], ◌∷◌, length, nat_lt, if◌then◌else◌}
use Rattle.swi_memory.specs.Bus.{AreaData}
use Rattle.swi_memory.specs.Segment.{SegmentData}

-- how many areas stand before a base
abbrev pub place_in : List AreaData → ℕ → ℕ
place_in [] base = 0
place_in (t ∷ rest) base = if nat_lt base t.base then 0 else suc (place_in rest base)

-- what is true of every segment
abbrev pub AreWhole : List SegmentData → Type 0
AreWhole [] = Unit {0}
AreWhole (s ∷ rest) = (length s.bytes ≤ s.size) × (s.base + s.size ≤ 2 ^ 32) × AreWhole rest
