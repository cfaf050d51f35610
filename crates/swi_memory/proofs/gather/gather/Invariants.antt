use Rattle.std.proofs.Common.{◌≡◌, drop, map, [], ◌∷◌, ◌++◌}
use Rattle.swi_memory.specs.BusOf.{area_of, bus_of, region, with_areas}
use Rattle.swi_memory.specs.Gather.{AreWhole}
use Rattle.swi_memory.specs.Views.{areas}
use Rattle.swi_memory.proofs.gather.gather.Given as goal

-- what is to come is what was to come at first
abbrev pub invariant-loop-s : goal.invariant-loop-s
invariant-loop-s l = record {
  value : with_areas (areas l.banks.items) (map area_of (drop l.s-index l.segments) ++ region l.l.heap l.l.heap_len ∷ region l.l.stack l.l.stack_len ∷ []) ≡ bus_of l.segments l.l;
  whole : AreWhole (drop l.s-index l.segments) → AreWhole l.segments;
}
