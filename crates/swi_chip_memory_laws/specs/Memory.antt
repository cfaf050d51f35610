-- The memory that a service on a chip leaves.
use Rattle.std.specs.Prelude.{ℕ, ◌*◌, List}
use Rattle.swi_rom.specs.Coherent.{Coherent}
use Rattle.swi_slots.specs.Keys.{Images}
use Rattle.swi_slots.specs.Slots.{Slots, kept_by}
use Rattle.swi_chip.specs.declared.chip.Chip.{Chip}
use Rattle.swi_chip.specs.Service.{StandsFor}
use Rattle.swi_chip_laws.specs.Holding.{HoldsWords}

-- The cache holds the words of a coherent ram, but for those behind links.
abbrev pub HoldsItsCache : Type 0
HoldsItsCache = (s : Slots) (vs : Images) (ram : List ℕ) (lists : List (List ℕ)) (c : Chip) → StandsFor s vs ram lists c →
    Coherent (vs s.turn) (kept_by s) (s.slots * s.size) ram × HoldsWords (vs s.turn) (kept_by s) ram c.cache.now
