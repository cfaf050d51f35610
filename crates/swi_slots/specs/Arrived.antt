-- What a service has done when a target's block stands in the ram, before any link.
use Rattle.std.specs.Prelude.{◌≡◌, ◌⊎◌, ℕ, ◌+◌, min, ◌-◌, ◌*◌, ◌^◌, ◌<◌, ◌≤◌, slice_index, slice_set}
use Rattle.swi_outside.specs.CacheRam.{RamState}
use Rattle.swi_rom.specs.Record.{writes}
use Rattle.swi_rom.specs.Policy.{counted}
use Rattle.swi_slots.specs.Fifo.{arrived}
use Rattle.swi_rom.specs.Served.{WordsMove}
use Rattle.swi_slots.specs.Keys.{Images, key_of}
use Rattle.swi_slots.specs.Slots.{Slots, kept_by, setting_of}
use Rattle.swi_slots.specs.Sound.{SlotsServe}
use Rattle.swi_rom.specs.Writing.{Wrote}
use Rattle.swi_slots.specs.Steps.{IsAbsent}

pub record Arrived (vs : Images) (s : Slots) (b slot : ℕ) (t : Slots) (before after : RamState) : Type 0 where
  pub moves : kept_by t ≡ arrived (setting_of s) (vs s.turn) (counted (kept_by s)) b
  pub sound : SlotsServe t vs after.words
  pub small : b < 2 ^ 19
  pub turn_stays : t.turn ≡ s.turn
  pub slots_stay : t.slots ≡ s.slots
  pub size_stays : t.size ≡ s.size
  pub programs_stay : t.programs ≡ s.programs
  pub filled : slot < t.filled
  pub stands : slice_index t.blocks slot ≡ key_of s.turn b
  pub blocks_move : ((t.blocks ≡ s.blocks) × (t.filled ≡ s.filled)) ⊎ ((t.blocks ≡ slice_set s.blocks s.next (key_of s.turn b)) × (t.filled ≡ min (s.filled + 1) s.slots) × IsAbsent s (key_of s.turn b))
  pub grows : s.filled ≤ t.filled
  pub wrote : Wrote (s.slots * s.size) (writes (kept_by t) - writes (kept_by s)) before after
  pub words : WordsMove (vs s.turn) (kept_by s) (kept_by t) before after
