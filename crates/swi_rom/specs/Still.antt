-- What stands still where nothing but the counts changes.
use Rattle.std.specs.Prelude.{◌≡◌, ℕ}
use Rattle.swi_image.specs.Format.{ImageData}
use Rattle.swi_rom.specs.Record.{Record, Placed}
use Rattle.swi_rom.specs.Coherent.{TargetAt}

-- a target's place
pub still_at : (v : ImageData) (r s : Record) → s ≡ record r { counts = s.counts } → (t i : ℕ) → TargetAt v r t i → TargetAt v s t i
unfolding Placed
still_at v r s same t i at = rw same (record { block = at.block; offset = at.offset; first = at.first; place_is = at.place_is; is_placed = at.is_placed; index = at.index })
