-- Two words in place of an exit.
use Rattle.std.specs.Prelude.{◌≡◌, ◌⊎◌, ℕ, ◌+◌, ◌/◌, slice_set}
use Rattle.swi_chip.specs.declared.chip.Chip.{Chip}
use Rattle.swi_chip.specs.Service.{far_in}

-- the two words stand there, or nothing has changed
abbrev pub Puts : Chip → Chip → ℕ → ℕ → ℕ → Type 0
Puts old new pc first second = (new ≡ old) ⊎ ((new ≡ record old { cache = new.cache }) × (new.cache.now ≡ slice_set (slice_set old.cache.now (far_in old pc / 4) first) (far_in old pc / 4 + 1) second))
