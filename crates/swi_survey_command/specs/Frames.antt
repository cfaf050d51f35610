-- The caches of a survey, as they are made: of one kind, for one image.
use Rattle.std.specs.Prelude.{ℕ, ◌*◌, ◌/◌, ◌^◌, ◌≤◌, All, List}
use Rattle.swi_command.specs.declared.command.CacheKind.{CacheKind}
use Rattle.swi_command.specs.declared.command.CacheKind.TheVariants as kind
use Rattle.swi_tally.specs.declared.tally.Placing.TheVariants as placing
use Rattle.swi_tally.specs.declared.tallies.Frame.{Frame}

-- a cache of so many bytes, for blocks of so many words at most: as many slots as it has room for blocks, or one ring of its whole words
abbrev pub frame_by : CacheKind → ℕ → ℕ → Frame
frame_by kind.Slots words bytes = record { placing = placing.Slots; slots = bytes / (4 * words); slot_words = words }
frame_by kind.Ring words bytes = record { placing = placing.Ring; slots = 1; slot_words = bytes / 4 }

-- each size has room for a block of so many words, and is a cache's
abbrev pub AreHeld : ℕ → List ℕ → Type 0
AreHeld words sizes = All (λ bytes. (4 * words ≤ bytes) × (bytes ≤ 2 ^ 23)) sizes
