-- What others do between two machine instructions.
use Rattle.std.specs.Prelude.{ℕ, ◌+◌, List, ◌++◌}
use Rattle.swi_rom.specs.Record.{Record}
use Rattle.swi_board.specs.Moments.{Moment}

-- so many words were set beside the hart, and the service's record is this one
abbrev pub beside : Record → ℕ → Moment → Moment
beside r n s = record s { kept = r; sets = s.sets + n }

-- these bytes were written to the errors
abbrev pub told : List ℕ → Moment → Moment
told line s = record s { flat = record s.flat { error = s.flat.error ++ line } }
