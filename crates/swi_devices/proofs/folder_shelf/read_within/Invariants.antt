-- what was read was taken from the file, and never more than one byte past the limit
use Rattle.std.proofs.Common.{◌≡◌, ◌≤◌, ◌+◌, ◌-◌, false, vec_len}
use Rattle.std.specs.Io.KnownBytes.{Consumes}
use Rattle.swi_devices.proofs.folder_shelf.read_within.Given as goal

abbrev pub invariant-loop-piece : goal.invariant-loop-piece
invariant-loop-piece g l =
    (vec_len l.bytes ≤ l.limit + 1) × Consumes (g.F.Read.remaining l.initial.file.file.device) (g.F.Read.remaining l.file.file.device) l.bytes.items × (l.file.file.failures ≡ l.initial.file.file.failures)
    × (l.file.file.late ≡ l.initial.file.file.late) × (l.file.file.ended ≡ false)

abbrev pub decreases-loop-piece : goal.decreases-loop-piece
decreases-loop-piece g l = l.limit + 1 - vec_len l.bytes
