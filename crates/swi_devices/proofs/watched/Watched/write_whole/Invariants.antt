-- what is gone from the piece was handed to the writer, and noted
use Rattle.std.proofs.Common.{◌≡◌, ℕ, List, ◌++◌, length}
use Rattle.std.specs.Io.KnownBytes.{Appends}
use Rattle.swi_devices.specs.ByteLog.{bytes_in}
use Rattle.swi_devices.proofs.watched.Watched.write_whole.Given as goal

abbrev pub invariant-loop-rest : goal.invariant-loop-rest
invariant-loop-rest g l =
    (done : List ℕ) × (l.piece ≡ done ++ l.rest) × Appends (g.W.Write.contents l.initial.self.device) (g.W.Write.contents l.self.device) done
    × (bytes_in l.took.value ≡ bytes_in l.initial.took.value ++ done) × (l.self.failures ≡ l.initial.self.failures) × (l.self.late ≡ l.initial.self.late)

abbrev pub decreases-loop-rest : goal.decreases-loop-rest
decreases-loop-rest g l = length l.rest
