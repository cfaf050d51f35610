use Rattle.std.proofs.Common.{◌≡◌, ◌+◌, ◌*◌, ℕ, get_or, if◌then◌else◌}
use Rattle.swi_memory.specs.Bus.{fetched}
use Rattle.swi_micro.specs.MicroOp.{stop_op}
use Rattle.swi_board.specs.Targets.{AreFound}
use Rattle.swi_board.specs.Turning.{Begins, Turned, turn}
use Rattle.swi_board.proofs.Falling.{is_fall_op}
use Rattle.swi_board.proofs.advance.step_through.Given as goal

abbrev pub invariant-loop-at : goal.invariant-loop-at
invariant-loop-at g l = record {
  turned : (limit : ℕ) (b : Begins g.R.CacheRom.service l.image limit (turn l.fn.machine l.fn.rom (g.M.CacheRam.state l.fn.ram) l.fn.cursor)) →
      Turned g.R.CacheRom.service l.image limit (turn l.fn.machine l.fn.rom (g.M.CacheRam.state l.fn.ram) l.fn.cursor) b.at (turn l.machine l.rom (g.M.CacheRam.state l.ram) l.at);
  text : (a : ℕ) → fetched l.machine.bus a ≡ fetched l.fn.machine.bus a;
  found : AreFound l.image (g.R.CacheRom.service.kept l.rom) l.ways.targets;
}

abbrev pub decreases-loop-at : goal.decreases-loop-at
decreases-loop-at g l = 2 * l.at.left + (if is_fall_op (get_or l.ops l.at.row stop_op) then 1 else 0)
