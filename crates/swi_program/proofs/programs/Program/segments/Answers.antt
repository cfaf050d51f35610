use Rattle.swi_program.proofs.Ends.{room_law}
use Rattle.swi_program.proofs.programs.Program.segments.Goals as goal

pub returns-clause-room : goal.returns-clause-room
returns-clause-room c l own = room_law _ _ c.self.view_is c.self.invariant l own
