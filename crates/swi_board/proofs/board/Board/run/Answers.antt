use Rattle.swi_board.proofs.board.Board.run.Goals as goal
use Rattle.swi_board.proofs.board.Board.run.Goals.{in-Some, in_default}

pub returns-clause-ran : goal.returns-clause-ran
returns-clause-ran g c = elim c.match-learnt.branch [
  | in-Some w ↦ rw (w.ram-is, w.input-is, w.out-is, w.err-is, w.result-is, w.self-inside-is, ← c.self.view_is) w.run_by_words.ensures.ran
  | in_default w ↦ rw (w.ram-is, w.input-is, w.out-is, w.err-is, w.result-is, w.self-inside-is, ← c.self.view_is) w.run_stepwise.ensures.ran
]
