use Rattle.swi_program.proofs.Texts.{entry_word}
use Rattle.swi_program.proofs.programs.Program.entry.Goals as goal

pub returns-clause-word : goal.returns-clause-word
returns-clause-word c = entry_word _ _ c.self.view_is c.self.invariant
