use Rattle.swi_program.proofs.Texts.{text_facts, text_there}
use Rattle.swi_program.proofs.programs.Program.executable.Goals as goal

pub unreachable-requires : goal.unreachable-requires
unreachable-requires c = text_there _ c.self.invariant (cc)

pub returns-clause-whole : goal.returns-clause-whole
returns-clause-whole c = text_facts _ _ c.self.invariant (cc)
