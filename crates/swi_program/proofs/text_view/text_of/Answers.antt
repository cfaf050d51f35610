use Rattle.std.proofs.Common.{ap}
use Rattle.swi_elf_read.specs.ProgramHeaders.{round_up_4}
use Rattle.swi_program.proofs.Texts.{text_sized}
use Rattle.swi_program.proofs.Words.{seen_text}
use Rattle.swi_program.proofs.text_view.text_of.Goals as goal

pub returns-clause-value : goal.returns-clause-value
returns-clause-value c = seen_text c.args.segment.now _ _ (cc (ap round_up_4 c.base-first.ensures.value)) (cc)

pub returns-clause-sized : goal.returns-clause-sized
returns-clause-sized c = text_sized c.args.segment.now c.requires
