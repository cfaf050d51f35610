use Rattle.swi_measure_command.proofs.Measuring.{text_room}
use Rattle.swi_measure_command.proofs.command.prepare_text.Goals as goal

pub unreachable-requires : goal.unreachable-requires
unreachable-requires c = text_room c.args.text.now c.in-Ok.program _ c.in-Ok.ensures c.requires.most c.in-Err.ensures.layout
