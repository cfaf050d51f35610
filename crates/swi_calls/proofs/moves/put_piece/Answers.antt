use Rattle.swi_calls.proofs.BusLemmas.{copied}
use Rattle.swi_calls.proofs.moves.put_piece.Goals as goal

pub returns-clause-bytes : goal.returns-clause-bytes
returns-clause-bytes c =
    copied c.copy_in.result c.args.bus.now c.copy_in.new.self c.args.a c.args.count c.args.done c.args.piece.now c.requires.held c.requires.more c.requires.within c.copy_in.ensures.bytes c.copy_in.ensures.refused
