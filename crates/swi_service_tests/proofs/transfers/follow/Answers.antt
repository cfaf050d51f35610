use Rattle.std.proofs.Common.{arith}
use Rattle.swi_service_tests.proofs.transfers.follow.Goals as goal

pub returns-clause-words : goal.returns-clause-words
returns-clause-words g c =
    let e = c.in-Some.ensures in
    (c.in-Ok.ensures.served e.block e.offset e.first e.is_placed (omega (arith, e.is_exit.inside)) e.index).spared.length_stays
