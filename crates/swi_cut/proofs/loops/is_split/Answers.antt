use Rattle.std.proofs.Common.{arith}
use Rattle.std.proofs.lemmas.Bool.{false≢true}
use Rattle.swi_cut.proofs.Sequences.{split_test, split_never}
use Rattle.swi_cut.proofs.loops.is_split.Goals as goal

pub returns-in-Ok : goal.returns-in-Ok
returns-in-Ok c =
    split_test c.args.text.now c.args.most c.args.lr c.in-Some.sc c.args.end c.in-Ok.longest (c.in-Some.ensures {u = tt}).found c.if-sc-end.false (c.in-Ok.ensures {u = tt}).run (c.in-Ok.ensures {u = tt}).greedy

pub returns-in-Err : goal.returns-in-Err
returns-in-Err c =
    let long = (c.in-Err.ensures {u = tt}).long in
    (λ yes_. absurd (false≢true yes_), λ p. absurd (split_never c.args.text.now c.args.most c.args.lr c.args.end (omega arith) p))
