use Rattle.std.proofs.Common.{rules, Some}
use Rattle.std.proofs.lemmas.Result.{err_from_is_err_and}
use Rattle.swi_calls.proofs.ToldCalls.{exchanged_as_told, reads_as_told}
use Rattle.swi_hart.specs.Calling.{Moved}
use Rattle.swi_hart.proofs.word.call_word.Goals as goal

pub returns-in_err-call_step-clause-word : goal.returns-in_err-call_step-clause-word
returns-in_err-call_step-clause-word g c i k read =
    let p = err_from_is_err_and c.from_residual.result c.from_residual.ensures.1 in
    let does = exchanged_as_told _ _ _ _ c.in_err-call_step.ensures.devices i k read in
    rw (p.1, p.2) (search rules)

pub returns-in_err-call_step-clause-moved : goal.returns-in_err-call_step-clause-moved
returns-in_err-call_step-clause-moved g c i k read =
    let (n, within, reads) = c.call_step.ensures.moved in
    rw (← c.hart.view_is) (n, within, reads_as_told _ _ _ _ _ n i k read reads)

pub returns-clause-word : goal.returns-clause-word
returns-clause-word g c i k read =
    let made = c.in_ok-call_step.ensures.machine i k read in
    let does = exchanged_as_told _ _ _ _ c.in_ok-call_step.ensures.devices i k read in
    search rules

pub returns-clause-moved : goal.returns-clause-moved
returns-clause-moved g c i k read =
    let (n, within, reads) = c.call_step.ensures.moved in
    let moved : Moved c.hart.inside.machine c.call_step.new.self.bus (Some i) (Some k) = (n, within, reads_as_told _ _ _ _ _ n i k read reads) in
    search rules
