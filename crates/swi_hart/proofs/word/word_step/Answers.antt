use Rattle.std.proofs.Common.{rules}
use Rattle.swi_outside.proofs.SourceLemmas.{rest_is}
use Rattle.swi_hart.specs.Hart.{word_stepped}
use Rattle.swi_hart.proofs.Calls.{call_is_word}
use Rattle.swi_hart.proofs.word.word_step.Goals as goal

pub returns-then-run_word-clause-word : goal.returns-then-run_word-clause-word
returns-then-run_word-clause-word g c i k read =
    let word = c.call_word.ensures.word i k read in
    let moved = c.call_word.ensures.moved i k read in
    let called = c.run_word.ensures.called c.if-run_word.true in
    let executed = call_is_word (λ left. word_stepped c.args.role c.args.at.index c.args.at.block c.args.at.offset c.args.at.stage c.args.hart.now.machine c.args.x.now left)
    c.args.at.index c.args.at.block c.args.at.offset c.args.at.stage c.args.hart.now c.run_word.new.hart c.call_word.new.hart _ _ c.call_word.result called.0 called.1 word in
    search rules

pub returns-else-run_word-clause-word : goal.returns-else-run_word-clause-word
returns-else-run_word-clause-word g c i k read = rw (rest_is read) (search rules)
