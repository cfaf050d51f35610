use Rattle.std.proofs.Common.{rules}
use Rattle.swi_memory.proofs.Texts.{text_found}
use Rattle.swi_memory.proofs.text.find_text.Goals as goal

pub returns-then-grants : goal.returns-then-grants
returns-then-grants c =
    text_found c.args.banks.now c.loop-i.i c.index-banks-i.result c.text_in.result c.loop-i.invariant.words c.loop-i.invariant.one c.loop-i-test.true c.index-banks-i.is (search rules) c.text_in.ensures
