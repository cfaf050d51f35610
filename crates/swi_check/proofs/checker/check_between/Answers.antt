use Rattle.std.proofs.Common.{arith, refl}
use Rattle.swi_check.proofs.Blocks.{whole_block, right_between}
use Rattle.swi_check.proofs.checker.check_between.Goals as goal

pub check_words-requires-clause-whole : goal.check_words-requires-clause-whole
check_words-requires-clause-whole c =
    whole_block c.args.text.now c.args.view.now c.args.block c.args.first c.args.end c.version.result c.length-held.result c.in-Ok.needs
    c.requires.image c.requires.block (c.in-Ok.ensures {u = tt}).needs (omega (arith, c.block_words.ensures.value)) c.version.ensures c.length-held.ensures.value c.else-version-eq2.either

pub returns-in-Ok-check_words-clause-right : goal.returns-in-Ok-check_words-clause-right
returns-in-Ok-check_words-clause-right c =
    let places = c.in-Ok.ensures {u = tt} in
    let whole = whole_block c.args.text.now c.args.view.now c.args.block c.args.first c.args.end c.version.result c.length-held.result c.in-Ok.needs
    c.requires.image c.requires.block places.needs (omega (arith, c.block_words.ensures.value)) c.version.ensures c.length-held.ensures.value c.else-version-eq2.either in
    right_between c.args.text.now c.args.view.now c.args.block c.args.first c.args.end places.right (omega (arith, places.needs, c.block_words.ensures.value)) whole (c.in-Ok-check_words.ensures {u = tt}).right

pub returns-in-Err-check_words-clause-wrong : goal.returns-in-Err-check_words-clause-wrong
returns-in-Err-check_words-clause-wrong c =
    let places = c.in-Ok.ensures {u = tt} in
    let whole = whole_block c.args.text.now c.args.view.now c.args.block c.args.first c.args.end c.version.result c.length-held.result c.in-Ok.needs
    c.requires.image c.requires.block places.needs (omega (arith, c.block_words.ensures.value)) c.version.ensures c.length-held.ensures.value c.else-version-eq2.either in
    (refl, places.right, omega (arith, places.needs, c.block_words.ensures.value), whole, (c.in-Err-check_words.ensures {u = tt}).wrong)
