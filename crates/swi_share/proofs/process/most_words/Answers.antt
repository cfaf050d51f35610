use Rattle.std.proofs.Common.{◌≡◌, ◌<◌, ◌≤◌, max, length, rules, arith, ◌∙◌}
use Rattle.swi_share.proofs.Starting.{most_step, most_last}
use Rattle.swi_share.proofs.process.most_words.Goals as goal

pub loop-guest-preserved : goal.loop-guest-preserved
loop-guest-preserved c =
    let at = c.loop-guest in
    let x = c.guest-item.result in
    let new : c.max-most.result ≡ max x.image.block_words at.most = search rules in
    let below : at.guest-index < length c.args.guests.now = search rules in
    let least = c.block_words.ensures.least in
    let value = c.block_words.ensures.value in
    let most = c.block_words.ensures.most in
    let few = at.invariant.2 in
    (most_step c.args.guests.now at.guest-index x at.most c.max-most.result below c.guest-item.is new ∙ at.invariant.0, λ more. omega (arith, new, least, value), omega (arith, new, most, value, few))

pub returns-clause-most : goal.returns-clause-most
returns-clause-most c =
    let past : length c.args.guests.now ≤ c.loop-guest.guest-index = search rules in
    most_last c.args.guests.now c.loop-guest.guest-index c.loop-guest.most past c.loop-guest.invariant.0
