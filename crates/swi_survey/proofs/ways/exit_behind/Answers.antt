use Rattle.std.proofs.Common.{◌+◌, ◌%◌, ◌^◌, ℕ, ap}
use Rattle.swi_survey.proofs.Mapping.{behind_goes, behind_none, behind_stops}
use Rattle.swi_survey.proofs.ways.exit_behind.Goals as goal

pub returns-then-not-is_last : goal.returns-then-not-is_last
returns-then-not-is_last c = behind_none c.args.text.now c.args.image.now c.args.k c.args.place c.is_last.result c.is_last.ensures c.if-not-is_last.true

pub returns-then-not-falls : goal.returns-then-not-falls
returns-then-not-falls c = behind_stops c.args.text.now c.args.image.now c.args.k c.args.place c.is_last.result c.falls.result c.word.result c.is_last.ensures c.if-not-is_last.false c.word.ensures c.falls.ensures c.if-not-falls.true

pub returns : goal.returns
returns c = behind_goes c.args.text.now c.args.image.now c.args.k c.args.place c.is_last.result c.falls.result c.word.result c.sizes_of-len.result.len _ c.exit_to.result
    c.is_last.ensures c.if-not-is_last.false c.word.ensures c.falls.ensures c.if-not-falls.false c.sizes_of-len.ensures.len (ap (λ (n : ℕ). (n + 4) % 2 ^ 32) c.address_of-a.ensures) c.exit_to.ensures
