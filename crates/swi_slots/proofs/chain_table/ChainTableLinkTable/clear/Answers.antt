use Rattle.std.proofs.Common.{ℕ, arith, ap, subst, OnErr}
use Rattle.swi_rom.specs.Writing.{FailedBelow}
use Rattle.swi_slots.specs.Homes.{TableData}
use Rattle.swi_slots.proofs.ClearingChains.{words_are, same_length, own_within, ok_gives, number_gives, cleared_call, number_call}
use Rattle.swi_slots.proofs.chain_table.ChainTableLinkTable.clear.Goals as goal

pub undo-requires-clause-words : goal.undo-requires-clause-words
undo-requires-clause-words g c = omega (arith, c.requires.few, words_are c.args.self.now _ (ap (λ (t : TableData). t.chains) c.self.view_is) c.requires.long)

pub undo-requires-clause-within : goal.undo-requires-clause-within
undo-requires-clause-within g c =
    own_within c.args.self.now _ _ _ _ _ (ap (λ (t : TableData). t.chains) c.self.view_is) (ap (λ (t : TableData). t.size) c.self.view_is) c.min-size.ensures c.requires.long c.requires.slot

pub undo-requires-clause-fits : goal.undo-requires-clause-fits
undo-requires-clause-fits g c = omega (arith, c.requires.fits, words_are c.args.self.now _ (ap (λ (t : TableData). t.chains) c.self.view_is) c.requires.long)

pub returns-clause-cleared : goal.returns-clause-cleared
returns-clause-cleared g c = ok_gives c.undo.result c.undo.ensures.gone (λ gone.
    cleared_call c.args.self.now c.self.inside.chains c.undo.new.chains c.self.inside.size c.args.slot c.args.words c.min-size.result (g.M.CacheRam.state c.args.ram.now) (g.M.CacheRam.state c.undo.new.ram)
    (ap (λ (t : TableData). t.chains) c.self.view_is) (ap (λ (t : TableData). t.size) c.self.view_is) c.min-size.ensures
    gone c.undo.ensures.words c.requires.slot c.requires.some c.requires.long c.requires.inside)

pub returns-clause-number : goal.returns-clause-number
returns-clause-number g c = number_gives c.undo.result c.undo.ensures.number (λ n is.
    number_call c.args.self.now c.self.inside.chains c.self.inside.size c.args.slot c.args.words c.min-size.result n
    (ap (λ (t : TableData). t.chains) c.self.view_is) (ap (λ (t : TableData). t.size) c.self.view_is) c.min-size.ensures
    is c.requires.slot c.requires.some c.requires.long c.requires.inside)

pub returns-clause-failed : goal.returns-clause-failed
returns-clause-failed g c =
    subst (λ (n : ℕ). OnErr c.undo.result (FailedBelow n (g.M.CacheRam.state c.args.ram.now) (g.M.CacheRam.state c.undo.new.ram)))
    (words_are c.args.self.now _ (ap (λ (t : TableData). t.chains) c.self.view_is) c.requires.long) c.undo.ensures.failed

pub returns-clause-long : goal.returns-clause-long
returns-clause-long g c = same_length c.args.self.now _ _ (ap (λ (t : TableData). t.chains) c.self.view_is) c.undo.ensures.words
