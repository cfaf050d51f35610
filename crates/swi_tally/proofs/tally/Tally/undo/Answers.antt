use Rattle.std.proofs.Common.{length, slice_index_or, true, arith, ap, sym, ◌∙◌}
use Rattle.std.proofs.lemmas.List.{get_or_read}
use Rattle.swi_tally.specs.Tally.{TallyData}
use Rattle.swi_tally.proofs.Grouping.{none_held}
use Rattle.swi_tally.proofs.tally.Tally.undo.Goals as goal

pub returns-else-index-clause-count : goal.returns-else-index-clause-count
returns-else-index-clause-count c =
    let within = ap (λ (s : TallyData). length s.led) c.self.view_is in
    let read = get_or_read _ c.args.block _ (omega (arith, c.requires.led, within)) c.index.ensures true in
    sym (none_held _ _ _ _ _ (c.requires.none (sym (ap (λ (s : TallyData). slice_index_or s.led c.args.block true) c.self.view_is) ∙ sym read ∙ c.if-index.false)) (omega arith))
