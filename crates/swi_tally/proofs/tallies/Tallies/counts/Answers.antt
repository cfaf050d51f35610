use Rattle.std.proofs.Common.{ℕ, ◌+◌, ◌-◌, ap, ◌∙◌}
use Rattle.swi_rom.specs.declared.rom.Counts.{Counts}
use Rattle.swi_tally.specs.declared.tallies.Seat.{Seat}
use Rattle.swi_tally.specs.Tallies.{TalliesData, told}
use Rattle.swi_tally.proofs.Siding.{cache_call, counts_call}
use Rattle.swi_tally.proofs.tallies.Tallies.counts.Goals as goal

pub returns : goal.returns
returns c =
    let t : TalliesData = c.args.self.now in
    let s : Seat = c.index-seat.result.now in
    counts_call t c.args.k s _ (cache_call t _ c.args.k s (ap (λ (q : TalliesData). q.caches) c.self.view_is) c.requires c.index-seat.ensures)
    (ap (λ (q : Counts). let r : Counts = record q { services = q.services + (c.self.inside.jumps - s.jumps) } in r) c.counts-counts.ensures
    ∙ ap (λ (n : ℕ). (told n s).counts) (ap (λ (q : TalliesData). q.jumps) c.self.view_is))
