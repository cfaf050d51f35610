use Rattle.std.proofs.Common.{ℕ, map, replicate, ap, sym, ◌∙◌}
use Rattle.swi_tally.specs.Tallies.{empty_of}
use Rattle.swi_tally.proofs.Siding.{seated_new}
use Rattle.swi_tally.proofs.tallies.Tallies.new.Goals as goal

pub invariant_of-result : goal.invariant_of-result
invariant_of-result c =
    seated_new c.args.exits c.args.frames.now c.in_ok-masks.masks.items c.in_ok-placed.placed.items c.set_of.result c.in_ok-caches.caches.items (c.in_ok-masks.ensures ∙ ap (λ (n : ℕ). replicate n 0) c.len.ensures.value)
    (c.in_ok-placed.ensures ∙ ap (λ (n : ℕ). replicate n 0) (sym c.requires.blocks)) (c.in_ok-caches.ensures ∙ ap (λ (n : ℕ). map (empty_of n) c.args.frames.now) (sym c.requires.blocks)) c.requires.caches c.set_of.ensures
