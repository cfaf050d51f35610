use Rattle.std.proofs.Common.{ℕ, arith, sym, subst}
use Rattle.swi_ring.specs.Ring.{Ring}
use Rattle.swi_ring.specs.Sound.{RingSound}
use Rattle.swi_ring.specs.Steps.{Arrived, counted_ring}
use Rattle.swi_ring.proofs.Placing.{counted_sound, counted_alone, hit_arrived}
use Rattle.swi_ring.proofs.Crossing.{place_block, index_fits, absent_target, found_target, visited}
use Rattle.swi_ring.proofs.ring.RingRomCacheRom.revisit.Goals as goal

pub returns-in_err-first-clause-absent : goal.returns-in_err-first-clause-absent
returns-in_err-first-clause-absent g c = λ none i at. absent_target _ _ _ _ _ i (sym c.in_ok-block.ensures.place) c.in_err-first.ensures at

pub overflow_add-result : goal.overflow_add-result
overflow_add-result g c =
    let q = (place_block _ _ _ _ _ c.requires.sound c.in_ok-block.ensures.place).1 in
    let a = g.M.CacheRam.state c.args._ram.now in
    let s = c.args.self.now in
    let hit = subst (λ (f : ℕ). Arrived c.args.image.now s c.in_ok-block.block f (counted_ring s) a a) c.in_ok-first.ensures.1 (hit_arrived c.args.image.now s c.in_ok-block.block a c.requires.sound c.in_ok-first.ensures.0) in
    omega (arith, index_fits c.args.image.now s (counted_ring s) c.in_ok-block.block c.in_ok-block.offset c.in_ok-first.first a a c.requires.sound hit q)

pub returns-clause-served : goal.returns-clause-served
returns-clause-served g c =
    visited _ _ _ _ _ (g.M.CacheRam.state c.args._ram.now) c.count_near.ensures c.requires.sound
    (found_target _ _ _ _ _ _ (sym c.in_ok-block.ensures.place) c.in_ok-first.ensures.0 c.in_ok-first.ensures.1)

pub returns-clause-stays : goal.returns-clause-stays
returns-clause-stays g c =
    subst (λ (s : Ring). RingSound s c.args.image.now (g.M.CacheRam.state c.args._ram.now).words) (sym c.count_near.ensures) (counted_sound _ _ _ c.requires.sound)

pub returns-clause-placed : goal.returns-clause-placed
returns-clause-placed g c = found_target _ _ _ _ _ _ (sym c.in_ok-block.ensures.place) c.in_ok-first.ensures.0 c.in_ok-first.ensures.1

pub returns-clause-keeps : goal.returns-clause-keeps
returns-clause-keeps g c = λ images serves.
    subst (λ (s : Ring). RingSound s c.args.image.now (g.M.CacheRam.state c.args._ram.now).words) (sym c.count_near.ensures) (counted_sound _ _ _ c.requires.sound)

pub returns-clause-counted : goal.returns-clause-counted
returns-clause-counted g c = counted_alone _ _ c.count_near.ensures
