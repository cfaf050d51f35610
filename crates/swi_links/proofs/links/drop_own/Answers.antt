use Rattle.std.proofs.Common.{arith}
use Rattle.swi_links.proofs.Leaving.{released_start, released_next, released_end}
use Rattle.swi_links.proofs.links.drop_own.Goals as goal

pub loop-at-init : goal.loop-at-init
loop-at-init c = (omega arith, omega arith, released_start _ _)

pub unlink-requires : goal.unlink-requires
unlink-requires c = record { at = c.in-Some.ensures.linked }

pub loop-at-preserved : goal.loop-at-preserved
loop-at-preserved c =
    let i = c.loop-at.invariant in
    let within = c.in-Some.ensures.within in
    (omega (arith, i.0, within.0), omega (arith, within.1), released_next _ _ _ _ _ _ i.0 within.0 i.2 c.in-Some.ensures.free c.unlink.ensures)

pub returns : goal.returns
returns c =
    let i = c.loop-at.invariant in
    released_end _ _ _ _ _ i.0 i.1 i.2 c.in_default.ensures.free
