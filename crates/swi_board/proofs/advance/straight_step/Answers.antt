use Rattle.std.proofs.Common.{sym, ◌∙◌, arith}
use Rattle.swi_board.proofs.Going.{at_inside, row_in, straight_made}
use Rattle.swi_board.proofs.advance.straight_step.Goals as goal

pub step_as-requires : goal.step_as-requires
step_as-requires g c =
    let go = c.requires.going in
    let within = row_in g.met.R.CacheRom.laws go.begins go.turned go.some in
    let small = c.requires.small in
    omega (arith, within, small)

pub index-requires : goal.index-requires
index-requires g c =
    let go = c.requires.going in
    let within = row_in g.met.R.CacheRom.laws go.begins go.turned go.some in
    let small = c.requires.small in
    omega (arith, within, small)

pub fetch-requires : goal.fetch-requires
fetch-requires g c =
    let go = c.requires.going in
    let inside = at_inside g.met.R.CacheRom.laws go.begins go.turned go.some in
    let is = c.index.ensures in
    record { steady = c.requires.steady; inside = omega (arith, inside, is) }

pub returns-clause-turns : goal.returns-clause-turns
returns-clause-turns g c _ limit first b i =
    straight_made g.met.R.CacheRom.laws b i c.requires.going.some c.args.m.now c.requires.op c.args.class (sym c.requires.class) c.requires.straight c.requires.other
    (record { from = 0; words = 0 }) c.in-Some.next (sym c.step_as.ensures.next ∙ c.in-Some.is) c.step_as.new.regs c.step_as.new.bus c.step_as.ensures.regs c.step_as.ensures.bus
    c.index.result (g.M.CacheRam.state c.fetch.new.ram) c.index.ensures c.fetch.ensures.ram
