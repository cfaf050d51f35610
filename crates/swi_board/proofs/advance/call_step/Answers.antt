use Rattle.std.proofs.Common.{◌+◌, ℕ, length, sym, ap, subst, ◌∙◌, arith}
use Rattle.swi_exec.specs.Arithmetic.{sum_of}
use Rattle.swi_exec.specs.Registers.{with_reg}
use Rattle.swi_outside.specs.CacheRam.{RamState}
use Rattle.swi_board.specs.Reached.{ExitInRow}
use Rattle.swi_board.proofs.Going.{at_inside, call_exit, call_made, few_services, middle_inside, row_in, total_short}
use Rattle.swi_board.proofs.advance.call_step.Goals as goal

pub index-requires : goal.index-requires
index-requires g c =
    let go = c.requires.going in
    let within = row_in g.met.R.CacheRom.laws go.begins go.turned go.some in
    let small = c.requires.small in
    omega (arith, within, small)

pub fetch-requires-clause-inside : goal.fetch-requires-clause-inside
fetch-requires-clause-inside g c =
    let go = c.requires.going in
    let inside = at_inside g.met.R.CacheRom.laws go.begins go.turned go.some in
    let is = c.index.ensures in
    omega (arith, inside, is)

pub overflow_add-at : goal.overflow_add-at
overflow_add-at g c =
    let go = c.requires.going in
    let within = row_in g.met.R.CacheRom.laws go.begins go.turned go.some in
    let small = c.requires.small in
    omega (arith, within, small)

pub index-requires-2 : goal.index-requires-2
index-requires-2 g c =
    let go = c.requires.going in
    let within = row_in g.met.R.CacheRom.laws go.begins go.turned go.some in
    let small = c.requires.small in
    omega (arith, within, small)

pub fetch-requires-2-clause-inside : goal.fetch-requires-2-clause-inside
fetch-requires-2-clause-inside g c =
    let go = c.requires.going in
    let inside = middle_inside g.met.R.CacheRom.laws go.begins go.turned go.some c.args.m.now c.requires.op c.requires.class c.requires.keeps c.args.exit.now c.requires.exit c.requires.leaves in
    let is = c.index-2.ensures in
    let same = ap (λ (r : RamState). length r.words) c.fetch.ensures.ram in
    omega (arith, inside, is, same)

pub overflow_add-last : goal.overflow_add-last
overflow_add-last g c =
    let go = c.requires.going in
    let within = row_in g.met.R.CacheRom.laws go.begins go.turned go.some in
    let small = c.requires.small in
    omega (arith, within, small)

pub index-requires-3 : goal.index-requires-3
index-requires-3 g c =
    let go = c.requires.going in
    let within = row_in g.met.R.CacheRom.laws go.begins go.turned go.some in
    let small = c.requires.small in
    omega (arith, within, small)

pub leave-there-requires-clause-services : goal.leave-there-requires-clause-services
leave-there-requires-clause-services g c =
    let go = c.requires.going in
    few_services g.met.R.CacheRom.laws go.begins go.turned go.some

pub leave-there-requires-clause-exit : goal.leave-there-requires-clause-exit
leave-there-requires-clause-exit g c =
    let go = c.requires.going in
    let exit = call_exit g.met.R.CacheRom.laws go.begins go.turned go.some c.args.m.now c.requires.op c.requires.class c.requires.keeps c.args.exit.now c.requires.exit c.requires.leaves in
    subst (λ (n : ℕ). ExitInRow c.args.image.now (g.R.CacheRom.service.kept c.args.rom.now) (c.args.at.now.row + 2) n) (sym c.index-3.ensures) exit

pub overflow_add-at-2 : goal.overflow_add-at-2
overflow_add-at-2 g c =
    let go = c.requires.going in
    let short = total_short g.met.R.CacheRom.laws go.begins go.turned go.some in
    omega (arith, short)

pub returns-clause-turns : goal.returns-clause-turns
returns-clause-turns g c limit first b i =
    call_made g.met.R.CacheRom.laws b i c.requires.going.some c.args.m.now c.requires.op c.requires.class c.requires.keeps c.args.exit.now c.requires.exit c.requires.leaves
    c.index.result c.index-2.result c.index-3.result (g.M.CacheRam.state c.fetch.new.ram) (g.M.CacheRam.state c.fetch-2.new.ram)
    c.index.ensures c.fetch.ensures.ram c.index-2.ensures c.fetch-2.ensures.ram c.index-3.ensures c.put.new.self
    (c.put.ensures ∙ ap (λ (n : ℕ). with_reg c.args.machine.now.regs n c.target.result) c.rd.ensures ∙ ap (λ (n : ℕ). with_reg c.args.machine.now.regs c.args.m.now.rd n) c.target.ensures)
    c.leave-there.new.rom (g.M.CacheRam.state c.leave-there.new.ram) c.leave-there.result c.from-at.result c.distance-at.result c.leave-there.ensures.passed
    (c.from-at.ensures ∙ c.target-2.ensures)
    (ap (λ (n : ℕ). sum_of n c.distance-at.result) (c.from-at.ensures ∙ c.target-2.ensures ∙ sym c.target-3.ensures) ∙ c.distance-at.ensures)
