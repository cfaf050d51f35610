use Rattle.std.proofs.Common.{ℕ, length, sym, ap, ◌∙◌, arith}
use Rattle.swi_outside.specs.CacheRam.{RamState}
use Rattle.swi_exec.specs.Registers.{with_reg}
use Rattle.swi_board.proofs.Going.{at_inside, pair_inside, pair_made, row_in, total_short, upper_made}
use Rattle.swi_board.proofs.advance.upper_step.Goals as goal

pub index-requires : goal.index-requires
index-requires g c =
    let go = c.requires.going in
    let within = row_in g.met.R.CacheRom.laws go.begins go.turned go.some in
    let small = c.requires.small in
    omega (arith, within, small)

pub fetch-requires-clause-inside : goal.fetch-requires-clause-inside
fetch-requires-clause-inside g c =
    let go = c.requires.going in
    let inside = at_inside g.met.R.CacheRom.laws go.begins go.turned go.some in
    let is = c.index.ensures in
    omega (arith, inside, is)

pub overflow_add-at : goal.overflow_add-at
overflow_add-at g c =
    let go = c.requires.going in
    let within = row_in g.met.R.CacheRom.laws go.begins go.turned go.some in
    let small = c.requires.small in
    omega (arith, within, small)

pub index-requires-then-is_marked : goal.index-requires-then-is_marked
index-requires-then-is_marked g c =
    let go = c.requires.going in
    let within = row_in g.met.R.CacheRom.laws go.begins go.turned go.some in
    let small = c.requires.small in
    omega (arith, within, small)

pub fetch-requires-then-is_marked-clause-inside : goal.fetch-requires-then-is_marked-clause-inside
fetch-requires-then-is_marked-clause-inside g c =
    let go = c.requires.going in
    let inside = pair_inside g.met.R.CacheRom.laws go.begins go.turned go.some c.args.m.now c.requires.op c.requires.class (sym c.is_marked.ensures ∙ c.if-is_marked.true) in
    let is = c.index-then-is_marked.ensures in
    let same = ap (λ (r : RamState). length r.words) c.fetch.ensures.ram in
    omega (arith, inside, is, same)

pub overflow_add-at-then-is_marked : goal.overflow_add-at-then-is_marked
overflow_add-at-then-is_marked g c =
    let go = c.requires.going in
    let within = row_in g.met.R.CacheRom.laws go.begins go.turned go.some in
    let small = c.requires.small in
    omega (arith, within, small)

pub overflow_add-at-then-is_marked-2 : goal.overflow_add-at-then-is_marked-2
overflow_add-at-then-is_marked-2 g c =
    let go = c.requires.going in
    let short = total_short g.met.R.CacheRom.laws go.begins go.turned go.some in
    omega (arith, short)

pub returns-then-is_marked-clause-turns : goal.returns-then-is_marked-clause-turns
returns-then-is_marked-clause-turns g c limit first b i =
    pair_made g.met.R.CacheRom.laws b i c.requires.going.some c.args.m.now c.requires.op c.requires.class (sym c.is_marked.ensures ∙ c.if-is_marked.true) c.put.new.self
    (c.put.ensures ∙ ap (λ (n : ℕ). with_reg c.args.machine.now.regs n c.target.result) c.rd.ensures ∙ ap (λ (n : ℕ). with_reg c.args.machine.now.regs c.args.m.now.rd n) c.target.ensures)
    c.index.result c.index-then-is_marked.result (g.M.CacheRam.state c.fetch.new.ram) (g.M.CacheRam.state c.fetch-then-is_marked.new.ram)
    c.index.ensures c.fetch.ensures.ram c.index-then-is_marked.ensures c.fetch-then-is_marked.ensures.ram

pub returns-else-is_marked-clause-turns : goal.returns-else-is_marked-clause-turns
returns-else-is_marked-clause-turns g c limit first b i =
    upper_made g.met.R.CacheRom.laws b i c.requires.going.some c.args.m.now c.requires.op c.requires.class (sym c.is_marked.ensures ∙ c.if-is_marked.false) c.put.new.self
    (c.put.ensures ∙ ap (λ (n : ℕ). with_reg c.args.machine.now.regs n c.target.result) c.rd.ensures ∙ ap (λ (n : ℕ). with_reg c.args.machine.now.regs c.args.m.now.rd n) c.target.ensures)
    c.index.result (g.M.CacheRam.state c.fetch.new.ram) c.index.ensures c.fetch.ensures.ram
