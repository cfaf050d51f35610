use Rattle.std.proofs.Common.{◌≡◌, ◌+◌, ℕ, false, true, sym, ap, subst, ◌∙◌, arith, rules}
use Rattle.swi_exec.specs.Arithmetic.{sum_of}
use Rattle.swi_micro.specs.declared.class.Class.{Class}
use Rattle.swi_image_ops.proofs.Strides.{comparison_of}
use Rattle.swi_board.specs.Reached.{ExitInRow}
use Rattle.swi_board.proofs.Going.{at_inside, branch_exit, branch_passed, branch_taken, compared, few_services, row_in, total_short}
use Rattle.swi_board.proofs.advance.branch_step.Goals as goal

pub index-requires : goal.index-requires
index-requires g c =
    let go = c.requires.going in
    let within = row_in g.met.R.CacheRom.laws go.begins go.turned go.some in
    let small = c.requires.small in
    omega (arith, within, small)

pub fetch-requires-clause-inside : goal.fetch-requires-clause-inside
fetch-requires-clause-inside g c =
    let go = c.requires.going in
    let inside = at_inside g.met.R.CacheRom.laws go.begins go.turned go.some in
    let is = c.index.ensures in
    omega (arith, inside, is)

pub overflow_add-at : goal.overflow_add-at
overflow_add-at g c =
    let go = c.requires.going in
    let within = row_in g.met.R.CacheRom.laws go.begins go.turned go.some in
    let small = c.requires.small in
    omega (arith, within, small)

pub returns-then-not-goes_by-clause-turns : goal.returns-then-not-goes_by-clause-turns
returns-then-not-goes_by-clause-turns g c limit first b i =
    let by = compared c.args.class c.goes_by.result c.args.m.now c.args.machine.now.regs c.requires.compares c.goes_by.ensures.equal c.goes_by.ensures.less c.goes_by.ensures.below in
    let stays : c.goes_by.result ≡ false = search rules in
    branch_passed g.met.R.CacheRom.laws b i c.requires.going.some c.args.m.now by.0 c.requires.op (ap (λ (d : Class). comparison_of d) (sym c.requires.class) ∙ by.1)
    c.index.result (g.M.CacheRam.state c.fetch.new.ram) (sym by.2 ∙ stays) c.index.ensures c.fetch.ensures.ram

pub overflow_add-exit : goal.overflow_add-exit
overflow_add-exit g c =
    let go = c.requires.going in
    let within = row_in g.met.R.CacheRom.laws go.begins go.turned go.some in
    let small = c.requires.small in
    omega (arith, within, small)

pub index-requires-2 : goal.index-requires-2
index-requires-2 g c =
    let go = c.requires.going in
    let within = row_in g.met.R.CacheRom.laws go.begins go.turned go.some in
    let small = c.requires.small in
    omega (arith, within, small)

pub leave-there-requires-clause-services : goal.leave-there-requires-clause-services
leave-there-requires-clause-services g c =
    let go = c.requires.going in
    few_services g.met.R.CacheRom.laws go.begins go.turned go.some

pub leave-there-requires-clause-exit : goal.leave-there-requires-clause-exit
leave-there-requires-clause-exit g c =
    let go = c.requires.going in
    let by = compared c.args.class c.goes_by.result c.args.m.now c.args.machine.now.regs c.requires.compares c.goes_by.ensures.equal c.goes_by.ensures.less c.goes_by.ensures.below in
    let exit = branch_exit g.met.R.CacheRom.laws go.begins go.turned go.some c.args.m.now by.0 c.requires.op (ap (λ (d : Class). comparison_of d) (sym c.requires.class) ∙ by.1) in
    subst (λ (n : ℕ). ExitInRow c.args.image.now (g.R.CacheRom.service.kept c.args.rom.now) (c.args.at.now.row + 1) n) (sym c.index-2.ensures) exit

pub overflow_add-at-2 : goal.overflow_add-at-2
overflow_add-at-2 g c =
    let go = c.requires.going in
    let short = total_short g.met.R.CacheRom.laws go.begins go.turned go.some in
    omega (arith, short)

pub returns-clause-turns : goal.returns-clause-turns
returns-clause-turns g c limit first b i =
    let by = compared c.args.class c.goes_by.result c.args.m.now c.args.machine.now.regs c.requires.compares c.goes_by.ensures.equal c.goes_by.ensures.less c.goes_by.ensures.below in
    let goes : c.goes_by.result ≡ true = search rules in
    branch_taken g.met.R.CacheRom.laws b i c.requires.going.some c.args.m.now by.0 c.requires.op (ap (λ (d : Class). comparison_of d) (sym c.requires.class) ∙ by.1)
    c.index.result c.index-2.result (g.M.CacheRam.state c.fetch.new.ram) (sym by.2 ∙ goes) c.index.ensures c.fetch.ensures.ram c.index-2.ensures
    c.leave-there.new.rom (g.M.CacheRam.state c.leave-there.new.ram) c.leave-there.result _ c.distance-at.result c.leave-there.ensures.passed
    (c.from-at.ensures ∙ c.target.ensures)
    (ap (λ (n : ℕ). sum_of n c.distance-at.result) (c.from-at.ensures ∙ c.target.ensures ∙ sym c.target-2.ensures) ∙ c.distance-at.ensures)
