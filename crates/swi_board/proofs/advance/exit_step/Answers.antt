use Rattle.std.proofs.Common.{◌≡◌, ◌==◌, ℕ, Some, false, true, sym, ap, subst, ◌∙◌, arith}
use Rattle.swi_exec.specs.Arithmetic.{sum_of}
use Rattle.swi_board.specs.Reached.{ExitInRow}
use Rattle.swi_board.proofs.Going.{exit_made, fall_made, few_services, jal_exit, jal_lands, row_in, total_short}
use Rattle.swi_board.proofs.advance.exit_step.Goals as goal

pub index-requires : goal.index-requires
index-requires g c =
    let go = c.requires.going in
    let within = row_in g.met.R.CacheRom.laws go.begins go.turned go.some in
    let small = c.requires.small in
    omega (arith, within, small)

pub leave-there-requires-clause-services : goal.leave-there-requires-clause-services
leave-there-requires-clause-services g c =
    let go = c.requires.going in
    few_services g.met.R.CacheRom.laws go.begins go.turned go.some

pub leave-there-requires-clause-exit : goal.leave-there-requires-clause-exit
leave-there-requires-clause-exit g c =
    let go = c.requires.going in
    let exit = jal_exit g.met.R.CacheRom.laws go.begins go.turned go.some c.args.m.now c.requires.op c.requires.class c.requires.exit in
    subst (λ (n : ℕ). ExitInRow c.args.image.now (g.R.CacheRom.service.kept c.args.rom.now) c.args.at.now.row n) (sym c.index.ensures) exit

pub overflow_add-at : goal.overflow_add-at
overflow_add-at g c =
    let go = c.requires.going in
    let short = total_short g.met.R.CacheRom.laws go.begins go.turned go.some in
    omega (arith, short)

pub returns-then-is_marked-clause-turns : goal.returns-then-is_marked-clause-turns
returns-then-is_marked-clause-turns g c limit first b i =
    let marked : (c.args.m.now.rs1 == 1) ≡ true = sym c.is_marked.ensures ∙ c.if-is_marked.true in
    fall_made g.met.R.CacheRom.laws b i c.requires.going.some c.args.m.now c.requires.op c.requires.class
    c.index.result c.leave-there.new.rom (g.M.CacheRam.state c.leave-there.new.ram) c.leave-there.result c.from-at.result c.distance-at.result c.index.ensures c.leave-there.ensures.passed
    (c.from-at.ensures ∙ c.target.ensures)
    (ap (λ (n : ℕ). sum_of n c.distance-at.result) (c.from-at.ensures ∙ c.target.ensures ∙ sym c.target-2.ensures) ∙ c.distance-at.ensures) marked

pub returns-then-is_marked-clause-lands : goal.returns-then-is_marked-clause-lands
returns-then-is_marked-clause-lands g c =
    let go = c.requires.going in
    let at = jal_lands g.met.R.CacheRom.laws go.begins go.turned go.some c.args.m.now c.requires.op c.requires.class c.requires.exit in
    (at.0, at.1 ∙ ap (λ (n : ℕ). Some n) (sym (c.from-at.ensures ∙ c.target.ensures)))

pub returns-else-is_marked-clause-turns : goal.returns-else-is_marked-clause-turns
returns-else-is_marked-clause-turns g c limit first b i =
    let unmarked : (c.args.m.now.rs1 == 1) ≡ false = sym c.is_marked.ensures ∙ c.if-is_marked.false in
    exit_made g.met.R.CacheRom.laws b i c.requires.going.some c.args.m.now c.requires.op c.requires.class
    c.index.result c.leave-there.new.rom (g.M.CacheRam.state c.leave-there.new.ram) c.leave-there.result c.from-at.result c.distance-at.result c.index.ensures c.leave-there.ensures.passed
    (c.from-at.ensures ∙ c.target.ensures)
    (ap (λ (n : ℕ). sum_of n c.distance-at.result) (c.from-at.ensures ∙ c.target.ensures ∙ sym c.target-2.ensures) ∙ c.distance-at.ensures) c.requires.exit unmarked

pub returns-else-is_marked-clause-lands : goal.returns-else-is_marked-clause-lands
returns-else-is_marked-clause-lands g c =
    let go = c.requires.going in
    let at = jal_lands g.met.R.CacheRom.laws go.begins go.turned go.some c.args.m.now c.requires.op c.requires.class c.requires.exit in
    (at.0, at.1 ∙ ap (λ (n : ℕ). Some n) (sym (c.from-at.ensures ∙ c.target.ensures)))
