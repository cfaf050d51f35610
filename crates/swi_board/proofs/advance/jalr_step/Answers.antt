use Rattle.std.proofs.Common.{◌≡◌, ◌==◌, ◌+◌, ◌*◌, ◌/◌, ◌^◌, ◌<◌, ℕ, Some, true, refl, sym, ap, ◌∙◌, arith}
use Rattle.swi_exec.specs.Arithmetic.{sum_of}
use Rattle.swi_exec.specs.Execute.{address_of}
use Rattle.swi_exec.specs.Registers.{reg, with_reg}
use Rattle.swi_image.specs.Place.{word_at}
use Rattle.swi_board.proofs.Going.{at_inside, few_services, kept_zero, link_at, link_inside, return_made, row_in}
use Rattle.swi_board.proofs.advance.jalr_step.Goals as goal
use Rattle.swi_board.proofs.advance.jalr_step.Goals.{then-not-writes_x0, else-not-writes_x0}

pub index-requires : goal.index-requires
index-requires g c =
    let go = c.requires.going in
    let within = row_in g.met.R.CacheRom.laws go.begins go.turned go.some in
    let small = c.requires.small in
    omega (arith, within, small)

pub jump-requires-clause-services : goal.jump-requires-clause-services
jump-requires-clause-services g c =
    let go = c.requires.going in
    few_services g.met.R.CacheRom.laws go.begins go.turned go.some

pub jump-requires-clause-inside : goal.jump-requires-clause-inside
jump-requires-clause-inside g c =
    let go = c.requires.going in
    let inside = at_inside g.met.R.CacheRom.laws go.begins go.turned go.some in
    let is = c.index.ensures in
    omega (arith, inside, is)

pub overflow_cast-at : goal.overflow_cast-at
overflow_cast-at g c =
    let go = c.requires.going in
    let within = row_in g.met.R.CacheRom.laws go.begins go.turned go.some in
    let small = c.requires.small in
    omega (arith, within, small)

pub overflow_add-at : goal.overflow_add-at
overflow_add-at g c =
    let go = c.requires.going in
    let within = row_in g.met.R.CacheRom.laws go.begins go.turned go.some in
    let small = c.requires.small in
    omega (arith, within, small)

pub word_in_row-requires : goal.word_in_row-requires
word_in_row-requires g c =
    let go = c.requires.going in
    link_inside g.met.R.CacheRom.laws go.begins go.turned go.some c.args.m.now c.requires.op c.requires.class

pub returns-clause-turns : goal.returns-clause-turns
returns-clause-turns g c _ limit first b i =
    let regs = c.args.machine.now.regs in
    let m = c.args.m.now in
    let made = c.register_target-target.ensures in
    let a_is : c.register_target-target.result ≡ address_of regs m.rs1 m.imm / 2 * 2 =
    made ∙ ap (λ (n : ℕ). sum_of n c.target.result / 2 * 2) (c.get.ensures ∙ ap (λ (n : ℕ). reg regs n) c.rs1.ensures) ∙ ap (λ (n : ℕ). sum_of (reg regs m.rs1) n / 2 * 2) c.target.ensures in
    let short : c.register_target-target.result < 2 ^ 32 = omega (arith, made) in
    let row_is = c.in-Some.ensures.row ∙ ap (λ (n : ℕ). Some n) (sym c.from-at.ensures) in
    let lands = ap (λ (n : ℕ). sum_of n c.distance-at.result) c.from-at.ensures ∙ c.distance-at.ensures in
    elim c.if-not-writes_x0.branch [
      | then-not-writes_x0 w ↦
          let word_is = link_at g.met.R.CacheRom.laws b i c.requires.going.some m c.requires.op c.requires.class w.word_in_row.result (c.args.at.now.row + 2) refl w.word_in_row.ensures in
          let regs_is : w.put.new.self ≡ with_reg regs m.rd (word_at c.args.image.now i.at.block (i.at.offset + 2)) =
          w.put.ensures ∙ ap (λ (n : ℕ). with_reg regs n w.word_in_row.result) w.rd.ensures ∙ ap (λ (n : ℕ). with_reg regs m.rd n) word_is in
          rw w.machine-is (return_made g.met.R.CacheRom.laws b i c.requires.going.some m c.requires.op c.requires.class c.register_target-target.result c.index.result w.put.new.self c.jump.new.rom (g.M.CacheRam.state c.jump.new.ram) c.in-Some.found.index c.from-at.result c.distance-at.result
          a_is c.in-Some.ensures.aligned short row_is regs_is c.index.ensures c.in-Some.ensures.jumped lands)
      | else-not-writes_x0 w ↦
          let zero : (m.rd == 0) ≡ true = sym c.writes_x0.ensures ∙ w.if-not-writes_x0.false in
          let regs_is : regs ≡ with_reg regs m.rd (word_at c.args.image.now i.at.block (i.at.offset + 2)) = kept_zero regs m.rd (word_at c.args.image.now i.at.block (i.at.offset + 2)) zero in
          rw w.machine-is (return_made g.met.R.CacheRom.laws b i c.requires.going.some m c.requires.op c.requires.class c.register_target-target.result c.index.result regs c.jump.new.rom (g.M.CacheRam.state c.jump.new.ram) c.in-Some.found.index c.from-at.result c.distance-at.result
          a_is c.in-Some.ensures.aligned short row_is regs_is c.index.ensures c.in-Some.ensures.jumped lands)
    ]

pub returns-clause-bus : goal.returns-clause-bus
returns-clause-bus g c = elim c.if-not-writes_x0.branch [
  | then-not-writes_x0 w ↦ rw w.machine-is refl
  | else-not-writes_x0 w ↦ rw w.machine-is refl
]
