use Rattle.std.proofs.Common.{◌≡◌, ◌+◌, ◌%◌, ◌^◌, arith, ◌∙◌, ap, drop, get_or, length, rules}
use Rattle.swi_memory.specs.Bus.{Write, with_byte, with_bytes}
use Rattle.swi_memory.specs.Views.{areas}
use Rattle.swi_memory.specs.Laws.{holds_at}
use Rattle.swi_memory.proofs.Accesses.{with_bytes_more}
use Rattle.swi_memory.proofs.copies.copy_across.Goals as goal

pub loop-i-preserved : goal.loop-i-preserved
loop-i-preserved c =
    let small = holds_at (areas c.args.banks.now) Write c.args.a (length c.args.piece.now) c.loop-i.i (search rules) c.loop-i-test.true in
    let place : (c.args.a + c.loop-i.i) % 2 ^ 32 ≡ c.args.a + c.loop-i.i = omega (arith, small.0) in
    let put : areas c.write_byte.new.banks ≡ with_byte (areas c.loop-i.banks) (c.args.a + c.loop-i.i) (get_or c.args.piece.now c.loop-i.i 0) = c.write_byte.ensures.value ∙ ap (λ x. with_byte (areas c.loop-i.banks) x (get_or c.args.piece.now c.loop-i.i 0)) place in
    record {
      order = c.write_byte.ensures.order;
      left =
          ap (λ m. with_bytes m (c.args.a + (c.loop-i.i + 1)) (drop (c.loop-i.i + 1) c.args.piece.now)) put
          ∙ with_bytes_more (areas c.loop-i.banks) c.args.a c.loop-i.i c.args.piece.now c.loop-i-test.true
          ∙ c.loop-i.invariant.left;
    }
