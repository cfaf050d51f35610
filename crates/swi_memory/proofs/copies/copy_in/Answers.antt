use Rattle.std.proofs.Common.{◌≡◌, ℕ, get_or, length, ap, sym, arith, ◌∙◌, ◌-◌, ◌≤◌, rules}
use Rattle.std.specs.Vec.{with_items}
use Rattle.std.proofs.lemmas.List.{get_or_default, set-get_or, with_items_is}
use Rattle.std.proofs.lemmas.List.Edits.{sets, sets-eq}
use Rattle.swi_memory.specs.declared.bank.Bank.{Bank}
use Rattle.swi_memory.specs.Bus.{Write}
use Rattle.swi_memory.specs.Views.{area, areas}
use Rattle.swi_memory.proofs.Accesses.{holds_denied, holds_within, put_found, range_of}
use Rattle.swi_memory.proofs.Looks.{place_of}
use Rattle.swi_memory.proofs.copies.copy_in.Goals as goal

pub returns-then-grants : goal.returns-then-grants
returns-then-grants c =
    let old : Bank = get_or c.args.banks.now c.in-Some.i c.index-banks-i.result in
    let is : old ≡ get_or c.args.banks.now c.in-Some.i old = get_or_default c.args.banks.now c.in-Some.i c.index-banks-i.result old c.in-Some.ensures.0 in
    let from = place_of c.args.banks.now c.in-Some.i old c.args.a c.in-Some.ensures is in
    let at : ℕ = c.args.a - old.base in
    let value = ap length c.deref_mut.ensures.value in
    let room : length c.args.piece.now ≤ length old.bytes.items - at = omega (arith, value) in
    let bytes : c.put_piece.new.bytes ≡ sets old.bytes.items at c.args.piece.now =
    c.put_piece.ensures ∙ sym (sets-eq c.args.piece.now c.deref_mut.result.now at (omega (arith, from.from, from.end, value))) ∙ ap (λ xs. sets xs at c.args.piece.now) c.deref_mut.ensures.value in
    let same : length c.put_piece.new.bytes ≡ old.bytes.len = omega (arith, value, c.put_piece.auto.bytes, old.bytes.ok.0) in
    record {
      granted = holds_within (areas c.args.banks.now) c.in-Some.i (area old) Write c.args.a (length c.args.piece.now)
          (range_of c.args.banks.now c.in-Some.i old c.args.a (length c.args.piece.now) c.requires.order c.in-Some.ensures is room) (search rules);
      bytes =
          put_found c.args.banks.now c.in-Some.i old (record old { bytes = with_items old.bytes c.put_piece.new.bytes }) c.args.a c.args.piece.now c.requires.order c.in-Some.ensures is room
          (ap (λ xs. record (area old) { bytes = xs }) (with_items_is old.bytes c.put_piece.new.bytes same ∙ bytes));
    }

pub returns-else-grants : goal.returns-else-grants
returns-else-grants c =
    let old : Bank = get_or c.args.banks.now c.in-Some.i c.index-banks-i.result in
    let is : old ≡ get_or c.args.banks.now c.in-Some.i old = get_or_default c.args.banks.now c.in-Some.i c.index-banks-i.result old c.in-Some.ensures.0 in
    record {
      denied = holds_denied c.args.banks.now c.in-Some.i old Write c.args.a (length c.args.piece.now) c.requires.order c.in-Some.ensures is (search rules) (search rules);
      unchanged = ap areas (set-get_or c.args.banks.now c.in-Some.i c.index-banks-i.result);
    }
