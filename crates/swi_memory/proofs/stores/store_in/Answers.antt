use Rattle.std.proofs.Common.{◌≡◌, ◌-◌, ◌≤◌, get_or, length, ap, arith, ◌∙◌}
use Rattle.std.specs.Vec.{with_items}
use Rattle.std.proofs.lemmas.List.{get_or_default, with_items_is}
use Rattle.std.proofs.lemmas.List.Edits.{sets}
use Rattle.swi_memory.specs.declared.bank.Bank.{Bank}
use Rattle.swi_memory.specs.Bus.{Write, lowest}
use Rattle.swi_memory.specs.Laws.{length-lowest}
use Rattle.swi_memory.specs.Views.{area, areas}
use Rattle.swi_memory.proofs.Accesses.{holds_within, put_found, range_of}
use Rattle.swi_memory.proofs.stores.store_in.Goals as goal

pub returns : goal.returns
returns c =
    let here : Bank = c.index-banks-place.result in
    let old : Bank = get_or c.args.banks.now c.args.place here in
    let found = c.requires.here.found in
    let room : c.args.k ≤ length old.bytes.items - (c.args.a - old.base) = c.requires.here.room here in
    let is : old ≡ get_or c.args.banks.now c.args.place old = get_or_default c.args.banks.now c.args.place here old found.0 in
    let piece = lowest c.args.k c.args.v in
    let bytes : c.put.new.bytes ≡ sets old.bytes.items (c.args.a - old.base) piece = c.put.ensures ∙ ap (λ xs. sets xs (c.args.a - old.base) piece) c.deref_mut.ensures.value in
    let same : length c.put.new.bytes ≡ old.bytes.len = omega (arith, ap length c.deref_mut.ensures.value, c.put.auto.bytes, old.bytes.ok.0) in
    record {
      granted = holds_within (areas c.args.banks.now) c.args.place (area old) Write c.args.a c.args.k (range_of c.args.banks.now c.args.place old c.args.a c.args.k c.requires.order found is room) (c.requires.here.granted here);
      bytes =
          put_found c.args.banks.now c.args.place old (record old { bytes = with_items old.bytes c.put.new.bytes }) c.args.a piece c.requires.order found is (rw length-lowest room)
          (ap (λ xs. record (area old) { bytes = xs }) (with_items_is old.bytes c.put.new.bytes same ∙ bytes));
    }
