use Rattle.std.proofs.Common.{◌≡◌, get_or, [], ◌∷◌, arith, refl}
use Rattle.std.proofs.lemmas.List.{get_or_default}
use Rattle.swi_memory.specs.declared.bank.Bank.{Bank}
use Rattle.swi_memory.specs.Views.{areas}
use Rattle.swi_memory.proofs.Accesses.{put_found}
use Rattle.swi_memory.proofs.Looks.{place_of}
use Rattle.swi_memory.proofs.Written.{order-with_byte}
use Rattle.swi_memory.proofs.stores.write_byte.Goals as goal

pub returns-in-Some-clause-value : goal.returns-in-Some-clause-value
returns-in-Some-clause-value c =
    let old : Bank = get_or c.args.banks.now c.in-Some.i c.index-banks-i.result in
    let is : old ≡ get_or c.args.banks.now c.in-Some.i old = get_or_default c.args.banks.now c.in-Some.i c.index-banks-i.result old c.in-Some.ensures.0 in
    let at = place_of c.args.banks.now c.in-Some.i old c.args.a c.in-Some.ensures is in
    put_found c.args.banks.now c.in-Some.i old _ c.args.a (c.args.b ∷ []) c.requires c.in-Some.ensures is (omega (arith, at.from, at.end)) refl

pub returns-in-Some-clause-order : goal.returns-in-Some-clause-order
returns-in-Some-clause-order c = rw (returns-in-Some-clause-value c) (order-with_byte 0 (areas c.args.banks.now) c.args.a c.args.b c.requires)
