use Rattle.std.proofs.Common.{◌≡◌, ◌-◌, ◌≤◌, List, ℕ, length, take, drop, ap, arith, ◌∙◌}
use Rattle.std.proofs.lemmas.List.{take_all}
use Rattle.swi_memory.proofs.Accesses.{rest_is}
use Rattle.swi_memory.proofs.Fronts.{front_is}
use Rattle.swi_memory.proofs.ranges.front.Goals as goal

pub returns-then-most-rest : goal.returns-then-most-rest
returns-then-most-rest c =
    rw (rest_is c.deref.result.now (c.args.a - c.index-banks-i.result.base), c.deref.ensures.value)
    (front_is c.args.banks.now c.in-Some.i c.index-banks-i.result c.args.a c.args.n c.requires.order c.in-Some.ensures c.index-banks-i.is c.requires.some)

pub returns-else-most-rest : goal.returns-else-most-rest
returns-else-most-rest c =
    let at : ℕ = c.args.a - c.index-banks-i.result.base in
    let rest : List ℕ = drop at c.index-banks-i.result.bytes.items in
    let is : take (length c.deref.result.now - at) (drop at c.deref.result.now) ≡ rest = rest_is c.deref.result.now at ∙ ap (drop at) c.deref.ensures.value in
    let short : length rest ≤ c.args.n = omega (arith, c.if-most-rest.false, ap length is) in
    rw (is, ← take_all c.args.n rest short)
    (front_is c.args.banks.now c.in-Some.i c.index-banks-i.result c.args.a c.args.n c.requires.order c.in-Some.ensures c.index-banks-i.is c.requires.some)
