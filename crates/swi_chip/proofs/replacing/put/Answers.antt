use Rattle.std.proofs.Common.{◌/◌, ℕ, Option, arith, inl, inr, refl, subst}
use Rattle.std.proofs.lemmas.List.{length-set}
use Rattle.swi_slots.specs.Slots.{kept_by}
use Rattle.swi_chip.specs.Service.{far_in}
use Rattle.swi_chip.specs.Standing.{StandsIn}
use Rattle.swi_chip.proofs.Stands.{count_is, ends_order, put_inside, stands_known, stands_short}
use Rattle.swi_chip.proofs.replacing.put.Goals as goal

pub length_of-count-requires : goal.length_of-count-requires
length_of-count-requires c =
    (let k = c.requires.some in
    let st = subst (λ (q : Option (ℕ × ℕ)). StandsIn c.args.chip.now (k.vs k.s.turn) (kept_by k.s) c.args.pc q) c.in-Some.is (c.standing.ensures k.s k.vs k.ram k.lists k.stands) in
    let o = ends_order k.stands c.in-Some.block (stands_known k.stands c.args.pc c.in-Some.block c.in-Some.offset st).0 in
    record { block = o.0; order = o.1 })

pub overflow_add-offset : goal.overflow_add-offset
overflow_add-offset c = (let k = c.requires.some in let short = stands_short k.stands c.args.pc c.in-Some.block c.in-Some.offset (subst (λ (q : Option (ℕ × ℕ)). StandsIn c.args.chip.now (k.vs k.s.turn) (kept_by k.s) c.args.pc q) c.in-Some.is (c.standing.ensures k.s k.vs k.ram k.lists k.stands)) in omega (arith, short))

pub bounds-chip-at : goal.bounds-chip-at
bounds-chip-at c =
    (let k = c.requires.some in
    let st = subst (λ (q : Option (ℕ × ℕ)). StandsIn c.args.chip.now (k.vs k.s.turn) (kept_by k.s) c.args.pc q) c.in-Some.is (c.standing.ensures k.s k.vs k.ram k.lists k.stands) in
    let known = (stands_known k.stands c.args.pc c.in-Some.block c.in-Some.offset st).0 in
    let n = count_is k.stands c.in-Some.block c.length_of-count.result known c.length_of-count.ensures in
    let lt = c.if-offset-count.false in
    let i = put_inside k.stands c.args.pc c.in-Some.block c.in-Some.offset st (omega (arith, n, lt)) in
    omega (arith, i))

pub bounds-chip-at-2 : goal.bounds-chip-at-2
bounds-chip-at-2 c =
    (let k = c.requires.some in
    let st = subst (λ (q : Option (ℕ × ℕ)). StandsIn c.args.chip.now (k.vs k.s.turn) (kept_by k.s) c.args.pc q) c.in-Some.is (c.standing.ensures k.s k.vs k.ram k.lists k.stands) in
    let known = (stands_known k.stands c.args.pc c.in-Some.block c.in-Some.offset st).0 in
    let n = count_is k.stands c.in-Some.block c.length_of-count.result known c.length_of-count.ensures in
    let lt = c.if-offset-count.false in
    let i = put_inside k.stands c.args.pc c.in-Some.block c.in-Some.offset st (omega (arith, n, lt)) in
    let l = length-set c.args.chip.now.cache.now (far_in c.args.chip.now c.args.pc / 4) c.args.first in
    omega (arith, i, l))

pub returns-in_default : goal.returns-in_default
returns-in_default c = inl refl

pub returns-then-offset-count : goal.returns-then-offset-count
returns-then-offset-count c = inl refl

pub returns : goal.returns
returns c = inr (refl, refl)
