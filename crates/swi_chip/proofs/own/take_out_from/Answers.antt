use Rattle.std.proofs.Common.{◌≡◌, ◌+◌, ◌-◌, ◌*◌, ◌<◌, ℕ, List, length, slice_index, slice_set, arith, refl, sym, ◌∙◌, subst}
use Rattle.swi_chip.specs.Owned.{lands_at, lands_in}
use Rattle.swi_chip.proofs.Dividing.{below_slots}
use Rattle.swi_chip.proofs.Owning.{Taking, taking_passed, taking_left, now_has, slot_inside, count_is}
use Rattle.swi_chip.proofs.own.take_out_from.Goals as goal
use Rattle.swi_chip.proofs.own.take_out_from.Goals.{then-is_link, else-is_link}

taking_as : (first at at' : ℕ) (words w w' h h' l l' : List ℕ) (lists : List (List ℕ)) → at' ≡ at → w' ≡ w → h' ≡ h → l' ≡ l → Taking first at words w h l lists → Taking first at' words w' h' l' lists
taking_as first at at' words w w' h h' l l' lists ea ew eh el t =
    subst (λ (n : ℕ). Taking first n words w' h' l' lists) (sym ea)
    (subst (λ (xs : List ℕ). Taking first at words xs h' l' lists) (sym ew)
    (subst (λ (xs : List ℕ). Taking first at words w xs l' lists) (sym eh)
    (subst (λ (xs : List ℕ). Taking first at words w h xs lists) (sym el) t)))

pub slot_of-slot-requires-clause-few : goal.slot_of-slot-requires-clause-few
slot_of-slot-requires-clause-few c =
    (let L = c.requires.stand.0 in let s = c.requires.stand.1 in
    let n : ℕ = c.args.size.words in
    let w : ℕ = slice_index c.loop-at.cache c.loop-at.at in
    let inside = slot_inside (c.loop-at.invariant.2 L s) (c.requires.tied L s) (c.requires.apart L s) c.loop-at.invariant.0 c.loop-at-test.true (lands_in n c.loop-at.at w) refl (sym c.is_link.ensures ∙ c.if-is_link.true) in
    let some = c.requires.inverse.least in
    let low : lands_at c.loop-at.at w < length c.args.heads.now * n = below_slots (lands_at c.loop-at.at w) n (length c.args.heads.now) (omega (arith, some)) (omega (arith, inside, c.loop-at.auto.heads)) in
    let room = c.requires.room in let few = s.few in
    omega (arith, low, room, few))

pub leave-requires-clause-has : goal.leave-requires-clause-has
leave-requires-clause-has c =
    (let L = c.requires.stand.0 in let s = c.requires.stand.1 in
    let t = c.loop-at.invariant.2 L s in
    (t.now, t.stand, now_has t (c.requires.tied L s) (c.requires.apart L s) c.loop-at.invariant.0 c.loop-at-test.true c.slot_of-slot.result c.slot_of-slot.ensures (sym c.is_link.ensures ∙ c.if-is_link.true)))

pub leave-requires-clause-slot : goal.leave-requires-clause-slot
leave-requires-clause-slot c =
    (let L = c.requires.stand.0 in let s = c.requires.stand.1 in
    slot_inside (c.loop-at.invariant.2 L s) (c.requires.tied L s) (c.requires.apart L s) c.loop-at.invariant.0 c.loop-at-test.true c.slot_of-slot.result c.slot_of-slot.ensures (sym c.is_link.ensures ∙ c.if-is_link.true))

pub bounds-links-slot : goal.bounds-links-slot
bounds-links-slot c =
    (let L = c.requires.stand.0 in let s = c.requires.stand.1 in
    let k = slot_inside (c.loop-at.invariant.2 L s) (c.requires.tied L s) (c.requires.apart L s) c.loop-at.invariant.0 c.loop-at-test.true c.slot_of-slot.result c.slot_of-slot.ensures (sym c.is_link.ensures ∙ c.if-is_link.true) in
    omega (arith, k, c.requires.long, c.loop-at.auto.heads, c.loop-at.auto.links))

pub overflow_sub-links : goal.overflow_sub-links
overflow_sub-links c =
    (let L = c.requires.stand.0 in let s = c.requires.stand.1 in
    let k = count_is (c.loop-at.invariant.2 L s) (c.requires.tied L s) (c.requires.apart L s) c.loop-at.invariant.0 c.loop-at-test.true c.slot_of-slot.result c.slot_of-slot.ensures (sym c.is_link.ensures ∙ c.if-is_link.true) in
    omega (arith, k))

pub bounds-links-slot-then-is_link : goal.bounds-links-slot-then-is_link
bounds-links-slot-then-is_link c =
    (let L = c.requires.stand.0 in let s = c.requires.stand.1 in
    let k = slot_inside (c.loop-at.invariant.2 L s) (c.requires.tied L s) (c.requires.apart L s) c.loop-at.invariant.0 c.loop-at-test.true c.slot_of-slot.result c.slot_of-slot.ensures (sym c.is_link.ensures ∙ c.if-is_link.true) in
    omega (arith, k, c.requires.long, c.loop-at.auto.heads, c.loop-at.auto.links))

pub loop-at-preserved : goal.loop-at-preserved
loop-at-preserved c = elim c.if-is_link.branch [
  | then-is_link w ↦ (
    (let low = c.loop-at.invariant.0 in omega (arith, low, w.at-is)),
    (let lt = c.loop-at-test.true in omega (arith, lt, w.at-is)),
    λ lists s.
        (let t = c.loop-at.invariant.2 lists s in
        let slot : ℕ = w.slot_of-slot.result in
        let jump = sym c.is_link.ensures ∙ w.if-is_link.true in
        let has = now_has t (c.requires.tied lists s) (c.requires.apart lists s) c.loop-at.invariant.0 c.loop-at-test.true slot w.slot_of-slot.ensures jump in
        let inside = slot_inside t (c.requires.tied lists s) (c.requires.apart lists s) c.loop-at.invariant.0 c.loop-at-test.true slot w.slot_of-slot.ensures jump in
        let count = count_is t (c.requires.tied lists s) (c.requires.apart lists s) c.loop-at.invariant.0 c.loop-at-test.true slot w.slot_of-slot.ensures jump in
        let less : slice_index c.loop-at.links slot - 1 + 1 ≡ slice_index c.loop-at.links slot = omega (arith, count) in
        let long : slot < length c.loop-at.links = omega (arith, inside, c.requires.long, c.loop-at.auto.heads, c.loop-at.auto.links) in
        let on : c.if-is_link.at + 1 ≡ c.loop-at.at + 2 = (let e = w.at-is in omega (arith, e)) in
        taking_as c.args.first (c.loop-at.at + 2) (c.if-is_link.at + 1) c.args.cache.now w.leave.new.cache c.if-is_link.cache w.leave.new.heads c.if-is_link.heads (slice_set c.loop-at.links slot (slice_index c.loop-at.links slot - 1)) c.if-is_link.links lists on w.cache-is w.heads-is w.links-is
        (taking_left t (c.requires.tied lists s) (c.requires.apart lists s) c.loop-at.invariant.0 c.loop-at-test.true slot w.slot_of-slot.ensures jump w.leave.new.cache w.leave.new.heads (slice_index c.loop-at.links slot - 1)
        (w.leave.ensures.left t.now t.stand has) less long w.leave.ensures.others)),
  )
  | else-is_link w ↦ (
    (let low = c.loop-at.invariant.0 in omega (arith, low, w.at-is)),
    (let lt = c.loop-at-test.true in omega (arith, lt, w.at-is)),
    λ lists s.
        (let t = c.loop-at.invariant.2 lists s in
        let other = sym c.is_link.ensures ∙ w.if-is_link.false in
        let on : c.if-is_link.at + 1 ≡ c.loop-at.at + 1 = (let e = w.at-is in omega (arith, e)) in
        taking_as c.args.first (c.loop-at.at + 1) (c.if-is_link.at + 1) c.args.cache.now c.loop-at.cache c.if-is_link.cache c.loop-at.heads c.if-is_link.heads c.loop-at.links c.if-is_link.links lists on w.cache-is w.heads-is w.links-is
        (taking_passed t (c.requires.tied lists s) (c.requires.apart lists s) c.loop-at.invariant.0 c.loop-at-test.true other)),
  )
]
