use Rattle.std.proofs.lemmas.List.{with_items_is}
use Rattle.std.proofs.Common.{◌≡◌, ◌<◌, ℕ, suc, ◌-◌, ◌∙◌, List, length, arith, ap, refl, subst, sym}
use Rattle.std.proofs.lemmas.Option.{slice_get_read}
use Rattle.swi_rom.specs.Record.{indirect}
use Rattle.swi_tally.specs.declared.tallies.Seat.{Seat}
use Rattle.swi_tally.specs.Tally.{TallyData}
use Rattle.swi_tally.specs.Tallies.{TalliesData, OneMoved, row_at, served_if, ServesAt, before, told}
use Rattle.swi_tally.proofs.Siding.{back_call, cache_call, entered_call, few_call, inside_call, marks_call, one_moved, one_served, one_serves, seat_at}
use Rattle.swi_tally.proofs.Crossing.{Entered}
use Rattle.swi_tally.proofs.tallies.Tallies.enter_by.Goals as goal

pub returns-clause-served : goal.returns-clause-served
returns-clause-served c = λ a o there.
    let v = c.args.image.now in
    let t : TalliesData = c.args.self.now in
    let s : Seat = c.index_mut-seat.result.now in
    let u : TallyData = c.enter.new.self in
    let at = cache_call t _ c.args.k s (ap (λ (q : TalliesData). q.caches) c.self.view_is) c.requires.cache c.index_mut-seat.ensures.value in
    let jumps : c.self.inside.jumps ≡ t.jumps = ap (λ (q : TalliesData). q.jumps) c.self.view_is in
    let counted : c.count_to.new.self.tally ≡ told (t.jumps - 1) s = ap (λ (q : Seat). q.tally) c.count_to.ensures ∙ ap (λ (n : ℕ). told (n - 1) s) jumps in
    let done : Entered v t.exits c.args.k c.args.block (told (t.jumps - 1) s) u t.masks c.enter.new.masks =
    entered_call v _ t.exits c.args.k c.args.block _ (told (t.jumps - 1) s) u _ t.masks c.enter.new.masks (ap (λ (q : TalliesData). q.exits) c.self.view_is) counted (c.as_mut_slice-masks.ensures.value ∙ ap (λ (q : TalliesData). q.masks) c.self.view_is)
    (record { kept = c.enter.ensures.kept; serves = c.enter.ensures.serves; moved = c.enter.ensures.moved; services = c.enter.ensures.services }) in
    let back = back_call t c.self.inside.exits c.self.inside.masks.items c.self.inside.caches.items c.self.inside.jumps c.args.k (seat_at c.self.inside.jumps u) (seat_at t.jumps u) _ c.enter.new.masks c.self.view_is
    (ap (λ (n : ℕ). seat_at n u) jumps) (with_items_is c.self.inside.masks c.enter.new.masks (omega (arith, done.moved.masks, ap (λ (q : TalliesData). length q.masks) c.self.view_is, c.self.inside.masks.ok.0))) in
    subst (λ (q : TalliesData). row_at q c.args.k ≡ served_if v (indirect a) (row_at (before t) c.args.k)) (sym back)
    (one_served v (indirect a) t c.args.k (t.jumps - 1) s u c.enter.new.masks at done.moved (done.kept a o there))

pub returns-clause-serves : goal.returns-clause-serves
returns-clause-serves c n h =
    let v = c.args.image.now in
    let t : TalliesData = c.args.self.now in
    let s : Seat = c.index_mut-seat.result.now in
    let u : TallyData = c.enter.new.self in
    let at = cache_call t _ c.args.k s (ap (λ (q : TalliesData). q.caches) c.self.view_is) c.requires.cache c.index_mut-seat.ensures.value in
    let jumps : c.self.inside.jumps ≡ t.jumps = ap (λ (q : TalliesData). q.jumps) c.self.view_is in
    let counted : c.count_to.new.self.tally ≡ told (t.jumps - 1) s = ap (λ (q : Seat). q.tally) c.count_to.ensures ∙ ap (λ (n : ℕ). told (n - 1) s) jumps in
    let done : Entered v t.exits c.args.k c.args.block (told (t.jumps - 1) s) u t.masks c.enter.new.masks =
    entered_call v _ t.exits c.args.k c.args.block _ (told (t.jumps - 1) s) u _ t.masks c.enter.new.masks (ap (λ (q : TalliesData). q.exits) c.self.view_is) counted (c.as_mut_slice-masks.ensures.value ∙ ap (λ (q : TalliesData). q.masks) c.self.view_is)
    (record { kept = c.enter.ensures.kept; serves = c.enter.ensures.serves; moved = c.enter.ensures.moved; services = c.enter.ensures.services }) in
    let back = back_call t c.self.inside.exits c.self.inside.masks.items c.self.inside.caches.items c.self.inside.jumps c.args.k (seat_at c.self.inside.jumps u) (seat_at t.jumps u) _ c.enter.new.masks c.self.view_is
    (ap (λ (n : ℕ). seat_at n u) jumps) (with_items_is c.self.inside.masks c.enter.new.masks (omega (arith, done.moved.masks, ap (λ (q : TalliesData). length q.masks) c.self.view_is, c.self.inside.masks.ok.0))) in
    subst (λ (q : TalliesData). ServesAt v (suc n) q c.args.k) (sym back) (one_serves v t c.args.k (t.jumps - 1) n s u c.enter.new.masks at done.serves done.services h)

pub returns-clause-moved : goal.returns-clause-moved
returns-clause-moved c =
    let v = c.args.image.now in
    let t : TalliesData = c.args.self.now in
    let s : Seat = c.index_mut-seat.result.now in
    let u : TallyData = c.enter.new.self in
    let at = cache_call t _ c.args.k s (ap (λ (q : TalliesData). q.caches) c.self.view_is) c.requires.cache c.index_mut-seat.ensures.value in
    let jumps : c.self.inside.jumps ≡ t.jumps = ap (λ (q : TalliesData). q.jumps) c.self.view_is in
    let counted : c.count_to.new.self.tally ≡ told (t.jumps - 1) s = ap (λ (q : Seat). q.tally) c.count_to.ensures ∙ ap (λ (n : ℕ). told (n - 1) s) jumps in
    let done : Entered v t.exits c.args.k c.args.block (told (t.jumps - 1) s) u t.masks c.enter.new.masks =
    entered_call v _ t.exits c.args.k c.args.block _ (told (t.jumps - 1) s) u _ t.masks c.enter.new.masks (ap (λ (q : TalliesData). q.exits) c.self.view_is) counted (c.as_mut_slice-masks.ensures.value ∙ ap (λ (q : TalliesData). q.masks) c.self.view_is)
    (record { kept = c.enter.ensures.kept; serves = c.enter.ensures.serves; moved = c.enter.ensures.moved; services = c.enter.ensures.services }) in
    let back = back_call t c.self.inside.exits c.self.inside.masks.items c.self.inside.caches.items c.self.inside.jumps c.args.k (seat_at c.self.inside.jumps u) (seat_at t.jumps u) _ c.enter.new.masks c.self.view_is
    (ap (λ (n : ℕ). seat_at n u) jumps) (with_items_is c.self.inside.masks c.enter.new.masks (omega (arith, done.moved.masks, ap (λ (q : TalliesData). length q.masks) c.self.view_is, c.self.inside.masks.ok.0))) in
    subst (λ (q : TalliesData). OneMoved c.args.k t q) (sym back) (one_moved t c.args.k (told (t.jumps - 1) s) u (seat_at t.jumps u) c.enter.new.masks done.moved)

pub invariant_of-self : goal.invariant_of-self
invariant_of-self c =
    let v = c.args.image.now in
    let t : TalliesData = c.args.self.now in
    let s : Seat = c.index_mut-seat.result.now in
    let u : TallyData = c.enter.new.self in
    let at = cache_call t _ c.args.k s (ap (λ (q : TalliesData). q.caches) c.self.view_is) c.requires.cache c.index_mut-seat.ensures.value in
    let jumps : c.self.inside.jumps ≡ t.jumps = ap (λ (q : TalliesData). q.jumps) c.self.view_is in
    let counted : c.count_to.new.self.tally ≡ told (t.jumps - 1) s = ap (λ (q : Seat). q.tally) c.count_to.ensures ∙ ap (λ (n : ℕ). told (n - 1) s) jumps in
    let within : c.args.k < length c.self.inside.caches.items = omega (arith, c.requires.cache, ap (λ (q : TalliesData). length q.caches) c.self.view_is) in
    let here = slice_get_read c.self.inside.caches.items (length c.self.inside.caches.items) c.args.k s refl within c.index_mut-seat.ensures.value in
    let long : length c.enter.new.masks ≡ length c.self.inside.masks.items = omega (arith, c.enter.ensures.moved.masks, ap (λ (xs : List ℕ). length xs) c.as_mut_slice-masks.ensures.value) in
    let marks = marks_call _ _ _ _ c.self.inside.placed.items _ c.as_mut_slice-placed.ensures.value c.enter.ensures.marks in
    inside_call c.self.inside.exits c.self.inside.masks.items c.enter.new.masks _ c.self.inside.placed.items c.enter.new.placed _ c.self.inside.all c.args.k c.self.inside.caches.items c.self.inside.jumps c.self.inside.jumps s u c.self.invariant here
    long marks (omega (arith, few_call v (before t) c.args.k _ s c.count_to.new.self.tally u at c.requires.serves counted c.enter.ensures.services))
    (with_items_is c.self.inside.masks c.enter.new.masks (omega (arith, long, c.self.inside.masks.ok.0))) (with_items_is c.self.inside.placed c.enter.new.placed (omega (arith, marks.are.long, c.self.invariant.placed_long, c.self.inside.placed.ok.0)))
    refl
