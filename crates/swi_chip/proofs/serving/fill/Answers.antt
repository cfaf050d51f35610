use Rattle.std.proofs.Common.{◌≡◌, ◌==◌, ◌+◌, ◌-◌, ◌*◌, ◌<◌, ℕ, Bool, true, false, List, slice_index, slice_set, arith, refl, sym, ◌∙◌, ap, if◌then◌else◌}
use Rattle.std.proofs.lemmas.Bool.{eqb-true, eqb-false, false≢true}
use Rattle.swi_slots.specs.Slots.{Slots}
use Rattle.swi_slots.specs.Keys.{Images}
use Rattle.swi_slots.specs.Steps.{counted_slots}
use Rattle.swi_chip.proofs.Keeping.{forgets_by}
use Rattle.swi_chip.specs.declared.chip.Chip.{Chip}
use Rattle.swi_chip.specs.Service.{ToFill}
use Rattle.swi_chip.specs.Undone.{begin_in}
use Rattle.swi_chip.proofs.Filled.{old_block, words_order, words_inside, to_miss, mark_small, filled_small, has_filled}
use Rattle.swi_chip.proofs.serving.fill.Goals as goal

-- by the code's test
full_is : {s : Slots} {vs : Images} {ram : List ℕ} {lists : List (List ℕ)} {block : ℕ} {c : Chip} → ToFill s vs ram lists block c → (c.filled == c.slots) ≡ true → s.filled ≡ s.slots
full_is {c = c} k e = sym k.stands.filled_is ∙ (eqb-true c.filled c.slots e ∙ k.stands.slots_are)

free_is : {s : Slots} {vs : Images} {ram : List ℕ} {lists : List (List ℕ)} {block : ℕ} {c : Chip} → ToFill s vs ram lists block c → (c.filled == c.slots) ≡ false → s.filled < s.slots
free_is {s = s} {c = c} k e =
    let a = k.stands.filled_is in let b = k.stands.slots_are in let m = k.serves.shape.filled_most in
    let ne : s.filled ≡ s.slots → ⊥ = λ same. eqb-false c.filled c.slots e (a ∙ same ∙ sym b) in
    omega (arith, m, ne)

-- how many words leave
abbrev leaving_words : Chip → ℕ
leaving_words c = slice_index c.ends.now (slice_index c.blocks.now c.next) - begin_in c.ends.now (slice_index c.blocks.now c.next)

chosen : (q : Bool) (r x : ℕ) → r ≡ (if q then x else 0) → q ≡ true → r ≡ x
chosen true r x e t = e
chosen false r x e t = absurd (false≢true t)

pub leaving-old_words-requires-clause-block : goal.leaving-old_words-requires-clause-block
leaving-old_words-requires-clause-block c = λ e. (let k = c.requires.can.to in words_inside k _ (old_block k (full_is k e)).0)

pub leaving-old_words-requires-clause-order : goal.leaving-old_words-requires-clause-order
leaving-old_words-requires-clause-order c = λ e. (let k = c.requires.can.to in words_order k _ (old_block k (full_is k e)).0)

pub forget-requires : goal.forget-requires
forget-requires c = λ e. (let k = c.requires.can.to in (old_block k (full_is k e)).0)

pub miss-undone-requires : goal.miss-undone-requires
miss-undone-requires c =
    (let k = c.requires.can.to in
    record {
      known = (
        counted_slots c.requires.can.s,
        c.requires.can.vs,
        c.requires.can.ram,
        c.requires.can.lists,
        to_miss k (c.args.chip.now.filled == c.args.chip.now.slots) c.leaving-old_words.result c.length_of-new_words.result (full_is k) (free_is k)
            (chosen (c.args.chip.now.filled == c.args.chip.now.slots) c.leaving-old_words.result (leaving_words c.args.chip.now) c.leaving-old_words.ensures) c.length_of-new_words.ensures,
      );
      inverse = k.stands.numbers.inverse_is;
    })

pub overflow_cast-chip : goal.overflow_cast-chip
overflow_cast-chip c = (let m = mark_small c.requires.can.to in omega (arith, m))

pub overflow_add-chip : goal.overflow_add-chip
overflow_add-chip c = (let m = filled_small c.requires.can.to in omega (arith, m))

pub returns-clause-arrived : goal.returns-clause-arrived
returns-clause-arrived c = λ s vs ram lists k.
    (let full : Bool = c.args.chip.now.filled == c.args.chip.now.slots in
    let tm = to_miss k (c.args.chip.now.filled == c.args.chip.now.slots) c.leaving-old_words.result c.length_of-new_words.result (full_is k) (free_is k)
    (chosen (c.args.chip.now.filled == c.args.chip.now.slots) c.leaving-old_words.result (leaving_words c.args.chip.now) c.leaving-old_words.ensures) c.length_of-new_words.ensures in
    has_filled k (full_is k) (free_is k) c.length_of-new_words.ensures refl
    (record { counts = c.count_miss.ensures; slots = refl; size = refl; base = refl; next = c.following-chip.ensures; filled = c.min-chip.ensures; marks = ap (λ (l : List ℕ). slice_set l c.args.block (c.args.chip.now.next * c.args.chip.now.size.words + 1)) c.forget.ensures; places = refl; ends = refl; image = refl; cache = c.miss-undone.auto.cache; rest = refl; memo = c.forget-2.auto.memo })
    (c.miss-undone.ensures.missed (counted_slots s) vs ram lists tm))

pub returns-clause-memo : goal.returns-clause-memo
returns-clause-memo c = forgets_by (c.args.chip.now.filled == c.args.chip.now.slots) c.count_miss.ensures.evictions c.forget-2.ensures.left c.forget-2.ensures.unfilled c.forget-2.ensures.stays
