use Rattle.std.proofs.Common.{◌∙◌, ℕ, Option, Some, None, ap, refl, subst}
use Rattle.swi_image.specs.Place.{word_at}
use Rattle.swi_slots.specs.Slots.{kept_by}
use Rattle.swi_chip.specs.Standing.{StandsIn, before_in_block, behind_in_block, chosen_from}
use Rattle.swi_chip.proofs.Stands.{stands_known}
use Rattle.swi_chip.proofs.origins.resume.Goals as goal

pub returns-in_default : goal.returns-in_default
returns-in_default c = λ s vs ram lists k. (None, subst (λ (q : Option (ℕ × ℕ)). StandsIn c.args.chip.now (vs s.turn) (kept_by s) c.args.pc q) c.in_default.is (c.standing.ensures s vs ram lists k), refl)

pub word_before-before-requires : goal.word_before-before-requires
word_before-before-requires c =
    (let k = c.requires.some in
    let w = stands_known k.stands c.args.pc c.in-Some.block c.in-Some.offset (subst (λ (q : Option (ℕ × ℕ)). StandsIn c.args.chip.now (k.vs k.s.turn) (kept_by k.s) c.args.pc q) c.in-Some.is (c.standing.ensures k.s k.vs k.ram k.lists k.stands)) in
    record { can = record { some = k; known = w.0; inside = w.1 } })

pub word-here-requires : goal.word-here-requires
word-here-requires c =
    (let k = c.requires.some in
    let w = stands_known k.stands c.args.pc c.in-Some.block c.in-Some.offset (subst (λ (q : Option (ℕ × ℕ)). StandsIn c.args.chip.now (k.vs k.s.turn) (kept_by k.s) c.args.pc q) c.in-Some.is (c.standing.ensures k.s k.vs k.ram k.lists k.stands)) in
    record { can = record { some = k; known = w.0; inside = w.1 } })

pub word_behind-behind-requires : goal.word_behind-behind-requires
word_behind-behind-requires c =
    (let k = c.requires.some in
    let w = stands_known k.stands c.args.pc c.in-Some.block c.in-Some.offset (subst (λ (q : Option (ℕ × ℕ)). StandsIn c.args.chip.now (k.vs k.s.turn) (kept_by k.s) c.args.pc q) c.in-Some.is (c.standing.ensures k.s k.vs k.ram k.lists k.stands)) in
    record { can = record { some = k; known = w.0; inside = w.1 } })

pub text_address-origin-requires : goal.text_address-origin-requires
text_address-origin-requires c =
    (let k = c.requires.some in
    let w = stands_known k.stands c.args.pc c.in-Some.block c.in-Some.offset (subst (λ (q : Option (ℕ × ℕ)). StandsIn c.args.chip.now (k.vs k.s.turn) (kept_by k.s) c.args.pc q) c.in-Some.is (c.standing.ensures k.s k.vs k.ram k.lists k.stands)) in
    record { some = k; block = w.2 })

pub returns : goal.returns
returns c = λ s vs ram lists k.
    (let st = subst (λ (q : Option (ℕ × ℕ)). StandsIn c.args.chip.now (vs s.turn) (kept_by s) c.args.pc q) c.in-Some.is (c.standing.ensures s vs ram lists k) in
    let w = stands_known k c.args.pc c.in-Some.block c.in-Some.offset st in
    let v = vs s.turn in
    let b : ℕ = c.in-Some.block in
    let o : ℕ = c.in-Some.offset in (
      Some (c.in-Some.block, c.in-Some.offset),
      st,
      c.chosen.ensures
          ∙ ap (λ (n : ℕ). chosen_from n c.word-here.result c.word_behind-behind.result c.text_address-origin.result) (c.word_before-before.ensures s vs ram lists k w.0 w.1)
          ∙ ap (λ (n : ℕ). chosen_from (before_in_block (vs s.turn) b o) n c.word_behind-behind.result c.text_address-origin.result) (c.word-here.ensures s vs ram lists k w.0 w.1)
          ∙ ap (λ (n : ℕ). chosen_from (before_in_block (vs s.turn) b o) (word_at (vs s.turn) b o) n c.text_address-origin.result) (c.word_behind-behind.ensures s vs ram lists k w.0 w.1)
          ∙ ap (λ (n : ℕ). chosen_from (before_in_block (vs s.turn) b o) (word_at (vs s.turn) b o) (behind_in_block (vs s.turn) b o) n) (c.text_address-origin.ensures s vs ram lists k),
    ))
