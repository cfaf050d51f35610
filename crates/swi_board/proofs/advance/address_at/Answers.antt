use Rattle.std.proofs.Common.{◌≡◌, ◌+◌, ◌*◌, ◌%◌, ◌^◌, ℕ, Some, ap, arith, rules, sym, ◌∙◌}
use Rattle.swi_image.specs.Place.{word_before}
use Rattle.swi_board.proofs.Origins.{origin_at, origin_behind}
use Rattle.swi_board.proofs.advance.address_at.Goals as goal

pub word-requires-clause-offset : goal.word-requires-clause-offset
word-requires-clause-offset c =
    let apart : c.place.result ≡ Some (c.args.block, c.args.offset) → ⊥ = search rules in
    let fall = origin_behind c.args.image.now c.args.block c.args.offset c.origin-a.result.0 c.requires.stands (ap (λ (p : ℕ × ℕ). p.0) c.origin-a.ensures)
    (λ at. apart (c.place.ensures.place ∙ at)) in
    fall.inside

pub returns-then-eq : goal.returns-then-eq
returns-then-eq c a =
    let is : c.origin-a.result.0 ≡ (c.args.image.now.base + 4 * word_before c.args.image.now c.args.block c.args.offset) % 2 ^ 32 = ap (λ (p : ℕ × ℕ). p.0) c.origin-a.ensures in
    let at : c.place.result ≡ Some (c.args.block, c.args.offset) = search rules in
    origin_at c.args.image.now c.args.block c.args.offset c.origin-a.result.0 a (omega (arith, is)) (sym c.place.ensures.place ∙ at)

pub returns-else-eq : goal.returns-else-eq
returns-else-eq c a =
    let apart : c.place.result ≡ Some (c.args.block, c.args.offset) → ⊥ = search rules in
    let fall = origin_behind c.args.image.now c.args.block c.args.offset c.origin-a.result.0 a (ap (λ (p : ℕ × ℕ). p.0) c.origin-a.ensures)
    (λ at. apart (c.place.ensures.place ∙ at)) in
    c.word.ensures ∙ fall.leads
