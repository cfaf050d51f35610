use Rattle.std.proofs.Common.{◌≡◌, ◌∙◌, ◌+◌, List, [], ◌∷◌, ◌++◌, arith, rules, ap, subst, sym}
use Rattle.swi_image.specs.Place.{place_of}
use Rattle.swi_survey.specs.declared.ways.Ways.{Ways}
use Rattle.swi_survey.proofs.Mapping.{MapSoFar, map_more, not_there}
use Rattle.swi_survey.proofs.ways.map_of.Goals as goal

pub unreachable-requires : goal.unreachable-requires
unreachable-requires c = not_there c.args.text.now c.args.image.now c.loop-k.k c.place_near.result c.requires.sized c.requires.own (omega (arith, c.loop-k-test.true, c.len-k-end.ensures.value))
    (c.place_near.ensures.place ∙ ap (place_of c.args.image.now) c.address_of.ensures) c.in_default.is

pub with_word-requires-clause-before : goal.with_word-requires-clause-before
with_word-requires-clause-before c = c.loop-k.invariant.before c.in-Some.place (sym (c.place_near.ensures.place ∙ ap (place_of c.args.image.now) c.address_of.ensures) ∙ c.in-Some.is) (omega (arith, c.loop-k-test.true, c.len-k-end.ensures.value))

pub loop-k-preserved : goal.loop-k-preserved
loop-k-preserved c =
    let pushed : c.push.new.self.items ≡ c.loop-k.ways.items ++ c.in_ok-word.word.1 ∷ [] = search rules in
    subst (λ (ws : List Ways). MapSoFar c.args.text.now c.args.image.now (c.loop-k.k + 1) c.in_ok-word.word.0 ws) (sym pushed)
    (map_more c.args.text.now c.args.image.now c.loop-k.k c.loop-k.exits c.in_ok-word.word.0 c.loop-k.ways.items c.in_ok-word.word.1 c.loop-k.invariant c.in_ok-word.ensures)
