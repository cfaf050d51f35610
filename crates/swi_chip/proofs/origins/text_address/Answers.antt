use Rattle.std.proofs.Common.{◌∙◌, ℕ, ◌+◌, ◌*◌, ◌%◌, ◌^◌, ap}
use Rattle.swi_image.specs.Place.{word_before}
use Rattle.swi_chip.proofs.Stands.{texts}
use Rattle.swi_chip.proofs.origins.text_address.Goals as goal

pub text_word-requires : goal.text_word-requires
text_word-requires c = (let k = c.requires.some in record { some = (k.vs k.s.turn, texts k.stands); block = c.requires.block })

pub returns : goal.returns
returns c = λ s vs ram lists k.
    ap (λ (n : ℕ). (c.args.chip.now.base + 4 * n) % 2 ^ 32) (c.text_word.ensures.word (vs s.turn) (texts k))
    ∙ ap (λ (b : ℕ). (b + 4 * word_before (vs s.turn) c.args.block c.args.offset) % 2 ^ 32) k.tables.base_is
