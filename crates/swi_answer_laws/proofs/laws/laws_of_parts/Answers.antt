use Rattle.swi_answer_laws.proofs.Parts.{image_is_one, placed_words_are_one, program_is_one, rounds_are_one}
use Rattle.swi_answer_laws.proofs.Refusals.{refusal_is_one}
use Rattle.swi_answer_laws.proofs.laws.laws_of_parts.Goals as goal

pub returns-clause-image : goal.returns-clause-image
returns-clause-image c = image_is_one

pub returns-clause-program : goal.returns-clause-program
returns-clause-program c = program_is_one

pub returns-clause-rounds : goal.returns-clause-rounds
returns-clause-rounds c = rounds_are_one

pub returns-clause-words : goal.returns-clause-words
returns-clause-words c = placed_words_are_one

pub returns-clause-refusal : goal.returns-clause-refusal
returns-clause-refusal c = refusal_is_one
