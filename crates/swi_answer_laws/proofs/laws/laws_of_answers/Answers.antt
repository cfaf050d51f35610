use Rattle.swi_answer_laws.proofs.Answers.{answers_are_one}
use Rattle.swi_answer_laws.proofs.Surveyed.{survey_is_cached}
use Rattle.swi_answer_laws.proofs.laws.laws_of_answers.Goals as goal

pub returns-clause-answers : goal.returns-clause-answers
returns-clause-answers c = answers_are_one

pub returns-clause-survey : goal.returns-clause-survey
returns-clause-survey c = survey_is_cached
