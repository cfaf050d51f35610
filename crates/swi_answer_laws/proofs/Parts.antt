-- What a contract leaves to a command's choice is one thing each.
use Rattle.std.proofs.Common.{◌≡◌, ℕ, List, [], ◌∷◌, Option, Some, None, refl, arith, sym, ap, ◌∙◌, inl, inr}
use Rattle.std.specs.List.{AllZip}
use Rattle.std.proofs.lemmas.Bool.{cases_lt}
use Rattle.swi_isa.specs.declared.instr.Instr.{Instr}
use Rattle.swi_elf_read.specs.Loaded.{image_of as image_in}
use Rattle.swi_program.specs.ProgramOf.{bytes_of_words, program_of_text}
use Rattle.swi_program.specs.Text.{text_of}
use Rattle.swi_image.specs.Format.{ImageData}
use Rattle.swi_make.specs.Listing.{instructions_of}
use Rattle.swi_make.specs.Made.{IsWordOf}
use Rattle.swi_make.specs.Numbers.{all_additions}
use Rattle.swi_rom.specs.Standing.{word_stands}
use Rattle.swi_cut.specs.declared.cutting.Cutting.TheVariants.{Greedy}
use Rattle.swi_cut_laws.proofs.Cuts.{cut_is_one}
use Rattle.swi_task.specs.Checks.{text_in}
use Rattle.swi_task.specs.Subject.{IsImageFor}
use Rattle.swi_answer_laws.specs.Parts.{ImageIsOne, PlacedWordsAreOne, ProgramIsOne, RoundsAreOne}

image_by : (file : List ℕ) (most : ℕ) (own : Option (List ℕ)) (v w : ImageData) → IsImageFor file most own v → IsImageFor file most own w → v ≡ w
image_by file most None v w a b = cut_is_one Greedy (text_in file) most v w (record { sound = a.0; cut = a.1 }) (record { sound = b.0; cut = b.1 })
image_by file most (Some bytes) v w a b = a ∙ sym b

pub image_is_one : ImageIsOne
image_is_one file most v w a b = image_by file most (image_in file) v w a b

words_once : (is : List Instr) (xs ys : List ℕ) → AllZip IsWordOf is xs → AllZip IsWordOf is ys → xs ≡ ys
words_once [] [] [] a b = refl
words_once [] [] (y ∷ ys) a b = absurd b
words_once [] (x ∷ xs) ys a b = absurd a
words_once (i ∷ is) [] ys a b = absurd a
words_once (i ∷ is) (x ∷ xs) [] a b = absurd b
words_once (i ∷ is) (x ∷ xs) (y ∷ ys) a b =
    let first : y ≡ x = a.0.only y b.0.bits b.0.decodes in
    let rest : xs ≡ ys = words_once is xs ys a.1 b.1 in
    cc

pub program_is_one : ProgramIsOne
program_is_one seed functions p q m n =
    let same : (text_of p.segments).words ≡ (text_of q.segments).words = words_once (instructions_of (all_additions seed functions)) (text_of p.segments).words (text_of q.segments).words m.text n.text in
    m.alone ∙ (ap (λ (ws : List ℕ). program_of_text 0x10000 (bytes_of_words ws)) same ∙ sym n.alone)

pub rounds_are_one : RoundsAreOne
rounds_are_one c m n a b = elim (cases_lt m n) [
  | inl less ↦ absurd (a.over (b.going m less))
  | inr more ↦ elim (cases_lt n m) [
    | inl less ↦ absurd (b.over (a.going n less))
    | inr other ↦ omega arith
  ]
]

-- ---- the words of placed blocks

pub placed_words_are_one : PlacedWordsAreOne
placed_words_are_one s ws us c d = record {
  one = c;
  other = d;
  same = λ b f o placed inside. word_stands s.image s.kept s.span ws c b f o placed inside ∙ sym (word_stands s.image s.kept s.span us d b f o placed inside);
}
