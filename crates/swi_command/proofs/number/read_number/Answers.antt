use Rattle.std.proofs.Common.{rules, ◌≡◌, ◌∙◌, ap, sym, ℕ, Some, None, Ok, Err, Result, arith, ◌<◌, ◌≤◌, ◌^◌, length, true, false, Bool, List, refl}
use Rattle.std.proofs.lemmas.Bool.Decides.{nat_tests}
use Rattle.std.specs.Str.{all_ascii_digits}
use Rattle.std.specs.Str.Parse.{digits_value}
use Rattle.std.specs.Result.{OkIff, result_ok}
use Rattle.std.proofs.lemmas.Str.Parse.{IsNumeralModel, numerals_by_value, tells_all_ascii_digits, parse_plain, digits_value_short}
use Rattle.swi_command.specs.CommandLine.{number}
use Rattle.swi_command.proofs.number.read_number.Goals as goal

own : IsNumeralModel (λ ds. all_ascii_digits ds ≡ true) (digits_value 10)
own = numerals_by_value _ tells_all_ascii_digits

abbrev Written : List ℕ → Type 0
Written t = (all_ascii_digits t ≡ true) × (0 < length t) × (digits_value 10 t < 2 ^ 64)

number_of_digits : (t : List ℕ) → all_ascii_digits t ≡ true → 1 ≤ length t → length t ≤ 19
    → number t ≡ Some (digits_value 10 t)
number_of_digits t digits some short = grind (arith, nat_tests)

number_of_others : (t : List ℕ) → all_ascii_digits t ≡ false → number t ≡ None
number_of_others t digits = rw digits refl

-- what `parse` gives of a text whose length is taken
told : {E : Type 0} (t : List ℕ) (r : Result ℕ E) → 1 ≤ length t → length t ≤ 19
    → OkIff r (Written t) (digits_value 10 t) → result_ok r ≡ number t
told t (Ok n) some short h = ap Some h.1 ∙ sym (number_of_digits t h.0.0 some short)
told t (Err e) some short h = go (all_ascii_digits t) refl
  where
    go : (b : Bool) → all_ascii_digits t ≡ b → None ≡ number t
    go true digits =
        let small : digits_value 10 t < 10 ^ 19 = digits_value_short own t 19 digits short in
        absurd (h (digits, omega arith, omega arith))
    go false digits = sym (number_of_others t digits)

pub returns : goal.returns
returns c =
    c.ok.ensures.value
    ∙ told c.args.text.now c.parse.result (search rules) (search rules)
    (parse_plain own 64 c.args.text.now c.parse.result c.parse.ensures.value.0 (search rules))
