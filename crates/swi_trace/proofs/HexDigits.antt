-- A number in hexadecimal digits: its last digit, and those before it.
use Rattle.std.proofs.Common.{inl, inr, ◌≡◌, ℕ, zero, suc, ◌/◌, ◌%◌, ◌^◌, ◌<◌, ◌≤◌, false, cond, List, [], ◌∷◌, ◌++◌, length, arith, refl, sym, ap, ◌∙◌}
use Rattle.std.proofs.lemmas.Bool.{eq-eqb, ne_eqb, cases_lt}
use Rattle.std.proofs.lemmas.List.{append_assoc, length-append}
use Rattle.std.specs.Fmt.{digits, digits_onto, digit_glyph}

abbrev spell : ℕ → ℕ → List ℕ → List ℕ
spell k n acc = digits_onto k 16 false n acc

abbrev last_digit : ℕ → ℕ
last_digit n = digit_glyph false (n % 16)

spelled : (n : ℕ) → spell 64 n [] ≡ digits 16 false n
unfolding digits
spelled n = refl

spell_last : (k n : ℕ) (acc : List ℕ) → n < 16 → spell (suc k) n acc ≡ last_digit n ∷ acc
spell_last k n acc h = ap (λ t. cond t (last_digit n ∷ acc) (spell k (n / 16) (last_digit n ∷ acc))) (eq-eqb (n / 16) 0 (omega arith))

spell_next : (k n : ℕ) (acc : List ℕ) → 16 ≤ n → spell (suc k) n acc ≡ spell k (n / 16) (last_digit n ∷ acc)
spell_next k n acc h = ap (λ t. cond t (last_digit n ∷ acc) (spell k (n / 16) (last_digit n ∷ acc))) (ne_eqb (n / 16) 0 (λ e. omega arith))

spell-append : (k n : ℕ) (acc : List ℕ) → spell k n acc ≡ spell k n [] ++ acc
spell-append zero n acc = refl
spell-append (suc k) n acc = elim (cases_lt n 16) [
  | inl l ↦ spell_last k n acc l ∙ ap (λ x. x ++ acc) (sym (spell_last k n [] l))
  | inr l ↦
      spell_next k n acc l ∙ spell-append k (n / 16) (last_digit n ∷ acc)
      ∙ sym (append_assoc (spell k (n / 16) []) (last_digit n ∷ []) acc)
      ∙ ap (λ x. x ++ acc) (sym (spell_next k n [] l ∙ spell-append k (n / 16) (last_digit n ∷ [])))
]

-- the digit limit does not matter once it is large enough
spell_enough : (j k n : ℕ) (acc : List ℕ) → n < 16 ^ suc j → n < 16 ^ suc k → spell (suc j) n acc ≡ spell (suc k) n acc
spell_enough zero k n acc p q = spell_last zero n acc (omega arith) ∙ sym (spell_last k n acc (omega arith))
spell_enough (suc j) zero n acc p q = spell_last (suc j) n acc (omega arith) ∙ sym (spell_last zero n acc (omega arith))
spell_enough (suc j) (suc k) n acc p q = elim (cases_lt n 16) [
  | inl l ↦ spell_last (suc j) n acc l ∙ sym (spell_last (suc k) n acc l)
  | inr l ↦
      spell_next (suc j) n acc l ∙ spell_enough j k (n / 16) (last_digit n ∷ acc) (omega arith) (omega arith)
      ∙ sym (spell_next (suc k) n acc l)
]

pub hex_last : (n : ℕ) → n < 16 → digits 16 false n ≡ last_digit n ∷ []
hex_last n small = sym (spelled n) ∙ spell_last 63 n [] small

pub hex_more : (n : ℕ) → 16 ≤ n → n < 2 ^ 32 → digits 16 false n ≡ digits 16 false (n / 16) ++ last_digit n ∷ []
hex_more n large word =
    sym (spelled n) ∙ spell_next 63 n [] large ∙ spell_enough 62 63 (n / 16) (last_digit n ∷ []) (omega arith) (omega arith)
    ∙ spell-append 64 (n / 16) (last_digit n ∷ []) ∙ ap (λ x. x ++ last_digit n ∷ []) (spelled (n / 16))

pub length_hex : (k n : ℕ) → 0 < k → n < 16 ^ k → n < 2 ^ 32 → length (digits 16 false n) ≤ k
length_hex zero n some fits word = absurd (omega arith)
length_hex (suc k) n some fits word = elim (cases_lt n 16) [
  | inl l ↦ let one = ap length (hex_last n l) in omega arith
  | inr l ↦
      let more : 0 < k = several k n l fits in
      let rest : length (digits 16 false (n / 16)) ≤ k = length_hex k (n / 16) more (omega arith) (omega arith) in
      let all = ap length (hex_more n l word) in
      omega (arith, length-append (digits 16 false (n / 16)) (last_digit n ∷ []))
]
  where
    several : (k n : ℕ) → 16 ≤ n → n < 16 ^ suc k → 0 < k
    several zero n large fits = absurd (omega arith)
    several (suc k) n large fits = omega arith
