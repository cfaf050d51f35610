-- Whether a block is among placements of a program, and where it stands.
use Rattle.std.proofs.Common.{◌≡◌, ℕ, ◌==◌, ◌&&◌, ◌||◌, Bool, true, false, List, [], ◌∷◌, ◌++◌, map, if◌then◌else◌, arith, refl, ◌∙◌, ap, inl, inr}
use Rattle.std.proofs.lemmas.Bool.{or_left, or_right, or_cases, both_ways}
use Rattle.std.proofs.lemmas.Bool.Decides.{nat_tests}
use Rattle.std.specs.List.{list_any}
use Rattle.swi_rom.specs.Record.{Placement, Has}
use Rattle.swi_rom.specs.Policy.{first_in}

-- the blocks of placements
abbrev pub blocks : List Placement → List ℕ
blocks es = map (λ (e : Placement). e.block) es

abbrev is_of : ℕ → ℕ → Placement → Bool
is_of p b e = e.program == p && e.block == b

abbrev pub stands : ℕ → ℕ → List Placement → Bool
stands p b es = list_any (λ (e : Placement). e.program == p && e.block == b) es

or_rest : (x y : Bool) → (x || y) ≡ false → y ≡ false
or_rest true y e = absurd (both_ways true e refl)
or_rest false y e = e

-- where all are the program's, a block that doesn't stand is none of theirs
pub absent : (p b : ℕ) (es : List Placement) → stands p b es ≡ false → ((e : Placement) → Has es e → e.program ≡ p) → Has (blocks es) b → ⊥
absent p b [] none ours h = h
absent p b (e ∷ es) none ours (inl is) =
    let own : e.program ≡ p = ours e (inl refl) in
    let here : is_of p b e ≡ true = grind (arith, nat_tests) in
    both_ways (stands p b (e ∷ es)) none (or_left (is_of p b e) (stands p b es) here)
absent p b (e ∷ es) none ours (inr h) = absent p b es (or_rest (is_of p b e) (stands p b es) none) (λ f g. ours f (inr g)) h

pub absent_behind : (p b : ℕ) (xs ys : List Placement) → stands p b (xs ++ ys) ≡ false → stands p b ys ≡ false
absent_behind p b [] ys none = none
absent_behind p b (x ∷ xs) ys none = absent_behind p b xs ys (or_rest (is_of p b x) (stands p b (xs ++ ys)) none)

-- what stands still stands once more is appended, and so does that
pub stands_still : (p b : ℕ) (xs ys : List Placement) → stands p b xs ≡ true → stands p b (xs ++ ys) ≡ true
stands_still p b [] ys h = absurd (both_ways false refl h)
stands_still p b (x ∷ xs) ys h = elim (or_cases (is_of p b x) (stands p b xs) h) [
  | inl here ↦ or_left (is_of p b x) (stands p b (xs ++ ys)) here
  | inr there ↦ or_right (is_of p b x) (stands p b (xs ++ ys)) (stands_still p b xs ys there)
]

pub stands_last : (p b f : ℕ) (xs : List Placement) → stands p b (xs ++ record { program = p; block = b; first = f } ∷ []) ≡ true
stands_last p b f [] = grind (arith, nat_tests)
stands_last p b f (x ∷ xs) = or_right (is_of p b x) (stands p b (xs ++ record { program = p; block = b; first = f } ∷ [])) (stands_last p b f xs)

-- where it stands
pub record StandsAs (p b : ℕ) (es : List Placement) : Type 0 where
  pub entry : Placement
  pub has : Has es entry
  pub block : entry.block ≡ b
  pub first : first_in es p b ≡ entry.first

stands_by : (t : Bool) (p b : ℕ) (e : Placement) (es : List Placement) → is_of p b e ≡ t → stands p b (e ∷ es) ≡ true → (stands p b es ≡ true → StandsAs p b es) → StandsAs p b (e ∷ es)
stands_by true p b e es here h later = record { entry = e; has = inl refl; block = grind (arith, nat_tests); first = ap (λ (x : Bool). if x then e.first else first_in es p b) here }
stands_by false p b e es other h later =
    let w = later (elim (or_cases (is_of p b e) (stands p b es) h) [ inl here ↦ absurd (both_ways (is_of p b e) other here) | inr there ↦ there ]) in
    record { entry = w.entry; has = inr w.has; block = w.block; first = ap (λ (x : Bool). if x then e.first else first_in es p b) other ∙ w.first }

pub stands_as : (p b : ℕ) (es : List Placement) → stands p b es ≡ true → StandsAs p b es
stands_as p b [] h = absurd (both_ways false refl h)
stands_as p b (e ∷ es) h = stands_by (is_of p b e) p b e es refl h (stands_as p b es)
