-- The lines of a profile, as they are written.
use Rattle.std.proofs.Common.{◌≡◌, ℕ, suc, ◌+◌, ◌-◌, ◌<◌, List, [], ◌∷◌, ◌++◌, refl, sym, ap, ◌∙◌, arith}
use Rattle.std.proofs.lemmas.Grind.{flat_map-append}
use Rattle.std.specs.List.{flat_map}
use Rattle.swi_report.specs.State.{numbers}
use Rattle.swi_report.proofs.Pieces.{numbers_parted}

-- a whole with a piece that has bytes has some
pub piece_of : (f : ℕ → List ℕ) (words k : ℕ) → k < words → flat_map f (numbers 0 words) ≡ [] → f k ≡ []
piece_of f words k within none =
    let all : k + suc (words - (k + 1)) ≡ words = omega (arith, within) in
    let parts : flat_map f (numbers 0 words) ≡ flat_map f (numbers 0 k) ++ (f k ++ flat_map f (numbers (0 + (k + 1)) (words - (k + 1)))) =
    ap (λ n. flat_map f (numbers 0 n)) (sym all) ∙ ap (flat_map f) (numbers_parted 0 k (words - (k + 1))) ∙ flat_map-append f (numbers 0 k) _
    ∙ ap (λ j. flat_map f (numbers 0 k) ++ (f j ++ flat_map f (numbers (0 + (k + 1)) (words - (k + 1))))) (let same : 0 + k ≡ k = omega arith in same) in
    first_empty (f k) _ (last_empty (flat_map f (numbers 0 k)) _ (sym parts ∙ none))
  where
    first_empty : (xs ys : List ℕ) → xs ++ ys ≡ [] → xs ≡ []
    first_empty [] ys e = refl
    first_empty (x ∷ xs) ys e = let bad : ⊥ = cc in absurd bad

    last_empty : (xs ys : List ℕ) → xs ++ ys ≡ [] → ys ≡ []
    last_empty [] ys e = e
    last_empty (x ∷ xs) ys e = let bad : ⊥ = cc in absurd bad
