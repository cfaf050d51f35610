-- Fronts of a piece, and nothing behind it.
use Rattle.std.proofs.Common.{◌≡◌, ℕ, List, [], ◌++◌, length, take, drop, Option, sym, ap, subst, ◌∙◌, append_assoc}
use Rattle.std.proofs.lemmas.List.{append-nil, take-append-drop}
use Rattle.std.proofs.Math.Seq.{take-append_seam}
use Rattle.std.specs.Io.KnownBytes.{Appends}

pub to_nil : (a b : Option (List ℕ)) (x : List ℕ) → Appends a b x → Appends a b (x ++ [])
to_nil a b x h = subst (λ (y : List ℕ). Appends a b y) (sym (append-nil x)) h

pub front_none : (a b : Option (List ℕ)) (x y : List ℕ) (n : ℕ) → n ≡ 0 → Appends a b (x ++ take n y) → Appends a b x
front_none a b x y n zero h =
    let all : Appends a b (x ++ []) = subst (λ (k : ℕ). Appends a b (x ++ take k y)) zero h in
    subst (λ (z : List ℕ). Appends a b z) (append-nil x) all

-- a front of a list, by its length as a front of more
pub seam : (j : ℕ) (xs ys : List ℕ) → take (length (take j xs)) (xs ++ ys) ≡ take j xs
seam j xs ys =
    ap (λ (l : List ℕ). take (length (take j xs)) (l ++ ys)) (sym (take-append-drop j xs))
    ∙ ap (λ (l : List ℕ). take (length (take j xs)) l) (append_assoc (take j xs) (drop j xs) ys) ∙ take-append_seam (take j xs) (drop j xs ++ ys)
