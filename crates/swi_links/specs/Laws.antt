-- What is left of a list without a word.
use Rattle.std.proofs.Common.{◌≡◌, ℕ, ◌==◌, Bool, true, false, not, cond, List, [], ◌∷◌, refl, sym, ◌∙◌, inl, inr}
use Rattle.std.proofs.lemmas.Bool.{both_ways, eq-eqb, ne_eqb}
use Rattle.swi_links.specs.Chains.{Has, without}

without_in : (t : Bool) (at x y : ℕ) (ys rest : List ℕ) → (y == at) ≡ t → (Has rest x → Has ys x × (x ≡ at → ⊥)) → Has (cond (not t) (y ∷ rest) rest) x → Has (y ∷ ys) x × (x ≡ at → ⊥)
without_in true at x y ys rest e f h = let w = f h in (inr w.0, w.1)
without_in false at x y ys rest e f (inl s) = (inl s, λ (z : x ≡ at). both_ways (y == at) e (eq-eqb y at (s ∙ z)))
without_in false at x y ys rest e f (inr h) = let w = f h in (inr w.0, w.1)

pub has_without : (at x : ℕ) (xs : List ℕ) → Has (without at xs) x → Has xs x × (x ≡ at → ⊥)
has_without at x [] h = absurd h
has_without at x (y ∷ ys) h = without_in (y == at) at x y ys (without at ys) refl (has_without at x ys) h

kept_in : (t : Bool) (y x : ℕ) (rest : List ℕ) → Has rest x → Has (cond (not t) (y ∷ rest) rest) x
kept_in true y x rest h = h
kept_in false y x rest h = inr h

kept_here : (t : Bool) (y x : ℕ) (rest : List ℕ) → t ≡ false → y ≡ x → Has (cond (not t) (y ∷ rest) rest) x
kept_here t y x rest e s = rw e (inl s)

pub without_has : (at x : ℕ) (xs : List ℕ) → Has xs x → (x ≡ at → ⊥) → Has (without at xs) x
without_has at x [] h ne = absurd h
without_has at x (y ∷ ys) (inl e) ne = kept_here (y == at) y x (without at ys) (ne_eqb y at (λ (z : y ≡ at). ne (sym e ∙ z))) e
without_has at x (y ∷ ys) (inr h) ne = kept_in (y == at) y x (without at ys) (without_has at x ys h ne)
