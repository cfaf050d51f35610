-- What is said of sources that tell what is left carries over to every source, for each input from which what it gave may have been read.
use Rattle.std.proofs.Common.{◌≡◌, ℕ, List, [], ◌++◌, Option, Some, None, refl, sym, ap, subst}
use Rattle.swi_outside.specs.Source.{SourceState, HasGiven, MayBeLeft, ReadFrom}
use Rattle.swi_outside.specs.Told.{AsTold, told_as}
use Rattle.swi_outside.proofs.SourceLemmas.{read_told}

-- of an input from which what was given may have been read
pub narrow : {a b : SourceState} {i k l q : List ℕ} → ReadFrom a b i k → ReadFrom (told_as a i) (told_as b k) l q → ReadFrom a b l q
narrow {a} {b} {i} {k} {l} {q} r x = record {
  bytes = x.bytes;
  given = x.given;
  is = x.is;
  left = let same : q ≡ k = x.left in subst (λ (n : List ℕ). MayBeLeft b.left n) (sym same) r.left;
}

pub given_as : {a b : SourceState} {i k : List ℕ} → ReadFrom a b i k → HasGiven (told_as a i) (told_as b k)
given_as r = (r.bytes, record { given = r.given; left = r.is })

-- of a source that tells what is left it is just what is said of it
same_as : (s : SourceState) (left : List ℕ) → s.left ≡ Some left → told_as s left ≡ s
same_as s left told = ap (λ (o : Option (List ℕ)). let x : SourceState = record s { left = o } in x) (sym told)

pub as_told_said : {a b : SourceState} (P : SourceState → SourceState → Type 0) {left : List ℕ} → HasGiven a b → a.left ≡ Some left → AsTold a b P → P a b
as_told_said {a} {b} P {left} gave told p =
    let t = read_told gave told in
    subst (λ x. P x b) (same_as a left told) (subst (λ y. P (told_as a left) y) (same_as b t.0 t.1) (p left t.0 t.2))

-- there is always such an input, so what doesn't speak of it stands
some_input : (a : List ℕ) (b : SourceState) (bytes : List ℕ) (o : Option (List ℕ)) → b.left ≡ o → b.given ≡ a ++ bytes → (rest : List ℕ) × MayBeLeft b.left rest
some_input a b bytes None is given = ([], subst (λ o. MayBeLeft o []) (sym is) tt)
some_input a b bytes (Some rest) is given = (rest, subst (λ o. MayBeLeft o rest) (sym is) refl)

pub as_told_stands : {a b : SourceState} {C : Type 0} → HasGiven a b → AsTold a b (λ x y. C) → C
as_told_stands {a} {b} gave p =
    let s = some_input a.given b gave.0 b.left refl gave.1.given in
    p (gave.0 ++ s.0) s.0 (record { bytes = gave.0; given = gave.1.given; is = refl; left = s.1 })

-- what is said of each input, of some: there always is one
pub told_some : {a b : SourceState} (P : SourceState → SourceState → Type 0) → HasGiven a b → AsTold a b P → (input rest : List ℕ) × P (told_as a input) (told_as b rest)
told_some {a} {b} P gave all = as_told_stands {C = (input rest : List ℕ) × P (told_as a input) (told_as b rest)} gave (λ input rest read. (input, rest, all input rest read))
