-- Laws of the fetches of a run, in the count of sets of what stands before it.
use Rattle.std.proofs.Common.{◌≡◌, ℕ, suc, ◌+◌, List, [], ◌∷◌, ◌++◌, length, reverse, refl, ◌∙◌, sym, ap, arith}
use Rattle.std.proofs.lemmas.List.{reverse-append}
use Rattle.swi_outside.specs.CacheRam.{Fetch, fetch, since, later}
use Rattle.swi_outside.specs.Causes.{risen}

pub since_append : (n : ℕ) (xs ys : List Fetch) → since n (xs ++ ys) ≡ since n xs ++ since n ys
since_append n [] ys = refl
since_append n (x ∷ xs) ys = ap (λ (l : List Fetch). fetch x.index (risen n x.sets_before) x.word ∷ l) (since_append n xs ys)

pub since_reverse : (n : ℕ) (xs : List Fetch) → since n (reverse xs) ≡ reverse (since n xs)
since_reverse n [] = refl
since_reverse n (x ∷ xs) =
    ap (λ (l : List Fetch). since n l) (reverse-append (x ∷ []) xs)
    ∙ since_append n (reverse xs) (x ∷ [])
    ∙ ap (λ (l : List Fetch). l ++ since n (x ∷ [])) (since_reverse n xs)
    ∙ sym (reverse-append (since n (x ∷ [])) (since n xs))

pub since_length : (n : ℕ) (xs : List Fetch) → length (since n xs) ≡ length xs
since_length n [] = refl
since_length n (x ∷ xs) = ap suc (since_length n xs)

pub later_append : (n : ℕ) (xs ys : List Fetch) → later n (xs ++ ys) ≡ later n xs ++ later n ys
later_append n [] ys = refl
later_append n (x ∷ xs) ys = ap (λ (l : List Fetch). fetch x.index (n + x.sets_before) x.word ∷ l) (later_append n xs ys)

pub later_length : (n : ℕ) (xs : List Fetch) → length (later n xs) ≡ length xs
later_length n [] = refl
later_length n (x ∷ xs) = ap suc (later_length n xs)

-- of a run that begins behind so many sets of another, which began behind so many
pub since_later : (n m : ℕ) (xs : List Fetch) → since n (later m xs) ≡ since (risen n m) xs
since_later n m [] = refl
since_later n m (x ∷ xs) =
    ap (λ (k : ℕ). fetch x.index k x.word ∷ since n (later m xs)) (risen_more n m x.sets_before)
    ∙ ap (λ (l : List Fetch). fetch x.index (risen (risen n m) x.sets_before) x.word ∷ l) (since_later n m xs)
  where
    risen_more : (n m k : ℕ) → risen n (m + k) ≡ risen (risen n m) k
    risen_more n m k = grind arith
