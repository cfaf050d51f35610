-- Texts that are written piece by piece, a piece for each element of a list.
use Rattle.std.proofs.Common.{◌≡◌, ℕ, zero, suc, ◌+◌, ◌-◌, ◌<◌, List, [], ◌∷◌, ◌++◌, take, drop, slice_get, arith, refl, sym, ap, subst, Option, Some}
use Rattle.std.proofs.lemmas.List.{append-nil}
use Rattle.std.proofs.lemmas.Grind.{flat_map-append}
use Rattle.std.specs.Io.KnownBytes.{Appends}
use Rattle.std.specs.List.{flat_map}
use Rattle.swi_outside.specs.Sink.{AppendsPrefix}
use Rattle.swi_outside.specs.Laws.{Appends-none, Appends-append}
use Rattle.swi_outside.proofs.SinkLemmas.{prefix_behind}
use Rattle.swi_report.specs.State.{numbers}

-- one more piece
pieces_more : {X : Type 0} (f : X → List ℕ) (front : List X) (x : X) (o p q : Option (List ℕ))
    → Appends o p (flat_map f front) → Appends p q (f x) → Appends o q (flat_map f (front ++ x ∷ []))
pieces_more f front x o p q written piece =
    rw (flat_map-append f front (x ∷ []), append-nil (f x)) (Appends-append o p q (flat_map f front) (f x) written piece)

-- a piece that could not be written whole
pieces_broken : {X : Type 0} (f : X → List ℕ) (front : List X) (x : X) (rest : List X) (o p q : Option (List ℕ))
    → Appends o p (flat_map f front) → AppendsPrefix p q (f x) → AppendsPrefix o q (flat_map f (front ++ x ∷ rest))
pieces_broken f front x rest o p q written part =
    rw (flat_map-append f front (x ∷ rest)) (prefix_behind o p q (flat_map f front) (f x) (flat_map f rest) written part)

-- ---- a piece for each element

parted : {X : Type 0} (xs : List X) (i : ℕ) (x : X) → slice_get xs i ≡ Some x → xs ≡ take i xs ++ x ∷ drop (i + 1) xs
parted [] i x at = cc
parted (y ∷ ys) zero x at = cc
parted (y ∷ ys) (suc i) x at =
    let same : suc i + 1 ≡ suc (i + 1) = omega arith in
    rw same (ap (λ l. y ∷ l) (parted ys i x at))

one_more : {X : Type 0} (xs : List X) (i : ℕ) (x : X) → slice_get xs i ≡ Some x → take (i + 1) xs ≡ take i xs ++ x ∷ []
one_more [] i x at = cc
one_more (y ∷ ys) zero x at = cc
one_more (y ∷ ys) (suc i) x at =
    let same : suc i + 1 ≡ suc (i + 1) = omega arith in
    rw same (ap (λ l. y ∷ l) (one_more ys i x at))

pub each_more : {X : Type 0} (f : X → List ℕ) (xs : List X) (i : ℕ) (x : X) (o p q : Option (List ℕ)) → slice_get xs i ≡ Some x
    → Appends o p (flat_map f (take i xs)) → Appends p q (f x) → Appends o q (flat_map f (take (i + 1) xs))
each_more f xs i x o p q at written piece = rw (one_more xs i x at) (pieces_more f (take i xs) x o p q written piece)

pub each_broken : {X : Type 0} (f : X → List ℕ) (xs : List X) (i : ℕ) (x : X) (o p q : Option (List ℕ)) → slice_get xs i ≡ Some x
    → Appends o p (flat_map f (take i xs)) → AppendsPrefix p q (f x) → AppendsPrefix o q (flat_map f xs)
each_broken f xs i x o p q at written part =
    subst (λ l. AppendsPrefix o q (flat_map f l)) (sym (parted xs i x at))
    (pieces_broken f (take i xs) x (drop (i + 1) xs) o p q written part)

-- ---- a piece for each number

pub numbers_parted : (first k rest : ℕ) → numbers first (k + suc rest) ≡ numbers first k ++ (first + k) ∷ numbers (first + (k + 1)) rest
unfolding numbers
numbers_parted first zero rest =
    let same : zero + suc rest ≡ suc rest = omega arith in
    let here : first + zero ≡ first = omega arith in
    rw (same, here) refl
numbers_parted first (suc k) rest =
    let same : suc k + suc rest ≡ suc (k + suc rest) = omega arith in
    let here : first + suc k ≡ (first + 1) + k = omega arith in
    let next : first + (suc k + 1) ≡ (first + 1) + (k + 1) = omega arith in
    rw (same, here, next) (ap (λ l. first ∷ l) (numbers_parted (first + 1) k rest))

pub numbered_none : (f : ℕ → List ℕ) (first k : ℕ) (o : Option (List ℕ)) → k ≡ 0 → Appends o o (flat_map f (numbers first k))
unfolding numbers
numbered_none f first k o none = rw none (Appends-none o)

pub numbered_more : (f : ℕ → List ℕ) (first k x : ℕ) (o p q : Option (List ℕ)) → first + k ≡ x
    → Appends o p (flat_map f (numbers first k)) → Appends p q (f x) → Appends o q (flat_map f (numbers first (k + 1)))
unfolding numbers
numbered_more f first k x o p q at written piece =
    subst (λ l. Appends o q (flat_map f l)) (sym (numbers_parted first k zero))
    (subst (λ y. Appends o q (flat_map f (numbers first k ++ y ∷ []))) (sym at)
    (pieces_more f (numbers first k) x o p q written piece))

pub numbered_broken : (f : ℕ → List ℕ) (first k x count : ℕ) (o p q : Option (List ℕ)) → first + k ≡ x → k < count
    → Appends o p (flat_map f (numbers first k)) → AppendsPrefix p q (f x) → AppendsPrefix o q (flat_map f (numbers first count))
numbered_broken f first k x count o p q at within written part =
    let all : k + suc (count - (k + 1)) ≡ count = omega arith in
    subst (λ n. AppendsPrefix o q (flat_map f (numbers first n))) all
    (subst (λ l. AppendsPrefix o q (flat_map f l)) (sym (numbers_parted first k (count - (k + 1))))
    (subst (λ y. AppendsPrefix o q (flat_map f (numbers first k ++ y ∷ numbers (first + (k + 1)) (count - (k + 1))))) (sym at)
    (pieces_broken f (numbers first k) x (numbers (first + (k + 1)) (count - (k + 1))) o p q written part)))
