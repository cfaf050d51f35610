-- The queue and the lists keep their shape.
use Rattle.std.proofs.Common.{◌≡◌, ◌⊎◌, ℕ, suc, zero, ◌<◌, ◌≤◌, List, [], ◌∷◌, ◌++◌, remove, filter, Bool, true, false, cond, length, slice_index, slice_get, slice_set, Some, arith, refl, sym, ◌∙◌, ap, subst, inl, inr}
use Rattle.std.proofs.lemmas.List.{length-set, get_or-set_other, get_or-set_same}
use Rattle.std.proofs.lemmas.Bool.{cases_eq}
use Rattle.swi_rom.specs.Record.{Has}
use Rattle.swi_engine.specs.Sound.{Homed, Distinct, Apart}
use Rattle.swi_engine.specs.declared.joints.Joint.{Joint}

pub has_left : {X : Type 0} (xs ys : List X) (x : X) → Has xs x → Has (xs ++ ys) x
has_left [] ys x h = absurd h
has_left (z ∷ xs) ys x (inl e) = inl e
has_left (z ∷ xs) ys x (inr h) = inr (has_left xs ys x h)

pub has_right : {X : Type 0} (xs ys : List X) (x : X) → Has ys x → Has (xs ++ ys) x
has_right [] ys x h = h
has_right (z ∷ xs) ys x h = inr (has_right xs ys x h)

pub has_either : {X : Type 0} (xs ys : List X) (x : X) → Has (xs ++ ys) x → Has xs x ⊎ Has ys x
has_either [] ys x h = inr h
has_either (z ∷ xs) ys x (inl e) = inl (inl e)
has_either (z ∷ xs) ys x (inr h) = elim (has_either xs ys x h) [ inl a ↦ inl (inr a) | inr b ↦ inr b ]

pub has_last : {X : Type 0} (xs : List X) (y x : X) → Has (xs ++ y ∷ []) x → Has xs x ⊎ (y ≡ x)
has_last xs y x h = elim (has_either xs (y ∷ []) x h) [ inl a ↦ inl a | inr b ↦ elim b [ inl e ↦ inr e | inr n ↦ absurd n ] ]

pub has_here : {X : Type 0} (xs : List X) (y : X) → Has (xs ++ y ∷ []) y
has_here xs y = has_right xs (y ∷ []) y (inl refl)

-- an element, by its index
pub has_index : (xs : List ℕ) (k : ℕ) → k < length xs → Has xs (slice_index xs k)
has_index [] k lt = absurd (omega arith)
has_index (x ∷ xs) zero lt = inl refl
has_index (x ∷ xs) (suc k) lt = inr (has_index xs k (omega arith))

pub has_get : {X : Type 0} (xs : List X) (k : ℕ) (x : X) → slice_get xs k ≡ Some x → Has xs x
has_get [] zero x e = absurd cc
has_get [] (suc k) x e = absurd cc
has_get (y ∷ ys) zero x e = inl cc
has_get (y ∷ ys) (suc k) x e = inr (has_get ys k x e)

-- what is left of a list without the element at an index
pub remove_has : {X : Type 0} (xs : List X) (k : ℕ) (x : X) → Has (remove xs k) x → Has xs x
remove_has [] zero x h = h
remove_has [] (suc k) x h = h
remove_has (y ∷ ys) zero x h = inr h
remove_has (y ∷ ys) (suc k) x (inl e) = inl e
remove_has (y ∷ ys) (suc k) x (inr h) = inr (remove_has ys k x h)

pub length_filter : {X : Type 0} (p : X → Bool) (xs : List X) → length (filter p xs) ≤ length xs
length_filter p [] = omega arith
length_filter p (x ∷ xs) = one (p x) x (filter p xs) (length xs) (length_filter p xs)
  where
    one : {X : Type 0} (t : Bool) (x : X) (ys : List X) (n : ℕ) → length ys ≤ n → length (cond t (x ∷ ys) ys) ≤ suc n
    one true x ys n le = omega (arith, le)
    one false x ys n le = omega (arith, le)

-- each element but the one at an index is left
pub has_remove : {X : Type 0} (xs : List X) (k : ℕ) (x y : X) → slice_get xs k ≡ Some y → Has xs x → Has (remove xs k) x ⊎ (y ≡ x)
has_remove [] zero x y e h = absurd h
has_remove [] (suc k) x y e h = absurd h
has_remove (z ∷ xs) zero x y e (inl s) = inr (let same : z ≡ y = cc in sym same ∙ s)
has_remove (z ∷ xs) zero x y e (inr h) = inl h
has_remove (z ∷ xs) (suc k) x y e (inl s) = inl (inl s)
has_remove (z ∷ xs) (suc k) x y e (inr h) = elim (has_remove xs k x y e h) [ inl a ↦ inl (inr a) | inr b ↦ inr b ]

pub filter_has : {X : Type 0} (p : X → Bool) (xs : List X) (x : X) → Has (filter p xs) x → Has xs x × (p x ≡ true)
filter_has p [] x h = absurd h
filter_has p (y ∷ ys) x h = one (p y) refl (λ r. filter_has p ys x r) h
  where
    one : (t : Bool) → p y ≡ t → (Has (filter p ys) x → Has ys x × (p x ≡ true)) → Has (cond t (y ∷ filter p ys) (filter p ys)) x → Has (y ∷ ys) x × (p x ≡ true)
    one true e rest (inl s) = (inl s, subst (λ z. p z ≡ true) s e)
    one true e rest (inr h) = let w = rest h in (inr w.0, w.1)
    one false e rest h = let w = rest h in (inr w.0, w.1)

pub has_filter : {X : Type 0} (p : X → Bool) (xs : List X) (x : X) → Has xs x → p x ≡ true → Has (filter p xs) x
has_filter p [] x h t = absurd h
has_filter p (y ∷ ys) x (inl s) t = rw (ap p s ∙ t) (inl s)
has_filter p (y ∷ ys) x (inr h) t = one (p y) (has_filter p ys x h t)
  where
    one : (t : Bool) → Has (filter p ys) x → Has (cond t (y ∷ filter p ys) (filter p ys)) x
    one true h = inr h
    one false h = h

-- of links that stand apart the one at an index stands apart from the others
pub removed_apart : (js : List Joint) (k : ℕ) (j i : Joint) → Apart js → slice_get js k ≡ Some j → Has (remove js k) i → i.at ≡ j.at → ⊥
removed_apart [] zero j i a e h s = absurd h
removed_apart [] (suc k) j i a e h s = absurd h
removed_apart (l ∷ ls) zero j i a e h s = let same : l ≡ j = cc in a.0 i h (s ∙ ap (λ (x : Joint). x.at) (sym same))
removed_apart (l ∷ ls) (suc k) j i a e (inl o) s = a.0 j (has_get ls k j e) (sym s ∙ ap (λ (x : Joint). x.at) (sym o))
removed_apart (l ∷ ls) (suc k) j i a e (inr h) s = removed_apart ls k j i a.1 e h s

pub apart_remove : (js : List Joint) (k : ℕ) → Apart js → Apart (remove js k)
apart_remove [] zero a = a
apart_remove [] (suc k) a = a
apart_remove (l ∷ ls) zero a = a.1
apart_remove (l ∷ ls) (suc k) a = (λ i h s. a.0 i (remove_has ls k i h) s, apart_remove ls k a.1)

pub apart_filter : (p : Joint → Bool) (js : List Joint) → Apart js → Apart (filter p js)
apart_filter p [] a = a
apart_filter p (l ∷ ls) a = one (p l) (apart_filter p ls a.1)
  where
    one : (t : Bool) → Apart (filter p ls) → Apart (cond t (l ∷ filter p ls) (filter p ls))
    one true r = (λ i h s. a.0 i (filter_has p ls i h).0 s, r)
    one false r = r

pub distinct_remove : {X : Type 0} (xs : List X) (k : ℕ) → Distinct xs → Distinct (remove xs k)
distinct_remove [] zero d = d
distinct_remove [] (suc k) d = d
distinct_remove (x ∷ xs) zero d = d.1
distinct_remove (x ∷ xs) (suc k) d = (λ h. d.0 (remove_has xs k x h), distinct_remove xs k d.1)

pub removed_distinct : (xs : List ℕ) (k : ℕ) → Distinct xs → k < length xs → Has (remove xs k) (slice_index xs k) → ⊥
removed_distinct [] k d lt h = absurd (omega arith)
removed_distinct (x ∷ xs) zero d lt h = d.0 h
removed_distinct (x ∷ xs) (suc k) d lt (inl e) = d.0 (subst (λ y. Has xs y) (sym e) (has_index xs k (omega arith)))
removed_distinct (x ∷ xs) (suc k) d lt (inr h) = removed_distinct xs k d.1 (omega arith) h

pub get_index : (xs : List ℕ) (k : ℕ) → k < length xs → slice_get xs k ≡ Some (slice_index xs k)
get_index [] k lt = absurd (omega arith)
get_index (x ∷ xs) zero lt = refl
get_index (x ∷ xs) (suc k) lt = get_index xs k (omega arith)

pub distinct_append : {X : Type 0} (xs : List X) (y : X) → Distinct xs → (Has xs y → ⊥) → Distinct (xs ++ y ∷ [])
distinct_append [] y d none = (λ h. absurd h, tt)
distinct_append (x ∷ xs) y d none =
    (λ h. elim (has_last xs y x h) [ inl a ↦ d.0 a | inr e ↦ none (inl (sym e)) ], distinct_append xs y d.1 (λ h. none (inr h)))

-- the block at a place of the queue leaves
pub left_homed : (slots : ℕ) (queue blocks homes : List ℕ) (k : ℕ) → Homed slots queue blocks homes → Distinct queue → k < length queue →
    Homed slots (remove queue k) blocks (slice_set homes (slice_index blocks (slice_index queue k)) slots)
left_homed slots queue blocks homes k h once lt =
    let b : ℕ = slice_index blocks (slice_index queue k) in
    let long = length-set homes (slice_index blocks (slice_index queue k)) slots in
    let here = has_index queue k lt in record {
      known = λ n has. omega (arith, h.known n (remove_has queue k n has), long);
      home = λ n has.
          let old = remove_has queue k n has in
          get_or-set_other homes (slice_index blocks (slice_index queue k)) (slice_index blocks n) slots 0 (λ (s : slice_index blocks n ≡ slice_index blocks (slice_index queue k)).
          let same : n ≡ slice_index queue k = sym (h.home n old) ∙ ap (λ (c : ℕ). slice_index homes c) s ∙ h.home (slice_index queue k) here in
          removed_distinct queue k once lt (subst (λ (m : ℕ). Has (remove queue k) m) same has)) ∙ h.home n old;
      only = λ c inside low. elim (cases_eq c (slice_index blocks (slice_index queue k))) [
        | inl s ↦ absurd (omega (arith, low, ap (λ (x : ℕ). slice_index (slice_set homes (slice_index blocks (slice_index queue k)) slots) x) s, get_or-set_same homes (slice_index blocks (slice_index queue k)) slots 0 (h.known (slice_index queue k) here)))
        | inr ne ↦ (
            let same : slice_index (slice_set homes (slice_index blocks (slice_index queue k)) slots) c ≡ slice_index homes c = get_or-set_other homes (slice_index blocks (slice_index queue k)) c slots 0 ne in
            let w = h.only c (omega (arith, inside, long)) (omega (arith, low, same)) in
            let stays : Has (remove queue k) (slice_index homes c) = elim (has_remove queue k (slice_index homes c) (slice_index queue k) (get_index queue k lt) w.0) [
              | inl r ↦ r
              | inr s ↦ absurd (ne (sym w.1 ∙ ap (λ (m : ℕ). slice_index blocks m) (sym s)))
            ] in
            subst (λ (m : ℕ). Has (remove queue k) m × (slice_index blocks m ≡ c)) (sym same) (stays, w.1))
      ];
    }

-- a block takes a slot
pub placed_homed : (slots : ℕ) (queue blocks homes : List ℕ) (n b : ℕ) → Homed slots queue blocks homes → (Has queue n → ⊥) → n < length blocks → b < length homes → ((m : ℕ) → Has queue m → slice_index blocks m ≡ b → ⊥) →
    Homed slots (queue ++ n ∷ []) (slice_set blocks n b) (slice_set homes b n)
placed_homed slots queue blocks homes n b h free lt known absent =
    let long = length-set homes b n in
    let old : (m : ℕ) → Has queue m → slice_index (slice_set blocks n b) m ≡ slice_index blocks m = λ m has. get_or-set_other blocks n m b 0 (λ (s : m ≡ n). free (subst (λ (x : ℕ). Has queue x) s has)) in
    let new : slice_index (slice_set blocks n b) n ≡ b = get_or-set_same blocks n b 0 lt in
    let here : slice_index (slice_set homes b n) b ≡ n = get_or-set_same homes b n 0 known in record {
      known = λ m has. elim (has_last queue n m has) [
        | inl o ↦ omega (arith, h.known m o, old m o, long)
        | inr s ↦ omega (arith, known, new, long, ap (λ (x : ℕ). slice_index (slice_set blocks n b) x) s)
      ];
      home = λ m has. elim (has_last queue n m has) [
        | inl o ↦ ap (λ (c : ℕ). slice_index (slice_set homes b n) c) (old m o) ∙ get_or-set_other homes b (slice_index blocks m) n 0 (absent m o) ∙ h.home m o
        | inr s ↦ subst (λ (x : ℕ). slice_index (slice_set homes b n) (slice_index (slice_set blocks n b) x) ≡ x) s (ap (λ (c : ℕ). slice_index (slice_set homes b n) c) new ∙ here)
      ];
      only = λ c inside low. elim (cases_eq c b) [
        | inl s ↦ subst (λ (x : ℕ). Has (queue ++ n ∷ []) (slice_index (slice_set homes b n) x) × (slice_index (slice_set blocks n b) (slice_index (slice_set homes b n) x) ≡ x)) (sym s)
            (subst (λ (m : ℕ). Has (queue ++ n ∷ []) m × (slice_index (slice_set blocks n b) m ≡ b)) (sym here) (has_here queue n, new))
        | inr ne ↦ (
            let same : slice_index (slice_set homes b n) c ≡ slice_index homes c = get_or-set_other homes b c n 0 ne in
            let w = h.only c (omega (arith, inside, long)) (omega (arith, low, same)) in
            subst (λ (m : ℕ). Has (queue ++ n ∷ []) m × (slice_index (slice_set blocks n b) m ≡ c)) (sym same) (has_left queue (n ∷ []) (slice_index homes c) w.0, old (slice_index homes c) w.0 ∙ w.1))
      ];
    }
