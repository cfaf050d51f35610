-- What a change of one list means for the words of all.
use Rattle.std.proofs.Common.{◌≡◌, ◌⊎◌, ℕ, suc, zero, ◌+◌, ◌<◌, ◌≤◌, ◌==◌, ◌||◌, Bool, true, false, not, cond, List, [], ◌∷◌, map, replicate, length, Some, slice_get, slice_index_or, slice_set, arith, refl, sym, ◌∙◌, ap, subst, inl, inr}
use Rattle.std.proofs.lemmas.Bool.{cases_Bool, cases_eq, cases_lt, eq-eqb, ne_eqb, eqb-true, or_left, or_right, false_from_ne_true, both_ways}
use Rattle.std.proofs.lemmas.List.{length-set, length-map, length-replicate, get_or-set_same, get_or-set_other, get_or-map, get_or_past, get_or-replicate}
use Rattle.swi_links.specs.Chains.{ChainsData, Has, IsApart, IsFree, list_of, without}
use Rattle.swi_links.specs.Laws.{has_without, without_has}
use Rattle.swi_links.specs.Holders.{has, holder_of}

pub has_true : (xs : List ℕ) (x : ℕ) → has xs x ≡ true → Has xs x
has_true [] x e = absurd (cc)
has_true (y ∷ ys) x e = elim (cases_Bool (y == x)) [
  | inl t ↦ inl (eqb-true y x t)
  | inr f ↦ inr (has_true ys x (sym (ap (λ (b : Bool). b || has ys x) f) ∙ e))
]

pub true_has : (xs : List ℕ) (x : ℕ) → Has xs x → has xs x ≡ true
true_has [] x h = absurd h
true_has (y ∷ ys) x (inl e) = or_left (y == x) (has ys x) (eq-eqb y x e)
true_has (y ∷ ys) x (inr h) = or_right (y == x) (has ys x) (true_has ys x h)

pub has_false : (xs : List ℕ) (x : ℕ) → (Has xs x → ⊥) → has xs x ≡ false
has_false xs x lacks = false_from_ne_true (has xs x) (λ (e : has xs x ≡ true). lacks (has_true xs x e))

-- two lists have a word alike
pub has_alike : (xs ys : List ℕ) (x : ℕ) → (Has xs x → Has ys x) → (Has ys x → Has xs x) → has xs x ≡ has ys x
has_alike xs ys x f g = elim (cases_Bool (has ys x)) [
  | inl t ↦ true_has xs x (g (has_true ys x t)) ∙ sym t
  | inr e ↦ has_false xs x (λ (h : Has xs x). both_ways (has ys x) e (true_has ys x (f h))) ∙ sym e
]

holder_hit : (xs : List ℕ) (rest : List (List ℕ)) (x : ℕ) → has xs x ≡ true → holder_of (xs ∷ rest) x ≡ 0
unfolding holder_of
holder_hit xs rest x e = rw e refl

holder_miss : (xs : List ℕ) (rest : List (List ℕ)) (x : ℕ) → has xs x ≡ false → holder_of (xs ∷ rest) x ≡ holder_of rest x + 1
unfolding holder_of
holder_miss xs rest x e = rw e refl

holder_none : (x : ℕ) → holder_of [] x ≡ 0
unfolding holder_of
holder_none x = refl

pub holder_most : (ls : List (List ℕ)) (x : ℕ) → holder_of ls x ≤ length ls
holder_most [] x = omega (arith, holder_none x)
holder_most (xs ∷ ls) x = elim (cases_Bool (has xs x)) [
  | inl t ↦ omega (arith, holder_hit xs ls x t)
  | inr e ↦ omega (arith, holder_miss xs ls x e, holder_most ls x)
]

-- a list that has the word is not before the first one that does
pub holder_below : (ls : List (List ℕ)) (x s : ℕ) → Has (slice_index_or ls s []) x → holder_of ls x < length ls
holder_below [] x s h = absurd h
holder_below (xs ∷ ls) x zero h = omega (arith, holder_hit xs ls x (true_has xs x h))
holder_below (xs ∷ ls) x (suc s) h = elim (cases_Bool (has xs x)) [
  | inl t ↦ omega (arith, holder_hit xs ls x t)
  | inr e ↦ omega (arith, holder_miss xs ls x e, holder_below ls x s h)
]

pub holder_has : (ls : List (List ℕ)) (x : ℕ) → holder_of ls x < length ls → Has (slice_index_or ls (holder_of ls x) []) x
holder_has [] x lt = absurd (omega arith)
holder_has (xs ∷ ls) x lt = elim (cases_Bool (has xs x)) [
  | inl t ↦ subst (λ (n : ℕ). Has (slice_index_or (xs ∷ ls) n []) x) (sym (holder_hit xs ls x t)) (has_true xs x t)
  | inr e ↦ subst (λ (n : ℕ). Has (slice_index_or (xs ∷ ls) n []) x) (sym (holder_miss xs ls x e ∙ plus (holder_of ls x))) (holder_has ls x (omega (arith, holder_miss xs ls x e)))
]
  where
    plus : (n : ℕ) → n + 1 ≡ suc n
    plus n = omega arith

pub holder_free : (ls : List (List ℕ)) (x : ℕ) → ((s : ℕ) → Has (slice_index_or ls s []) x → ⊥) → holder_of ls x ≡ length ls
holder_free ls x lacks = elim (cases_lt (holder_of ls x) (length ls)) [
  | inl lt ↦ absurd (lacks (holder_of ls x) (holder_has ls x lt))
  | inr ge ↦ omega (arith, holder_most ls x)
]

-- the one list that has it
pub holder_one : (ls : List (List ℕ)) (x s : ℕ) → Has (slice_index_or ls s []) x → ((t : ℕ) → Has (slice_index_or ls t []) x → t ≡ s) → holder_of ls x ≡ s
holder_one ls x s h one = one (holder_of ls x) (holder_has ls x (holder_below ls x s h))

pub holder_alike : (ls ms : List (List ℕ)) (x : ℕ) → length ls ≡ length ms → ((s : ℕ) → has (slice_index_or ls s []) x ≡ has (slice_index_or ms s []) x) → holder_of ls x ≡ holder_of ms x
holder_alike [] [] x long alike = refl
holder_alike [] (ys ∷ ms) x long alike = absurd (omega arith)
holder_alike (xs ∷ ls) [] x long alike = absurd (omega arith)
holder_alike (xs ∷ ls) (ys ∷ ms) x long alike = elim (cases_Bool (has ys x)) [
  | inl t ↦ holder_hit xs ls x (alike 0 ∙ t) ∙ sym (holder_hit ys ms x t)
  | inr e ↦ holder_miss xs ls x (alike 0 ∙ e) ∙ ap (λ (n : ℕ). n + 1) (holder_alike ls ms x (omega arith) (λ s. alike (suc s))) ∙ sym (holder_miss ys ms x e)
]

-- a word that no list has is put in front of one
abbrev pub linked_lists : List (List ℕ) → ℕ → ℕ → List (List ℕ)
linked_lists ls at list = slice_set ls list (at ∷ slice_index_or ls list [])

pub linked_here : (ls : List (List ℕ)) (at list : ℕ) → list < length ls → ((s : ℕ) → Has (slice_index_or ls s []) at → ⊥) → holder_of (linked_lists ls at list) at ≡ list
linked_here ls at list lt free =
    holder_one (linked_lists ls at list) at list (subst (λ (xs : List ℕ). Has xs at) (sym (get_or-set_same ls list (at ∷ slice_index_or ls list []) [] lt)) (inl refl))
    (λ t h. elim (cases_eq t list) [
      | inl e ↦ e
      | inr ne ↦ absurd (free t (subst (λ (xs : List ℕ). Has xs at) (get_or-set_other ls list t (at ∷ slice_index_or ls list []) [] ne) h))
    ])

pub linked_other : (ls : List (List ℕ)) (at list x : ℕ) → list < length ls → (x ≡ at → ⊥) → holder_of (linked_lists ls at list) x ≡ holder_of ls x
linked_other ls at list x lt ne = holder_alike (linked_lists ls at list) ls x (length-set ls list (at ∷ slice_index_or ls list [])) (λ s. elim (cases_eq s list) [
  | inl e ↦ ap (λ (n : ℕ). has (slice_index_or (linked_lists ls at list) n []) x) e ∙ ap (λ (xs : List ℕ). has xs x) (get_or-set_same ls list (at ∷ slice_index_or ls list []) [] lt)
      ∙ ap (λ (b : Bool). b || has (slice_index_or ls list []) x) (ne_eqb at x (λ (f : at ≡ x). ne (sym f))) ∙ ap (λ (n : ℕ). has (slice_index_or ls n []) x) (sym e)
  | inr f ↦ ap (λ (xs : List ℕ). has xs x) (get_or-set_other ls list s (at ∷ slice_index_or ls list []) [] f)
])

-- a word is taken out of all lists
abbrev pub unlinked_lists : List (List ℕ) → ℕ → List (List ℕ)
unlinked_lists ls at = map (λ (xs : List ℕ). without at xs) ls

unlinked_list : (ls : List (List ℕ)) (at s : ℕ) → slice_index_or (unlinked_lists ls at) s [] ≡ without at (slice_index_or ls s [])
unlinked_list ls at s = elim (cases_lt s (length ls)) [
  | inl lt ↦ get_or-map (λ (xs : List ℕ). without at xs) ls s [] [] lt
  | inr past ↦ get_or_past (unlinked_lists ls at) s [] (omega (arith, length-map ls (λ (xs : List ℕ). without at xs))) ∙ sym (ap (λ (xs : List ℕ). without at xs) (get_or_past ls s [] past))
]

pub unlinked_here : (ls : List (List ℕ)) (at : ℕ) → holder_of (unlinked_lists ls at) at ≡ length ls
unlinked_here ls at =
    holder_free (unlinked_lists ls at) at (λ s h. (has_without at at (slice_index_or ls s []) (subst (λ (xs : List ℕ). Has xs at) (unlinked_list ls at s) h)).1 refl)
    ∙ length-map ls (λ (xs : List ℕ). without at xs)

pub unlinked_other : (ls : List (List ℕ)) (at x : ℕ) → (x ≡ at → ⊥) → holder_of (unlinked_lists ls at) x ≡ holder_of ls x
unlinked_other ls at x ne = holder_alike (unlinked_lists ls at) ls x (length-map ls (λ (xs : List ℕ). without at xs)) (λ s.
    ap (λ (xs : List ℕ). has xs x) (unlinked_list ls at s)
    ∙ has_alike (without at (slice_index_or ls s [])) (slice_index_or ls s []) x (λ h. (has_without at x (slice_index_or ls s []) h).0) (λ h. without_has at x (slice_index_or ls s []) h ne))

-- a list that loses a word is shorter
shorter_in : (t : Bool) (at y : ℕ) (ys : List ℕ) → (y == at) ≡ t → (length (without at ys) ≤ length ys) → (y ≡ at) ⊎ (length (without at ys) < length ys) →
    length (cond (not t) (y ∷ without at ys) (without at ys)) < length (y ∷ ys)
shorter_in true at y ys e le w = omega (arith, le)
shorter_in false at y ys e le (inl is) = absurd (both_ways (y == at) e (eq-eqb y at is))
shorter_in false at y ys e le (inr lt) = omega (arith, lt)

without_short : (at : ℕ) (xs : List ℕ) → length (without at xs) ≤ length xs
without_short at [] = omega arith
without_short at (y ∷ ys) = either (y == at) at y ys (without_short at ys)
  where
    either : (t : Bool) (at y : ℕ) (ys : List ℕ) → length (without at ys) ≤ length ys → length (cond (not t) (y ∷ without at ys) (without at ys)) ≤ length (y ∷ ys)
    either true at y ys le = omega (arith, le)
    either false at y ys le = omega (arith, le)

pub without_shorter : (at : ℕ) (xs : List ℕ) → Has xs at → length (without at xs) < length xs
without_shorter at [] h = absurd h
without_shorter at (y ∷ ys) (inl e) = shorter_in (y == at) at y ys refl (without_short at ys) (inl e)
without_shorter at (y ∷ ys) (inr h) = shorter_in (y == at) at y ys refl (without_short at ys) (inr (without_shorter at ys h))

pub unlinked_shorter : (c d : ChainsData) (at list : ℕ) → d ≡ record c { lists = unlinked_lists c.lists at } → Has (list_of c list) at → length (list_of d list) < length (list_of c list)
unlinked_shorter c d at list e h =
    omega (arith, ap (λ (x : ChainsData). length (list_of x list)) e, ap (λ (xs : List ℕ). length xs) (unlinked_list c.lists at list), without_shorter at (list_of c list) h)

-- a word without a holder is free
pub unheld_free : (c : ChainsData) (at : ℕ) → length c.lists ≤ holder_of c.lists at → IsFree c at
unheld_free c at free = λ s h. omega (arith, holder_below c.lists at s h)

-- the empty lists
pub holder_empty : (n x : ℕ) → holder_of (replicate n []) x ≡ n
holder_empty n x = holder_free (replicate n []) x (λ s h. nothing n s x h) ∙ length-replicate {A = List ℕ} n []
  where
    nothing : (n s x : ℕ) → Has (slice_index_or (replicate n []) s []) x → ⊥
    nothing n s x h = elim (cases_lt s n) [
      | inl lt ↦ subst (λ (xs : List ℕ). Has xs x) (get_or-replicate {A = List ℕ} n s [] [] lt) h
      | inr past ↦ subst (λ (xs : List ℕ). Has xs x) (get_or_past {X = List ℕ} (replicate n []) s [] (omega (arith, length-replicate {A = List ℕ} n []))) h
    ]

-- the list of a word that stands first in it
pub first_has : (xs : List ℕ) (x : ℕ) → Some x ≡ slice_get xs 0 → Has xs x
first_has [] x e = absurd (cc)
first_has (y ∷ ys) x e = inl (cc)

-- the list that has a word is the one that holds it
pub holder_is : (c : ChainsData) (list x : ℕ) → IsApart c → Has (list_of c list) x → holder_of c.lists x ≡ list
holder_is c list x apart h = holder_one c.lists x list h (λ t h'. apart.one t list x h' h)
