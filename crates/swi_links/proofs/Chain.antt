-- Chains through the arrays, when a word joins or leaves.
use Rattle.std.proofs.Common.{◌≡◌, ◌⊎◌, ℕ, suc, zero, ◌<◌, ◌≤◌, ◌==◌, Bool, true, false, not, cond, List, [], ◌∷◌, length, slice_index, slice_set, arith, refl, sym, ◌∙◌, ap, subst, inl, inr}
use Rattle.std.proofs.lemmas.Bool.{lt-ltb, le-ltb, ne_eqb, eq-eqb}
use Rattle.std.proofs.lemmas.List.{length-set, get_or-set_same, get_or-set_other}
use Rattle.swi_links.specs.Laws.{has_without}
use Rattle.swi_links.specs.Chains.{Has, without, Distinct}
use Rattle.swi_links.specs.Tied.{walk, Chain}
use Rattle.swi_links.proofs.Numbers.{distinct_few}

pub walk_chain : (N P : List ℕ) (none q h fuel : ℕ) (L : List ℕ) → Chain N P none q h L → length N ≡ none → length L ≤ fuel → walk N fuel h ≡ L
unfolding walk
walk_chain N P none q h zero [] c long le = refl
walk_chain N P none q h (suc n) [] c long le = rw (le-ltb h (length N) (omega arith)) refl
walk_chain N P none q h zero (x ∷ xs) c long le = absurd (omega arith)
walk_chain N P none q h (suc n) (x ∷ xs) c long le =
    rw (lt-ltb h (length N) (omega arith)) (ap (λ (zs : List ℕ). h ∷ zs) (walk_chain N P none x (slice_index N h) n xs (subst (λ (y : ℕ). Chain N P none x (slice_index N y) xs) (sym c.0) c.3) long (omega arith)) ∙ ap (λ (y : ℕ). y ∷ xs) c.0)

pub chain_below : (N P : List ℕ) (none q h x : ℕ) (L : List ℕ) → Chain N P none q h L → Has L x → x < none
chain_below N P none q h x [] c has = absurd has
chain_below N P none q h x (y ∷ ys) c (inl e) = subst (λ (z : ℕ). z < none) e c.1
chain_below N P none q h x (y ∷ ys) c (inr has) = chain_below N P none y (slice_index N y) x ys c.3 has

-- a chain is no longer than there are words
pub chain_short : (N P : List ℕ) (none q h : ℕ) (L : List ℕ) → Chain N P none q h L → Distinct L → length L ≤ none
chain_short N P none q h L c d = distinct_few L none d (λ x has. chain_below N P none q h x L c has)

-- a chain keeps its words where the arrays keep theirs
pub frame : (N P N' P' : List ℕ) (none q h : ℕ) (L : List ℕ) → Chain N P none q h L → ((x : ℕ) → Has L x → slice_index N' x ≡ slice_index N x) → ((x : ℕ) → Has L x → slice_index P' x ≡ slice_index P x) →
    Chain N' P' none q h L
frame N P N' P' none q h [] c f g = c
frame N P N' P' none q h (x ∷ xs) c f g = (
  c.0,
  c.1,
  g x (inl refl) ∙ c.2,
  subst (λ (y : ℕ). Chain N' P' none x y xs) (sym (f x (inl refl))) (frame N P N' P' none x (slice_index N x) xs c.3 (λ y has. f y (inr has)) (λ y has. g y (inr has))),
)

-- a word joins at the front
joined_tail : (N P : List ℕ) (none first at : ℕ) (L : List ℕ) → length P ≡ none → Chain N P none none first L → Distinct L → (Has L at → ⊥) →
    Chain (slice_set N at first) (slice_set (slice_set P first at) at none) none at first L
joined_tail N P none first at [] long c d free = c
joined_tail N P none first at (x ∷ xs) long c d free =
    let ne : x ≡ at → ⊥ = λ (e : x ≡ at). free (inl e) in (
      c.0,
      c.1,
      get_or-set_other (slice_set P first at) at x none 0 ne ∙ ap (λ (y : ℕ). slice_index (slice_set P first at) y) (sym c.0) ∙ get_or-set_same P first at 0 (omega (arith, c.0, c.1)),
      subst (λ (y : ℕ). Chain (slice_set N at first) (slice_set (slice_set P first at) at none) none x y xs) (sym (get_or-set_other N at x first 0 ne))
          (frame N P _ _ none x (slice_index N x) xs c.3
          (λ y has. get_or-set_other N at y first 0 (λ (e : y ≡ at). free (inr (subst (λ (z : ℕ). Has xs z) e has))))
          (λ y has. get_or-set_other (slice_set P first at) at y none 0 (λ (e : y ≡ at). free (inr (subst (λ (z : ℕ). Has xs z) e has)))
          ∙ get_or-set_other P first y at 0 (λ (e : y ≡ first). d.0 (subst (λ (z : ℕ). Has xs z) (e ∙ c.0) has)))),
    )

pub joined : (N P : List ℕ) (none first at : ℕ) (L : List ℕ) → length N ≡ none → length P ≡ none → at < none → Chain N P none none first L → Distinct L → (Has L at → ⊥) →
    Chain (slice_set N at first) (slice_set (slice_set P first at) at none) none none at (at ∷ L)
joined N P none first at L long long' lt c d free = (
  refl,
  lt,
  get_or-set_same (slice_set P first at) at none 0 (omega (arith, length-set P first at)),
  subst (λ (y : ℕ). Chain (slice_set N at first) (slice_set (slice_set P first at) at none) none at y L) (sym (get_or-set_same N at first 0 (omega arith))) (joined_tail N P none first at L long' c d free),
)

-- the word before one, and the word after it
pub before_in : (N P : List ℕ) (none q h at : ℕ) (L : List ℕ) → Chain N P none q h L → Has L at → (slice_index P at ≡ q) ⊎ Has L (slice_index P at)
before_in N P none q h at [] c has = absurd has
before_in N P none q h at (x ∷ xs) c (inl e) = inl (ap (λ (y : ℕ). slice_index P y) (sym e) ∙ c.2)
before_in N P none q h at (x ∷ xs) c (inr has) = elim (before_in N P none x (slice_index N x) at xs c.3 has) [ inl e ↦ inr (inl (sym e)) | inr i ↦ inr (inr i) ]

pub first_in : (N P : List ℕ) (none q h : ℕ) (L : List ℕ) → Chain N P none q h L → (h ≡ none) ⊎ Has L h
first_in N P none q h [] c = inl c
first_in N P none q h (x ∷ xs) c = inr (inl (sym c.0))

pub after_in : (N P : List ℕ) (none q h at : ℕ) (L : List ℕ) → Chain N P none q h L → Has L at → (slice_index N at ≡ none) ⊎ Has L (slice_index N at)
after_in N P none q h at [] c has = absurd has
after_in N P none q h at (x ∷ xs) c (inl e) =
    elim (first_in N P none x (slice_index N x) xs c.3) [
      | inl z ↦ inl (ap (λ (y : ℕ). slice_index N y) (sym e) ∙ z)
      | inr i ↦ inr (inr (subst (λ (y : ℕ). Has xs (slice_index N y)) e i))
    ]
after_in N P none q h at (x ∷ xs) c (inr has) = elim (after_in N P none x (slice_index N x) at xs c.3 has) [ inl e ↦ inl e | inr i ↦ inr (inr i) ]

pub without_none : (at : ℕ) (xs : List ℕ) → (Has xs at → ⊥) → without at xs ≡ xs
without_none at [] f = refl
without_none at (y ∷ ys) f = rw (ne_eqb y at (λ (e : y ≡ at). f (inl e))) (ap (λ (zs : List ℕ). y ∷ zs) (without_none at ys (λ (h : Has ys at). f (inr h))))

distinct_in : (t : Bool) (y at : ℕ) (ys : List ℕ) → (Has ys y → ⊥) → Distinct (without at ys) → Distinct (cond (not t) (y ∷ without at ys) (without at ys))
distinct_in true y at ys f d = d
distinct_in false y at ys f d = (λ (h : Has (without at ys) y). f (has_without at y ys h).0, d)

pub distinct_without : (at : ℕ) (xs : List ℕ) → Distinct xs → Distinct (without at xs)
distinct_without at [] d = tt
distinct_without at (y ∷ ys) d = distinct_in (y == at) y at ys d.0 (distinct_without at ys d.1)

-- the arrays after a word with the word before it, p, and the one after it, n, has left: only these two are written
abbrev pub NextsLeft : List ℕ → List ℕ → ℕ → ℕ → Type 0
NextsLeft N N' p n = ((x : ℕ) → (x ≡ p → ⊥) → slice_index N' x ≡ slice_index N x) × (p < length N → slice_index N' p ≡ n)

pub set_left : (N : List ℕ) (p n : ℕ) → NextsLeft N (slice_set N p n) p n
set_left N p n = (λ x ne. get_or-set_other N p x n 0 ne, λ lt. get_or-set_same N p n 0 lt)

-- the chain behind a word that leaves
tail_left : (N P N' P' : List ℕ) (none q x : ℕ) (xs : List ℕ) → Chain N P none x (slice_index N x) xs → Distinct xs → (Has xs q → ⊥) → length P ≡ none →
    NextsLeft N N' q (slice_index N x) → NextsLeft P P' (slice_index N x) q → Chain N' P' none q (slice_index N x) xs
tail_left N P N' P' none q x [] c d away long f g = c
tail_left N P N' P' none q x (y ∷ ys) c d away long f g = (
  c.0,
  c.1,
  ap (λ (z : ℕ). slice_index P' z) (sym c.0) ∙ g.1 (omega (arith, c.0, c.1)),
  subst (λ (z : ℕ). Chain N' P' none y z ys) (sym (f.0 y (λ (e : y ≡ q). away (inl e))))
      (frame N P N' P' none y (slice_index N y) ys c.3
      (λ z has. f.0 z (λ (e : z ≡ q). away (inr (subst (λ (w : ℕ). Has ys w) e has))))
      (λ z has. g.0 z (λ (e : z ≡ slice_index N x). d.0 (subst (λ (w : ℕ). Has ys w) (e ∙ c.0) has)))),
)

not_here : (at x : ℕ) (xs : List ℕ) → x ≡ at → without at (x ∷ xs) ≡ without at xs
not_here at x xs e = rw (eq-eqb x at e) refl

still_here : (at x : ℕ) (xs : List ℕ) → (x ≡ at → ⊥) → without at (x ∷ xs) ≡ x ∷ without at xs
still_here at x xs ne = rw (ne_eqb x at ne) refl

pub chain_left : (N P N' P' : List ℕ) (none q h at : ℕ) (L : List ℕ) → length N ≡ none → length P ≡ none → Chain N P none q h L → Distinct L → (Has L q → ⊥) → Has L at →
    NextsLeft N N' (slice_index P at) (slice_index N at) → NextsLeft P P' (slice_index N at) (slice_index P at) →
    ((slice_index P at ≡ q) × Chain N' P' none q (slice_index N at) (without at L)) ⊎ ((slice_index P at ≡ q → ⊥) × Chain N' P' none q h (without at L))
chain_left N P N' P' none q h at [] long long' c d away has f g = absurd has
chain_left N P N' P' none q h at (x ∷ xs) long long' c d away (inl e) f g =
    let prev : slice_index P at ≡ q = ap (λ (y : ℕ). slice_index P y) (sym e) ∙ c.2 in
    let next : slice_index N at ≡ slice_index N x = ap (λ (y : ℕ). slice_index N y) (sym e) in
    let gone : without at (x ∷ xs) ≡ xs = not_here at x xs e ∙ without_none at xs (subst (λ (y : ℕ). Has xs y → ⊥) e d.0) in
    inl (
      prev,
      subst (λ (zs : List ℕ). Chain N' P' none q (slice_index N at) zs) (sym gone)
          (subst (λ (y : ℕ). Chain N' P' none q y xs) (sym next)
          (tail_left N P N' P' none q x xs c.3 d.1 (λ (i : Has xs q). away (inr i)) long'
          (subst (λ (y : ℕ). NextsLeft N N' q y) next (subst (λ (y : ℕ). NextsLeft N N' y (slice_index N at)) prev f))
          (subst (λ (y : ℕ). NextsLeft P P' y q) next (subst (λ (y : ℕ). NextsLeft P P' (slice_index N at) y) prev g)))),
    )
chain_left N P N' P' none q h at (x ∷ xs) long long' c d away (inr has) f g =
    let ne : x ≡ at → ⊥ = λ (e : x ≡ at). d.0 (subst (λ (y : ℕ). Has xs y) (sym e) has) in
    let prev : slice_index P at ≡ q → ⊥ = λ (e : slice_index P at ≡ q). elim (before_in N P none x (slice_index N x) at xs c.3 has) [
      | inl i ↦ away (inl (sym i ∙ e))
      | inr i ↦ away (inr (subst (λ (y : ℕ). Has xs y) e i))
    ] in
    let next : x ≡ slice_index N at → ⊥ = λ (e : x ≡ slice_index N at). elim (after_in N P none x (slice_index N x) at xs c.3 has) [
      | inl z ↦ omega (arith, c.1)
      | inr i ↦ d.0 (subst (λ (y : ℕ). Has xs y) (sym e) i)
    ] in
    let rest = chain_left N P N' P' none x (slice_index N x) at xs long long' c.3 d.1 d.0 has f g in
    inr (
      prev,
      subst (λ (zs : List ℕ). Chain N' P' none q h zs) (sym (still_here at x xs ne)) (
        c.0,
        c.1,
        g.0 x next ∙ c.2,
        elim rest [
          | inl w ↦ subst (λ (y : ℕ). Chain N' P' none x y (without at xs)) (sym (ap (λ (y : ℕ). slice_index N' y) (sym w.0) ∙ f.1 (omega (arith, w.0, c.1)))) w.1
          | inr w ↦ subst (λ (y : ℕ). Chain N' P' none x y (without at xs)) (sym (f.0 x (λ (e : x ≡ slice_index P at). w.0 (sym e)))) w.1
        ],
      ),
    )
