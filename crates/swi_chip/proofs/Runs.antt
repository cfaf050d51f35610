-- Runs of cells, when one joins or leaves.
use Rattle.std.proofs.Common.{◌≡◌, ◌⊎◌, ℕ, ◌<◌, List, [], ◌∷◌, arith, refl, sym, ◌∙◌, ap, subst, inl, inr}
use Rattle.std.proofs.lemmas.Bool.{ne_eqb, eq-eqb}
use Rattle.swi_links.specs.Chains.{Has, without, Distinct}
use Rattle.swi_links.proofs.Chain.{without_none}
use Rattle.swi_chip.specs.Lists.{Run}

pub run_inside : (n b : ℕ → ℕ) (size q h x : ℕ) (L : List ℕ) → Run n b size q h L → Has L x → (0 < x) × (x < size)
run_inside n b size q h x [] c has = absurd has
run_inside n b size q h x (y ∷ ys) c (inl e) = (subst (λ (z : ℕ). 0 < z) e c.1, subst (λ (z : ℕ). z < size) e c.2)
run_inside n b size q h x (y ∷ ys) c (inr has) = run_inside n b size y (n y) x ys c.4 has

-- a run stays where nothing of its cells changes
pub frame : (n b n' b' : ℕ → ℕ) (size q h : ℕ) (L : List ℕ) → Run n b size q h L → ((x : ℕ) → Has L x → n' x ≡ n x) → ((x : ℕ) → Has L x → b' x ≡ b x) → Run n' b' size q h L
frame n b n' b' size q h [] c f g = c
frame n b n' b' size q h (x ∷ xs) c f g = (
  c.0,
  c.1,
  c.2,
  g x (inl refl) ∙ c.3,
  subst (λ (y : ℕ). Run n' b' size x y xs) (sym (f x (inl refl))) (frame n b n' b' size x (n x) xs c.4 (λ y has. f y (inr has)) (λ y has. g y (inr has))),
)

pub first_in : (n b : ℕ → ℕ) (size q h : ℕ) (L : List ℕ) → Run n b size q h L → (h ≡ 0) ⊎ Has L h
first_in n b size q h [] c = inl c
first_in n b size q h (x ∷ xs) c = inr (inl (sym c.0))

pub before_has : (n b : ℕ → ℕ) (size q h at : ℕ) (L : List ℕ) → Run n b size q h L → Has L at → (b at ≡ q) ⊎ Has L (b at)
before_has n b size q h at [] c has = absurd has
before_has n b size q h at (x ∷ xs) c (inl e) = inl (ap b (sym e) ∙ c.3)
before_has n b size q h at (x ∷ xs) c (inr has) = elim (before_has n b size x (n x) at xs c.4 has) [ inl e ↦ inr (inl (sym e)) | inr i ↦ inr (inr i) ]

pub after_has : (n b : ℕ → ℕ) (size q h at : ℕ) (L : List ℕ) → Run n b size q h L → Has L at → (n at ≡ 0) ⊎ Has L (n at)
after_has n b size q h at [] c has = absurd has
after_has n b size q h at (x ∷ xs) c (inl e) =
    elim (first_in n b size x (n x) xs c.4) [
      | inl z ↦ inl (ap n (sym e) ∙ z)
      | inr i ↦ inr (inr (subst (λ (y : ℕ). Has xs (n y)) e i))
    ]
after_has n b size q h at (x ∷ xs) c (inr has) = elim (after_has n b size x (n x) at xs c.4 has) [ inl e ↦ inl e | inr i ↦ inr (inr i) ]

-- a cell joins at the front
pub record Joins (n b n' b' : ℕ → ℕ) (first at : ℕ) : Type 0 where
  pub next : n' at ≡ first
  pub before : b' at ≡ 0
  pub nexts_stay : (x : ℕ) → (x ≡ at → ⊥) → n' x ≡ n x
  pub befores_stay : (x : ℕ) → (x ≡ at → ⊥) → (x ≡ first → ⊥) → b' x ≡ b x
  pub second : (first ≡ 0 → ⊥) → b' first ≡ at

joined_tail : (n b n' b' : ℕ → ℕ) (size first at : ℕ) (L : List ℕ) → Joins n b n' b' first at → Run n b size 0 first L → Distinct L → (Has L at → ⊥) → Run n' b' size at first L
joined_tail n b n' b' size first at [] j c d free = c
joined_tail n b n' b' size first at (x ∷ xs) j c d free =
    let ne : x ≡ at → ⊥ = λ (e : x ≡ at). free (inl e) in (
      c.0,
      c.1,
      c.2,
      ap b' (sym c.0) ∙ j.second (λ (z : first ≡ 0). omega (arith, z, c.0, c.1)),
      subst (λ (y : ℕ). Run n' b' size x y xs) (sym (j.nexts_stay x ne))
          (frame n b n' b' size x (n x) xs c.4
          (λ y has. j.nexts_stay y (λ (e : y ≡ at). free (inr (subst (λ (z : ℕ). Has xs z) e has))))
          (λ y has. j.befores_stay y (λ (e : y ≡ at). free (inr (subst (λ (z : ℕ). Has xs z) e has)))
          (λ (e : y ≡ first). d.0 (subst (λ (z : ℕ). Has xs z) (e ∙ c.0) has)))),
    )

pub joined : (n b n' b' : ℕ → ℕ) (size first at : ℕ) (L : List ℕ) → Joins n b n' b' first at → 0 < at → at < size → Run n b size 0 first L → Distinct L → (Has L at → ⊥) → Run n' b' size 0 at (at ∷ L)
joined n b n' b' size first at L j some lt c d free =
    (refl, some, lt, j.before, subst (λ (y : ℕ). Run n' b' size at y L) (sym j.next) (joined_tail n b n' b' size first at L j c d free))

-- a cell leaves: the one before it, p, has the one behind it next, and that one, m, has p before
pub record Leaves (n b n' b' : ℕ → ℕ) (p m : ℕ) : Type 0 where
  pub nexts_stay : (x : ℕ) → (x ≡ p → ⊥) → n' x ≡ n x
  pub next : (p ≡ 0 → ⊥) → n' p ≡ m
  pub befores_stay : (x : ℕ) → (x ≡ m → ⊥) → b' x ≡ b x
  pub before : (m ≡ 0 → ⊥) → b' m ≡ p

tail_left : (n b n' b' : ℕ → ℕ) (size q x : ℕ) (xs : List ℕ) → Run n b size x (n x) xs → Distinct xs → (Has xs q → ⊥) → Leaves n b n' b' q (n x) → Run n' b' size q (n x) xs
tail_left n b n' b' size q x [] c d away l = c
tail_left n b n' b' size q x (y ∷ ys) c d away l = (
  c.0,
  c.1,
  c.2,
  ap b' (sym c.0) ∙ l.before (λ (z : n x ≡ 0). omega (arith, z, c.0, c.1)),
  subst (λ (z : ℕ). Run n' b' size y z ys) (sym (l.nexts_stay y (λ (e : y ≡ q). away (inl e))))
      (frame n b n' b' size y (n y) ys c.4
      (λ z has. l.nexts_stay z (λ (e : z ≡ q). away (inr (subst (λ (w : ℕ). Has ys w) e has))))
      (λ z has. l.befores_stay z (λ (e : z ≡ n x). d.0 (subst (λ (w : ℕ). Has ys w) (e ∙ c.0) has)))),
)

not_here : (at x : ℕ) (xs : List ℕ) → x ≡ at → without at (x ∷ xs) ≡ without at xs
not_here at x xs e = rw (eq-eqb x at e) refl

still_here : (at x : ℕ) (xs : List ℕ) → (x ≡ at → ⊥) → without at (x ∷ xs) ≡ x ∷ without at xs
still_here at x xs ne = rw (ne_eqb x at ne) refl

pub left : (n b n' b' : ℕ → ℕ) (size q h at : ℕ) (L : List ℕ) → Run n b size q h L → Distinct L → (Has L q → ⊥) → Has L at → Leaves n b n' b' (b at) (n at) →
    ((b at ≡ q) × Run n' b' size q (n at) (without at L)) ⊎ ((b at ≡ q → ⊥) × Run n' b' size q h (without at L))
left n b n' b' size q h at [] c d away has l = absurd has
left n b n' b' size q h at (x ∷ xs) c d away (inl e) l =
    let prev : b at ≡ q = ap b (sym e) ∙ c.3 in
    let next : n at ≡ n x = ap n (sym e) in
    let gone : without at (x ∷ xs) ≡ xs = not_here at x xs e ∙ without_none at xs (subst (λ (y : ℕ). Has xs y → ⊥) e d.0) in
    inl (
      prev,
      subst (λ (zs : List ℕ). Run n' b' size q (n at) zs) (sym gone)
          (subst (λ (y : ℕ). Run n' b' size q y xs) (sym next)
          (tail_left n b n' b' size q x xs c.4 d.1 (λ (i : Has xs q). away (inr i))
          (subst (λ (y : ℕ). Leaves n b n' b' q y) next (subst (λ (y : ℕ). Leaves n b n' b' y (n at)) prev l)))),
    )
left n b n' b' size q h at (x ∷ xs) c d away (inr has) l =
    let ne : x ≡ at → ⊥ = λ (e : x ≡ at). d.0 (subst (λ (y : ℕ). Has xs y) (sym e) has) in
    let prev : b at ≡ q → ⊥ = λ (e : b at ≡ q). elim (before_has n b size x (n x) at xs c.4 has) [
      | inl i ↦ away (inl (sym i ∙ e))
      | inr i ↦ away (inr (subst (λ (y : ℕ). Has xs y) e i))
    ] in
    let next : x ≡ n at → ⊥ = λ (e : x ≡ n at). elim (after_has n b size x (n x) at xs c.4 has) [
      | inl z ↦ omega (arith, c.1)
      | inr i ↦ d.0 (subst (λ (y : ℕ). Has xs y) (sym e) i)
    ] in
    let rest = left n b n' b' size x (n x) at xs c.4 d.1 d.0 has l in
    inr (
      prev,
      subst (λ (zs : List ℕ). Run n' b' size q h zs) (sym (still_here at x xs ne)) (
        c.0,
        c.1,
        c.2,
        l.befores_stay x next ∙ c.3,
        elim rest [
          | inl w ↦ subst (λ (y : ℕ). Run n' b' size x y (without at xs)) (sym (ap n' (sym w.0) ∙ l.next (λ (z : b at ≡ 0). omega (arith, w.0, z, c.1)))) w.1
          | inr w ↦ subst (λ (y : ℕ). Run n' b' size x y (without at xs)) (sym (l.nexts_stay x (λ (e : x ≡ b at). w.0 (sym e)))) w.1
        ],
      ),
    )
