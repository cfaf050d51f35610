-- The table from block to slot.
use Rattle.std.proofs.Common.{◌≡◌, ℕ, ◌+◌, ◌<◌, ◌≤◌, ◌^◌, max, nat_lt, if◌then◌else◌, List, length, replicate, slice_index, slice_set, arith, refl, sym, ◌∙◌, ap, subst, inl, inr}
use Rattle.std.proofs.lemmas.Bool.{cases_eq, cases_lt, lt-ltb, le-ltb}
use Rattle.std.proofs.lemmas.List.{length-set, length-replicate, get_or-replicate, get_or-set_same, get_or-set_other}
use Rattle.swi_slots.specs.Table.{NotAmong}
use Rattle.swi_slots.specs.Homes.{KnowsHomes, nowhere}

pub knows_none : (homes blocks : List ℕ) (n : ℕ) → homes ≡ replicate n nowhere → KnowsHomes homes 0 blocks
knows_none homes blocks n e = record {
  found = λ b lt h. absurd (omega arith);
  known = λ n lt. absurd (omega arith);
  others = λ b lt h. ap (λ (xs : List ℕ). slice_index xs b) e ∙ get_or-replicate n b nowhere 0 (omega (arith, lt, ap (λ (xs : List ℕ). length xs) e ∙ length-replicate n nowhere));
}

pub absent : (homes blocks : List ℕ) (filled block : ℕ) → KnowsHomes homes filled blocks → filled ≤ slice_index homes block → NotAmong filled blocks block
absent homes blocks filled block k le = λ n lt e. omega (arith, ap (λ (b : ℕ). slice_index homes b) (sym e) ∙ (k.known n lt).1)

-- the slot's old block has none
abbrev pub left : List ℕ → List ℕ → ℕ → ℕ → List ℕ
left homes blocks filled slot = if nat_lt slot filled then slice_set homes (slice_index blocks slot) nowhere else homes

left_long : (homes blocks : List ℕ) (filled slot : ℕ) → length (left homes blocks filled slot) ≡ length homes
left_long homes blocks filled slot = elim (cases_lt slot filled) [
  | inl lt ↦ rw (lt-ltb slot filled lt) (length-set homes (slice_index blocks slot) nowhere)
  | inr ge ↦ rw (le-ltb slot filled ge) refl
]

-- another block has what it had, and the old one nothing
left_other : (homes blocks : List ℕ) (filled slot b : ℕ) → (slot < filled → b ≡ slice_index blocks slot → ⊥) → slice_index (left homes blocks filled slot) b ≡ slice_index homes b
left_other homes blocks filled slot b ne = elim (cases_lt slot filled) [
  | inl lt ↦ rw (lt-ltb slot filled lt) (get_or-set_other homes (slice_index blocks slot) b nowhere 0 (ne lt))
  | inr ge ↦ rw (le-ltb slot filled ge) refl
]

left_here : (homes blocks : List ℕ) (filled slot : ℕ) → slot < filled → slice_index blocks slot < length homes → slice_index (left homes blocks filled slot) (slice_index blocks slot) ≡ nowhere
left_here homes blocks filled slot lt within = rw (lt-ltb slot filled lt) (get_or-set_same homes (slice_index blocks slot) nowhere 0 within)

-- a block that has a slot below the filled ones, after the old one was taken away
left_found : (homes blocks : List ℕ) (filled slot b : ℕ) → KnowsHomes homes filled blocks → filled ≤ nowhere → slot ≤ filled → b < length homes → slice_index (left homes blocks filled slot) b < max filled (slot + 1) →
    (slice_index (left homes blocks filled slot) b ≡ slot → ⊥) → slice_index blocks (slice_index (left homes blocks filled slot) b) ≡ b
left_found homes blocks filled slot b k few next small lt ne = elim (cases_lt slot filled) [
  | inl full ↦ elim (cases_eq b (slice_index blocks slot)) [
    | inl e ↦ absurd (omega (arith, ap (λ (x : ℕ). slice_index (left homes blocks filled slot) x) e ∙ left_here homes blocks filled slot full (omega (arith, (k.known slot full).0))))
    | inr f ↦ (let same = left_other homes blocks filled slot b (λ h e. f e) in
        ap (λ (x : ℕ). slice_index blocks x) same ∙ k.found b small (omega (arith, same)))
  ]
  | inr free ↦ (let same = left_other homes blocks filled slot b (λ h e. omega arith) in
      ap (λ (x : ℕ). slice_index blocks x) same ∙ k.found b small (below (slice_index homes b) slot filled (omega (arith, same)) next free (λ (e : slice_index homes b ≡ slot). ne (same ∙ e))))
]
  where
    below : (h slot filled : ℕ) → h < max filled (slot + 1) → slot ≤ filled → filled ≤ slot → (h ≡ slot → ⊥) → h < filled
    below h slot filled lt le ge ne = grind (arith)

left_nowhere : (homes blocks : List ℕ) (filled slot b : ℕ) → KnowsHomes homes filled blocks → b < length homes → max filled (slot + 1) ≤ slice_index (left homes blocks filled slot) b → slice_index (left homes blocks filled slot) b ≡ nowhere
left_nowhere homes blocks filled slot b k lt le = elim (cases_lt slot filled) [
  | inl full ↦ elim (cases_eq b (slice_index blocks slot)) [
    | inl e ↦ ap (λ (x : ℕ). slice_index (left homes blocks filled slot) x) e ∙ left_here homes blocks filled slot full (omega (arith, (k.known slot full).0))
    | inr f ↦ (let same = left_other homes blocks filled slot b (λ h e. f e) in same ∙ k.others b lt (omega (arith, same)))
  ]
  | inr free ↦ (let same = left_other homes blocks filled slot b (λ h e. omega arith) in same ∙ k.others b lt (omega (arith, same)))
]

left_known : (homes blocks : List ℕ) (filled slot n : ℕ) → KnowsHomes homes filled blocks → n < filled → (n ≡ slot → ⊥) → slice_index (left homes blocks filled slot) (slice_index blocks n) ≡ n
left_known homes blocks filled slot n k lt ne =
    left_other homes blocks filled slot (slice_index blocks n) (λ full e. ne (sym (k.known n lt).1 ∙ ap (λ (b : ℕ). slice_index homes b) e ∙ (k.known slot full).1)) ∙ (k.known n lt).1

-- a block that stood nowhere takes a slot
pub knows_settled : (homes homes' homes'' blocks : List ℕ) (filled slot block : ℕ) → KnowsHomes homes filled blocks → homes' ≡ left homes blocks filled slot → homes'' ≡ slice_set homes' block slot →
    NotAmong filled blocks block → slot < length blocks → slot ≤ filled → slot < 2 ^ 20 → filled ≤ nowhere → block < length homes → KnowsHomes homes'' (max filled (slot + 1)) (slice_set blocks slot block)
knows_settled homes homes' homes'' blocks filled slot block k e e' absent below next low few small =
    let mid : List ℕ = left homes blocks filled slot in
    let long : length mid ≡ length homes = left_long homes blocks filled slot in
    let set : length (slice_set mid block slot) ≡ length homes = length-set mid block slot ∙ long in
    let is : homes'' ≡ slice_set mid block slot = e' ∙ ap (λ (xs : List ℕ). slice_set xs block slot) e in
    subst (λ (xs : List ℕ). KnowsHomes xs (max filled (slot + 1)) (slice_set blocks slot block)) (sym is) (record {
      found = λ b within h. let lt : b < length homes = omega (arith, within, set) in elim (cases_eq b block) [
        | inl same ↦ (let here : slice_index (slice_set mid block slot) b ≡ slot = ap (λ (x : ℕ). slice_index (slice_set mid block slot) x) same ∙ get_or-set_same mid block slot 0 (omega (arith, long)) in
            ap (λ (x : ℕ). slice_index (slice_set blocks slot block) x) here ∙ get_or-set_same blocks slot block 0 below ∙ sym same)
        | inr other ↦ (let old : slice_index (slice_set mid block slot) b ≡ slice_index mid b = get_or-set_other mid block b slot 0 other in
            ap (λ (x : ℕ). slice_index (slice_set blocks slot block) x) old ∙ elim (cases_eq (slice_index mid b) slot) [
              | inl s ↦ absurd (taken b lt other s)
              | inr ne ↦ get_or-set_other blocks slot (slice_index mid b) block 0 ne ∙ left_found homes blocks filled slot b k few next lt (omega (arith, old)) ne
            ])
      ];
      others = λ b within h. let lt : b < length homes = omega (arith, within, set) in elim (cases_eq b block) [
        | inl same ↦ absurd (omega (arith, ap (λ (x : ℕ). slice_index (slice_set mid block slot) x) same ∙ get_or-set_same mid block slot 0 (omega (arith, long))))
        | inr other ↦ (let old = get_or-set_other mid block b slot 0 other in old ∙ left_nowhere homes blocks filled slot b k lt (omega (arith, old)))
      ];
      known = λ n lt. elim (cases_eq n slot) [
        | inl same ↦ (let b : slice_index (slice_set blocks slot block) n ≡ block = ap (λ (x : ℕ). slice_index (slice_set blocks slot block) x) same ∙ get_or-set_same blocks slot block 0 below in
            (omega (arith, b, small, set), ap (λ (x : ℕ). slice_index (slice_set mid block slot) x) b ∙ get_or-set_same mid block slot 0 (omega (arith, long)) ∙ sym same))
        | inr other ↦ (
            let b : slice_index (slice_set blocks slot block) n ≡ slice_index blocks n = get_or-set_other blocks slot n block 0 other in
            let old : n < filled = before n slot filled lt next other in (
              omega (arith, b, (k.known n old).0, set),
              ap (λ (x : ℕ). slice_index (slice_set mid block slot) x) b ∙ get_or-set_other mid block (slice_index blocks n) slot 0 (absent n old) ∙ left_known homes blocks filled slot n k old other,
            ))
      ];
    })
  where
    before : (n slot filled : ℕ) → n < max filled (slot + 1) → slot ≤ filled → (n ≡ slot → ⊥) → n < filled
    before n slot filled lt le ne = grind (arith)

    -- no other block had the slot
    taken : (b : ℕ) → b < length homes → (b ≡ block → ⊥) → slice_index (left homes blocks filled slot) b ≡ slot → ⊥
    taken b lt other s = elim (cases_lt slot filled) [
      | inl full ↦ elim (cases_eq b (slice_index blocks slot)) [
        | inl same ↦ omega (arith, s, ap (λ (x : ℕ). slice_index (left homes blocks filled slot) x) same ∙ left_here homes blocks filled slot full (omega (arith, (k.known slot full).0)))
        | inr ne ↦ (let was = left_other homes blocks filled slot b (λ h i. ne i) in
            ne (sym (k.found b lt (omega (arith, was, s))) ∙ ap (λ (x : ℕ). slice_index blocks x) (sym was ∙ s)))
      ]
      | inr free ↦ (let was = left_other homes blocks filled slot b (λ h i. omega arith) in omega (arith, was, s, k.others b lt (omega (arith, was, s))))
    ]
