-- The lists that stand in the cache's words, when a cell joins or leaves.
use Rattle.std.proofs.Common.{◌≡◌, ◌⊎◌, ℕ, ◌^◌, ◌<◌, List, [], ◌∷◌, length, slice_index, slice_set, arith, sym, ◌∙◌, ap, subst, inl, inr}
use Rattle.std.proofs.lemmas.Bool.{cases_eq}
use Rattle.std.proofs.lemmas.List.{length-set, get_or-set_same, get_or-set_other}
use Rattle.swi_links.specs.Chains.{Has, without, Distinct}
use Rattle.swi_links.specs.Laws.{has_without}
use Rattle.swi_links.proofs.Chain.{distinct_without}
use Rattle.swi_chip.specs.Lists.{StandIn, Run, nexts, befores, list_at, next_in, before_in, pair_of}
use Rattle.swi_chip.proofs.Runs.{run_inside, frame, first_in, before_has, after_has, Joins, joined, Leaves, left}

pub next_pair : (a b : ℕ) → a < 2 ^ 16 → next_in (pair_of a b) ≡ a
next_pair a b lt = omega arith

pub before_pair : (a b : ℕ) → a < 2 ^ 16 → before_in (pair_of a b) ≡ b
before_pair a b lt = omega arith

next_small : (w : ℕ) → next_in w < 2 ^ 16
next_small w = omega arith

list_same : (lists : List (List ℕ)) (slot : ℕ) (Y : List ℕ) → slot < length lists → list_at (slice_set lists slot Y) slot ≡ Y
list_same lists slot Y lt = get_or-set_same lists slot Y [] lt

list_other : (lists : List (List ℕ)) (slot t : ℕ) (Y : List ℕ) → (t ≡ slot → ⊥) → list_at (slice_set lists slot Y) t ≡ list_at lists t
list_other lists slot t Y ne = get_or-set_other lists slot t Y [] ne

-- the first cell of a list, and the neighbours of a cell, are indices
pub head_below : {words heads : List ℕ} {lists : List (List ℕ)} (slot : ℕ) → StandIn words heads lists → slot < length heads → 0 < length words → slice_index heads slot < length words
head_below {words} {heads} {lists} slot s lt some =
    elim (first_in (nexts words) (befores words) (length words) 0 (slice_index heads slot) (list_at lists slot) (s.runs slot lt)) [
      | inl none ↦ omega (arith, none)
      | inr has ↦ (run_inside (nexts words) (befores words) (length words) 0 (slice_index heads slot) (slice_index heads slot) (list_at lists slot) (s.runs slot lt) has).1
    ]

module _ {words heads : List ℕ} {lists : List (List ℕ)} (slot cell : ℕ) (s : StandIn words heads lists) (lt : slot < length heads) (has : Has (list_at lists slot) cell) where
  pub cell_inside : (0 < cell) × (cell < length words)
  cell_inside = run_inside (nexts words) (befores words) (length words) 0 (slice_index heads slot) cell (list_at lists slot) (s.runs slot lt) has

  pub next_known : (nexts words cell ≡ 0) ⊎ Has (list_at lists slot) (nexts words cell)
  next_known = after_has (nexts words) (befores words) (length words) 0 (slice_index heads slot) cell (list_at lists slot) (s.runs slot lt) has

  pub before_known : (befores words cell ≡ 0) ⊎ Has (list_at lists slot) (befores words cell)
  before_known = before_has (nexts words) (befores words) (length words) 0 (slice_index heads slot) cell (list_at lists slot) (s.runs slot lt) has

  below_by : (x : ℕ) → (x ≡ 0) ⊎ Has (list_at lists slot) x → x < length words
  below_by x (inl none) = omega (arith, none, cell_inside)
  below_by x (inr h) = (run_inside (nexts words) (befores words) (length words) 0 (slice_index heads slot) x (list_at lists slot) (s.runs slot lt) h).1

  pub next_below : nexts words cell < length words
  next_below = below_by (nexts words cell) next_known

  pub before_below : befores words cell < length words
  before_below = below_by (befores words cell) before_known

-- one slot's list changes
pub record Changes (words words' heads heads' : List ℕ) (lists : List (List ℕ)) (slot h : ℕ) (Y : List ℕ) : Type 0 where
  pub inside : slot < length heads
  pub long : length words' ≡ length words
  pub heads_long : length heads' ≡ length heads
  pub head : slice_index heads' slot ≡ h
  pub heads_stay : (t : ℕ) → (t ≡ slot → ⊥) → slice_index heads' t ≡ slice_index heads t
  pub run : Run (nexts words') (befores words') (length words) 0 h Y
  pub distinct : Distinct Y
  pub runs_stay : (t : ℕ) → t < length heads → (t ≡ slot → ⊥) → Run (nexts words') (befores words') (length words) 0 (slice_index heads t) (list_at lists t)
  pub apart : (t x : ℕ) → (t ≡ slot → ⊥) → Has Y x → Has (list_at lists t) x → ⊥

module _ {words words' heads heads' : List ℕ} {lists : List (List ℕ)} {slot h : ℕ} {Y : List ℕ} (s : StandIn words heads lists) (c : Changes words words' heads heads' lists slot h Y) where
  here : slot < length lists
  here = omega (arith, s.long, c.inside)

  changed_run : (t : ℕ) → t < length heads' → Run (nexts words') (befores words') (length words') 0 (slice_index heads' t) (list_at (slice_set lists slot Y) t)
  changed_run t lt = subst (λ (n : ℕ). Run (nexts words') (befores words') n 0 (slice_index heads' t) (list_at (slice_set lists slot Y) t)) (sym c.long) (by (cases_eq t slot))
    where
      by : (t ≡ slot) ⊎ (t ≡ slot → ⊥) → Run (nexts words') (befores words') (length words) 0 (slice_index heads' t) (list_at (slice_set lists slot Y) t)
      by (inl e) =
          subst (λ (n : ℕ). Run (nexts words') (befores words') (length words) 0 (slice_index heads' n) (list_at (slice_set lists slot Y) n)) (sym e)
          (subst (λ (n : ℕ). Run (nexts words') (befores words') (length words) 0 n (list_at (slice_set lists slot Y) slot)) (sym c.head)
          (subst (λ (L : List ℕ). Run (nexts words') (befores words') (length words) 0 h L) (sym (list_same lists slot Y here)) c.run))
      by (inr ne) =
          subst (λ (n : ℕ). Run (nexts words') (befores words') (length words) 0 n (list_at (slice_set lists slot Y) t)) (sym (c.heads_stay t ne))
          (subst (λ (L : List ℕ). Run (nexts words') (befores words') (length words) 0 (slice_index heads t) L) (sym (list_other lists slot t Y ne)) (c.runs_stay t (omega (arith, lt, c.heads_long)) ne))

  changed_distinct : (t : ℕ) → t < length heads' → Distinct (list_at (slice_set lists slot Y) t)
  changed_distinct t lt = by (cases_eq t slot)
    where
      by : (t ≡ slot) ⊎ (t ≡ slot → ⊥) → Distinct (list_at (slice_set lists slot Y) t)
      by (inl e) = subst (λ (n : ℕ). Distinct (list_at (slice_set lists slot Y) n)) (sym e) (subst (λ (L : List ℕ). Distinct L) (sym (list_same lists slot Y here)) c.distinct)
      by (inr ne) = subst (λ (L : List ℕ). Distinct L) (sym (list_other lists slot t Y ne)) (s.distinct t (omega (arith, lt, c.heads_long)))

  changed_has : (t x : ℕ) → Has (list_at (slice_set lists slot Y) t) x → ((t ≡ slot) × Has Y x) ⊎ ((t ≡ slot → ⊥) × Has (list_at lists t) x)
  changed_has t x has = by (cases_eq t slot)
    where
      by : (t ≡ slot) ⊎ (t ≡ slot → ⊥) → ((t ≡ slot) × Has Y x) ⊎ ((t ≡ slot → ⊥) × Has (list_at lists t) x)
      by (inl e) = inl (e, subst (λ (L : List ℕ). Has L x) (list_same lists slot Y here) (subst (λ (n : ℕ). Has (list_at (slice_set lists slot Y) n) x) e has))
      by (inr ne) = inr (ne, subst (λ (L : List ℕ). Has L x) (list_other lists slot t Y ne) has)

  changed_one : (t u x : ℕ) → Has (list_at (slice_set lists slot Y) t) x → Has (list_at (slice_set lists slot Y) u) x → t ≡ u
  changed_one t u x a b = by (changed_has t x a) (changed_has u x b)
    where
      by : ((t ≡ slot) × Has Y x) ⊎ ((t ≡ slot → ⊥) × Has (list_at lists t) x) → ((u ≡ slot) × Has Y x) ⊎ ((u ≡ slot → ⊥) × Has (list_at lists u) x) → t ≡ u
      by (inl i) (inl j) = i.0 ∙ sym j.0
      by (inl i) (inr j) = absurd (c.apart u x j.0 i.1 j.1)
      by (inr i) (inl j) = absurd (c.apart t x i.0 j.1 i.1)
      by (inr i) (inr j) = s.one t u x i.1 j.1

  pub changed : StandIn words' heads' (slice_set lists slot Y)
  changed = record {
    long = length-set lists slot Y ∙ s.long ∙ sym c.heads_long;
    few = omega (arith, c.long, s.few);
    runs = changed_run;
    distinct = changed_distinct;
    one = changed_one;
  }

-- the words, where a cell joins before the first one
record JoinsWords (words words' : List ℕ) (first cell : ℕ) : Type 0 where
  long : length words' ≡ length words
  own : slice_index words' cell ≡ pair_of first 0
  second : (first ≡ 0 → ⊥) → slice_index words' first ≡ pair_of (nexts words first) cell
  others : (x : ℕ) → (x ≡ cell → ⊥) → ((x ≡ first) → first ≡ 0) → slice_index words' x ≡ slice_index words x

joins : (words words' : List ℕ) (first cell : ℕ) → first < 2 ^ 16 → JoinsWords words words' first cell → Joins (nexts words) (befores words) (nexts words') (befores words') first cell
joins words words' first cell small j = record {
  next = ap next_in j.own ∙ next_pair first 0 small;
  before = ap before_in j.own ∙ before_pair first 0 small;
  nexts_stay = λ x ne. elim (cases_eq x first) [
    | inl e ↦ elim (cases_eq first 0) [
      | inl z ↦ ap next_in (j.others x ne (λ (q : x ≡ first). z))
      | inr some ↦ subst (λ (n : ℕ). nexts words' n ≡ nexts words n) (sym e) (ap next_in (j.second some) ∙ next_pair (nexts words first) cell (next_small (slice_index words first)))
    ]
    | inr other ↦ ap next_in (j.others x ne (λ (q : x ≡ first). absurd (other q)))
  ];
  befores_stay = λ x ne other. ap before_in (j.others x ne (λ (q : x ≡ first). absurd (other q)));
  second = λ some. ap before_in (j.second some) ∙ before_pair (nexts words first) cell (next_small (slice_index words first));
}

abbrev pub JoinWritten : List ℕ → List ℕ → ℕ → ℕ → ℕ → Type 0
JoinWritten words words' first cell w =
    ((first ≡ 0) × (words' ≡ slice_set words cell w))
    ⊎ ((first ≡ 0 → ⊥) × ((z : ℕ) × (z ≡ pair_of (next_in (slice_index (slice_set words cell w) first)) cell) × (words' ≡ slice_set (slice_set words cell w) first z)))

joins_words : (words words' : List ℕ) (first cell w : ℕ) → cell < length words → first < length words → (first ≡ cell → ⊥) → w ≡ pair_of first 0 → JoinWritten words words' first cell w → JoinsWords words words' first cell
joins_words words words' first cell w lt below ne is (inl (zero, e)) = record {
  long = ap length e ∙ length-set words cell w;
  own = ap (λ (xs : List ℕ). slice_index xs cell) e ∙ get_or-set_same words cell w 0 lt ∙ is;
  second = λ some. absurd (some zero);
  others = λ x other q. ap (λ (xs : List ℕ). slice_index xs x) e ∙ get_or-set_other words cell x w 0 other;
}
joins_words words words' first cell w lt below ne is (inr (some, (z, y, e))) =
    let long : length (slice_set words cell w) ≡ length words = length-set words cell w in
    let first_stays : slice_index (slice_set words cell w) first ≡ slice_index words first = get_or-set_other words cell first w 0 ne in
    record {
      long = ap length e ∙ length-set (slice_set words cell w) first z ∙ long;
      own = ap (λ (xs : List ℕ). slice_index xs cell) e ∙ get_or-set_other (slice_set words cell w) first cell z 0 (λ (q : cell ≡ first). ne (sym q)) ∙ get_or-set_same words cell w 0 lt ∙ is;
      second = λ t. ap (λ (xs : List ℕ). slice_index xs first) e ∙ get_or-set_same (slice_set words cell w) first z 0 (omega (arith, long, below)) ∙ y ∙ ap (λ (n : ℕ). pair_of (next_in n) cell) first_stays;
      others = λ x other q. ap (λ (xs : List ℕ). slice_index xs x) e ∙ get_or-set_other (slice_set words cell w) first x z 0 (λ (r : x ≡ first). some (q r)) ∙ get_or-set_other words cell x w 0 other;
    }

pub join_stands : (words words' heads : List ℕ) (lists : List (List ℕ)) (slot cell w : ℕ) → StandIn words heads lists → slot < length heads → 0 < cell → cell < length words →
    ((t : ℕ) → Has (list_at lists t) cell → ⊥) → w ≡ pair_of (slice_index heads slot) 0 → JoinWritten words words' (slice_index heads slot) cell w →
    StandIn words' (slice_set heads slot cell) (slice_set lists slot (cell ∷ list_at lists slot))
join_stands words words' heads lists slot cell w s lt some below free is written =
    let first : ℕ = slice_index heads slot in
    let inside : first < length words = head_below slot s lt (omega arith) in
    let known : (first ≡ 0) ⊎ Has (list_at lists slot) first = first_in (nexts words) (befores words) (length words) 0 first (list_at lists slot) (s.runs slot lt) in
    let ne : first ≡ cell → ⊥ = λ (e : first ≡ cell). elim known [ inl z ↦ omega (arith, z, e, some) | inr has ↦ free slot (subst (λ (n : ℕ). Has (list_at lists slot) n) e has) ] in
    let j = joins_words words words' first cell w below inside ne is written in
    let k = joins words words' first cell (omega (arith, inside, s.few)) j in
    changed {heads = heads} {heads' = slice_set heads slot cell} {slot = slot} {h = cell} {Y = cell ∷ list_at lists slot} s (record {
      inside = lt;
      long = j.long;
      heads_long = length-set heads slot cell;
      head = get_or-set_same heads slot cell 0 lt;
      heads_stay = λ t other. get_or-set_other heads slot t cell 0 other;
      run = joined (nexts words) (befores words) (nexts words') (befores words') (length words) first cell (list_at lists slot) k some below (s.runs slot lt) (s.distinct slot lt) (free slot);
      distinct = (free slot, s.distinct slot lt);
      runs_stay = λ t there other. frame (nexts words) (befores words) (nexts words') (befores words') (length words) 0 (slice_index heads t) (list_at lists t) (s.runs t there)
          (λ x has. k.nexts_stay x (λ (e : x ≡ cell). free t (subst (λ (n : ℕ). Has (list_at lists t) n) e has)))
          (λ x has. k.befores_stay x (λ (e : x ≡ cell). free t (subst (λ (n : ℕ). Has (list_at lists t) n) e has))
          (λ (e : x ≡ first). elim known [
            | inl z ↦ (let pos = (run_inside (nexts words) (befores words) (length words) 0 (slice_index heads t) x (list_at lists t) (s.runs t there) has).0 in omega (arith, z, e, pos))
            | inr own ↦ other (s.one t slot x has (subst (λ (n : ℕ). Has (list_at lists slot) n) (sym e) own))
          ]));
      apart = λ t x other has there. elim has [
        | inl e ↦ free t (subst (λ (n : ℕ). Has (list_at lists t) n) (sym e) there)
        | inr own ↦ other (s.one t slot x there own)
      ];
    })

-- the words, where a cell leaves: first the one behind it is written, then the one before it
abbrev pub NextWritten : List ℕ → List ℕ → ℕ → ℕ → Type 0
NextWritten words mid m p =
    ((m ≡ 0) × (mid ≡ words)) ⊎ ((m ≡ 0 → ⊥) × ((z : ℕ) × (z ≡ pair_of (next_in (slice_index words m)) p) × (mid ≡ slice_set words m z)))

abbrev pub BeforeWritten : List ℕ → List ℕ → List ℕ → List ℕ → ℕ → ℕ → ℕ → Type 0
BeforeWritten mid words' heads heads' slot p m =
    ((p ≡ 0) × (words' ≡ mid) × (heads' ≡ slice_set heads slot m))
    ⊎ ((p ≡ 0 → ⊥) × ((z : ℕ) × (z ≡ pair_of m (before_in (slice_index mid p))) × (words' ≡ slice_set mid p z)) × (heads' ≡ heads))

record NextsWritten (words mid : List ℕ) (m p : ℕ) : Type 0 where
  long : length mid ≡ length words
  nexts_stay : (x : ℕ) → nexts mid x ≡ nexts words x
  befores_stay : (x : ℕ) → (x ≡ m → ⊥) → befores mid x ≡ befores words x
  before : (m ≡ 0 → ⊥) → befores mid m ≡ p

next_written : (words mid : List ℕ) (m p : ℕ) → m < length words → NextWritten words mid m p → NextsWritten words mid m p
next_written words mid m p lt (inl (zero, e)) = record {
  long = ap length e;
  nexts_stay = λ x. ap (λ (xs : List ℕ). nexts xs x) e;
  befores_stay = λ x ne. ap (λ (xs : List ℕ). befores xs x) e;
  before = λ some. absurd (some zero);
}
next_written words mid m p lt (inr (some, (z, is, e))) =
    let got : slice_index mid m ≡ z = ap (λ (xs : List ℕ). slice_index xs m) e ∙ get_or-set_same words m z 0 lt in
    record {
      long = ap length e ∙ length-set words m z;
      nexts_stay = λ x. elim (cases_eq x m) [
        | inl at ↦ subst (λ (n : ℕ). nexts mid n ≡ nexts words n) (sym at) (ap next_in got ∙ ap next_in is ∙ next_pair (next_in (slice_index words m)) p (next_small (slice_index words m)))
        | inr ne ↦ ap (λ (xs : List ℕ). nexts xs x) e ∙ ap next_in (get_or-set_other words m x z 0 ne)
      ];
      befores_stay = λ x ne. ap (λ (xs : List ℕ). befores xs x) e ∙ ap before_in (get_or-set_other words m x z 0 ne);
      before = λ t. ap before_in got ∙ ap before_in is ∙ before_pair (next_in (slice_index words m)) p (next_small (slice_index words m));
    }

record BeforesWritten (mid words' : List ℕ) (p m : ℕ) : Type 0 where
  long : length words' ≡ length mid
  nexts_stay : (x : ℕ) → (x ≡ p → ⊥) → nexts words' x ≡ nexts mid x
  next : (p ≡ 0 → ⊥) → nexts words' p ≡ m
  befores_stay : (x : ℕ) → befores words' x ≡ befores mid x

before_written : (mid words' heads heads' : List ℕ) (slot p m : ℕ) → m < 2 ^ 16 → p < length mid → BeforeWritten mid words' heads heads' slot p m → BeforesWritten mid words' p m
before_written mid words' heads heads' slot p m small lt (inl (zero, e, h)) = record {
  long = ap length e;
  nexts_stay = λ x ne. ap (λ (xs : List ℕ). nexts xs x) e;
  next = λ some. absurd (some zero);
  befores_stay = λ x. ap (λ (xs : List ℕ). befores xs x) e;
}
before_written mid words' heads heads' slot p m small lt (inr (some, (z, is, e), h)) =
    let got : slice_index words' p ≡ z = ap (λ (xs : List ℕ). slice_index xs p) e ∙ get_or-set_same mid p z 0 lt in
    record {
      long = ap length e ∙ length-set mid p z;
      nexts_stay = λ x ne. ap (λ (xs : List ℕ). nexts xs x) e ∙ ap next_in (get_or-set_other mid p x z 0 ne);
      next = λ t. ap next_in got ∙ ap next_in is ∙ next_pair m (before_in (slice_index mid p)) small;
      befores_stay = λ x. elim (cases_eq x p) [
        | inl at ↦ subst (λ (n : ℕ). befores words' n ≡ befores mid n) (sym at) (ap before_in got ∙ ap before_in is ∙ before_pair m (before_in (slice_index mid p)) small)
        | inr ne ↦ ap (λ (xs : List ℕ). befores xs x) e ∙ ap before_in (get_or-set_other mid p x z 0 ne)
      ];
    }

leaves_both : {words mid words' : List ℕ} {p m : ℕ} → NextsWritten words mid m p → BeforesWritten mid words' p m → Leaves (nexts words) (befores words) (nexts words') (befores words') p m
leaves_both {words} {mid} {words'} {p} {m} a b = record {
  nexts_stay = λ x ne. b.nexts_stay x ne ∙ a.nexts_stay x;
  next = b.next;
  befores_stay = λ x ne. b.befores_stay x ∙ a.befores_stay x ne;
  before = λ some. b.befores_stay m ∙ a.before some;
}

module _ {words mid words' heads heads' : List ℕ} {lists : List (List ℕ)} (slot cell : ℕ) (s : StandIn words heads lists) (lt : slot < length heads) (has : Has (list_at lists slot) cell)
    (a : NextWritten words mid (nexts words cell) (befores words cell)) (b : BeforeWritten mid words' heads heads' slot (befores words cell) (nexts words cell)) where
  n_written : NextsWritten words mid (nexts words cell) (befores words cell)
  n_written = next_written words mid (nexts words cell) (befores words cell) (next_below slot cell s lt has) a

  b_written : BeforesWritten mid words' (befores words cell) (nexts words cell)
  b_written = before_written mid words' heads heads' slot (befores words cell) (nexts words cell) (next_small (slice_index words cell)) (omega (arith, n_written.long, before_below slot cell s lt has)) b

  leaving : Leaves (nexts words) (befores words) (nexts words') (befores words') (befores words cell) (nexts words cell)
  leaving = leaves_both n_written b_written

  no_zero : Has (list_at lists slot) 0 → ⊥
  no_zero h = (let pos = (run_inside (nexts words) (befores words) (length words) 0 (slice_index heads slot) 0 (list_at lists slot) (s.runs slot lt) h).0 in omega (arith, pos))

  -- another list's cell is no neighbour of this one
  apart_from : (t x y : ℕ) → t < length heads → (t ≡ slot → ⊥) → Has (list_at lists t) x → (y ≡ 0) ⊎ Has (list_at lists slot) y → x ≡ y → ⊥
  apart_from t x y there other own (inl zero) e = (let pos = (run_inside (nexts words) (befores words) (length words) 0 (slice_index heads t) x (list_at lists t) (s.runs t there) own).0 in omega (arith, pos, zero, e))
  apart_from t x y there other own (inr k) e = other (s.one t slot x own (subst (λ (n : ℕ). Has (list_at lists slot) n) (sym e) k))

  others_run : (t : ℕ) → t < length heads → (t ≡ slot → ⊥) → Run (nexts words') (befores words') (length words) 0 (slice_index heads t) (list_at lists t)
  others_run t there other = frame (nexts words) (befores words) (nexts words') (befores words') (length words) 0 (slice_index heads t) (list_at lists t) (s.runs t there)
      (λ x own. leaving.nexts_stay x (apart_from t x (befores words cell) there other own (before_known slot cell s lt has)))
      (λ x own. leaving.befores_stay x (apart_from t x (nexts words cell) there other own (next_known slot cell s lt has)))

  changes_by : (h : ℕ) → length heads' ≡ length heads → slice_index heads' slot ≡ h → ((t : ℕ) → (t ≡ slot → ⊥) → slice_index heads' t ≡ slice_index heads t) →
      Run (nexts words') (befores words') (length words) 0 h (without cell (list_at lists slot)) → Changes words words' heads heads' lists slot h (without cell (list_at lists slot))
  changes_by h long head stay run = record {
    inside = lt;
    long = b_written.long ∙ n_written.long;
    heads_long = long;
    head = head;
    heads_stay = stay;
    run = run;
    distinct = distinct_without cell (list_at lists slot) (s.distinct slot lt);
    runs_stay = others_run;
    apart = λ t x other gone there. other (s.one t slot x there (has_without cell x (list_at lists slot) gone).0);
  }

  runs_on : ((befores words cell ≡ 0) × Run (nexts words') (befores words') (length words) 0 (nexts words cell) (without cell (list_at lists slot)))
      ⊎ ((befores words cell ≡ 0 → ⊥) × Run (nexts words') (befores words') (length words) 0 (slice_index heads slot) (without cell (list_at lists slot)))
  runs_on = left (nexts words) (befores words) (nexts words') (befores words') (length words) 0 (slice_index heads slot) cell (list_at lists slot) (s.runs slot lt) (s.distinct slot lt) no_zero has leaving

  pub leave_stands : StandIn words' heads' (slice_set lists slot (without cell (list_at lists slot)))
  leave_stands = by b runs_on
    where
      by : BeforeWritten mid words' heads heads' slot (befores words cell) (nexts words cell) → ((befores words cell ≡ 0) × Run (nexts words') (befores words') (length words) 0 (nexts words cell) (without cell (list_at lists slot)))
          ⊎ ((befores words cell ≡ 0 → ⊥) × Run (nexts words') (befores words') (length words) 0 (slice_index heads slot) (without cell (list_at lists slot))) → StandIn words' heads' (slice_set lists slot (without cell (list_at lists slot)))
      by (inl (zero, e, h)) (inl (z, run)) =
          changed {heads = heads} {heads' = heads'} {slot = slot} {h = nexts words cell} s (changes_by (nexts words cell) (ap length h ∙ length-set heads slot (nexts words cell))
          (ap (λ (xs : List ℕ). slice_index xs slot) h ∙ get_or-set_same heads slot (nexts words cell) 0 lt)
          (λ t ne. ap (λ (xs : List ℕ). slice_index xs t) h ∙ get_or-set_other heads slot t (nexts words cell) 0 ne) run)
      by (inl (zero, e, h)) (inr (some, run)) = absurd (some zero)
      by (inr (some, w, h)) (inl (zero, run)) = absurd (some zero)
      by (inr (some, w, h)) (inr (z, run)) =
          changed {heads = heads} {heads' = heads'} {slot = slot} {h = slice_index heads slot} s (changes_by (slice_index heads slot) (ap length h) (ap (λ (xs : List ℕ). slice_index xs slot) h)
          (λ t ne. ap (λ (xs : List ℕ). slice_index xs t) h) run)

pub leave_stands_by : {words mid words' heads heads' : List ℕ} {lists : List (List ℕ)} (slot cell m p : ℕ) → StandIn words heads lists → slot < length heads → Has (list_at lists slot) cell → m ≡ nexts words cell → p ≡ befores words cell →
    NextWritten words mid m p → BeforeWritten mid words' heads heads' slot p m → StandIn words' heads' (slice_set lists slot (without cell (list_at lists slot)))
leave_stands_by {words} {mid} {words'} {heads} {heads'} {lists} slot cell m p s lt has em ep a b =
    let a' : NextWritten words mid (nexts words cell) (befores words cell) = subst (λ (n : ℕ). NextWritten words mid n (befores words cell)) em (subst (λ (n : ℕ). NextWritten words mid m n) ep a) in
    let b' : BeforeWritten mid words' heads heads' slot (befores words cell) (nexts words cell) = subst (λ (n : ℕ). BeforeWritten mid words' heads heads' slot (befores words cell) n) em (subst (λ (n : ℕ). BeforeWritten mid words' heads heads' slot n m) ep b) in
    leave_stands {words = words} {mid = mid} {words' = words'} {heads = heads} {heads' = heads'} {lists = lists} slot cell s lt has a' b'

-- before the first cell stands none
pub first_before : {words heads : List ℕ} {lists : List (List ℕ)} (slot cell : ℕ) → StandIn words heads lists → slot < length heads → Has (list_at lists slot) cell → slice_index heads slot ≡ cell → 0 ≡ befores words cell
first_before {words} {heads} {lists} slot cell s lt has first = by (list_at lists slot) has (s.runs slot lt)
  where
    by : (L : List ℕ) → Has L cell → Run (nexts words) (befores words) (length words) 0 (slice_index heads slot) L → 0 ≡ befores words cell
    by [] h run = absurd h
    by (x ∷ xs) h run = sym (ap (befores words) (sym first ∙ run.0) ∙ run.3)
