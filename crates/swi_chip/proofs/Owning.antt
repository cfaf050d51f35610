-- Links of a block's own leave their lists, one after the other.
use Rattle.std.proofs.Common.{◌≡◌, ◌⊎◌, ℕ, ◌+◌, ◌-◌, ◌<◌, ◌≤◌, true, false, List, [], ◌∷◌, length, slice_index, slice_set, arith, refl, sym, ◌∙◌, ap, subst, inl, inr}
use Rattle.std.proofs.lemmas.Bool.{cases_eq, cases_lt, both_ways, eq-eqb, ne_eqb}
use Rattle.std.proofs.lemmas.List.{length-set, get_or-set_same, get_or-set_other}
use Rattle.swi_links.specs.Chains.{Has, Distinct, without}
use Rattle.swi_links.specs.Laws.{has_without, without_has}
use Rattle.swi_links.proofs.Chain.{without_none}
use Rattle.swi_chip.specs.Lists.{StandIn, nexts, befores, list_at}
use Rattle.swi_chip.specs.Undone.{IsApart}
use Rattle.swi_chip.specs.Owned.{is_jump, lands_in, AreCounted, AreTied, AreDropped, OthersStay, Dropped}
use Rattle.swi_chip.proofs.Standing.{next_known, before_known}

-- a list without one of its cells is shorter by one
pub without_shorter : (at : ℕ) (xs : List ℕ) → Distinct xs → Has xs at → length (without at xs) + 1 ≡ length xs
without_shorter at [] d has = absurd has
without_shorter at (x ∷ xs) d (inl e) =
    let gone : without at (x ∷ xs) ≡ xs = rw (eq-eqb x at e) (without_none at xs (subst (λ (y : ℕ). Has xs y → ⊥) e d.0)) in
    (let l = ap length gone in omega (arith, l))
without_shorter at (x ∷ xs) d (inr has) =
    let ne : x ≡ at → ⊥ = λ (e : x ≡ at). d.0 (subst (λ (y : ℕ). Has xs y) (sym e) has) in
    let still : without at (x ∷ xs) ≡ x ∷ without at xs = rw (ne_eqb x at ne) refl in
    (let l = ap length still in let r = without_shorter at xs d.1 has in omega (arith, l, r))

-- the cells of lists of which one was replaced
pub set_has : (lists : List (List ℕ)) (slot : ℕ) (Y : List ℕ) (t x : ℕ) → slot < length lists → Has (list_at (slice_set lists slot Y) t) x → ((t ≡ slot) × Has Y x) ⊎ ((t ≡ slot → ⊥) × Has (list_at lists t) x)
set_has lists slot Y t x lt has = elim (cases_eq t slot) [
  | inl e ↦ inl (e, subst (λ (L : List ℕ). Has L x) (get_or-set_same lists slot Y [] lt) (subst (λ (n : ℕ). Has (list_at (slice_set lists slot Y) n) x) e has))
  | inr ne ↦ inr (ne, subst (λ (L : List ℕ). Has L x) (get_or-set_other lists slot t Y [] ne) has)
]

has_set_same : (lists : List (List ℕ)) (slot : ℕ) (Y : List ℕ) (t x : ℕ) → slot < length lists → t ≡ slot → Has Y x → Has (list_at (slice_set lists slot Y) t) x
has_set_same lists slot Y t x lt e has = subst (λ (n : ℕ). Has (list_at (slice_set lists slot Y) n) x) (sym e) (subst (λ (L : List ℕ). Has L x) (sym (get_or-set_same lists slot Y [] lt)) has)

pub has_set_other : (lists : List (List ℕ)) (slot : ℕ) (Y : List ℕ) (t x : ℕ) → (t ≡ slot → ⊥) → Has (list_at lists t) x → Has (list_at (slice_set lists slot Y) t) x
has_set_other lists slot Y t x ne has = subst (λ (L : List ℕ). Has L x) (sym (get_or-set_other lists slot t Y [] ne)) has

-- so far the links before a word have left
pub record Taking (first at : ℕ) (words words' heads' links' : List ℕ) (lists : List (List ℕ)) : Type 0 where
  pub now : List (List ℕ)
  pub stand : StandIn words' heads' now
  pub dropped : AreDropped first at lists now
  pub counted : AreCounted links' now
  pub others : OthersStay lists words words'
  pub clear : (s : ℕ) → Has (list_at lists s) at → ⊥

pub taking_none : (first end size : ℕ) (words heads links : List ℕ) (lists : List (List ℕ)) → StandIn words heads lists → AreCounted links lists → AreTied words size first end lists → Taking first first words words heads links lists
taking_none first end size words heads links lists s counted tied = record {
  now = lists;
  stand = s;
  dropped = record { long = refl; stay = λ t x h w. h; were = λ t x h. (h, elim (cases_lt first x) [ inl below ↦ inr below | inr le ↦ inl le ]) };
  counted = counted;
  others = λ i none. refl;
  clear = tied.begins;
}

-- the words behind the last one
last_dropped : {first at end : ℕ} {old new : List (List ℕ)} → AreDropped first at old new → ((s : ℕ) → Has (list_at old s) at → ⊥) → end ≤ at → at ≤ end + 1 → AreDropped first end old new
last_dropped {first} {at} {end} {old} {new} d clear low high = record {
  long = d.long;
  stay = λ s x h w. d.stay s x h (elim w [ inl le ↦ inl le | inr lt ↦ inr (elim (cases_eq x at) [ inl e ↦ absurd (clear s (subst (λ (n : ℕ). Has (list_at old s) n) e h)) | inr ne ↦ omega arith ]) ]);
  were = λ s x h. (let w = d.were s x h in (w.0, elim w.1 [ inl le ↦ inl le | inr lt ↦ inr (omega arith) ]));
}

pub taken_all : {first at end : ℕ} {words words' heads' links' : List ℕ} {lists : List (List ℕ)} → Taking first at words words' heads' links' lists → end ≤ at → at ≤ end + 1 → Dropped first end words words' heads' links' lists
taken_all t low high = record { now = t.now; stand = t.stand; dropped = last_dropped t.dropped t.clear low high; counted = t.counted; others = t.others }

module _ {first at end size : ℕ} {words words' heads' links' : List ℕ} {lists : List (List ℕ)} (t : Taking first at words words' heads' links' lists) (tied : AreTied words size first end lists) (apart : IsApart lists) (low : first ≤ at) (lt : at < end) where
  -- the word is as it was
  here : slice_index words' at ≡ slice_index words at
  here = t.others at t.clear

  -- a word that is no jump
  no_cell : is_jump (slice_index words' at) ≡ false → (s : ℕ) → Has (list_at lists s) (at + 1) → ⊥
  no_cell other s h =
      let back : at + 1 - 1 ≡ at = omega arith in
      let jump : is_jump (slice_index words at) ≡ true = subst (λ (n : ℕ). is_jump (slice_index words n) ≡ true) back (tied.jumps s (at + 1) h) in
      both_ways (is_jump (slice_index words' at)) other (ap is_jump here ∙ jump)

  pub taking_passed : is_jump (slice_index words' at) ≡ false → Taking first (at + 1) words words' heads' links' lists
  taking_passed other = record {
    now = t.now;
    stand = t.stand;
    dropped = record {
      long = t.dropped.long;
      stay = λ s x h w. t.dropped.stay s x h (elim w [ inl le ↦ inl le | inr more ↦ inr (omega arith) ]);
      were = λ s x h. (let w = t.dropped.were s x h in (
        w.0,
        elim w.1 [
          | inl le ↦ inl le
          | inr more ↦ inr (elim (cases_eq x (at + 1)) [ inl e ↦ absurd (no_cell other s (subst (λ (n : ℕ). Has (list_at lists s) n) e w.0)) | inr ne ↦ omega arith ])
        ],
      ));
    };
    counted = t.counted;
    others = t.others;
    clear = no_cell other;
  }

  -- a jump, whose cell a list has
  module _ (slot : ℕ) (is : slot ≡ lands_in size at (slice_index words' at)) (jump : is_jump (slice_index words' at) ≡ true) where
    old_has : (slot < length lists) × Has (list_at lists slot) (at + 1)
    old_has =
        let k = tied.listed at low lt (ap is_jump (sym here) ∙ jump) t.clear in
        let e : lands_in size at (slice_index words at) ≡ slot = ap (lands_in size at) (sym here) ∙ sym is in
        (subst (λ (n : ℕ). n < length lists) e k.0, subst (λ (n : ℕ). Has (list_at lists n) (at + 1)) e k.1)

    pub now_has : Has (list_at t.now slot) (at + 1)
    now_has = t.dropped.stay slot (at + 1) old_has.1 (inr (omega arith))

    pub slot_inside : slot < length heads'
    slot_inside = (let a = old_has.0 in let b = t.dropped.long in let c = t.stand.long in omega (arith, a, b, c))

    inside : slot < length t.now
    inside = (let a = old_has.0 in let b = t.dropped.long in omega (arith, a, b))

    pub count_is : slice_index links' slot ≡ length (without (at + 1) (list_at t.now slot)) + 1
    count_is = t.counted slot inside ∙ sym (without_shorter (at + 1) (list_at t.now slot) (t.stand.distinct slot slot_inside) now_has)

    abbrev left : List (List ℕ)
    left = slice_set t.now slot (without (at + 1) (list_at t.now slot))

    left_were : (s x : ℕ) → Has (list_at left s) x → Has (list_at t.now s) x × (x ≡ at + 1 → ⊥)
    left_were s x h = elim (set_has t.now slot (without (at + 1) (list_at t.now slot)) s x inside h) [
      | inl own ↦ (let w = has_without (at + 1) x (list_at t.now slot) own.1 in (subst (λ (n : ℕ). Has (list_at t.now n) x) (sym own.0) w.0, w.1))
      | inr other ↦ (other.1, λ e. other.0 (t.stand.one s slot x other.1 (subst (λ (n : ℕ). Has (list_at t.now slot) n) (sym e) now_has)))
    ]

    left_stay : (s x : ℕ) → Has (list_at t.now s) x → (x ≡ at + 1 → ⊥) → Has (list_at left s) x
    left_stay s x h ne = elim (cases_eq s slot) [
      | inl e ↦ has_set_same t.now slot (without (at + 1) (list_at t.now slot)) s x inside e (without_has (at + 1) x (list_at t.now slot) (subst (λ (n : ℕ). Has (list_at t.now n) x) e h) ne)
      | inr other ↦ has_set_other t.now slot (without (at + 1) (list_at t.now slot)) s x other h
    ]

    -- the one behind it is no cell
    two_clear : (s : ℕ) → Has (list_at lists s) (at + 2) → ⊥
    two_clear s h = apart s slot (at + 2) (at + 1) h old_has.1 (omega arith)

    left_dropped : AreDropped first (at + 2) lists left
    left_dropped = record {
      long = length-set t.now slot (without (at + 1) (list_at t.now slot)) ∙ t.dropped.long;
      stay = λ s x h w. left_stay s x (t.dropped.stay s x h (elim w [ inl le ↦ inl le | inr more ↦ inr (omega arith) ])) (λ e. elim w [ inl le ↦ omega arith | inr more ↦ omega arith ]);
      were = λ s x h. (let k = left_were s x h in let w = t.dropped.were s x k.0 in (
        w.0,
        elim w.1 [
          | inl le ↦ inl le
          | inr more ↦ inr (elim (cases_eq x (at + 2)) [ inl e ↦ absurd (two_clear s (subst (λ (n : ℕ). Has (list_at lists s) n) e w.0)) | inr ne ↦ (let other = k.1 in omega (arith, more, ne, other)) ])
        ],
      ));
    }

    left_counted : (n : ℕ) → n + 1 ≡ slice_index links' slot → slot < length links' → AreCounted (slice_set links' slot n) left
    left_counted n less long s there = elim (cases_eq s slot) [
      | inl e ↦
          let a : slice_index (slice_set links' slot n) slot ≡ n = get_or-set_same links' slot n 0 long in
          let b : n ≡ length (without (at + 1) (list_at t.now slot)) = (let k = count_is in omega (arith, k, less)) in
          let c : list_at left slot ≡ without (at + 1) (list_at t.now slot) = get_or-set_same t.now slot (without (at + 1) (list_at t.now slot)) [] inside in
          subst (λ (m : ℕ). slice_index (slice_set links' slot n) m ≡ length (list_at left m)) (sym e) (a ∙ b ∙ ap length (sym c))
      | inr ne ↦
          get_or-set_other links' slot s n 0 ne
          ∙ (t.counted s (let a = length-set t.now slot (without (at + 1) (list_at t.now slot)) in omega (arith, a, there))
          ∙ ap (λ (L : List ℕ). length L) (sym (get_or-set_other t.now slot s (without (at + 1) (list_at t.now slot)) [] ne)))
    ]

    pub taking_left : (after heads'' : List ℕ) (n : ℕ) → StandIn after heads'' left → n + 1 ≡ slice_index links' slot → slot < length links' →
        ((i : ℕ) → (i ≡ nexts words' (at + 1) → i ≡ 0) → (i ≡ befores words' (at + 1) → i ≡ 0) → slice_index after i ≡ slice_index words' i) → Taking first (at + 2) words after heads'' (slice_set links' slot n) lists
    taking_left after heads'' n s less long same = record {
      now = left;
      stand = s;
      dropped = left_dropped;
      counted = left_counted n less long;
      others = λ i none. same i
          (λ e. elim (next_known slot (at + 1) t.stand slot_inside now_has) [ inl z ↦ e ∙ z | inr h ↦ absurd (none slot (t.dropped.were slot i (subst (λ (m : ℕ). Has (list_at t.now slot) m) (sym e) h)).0) ])
          (λ e. elim (before_known slot (at + 1) t.stand slot_inside now_has) [ inl z ↦ e ∙ z | inr h ↦ absurd (none slot (t.dropped.were slot i (subst (λ (m : ℕ). Has (list_at t.now slot) m) (sym e) h)).0) ])
          ∙ t.others i none;
      clear = two_clear;
    }
