-- Links of a list, undone one after the other.
use Rattle.std.proofs.Common.{◌≡◌, ℕ, ◌+◌, ◌-◌, ◌/◌, ◌%◌, ◌^◌, ◌<◌, List, [], ◌∷◌, ◌++◌, length, slice_index, slice_set, arith, refl, sym, ◌∙◌, ap, subst, inl, inr, append_assoc, append-nil, length-append}
use Rattle.std.proofs.lemmas.List.{length-set, get_or-set_same, get_or-set_other}
use Rattle.swi_links.specs.Chains.{Has, Distinct}
use Rattle.swi_links.proofs.Numbers.{has_append, append_has, append_here}
use Rattle.swi_rom.specs.Record.{ebreak}
use Rattle.swi_chip.specs.Lists.{StandIn, Run, nexts, befores, list_at}
use Rattle.swi_chip.specs.Undone.{IsApart, IsUndone}
use Rattle.swi_chip.proofs.Runs.{run_inside, frame}
use Rattle.swi_chip.proofs.Standing.{changed}

-- the cells of two lists in a row
has_front : (xs ys : List ℕ) (x : ℕ) → Has xs x → Has (xs ++ ys) x
has_front [] ys x h = absurd h
has_front (y ∷ xs) ys x (inl e) = inl e
has_front (y ∷ xs) ys x (inr h) = inr (has_front xs ys x h)

has_back : (xs ys : List ℕ) (x : ℕ) → Has ys x → Has (xs ++ ys) x
has_back [] ys x h = h
has_back (y ∷ xs) ys x h = inr (has_back xs ys x h)

distinct_apart : (xs ys : List ℕ) (x : ℕ) → Distinct (xs ++ ys) → Has xs x → Has ys x → ⊥
distinct_apart [] ys x d a b = absurd a
distinct_apart (y ∷ xs) ys x d (inl e) b = d.0 (has_back xs ys y (subst (λ (z : ℕ). Has ys z) (sym e) b))
distinct_apart (y ∷ xs) ys x d (inr h) b = distinct_apart xs ys x d.1 h b

distinct_rest : (xs ys : List ℕ) → Distinct (xs ++ ys) → Distinct ys
distinct_rest [] ys d = d
distinct_rest (y ∷ xs) ys d = distinct_rest xs ys d.1

-- the first cells are undone, and the rest stands from a cell on
pub record Undoing (before now : List ℕ) (restore : ℕ → ℕ) (cell k : ℕ) (L : List ℕ) : Type 0 where
  pub done : List ℕ
  pub rest : List ℕ
  pub split : L ≡ done ++ rest
  pub count : length done ≡ k
  pub undone : IsUndone before now restore done
  pub behind : ℕ
  pub run : Run (nexts now) (befores now) (length before) behind cell rest

pub undoing_none : (words : List ℕ) (restore : ℕ → ℕ) (cell : ℕ) (L : List ℕ) → Run (nexts words) (befores words) (length words) 0 cell L → Undoing words words restore cell 0 L
undoing_none words restore cell L run = record {
  done = [];
  rest = L;
  split = refl;
  count = refl;
  undone = record { long = refl; exits = λ x h. absurd h; restores = λ x h. absurd h; others = λ i a b. refl };
  behind = 0;
  run = run;
}

-- what is known of the next cell
pub record Next (before now : List ℕ) (restore : ℕ → ℕ) (cell k : ℕ) (L : List ℕ) : Type 0 where
  pub done : List ℕ
  pub more : List ℕ
  pub split : L ≡ done ++ (cell ∷ more)
  pub count : length done ≡ k
  pub undone : IsUndone before now restore done
  pub some : 0 < cell
  pub low : cell < length before
  pub run : Run (nexts now) (befores now) (length before) cell (nexts now cell) more

next_of_rest : (before now : List ℕ) (restore : ℕ → ℕ) (cell k behind : ℕ) (L done rest : List ℕ) → L ≡ done ++ rest → length done ≡ k → IsUndone before now restore done → Run (nexts now) (befores now) (length before) behind cell rest → k < length L → Next before now restore cell k L
next_of_rest before now restore cell k behind L done [] split count undone run lt = absurd (let e : length L ≡ length done = ap length split ∙ ap length (append-nil done) in omega (arith, e, count, lt))
next_of_rest before now restore cell k behind L done (x ∷ xs) split count undone run lt = record {
  done = done;
  more = xs;
  split = subst (λ (z : ℕ). L ≡ done ++ (z ∷ xs)) (sym run.0) split;
  count = count;
  undone = undone;
  some = subst (λ (z : ℕ). 0 < z) (sym run.0) run.1;
  low = subst (λ (z : ℕ). z < length before) (sym run.0) run.2;
  run = subst (λ (z : ℕ). Run (nexts now) (befores now) (length before) z (nexts now z) xs) (sym run.0) run.4;
}

pub next_cell : {before now : List ℕ} {restore : ℕ → ℕ} {cell k : ℕ} {L : List ℕ} → Undoing before now restore cell k L → k < length L → Next before now restore cell k L
next_cell {before} {now} {restore} {cell} {k} {L} u lt = next_of_rest before now restore cell k u.behind L u.done u.rest u.split u.count u.undone u.run lt

pub cell_known : {before now : List ℕ} {restore : ℕ → ℕ} {cell k : ℕ} {L : List ℕ} → Undoing before now restore cell k L → k < length L → (0 < cell) × (cell < length now) × Has L cell
cell_known {cell = cell} {L = L} u lt =
    let n = next_cell u lt in
    (n.some, (let e = n.undone.long in let f = n.low in omega (arith, e, f)), subst (λ (xs : List ℕ). Has xs cell) (sym n.split) (has_back n.done (cell ∷ n.more) cell (inl refl)))

module _ {before now : List ℕ} {restore : ℕ → ℕ} {cell k : ℕ} {L : List ℕ} (n : Next before now restore cell k L) (w : ℕ) (is : w ≡ restore cell) (distinct : Distinct L) (apart : (x y : ℕ) → Has L x → Has L y → (x ≡ y + 1 → ⊥)) (pos : (x : ℕ) → Has L x → 0 < x) where
  abbrev pub after : List ℕ
  after = slice_set (slice_set now (cell - 1) ebreak) cell w

  whole : Distinct (n.done ++ (cell ∷ n.more))
  whole = subst (λ (xs : List ℕ). Distinct xs) n.split distinct

  has_done : (x : ℕ) → Has n.done x → Has L x
  has_done x h = subst (λ (xs : List ℕ). Has xs x) (sym n.split) (has_front n.done (cell ∷ n.more) x h)

  has_more : (x : ℕ) → Has n.more x → Has L x
  has_more x h = subst (λ (xs : List ℕ). Has xs x) (sym n.split) (has_back n.done (cell ∷ n.more) x (inr h))

  has_cell : Has L cell
  has_cell = subst (λ (xs : List ℕ). Has xs cell) (sym n.split) (has_back n.done (cell ∷ n.more) cell (inl refl))

  done_other : (x : ℕ) → Has n.done x → x ≡ cell → ⊥
  done_other x h e = distinct_apart n.done (cell ∷ n.more) x whole h (inl (sym e))

  more_other : (x : ℕ) → Has n.more x → x ≡ cell → ⊥
  more_other x h e = (distinct_rest n.done (cell ∷ n.more) whole).0 (subst (λ (z : ℕ). Has n.more z) e h)

  one_less : cell ≡ cell - 1 + 1
  one_less = (let s = n.some in omega (arith, s))

  not_before : (x : ℕ) → Has L x → x ≡ cell - 1 → ⊥
  not_before x h e = apart cell x has_cell h (one_less ∙ ap (λ (z : ℕ). z + 1) (sym e))

  same_at : (i : ℕ) → (i ≡ cell → ⊥) → (i ≡ cell - 1 → ⊥) → slice_index after i ≡ slice_index now i
  same_at i ne other = get_or-set_other (slice_set now (cell - 1) ebreak) cell i w 0 ne ∙ get_or-set_other now (cell - 1) i ebreak 0 other

  at_cell : slice_index after cell ≡ w
  at_cell = get_or-set_same (slice_set now (cell - 1) ebreak) cell w 0 (let e = length-set now (cell - 1) ebreak in let f = n.undone.long in let g = n.low in omega (arith, e, f, g))

  at_exit : slice_index after (cell - 1) ≡ ebreak
  at_exit =
      get_or-set_other (slice_set now (cell - 1) ebreak) cell (cell - 1) w 0 (λ e. (let s = n.some in omega (arith, s, e)))
      ∙ get_or-set_same now (cell - 1) ebreak 0 (let f = n.undone.long in let g = n.low in omega (arith, f, g))

  after_long : length after ≡ length before
  after_long = length-set (slice_set now (cell - 1) ebreak) cell w ∙ length-set now (cell - 1) ebreak ∙ n.undone.long

  more_undone : IsUndone before after restore (n.done ++ (cell ∷ []))
  more_undone = record {
    long = after_long;
    exits = λ x h. elim (has_append n.done cell x h) [
      | inl d ↦ same_at (x - 1) (λ e. (let pos : x ≡ cell + 1 = positive x d e in apart x cell (has_done x d) has_cell pos)) (λ e. done_other x d (both_less x d e)) ∙ n.undone.exits x d
      | inr e ↦ subst (λ (z : ℕ). slice_index after (z - 1) ≡ ebreak) e at_exit
    ];
    restores = λ x h. elim (has_append n.done cell x h) [
      | inl d ↦ same_at x (done_other x d) (not_before x (has_done x d)) ∙ n.undone.restores x d
      | inr e ↦ subst (λ (z : ℕ). slice_index after z ≡ restore z) e (at_cell ∙ is)
    ];
    others = λ i a b.
        same_at i (λ e. a (subst (λ (z : ℕ). Has (n.done ++ (cell ∷ [])) z) (sym e) (append_here n.done cell)))
        (λ e. b (subst (λ (z : ℕ). Has (n.done ++ (cell ∷ [])) z) (one_less ∙ ap (λ (z : ℕ). z + 1) (sym e)) (append_here n.done cell)))
        ∙ n.undone.others i (λ h. a (append_has n.done cell i h)) (λ h. b (append_has n.done cell (i + 1) h));
  }
    where
      positive : (x : ℕ) → Has n.done x → x - 1 ≡ cell → x ≡ cell + 1
      positive x d e = (let s = n.some in omega (arith, e, s))

      both_less : (x : ℕ) → Has n.done x → x - 1 ≡ cell - 1 → x ≡ cell
      both_less x d e = (let s = n.some in let p = pos x (has_done x d) in omega (arith, e, s, p))

  pub undoing_more : Undoing before after restore (nexts now cell) (k + 1) L
  undoing_more = record {
    done = n.done ++ (cell ∷ []);
    rest = n.more;
    split = n.split ∙ sym (append_assoc n.done (cell ∷ []) n.more);
    count = (let e = length-append n.done (cell ∷ []) in let f = n.count in omega (arith, e, f));
    undone = more_undone;
    behind = cell;
    run = frame (nexts now) (befores now) (nexts after) (befores after) (length before) cell (nexts now cell) n.more n.run
        (λ x h. ap (λ (z : ℕ). z % 2 ^ 16) (same_at x (more_other x h) (not_before x (has_more x h))))
        (λ x h. ap (λ (z : ℕ). z / 2 ^ 16) (same_at x (more_other x h) (not_before x (has_more x h))));
  }

-- all are
pub undone_all : {before now : List ℕ} {restore : ℕ → ℕ} {cell k : ℕ} {L : List ℕ} → Undoing before now restore cell k L → length L ≡ k → IsUndone before now restore L
undone_all {before} {now} {restore} {cell} {k} {L} u long = by u.rest u.split
  where
    by : (rest : List ℕ) → L ≡ u.done ++ rest → IsUndone before now restore L
    by [] split = subst (λ (xs : List ℕ). IsUndone before now restore xs) (sym (split ∙ append-nil u.done)) u.undone
    by (x ∷ xs) split = absurd (let e : length L ≡ length u.done + length (x ∷ xs) = ap length split ∙ length-append u.done (x ∷ xs) in let f = u.count in omega (arith, e, f, long))

pub undone_stands : (words words' heads : List ℕ) (lists : List (List ℕ)) (slot : ℕ) (restore : ℕ → ℕ) → StandIn words heads lists → slot < length heads → IsApart lists → IsUndone words words' restore (list_at lists slot) →
    StandIn words' (slice_set heads slot 0) (slice_set lists slot [])
undone_stands words words' heads lists slot restore s lt apart u =
    let same : (t : ℕ) → (t ≡ slot → ⊥) → (y : ℕ) → Has (list_at lists t) y → slice_index words' y ≡ slice_index words y =
    λ t other y h. u.others y (λ own. other (s.one t slot y h own)) (λ own. apart slot t (y + 1) y own h refl) in
    changed {heads = heads} {heads' = slice_set heads slot 0} {slot = slot} {h = 0} {Y = []} s (record {
      inside = lt;
      long = u.long;
      heads_long = length-set heads slot 0;
      head = get_or-set_same heads slot 0 0 lt;
      heads_stay = λ t other. get_or-set_other heads slot t 0 0 other;
      run = refl;
      distinct = tt;
      runs_stay = λ t there other. frame (nexts words) (befores words) (nexts words') (befores words') (length words) 0 (slice_index heads t) (list_at lists t) (s.runs t there)
          (λ y h. ap (λ (z : ℕ). z % 2 ^ 16) (same t other y h)) (λ y h. ap (λ (z : ℕ). z / 2 ^ 16) (same t other y h));
      apart = λ t x other none there. absurd none;
    })

-- cells are no 0
pub cells_some : {words heads : List ℕ} {lists : List (List ℕ)} (slot : ℕ) → StandIn words heads lists → slot < length heads → (x : ℕ) → Has (list_at lists slot) x → 0 < x
cells_some {words} {heads} {lists} slot s lt x h = (run_inside (nexts words) (befores words) (length words) 0 (slice_index heads slot) x (list_at lists slot) (s.runs slot lt) h).0
