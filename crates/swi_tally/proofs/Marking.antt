-- Of each block the caches in which it stands.
use Rattle.std.proofs.Common.{◌≡◌, ◌⊎◌, ℕ, ◌<◌, ◌==◌, ◌&&◌, ◌||◌, ◌++◌, Bool, true, false, not, List, [], ◌∷◌, length, slice_set, refl, sym, ◌∙◌, ap, subst, arith, inl, inr}
use Rattle.std.proofs.lemmas.Bool.{cases_eq, eq-eqb, ne_eqb, both_ways, or_right}
use Rattle.std.proofs.lemmas.List.{length-set, get_or-set_same, get_or-set_other}
use Rattle.swi_links.specs.Chains.{Has}
use Rattle.swi_links.proofs.Numbers.{append_has, append_here, has_append}
use Rattle.swi_tally.specs.Masks.{has, has_at}
use Rattle.swi_tally.specs.Tally.{TallyData, InShape, AreMarked, Marks}
use Rattle.swi_tally.proofs.Queueing.{rest_has, rest_other}
use Rattle.swi_tally.proofs.Sets.{and_all, or_none}

pub marks_none : (n c : ℕ) (queue placed : List ℕ) → AreMarked n c queue placed → Marks n c queue placed placed
marks_none n c queue placed are = record { are = are; others = λ d b small ne lt. refl }

pub marks_both : (n c : ℕ) (middle queue one two three : List ℕ) → Marks n c middle one two → Marks n c queue two three → Marks n c queue one three
marks_both n c middle queue one two three f g = record {
  are = g.are;
  others = λ d b small ne lt. g.others d b small ne lt ∙ f.others d b small ne lt;
}

-- the sets of one cache's blocks are not touched by another's
pub marks_other : (n c j : ℕ) (queue own old new : List ℕ) → Marks n c queue old new → j < 64 → (j ≡ c → ⊥) → AreMarked n j own old → AreMarked n j own new
marks_other n c j queue own old new marks small ne are = record {
  long = marks.are.long;
  stand = λ b lt h. are.stand b lt (sym (marks.others j b small ne lt) ∙ h);
  marked = λ b lt h. marks.others j b small ne lt ∙ are.marked b lt h;
}

-- the set of one block changes
other_block : (placed : List ℕ) (b m d x : ℕ) → (x ≡ b → ⊥) → has_at (slice_set placed b m) d x ≡ has_at placed d x
other_block placed b m d x ne = ap (λ (n : ℕ). has n d) (get_or-set_other placed b x m 0 ne)

same_block : (placed : List ℕ) (b m d : ℕ) → b < length placed → has_at (slice_set placed b m) d b ≡ has m d
same_block placed b m d lt = ap (λ (n : ℕ). has n d) (get_or-set_same placed b m 0 lt)

others_stay : (placed : List ℕ) (b m d x : ℕ) → b < length placed → has m d ≡ has_at placed d b → has_at (slice_set placed b m) d x ≡ has_at placed d x
others_stay placed b m d x lt same = elim (cases_eq x b) [
  | inl here ↦ rw here (same_block placed b m d lt ∙ same)
  | inr ne ↦ other_block placed b m d x ne
]

-- the oldest block leaves
pub left_marks : (n c b m : ℕ) (s : TallyData) (rest placed : List ℕ) → InShape s → s.queue ≡ b ∷ rest → AreMarked n c s.queue placed → b < n → c < 64 →
    ((d : ℕ) → d < 64 → has m d ≡ (has_at placed d b && not (d == c))) → Marks n c rest placed (slice_set placed b m)
left_marks n c b m s rest placed shape is are lt small sets = record {
  are = record {
    long = length-set placed b m ∙ are.long;
    stand = λ x inside h. elim (cases_eq x b) [
      | inl here ↦ absurd (both_ways (has_at (slice_set placed b m) c x) (rw here (same_block placed b m c within ∙ gone)) h)
      | inr ne ↦ later x ne (subst (λ (xs : List ℕ). Has xs x) is (are.stand x inside (sym (other_block placed b m c x ne) ∙ h)))
    ];
    marked = λ x inside h.
        other_block placed b m c x (rest_other s b rest shape is x h) ∙ are.marked x inside (rest_has s b rest is x h);
  };
  others = λ d x other ne inside. others_stay placed b m d x within (sets d other ∙ ap (λ (t : Bool). has_at placed d b && not t) (ne_eqb d c ne) ∙ and_all (has_at placed d b));
}
  where
    within : b < length placed
    within = omega (arith, lt, are.long)

    none : (t : Bool) → (t && not true) ≡ false
    none true = refl
    none false = refl

    gone : has m c ≡ false
    gone = sets c small ∙ ap (λ (t : Bool). has_at placed c b && not t) (eq-eqb c c refl) ∙ none (has_at placed c b)

    later : (x : ℕ) → (x ≡ b → ⊥) → Has (b ∷ rest) x → Has rest x
    later x ne (inl same) = absurd (ne (sym same))
    later x ne (inr h) = h

-- one comes behind all others
pub settled_marks : (n c b m : ℕ) (queue placed : List ℕ) → AreMarked n c queue placed → b < length placed → c < 64 →
    ((d : ℕ) → d < 64 → has m d ≡ (has_at placed d b || d == c)) → Marks n c (queue ++ b ∷ []) placed (slice_set placed b m)
settled_marks n c b m queue placed are within small sets = record {
  are = record {
    long = length-set placed b m ∙ are.long;
    stand = λ x inside h. elim (cases_eq x b) [
      | inl here ↦ rw here (append_here queue b)
      | inr ne ↦ append_has queue b x (are.stand x inside (sym (other_block placed b m c x ne) ∙ h))
    ];
    marked = λ x inside h. elim (cases_eq x b) [
      | inl here ↦ rw here (same_block placed b m c within ∙ come)
      | inr ne ↦ other_block placed b m c x ne ∙ are.marked x inside (earlier x ne (has_append queue b x h))
    ];
  };
  others = λ d x other ne inside. others_stay placed b m d x within (sets d other ∙ ap (λ (t : Bool). has_at placed d b || t) (ne_eqb d c ne) ∙ or_none (has_at placed d b));
}
  where
    come : has m c ≡ true
    come = sets c small ∙ or_right (has_at placed c b) (c == c) (eq-eqb c c refl)

    earlier : (x : ℕ) → (x ≡ b → ⊥) → Has queue x ⊎ (b ≡ x) → Has queue x
    earlier x ne (inl h) = h
    earlier x ne (inr same) = absurd (ne (sym same))

-- ---- the calls, as their code meets them

pub marked_as : (n c : ℕ) (queue queue' placed : List ℕ) → queue ≡ queue' → AreMarked n c queue placed → AreMarked n c queue' placed
marked_as n c queue queue' placed same = subst (λ (xs : List ℕ). AreMarked n c xs placed) same

pub marks_as : (n c : ℕ) (queue queue' old new : List ℕ) → queue ≡ queue' → Marks n c queue old new → Marks n c queue' old new
marks_as n c queue queue' old new same = subst (λ (xs : List ℕ). Marks n c xs old new) same

pub settled_call : (n c b m : ℕ) (blocks queue new placed : List ℕ) → AreMarked n c queue placed → b < length placed → c < 64 → ((d : ℕ) → d < 64 → has m d ≡ (has_at placed d b || d == c)) →
    blocks ≡ queue → new ≡ blocks ++ b ∷ [] → Marks n c new placed (slice_set placed b m)
settled_call n c b m blocks queue new placed are within small sets same is =
    marks_as n c (queue ++ b ∷ []) new placed (slice_set placed b m) (sym (is ∙ ap (λ (xs : List ℕ). xs ++ b ∷ []) same)) (settled_marks n c b m queue placed are within small sets)
