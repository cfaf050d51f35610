-- An exit more, behind all others.
use Rattle.std.proofs.Common.{◌≡◌, ℕ, ◌+◌, ◌^◌, ◌<◌, ◌≤◌, ◌++◌, List, [], ◌∷◌, length, slice_index, arith, refl, sym, ◌∙◌, ap, subst, inl, inr}
use Rattle.std.proofs.lemmas.Bool.{cases_lt}
use Rattle.std.proofs.lemmas.List.{length_push, get_or_append_left, get_or_push}
use Rattle.swi_tally.specs.Groups.{GroupsData}
use Rattle.swi_tally.specs.Exits.{ExitsData, AreExits, IsFree, with_exit}

old_same : (xs : List ℕ) (z x : ℕ) → x < length xs → slice_index (xs ++ z ∷ []) x ≡ slice_index xs x
old_same xs z x lt = get_or_append_left xs (z ∷ []) 0 x lt

new_here : (xs : List ℕ) (z x : ℕ) → length xs ≡ x → slice_index (xs ++ z ∷ []) x ≡ z
new_here xs z x at = get_or_push xs z 0 x at

last_is : (xs : List ℕ) (z x : ℕ) → x < length (xs ++ z ∷ []) → length xs ≤ x → length xs ≡ x
last_is xs z x lt past = omega (arith, lt, length_push xs z)

all_below : (xs : List ℕ) (z m n : ℕ) → length xs ≡ n → ((x : ℕ) → x < n → slice_index xs x < m) → z < m → (x : ℕ) → x < n + 1 → slice_index (xs ++ z ∷ []) x < m
all_below xs z m n long old new x lt = elim (cases_lt x n) [
  | inl before ↦ omega (arith, old_same xs z x (omega (arith, before, long)), old x before)
  | inr past ↦ omega (arith, new_here xs z x (omega (arith, lt, past, long)), new)
]

longer : (xs ys : List ℕ) (a b : ℕ) → length xs ≡ length ys → length (xs ++ a ∷ []) ≡ length (ys ++ b ∷ [])
longer xs ys a b same = length_push xs a ∙ ap (λ (n : ℕ). n + 1) same ∙ sym (length_push ys b)

apart : (e : ExitsData) (b o into at : ℕ) → AreExits e → IsFree e b o → let f : ExitsData = with_exit e b o into at in (x y : ℕ) → x < length e.from + 1 → y < length e.from + 1 →
    slice_index f.from x ≡ slice_index f.from y → slice_index f.offsets x ≡ slice_index f.offsets y → x ≡ y
apart e b o into at are free x y lt lt' same same' = elim (cases_lt x (length e.from)) [
  | inl xs ↦ elim (cases_lt y (length e.from)) [
    | inl ys ↦ are.distinct x y xs ys (sym (old_same e.from b x xs) ∙ same ∙ old_same e.from b y ys)
        (sym (old_same e.offsets o x (omega (arith, xs, are.offsets_long))) ∙ same' ∙ old_same e.offsets o y (omega (arith, ys, are.offsets_long)))
    | inr yn ↦ absurd (free x xs (sym (old_same e.from b x xs) ∙ same ∙ new_here e.from b y (omega (arith, lt', yn)))
        (sym (old_same e.offsets o x (omega (arith, xs, are.offsets_long))) ∙ same' ∙ new_here e.offsets o y (omega (arith, lt', yn, are.offsets_long))))
  ]
  | inr xn ↦ elim (cases_lt y (length e.from)) [
    | inl ys ↦ absurd (free y ys (sym (old_same e.from b y ys) ∙ sym same ∙ new_here e.from b x (omega (arith, lt, xn)))
        (sym (old_same e.offsets o y (omega (arith, ys, are.offsets_long))) ∙ sym same' ∙ new_here e.offsets o x (omega (arith, lt, xn, are.offsets_long))))
    | inr yn ↦ omega (arith, lt, lt', xn, yn)
  ]
]

pub with_are : (e : ExitsData) (b o into at : ℕ) → AreExits e → length e.from < 2 ^ 21 → b < e.blocks → into < e.blocks → o < 1024 → at < 1024 → IsFree e b o → AreExits (with_exit e b o into at)
with_are e b o into at are few known led small small' free = record {
  few = omega (arith, few, length_push e.from b);
  offsets_long = longer e.offsets e.from o b are.offsets_long;
  into_long = longer e.into e.from into b are.into_long;
  ats_long = longer e.ats e.from at b are.ats_long;
  from_known = λ x lt. all_below e.from b e.blocks (length e.from) refl are.from_known known x (omega (arith, lt, length_push e.from b));
  into_known = λ x lt. all_below e.into into e.blocks (length e.from) are.into_long are.into_known led x (omega (arith, lt, length_push e.from b));
  offsets_small = λ x lt. all_below e.offsets o 1024 (length e.from) are.offsets_long are.offsets_small small x (omega (arith, lt, length_push e.from b));
  ats_small = λ x lt. all_below e.ats at 1024 (length e.from) are.ats_long are.ats_small small' x (omega (arith, lt, length_push e.from b));
  distinct = λ x y lt lt' same same'. apart e b o into at are free x y (omega (arith, lt, length_push e.from b)) (omega (arith, lt', length_push e.from b)) same same';
}

-- the call, as its code meets it
pub with_call : (e : ExitsData) (from into from' into' : GroupsData) (offsets ats offsets' ats' : List ℕ) (b o i a : ℕ) → AreExits e →
    (let f : ExitsData = record { blocks = from.groups; from = from.keys; offsets = offsets; into = into.keys; ats = ats } in f ≡ e) → into.groups ≡ from.groups →
    from' ≡ record from { keys = from.keys ++ b ∷ [] } → into' ≡ record into { keys = into.keys ++ i ∷ [] } → offsets' ≡ offsets ++ o ∷ [] → ats' ≡ ats ++ a ∷ [] →
    length e.from < 2 ^ 21 → b < e.blocks → i < e.blocks → o < 1024 → a < 1024 → IsFree e b o →
    AreExits (record { blocks = from'.groups; from = from'.keys; offsets = offsets'; into = into'.keys; ats = ats' }) × (into'.groups ≡ from'.groups)
with_call e from into from' into' offsets ats offsets' ats' b o i a are is same f g h k few known led small small' free =
    rw (f, g, h, k) (
      subst (λ (q : ExitsData). AreExits (record q { from = q.from ++ b ∷ []; offsets = q.offsets ++ o ∷ []; into = q.into ++ i ∷ []; ats = q.ats ++ a ∷ [] })) (sym is)
          (with_are e b o i a are few known led small small' free),
      same,
    )
