-- Micro-ops that are forgotten, and those that are made.
use Rattle.std.proofs.Common.{◌≡◌, ◌⊎◌, ℕ, ◌+◌, ◌*◌, ◌/◌, ◌%◌, ◌<◌, ◌≤◌, ◌^◌, zero, suc, List, [], ◌∷◌, length, get_or, set, replicate, Option, Some, None, arith, refl, sym, ap, subst, ◌∙◌, inl, inr}
use Rattle.std.proofs.lemmas.List.{get_or-replicate, get_or-set_other, get_or-set_same, length-replicate, length-set}
use Rattle.std.proofs.lemmas.Bool.{cases_eq, cases_lt}
use Rattle.swi_memory.specs.declared.word_range.WordRange.{WordRange}
use Rattle.swi_memory.specs.WordRange.{IsWordRange}
use Rattle.swi_micro.specs.declared.translator.MicroOp.{MicroOp}
use Rattle.swi_micro.specs.Decoded.{AreDecoded, AreSameBeside, IsOpOf, without}
use Rattle.swi_micro.specs.MicroOp.{address_at, index_at, stop_op}
use Rattle.swi_micro.proofs.Sums.{aligned_address, end_address, own_index}

-- ---- over plain numbers and lists

-- of a word of which one of the four bytes from a on is, the first of these bytes is one or the last
met_below : (x a : ℕ) → x % 4 ≡ 0 → x + 4 ≤ 2 ^ 32 → a < x → x < a + 4 → (a + 3) % 2 ^ 32 / 4 * 4 ≡ x
met_below x a aligned end below before = omega arith

met_above : (x a : ℕ) → x % 4 ≡ 0 → x ≤ a → a < x + 4 → a / 4 * 4 ≡ x
met_above x a aligned above behind = omega arith

met : (x a : ℕ) → x % 4 ≡ 0 → x + 4 ≤ 2 ^ 32 → a < x + 4 → x < a + 4 → (a / 4 * 4 ≡ x) ⊎ ((a + 3) % 2 ^ 32 / 4 * 4 ≡ x)
met x a aligned end behind before = elim (cases_lt a x) [
  | inl below ↦ inr (met_below x a aligned end below before)
  | inr above ↦ inl (met_above x a aligned above behind)
]

-- a micro-op of a list of which one was set to stop
kept : (ops : List MicroOp) (i k : ℕ) (d : MicroOp) → (get_or (set ops i stop_op) k d ≡ stop_op) ⊎ (get_or (set ops i stop_op) k d ≡ get_or ops k d)
kept [] i k d = inr refl
kept (m ∷ ops) zero zero d = inl refl
kept (m ∷ ops) zero (suc k) d = inr refl
kept (m ∷ ops) (suc i) zero d = inr refl
kept (m ∷ ops) (suc i) (suc k) d = kept ops i k d

kept_without : (ops : List MicroOp) (o : Option ℕ) (k : ℕ) (d : MicroOp) → (get_or (without ops o) k d ≡ stop_op) ⊎ (get_or (without ops o) k d ≡ get_or ops k d)
kept_without ops None k d = inr refl
kept_without ops (Some i) k d = kept ops i k d

count_without : (ops : List MicroOp) (o : Option ℕ) → length (without ops o) ≡ length ops
count_without ops None = refl
count_without ops (Some i) = length-set ops i stop_op

still_stops : (ops : List MicroOp) (o : Option ℕ) (k : ℕ) (d : MicroOp) → get_or ops k d ≡ stop_op → get_or (without ops o) k d ≡ stop_op
still_stops ops o k d is = elim (kept_without ops o k d) [ inl stops ↦ stops | inr same ↦ same ∙ is ]

gone_from : (ops : List MicroOp) (o : Option ℕ) (k : ℕ) (d : MicroOp) → o ≡ Some k → k < length ops → get_or (without ops o) k d ≡ stop_op
gone_from ops o k d at within = ap (λ i. get_or (without ops i) k d) at ∙ get_or-set_same ops k stop_op d within

-- ---- the micro-ops of a range

-- a word that stands as it did keeps its micro-op
stays : (old new : ℕ → Option ℕ) (range : WordRange) (k : ℕ) (m : MicroOp) → new (address_at range k) ≡ old (address_at range k) → IsOpOf old range k m → IsOpOf new range k m
stays old new range k m same h = record { word = h.word; instruction = h.instruction; stands = same ∙ h.stands; decodes = h.decodes; is = h.is }

-- what may stand at a place
abbrev Stands : (ℕ → Option ℕ) → WordRange → ℕ → MicroOp → Type 0
Stands words range k m = (m ≡ stop_op) ⊎ IsOpOf words range k m

stands_on : (old new : ℕ → Option ℕ) (range : WordRange) (k : ℕ) (m : MicroOp) → new (address_at range k) ≡ old (address_at range k) → Stands old range k m → Stands new range k m
stands_on old new range k m same (inl stops) = inl stops
stands_on old new range k m same (inr h) = inr (stays old new range k m same h)

-- the same place behind one that is forgotten
stands_behind : (words : ℕ → Option ℕ) (range : WordRange) (ops : List MicroOp) (o : Option ℕ) (k : ℕ) (d : MicroOp) → Stands words range k (get_or ops k d) → Stands words range k (get_or (without ops o) k d)
stands_behind words range ops o k d stands = elim (kept_without ops o k d) [
  | inl stops ↦ inl stops
  | inr same ↦ subst (λ m. Stands words range k m) (sym same) stands
]

-- all stay, where the words do
pub same_words : (old new : ℕ → Option ℕ) (range : WordRange) (ops : List MicroOp) → ((x : ℕ) → new x ≡ old x) → AreDecoded old range ops → AreDecoded new range ops
same_words old new range ops same h = record {
  whole = h.whole;
  count = h.count;
  each = λ k within d. stands_on old new range k (get_or ops k d) (same (address_at range k)) (h.each k within d);
  last = h.last;
}

-- the micro-op of a word is made
pub made_one : (words : ℕ → Option ℕ) (range : WordRange) (ops : List MicroOp) (k : ℕ) (m : MicroOp) → AreDecoded words range ops → k < range.words → IsOpOf words range k m → AreDecoded words range (set ops k m)
made_one words range ops k m h here is = record {
  whole = h.whole;
  count = length-set ops k m ∙ h.count;
  each = λ j within d. elim (cases_eq j k) [
    | inl same ↦
        let place : k < length ops = omega (arith, h.count, here) in
        let set_is : get_or (set ops k m) j d ≡ m = ap (λ i. get_or (set ops k m) i d) same ∙ get_or-set_same ops k m d place in
        inr (subst (λ q. IsOpOf words range j q) (sym set_is) (subst (λ i. IsOpOf words range i m) (sym same) is))
    | inr other ↦ subst (λ q. Stands words range j q) (sym (get_or-set_other ops k j m d other)) (h.each j within d)
  ];
  last = λ d. get_or-set_other ops k range.words m d (λ same. omega (arith, here, same)) ∙ h.last d;
}

-- none is made
pub none_made : (words : ℕ → Option ℕ) (range : WordRange) → IsWordRange range → AreDecoded words range (replicate (range.words + 1) stop_op)
none_made words range whole = record {
  whole = whole;
  count = length-replicate (range.words + 1) stop_op;
  each = λ k here d. inl (get_or-replicate (range.words + 1) k stop_op d (omega (arith, here)));
  last = λ d. get_or-replicate (range.words + 1) range.words stop_op d (omega arith);
}

-- all are forgotten
pub all_forgotten : (old new : ℕ → Option ℕ) (range : WordRange) (ops ops' : List MicroOp) → ops' ≡ replicate (length ops) stop_op → AreDecoded old range ops → AreDecoded new range ops'
all_forgotten old new range ops ops' is h =
    let all : ops' ≡ replicate (range.words + 1) stop_op = is ∙ ap (λ n. replicate n stop_op) h.count in
    subst (λ l. AreDecoded new range l) (sym all) (none_made new range h.whole)

-- the micro-ops of the words of which one of the four bytes from a on is are forgotten
abbrev first_gone : List MicroOp → WordRange → ℕ → List MicroOp
first_gone ops range a = without ops (index_at range (a / 4 * 4))

abbrev both_gone : List MicroOp → WordRange → ℕ → List MicroOp
both_gone ops range a = without (first_gone ops range a) (index_at range ((a + 3) % 2 ^ 32 / 4 * 4))

-- of a word beside them
beside : (old new : ℕ → Option ℕ) (range : WordRange) (ops : List MicroOp) (a k : ℕ) (d : MicroOp) → new (address_at range k) ≡ old (address_at range k) → Stands old range k (get_or ops k d) →
    Stands new range k (get_or (both_gone ops range a) k d)
beside old new range ops a k d same stands =
    stands_behind new range (first_gone ops range a) (index_at range ((a + 3) % 2 ^ 32 / 4 * 4)) k d
    (stands_behind new range ops (index_at range (a / 4 * 4)) k d (stands_on old new range k (get_or ops k d) same stands))

-- of one of them
forgotten : (range : WordRange) (ops : List MicroOp) (a k : ℕ) (d : MicroOp) → IsWordRange range → k < range.words → k < length ops → a < address_at range k + 4 → address_at range k < a + 4 →
    get_or (both_gone ops range a) k d ≡ stop_op
forgotten range ops a k d whole here place behind before =
    elim (met (address_at range k) a (aligned_address range k whole) (end_address range k whole here) behind before) [
      | inl first ↦
          still_stops (first_gone ops range a) (index_at range ((a + 3) % 2 ^ 32 / 4 * 4)) k d
          (gone_from ops (index_at range (a / 4 * 4)) k d (ap (index_at range) first ∙ own_index range k whole here) place)
      | inr last ↦
          gone_from (first_gone ops range a) (index_at range ((a + 3) % 2 ^ 32 / 4 * 4)) k d (ap (index_at range) last ∙ own_index range k whole here)
          (omega (arith, place, count_without ops (index_at range (a / 4 * 4))))
    ]

each_forgotten : (old new : ℕ → Option ℕ) (range : WordRange) (ops : List MicroOp) (a k : ℕ) (d : MicroOp) → AreSameBeside old new a → AreDecoded old range ops → k < range.words →
    Stands new range k (get_or (both_gone ops range a) k d)
each_forgotten old new range ops a k d same h here =
    elim (cases_lt a (address_at range k + 4)) [
      | inl behind ↦ elim (cases_lt (address_at range k) (a + 4)) [
        | inl before ↦ inl (forgotten range ops a k d h.whole here (omega (arith, h.count, here)) behind before)
        | inr above ↦ beside old new range ops a k d (same (address_at range k) (inr above)) (h.each k here d)
      ]
      | inr below ↦ beside old new range ops a k d (same (address_at range k) (inl below)) (h.each k here d)
    ]

pub four_forgotten : (old new : ℕ → Option ℕ) (range : WordRange) (ops : List MicroOp) (a : ℕ) → AreSameBeside old new a → AreDecoded old range ops → AreDecoded new range (both_gone ops range a)
four_forgotten old new range ops a same h = record {
  whole = h.whole;
  count = count_without (first_gone ops range a) (index_at range ((a + 3) % 2 ^ 32 / 4 * 4)) ∙ count_without ops (index_at range (a / 4 * 4)) ∙ h.count;
  each = λ k here d. each_forgotten old new range ops a k d same h here;
  last = λ d.
      still_stops (first_gone ops range a) (index_at range ((a + 3) % 2 ^ 32 / 4 * 4)) range.words d
      (still_stops ops (index_at range (a / 4 * 4)) range.words d (h.last d));
}
