-- The links among the exits: as a block leaves, and as an exit is linked.
use Rattle.std.proofs.Common.{◌≡◌, ℕ, zero, suc, ◌+◌, ◌<◌, ◌==◌, ◌&&◌, ◌||◌, Bool, true, false, not, filter, length, slice_index, Option, Some, if◌then◌else◌, arith, refl, sym, ◌∙◌, ap, subst, inl, inr}
use Rattle.std.proofs.lemmas.Bool.{and_parts, and_from, or_cases, or_left, or_right, false_from_ne_true, both_ways, eqb-true, eq-eqb}
use Rattle.swi_rom.specs.Record.{Link, Placement, has_link, same_link, exit_among}
use Rattle.swi_rom.specs.Policy.{is_undone, is_kept, is_from, leads_to, with_link}
use Rattle.swi_rom.specs.Links.{same_ascending, same_tests, with_ascending, has_with, same_is, same_same, among_has, has_among}
use Rattle.swi_rom.specs.Collected.{collected, collected_has, has_collected, collected_ascending, has_filter, filter_ascending, length_collected, passing, passes, Differ}
use Rattle.swi_tally.specs.Exits.{ExitsData, AreExits, link_of, link_if, link_at, links_of}

-- what is collected depends on the numbers below n alone
pub collected_same : (f g : ℕ → Option Link) (n : ℕ) → ((x : ℕ) → x < n → f x ≡ g x) → collected f n ≡ collected g n
unfolding collected
collected_same f g zero same = refl
collected_same f g (suc n) same = rw (same n (omega arith), collected_same f g n (λ x lt. same x (omega arith))) refl

pub links_same : (e : ExitsData) (p q : ℕ → Bool) → ((x : ℕ) → x < length e.from → p x ≡ q x) → links_of e p ≡ links_of e q
unfolding links_of
links_same e p q same = collected_same (link_at e p) (link_at e q) (length e.from) (λ x lt. ap (λ (t : Bool). link_if e t x) (same x lt))

some_is : (e : ExitsData) (t : Bool) (x : ℕ) (k : Link) → link_if e t x ≡ Some k → (t ≡ true) × (link_of e x ≡ k)
some_is e true x k is = (refl, cc)
some_is e false x k is = absurd cc

pub exits_differ : (e : ExitsData) (linked : ℕ → Bool) → AreExits e → Differ (link_at e linked) (length e.from)
exits_differ e linked are i j k lt lt' f g =
    let a : link_of e i ≡ k = (some_is e (linked i) i k f).1 in
    let b : link_of e j ≡ k = (some_is e (linked j) j k g).1 in
    let same : link_of e i ≡ link_of e j = a ∙ sym b in
    are.distinct i j lt lt' (ap (λ (l : Link). l.block) same) (ap (λ (l : Link). l.offset) same)

-- those that pass a test
pub record Picks (p : Link → Bool) (f g : ℕ → Option Link) (n : ℕ) : Type 0 where
  pub stays : (x : ℕ) (k : Link) → x < n → f x ≡ Some k → p k ≡ true → g x ≡ Some k
  pub was : (x : ℕ) (k : Link) → x < n → g x ≡ Some k → (f x ≡ Some k) × (p k ≡ true)

pub filter_collected : (p : Link → Bool) (f g : ℕ → Option Link) (n : ℕ) → Differ f n → Picks p f g n → collected g n ≡ filter p (collected f n)
filter_collected p f g n differ picks =
    same_ascending _ _ (collected_ascending g n (λ i j k lt lt' a b. differ i j k lt lt' (picks.was i k lt a).0 (picks.was j k lt' b).0))
    (filter_ascending p (collected f n) (collected_ascending f n differ))
    (λ k. same_tests (has_link (collected g n) k) (has_link (filter p (collected f n)) k)
    (λ h. let w = collected_has g n k h in
    let was = picks.was w.0 k w.1 w.2 in
    has_filter p (collected f n) k ∙ and_from _ _ (has_collected f n w.0 k w.1 was.0) was.1)
    (λ h. let both = and_parts _ _ (sym (has_filter p (collected f n) k) ∙ h) in
    let w = collected_has f n k both.0 in
    has_collected g n w.0 k w.1 (picks.stays w.0 k w.1 w.2 both.1)))

-- a block leaves, with the links from it and into it
abbrev pub stays_linked : ExitsData → ℕ → (ℕ → Bool) → ℕ → Bool
stays_linked e b linked x = (linked x && not (slice_index e.from x == b)) && not (slice_index e.into x == b)

leaves_picks : (e : ExitsData) (p : Placement) (linked after : ℕ → Bool) → p.program ≡ 0 → ((x : ℕ) → x < length e.from → after x ≡ stays_linked e p.block linked x) →
    Picks (is_kept p) (link_at e linked) (link_at e after) (length e.from)
unfolding is_kept
leaves_picks e p linked after own is = record {
  stays = λ x k lt f passed.
      let s = some_is e (linked x) x k f in
      let t : after x ≡ true = is x lt ∙ keeps x k s.0 s.1 passed in
      rw t (ap (λ (l : Link). Some l) s.1);
  was = λ x k lt f.
      let s = some_is e (after x) x k f in
      let parts = split (linked x) (slice_index e.from x == p.block) (slice_index e.into x == p.block) (sym (is x lt) ∙ s.0) in
      (rw parts.0 (ap (λ (l : Link). Some l) s.1), subst (λ (l : Link). not (is_from p l || leads_to p l) ≡ true) s.1 (rw own (neither (slice_index e.from x == p.block) (slice_index e.into x == p.block) parts.1 parts.2)));
}
  where
    split : (a b c : Bool) → ((a && not b) && not c) ≡ true → (a ≡ true) × (b ≡ false) × (c ≡ false)
    split true false false e = (refl, refl, refl)
    split true true c e = absurd cc
    split true false true e = absurd cc
    split false b c e = absurd cc

    neither : (b c : Bool) → b ≡ false → c ≡ false → not (b || c) ≡ true
    neither b c f g = rw (f, g) refl

    joins : (a b c : Bool) → a ≡ true → not (b || c) ≡ true → ((a && not b) && not c) ≡ true
    joins true false false e f = refl
    joins true true c e f = absurd cc
    joins true false true e f = absurd cc
    joins false b c e f = absurd cc

    keeps : (x : ℕ) (k : Link) → linked x ≡ true → link_of e x ≡ k → not (is_from p k || leads_to p k) ≡ true → stays_linked e p.block linked x ≡ true
    keeps x k t same passed =
        joins (linked x) (slice_index e.from x == p.block) (slice_index e.into x == p.block) t
        (rw own at (subst (λ (l : Link). not (is_from p l || leads_to p l) ≡ true) (sym same) passed))

pub links_kept : (e : ExitsData) (p : Placement) (linked after : ℕ → Bool) → AreExits e → p.program ≡ 0 → ((x : ℕ) → x < length e.from → after x ≡ stays_linked e p.block linked x) →
    links_of e after ≡ filter (is_kept p) (links_of e linked)
unfolding links_of
links_kept e p linked after are own is =
    filter_collected (is_kept p) (link_at e linked) (link_at e after) (length e.from) (exits_differ e linked are) (leaves_picks e p linked after own is)

-- an exit is linked
pub links_with : (e : ExitsData) (x : ℕ) (linked after : ℕ → Bool) → AreExits e → x < length e.from → linked x ≡ false → ((y : ℕ) → y < length e.from → after y ≡ (linked y || y == x)) →
    links_of e after ≡ with_link (link_of e x) (links_of e linked)
unfolding links_of
links_with e x linked after are lt none is =
    let n : ℕ = length e.from in
    let new : has_link (collected (link_at e linked) n) (link_of e x) ≡ false =
    false_from_ne_true _ (λ (h : has_link (collected (link_at e linked) n) (link_of e x) ≡ true).
    let w = collected_has (link_at e linked) n (link_of e x) h in
    let s = some_is e (linked w.0) w.0 (link_of e x) w.2 in
    let same : w.0 ≡ x = are.distinct w.0 x w.1 lt (ap (λ (l : Link). l.block) s.1) (ap (λ (l : Link). l.offset) s.1) in
    both_ways (linked x) none (subst (λ (y : ℕ). linked y ≡ true) same s.0)) in
    same_ascending _ _ (collected_ascending (link_at e after) n (exits_differ e after are))
    (with_ascending (link_of e x) (collected (link_at e linked) n) (collected_ascending (link_at e linked) n (exits_differ e linked are)) new)
    (λ k. same_tests (has_link (collected (link_at e after) n) k) (has_link (with_link (link_of e x) (collected (link_at e linked) n)) k)
    (λ h. let w = collected_has (link_at e after) n k h in
    let s = some_is e (after w.0) w.0 k w.2 in
    has_with (link_of e x) (collected (link_at e linked) n) k ∙ elim (or_cases (linked w.0) (w.0 == x) (sym (is w.0 w.1) ∙ s.0)) [
      | inl old ↦ or_right _ _ (has_collected (link_at e linked) n w.0 k w.1 (rw old (ap (λ (l : Link). Some l) s.1)))
      | inr here ↦ or_left _ _ (subst (λ (l : Link). same_link l (link_of e x) ≡ true) s.1 (subst (λ (y : ℕ). same_link (link_of e w.0) (link_of e y) ≡ true) (eqb-true _ _ here) (same_same (link_of e w.0))))
    ])
    (λ h. elim (or_cases _ _ (sym (has_with (link_of e x) (collected (link_at e linked) n) k) ∙ h)) [
      | inl same ↦ (
          let here : after x ≡ true = is x lt ∙ or_right (linked x) (x == x) (eq-eqb x x refl) in
          has_collected (link_at e after) n x k lt (rw here (ap (λ (l : Link). Some l) (sym (same_is k (link_of e x) same)))))
      | inr old ↦ (
          let w = collected_has (link_at e linked) n k old in
          let s = some_is e (linked w.0) w.0 k w.2 in
          let there : after w.0 ≡ true = is w.0 w.1 ∙ or_left (linked w.0) (w.0 == x) s.0 in
          has_collected (link_at e after) n w.0 k w.1 (rw there (ap (λ (l : Link). Some l) s.1)))
    ]))

-- whether it is
pub linked_is : (e : ExitsData) (x : ℕ) (linked : ℕ → Bool) → AreExits e → x < length e.from → exit_among (links_of e linked) 0 (slice_index e.from x) (slice_index e.offsets x) ≡ linked x
unfolding links_of
linked_is e x linked are lt = same_tests _ (linked x)
    (λ h. let a = among_has (collected (link_at e linked) (length e.from)) 0 (slice_index e.from x) (slice_index e.offsets x) h in
    let w = collected_has (link_at e linked) (length e.from) a.link a.has in
    let s = some_is e (linked w.0) w.0 a.link w.2 in
    let same : w.0 ≡ x = are.distinct w.0 x w.1 lt (ap (λ (l : Link). l.block) s.1 ∙ a.block) (ap (λ (l : Link). l.offset) s.1 ∙ a.offset) in
    subst (λ (y : ℕ). linked y ≡ true) same s.0)
    (λ t. has_among (collected (link_at e linked) (length e.from)) (link_of e x) (has_collected (link_at e linked) (length e.from) x (link_of e x) lt (rw t refl)))

-- how many are undone as a block leaves
undone_at : (e : ExitsData) (p : Placement) (t : Bool) (x : ℕ) → p.program ≡ 0 →
    passes (is_undone p) (link_if e t x) ≡ (slice_index e.into x == p.block && (t && not (slice_index e.from x == p.block)))
unfolding is_undone
undone_at e p true x own = rw own (swap (slice_index e.from x == p.block) (slice_index e.into x == p.block))
  where
    swap : (a b : Bool) → (not a && b) ≡ (b && not a)
    swap true true = refl
    swap true false = refl
    swap false true = refl
    swap false false = refl
undone_at e p false x own = none (slice_index e.into x == p.block)
  where
    none : (a : Bool) → false ≡ (a && false)
    none true = refl
    none false = refl

pub passing_same : (p : Link → Bool) (f : ℕ → Option Link) (test : ℕ → Bool) (count : ℕ → ℕ) (n : ℕ) → count 0 ≡ 0 → ((x : ℕ) → count (suc x) ≡ (if test x then count x + 1 else count x)) →
    ((x : ℕ) → x < n → passes p (f x) ≡ test x) → passing p f n ≡ count n
passing_same p f test count zero none more same = sym none
passing_same p f test count (suc n) none more same =
    rw (same n (omega arith), passing_same p f test count n none more (λ x lt. same x (omega arith))) (sym (more n))

pub undone_is : (e : ExitsData) (p : Placement) (linked test : ℕ → Bool) (count : ℕ → ℕ) → p.program ≡ 0 → count 0 ≡ 0 → ((x : ℕ) → count (suc x) ≡ (if test x then count x + 1 else count x)) →
    ((x : ℕ) → x < length e.from → test x ≡ (slice_index e.into x == p.block && (linked x && not (slice_index e.from x == p.block)))) →
    length (filter (is_undone p) (links_of e linked)) ≡ count (length e.from)
unfolding links_of
undone_is e p linked test count own none more same =
    length_collected (is_undone p) (link_at e linked) (length e.from)
    ∙ passing_same (is_undone p) (link_at e linked) test count (length e.from) none more (λ x lt. undone_at e p (linked x) x own ∙ sym (same x lt))
