-- The exits of an image, text word by text word.
use Rattle.std.proofs.Common.{◌≡◌, ◌⊎◌, ℕ, zero, suc, ◌+◌, ◌-◌, ◌*◌, ◌/◌, ◌%◌, ◌^◌, ◌<◌, ◌≤◌, ◌==◌, ◌&&◌, Bool, true, false, not, List, [], ◌∷◌, ◌++◌, length, slice_get, slice_index, nat_le, Option, Some, None, if◌then◌else◌, arith, refl, sym, ◌∙◌, ap, subst, inl, inr}
use Rattle.std.proofs.lemmas.Bool.{cases_Bool, cases_eq, cases_lt, and_parts, eq-eqb, eqb-true, le-leb, lt-ltb, both_ways}
use Rattle.std.proofs.lemmas.List.{length_push, get_or_append_left, get_or_push}
use Rattle.swi_isa.specs.Decode.{decoded}
use Rattle.swi_isa.specs.declared.instr.Instr.{Instr}
use Rattle.swi_isa.specs.declared.instr.Instr.TheVariants as instr
use Rattle.swi_image.specs.Format.{ImageData}
use Rattle.swi_image.specs.Place.{distance, length_at, next_start, place_of, place_of_word, IsWordOf}
use Rattle.swi_image.specs.Sound.{IsImage}
use Rattle.swi_image.specs.Laws.{ascends, place_found, place_inside, place_lands}
use Rattle.swi_program.specs.Text.{TextData, IsSized, word_of}
use Rattle.swi_render.specs.Rendering.{Slot, rendering, rendering_of, falls, falls_of, jump, sum}
use Rattle.swi_render.specs.ImageOf.{IsImageOf, address_of, offset_in, rendering_at, start_of}
use Rattle.swi_render.specs.Carried.{GoesOn, StandAt, StandsFor}
use Rattle.swi_render.proofs.Carrying.{image_carries}
use Rattle.swi_render.proofs.Runs.{offset_next}
use Rattle.swi_hart.specs.Hart.{is_place}
use Rattle.swi_tally.specs.Exits.{AreExits, ExitsData, IsFree, with_exit}
use Rattle.swi_tally.specs.declared.exits.Exit.{Exit}
use Rattle.swi_survey.specs.declared.ways.Ways.{Ways}
use Rattle.swi_survey.specs.Leaving.{untaken_by}
use Rattle.swi_survey.specs.Ways.{AllBefore, AreAllWays, AreWays, FitsIf, HasNumber, Joins, exit_behind, exit_if, exit_to, instr_at, is_last, jump_of, number_if, own_exit, own_if, place_behind, with_if}

pub same_some : {A : Type 0} (x y : A) → ◌≡◌ {A = Option A} (Some x) (Some y) → x ≡ y
same_some x y e = cc

-- the text word at its own address
at_itself : (base k n : ℕ) → base % 4 ≡ 0 → k < n → base + 4 * n ≤ 2 ^ 32 → ((base + 4 * k) % 4 ≡ 0) × (base ≤ base + 4 * k) × (base + 4 * k + 4 ≤ base + 4 * n) × ((base + 4 * k - base) / 4 ≡ k)
at_itself base k n even lt end = (omega arith, omega arith, omega arith, omega arith)

pub word_here : (t : TextData) (k : ℕ) → IsSized t → k < length t.words → word_of t (address_of t k) ≡ Some (slice_index t.words k)
word_here t k s lt =
    let a = at_itself t.base k (length t.words) s.aligned lt s.end in
    ap (λ (b : Bool). if b && (nat_le t.base (address_of t k) && nat_le (address_of t k + 4) (t.base + 4 * length t.words)) then Some (slice_index t.words ((address_of t k - t.base) / 4)) else None) (eq-eqb _ _ a.0)
    ∙ ap (λ (b : Bool). if b && nat_le (address_of t k + 4) (t.base + 4 * length t.words) then Some (slice_index t.words ((address_of t k - t.base) / 4)) else None) (le-leb _ _ a.1)
    ∙ ap (λ (b : Bool). if b then Some (slice_index t.words ((address_of t k - t.base) / 4)) else None) (le-leb _ _ a.2)
    ∙ ap (λ (n : ℕ). Some (slice_index t.words n)) a.3

stand_fits : (v : ImageData) (b o : ℕ) (ss : List Slot) → StandAt v b o ss → o + length ss ≤ length_at v b
stand_fits v b o [] stands = omega (arith, stands)
stand_fits v b o (s ∷ ss) stands = omega (arith, stand_fits v b (o + 1) ss stands.1)

-- a text word and its place, with what is known of them
pub record Placed (t : TextData) (v : ImageData) (k : ℕ) (p : ℕ × ℕ) : Type 0 where
  pub sized : IsSized t
  pub image : IsImage v
  pub of : IsImageOf t v
  pub lt : k < length t.words
  pub place : place_of v (address_of t k) ≡ Some p
  pub own : IsWordOf v p.0 k
  pub block : p.0 < length v.starts
  pub small : p.1 + length (rendering_at t k) ≤ length_at v p.0
  pub most : length_at v p.0 ≤ 1024
  pub goes : falls_of (instr_at t k) ≡ true → GoesOn v (sum (address_of t k) 4) p.0 (p.1 + length (rendering_at t k))
  pub offset : p.1 ≡ offset_in t (start_of v p.0) k
  pub offset_is : p.1 ≡ slice_index v.offsets k

distance_here : (base k n : ℕ) → base + 4 * n ≤ 2 ^ 32 → k < n → (base + 4 * k + 2 ^ 32 - base) % 2 ^ 32 ≡ 4 * k
distance_here base k n end within = omega arith

word_distance : (t : TextData) (v : ImageData) (k : ℕ) → IsSized t → IsImageOf t v → k < length t.words → distance v (address_of t k) ≡ 4 * k
word_distance t v k s of lt = ap (λ (n : ℕ). (address_of t k + 2 ^ 32 - n) % 2 ^ 32) of.base ∙ distance_here t.base k (length t.words) s.end lt

quarter : (d k : ℕ) → d ≡ 4 * k → d / 4 ≡ k
quarter d k e = omega arith

pub placed : (t : TextData) (v : ImageData) (k : ℕ) (p : ℕ × ℕ) → IsSized t → IsImage v → IsImageOf t v → k < length t.words → place_of v (address_of t k) ≡ Some p → Placed t v k p
unfolding rendering falls
placed t v k p s i of lt at =
    let carried = image_carries t v s i of in
    let stands = carried.stands (address_of t k) (slice_index t.words k) (word_here t k s lt) in
    let same : (stands.0, stands.1) ≡ p = same_some _ _ (sym stands.2 ∙ at) in
    let there : StandsFor v (slice_index t.words k) (address_of t k) p.0 p.1 = subst (λ (q : ℕ × ℕ). StandsFor v (slice_index t.words k) (address_of t k) q.0 q.1) same stands.3 in
    let inside = place_inside v i (address_of t k) p.0 p.1 at in
    let index : distance v (address_of t k) / 4 ≡ k = quarter _ k (word_distance t v k s of lt) in
    let own : IsWordOf v p.0 k = subst (λ (n : ℕ). IsWordOf v p.0 n) index (place_lands v i (address_of t k) p.0 p.1 at) in
    let known : p.0 < length v.starts = omega (arith, inside.0, i.blocks) in
    let offset_of : p.1 ≡ slice_index v.offsets k = ap (λ (q : ℕ × ℕ). q.1) (sym (same_some (place_of_word v k) p (sym (place_found v (address_of t k) k (word_distance t v k s of lt) (omega (arith, lt, of.len))) ∙ at))) in
    record {
      sized = s;
      image = i;
      of = of;
      lt = lt;
      place = at;
      own = own;
      block = known;
      small = stand_fits v p.0 p.1 (rendering_at t k) there.words;
      most = omega (arith, (i.lengths p.0 known).1, i.most);
      goes = there.behind;
      offset = offset_of ∙ (of.blocks p.0 known).offsets k own.from own.to;
      offset_is = offset_of;
    }

-- the exit of a JAL or branch stands before the end of its words
own_inside : (i : Option Instr) (w a d target : ℕ) → jump_of i a ≡ Some (d, target) → target % 4 ≡ 0 → d < length (rendering_of i w a)
own_inside (Some (instr.Jal rd off)) w a d target is aligned =
    let same : sum a off ≡ target = ap (λ (q : ℕ × ℕ). q.1) (same_some _ _ is) in
    let at : (if rd == 0 then 0 else 2) ≡ d = ap (λ (q : ℕ × ℕ). q.0) (same_some _ _ is) in
    by (sum a off % 4 == 0) (rd == 0) (eq-eqb _ _ (ap (λ (n : ℕ). n % 4) same ∙ aligned)) at
  where
    by : (u z : Bool) → u ≡ true → (if z then 0 else 2) ≡ d → d < length (jump u z rd (sum a off) a)
    by true true whole at = omega (arith, at)
    by true false whole at = omega (arith, at)
    by false z whole at = absurd cc
own_inside (Some (instr.Branch op rs1 rs2 off)) w a d target is aligned =
    let at : 1 ≡ d = ap (λ (q : ℕ × ℕ). q.0) (same_some _ _ is) in omega (arith, at)
own_inside x w a d target is aligned = absurd cc

-- an exit that is there can be added
exit_fits : (t : TextData) (v : ImageData) (e : ExitsData) (p : ℕ × ℕ) (a : ℕ) → IsSized t → IsImage v → e.blocks ≡ length v.starts → p.0 < length v.starts → p.1 < 1024 → IsFree e p.0 p.1 → FitsIf e (exit_to v p a)
exit_fits t v e p a s i blocks known small free = by (place_of v a) refl
  where
    by : (q : Option (ℕ × ℕ)) → place_of v a ≡ q → FitsIf e (exit_if p q)
    by None at = tt
    by (Some q) at = (
        let inside = place_inside v i a q.0 q.1 at in
        let led : q.0 < length v.starts = omega (arith, inside.0, i.blocks) in
        record {
          block = omega (arith, known, blocks);
          into = omega (arith, led, blocks);
          offset = small;
          at = omega (arith, inside.1, (i.lengths q.0 led).1, i.most);
          free = free;
        })

none_fits : (e : ExitsData) (x : Option Exit) → x ≡ None → FitsIf e x
none_fits e x is = subst (λ (y : Option Exit). FitsIf e y) (sym is) tt

free_at : (e : ExitsData) (p : ℕ × ℕ) (o : ℕ) → AllBefore e p → p.1 ≤ o → IsFree e p.0 o
free_at e p o before le x lt same same' = by (before x lt)
  where
    by : (slice_index e.from x < p.0) ⊎ ((slice_index e.from x ≡ p.0) × (slice_index e.offsets x < p.1)) → ⊥
    by (inl less) = absurd (omega (arith, less, same))
    by (inr here) = absurd (omega (arith, here.1, same', le))

-- the own exit of a text word: none, or one among its words
record OwnCase (t : TextData) (v : ImageData) (k : ℕ) (p : ℕ × ℕ) (d a : ℕ) : Type 0 where
  is : own_exit t v k p ≡ exit_to v (p.0, p.1 + d) a
  inside : d < length (rendering_at t k)

own_case : (t : TextData) (v : ImageData) (k : ℕ) (p : ℕ × ℕ) → Placed t v k p → (own_exit t v k p ≡ None) ⊎ ((d : ℕ) × (a : ℕ) × OwnCase t v k p d a)
unfolding rendering
own_case t v k p h = by (jump_of (instr_at t k) (address_of t k)) refl
  where
    at : (d a : ℕ) → jump_of (instr_at t k) (address_of t k) ≡ Some (d, a) → (q : Option (ℕ × ℕ)) → place_of v a ≡ q → (own_exit t v k p ≡ None) ⊎ ((d : ℕ) × (a : ℕ) × OwnCase t v k p d a)
    at d a jumps None there = inl (ap (own_if v p) jumps ∙ ap (exit_if (p.0, p.1 + d)) there)
    at d a jumps (Some q) there = inr (
      d,
      a,
      record {
        is = ap (own_if v p) jumps;
        inside = own_inside (instr_at t k) (slice_index t.words k) (address_of t k) d a jumps ((image_carries t v h.sized h.image h.of).aligned a q.0 q.1 there);
      },
    )

    by : (j : Option (ℕ × ℕ)) → jump_of (instr_at t k) (address_of t k) ≡ j → (own_exit t v k p ≡ None) ⊎ ((d : ℕ) × (a : ℕ) × OwnCase t v k p d a)
    by None jumps = inl (ap (own_if v p) jumps)
    by (Some j) jumps = at j.0 j.1 jumps (place_of v j.1) refl

pub own_fits : (t : TextData) (v : ImageData) (e : ExitsData) (k : ℕ) (p : ℕ × ℕ) → Placed t v k p → e.blocks ≡ length v.starts → AllBefore e p → FitsIf e (own_exit t v k p)
own_fits t v e k p h blocks before = elim (own_case t v k p h) [
  | inl none ↦ none_fits e (own_exit t v k p) none
  | inr c ↦ subst (λ (x : Option Exit). FitsIf e x) (sym c.2.is)
      (exit_fits t v e (p.0, p.1 + c.0) c.1 h.sized h.image blocks h.block (omega (arith, c.2.inside, h.small, h.most)) (free_at e p (p.1 + c.0) before (omega arith)))
]

-- ---- all stand before what comes next

weaker : (e : ExitsData) (p : ℕ × ℕ) (m : ℕ) → AllBefore e p → p.1 ≤ m → AllBefore e (p.0, m)
weaker e p m before le x lt = by (before x lt)
  where
    by : (slice_index e.from x < p.0) ⊎ ((slice_index e.from x ≡ p.0) × (slice_index e.offsets x < p.1)) → (slice_index e.from x < p.0) ⊎ ((slice_index e.from x ≡ p.0) × (slice_index e.offsets x < m))
    by (inl lower) = inl lower
    by (inr here) = inr (here.0, omega (arith, here.1, le))

before_more : (e : ExitsData) (p : ℕ × ℕ) (m : ℕ) (x : Exit) → AreExits e → AllBefore e p → p.1 ≤ m → x.block ≡ p.0 → x.offset < m → AllBefore (with_exit e x.block x.offset x.into x.at) (p.0, m)
before_more e p m x are before le same less y lt = elim (cases_lt y (length e.from)) [
  | inl old ↦ by_old (before y old) old
  | inr new ↦ (
      let last : length e.from ≡ y = omega (arith, lt, length_push e.from x.block, new) in
      inr (get_or_push e.from x.block 0 y last ∙ same, omega (arith, get_or_push e.offsets x.offset 0 y (are.offsets_long ∙ last), less)))
]
  where
    by_old : (slice_index e.from y < p.0) ⊎ ((slice_index e.from y ≡ p.0) × (slice_index e.offsets y < p.1)) → y < length e.from →
        (slice_index (e.from ++ x.block ∷ []) y < p.0) ⊎ ((slice_index (e.from ++ x.block ∷ []) y ≡ p.0) × (slice_index (e.offsets ++ x.offset ∷ []) y < m))
    by_old (inl lower) old = inl (omega (arith, lower, get_or_append_left e.from (x.block ∷ []) 0 y old))
    by_old (inr here) old = inr (
      get_or_append_left e.from (x.block ∷ []) 0 y old ∙ here.0,
      omega (arith, get_or_append_left e.offsets (x.offset ∷ []) 0 y (omega (arith, old, are.offsets_long)), here.1, le),
    )

exit_before : (v : ImageData) (e : ExitsData) (p : ℕ × ℕ) (o m a : ℕ) → AreExits e → AllBefore e p → p.1 ≤ m → o < m → AllBefore (with_if e (exit_to v (p.0, o) a)) (p.0, m)
exit_before v e p o m a are before le less = by (place_of v a)
  where
    by : (q : Option (ℕ × ℕ)) → AllBefore (with_if e (exit_if (p.0, o) q)) (p.0, m)
    by None = weaker e p m before le
    by (Some q) = before_more e p m (record { block = p.0; offset = o; into = q.0; at = q.1 }) are before le refl less

none_before : (e : ExitsData) (p : ℕ × ℕ) (m : ℕ) (x : Option Exit) → x ≡ None → AllBefore e p → p.1 ≤ m → AllBefore (with_if e x) (p.0, m)
none_before e p m x is before le = subst (λ (y : Option Exit). AllBefore (with_if e y) (p.0, m)) (sym is) (weaker e p m before le)

pub own_before : (t : TextData) (v : ImageData) (e : ExitsData) (k : ℕ) (p : ℕ × ℕ) → Placed t v k p → AreExits e → AllBefore e p → AllBefore (with_if e (own_exit t v k p)) (place_behind t k p)
own_before t v e k p h are before = elim (own_case t v k p h) [
  | inl none ↦ none_before e p (p.1 + length (rendering_at t k)) (own_exit t v k p) none before (omega arith)
  | inr c ↦ subst (λ (x : Option Exit). AllBefore (with_if e x) (place_behind t k p)) (sym c.2.is)
      (exit_before v e p (p.1 + c.0) (p.1 + length (rendering_at t k)) c.1 are before (omega arith) (omega (arith, c.2.inside)))
]

-- ---- the exit behind

-- where the next text word stands behind the words, and where it doesn't
record BehindCase (t : TextData) (v : ImageData) (k : ℕ) (p : ℕ × ℕ) : Type 0 where
  is : exit_behind t v k p ≡ exit_to v (place_behind t k p) (sum (address_of t k) 4)
  small : p.1 + length (rendering_at t k) < 1024

not_false : (b : Bool) → not b ≡ true → b ≡ false
not_false true e = absurd cc
not_false false e = refl

pub not_true : (b : Bool) → not b ≡ false → b ≡ true
not_true true e = refl
not_true false e = absurd cc

pub stands_at : (q : Option (ℕ × ℕ)) (b o : ℕ) → is_place q b o ≡ true → q ≡ Some (b, o)
stands_at None b o e = absurd cc
stands_at (Some r) b o e = (
    let parts = and_parts (r.0 == b) (r.1 == o) e in
    ap (λ (n : ℕ). Some (n, r.1)) (eqb-true _ _ parts.0) ∙ ap (λ (n : ℕ). Some (b, n)) (eqb-true _ _ parts.1))

at_stands : (q : Option (ℕ × ℕ)) (b o : ℕ) → q ≡ Some (b, o) → is_place q b o ≡ true
at_stands q b o is = ap (λ (r : Option (ℕ × ℕ)). is_place r b o) is ∙ ap (λ (x : Bool). x && o == o) (eq-eqb b b refl) ∙ eq-eqb o o refl

behind_case : (t : TextData) (v : ImageData) (k : ℕ) (p : ℕ × ℕ) → Placed t v k p → (exit_behind t v k p ≡ None) ⊎ BehindCase t v k p
behind_case t v k p h = elim (cases_Bool (is_last t v k p)) [
  | inl last ↦ elim (cases_Bool (falls_of (instr_at t k))) [
    | inl on ↦ inr (record {
      is = ap (λ (b : Bool). if b then (if falls_of (instr_at t k) then exit_to v (place_behind t k p) (sum (address_of t k) 4) else None) else None) last
          ∙ ap (λ (b : Bool). if b then exit_to v (place_behind t k p) (sum (address_of t k) 4) else None) on;
      small = by last (h.goes on);
    })
    | inr off ↦ inl (ap (λ (b : Bool). if b then (if falls_of (instr_at t k) then exit_to v (place_behind t k p) (sum (address_of t k) 4) else None) else None) last
        ∙ ap (λ (b : Bool). if b then exit_to v (place_behind t k p) (sum (address_of t k) 4) else None) off)
  ]
  | inr next ↦ inl (ap (λ (b : Bool). if b then (if falls_of (instr_at t k) then exit_to v (place_behind t k p) (sum (address_of t k) 4) else None) else None) next)
]
  where
    by : is_last t v k p ≡ true → GoesOn v (sum (address_of t k) 4) p.0 (p.1 + length (rendering_at t k)) → p.1 + length (rendering_at t k) < 1024
    by last (inl there) = absurd (both_ways _ (not_false _ last) (at_stands _ p.0 (p.1 + length (rendering_at t k)) there))
    by last (inr fall) = omega (arith, fall.inside, h.most)

pub behind_fits : (t : TextData) (v : ImageData) (e : ExitsData) (k : ℕ) (p : ℕ × ℕ) → Placed t v k p → e.blocks ≡ length v.starts → AllBefore e (place_behind t k p) → FitsIf e (exit_behind t v k p)
behind_fits t v e k p h blocks before = elim (behind_case t v k p h) [
  | inl none ↦ none_fits e (exit_behind t v k p) none
  | inr c ↦ subst (λ (x : Option Exit). FitsIf e x) (sym c.is)
      (exit_fits t v e (place_behind t k p) (sum (address_of t k) 4) h.sized h.image blocks h.block c.small (free_at e (place_behind t k p) (p.1 + length (rendering_at t k)) before (omega arith)))
]

-- the next text word stands in this block or in one behind it
next_sum : (base k n : ℕ) → base + 4 * n ≤ 2 ^ 32 → k + 1 < n → (base + 4 * k + 4) % 2 ^ 32 ≡ base + 4 * (k + 1)
next_sum base k n end lt = omega arith

pub address_next : (t : TextData) (k : ℕ) → IsSized t → k + 1 < length t.words → sum (address_of t k) 4 ≡ address_of t (k + 1)
address_next t k s lt = next_sum t.base k (length t.words) s.end lt

not_before : (v : ImageData) (b c k : ℕ) → IsImage v → b < length v.starts → c < length v.starts → slice_index v.starts b ≤ k → k < next_start v c → b ≤ c
not_before v b c k i known led from to = elim (cases_lt c b) [
  | inl less ↦ (
      let more : c + 1 < length v.starts = omega (arith, less, known) in
      let next : next_start v c ≡ slice_index v.starts (c + 1) = ap (λ (x : Bool). if x then slice_index v.starts (c + 1) else length v.offsets) (lt-ltb _ _ more) in
      absurd (omega (arith, ascends v.starts (record { next = i.ascending }) (c + 1) b (omega (arith, less)) known, next, to, from)))
  | inr le ↦ le
]

all_lower : (e : ExitsData) (p q : ℕ × ℕ) → AllBefore e p → p.0 < q.0 → AllBefore e q
all_lower e p q before less x lt = inl (by (before x lt))
  where
    by : (slice_index e.from x < p.0) ⊎ ((slice_index e.from x ≡ p.0) × (slice_index e.offsets x < p.1)) → slice_index e.from x < q.0
    by (inl lower) = omega (arith, lower, less)
    by (inr here) = omega (arith, here.0, less)

same_block : (t : TextData) (v : ImageData) (k : ℕ) (p q : ℕ × ℕ) → Placed t v k p → Placed t v (k + 1) q → q.0 ≡ p.0 → q ≡ place_behind t k p
same_block t v k p q h next same =
    let first : start_of v q.0 ≡ start_of v p.0 = ap (λ (b : ℕ). start_of v b) same in
    let offset : q.1 ≡ p.1 + length (rendering_at t k) =
    next.offset ∙ ap (λ (f : ℕ). offset_in t f (k + 1)) first ∙ offset_next t (start_of v p.0) k h.own.from h.lt ∙ ap (λ (n : ℕ). n + length (rendering_at t k)) (sym h.offset) in
    ap (λ (b : ℕ). (b, q.1)) same ∙ ap (λ (n : ℕ). (p.0, n)) offset

pub behind_before : (t : TextData) (v : ImageData) (e : ExitsData) (k : ℕ) (p q : ℕ × ℕ) → Placed t v k p → Placed t v (k + 1) q → AreExits e → AllBefore e (place_behind t k p) → AllBefore (with_if e (exit_behind t v k p)) q
behind_before t v e k p q h next are before = elim (cases_Bool (is_last t v k p)) [
  | inl last ↦ all_lower (with_if e (exit_behind t v k p)) (p.0, p.1 + length (rendering_at t k) + 1) q (all_before (behind_case t v k p h)) (strictly last)
  | inr on ↦ (
      let none : exit_behind t v k p ≡ None = ap (λ (b : Bool). if b then (if falls_of (instr_at t k) then exit_to v (place_behind t k p) (sum (address_of t k) 4) else None) else None) on in
      let there : place_of v (sum (address_of t k) 4) ≡ Some (place_behind t k p) = stands_at _ _ _ (not_true _ on) in
      let same : place_behind t k p ≡ q = same_some _ _ (sym there ∙ ap (place_of v) (address_next t k h.sized next.lt) ∙ next.place) in
      subst (λ (r : ℕ × ℕ). AllBefore (with_if e (exit_behind t v k p)) r) same (subst (λ (x : Option Exit). AllBefore (with_if e x) (place_behind t k p)) (sym none) before))
]
  where
    all_before : (exit_behind t v k p ≡ None) ⊎ BehindCase t v k p → AllBefore (with_if e (exit_behind t v k p)) (p.0, p.1 + length (rendering_at t k) + 1)
    all_before (inl none) = none_before e (place_behind t k p) (p.1 + length (rendering_at t k) + 1) (exit_behind t v k p) none before (omega arith)
    all_before (inr c) = subst (λ (x : Option Exit). AllBefore (with_if e x) (p.0, p.1 + length (rendering_at t k) + 1)) (sym c.is)
        (exit_before v e (place_behind t k p) (p.1 + length (rendering_at t k)) (p.1 + length (rendering_at t k) + 1) (sum (address_of t k) 4) are before (omega arith) (omega arith))

    strictly : is_last t v k p ≡ true → p.0 < q.0
    strictly last =
        let no_less : p.0 ≤ q.0 = not_before v p.0 q.0 (k + 1) h.image h.block next.block (omega (arith, h.own.from)) next.own.to in
        elim (cases_eq q.0 p.0) [
          | inl same ↦ absurd (both_ways _ (not_false _ last) (at_stands _ p.0 (p.1 + length (rendering_at t k))
              (ap (place_of v) (address_next t k h.sized next.lt) ∙ next.place ∙ ap (λ (r : ℕ × ℕ). Some r) (same_block t v k p q h next same))))
          | inr ne ↦ grind (arith, no_less)
        ]

-- ---- numbers

pub number_here : (e : ExitsData) (x : Option Exit) → AreExits e → HasNumber (with_if e x) x (number_if e x)
number_here e None are = refl
number_here e (Some x) are = (
  omega (arith, length_push e.from x.block),
  get_or_push e.from x.block 0 (length e.from) refl,
  get_or_push e.offsets x.offset 0 (length e.from) are.offsets_long,
  get_or_push e.into x.into 0 (length e.from) are.into_long,
  get_or_push e.ats x.at 0 (length e.from) are.ats_long,
)

pub number_stays : (e : ExitsData) (y x : Option Exit) (n : Option ℕ) → AreExits e → HasNumber e x n → HasNumber (with_if e y) x n
number_stays e None x n are has = has
number_stays e (Some y) None n are has = has
number_stays e (Some y) (Some x) None are has = has
number_stays e (Some y) (Some x) (Some n) are has = (
  omega (arith, has.0, length_push e.from y.block),
  get_or_append_left e.from (y.block ∷ []) 0 n has.0 ∙ has.1,
  get_or_append_left e.offsets (y.offset ∷ []) 0 n (omega (arith, has.0, are.offsets_long)) ∙ has.2,
  get_or_append_left e.into (y.into ∷ []) 0 n (omega (arith, has.0, are.into_long)) ∙ has.3,
  get_or_append_left e.ats (y.at ∷ []) 0 n (omega (arith, has.0, are.ats_long)) ∙ has.4,
)

pub few_more : (e : ExitsData) (x : Option Exit) → length (with_if e x).from ≤ length e.from + 1
few_more e None = omega arith
few_more e (Some x) = omega (arith, length_push e.from x.block)

pub same_blocks : (e : ExitsData) (x : Option Exit) → (with_if e x).blocks ≡ e.blocks
same_blocks e None = refl
same_blocks e (Some x) = refl

pub joins : (t : TextData) (v : ImageData) (e f g : ExitsData) (k : ℕ) (p : ℕ × ℕ) (w : Ways) → Placed t v k p → AreExits e → AreExits f → AreExits g → AllBefore e p →
    f ≡ with_if e (own_exit t v k p) → g ≡ with_if f (exit_behind t v k p) → w.block ≡ p.0 → w.own ≡ number_if e (own_exit t v k p) → w.behind ≡ number_if f (exit_behind t v k p) → w.last ≡ is_last t v k p → w.left ≡ untaken_by (instr_at t k) (address_of t k) → Joins t v k e g w
joins t v e f g k p w h are are_f are_g before is is' block own behind last left = record {
  are = are_g;
  blocks = ap (λ (q : ExitsData). q.blocks) is' ∙ same_blocks f (exit_behind t v k p) ∙ ap (λ (q : ExitsData). q.blocks) is ∙ same_blocks e (own_exit t v k p);
  few = omega (arith, few_more f (exit_behind t v k p), few_more e (own_exit t v k p), ap (λ (q : ExitsData). length q.from) is, ap (λ (q : ExitsData). length q.from) is');
  ways = record {
    block = λ q at. at_place q at (λ (r : ℕ × ℕ). w.block ≡ r.0) block;
    own = λ q at. at_place q at (λ (r : ℕ × ℕ). HasNumber g (own_exit t v k r) w.own) own_number;
    behind = λ q at. at_place q at (λ (r : ℕ × ℕ). HasNumber g (exit_behind t v k r) w.behind) behind_number;
    last = λ q at. at_place q at (λ (r : ℕ × ℕ). w.last ≡ is_last t v k r) last;
    left = left;
  };
  stays = λ x n has.
      subst (λ (q : ExitsData). HasNumber q x n) (sym is') (number_stays f (exit_behind t v k p) x n are_f (subst (λ (q : ExitsData). HasNumber q x n) (sym is) (number_stays e (own_exit t v k p) x n are has)));
  before = λ q at lt.
      subst (λ (r : ExitsData). AllBefore r q) (sym is') (behind_before t v f k p q h (placed t v (k + 1) q h.sized h.image h.of lt at) are_f (subst (λ (r : ExitsData). AllBefore r (place_behind t k p)) (sym is) (own_before t v e k p h are before)));
}
  where
    at_place : (q : ℕ × ℕ) → place_of v (address_of t k) ≡ Some q → (P : ℕ × ℕ → Type 0) → P p → P q
    at_place q at P here = subst P (same_some p q (sym h.place ∙ at)) here

    own_number : HasNumber g (own_exit t v k p) w.own
    own_number =
        subst (λ (n : Option ℕ). HasNumber g (own_exit t v k p) n) (sym own)
        (subst (λ (q : ExitsData). HasNumber q (own_exit t v k p) (number_if e (own_exit t v k p))) (sym is')
        (number_stays f (exit_behind t v k p) (own_exit t v k p) (number_if e (own_exit t v k p)) are_f
        (subst (λ (q : ExitsData). HasNumber q (own_exit t v k p) (number_if e (own_exit t v k p))) (sym is) (number_here e (own_exit t v k p) are))))

    behind_number : HasNumber g (exit_behind t v k p) w.behind
    behind_number =
        subst (λ (n : Option ℕ). HasNumber g (exit_behind t v k p) n) (sym behind)
        (subst (λ (q : ExitsData). HasNumber q (exit_behind t v k p) (number_if f (exit_behind t v k p))) (sym is') (number_here f (exit_behind t v k p) are_f))

-- ---- the calls, as their code meets them

pub behind_none : (t : TextData) (v : ImageData) (k : ℕ) (p : ℕ × ℕ) (last : Bool) → last ≡ is_last t v k p → last ≡ false → None ≡ exit_behind t v k p
behind_none t v k p last is off =
    sym (ap (λ (b : Bool). if b then (if falls_of (instr_at t k) then exit_to v (place_behind t k p) (sum (address_of t k) 4) else None) else None) (sym is ∙ off))

falls_here : (t : TextData) (k w : ℕ) → w ≡ slice_index t.words k → falls w ≡ falls_of (instr_at t k)
unfolding falls
falls_here t k w is = ap (λ (n : ℕ). falls_of (decoded n)) is

last_then : (t : TextData) (v : ImageData) (k : ℕ) (p : ℕ × ℕ) (last : Bool) → last ≡ is_last t v k p → last ≡ true →
    exit_behind t v k p ≡ (if falls_of (instr_at t k) then exit_to v (place_behind t k p) (sum (address_of t k) 4) else None)
last_then t v k p last is on =
    ap (λ (b : Bool). if b then (if falls_of (instr_at t k) then exit_to v (place_behind t k p) (sum (address_of t k) 4) else None) else None) (sym is ∙ on)

pub behind_stops : (t : TextData) (v : ImageData) (k : ℕ) (p : ℕ × ℕ) (last goes : Bool) (w : ℕ) → last ≡ is_last t v k p → last ≡ true → w ≡ slice_index t.words k → goes ≡ falls w → goes ≡ false → None ≡ exit_behind t v k p
behind_stops t v k p last goes w is on word at off =
    sym (last_then t v k p last is on ∙ ap (λ (b : Bool). if b then exit_to v (place_behind t k p) (sum (address_of t k) 4) else None) (sym (falls_here t k w word) ∙ sym at ∙ off))

pub behind_goes : (t : TextData) (v : ImageData) (k : ℕ) (p : ℕ × ℕ) (last goes : Bool) (w len a : ℕ) (x : Option Exit) → last ≡ is_last t v k p → last ≡ true → w ≡ slice_index t.words k → goes ≡ falls w → goes ≡ true →
    len ≡ length (rendering_at t k) → a ≡ sum (address_of t k) 4 → x ≡ exit_to v (p.0, p.1 + len) a → x ≡ exit_behind t v k p
behind_goes t v k p last goes w len a x is on word at yes_goes long address made =
    made ∙ ap (λ (n : ℕ). exit_to v (p.0, p.1 + n) a) long ∙ ap (λ (n : ℕ). exit_to v (place_behind t k p) n) address
    ∙ sym (last_then t v k p last is on ∙ ap (λ (b : Bool). if b then exit_to v (place_behind t k p) (sum (address_of t k) 4) else None) (sym (falls_here t k w word) ∙ sym at ∙ yes_goes))

pub word_small : (t : TextData) (v : ImageData) (k : ℕ) (p : ℕ × ℕ) → Placed t v k p → p.1 < 1024
word_small t v k p h = omega (arith, h.own.inside, h.offset_is, h.most)

-- ---- the loop over the text words

pub word_placed : (t : TextData) (v : ImageData) (k : ℕ) → IsSized t → IsImageOf t v → k < length t.words → place_of v (address_of t k) ≡ Some (place_of_word v k)
word_placed t v k s of lt = place_found v (address_of t k) k (word_distance t v k s of lt) (omega (arith, lt, of.len))

pub record MapSoFar (t : TextData) (v : ImageData) (k : ℕ) (e : ExitsData) (ways : List Ways) : Type 0 where
  pub are : AreExits e
  pub blocks : e.blocks ≡ length v.starts
  pub few : length e.from ≤ 2 * k
  pub long : length ways ≡ k
  pub each : (j : ℕ) (w : Ways) → slice_get ways j ≡ Some w → AreWays t v e j w
  pub before : (p : ℕ × ℕ) → place_of v (address_of t k) ≡ Some p → k < length t.words → AllBefore e p

pub map_first : (t : TextData) (v : ImageData) (e : ExitsData) (blocks : ℕ) → AreExits e → (let n : ExitsData = record { blocks = blocks; from = []; offsets = []; into = []; ats = [] } in e ≡ n) → blocks ≡ length v.starts → MapSoFar t v 0 e []
map_first t v e blocks are is same = record {
  are = are;
  blocks = ap (λ (q : ExitsData). q.blocks) is ∙ same;
  few = omega (arith, ap (λ (q : ExitsData). length q.from) is);
  long = refl;
  each = λ j w at. absurd (no_way j w at);
  before = λ p at lt x lt'. absurd (omega (arith, lt', ap (λ (q : ExitsData). length q.from) is));
}
  where
    no_way : (j : ℕ) (w : Ways) → slice_get [] j ≡ Some w → ⊥
    no_way j w at = cc

get_last : (xs : List Ways) (y z : Ways) (j : ℕ) → slice_get (xs ++ y ∷ []) j ≡ Some z → (slice_get xs j ≡ Some z) ⊎ ((j ≡ length xs) × (y ≡ z))
get_last [] y z zero at = inr (refl, same_some y z at)
get_last [] y z (suc j) at = absurd cc
get_last (x ∷ xs) y z zero at = inl at
get_last (x ∷ xs) y z (suc j) at = elim (get_last xs y z j at) [
  | inl before ↦ inl before
  | inr here ↦ inr (omega (arith, here.0), here.1)
]

ways_stay : (t : TextData) (v : ImageData) (k j : ℕ) (e f : ExitsData) (w z : Ways) → Joins t v k e f w → AreWays t v e j z → AreWays t v f j z
ways_stay t v k j e f w z joined are = record {
  block = are.block;
  own = λ p at. joined.stays (own_exit t v j p) z.own (are.own p at);
  behind = λ p at. joined.stays (exit_behind t v j p) z.behind (are.behind p at);
  last = are.last;
  left = are.left;
}

pub map_more : (t : TextData) (v : ImageData) (k : ℕ) (e f : ExitsData) (ways : List Ways) (w : Ways) → MapSoFar t v k e ways → Joins t v k e f w → MapSoFar t v (k + 1) f (ways ++ w ∷ [])
map_more t v k e f ways w so_far joined = record {
  are = joined.are;
  blocks = joined.blocks ∙ so_far.blocks;
  few = omega (arith, joined.few, so_far.few);
  long = length_push ways w ∙ ap (λ (n : ℕ). n + 1) so_far.long;
  each = λ j z at. each j z (get_last ways w z j at);
  before = λ p at lt. joined.before p at lt;
}
  where
    each : (j : ℕ) (z : Ways) → (slice_get ways j ≡ Some z) ⊎ ((j ≡ length ways) × (w ≡ z)) → AreWays t v f j z
    each j z (inl before) = ways_stay t v k j e f w z joined (so_far.each j z before)
    each j z (inr here) = subst (λ (n : ℕ). AreWays t v f n z) (sym (here.0 ∙ so_far.long)) (subst (λ (y : Ways). AreWays t v f k y) here.1 joined.ways)

pub map_all : (t : TextData) (v : ImageData) (k : ℕ) (e : ExitsData) (ways : List Ways) → MapSoFar t v k e ways → AreAllWays t v e ways
map_all t v k e ways so_far = record { blocks = sym so_far.blocks; each = so_far.each }

pub not_there : (t : TextData) (v : ImageData) (k : ℕ) (o : Option (ℕ × ℕ)) → IsSized t → IsImageOf t v → k < length t.words → o ≡ place_of v (address_of t k) → o ≡ None → ⊥
not_there t v k o s of lt is none = let differs : ◌≡◌ {A = Option (ℕ × ℕ)} None (Some (place_of_word v k)) = sym none ∙ is ∙ word_placed t v k s of lt in cc
