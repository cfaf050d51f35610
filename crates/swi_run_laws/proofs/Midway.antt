-- A run from midway in an instruction.
use Rattle.std.proofs.Common.{◌≡◌, if◌then◌else◌, ℕ, zero, suc, ◌+◌, ◌-◌, ◌≤◌, nat_lt, Bool, true, false, List, [], ◌∷◌, ◌++◌, reverse, Option, Some, None, is_some, refl, sym, ap, ◌∙◌, zero-add, arith, append-nil}
use Rattle.std.proofs.lemmas.List.{append_assoc}
use Rattle.swi_outside.specs.CacheRam.{Fetch}
use Rattle.swi_calls.specs.declared.end.End.{End}
use Rattle.swi_image.specs.Format.{ImageData}
use Rattle.swi_rom.specs.Standing.{word_in}
use Rattle.swi_hart.specs.Hart.{original, slots}
use Rattle.swi_board.specs.Fetching.{fetches_from, index_in, words_run}
use Rattle.swi_board.specs.Transfers.{Here, at_fall, before_last, cost}
use Rattle.swi_run_laws.specs.After.{IsAfter, IsAfterMidway}
use Rattle.swi_board.specs.Moments.{Moment, Policy, completed, counted, event, events, executed, fell, led, next_fetch, stepped_at, written_in}
use Rattle.swi_run_laws.proofs.After.{Leads, events_more, is_after, leads}

-- the same moment with this count and these words
abbrev pub with_count : ℕ → List Fetch → Moment → Moment
with_count a w s = record s { count = a; words = w }

-- what machine instructions add, whatever was counted before
record Adds (s t : Moment) (to : ℕ → List Fetch → Moment) : Type 0 where
  many : ℕ
  more : List Fetch
  count : t.count ≡ s.count + many
  words : t.words ≡ more ++ s.words
  others : (a : ℕ) (w : List Fetch) → to a w ≡ with_count (a + many) (more ++ w) t

one_adds : (by : Policy) (v : ImageData) (s : Moment) → Adds s (event by v s) (λ a w. event by v (with_count a w s))
one_adds by v s = by_ending s.flat.machine.ending
  where
    whole : (h : Here) (ws : List Fetch) → Adds s (counted ws (completed by v h s)) (λ a w. counted ws (completed by v h (with_count a w s)))
    whole h ws = record { many = 1; more = ws; count = refl; words = refl; others = λ a w. refl }

    by_words : (p : ℕ × ℕ) (ws : List Fetch) (t : Bool) → Adds s (counted ws (if t then led s else completed by v (Some p) s)) (λ a w. counted ws (if t then led (with_count a w s) else completed by v (Some p) (with_count a w s)))
    by_words p ws true = record { many = 1; more = ws; count = refl; words = refl; others = λ a w. refl }
    by_words p ws false = whole (Some p) ws

    by_fall : (p : ℕ × ℕ) (ws : List Fetch) (t : Bool) → Adds s (counted ws (if t then fell by v p s else executed by v p s)) (λ a w. counted ws (if t then fell by v p (with_count a w s) else executed by v p (with_count a w s)))
    by_fall p ws true = record { many = 1; more = ws; count = refl; words = refl; others = λ a w. refl }
    by_fall p ws false = by_words p ws (nat_lt s.spent (before_last s.flat.machine (original s.flat.machine) (slots s.flat.machine)))

    by_here : (h : Here) → Adds s (stepped_at by v h s) (λ a w. stepped_at by v h (with_count a w s))
    by_here None = whole None []
    by_here (Some p) = by_fall p (next_fetch v p s ∷ []) (at_fall v s.flat.machine (Some p))

    none_more : (n : ℕ) → n ≡ n + 0
    none_more n = omega arith

    by_ending : (x : Option End) → Adds s (if is_some x then s else stepped_at by v s.here s) (λ a w. if is_some x then with_count a w s else stepped_at by v s.here (with_count a w s))
    by_ending None = by_here s.here
    by_ending (Some x) = record { many = 0; more = []; count = none_more s.count; words = refl; others = λ a w. ap (λ (n : ℕ). with_count n w s) (none_more a) }

all_add : (by : Policy) (v : ImageData) (j : ℕ) (s : Moment) → Adds s (events by v j s) (λ a w. events by v j (with_count a w s))
unfolding events
all_add by v zero s = record { many = 0; more = []; count = none_more s.count; words = refl; others = λ a w. ap (λ (n : ℕ). with_count n w s) (none_more a) }
  where
    none_more : (n : ℕ) → n ≡ n + 0
    none_more n = omega arith
all_add by v (suc j) s =
    let was = all_add by v j s in
    let one = one_adds by v (events by v j s) in
    let c = was.count in
    let d = one.count in
    record {
      many = was.many + one.many;
      more = one.more ++ was.more;
      count = omega (arith, c, d);
      words = one.words ∙ ap (λ (l : List Fetch). one.more ++ l) was.words ∙ sym (append_assoc one.more was.more s.words);
      others = λ a w.
          ap (λ (q : Moment). event by v q) (was.others a w) ∙ one.others (a + was.many) (was.more ++ w)
          ∙ ap (λ (n : ℕ). with_count n (one.more ++ (was.more ++ w)) (event by v (events by v j s))) (sum a was.many one.many)
          ∙ ap (λ (l : List Fetch). with_count (a + (was.many + one.many)) l (event by v (events by v j s))) (sym (append_assoc one.more was.more w));
    }
  where
    sum : (a b c : ℕ) → a + b + c ≡ a + (b + c)
    sum a b c = omega arith

-- so many words of the instruction were executed
module _ (by : Policy) (v : ImageData) (k : ℕ) (s : Moment) (p : ℕ × ℕ) (here : s.here ≡ Some p) (going : is_some s.flat.machine.ending ≡ false) (plain : at_fall v s.flat.machine (Some p) ≡ false)
    (few : s.spent ≤ before_last s.flat.machine (original s.flat.machine) (slots s.flat.machine)) (enough : s.spent ≤ cost v k s.flat (Some p)) where
  -- the moment at which it began, with nothing counted
  abbrev first : Moment
  first = record s { spent = 0; count = 0; words = [] }

  abbrev all : ℕ
  all = cost v k s.flat (Some p)

  led_to : Leads v p s.spent first (events by v s.spent first)
  led_to = leads by v first p here going plain refl s.spent few

  same : (a b : Moment) → a.flat ≡ b.flat → a.here ≡ b.here → a.spent ≡ b.spent → a.kept ≡ b.kept → a.count ≡ b.count → a.sets ≡ b.sets → a.words ≡ b.words → a ≡ b
  same a b e f g h i j l = λ x. record { flat = e x; here = f x; spent = g x; kept = h x; count = i x; sets = j x; words = l x }

  abbrev before : List Fetch
  before = reverse (fetches_from (word_in v s.kept p.0) (index_in s.kept p) s.spent s.sets)

  there : events by v s.spent first ≡ with_count s.spent before s
  there = same (events by v s.spent first) (with_count s.spent before s) led_to.flat (led_to.here ∙ sym here) led_to.spent led_to.kept (led_to.count ∙ zero-add s.spent) led_to.sets (led_to.words ∙ append-nil before)

  adds : Adds s (events by v (all - s.spent) s) (λ a w. events by v (all - s.spent) (with_count a w s))
  adds = all_add by v (all - s.spent) s

  joins : events by v all first ≡ with_count (s.spent + adds.many) (adds.more ++ before) (events by v (all - s.spent) s)
  joins =
      let sum : all ≡ s.spent + (all - s.spent) = omega (arith, enough) in
      ap (λ (n : ℕ). events by v n first) sum ∙ events_more by v s.spent (all - s.spent) first ∙ ap (λ (q : Moment). events by v (all - s.spent) q) there ∙ adds.others s.spent before

  whole : IsAfter by v k (Some p) first (events by v all first)
  whole = is_after by v k first (Some p) (λ on. here) refl

  pub after_midway : IsAfterMidway by v k p s (events by v (all - s.spent) s)
  after_midway =
      let counts = ap (λ (q : Moment). q.count) joins in
      let c = whole.count in
      let d = adds.count in
      record {
        flat = sym (ap (λ (q : Moment). q.flat) joins) ∙ whole.flat;
        kept = sym (ap (λ (q : Moment). q.kept) joins) ∙ whole.kept;
        count = omega (arith, counts, c, d);
        more = adds.more;
        words = adds.words;
        more_is = sym (ap (λ (q : Moment). q.words) joins) ∙ whole.words ∙ append-nil (reverse (words_run by v k s.flat (Some p) (written_in s)));
        here = λ on. sym (ap (λ (q : Moment). q.here) joins) ∙ whole.here (ap (λ (q : Moment). q.flat.machine.ending) joins ∙ on);
        spent = sym (ap (λ (q : Moment). q.spent) joins) ∙ whole.spent;
      }
