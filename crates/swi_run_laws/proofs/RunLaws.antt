-- Laws of whole runs: how many machine instructions they are, where they come to, and how many words they set.
use Rattle.std.proofs.Common.{◌≡◌, ◌⊎◌, if◌then◌else◌, ℕ, zero, suc, ◌+◌, ◌-◌, ◌<◌, ◌≤◌, nat_lt, Bool, true, false, List, [], ◌∷◌, ◌++◌, length, reverse, Option, Some, None, is_some, refl, sym, ap, subst, ◌∙◌, inl, inr, arith}
use Rattle.std.proofs.lemmas.Bool.{cases_Bool, cases_lt, cases_order, false≢true}
use Rattle.std.proofs.lemmas.List.{append_assoc, length-append, length-reverse}
use Rattle.swi_outside.specs.CacheRam.{Fetch, fetch}
use Rattle.swi_calls.specs.declared.end.End.{End}
use Rattle.swi_calls.specs.Held.{held_run, held_step}
use Rattle.swi_calls.specs.Laws.{held_run_more, held_run_none, held_run_over}
use Rattle.swi_calls.specs.State.{FlatState}
use Rattle.swi_image.specs.Format.{ImageData}
use Rattle.swi_rom.specs.Record.{Record, Transfer, direct, writes}
use Rattle.swi_hart.specs.Hart.{original, slots}
use Rattle.swi_board.specs.Fetching.{words_run}
use Rattle.swi_board.proofs.Fetching.{words_many}
use Rattle.swi_board.specs.Transfers.{Here, after_all, at_fall, before_last, cost, fetches, step_transfers}
use Rattle.swi_board.proofs.Held.{held_steps, run_snoc}
use Rattle.swi_run_laws.specs.After.{IsAfter}
use Rattle.swi_board.specs.Moments.{GoesOn, IsRun, Moment, Policy, completed, counted, event, events, executed, fell, led, next_fetch, served, stepped_at, written_in}
use Rattle.swi_run_laws.proofs.After.{events_more, goes_before, is_after, is_within}

-- ---- where the flat machine stands

-- without an ending each step was counted
pub steps_are : (k : ℕ) (s : FlatState) → is_some (held_run k s).machine.ending ≡ false → (held_run k s).machine.steps ≡ s.machine.steps + k
steps_are zero s on = let same = ap (λ (q : FlatState). q.machine.steps) (held_run_none s) in omega (arith, same)
steps_are (suc k) s on = elim (cases_Bool (is_some s.machine.ending)) [
  | inl ended ↦ absurd (false≢true (sym on ∙ ap (λ (q : FlatState). is_some q.machine.ending) (held_run_over (suc k) s ended) ∙ ended))
  | inr going ↦ (
      let one = held_run_more k s going in
      let later : is_some (held_run k (held_step s)).machine.ending ≡ false = ap (λ (q : FlatState). is_some q.machine.ending) (sym one) ∙ on in
      let same = ap (λ (q : FlatState). q.machine.steps) one in
      let rest = steps_are k (held_step s) later in
      elim (held_steps s.machine s.input) [
        | inl counts ↦ omega (arith, same, rest, counts)
        | inr stops ↦ absurd (false≢true (sym later ∙ ap (λ (q : FlatState). is_some q.machine.ending) (held_run_over k (held_step s) stops.1) ∙ stops.1))
      ])
]

-- a machine instruction completes the flat machine's step, or leaves it as it is
pub event_flat : (by : Policy) (v : ImageData) (s : Moment) → ((event by v s).flat ≡ s.flat) ⊎ ((event by v s).flat ≡ held_step s.flat) × (is_some s.flat.machine.ending ≡ false)
event_flat by v s = by_ending s.flat.machine.ending refl
  where
    by_words : (p : ℕ × ℕ) (t : Bool) (on : is_some s.flat.machine.ending ≡ false) → ((counted (next_fetch v p s ∷ []) (if t then led s else completed by v (Some p) s)).flat ≡ s.flat)
        ⊎ ((counted (next_fetch v p s ∷ []) (if t then led s else completed by v (Some p) s)).flat ≡ held_step s.flat) × (is_some s.flat.machine.ending ≡ false)
    by_words p true on = inl refl
    by_words p false on = inr (refl, on)

    by_fall : (p : ℕ × ℕ) (t : Bool) (on : is_some s.flat.machine.ending ≡ false) → ((counted (next_fetch v p s ∷ []) (if t then fell by v p s else executed by v p s)).flat ≡ s.flat)
        ⊎ ((counted (next_fetch v p s ∷ []) (if t then fell by v p s else executed by v p s)).flat ≡ held_step s.flat) × (is_some s.flat.machine.ending ≡ false)
    by_fall p true on = inl refl
    by_fall p false on = by_words p (nat_lt s.spent (before_last s.flat.machine (original s.flat.machine) (slots s.flat.machine))) on

    by_here : (h : Here) (on : is_some s.flat.machine.ending ≡ false) → ((stepped_at by v h s).flat ≡ s.flat) ⊎ ((stepped_at by v h s).flat ≡ held_step s.flat) × (is_some s.flat.machine.ending ≡ false)
    by_here None on = inr (refl, on)
    by_here (Some p) on = by_fall p (at_fall v s.flat.machine (Some p)) on

    by_ending : (e : Option End) → s.flat.machine.ending ≡ e → ((if is_some e then s else stepped_at by v s.here s).flat ≡ s.flat) ⊎ ((if is_some e then s else stepped_at by v s.here s).flat ≡ held_step s.flat) × (is_some s.flat.machine.ending ≡ false)
    by_ending None e = by_here s.here (ap (λ (x : Option End). is_some x) e)
    by_ending (Some x) e = inl refl

events_flat : (by : Policy) (v : ImageData) (j : ℕ) (s : Moment) → (n : ℕ) × ((events by v j s).flat ≡ held_run n s.flat)
unfolding events
events_flat by v zero s = (0, sym (held_run_none s.flat))
events_flat by v (suc j) s =
    let was = events_flat by v j s in
    elim (event_flat by v (events by v j s)) [
      | inl same ↦ (was.0, same ∙ was.1)
      | inr step ↦ (suc was.0, step.0 ∙ ap (λ (q : FlatState). held_step q) was.1 ∙ sym (run_snoc was.0 s.flat (ap (λ (q : FlatState). is_some q.machine.ending) (sym was.1) ∙ step.1)))
    ]

-- While the run goes on, the flat machine has made as many steps as it counts.
pub flat_at : (by : Policy) (v : ImageData) (j : ℕ) (s : Moment) → (events by v j s).flat.machine.ending ≡ None →
    (events by v j s).flat ≡ held_run ((events by v j s).flat.machine.steps - s.flat.machine.steps) s.flat
flat_at by v j s on =
    let there = events_flat by v j s in
    let going : is_some (held_run there.0 s.flat).machine.ending ≡ false = ap (λ (q : FlatState). is_some q.machine.ending) (sym there.1) ∙ ap (λ (e : Option End). is_some e) on in
    let steps = steps_are there.0 s.flat going in
    let same = ap (λ (q : FlatState). q.machine.steps) there.1 in
    let many : there.0 ≡ (events by v j s).flat.machine.steps - s.flat.machine.steps = omega (arith, steps, same) in
    there.1 ∙ ap (λ (n : ℕ). held_run n s.flat) many

-- ---- how many they are

-- A run from between two instructions makes as many machine instructions as its steps cost, and comes behind them.
module _ (by : Policy) (v : ImageData) (n made : ℕ) (s : Moment) (run : IsRun by v n made s) (none : s.spent ≡ 0) (few : s.flat.machine.steps ≤ n) where
  abbrev k : ℕ
  k = n - s.flat.machine.steps

  abbrev all : ℕ
  all = cost v k s.flat s.here

  behind : IsAfter by v k s.here s (events by v all s)
  behind = is_after by v k s s.here (λ on. refl) none

  never_fewer : made < all → ⊥
  never_fewer less =
      let limit : s.flat.machine.steps + k ≡ n = omega (arith, few) in
      run.over (subst (λ (m : ℕ). GoesOn m (events by v made s)) limit (goes_before by v k s s.here (λ on. refl) none made less))

  never_more : all < made → ⊥
  never_more less =
      let on = run.going all less in
      let flat = behind.flat in
      let going : is_some (held_run k s.flat).machine.ending ≡ false = ap (λ (q : FlatState). is_some q.machine.ending) (sym flat) ∙ ap (λ (e : Option End). is_some e) on.0 in
      let steps = steps_are k s.flat going in
      let same = ap (λ (q : FlatState). q.machine.steps) flat in
      let below = on.1 in
      omega (arith, steps, same, below, few)

  pub run_costs : made ≡ all
  run_costs = elim (cases_order made all) [
    | inl same ↦ same
    | inr other ↦ elim other [ inl less ↦ absurd (never_fewer less) | inr more ↦ absurd (never_more more) ]
  ]

  pub run_after : IsAfter by v k s.here s (events by v made s)
  run_after = subst (λ (m : ℕ). IsAfter by v k s.here s (events by v m s)) (sym run_costs) behind

module _ (by : Policy) (v : ImageData) (n made : ℕ) (s : Moment) (none : s.spent ≡ 0) (few : s.flat.machine.steps ≤ n) where
  abbrev left : ℕ
  left = n - s.flat.machine.steps

  abbrev price : ℕ
  price = cost v left s.flat s.here

  goes_on_over : GoesOn n (events by v price s) → ⊥
  goes_on_over on =
      let flat = (is_after by v left s s.here (λ on. refl) none).flat in
      let still : is_some (held_run left s.flat).machine.ending ≡ false = ap (λ (q : FlatState). is_some q.machine.ending) (sym flat) ∙ ap (λ (e : Option End). is_some e) on.0 in
      let steps = steps_are left s.flat still in
      let same = ap (λ (q : FlatState). q.machine.steps) flat in
      let below = on.1 in
      omega (arith, steps, same, below, few)

  -- While a run goes on with fewer steps than its limit, fewer machine instructions were made than these steps cost.
  pub goes_short : ((j : ℕ) → j < made → GoesOn n (events by v j s)) → GoesOn n (events by v made s) → made < price
  goes_short going on = elim (cases_order made price) [
    | inl same ↦ absurd (goes_on_over (subst (λ (j : ℕ). GoesOn n (events by v j s)) same on))
    | inr other ↦ elim other [ inl less ↦ less | inr more ↦ absurd (goes_on_over (going price more)) ]
  ]

-- Where they stand on the way to so many steps, the run going on and the next one fetching a word, the steps made are the most of which all
-- words were fetched.
pub record MostFetched (v : ImageData) (k : ℕ) (h : Here) (s t : Moment) : Type 0 where
  pub steps : ℕ
  pub steps_are : t.flat.machine.steps ≡ s.flat.machine.steps + steps
  pub within : steps ≤ k
  pub flat : t.flat ≡ held_run steps s.flat
  pub enough : length s.words + fetches v steps s.flat h ≤ length t.words
  pub longest : steps < k → length t.words < length s.words + fetches v (steps + 1) s.flat h

module _ (by : Policy) (v : ImageData) (k : ℕ) (s : Moment) (none : s.spent ≡ 0) (j : ℕ) (le : j ≤ cost v k s.flat s.here) (on : (events by v j s).flat.machine.ending ≡ None) (inside : (events by v j s).here ≡ None → ⊥) where
  abbrev behind_j : Moment
  behind_j = events by v j s

  still : (i : ℕ) → behind_j.flat ≡ held_run i s.flat → behind_j.flat.machine.steps ≡ s.flat.machine.steps + i
  still i flat = ap (λ (q : FlatState). q.machine.steps) flat ∙ steps_are i s.flat (ap (λ (q : FlatState). is_some q.machine.ending) (sym flat) ∙ ap (λ (e : Option End). is_some e) on)

  before : j < cost v k s.flat s.here → MostFetched v k s.here s behind_j
  before less =
      let w = is_within by v k s s.here (λ on. refl) none j less in
      let steps = still w.steps w.flat in
      let few = (goes_before by v k s s.here (λ on. refl) none j less).1 in
      record { steps = w.steps; steps_are = steps; within = omega (arith, steps, few); flat = w.flat; enough = w.enough; longest = λ more. w.longest inside }

  at_end : j ≡ cost v k s.flat s.here → MostFetched v k s.here s behind_j
  at_end same =
      let after = subst (λ (i : ℕ). IsAfter by v k s.here s (events by v i s)) (sym same) (is_after by v k s s.here (λ on. refl) none) in
      let words = ap (λ (l : List Fetch). length l) after.words in
      let sum = length-append (reverse (words_run by v k s.flat s.here (written_in s))) s.words in
      let many = length-reverse (words_run by v k s.flat s.here (written_in s)) in
      let fetched = words_many by v k s.flat s.here (written_in s) in
      record { steps = k; steps_are = still k after.flat; within = omega arith; flat = after.flat; enough = omega (arith, words, sum, many, fetched); longest = λ more. absurd (omega (arith, more)) }

  pub most_fetched : MostFetched v k s.here s (events by v j s)
  most_fetched = elim (cases_lt j (cost v k s.flat s.here)) [ inl less ↦ before less | inr least ↦ at_end (let same : j ≡ cost v k s.flat s.here = omega (arith, le, least) in same) ]

-- ---- the words that are set

-- they are those that the service counts, beside so many that it counted at first
abbrev pub Written : ℕ → Moment → Type 0
Written first s = first + s.sets ≡ writes s.kept

module _ (by : Policy) (v : ImageData) (first : ℕ) (rises : (r : Record) (v : ImageData) (t : Transfer) → writes r ≤ writes (by r v t)) where
  all_rise : (ts : List Transfer) (r : Record) → writes r ≤ writes (after_all by v r ts)
  all_rise [] r = omega arith
  all_rise (t ∷ ts) r = let one = rises r v t in let rest = all_rise ts (by r v t) in omega (arith, one, rest)

  served_written : (ts : List Transfer) (s : Moment) → Written first s → Written first (served by v ts s)
  served_written ts s is = let up = all_rise ts s.kept in omega (arith, is, up)

  event_written : (s : Moment) → Written first s → Written first (event by v s)
  event_written s is = by_ending s.flat.machine.ending
    where
      whole : (h : Here) (ws : List Fetch) → Written first (counted ws (completed by v h s))
      whole h ws = served_written (step_transfers s.flat.machine h (held_step s.flat).machine) s is

      by_words : (p : ℕ × ℕ) (t : Bool) → Written first (counted (next_fetch v p s ∷ []) (if t then led s else completed by v (Some p) s))
      by_words p true = is
      by_words p false = whole (Some p) (next_fetch v p s ∷ [])

      by_fall : (p : ℕ × ℕ) (t : Bool) → Written first (counted (next_fetch v p s ∷ []) (if t then fell by v p s else executed by v p s))
      by_fall p true = served_written (direct p.0 p.1 s.flat.machine.pc ∷ []) s is
      by_fall p false = by_words p (nat_lt s.spent (before_last s.flat.machine (original s.flat.machine) (slots s.flat.machine)))

      by_here : (h : Here) → Written first (stepped_at by v h s)
      by_here None = whole None []
      by_here (Some p) = by_fall p (at_fall v s.flat.machine (Some p))

      by_ending : (e : Option End) → Written first (if is_some e then s else stepped_at by v s.here s)
      by_ending None = by_here s.here
      by_ending (Some x) = is

  -- Each word that is set is one that the service counts.
  pub events_written : (j : ℕ) (s : Moment) → Written first s → Written first (events by v j s)
  unfolding events
  events_written zero s is = is
  events_written (suc j) s is = event_written (events by v j s) (events_written j s is)

-- ---- the words that are fetched

event_grows : (by : Policy) (v : ImageData) (s : Moment) → (xs : List Fetch) × ((event by v s).words ≡ xs ++ s.words)
event_grows by v s = by_ending s.flat.machine.ending
  where
    by_words : (p : ℕ × ℕ) (t : Bool) → (xs : List Fetch) × ((counted (next_fetch v p s ∷ []) (if t then led s else completed by v (Some p) s)).words ≡ xs ++ s.words)
    by_words p true = (next_fetch v p s ∷ [], refl)
    by_words p false = (next_fetch v p s ∷ [], refl)

    by_fall : (p : ℕ × ℕ) (t : Bool) → (xs : List Fetch) × ((counted (next_fetch v p s ∷ []) (if t then fell by v p s else executed by v p s)).words ≡ xs ++ s.words)
    by_fall p true = (next_fetch v p s ∷ [], refl)
    by_fall p false = by_words p (nat_lt s.spent (before_last s.flat.machine (original s.flat.machine) (slots s.flat.machine)))

    by_here : (h : Here) → (xs : List Fetch) × ((stepped_at by v h s).words ≡ xs ++ s.words)
    by_here None = ([], refl)
    by_here (Some p) = by_fall p (at_fall v s.flat.machine (Some p))

    by_ending : (e : Option End) → (xs : List Fetch) × ((if is_some e then s else stepped_at by v s.here s).words ≡ xs ++ s.words)
    by_ending None = by_here s.here
    by_ending (Some x) = ([], refl)

words_grow : (by : Policy) (v : ImageData) (i : ℕ) (s : Moment) → (xs : List Fetch) × ((events by v i s).words ≡ xs ++ s.words)
unfolding events
words_grow by v zero s = ([], refl)
words_grow by v (suc i) s =
    let so_far = words_grow by v i s in
    let one = event_grows by v (events by v i s) in
    (one.0 ++ so_far.0, one.1 ∙ ap (λ (l : List Fetch). one.0 ++ l) so_far.1 ∙ sym (append_assoc one.0 so_far.0 s.words))

-- What fewer machine instructions have fetched is a front of what more fetch.
pub words_front : (by : Policy) (v : ImageData) (j n : ℕ) (s : Moment) → j ≤ n → (xs : List Fetch) × ((events by v n s).words ≡ xs ++ (events by v j s).words)
words_front by v j n s le =
    let sum : n ≡ j + (n - j) = omega (arith, le) in
    let more = words_grow by v (n - j) (events by v j s) in
    (more.0, ap (λ (m : ℕ). (events by v m s).words) sum ∙ ap (λ (q : Moment). q.words) (events_more by v j (n - j) s) ∙ more.1)
