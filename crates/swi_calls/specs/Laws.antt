-- Laws of runs: of the flat machine, step by step, and how the run over a fixed text is the flat machine's, up to the first step that would
-- store into the text, where it ends.
use Rattle.std.proofs.Common.{◌≡◌, ℕ, zero, suc, ◌+◌, ◌<◌, true, false, Option, Some, None, is_some, refl, sym, ap, ◌∙◌, inl, inr, arith}
use Rattle.std.proofs.lemmas.Bool.{cases_Bool}
use Rattle.swi_calls.specs.State.{FlatState}
use Rattle.swi_calls.specs.StoresText.{next_store}
use Rattle.swi_calls.specs.FirstStore.{StoresAt}
use Rattle.swi_calls.specs.Flat.{made, joined, flat_step, flat_run}
use Rattle.swi_calls.specs.Held.{held, held_step, held_run, stopped_at}

pub flat_run_none : (s : FlatState) → flat_run 0 s ≡ s
unfolding flat_run
flat_run_none s = refl

-- with an ending nothing changes
pub flat_run_over : (k : ℕ) (s : FlatState) → is_some s.machine.ending ≡ true → flat_run k s ≡ s
unfolding flat_run
flat_run_over zero s over = refl
flat_run_over (suc k) s over = rw over refl

-- without one a step is made
pub flat_run_more : (k : ℕ) (s : FlatState) → is_some s.machine.ending ≡ false → flat_run (suc k) s ≡ flat_run k (flat_step s)
unfolding flat_run
flat_run_more k s going = rw going refl

pub held_run_none : (s : FlatState) → held_run 0 s ≡ s
unfolding held_run
held_run_none s = refl

pub held_run_over : (k : ℕ) (s : FlatState) → is_some s.machine.ending ≡ true → held_run k s ≡ s
unfolding held_run
held_run_over zero s over = refl
held_run_over (suc k) s over = rw over refl

pub held_run_more : (k : ℕ) (s : FlatState) → is_some s.machine.ending ≡ false → held_run (suc k) s ≡ held_run k (held_step s)
unfolding held_run
held_run_more k s going = rw going refl

none_of : {A : Type 0} (o : Option A) → is_some o ≡ false → o ≡ None
none_of None e = refl
none_of (Some x) e = cc

-- a step that would not store into the text, and one that would
plain_step : (s : FlatState) → next_store s.machine ≡ None → held_step s ≡ flat_step s
plain_step s none = ap (λ (a : Option ℕ). joined s (held s.machine a (made s.machine s.input) s.input)) none

stop_step : (s : FlatState) (a : ℕ) → next_store s.machine ≡ Some a → held_step s ≡ stopped_at s a
stop_step s a is = ap (λ (o : Option ℕ). joined s (held s.machine o (made s.machine s.input) s.input)) is

here_stores : (s : FlatState) → is_some s.machine.ending ≡ false → is_some (next_store s.machine) ≡ true → StoresAt s 0
here_stores s going stores = record { going = rw flat_run_none (none_of s.machine.ending going); stores = rw flat_run_none stores }

later_stores : (s : FlatState) (j : ℕ) → is_some s.machine.ending ≡ false → StoresAt (flat_step s) j → StoresAt s (suc j)
later_stores s j going at = record { going = rw (flat_run_more j s going) at.going; stores = rw (flat_run_more j s going) at.stores }

-- a run whose first step would not store into the text
first_plain : (k : ℕ) (s : FlatState) → is_some s.machine.ending ≡ false → (StoresAt s 0 → ⊥) → held_run (suc k) s ≡ held_run k (flat_step s)
first_plain k s going never =
    elim (cases_Bool (is_some (next_store s.machine))) [
      | inl stores ↦ absurd (never (here_stores s going stores))
      | inr none ↦ held_run_more k s going ∙ ap (held_run k) (plain_step s (none_of (next_store s.machine) none))
    ]

-- where none of the first k steps would store into the text, the runs are the same
pub held_is_flat : (k : ℕ) (s : FlatState) → ((j : ℕ) → j < k → StoresAt s j → ⊥) → held_run k s ≡ flat_run k s
held_is_flat zero s never = held_run_none s ∙ sym (flat_run_none s)
held_is_flat (suc k) s never =
    elim (cases_Bool (is_some s.machine.ending)) [
      | inl over ↦ held_run_over (suc k) s over ∙ sym (flat_run_over (suc k) s over)
      | inr going ↦
          first_plain k s going (never 0 (omega arith))
          ∙ held_is_flat k (flat_step s) (λ j lt at. never (suc j) (omega arith) (later_stores s j going at))
          ∙ sym (flat_run_more k s going)
    ]

store_of : (a : Option ℕ) → is_some a ≡ true → (n : ℕ) × (a ≡ Some n)
store_of None e = cc
store_of (Some n) e = (n, refl)

-- where step k + 1 is the first that would, a run of that many steps or more ends there, with the ending StoreText and the rest as the flat
-- machine has it after k steps
pub held_stops : (k : ℕ) (s : FlatState) → ((j : ℕ) → j < k → StoresAt s j → ⊥) → StoresAt s k → (more : ℕ) →
    (a : ℕ) × (next_store (flat_run k s).machine ≡ Some a) × (held_run (suc k + more) s ≡ stopped_at (flat_run k s) a)
held_stops zero s never at more =
    let store = store_of (next_store s.machine) (rw flat_run_none at at.stores) in
    let none : s.machine.ending ≡ None = rw flat_run_none at at.going in
    let going : is_some s.machine.ending ≡ false = rw none refl in
    let one : suc 0 + more ≡ suc more = omega arith in
    rw (flat_run_none s, one) (
      store.0,
      store.1,
      held_run_more more s going ∙ ap (held_run more) (stop_step s store.0 store.1) ∙ held_run_over more (stopped_at s store.0) refl,
    )
held_stops (suc k) s never at more =
    elim (cases_Bool (is_some s.machine.ending)) [
      | inl over ↦ absurd (let none : s.machine.ending ≡ None = rw (flat_run_over (suc k) s over) at at.going in let no_way : false ≡ true = rw none at over in cc)
      | inr going ↦
          let same = flat_run_more k s going in
          let rest = held_stops k (flat_step s) (λ j lt b. never (suc j) (omega arith) (later_stores s j going b)) (record { going = rw same at at.going; stores = rw same at at.stores }) more in
          let one : suc (suc k) + more ≡ suc (suc k + more) = omega arith in
          rw (same, one) (rest.0, rest.1, first_plain (suc k + more) s going (never 0 (omega arith)) ∙ rest.2)
    ]
