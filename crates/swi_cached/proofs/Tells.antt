-- What is told of a run, step by step.
use Rattle.std.proofs.Common.{◌≡◌, ◌⊎◌, nat_lt, if◌then◌else◌, ℕ, zero, suc, ◌+◌, ◌-◌, ◌<◌, ◌≤◌, Bool, true, false, List, [], ◌∷◌, ◌++◌, Option, Some, None, is_some, refl, sym, ap, subst, ◌∙◌, inl, inr, arith, append-nil, append_assoc}
use Rattle.std.proofs.lemmas.Bool.{false≢true, cases_Bool}
use Rattle.swi_outside.specs.CacheRam.{Fetch}
use Rattle.swi_memory.specs.Bus.{AreaData, fetched}
use Rattle.swi_calls.specs.declared.end.End.{End}
use Rattle.swi_calls.specs.declared.machine.Machine.{Machine}
use Rattle.swi_calls.specs.State.{FlatState}
use Rattle.swi_calls.specs.Held.{held_made, held_step, held_run}
use Rattle.swi_calls.specs.Laws.{held_run_none, held_run_over, held_run_more}
use Rattle.swi_image.specs.Format.{ImageData}
use Rattle.swi_rom.specs.Record.{Record}
use Rattle.swi_hart.specs.declared.hart.Stage.TheVariants.{Start, Low, Return, Leave}
use Rattle.swi_hart.specs.declared.hart.Control.{Control}
use Rattle.swi_hart.specs.declared.hart.Control.TheVariants.{At, Outside}
use Rattle.swi_hart.specs.Hart.{original, slots}
use Rattle.swi_hart.specs.Matching.{Stands, Agrees, Matches}
use Rattle.swi_board.specs.Moments.{Moment, Policy, completed, counted, event, executed, fell, led, next_fetch, stepped_at}
use Rattle.swi_board.specs.Transfers.{Here, at_fall, before_last}
use Rattle.swi_board.proofs.Held.{held_steps, run_snoc}
use Rattle.swi_trace.specs.Text.{trace_line_of}
use Rattle.swi_cached.specs.Told.{addresses, error_by, next_error, of_step, of_steps, told_line}
use Rattle.swi_cached.specs.Traced.{Before, Begun, Noted, Tells, with_errors}

-- ---- what is listed of steps

pub of_next : (list : FlatState → List ℕ) (k : ℕ) (s : FlatState) → (held_run k s).machine.ending ≡ None → of_steps list (suc k) s ≡ of_steps list k s ++ list (held_run k s)
unfolding of_steps
of_next list k s going = ap (λ (e : Option End). of_steps list k s ++ (if is_some e then [] else list (held_run k s))) going

-- a run that has ended stays as it is
stays : (m : ℕ) (s : FlatState) → is_some (held_run m s).machine.ending ≡ true → held_run (suc m) s ≡ held_run m s
stays zero s over =
    let first = held_run_none s in
    let ended : is_some s.machine.ending ≡ true = ap (λ (q : FlatState). is_some q.machine.ending) (sym first) ∙ over in
    held_run_over 1 s ended ∙ sym first
stays (suc m) s over =
    elim (cases_Bool (is_some s.machine.ending)) [
      | inl ended ↦ held_run_over (suc (suc m)) s ended ∙ sym (held_run_over (suc m) s ended)
      | inr going ↦
          let one = held_run_more m s going in
          held_run_more (suc m) s going ∙ stays m (held_step s) (ap (λ (q : FlatState). is_some q.machine.ending) (sym one) ∙ over) ∙ sym one
    ]

-- and nothing is listed of it
of_stays : (list : FlatState → List ℕ) (m d : ℕ) (s : FlatState) → is_some (held_run m s).machine.ending ≡ true →
    (of_steps list (d + m) s ≡ of_steps list m s) × (is_some (held_run (d + m) s).machine.ending ≡ true)
unfolding of_steps
of_stays list m zero s over =
    let none : 0 + m ≡ m = omega arith in (
      ap (λ (k : ℕ). of_steps list k s) none,
      ap (λ (k : ℕ). is_some (held_run k s).machine.ending) none ∙ over,
    )
of_stays list m (suc d) s over =
    let rest = of_stays list m d s over in
    let none : of_step list (held_run (d + m) s) ≡ [] = ap (λ (t : Bool). if t then [] else list (held_run (d + m) s)) rest.1 in
    let next : suc d + m ≡ suc (d + m) = omega arith in (
      ap (λ (k : ℕ). of_steps list k s) next ∙ ap (λ (l : List ℕ). of_steps list (d + m) s ++ l) none ∙ append-nil (of_steps list (d + m) s) ∙ rest.0,
      ap (λ (k : ℕ). is_some (held_run k s).machine.ending) next ∙ ap (λ (q : FlatState). is_some q.machine.ending) (stays (d + m) s rest.1) ∙ rest.1,
    )

pub of_over : (list : FlatState → List ℕ) (m n : ℕ) (s : FlatState) → m ≤ n → is_some (held_run m s).machine.ending ≡ true → of_steps list n s ≡ of_steps list m s
of_over list m n s le over =
    let all : n ≡ n - m + m = omega (arith, le) in
    ap (λ (k : ℕ). of_steps list k s) all ∙ (of_stays list m (n - m) s over).0

pub error_next : (each : Bool) (k : ℕ) (s : FlatState) → (held_run k s).machine.ending ≡ None → error_by each (suc k) s ≡ error_by each k s ++ next_error each (held_run k s)
error_next false k s going = ap (λ (q : FlatState). q.error) (run_snoc k s (ap (λ (e : Option End). is_some e) going))
error_next true k s going = ap (λ (l : List ℕ). s.error ++ l) (of_next (next_error true) k s going) ∙ sym (append_assoc s.error (of_steps (next_error true) k s) (next_error true (held_run k s)))

still : (m d : ℕ) (s : FlatState) → is_some (held_run m s).machine.ending ≡ true → held_run (d + m) s ≡ held_run m s
still m zero s over = let none : 0 + m ≡ m = omega arith in ap (λ (k : ℕ). held_run k s) none
still m (suc d) s over =
    let rest = still m d s over in
    let next : suc d + m ≡ suc (d + m) = omega arith in
    ap (λ (k : ℕ). held_run k s) next ∙ stays (d + m) s (ap (λ (q : FlatState). is_some q.machine.ending) rest ∙ over) ∙ rest

pub run_over : (m n : ℕ) (s : FlatState) → m ≤ n → is_some (held_run m s).machine.ending ≡ true → held_run n s ≡ held_run m s
run_over m n s le over =
    let all : n ≡ n - m + m = omega (arith, le) in
    ap (λ (k : ℕ). held_run k s) all ∙ still m (n - m) s over

error_over : (each : Bool) (m n : ℕ) (s : FlatState) → m ≤ n → is_some (held_run m s).machine.ending ≡ true → error_by each n s ≡ error_by each m s
error_over false m n s le over = ap (λ (q : FlatState). q.error) (run_over m n s le over)
error_over true m n s le over = ap (λ (l : List ℕ). s.error ++ l) (of_over (next_error true) m n s le over)

-- ---- the line of the board's next step is that of the flat machine's

at_same : (v : ImageData) (r : Record) (f m : Machine) (c : Control) → Stands v r f m c → (m.pc ≡ f.pc) × (m.bus ≡ f.bus)
at_same v r f m (At i b o Start) at = (ap (λ (k : Machine). k.pc) at.1.0, ap (λ (k : Machine). k.bus) at.1.0)
at_same v r f m (At i b o Low) at = (ap (λ (k : Machine). k.pc) at.1.done, ap (λ (k : Machine). k.bus) at.1.done)
at_same v r f m (At i b o Return) at = (ap (λ (k : Machine). k.pc) at.1.done, ap (λ (k : Machine). k.bus) at.1.done)
at_same v r f m (At i b o Leave) (at, inl a) = (ap (λ (k : Machine). k.pc) a.done, ap (λ (k : Machine). k.bus) a.done)
at_same v r f m (At i b o Leave) (at, inr a) = (ap (λ (k : Machine). k.pc) a.done, ap (λ (k : Machine). k.bus) a.done)
at_same v r f m Outside at = (ap (λ (k : Machine). k.pc) at.0, ap (λ (k : Machine). k.bus) at.0)

pub same_at : (v : ImageData) (r : Record) (f m : Machine) (c : Control) → m.ending ≡ None → Matches v r f m c → (m.pc ≡ f.pc) × (m.bus ≡ f.bus)
same_at v r f m c going same = at_same v r f m c (subst (λ (e : Option End). Agrees e v r f m c) going same)

pub line_is : (each : Bool) (m f : Machine) → m.pc ≡ f.pc → m.bus ≡ f.bus → told_line each m ≡ told_line each f
line_is false m f pc bus = refl
line_is true m f pc bus =
    ap (λ (a : ℕ). trace_line_of a (fetched m.bus a)) pc ∙ ap (λ (b : List AreaData). trace_line_of f.pc (fetched b f.pc)) bus

-- ---- what is told so far

pub noted_as : (a b : List ℕ) (history : Option (List ℕ)) → a ≡ b → Noted a history → Noted b history
noted_as a b history is n = subst (λ (l : List ℕ). Noted l history) is n

pub tells_as : (e e' : Option End) (each : Bool) (n : ℕ) (s : FlatState) (k lines : ℕ) (error : List ℕ) (history : Option (List ℕ)) → e ≡ e' → Tells e each n s k lines error history → Tells e' each n s k lines error history
tells_as e e' each n s k lines error history is t = subst (λ (x : Option End). Tells x each n s k lines error history) is t

-- a machine instruction of the definition over other errors: it leaves them, or adds what the step writes
pub event_told : (by : Policy) (v : ImageData) (e : List ℕ) (s : Moment) →
    ((event by v (with_errors e s) ≡ with_errors e (event by v s)) × ((event by v s).flat ≡ s.flat))
    ⊎ ((event by v (with_errors e s) ≡ with_errors (e ++ (held_made s.flat.machine s.flat.input).error) (event by v s)) × ((event by v s).flat ≡ held_step s.flat))
event_told by v e s = by_ending s.flat.machine.ending
  where
    by_words : (p : ℕ × ℕ) (ws : List Fetch) (t : Bool) →
        ((counted ws (if t then led (with_errors e s) else completed by v (Some p) (with_errors e s)) ≡ with_errors e (counted ws (if t then led s else completed by v (Some p) s)))
        × ((counted ws (if t then led s else completed by v (Some p) s)).flat ≡ s.flat))
        ⊎ ((counted ws (if t then led (with_errors e s) else completed by v (Some p) (with_errors e s)) ≡ with_errors (e ++ (held_made s.flat.machine s.flat.input).error) (counted ws (if t then led s else completed by v (Some p) s)))
        × ((counted ws (if t then led s else completed by v (Some p) s)).flat ≡ held_step s.flat))
    by_words p ws true = inl (refl, refl)
    by_words p ws false = inr (refl, refl)

    by_fall : (p : ℕ × ℕ) (ws : List Fetch) (t : Bool) →
        ((counted ws (if t then fell by v p (with_errors e s) else executed by v p (with_errors e s)) ≡ with_errors e (counted ws (if t then fell by v p s else executed by v p s)))
        × ((counted ws (if t then fell by v p s else executed by v p s)).flat ≡ s.flat))
        ⊎ ((counted ws (if t then fell by v p (with_errors e s) else executed by v p (with_errors e s)) ≡ with_errors (e ++ (held_made s.flat.machine s.flat.input).error) (counted ws (if t then fell by v p s else executed by v p s)))
        × ((counted ws (if t then fell by v p s else executed by v p s)).flat ≡ held_step s.flat))
    by_fall p ws true = inl (refl, refl)
    by_fall p ws false = by_words p ws (nat_lt s.spent (before_last s.flat.machine (original s.flat.machine) (slots s.flat.machine)))

    by_here : (h : Here) →
        ((stepped_at by v h (with_errors e s) ≡ with_errors e (stepped_at by v h s)) × ((stepped_at by v h s).flat ≡ s.flat))
        ⊎ ((stepped_at by v h (with_errors e s) ≡ with_errors (e ++ (held_made s.flat.machine s.flat.input).error) (stepped_at by v h s)) × ((stepped_at by v h s).flat ≡ held_step s.flat))
    by_here None = inr (refl, refl)
    by_here (Some p) = by_fall p (next_fetch v p s ∷ []) (at_fall v s.flat.machine (Some p))

    by_ending : (x : Option End) →
        (((if is_some x then with_errors e s else stepped_at by v s.here (with_errors e s)) ≡ with_errors e (if is_some x then s else stepped_at by v s.here s)) × ((if is_some x then s else stepped_at by v s.here s).flat ≡ s.flat))
        ⊎ (((if is_some x then with_errors e s else stepped_at by v s.here (with_errors e s)) ≡ with_errors (e ++ (held_made s.flat.machine s.flat.input).error) (if is_some x then s else stepped_at by v s.here s))
        × ((if is_some x then s else stepped_at by v s.here s).flat ≡ held_step s.flat))
    by_ending None = by_here s.here
    by_ending (Some x) = inl (refl, refl)

-- The next step is made, behind its line.
module _ (each : Bool) (n : ℕ) (s : FlatState) (k : ℕ) (error : List ℕ) (history : Option (List ℕ)) (begun : Begun each k s error history) (more : k < n) (going : (held_run k s).machine.ending ≡ None) where
  abbrev now : FlatState
  now = held_run k s

  finished : Before each (suc k) s (error ++ (held_made now.machine now.input).error) history
  finished = (
    ap (λ (l : List ℕ). l ++ (held_made now.machine now.input).error) begun.0
        ∙ append_assoc (error_by each k s) (told_line each now.machine) (held_made now.machine now.input).error ∙ sym (error_next each k s going),
    noted_as (addresses k s ++ now.machine.pc ∷ []) (addresses (suc k) s) history (sym (of_next (λ q. q.machine.pc ∷ []) k s going)) begun.1,
  )

  -- by the ending and the steps of the board
  pub step_tells : (e : Option End) (steps : ℕ) → (held_step now).machine.ending ≡ e → (held_step now).machine.steps ≡ steps → now.machine.steps ≡ k →
      Tells e each n s steps (k + 1) (error ++ (held_made now.machine now.input).error) history
  step_tells None steps e_is is counts = elim (held_steps now.machine now.input) [
    | inl one ↦ (
        let same : suc k ≡ steps = omega (arith, is, one, counts) in
        inl (omega (arith, same), subst (λ (j : ℕ). Before each j s (error ++ (held_made now.machine now.input).error) history) same finished))
    | inr stop ↦ absurd (false≢true (ap (λ (e : Option End). is_some e) (sym e_is) ∙ stop.1))
  ]
  step_tells (Some x) steps e_is is counts =
      let over : is_some (held_run (suc k) s).machine.ending ≡ true = ap (λ (q : FlatState). is_some q.machine.ending) (run_snoc k s (ap (λ (e : Option End). is_some e) going)) ∙ ap (λ (e : Option End). is_some e) e_is in
      let le : suc k ≤ n = omega (arith, more) in (
        finished.0 ∙ sym (error_over each (suc k) n s le over),
        noted_as (addresses (suc k) s) (addresses n s) history (sym (of_over (λ q. q.machine.pc ∷ []) (suc k) n s le over)) finished.1,
      )

-- At a run's end all is told.
pub all_told : (e : Option End) (each : Bool) (n k lines : ℕ) (s : FlatState) (error : List ℕ) (history : Option (List ℕ)) → k ≤ n → (n ≤ k) ⊎ (is_some e ≡ true) →
    (lines ≡ k) ⊎ (lines ≡ k + 1) × ((k < n) ⊎ (is_some e ≡ true)) → Tells e each n s k lines error history → Before each n s error history
all_told (Some e) each n k lines s error history le over which tells = tells
all_told None each n k lines s error history le (inr over) which tells = absurd (false≢true over)
all_told None each n k lines s error history le (inl least) which (inl (is, before)) = let same : k ≡ n = omega (arith, le, least) in subst (λ (j : ℕ). Before each j s error history) same before
all_told None each n k lines s error history le (inl least) (inl same) (inr (is, begun)) = absurd (omega (arith, same, is))
all_told None each n k lines s error history le (inl least) (inr (same, inl more)) (inr (is, begun)) = absurd (omega (arith, least, more))
all_told None each n k lines s error history le (inl least) (inr (same, inr over)) (inr (is, begun)) = absurd (false≢true over)
