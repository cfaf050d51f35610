-- The events of a schedule, in the order that the numbers of its seed give.
use Rattle.std.proofs.Common.{slice_get, ◌*◌, ◌≡◌, ℕ, zero, suc, ◌+◌, ◌/◌, ◌%◌, ◌^◌, ◌<◌, List, [], ◌∷◌, drop, length, slice_index, slice_index_or, take, Option, Some, None, Ok, arith, refl, sym, ◌∙◌, ap, subst}
use Rattle.std.proofs.lemmas.List.FromFn.{get_or-map-range_with_len, length-map-range_with_len}
use Rattle.std.proofs.lemmas.Nat.{mod_below}
use Rattle.swi_make.specs.Numbers.{number}
use Rattle.swi_make.proofs.Drawn.{number_more}
use Rattle.swi_command.specs.declared.command.Schedule.{Schedule}
use Rattle.swi_calls.specs.declared.end.End.{End}
use Rattle.swi_share.specs.Run.{ScheduleRan}
use Rattle.swi_share.specs.Shared.{Context, Shared, event_by, event_in, shared_event, shared_run}
use Rattle.swi_share.specs.declared.process.Process.{Process}
use Rattle.swi_share.specs.Sharing.{ShareWith, seen}
use Rattle.swi_share.proofs.Scheduling.{Scheduled, schedule_over}
use Rattle.swi_share_command.specs.RunShared.{HaveEnded, order_of, turn_of}

-- ---- the order

pub order_length : (programs : ℕ) (s : Schedule) → length (order_of programs s) ≡ s.events
order_length programs s = length-map-range_with_len (turn_of programs s.seed) 0 s.events

-- ---- programs that have ended

ended_by : (g : ℕ) (s : Shared) (c : Context) (e : Option End) → c.machine.ending ≡ e → (c.machine.ending ≡ None → ⊥) → event_by g s c e ≡ s
ended_by g s c None is ended = absurd (ended is)
ended_by g s c (Some e) is ended = refl

ended_in : (g : ℕ) (s : Shared) (o : Option Context) → ((c : Context) → o ≡ Some c → c.machine.ending ≡ None → ⊥) → event_in g s o ≡ s
ended_in g s None ended = refl
ended_in g s (Some c) ended = ended_by g s c c.machine.ending refl (ended c refl)

ended_event : (g : ℕ) (s : Shared) → HaveEnded s.contexts → shared_event g s ≡ s
ended_event g s ended = ended_in g s (slice_index_or s.contexts g None) (λ c is. ended g c is)

-- no further event changes anything
ended_run : (gs : List ℕ) (s : Shared) → HaveEnded s.contexts → shared_run gs s ≡ s
unfolding shared_run
ended_run [] s ended = refl
ended_run (g ∷ gs) s ended = ap (λ (q : Shared). shared_run gs q) (ended_event g s ended) ∙ ended_run gs s ended

run_split : (i : ℕ) (gs : List ℕ) (s : Shared) → shared_run gs s ≡ shared_run (drop i gs) (shared_run (take i gs) s)
unfolding shared_run
run_split zero gs s = refl
run_split (suc i) [] s = refl
run_split (suc i) (g ∷ gs) s = run_split i gs (shared_event g s)

ended_whole : (order : List ℕ) (i : ℕ) (s : Shared) → HaveEnded (shared_run (take i order) s).contexts → shared_run (take i order) s ≡ shared_run order s
ended_whole order i s ended = sym (ended_run (drop i order) (shared_run (take i order) s) ended) ∙ sym (run_split i order s)

-- so that the events before are all that there is
pub run_ended : {u : Unit} (order : List ℕ) (i : ℕ) (first now : ShareWith) → HaveEnded (seen now.share).contexts → Scheduled (shared_run (take i order) (seen first.share)) first now → ScheduleRan order first now (Ok u)
run_ended {u} order i first now ended was =
    let contexts = ap (λ (s : Shared). s.contexts) was.came.came.share in
    schedule_over order i first now (ended_whole order i (seen first.share) (subst (λ (cs : List (Option Context)). HaveEnded cs) contexts ended)) was

-- ---- an event of the order

pub order_at : (programs : ℕ) (s : Schedule) (i : ℕ) → i < s.events → slice_index (order_of programs s) i ≡ turn_of programs s.seed i
order_at programs s i lt = get_or-map-range_with_len (turn_of programs s.seed) 0 s.events i i 0 lt (omega arith)

-- ---- the next event

-- the number behind x, and whose the event is that it gives
pub turn_is : (programs seed k x y : ℕ) → x ≡ number seed k → y ≡ (1664525 * x + 1013904223) % 2 ^ 32 → (y ≡ number seed (k + 1)) × (y / 2 ^ 16 % programs ≡ turn_of programs seed k)
turn_is programs seed k x y is next =
    let more : y ≡ number seed (k + 1) = next ∙ ap (λ (n : ℕ). (1664525 * n + 1013904223) % 2 ^ 32) is ∙ sym (number_more seed k) in
    (more, ap (λ (n : ℕ). n / 2 ^ 16 % programs) more)

-- ---- a program of the share

pub process_below : (ps : List Process) (g : ℕ) (p : Process) → slice_get ps g ≡ Some p → g < length ps
process_below [] g p is = absurd (cc)
process_below (q ∷ qs) zero p is = omega arith
process_below (q ∷ qs) (suc g) p is = let rest = process_below qs g p is in omega (arith, rest)

pub turn_below : (programs seed k : ℕ) → 0 < programs → turn_of programs seed k < programs
turn_below programs seed k some = mod_below (number seed (k + 1) / 2 ^ 16) programs some
