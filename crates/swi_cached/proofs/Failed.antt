-- The laws of a run's program, and a boot that the ram broke off.
use Rattle.std.proofs.Common.{◌≡◌, ℕ, suc, ◌+◌, ◌-◌, ◌<◌, ◌≤◌, Bool, true, false, List, [], ◌++◌, Option, Some, None, is_some, if◌then◌else◌, refl, sym, ap, subst, ◌∙◌, arith}
use Rattle.std.proofs.lemmas.Bool.{false≢true}
use Rattle.std.specs.Io.KnownBytes.{Appends}
use Rattle.swi_outside.specs.Causes.{risen}
use Rattle.swi_outside.specs.CacheRam.{RamState}
use Rattle.swi_outside.specs.Laws.{Appends-none}
use Rattle.swi_calls.specs.State.{FlatState}
use Rattle.swi_calls.specs.Held.{held_run, held_step}
use Rattle.swi_calls.specs.Laws.{held_is_flat, held_stops, held_run_none}
use Rattle.swi_image.specs.Format.{ImageData}
use Rattle.swi_image.specs.Place.{place_of}
use Rattle.swi_board.specs.Transfers.{size, at_fall, settled, step_size, here_after}
use Rattle.swi_board.specs.Fetching.{FetchedFront}
use Rattle.swi_board.proofs.Fetching.{words_many}
use Rattle.swi_cached.specs.Cached.{CachedRun, AreCounted, words_after, written_at_boot, policy_of, IsFlatRun, StopsBeforeStore}
use Rattle.swi_cached.specs.Told.{error_by, of_steps}
use Rattle.swi_cached.specs.Answers.{RamFailed}
use Rattle.swi_board.specs.Board.{Around}

pub is_flat_run : (c : CachedRun) → IsFlatRun c
is_flat_run c = λ n never. held_is_flat n c.start never

pub stops_before_store : (c : CachedRun) → StopsBeforeStore c
stops_before_store c = λ n k less never at.
    let stop = held_stops k c.start never at (n - k - 1) in
    let all : suc k + (n - k - 1) ≡ n = omega (arith, less) in
    (stop.0, stop.1, ap (λ n. held_run n c.start) (sym all) ∙ stop.2)

pub are_counted : (c : CachedRun) → AreCounted c
are_counted c n = words_many (policy_of c) c.image n c.start (place_of c.image c.start.machine.pc) (written_at_boot c)

-- ---- a boot that the ram broke off

-- the first step of a program fetches a word
first_fetch : (v : ImageData) (s : FlatState) (p : Option (ℕ × ℕ)) → s.machine.ending ≡ None → is_some p ≡ true → p ≡ place_of v s.machine.pc → 0 < size 0 v 1 s p
unfolding size
first_fetch v s None going some at = absurd (false≢true some)
first_fetch v s (Some p) going some at = rw going (by (at_fall v s.machine (Some p)) refl)
  where
    by : (t : Bool) → at_fall v s.machine (Some p) ≡ t → 0 < (if at_fall v s.machine (Some p) then 1 else 0) + step_size 0 s.machine (settled v s.machine (Some p)) + size 0 v 0 (held_step s) (here_after v s.machine (settled v s.machine (Some p)) (held_step s).machine)
    by true e = rw e (omega arith)
    by false e = rw e (omega arith)

none_made : (v : ImageData) (s : FlatState) (p : Option (ℕ × ℕ)) → size 0 v 0 s p ≤ 0
unfolding size
none_made v s p = omega arith

-- nothing is told of no step
pub told_none : (t : Bool) (s : FlatState) → s.error ≡ [] → error_by t 0 s ≡ []
unfolding of_steps
told_none false s none = ap (λ (q : FlatState). q.error) (held_run_none s) ∙ none
told_none true s none = ap (λ (l : List ℕ). l ++ []) none

pub boot_failed : (c : CachedRun) (before : Around) (ram : RamState) → c.start.machine.ending ≡ None → c.start.output ≡ [] → c.start.error ≡ [] →
    before.devices.input.left ≡ Some c.start.input → is_some (place_of c.image c.start.machine.pc) ≡ true → ram.fetches ≡ before.ram.fetches → ram.last_failed ≡ true →
    RamFailed c before (record { ram = ram; devices = before.devices })
boot_failed c before ram going no_output no_error told placed same last =
    let first = held_run_none c.start in
    record {
      fetched = 0;
      fetches = same ∙ risen_none before.ram.fetches;
      steps = 0;
      within = omega arith;
      enough = none_made c.image c.start (place_of c.image c.start.machine.pc);
      longest = λ more. first_fetch c.image c.start (place_of c.image c.start.machine.pc) going placed refl;
      output = subst (λ (piece : List ℕ). Appends before.devices.output.held before.devices.output.held piece) (sym (ap (λ (s : FlatState). s.output) first ∙ no_output)) (Appends-none before.devices.output.held);
      begun = false;
      error = subst (λ (piece : List ℕ). Appends before.devices.error.held before.devices.error.held piece) (sym (ap (λ (l : List ℕ). l ++ []) (told_none c.trace c.start no_error))) (Appends-none before.devices.error.held);
      input = told ∙ ap (λ (s : FlatState). Some s.input) (sym first);
      last_failed = last;
    }
  where
    risen_none : (n : ℕ) → n ≡ risen n 0
    risen_none n = grind arith

-- no word was fetched
pub words_unbooted : (c : CachedRun) (before after : RamState) → after.fetched_at ≡ before.fetched_at → FetchedFront (words_after c c.limit) before after
words_unbooted c before after same = (words_after c c.limit, record { fetched = []; are = same; front = refl })
