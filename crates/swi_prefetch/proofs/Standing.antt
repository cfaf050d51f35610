-- Whatever the events are, the flat machine stands at some of its steps, and the machine instructions are their cost.
use Rattle.std.proofs.Common.{◌≡◌, if◌then◌else◌, ℕ, zero, suc, ◌+◌, ◌≤◌, nat_lt, Bool, true, false, List, [], ◌∷◌, Option, Some, None, is_some, refl, sym, ap, subst, ◌∙◌, inl, inr, zero-add, arith}
use Rattle.std.proofs.lemmas.Bool.{cases_Bool, false≢true}
use Rattle.std.proofs.lemmas.Bool.Decides.{nat_tests}
use Rattle.swi_outside.specs.CacheRam.{Fetch}
use Rattle.swi_calls.specs.declared.end.End.{End}
use Rattle.swi_calls.specs.Held.{held_run, held_step}
use Rattle.swi_calls.specs.Laws.{held_run_none, held_run_more, held_run_over}
use Rattle.swi_calls.specs.State.{FlatState}
use Rattle.swi_image.specs.Format.{ImageData}
use Rattle.swi_image.specs.Place.{place_of}
use Rattle.swi_rom.specs.Service.{Setting}
use Rattle.swi_hart.specs.Hart.{original, slots}
use Rattle.swi_board.specs.Moments.{Moment, Policy, completed, counted, event as instruction, executed, fell, here_behind, led, next_fetch, stepped_at}
use Rattle.swi_board.specs.Transfers.{Here, at_fall, before_last, here_after, here_run, settled, size, step_size}
use Rattle.swi_board.proofs.Counting.{cost_more, here_none, here_more, place_not_fall}
use Rattle.swi_board.proofs.Held.{run_snoc}
use Rattle.swi_engine.specs.Engine.{Event, beside, event}
use Rattle.swi_prefetch.specs.Events.{Turn, of_hart, of_engine, engine_event, turned, turned_all, worked}
use Rattle.swi_prefetch.specs.Laws.{FallMade, SpendsIn, Stood}
use Rattle.swi_prefetch.specs.Turns.{event_at}

size_snoc : (o : ℕ) (v : ImageData) (k : ℕ) (s : FlatState) (h : Here) → is_some (held_run k s).machine.ending ≡ false → size o v (suc k) s h ≡ size o v k s h + size o v 1 (held_run k s) (here_run v k s h)
unfolding size held_run here_run
size_snoc o v zero s h going = sym (zero-add (size o v 1 s h))
size_snoc o v (suc k) s h going = elim (cases_Bool (is_some s.machine.ending)) [
  | inl over ↦ absurd (false≢true (sym going ∙ ap (λ (q : FlatState). is_some q.machine.ending) (held_run_over (suc k) s over) ∙ over))
  | inr on ↦ (
      let one = held_run_more k s on in
      let there = here_more v k s h on in
      let h' : Here = here_after v s.machine (settled v s.machine h) (held_step s).machine in
      let rest = size_snoc o v k (held_step s) (here_after v s.machine (settled v s.machine h) (held_step s).machine) (ap (λ (q : FlatState). is_some q.machine.ending) (sym one) ∙ going) in
      let last = ap (λ (q : FlatState). size o v 1 q (here_run v (suc k) s h)) one ∙ ap (λ (q : Here). size o v 1 (held_run k (held_step s)) q) there in
      omega (arith, cost_more o v (suc k) s h on, cost_more o v k s h on, rest, last))
]

here_snoc : (v : ImageData) (k : ℕ) (s : FlatState) (h : Here) → is_some (held_run k s).machine.ending ≡ false →
    here_run v (suc k) s h ≡ here_after v (held_run k s).machine (settled v (held_run k s).machine (here_run v k s h)) (held_step (held_run k s)).machine
unfolding held_run here_run
here_snoc v zero s h going = here_more v 0 s h going ∙ here_none v (held_step s) (here_after v s.machine (settled v s.machine h) (held_step s).machine)
here_snoc v (suc k) s h going = elim (cases_Bool (is_some s.machine.ending)) [
  | inl over ↦ absurd (false≢true (sym going ∙ ap (λ (q : FlatState). is_some q.machine.ending) (held_run_over (suc k) s over) ∙ over))
  | inr on ↦ (
      let one = held_run_more k s on in
      let there = here_more v k s h on in
      let rest = here_snoc v k (held_step s) (here_after v s.machine (settled v s.machine h) (held_step s).machine) (ap (λ (q : FlatState). is_some q.machine.ending) (sym one) ∙ going) in
      here_more v (suc k) s h on ∙ rest
      ∙ ap (λ (q : FlatState). here_after v q.machine (settled v q.machine (here_run v k (held_step s) (here_after v s.machine (settled v s.machine h) (held_step s).machine))) (held_step q).machine) (sym one)
      ∙ ap (λ (q : Here). here_after v (held_run (suc k) s).machine (settled v (held_run (suc k) s).machine q) (held_step (held_run (suc k) s)).machine) (sym there))
]

-- where the run stands before the word under control, and what the step costs from there
settled_here : (n : ℕ) (v : ImageData) (s : Moment) (there : Here) → FallMade n v s there → at_fall v s.flat.machine s.here ≡ false → settled v s.flat.machine there ≡ s.here
settled_here zero v s there is plain = ap (λ (h : Here). settled v s.flat.machine h) (sym is) ∙ ap (λ (t : Bool). if t then place_of v s.flat.machine.pc else s.here) plain
settled_here (suc n) v s there is plain = ap (λ (t : Bool). if t then place_of v s.flat.machine.pc else there) is.1 ∙ sym is.2

falls_are : (n : ℕ) (v : ImageData) (s : Moment) (there : Here) → FallMade n v s there → at_fall v s.flat.machine s.here ≡ false → (if at_fall v s.flat.machine there then 1 else 0) ≡ n
falls_are zero v s there is plain = ap (λ (h : Here). if at_fall v s.flat.machine h then 1 else 0) (sym is) ∙ ap (λ (t : Bool). if t then 1 else 0) plain
falls_are (suc n) v s there is plain = ap (λ (t : Bool). if t then 1 else 0) is.1 ∙ ap suc (sym is.0)

one_size : (n : ℕ) (v : ImageData) (s : Moment) (there : Here) → FallMade n v s there → at_fall v s.flat.machine s.here ≡ false → is_some s.flat.machine.ending ≡ false → size 1 v 1 s.flat there ≡ n + step_size 1 s.flat.machine s.here
unfolding size
one_size n v s there is plain going =
    let falls = falls_are n v s there is plain in
    let step = ap (λ (h : Here). step_size 1 s.flat.machine h) (settled_here n v s there is plain) in
    let whole = cost_more 1 v 0 s.flat there going in
    omega (arith, falls, step, whole)

module _ (by : Policy) (v : ImageData) (s0 s : Moment) (at : Stood v s0 s) (on : s.flat.machine.ending ≡ None) where
  -- the word under control
  abbrev word : ℕ × ℕ → List Fetch
  word p = next_fetch v p s ∷ []

  going : is_some s.flat.machine.ending ≡ false
  going = ap (λ (e : Option End). is_some e) on

  run_on : is_some (held_run at.steps s0.flat).machine.ending ≡ false
  run_on = ap (λ (q : FlatState). is_some q.machine.ending) (sym at.flat) ∙ going

  -- the instruction is complete, of which all words but the last one were executed
  whole : (h : Here) → s.here ≡ h → at_fall v s.flat.machine h ≡ false → (ws : List Fetch) → step_size 1 s.flat.machine h ≡ s.spent + 1 → Stood v s0 (counted ws (completed by v h s))
  whole h is plain ws cost_is =
      let plain_here = ap (λ (x : Here). at_fall v s.flat.machine x) is ∙ plain in
      let there = here_run v at.steps s0.flat s0.here in
      let next : held_step s.flat ≡ held_run (suc at.steps) s0.flat = ap (λ (q : FlatState). held_step q) at.flat ∙ sym (run_snoc at.steps s0.flat run_on) in
      let last = ap (λ (q : FlatState). size 1 v 1 q (here_run v at.steps s0.flat s0.here)) (sym at.flat) ∙ one_size at.falls v s (here_run v at.steps s0.flat s0.here) (at.place on) plain_here going in
      let step = ap (λ (x : Here). step_size 1 s.flat.machine x) is ∙ cost_is in
      let all = size_snoc 1 v at.steps s0.flat s0.here run_on in
      let count = at.count in
      record {
        steps = suc at.steps;
        falls = 0;
        flat = next;
        count = omega (arith, last, step, all, count);
        place = λ going_on.
            ap (λ (e : Option End). if is_some e then h else here_after v s.flat.machine h (held_step s.flat).machine) going_on
            ∙ ap (λ (x : Here). here_after v s.flat.machine x (held_step s.flat).machine) (sym (settled_here at.falls v s (here_run v at.steps s0.flat s0.here) (at.place on) plain_here ∙ is))
            ∙ ap (λ (q : FlatState). here_after v q.machine (settled v q.machine (here_run v at.steps s0.flat s0.here)) (held_step q).machine) at.flat
            ∙ sym (here_snoc v at.steps s0.flat s0.here run_on);
        spends = λ going_on. none_spent (here_behind v s.flat.machine h (held_step s.flat).machine);
      }
    where
      none_spent : (x : Here) → SpendsIn v (counted ws (completed by v h s)) x
      none_spent None = refl
      none_spent (Some p) = (omega arith, λ e. refl)

  part : (p : ℕ × ℕ) → s.here ≡ Some p → at_fall v s.flat.machine (Some p) ≡ false → nat_lt s.spent (before_last s.flat.machine (original s.flat.machine) (slots s.flat.machine)) ≡ true → Stood v s0 (counted (word p) (led s))
  part p is plain less =
      let count = at.count in
      record {
        steps = at.steps;
        falls = at.falls;
        flat = at.flat;
        count = omega (arith, count);
        place = λ e. fall_same at.falls (here_run v at.steps s0.flat s0.here) (at.place on);
        spends = λ e. subst (λ (h : Here). SpendsIn v (counted (word p) (led s)) h) (sym is) (more s.spent (before_last s.flat.machine (original s.flat.machine) (slots s.flat.machine)) less, λ f. absurd (false≢true (sym plain ∙ f)));
      }
    where
      more : (x y : ℕ) → nat_lt x y ≡ true → x + 1 ≤ y
      more x y e = grind (arith, nat_tests)

      fall_same : (n : ℕ) (there : Here) → FallMade n v s there → FallMade n v (counted (word p) (led s)) there
      fall_same zero there f = f
      fall_same (suc n) there f = f

  exit : (p : ℕ × ℕ) → s.here ≡ Some p → at_fall v s.flat.machine (Some p) ≡ true → Stood v s0 (counted (word p) (fell by v p s))
  exit p is falls = by_falls at.falls refl (at.place on)
    where
      here_falls : at_fall v s.flat.machine s.here ≡ true
      here_falls = ap (λ (h : Here). at_fall v s.flat.machine h) is ∙ falls

      unspent : s.spent ≡ 0
      unspent = (subst (λ (h : Here). SpendsIn v s h) is (at.spends on)).1 falls

      none_spent : (x : Here) → SpendsIn v (counted (word p) (fell by v p s)) x
      none_spent None = refl
      none_spent (Some q) = (omega arith, λ e. refl)

      by_falls : (n : ℕ) → at.falls ≡ n → FallMade at.falls v s (here_run v at.steps s0.flat s0.here) → Stood v s0 (counted (word p) (fell by v p s))
      by_falls zero none made =
          let same = subst (λ (k : ℕ). FallMade k v s (here_run v at.steps s0.flat s0.here)) none made in
          let count = at.count in
          record {
            steps = at.steps;
            falls = 1;
            flat = at.flat;
            count = omega (arith, count, none, unspent);
            place = λ e. (refl, ap (λ (h : Here). at_fall v s.flat.machine h) (sym same) ∙ here_falls, refl);
            spends = λ e. none_spent (place_of v s.flat.machine.pc);
          }
      by_falls (suc n) some made =
          let was = subst (λ (k : ℕ). FallMade k v s (here_run v at.steps s0.flat s0.here)) some made in
          absurd (false≢true (sym (ap (λ (h : Here). at_fall v s.flat.machine h) was.2 ∙ place_not_fall v s.flat.machine) ∙ here_falls))

  words : (p : ℕ × ℕ) → s.here ≡ Some p → at_fall v s.flat.machine (Some p) ≡ false → Stood v s0 (counted (word p) (executed by v p s))
  words p is plain = by_test (nat_lt s.spent (before_last s.flat.machine (original s.flat.machine) (slots s.flat.machine))) refl
    where
      all : (x y : ℕ) → x ≤ y → nat_lt x y ≡ false → x ≡ y
      all x y le e = grind (arith, nat_tests)

      by_test : (t : Bool) → nat_lt s.spent (before_last s.flat.machine (original s.flat.machine) (slots s.flat.machine)) ≡ t → Stood v s0 (counted (word p) (if t then led s else completed by v (Some p) s))
      by_test true less = part p is plain less
      by_test false last =
          let few = (subst (λ (h : Here). SpendsIn v s h) is (at.spends on)).0 in
          let e = all s.spent (before_last s.flat.machine (original s.flat.machine) (slots s.flat.machine)) few last in
          whole (Some p) is plain (word p) (ap (λ (n : ℕ). n + 1) (sym e))

  stepped : (h : Here) → s.here ≡ h → Stood v s0 (stepped_at by v h s)
  stepped None is = whole None is refl [] (let none = subst (λ (h : Here). SpendsIn v s h) is (at.spends on) in omega (arith, none))
  stepped (Some p) is = by_test (at_fall v s.flat.machine (Some p)) refl
    where
      by_test : (t : Bool) → at_fall v s.flat.machine (Some p) ≡ t → Stood v s0 (counted (word p) (if t then fell by v p s else executed by v p s))
      by_test true falls = exit p is falls
      by_test false plain = words p is plain

hart_stood : (by : Policy) (v : ImageData) (s0 s : Moment) → Stood v s0 s → Stood v s0 (instruction by v s)
hart_stood by v s0 s at = by_ending s.flat.machine.ending refl
  where
    by_ending : (e : Option End) → s.flat.machine.ending ≡ e → Stood v s0 (if is_some e then s else stepped_at by v s.here s)
    by_ending None on = stepped by v s0 s at on s.here refl
    by_ending (Some x) over = at

worked_stood : (v : ImageData) (s0 s : Moment) (o : Option Event) → Stood v s0 s → Stood v s0 (worked o s)
worked_stood v s0 s None at = at
worked_stood v s0 s (Some e) at = record {
  steps = at.steps;
  falls = at.falls;
  flat = at.flat;
  count = at.count;
  place = λ on. fall_same at.falls (here_run v at.steps s0.flat s0.here) (at.place on);
  spends = λ on. spends_same s.here (at.spends on);
}
  where
    fall_same : (n : ℕ) (there : Here) → FallMade n v s there → FallMade n v (worked (Some e) s) there
    fall_same zero there f = f
    fall_same (suc n) there f = f

    spends_same : (h : Here) → SpendsIn v s h → SpendsIn v (worked (Some e) s) h
    spends_same None is = is
    spends_same (Some p) is = is

engine_stood : (by : Setting) (v : ImageData) (s0 s : Moment) → Stood v s0 s → Stood v s0 (engine_event by v s)
engine_stood by v s0 s at = by_ending s.flat.machine.ending
  where
    by_ending : (e : Option End) → Stood v s0 (if is_some e then s else worked (event_at (event by) s.kept v s.here) s)
    by_ending None = worked_stood v s0 s (event_at (event by) s.kept v s.here) at
    by_ending (Some x) = at

turned_stood : (by : Setting) (v : ImageData) (s0 s : Moment) (t : Turn) → Stood v s0 s → Stood v s0 (turned by v t s)
turned_stood by v s0 s of_hart at = hart_stood (beside by) v s0 s at
turned_stood by v s0 s of_engine at = engine_stood by v s0 s at

stood_on : (by : Setting) (v : ImageData) (s0 : Moment) (ts : List Turn) (s : Moment) → Stood v s0 s → Stood v s0 (turned_all by v ts s)
unfolding turned_all
stood_on by v s0 [] s at = at
stood_on by v s0 (t ∷ ts) s at = stood_on by v s0 ts (turned by v t s) (turned_stood by v s0 s t at)

stood_none : (v : ImageData) (s : Moment) → s.spent ≡ 0 → Stood v s s
unfolding size
stood_none v s none = record {
  steps = 0;
  falls = 0;
  flat = sym (held_run_none s.flat);
  count = omega (arith, none);
  place = λ on. sym (here_none v s.flat s.here);
  spends = λ on. spends s.here;
}
  where
    spends : (h : Here) → SpendsIn v s h
    spends None = none
    spends (Some p) = (omega (arith, none), λ f. none)

-- Whatever the schedule is, the flat machine stands at some of its steps over the fixed text, and the machine steps are their cost.
pub stood : (by : Setting) (v : ImageData) (ts : List Turn) (s : Moment) → s.spent ≡ 0 → Stood v s (turned_all by v ts s)
stood by v ts s none = stood_on by v s ts s (stood_none v s none)
