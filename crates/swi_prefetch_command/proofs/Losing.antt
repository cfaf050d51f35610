-- Whatever the events are, each machine step but the boot has fetched a word, but for one at an address without a text word.
use Rattle.std.proofs.Common.{◌≡◌, not, nat_lt, if◌then◌else◌, ℕ, suc, ◌+◌, ◌^◌, ◌<◌, Bool, true, false, List, [], ◌∷◌, length, Option, Some, None, is_some, refl, sym, ap, subst, ◌∙◌, arith}
use Rattle.std.proofs.lemmas.Bool.{false≢true}
use Rattle.swi_outside.specs.CacheRam.{Fetch}
use Rattle.swi_memory.specs.Bus.{fetched}
use Rattle.swi_calls.specs.declared.end.End.{End}
use Rattle.swi_calls.specs.declared.machine.Machine.{Machine}
use Rattle.swi_calls.specs.Held.{held_step}
use Rattle.swi_calls.specs.State.{FlatState}
use Rattle.swi_image.specs.Format.{ImageData}
use Rattle.swi_image.specs.Place.{place_of}
use Rattle.swi_render.specs.Carried.{Carries}
use Rattle.swi_rom.specs.Service.{Setting}
use Rattle.swi_hart.specs.declared.hart.Control.TheVariants.{Outside}
use Rattle.swi_hart.specs.Hart.{is_place, original, slots}
use Rattle.swi_hart.proofs.Kept.{image_same, next_text}
use Rattle.swi_board.specs.Moments.{Moment, Policy, completed, counted, event as instruction, executed, fell, led, next_fetch, stepped_at}
use Rattle.swi_board.specs.Transfers.{Here, at_fall, before_last, here_after}
use Rattle.swi_engine.specs.Engine.{Event, beside, event}
use Rattle.swi_prefetch.specs.Events.{Turn, of_hart, of_engine, booted, engine_event, turned, turned_all, worked}
use Rattle.swi_prefetch.specs.Turns.{event_at}
use Rattle.swi_cached.specs.Cached.{unfetched}
use Rattle.swi_cached.proofs.Fetched.{IsFound, found_text, lost_text, next_known, place_is, step_found, step_lost}
use Rattle.swi_prefetch_command.specs.RunAhead.{HasFetchedEach}

-- what holds all along
record Loses (v : ImageData) (s : Moment) : Type 0 where
  image : Carries (fetched s.flat.machine.bus) v
  word : s.flat.machine.ending ≡ None → s.flat.machine.pc < 2 ^ 32
  known : s.flat.machine.ending ≡ None → s.here ≡ None → place_of v s.flat.machine.pc ≡ None
  each : HasFetchedEach s

-- an event of the hart
module _ (by : Policy) (v : ImageData) (s : Moment) (on : s.flat.machine.ending ≡ None) (at : Loses v s) where
  found : IsFound s.flat.machine
  found = (at.word on, ap (λ (e : Option End). unfetched e) on)

  -- the word under control
  abbrev under : ℕ × ℕ → List Fetch
  under p = next_fetch v p s ∷ []

  abbrev next : Machine
  next = (held_step s.flat).machine

  next_image : Carries (fetched next.bus) v
  next_image = image_same v (fetched s.flat.machine.bus) (fetched next.bus) (λ a. next_text a v s.flat.machine Outside s.flat.machine s.flat.input) at.image

  so_far : s.count ≡ 1 + length s.words
  so_far =
      let each : s.count ≡ 1 + length s.words + unfetched s.flat.machine.ending = at.each in
      let none : unfetched s.flat.machine.ending ≡ 0 = found.1 in
      omega (arith, each, none)

  -- at an address without a text word
  lost : s.here ≡ None → Loses v (counted [] (completed by v None s))
  lost is =
      let end = step_lost s.flat.machine s.flat.input (lost_text v (fetched s.flat.machine.bus) s.flat.machine.pc at.image (at.known on is)) in
      let one : unfetched next.ending ≡ 1 = ap (λ (e : Option End). unfetched e) end in
      let sum = so_far in
      record {
        image = next_image;
        word = λ e. absurd (let clash : None ≡ Some _ = sym e ∙ end in let bad : ⊥ = cc in bad);
        known = λ e. absurd (let clash : None ≡ Some _ = sym e ∙ end in let bad : ⊥ = cc in bad);
        each = omega (arith, one, sum);
      }

  -- the instruction at a text word is complete
  whole : (p : ℕ × ℕ) → at_fall v s.flat.machine (Some p) ≡ false → Loses v (counted (under p) (completed by v (Some p) s))
  whole p plain =
      let text = found_text v (fetched s.flat.machine.bus) s.flat.machine.pc (p.0, p.1) at.image (at.word on) (place_is (place_of v s.flat.machine.pc) p.0 p.1 (stands (is_place (place_of v s.flat.machine.pc) p.0 p.1) plain)) in
      let after = step_found s.flat.machine s.flat.input text.0 text.1 found in
      let none : unfetched next.ending ≡ 0 = after.1 in
      let sum = so_far in
      record {
        image = next_image;
        word = λ e. after.0;
        known = λ e is. next_known v s.flat.machine p next (sym (ap (λ (x : Option End). if is_some x then Some p else here_after v s.flat.machine (Some p) next) e) ∙ is);
        each = omega (arith, none, sum);
      }
    where
      stands : (t : Bool) → not t ≡ false → t ≡ true
      stands true e = refl
      stands false e = absurd (false≢true (sym e))

  same : (t : Moment) → t.flat ≡ s.flat → (t.here ≡ None → place_of v s.flat.machine.pc ≡ None) → t.count ≡ s.count + 1 → length t.words ≡ suc (length s.words) → Loses v t
  same t flat known count fetches =
      let sum = so_far in
      let none : unfetched t.flat.machine.ending ≡ 0 = ap (λ (q : FlatState). unfetched q.machine.ending) flat ∙ found.1 in
      record {
        image = subst (λ (q : FlatState). Carries (fetched q.machine.bus) v) (sym flat) at.image;
        word = λ e. subst (λ (q : FlatState). q.machine.pc < 2 ^ 32) (sym flat) (at.word on);
        known = λ e is. subst (λ (q : FlatState). place_of v q.machine.pc ≡ None) (sym flat) (known is);
        each = omega (arith, none, sum, count, fetches);
      }

  by_words : (p : ℕ × ℕ) → s.here ≡ Some p → at_fall v s.flat.machine (Some p) ≡ false → (t : Bool) → Loses v (counted (under p) (if t then led s else completed by v (Some p) s))
  by_words p is plain true = same (counted (under p) (led s)) refl (at.known on) refl refl
  by_words p is plain false = whole p plain

  by_fall : (p : ℕ × ℕ) → s.here ≡ Some p → (t : Bool) → at_fall v s.flat.machine (Some p) ≡ t → Loses v (counted (under p) (if t then fell by v p s else executed by v p s))
  by_fall p is true falls = same (counted (under p) (fell by v p s)) refl (λ e. e) refl refl
  by_fall p is false plain = by_words p is plain (nat_lt s.spent (before_last s.flat.machine (original s.flat.machine) (slots s.flat.machine)))

  by_here : (h : Here) → s.here ≡ h → Loses v (stepped_at by v h s)
  by_here None is = lost is
  by_here (Some p) is = by_fall p is (at_fall v s.flat.machine (Some p)) refl

hart_loses : (by : Policy) (v : ImageData) (s : Moment) → Loses v s → Loses v (instruction by v s)
hart_loses by v s at = by_ending s.flat.machine.ending refl
  where
    by_ending : (e : Option End) → s.flat.machine.ending ≡ e → Loses v (if is_some e then s else stepped_at by v s.here s)
    by_ending None on = by_here by v s on at s.here refl
    by_ending (Some x) over = at

worked_loses : (v : ImageData) (s : Moment) (o : Option Event) → Loses v s → Loses v (worked o s)
worked_loses v s None at = at
worked_loses v s (Some e) at = record { image = at.image; word = at.word; known = at.known; each = at.each }

engine_loses : (by : Setting) (v : ImageData) (s : Moment) → Loses v s → Loses v (engine_event by v s)
engine_loses by v s at = by_ending s.flat.machine.ending
  where
    by_ending : (e : Option End) → Loses v (if is_some e then s else worked (event_at (event by) s.kept v s.here) s)
    by_ending None = worked_loses v s (event_at (event by) s.kept v s.here) at
    by_ending (Some x) = at

turned_loses : (by : Setting) (v : ImageData) (s : Moment) (t : Turn) → Loses v s → Loses v (turned by v t s)
turned_loses by v s of_hart at = hart_loses (beside by) v s at
turned_loses by v s of_engine at = engine_loses by v s at

all_lose : (by : Setting) (v : ImageData) (ts : List Turn) (s : Moment) → Loses v s → Loses v (turned_all by v ts s)
unfolding turned_all
all_lose by v [] s at = at
all_lose by v (t ∷ ts) s at = all_lose by v ts (turned by v t s) (turned_loses by v s t at)

pub fetched_each : (by : Setting) (v : ImageData) (m : Machine) (left : List ℕ) (ts : List Turn) → Carries (fetched m.bus) v → m.pc < 2 ^ 32 → m.ending ≡ None → HasFetchedEach (turned_all by v ts (booted by v m left))
fetched_each by v m left ts image word going = (all_lose by v ts (booted by v m left) begun).each
  where
    begun : Loses v (booted by v m left)
    begun =
        let none : unfetched m.ending ≡ 0 = ap (λ (e : Option End). unfetched e) going in
        record { image = image; word = λ e. word; known = λ e is. is; each = omega (arith, none) }
