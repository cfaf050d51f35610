-- Where machine instructions stand within one step of a run: what the service has served by then, and which words they have fetched.
use Rattle.std.proofs.Common.{◌≡◌, ◌⊎◌, ℕ, zero, suc, ◌+◌, ◌-◌, ◌<◌, ◌≤◌, nat_lt, if◌then◌else◌, Bool, true, false, List, [], ◌∷◌, ◌++◌, reverse, Option, Some, None, is_some, refl, sym, ap, ◌∙◌, inl, inr, arith}
use Rattle.std.proofs.lemmas.Bool.{cases_Bool, cases_lt, false≢true}
use Rattle.std.proofs.lemmas.List.{append_assoc, reverse-append, reverse-reverse}
use Rattle.swi_outside.specs.CacheRam.{Fetch}
use Rattle.swi_calls.specs.declared.end.End.{End}
use Rattle.swi_calls.specs.Held.{held_run, held_step}
use Rattle.swi_calls.specs.Laws.{held_run_over}
use Rattle.swi_calls.specs.State.{FlatState}
use Rattle.swi_image.specs.Format.{ImageData}
use Rattle.swi_image.specs.Place.{place_of}
use Rattle.swi_rom.specs.Record.{Record, Transfer, direct}
use Rattle.swi_hart.specs.Hart.{original, slots}
use Rattle.swi_board.specs.Moments.{Moment, Policy, completed, counted, event, events, fell, next_fetch}
use Rattle.swi_board.specs.Transfers.{Here, after_all, at_fall, before_last, cost, fall_transfers, here_run, transfers}
use Rattle.swi_board.proofs.Counting.{place_not_fall}
use Rattle.swi_board.proofs.Events.{event_at, events_more, events_one, fall_event, last_event, lead_event}
use Rattle.swi_board.proofs.Held.{held_steps}
use Rattle.swi_run_laws.specs.After.{IsAfter}
use Rattle.swi_run_laws.proofs.After.{goes_before, is_after}
use Rattle.swi_run_laws.proofs.RunLaws.{flat_at, steps_are, words_front}

on_still : (e : Option End) → e ≡ None → is_some e ≡ true → ⊥
on_still e on over = false≢true (sym (ap (λ (x : Option End). is_some x) on) ∙ over)

-- a step that is complete was counted, or it ended the run
unfinished : (s t : FlatState) → t ≡ held_step s → t.machine.ending ≡ None → t.machine.steps ≡ s.machine.steps → ⊥
unfinished s t is on same = elim (held_steps s.machine s.input) [
  | inl one ↦ (let steps = ap (λ (q : FlatState). q.machine.steps) is in let bad : ⊥ = omega (arith, steps, one, same) in bad)
  | inr stop ↦ on_still t.machine.ending on (ap (λ (q : FlatState). is_some q.machine.ending) is ∙ stop.1)
]

-- ---- what the service has served

-- behind a moment between two instructions, within the next one: nothing, or the exit that comes first
record Inside (by : Policy) (v : ImageData) (t q : Moment) : Type 0 where
  flat : q.flat ≡ t.flat
  served : ((q.kept ≡ t.kept) × (q.here ≡ t.here)) ⊎ ((q.kept ≡ after_all by v t.kept (fall_transfers v t.flat.machine t.here)) × (at_fall v t.flat.machine q.here ≡ false))

module _ (by : Policy) (v : ImageData) (t q : Moment) (was : Inside by v t q) (going : is_some q.flat.machine.ending ≡ false) (on : (event by v q).flat.machine.ending ≡ None)
    (same : (event by v q).flat.machine.steps ≡ q.flat.machine.steps) where
  whole : (ws : List Fetch) (h : Here) → event by v q ≡ counted ws (completed by v h q) → Inside by v t (event by v q)
  whole ws h is = absurd (unfinished q.flat (event by v q).flat (ap (λ (x : Moment). x.flat) is) on same)

  falls : (p : ℕ × ℕ) → q.here ≡ Some p → at_fall v q.flat.machine (Some p) ≡ true → Inside by v t (event by v q)
  falls p here fall =
      let is = fall_event by v q going p here fall in
      let there : at_fall v t.flat.machine (Some p) ≡ true = ap (λ (f : FlatState). at_fall v f.machine (Some p)) (sym was.flat) ∙ fall in
      record {
        flat = ap (λ (x : Moment). x.flat) is ∙ was.flat;
        served = elim was.served [
          | inl first ↦ inr (
            ap (λ (x : Moment). x.kept) is
                ∙ ap (λ (r : Record). by r v (direct p.0 p.1 q.flat.machine.pc)) first.0
                ∙ ap (λ (f : FlatState). by t.kept v (direct p.0 p.1 f.machine.pc)) was.flat
                ∙ ap (λ (l : List Transfer). after_all by v t.kept l) (sym (ap (λ (h : Here). fall_transfers v t.flat.machine h) (sym first.1 ∙ here) ∙ served_is p there)),
            ap (λ (x : Moment). at_fall v t.flat.machine x.here) is ∙ ap (λ (f : FlatState). at_fall v t.flat.machine (place_at f)) was.flat ∙ place_not_fall v t.flat.machine,
          )
          | inr other ↦ absurd (false≢true (sym other.1 ∙ ap (λ (h : Here). at_fall v t.flat.machine h) here ∙ there))
        ];
      }
    where
      place_at : FlatState → Here
      place_at f = place_of v f.machine.pc

      served_is : (p : ℕ × ℕ) → at_fall v t.flat.machine (Some p) ≡ true → fall_transfers v t.flat.machine (Some p) ≡ direct p.0 p.1 t.flat.machine.pc ∷ []
      served_is p there = ap (λ (b : Bool). if b then direct p.0 p.1 t.flat.machine.pc ∷ [] else []) there

  plain : (p : ℕ × ℕ) → q.here ≡ Some p → at_fall v q.flat.machine (Some p) ≡ false → Inside by v t (event by v q)
  plain p here none = elim (cases_Bool (nat_lt q.spent (before_last q.flat.machine (original q.flat.machine) (slots q.flat.machine)))) [
    | inl less ↦
        let is = lead_event by v q going p here none less in
        let stays : (event by v q).kept ≡ q.kept = ap (λ (x : Moment). x.kept) is in
        let stands : (event by v q).here ≡ q.here = ap (λ (x : Moment). x.here) is in
        record {
          flat = ap (λ (x : Moment). x.flat) is ∙ was.flat;
          served = elim was.served [
            | inl first ↦ inl (stays ∙ first.0, stands ∙ first.1)
            | inr other ↦ inr (stays ∙ other.0, ap (λ (h : Here). at_fall v t.flat.machine h) stands ∙ other.1)
          ];
        }
    | inr last ↦ whole (next_fetch v p q ∷ []) (Some p) (last_event by v q going p here none last)
  ]

  inside_next : Inside by v t (event by v q)
  inside_next = by_here q.here refl
    where
      by_here : (h : Here) → q.here ≡ h → Inside by v t (event by v q)
      by_here None here = whole [] None (event_at by v q going None here)
      by_here (Some p) here = elim (cases_Bool (at_fall v q.flat.machine (Some p))) [
        | inl fall ↦ falls p here fall
        | inr none ↦ plain p here none
      ]

-- no step is taken back, and behind an end nothing happens
module _ (by : Policy) (v : ImageData) (i : ℕ) (t : Moment) (on : (events by v i t).flat.machine.ending ≡ None) where
  abbrev gone : ℕ
  gone = (events by v i t).flat.machine.steps - t.flat.machine.steps

  on_there : is_some (held_run gone t.flat).machine.ending ≡ false
  on_there = ap (λ (q : FlatState). is_some q.machine.ending) (sym (flat_at by v i t on)) ∙ ap (λ (e : Option End). is_some e) on

  rises : t.flat.machine.steps ≤ (events by v i t).flat.machine.steps
  rises =
      let many = steps_are gone t.flat on_there in
      let same = ap (λ (q : FlatState). q.machine.steps) (flat_at by v i t on) in
      omega (arith, many, same)

  going_first : is_some t.flat.machine.ending ≡ false
  going_first = elim (cases_Bool (is_some t.flat.machine.ending)) [
    | inl over ↦ absurd (false≢true (sym on_there ∙ ap (λ (q : FlatState). is_some q.machine.ending) (held_run_over gone t.flat over) ∙ over))
    | inr going ↦ going
  ]

none_of : (e : Option End) → is_some e ≡ false → e ≡ None
none_of None h = refl
none_of (Some x) h = absurd (false≢true (sym h))

-- from between two instructions, while no step more is counted
inside : (by : Policy) (v : ImageData) (i : ℕ) (t : Moment) → (events by v i t).flat.machine.ending ≡ None → (events by v i t).flat.machine.steps ≡ t.flat.machine.steps → Inside by v t (events by v i t)
unfolding events
inside by v zero t on same = record { flat = refl; served = inl (refl, refl) }
inside by v (suc i) t on same =
    let q : Moment = events by v i t in
    let one = events_one by v (events by v i t) in
    let on_one : (events by v 1 (events by v i t)).flat.machine.ending ≡ None = ap (λ (x : Moment). x.flat.machine.ending) one ∙ on in
    let going = going_first by v 1 (events by v i t) on_one in
    let before = none_of (events by v i t).flat.machine.ending going in
    let low = rises by v i t before in
    let high = rises by v 1 (events by v i t) on_one in
    let one_same = ap (λ (x : Moment). x.flat.machine.steps) one in
    let still : (events by v i t).flat.machine.steps ≡ t.flat.machine.steps = omega (arith, low, high, same, one_same) in
    inside_next by v t (events by v i t) (inside by v i t before still) going on (omega (arith, same, still))

-- ---- where that is

-- Behind k steps, and before step k + 1 is complete.
pub record Within (by : Policy) (v : ImageData) (k : ℕ) (s : Moment) (j : ℕ) : Type 0 where
  pub least : cost v k s.flat s.here ≤ j
  pub most : j < cost v (suc k) s.flat s.here
  pub kept : ((events by v j s).kept ≡ after_all by v s.kept (transfers v k s.flat s.here))
      ⊎ ((events by v j s).kept ≡ after_all by v (after_all by v s.kept (transfers v k s.flat s.here)) (fall_transfers v (held_run k s.flat).machine (here_run v k s.flat s.here)))

module _ (by : Policy) (v : ImageData) (k : ℕ) (s : Moment) (none : s.spent ≡ 0) (j : ℕ) (on : (events by v j s).flat.machine.ending ≡ None) (steps : (events by v j s).flat.machine.steps ≡ s.flat.machine.steps + k) where
  abbrev price : ℕ → ℕ
  price n = cost v n s.flat s.here

  abbrev behind : ℕ → Moment
  behind n = events by v (price n) s

  is_behind : (n : ℕ) → IsAfter by v n s.here s (behind n)
  is_behind n = is_after by v n s s.here (λ on. refl) none

  -- what is left of them
  rest : (n : ℕ) → price n ≤ j → events by v j s ≡ events by v (j - price n) (behind n)
  rest n le = let sum : j ≡ price n + (j - price n) = omega (arith, le) in ap (λ (i : ℕ). events by v i s) sum ∙ events_more by v (price n) (j - price n) s

  counted_at : (n : ℕ) → price n ≤ j → ((behind n).flat.machine.steps ≡ s.flat.machine.steps + n) × ((behind n).flat.machine.steps ≤ (events by v j s).flat.machine.steps)
  counted_at n le =
      let is = rest n le in
      let still : (events by v (j - price n) (behind n)).flat.machine.ending ≡ None = ap (λ (q : Moment). q.flat.machine.ending) (sym is) ∙ on in
      let going = going_first by v (j - price n) (behind n) still in
      let flat = (is_behind n).flat in
      let many = steps_are n s.flat (ap (λ (q : FlatState). is_some q.machine.ending) (sym flat) ∙ going) in
      let same = ap (λ (q : FlatState). q.machine.steps) flat in
      let up = rises by v (j - price n) (behind n) still in
      let last = ap (λ (q : Moment). q.flat.machine.steps) is in (
        same ∙ many,
        omega (arith, up, last),
      )

  least : price k ≤ j
  least = elim (cases_lt j (price k)) [
    | inl less ↦ (let few = (goes_before by v k s s.here (λ on. refl) none j less).1 in absurd (omega (arith, few, steps)))
    | inr le ↦ le
  ]

  most : j < price (suc k)
  most = elim (cases_lt j (price (suc k))) [
    | inl less ↦ less
    | inr le ↦ (let at = counted_at (suc k) le in let one = at.0 in let low = at.1 in absurd (omega (arith, one, low, steps)))
  ]

  pub within : Within by v k s j
  within =
      let is = rest k least in
      let still : (events by v (j - price k) (behind k)).flat.machine.ending ≡ None = ap (λ (q : Moment). q.flat.machine.ending) (sym is) ∙ on in
      let first = (counted_at k least).0 in
      let last = ap (λ (q : Moment). q.flat.machine.steps) is in
      let in_it = inside by v (j - price k) (behind k) still (omega (arith, first, last, steps)) in
      let after = is_behind k in
      let here = after.here (none_of (behind k).flat.machine.ending (going_first by v (j - price k) (behind k) still)) in
      record {
        least = least;
        most = most;
        kept = elim in_it.served [
          | inl none ↦ inl (ap (λ (q : Moment). q.kept) is ∙ none.0 ∙ after.kept)
          | inr fell ↦ inr (
              ap (λ (q : Moment). q.kept) is ∙ fell.0
              ∙ ap (λ (r : Record). after_all by v r (fall_transfers v (behind k).flat.machine (behind k).here)) after.kept
              ∙ ap (λ (f : FlatState). after_all by v (after_all by v s.kept (transfers v k s.flat s.here)) (fall_transfers v f.machine (behind k).here)) after.flat
              ∙ ap (λ (h : Here). after_all by v (after_all by v s.kept (transfers v k s.flat s.here)) (fall_transfers v (held_run k s.flat).machine h)) here)
        ];
      }

-- ---- which words were fetched

-- those of the steps made, and a front of the next one's
pub record WordsWithin (made next words : List Fetch) : Type 0 where
  pub more : List Fetch
  pub ahead : List Fetch
  pub next_are : made ++ (more ++ ahead) ≡ next
  pub are : words ≡ reverse (made ++ more)

words_between : (made next words xs ys : List Fetch) → words ≡ xs ++ reverse made → reverse next ≡ ys ++ words → WordsWithin made next words
words_between made next words xs ys first last =
    let are : words ≡ reverse (made ++ reverse xs) = first ∙ sym (reverse-append made (reverse xs) ∙ ap (λ (l : List Fetch). l ++ reverse made) (reverse-reverse xs)) in
    record {
      more = reverse xs;
      ahead = reverse ys;
      next_are = sym (
          sym (reverse-reverse next) ∙ ap (λ (l : List Fetch). reverse l) last ∙ reverse-append ys words
          ∙ ap (λ (l : List Fetch). reverse l ++ reverse ys) are ∙ ap (λ (l : List Fetch). l ++ reverse ys) (reverse-reverse (made ++ reverse xs))
          ∙ append_assoc made (reverse xs) (reverse ys)
          );
      are = are;
    }

pub words_within : (by : Policy) (v : ImageData) (s : Moment) (low j high : ℕ) → low ≤ j → j ≤ high → (made next : List Fetch) → (events by v low s).words ≡ reverse made → (events by v high s).words ≡ reverse next →
    WordsWithin made next (events by v j s).words
words_within by v s low j high least most made next first last =
    let xs = words_front by v low j s least in
    let ys = words_front by v j high s most in
    words_between made next (events by v j s).words xs.0 ys.0 (xs.1 ∙ ap (λ (l : List Fetch). xs.0 ++ l) first) (sym last ∙ ys.1)
