-- The machine instructions of so many original steps, told forwards, come to what transfers, cost and words of these steps say.
use Rattle.std.proofs.Common.{◌≡◌, if◌then◌else◌, ℕ, zero, suc, ◌+◌, ◌-◌, ◌<◌, ◌≤◌, Bool, true, false, List, [], ◌∷◌, ◌++◌, length, reverse, Option, Some, None, is_some, refl, sym, ap, subst, ◌∙◌, inl, inr, arith}
use Rattle.std.proofs.lemmas.Bool.{cases_Bool, cases_lt, false≢true}
use Rattle.std.proofs.lemmas.List.{append_assoc, reverse-append}
use Rattle.swi_outside.specs.CacheRam.{Fetch}
use Rattle.swi_calls.specs.declared.end.End.{End}
use Rattle.swi_calls.specs.declared.machine.Machine.{Machine}
use Rattle.swi_calls.specs.Held.{held_run, held_step}
use Rattle.swi_calls.specs.Laws.{held_run_more, held_run_none, held_run_over}
use Rattle.swi_calls.specs.State.{FlatState}
use Rattle.swi_image.specs.Format.{ImageData}
use Rattle.swi_image.specs.Place.{place_of}
use Rattle.swi_rom.specs.Record.{Record, Transfer, direct, writes}
use Rattle.swi_board.specs.Fetching.{Written, fall_words, fetch_in, index_in, step_words, words_run, written_by}
use Rattle.swi_board.specs.Transfers.{Here, after_all, at_fall, cost, fall_transfers, fetches, here_after, here_run, settled, step_size, step_transfers, transfers}
use Rattle.swi_board.proofs.Counting.{after_append, transfers_more, cost_more, cost_none, here_more, here_none, over_cost, over_transfers, place_not_fall, transfers_none}
use Rattle.swi_board.proofs.Fetching.{words_more, words_none, words_over}
use Rattle.swi_board.proofs.Held.{held_steps}
use Rattle.swi_board.specs.Moments.{GoesOn, Moment, Policy, counted, event, events, fell, here_behind, next_fetch, written_in}
use Rattle.swi_board.proofs.Events.{events_more, events_none, events_one, fall_event, plain_made, words_rise}
pub use Rattle.swi_board.proofs.Events.{Leads, events_more, leads}
use Rattle.swi_run_laws.specs.After.{IsAfter, IsWithin}

-- ---- what the service has written

both : (a b : Written) → a.kept ≡ b.kept → a.sets ≡ b.sets → a ≡ b
both a b e f = λ x. record { kept = e x; sets = f x }

written_none : (by : Policy) (v : ImageData) (w : Written) → written_by by v w [] ≡ w
written_none by v w = both (written_by by v w []) w refl (none_more w.sets (writes w.kept))
  where
    none_more : (n m : ℕ) → n + (m - m) ≡ n
    none_more n m = omega arith

written_is : (by : Policy) (v : ImageData) (s t : Moment) (ts : List Transfer) → t.kept ≡ after_all by v s.kept ts → t.sets ≡ s.sets + (writes t.kept - writes s.kept) → written_in t ≡ written_by by v (written_in s) ts
written_is by v s t ts kept sets = both (written_in t) (written_by by v (written_in s) ts) kept (sets ∙ ap (λ (r : Record). s.sets + (writes r - writes s.kept)) kept)

-- ---- one original step, with an exit behind a block before it where one is made

abbrev step_events : ImageData → Machine → Here → ℕ
step_events v f h = (if at_fall v f h then 1 else 0) + step_size 1 f (settled v f h)

-- and the words that it fetches
abbrev step_fetches : ImageData → Machine → Here → ℕ
step_fetches v f h = (if at_fall v f h then 1 else 0) + step_size 0 f (settled v f h)

record OneStep (by : Policy) (v : ImageData) (h : Here) (n : ℕ) (s t : Moment) : Type 0 where
  flat : t.flat ≡ held_step s.flat
  written : written_in t ≡ written_by by v (written_by by v (written_in s) (fall_transfers v s.flat.machine h)) (step_transfers s.flat.machine (settled v s.flat.machine h) (held_step s.flat).machine)
  here : t.here ≡ here_behind v s.flat.machine (settled v s.flat.machine h) (held_step s.flat).machine
  spent : t.spent ≡ 0
  count : t.count ≡ s.count + n
  words : t.words ≡ reverse (step_words v s.flat.machine (settled v s.flat.machine h) (written_by by v (written_in s) (fall_transfers v s.flat.machine h))) ++ (reverse (fall_words v s.flat.machine h (written_in s)) ++ s.words)
  before : (j : ℕ) → j < n → (events by v j s).flat ≡ s.flat
  many : length t.words ≡ length s.words + step_fetches v s.flat.machine h
  ahead : (j : ℕ) → j < n → ((events by v j s).here ≡ None → ⊥) → length (events by v j s).words + 1 ≤ length s.words + step_fetches v s.flat.machine h

module _ (by : Policy) (v : ImageData) (s : Moment) (going : is_some s.flat.machine.ending ≡ false) (none : s.spent ≡ 0) where
  no_fall : (h : Here) → at_fall v s.flat.machine h ≡ false → (fall_transfers v s.flat.machine h ≡ []) × (fall_words v s.flat.machine h (written_in s) ≡ []) × (settled v s.flat.machine h ≡ h)
  no_fall None plain = (refl, refl, refl)
  no_fall (Some p) plain = (
    ap (λ (t : Bool). if t then direct p.0 p.1 s.flat.machine.pc ∷ [] else []) plain,
    ap (λ (t : Bool). if t then fetch_in v (written_in s) p.0 (index_in s.kept p) ∷ [] else []) plain,
    ap (λ (t : Bool). if t then place_of v s.flat.machine.pc else Some p) plain,
  )

  one_plain : (h : Here) → s.here ≡ h → at_fall v s.flat.machine h ≡ false → OneStep by v h (step_events v s.flat.machine h) s (events by v (step_events v s.flat.machine h) s)
  one_plain h is plain =
      let same = no_fall h plain in
      let count_is : step_events v s.flat.machine h ≡ step_size 1 s.flat.machine h =
      ap (λ (t : Bool). (if t then 1 else 0) + step_size 1 s.flat.machine (settled v s.flat.machine h)) plain ∙ ap (λ (x : Here). 0 + step_size 1 s.flat.machine x) same.2 ∙ none_before (step_size 1 s.flat.machine h) in
      let fetches_is : step_fetches v s.flat.machine h ≡ step_size 0 s.flat.machine h =
      ap (λ (t : Bool). (if t then 1 else 0) + step_size 0 s.flat.machine (settled v s.flat.machine h)) plain ∙ ap (λ (x : Here). 0 + step_size 0 s.flat.machine x) same.2 ∙ none_before (step_size 0 s.flat.machine h) in
      let made = plain_made by v s h is going plain none in
      subst (λ (n : ℕ). OneStep by v h n s (events by v n s)) (sym count_is) (record {
        flat = made.flat;
        written = written_is by v s (events by v (step_size 1 s.flat.machine h) s) (step_transfers s.flat.machine h (held_step s.flat).machine) made.kept made.sets
            ∙ ap (λ (x : Here). written_by by v (written_in s) (step_transfers s.flat.machine x (held_step s.flat).machine)) (sym same.2)
            ∙ ap (λ (w : Written). written_by by v w (step_transfers s.flat.machine (settled v s.flat.machine h) (held_step s.flat).machine)) (sym (written_none by v (written_in s)))
            ∙ ap (λ (l : List Transfer). written_by by v (written_by by v (written_in s) l) (step_transfers s.flat.machine (settled v s.flat.machine h) (held_step s.flat).machine)) (sym same.0);
        here = made.here ∙ ap (λ (x : Here). here_behind v s.flat.machine x (held_step s.flat).machine) (sym same.2);
        spent = made.spent;
        count = made.count;
        words = made.words
            ∙ ap (λ (x : Here). reverse (step_words v s.flat.machine x (written_in s)) ++ s.words) (sym same.2)
            ∙ ap (λ (w : Written). reverse (step_words v s.flat.machine (settled v s.flat.machine h) w) ++ s.words) (sym (written_none by v (written_in s)))
            ∙ ap (λ (l : List Transfer). reverse (step_words v s.flat.machine (settled v s.flat.machine h) (written_by by v (written_in s) l)) ++ s.words) (sym same.0)
            ∙ ap (λ (l : List Fetch). reverse (step_words v s.flat.machine (settled v s.flat.machine h) (written_by by v (written_in s) (fall_transfers v s.flat.machine h))) ++ (reverse l ++ s.words)) (sym same.1);
        before = made.before;
        many = made.many ∙ ap (λ (n : ℕ). length s.words + n) (sym fetches_is);
        ahead = λ j lt inside. (let up = made.ahead j lt inside in omega (arith, up, fetches_is));
      })
    where
      none_before : (n : ℕ) → 0 + n ≡ n
      none_before n = omega arith

  one_fall : (p : ℕ × ℕ) → s.here ≡ Some p → at_fall v s.flat.machine (Some p) ≡ true → OneStep by v (Some p) (step_events v s.flat.machine (Some p)) s (events by v (step_events v s.flat.machine (Some p)) s)
  one_fall p is falls =
      let at : event by v s ≡ counted (next_fetch v p s ∷ []) (fell by v p s) = fall_event by v s going p is falls in
      let settles : settled v s.flat.machine (Some p) ≡ place_of v s.flat.machine.pc = ap (λ (t : Bool). if t then place_of v s.flat.machine.pc else Some p) falls in
      let served_is : fall_transfers v s.flat.machine (Some p) ≡ direct p.0 p.1 s.flat.machine.pc ∷ [] = ap (λ (t : Bool). if t then direct p.0 p.1 s.flat.machine.pc ∷ [] else []) falls in
      let fetched_is : fall_words v s.flat.machine (Some p) (written_in s) ≡ fetch_in v (written_in s) p.0 (index_in s.kept p) ∷ [] = ap (λ (t : Bool). if t then fetch_in v (written_in s) p.0 (index_in s.kept p) ∷ [] else []) falls in
      let made = plain_made by v (counted (next_fetch v p s ∷ []) (fell by v p s)) (place_of v s.flat.machine.pc) refl going (place_not_fall v s.flat.machine) refl in
      let count_is : step_events v s.flat.machine (Some p) ≡ 1 + step_size 1 s.flat.machine (place_of v s.flat.machine.pc) =
      ap (λ (t : Bool). (if t then 1 else 0) + step_size 1 s.flat.machine (settled v s.flat.machine (Some p))) falls ∙ ap (λ (x : Here). 1 + step_size 1 s.flat.machine x) settles in
      let all : events by v (1 + step_size 1 s.flat.machine (place_of v s.flat.machine.pc)) s ≡ events by v (step_size 1 s.flat.machine (place_of v s.flat.machine.pc)) (counted (next_fetch v p s ∷ []) (fell by v p s)) =
      events_more by v 1 (step_size 1 s.flat.machine (place_of v s.flat.machine.pc)) s ∙ ap (λ (q : Moment). events by v (step_size 1 s.flat.machine (place_of v s.flat.machine.pc)) q) (events_one by v s ∙ at) in
      let index : index_in s.kept p + s.spent ≡ index_in s.kept p = omega (arith, none) in
      let c = made.count in
      let fetches_is : step_fetches v s.flat.machine (Some p) ≡ 1 + step_size 0 s.flat.machine (place_of v s.flat.machine.pc) =
      ap (λ (t : Bool). (if t then 1 else 0) + step_size 0 s.flat.machine (settled v s.flat.machine (Some p))) falls ∙ ap (λ (x : Here). 1 + step_size 0 s.flat.machine x) settles in
      subst (λ (n : ℕ). OneStep by v (Some p) n s (events by v n s)) (sym count_is)
      (subst (λ (q : Moment). OneStep by v (Some p) (1 + step_size 1 s.flat.machine (place_of v s.flat.machine.pc)) s q) (sym all) (record {
        flat = made.flat;
        written = written_is by v (counted (next_fetch v p s ∷ []) (fell by v p s)) (events by v (step_size 1 s.flat.machine (place_of v s.flat.machine.pc)) (counted (next_fetch v p s ∷ []) (fell by v p s))) (step_transfers s.flat.machine (place_of v s.flat.machine.pc) (held_step s.flat).machine) made.kept made.sets
            ∙ ap (λ (x : Here). written_by by v (written_by by v (written_in s) (direct p.0 p.1 s.flat.machine.pc ∷ [])) (step_transfers s.flat.machine x (held_step s.flat).machine)) (sym settles)
            ∙ ap (λ (l : List Transfer). written_by by v (written_by by v (written_in s) l) (step_transfers s.flat.machine (settled v s.flat.machine (Some p)) (held_step s.flat).machine)) (sym served_is);
        here = made.here ∙ ap (λ (x : Here). here_behind v s.flat.machine x (held_step s.flat).machine) (sym settles);
        spent = made.spent;
        count = omega (arith, c);
        words = made.words
            ∙ ap (λ (n : ℕ). reverse (step_words v s.flat.machine (place_of v s.flat.machine.pc) (written_by by v (written_in s) (direct p.0 p.1 s.flat.machine.pc ∷ []))) ++ (fetch_in v (written_in s) p.0 n ∷ s.words)) index
            ∙ ap (λ (x : Here). reverse (step_words v s.flat.machine x (written_by by v (written_in s) (direct p.0 p.1 s.flat.machine.pc ∷ []))) ++ (fetch_in v (written_in s) p.0 (index_in s.kept p) ∷ s.words)) (sym settles)
            ∙ ap (λ (l : List Transfer). reverse (step_words v s.flat.machine (settled v s.flat.machine (Some p)) (written_by by v (written_in s) l)) ++ (fetch_in v (written_in s) p.0 (index_in s.kept p) ∷ s.words)) (sym served_is)
            ∙ ap (λ (l : List Fetch). reverse (step_words v s.flat.machine (settled v s.flat.machine (Some p)) (written_by by v (written_in s) (fall_transfers v s.flat.machine (Some p)))) ++ (reverse l ++ s.words)) (sym fetched_is);
        before = λ j lt. first_or j lt made.before at;
        many = (let up = made.many in omega (arith, up, fetches_is));
        ahead = λ j lt inside. first_ahead j lt inside made.ahead at fetches_is;
      }))
    where
      first_or : (j : ℕ) → j < 1 + step_size 1 s.flat.machine (place_of v s.flat.machine.pc) →
          ((i : ℕ) → i < step_size 1 s.flat.machine (place_of v s.flat.machine.pc) → (events by v i (counted (next_fetch v p s ∷ []) (fell by v p s))).flat ≡ s.flat) →
          event by v s ≡ counted (next_fetch v p s ∷ []) (fell by v p s) → (events by v j s).flat ≡ s.flat
      first_or zero lt before at = ap (λ (q : Moment). q.flat) (events_none by v s)
      first_or (suc i) lt before at =
          let one : suc i ≡ 1 + i = omega arith in
          ap (λ (n : ℕ). (events by v n s).flat) one ∙ ap (λ (q : Moment). q.flat) (events_more by v 1 i s ∙ ap (λ (q : Moment). events by v i q) (events_one by v s ∙ at))
          ∙ before i (omega (arith, lt))

      first_ahead : (j : ℕ) → j < 1 + step_size 1 s.flat.machine (place_of v s.flat.machine.pc) → ((events by v j s).here ≡ None → ⊥) →
          ((i : ℕ) → i < step_size 1 s.flat.machine (place_of v s.flat.machine.pc) → ((events by v i (counted (next_fetch v p s ∷ []) (fell by v p s))).here ≡ None → ⊥) →
          length (events by v i (counted (next_fetch v p s ∷ []) (fell by v p s))).words + 1 ≤ suc (length s.words) + step_size 0 s.flat.machine (place_of v s.flat.machine.pc)) →
          event by v s ≡ counted (next_fetch v p s ∷ []) (fell by v p s) → step_fetches v s.flat.machine (Some p) ≡ 1 + step_size 0 s.flat.machine (place_of v s.flat.machine.pc) →
          length (events by v j s).words + 1 ≤ length s.words + step_fetches v s.flat.machine (Some p)
      first_ahead zero lt inside ahead at fetches_is = let same = ap (λ (q : Moment). length q.words) (events_none by v s) in omega (arith, same, fetches_is)
      first_ahead (suc i) lt inside ahead at fetches_is =
          let one : suc i ≡ 1 + i = omega arith in
          let is : events by v (suc i) s ≡ events by v i (counted (next_fetch v p s ∷ []) (fell by v p s)) =
          ap (λ (n : ℕ). events by v n s) one ∙ events_more by v 1 i s ∙ ap (λ (q : Moment). events by v i q) (events_one by v s ∙ at) in
          let up = ahead i (omega (arith, lt)) (λ none. inside (ap (λ (q : Moment). q.here) is ∙ none)) in
          let same = ap (λ (q : Moment). length q.words) is in
          omega (arith, up, same, fetches_is)

  one_step : (h : Here) → s.here ≡ h → OneStep by v h (step_events v s.flat.machine h) s (events by v (step_events v s.flat.machine h) s)
  one_step None is = one_plain None is refl
  one_step (Some p) is = elim (cases_Bool (at_fall v s.flat.machine (Some p))) [
    | inl falls ↦ one_fall p is falls
    | inr plain ↦ one_plain (Some p) is plain
  ]

-- ---- a run

ended_after : (by : Policy) (v : ImageData) (k : ℕ) (s : Moment) (h : Here) → is_some s.flat.machine.ending ≡ true → s.spent ≡ 0 → IsAfter by v k h s (events by v (cost v k s.flat h) s)
ended_after by v k s h over none =
    let free = over_cost 1 v k s.flat h over in
    subst (λ (q : Moment). IsAfter by v k h s q) (sym (ap (λ (n : ℕ). events by v n s) free ∙ events_none by v s)) (record {
      flat = sym (held_run_over k s.flat over);
      kept = ap (λ (l : List Transfer). after_all by v s.kept l) (sym (over_transfers v k s.flat h over));
      count = omega (arith, free);
      words = ap (λ (l : List Fetch). reverse l ++ s.words) (sym (words_over by v k s.flat h (written_in s) over));
      here = λ on. absurd (false≢true (sym (ap (λ (e : Option End). is_some e) on) ∙ over));
      spent = none;
    })

none_after : (by : Policy) (v : ImageData) (s : Moment) (h : Here) → (s.flat.machine.ending ≡ None → s.here ≡ h) → s.spent ≡ 0 → IsAfter by v 0 h s (events by v (cost v 0 s.flat h) s)
none_after by v s h known none =
    let free = cost_none 1 v s.flat h in
    subst (λ (q : Moment). IsAfter by v 0 h s q) (sym (ap (λ (n : ℕ). events by v n s) free ∙ events_none by v s)) (record {
      flat = sym (held_run_none s.flat);
      kept = ap (λ (l : List Transfer). after_all by v s.kept l) (sym (transfers_none v s.flat h));
      count = omega (arith, free);
      words = ap (λ (l : List Fetch). reverse l ++ s.words) (sym (words_none by v s.flat h (written_in s)));
      here = λ on. known on ∙ sym (here_none v s.flat h);
      spent = none;
    })

cost_is : (v : ImageData) (k : ℕ) (s : FlatState) (h : Here) → is_some s.machine.ending ≡ false →
    cost v (suc k) s h ≡ step_events v s.machine h + cost v k (held_step s) (here_after v s.machine (settled v s.machine h) (held_step s).machine)
cost_is v k s h going = cost_more 1 v k s h going

none_of : (e : Option End) → is_some e ≡ false → e ≡ None
none_of None h = refl
none_of (Some x) h = absurd (false≢true (sym h))

-- behind one step
module _ (by : Policy) (v : ImageData) (k : ℕ) (s : Moment) (h : Here) (going : is_some s.flat.machine.ending ≡ false) (is : s.here ≡ h) (none : s.spent ≡ 0) where
  abbrev next_here : Here
  next_here = here_after v s.flat.machine (settled v s.flat.machine h) (held_step s.flat).machine

  abbrev next : Moment
  next = events by v (step_events v s.flat.machine h) s

  made : OneStep by v h (step_events v s.flat.machine h) s next
  made = one_step by v s going none h is

  next_known : next.flat.machine.ending ≡ None → next.here ≡ next_here
  next_known on =
      made.here ∙ ap (λ (e : Option End). if is_some e then settled v s.flat.machine h else next_here) (ap (λ (q : FlatState). q.machine.ending) (sym made.flat) ∙ on)

  more_is : events by v (cost v (suc k) s.flat h) s ≡ events by v (cost v k next.flat next_here) next
  more_is =
      ap (λ (n : ℕ). events by v n s) (cost_is v k s.flat h going)
      ∙ events_more by v (step_events v s.flat.machine h) (cost v k (held_step s.flat) next_here) s
      ∙ ap (λ (q : FlatState). events by v (cost v k q next_here) next) (sym made.flat)

  more_after : IsAfter by v k next_here next (events by v (cost v k next.flat next_here) next) → IsAfter by v (suc k) h s (events by v (cost v (suc k) s.flat h) s)
  more_after rest =
      let f = s.flat.machine in
      let falls = fall_words v s.flat.machine h (written_in s) in
      let own = step_words v s.flat.machine (settled v s.flat.machine h) (written_by by v (written_in s) (fall_transfers v s.flat.machine h)) in
      let others = words_run by v k (held_step s.flat) next_here (written_by by v (written_by by v (written_in s) (fall_transfers v s.flat.machine h)) (step_transfers s.flat.machine (settled v s.flat.machine h) (held_step s.flat).machine)) in
      let c = made.count in
      let d = rest.count in
      let all = cost_is v k s.flat h going in
      let same = ap (λ (q : FlatState). cost v k q next_here) made.flat in
      subst (λ (q : Moment). IsAfter by v (suc k) h s q) (sym more_is) (record {
        flat = rest.flat ∙ ap (λ (q : FlatState). held_run k q) made.flat ∙ sym (held_run_more k s.flat going);
        kept = rest.kept ∙ ap (λ (q : FlatState). after_all by v next.kept (transfers v k q next_here)) made.flat
            ∙ ap (λ (w : Written). after_all by v w.kept (transfers v k (held_step s.flat) next_here)) made.written
            ∙ sym (after_append by v (after_all by v s.kept (fall_transfers v s.flat.machine h)) (step_transfers s.flat.machine (settled v s.flat.machine h) (held_step s.flat).machine) (transfers v k (held_step s.flat) next_here))
            ∙ sym (after_append by v s.kept (fall_transfers v s.flat.machine h) (step_transfers s.flat.machine (settled v s.flat.machine h) (held_step s.flat).machine ++ transfers v k (held_step s.flat) next_here))
            ∙ ap (λ (l : List Transfer). after_all by v s.kept l) (sym (transfers_more v k s.flat h going));
        count = omega (arith, c, d, all, same);
        words = rest.words ∙ ap (λ (q : FlatState). reverse (words_run by v k q next_here (written_in next)) ++ next.words) made.flat
            ∙ ap (λ (w : Written). reverse (words_run by v k (held_step s.flat) next_here w) ++ next.words) made.written
            ∙ ap (λ (l : List Fetch). reverse others ++ l) made.words
            ∙ joined falls own others s.words
            ∙ ap (λ (l : List Fetch). reverse l ++ s.words) (sym (words_more by v k s.flat h (written_in s) going));
        here = λ on. rest.here on ∙ ap (λ (q : FlatState). here_run v k q next_here) made.flat ∙ sym (here_more v k s.flat h going);
        spent = rest.spent;
      })
    where
      joined : (a b c w : List Fetch) → reverse c ++ (reverse b ++ (reverse a ++ w)) ≡ reverse (a ++ (b ++ c)) ++ w
      joined a b c w =
          sym (append_assoc (reverse c) (reverse b) (reverse a ++ w)) ∙ sym (append_assoc (reverse c ++ reverse b) (reverse a) w)
          ∙ ap (λ (l : List Fetch). (l ++ reverse a) ++ w) (sym (reverse-append b c)) ∙ ap (λ (l : List Fetch). l ++ w) (sym (reverse-append a (b ++ c)))

  goes_now : (j : ℕ) → j < step_events v s.flat.machine h → GoesOn (s.flat.machine.steps + suc k) (events by v j s)
  goes_now j lt =
      let same = made.before j lt in (
        ap (λ (q : FlatState). q.machine.ending) same ∙ none_of s.flat.machine.ending going,
        (let e = ap (λ (q : FlatState). q.machine.steps) same in omega (arith, e)),
      )

  goes_later : ((i : ℕ) → i < cost v k next.flat next_here → GoesOn (next.flat.machine.steps + k) (events by v i next)) → (j : ℕ) → step_events v s.flat.machine h ≤ j → j < cost v (suc k) s.flat h → GoesOn (s.flat.machine.steps + suc k) (events by v j s)
  goes_later rest j least lt =
      let all = cost_is v k s.flat h going in
      let same = ap (λ (q : FlatState). cost v k q next_here) made.flat in
      let i = j - step_events v s.flat.machine h in
      let on = rest (j - step_events v s.flat.machine h) (omega (arith, lt, least, all, same)) in
      let sum : j ≡ step_events v s.flat.machine h + (j - step_events v s.flat.machine h) = omega (arith, least) in
      let is_later : events by v j s ≡ events by v (j - step_events v s.flat.machine h) next = ap (λ (n : ℕ). events by v n s) sum ∙ events_more by v (step_events v s.flat.machine h) (j - step_events v s.flat.machine h) s in
      subst (λ (q : Moment). GoesOn (s.flat.machine.steps + suc k) q) (sym is_later) (on.0, few (events by v (j - step_events v s.flat.machine h) next).flat.machine.steps on.1)
    where
      few : (n : ℕ) → n < next.flat.machine.steps + k → n < s.flat.machine.steps + suc k
      few n below =
          let same = ap (λ (q : FlatState). q.machine.steps) made.flat in
          elim (held_steps s.flat.machine s.flat.input) [
            | inl one ↦ omega (arith, one, same, below)
            | inr stop ↦ (let e = stop.0 in omega (arith, e, same, below))
          ]

-- So many machine instructions as these steps cost lead behind them.
pub is_after : (by : Policy) (v : ImageData) (k : ℕ) (s : Moment) (h : Here) → (s.flat.machine.ending ≡ None → s.here ≡ h) → s.spent ≡ 0 → IsAfter by v k h s (events by v (cost v k s.flat h) s)
is_after by v zero s h known none = none_after by v s h known none
is_after by v (suc k) s h known none = elim (cases_Bool (is_some s.flat.machine.ending)) [
  | inl over ↦ ended_after by v (suc k) s h over none
  | inr going ↦
      let is = known (none_of s.flat.machine.ending going) in
      more_after by v k s h going is none (is_after by v k (next by v k s h going is none) (next_here by v k s h going is none) (next_known by v k s h going is none) (made by v k s h going is none).spent)
]

-- And before that many the run goes on, with fewer steps.
pub goes_before : (by : Policy) (v : ImageData) (k : ℕ) (s : Moment) (h : Here) → (s.flat.machine.ending ≡ None → s.here ≡ h) → s.spent ≡ 0 → (j : ℕ) → j < cost v k s.flat h → GoesOn (s.flat.machine.steps + k) (events by v j s)
goes_before by v zero s h known none j lt = let free = cost_none 1 v s.flat h in absurd (omega (arith, free, lt))
goes_before by v (suc k) s h known none j lt = elim (cases_Bool (is_some s.flat.machine.ending)) [
  | inl over ↦ (let free = over_cost 1 v (suc k) s.flat h over in absurd (omega (arith, free, lt)))
  | inr going ↦
      let is = known (none_of s.flat.machine.ending going) in
      elim (cases_lt j (step_events v s.flat.machine h)) [
        | inl first ↦ goes_now by v k s h going is none j first
        | inr later ↦ goes_later by v k s h going is none (goes_before by v k (next by v k s h going is none) (next_here by v k s h going is none) (next_known by v k s h going is none) (made by v k s h going is none).spent) j later lt
      ]
]

-- ---- how many steps have all their words fetched

fetches_are : (v : ImageData) (k : ℕ) (s : FlatState) (h : Here) → is_some s.machine.ending ≡ false →
    fetches v (suc k) s h ≡ step_fetches v s.machine h + fetches v k (held_step s) (here_after v s.machine (settled v s.machine h) (held_step s).machine)
fetches_are v k s h going = cost_more 0 v k s h going

-- within the first step
first_within : (by : Policy) (v : ImageData) (s : Moment) (h : Here) (going : is_some s.flat.machine.ending ≡ false) → s.here ≡ h → s.spent ≡ 0 → (j : ℕ) → j < step_events v s.flat.machine h → IsWithin v h s (events by v j s)
first_within by v s h going is none j lt =
    let made = one_step by v s going none h is in
    let free = cost_none 0 v s.flat h in
    let one = fetches_are v 0 s.flat h going in
    let rest = cost_none 0 v (held_step s.flat) (here_after v s.flat.machine (settled v s.flat.machine h) (held_step s.flat).machine) in
    record {
      steps = 0;
      flat = made.before j lt ∙ sym (held_run_none s.flat);
      enough = (let low = words_rise by v j s in omega (arith, free, low));
      longest = λ inside. (let up = made.ahead j lt inside in omega (arith, up, one, rest));
    }

-- behind it
later_within : (by : Policy) (v : ImageData) (k : ℕ) (s : Moment) (h : Here) (going : is_some s.flat.machine.ending ≡ false) (is : s.here ≡ h) (none : s.spent ≡ 0) (j : ℕ) →
    IsWithin v (next_here by v k s h going is none) (next by v k s h going is none) (events by v j (next by v k s h going is none)) → IsWithin v h s (events by v (step_events v s.flat.machine h + j) s)
later_within by v k s h going is none j within =
    let made = one_step by v s going none h is in
    let same = ap (λ (q : FlatState). fetches v within.steps q (next_here by v k s h going is none)) made.flat in
    let same_more = ap (λ (q : FlatState). fetches v (within.steps + 1) q (next_here by v k s h going is none)) made.flat in
    let all = fetches_are v within.steps s.flat h going in
    let all_more : fetches v (within.steps + 1 + 1) s.flat h ≡ step_fetches v s.flat.machine h + fetches v (within.steps + 1) (held_step s.flat) (next_here by v k s h going is none) =
    (let one : within.steps + 1 + 1 ≡ suc (within.steps + 1) = omega arith in ap (λ (n : ℕ). fetches v n s.flat h) one ∙ fetches_are v (within.steps + 1) s.flat h going) in
    let one : within.steps + 1 ≡ suc within.steps = omega arith in
    let many = made.many in
    let low = within.enough in
    subst (λ (q : Moment). IsWithin v h s q) (sym (events_more by v (step_events v s.flat.machine h) j s)) (record {
      steps = within.steps + 1;
      flat = within.flat ∙ ap (λ (q : FlatState). held_run within.steps q) made.flat ∙ sym (ap (λ (n : ℕ). held_run n s.flat) one ∙ held_run_more within.steps s.flat going);
      enough = (let whole = ap (λ (n : ℕ). fetches v n s.flat h) one in omega (arith, low, many, all, same, whole));
      longest = λ inside. (let up = within.longest inside in omega (arith, up, many, all_more, same_more));
    })

-- Wherever the machine instructions of a run stand, so many steps are the most of which all words were fetched.
pub is_within : (by : Policy) (v : ImageData) (k : ℕ) (s : Moment) (h : Here) → (s.flat.machine.ending ≡ None → s.here ≡ h) → s.spent ≡ 0 → (j : ℕ) → j < cost v k s.flat h → IsWithin v h s (events by v j s)
is_within by v zero s h known none j lt = let free = cost_none 1 v s.flat h in absurd (omega (arith, free, lt))
is_within by v (suc k) s h known none j lt = elim (cases_Bool (is_some s.flat.machine.ending)) [
  | inl over ↦ (let free = over_cost 1 v (suc k) s.flat h over in absurd (omega (arith, free, lt)))
  | inr going ↦
      let is = known (none_of s.flat.machine.ending going) in
      elim (cases_lt j (step_events v s.flat.machine h)) [
        | inl first ↦ first_within by v s h going is none j first
        | inr later ↦
            let all = cost_is v k s.flat h going in
            let same = ap (λ (q : FlatState). cost v k q (next_here by v k s h going is none)) (made by v k s h going is none).flat in
            let sum : step_events v s.flat.machine h + (j - step_events v s.flat.machine h) ≡ j = omega (arith, later) in
            subst (λ (n : ℕ). IsWithin v h s (events by v n s)) sum
            (later_within by v k s h going is none (j - step_events v s.flat.machine h)
            (is_within by v k (next by v k s h going is none) (next_here by v k s h going is none) (next_known by v k s h going is none) (made by v k s h going is none).spent (j - step_events v s.flat.machine h) (omega (arith, lt, later, all, same))))
      ]
]
