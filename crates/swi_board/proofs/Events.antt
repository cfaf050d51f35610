-- So many machine instructions of the definition, and those of one instruction.
use Rattle.std.proofs.Common.{◌≡◌, if◌then◌else◌, ℕ, zero, suc, ◌+◌, ◌-◌, ◌<◌, ◌≤◌, nat_lt, Bool, true, false, List, [], ◌∷◌, ◌++◌, length, reverse, Option, Some, None, is_some, refl, sym, ap, ◌∙◌, arith}
use Rattle.std.proofs.lemmas.Bool.Decides.{nat_tests}
use Rattle.std.proofs.lemmas.List.{reverse-append}
use Rattle.swi_outside.specs.CacheRam.{Fetch, fetch}
use Rattle.swi_calls.specs.declared.end.End.{End}
use Rattle.swi_calls.specs.Held.{held_step}
use Rattle.swi_calls.specs.State.{FlatState}
use Rattle.swi_image.specs.Format.{ImageData}
use Rattle.swi_rom.specs.Record.{Record, writes}
use Rattle.swi_rom.specs.Standing.{word_in}
use Rattle.swi_hart.specs.Hart.{original, slots}
use Rattle.swi_board.specs.Fetching.{fetch_in, fetches_from, index_in, step_words}
use Rattle.swi_board.specs.Transfers.{Here, after_all, at_fall, before_last, step_size, step_transfers}
use Rattle.swi_board.specs.Moments.{Moment, Policy, completed, counted, event, events, executed, fell, here_behind, led, next_fetch, stepped_at, written_in}

-- ---- what stands for a run of one step more

fetches_snoc : (word : ℕ → ℕ) (i m sets : ℕ) → fetches_from word i (suc m) sets ≡ fetches_from word i m sets ++ fetch (i + m) sets (word (i + m)) ∷ []
fetches_snoc word i zero sets = let same : i ≡ i + 0 = omega arith in ap (λ (n : ℕ). fetch n sets (word n) ∷ []) same
fetches_snoc word i (suc m) sets =
    let same : i + 1 + m ≡ i + suc m = omega arith in
    ap (λ (l : List Fetch). fetch i sets (word i) ∷ l) (fetches_snoc word (i + 1) m sets ∙ ap (λ (n : ℕ). fetches_from word (i + 1) m sets ++ fetch n sets (word n) ∷ []) same)

reverse_snoc : (word : ℕ → ℕ) (i m sets : ℕ) (l : List Fetch) → fetch (i + m) sets (word (i + m)) ∷ reverse (fetches_from word i m sets) ++ l ≡ reverse (fetches_from word i (suc m) sets) ++ l
reverse_snoc word i m sets l =
    ap (λ (x : List Fetch). x ++ l) (sym (reverse-append (fetches_from word i m sets) (fetch (i + m) sets (word (i + m)) ∷ [])) ∙ ap (λ (x : List Fetch). reverse x) (sym (fetches_snoc word i m sets)))

-- ---- so many events, and one

pub events_more : (by : Policy) (v : ImageData) (a b : ℕ) (s : Moment) → events by v (a + b) s ≡ events by v b (events by v a s)
unfolding events
events_more by v a zero s = let same : a + 0 ≡ a = omega arith in ap (λ (n : ℕ). events by v n s) same
events_more by v a (suc b) s =
    let same : a + suc b ≡ suc (a + b) = omega arith in
    ap (λ (n : ℕ). events by v n s) same ∙ ap (λ (q : Moment). event by v q) (events_more by v a b s)

pub events_one : (by : Policy) (v : ImageData) (s : Moment) → events by v 1 s ≡ event by v s
unfolding events
events_one by v s = refl

pub events_none : (by : Policy) (v : ImageData) (s : Moment) → events by v 0 s ≡ s
unfolding events
events_none by v s = refl

pub events_next : (by : Policy) (v : ImageData) (k : ℕ) (s : Moment) → events by v (suc k) s ≡ event by v (events by v k s)
unfolding events
events_next by v k s = refl

module _ (by : Policy) (v : ImageData) (t : Moment) (going : is_some t.flat.machine.ending ≡ false) where
  pub event_at : (h : Here) → t.here ≡ h → event by v t ≡ stepped_at by v h t
  event_at h is = ap (λ (q : Bool). if q then t else stepped_at by v t.here t) going ∙ ap (λ (x : Here). stepped_at by v x t) is

  pub fall_event : (p : ℕ × ℕ) → t.here ≡ Some p → at_fall v t.flat.machine (Some p) ≡ true → event by v t ≡ counted (next_fetch v p t ∷ []) (fell by v p t)
  fall_event p is falls = event_at (Some p) is ∙ ap (λ (q : Bool). counted (next_fetch v p t ∷ []) (if q then fell by v p t else executed by v p t)) falls

  pub lead_event : (p : ℕ × ℕ) → t.here ≡ Some p → at_fall v t.flat.machine (Some p) ≡ false → nat_lt t.spent (before_last t.flat.machine (original t.flat.machine) (slots t.flat.machine)) ≡ true →
      event by v t ≡ counted (next_fetch v p t ∷ []) (led t)
  lead_event p is plain less =
      event_at (Some p) is ∙ ap (λ (q : Bool). counted (next_fetch v p t ∷ []) (if q then fell by v p t else executed by v p t)) plain
      ∙ ap (λ (q : Bool). counted (next_fetch v p t ∷ []) (if q then led t else completed by v (Some p) t)) less

  pub last_event : (p : ℕ × ℕ) → t.here ≡ Some p → at_fall v t.flat.machine (Some p) ≡ false → nat_lt t.spent (before_last t.flat.machine (original t.flat.machine) (slots t.flat.machine)) ≡ false →
      event by v t ≡ counted (next_fetch v p t ∷ []) (completed by v (Some p) t)
  last_event p is plain last =
      event_at (Some p) is ∙ ap (λ (q : Bool). counted (next_fetch v p t ∷ []) (if q then fell by v p t else executed by v p t)) plain
      ∙ ap (λ (q : Bool). counted (next_fetch v p t ∷ []) (if q then led t else completed by v (Some p) t)) last

-- no word is taken back
pub event_rises : (by : Policy) (v : ImageData) (s : Moment) → length s.words ≤ length (event by v s).words
event_rises by v s = by_ending s.flat.machine.ending
  where
    by_words : (p : ℕ × ℕ) (t : Bool) → length s.words ≤ length (counted (next_fetch v p s ∷ []) (if t then led s else completed by v (Some p) s)).words
    by_words p true = omega arith
    by_words p false = omega arith

    by_fall : (p : ℕ × ℕ) (t : Bool) → length s.words ≤ length (counted (next_fetch v p s ∷ []) (if t then fell by v p s else executed by v p s)).words
    by_fall p true = omega arith
    by_fall p false = by_words p (nat_lt s.spent (before_last s.flat.machine (original s.flat.machine) (slots s.flat.machine)))

    by_here : (h : Here) → length s.words ≤ length (stepped_at by v h s).words
    by_here None = omega arith
    by_here (Some p) = by_fall p (at_fall v s.flat.machine (Some p))

    by_ending : (e : Option End) → length s.words ≤ length (if is_some e then s else stepped_at by v s.here s).words
    by_ending None = by_here s.here
    by_ending (Some x) = omega arith

pub words_rise : (by : Policy) (v : ImageData) (j : ℕ) (s : Moment) → length s.words ≤ length (events by v j s).words
unfolding events
words_rise by v zero s = omega arith
words_rise by v (suc j) s = let so_far = words_rise by v j s in let one = event_rises by v (events by v j s) in omega (arith, so_far, one)

-- ---- the words of one instruction

-- so many of them were executed
pub record Leads (v : ImageData) (p : ℕ × ℕ) (m : ℕ) (s t : Moment) : Type 0 where
  pub flat : t.flat ≡ s.flat
  pub here : t.here ≡ Some p
  pub spent : t.spent ≡ m
  pub kept : t.kept ≡ s.kept
  pub count : t.count ≡ s.count + m
  pub words : t.words ≡ reverse (fetches_from (word_in v s.kept p.0) (index_in s.kept p) m s.sets) ++ s.words
  pub many : length t.words ≡ length s.words + m
  pub sets : t.sets ≡ s.sets

-- and all
pub record StepMade (by : Policy) (v : ImageData) (h : Here) (n : ℕ) (s t : Moment) : Type 0 where
  pub flat : t.flat ≡ held_step s.flat
  pub kept : t.kept ≡ after_all by v s.kept (step_transfers s.flat.machine h (held_step s.flat).machine)
  pub sets : t.sets ≡ s.sets + (writes t.kept - writes s.kept)
  pub here : t.here ≡ here_behind v s.flat.machine h (held_step s.flat).machine
  pub spent : t.spent ≡ 0
  pub count : t.count ≡ s.count + n
  pub words : t.words ≡ reverse (step_words v s.flat.machine h (written_in s)) ++ s.words
  pub before : (j : ℕ) → j < n → (events by v j s).flat ≡ s.flat
  pub many : length t.words ≡ length s.words + step_size 0 s.flat.machine h
  -- before a word of it fewer were fetched
  pub ahead : (j : ℕ) → j < n → ((events by v j s).here ≡ None → ⊥) → length (events by v j s).words + 1 ≤ length s.words + step_size 0 s.flat.machine h

module _ (by : Policy) (v : ImageData) (s : Moment) (p : ℕ × ℕ) (here : s.here ≡ Some p) (going : is_some s.flat.machine.ending ≡ false) (plain : at_fall v s.flat.machine (Some p) ≡ false) (none : s.spent ≡ 0) where
  abbrev pub last : FlatState → ℕ
  last q = before_last q.machine (original q.machine) (slots q.machine)

  pub leads : (m : ℕ) → m ≤ last s.flat → Leads v p m s (events by v m s)
  unfolding events
  leads zero le = record { flat = refl; here = here; spent = none; kept = refl; count = omega arith; words = refl; many = omega arith; sets = refl }
  leads (suc m) le =
      let t = events by v m s in
      let was = leads m (omega (arith, le)) in
      let less : nat_lt (events by v m s).spent (last (events by v m s).flat) ≡ true = below (events by v m s).spent (last (events by v m s).flat) (let n = was.spent in let b = ap (λ (q : FlatState). last q) was.flat in omega (arith, n, b, le)) in
      let is = lead_event by v (events by v m s) (ap (λ (q : FlatState). is_some q.machine.ending) was.flat ∙ going) p was.here (ap (λ (q : FlatState). at_fall v q.machine (Some p)) was.flat ∙ plain) less in
      let n = was.spent in
      let c = was.count in
      record {
        flat = ap (λ (q : Moment). q.flat) is ∙ was.flat;
        here = ap (λ (q : Moment). q.here) is ∙ was.here;
        spent = ap (λ (q : Moment). q.spent) is ∙ omega (arith, n);
        kept = ap (λ (q : Moment). q.kept) is ∙ was.kept;
        count = ap (λ (q : Moment). q.count) is ∙ omega (arith, c);
        words = ap (λ (q : Moment). q.words) is
            ∙ ap (λ (r : Record). fetch_in v (record { kept = r; sets = (events by v m s).sets }) p.0 (index_in r p + (events by v m s).spent) ∷ (events by v m s).words) was.kept
            ∙ ap (λ (n : ℕ). fetch_in v (record { kept = s.kept; sets = (events by v m s).sets }) p.0 (index_in s.kept p + n) ∷ (events by v m s).words) was.spent
            ∙ ap (λ (n : ℕ). fetch_in v (record { kept = s.kept; sets = n }) p.0 (index_in s.kept p + m) ∷ (events by v m s).words) was.sets
            ∙ ap (λ (l : List Fetch). fetch_in v (written_in s) p.0 (index_in s.kept p + m) ∷ l) was.words
            ∙ reverse_snoc (word_in v s.kept p.0) (index_in s.kept p) m s.sets s.words;
        many = (let so_far = was.many in let more = ap (λ (q : Moment). length q.words) is in omega (arith, so_far, more));
        sets = ap (λ (q : Moment). q.sets) is ∙ was.sets;
      }
    where
      below : (x y : ℕ) → x + 1 ≤ y → nat_lt x y ≡ true
      below x y e = grind (arith, nat_tests)

  pub plain_some : StepMade by v (Some p) (last s.flat + 1) s (events by v (last s.flat + 1) s)
  plain_some =
      let m = last s.flat in
      let was = leads (last s.flat) (omega arith) in
      let full : nat_lt (events by v (last s.flat) s).spent (last (events by v (last s.flat) s).flat) ≡ false = not_below (events by v (last s.flat) s).spent (last (events by v (last s.flat) s).flat) (was.spent ∙ ap (λ (q : FlatState). last q) (sym was.flat)) in
      let one : last s.flat + 1 ≡ suc (last s.flat) = omega arith in
      let is = ap (λ (n : ℕ). events by v n s) one ∙ events_next by v (last s.flat) s
      ∙ last_event by v (events by v (last s.flat) s) (ap (λ (q : FlatState). is_some q.machine.ending) was.flat ∙ going) p was.here (ap (λ (q : FlatState). at_fall v q.machine (Some p)) was.flat ∙ plain) full in
      let c = was.count in
      let total = ap (λ (q : Moment). q.count) is in
      record {
        flat = ap (λ (q : Moment). q.flat) is ∙ ap (λ (q : FlatState). held_step q) was.flat;
        kept = ap (λ (q : Moment). q.kept) is
            ∙ ap (λ (q : FlatState). after_all by v (events by v (last s.flat) s).kept (step_transfers q.machine (Some p) (held_step q).machine)) was.flat
            ∙ ap (λ (r : Record). after_all by v r (step_transfers s.flat.machine (Some p) (held_step s.flat).machine)) was.kept;
        sets = ap (λ (q : Moment). q.sets) is
            ∙ ap (λ (n : ℕ). n + (writes (after_all by v (events by v (last s.flat) s).kept (step_transfers (events by v (last s.flat) s).flat.machine (Some p) (held_step (events by v (last s.flat) s).flat).machine)) - writes (events by v (last s.flat) s).kept)) was.sets
            ∙ ap (λ (r : Record). s.sets + (writes r - writes (events by v (last s.flat) s).kept)) (sym (ap (λ (q : Moment). q.kept) is))
            ∙ ap (λ (r : Record). s.sets + (writes (events by v (last s.flat + 1) s).kept - writes r)) was.kept;
        here = ap (λ (q : Moment). q.here) is ∙ ap (λ (q : FlatState). here_behind v q.machine (Some p) (held_step q).machine) was.flat;
        spent = ap (λ (q : Moment). q.spent) is;
        count = omega (arith, c, total);
        words = ap (λ (q : Moment). q.words) is
            ∙ ap (λ (r : Record). fetch_in v (record { kept = r; sets = (events by v (last s.flat) s).sets }) p.0 (index_in r p + (events by v (last s.flat) s).spent) ∷ (events by v (last s.flat) s).words) was.kept
            ∙ ap (λ (n : ℕ). fetch_in v (record { kept = s.kept; sets = (events by v (last s.flat) s).sets }) p.0 (index_in s.kept p + n) ∷ (events by v (last s.flat) s).words) was.spent
            ∙ ap (λ (n : ℕ). fetch_in v (record { kept = s.kept; sets = n }) p.0 (index_in s.kept p + last s.flat) ∷ (events by v (last s.flat) s).words) was.sets
            ∙ ap (λ (l : List Fetch). fetch_in v (written_in s) p.0 (index_in s.kept p + last s.flat) ∷ l) was.words
            ∙ reverse_snoc (word_in v s.kept p.0) (index_in s.kept p) (last s.flat) s.sets s.words
            ∙ ap (λ (n : ℕ). reverse (fetches_from (word_in v s.kept p.0) (index_in s.kept p) n s.sets) ++ s.words) (sym one);
        before = λ j lt. (leads j (omega (arith, lt))).flat;
        many = (let so_far = was.many in let more = ap (λ (q : Moment). length q.words) is in omega (arith, so_far, more));
        ahead = λ j lt inside. (let so_far = (leads j (omega (arith, lt))).many in omega (arith, so_far, lt));
      }
    where
      not_below : (x y : ℕ) → x ≡ y → nat_lt x y ≡ false
      not_below x y e = grind (arith, nat_tests)

-- a step that begins at no exit behind a block
pub plain_made : (by : Policy) (v : ImageData) (s : Moment) (h : Here) → s.here ≡ h → is_some s.flat.machine.ending ≡ false → at_fall v s.flat.machine h ≡ false → s.spent ≡ 0 →
    StepMade by v h (step_size 1 s.flat.machine h) s (events by v (step_size 1 s.flat.machine h) s)
plain_made by v s None is going plain none =
    let at = events_one by v s ∙ event_at by v s going None is in
    record {
      flat = ap (λ (q : Moment). q.flat) at;
      kept = ap (λ (q : Moment). q.kept) at;
      sets = ap (λ (q : Moment). q.sets) at ∙ ap (λ (r : Record). s.sets + (writes r - writes s.kept)) (sym (ap (λ (q : Moment). q.kept) at));
      here = ap (λ (q : Moment). q.here) at;
      spent = ap (λ (q : Moment). q.spent) at;
      count = ap (λ (q : Moment). q.count) at;
      words = ap (λ (q : Moment). q.words) at;
      before = λ j lt. (let first : j ≡ 0 = omega (arith, lt) in ap (λ (n : ℕ). (events by v n s).flat) first ∙ ap (λ (q : Moment). q.flat) (events_none by v s));
      many = (let same = ap (λ (q : Moment). length q.words) at in omega (arith, same));
      ahead = λ j lt inside. (let first : j ≡ 0 = omega (arith, lt) in absurd (inside (ap (λ (n : ℕ). (events by v n s).here) first ∙ ap (λ (q : Moment). q.here) (events_none by v s) ∙ is)));
    }
plain_made by v s (Some p) is going plain none = plain_some by v s p is going plain none
