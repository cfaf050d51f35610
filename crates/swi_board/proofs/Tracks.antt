-- Each machine instruction leads to where the definition's does.
use Rattle.std.proofs.Common.{◌≡◌, if◌then◌else◌, ℕ, ◌+◌, ◌-◌, ◌^◌, ◌<◌, ◌≤◌, nat_lt, Bool, true, false, List, [], ◌∷◌, ◌++◌, length, Option, Some, None, is_some, max, refl, sym, ap, subst, ◌∙◌, arith, append-nil}
use Rattle.std.proofs.lemmas.Bool.{false≢true}
use Rattle.std.proofs.lemmas.Bool.Decides.{nat_tests}
use Rattle.std.proofs.lemmas.List.{append_assoc, length-append}
use Rattle.std.specs.Io.KnownBytes.{Appends}
use Rattle.swi_memory.specs.Bus.{fetched}
use Rattle.swi_outside.specs.Causes.{risen}
use Rattle.swi_outside.specs.CacheRam.{Fetch, RamState, KeepsBeyond, since}
use Rattle.swi_outside.specs.Fetches.{since_append}
use Rattle.swi_outside.specs.Laws.{Appends-append}
use Rattle.swi_calls.specs.declared.end.End.{End}
use Rattle.swi_calls.specs.declared.machine.Machine.{Machine}
use Rattle.swi_calls.specs.Flat.{quiet}
use Rattle.swi_calls.specs.Held.{held_made, held_step}
use Rattle.swi_calls.specs.State.{FlatState}
use Rattle.swi_image.specs.Format.{ImageData}
use Rattle.swi_image.specs.Place.{place_of}
use Rattle.swi_render.specs.Carried.{Carries}
use Rattle.swi_rom.specs.Record.{Record, Placed, direct, writes}
use Rattle.swi_rom.specs.Rams.{risen_more}
use Rattle.swi_hart.specs.declared.hart.Control.{Control}
use Rattle.swi_hart.specs.declared.hart.Control.TheVariants.{At, Outside}
use Rattle.swi_hart.specs.Hart.{HartData, completes, next_made, original, slots}
use Rattle.swi_hart.specs.Calling.{Made}
use Rattle.swi_hart.specs.Leaving.{RamStepped, fetches_after, fetch_under, moved, transfer_at}
use Rattle.swi_hart.specs.Matching.{Agrees, Follows, Matches}
use Rattle.swi_hart.proofs.Kept.{image_same, next_text}
use Rattle.swi_hart.proofs.Midway.{step_follows}
use Rattle.swi_board.specs.Fetching.{fetch_in, index_in}
use Rattle.swi_board.specs.Ran.{RamRan}
use Rattle.swi_board.specs.Runs.{weight}
use Rattle.swi_board.specs.Transfers.{Here, after_all, at_fall, before_last, here_after, here_of, spent, spent_by, spent_run, step_transfers}
use Rattle.swi_board.proofs.Fetching.{HoldsUnder, under_is, word_at_place}
use Rattle.swi_board.proofs.Held.{next_state, no_exit_no_transfer, same_steps}
use Rattle.swi_board.proofs.Progress.{Completes, Progress, made_step, lead, fall, beside as outside, progress}
use Rattle.swi_board.specs.Moments.{Moment, Policy, completed, counted, event, executed, fell, led, next_fetch, stepped_at}
use Rattle.swi_board.specs.Tracking.{Point, Tracks}
use Rattle.swi_board.proofs.Spending.{spent_few}

-- what several calls of the ram leave alone
pub kept_both : (span : ℕ) (first before after : RamState) → KeepsBeyond span first before → KeepsBeyond span before after → KeepsBeyond span first after
kept_both span first before after one two = record {
  same_length = two.same_length ∙ one.same_length;
  beyond = λ i le. two.beyond i le ∙ one.beyond i le;
  reached = let p = one.reached in let q = two.reached in reach_both first.reach before.reach after.reach p q;
}
  where
    reach_both : (p q s : ℕ) → q ≤ max p span → s ≤ max q span → s ≤ max p span
    reach_both p q s x y = grind arith

-- what a run and one more machine step do to the ram
pub ram_on : (span f n w k : ℕ) (c : Control) (a b d : RamState) → w ≡ weight 0 c → RamRan span f n a b → RamStepped span k c b d → RamRan span (f + w) (n + k) a d
ram_on span f n w k c a b d is ran step = record {
  quiet = step.quiet ∙ ran.quiet;
  fetches = step.fetches ∙ ap (λ (x : ℕ). fetches_after c x) ran.fetches ∙ more c w is a.fetches f;
  sets = step.sets ∙ ap (λ (x : ℕ). risen x k) ran.sets ∙ risen_more a.sets n k;
  kept = kept_both span a b d ran.kept step.kept;
}
  where
    more : (c : Control) (w : ℕ) → w ≡ weight 0 c → (a f : ℕ) → fetches_after c (risen a f) ≡ risen a (f + w)
    more (At i b o stage) w is a f = risen_more a f 1 ∙ ap (λ (x : ℕ). risen a (f + x)) (sym is)
    more Outside w is a f = let none : f ≡ f + w = omega (arith, is) in ap (λ (x : ℕ). risen a x) none

pub running_spent : (f : Machine) (c : Control) → f.ending ≡ None → spent_run f c ≡ spent f c
running_spent f c on = ap (λ (e : Option End). spent_by e f c) on

over_spent : (f : Machine) (c : Control) (e : Option End) → is_some e ≡ true → spent_by e f c ≡ 0
over_spent f c None over = absurd (false≢true over)
over_spent f c (Some x) over = refl

-- The word under control is fetched: in a run from n sets on it comes behind m of them, and in the ram behind k.
since_under : (n : ℕ) (c : Control) (m : ℕ) (held : List ℕ) → since n (fetch_under c m held) ≡ fetch_under c (risen n m) held
since_under n (At i b o stage) m held = refl
since_under n Outside m held = refl

words_on : (c : Control) (held : List ℕ) (n m k : ℕ) (ws words first before : List Fetch) → k ≡ risen n m → fetch_under c m held ≡ ws → before ≡ since n words ++ first → fetch_under c k held ++ before ≡ since n (ws ++ words) ++ first
words_on c held n m k ws words first before sets under was =
    ap (λ (x : ℕ). fetch_under c x held ++ before) sets
    ∙ ap (λ (l : List Fetch). l ++ before) (sym (since_under n c m held))
    ∙ ap (λ (l : List Fetch). since n l ++ before) under
    ∙ ap (λ (l : List Fetch). since n ws ++ l) was
    ∙ sym (append_assoc (since n ws) (since n words) first)
    ∙ ap (λ (l : List Fetch). l ++ first) (sym (since_append n ws words))

many_more : (c : Control) (sets : ℕ) (held : List ℕ) (ws l : List Fetch) → fetch_under c sets held ≡ ws → length (ws ++ l) ≡ length l + weight 0 c
many_more c sets held ws l is = let all = length-append ws l in let one = ap (λ (x : List Fetch). length x) is in omega (arith, all, one, weight_is c)
  where
    weight_is : (c : Control) → length (fetch_under c sets held) ≡ weight 0 c
    weight_is (At i b o stage) = refl
    weight_is Outside = refl

-- one machine instruction of a hart that goes on, from a point that stands where a moment does
module _ (policy : Policy) (span : ℕ) (v : ImageData) (s : Moment) (from a b : Point) (at : Tracks span v s from a) (running : a.hart.machine.ending ≡ None) (word : a.hart.machine.pc < 2 ^ 32)
    (once : (c f g : ℕ) → Placed a.kept c f → Placed a.kept c g → f ≡ g) (held : HoldsUnder v a.kept a.ram.words a.hart.control)
    (moves : b.kept ≡ moved policy a.kept v (transfer_at v a.hart.machine a.hart.control))
    (made : Made v b.kept a.hart b.hart s.flat.input b.left a.out b.out a.err b.err)
    (ram : RamStepped span (writes b.kept - writes a.kept) a.hart.control a.ram b.ram) where
  abbrev t : Bool
  t = completes v a.hart.machine a.hart.control

  follows : Follows v b.kept made.stepped (next_made v a.hart.machine a.hart.control s.flat.machine s.flat.input)
  follows = step_follows v a.kept b.kept s.flat.machine a.hart.machine a.hart.control made.stepped s.flat.input at.image at.matches running word
      (no_exit_no_transfer policy v a.kept b.kept a.hart.machine a.hart.control moves) made.step

  goes : Progress policy v a.kept b.kept s.flat.machine a.hart.machine a.hart.control made.stepped s.flat.input
  goes = progress policy v a.kept b.kept s.flat.machine a.hart.machine a.hart.control made.stepped s.flat.input at.image at.matches running word moves
      (no_exit_no_transfer policy v a.kept b.kept a.hart.machine a.hart.control moves) made.step

  flat_on : s.flat.machine.ending ≡ None
  flat_on = sym (same_steps v a.kept s.flat.machine a.hart.machine a.hart.control at.matches).1 ∙ running

  flat_going : is_some s.flat.machine.ending ≡ false
  flat_going = ap (λ (e : Option End). is_some e) flat_on

  spent_now : spent s.flat.machine a.hart.control ≡ s.spent
  spent_now = sym (running_spent s.flat.machine a.hart.control flat_on) ∙ at.spent

  control_is : b.hart.control ≡ made.stepped.control
  control_is = ap (λ (h : HartData). h.control) made.did.hart

  state_machine : (q : Bool) → (next_state q s.flat).machine ≡ (if q then held_made s.flat.machine s.flat.input else quiet s.flat.machine s.flat.input).machine
  state_machine true = refl
  state_machine false = refl

  state_input : (q : Bool) → (if q then held_made s.flat.machine s.flat.input else quiet s.flat.machine s.flat.input).input ≡ (next_state q s.flat).input
  state_input true = refl
  state_input false = refl

  state_output : (q : Bool) → s.flat.output ++ (if q then held_made s.flat.machine s.flat.input else quiet s.flat.machine s.flat.input).output ≡ (next_state q s.flat).output
  state_output true = refl
  state_output false = append-nil s.flat.output

  state_error : (q : Bool) → s.flat.error ++ (if q then held_made s.flat.machine s.flat.input else quiet s.flat.machine s.flat.input).error ≡ (next_state q s.flat).error
  state_error true = refl
  state_error false = append-nil s.flat.error

  matches_next : Matches v b.kept (next_state t s.flat).machine b.hart.machine b.hart.control
  matches_next =
      subst (λ (k : HartData). Matches v b.kept (next_state t s.flat).machine k.machine k.control) (sym made.did.hart)
      (subst (λ (f : Machine). Matches v b.kept f made.stepped.made.machine made.stepped.control) (sym (state_machine t)) follows.matches)

  -- the word under control
  abbrev word_list : ℕ × ℕ → List Fetch
  word_list p = next_fetch v p s ∷ []

  under : (p : ℕ × ℕ) → here_of v s.flat.machine a.hart.control ≡ Some p → fetch_under a.hart.control s.sets a.ram.words ≡ next_fetch v p s ∷ []
  under p here =
      sym (under_is v a.kept a.ram.words s.flat.machine a.hart.machine a.hart.control s.sets once held running at.matches)
      ∙ ap (λ (h : Here). word_at_place v h a.kept (spent s.flat.machine a.hart.control) s.sets) here
      ∙ ap (λ (n : ℕ). fetch_in v (record { kept = a.kept; sets = s.sets }) p.0 (index_in a.kept p + n) ∷ []) spent_now
      ∙ ap (λ (r : Record). fetch_in v (record { kept = r; sets = s.sets }) p.0 (index_in r p + s.spent) ∷ []) at.kept

  tracks_to : (s' : Moment) → s'.flat ≡ next_state t s.flat → (b.hart.machine.ending ≡ None → here_of v (next_state t s.flat).machine b.hart.control ≡ s'.here) →
      spent_run (next_state t s.flat).machine b.hart.control ≡ s'.spent → b.kept ≡ s'.kept → s'.count ≡ s.count + 1 → (ws : List Fetch) → fetch_under a.hart.control s.sets a.ram.words ≡ ws → s'.words ≡ ws ++ s.words →
      s'.sets ≡ s.sets + (writes b.kept - writes a.kept) → Tracks span v s' from b
  tracks_to s' flat here spends kept count ws under words sets = record {
    image = subst (λ (q : FlatState). Carries (fetched q.machine.bus) v) (sym flat)
        (image_same v (λ x. fetched s.flat.machine.bus x) (λ x. fetched (next_state t s.flat).machine.bus x)
        (λ x. ap (λ (f : Machine). fetched f.bus x) (state_machine t) ∙ next_text x v a.hart.machine a.hart.control s.flat.machine s.flat.input) at.image);
    matches = subst (λ (q : FlatState). Matches v b.kept q.machine b.hart.machine b.hart.control) (sym flat) matches_next;
    here = λ on. ap (λ (q : FlatState). here_of v q.machine b.hart.control) flat ∙ here on;
    spent = ap (λ (q : FlatState). spent_run q.machine b.hart.control) flat ∙ spends;
    kept = kept;
    count = ap (λ (h : HartData). h.count) made.did.hart ∙ ap (λ (n : ℕ). n + 1) at.count ∙ sym count;
    input = made.did.input ∙ ap (λ (l : List ℕ). Some l) (follows.input ∙ state_input t) ∙ ap (λ (q : FlatState). Some q.input) (sym flat);
    output = subst (λ (l : List ℕ). Appends from.out b.out l) (state_output t ∙ ap (λ (q : FlatState). q.output) (sym flat))
        (Appends-append from.out a.out b.out s.flat.output (next_made v a.hart.machine a.hart.control s.flat.machine s.flat.input).output at.output
        (subst (λ (l : List ℕ). Appends a.out b.out l) follows.output made.did.output));
    error = subst (λ (l : List ℕ). Appends from.err b.err l) (state_error t ∙ ap (λ (q : FlatState). q.error) (sym flat))
        (Appends-append from.err a.err b.err s.flat.error (next_made v a.hart.machine a.hart.control s.flat.machine s.flat.input).error at.error
        (subst (λ (l : List ℕ). Appends a.err b.err l) follows.error made.did.error));
    words = ram.fetched_at
        ∙ words_on a.hart.control a.ram.words from.ram.sets s.sets a.ram.sets ws s.words from.ram.fetched_at a.ram.fetched_at at.ram.sets under at.words
        ∙ ap (λ (l : List Fetch). since from.ram.sets l ++ from.ram.fetched_at) (sym words);
    ram = subst (λ (l : List Fetch). RamRan span (length l) s'.sets from.ram b.ram) (sym words)
        (subst (λ (n : ℕ). RamRan span (length (ws ++ s.words)) n from.ram b.ram) (sym sets)
        (subst (λ (n : ℕ). RamRan span n (s.sets + (writes b.kept - writes a.kept)) from.ram b.ram) (sym (many_more a.hart.control s.sets a.ram.words ws s.words under))
        (ram_on span (length s.words) s.sets (weight 0 a.hart.control) (writes b.kept - writes a.kept) a.hart.control from.ram a.ram b.ram refl at.ram ram)));
  }

  -- the definition's step, by where the run stands
  event_at_place : (h : Here) → here_of v s.flat.machine a.hart.control ≡ h → event policy v s ≡ stepped_at policy v h s
  event_at_place h is =
      ap (λ (q : Bool). if q then s else stepped_at policy v s.here s) flat_going
      ∙ ap (λ (k : Here). stepped_at policy v k s) (sym (at.here running) ∙ is)

  sets_as : (k : Record) → b.kept ≡ k → s.sets + (writes k - writes s.kept) ≡ s.sets + (writes b.kept - writes a.kept)
  sets_as k is = ap (λ (x : Record). s.sets + (writes x - writes s.kept)) (sym is) ∙ ap (λ (x : Record). s.sets + (writes b.kept - writes x)) (sym at.kept)

  unset : b.kept ≡ a.kept → s.sets ≡ s.sets + (writes b.kept - writes a.kept)
  unset same = let e = ap (λ (k : Record). writes k) same in omega (arith, e)

  next_on : b.hart.machine.ending ≡ None → (next_state t s.flat).machine.ending ≡ None
  next_on on = sym (same_steps v b.kept (next_state t s.flat).machine b.hart.machine b.hart.control matches_next).1 ∙ on

  abbrev pub Led : Type 0
  Led = Tracks span v (event policy v s) from b

  led_to : (s' : Moment) → event policy v s ≡ s' → Tracks span v s' from b → Led
  led_to s' is there = subst (λ (k : Moment). Tracks span v k from b) (sym is) there

  completed_case : (p : ℕ × ℕ) → completes v a.hart.machine a.hart.control ≡ true → here_of v s.flat.machine a.hart.control ≡ Some p → at_fall v s.flat.machine (Some p) ≡ false →
      Completes policy v a.kept b.kept s.flat.machine (original s.flat.machine) (slots s.flat.machine) p (spent s.flat.machine a.hart.control) made.stepped (held_made s.flat.machine s.flat.input).machine → Led
  completed_case p whole here plain done =
      let next : Machine = (held_step s.flat).machine in
      let state : next_state t s.flat ≡ held_step s.flat = ap (λ (q : Bool). next_state q s.flat) whole in
      let kept : b.kept ≡ after_all policy v s.kept (step_transfers s.flat.machine (Some p) next) =
      done.moves ∙ ap (λ (k : Record). after_all policy v k (step_transfers s.flat.machine (Some p) next)) at.kept in
      let last : nat_lt s.spent (before_last s.flat.machine (original s.flat.machine) (slots s.flat.machine)) ≡ false =
      not_less s.spent (before_last s.flat.machine (original s.flat.machine) (slots s.flat.machine)) (omega (arith, done.cost, spent_now)) in
      led_to (counted (word_list p) (completed policy v (Some p) s))
      (event_at_place (Some p) here
      ∙ ap (λ (q : Bool). counted (word_list p) (if q then fell policy v p s else executed policy v p s)) plain
      ∙ ap (λ (q : Bool). counted (word_list p) (if q then led s else completed policy v (Some p) s)) last)
      (tracks_to (counted (word_list p) (completed policy v (Some p) s)) (sym state)
      (λ on.
      let going : next.ending ≡ None = ap (λ (q : FlatState). q.machine.ending) (sym state) ∙ next_on on in
      ap (λ (q : FlatState). here_of v q.machine b.hart.control) state ∙ ap (λ (c : Control). here_of v next c) control_is ∙ done.here going
      ∙ ap (λ (e : Option End). if is_some e then Some p else here_after v s.flat.machine (Some p) next) (sym going))
      (ap (λ (q : FlatState). spent_run q.machine b.hart.control) state ∙ spent_behind next next.ending refl done.spent_none)
      kept refl (word_list p) (under p here) refl (sets_as (after_all policy v s.kept (step_transfers s.flat.machine (Some p) next)) kept))
    where
      not_less : (x y : ℕ) → x ≡ y → nat_lt x y ≡ false
      not_less x y e = grind (arith, nat_tests)

      spent_behind : (next : Machine) (e : Option End) → next.ending ≡ e → (next.ending ≡ None → spent next made.stepped.control ≡ 0) → spent_run next b.hart.control ≡ 0
      spent_behind next None on none = ap (λ (e : Option End). spent_by e next b.hart.control) on ∙ ap (λ (c : Control). spent next c) control_is ∙ none on
      spent_behind next (Some x) over none = ap (λ (e : Option End). spent_by e next b.hart.control) over

  led_case : (p : ℕ × ℕ) → completes v a.hart.machine a.hart.control ≡ false → here_of v s.flat.machine a.hart.control ≡ Some p → at_fall v s.flat.machine (Some p) ≡ false → b.kept ≡ a.kept →
      here_of v s.flat.machine made.stepped.control ≡ Some p → spent s.flat.machine made.stepped.control ≡ spent s.flat.machine a.hart.control + 1 → Led
  led_case p part here plain same there deeper =
      let state : next_state t s.flat ≡ s.flat = ap (λ (q : Bool). next_state q s.flat) part in
      let stands : Matches v b.kept s.flat.machine b.hart.machine b.hart.control = subst (λ (q : FlatState). Matches v b.kept q.machine b.hart.machine b.hart.control) state matches_next in
      let going : b.hart.machine.ending ≡ None = (same_steps v b.kept s.flat.machine b.hart.machine b.hart.control stands).1 ∙ flat_on in
      let few = spent_few v b.kept s.flat.machine b.hart.machine b.hart.control (subst (λ (e : Option End). Agrees e v b.kept s.flat.machine b.hart.machine b.hart.control) going stands) in
      let now : spent s.flat.machine b.hart.control ≡ s.spent + 1 = ap (λ (c : Control). spent s.flat.machine c) control_is ∙ deeper ∙ ap (λ (n : ℕ). n + 1) spent_now in
      let more : nat_lt s.spent (before_last s.flat.machine (original s.flat.machine) (slots s.flat.machine)) ≡ true =
      less s.spent (before_last s.flat.machine (original s.flat.machine) (slots s.flat.machine)) (omega (arith, few, now)) in
      led_to (counted (word_list p) (led s))
      (event_at_place (Some p) here
      ∙ ap (λ (q : Bool). counted (word_list p) (if q then fell policy v p s else executed policy v p s)) plain
      ∙ ap (λ (q : Bool). counted (word_list p) (if q then led s else completed policy v (Some p) s)) more)
      (tracks_to (counted (word_list p) (led s)) (sym state)
      (λ on. ap (λ (q : FlatState). here_of v q.machine b.hart.control) state ∙ ap (λ (c : Control). here_of v s.flat.machine c) control_is ∙ there ∙ sym here ∙ at.here running)
      (ap (λ (q : FlatState). spent_run q.machine b.hart.control) state ∙ running_spent s.flat.machine b.hart.control flat_on ∙ now)
      (same ∙ at.kept) refl (word_list p) (under p here) refl (unset same))
    where
      less : (x y : ℕ) → x + 1 ≤ y → nat_lt x y ≡ true
      less x y e = grind (arith, nat_tests)

  fell_case : (p : ℕ × ℕ) → completes v a.hart.machine a.hart.control ≡ false → here_of v s.flat.machine a.hart.control ≡ Some p → at_fall v s.flat.machine (Some p) ≡ true →
      b.kept ≡ policy a.kept v (direct p.0 p.1 s.flat.machine.pc) → here_of v s.flat.machine made.stepped.control ≡ place_of v s.flat.machine.pc → spent s.flat.machine made.stepped.control ≡ 0 → Led
  fell_case p part here falls moves there none =
      let state : next_state t s.flat ≡ s.flat = ap (λ (q : Bool). next_state q s.flat) part in
      let kept : b.kept ≡ policy s.kept v (direct p.0 p.1 s.flat.machine.pc) = moves ∙ ap (λ (k : Record). policy k v (direct p.0 p.1 s.flat.machine.pc)) at.kept in
      led_to (counted (word_list p) (fell policy v p s))
      (event_at_place (Some p) here
      ∙ ap (λ (q : Bool). counted (word_list p) (if q then fell policy v p s else executed policy v p s)) falls)
      (tracks_to (counted (word_list p) (fell policy v p s)) (sym state)
      (λ on. ap (λ (q : FlatState). here_of v q.machine b.hart.control) state ∙ ap (λ (c : Control). here_of v s.flat.machine c) control_is ∙ there)
      (ap (λ (q : FlatState). spent_run q.machine b.hart.control) state ∙ running_spent s.flat.machine b.hart.control flat_on ∙ ap (λ (c : Control). spent s.flat.machine c) control_is ∙ none)
      kept refl (word_list p) (under p here) refl (sets_as (policy s.kept v (direct p.0 p.1 s.flat.machine.pc)) kept))

  outside_case : completes v a.hart.machine a.hart.control ≡ true → a.hart.control ≡ Outside → b.kept ≡ a.kept → is_some (held_made s.flat.machine s.flat.input).machine.ending ≡ true → Led
  outside_case whole out same over =
      let state : next_state t s.flat ≡ held_step s.flat = ap (λ (q : Bool). next_state q s.flat) whole in
      led_to (counted [] (completed policy v None s))
      (event_at_place None (ap (λ (c : Control). here_of v s.flat.machine c) out))
      (tracks_to (counted [] (completed policy v None s)) (sym state)
      (λ on. absurd (false≢true (sym (ap (λ (q : FlatState). is_some q.machine.ending) (sym state) ∙ ap (λ (e : Option End). is_some e) (next_on on)) ∙ over)))
      (ap (λ (q : FlatState). spent_run q.machine b.hart.control) state ∙ over_spent (held_step s.flat).machine b.hart.control (held_step s.flat).machine.ending over)
      (same ∙ at.kept) refl [] (ap (λ (c : Control). fetch_under c s.sets a.ram.words) out) refl (sets_as s.kept (same ∙ at.kept)))

  pub step_tracks : Led
  step_tracks = by goes
    where
      by : Progress policy v a.kept b.kept s.flat.machine a.hart.machine a.hart.control made.stepped s.flat.input → Led
      by (made_step p whole here plain done) = completed_case p whole here plain done
      by (lead p part here plain same there deeper) = led_case p part here plain same there deeper
      by (fall p part here falls none moves there none') = fell_case p part here falls moves there none'
      by (outside whole out same over) = outside_case whole out same over
