-- A run of a chip, against the machine instructions of the definition.
use Rattle.std.proofs.Common.{◌≡◌, ℕ, zero, suc, ◌+◌, ◌-◌, ◌^◌, ◌≤◌, false, List, [], ◌++◌, slice_index, Option, Some, None, max, arith, refl, sym, ap, subst, ◌∙◌, inl, inr, append-nil, if◌then◌else◌, length, replicate, ◌<◌}
use Rattle.std.proofs.lemmas.Bool.{eq-eqb, ne_eqb}
use Rattle.std.proofs.lemmas.List.{get_or-replicate, get_or_past, length-replicate}
use Rattle.swi_outside.specs.CacheRam.{RamState}
use Rattle.swi_outside.specs.Causes.{risen}
use Rattle.swi_memory.specs.Bus.{fetched}
use Rattle.swi_calls.specs.declared.machine.Machine.{Machine}
use Rattle.swi_calls.specs.Flat.{started}
use Rattle.swi_calls.specs.State.{FlatState}
use Rattle.swi_image.specs.Format.{ImageData}
use Rattle.swi_image.specs.Place.{word_at}
use Rattle.swi_render.specs.Carried.{Carries}
use Rattle.swi_rom.specs.Record.{ebreak, writes, Record}
use Rattle.swi_rom.specs.Coherent.{IsExit}
use Rattle.swi_rom.specs.Standing.{word_in}
use Rattle.swi_hart.specs.declared.hart.Stage.{Stage}
use Rattle.swi_hart.specs.declared.hart.Control.{Control}
use Rattle.swi_hart.specs.declared.hart.Control.TheVariants.{At, Outside}
use Rattle.swi_hart.specs.declared.hart.ExitKind.{ExitKind}
use Rattle.swi_hart.specs.Hart.{exit_kind}
use Rattle.swi_hart.specs.Calling.{Made}
use Rattle.swi_hart.specs.Leaving.{RamStepped, exit_transfer, fetch_under, fetches_after, moved, transfer_at}
use Rattle.swi_hart.specs.Matching.{BoardStep, Fits, Matches}
use Rattle.swi_hart.proofs.Homes.{home}
use Rattle.swi_hart.proofs.Exchanging.{home_inside}
use Rattle.swi_hart.proofs.Fitting.{matched_fits}
use Rattle.swi_hart.proofs.Stepping.{direct_kind}
use Rattle.swi_board.specs.Moments.{Moment, Policy, events}
use Rattle.swi_board.specs.Tracking.{Point, Tracks}
use Rattle.swi_board.specs.Transfers.{cost, here_of, spent_run}
use Rattle.swi_board.proofs.Events.{events_next, events_none}
use Rattle.swi_board.proofs.Held.{same_steps}
use Rattle.swi_board.proofs.Fetching.{HoldsUnder}
use Rattle.swi_board.proofs.Tracks.{step_tracks}
use Rattle.swi_run_laws.specs.After.{IsAfter}
use Rattle.swi_run_laws.proofs.After.{is_after}
use Rattle.swi_run_laws.proofs.Between.{between_at}
use Rattle.swi_chip_laws.specs.Holding.{Under}
use Rattle.swi_chip_laws.specs.Running.{ChipState, HoldsCache, ChipStepAt, ServesBy, ChipMoved, KeepsLinks, IsChipRun, moment_of, StandsAfter, FollowsEvents, ChipRanSteps, RunsInSteps}
use Rattle.swi_chip_laws.proofs.Holding.{plain_word}
use Rattle.swi_chip_laws.proofs.Stepping.{steps_as_model}

-- ---- one machine instruction

-- the word under control of a chip that stands where a flat machine does
under : (v : ImageData) (span : ℕ) (f : Machine) (a : ChipState) (i b o : ℕ) (stage : Stage) → span ≤ 2 ^ 21 → HoldsCache v span a → a.hart.machine.ending ≡ None → Carries (fetched f.bus) v →
    Matches v a.kept f a.hart.machine a.hart.control → a.hart.control ≡ At i b o stage → Under v a.kept span a.words a.hart i b o stage
under v span f a i b o stage small holds running image matches control = record {
  coherent = holds.coherent;
  small = small;
  fits = matched_fits v a.kept f a.hart image matches;
  running = running;
  short = holds.short;
  control = control;
}

module _ (by : Policy) (v : ImageData) (span : ℕ) (f : Machine) (a b : ChipState) (policy : KeepsLinks by) (small : span ≤ 2 ^ 21) (holds : HoldsCache v span a) (m : ChipMoved by v a b) (image : Carries (fetched f.bus) v)
    (matches : Matches v a.kept f a.hart.machine a.hart.control) where
  transfer_by : (c : Control) → a.hart.control ≡ c → ChipStepAt c v a.kept b.kept a.hart.machine m.step a.input a.held → ServesBy by v a.kept b.kept a.hart.machine a.held c →
      b.kept ≡ moved by a.kept v (transfer_at v a.hart.machine c)
  transfer_by Outside at is serves = serves
  transfer_by (At i c o stage) at (inl (exit, leaves)) serves = serves exit
  transfer_by (At i c o stage) at (inr (inl (linked, same, g))) serves =
      let e : IsExit v c o = (holds.coherent.exits c o linked).1 in
      let d : ℕ = word_at v c (o + 1) in
      same ∙ sym (policy a.kept v c o d linked)
      ∙ ap (λ (k : ExitKind). moved by a.kept v (exit_transfer k v a.hart.machine c o)) (sym (direct_kind d e.direct))
      ∙ ap (λ t. moved by a.kept v (if t then exit_transfer (exit_kind d) v a.hart.machine c o else None)) (sym (eq-eqb (word_at v c o) ebreak e.leaves))
  transfer_by (At i c o stage) at (inr (inr (plain, same, x))) serves =
      let u = under v span f a i c o stage small holds m.running image matches at in
      let word : slice_index a.held i ≡ word_at v c o = plain_word u a.held holds.holds plain in
      same ∙ ap (λ t. moved by a.kept v (if t then exit_transfer (exit_kind (word_at v c (o + 1))) v a.hart.machine c o else None)) (sym (ne_eqb (word_at v c o) ebreak (λ e. x.other (word ∙ e))))

  -- the record goes on by the policy
  transfer_is : b.kept ≡ moved by a.kept v (transfer_at v a.hart.machine a.hart.control)
  transfer_is = transfer_by a.hart.control refl m.is m.serves

  step_by : (c : Control) → a.hart.control ≡ c → ChipStepAt c v a.kept b.kept a.hart.machine m.step a.input a.held → BoardStep v b.kept a.hart.machine c m.step a.input
  step_by Outside at is = is.1
  step_by (At i c o stage) at is = steps_as_model v a.kept b.kept span a.words a.held a.hart m.step a.input i c o stage (under v span f a i c o stage small holds m.running image matches at) holds.holds is

  -- and it is a step of the model's board
  step_is : BoardStep v b.kept a.hart.machine a.hart.control m.step a.input
  step_is = step_by a.hart.control refl m.is

  made_is : (input : List ℕ) → a.input ≡ input → Made v b.kept a.hart b.hart input (Some b.input) (Some a.output) (Some b.output) (Some a.error) (Some b.error)
  made_is input same = subst (λ (l : List ℕ). Made v b.kept a.hart b.hart l (Some b.input) (Some a.output) (Some b.output) (Some a.error) (Some b.error)) same (record {
    stepped = m.step;
    step = step_is;
    did = record { hart = m.hart; input = ap (λ (l : List ℕ). Some l) m.input; output = m.output; error = m.error };
  })

-- ---- a ram that counts as the model's does

-- what stands at the word under control
word_under : ImageData → Record → Control → ℕ
word_under v r (At i b o stage) = word_in v r b i
word_under v r Outside = 0

-- it holds that everywhere
abbrev words_at : ImageData → ℕ → (ℕ → ChipState) → ℕ → List ℕ
words_at v span at j = replicate span (word_under v (at j).kept (at j).hart.control)

ram_at : ImageData → ℕ → (ℕ → ChipState) → ℕ → RamState
ram_at v span at zero = record { words = words_at v span at 0; fetches = 0; sets = 0; faults = 0; reach = 0; fetched_at = []; last_failed = false }
ram_at v span at (suc j) = record (ram_at v span at j) {
  words = words_at v span at (suc j);
  fetches = fetches_after (at j).hart.control (ram_at v span at j).fetches;
  sets = risen (ram_at v span at j).sets (writes (at (suc j)).kept - writes (at j).kept);
  fetched_at = fetch_under (at j).hart.control (ram_at v span at j).sets (ram_at v span at j).words ++ (ram_at v span at j).fetched_at;
}

words_are : (v : ImageData) (span : ℕ) (at : ℕ → ChipState) (j : ℕ) → (ram_at v span at j).words ≡ words_at v span at j
unfolding ram_at
words_are v span at zero = refl
words_are v span at (suc j) = refl

no_less : (p q : ℕ) → p ≤ max p q
no_less p q = grind arith

ram_steps : (v : ImageData) (at : ℕ → ChipState) (span j : ℕ) → RamStepped span (writes (at (suc j)).kept - writes (at j).kept) (at j).hart.control (ram_at v span at j) (ram_at v span at (suc j))
unfolding ram_at
ram_steps v at span j = record {
  quiet = refl;
  fetches = refl;
  fetched_at = refl;
  sets = refl;
  kept = record {
    same_length = length-replicate span (word_under v (at (suc j)).kept (at (suc j)).hart.control)
        ∙ sym (ap (λ (l : List ℕ). length l) (words_are v span at j) ∙ length-replicate span (word_under v (at j).kept (at j).hart.control));
    beyond = λ i le.
        past (word_under v (at (suc j)).kept (at (suc j)).hart.control) i le
        ∙ sym (ap (λ (l : List ℕ). slice_index l i) (words_are v span at j) ∙ past (word_under v (at j).kept (at j).hart.control) i le);
    reached = no_less (ram_at v span at j).reach span;
  };
}
  where
    past : (w i : ℕ) → span ≤ i → slice_index (replicate span w) i ≡ 0
    past w i le = let long = length-replicate span w in get_or_past (replicate span w) i 0 (omega (arith, le, long))

ram_holds : (v : ImageData) (span : ℕ) (at : ℕ → ChipState) (j : ℕ) → HoldsCache v span (at j) → Fits v (at j).kept (at j).hart → (at j).hart.machine.ending ≡ None → (at j).hart.machine.pc < 2 ^ 32 →
    HoldsUnder v (at j).kept (ram_at v span at j).words (at j).hart.control
unfolding word_under
ram_holds v span at j holds fits running short =
    subst (λ (l : List ℕ). HoldsUnder v (at j).kept l (at j).hart.control) (sym (words_are v span at j)) (by (at j).hart.control refl)
  where
    by : (c : Control) → (at j).hart.control ≡ c → HoldsUnder v (at j).kept (replicate span (word_under v (at j).kept c)) c
    by Outside is = tt
    by (At i b o stage) is =
        let h = home v (at j).kept (at j).hart i b o stage fits is running short in
        let end = holds.coherent.inside b h.first h.is_placed in
        let inside = home_inside v (at j).kept (at j).hart.machine i b o stage h in
        let index = h.index in
        get_or-replicate span i (word_in v (at j).kept b i) 0 (omega (arith, end, inside, index))

abbrev point_at : ImageData → ℕ → (ℕ → ChipState) → ℕ → Point
point_at v span at j = record { hart = (at j).hart; kept = (at j).kept; ram = ram_at v span at j; left = Some (at j).input; out = Some (at j).output; err = Some (at j).error }

-- ---- the run

some_list : (a b : List ℕ) → ◌≡◌ {A = Option (List ℕ)} (Some a) (Some b) → a ≡ b
some_list a b e = cc

none_risen : 0 ≡ risen 0 0
none_risen = refl

module _ (by : Policy) (v : ImageData) (span n : ℕ) (f : Machine) (at : ℕ → ChipState) (run : IsChipRun by v span n f at) where
  abbrev start : Moment
  start = moment_of v f (at 0)

  tracks : (j : ℕ) → j ≤ n → Tracks span v (events by v j start) (point_at v span at 0) (point_at v span at j)
  unfolding ram_at
  tracks zero le = subst (λ (s : Moment). Tracks span v s (point_at v span at 0) (point_at v span at 0)) (sym (events_none by v start)) (record {
    image = run.image;
    matches = run.matches;
    here = λ on. refl;
    spent = refl;
    kept = refl;
    count = refl;
    input = refl;
    output = sym (append-nil (at 0).output);
    error = sym (append-nil (at 0).error);
    words = refl;
    ram = record { quiet = refl; fetches = none_risen; sets = none_risen; kept = record { same_length = refl; beyond = λ i le. refl; reached = no_less 0 span } };
  })
  tracks (suc j) le =
      let s : Moment = events by v j start in
      let was : Tracks span v s (point_at v span at 0) (point_at v span at j) = tracks j (omega (arith, le)) in
      let holds : HoldsCache v span (at j) = run.ran.holds j (omega (arith, le)) in
      let m : ChipMoved by v (at j) (at (suc j)) = run.ran.moves j (omega (arith, le)) in
      let input : (at j).input ≡ s.flat.input = some_list (at j).input s.flat.input was.input in
      subst (λ (q : Moment). Tracks span v q (point_at v span at 0) (point_at v span at (suc j))) (sym (events_next by v j start))
      (step_tracks by span v s (point_at v span at 0) (point_at v span at j) (point_at v span at (suc j)) was m.running holds.short holds.coherent.once
      (ram_holds v span at j holds (matched_fits v (at j).kept s.flat.machine (at j).hart was.image was.matches) m.running holds.short)
      (transfer_is by v span s.flat.machine (at j) (at (suc j)) run.policy run.small holds m was.image was.matches)
      (made_is by v span s.flat.machine (at j) (at (suc j)) run.policy run.small holds m was.image was.matches s.flat.input input)
      (ram_steps v at span j))

  stands_after : StandsAfter v (events by v n start) (at 0) (at n)
  stands_after =
      let t = tracks n (omega arith) in
      record {
        matches = t.matches;
        here = t.here;
        spent = t.spent;
        kept = t.kept;
        count = t.count;
        input = some_list (at n).input (events by v n start).flat.input t.input;
        output = t.output;
        error = t.error;
      }

  module _ (k : ℕ) (none : spent_run f (at 0).hart.control ≡ 0) (many : n ≡ cost v k (started f (at 0).input) (here_of v f (at 0).hart.control)) where
    abbrev last : Moment
    last = events by v n start

    after : IsAfter by v k start.here start last
    after = subst (λ (j : ℕ). IsAfter by v k start.here start (events by v j start)) (sym many) (is_after by v k start start.here (λ on. refl) none)

    ran_steps : ChipRanSteps by v k f (at 0) (at n)
    ran_steps =
        let there = stands_after in
        record {
          matches = subst (λ (q : FlatState). Matches v (at n).kept q.machine (at n).hart.machine (at n).hart.control) after.flat there.matches;
          between = λ on. between_at v (at n).kept last.flat.machine (at n).hart.machine (at n).hart.control there.matches (there.spent ∙ after.spent) on;
          input = there.input ∙ ap (λ (q : FlatState). q.input) after.flat;
          output = there.output ∙ ap (λ (q : FlatState). (at 0).output ++ q.output) after.flat;
          error = there.error ∙ ap (λ (q : FlatState). (at 0).error ++ q.error) after.flat;
          kept = there.kept ∙ after.kept;
          here = λ on.
              let now = same_steps v (at n).kept last.flat.machine (at n).hart.machine (at n).hart.control there.matches in
              ap (λ (q : FlatState). here_of v q.machine (at n).hart.control) (sym after.flat) ∙ there.here on ∙ after.here (sym now.1 ∙ on);
          count = there.count ∙ after.count;
        }

-- ---- the laws

pub follows_events : FollowsEvents
follows_events by v span n f at run = stands_after by v span n f at run

pub runs_in_steps : RunsInSteps
runs_in_steps by v span n k f at run none many = ran_steps by v span n f at run k none many
