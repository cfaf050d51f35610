-- A run of a processor with the service of `swi_chip` is one of a chip.
use Rattle.std.proofs.Common.{◌≡◌, ◌∙◌, ◌⊎◌, ℕ, zero, suc, ◌*◌, ◌^◌, ◌<◌, ◌≤◌, List, arith, refl, sym, subst, inl, inr}
use Rattle.std.proofs.lemmas.Bool.{cases_lt}
use Rattle.swi_memory.specs.Bus.{fetched}
use Rattle.swi_calls.specs.declared.machine.Machine.{Machine}
use Rattle.swi_calls.specs.Flat.{started}
use Rattle.swi_image.specs.Format.{ImageData}
use Rattle.swi_render.specs.Carried.{Carries}
use Rattle.swi_rom.specs.Coherent.{Coherent}
use Rattle.swi_rom.specs.Service.{Setting}
use Rattle.swi_slots.specs.Coheres.{coheres}
use Rattle.swi_slots.specs.Slots.{Slots, kept_by, setting_of, span_of}
use Rattle.swi_hart.specs.declared.hart.Control.{Control}
use Rattle.swi_hart.specs.declared.hart.Control.TheVariants.{At, Outside}
use Rattle.swi_hart.specs.Hart.{HartData, next_made}
use Rattle.swi_hart.specs.Matching.{Follows, Matches}
use Rattle.swi_hart.proofs.Fitting.{matched_fits}
use Rattle.swi_hart.proofs.Kept.{image_same, next_text}
use Rattle.swi_hart.proofs.Midway.{step_follows}
use Rattle.swi_board.specs.Moments.{events}
use Rattle.swi_board.specs.Transfers.{cost, here_of, spent_run}
use Rattle.swi_chip.specs.Bounded.{fifo_few}
use Rattle.swi_chip.specs.Service.{StandsFor}
use Rattle.swi_chip.proofs.Bounding.{few_over_link}
use Rattle.swi_chip_laws.specs.Holding.{Under}
use Rattle.swi_chip_laws.specs.Running.{ChipMoved, ChipRanSteps, ChipState, ChipStepAt, HoldsCache, IsChipRun, ServesBy, StandsAfter, moment_of}
use Rattle.swi_chip_laws.proofs.Running.{follows_events, runs_in_steps}
use Rattle.swi_chip_laws.proofs.Stepping.{follows_flat}
use Rattle.swi_chip_memory_laws.proofs.Memory.{holds_words}
use Rattle.swi_chip_run_laws.specs.Calls.{ProcessorMoved, ProcessorState, WordAt, control_of}
use Rattle.swi_chip_run_laws.specs.Runs.{IsProcessorRun, ProcessorFollows, ProcessorRan, ProcessorRunsInSteps, ProcessorStands, state_of}
use Rattle.swi_chip_run_laws.proofs.Stepping.{Behind, behind}

-- what a state behind j machine instructions stands for, and the flat machine where its hart stands; from the n-th on it is the same state
pub record Along (v : ImageData) (by : Setting) (most n : ℕ) (at : ℕ → ProcessorState) (j : ℕ) : Type 0 where
  pub state : ProcessorState
  pub is : j ≤ n → state ≡ at j
  pub s : Slots
  pub words : List ℕ
  pub lists : List (List ℕ)
  pub stands : StandsFor s (λ p. v) words lists state.chip
  pub setting : setting_of s ≡ by
  pub bound : state.chip.most ≡ most
  pub flat : Machine
  pub image : Carries (fetched flat.bus) v
  pub matches : Matches v (kept_by s) flat state.hart.machine state.hart.control

module _ (v : ImageData) (s : Slots) (ram : List ℕ) (lists : List (List ℕ)) (n : ℕ) (f : Machine) (at : ℕ → ProcessorState) (k : StandsFor s (λ p. v) ram lists (at 0).chip) (run : IsProcessorRun v s n f at) where
  abbrev Here : ℕ → Type 0
  Here j = Along v (setting_of s) (at 0).chip.most n at j

  abbrev chip_of : {j : ℕ} → Along v (setting_of s) (at 0).chip.most n at j → ChipState
  chip_of x = state_of x.s x.words x.state

  first : Along v (setting_of s) (at 0).chip.most n at 0
  first = record { state = at 0; is = λ le. refl; s = s; words = ram; lists = lists; stands = k; setting = refl; bound = refl; flat = f; image = run.image; matches = run.matches }

  module _ (j : ℕ) (x : Along v (setting_of s) (at 0).chip.most n at j) where
    coherent : Coherent v (kept_by x.s) (x.s.slots * x.s.size) x.words
    coherent = coheres x.s v x.words ((λ p. v), (refl, x.stands.serves))

    short : j ≤ n → x.state.hart.machine.pc < 2 ^ 32
    short le = subst (λ (q : ProcessorState). q.hart.machine.pc < 2 ^ 32) (sym (x.is le)) (run.short j le)

    holds : j ≤ n → HoldsCache v (span_of (setting_of s)) (state_of x.s x.words x.state)
    holds le = record {
      coherent = subst (λ (by : Setting). Coherent v (kept_by x.s) (span_of by) x.words) x.setting coherent;
      holds = holds_words x.stands;
      short = short le;
    }

    module _ (lt : j < n) where
      move : ProcessorMoved v x.state (at (suc j))
      move = subst (λ (q : ProcessorState). ProcessorMoved v q (at (suc j))) (sym (x.is (omega (arith, lt)))) (run.moves j lt)

      under : (w : WordAt) → x.state.hart.control ≡ control_of w → Under v (kept_by x.s) (x.s.slots * x.s.size) x.words x.state.hart w.index w.block w.offset w.stage
      under w control = record {
        coherent = coherent;
        small = x.stands.serves.shape.words_few;
        fits = matched_fits v (kept_by x.s) x.flat x.state.hart x.image x.matches;
        running = move.running;
        short = short (omega (arith, lt));
        control = control;
      }

      step : Behind v x.s x.state (at (suc j)) move.step x.state.hart.control
      step = behind v x.s x.words x.lists x.state (at (suc j)) move.step x.stands x.state.hart.control under move.is

      follows_by : (c : Control) → x.state.hart.control ≡ c → ChipStepAt c v (kept_by x.s) (kept_by step.next) x.state.hart.machine move.step x.state.input x.state.chip.cache.now →
          Follows v (kept_by step.next) move.step (next_made v x.state.hart.machine c x.flat x.state.input)
      follows_by Outside is (same, ends) =
          step_follows v (kept_by x.s) (kept_by step.next) x.flat x.state.hart.machine Outside move.step x.state.input x.image
          (subst (λ (c : Control). Matches v (kept_by x.s) x.flat x.state.hart.machine c) is x.matches) move.running (short (omega (arith, lt))) (λ other. same) ends
      follows_by (At i b o stage) is it =
          follows_flat v (kept_by x.s) (kept_by step.next) (x.s.slots * x.s.size) x.words x.state.chip.cache.now x.state.hart x.flat move.step x.state.input i b o stage
          (under (record { index = i; block = b; offset = o; stage = stage }) is) (holds_words x.stands) x.image
          (subst (λ (c : Control). Matches v (kept_by x.s) x.flat x.state.hart.machine c) is x.matches) it

      follows : Follows v (kept_by step.next) move.step (next_made v x.state.hart.machine x.state.hart.control x.flat x.state.input)
      follows = follows_by x.state.hart.control refl step.is

      next : Along v (setting_of s) (at 0).chip.most n at (suc j)
      next = record {
        state = at (suc j);
        is = λ le. refl;
        s = step.next;
        words = step.words;
        lists = step.lists;
        stands = step.stands;
        setting = step.setting ∙ x.setting;
        bound = step.bound ∙ x.bound;
        flat = (next_made v x.state.hart.machine x.state.hart.control x.flat x.state.input).machine;
        image = image_same v (λ y. fetched x.flat.bus y) (λ y. fetched (next_made v x.state.hart.machine x.state.hart.control x.flat x.state.input).machine.bus y)
            (λ y. next_text y v x.state.hart.machine x.state.hart.control x.flat x.state.input) x.image;
        matches = subst (λ (h : HartData). Matches v (kept_by step.next) (next_made v x.state.hart.machine x.state.hart.control x.flat x.state.input).machine h.machine h.control) (sym move.hart) follows.matches;
      }

      moved_on : ChipMoved (fifo_few (at 0).chip.most (setting_of s)) v (state_of x.s x.words x.state) (state_of step.next step.words (at (suc j)))
      moved_on = record {
        running = move.running;
        step = move.step;
        is = step.is;
        serves = subst (λ (m : ℕ). ServesBy (fifo_few m (setting_of s)) v (kept_by x.s) (kept_by step.next) x.state.hart.machine x.state.chip.cache.now x.state.hart.control) x.bound
            (subst (λ (by : Setting). ServesBy (fifo_few x.state.chip.most by) v (kept_by x.s) (kept_by step.next) x.state.hart.machine x.state.chip.cache.now x.state.hart.control) x.setting step.serves);
        hart = move.hart;
        input = move.input;
        output = move.output;
        error = move.error;
      }

    -- behind the last one nothing changes
    on : (j < n) ⊎ (n ≤ j) → Along v (setting_of s) (at 0).chip.most n at (suc j)
    on (inl lt) = next lt
    on (inr past) = record {
      state = x.state;
      is = λ le. absurd (omega (arith, le, past));
      s = x.s;
      words = x.words;
      lists = x.lists;
      stands = x.stands;
      setting = x.setting;
      bound = x.bound;
      flat = x.flat;
      image = x.image;
      matches = x.matches;
    }

    on_moved : (t : (j < n) ⊎ (n ≤ j)) → j < n → ChipMoved (fifo_few (at 0).chip.most (setting_of s)) v (state_of x.s x.words x.state) (state_of (on t).s (on t).words (on t).state)
    unfolding on next
    on_moved (inl lt) less = moved_on lt
    on_moved (inr past) less = absurd (omega (arith, less, past))

  along : (j : ℕ) → Along v (setting_of s) (at 0).chip.most n at j
  along zero = first
  along (suc j) = on j (along j) (cases_lt j n)

  abbrev chips : ℕ → ChipState
  chips j = state_of (along j).s (along j).words (along j).state

  moves : (j : ℕ) → j < n → ChipMoved (fifo_few (at 0).chip.most (setting_of s)) v (state_of (along j).s (along j).words (along j).state) (state_of (along (suc j)).s (along (suc j)).words (along (suc j)).state)
  unfolding along
  moves j lt = on_moved j (along j) (cases_lt j n) lt

  chip_run : IsChipRun (fifo_few (at 0).chip.most (setting_of s)) v (span_of (setting_of s)) n f (λ j. state_of (along j).s (along j).words (along j).state)
  unfolding along first
  chip_run = record {
    policy = λ r w b o t linked. few_over_link (at 0).chip.most (setting_of s) r w b o t linked;
    small = k.serves.shape.words_few;
    ran = record { holds = λ j le. holds j (along j) le; moves = moves };
    image = run.image;
    matches = run.matches;
  }

  last_is : (along n).state ≡ at n
  last_is = (along n).is (omega arith)

  last_stands : StandsFor (along n).s (λ p. v) (along n).words (along n).lists (at n).chip
  last_stands = subst (λ (q : ProcessorState). StandsFor (along n).s (λ p. v) (along n).words (along n).lists q.chip) last_is (along n).stands

  pub stands : ProcessorStands v s ram n f at
  unfolding along first
  stands = record {
    next = (along n).s;
    words = (along n).words;
    lists = (along n).lists;
    stands = last_stands;
    setting = (along n).setting;
    after = subst (λ (q : ProcessorState). StandsAfter v (events (fifo_few (at 0).chip.most (setting_of s)) v n (moment_of v f (state_of s ram (at 0)))) (state_of s ram (at 0)) (state_of (along n).s (along n).words q)) last_is
        (follows_events (fifo_few (at 0).chip.most (setting_of s)) v (span_of (setting_of s)) n f (λ j. state_of (along j).s (along j).words (along j).state) chip_run);
  }

  pub ran : (steps : ℕ) → spent_run f (at 0).hart.control ≡ 0 → n ≡ cost v steps (started f (at 0).input) (here_of v f (at 0).hart.control) → ProcessorRan v s ram steps f (at 0) (at n)
  unfolding along first
  ran steps none many = record {
    next = (along n).s;
    words = (along n).words;
    lists = (along n).lists;
    stands = last_stands;
    setting = (along n).setting;
    ran = subst (λ (q : ProcessorState). ChipRanSteps (fifo_few (at 0).chip.most (setting_of s)) v steps f (state_of s ram (at 0)) (state_of (along n).s (along n).words q)) last_is
        (runs_in_steps (fifo_few (at 0).chip.most (setting_of s)) v (span_of (setting_of s)) n steps f (λ j. state_of (along j).s (along j).words (along j).state) chip_run none many);
  }

pub processor_follows : ProcessorFollows
processor_follows v s ram lists n f at k run = stands v s ram lists n f at k run

pub processor_runs : ProcessorRunsInSteps
processor_runs v s ram lists n steps f at k run none many = ran v s ram lists n f at k run steps none many
