-- A run of a board, in the words of its original steps.
use Rattle.std.proofs.Common.{◌≡◌, ℕ, ◌-◌, ◌≤◌, List, [], ◌++◌, length, reverse, Option, Some, is_some, Ok, refl, sym, ap, subst, ◌∙◌, inl, inr, arith, append-nil}
use Rattle.std.proofs.lemmas.Bool.{false≢true}
use Rattle.std.proofs.lemmas.List.{length-reverse}
use Rattle.std.specs.Io.KnownBytes.{Appends}
use Rattle.swi_memory.specs.Bus.{fetched}
use Rattle.swi_outside.specs.CacheRam.{Fetch, since}
use Rattle.swi_outside.specs.Causes.{risen}
use Rattle.swi_outside.specs.Laws.{Appends-none}
use Rattle.swi_calls.specs.declared.end.End.{End}
use Rattle.swi_calls.specs.declared.machine.Machine.{Machine}
use Rattle.swi_calls.specs.Flat.{started}
use Rattle.swi_calls.specs.State.{FlatState}
use Rattle.swi_image.specs.Format.{ImageData}
use Rattle.swi_render.specs.Carried.{Carries}
use Rattle.swi_rom.specs.Service.{ServiceOf}
use Rattle.swi_hart.specs.Matching.{Matches}
use Rattle.swi_board.specs.Board.{BoardWithDevices}
use Rattle.swi_board.specs.BoardRan.{BoardRan}
use Rattle.swi_board.specs.Fetching.{words_run}
use Rattle.swi_board.specs.Moments.{IsRun, Moment, Policy, events, written_in}
use Rattle.swi_board.specs.Tracking.{Tracks, point_of}
use Rattle.swi_board.specs.Transfers.{here_of, spent_run}
use Rattle.swi_board.proofs.Fetching.{words_many}
use Rattle.swi_board.proofs.Held.{same_steps}
use Rattle.swi_run_laws.specs.After.{IsAfter}
use Rattle.swi_run_laws.specs.Runs.{RanSteps}
use Rattle.swi_run_laws.proofs.Between.{between_at}
use Rattle.swi_run_laws.proofs.RunLaws.{run_after}

-- the moment at which a board stands, with nothing fetched or written yet
abbrev pub moment_of : {S : Type 0} → ServiceOf S → ImageData → BoardWithDevices S → Machine → List ℕ → Moment
moment_of k v b f left = record {
  flat = started f left;
  here = here_of v f b.hart.control;
  spent = spent_run f b.hart.control;
  kept = k.kept b.rom;
  count = b.hart.count;
  sets = 0;
  words = [];
}

risen_none : (n : ℕ) → n ≡ risen n 0
risen_none n = grind arith

module _ {S : Type 0} (k : ServiceOf S) (v : ImageData) (old : BoardWithDevices S) (left : List ℕ) (told : old.devices.input.left ≡ Some left) (f : Machine) (image : Carries (fetched f.bus) v)
    (same : Matches v (k.kept old.rom) f old.hart.machine old.hart.control) where
  abbrev start : Moment
  start = moment_of k v old f left

  -- it stands there
  pub stands_at : Tracks (k.span (k.setting old.rom)) v start (point_of k old) (point_of k old)
  stands_at = record {
    image = image;
    matches = same;
    here = λ on. refl;
    spent = refl;
    kept = refl;
    count = refl;
    input = told;
    output = Appends-none old.devices.output.held;
    error = Appends-none old.devices.error.held;
    words = refl;
    ram = record { quiet = refl; fetches = risen_none old.ram.fetches; sets = risen_none old.ram.sets; kept = record { same_length = refl; beyond = λ i least. refl; reached = grind arith } };
  }

  module _ (n : ℕ) (new : BoardWithDevices S) (u : Unit) (ran : BoardRan k v n old new (Ok u)) (le : old.hart.machine.steps ≤ n) (none : spent_run f old.hart.control ≡ 0) where
    abbrev by : Policy
    by = k.policy (k.setting old.rom)

    abbrev many : ℕ
    many = n - old.hart.machine.steps

    abbrev last : Moment
    last = events by v ran.along.made start

    first : f.steps ≡ old.hart.machine.steps
    first = sym (same_steps v (k.kept old.rom) f old.hart.machine old.hart.control same).0

    there : Tracks (k.span (k.setting old.rom)) v last (point_of k old) (point_of k ran.mid)
    there = ran.along.came.tracks start (point_of k old) stands_at

    run : IsRun by v n ran.along.made start
    run = record {
      going = ran.along.came.going start (point_of k old) stands_at;
      over = λ on.
          let now = same_steps v (k.kept ran.mid.rom) last.flat.machine ran.mid.hart.machine ran.mid.hart.control there.matches in
          elim ran.ends.1 [
            | inl least ↦ (let steps = now.0 in let below = on.1 in omega (arith, steps, below, least))
            | inr ended ↦ false≢true (sym (ap (λ (e : Option End). is_some e) (now.1 ∙ on.0)) ∙ ended)
          ];
    }

    after : IsAfter by v many start.here start last
    after = subst (λ (x : ℕ). IsAfter by v (n - x) start.here start last) first (run_after by v n ran.along.made start run none (let steps = first in omega (arith, le, steps)))

    words_are : last.words ≡ reverse (words_run by v many start.flat start.here (written_in start))
    words_are = after.words ∙ append-nil (reverse (words_run by v many start.flat start.here (written_in start)))

    pub ran_steps : RanSteps by v many (started f left) (point_of k old) (point_of k new)
    ran_steps = subst (λ (w : BoardWithDevices S). RanSteps by v many (started f left) (point_of k old) (point_of k w)) (sym ran.ends.0) (record {
      matches = subst (λ (q : FlatState). Matches v (k.kept ran.mid.rom) q.machine ran.mid.hart.machine ran.mid.hart.control) after.flat there.matches;
      between = λ on. between_at v (k.kept ran.mid.rom) last.flat.machine ran.mid.hart.machine ran.mid.hart.control there.matches (there.spent ∙ after.spent) on;
      input = there.input ∙ ap (λ (q : FlatState). Some q.input) after.flat;
      output = subst (λ (q : FlatState). Appends old.devices.output.held ran.mid.devices.output.held q.output) after.flat there.output;
      error = subst (λ (q : FlatState). Appends old.devices.error.held ran.mid.devices.error.held q.error) after.flat there.error;
      record_is = there.kept ∙ after.kept;
      here_is = λ on.
          let now = same_steps v (k.kept ran.mid.rom) last.flat.machine ran.mid.hart.machine ran.mid.hart.control there.matches in
          ap (λ (q : FlatState). here_of v q.machine ran.mid.hart.control) (sym after.flat) ∙ there.here on ∙ after.here (sym now.1 ∙ on);
      cost_is = there.count ∙ after.count;
      words = there.words ∙ ap (λ (l : List Fetch). since old.ram.sets l ++ old.ram.fetched_at) words_are;
      fetches_are = there.ram.fetches ∙ ap (λ (l : List Fetch). risen old.ram.fetches (length l)) words_are
          ∙ ap (λ (x : ℕ). risen old.ram.fetches x) (length-reverse (words_run by v many start.flat start.here (written_in start)) ∙ words_many by v many start.flat start.here (written_in start));
    })
