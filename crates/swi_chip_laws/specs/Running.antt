-- A run of a chip, one machine instruction after the other, against the flat machine's run. Own rule.
use Rattle.std.specs.Prelude.{◌≡◌, ℕ, suc, ◌<◌, ◌≤◌, ◌+◌, ◌^◌, List, [], ◌++◌, None, true, slice_index}
use Rattle.swi_exec.specs.declared.done.FaultKind.TheVariants as kind
use Rattle.swi_memory.specs.Bus.{fetched}
use Rattle.swi_calls.specs.declared.end.End.TheVariants.{Faulted}
use Rattle.swi_calls.specs.declared.machine.Machine.{Machine}
use Rattle.swi_calls.specs.Flat.{ends, started}
use Rattle.swi_calls.specs.Held.{held_run}
use Rattle.swi_image.specs.Format.{ImageData}
use Rattle.swi_render.specs.Carried.{Carries}
use Rattle.swi_rom.specs.Record.{Record, direct, ebreak, is_linked}
use Rattle.swi_rom.specs.Coherent.{Coherent}
use Rattle.swi_hart.specs.declared.hart.Control.{Control}
use Rattle.swi_hart.specs.declared.hart.Control.TheVariants.{At, Outside}
use Rattle.swi_hart.specs.Hart.{HartData, Stepped, hart_after, is_between, stepped}
use Rattle.swi_hart.specs.Leaving.{moved, transfer_at}
use Rattle.swi_hart.specs.Matching.{Matches}
use Rattle.swi_board.specs.Moments.{Moment, Policy, events}
use Rattle.swi_board.specs.Transfers.{after_all, cost, here_of, here_run, spent_run, transfers}
use Rattle.swi_chip_laws.specs.Holding.{HoldsWords}
use Rattle.swi_chip_laws.specs.Stepping.{ChipStep}

-- What stands between two machine instructions: the hart, what the memory holds, the input that is left, and what was written; and the
-- record and the words of the ram that the memory stands for.
pub record ChipState : Type 0 where
  pub hart : HartData
  pub held : List ℕ
  pub input : List ℕ
  pub output : List ℕ
  pub error : List ℕ
  pub kept : Record
  pub words : List ℕ

-- the memory holds the words of a coherent ram, but for those behind links
pub record HoldsCache (v : ImageData) (span : ℕ) (p : ChipState) : Type 0 where
  pub coherent : Coherent v p.kept span p.words
  pub holds : HoldsWords v p.kept p.words p.held
  pub short : p.hart.machine.pc < 2 ^ 32

-- A machine instruction, by control. At an address without a text word the service ends the run.
abbrev pub ChipStepAt : Control → ImageData → Record → Record → Machine → Stepped → List ℕ → List ℕ → Type 0
ChipStepAt (At i b o stage) v r new m s input held = ChipStep v r new m s input held i b o stage
ChipStepAt Outside v r new m s input held = (new ≡ r) × (s ≡ stepped Outside (ends m (Faulted kind.FetchAccess m.pc) input))

-- the service, asked by an EBREAK, keeps what its policy says of the transfer
abbrev pub ServesBy : Policy → ImageData → Record → Record → Machine → List ℕ → Control → Type 0
ServesBy by v r new m held (At i b o stage) = slice_index held i ≡ ebreak → new ≡ moved by r v (transfer_at v m (At i b o stage))
ServesBy by v r new m held Outside = new ≡ r

-- one machine instruction of a run that goes on
pub record ChipMoved (by : Policy) (v : ImageData) (a b : ChipState) : Type 0 where
  pub running : a.hart.machine.ending ≡ None
  pub step : Stepped
  pub is : ChipStepAt a.hart.control v a.kept b.kept a.hart.machine step a.input a.held
  pub serves : ServesBy by v a.kept b.kept a.hart.machine a.held a.hart.control
  pub hart : b.hart ≡ hart_after a.hart step
  pub input : b.input ≡ step.made.input
  pub output : b.output ≡ a.output ++ step.made.output
  pub error : b.error ≡ a.error ++ step.made.error

-- so many machine instructions, from one state to the next
pub record ChipRan (by : Policy) (v : ImageData) (span n : ℕ) (at : ℕ → ChipState) : Type 0 where
  pub holds : (j : ℕ) → j ≤ n → HoldsCache v span (at j)
  pub moves : (j : ℕ) → j < n → ChipMoved by v (at j) (at (suc j))

-- over a link a policy changes nothing
abbrev pub KeepsLinks : Policy → Type 0
KeepsLinks by = (r : Record) (v : ImageData) (b o t : ℕ) → is_linked r b o ≡ true → by r v (direct b o t) ≡ r

-- what is asked of a run: a policy and a small cache, and at first the hart stands where the flat machine does, over an image of its text
pub record IsChipRun (by : Policy) (v : ImageData) (span n : ℕ) (f : Machine) (at : ℕ → ChipState) : Type 0 where
  pub policy : KeepsLinks by
  pub small : span ≤ 2 ^ 21
  pub ran : ChipRan by v span n at
  pub image : Carries (fetched f.bus) v
  pub matches : Matches v (at 0).kept f (at 0).hart.machine (at 0).hart.control

-- the moment of a chip that stands for the flat machine f
abbrev pub moment_of : ImageData → Machine → ChipState → Moment
moment_of v f p = record {
  flat = started f p.input;
  here = here_of v f p.hart.control;
  spent = spent_run f p.hart.control;
  kept = p.kept;
  count = p.hart.count;
  sets = 0;
  words = [];
}

-- a chip stands where machine instructions have led
pub record StandsAfter (v : ImageData) (s : Moment) (from p : ChipState) : Type 0 where
  pub matches : Matches v p.kept s.flat.machine p.hart.machine p.hart.control
  pub here : p.hart.machine.ending ≡ None → here_of v s.flat.machine p.hart.control ≡ s.here
  pub spent : spent_run s.flat.machine p.hart.control ≡ s.spent
  pub kept : p.kept ≡ s.kept
  pub count : p.hart.count ≡ s.count
  pub input : p.input ≡ s.flat.input
  pub output : p.output ≡ from.output ++ s.flat.output
  pub error : p.error ≡ from.error ++ s.flat.error

-- Wherever a run begins, also midway, each machine instruction leads to where the definition's does.
abbrev pub FollowsEvents : Type 0
FollowsEvents = (by : Policy) (v : ImageData) (span n : ℕ) (f : Machine) (at : ℕ → ChipState) → IsChipRun by v span n f at →
    StandsAfter v (events by v n (moment_of v f (at 0))) (at 0) (at n)

-- Between two states so many steps of the flat machine f were made.
pub record ChipRanSteps (by : Policy) (v : ImageData) (k : ℕ) (f : Machine) (old new : ChipState) : Type 0 where
  pub matches : Matches v new.kept (held_run k (started f old.input)).machine new.hart.machine new.hart.control
  pub between : new.hart.machine.ending ≡ None → is_between new.hart.control ≡ true
  pub input : new.input ≡ (held_run k (started f old.input)).input
  pub output : new.output ≡ old.output ++ (held_run k (started f old.input)).output
  pub error : new.error ≡ old.error ++ (held_run k (started f old.input)).error
  -- the service has served their transfers by its policy
  pub kept : new.kept ≡ after_all by v old.kept (transfers v k (started f old.input) (here_of v f old.hart.control))
  -- while the run goes on, control has come to where they lead
  pub here : new.hart.machine.ending ≡ None → here_of v (held_run k (started f old.input)).machine new.hart.control ≡ here_run v k (started f old.input) (here_of v f old.hart.control)
  -- they took so many machine instructions
  pub count : new.hart.count ≡ old.hart.count + cost v k (started f old.input) (here_of v f old.hart.control)

-- From between two instructions, as many machine instructions as so many steps cost are these steps.
abbrev pub RunsInSteps : Type 0
RunsInSteps = (by : Policy) (v : ImageData) (span n k : ℕ) (f : Machine) (at : ℕ → ChipState) → IsChipRun by v span n f at → spent_run f (at 0).hart.control ≡ 0 →
    n ≡ cost v k (started f (at 0).input) (here_of v f (at 0).hart.control) → ChipRanSteps by v k f (at 0) (at n)
