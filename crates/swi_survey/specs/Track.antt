-- Where a run stands in an image beside the flat machine, and what its steps do to caches and counts.
use Rattle.std.specs.Prelude.{◌≡◌, ℕ, suc, ◌+◌, ◌-◌, ◌*◌, ◌^◌, ◌<◌, ◌≤◌, Bool, true, false, List, [], ◌∷◌, ◌++◌, length, map, slice_get, Option, Some, None, Result, Err, IfOk, OnOk, IsErrOf, ⊤, if◌then◌else◌}
use Rattle.std.specs.Io.KnownBytes.{Appends}
use Rattle.swi_outside.specs.Source.{ForInput, HasGiven}
use Rattle.swi_outside.specs.Devices.{Devices, HasCauses, faults_of}
use Rattle.swi_memory.specs.Bus.{fetched}
use Rattle.swi_calls.specs.declared.end.End.{End}
use Rattle.swi_calls.specs.declared.end.End.TheVariants.{StoreText}
use Rattle.swi_calls.specs.declared.end.CallFault.{CallFault}
use Rattle.swi_calls.specs.declared.end.CallFault.TheVariants.{SourceFault, SinkFault}
use Rattle.swi_calls.specs.declared.machine.Machine.{Machine}
use Rattle.swi_calls.specs.StoresText.{instruction_store}
use Rattle.swi_calls.specs.Flat.{started}
use Rattle.swi_calls.specs.FirstStore.{StoresAt}
use Rattle.swi_calls.specs.Held.{held_made, held_run}
use Rattle.swi_flat.specs.declared.coast.Coasted.{Coasted}
use Rattle.swi_flat.specs.Coasted.{Gates, HasCoasted}
use Rattle.swi_flat.specs.FlatData.{FlatData}
use Rattle.swi_flat.specs.Ran.{Ran}
use Rattle.swi_image.specs.Format.{ImageData}
use Rattle.swi_image.specs.Place.{place_of}
use Rattle.swi_program.specs.Text.{TextData, word_of}
use Rattle.swi_render.specs.Rendering.{falls_of, sum}
use Rattle.swi_render.specs.ImageOf.{address_of}
use Rattle.swi_rom.specs.Record.{Transfer, indirect}
use Rattle.swi_board.specs.Transfers.{Here as Place, after_all, at_fall, fall_transfers, here_after, settled, size, step_size, step_transfers, transfers}
use Rattle.swi_tally.specs.Tally.{policy_of}
use Rattle.swi_tally.specs.declared.tallies.Frame.{Frame}
use Rattle.swi_tally.specs.Masks.{has}
use Rattle.swi_tally.specs.Tallies.{Row, TalliesData, AreServing, first_row, row_at, served_if}
use Rattle.swi_survey.specs.declared.leaving.Way.{Way}
use Rattle.swi_survey.specs.declared.leaving.Way.TheVariants as way
use Rattle.swi_survey.specs.declared.track.Here.{Here}
use Rattle.swi_survey.specs.declared.track.Here.TheVariants as here
use Rattle.swi_survey.specs.declared.track.Step.{Step}
use Rattle.swi_survey.specs.declared.track.Step.TheVariants as step
use Rattle.swi_survey.specs.declared.track.Track.{Track}
use Rattle.swi_survey.specs.declared.survey.Surveyed.{Surveyed}
use Rattle.swi_survey.specs.declared.ways.Ways.{Ways}
use Rattle.swi_survey.specs.Leaving.{branch_by, leaving_by}
use Rattle.swi_survey.specs.Ways.{AreAllWays, gate_of, instr_at, is_last, place_behind, shut}

-- ---- where a run stands

-- the place in the image
abbrev pub behind_if : TextData → ℕ → Place → Place
behind_if t k None = None
behind_if t k (Some p) = Some (place_behind t k p)

abbrev pub place_at : TextData → ImageData → Here → Place
place_at t v (here.At k) = place_of v (address_of t k)
place_at t v (here.Behind k) = behind_if t k (place_of v (address_of t k))
place_at t v here.Outside = None

-- a run whose next instruction stands at pc, once the exit behind a block is made: at a text word, or where none stands
abbrev pub StandsAt : TextData → ℕ → Here → Type 0
StandsAt t pc (here.At k) = (k < length t.words) × (pc ≡ address_of t k)
StandsAt t pc (here.Behind k) = ⊥
StandsAt t pc here.Outside = word_of t pc ≡ None

-- behind a text word from which control goes on to the next, which does not stand there
pub record StandsBehind (t : TextData) (v : ImageData) (pc k : ℕ) : Type 0 where
  pub word : k < length t.words
  pub pc_is : pc ≡ sum (address_of t k) 4
  pub falls : falls_of (instr_at t k) ≡ true
  pub last : (p : ℕ × ℕ) → place_of v (address_of t k) ≡ Some p → is_last t v k p ≡ true

abbrev pub Stands : TextData → ImageData → ℕ → Here → Type 0
Stands t v pc (here.At k) = StandsAt t pc (here.At k)
Stands t v pc (here.Behind k) = StandsBehind t v pc k
Stands t v pc here.Outside = StandsAt t pc here.Outside

-- ---- the next step

-- how it leaves the place: from a text word by its instruction, where it does not store into the text
abbrev pub StepIs : TextData → FlatData → Here → Step → Type 0
StepIs t f (here.At k) (step.From j left) = (j ≡ k) × (left ≡ leaving_by (instr_at t k) f.machine.regs f.machine.pc) × (instruction_store f.machine (instr_at t k) ≡ None)
StepIs t f (here.At k) (step.Store a) = instruction_store f.machine (instr_at t k) ≡ Some a
StepIs t f (here.At k) step.Outside = ⊥
StepIs t f (here.Behind k) s = ⊥
StepIs t f here.Outside s = s ≡ step.Outside

-- a text word is left where the run stands at it
abbrev pub Leaves : TextData → Here → Step → Type 0
Leaves t (here.At k) (step.From j left) = (j ≡ k) × (k < length t.words) × (left.words ≤ 3)
Leaves t here.Outside step.Outside = ⊤
Leaves t h s = ⊥

-- where the run stands behind a step that left text word k so: at the next word, or at an exit; or where the address leads
abbrev pub IsBehind : TextData → ℕ → Bool → Way → ℕ → Here → Type 0
IsBehind t k last way.Next a h = h ≡ (if last then here.Behind k else here.At (suc k))
IsBehind t k last way.Over a h = StandsAt t a h
IsBehind t k last way.Away a h = StandsAt t a h

-- ---- what is done beside it

-- a row that has served transfers by its policy
abbrev pub after_row : ImageData → List Transfer → Option Row → Option Row
after_row v list None = None
after_row v list (Some r) = Some (record r { kept = after_all (policy_of r.placing r.setting) v r.kept list })

-- each cache has served them
abbrev pub AllAfter : ImageData → List Transfer → TalliesData → TalliesData → Type 0
AllAfter v list old new = (k : ℕ) → row_at new k ≡ after_row v list (row_at old k)

-- one for a step at an address where no text word stands
abbrev pub unfetched_at : Place → ℕ
unfetched_at None = 1
unfetched_at (Some p) = 0

-- the caches have served these transfers, a service each at most, the run has come to a place, and so much was counted
pub record Moves (t : TextData) (v : ImageData) (list : List Transfer) (place : Place) (fetched outside : ℕ) (old new : Track) : Type 0 where
  pub rows : AllAfter v list old.caches new.caches
  pub serving : (n : ℕ) → AreServing v n old.caches → AreServing v (suc n) new.caches
  pub exits : new.caches.exits ≡ old.caches.exits
  pub ways : new.ways.items ≡ old.ways.items
  pub gates : new.gates.items ≡ old.gates.items
  pub place_is : place_at t v new.here ≡ place
  pub fetches_are : new.fetches ≡ old.fetches + fetched
  pub outside_is : new.outside ≡ old.outside + outside

-- the exit behind a block's last text word is made, where the run of a machine stands at one
pub record Settles (t : TextData) (v : ImageData) (f : Machine) (old new : Track) : Type 0 where
  pub moves : Moves t v (fall_transfers v f (place_at t v old.here)) (settled v f (place_at t v old.here)) (if at_fall v f (place_at t v old.here) then 1 else 0) 0 old new
  pub stands : StandsAt t f.pc new.here

-- a step of a machine to the next is made, from the place where the run stands
pub record Follows (t : TextData) (v : ImageData) (f next : Machine) (old new : Track) : Type 0 where
  pub moves : Moves t v (step_transfers f (place_at t v old.here) next) (here_after v f (place_at t v old.here) next)
      (step_size 0 f (place_at t v old.here)) (unfetched_at (place_at t v old.here)) old new
  pub few : new.fetches ≤ old.fetches + 3
  pub stands : next.ending ≡ None → Stands t v next.pc new.here

-- the memory's text is this one
abbrev pub HasText : TextData → Machine → Type 0
HasText t f = (a : ℕ) → fetched f.bus a ≡ word_of t a

-- a step of a machine over the text
pub record IsStep (t : TextData) (f : Machine) (failed : Bool) (here : Here) (s : Step) (next : Machine) : Type 0 where
  pub text : HasText t f
  pub stands : StandsAt t f.pc here
  pub step_is : StepIs t (record { machine = f; failed = failed }) here s
  pub input : List ℕ
  pub next_is : next ≡ (held_made f input).machine

-- what a step asks for
pub record IsReady (t : TextData) (v : ImageData) (k : Track) : Type 0 where
  pub ways_are : AreAllWays t v k.caches.exits k.ways.items
  pub long : length k.ways.items ≡ length t.words
  pub serving : AreServing v (2 ^ 50 - 1) k.caches
  pub fetches_few : k.fetches < 2 ^ 60
  pub outside_few : k.outside < 2 ^ 60

-- ---- steps at which no cache has anything to do

-- what lets them go on: the gates of the text words from an address on, by a set that has all caches
abbrev pub gates_by : ℕ → Track → ℕ → Gates
gates_by base k all = record { base = base; words = k.gates.items; masks = k.caches.masks; pass = all }

pub record Coasts (base : ℕ) (k : Track) (f g : Machine) (c : Coasted) : Type 0 where
  pub all : ℕ
  pub every : (j : ℕ) → j < length k.caches.caches → has all j ≡ true
  pub masks : length k.caches.masks ≡ length k.caches.exits.from
  pub coasted : HasCoasted (gates_by base k all) f g c

-- the run behind those that were let go on
abbrev pub passed : Track → Coasted → Track
passed k c = record k { here = here.At c.at; fetches = k.fetches + (c.steps + c.paid) }

-- one more, from a text word with these ways
abbrev pub closing : ℕ → Ways → Bool → Step
closing at w taken = step.From at (if taken then branch_by true else w.left)

-- ---- a run

-- the caches' exits are those of the text words' ways, and the counts leave room for the steps that are still to come
pub record Tracks (t : TextData) (v : ImageData) (steps : ℕ) (k : Track) : Type 0 where
  pub ways_are : AreAllWays t v k.caches.exits k.ways.items
  pub long : length k.ways.items ≡ length t.words
  pub gates_are : k.gates.items ≡ map (gate_of (length k.caches.exits.from)) k.ways.items ++ shut (length k.caches.exits.from) ∷ []
  pub serving : AreServing v (2 * steps + 1) k.caches
  pub fetches_few : k.fetches ≤ 4 * steps
  pub outside_few : k.outside ≤ steps

-- a row before the first step, which the boot has entered
abbrev pub booted : ImageData → ℕ → Option Frame → Option Row
booted v pc None = None
booted v pc (Some f) = served_if v (indirect pc) (Some (first_row f))

-- what is kept before the first step
pub record Starts (t : TextData) (v : ImageData) (frames : List Frame) (pc : ℕ) (k : Track) : Type 0 where
  pub tracks : Tracks t v 0 k
  pub stands : StandsAt t pc k.here
  pub rows : (j : ℕ) → row_at k.caches j ≡ booted v pc (slice_get frames j)

-- a run before its first step
pub record Begun (t : TextData) (v : ImageData) (f : FlatData) (k : Track) : Type 0 where
  pub going : f.machine.ending ≡ None
  pub unfailed : f.failed ≡ false
  pub none : f.machine.steps ≡ 0
  pub text : HasText t f.machine
  pub tracks : Tracks t v 0 k
  pub stands : Stands t v f.machine.pc k.here

-- how the machine stands where it ended before a store at the address, if there is one
abbrev pub ending_with : Option ℕ → Option End → Option End
ending_with None e = e
ending_with (Some a) e = Some (StoreText a)

-- what has come of a run with this input
pub record CameTo (t : TextData) (v : ImageData) (limit : ℕ) (first : Machine) (input : List ℕ) (f : FlatData) (old new : Track) (stored : Option ℕ) : Type 0 where
  pub machine : (held_run limit (started first input)).machine ≡ record f.machine { ending = ending_with stored f.machine.ending }
  pub fetches : new.fetches ≡ size 0 v limit (started first input) (place_at t v old.here)
  pub instructions : new.fetches + new.outside ≡ size 1 v limit (started first input) (place_at t v old.here)
  pub rows : AllAfter v (transfers v limit (started first input) (place_at t v old.here)) old.caches new.caches

-- a device failed in a step, which would not store into the text, as none before it would
pub record BrokeOff (limit : ℕ) (first : Machine) (new : FlatData) (before after : Devices) (fault : CallFault) : Type 0 where
  pub ran : Ran first limit new before after (Err fault)
  pub unstored : ForInput before.input after.input (λ input rest. (j : ℕ) → j ≤ new.machine.steps - first.steps → StoresAt (started first input) j → ⊥)

pub record StepsRan (t : TextData) (v : ImageData) (limit : ℕ) (f new : FlatData) (k l : Track) (before after : Devices) (result : Result (Option ℕ) CallFault) : Type 0 where
  pub gave : HasGiven before.input after.input
  pub came : IfOk result (λ stored. ForInput before.input after.input (λ input rest. CameTo t v limit f.machine input new k l stored))
  pub input : OnOk result (ForInput before.input after.input (λ input rest. (held_run limit (started f.machine input)).input ≡ rest))
  pub output : OnOk result (ForInput before.input after.input (λ input rest. Appends before.output.held after.output.held (held_run limit (started f.machine input)).output))
  pub error : OnOk result (ForInput before.input after.input (λ input rest. Appends before.error.held after.error.held (held_run limit (started f.machine input)).error))
  -- the counts leave room for what is told of them
  pub few : OnOk result (l.fetches + l.outside ≤ 2 ^ 60)
  pub failed : (fault : CallFault) → IsErrOf result fault → BrokeOff limit f.machine new before after fault
  pub causes : HasCauses (faults_of before) (faults_of after) (IsErrOf result SourceFault) (IsErrOf result SinkFault)

-- what is told of it
abbrev pub told_of : FlatData → Track → Option ℕ → Surveyed
told_of f k stored = record {
  ending = ending_with stored f.machine.ending;
  pc = f.machine.pc;
  steps = f.machine.steps;
  instructions = 1 + k.fetches + k.outside;
  fetches = k.fetches;
  caches = k.caches;
}
