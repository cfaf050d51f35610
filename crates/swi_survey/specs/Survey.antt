-- One run of a program, and what many caches count in it.
use Rattle.std.specs.Prelude.{◌≡◌, ℕ, ◌+◌, ◌-◌, ◌≤◌, List, length, slice_get, Some, Result, Err, IfOk, OnOk, IsErrOf}
use Rattle.std.specs.Io.KnownBytes.{Appends}
use Rattle.swi_outside.specs.Source.{ForInput, HasGiven}
use Rattle.swi_outside.specs.Devices.{Devices, HasCauses, faults_of}
use Rattle.swi_calls.specs.declared.machine.Machine.{Machine}
use Rattle.swi_calls.specs.declared.end.CallFault.{CallFault}
use Rattle.swi_calls.specs.declared.end.CallFault.TheVariants.{SourceFault, SinkFault}
use Rattle.swi_calls.specs.State.{FlatState}
use Rattle.swi_calls.specs.Flat.{started}
use Rattle.swi_calls.specs.FirstStore.{StoresAt}
use Rattle.swi_calls.specs.Held.{held_run}
use Rattle.swi_flat.specs.FlatData.{FlatData}
use Rattle.swi_flat.specs.Ran.{Ran}
use Rattle.swi_image.specs.Format.{ImageData}
use Rattle.swi_image.specs.Place.{place_of}
use Rattle.swi_rom.specs.Record.{Record, Transfer, empty_record, indirect}
use Rattle.swi_rom.specs.Service.{Setting}
use Rattle.swi_board.specs.Transfers.{Here, after_all, cost, fetches, transfers}
use Rattle.swi_tally.specs.declared.tallies.Frame.{Frame}
use Rattle.swi_tally.specs.Tally.{policy_of}
use Rattle.swi_tally.specs.Tallies.{Row, row_at}
use Rattle.swi_survey.specs.declared.survey.Surveyed.{Surveyed}
use Rattle.swi_survey.specs.declared.survey.SurveyStop.{SurveyStop}
use Rattle.swi_survey.specs.declared.survey.SurveyStop.TheVariants as stop

-- a survey: the image, of what its caches are made, the machine before its first step, and the most steps
pub record Survey : Type 0 where
  pub image : ImageData
  pub frames : List Frame
  pub first : Machine
  pub limit : ℕ

-- The program's end, with this input. It is the flat machine, which executes the original instructions where they stand, but that it ends
-- before a step that would store into the text.
abbrev pub end_of : Survey → List ℕ → FlatState
end_of s input = held_run s.limit (started s.first input)

-- where the run begins in the image
abbrev pub place_first : Survey → Here
place_first s = place_of s.image s.first.pc

-- the machine instructions of the cached machine's run, the boot included, and the words that they fetch
abbrev pub instructions_of : Survey → List ℕ → ℕ
instructions_of s input = 1 + cost s.image s.limit (started s.first input) (place_first s)

abbrev pub fetches_of : Survey → List ℕ → ℕ
fetches_of s input = fetches s.image s.limit (started s.first input) (place_first s)

-- its transfers of control behind the boot
abbrev pub transfers_of : Survey → List ℕ → List Transfer
transfers_of s input = transfers s.image s.limit (started s.first input) (place_first s)

-- a frame's policy
abbrev pub setting_for : Frame → Setting
setting_for f = record { slots = f.slots; slot_words = f.slot_words; programs = 1 }

abbrev pub policy_for : Frame → Record → ImageData → Transfer → Record
policy_for f = policy_of f.placing (setting_for f)

-- What a cache of the frame keeps behind the run: the boot enters the block of the first instruction, and then each transfer is served by
-- the policy.
abbrev pub record_of : Survey → Frame → List ℕ → Record
record_of s f input = after_all (policy_for f) s.image (policy_for f empty_record s.image (indirect s.first.pc)) (transfers_of s input)

abbrev pub row_of : Survey → Frame → List ℕ → Row
row_of s f input = record { placing = f.placing; setting = setting_for f; kept = record_of s f input }

-- what is told of a survey with this input
pub record Tells (s : Survey) (input : List ℕ) (r : Surveyed) : Type 0 where
  pub ending : r.ending ≡ (end_of s input).machine.ending
  pub pc : r.pc ≡ (end_of s input).machine.pc
  pub steps : r.steps ≡ (end_of s input).machine.steps
  pub instructions : r.instructions ≡ instructions_of s input
  pub fetches : r.fetches ≡ fetches_of s input
  -- each cache keeps, and has counted, what its policy says of the run's transfers
  pub rows : (k : ℕ) (f : Frame) → slice_get s.frames k ≡ Some f → row_at r.caches k ≡ Some (row_of s f input)

-- A device failed in a step: what is left is what the flat machine leaves that it fails. Neither that step, nor one before it, would store
-- into the text.
pub record FailsAsFlat (s : Survey) (before after : Devices) (fault : CallFault) : Type 0 where
  pub left : FlatData
  pub ran : Ran s.first s.limit left before after (Err fault)
  pub unstored : ForInput before.input after.input (λ input rest. (j : ℕ) → j ≤ left.machine.steps - s.first.steps → StoresAt (started s.first input) j → ⊥)

-- A survey by its answer, over each input from which what the source gave may have been read: what is told, the input that is left, and
-- what the sinks gained, are those of the run. Without memory nothing has changed.
pub record SurveyRan (s : Survey) (before after : Devices) (result : Result Surveyed SurveyStop) : Type 0 where
  pub gave : HasGiven before.input after.input
  pub told : IfOk result (λ r. ForInput before.input after.input (λ input rest. Tells s input r))
  pub input : OnOk result (ForInput before.input after.input (λ input rest. (end_of s input).input ≡ rest))
  pub output : OnOk result (ForInput before.input after.input (λ input rest. Appends before.output.held after.output.held (end_of s input).output))
  pub error : OnOk result (ForInput before.input after.input (λ input rest. Appends before.error.held after.error.held (end_of s input).error))
  -- there is a cache for each frame
  pub caches : IfOk result (λ r. length r.caches.caches ≡ length s.frames)
  pub memory : IsErrOf result stop.Memory → after ≡ before
  pub failed : (fault : CallFault) → IsErrOf result (stop.Fault fault) → FailsAsFlat s before after fault
  pub causes : HasCauses (faults_of before) (faults_of after) (IsErrOf result (stop.Fault SourceFault)) (IsErrOf result (stop.Fault SinkFault))
