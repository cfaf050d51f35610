-- What a step of the machine leaves, by its answer.
use Rattle.std.specs.Prelude.{◌≡◌, ℕ, ◌-◌, ◌^◌, ◌<◌, None, Result, OnOk, OnErr, IsErrOf, true, ◌+◌, ◌≤◌, max, Option, Some, slice_index}
use Rattle.std.specs.Option.{ForSome}
use Rattle.swi_outside.specs.CacheRam.{RamState, KeepsBeyond, with_fetch}
use Rattle.swi_outside.specs.Devices.{Devices, HasCauses, faults_of}
use Rattle.swi_image.specs.Format.{ImageData}
use Rattle.swi_rom.specs.Service.{ServiceOf, Setting}
use Rattle.swi_rom.specs.Record.{Record, writes}
use Rattle.swi_rom.specs.Served.{SameFrom, WordsMove}
use Rattle.swi_hart.specs.declared.fault.BoardFault.{BoardFault}
use Rattle.swi_hart.specs.declared.fault.BoardFault.TheVariants.{RamFault, SourceFault, SinkFault}
use Rattle.swi_hart.specs.Hart.{HartData}
use Rattle.swi_hart.specs.Matching.{Fits}
use Rattle.swi_hart.specs.Calling.{Made, BrokenStep, BrokenCall, OnDevice, with_memory}
use Rattle.swi_hart.specs.Leaving.{Counted, RamStepped, RamBroken, broken, moved, transfer_at}
use Rattle.swi_hart.specs.Bounds.{Grown}
use Rattle.swi_hart.specs.Service.{ServiceRules, rules_of, StaysSound}
use Rattle.swi_outside.specs.Causes.{Rose, DeviceCause}

-- a board with its ram and its devices, as far as they tell: hart, the service's record and setting, the ram, and the devices
pub record BoardState : Type 0 where
  pub hart : HartData
  pub kept : Record
  pub setting : Setting
  pub ram : RamState
  pub devices : Devices

-- a hart that goes on where the image fits it, with room for a step and a service
pub record ReadyToStep (v : ImageData) (r : Record) (h : HartData) : Type 0 where
  pub running : h.machine.ending ≡ None
  pub few : h.machine.steps < 2 ^ 48
  pub count : h.count < 2 ^ 56
  pub services : r.counts.services < 2 ^ 50
  pub fits : Fits v r h

-- A step of the machine, by its answer. What needs a service that was sound for the ram before is said under that, and whether it is
-- sound afterwards is said by the caller.
pub record MachineStepped (rules : ServiceRules) (v : ImageData) (WasSound IsSound : Type 0) (old new : BoardState)
    (result : Result Unit BoardFault) : Type 0 where
  pub made : WasSound → OnOk result (ForSome old.devices.input.left (λ left.
      Made v new.kept old.hart new.hart left new.devices.input.left old.devices.output.held new.devices.output.held old.devices.error.held new.devices.error.held))
  pub fits : OnOk result (Fits v new.kept new.hart)
  pub counted : OnOk result (Counted old.hart new.hart)
  pub policy : OnOk result (new.kept ≡ moved (rules.policy old.setting) old.kept v (transfer_at v old.hart.machine old.hart.control))
  pub setting : new.setting ≡ old.setting
  pub sound : WasSound → OnOk result IsSound
  pub unused : OnOk result (SameFrom (rules.extent old.setting new.kept) old.ram.words new.ram.words)
  -- a word that changed is of a newly placed block, or a link that was made or undone
  pub words : OnOk result (WordsMove v old.kept new.kept old.ram new.ram)
  pub ram : OnOk result (RamStepped (rules.span old.setting) (writes new.kept - writes old.kept) old.hart.control old.ram new.ram)
  pub grown : WasSound → OnOk result (Grown v old.kept new.kept old.hart new.hart)
  pub stopped : OnErr result (new.hart ≡ broken (with_memory old.hart new.hart.machine.bus))
  pub broke : WasSound → OnDevice result (ForSome old.devices.input.left (λ left.
      BrokenStep v old.kept old.hart left new.devices.input.left old.devices.output.held new.devices.output.held old.devices.error.held new.devices.error.held))
  pub call : OnDevice result (BrokenCall old.hart new.hart old.devices new.devices)
  -- its word was fetched, and the service was not asked: no word of the ram has changed
  pub unserved : OnDevice result ((new.kept ≡ old.kept) × RamStepped (rules.span old.setting) 0 old.hart.control old.ram new.ram × (new.ram.words ≡ old.ram.words))
  pub unmoved : IsErrOf result RamFault → new.hart ≡ broken old.hart
  pub unwritten : IsErrOf result SourceFault → (new.devices.output ≡ old.devices.output) × (new.devices.error ≡ old.devices.error)
  pub others_stay : IsErrOf result RamFault → new.devices ≡ old.devices
  pub ram_failed : IsErrOf result RamFault → RamBroken v old.hart.machine old.hart.control (rules.span old.setting) old.ram new.ram
  pub kept : KeepsBeyond (rules.span old.setting) old.ram new.ram
  pub causes : HasCauses (faults_of old.devices) (faults_of new.devices) (IsErrOf result SourceFault) (IsErrOf result SinkFault)
  pub ram_cause : DeviceCause old.ram.faults new.ram.faults (IsErrOf result RamFault)

-- a fetch of word i, by the word that it answered, None where it failed
abbrev pub Answered : Option ℕ → RamState → ℕ → RamState → Type 0
Answered (Some w) old i new = (w ≡ slice_index old.words i)
    × (new ≡ with_fetch old i)
Answered None old i new = Rose old.faults new.faults × (old.faults ≤ new.faults)
    × (new ≡ record old { faults = new.faults; reach = max old.reach (i + 1); last_failed = true })

-- a board with its ram, whole
pub record BoardWithRam (S : Type 0) : Type 0 where
  pub hart : HartData
  pub rom : S
  pub ram : RamState

-- what they tell
abbrev pub board_told : {S : Type 0} → ServiceOf S → BoardWithRam S → Devices → BoardState
board_told k b devices = record { hart = b.hart; kept = k.kept b.rom; setting = k.setting b.rom; ram = b.ram; devices = devices }

-- a step of the machine, over whole boards
abbrev pub BoardStepped : {S : Type 0} → ServiceOf S → ImageData → BoardWithRam S → BoardWithRam S → Devices → Devices → Result Unit BoardFault → Type 0
BoardStepped k v old new before after result = MachineStepped (rules_of k) v (k.sound old.rom v old.ram.words)
    (StaysSound k v (record { rom = old.rom; ram = old.ram }) (record { rom = new.rom; ram = new.ram }))
    (board_told k old before) (board_told k new after) result
