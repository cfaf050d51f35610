-- What a service leaves, by the transfer that it serves.
use Rattle.std.specs.Prelude.{◌≡◌, ℕ, ◌-◌, Option, Result, OnOk, OnErr}
use Rattle.swi_outside.specs.CacheRam.{RamState}
use Rattle.swi_image.specs.Format.{ImageData}
use Rattle.swi_rom.specs.Service.{ServiceOf, Setting}
use Rattle.swi_rom.specs.Record.{Record, Transfer, writes}
use Rattle.swi_rom.specs.Served.{SameFrom, WordsMove, Keeps}
use Rattle.swi_hart.specs.Leaving.{RamServed, RamFailed, HasPlace, moved}

-- a service as far as it tells, with its ram: its record, its setting, and the ram
pub record ServiceState : Type 0 where
  pub kept : Record
  pub setting : Setting
  pub ram : RamState

-- what goes by a service's setting: its policy, how many words can have been written until a record stands, and how many it uses
pub record ServiceRules : Type 0 where
  pub policy : Setting → Record → ImageData → Transfer → Record
  pub extent : Setting → Record → ℕ
  pub span : Setting → ℕ

-- A transfer that is served, or none where there is none, by the answer. Whether the service is sound afterwards is said by the caller.
pub record Transferred {T E : Type 0} (rules : ServiceRules) (v : ImageData) (t : Option Transfer) (IsSound : Type 0) (before after : ServiceState)
    (result : Result T E) : Type 0 where
  pub policy : OnOk result (after.kept ≡ moved (rules.policy before.setting) before.kept v t)
  pub setting : after.setting ≡ before.setting
  pub sound : OnOk result IsSound
  pub unused : OnOk result (SameFrom (rules.extent before.setting after.kept) before.ram.words after.ram.words)
  -- a word that changed is of a newly placed block, or a link that was made or undone
  pub words : OnOk result (WordsMove v before.kept after.kept before.ram after.ram)
  pub ram : OnOk result (RamServed (rules.span before.setting) (writes after.kept - writes before.kept) before.ram after.ram)
  pub failed : OnErr result (RamFailed (rules.span before.setting) before.ram after.ram)
  pub placed : OnErr result (HasPlace v t)

-- the rules of a service
abbrev pub rules_of : {S : Type 0} → ServiceOf S → ServiceRules
rules_of k = record { policy = k.policy; extent = k.extent; span = k.span }

-- a service with its ram, whole
pub record ServiceWithRam (S : Type 0) : Type 0 where
  pub rom : S
  pub ram : RamState

-- what they tell
abbrev pub service_told : {S : Type 0} → ServiceOf S → ServiceWithRam S → ServiceState
service_told k s = record { kept = k.kept s.rom; setting = k.setting s.rom; ram = s.ram }

-- the service is sound for the image afterwards, and serves each other program's image as before
abbrev pub StaysSound : {S : Type 0} → ServiceOf S → ImageData → ServiceWithRam S → ServiceWithRam S → Type 0
StaysSound k v before after = k.sound after.rom v after.ram.words × Keeps k v before.rom after.rom before.ram.words after.ram.words

-- a transfer, over whole services
abbrev pub TransferServed : {S T E : Type 0} → ServiceOf S → ImageData → Option Transfer → ServiceWithRam S → ServiceWithRam S → Result T E → Type 0
TransferServed k v t before after result = Transferred (rules_of k) v t (StaysSound k v before after) (service_told k before) (service_told k after) result
