-- A hart with its service, and its entry of the ram.
use Rattle.std.specs.Prelude.{ℕ, Option, Some, None, is_some, if◌then◌else◌}
use Rattle.swi_image.specs.Format.{ImageData}
use Rattle.swi_image.specs.Place.{place_of}
use Rattle.swi_rom.specs.Record.{Transfer, indirect}
use Rattle.swi_hart.specs.Hart.{HartData}
use Rattle.swi_outside.specs.CacheRam.{RamState}
use Rattle.swi_outside.specs.Devices.{Devices}

-- a board: its hart and its service
pub record BoardOf (R : Type 0) : Type 0 where
  pub hart : HartData
  pub rom : R

-- the entry of the ram at an address: a service where a text word stands there, and else none
abbrev pub entry_transfer : ImageData → ℕ → Option Transfer
entry_transfer v t = if is_some (place_of v t) then Some (indirect t) else None

abbrev pub entries : ImageData → ℕ → ℕ
entries v t = if is_some (place_of v t) then 1 else 0

-- a board with its ram and its devices, whole
pub record BoardWithDevices (S : Type 0) : Type 0 where
  pub hart : HartData
  pub rom : S
  pub ram : RamState
  pub devices : Devices

-- the ram and the devices
pub record Around : Type 0 where
  pub ram : RamState
  pub devices : Devices

abbrev pub board_around : {S : Type 0} → BoardOf S → Around → BoardWithDevices S
board_around b a = record { hart = b.hart; rom = b.rom; ram = a.ram; devices = a.devices }
