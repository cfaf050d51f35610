-- A run of a program out of a cache, by one relation: its boot, and then its told steps.
use Rattle.std.specs.Prelude.{◌≡◌, ◌⊎◌, ℕ, List, Option, Result, Ok, Err}
use Rattle.swi_calls.specs.declared.machine.Machine.{Machine}
use Rattle.swi_calls.specs.Flat.{machine_of, started}
use Rattle.swi_image.specs.Format.{ImageData}
use Rattle.swi_memory.specs.declared.layout.Layout.{Layout}
use Rattle.swi_program.specs.Program.{ProgramData}
use Rattle.swi_rom.specs.Record.{indirect}
use Rattle.swi_rom.specs.Service.{Cache, ServiceOf}
use Rattle.swi_hart.specs.Hart.{unbooted}
use Rattle.swi_hart.specs.Leaving.{RamFailed}
use Rattle.swi_hart.specs.declared.fault.BoardFault.{BoardFault}
use Rattle.swi_hart.specs.declared.fault.BoardFault.TheVariants.{RamFault}
use Rattle.swi_board.specs.Board.{Around, BoardOf, BoardWithDevices, board_around}
use Rattle.swi_board.specs.BoardRan.{with_ram}
use Rattle.swi_board.specs.Entered.{Entered}
use Rattle.swi_line.specs.declared.trace.Trace.{Trace}
use Rattle.swi_cached.specs.declared.run.AskedRun.{AskedRun}
use Rattle.swi_cached.specs.declared.run.CachedStop.{CachedStop}
use Rattle.swi_cached.specs.declared.run.CachedStop.TheVariants as stop
use Rattle.swi_cached.specs.Cached.{CachedRun}
use Rattle.swi_cached.specs.Told.{is_each}
use Rattle.swi_cached.specs.Traced.{ToldRan}

-- what a run is given: its image, its cache, the machine before its first step, the most steps, and what is told of them
pub record Given : Type 0 where
  pub image : ImageData
  pub cache : Cache
  pub start : Machine
  pub limit : ℕ
  pub telling : Trace

abbrev pub given_of : ImageData → Cache → ProgramData → Layout → AskedRun → Given
given_of v cache p l asked = record { image = v; cache = cache; start = machine_of p l asked.calls; limit = asked.limit; telling = asked.trace }

-- the run that it is with this input
abbrev pub with_input : Given → List ℕ → CachedRun
with_input g left = record { image = g.image; cache = g.cache; start = started g.start left; limit = g.limit; trace = is_each g.telling }

-- the board before the first step: the service has entered the block of the first instruction, which is one machine instruction
pub record Booted {S : Type 0} (k : ServiceOf S) (g : Given) (rom : S) (before : Around) (b : BoardWithDevices S) : Type 0 where
  pub entered : Entered k g.image (unbooted g.start) (record { rom = rom; ram = before.ram }) (with_ram b)
  pub count : b.hart.count ≡ 1
  pub policy : k.kept b.rom ≡ k.policy (k.setting rom) (k.kept rom) g.image (indirect g.start.pc)
  pub devices : b.devices ≡ before.devices

-- the boot, and a told run of its board
pub record BootRan {S : Type 0} (k : ServiceOf S) (g : Given) (rom : S) (before : Around) (new : BoardWithDevices S) (result : Result (Option (List ℕ)) BoardFault) : Type 0 where
  pub board : BoardWithDevices S
  pub booted : Booted k g rom before board
  pub ran : ToldRan k g.image g.telling g.limit board new result

-- the ram failed at the boot
pub record BootBroke (g : Given) (before after : Around) (fault : BoardFault) : Type 0 where
  pub ram : RamFailed g.cache.span before.ram after.ram
  pub devices : after.devices ≡ before.devices
  pub fault_is : fault ≡ RamFault

-- a device failed in the run, whose board is given up
pub record RunBroke {S : Type 0} (k : ServiceOf S) (g : Given) (rom : S) (before after : Around) (fault : BoardFault) : Type 0 where
  pub given_up : BoardOf S
  pub ran : BootRan k g rom before (board_around given_up after) (Err fault)

abbrev pub CachedRan : {S : Type 0} → ServiceOf S → Given → S → Around → Around → Result (BoardOf S × Option (List ℕ)) CachedStop → Type 0
CachedRan k g rom before after (Ok p) = BootRan k g rom before (board_around p.0 after) (Ok p.1)
CachedRan k g rom before after (Err stop.Memory) = after ≡ before
CachedRan k g rom before after (Err (stop.Fault fault)) = BootBroke g before after fault ⊎ RunBroke k g rom before after fault
