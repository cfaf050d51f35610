-- The faults of the devices that were handed in, and the answers that they license.
use Rattle.std.specs.Prelude.{Result, IsErrOf}
use Rattle.swi_outside.specs.Causes.{DeviceCause}
use Rattle.swi_outside.specs.Devices as outside
use Rattle.swi_answer.specs.declared.answer.Refusal.{Refusal}
use Rattle.swi_answer.specs.declared.answer.Refusal.TheVariants as refusal
use Rattle.swi_task.specs.Devices.{Devices, stream_faults}

-- No count falls. Each fault is answered only where its device's count rose, and where a count rose, its device's fault is the answer. So
-- an ending comes only where no count rose.
pub record HasCauses {T : Type 0} (before after : Devices) (result : Result T Refusal) : Type 0 where
  pub shelf : DeviceCause before.shelf.faults after.shelf.faults (IsErrOf result refusal.ShelfFault)
  pub ram : DeviceCause before.ram.faults after.ram.faults (IsErrOf result refusal.RamFault)
  pub streams : outside.HasCauses (stream_faults before) (stream_faults after) (IsErrOf result refusal.SourceFault) (IsErrOf result refusal.SinkFault)
