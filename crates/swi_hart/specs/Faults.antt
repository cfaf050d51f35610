-- The faults of a board.
use Rattle.swi_calls.specs.declared.end.CallFault.{CallFault}
use Rattle.swi_calls.specs.declared.end.CallFault.TheVariants as call
use Rattle.swi_hart.specs.declared.fault.BoardFault.{BoardFault}
use Rattle.swi_hart.specs.declared.fault.BoardFault.TheVariants.{SourceFault, SinkFault}

abbrev pub fault_of : CallFault → BoardFault
fault_of call.SourceFault = SourceFault
fault_of call.SinkFault = SinkFault
