-- What is seen of the banks of a bus.
use Rattle.std.specs.Prelude.{List, map}
use Rattle.swi_memory.specs.declared.bank.Bank.{Bank}
use Rattle.swi_memory.specs.Bus.{AreaData}

abbrev pub area : Bank → AreaData
area b = record { base = b.base; flags = b.flags; file_size = b.file_size; bytes = b.bytes.items }

abbrev pub areas : List Bank → List AreaData
areas banks = map area banks
