-- What is true of the fields of a flat machine.
use Rattle.std.specs.Prelude.{◌≡◌, ◌%◌}
use Rattle.swi_memory.specs.Bus.{fetched}
use Rattle.swi_micro.specs.Decoded.{AreDecoded}
use Rattle.swi_flat.specs.declared.flat.Flat.TheInside.{Inside}

-- the next instruction's address is a multiple of 4, and the micro-ops are those of the words that stand now in the text
pub record IsFlat (f : Inside) : Type 0 where
  pub aligned : f.machine.pc % 4 ≡ 0
  pub decoded : AreDecoded (fetched f.machine.bus) f.decoded.range f.decoded.ops.items
