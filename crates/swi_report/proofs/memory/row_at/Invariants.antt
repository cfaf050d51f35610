use Rattle.std.proofs.Common.{◌≡◌, length, map, take}
use Rattle.swi_report.specs.State.{byte_in, numbers}
use Rattle.swi_report.proofs.memory.row_at.Given as goal

abbrev pub invariant-loop-offset : goal.invariant-loop-offset
invariant-loop-offset l = record {
  size : length l.byte-items ≡ 16;
  front : take l.offset l.byte-items ≡ map (byte_in l.area.base l.area.bytes.now) (numbers l.address l.offset);
}
