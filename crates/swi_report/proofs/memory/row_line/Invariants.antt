use Rattle.std.proofs.Common.{◌≡◌, ◌≤◌, ◌+◌, ◌*◌, ◌++◌, codes, length, take}
use Rattle.std.specs.List.{flat_map}
use Rattle.swi_line.specs.Hex.{hex_word}
use Rattle.swi_report.specs.State.{byte_text}
use Rattle.swi_report.proofs.memory.row_line.Given as goal

abbrev pub invariant-loop-byte : goal.invariant-loop-byte
invariant-loop-byte l = record {
  text : l.line ≡ (hex_word l.address ++ codes ":") ++ flat_map byte_text (take l.byte-index l.row);
  size : length l.line ≤ 9 + 3 * l.byte-index;
}
