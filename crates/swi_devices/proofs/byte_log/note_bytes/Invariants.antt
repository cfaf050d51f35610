use Rattle.std.specs.Prelude.{◌≡◌, ◌++◌, take}
use Rattle.swi_devices.specs.ByteLog.{bytes_in}
use Rattle.swi_devices.proofs.byte_log.note_bytes.Given as goal

-- a front of the piece was noted
abbrev pub invariant-loop-byte : goal.invariant-loop-byte
invariant-loop-byte l = bytes_in l.log.value ≡ bytes_in l.fn.log.value ++ take l.byte-index l.piece
