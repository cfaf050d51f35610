-- The bytes that passed through a device.
use Rattle.std.specs.Prelude.{ℕ, List, [], ◌∷◌, ◌++◌}
use Rattle.swi_devices.specs.declared.byte_log.ByteLog.{ByteLog}
use Rattle.swi_devices.specs.declared.byte_log.ByteLog.TheVariants.{None, Then'}

-- the bytes of a log, from the first on
abbrev pub bytes_in : ByteLog → List ℕ
bytes_in None = []
bytes_in (Then' _ _ before byte) = bytes_in before ++ byte ∷ []
