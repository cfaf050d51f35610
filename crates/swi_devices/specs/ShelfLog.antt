-- What a shelf gave, or stored.
use Rattle.std.specs.Prelude.{[], ◌∷◌, ◌++◌, string_bytes}
use Rattle.swi_outside.specs.Shelf.{Passed}
use Rattle.swi_devices.specs.ByteLog.{bytes_in}
use Rattle.swi_devices.specs.declared.shelf_log.ShelfLog.{ShelfLog}
use Rattle.swi_devices.specs.declared.shelf_log.ShelfLog.TheVariants.{None, Held', Taken'}

-- the names and the contents of a log, from the first on
abbrev pub passed_in : ShelfLog → Passed
passed_in None = []
passed_in (Held' _ _ before name bytes) = passed_in before ++ (string_bytes name.value, bytes.value.items) ∷ []
passed_in (Taken' _ _ before name took) = passed_in before ++ (string_bytes name.value, bytes_in took.value) ∷ []
