-- The devices in memory.
use Rattle.std.specs.Prelude.{ℕ, ◌-◌, List, [], ◌∷◌, ◌++◌, length, replicate, Option, Some, None, if◌then◌else◌, false, String, string_bytes, Vec}
use Rattle.std.specs.declared.alloc.Global.{Global}
use Rattle.std.specs.Str.{bytes_eq}
use Rattle.swi_outside.specs.CacheRam.{RamState}
use Rattle.swi_outside.specs.Shelf.{Asked, Passed, ShelfState, get_of, put_of}
use Rattle.swi_devices.specs.declared.shelf_call.ShelfCall.{ShelfCall}
use Rattle.swi_devices.specs.declared.shelf_call.ShelfCall.TheVariants.{Get, Put}

-- a source in memory: the bytes that it gave, those that are left, the numbers of the calls that fail, from 1, the calls so far, and the
-- faults so far
pub record StoredSource : Type 0 where
  pub given : List ℕ
  pub left : List ℕ
  pub failing : List ℕ
  pub calls : ℕ
  pub faults : ℕ

-- a sink in memory: what it holds and the most bytes that it holds, the numbers of the calls that
-- fail, from 1, the calls so far, and the faults so far
pub record StoredSink : Type 0 where
  pub held : List ℕ
  pub room : ℕ
  pub failing : List ℕ
  pub calls : ℕ
  pub faults : ℕ

-- a call as a shelf keeps it
abbrev pub asked_of : ShelfCall → List ℕ → Asked
asked_of Get name = get_of name
asked_of Put name = put_of name

abbrev pub last_asked : Option (ShelfCall × String Global) → Option Asked
last_asked None = None
last_asked (Some p) = Some (asked_of p.0 (string_bytes p.1))

-- a shelf in memory: its entries of a name and a content, those that it gave and stored, the numbers of the calls that fail, from 1,
-- the calls so far, the faults so far, and the last call that failed
pub record StoredShelf : Type 0 where
  pub entries : List (List ℕ × List ℕ)
  pub got : Passed
  pub stored : Passed
  pub failing : List ℕ
  pub calls : ℕ
  pub faults : ℕ
  pub last : Option Asked

-- the content of the first entry of a name
abbrev pub lookup : List (List ℕ × List ℕ) → List ℕ → Option (List ℕ)
lookup [] name = None
lookup (e ∷ es) name = if bytes_eq e.0 name then Some e.1 else lookup es name

abbrev pub entry_of : String Global × Vec ℕ Global → List ℕ × List ℕ
entry_of e = (string_bytes e.0, e.1.items)

-- a shelf in memory as a shelf
abbrev pub told_of : StoredShelf → ShelfState
told_of s = record { contents = Some (lookup s.entries); got = s.got; stored = s.stored; calls = s.calls; faults = s.faults; last_failed = s.last }

-- so many words, the first of which are these, and all others 0
abbrev pub zero_filled : ℕ → List ℕ → List ℕ
zero_filled count front = front ++ replicate (count - length front) 0

-- a ram that was just made
abbrev pub new_ram : List ℕ → RamState
new_ram words = record { words = words; fetches = 0; sets = 0; faults = 0; reach = 0; fetched_at = []; last_failed = false }

-- a ram whose calls fail by a list of their numbers, from 1, fetches and sets counted together
pub record FaultyRam : Type 0 where
  pub ram : RamState
  pub failing : List ℕ
  pub calls : ℕ
