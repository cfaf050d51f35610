-- What a write answers and leaves, for the contracts between the parts of this crate.
use Rattle.std.specs.Prelude.{◌≡◌, Bool, true, false, List, Result, Ok, Err}
use Rattle.swi_memory.specs.declared.access.Access.{Access}
use Rattle.swi_memory.specs.Bus.{AreaData}

pub record IsDone (may : Bool) (put new : List AreaData) : Type 0 where
  pub granted : may ≡ true
  pub bytes : new ≡ put

pub record IsRefused (may : Bool) (old new : List AreaData) : Type 0 where
  pub denied : may ≡ false
  pub unchanged : new ≡ old

-- where the write may be made it is, and else the bus is as before
abbrev pub Writes : Bool → List AreaData → List AreaData → List AreaData → Result (Unit {0}) Access → Type 0
Writes may old put new (Ok u) = IsDone may put new
Writes may old put new (Err e) = IsRefused may old new
