-- Contents under names, and the last call that failed.
use Rattle.std.specs.Prelude.{◌≡◌, ◌≢◌, ℕ, ◌<◌, ◌≤◌, List, [], ◌∷◌, ◌++◌, length, Option, Some, None, ⊤, Result, Ok, Err, IfOk, OnOk, Vec}
use Rattle.std.specs.declared.alloc.Global.{Global}
use Rattle.swi_outside.specs.Causes.{Rose, counted}
use Rattle.swi_outside.specs.declared.shelf.ShelfError.{ShelfError}
use Rattle.swi_outside.specs.declared.shelf.ShelfError.TheVariants.{Failed, Long, Memory}

-- the bytes under each name, as bytes of its text
abbrev pub Contents : Type 0
Contents = List ℕ → Option (List ℕ)

-- a call of a shelf, by the name that was given
pub data Asked : Type 0 where
  get_of : List ℕ → Asked
  put_of : List ℕ → Asked

-- what is told of one name stays
abbrev pub SameAt : Option Contents → Option Contents → List ℕ → Type 0
SameAt None new name = ⊤
SameAt (Some m) None name = ⊥
SameAt (Some m) (Some n) name = n name ≡ m name

-- what is told of every name stays
abbrev pub Same : Option Contents → Option Contents → Type 0
Same old new = (name : List ℕ) → SameAt old new name

-- what is told of every name but one stays
abbrev pub SameElsewhere : Option Contents → Option Contents → List ℕ → Type 0
SameElsewhere old new name = (other : List ℕ) → other ≢ name → SameAt old new other

-- these bytes stand under a name, as far as is told
abbrev pub Stands : Option Contents → List ℕ → List ℕ → Type 0
Stands None name bytes = ⊤
Stands (Some m) name bytes = m name ≡ Some bytes

-- more bytes than the limit stand under a name, as far as is told
abbrev pub IsLonger : Option Contents → List ℕ → ℕ → Type 0
IsLonger None name limit = ⊤
IsLonger (Some m) name limit = (bytes : List ℕ) × (m name ≡ Some bytes) × (limit < length bytes)

-- names, each with a content, in the order in which they passed
abbrev pub Passed : Type 0
Passed = List (List ℕ × List ℕ)

pub record ShelfState : Type 0 where
  -- what stands under each name, where the shelf tells it
  pub contents : Option Contents
  -- what its gets gave, and what its puts stored, the first one first
  pub got : Passed
  pub stored : Passed
  -- how often it was asked, and a count of the calls that answered `Failed`; both stand still at 2^64 - 1
  pub calls : ℕ
  pub faults : ℕ
  -- the last call that answered `Failed`
  pub last_failed : Option Asked

-- the count never falls, `Failed` comes only where it rose, and only `Failed` raises it and changes
-- what is told of the last failed call, to this call
pub record ShelfCause {T : Type 0} (old new : ShelfState) (asked : Asked) (result : Result T ShelfError) : Type 0 where
  pub later : old.faults ≤ new.faults
  pub failed : result ≡ Err Failed → Rose old.faults new.faults × (new.last_failed ≡ Some asked)
  pub quiet : (result ≡ Err Failed → ⊥) → (new.faults ≡ old.faults) × (new.last_failed ≡ old.last_failed)

-- what was given, after a get of a name that answered so
abbrev pub got_after : Passed → List ℕ → Result (Vec ℕ Global) ShelfError → Passed
got_after got name (Ok bytes) = got ++ (name, bytes.items) ∷ []
got_after got name (Err e) = got

-- what was stored, after a put of these bytes under a name that answered so
abbrev pub stored_after : Passed → List ℕ → List ℕ → Result Unit ShelfError → Passed
stored_after stored name bytes (Ok u) = stored ++ (name, bytes) ∷ []
stored_after stored name bytes (Err e) = stored

-- A get of a name, by its answer: it changes no content, and what it gives is noted. `Long` comes only where the content has more bytes than the limit.
pub record WasGot (old new : ShelfState) (name : List ℕ) (limit : ℕ) (result : Result (Vec ℕ Global) ShelfError) : Type 0 where
  pub same : Same old.contents new.contents
  pub content : IfOk result (λ bytes. Stands old.contents name bytes.items)
  pub within : IfOk result (λ bytes. length bytes.items ≤ limit)
  pub long : result ≡ Err Long → IsLonger old.contents name limit
  pub gave : new.got ≡ got_after old.got name result
  pub none_stored : new.stored ≡ old.stored
  pub asked : new.calls ≡ counted old.calls
  pub cause : ShelfCause old new (get_of name) result

-- A put under a name, by its answer: all others stay, and after `Memory` every content. What it stores is noted. It never answers `Long`.
pub record WasPut (old new : ShelfState) (name bytes : List ℕ) (result : Result Unit ShelfError) : Type 0 where
  pub others : SameElsewhere old.contents new.contents name
  pub stands : OnOk result (Stands new.contents name bytes)
  pub not_long : result ≡ Err Long → ⊥
  pub memory : result ≡ Err Memory → Same old.contents new.contents
  pub none_given : new.got ≡ old.got
  pub stores : new.stored ≡ stored_after old.stored name bytes result
  pub asked : new.calls ≡ counted old.calls
  pub cause : ShelfCause old new (put_of name) result
