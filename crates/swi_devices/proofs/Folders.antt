-- What stands under the names of a folder after two calls.
use Rattle.std.proofs.Common.{ℕ, List, [], Option, Some, None, ◌∙◌, subst}
use Rattle.std.specs.Io.KnownBytes.{Appends}
use Rattle.swi_outside.specs.Shelf.{Contents, SameAt, SameElsewhere, Stands}
use Rattle.swi_devices.specs.Folders.{IsNew, Keeps}

at-trans : (a b c : Option Contents) (name : List ℕ) → SameAt a b name → SameAt b c name → SameAt a c name
at-trans None b c name p q = tt
at-trans (Some m) None c name p q = absurd p
at-trans (Some m) (Some n) None name p q = absurd q
at-trans (Some m) (Some n) (Some k) name p q = q ∙ p

-- two calls that leave all names but one leave them together
pub elsewhere-trans : (a b c : Option Contents) (name : List ℕ) → SameElsewhere a b name → SameElsewhere b c name → SameElsewhere a c name
elsewhere-trans a b c name p q = λ other differs. at-trans a b c other (p other differs) (q other differs)

kept-some : (m : Contents) (b : Option Contents) (name bytes : List ℕ) (v : Option (List ℕ)) → Appends (Some []) v bytes → Keeps (Some m) b name v
    → Stands b name bytes
kept-some m b name bytes None adds kept = absurd adds
kept-some m b name bytes (Some xs) adds kept = rw (← adds) kept

-- what is appended to a new file, and kept, stands under its name
pub stands-kept : (a b : Option Contents) (name bytes : List ℕ) (w v : Option (List ℕ)) → IsNew a w → Appends w v bytes → Keeps a b name v → Stands b name bytes
stands-kept None b name bytes w v new adds kept = rw kept tt
stands-kept (Some m) b name bytes w v new adds kept = kept-some m b name bytes v (subst (λ o. Appends o v bytes) new adds) kept
