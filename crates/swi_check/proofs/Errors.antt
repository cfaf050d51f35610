-- Errors that `?` hands on.
use Rattle.std.proofs.Common.{◌≡◌, sym, subst, Result, Ok, Err}
use Rattle.std.specs.Prelude.{IfErr}
use Rattle.std.specs.Result.{IsErrAnd}

-- what `?` hands on is the error itself: so `?` needs no `match` in its place
pub err_as : {T E : Type 0} (r : Result T E) (d : E) (P : E → Type 0) → IsErrAnd r (λ e. e ≡ d) → P d → IfErr r P
err_as (Ok n) d P e p = tt
err_as (Err x) d P e p = subst P (sym e) p
