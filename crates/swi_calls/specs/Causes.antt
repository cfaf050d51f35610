-- A write to one of two sinks.
use Rattle.std.specs.Prelude.{◌≡◌, ◌⊎◌, ℕ, ◌≤◌, Result, OnOk, OnErr}
use Rattle.swi_outside.specs.Causes.{Rose}

-- a write to one of two sinks: it fails only where one's count rose, and only a failure raises one
pub record WritesCause {T E : Type 0} (out out' err err' : ℕ) (result : Result T E) : Type 0 where
  pub out_later : out ≤ out'
  pub err_later : err ≤ err'
  pub rose : OnErr result (Rose out out' ⊎ Rose err err')
  pub out_quiet : OnOk result (out' ≡ out)
  pub err_quiet : OnOk result (err' ≡ err)
