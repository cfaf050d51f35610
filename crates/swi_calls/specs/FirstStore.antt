-- A step of a run that would store into the text. The run of the cached machine, for which the text is fixed, ends before it.
use Rattle.std.specs.Prelude.{◌≡◌, ℕ, true, None, is_some}
use Rattle.swi_calls.specs.Flat.{flat_run}
use Rattle.swi_calls.specs.State.{FlatState}
use Rattle.swi_calls.specs.StoresText.{next_store}

-- the run goes on after k steps, and its next step would store into the text
pub record StoresAt (s : FlatState) (k : ℕ) : Type 0 where
  pub going : (flat_run k s).machine.ending ≡ None
  pub stores : is_some (next_store (flat_run k s).machine) ≡ true
