-- The state of the flat machine.
use Rattle.std.specs.Prelude.{ℕ, List}
use Rattle.swi_calls.specs.declared.machine.Machine.{Machine}

-- a machine with the input that is left and the bytes that it has written to the output and to the errors
pub record FlatState : Type 0 where
  pub machine : Machine
  pub input : List ℕ
  pub output : List ℕ
  pub error : List ℕ
