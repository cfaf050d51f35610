-- The files of a command: each call of the shelf for one, by what the command makes of its answer.
use Rattle.std.specs.Prelude.{◌≡◌, ℕ, List, Result, Ok, Err, Vec}
use Rattle.std.specs.declared.alloc.Global.{Global}
use Rattle.swi_outside.specs.Shelf.{ShelfState, WasGot, WasPut}
use Rattle.swi_outside.specs.declared.shelf.ShelfError.{ShelfError}
use Rattle.swi_outside.specs.declared.shelf.ShelfError.TheVariants as error
use Rattle.swi_answer.specs.declared.answer.Refusal.{Refusal}
use Rattle.swi_answer.specs.declared.answer.Refusal.TheVariants as refusal
use Rattle.swi_task.specs.Checks.{file_limit}

-- what a command is refused with, for such an answer of the shelf
abbrev pub refusal_by : ShelfError → Refusal
refusal_by error.Failed = refusal.ShelfFault
refusal_by error.Long = refusal.FileLong file_limit
refusal_by error.Memory = refusal.Memory

abbrev pub answer_by : {T : Type 0} → Result T ShelfError → Result T Refusal
answer_by (Ok v) = Ok v
answer_by (Err e) = Err (refusal_by e)

-- a file was read: the shelf was asked for it once
pub record FileRead (old new : ShelfState) (name : List ℕ) (result : Result (Vec ℕ Global) Refusal) : Type 0 where
  pub answer : Result (Vec ℕ Global) ShelfError
  pub got : WasGot old new name file_limit answer
  pub handed_on : result ≡ answer_by answer

-- a file was written: it was put once
pub record FileWritten (old new : ShelfState) (name bytes : List ℕ) (result : Result Unit Refusal) : Type 0 where
  pub answer : Result Unit ShelfError
  pub put : WasPut old new name bytes answer
  pub handed_on : result ≡ answer_by answer
