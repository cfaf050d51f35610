-- What a run has learnt of an image.
use Rattle.std.specs.Prelude.{ℕ, ◌≤◌, Option, length}
use Rattle.swi_image.specs.Format.{ImageData}
use Rattle.swi_image.specs.Row.{row_length}
use Rattle.swi_image_ops.specs.ImageOp.{AreImageOps}
use Rattle.swi_board.specs.declared.learnt.Learnt.{Learnt}

-- there is room for what is to be learnt of each word
abbrev pub HasRoom : ImageData → Learnt → Type 0
HasRoom v l = row_length v ≤ length l.ops

-- and what is learnt is true of an image that carries a text
abbrev pub Knows : (ℕ → Option ℕ) → ImageData → Learnt → Type 0
Knows text v l = AreImageOps text v l.ops
