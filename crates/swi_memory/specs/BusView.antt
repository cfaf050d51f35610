-- What is seen of a bus's fields, and what is true of them.
use Rattle.std.specs.Prelude.{◌<◌, ◌^◌, List, vec_len}
use Rattle.swi_memory.specs.declared.bus.Bus.TheInside.{Inside}
use Rattle.swi_memory.specs.Bus.{AreaData, AreInOrder}
use Rattle.swi_memory.specs.TextAt.{IsText}
use Rattle.swi_memory.specs.Views.{areas}
use Rattle.swi_memory.specs.Windows.{AreWindows}

abbrev pub areas_of : Inside → List AreaData
areas_of b = areas b.banks.items

-- the areas are in order, the text and the windows are where they are said to be, and the areas can be counted
pub record IsBus (b : Inside) : Type 0 where
  pub order : AreInOrder (areas b.banks.items)
  pub text : IsText (areas b.banks.items) b.text
  pub windows : AreWindows (areas b.banks.items) b.windows
  pub few : vec_len b.banks < 2 ^ 32
