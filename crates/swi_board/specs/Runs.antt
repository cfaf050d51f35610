-- What the machine steps of a run count as, and what they fetch.
use Rattle.std.specs.Prelude.{ℕ, ◌-◌, ◌&&◌, is_some, if◌then◌else◌}
use Rattle.swi_hart.specs.declared.hart.Control.{Control}
use Rattle.swi_hart.specs.declared.hart.Control.TheVariants.{At, Outside}
use Rattle.swi_hart.specs.Hart.{HartData}
use Rattle.swi_hart.specs.Bounds.{is_outside}

-- what a machine step counts as, one outside the text as is said
abbrev pub weight : ℕ → Control → ℕ
weight outside (At i b o stage) = 1
weight outside Outside = outside

-- one where a run ended with a step at an address where no text word stands, which fetches nothing
abbrev pub unfetched : HartData → ℕ
unfetched h = if is_some h.machine.ending && is_outside h.control then 1 else 0

-- how many words were fetched from one state of the hart to another
abbrev pub fetched_by : HartData → HartData → ℕ
fetched_by h h' = h'.count - h.count - unfetched h'
