-- Where slots stand among others.
use Rattle.std.specs.Prelude.{◌≡◌, ℕ, ◌+◌, ◌<◌, ◌≤◌, List, length, get_or}
use Rattle.swi_render.specs.Rendering.{Slot}
use Rattle.swi_render.specs.ImageOf.{pad}

-- slots stand among others from a place on
pub record StandIn (ss rr : List Slot) (from : ℕ) : Type 0 where
  pub fits : from + length rr ≤ length ss
  pub each : (j : ℕ) → j < length rr → get_or ss (from + j) pad ≡ get_or rr j pad
