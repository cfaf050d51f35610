-- A hart whose block stays where it stands, while a service does other work.
use Rattle.std.specs.Prelude.{ℕ, Option, Some, None, ⊤}
use Rattle.swi_calls.specs.declared.end.End.{End}
use Rattle.swi_calls.specs.declared.machine.Machine.{Machine}
use Rattle.swi_image.specs.Format.{ImageData}
use Rattle.swi_rom.specs.Record.{Record, Placed}
use Rattle.swi_hart.specs.declared.hart.Control.{Control}
use Rattle.swi_hart.specs.declared.hart.Control.TheVariants.{At, Outside}
use Rattle.swi_hart.specs.Hart.{HartData, place_under}
use Rattle.swi_hart.specs.Matching.{Agrees, Matches, StandsBy, Fits}

-- the block at a place, if there is one, stands in another record where it stood
abbrev pub StaysAt : Record → Record → Option (ℕ × ℕ) → Type 0
StaysAt old new None = ⊤
StaysAt old new (Some p) = (first : ℕ) → Placed old p.0 first → Placed new p.0 first

-- and so for control's block
abbrev pub StaysUnder : Record → Record → Machine → Control → Type 0
StaysUnder old new m c = StaysAt old new (place_under m.ending c)

agrees_on : (e : Option End) (v : ImageData) (old new : Record) (f m : Machine) (c : Control) → StaysAt old new (place_under e c) → Agrees e v old f m c → Agrees e v new f m c
agrees_on None v old new f m (At i b o stage) stays is = ((is.0.0, stays is.0.0 is.0.1, is.0.2), is.1)
agrees_on None v old new f m Outside stays is = is
agrees_on (Some e) v old new f m c stays is = is

-- then the hart matches the same flat machines
pub matches_on : (v : ImageData) (old new : Record) (f m : Machine) (c : Control) → StaysUnder old new m c → Matches v old f m c → Matches v new f m c
matches_on v old new f m c stays is = agrees_on m.ending v old new f m c stays is

stands_on : (e : Option End) (v : ImageData) (old new : Record) (m : Machine) (c : Control) → StaysAt old new (place_under e c) → StandsBy e v old m c → StandsBy e v new m c
stands_on None v old new m (At i b o stage) stays is = ((is.0.0, stays is.0.0 is.0.1, is.0.2), is.1)
stands_on None v old new m Outside stays is = is
stands_on (Some e) v old new m c stays is = is

-- and the image fits it as before
pub fits_on : (v : ImageData) (old new : Record) (h : HartData) → StaysUnder old new h.machine h.control → Fits v old h → Fits v new h
fits_on v old new h stays fits = record { image = fits.image; place = stands_on h.machine.ending v old new h.machine h.control stays fits.place }
