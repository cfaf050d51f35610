use Rattle.std.proofs.Common.{arith}
use Rattle.swi_chip.proofs.Entering.{place_odd, place_past, place_here}
use Rattle.swi_chip.proofs.serving.place.Goals as goal

pub returns-then-distance-ne0 : goal.returns-then-distance-ne0
returns-then-distance-ne0 c = λ v ends image tables. place_odd v c.args.chip.now.base c.args.target c.args.chip.now.places.now ends image tables (omega (arith, c.well_formed)) c.args.chip.now.text_bytes c.requires.text c.if-distance-ne0.true

pub returns-then-distance-chip : goal.returns-then-distance-chip
returns-then-distance-chip c = λ v ends image tables. place_past v c.args.chip.now.base c.args.target c.args.chip.now.places.now ends image tables (omega (arith, c.well_formed)) c.args.chip.now.text_bytes c.requires.text c.if-distance-ne0.false c.if-distance-chip.true

pub returns : goal.returns
returns c = λ v ends image tables. place_here v c.args.chip.now.base c.args.target c.args.chip.now.places.now ends image tables (omega (arith, c.well_formed)) c.args.chip.now.text_bytes c.requires.text c.if-distance-ne0.false c.if-distance-chip.false
