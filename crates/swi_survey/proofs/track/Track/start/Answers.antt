use Rattle.std.proofs.Common.{◌^◌, ◌-◌, refl}
use Rattle.swi_survey.proofs.Surveying.{first_serving, starts}
use Rattle.swi_survey.proofs.track.Track.start.Goals as goal

pub enter_at-requires-clause-serving : goal.enter_at-requires-clause-serving
enter_at-requires-clause-serving c =
    first_serving c.args.image.now _ c.args.frames.now c.in_ok-caches.caches (2 ^ 50 - 1) c.requires.image c.in_ok-exits.ensures.exits c.in_ok-exits.ensures.ways.blocks c.requires.caches c.requires.frames c.in_ok-caches.ensures

pub returns : goal.returns
returns c =
    starts c.args.text.now c.args.image.now c.args.frames.now c.args.pc _ c.in_ok-caches.caches _ c.in_ok-exits.ensures.ways c.in_ok-exits.ensures.long c.in_ok-exits.ensures.gates c.in_ok-caches.ensures c.enter_at.ensures.served
    (first_serving c.args.image.now _ c.args.frames.now c.in_ok-caches.caches 0 c.requires.image c.in_ok-exits.ensures.exits c.in_ok-exits.ensures.ways.blocks c.requires.caches c.requires.frames c.in_ok-caches.ensures)
    c.enter_at.ensures.serving c.enter_at.ensures.exits c.here_at.ensures refl refl
