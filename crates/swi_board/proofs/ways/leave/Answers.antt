use Rattle.swi_outside.specs.CacheRam.{with_fetch}
use Rattle.swi_board.proofs.Passing.{over_link}
use Rattle.swi_board.proofs.ways.leave.Goals as goal

pub returns-in-Some-clause-passed : goal.returns-in-Some-clause-passed
returns-in-Some-clause-passed g c =
    rw c.fetch-word.ensures.ram (over_link g.met.R.CacheRom.laws c.args.image.now c.args.rom.now (with_fetch (g.M.CacheRam.state c.args.ram.now) c.args.at) c.requires.sound c.requires.exit c.fetch-word.result c.in-Some.distance c.fetch-word.ensures.word c.in-Some.ensures)

pub pass-requires-clause-word : goal.pass-requires-clause-word
pass-requires-clause-word g c = rw c.fetch-word.ensures.ram c.fetch-word.ensures.word
