use Rattle.std.proofs.Common.{◌≡◌, ◌+◌, ap, sym, arith, rules, ◌∙◌}
use Rattle.swi_isa.specs.Decode.{decoded}
use Rattle.swi_image.specs.Place.{place_of}
use Rattle.swi_image.specs.Row.{row_inside}
use Rattle.swi_hart.specs.Leaving.{offset_of}
use Rattle.swi_board.proofs.Remembering.{offset_is}
use Rattle.swi_board.proofs.Passing.{crossed, exit_at, never, over_link}
use Rattle.swi_board.proofs.ways.pass.Goals as goal

pub returns-then-word-ne-EBREAK-clause-passed : goal.returns-then-word-ne-EBREAK-clause-passed
returns-then-word-ne-EBREAK-clause-passed g c =
    let off : c.in-Some-Jal.off ≡ offset_of (decoded c.args.word) = search rules in
    over_link g.met.R.CacheRom.laws c.args.image.now c.args.rom.now (g.M.CacheRam.state c.args.ram.now) c.requires.sound c.requires.exit c.args.word c.distance-distance.result c.requires.word (record {
      linked = c.if-word-ne-EBREAK.true;
      leads = λ i j jumps low high. c.distance-distance.ensures i j (offset_is i j c.args.word c.in-Some-Jal.off jumps off) low high;
    })

pub overflow_cast-exit : goal.overflow_cast-exit
overflow_cast-exit g c =
    let e = c.requires.exit in
    let own = e.is_exit.inside in
    let within = row_inside c.args.image.now e.block (e.offset + 1) e.known own in
    let at = e.row in
    let small = c.words-words.ensures.small in
    let value = c.words-words.ensures.value in
    omega (arith, within, at, small, value)

pub overflow_add-exit : goal.overflow_add-exit
overflow_add-exit g c =
    let e = c.requires.exit in
    let own = e.is_exit.inside in
    let within = row_inside c.args.image.now e.block (e.offset + 1) e.known own in
    let at = e.row in
    let small = c.words-words.ensures.small in
    let value = c.words-words.ensures.value in
    omega (arith, within, at, small, value)

pub word_in_row-target-requires : goal.word_in_row-target-requires
word_in_row-target-requires g c =
    let e = c.requires.exit in
    let own = e.is_exit.inside in
    let within = row_inside c.args.image.now e.block (e.offset + 1) e.known own in
    let at = e.row in
    omega (arith, within, at)

pub cross-requires-clause-exit : goal.cross-requires-clause-exit
cross-requires-clause-exit g c =
    let e = c.requires.exit in
    let at = e.row in
    let to = c.word_in_row-target.ensures e.block (e.offset + 1) e.known e.is_exit.inside (omega (arith, at)) in
    exit_at g.met.R.CacheRom.laws c.args.image.now c.args.rom.now (g.M.CacheRam.state c.args.ram.now) c.requires.sound c.requires.exit c.args.word c.word_in_row-target.result c.requires.word c.if-word-ne-EBREAK.false to

pub unreachable-requires-in-Err : goal.unreachable-requires-in-Err
unreachable-requires-in-Err g c =
    let e = c.requires.exit in
    let at = e.row in
    let own = e.is_exit.inside in
    let to = c.word_in_row-target.ensures e.block (e.offset + 1) e.known e.is_exit.inside (omega (arith, at)) in
    never c.in-Err.field-0 (c.in-Err.ensures.served e.block e.offset e.first e.is_placed (omega (arith, own)) e.index)
    (λ none. e.leads (ap (λ n. place_of c.args.image.now n) (sym to) ∙ none)) (c.is_steady-steady.ensures.faultless c.requires.steady)

pub returns-clause-passed : goal.returns-clause-passed
returns-clause-passed g c =
    let e = c.requires.exit in
    let at = e.row in
    let to = c.word_in_row-target.ensures e.block (e.offset + 1) e.known e.is_exit.inside (omega (arith, at)) in
    let q = c.in-Ok.ensures in
    crossed g.met.R.CacheRom.laws c.args.image.now c.args.rom.now (g.M.CacheRam.state c.args.ram.now) c.requires.sound c.requires.exit c.word_in_row-target.result c.in-Ok.index _ _ to q.setting q.served q.unused q.stays q.keeps

pub returns-clause-found : goal.returns-clause-found
returns-clause-found g c = c.forget.ensures c.args.image.now _
