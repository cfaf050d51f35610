use Rattle.std.proofs.Common.{sym, subst, arith}
use Rattle.swi_hart.specs.Hart.{HartData}
use Rattle.swi_board.specs.Advancing.{Onward}
use Rattle.swi_board.proofs.Ends.{begins, end_board, end_inside, end_onward, end_origin, starts}
use Rattle.swi_board.proofs.advance.advance.Goals as goal

pub step_through-requires-clause-begins : goal.step_through-requires-clause-begins
step_through-requires-clause-begins g c =
    let s = starts (sym c.hart.view_is) c.from.ensures c.requires.underway c.requires.going c.requires.within c.requires.small c.requires.sound c.requires.stands in
    (c.args.limit, begins g.met.R.CacheRom.laws s)

pub overflow_cast-row : goal.overflow_cast-row
overflow_cast-row g c =
    let s = starts (sym c.hart.view_is) c.from.ensures c.requires.underway c.requires.going c.requires.within c.requires.small c.requires.sound c.requires.stands in
    let i = c.step_through.ensures.turned c.args.limit (begins g.met.R.CacheRom.laws s) in
    let within = end_inside g.met.R.CacheRom.laws s i in
    let small = c.words-words.ensures.small in
    let value = c.words-words.ensures.value in
    omega (arith, within, small, value)

pub place_in_row-block-requires : goal.place_in_row-block-requires
place_in_row-block-requires g c =
    let s = starts (sym c.hart.view_is) c.from.ensures c.requires.underway c.requires.going c.requires.within c.requires.small c.requires.sound c.requires.stands in
    let i = c.step_through.ensures.turned c.args.limit (begins g.met.R.CacheRom.laws s) in
    end_inside g.met.R.CacheRom.laws s i

pub index-requires : goal.index-requires
index-requires g c =
    let s = starts (sym c.hart.view_is) c.from.ensures c.requires.underway c.requires.going c.requires.within c.requires.small c.requires.sound c.requires.stands in
    let i = c.step_through.ensures.turned c.args.limit (begins g.met.R.CacheRom.laws s) in
    let within = end_inside g.met.R.CacheRom.laws s i in
    let small = c.words-words.ensures.small in
    let value = c.words-words.ensures.value in
    omega (arith, within, small, value)

pub address_at-hart-inside-requires-clause-stands : goal.address_at-hart-inside-requires-clause-stands
address_at-hart-inside-requires-clause-stands g c =
    let s = starts (sym c.hart.view_is) c.from.ensures c.requires.underway c.requires.going c.requires.within c.requires.small c.requires.sound c.requires.stands in
    let i = c.step_through.ensures.turned c.args.limit (begins g.met.R.CacheRom.laws s) in
    end_origin g.met.R.CacheRom.laws s i c.place_in_row-block.result.0 c.place_in_row-block.result.1 c.place_in_row-block.ensures.offset c.place_in_row-block.ensures.index

pub overflow_sub-hart : goal.overflow_sub-hart
overflow_sub-hart g c =
    let s = starts (sym c.hart.view_is) c.from.ensures c.requires.underway c.requires.going c.requires.within c.requires.small c.requires.sound c.requires.stands in
    let i = c.step_through.ensures.turned c.args.limit (begins g.met.R.CacheRom.laws s) in
    i.within.left

pub overflow_sub-hart-2 : goal.overflow_sub-hart-2
overflow_sub-hart-2 g c =
    let s = starts (sym c.hart.view_is) c.from.ensures c.requires.underway c.requires.going c.requires.within c.requires.small c.requires.sound c.requires.stands in
    let i = c.step_through.ensures.turned c.args.limit (begins g.met.R.CacheRom.laws s) in
    i.within.counted

pub returns-clause-onward : goal.returns-clause-onward
returns-clause-onward g c =
    let s = starts (sym c.hart.view_is) c.from.ensures c.requires.underway c.requires.going c.requires.within c.requires.small c.requires.sound c.requires.stands in
    let i = c.step_through.ensures.turned c.args.limit (begins g.met.R.CacheRom.laws s) in
    let made = end_onward g.met.R.CacheRom.laws s i c.place_in_row-block.result.0 c.place_in_row-block.result.1 c.place_in_row-block.ensures.offset c.place_in_row-block.ensures.index c.go.new.self c.index.result c.address_at-hart-inside.result c.go.ensures c.index.ensures
    (c.address_at-hart-inside.ensures (end_origin g.met.R.CacheRom.laws s i c.place_in_row-block.result.0 c.place_in_row-block.result.1 c.place_in_row-block.ensures.offset c.place_in_row-block.ensures.index)) in
    subst (λ (h : HartData). Onward g.R.CacheRom.service c.args.image.now c.args.limit (record { hart = h; rom = c.args.rom.now; ram = g.M.CacheRam.state c.args.ram.now })
    (end_board (record { control = c.hart.inside.control; machine = c.hart.inside.machine; count = c.hart.inside.count; failed = c.hart.inside.failed; booted = c.hart.inside.booted }) c.args.limit (record { machine = c.step_through.new.machine; rom = c.step_through.new.rom; ram = g.M.CacheRam.state c.step_through.new.ram; cursor = c.step_through.new.cursor })
    c.go.new.self c.address_at-hart-inside.result)) c.hart.view_is made

pub returns-clause-going : goal.returns-clause-going
returns-clause-going g c =
    let s = starts (sym c.hart.view_is) c.from.ensures c.requires.underway c.requires.going c.requires.within c.requires.small c.requires.sound c.requires.stands in
    let i = c.step_through.ensures.turned c.args.limit (begins g.met.R.CacheRom.laws s) in
    i.going

pub returns-clause-stays : goal.returns-clause-stays
returns-clause-stays g c =
    let s = starts (sym c.hart.view_is) c.from.ensures c.requires.underway c.requires.going c.requires.within c.requires.small c.requires.sound c.requires.stands in
    let i = c.step_through.ensures.turned c.args.limit (begins g.met.R.CacheRom.laws s) in
    i.stays
