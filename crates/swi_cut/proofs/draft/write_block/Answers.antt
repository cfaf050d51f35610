use Rattle.swi_cut.proofs.Written.{written_stays, written_falls}
use Rattle.swi_cut.proofs.draft.write_block.Goals as goal

pub returns-in_ok-append : goal.returns-in_ok-append
returns-in_ok-append c =
    let exit = c.in-Some.ensures {u = tt} in
    written_falls c.args.text.now c.args.first c.args.end c.args.offsets.now.items c.write_words.new.offsets.items c.args.words.now.items c.write_words.new.words.items c.append.new.list.items c.in-Some.exit
    c.requires.some c.requires.within exit.falls exit.exit (c.in_ok-write_words.ensures {u = tt}) (c.in_ok-append.ensures {u = tt})

pub returns-in_default : goal.returns-in_default
returns-in_default c =
    written_stays c.args.text.now c.args.first c.args.end c.args.offsets.now.items c.write_words.new.offsets.items c.args.words.now.items c.write_words.new.words.items
    c.requires.some c.requires.within (c.in_default.ensures {u = tt}).stays (c.in_ok-write_words.ensures {u = tt})
