use Rattle.std.proofs.Common.{◌-◌, arith}
use Rattle.swi_render.proofs.Runs.{offset_below}
use Rattle.swi_cut.proofs.Written.{written_none, written_more}
use Rattle.swi_cut.proofs.draft.write_words.Goals as goal

pub loop-k-init : goal.loop-k-init
loop-k-init c = written_none c.args.text.now c.args.first c.args.offsets.now.items c.args.words.now.items c.requires.covered

pub overflow_cast-len : goal.overflow_cast-len
overflow_cast-len c = omega (arith, c.loop-k.invariant.words.size, offset_below c.args.text.now c.args.first c.loop-k.k c.args.end c.loop-k.auto.k (omega arith) c.requires.within, c.requires.fits)

pub loop-k-preserved : goal.loop-k-preserved
loop-k-preserved c =
    written_more c.args.text.now c.args.first c.loop-k.k (c.len.result - c.len-begin.result)
    c.args.offsets.now.items c.loop-k.offsets.items c.push.new.list.items c.args.words.now.items c.loop-k.words.items c.write_word.new.words.items
    c.loop-k.auto.k (omega arith) c.loop-k.invariant (c.in_ok-push.ensures {u = tt}) (omega arith) (c.in_ok-write_word.ensures {u = tt})

pub overflow_sub-len : goal.overflow_sub-len
overflow_sub-len c = omega (arith, c.loop-k.invariant.words.size)
