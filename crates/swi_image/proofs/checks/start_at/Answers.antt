use Rattle.swi_image.specs.Words.{words_of}
use Rattle.swi_image.proofs.Reading.{start_inside}
use Rattle.swi_image.proofs.checks.start_at.Goals as goal

pub word_inside-requires : goal.word_inside-requires
word_inside-requires c = start_inside c.args.h.now (words_of c.args.bytes.now) c.args.i c.requires.header c.requires.sizes c.requires.within
