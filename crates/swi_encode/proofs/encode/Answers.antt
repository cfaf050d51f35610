use Rattle.swi_encode.proofs.Forth.{word_decodes}
use Rattle.swi_encode.proofs.encode.Goals as goal

pub returns-clause-decodes : goal.returns-clause-decodes
returns-clause-decodes c = word_decodes c.args.i.now c.word.result c.word.ensures.word c.word.ensures.sized c.requires
