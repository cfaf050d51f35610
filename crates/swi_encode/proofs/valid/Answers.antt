use Rattle.swi_encode.proofs.Back.{decoded_again}
use Rattle.swi_encode.proofs.valid.Goals as goal

pub returns-clause-of_decoded : goal.returns-clause-of_decoded
returns-clause-of_decoded c = λ w small is. c.fields_fit.ensures.1 (decoded_again w c.args.i.now small is).1
