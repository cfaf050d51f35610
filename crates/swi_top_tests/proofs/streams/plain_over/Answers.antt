use Rattle.std.proofs.Common.{Result, Ok, Err, IfOk, OnOk, refl, inl}
use Rattle.swi_command.specs.CommandLine.{RunPlain}
use Rattle.swi_top_tests.proofs.streams.plain_over.Goals as goal

-- of an ending
of_ended : {T E : Type 0} {P : T → Type 0} {Q : Type 0} (r : Result T E) → IfOk r P → ((e : T) → P e → Q) → OnOk r Q
of_ended (Ok e) p then = then e p
of_ended (Err e) p then = tt

pub returns : goal.returns
returns g c = record {
  took = λ name file o asked gave input rest read.
      of_ended c.top.result (c.top.ensures.answers (RunPlain name o) asked input rest read).answers.done
      (λ e done. (done file (inl gave) input refl).output);
}
