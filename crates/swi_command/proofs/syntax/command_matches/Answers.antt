use Rattle.std.proofs.Common.{ap, subst, ◌∙◌, ◌≡◌, Some, None, Err, IfOk, map, string_bytes}
use Rattle.clap.specs.Words.{App, rows_of, found_of, is_simple_and_free}
use Rattle.swi_command.specs.declared.command.CommandError.TheVariants.{Usage}
use Rattle.swi_command.specs.CommandLine.{matches_on}
use Rattle.swi_command.proofs.Matching.{app_is_simple}
use Rattle.swi_command.proofs.syntax.command_matches.Goals as goal

pub returns-clause-ok : goal.returns-clause-ok
returns-clause-ok c =
    subst (λ (a : App). IfOk c.matches_by.result (λ m. matches_on a (map (λ w. string_bytes w) c.args.words.now) ≡ Some (rows_of (found_of m))))
    c.in-Ok.ensures.app
    (c.matches_by.ensures.ok (ap is_simple_and_free c.in-Ok.ensures.app ∙ app_is_simple c.args.name))

pub returns-clause-usage : goal.returns-clause-usage
returns-clause-usage c =
    subst (λ (a : App). c.matches_by.result ≡ Err Usage → matches_on a (map (λ w. string_bytes w) c.args.words.now) ≡ None)
    c.in-Ok.ensures.app
    (c.matches_by.ensures.usage (ap is_simple_and_free c.in-Ok.ensures.app ∙ app_is_simple c.args.name))
