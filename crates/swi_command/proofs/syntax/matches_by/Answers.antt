use Rattle.std.proofs.Common.{◌≡◌, ◌∙◌, sym, ap, Some, map, string_bytes, [], rules}
use Rattle.clap.specs.Words.{app_of, fault_of}
use Rattle.swi_command.proofs.Matching.{matches_where_taken, matches_where_refused, simple_of_free}
use Rattle.swi_command.proofs.syntax.matches_by.Goals as goal

pub returns-in-Ok-clause-ok : goal.returns-in-Ok-clause-ok
returns-in-Ok-clause-ok c simple =
    matches_where_taken (app_of c.args.command) (map (λ w. string_bytes w) c.args.words.now) (c.in-Ok.ensures.kinds simple)
    ∙ ap Some (sym (c.in-Ok.ensures.matches (simple_of_free (app_of c.args.command) simple)).0)

pub returns-clause-usage : goal.returns-clause-usage
returns-clause-usage c simple usage =
    let h = c.in-Err.ensures.kinds simple in
    let refused : fault_of (app_of c.args.command) (map (λ w. string_bytes w) c.args.words.now) ≡ [] → ⊥ = λ taken. let k = rw taken at h in search (rules, k) in
    matches_where_refused (app_of c.args.command) (map (λ w. string_bytes w) c.args.words.now) refused
