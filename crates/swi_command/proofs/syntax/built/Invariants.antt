use Rattle.std.proofs.Common.{◌≡◌, map, drop}
use Rattle.clap.specs.Words.{app_of}
use Rattle.swi_command.specs.Arguments.{form_of, rule_of_argument}
use Rattle.swi_command.specs.CommandLine.{app_by, with_rules}
use Rattle.swi_command.proofs.syntax.built.Given as goal

abbrev pub invariant-loop-argument : goal.invariant-loop-argument
invariant-loop-argument l =
    with_rules (app_of l.command) (map rule_of_argument (drop l.argument-index l.argument-items)) ≡ app_by (form_of l.fn.name)
