use Rattle.std.proofs.Common.{◌≡◌, ◌∙◌, sym, subst, IfOk, Option, Some, None, map, string_bytes}
use Rattle.swi_command.specs.Arguments.{form_of}
use Rattle.swi_command.specs.CommandLine.{Request, form_first, request_of}
use Rattle.swi_command.proofs.Naming.{form_first-named, form_first-nothing, command_of-by}
use Rattle.swi_command.proofs.parse_command.Goals as goal

pub returns-in_default-clause-usage : goal.returns-in_default-clause-usage
returns-in_default-clause-usage c usage =
    command_of-by (map (λ w. string_bytes w) c.args.words.now) None
    (form_first-nothing c.args.words.now c.first.result c.first.ensures.value c.in_default.is)

pub returns-in_default-named-clause-usage : goal.returns-in_default-named-clause-usage
returns-in_default-named-clause-usage c usage =
    let none : form_first (map (λ w. string_bytes w) c.args.words.now) ≡ None =
    form_first-named c.args.words.now c.first.result c.in-Some.word c.as_str.result.now c.named.result None
    c.first.ensures.value c.in-Some.is c.as_str.ensures.value c.named.ensures c.in_default-named.is in
    command_of-by (map (λ w. string_bytes w) c.args.words.now) None none

pub returns-clause-ok : goal.returns-clause-ok
returns-clause-ok c =
    let form : form_first (map (λ w. string_bytes w) c.args.words.now) ≡ Some (form_of c.in-Some-named.name) =
    form_first-named c.args.words.now c.first.result c.in-Some.word c.as_str.result.now c.named.result (Some c.in-Some-named.name)
    c.first.ensures.value c.in-Some.is c.as_str.ensures.value c.named.ensures c.in-Some-named.is in
    subst (λ (r : Option Request). IfOk c.parse_named.result (λ x. r ≡ Some (request_of x)))
    (sym (command_of-by (map (λ w. string_bytes w) c.args.words.now) (Some (form_of c.in-Some-named.name)) form)) c.parse_named.ensures.ok

pub returns-clause-usage : goal.returns-clause-usage
returns-clause-usage c usage =
    let form : form_first (map (λ w. string_bytes w) c.args.words.now) ≡ Some (form_of c.in-Some-named.name) =
    form_first-named c.args.words.now c.first.result c.in-Some.word c.as_str.result.now c.named.result (Some c.in-Some-named.name)
    c.first.ensures.value c.in-Some.is c.as_str.ensures.value c.named.ensures c.in-Some-named.is in
    command_of-by (map (λ w. string_bytes w) c.args.words.now) (Some (form_of c.in-Some-named.name)) form ∙ c.parse_named.ensures.usage usage

pub returns-clause-unknown : goal.returns-clause-unknown
returns-clause-unknown c unknown =
    let form : form_first (map (λ w. string_bytes w) c.args.words.now) ≡ Some (form_of c.in-Some-named.name) =
    form_first-named c.args.words.now c.first.result c.in-Some.word c.as_str.result.now c.named.result (Some c.in-Some-named.name)
    c.first.ensures.value c.in-Some.is c.as_str.ensures.value c.named.ensures c.in-Some-named.is in
    cc
