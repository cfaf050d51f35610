-- The code's names of commands and arguments, in the words of the table of commands.
use Rattle.std.specs.Prelude.{codes}
use Rattle.clap.specs.Words.{Rule, Text}
use Rattle.swi_command.specs.CommandLine.{Form, NumberForm, positional, further, many, option, flag, rewrite_form, cached_form, plain_form, trace_form, list_form, check_form, upgrade_form, measure_form, share_form, prefetch_form, survey_form, profile_form, steps_form, cache_form, block_form, heap_form, stack_form, events_form, seed_form, rate_form}
use Rattle.swi_command.specs.declared.argument.Argument.{Argument}
use Rattle.swi_command.specs.declared.argument.Argument.TheVariants as argument
use Rattle.swi_command.specs.declared.argument.Flag.{Flag}
use Rattle.swi_command.specs.declared.argument.Flag.TheVariants as flag_named
use Rattle.swi_command.specs.declared.argument.NumberOption.{NumberOption}
use Rattle.swi_command.specs.declared.argument.NumberOption.TheVariants as number
use Rattle.swi_command.specs.declared.argument.Positional.{Positional}
use Rattle.swi_command.specs.declared.argument.Positional.TheVariants as place
use Rattle.swi_command.specs.declared.name.CommandName.{CommandName}
use Rattle.swi_command.specs.declared.name.CommandName.TheVariants as name

abbrev pub positional_name : Positional → Text
positional_name place.File = codes "FILE"
positional_name place.Input = codes "IN"
positional_name place.Output = codes "OUT"
positional_name place.Seed = codes "SEED"
positional_name place.Count = codes "COUNT"
positional_name place.File1 = codes "FILE1"
positional_name place.File2 = codes "FILE2"
positional_name place.File3 = codes "FILE3"
positional_name place.File4 = codes "FILE4"
positional_name place.File5 = codes "FILE5"
positional_name place.File6 = codes "FILE6"
positional_name place.File7 = codes "FILE7"
positional_name place.File8 = codes "FILE8"
positional_name place.Sizes = codes "BYTES"

abbrev pub form_of_number : NumberOption → NumberForm
form_of_number number.Steps = steps_form
form_of_number number.Cache = cache_form
form_of_number number.Block = block_form
form_of_number number.Heap = heap_form
form_of_number number.Stack = stack_form
form_of_number number.Events = events_form
form_of_number number.Seed = seed_form
form_of_number number.Rate = rate_form

abbrev pub flag_name : Flag → Text
flag_name flag_named.State = codes "state"
flag_name flag_named.Calls = codes "calls"
flag_name flag_named.Stats = codes "stats"
flag_name flag_named.Last = codes "last"
flag_name flag_named.Ring = codes "ring"
flag_name flag_named.WholeLoops = codes "whole-loops"

abbrev pub argument_name : Argument → Text
argument_name (argument.Positional p) = positional_name p
argument_name (argument.Further p) = positional_name p
argument_name (argument.Many p) = positional_name p
argument_name (argument.Number n) = (form_of_number n).name
argument_name (argument.Flag f) = flag_name f

abbrev pub rule_of_argument : Argument → Rule
rule_of_argument (argument.Positional p) = positional (positional_name p)
rule_of_argument (argument.Further p) = further (positional_name p)
rule_of_argument (argument.Many p) = many (positional_name p)
rule_of_argument (argument.Number n) = option (form_of_number n).name
rule_of_argument (argument.Flag f) = flag (flag_name f)

abbrev pub form_of : CommandName → Form
form_of name.Rewrite = rewrite_form
form_of name.Cached = cached_form
form_of name.Plain = plain_form
form_of name.Trace = trace_form
form_of name.Listing = list_form
form_of name.Check = check_form
form_of name.Upgrade = upgrade_form
form_of name.Measure = measure_form
form_of name.Share = share_form
form_of name.Prefetch = prefetch_form
form_of name.Survey = survey_form
form_of name.Profile = profile_form
