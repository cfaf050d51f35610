-- The command line: which words ask for which command. Over the meaning that the crate `clap`
-- states of a command without subcommands: `fault_of`, which is empty where it takes the words, and
-- `matches_of`, the values that the words give each argument.
use Rattle.std.specs.Prelude.{◌≡◌, ◌≤◌, ◌<◌, ◌^◌, ◌-◌, ◌%◌, ◌==◌, ◌&&◌, ℕ, Bool, true, false, List, [], ◌∷◌, All, length, map, nat_le, codes, Option, Some, None, option_map, option_and_then, find, string_bytes, if◌then◌else◌}
use Rattle.std.specs.Option.{option_map_or}
use Rattle.std.specs.Str.{all_ascii_digits, bytes_eq}
use Rattle.std.specs.Str.Parse.{digits_value}
use Rattle.clap.specs.Words.{App, Row, Rule, Text, new_app, new_rule, with_rule, fault_of, matches_of, all_of, first_of}
use Rattle.clap.specs.Simple.{on_top}
use Rattle.clap.specs.Kinds.{Kinds}
use Rattle.clap.specs.declared.builder.action.ArgAction.TheVariants.{Append, Set, SetTrue}
use Rattle.swi_command.specs.declared.command.CacheKind.{CacheKind}
use Rattle.swi_command.specs.declared.command.CacheKind.TheVariants.{Slots, Ring}
use Rattle.swi_command.specs.declared.command.CacheOptions.{CacheOptions}
use Rattle.swi_command.specs.declared.command.Command.{Command}
use Rattle.swi_command.specs.declared.command.Command.TheVariants as parsed
use Rattle.swi_command.specs.declared.command.Reports.{Reports}
use Rattle.swi_command.specs.declared.command.RunLimits.{RunLimits}
use Rattle.swi_command.specs.declared.command.RunOptions.{RunOptions}
use Rattle.swi_command.specs.declared.command.Schedule.{Schedule}
use Rattle.swi_command.specs.declared.command.ShareOptions.{ShareOptions}
use Rattle.swi_line.specs.declared.trace.Trace.{Trace}
use Rattle.swi_line.specs.declared.trace.Trace.TheVariants.{Off, Each, Last}

-- ---- numbers

-- the number that a text writes, which is 1 to 19 decimal digits and nothing else
abbrev pub number : Text → Option ℕ
number t =
    if all_ascii_digits t && (nat_le 1 (length t) && nat_le (length t) 19)
    then Some (digits_value 10 t) else None

-- the same where it lies from `least` to `most` and is a multiple of `unit`
abbrev pub number_in : ℕ → ℕ → ℕ → Text → Option ℕ
number_in least most unit t = option_and_then
    (λ n. if nat_le least n && (nat_le n most && (n % unit == 0)) then Some n else None) (number t)

-- an option with a number: its name, its least and greatest, the number of which it is a multiple,
-- and what stands where the words do not give it
pub record NumberForm : Type 0 where
  pub name : Text
  pub least : ℕ
  pub most : ℕ
  pub unit : ℕ
  pub default : ℕ

abbrev pub number_form : Text → ℕ → ℕ → ℕ → ℕ → NumberForm
number_form name least most unit default =
    record { name = name; least = least; most = most; unit = unit; default = default }

-- the most steps of a run
abbrev pub steps_form : NumberForm
steps_form = number_form (codes "steps") 0 (2 ^ 48) 1 1000000000

-- bytes of the cache
abbrev pub cache_form : NumberForm
cache_form = number_form (codes "cache") 8 (2 ^ 32 - 1) 1 4096

-- words of a block
abbrev pub block_form : NumberForm
block_form = number_form (codes "block") 2 1024 1 64

-- bytes of the heap
abbrev pub heap_form : NumberForm
heap_form = number_form (codes "heap") 0 67108864 1 1048576

-- bytes of the stack
abbrev pub stack_form : NumberForm
stack_form = number_form (codes "stack") 4096 16777216 16 65536

-- the most events of a schedule
abbrev pub events_form : NumberForm
events_form = number_form (codes "events") 0 (2 ^ 32 - 1) 1 1000000

-- the number that a schedule is made of
abbrev pub seed_form : NumberForm
seed_form = number_form (codes "seed") 0 (2 ^ 32 - 1) 1 0

-- events of the engine for each one of the hart
abbrev pub rate_form : NumberForm
rate_form = number_form (codes "rate") 0 1024 1 1

-- ---- what the matches give

-- the number of an option, or its default where the words do not give it
abbrev pub number_of : NumberForm → List Row → Option ℕ
number_of form rows = option_map_or (number_in form.least form.most form.unit)
    (first_of form.name rows) (Some form.default)

-- the number from `least` to `most` that must be given at a place
abbrev pub number_at : Text → ℕ → ℕ → List Row → Option ℕ
number_at name least most rows = option_and_then (number_in least most 1) (first_of name rows)

-- the flag was given
abbrev pub is_set : Text → List Row → Bool
is_set name rows = option_map_or (λ t. bytes_eq t (codes "true")) (first_of name rows) false

-- the limits of a run
abbrev pub limits_of : List Row → Option RunLimits
limits_of rows = option_and_then (λ n. option_and_then (λ h. option_map (λ s. record {
  steps = n;
  heap = h;
  stack = s;
}) (number_of stack_form rows)) (number_of heap_form rows)) (number_of steps_form rows)

-- what is written of a run
abbrev pub reports_of : List Row → Reports
reports_of rows = record {
  state = is_set (codes "state") rows;
  calls = is_set (codes "calls") rows;
  stats = is_set (codes "stats") rows;
  trace = Off;
}

abbrev pub options_of : List Row → Option RunOptions
options_of rows =
    option_map (λ l. record { limits = l; reports = reports_of rows }) (limits_of rows)

-- of a run whose steps are told nothing else is written: each step has its line, or only the last ones have
abbrev pub trace_of : List Row → Trace
trace_of rows = if is_set (codes "last") rows then Last else Each

abbrev pub trace_options_of : List Row → Option RunOptions
trace_options_of rows = option_map (λ l. record {
  limits = l;
  reports = record { state = false; calls = false; stats = false; trace = trace_of rows };
}) (limits_of rows)

-- how blocks stand in the cache
abbrev pub kind_of : List Row → CacheKind
kind_of rows = if is_set (codes "ring") rows then Ring else Slots

-- a cache in which blocks stand so, with its sizes
abbrev pub cache_with : CacheKind → List Row → Option CacheOptions
cache_with kind rows = option_and_then (λ c. option_map (λ b. record {
  cache_bytes = c;
  block_words = b;
  kind = kind;
}) (number_of block_form rows)) (number_of cache_form rows)

-- the cache: its sizes, and how blocks stand in it
abbrev pub cache_of : List Row → Option CacheOptions
cache_of rows = cache_with (kind_of rows) rows

-- the seed of a program that is made, and how many functions it has
abbrev pub seed_of : List Row → Option ℕ
seed_of rows = number_at (codes "SEED") 0 (2 ^ 32 - 1) rows

abbrev pub count_of : List Row → Option ℕ
count_of rows = number_at (codes "COUNT") 1 4096 rows

-- the names of the places at which files may stand behind the second one
abbrev pub more_places : List Text
more_places = codes "FILE3" ∷ codes "FILE4" ∷ codes "FILE5" ∷ codes "FILE6" ∷ codes "FILE7" ∷ codes "FILE8" ∷ []

-- a word that is given, and further ones
abbrev pub with_given : Option Text → List Text → List Text
with_given None others = others
with_given (Some word) others = word ∷ others

-- the words that are given at these places
abbrev pub given_at : List Text → List Row → List Text
given_at [] rows = []
given_at (name ∷ names) rows = with_given (first_of name rows) (given_at names rows)

-- the files of programs that share a cache: two, and up to six more
abbrev pub shared_files : List Row → Option (List Text)
shared_files rows = option_and_then (λ a. option_map (λ b. a ∷ b ∷ given_at more_places rows)
    (first_of (codes "FILE2") rows)) (first_of (codes "FILE1") rows)

-- the order of their events
abbrev pub schedule_of : List Row → Option Schedule
schedule_of rows = option_and_then (λ n. option_map (λ s. record { events = n; seed = s })
    (number_of seed_form rows)) (number_of events_form rows)

abbrev pub share_options_of : List Row → Option ShareOptions
share_options_of rows = option_and_then (λ o. option_and_then (λ h. option_map (λ s. record {
  schedule = o;
  heap = h;
  stack = s;
  stats = is_set (codes "stats") rows;
}) (number_of stack_form rows)) (number_of heap_form rows)) (schedule_of rows)

-- the sizes of caches that texts write, each as the option for the cache takes it
abbrev pub sizes_in : List Text → Option (List ℕ)
sizes_in [] = Some []
sizes_in (t ∷ ts) = option_and_then (λ n. option_map (λ ns. n ∷ ns) (sizes_in ts)) (number_in cache_form.least cache_form.most cache_form.unit t)

-- at least one of them, and at most 64
abbrev pub few_sizes : List ℕ → Option (List ℕ)
few_sizes ns = if nat_le 1 (length ns) && nat_le (length ns) 64 then Some ns else None

abbrev pub sizes_of : List Row → Option (List ℕ)
sizes_of rows = option_and_then few_sizes (option_and_then sizes_in (all_of (codes "BYTES") rows))

-- ---- what words ask for

-- a command with the names of its files and its options
pub data Request : Type 0 where
  RewriteFile : (input : Text) (output : Text) (block_words : ℕ) (whole_loops : Bool) → Request
  RunCached : (file : Text) (cache : CacheOptions) (options : RunOptions) → Request
  RunPlain : (file : Text) (options : RunOptions) → Request
  ListFile : (file : Text) (block_words : ℕ) → Request
  CheckFile : (file : Text) → Request
  UpgradeFile : (input : Text) (output : Text) → Request
  MeasureMade : (seed : ℕ) (functions : ℕ) (cache : CacheOptions) → Request
  RunShared : (files : List Text) (cache : CacheOptions) (options : ShareOptions) → Request
  RunAhead : (file : Text) (cache : CacheOptions) (options : RunOptions) (rate : ℕ) → Request
  RunSurvey : (file : Text) (sizes : List ℕ) (block_words : ℕ) (kind : CacheKind) (limits : RunLimits) → Request
  RunProfile : (file : Text) (limits : RunLimits) → Request

abbrev pub rewrite_request : List Row → Option Request
rewrite_request rows = option_and_then (λ i. option_and_then (λ o.
    option_map (λ b. RewriteFile i o b (is_set (codes "whole-loops") rows)) (number_of block_form rows))
    (first_of (codes "OUT") rows)) (first_of (codes "IN") rows)

abbrev pub cached_request : List Row → Option Request
cached_request rows = option_and_then (λ f. option_and_then (λ c.
    option_map (λ o. RunCached f c o) (options_of rows))
    (cache_of rows)) (first_of (codes "FILE") rows)

-- `trace` asks for the run that `cached` makes, with lines of its steps
abbrev pub trace_request : List Row → Option Request
trace_request rows = option_and_then (λ f. option_and_then (λ c.
    option_map (λ o. RunCached f c o) (trace_options_of rows))
    (cache_of rows)) (first_of (codes "FILE") rows)

abbrev pub plain_request : List Row → Option Request
plain_request rows = option_and_then (λ f.
    option_map (λ o. RunPlain f o) (options_of rows)) (first_of (codes "FILE") rows)

abbrev pub list_request : List Row → Option Request
list_request rows = option_and_then (λ f.
    option_map (λ b. ListFile f b) (number_of block_form rows)) (first_of (codes "FILE") rows)

abbrev pub check_request : List Row → Option Request
check_request rows = option_map (λ f. CheckFile f) (first_of (codes "FILE") rows)

abbrev pub upgrade_request : List Row → Option Request
upgrade_request rows = option_and_then (λ i.
    option_map (λ o. UpgradeFile i o) (first_of (codes "OUT") rows)) (first_of (codes "IN") rows)

abbrev pub measure_request : List Row → Option Request
measure_request rows = option_and_then (λ s. option_and_then (λ n.
    option_map (λ c. MeasureMade s n c) (cache_of rows)) (count_of rows)) (seed_of rows)

-- the programs stand in slots, and so does the one beside which an engine copies
abbrev pub share_request : List Row → Option Request
share_request rows = option_and_then (λ fs. option_and_then (λ c.
    option_map (λ o. RunShared fs c o) (share_options_of rows))
    (cache_with Slots rows)) (shared_files rows)

abbrev pub prefetch_request : List Row → Option Request
prefetch_request rows = option_and_then (λ f. option_and_then (λ c. option_and_then (λ o.
    option_map (λ n. RunAhead f c o n) (number_of rate_form rows)) (options_of rows))
    (cache_with Slots rows)) (first_of (codes "FILE") rows)

abbrev pub profile_request : List Row → Option Request
profile_request rows = option_and_then (λ f.
    option_map (λ l. RunProfile f l) (limits_of rows)) (first_of (codes "FILE") rows)

-- all caches are of one kind, and of one cut
abbrev pub survey_request : List Row → Option Request
survey_request rows = option_and_then (λ f. option_and_then (λ ns. option_and_then (λ b.
    option_map (λ l. RunSurvey f ns b (kind_of rows) l) (limits_of rows)) (number_of block_form rows))
    (sizes_of rows)) (first_of (codes "FILE") rows)

-- ---- the commands as `clap` takes them

-- a word that must be given, by its place
abbrev pub positional : Text → Rule
positional name = record (new_rule name) { required = true }

-- a word that may be given, by its place behind those that must be
abbrev pub further : Text → Rule
further name = record (new_rule name) { required = false }

-- one or more words, by their places behind all others
abbrev pub many : Text → Rule
many name = record (new_rule name) { required = true; action = Some Append }

-- `--name value`
abbrev pub option : Text → Rule
option name = record (new_rule name) { long = Some name; action = Some Set }

-- `--name`
abbrev pub flag : Text → Rule
flag name = record (new_rule name) { long = Some name; action = Some SetTrue }

-- a command with no help flag, which `clap` would add
abbrev pub command : Text → App
command name = on_top (λ s. record s { disable_help_flag = true }) (new_app name)

abbrev pub with_rules : App → List Rule → App
with_rules a [] = a
with_rules a (r ∷ rs) = with_rules (with_rule a r) rs

-- ---- the table of the commands

-- a command's name, the arguments that it takes, and what their matches ask for
pub record Form : Type 0 where
  pub name : Text
  pub rules : List Rule
  pub request : List Row → Option Request

-- IN OUT --block n --whole-loops
abbrev pub rewrite_form : Form
rewrite_form = record {
  name = codes "rewrite";
  rules = positional (codes "IN") ∷ positional (codes "OUT") ∷ option (codes "block")
      ∷ flag (codes "whole-loops") ∷ [];
  request = rewrite_request;
}

-- FILE --steps n --cache n --block n --heap n --stack n --ring --state --calls --stats
abbrev pub cached_form : Form
cached_form = record {
  name = codes "cached";
  rules = positional (codes "FILE") ∷ option (codes "steps") ∷ option (codes "cache")
      ∷ option (codes "block") ∷ option (codes "heap") ∷ option (codes "stack")
      ∷ flag (codes "ring") ∷ flag (codes "state") ∷ flag (codes "calls") ∷ flag (codes "stats") ∷ [];
  request = cached_request;
}

-- FILE --steps n --heap n --stack n --state --calls --stats
abbrev pub plain_form : Form
plain_form = record {
  name = codes "plain";
  rules = positional (codes "FILE") ∷ option (codes "steps") ∷ option (codes "heap")
      ∷ option (codes "stack") ∷ flag (codes "state") ∷ flag (codes "calls")
      ∷ flag (codes "stats") ∷ [];
  request = plain_request;
}

-- FILE --steps n --cache n --block n --heap n --stack n --ring --last
abbrev pub trace_form : Form
trace_form = record {
  name = codes "trace";
  rules = positional (codes "FILE") ∷ option (codes "steps") ∷ option (codes "cache")
      ∷ option (codes "block") ∷ option (codes "heap") ∷ option (codes "stack")
      ∷ flag (codes "ring") ∷ flag (codes "last") ∷ [];
  request = trace_request;
}

-- FILE --block n
abbrev pub list_form : Form
list_form = record {
  name = codes "list";
  rules = positional (codes "FILE") ∷ option (codes "block") ∷ [];
  request = list_request;
}

-- FILE
abbrev pub check_form : Form
check_form = record {
  name = codes "check";
  rules = positional (codes "FILE") ∷ [];
  request = check_request;
}

-- IN OUT
abbrev pub upgrade_form : Form
upgrade_form = record {
  name = codes "upgrade";
  rules = positional (codes "IN") ∷ positional (codes "OUT") ∷ [];
  request = upgrade_request;
}

-- SEED COUNT --cache n --block n --ring
abbrev pub measure_form : Form
measure_form = record {
  name = codes "measure";
  rules = positional (codes "SEED") ∷ positional (codes "COUNT") ∷ option (codes "cache")
      ∷ option (codes "block") ∷ flag (codes "ring") ∷ [];
  request = measure_request;
}

-- FILE FILE, up to six FILE more, --events n --seed n --cache n --block n --heap n --stack n --stats
abbrev pub share_form : Form
share_form = record {
  name = codes "share";
  rules = positional (codes "FILE1") ∷ positional (codes "FILE2") ∷ further (codes "FILE3")
      ∷ further (codes "FILE4") ∷ further (codes "FILE5") ∷ further (codes "FILE6")
      ∷ further (codes "FILE7") ∷ further (codes "FILE8") ∷ option (codes "events")
      ∷ option (codes "seed") ∷ option (codes "cache") ∷ option (codes "block")
      ∷ option (codes "heap") ∷ option (codes "stack") ∷ flag (codes "stats") ∷ [];
  request = share_request;
}

-- FILE --rate n --steps n --cache n --block n --heap n --stack n --state --calls --stats
abbrev pub prefetch_form : Form
prefetch_form = record {
  name = codes "prefetch";
  rules = positional (codes "FILE") ∷ option (codes "rate") ∷ option (codes "steps")
      ∷ option (codes "cache") ∷ option (codes "block") ∷ option (codes "heap")
      ∷ option (codes "stack") ∷ flag (codes "state") ∷ flag (codes "calls") ∷ flag (codes "stats") ∷ [];
  request = prefetch_request;
}

-- FILE BYTES, up to 63 BYTES more, --steps n --block n --heap n --stack n --ring
abbrev pub survey_form : Form
survey_form = record {
  name = codes "survey";
  rules = positional (codes "FILE") ∷ many (codes "BYTES") ∷ option (codes "steps")
      ∷ option (codes "block") ∷ option (codes "heap") ∷ option (codes "stack") ∷ flag (codes "ring") ∷ [];
  request = survey_request;
}

-- FILE --steps n --heap n --stack n
abbrev pub profile_form : Form
profile_form = record {
  name = codes "profile";
  rules = positional (codes "FILE") ∷ option (codes "steps") ∷ option (codes "heap") ∷ option (codes "stack") ∷ [];
  request = profile_request;
}

abbrev pub forms : List Form
forms = rewrite_form ∷ cached_form ∷ plain_form ∷ trace_form ∷ list_form ∷ check_form ∷ upgrade_form ∷ measure_form
    ∷ share_form ∷ prefetch_form ∷ survey_form ∷ profile_form ∷ []

-- the command of a name
unfoldable pub form_named : Text → Option Form
form_named name = find (λ form. bytes_eq name form.name) forms

-- ---- what the words ask for

-- the matches of words at which no kind of error may come
abbrev pub without_fault : Kinds → List Row → Option (List Row)
without_fault [] rows = Some rows
without_fault (k ∷ ks) rows = None

-- what the words give a command's arguments, where the command takes them
unfoldable pub matches_on : App → List Text → Option (List Row)
matches_on a words = without_fault (fault_of a words) (matches_of a words)

-- a command as `clap` takes it
abbrev pub app_by : Form → App
app_by form = with_rules (command form.name) form.rules

abbrev pub request_by : List Text → Form → Option Request
request_by words form = option_and_then form.request (matches_on (app_by form) words)

-- the command that the first of the words names
unfoldable pub form_first : List Text → Option Form
form_first [] = None
form_first (name ∷ rest) = form_named name

-- what the words after the program's name ask for: the first names the command, and it reads the rest
unfoldable pub command_of : List Text → Option Request
command_of words = option_and_then (request_by words) (form_first words)

-- what a command asks for
abbrev pub request_of : Command → Request
request_of (parsed.Rewrite c) = RewriteFile (string_bytes c.input) (string_bytes c.output) c.block_words c.whole_loops
request_of (parsed.Cached c) = RunCached (string_bytes c.file) c.cache c.options
request_of (parsed.Plain c) = RunPlain (string_bytes c.file) c.options
request_of (parsed.List c) = ListFile (string_bytes c.file) c.block_words
request_of (parsed.Check c) = CheckFile (string_bytes c.file)
request_of (parsed.Upgrade c) = UpgradeFile (string_bytes c.input) (string_bytes c.output)
request_of (parsed.Measure c) = MeasureMade c.seed c.functions c.cache
request_of (parsed.Share c) = RunShared (map (λ f. string_bytes f) c.files.items) c.cache c.options
request_of (parsed.Prefetch c) = RunAhead (string_bytes c.file) c.cache c.options c.rate
request_of (parsed.Survey c) = RunSurvey (string_bytes c.file) c.sizes.items c.block_words c.kind c.limits
request_of (parsed.Profile c) = RunProfile (string_bytes c.file) c.limits

-- ---- ranges

-- words of a block
pub record IsBlockSize (words : ℕ) : Type 0 where
  pub least : 2 ≤ words
  pub most : words ≤ 1024

-- the sizes of the cache and of its blocks lie in their options' ranges
pub record IsCacheInRange (o : CacheOptions) : Type 0 where
  pub cache_least : 8 ≤ o.cache_bytes
  pub cache_most : o.cache_bytes < 2 ^ 32
  pub block : IsBlockSize o.block_words

-- the limits of a run lie in their options' ranges
pub record IsInRange (o : RunLimits) : Type 0 where
  pub steps : o.steps ≤ 2 ^ 48
  pub heap : o.heap ≤ 67108864
  pub stack_least : 4096 ≤ o.stack
  pub stack_most : o.stack ≤ 16777216
  pub stack_aligned : o.stack % 16 ≡ 0

-- how many functions a program that is made can have
pub record IsFunctionCount (functions : ℕ) : Type 0 where
  pub least : 1 ≤ functions
  pub most : functions ≤ 4096

-- how many programs can share a cache
pub record IsShareCount (programs : ℕ) : Type 0 where
  pub least : 2 ≤ programs
  pub most : programs ≤ 8

-- the limits of programs that share a cache lie in their options' ranges
pub record IsShareInRange (o : ShareOptions) : Type 0 where
  pub events : o.schedule.events < 2 ^ 32
  pub seed : o.schedule.seed < 2 ^ 32
  pub heap : o.heap ≤ 67108864
  pub stack_least : 4096 ≤ o.stack
  pub stack_most : o.stack ≤ 16777216
  pub stack_aligned : o.stack % 16 ≡ 0

-- how many sizes of caches there are, and each of them
pub record AreSizes (sizes : List ℕ) : Type 0 where
  pub some : 1 ≤ length sizes
  pub few : length sizes ≤ 64
  pub ranges : All (λ n. (8 ≤ n) × (n < 2 ^ 32)) sizes

-- and so do those of a command
abbrev pub HasLimitsInRange : Command → Type 0
HasLimitsInRange (parsed.Rewrite c) = IsBlockSize c.block_words
HasLimitsInRange (parsed.Cached c) = IsCacheInRange c.cache × IsInRange c.options.limits
HasLimitsInRange (parsed.Plain c) = IsInRange c.options.limits
HasLimitsInRange (parsed.List c) = IsBlockSize c.block_words
HasLimitsInRange (parsed.Check c) = Unit
HasLimitsInRange (parsed.Upgrade c) = Unit
HasLimitsInRange (parsed.Measure c) = IsFunctionCount c.functions × IsCacheInRange c.cache
HasLimitsInRange (parsed.Share c) = IsShareCount (length c.files.items) × (IsCacheInRange c.cache × IsShareInRange c.options)
HasLimitsInRange (parsed.Prefetch c) = IsCacheInRange c.cache × (IsInRange c.options.limits × c.rate ≤ 1024)
HasLimitsInRange (parsed.Survey c) = AreSizes c.sizes.items × (IsBlockSize c.block_words × IsInRange c.limits)
HasLimitsInRange (parsed.Profile c) = IsInRange c.limits
