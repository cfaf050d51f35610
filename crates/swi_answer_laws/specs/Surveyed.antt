-- A line of `survey` tells what `cached --stats` counts with that size.
use Rattle.std.specs.Prelude.{◌≡◌, ℕ, List, ◌++◌, Some, Ok}
use Rattle.std.specs.List.{flat_map}
use Rattle.std.specs.Io.KnownBytes.{Appends}
use Rattle.swi_outside.specs.CacheRam.{RamState}
use Rattle.swi_command.specs.declared.command.CacheKind.{CacheKind}
use Rattle.swi_command.specs.declared.command.CacheOptions.{CacheOptions}
use Rattle.swi_command.specs.declared.command.RunLimits.{RunLimits}
use Rattle.swi_command.specs.CommandLine.{RunCached, RunSurvey}
use Rattle.swi_report.specs.declared.stats.Work.{Work}
use Rattle.swi_report.specs.Stats.{stats_text_of}
use Rattle.swi_answer.specs.declared.answer.Ending.{Ending}
use Rattle.swi_survey_command.specs.Rows.{size_line}
use Rattle.swi_survey_command.specs.RunSurvey.{counting}
use Rattle.swi_answer_laws.specs.Answered.{Answer, Given, IsAnswerTo}

-- what a survey is asked for
pub record SurveyAsked : Type 0 where
  pub name : List ℕ
  pub sizes : List ℕ
  pub block : ℕ
  pub kind : CacheKind
  pub limits : RunLimits

-- `survey` of a file with this input, and `cached --stats` of it with a cache of so many bytes, of the same blocks, kind and limits
abbrev pub survey_given : SurveyAsked → List ℕ → List ℕ → RamState → Given
survey_given q file input ram = record { request = RunSurvey q.name q.sizes q.block q.kind q.limits; files = file; input = input; ram = ram }

abbrev pub cache_of : SurveyAsked → ℕ → CacheOptions
cache_of q bytes = record { cache_bytes = bytes; block_words = q.block; kind = q.kind }

abbrev pub cached_given : SurveyAsked → ℕ → List ℕ → List ℕ → RamState → Given
cached_given q bytes file input ram = record { request = RunCached q.name (cache_of q bytes) (counting q.limits); files = file; input = input; ram = ram }

-- An answer of a survey tells these steps, and this work of each size; behind the program's own bytes stands a line for each size.
pub record TellsWork (q : SurveyAsked) (a : Answer) : Type 0 where
  pub own : List ℕ
  pub steps : ℕ
  pub work : ℕ → Work
  pub output : Appends a.before.output.held a.after.output.held (own ++ flat_map (λ bytes. size_line bytes steps (work bytes)) q.sizes)

-- and an answer of `cached --stats` with one of the sizes tells the same behind the same bytes
abbrev pub IsTold : (q : SurveyAsked) (a : Answer) → TellsWork q a → ℕ → Answer → Type 0
IsTold q a t bytes b = Appends b.before.output.held b.after.output.held (t.own ++ stats_text_of t.steps (Some (t.work bytes)))

-- So it is where both have ended: whatever image each has chosen, for a file without one too.
abbrev pub SurveyIsCached : Type 0
SurveyIsCached = (q : SurveyAsked) (file input : List ℕ) (ram : RamState) (a : Answer) (e : Ending) → IsAnswerTo (survey_given q file input ram) a → a.result ≡ Ok e →
    (t : TellsWork q a) × ((bytes : ℕ) (ram_ : RamState) (b : Answer) (f : Ending) → IsAnswerTo (cached_given q bytes file input ram_) b → b.result ≡ Ok f → IsTold q a t bytes b)
