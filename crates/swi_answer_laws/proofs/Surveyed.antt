-- A line of `survey` tells what `cached --stats` counts with that size.
use Rattle.std.proofs.Common.{◌≡◌, ℕ, List, ◌++◌, Some, Ok, Result, subst}
use Rattle.std.specs.Io.KnownBytes.{Appends}
use Rattle.swi_image.specs.Format.{ImageData}
use Rattle.swi_calls.specs.State.{FlatState}
use Rattle.swi_cached.specs.Cached.{CachedRun}
use Rattle.swi_answer.specs.declared.answer.Ending.{Ending}
use Rattle.swi_answer.specs.declared.answer.Refusal.{Refusal}
use Rattle.swi_answer.specs.Lines.{ending_line}
use Rattle.swi_report.specs.Stats.{stats_text_of}
use Rattle.swi_task.specs.Runs.{start_of}
use Rattle.swi_cached_task.specs.Caching.{cache_for, cached_run, work_of}
use Rattle.swi_cached_command.specs.RunCached.{RunsCached}
use Rattle.swi_survey_command.specs.RunSurvey.{SurveyRun, counting, limit_of, run_through, survey_of, surveyed}
use Rattle.swi_answer_laws.specs.Answered.{Answer, Given, IsAnswerTo}
use Rattle.swi_answer_laws.specs.Surveyed.{SurveyAsked, SurveyIsCached, TellsWork, cache_of, cached_given, survey_given}
use Rattle.swi_answer_laws.proofs.Answers.{end, ended}
use Rattle.swi_answer_laws.proofs.Ended.{Ended}
use Rattle.swi_answer_laws.proofs.Parts.{image_is_one}

pub ended_as : (g : Given) (a : Answer) (e : Ending) → IsAnswerTo g a → a.result ≡ Ok e → Ended g.request g.files g.input (end a.before a.after e)
ended_as g a e x is = ended g a.before a.after e (subst (λ (r : Result Ending Refusal). IsAnswerTo g (record { before = a.before; after = a.after; result = r })) is x)

-- `cached --stats` with one of the sizes, of the survey's image
tells_same : (q : SurveyAsked) (file input : List ℕ) (v : ImageData) (bytes : ℕ) (b : Answer) (f : Ending) →
    RunsCached (counting q.limits) (run_through (survey_of q.kind q.sizes q.limits file v input) bytes) b.before b.after f (ending_line f) →
    Appends b.before.output.held b.after.output.held
    ((surveyed (survey_of q.kind q.sizes q.limits file v input) q.limits.steps).output
    ++ stats_text_of (surveyed (survey_of q.kind q.sizes q.limits file v input) q.limits.steps).machine.steps (Some (work_of (run_through (survey_of q.kind q.sizes q.limits file v input) bytes))))
tells_same q file input v bytes b f r = r.ran.output

pub survey_is_cached : SurveyIsCached
survey_is_cached q file input ram a e x is =
    let p = ended_as (survey_given q file input ram) a e x is in
    let does = p.answers.done file p.are in
    let v : ImageData = does.0 in
    let s : SurveyRun = survey_of q.kind q.sizes q.limits file v input in
    let last : FlatState = surveyed s (limit_of s) in
    let t : TellsWork q a = record { own = last.output; steps = last.machine.steps; work = λ bytes. work_of (run_through s bytes); output = (does.2 input p.told).ran.output } in (
      t,
      λ bytes ram_ b f y is_.
          let r = ended_as (cached_given q bytes file input ram_) b f y is_ in
          let runs = r.answers.done file r.are in
          let by : ImageData → CachedRun = λ w. cached_run (cache_for (cache_of q bytes) w) (counting q.limits) w (start_of (counting q.limits) file input) in
          let one : RunsCached (counting q.limits) (by v) b.before b.after f (ending_line f) =
          subst (λ (w : ImageData). RunsCached (counting q.limits) (by w) b.before b.after f (ending_line f)) (image_is_one file q.block runs.0 v runs.1 does.1) (runs.3 input r.told) in
          tells_same q file input v bytes b f one,
    )
