-- What a survey tells of its caches is what `cached --stats` counts with them.
use Rattle.std.proofs.Common.{◌≡◌, ℕ, ◌+◌, ◌-◌, ◌^◌, ◌<◌, ◌≤◌, min, List, [], ◌∷◌, ◌++◌, length, map, codes, decimal, get_or, slice_get, Option, Some, refl, sym, ◌∙◌, ap, arith, false}
use Rattle.std.proofs.lemmas.Option.{slice_get-get_or, slice_get-map}
use Rattle.std.specs.List.{flat_map}
use Rattle.std.specs.Prelude.{option_map, slice_index}
use Rattle.swi_memory.specs.declared.layout.Layout.{Layout}
use Rattle.swi_program.specs.Program.{ProgramData}
use Rattle.swi_image.specs.Format.{ImageData}
use Rattle.swi_command.specs.declared.command.CacheKind.{CacheKind}
use Rattle.swi_command.specs.declared.command.CacheKind.TheVariants as kind
use Rattle.swi_command.specs.declared.command.RunLimits.{RunLimits}
use Rattle.swi_calls.specs.Flat.{machine_of}
use Rattle.swi_rom.specs.Record.{Record, writes}
use Rattle.swi_report.specs.declared.stats.Work.{Work}
use Rattle.swi_cached.specs.Cached.{record_after}
use Rattle.swi_cached_task.specs.Caching.{work_of}
use Rattle.swi_tally.specs.Tallies.{Row, row_at}
use Rattle.swi_survey.specs.declared.survey.Surveyed.{Surveyed}
use Rattle.swi_survey.specs.Survey as survey
use Rattle.swi_task.proofs.Due.{left_empty, right_empty, some_bytes}
use Rattle.swi_survey_command.specs.Frames.{frame_by}
use Rattle.swi_survey_command.specs.Rows.{CountsAs, size_line, spaced, stats_numbers, work_by}
use Rattle.swi_survey_command.specs.RunSurvey.{SurveyRun, limit_of, line_through, run_through, survey_from, survey_lines, surveyed}

-- the survey as it runs
abbrev pub run_as : CacheKind → List ℕ → RunLimits → ImageData → ProgramData → Layout → survey.Survey
run_as k sizes limits v p l = record { image = v; frames = map (frame_by k v.block_words) sizes; first = machine_of p l false; limit = limits.steps }

-- a cache of its frame keeps what the cache of its size keeps
record_is : (k : CacheKind) (sizes : List ℕ) (limits : RunLimits) (v : ImageData) (p : ProgramData) (l : Layout) (input : List ℕ) (bytes : ℕ) →
    survey.record_of (run_as k sizes limits v p l) (frame_by k v.block_words bytes) input ≡ record_after (run_through (survey_from k sizes limits v p l input) bytes) limits.steps
record_is kind.Slots sizes limits v p l input bytes = refl
record_is kind.Ring sizes limits v p l input bytes = refl

same_row : (a b : Row) → Some a ≡ Some b → a ≡ b
same_row a b e = cc

work_with : ℕ → ℕ → Record → Work
work_with machine fetches r = record { machine = machine; fetches = fetches; writes = min (writes r) (2 ^ 64 - 1); counts = r.counts }

work_as : (s : Surveyed) (r : Record) (machine fetches : ℕ) → s.instructions ≡ machine → s.fetches ≡ fetches → work_by s r ≡ work_with machine fetches r
unfolding work_with
work_as s r machine fetches e f = ap (λ (n : ℕ). work_with n s.fetches r) e ∙ ap (λ (n : ℕ). work_with machine n r) f

pub counts_as : (k : CacheKind) (sizes : List ℕ) (limits : RunLimits) (v : ImageData) (p : ProgramData) (l : Layout) (input : List ℕ) (s : Surveyed) →
    survey.Tells (run_as k sizes limits v p l) input s → CountsAs s sizes (λ bytes. work_of (run_through (survey_from k sizes limits v p l input) bytes))
unfolding work_with
counts_as k sizes limits v p l input s tells = λ i r lt at.
    let bytes : ℕ = slice_index sizes i in
    let all = run_as k sizes limits v p l in
    let f = frame_by k v.block_words bytes in
    let framed : slice_get (map (frame_by k v.block_words) sizes) i ≡ Some f =
    slice_get-map (frame_by k v.block_words) sizes i ∙ ap (λ (o : Option ℕ). option_map (frame_by k v.block_words) o) (slice_get-get_or sizes i 0 lt) in
    let same : r ≡ survey.row_of all f input = same_row r (survey.row_of all f input) (sym at ∙ tells.rows i f framed) in
    ap (λ (q : Row). work_by s q.kept) same
    ∙ ap (λ (q : Record). work_by s q) (record_is k sizes limits v p l input bytes)
    ∙ work_as s (record_after (run_through (survey_from k sizes limits v p l input) bytes) limits.steps) (survey.instructions_of all input) (survey.fetches_of all input) tells.instructions tells.fetches

-- so the lines are those of the survey
pub lines_are : (r : SurveyRun) (steps : ℕ) → steps ≡ (surveyed r (limit_of r)).machine.steps →
    flat_map (λ bytes. size_line bytes steps (work_of (run_through r bytes))) r.sizes ≡ survey_lines r
lines_are r steps e = ap (λ (n : ℕ). flat_map (λ bytes. size_line bytes n (work_of (run_through r bytes))) r.sizes) e

-- ---- there is something to write

line_some : (bytes steps : ℕ) (w : Work) → size_line bytes steps w ≡ [] → ⊥
line_some bytes steps w e = some_bytes _ _ (right_empty (flat_map spaced (stats_numbers steps w)) (codes "\n") (right_empty (decimal bytes) (flat_map spaced (stats_numbers steps w) ++ codes "\n") e))

some_lines : (f : ℕ → List ℕ) (sizes : List ℕ) → ((bytes : ℕ) → f bytes ≡ [] → ⊥) → 1 ≤ length sizes → flat_map f sizes ≡ [] → ⊥
some_lines f [] never some e = omega (arith, some)
some_lines f (bytes ∷ sizes) never some e = never bytes (left_empty (f bytes) (flat_map f sizes) e)

pub lines_some : (r : SurveyRun) → 1 ≤ length r.sizes → survey_lines r ≡ [] → ⊥
lines_some r some e = some_lines (line_through r) r.sizes (λ bytes. line_some bytes _ _) some e
