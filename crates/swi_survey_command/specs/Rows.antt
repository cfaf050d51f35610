-- What is written of each cache of a survey.
use Rattle.std.specs.Prelude.{◌≡◌, ℕ, ◌^◌, ◌-◌, ◌<◌, List, ◌∷◌, ◌++◌, length, map, min, codes, decimal, slice_index, Some}
use Rattle.std.specs.List.{flat_map}
use Rattle.swi_rom.specs.Record.{Record, writes}
use Rattle.swi_report.specs.declared.stats.Work.{Work}
use Rattle.swi_report.specs.Stats.{work_counts}
use Rattle.swi_tally.specs.Tallies.{Row, row_at}
use Rattle.swi_survey.specs.declared.survey.Surveyed.{Surveyed}

abbrev pub size_text : ℕ → List ℕ
size_text bytes = decimal bytes

-- a number behind a space
abbrev pub spaced : ℕ → List ℕ
spaced n = codes " " ++ decimal n

-- the numbers of `--stats`, in their order
abbrev pub stats_numbers : ℕ → Work → List ℕ
stats_numbers steps w = steps ∷ map (λ c. c.1) (work_counts w)

-- the line of a cache: its size, and behind it the numbers of `--stats`
abbrev pub size_line : ℕ → ℕ → Work → List ℕ
size_line bytes steps w = size_text bytes ++ (flat_map spaced (stats_numbers steps w) ++ codes "\n")

-- ---- as the functions say it

-- what a cache of a survey has done that keeps this
abbrev pub work_by : Surveyed → Record → Work
work_by s r = record { machine = s.instructions; fetches = s.fetches; writes = min (writes r) (2 ^ 64 - 1); counts = r.counts }

-- each cache has done what is told of its size
abbrev pub CountsAs : Surveyed → List ℕ → (ℕ → Work) → Type 0
CountsAs s sizes work = (k : ℕ) (r : Row) → k < length sizes → row_at s.caches k ≡ Some r → work_by s r.kept ≡ work (slice_index sizes k)
