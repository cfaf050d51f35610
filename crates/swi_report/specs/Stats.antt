-- The counts of a run as text.
use Rattle.std.specs.Prelude.{ℕ, List, [], ◌∷◌, ◌++◌, codes, decimal, Option, Some, None}
use Rattle.std.specs.List.{flat_map}
use Rattle.swi_report.specs.declared.stats.Work.{Work}

-- a count and its name
abbrev pub count_line : List ℕ → ℕ → List ℕ
count_line name count = name ++ codes " " ++ decimal count ++ codes "\n"

-- the counts of the cached machine
unfoldable pub work_counts : Work → List (List ℕ × ℕ)
work_counts w = (codes "instructions", w.machine) ∷ (codes "services", w.counts.services)
    ∷ (codes "misses", w.counts.misses) ∷ (codes "evictions", w.counts.evictions)
    ∷ (codes "links", w.counts.links) ∷ (codes "unlinks", w.counts.unlinks)
    ∷ (codes "fetches", w.fetches) ∷ (codes "writes", w.writes) ∷ []

abbrev pub work_text : Work → List ℕ
work_text w = flat_map (λ c. count_line c.0 c.1) (work_counts w)

-- the steps, and on the cached machine what else it has done
abbrev pub stats_text_of : ℕ → Option Work → List ℕ
stats_text_of steps None = count_line (codes "steps") steps
stats_text_of steps (Some w) = count_line (codes "steps") steps ++ work_text w
