-- The summary of a run of a program that was made from a number, as text.
use Rattle.std.specs.Prelude.{ℕ, List, [], ◌∷◌, ◌++◌, codes, Some}
use Rattle.std.specs.List.{flat_map}
use Rattle.swi_report.specs.Stats.{count_line, stats_text_of}
use Rattle.swi_report.specs.declared.stats.Work.{Work}
use Rattle.swi_report.specs.declared.summary.Measured.{Measured}

-- the program and its exit
unfoldable pub head_counts : Measured → List (List ℕ × ℕ)
head_counts m = (codes "functions", m.functions) ∷ (codes "text", m.text) ∷ (codes "blocks", m.blocks)
    ∷ (codes "exit", m.exit) ∷ []

abbrev pub head_text : Measured → List ℕ
head_text m = flat_map (λ c. count_line c.0 c.1) (head_counts m)

-- and the counts of the cached machine
abbrev pub summary_text_of : Measured → ℕ → Work → List ℕ
summary_text_of m steps w = head_text m ++ stats_text_of steps (Some w)
