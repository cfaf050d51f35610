-- What a copy engine beside the cache's service has done, as text.
use Rattle.std.specs.Prelude.{ℕ, List, [], ◌∷◌, codes}
use Rattle.std.specs.List.{flat_map}
use Rattle.swi_report.specs.Stats.{count_line}
use Rattle.swi_report.specs.declared.engine.EngineWork.{EngineWork}

-- the counts of the engine
unfoldable pub engine_counts : EngineWork → List (List ℕ × ℕ)
engine_counts w = (codes "engine", w.words) ∷ (codes "prefetched", w.copies) ∷ []

abbrev pub engine_text_of : EngineWork → List ℕ
engine_text_of w = flat_map (λ c. count_line c.0 c.1) (engine_counts w)
