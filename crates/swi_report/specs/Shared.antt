-- The counts of programs that share a cache, as text.
use Rattle.std.specs.Prelude.{ℕ, List, [], ◌∷◌, codes}
use Rattle.std.specs.List.{flat_map}
use Rattle.swi_report.specs.Stats.{count_line}
use Rattle.swi_report.specs.declared.shared.SharedWork.{SharedWork}

unfoldable pub shared_counts : SharedWork → List (List ℕ × ℕ)
shared_counts w = (codes "instructions", w.instructions) ∷ (codes "misses", w.misses)
    ∷ (codes "evictions", w.evictions) ∷ (codes "links", w.links) ∷ (codes "unlinks", w.unlinks)
    ∷ (codes "writes", w.writes) ∷ []

abbrev pub shared_text_of : SharedWork → List ℕ
shared_text_of w = flat_map (λ c. count_line c.0 c.1) (shared_counts w)
