-- The slot to which each word is linked, as the lists tell.
use Rattle.std.specs.Prelude.{ℕ, zero, suc, ◌+◌, List, [], ◌∷◌}
use Rattle.swi_links.specs.Chains.{ChainsData}
use Rattle.swi_links.specs.Holders.{holder_of}

-- of n words from the i-th on
unfoldable pub targets_from : List (List ℕ) → ℕ → ℕ → List ℕ
targets_from lists i zero = []
targets_from lists i (suc n) = holder_of lists i ∷ targets_from lists (i + 1) n

abbrev pub targets_of : ChainsData → List ℕ
targets_of c = targets_from c.lists 0 c.words
