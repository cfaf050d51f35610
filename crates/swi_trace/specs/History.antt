-- The last of many addresses.
use Rattle.std.specs.Prelude.{◌≡◌, ℕ, ◌-◌, List, length, drop}

-- the last n of a list, or the whole where it has fewer
abbrev pub last_of : ℕ → List ℕ → List ℕ
last_of n xs = drop (length xs - n) xs

-- these are the last 32 of the pushed addresses, or all where there are fewer, oldest first
abbrev pub IsLastOf : List ℕ → List ℕ → Type 0
IsLastOf pushed held = held ≡ last_of 32 pushed
