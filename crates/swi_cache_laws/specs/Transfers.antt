-- Lists of transfers, the blocks that they enter, and the record to which they lead.
use Rattle.std.specs.Prelude.{ℕ, List, [], ◌∷◌, ◌++◌, fold, Option, Some, None}
use Rattle.swi_image.specs.Format.{ImageData}
use Rattle.swi_image.specs.Place.{place_of}
use Rattle.swi_rom.specs.Record.{Record, Transfer, indirect, target_of, empty_record}
use Rattle.swi_board.specs.Moments.{Policy}

-- the record behind transfers that a policy served one after the other
abbrev pub served_all : Policy → ImageData → Record → List Transfer → Record
served_all policy v r ts = fold (λ s t. policy s v t) r ts

-- and behind a boot, which enters the block of an address while nothing is placed
abbrev pub after_boot : Policy → ImageData → ℕ → List Transfer → Record
after_boot policy v boot ts = served_all policy v (policy empty_record v (indirect boot)) ts

-- the blocks that transfers enter; one to an address where no text word stands enters none
abbrev pub block_entered : Option (ℕ × ℕ) → List ℕ
block_entered None = []
block_entered (Some p) = p.0 ∷ []

abbrev pub entered : ImageData → List Transfer → List ℕ
entered v [] = []
entered v (t ∷ ts) = block_entered (place_of v (target_of t)) ++ entered v ts
