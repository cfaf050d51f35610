-- What the laws say of a program's run, by the transfers that its steps make.
use Rattle.std.specs.Prelude.{◌≡◌, ℕ, ◌+◌, ◌*◌, ◌≤◌, List, [], ◌∷◌, length, Some}
use Rattle.swi_memory.specs.Bus.{fetched}
use Rattle.swi_calls.specs.declared.machine.Machine.{Machine}
use Rattle.swi_calls.specs.Flat.{started}
use Rattle.swi_calls.specs.State.{FlatState}
use Rattle.swi_image.specs.Format.{ImageData}
use Rattle.swi_image.specs.Place.{place_of}
use Rattle.swi_render.specs.Carried.{Carries}
use Rattle.swi_rom.specs.Record.{Transfer, writes}
use Rattle.swi_rom.specs.Service.{Setting}
use Rattle.swi_board.specs.Transfers.{Here, cost, transfers}
use Rattle.swi_cache_laws.specs.Transfers.{after_boot}
use Rattle.swi_board.specs.Moments.{Policy}
use Rattle.swi_cache_laws.specs.Room.{AreTransfers}

-- the transfers of up to n steps of a machine whose first text word stands at this place
abbrev pub transfers_from : ImageData → ℕ → Machine → List ℕ → ℕ × ℕ → List Transfer
transfers_from v n f input place = transfers v n (started f input) (Some place)

-- They are those of a program: direct ones leave blocks that were entered, by exits of the image.
abbrev pub AreOfRuns : Type 0
AreOfRuns = (v : ImageData) (n : ℕ) (f : Machine) (input : List ℕ) (place : ℕ × ℕ) → Carries (fetched f.bus) v → place_of v f.pc ≡ Some place →
    AreTransfers v (place.0 ∷ []) (transfers_from v n f input place)

-- One step is at most four machine instructions, and asks for at most two services: n are at most 2n.
abbrev pub StepsCostFew : Type 0
StepsCostFew = (v : ImageData) (s : FlatState) (here : Here) → (cost v 1 s here ≤ 4) × ((n : ℕ) → length (transfers v n s here) ≤ 2 * n)

-- With the boot n steps write at most 2n + 1 times the words of a block, and 4n more.
abbrev pub StepsWriteFew : (Setting → Policy) → Type 0
StepsWriteFew policy = (by : Setting) (v : ImageData) (n : ℕ) (f : Machine) (input : List ℕ) (place : ℕ × ℕ) → Carries (fetched f.bus) v → place_of v f.pc ≡ Some place →
    writes (after_boot (policy by) v f.pc (transfers_from v n f input place)) ≤ (2 * n + 1) * v.block_words + 4 * n
