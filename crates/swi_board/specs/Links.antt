-- How far the links of exits lead.
use Rattle.std.specs.Prelude.{◌≡◌, ℕ, ◌<◌, ◌^◌, List, length}
use Rattle.std.proofs.Common.{get_or}
use Rattle.swi_exec.specs.Arithmetic.{sum_of}
use Rattle.swi_render.specs.Rendering.{ebreak}
use Rattle.swi_rom.specs.Record.{IsJump}
use Rattle.swi_board.specs.declared.links.Link.{Link}

-- a word that is no EBREAK, and wherever it jumps from one word of a ram of 8 MiB to another, so many words lie between them, modulo 2^32
pub record IsLink (word distance : ℕ) : Type 0 where
  pub linked : word ≡ ebreak → ⊥
  pub leads : (i j : ℕ) → IsJump i j word → i < 2 ^ 21 → j < 2 ^ 21 → sum_of i distance ≡ j

-- and each of a list
abbrev pub AreLinks : List Link → Type 0
AreLinks links = (k : ℕ) → k < length links → (d : Link) → IsLink (get_or links k d).word (get_or links k d).distance
