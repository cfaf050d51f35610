-- The direct exits of an image whose targets are text words, and those of them that are links.
use Rattle.std.specs.Prelude.{◌≡◌, ℕ, ◌^◌, ◌<◌, ◌≤◌, Bool, List, [], ◌∷◌, ◌++◌, length, slice_index, Option, Some, None, if◌then◌else◌}
use Rattle.swi_rom.specs.Record.{Link}
use Rattle.swi_rom.specs.Collected.{collected}

pub record ExitsData : Type 0 where
  -- of how many blocks
  pub blocks : ℕ
  -- of each exit its block and its offset there
  pub from : List ℕ
  pub offsets : List ℕ
  -- and the block of its target, with the offset there
  pub into : List ℕ
  pub ats : List ℕ

-- no two exits stand at one place
pub record AreExits (e : ExitsData) : Type 0 where
  pub few : length e.from ≤ 2 ^ 21
  pub offsets_long : length e.offsets ≡ length e.from
  pub into_long : length e.into ≡ length e.from
  pub ats_long : length e.ats ≡ length e.from
  pub from_known : (x : ℕ) → x < length e.from → slice_index e.from x < e.blocks
  pub into_known : (x : ℕ) → x < length e.from → slice_index e.into x < e.blocks
  pub offsets_small : (x : ℕ) → x < length e.from → slice_index e.offsets x < 1024
  pub ats_small : (x : ℕ) → x < length e.from → slice_index e.ats x < 1024
  pub distinct : (x y : ℕ) → x < length e.from → y < length e.from → slice_index e.from x ≡ slice_index e.from y → slice_index e.offsets x ≡ slice_index e.offsets y → x ≡ y

-- none stands at the place
abbrev pub IsFree : ExitsData → ℕ → ℕ → Type 0
IsFree e b o = (x : ℕ) → x < length e.from → slice_index e.from x ≡ b → slice_index e.offsets x ≡ o → ⊥

-- with one more behind all others: its block and offset, and those of its target
abbrev pub with_exit : ExitsData → ℕ → ℕ → ℕ → ℕ → ExitsData
with_exit e b o into at = record e { from = e.from ++ b ∷ []; offsets = e.offsets ++ o ∷ []; into = e.into ++ into ∷ []; ats = e.ats ++ at ∷ [] }

-- the exit as a link
abbrev pub link_of : ExitsData → ℕ → Link
link_of e x = record { program = 0; block = slice_index e.from x; offset = slice_index e.offsets x; into = slice_index e.into x }

-- if it is one
abbrev pub link_if : ExitsData → Bool → ℕ → Option Link
link_if e linked x = if linked then Some (link_of e x) else None

abbrev pub link_at : ExitsData → (ℕ → Bool) → ℕ → Option Link
link_at e linked x = link_if e (linked x) x

-- the links, in ascending order
unfoldable pub links_of : ExitsData → (ℕ → Bool) → List Link
links_of e linked = collected (link_at e linked) (length e.from)
