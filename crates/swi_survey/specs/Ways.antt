-- The direct exits of an image, by the text words that a run leaves over them.
use Rattle.std.specs.Prelude.{◌≡◌, ◌⊎◌, ℕ, ◌+◌, ◌<◌, ◌≤◌, ◌==◌, ◌||◌, Bool, true, false, not, List, length, slice_index, slice_get, Option, Some, None, if◌then◌else◌}
use Rattle.swi_isa.specs.Decode.{decoded}
use Rattle.swi_isa.specs.declared.instr.Instr.{Instr}
use Rattle.swi_isa.specs.declared.instr.Instr.TheVariants as instr
use Rattle.swi_image.specs.Format.{ImageData}
use Rattle.swi_image.specs.Place.{place_of}
use Rattle.swi_program.specs.Text.{TextData}
use Rattle.swi_render.specs.Rendering.{falls_of, sum}
use Rattle.swi_render.specs.ImageOf.{address_of, rendering_at}
use Rattle.swi_hart.specs.Hart.{is_place}
use Rattle.swi_tally.specs.Exits.{AreExits, ExitsData, IsFree, with_exit}
use Rattle.swi_tally.specs.declared.exits.Exit.{Exit}
use Rattle.swi_flat.specs.declared.coast.Gate.{Gate}
use Rattle.swi_survey.specs.declared.ways.Ways.{Ways}
use Rattle.swi_survey.specs.Leaving.{untaken_by}

-- how many words behind the first of its rendering the exit of a JAL or branch stands, and the address to which it leads
abbrev pub jump_of : Option Instr → ℕ → Option (ℕ × ℕ)
jump_of (Some (instr.Jal rd off)) a = Some (if rd == 0 then 0 else 2, sum a off)
jump_of (Some (instr.Branch op rs1 rs2 off)) a = Some (1, sum a off)
jump_of x a = None

-- the exit at a place to a text word's place, where there is one
abbrev pub exit_if : ℕ × ℕ → Option (ℕ × ℕ) → Option Exit
exit_if p None = None
exit_if p (Some t) = Some (record { block = p.0; offset = p.1; into = t.0; at = t.1 })

abbrev pub exit_to : ImageData → ℕ × ℕ → ℕ → Option Exit
exit_to v p a = exit_if p (place_of v a)

abbrev pub own_if : ImageData → ℕ × ℕ → Option (ℕ × ℕ) → Option Exit
own_if v p None = None
own_if v p (Some j) = exit_to v (p.0, p.1 + j.0) j.1

-- of text word k, which stands at a place: what it is, its own exit, and the one behind it, where it falls and no text word follows it there
abbrev pub instr_at : TextData → ℕ → Option Instr
instr_at t k = decoded (slice_index t.words k)

abbrev pub own_exit : TextData → ImageData → ℕ → ℕ × ℕ → Option Exit
own_exit t v k p = own_if v p (jump_of (instr_at t k) (address_of t k))

abbrev pub place_behind : TextData → ℕ → ℕ × ℕ → ℕ × ℕ
place_behind t k p = (p.0, p.1 + length (rendering_at t k))

abbrev pub is_last : TextData → ImageData → ℕ → ℕ × ℕ → Bool
is_last t v k p = not (is_place (place_of v (sum (address_of t k) 4)) p.0 (p.1 + length (rendering_at t k)))

abbrev pub exit_behind : TextData → ImageData → ℕ → ℕ × ℕ → Option Exit
exit_behind t v k p =
    if is_last t v k p then (if falls_of (instr_at t k) then exit_to v (place_behind t k p) (sum (address_of t k) 4) else None) else None

-- the exit is one of these, with this number
abbrev pub HasNumber : ExitsData → Option Exit → Option ℕ → Type 0
HasNumber e None n = n ≡ None
HasNumber e (Some x) None = ⊥
HasNumber e (Some x) (Some n) = (n < length e.from) × (slice_index e.from n ≡ x.block) × (slice_index e.offsets n ≡ x.offset) × (slice_index e.into n ≡ x.into) × (slice_index e.ats n ≡ x.at)

-- the ways of text word k
pub record AreWays (t : TextData) (v : ImageData) (e : ExitsData) (k : ℕ) (w : Ways) : Type 0 where
  pub block : (p : ℕ × ℕ) → place_of v (address_of t k) ≡ Some p → w.block ≡ p.0
  pub own : (p : ℕ × ℕ) → place_of v (address_of t k) ≡ Some p → HasNumber e (own_exit t v k p) w.own
  pub behind : (p : ℕ × ℕ) → place_of v (address_of t k) ≡ Some p → HasNumber e (exit_behind t v k p) w.behind
  pub last : (p : ℕ × ℕ) → place_of v (address_of t k) ≡ Some p → w.last ≡ is_last t v k p
  pub left : w.left ≡ untaken_by (instr_at t k) (address_of t k)

-- the gate of a text word, of n exits: no step to the next word passes it at the end of a block, nor where more than one word is executed
abbrev pub gate_by : ℕ → Bool → ℕ → Option ℕ → Gate
gate_by n last words None = record { stops = last || not (words == 1); ends = last; exit = n }
gate_by n last words (Some x) = record { stops = false; ends = last; exit = x }

abbrev pub gate_of : ℕ → Ways → Gate
gate_of n w = gate_by n w.last w.left.words w.own

-- one that no step passes
abbrev pub shut : ℕ → Gate
shut n = record { stops = true; ends = true; exit = n }

-- those of the first n text words
pub record AreAllWays (t : TextData) (v : ImageData) (e : ExitsData) (ways : List Ways) : Type 0 where
  pub blocks : length v.starts ≡ e.blocks
  pub each : (k : ℕ) (w : Ways) → slice_get ways k ≡ Some w → AreWays t v e k w

-- ---- as its functions say it

-- an exit can be added: its numbers are small, and none stands at its place
pub record Fits (e : ExitsData) (x : Exit) : Type 0 where
  pub block : x.block < e.blocks
  pub into : x.into < e.blocks
  pub offset : x.offset < 1024
  pub at : x.at < 1024
  pub free : IsFree e x.block x.offset

abbrev pub FitsIf : ExitsData → Option Exit → Type 0
FitsIf e None = Unit {0}
FitsIf e (Some x) = Fits e x

-- with it, if there is one
abbrev pub with_if : ExitsData → Option Exit → ExitsData
with_if e None = e
with_if e (Some x) = with_exit e x.block x.offset x.into x.at

abbrev pub number_if : ExitsData → Option Exit → Option ℕ
number_if e None = None
number_if e (Some x) = Some (length e.from)

-- each exit stands before a place
abbrev pub AllBefore : ExitsData → ℕ × ℕ → Type 0
AllBefore e p = (x : ℕ) → x < length e.from → (slice_index e.from x < p.0) ⊎ ((slice_index e.from x ≡ p.0) × (slice_index e.offsets x < p.1))

-- the exits are those before with what text word k adds, and its ways are these
pub record Joins (t : TextData) (v : ImageData) (k : ℕ) (e f : ExitsData) (w : Ways) : Type 0 where
  pub are : AreExits f
  pub blocks : f.blocks ≡ e.blocks
  pub few : length f.from ≤ length e.from + 2
  pub ways : AreWays t v f k w
  -- numbers that were known are those of the same exits
  pub stays : (x : Option Exit) (n : Option ℕ) → HasNumber e x n → HasNumber f x n
  -- and all stand before the next text word
  pub before : (p : ℕ × ℕ) → place_of v (address_of t (k + 1)) ≡ Some p → k + 1 < length t.words → AllBefore f p
