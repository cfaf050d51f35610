-- Many caches of one image side by side.
use Rattle.std.specs.Prelude.{◌≡◌, ℕ, ◌+◌, ◌-◌, ◌*◌, ◌^◌, ◌<◌, ◌≤◌, List, length, map, replicate, slice_get, Option, Some, None, IfSome, nat_lt}
use Rattle.swi_image.specs.Format.{ImageData}
use Rattle.swi_rom.specs.Record.{Record, Transfer, empty_record}
use Rattle.swi_rom.specs.Service.{Setting}
use Rattle.swi_tally.specs.declared.tally.Placing.{Placing}
use Rattle.swi_tally.specs.declared.tally.Placing.TheVariants.{Ring}
use Rattle.swi_tally.specs.declared.tallies.Frame.{Frame}
use Rattle.swi_tally.specs.declared.tallies.Seat.{Seat}
use Rattle.swi_tally.specs.Masks.{has, has_at}
use Rattle.swi_tally.specs.Exits.{ExitsData}
use Rattle.swi_tally.specs.Tally.{TallyData, AreMarked, Serves, empty_tally, kept_by, policy_of, setting_of}

pub record TalliesData : Type 0 where
  pub exits : ExitsData
  -- of each exit the caches in which it is a link
  pub masks : List ℕ
  pub caches : List Seat
  -- how many jumps over a register have come
  pub jumps : ℕ

-- a cache as its policy sees it: how it places blocks, its setting, and what it keeps
pub record Row : Type 0 where
  pub placing : Placing
  pub setting : Setting
  pub kept : Record

-- each has counted a service at each of the jumps that have come since it counted on its own
abbrev pub told : ℕ → Seat → TallyData
told jumps s = record s.tally { counts = record s.tally.counts { services = s.tally.counts.services + (jumps - s.jumps) } }

abbrev pub row_of : TalliesData → ℕ → Seat → Row
row_of t k s = record { placing = s.tally.placing; setting = setting_of s.tally; kept = kept_by t.exits (has_at t.masks k) (told t.jumps s) }

abbrev pub row_if : TalliesData → ℕ → Option Seat → Option Row
row_if t k None = None
row_if t k (Some s) = Some (row_of t k s)

-- that of the cache with number k; None where there is none
unfoldable pub row_at : TalliesData → ℕ → Option Row
row_at t k = row_if t k (slice_get t.caches k)

-- a transfer is served by its policy
abbrev pub served_row : ImageData → Transfer → Row → Row
served_row v t r = record r { kept = policy_of r.placing r.setting r.kept v t }

abbrev pub served_if : ImageData → Transfer → Option Row → Option Row
served_if v t None = None
served_if v t (Some r) = Some (served_row v t r)

-- the one with number k has served the transfer by its policy
abbrev pub OneServed : ImageData → Transfer → ℕ → TalliesData → TalliesData → Type 0
OneServed v t k old new = row_at new k ≡ served_if v t (row_at old k)

-- and each has
abbrev pub AllServed : ImageData → Transfer → TalliesData → TalliesData → Type 0
AllServed v t old new = (k : ℕ) → OneServed v t k old new

-- a cache serves the image, and has counted n services at most
abbrev pub SeatServes : ImageData → ℕ → TalliesData → ℕ → Seat → Type 0
SeatServes v n t k s = Serves v t.exits k t.masks (told t.jumps s) × ((told t.jumps s).counts.services ≤ n)

-- the cache with number k does
abbrev pub ServesAt : ImageData → ℕ → TalliesData → ℕ → Type 0
ServesAt v n t k = IfSome (slice_get t.caches k) (SeatServes v n t k)

-- and so does each, and no more jumps have come
pub record AreServing (v : ImageData) (n : ℕ) (t : TalliesData) : Type 0 where
  pub each : (k : ℕ) → ServesAt v n t k
  pub few : t.jumps ≤ n

-- before the last of the jumps
abbrev pub before : TalliesData → TalliesData
before t = record t { jumps = t.jumps - 1 }

-- nothing has changed but one cache, and in which exits it has links
pub record OneMoved (k : ℕ) (old new : TalliesData) : Type 0 where
  pub exits : new.exits ≡ old.exits
  pub masks : length new.masks ≡ length old.masks
  pub caches : length new.caches ≡ length old.caches
  pub jumps : new.jumps ≡ old.jumps
  pub others : (j : ℕ) → (j ≡ k → ⊥) → slice_get new.caches j ≡ slice_get old.caches j
  pub links : (j x : ℕ) → j < 64 → (j ≡ k → ⊥) → x < length old.exits.from → has_at new.masks j x ≡ has_at old.masks j x

-- one of the caches, of n blocks: it stands in the sets of those that stand in it, and its counts are bounded
pub record IsSeated (n k : ℕ) (placed : List ℕ) (jumps : ℕ) (s : Seat) : Type 0 where
  pub marked : AreMarked n k s.tally.queue placed
  pub since : s.jumps ≤ jumps
  pub few : s.tally.counts.services ≤ 2 ^ 50

-- so is each; and one set has all
pub record AreSeated (e : ExitsData) (masks placed : List ℕ) (all : ℕ) (caches : List Seat) (jumps : ℕ) : Type 0 where
  pub most : length caches ≤ 64
  pub masks_long : length masks ≡ length e.from
  pub placed_long : length placed ≡ e.blocks
  pub all_is : (k : ℕ) → k < 64 → has all k ≡ nat_lt k (length caches)
  pub each : (k : ℕ) (s : Seat) → slice_get caches k ≡ Some s → IsSeated e.blocks k placed jumps s
  pub few : jumps ≤ 2 ^ 50

-- caches in which nothing stands, of these frames
abbrev pub empty_of : ℕ → Frame → Seat
empty_of blocks f = record { tally = empty_tally f.placing f.slots f.slot_words blocks; jumps = 0 }

abbrev pub empty_tallies : ExitsData → List Frame → TalliesData
empty_tallies e frames = record { exits = e; masks = replicate (length e.from) 0; caches = map (empty_of e.blocks) frames; jumps = 0 }

-- what a cache is at first
abbrev pub first_row : Frame → Row
first_row f = record { placing = f.placing; setting = record { slots = f.slots; slot_words = f.slot_words; programs = 1 }; kept = empty_record }

-- a frame that holds a block of so many words, and is in range
pub record IsFrame (block_words : ℕ) (f : Frame) : Type 0 where
  pub some : 1 ≤ f.slots
  pub words : f.slots * f.slot_words ≤ 2 ^ 21
  pub most : f.slot_words ≤ 2 ^ 21
  pub holds : block_words ≤ f.slot_words
  pub one : f.placing ≡ Ring → f.slots ≡ 1
