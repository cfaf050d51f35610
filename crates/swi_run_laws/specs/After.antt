-- What machine instructions come to behind so many original steps: read off the flat steps, the image and the service's policy alone.
use Rattle.std.specs.Prelude.{◌≡◌, ℕ, ◌+◌, ◌<◌, ◌≤◌, List, ◌++◌, length, reverse, Some, None}
use Rattle.swi_outside.specs.CacheRam.{Fetch}
use Rattle.swi_calls.specs.Held.{held_run}
use Rattle.swi_image.specs.Format.{ImageData}
use Rattle.swi_rom.specs.Standing.{word_in}
use Rattle.swi_board.specs.Fetching.{fetches_from, index_in, words_run}
use Rattle.swi_board.specs.Transfers.{Here, after_all, cost, fetches, here_run, transfers}
use Rattle.swi_board.specs.Moments.{Moment, Policy, written_in}

-- between two instructions, behind so many steps of the flat machine from the one moment, whose next instruction stands here
pub record IsAfter (by : Policy) (v : ImageData) (k : ℕ) (here_first : Here) (s t : Moment) : Type 0 where
  pub flat : t.flat ≡ held_run k s.flat
  -- the service has served the transfers of these steps
  pub kept : t.kept ≡ after_all by v s.kept (transfers v k s.flat here_first)
  -- they cost so many machine instructions
  pub count : t.count ≡ s.count + cost v k s.flat here_first
  -- which fetched these words
  pub words : t.words ≡ reverse (words_run by v k s.flat here_first (written_in s)) ++ s.words
  pub here : t.flat.machine.ending ≡ None → t.here ≡ here_run v k s.flat here_first
  pub spent : t.spent ≡ 0

-- Where they stand, be it midway in an instruction, so many steps are the most of which all words were fetched.
pub record IsWithin (v : ImageData) (here_first : Here) (s t : Moment) : Type 0 where
  pub steps : ℕ
  pub flat : t.flat ≡ held_run steps s.flat
  pub enough : length s.words + fetches v steps s.flat here_first ≤ length t.words
  -- where the next one fetches a word
  pub longest : (t.here ≡ None → ⊥) → length t.words < length s.words + fetches v (steps + 1) s.flat here_first

-- And from a moment midway, of whose instruction so many words were executed.
pub record IsAfterMidway (by : Policy) (v : ImageData) (k : ℕ) (p : ℕ × ℕ) (s t : Moment) : Type 0 where
  pub flat : t.flat ≡ held_run k s.flat
  pub kept : t.kept ≡ after_all by v s.kept (transfers v k s.flat (Some p))
  pub count : t.count + s.spent ≡ s.count + cost v k s.flat (Some p)
  -- the words of the run, but those executed before
  pub more : List Fetch
  pub words : t.words ≡ more ++ s.words
  pub more_is : more ++ reverse (fetches_from (word_in v s.kept p.0) (index_in s.kept p) s.spent s.sets) ≡ reverse (words_run by v k s.flat (Some p) (written_in s))
  pub here : t.flat.machine.ending ≡ None → t.here ≡ here_run v k s.flat (Some p)
  pub spent : t.spent ≡ 0
