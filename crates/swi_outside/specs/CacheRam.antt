-- A cache ram: its words, and what was done to it.
use Rattle.std.specs.Prelude.{◌≡◌, ◌⊎◌, ℕ, ◌+◌, ◌<◌, ◌≤◌, max, Bool, true, false, List, [], ◌∷◌, length, slice_index, slice_set, Result, Ok, Err}
use Rattle.swi_outside.specs.Causes.{Rose, counted, risen}

-- a fetch that answered `Ok`: at which index, how many sets had answered `Ok` before it, and the word that it answered
pub record Fetch : Type 0 where
  pub index : ℕ
  pub sets_before : ℕ
  pub word : ℕ

abbrev pub fetch : ℕ → ℕ → ℕ → Fetch
fetch i sets w = record { index = i; sets_before = sets; word = w }

pub record RamState : Type 0 where
  -- the words, from index 0
  pub words : List ℕ
  -- how many fetches and how many sets answered `Ok`
  pub fetches : ℕ
  pub sets : ℕ
  -- a count that rises with each call that answered `Failed`, up to 2^64 - 1, and with no other
  pub faults : ℕ
  -- the least number above every index that was given to a fetch or a set
  pub reach : ℕ
  -- the fetches that answered `Ok`, the newest first
  pub fetched_at : List Fetch
  -- whether the last call answered `Failed`
  pub last_failed : Bool

-- after a fetch of word i, and a set of it to w, that answered `Ok`
abbrev pub with_fetch : RamState → ℕ → RamState
with_fetch s i = record s { fetches = counted s.fetches; reach = max s.reach (i + 1); fetched_at = fetch i s.sets (slice_index s.words i) ∷ s.fetched_at; last_failed = false }

abbrev pub with_set : RamState → ℕ → ℕ → RamState
with_set s i w = record s { words = slice_set s.words i w; sets = counted s.sets; reach = max s.reach (i + 1); last_failed = false }

-- A fetch of word i, by its answer: no fetch changes a word.
abbrev pub Fetched : {E : Type 0} → RamState → ℕ → Result ℕ E → RamState → Type 0
Fetched old i (Ok w) new = (w ≡ slice_index old.words i) × (new ≡ with_fetch old i)
Fetched old i (Err e) new = Rose old.faults new.faults × (old.faults ≤ new.faults)
    × (new ≡ record old { faults = new.faults; reach = max old.reach (i + 1); last_failed = true })

-- A set of word i to w, by its answer: a failed one leaves word i old or new, and every other as it was.
abbrev pub WordSet : {E : Type 0} → RamState → ℕ → ℕ → Result Unit E → RamState → Type 0
WordSet old i w (Ok u) new = new ≡ with_set old i w
WordSet old i w (Err e) new = Rose old.faults new.faults × (old.faults ≤ new.faults)
    × ((new.words ≡ old.words) ⊎ (new.words ≡ slice_set old.words i w))
    × (new ≡ record old { words = new.words; faults = new.faults; reach = max old.reach (i + 1); last_failed = true })

-- fetches of a run in the count of a ram that had made so many sets before it
abbrev pub since : ℕ → List Fetch → List Fetch
since n [] = []
since n (f ∷ fs) = fetch f.index (risen n f.sets_before) f.word ∷ since n fs

-- and in that of a run that had
abbrev pub later : ℕ → List Fetch → List Fetch
later n [] = []
later n (f ∷ fs) = fetch f.index (n + f.sets_before) f.word ∷ later n fs

-- n sets from an index on leave every other word, what was fetched, and the number of words
pub record LeavesBeside (first n : ℕ) (before after : RamState) : Type 0 where
  pub fetches_stay : after.fetches ≡ before.fetches
  pub fetched_at_stays : after.fetched_at ≡ before.fetched_at
  pub length_stays : length after.words ≡ length before.words
  pub below : (i : ℕ) → i < first → slice_index after.words i ≡ slice_index before.words i
  pub beyond : (i : ℕ) → first + n ≤ i → slice_index after.words i ≡ slice_index before.words i
  pub reached : after.reach ≤ max before.reach (first + n)

-- the first n of these words stand from an index on, by n sets of which none failed
pub record FirstSet (word : ℕ → ℕ) (first n : ℕ) (before after : RamState) : Type 0 where
  pub left : LeavesBeside first n before after
  pub quiet : after.faults ≡ before.faults
  pub sets_rise : after.sets ≡ risen before.sets n
  pub stands : (k : ℕ) → k < n → slice_index after.words (first + k) ≡ word k

-- these words stand from an index on, by a set of each, of which none failed
abbrev pub WordsSet : ℕ → List ℕ → RamState → RamState → Type 0
WordsSet first words before after = FirstSet (slice_index words) first (length words) before after

-- sets of n words from an index on, of which the last that was made failed
pub record WordsBroke (first n : ℕ) (before after : RamState) : Type 0 where
  pub left : LeavesBeside first n before after
  pub later : before.faults ≤ after.faults
  pub rose : Rose before.faults after.faults
  pub last_failed : after.last_failed ≡ true

-- a ram keeps its length, the words from an index on keep their values, and `reach` doesn't pass the larger of what it was and that
-- index
pub record KeepsBeyond (from : ℕ) (before after : RamState) : Type 0 where
  pub same_length : length after.words ≡ length before.words
  pub beyond : (i : ℕ) → from ≤ i → slice_index after.words i ≡ slice_index before.words i
  pub reached : after.reach ≤ max before.reach from
