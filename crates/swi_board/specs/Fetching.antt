-- Which words of the ram a run fetches, read off the flat steps, the image and the service's record.
use Rattle.std.specs.Prelude.{◌≡◌, ℕ, zero, suc, ◌+◌, ◌-◌, List, [], ◌∷◌, ◌++◌, reverse, Some, None, is_some, if◌then◌else◌}
use Rattle.swi_outside.specs.CacheRam.{Fetch, RamState, fetch, since}
use Rattle.swi_calls.specs.declared.machine.Machine.{Machine}
use Rattle.swi_calls.specs.State.{FlatState}
use Rattle.swi_calls.specs.Held.{held_step}
use Rattle.swi_image.specs.Format.{ImageData}
use Rattle.swi_rom.specs.Record.{Record, Transfer, writes}
use Rattle.swi_rom.specs.Policy.{first_of}
use Rattle.swi_rom.specs.Standing.{word_in}
use Rattle.swi_hart.specs.Hart.{original, slots}
use Rattle.swi_board.specs.Transfers.{Here, at_fall, settled, step_cost, fall_transfers, step_transfers, here_after, after_all}

-- so many fetches of words one behind the other, behind so many sets, by what stands at each index
abbrev pub fetches_from : (ℕ → ℕ) → ℕ → ℕ → ℕ → List Fetch
fetches_from word i zero sets = []
fetches_from word i (suc n) sets = fetch i sets (word i) ∷ fetches_from word (i + 1) n sets

-- the service's record, and how many words were set
pub record Written : Type 0 where
  pub kept : Record
  pub sets : ℕ

-- the same behind transfers that the service has served
abbrev pub written_by : (Record → ImageData → Transfer → Record) → ImageData → Written → List Transfer → Written
written_by policy v w ts = record {
  kept = after_all policy v w.kept ts;
  sets = w.sets + (writes (after_all policy v w.kept ts) - writes w.kept);
}

-- the index at which a block's word stands
abbrev pub index_in : Record → ℕ × ℕ → ℕ
index_in r p = first_of r p.0 + p.1

-- the fetch at an index of a block, of the word that stands there
abbrev pub fetch_in : ImageData → Written → ℕ → ℕ → Fetch
fetch_in v w b i = fetch i w.sets (word_in v w.kept b i)

-- the exit behind a block's last text word, which is fetched first
abbrev pub fall_words : ImageData → Machine → Here → Written → List Fetch
fall_words v f None w = []
fall_words v f (Some p) w = if at_fall v f (Some p) then fetch_in v w p.0 (index_in w.kept p) ∷ [] else []

-- the words of its rendering that a step executes; one outside the text fetches none
abbrev pub step_words : ImageData → Machine → Here → Written → List Fetch
step_words v f None w = []
step_words v f (Some p) w = fetches_from (word_in v w.kept p.0) (index_in w.kept p) (step_cost f (original f) (slots f)) w.sets

-- The words that up to so many steps fetch, in order. Each stands where its block does in the service's record, is the image's word or the
-- jump of a link that the record has, and comes behind the sets of the transfers before it: a transfer is served behind the last word of its
-- step, and behind an exit that is made first.
unfoldable pub words_run : (Record → ImageData → Transfer → Record) → ImageData → ℕ → FlatState → Here → Written → List Fetch
words_run policy v zero s here w = []
words_run policy v (suc k) s here w =
    if is_some s.machine.ending then []
    else fall_words v s.machine here w ++ (step_words v s.machine (settled v s.machine here) (written_by policy v w (fall_transfers v s.machine here))
    ++ words_run policy v k (held_step s) (here_after v s.machine (settled v s.machine here) (held_step s).machine)
    (written_by policy v (written_by policy v w (fall_transfers v s.machine here)) (step_transfers s.machine (settled v s.machine here) (held_step s).machine)))

-- just these words were fetched from one state of a ram to another, in this order, of a run that began where the ram had made so many sets
abbrev pub FetchedSince : ℕ → List Fetch → RamState → RamState → Type 0
FetchedSince sets words before after = after.fetched_at ≡ since sets (reverse words) ++ before.fetched_at

-- and of one that began at the first of them
abbrev pub HasFetched : List Fetch → RamState → RamState → Type 0
HasFetched words before after = FetchedSince before.sets words before after

-- a front of these words was fetched, and the others are ahead
pub record FetchedTo (sets : ℕ) (words ahead : List Fetch) (before after : RamState) : Type 0 where
  pub fetched : List Fetch
  pub are : FetchedSince sets fetched before after
  pub front : fetched ++ ahead ≡ words

abbrev pub FrontSince : ℕ → List Fetch → RamState → RamState → Type 0
FrontSince sets words before after = (ahead : List Fetch) × FetchedTo sets words ahead before after

abbrev pub FetchedFront : List Fetch → RamState → RamState → Type 0
FetchedFront words before after = FrontSince before.sets words before after
