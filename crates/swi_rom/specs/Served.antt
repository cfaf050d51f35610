-- What one call of a service does.
use Rattle.std.specs.Prelude.{◌≡◌, ◌⊎◌, ℕ, ◌+◌, ◌-◌, ◌<◌, ◌≤◌, max, ⊤, true, false, List, length, slice_index, None, Result, Ok, Err, IfOk, IsErrOf}
use Rattle.swi_image.specs.Format.{ImageData}
use Rattle.swi_image.specs.Place.{place_of, length_at}
use Rattle.swi_outside.specs.Causes.{Rose, risen}
use Rattle.swi_outside.specs.CacheRam.{RamState}
use Rattle.swi_rom.specs.Record.{Record, Link, Has, Placed, has_link, writes, ebreak}
use Rattle.swi_rom.specs.Coherent.{TargetAt}
use Rattle.swi_rom.specs.Service.{ServiceOf}
use Rattle.swi_rom.specs.declared.rom.RomStop.{RomStop}
use Rattle.swi_rom.specs.declared.rom.RomStop.TheVariants.{Outside, RamFault}

-- the fact holds, unless the ram failed
abbrev pub OnServed : {T : Type 0} → Result T RomStop → Type 0 → Type 0
OnServed (Ok i) P = P
OnServed (Err Outside) P = P
OnServed (Err RamFault) P = ⊤

-- the index is in the range of a block that was newly placed
pub record NewlyPlaced (v : ImageData) (old new : Record) (i : ℕ) : Type 0 where
  pub block : ℕ
  pub first : ℕ
  pub offset : ℕ
  pub stands : Placed new block first
  pub is_new : Placed old block first → ⊥
  pub inside : offset < length_at v block
  pub index : i ≡ first + offset

-- the word at an index is a link that was added or removed, of any program
pub record LinkChanged (old new : Record) (i : ℕ) : Type 0 where
  pub link : Link
  pub first : ℕ
  pub stood : Has old.placed (record { program = link.program; block = link.block; first = first }) ⊎ Has new.placed (record { program = link.program; block = link.block; first = first })
  pub changed : has_link old.links link ≡ has_link new.links link → ⊥
  pub index : i ≡ first + link.offset

-- which words change
pub record WordsMove (v : ImageData) (old new : Record) (before after : RamState) : Type 0 where
  pub changes : (i : ℕ) → (slice_index after.words i ≡ slice_index before.words i) ⊎ (NewlyPlaced v old new i ⊎ LinkChanged old new i)
  -- a removed link whose own block stays is an exit again
  pub restored : (k : Link) (f : ℕ) → has_link old.links k ≡ true → has_link new.links k ≡ false →
      Has old.placed (record { program = k.program; block = k.block; first = f }) → Has new.placed (record { program = k.program; block = k.block; first = f }) →
      slice_index after.words (f + k.offset) ≡ ebreak

-- the words from an index on are as before
abbrev pub SameFrom : ℕ → List ℕ → List ℕ → Type 0
SameFrom n before after = (i : ℕ) → n ≤ i → slice_index after i ≡ slice_index before i

-- whatever images the programs have that are not in turn, a service that served them serves them afterwards
abbrev pub Keeps : {S : Type 0} → ServiceOf S → ImageData → S → S → List ℕ → List ℕ → Type 0
Keeps k v s t before after = (images : ℕ → ImageData) → k.serves s v images before → k.serves t v images after

-- what sets below an index, failed or not, leave alone
pub record Spared (span : ℕ) (before after : RamState) : Type 0 where
  pub later : before.faults ≤ after.faults
  pub fetches_stay : after.fetches ≡ before.fetches
  pub fetched_at_stays : after.fetched_at ≡ before.fetched_at
  pub length_stays : length after.words ≡ length before.words
  pub beyond : (i : ℕ) → span ≤ i → slice_index after.words i ≡ slice_index before.words i
  pub reached : after.reach ≤ max before.reach span

pub record Served (v : ImageData) (span target : ℕ) (old next new : Record) (before after : RamState) (result : Result ℕ RomStop) : Type 0 where
  -- the record goes on by the policy
  pub moves : OnServed result (new ≡ next)
  -- the answer is the index of the target's place
  pub answer : IfOk result (λ i. TargetAt v new target i)
  pub outside : IsErrOf result Outside → place_of v target ≡ None
  pub only_outside : place_of v target ≡ None → IsErrOf result Outside
  pub nothing_changes : IsErrOf result Outside → after ≡ before
  -- a fault comes only where the ram's count rose, and nothing else comes then
  pub failed : IsErrOf result RamFault → Rose before.faults after.faults
  -- and no call of the ram comes behind the one that failed
  pub last_failed : IsErrOf result RamFault → after.last_failed ≡ true
  pub quiet : OnServed result (after.faults ≡ before.faults)
  -- nothing is fetched, and words beyond the span stay, whatever the answer
  pub spared : Spared span before after
  pub sets_rise : OnServed result (after.sets ≡ risen before.sets (writes new - writes old))
  pub words : OnServed result (WordsMove v old new before after)
