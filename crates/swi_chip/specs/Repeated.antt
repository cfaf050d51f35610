-- A call that is made again while it answers that links were undone and there are more.
use Rattle.std.specs.Prelude.{◌≡◌, ℕ, suc, ◌+◌, ◌*◌, ◌/◌, ◌%◌, ◌<◌, ◌≤◌, true, List, slice_index}
use Rattle.swi_image.specs.Place.{length_at}
use Rattle.swi_rom.specs.Coherent.{ExitAt}
use Rattle.swi_rom.specs.Record.{Placed, direct, exit_among, indirect}
use Rattle.swi_slots.specs.Keys.{Images}
use Rattle.swi_slots.specs.Slots.{Slots, kept_by, links_of}
use Rattle.swi_chip.specs.declared.chip.Chip.{Chip}
use Rattle.swi_chip.specs.Leaving.{IsExitAt, Leaves, Links}
use Rattle.swi_chip.specs.Service.{ChipServed, Enters, Exits, StandsFor, again, far_in, portion, with_links}

-- so many times it answered so, and then something else
pub record Repeats (Call : Chip → Chip → ℕ → Type 0) (old new : Chip) (answer : ℕ) : Type 0 where
  pub times : ℕ
  pub at : ℕ → Chip
  pub first : at 0 ≡ old
  pub waits : (j : ℕ) → j < times → Call (at j) (at (suc j)) again
  pub last : Call (at times) new answer
  pub ends : answer ≡ again → ⊥

abbrev pub EnterCalls : Chip → Chip → ℕ → ℕ → Type 0
EnterCalls old new target answer = Repeats (λ a b x. Enters a b target x) old new answer

abbrev pub ExitCalls : Chip → Chip → ℕ → ℕ → ℕ → Type 0
ExitCalls old new pc target answer = Repeats (λ a b x. Exits a b pc target x) old new answer

-- the registers change in the last call alone
pub record LeaveCalls (old new : Chip) (before after : List ℕ) (pc target answer : ℕ) : Type 0 where
  pub calls : Repeats (λ a b x. Leaves a b pc target x) old new answer
  pub links : Links (calls.at calls.times) before after pc target answer

-- the chip stands for the same service with fewer links
pub record StandsOn (s : Slots) (vs : Images) (old new : Chip) : Type 0 where
  pub targets : List ℕ
  pub unlinks : ℕ
  pub words : List ℕ
  pub lists : List (List ℕ)
  pub stands : StandsFor (with_links s targets unlinks) vs words lists new
  pub among : (p b o : ℕ) → exit_among (links_of (with_links s targets unlinks)) p b o ≡ true → exit_among (links_of s) p b o ≡ true
  pub cache_at : new.cache_at ≡ old.cache_at

-- Then the chip stands for what the model's one call leaves, and there were no more calls than portions of links.
abbrev pub EntersRepeated : Type 0
EntersRepeated = (s : Slots) (vs : Images) (ram : List ℕ) (lists : List (List ℕ)) (old new : Chip) (target answer : ℕ) → StandsFor s vs ram lists old →
    (r : EnterCalls old new target answer) → ChipServed s vs (indirect target) answer old new × (portion * r.times ≤ slice_index old.links.now old.next)

-- the same over the direct exit of a block
abbrev pub ExitsRepeated : Type 0
ExitsRepeated = (s : Slots) (vs : Images) (ram : List ℕ) (lists : List (List ℕ)) (old new : Chip) (pc target answer : ℕ) → StandsFor s vs ram lists old →
    far_in old pc < old.cache_bytes → ExitAt (vs s.turn) (kept_by s) (far_in old pc / 4) target →
    (b o f : ℕ) → Placed (kept_by s) b f → o < length_at (vs s.turn) b → far_in old pc / 4 ≡ f + o →
    (r : ExitCalls old new pc target answer) → ChipServed s vs (direct b o target) answer old new × (portion * r.times ≤ slice_index old.links.now old.next)

-- the same by a JALR: what the last call reads of the cache, it reads of a service with fewer links
pub record LeftAtLast (s : Slots) (vs : Images) (old last new : Chip) (target answer times : ℕ) : Type 0 where
  pub served : ChipServed s vs (indirect target) answer old new
  pub few : portion * times ≤ slice_index old.links.now old.next
  pub on : StandsOn s vs old last

abbrev pub LeavesRepeated : Type 0
LeavesRepeated = (s : Slots) (vs : Images) (ram : List ℕ) (lists : List (List ℕ)) (old new : Chip) (pc target answer : ℕ) → StandsFor s vs ram lists old → IsExitAt old pc → target % 4 ≡ 0 →
    (r : Repeats (λ a b x. Leaves a b pc target x) old new answer) → LeftAtLast s vs old (r.at r.times) new target answer r.times
