-- What the services of a cache write at most.
use Rattle.std.specs.Prelude.{◌≡◌, ℕ, ◌+◌, ◌*◌, ◌≤◌, List, length, Some}
use Rattle.swi_image.specs.Format.{ImageData}
use Rattle.swi_image.specs.Place.{place_of}
use Rattle.swi_image.specs.Sound.{IsImage}
use Rattle.swi_rom.specs.Record.{Record, Transfer, writes}
use Rattle.swi_rom.specs.Service.{ServiceOf, Setting}
use Rattle.swi_cache_laws.specs.Transfers.{after_boot}
use Rattle.swi_board.specs.Moments.{Policy}

-- One transfer writes at most a block's words, a word for each word of the cache where links into blocks that leave are undone, and its link.
abbrev pub WritesOnce : {S : Type 0} → ServiceOf S → Type 0
WritesOnce {S} k = (s : S) (v : ImageData) (t : Transfer) → IsImage v →
    writes (k.policy (k.setting s) (k.kept s) v t) ≤ writes (k.kept s) + v.block_words + k.span (k.setting s) + 1

-- behind n transfers from a boot on
pub record HasWritten (v : ImageData) (n : ℕ) (r : Record) : Type 0 where
  pub services : r.counts.services ≤ n
  pub misses : r.counts.misses ≤ r.counts.services + 1
  pub copied : r.counts.copied ≤ r.counts.misses * v.block_words
  pub links : r.counts.links ≤ r.counts.services
  pub unlinks : r.counts.unlinks ≤ r.counts.links
  pub writes : writes r ≤ (r.counts.services + 1) * v.block_words + 2 * r.counts.services

abbrev pub WritesFew : (Setting → Policy) → Type 0
WritesFew policy = (by : Setting) (v : ImageData) (boot : ℕ) (place : ℕ × ℕ) (ts : List Transfer) → IsImage v → place_of v boot ≡ Some place →
    HasWritten v (length ts) (after_boot (policy by) v boot ts)
