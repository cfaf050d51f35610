-- What a cache service is: what it keeps, the policy by which that goes on, and the laws that every service keeps.
use Rattle.std.specs.Prelude.{◌≡◌, ℕ, ◌+◌, ◌≤◌, ◌^◌, List, [], Option, None, true}
use Rattle.swi_image.specs.Format.{ImageData}
use Rattle.swi_image.specs.Place.{place_of}
use Rattle.swi_image.specs.Sound.{IsImage}
use Rattle.swi_rom.specs.Record.{Record, Transfer, direct, target_of, is_linked, writes}
use Rattle.swi_rom.specs.Coherent.{Coherent, StandsAt}

-- What a service is made for, which no call changes: how many slots of how many words each, and how many programs. A ring
-- is one slot, in which block stands behind block.
pub record Setting : Type 0 where
  pub slots : ℕ
  pub slot_words : ℕ
  pub programs : ℕ

-- of the values S of a service
pub record ServiceOf (S : Type 0) : Type 1 where
  -- what it keeps
  pub kept : S → Record
  pub setting : S → Setting
  -- how many words of the ram it uses
  pub span : Setting → ℕ
  -- so many words of the ram, from the first one on, can have been written until a record stands
  pub extent : Setting → Record → ℕ
  -- the next record
  pub policy : Setting → Record → ImageData → Transfer → Record
  -- it may serve this image, with these words in the ram
  pub sound : S → ImageData → List ℕ → Type 0
  -- it may serve this image for the program in turn, and each program the image that it has here, with these words
  pub serves : S → ImageData → (ℕ → ImageData) → List ℕ → Type 0
  -- what stands at an index: block and offset
  pub shown : S → ℕ → Option (ℕ × ℕ)

pub record IsService {S : Type 0} (k : ServiceOf S) : Type 0 where
  -- it keeps the words coherent
  pub coherent : (s : S) (v : ImageData) (words : List ℕ) → k.sound s v words → Coherent v (k.kept s) (k.span (k.setting s)) words
  -- the span is at most 8 MiB
  pub small : (s : S) (v : ImageData) (words : List ℕ) → k.sound s v words → k.span (k.setting s) ≤ 2 ^ 21
  pub image : (s : S) (v : ImageData) (words : List ℕ) → k.sound s v words → IsImage v
  pub shown_is : (s : S) (v : ImageData) (words : List ℕ) → k.sound s v words → (i : ℕ) → StandsAt v (k.kept s) i (k.shown s i)
  -- over a link nothing changes
  pub link_stays : (by : Setting) (r : Record) (v : ImageData) (b o t : ℕ) → is_linked r b o ≡ true → k.policy by r v (direct b o t) ≡ r
  -- a transfer to an address where no text word stands changes nothing
  pub outside_stays : (by : Setting) (r : Record) (v : ImageData) (t : Transfer) → place_of v (target_of t) ≡ None → k.policy by r v t ≡ r
  -- one transfer is at most one service, and the boot, while nothing is placed, is none
  pub one_service : (by : Setting) (r : Record) (v : ImageData) (t : Transfer) → (k.policy by r v t).counts.services ≤ r.counts.services + 1
  pub boot_uncounted : (by : Setting) (r : Record) (v : ImageData) (t : Transfer) → r.placed ≡ [] → (k.policy by r v t).counts.services ≡ r.counts.services
  -- no transfer takes back what was written
  pub writes_rise : (by : Setting) (r : Record) (v : ImageData) (t : Transfer) → writes r ≤ writes (k.policy by r v t)
  -- the extent lies within the span
  pub within : (by : Setting) (r : Record) → k.extent by r ≤ k.span by
  -- no transfer takes back a part of the extent
  pub extent_rises : (by : Setting) (r : Record) (v : ImageData) (t : Transfer) → k.extent by r ≤ k.extent by (k.policy by r v t)

-- a cache as a run sees it: the words that it uses, what it keeps at first, its policy, and the words that can have been written
pub record Cache : Type 0 where
  pub span : ℕ
  pub empty : Record
  pub policy : Record → ImageData → Transfer → Record
  pub extent : Record → ℕ

-- the cache that a service is
abbrev pub cache_of : {S : Type 0} → ServiceOf S → S → Cache
cache_of k s = record {
  span = k.span (k.setting s);
  empty = k.kept s;
  policy = k.policy (k.setting s);
  extent = k.extent (k.setting s);
}
