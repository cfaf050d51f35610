-- First in, first out against any other policy of eviction, also one that knows what comes. Source: Sleator and Tarjan, Amortized
-- Efficiency of List Update and Paging Rules (1985).
use Rattle.std.specs.Prelude.{ℕ, ◌+◌, ◌-◌, ◌*◌, ◌≤◌, ◌⊎◌, List, [], ◌∷◌, length}
use Rattle.swi_image.specs.Format.{ImageData}
use Rattle.swi_rom.specs.Record.{Record, Transfer, Has}
use Rattle.swi_rom.specs.Service.{Setting}
use Rattle.swi_slots.specs.Fifo.{fifo}
use Rattle.swi_cache_laws.specs.Transfers.{entered, served_all}

-- what a policy does where a block is entered: the blocks that it copies, and those that its slots hold then
pub record Choice : Type 0 where
  pub copied : List ℕ
  pub held : List ℕ

-- They hold the block entered, in at most h slots; and what they hold they held before, or it was copied.
pub record IsChoice (h : ℕ) (before : List ℕ) (b : ℕ) (t : Choice) : Type 0 where
  pub few : length t.held ≤ h
  pub has : Has t.held b
  pub kept : (c : ℕ) → Has t.held c → Has before c ⊎ Has t.copied c

-- a policy with h slots, with a choice for each block entered
abbrev pub IsPolicy : ℕ → List ℕ → List ℕ → List Choice → Type 0
IsPolicy h before [] [] = Unit {0}
IsPolicy h before [] (t ∷ ts) = ⊥
IsPolicy h before (b ∷ bs) [] = ⊥
IsPolicy h before (b ∷ bs) (t ∷ ts) = IsChoice h before b t × IsPolicy h t.held bs ts

-- How many blocks it copies. One that copies a block only where it is entered and isn't held copies as many as it misses.
abbrev pub copies : List Choice → ℕ
copies [] = 0
copies (t ∷ ts) = length t.copied + copies ts

-- With k slots first in, first out misses at most k / (k - h + 1) times as many blocks as any policy with h slots copies, and h more.
abbrev pub MissesFew : Type 0
MissesFew = (by : Setting) (v : ImageData) (r : Record) (ts : List Transfer) → length r.placed ≤ by.slots →
    (h : ℕ) (before : List ℕ) (choices : List Choice) → h ≤ by.slots → IsPolicy h before (entered v ts) choices →
    (by.slots - h + 1) * (served_all (fifo by) v r ts).counts.misses ≤ by.slots * copies choices + (by.slots - h + 1) * (h + r.counts.misses)
