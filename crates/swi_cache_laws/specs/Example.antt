-- A program of three blocks, each of which jumps to the next, twice around: what the laws say of it.
use Rattle.std.specs.Prelude.{◌≡◌, ℕ, List, [], ◌∷◌}
use Rattle.swi_image.specs.Format.{ImageData}
use Rattle.swi_rom.specs.Record.{Transfer, direct, indirect, ebreak, empty_record, writes}
use Rattle.swi_rom.specs.Service.{Setting}
use Rattle.swi_slots.specs.Fifo.{fifo}
use Rattle.swi_cache_laws.specs.Transfers.{entered, served_all, after_boot}
use Rattle.swi_cache_laws.specs.Paging.{Choice, IsPolicy, copies}
use Rattle.swi_cache_laws.specs.Room.{AreTransfers, exits_of, words_of}

-- each block is an ADDI, an exit, and the address of the next
abbrev pub three_blocks : ImageData
three_blocks = record {
  version = 2;
  block_words = 3;
  base = 0;
  starts = 0 ∷ 1 ∷ 2 ∷ [];
  offsets = 0 ∷ 0 ∷ 0 ∷ [];
  blocks = (0x13 ∷ ebreak ∷ 4 ∷ []) ∷ (0x13 ∷ ebreak ∷ 8 ∷ []) ∷ (0x13 ∷ ebreak ∷ 0 ∷ []) ∷ [];
}

abbrev pub around : List Transfer
around = direct 0 1 4 ∷ direct 1 1 8 ∷ direct 2 1 0 ∷ direct 0 1 4 ∷ direct 1 1 8 ∷ []

abbrev pub slots_of : ℕ → Setting
slots_of n = record { slots = n; slot_words = 3; programs = 1 }

-- a policy with two slots that keeps what is entered next
abbrev pub far_sighted : List Choice
far_sighted =
    record { copied = 0 ∷ []; held = 0 ∷ [] } ∷ record { copied = 1 ∷ []; held = 0 ∷ 1 ∷ [] } ∷ record { copied = 2 ∷ []; held = 0 ∷ 2 ∷ [] }
    ∷ record { copied = []; held = 0 ∷ 2 ∷ [] } ∷ record { copied = 1 ∷ []; held = 1 ∷ 2 ∷ [] } ∷ record { copied = []; held = 1 ∷ 2 ∷ [] } ∷ []

-- in two slots each of the six blocks entered is a miss, and that policy copies four
pub record MissesAll : Type 0 where
  pub entered : entered three_blocks (indirect 0 ∷ around) ≡ 0 ∷ 1 ∷ 2 ∷ 0 ∷ 1 ∷ 2 ∷ []
  pub misses : (served_all (fifo (slots_of 2)) three_blocks empty_record (indirect 0 ∷ around)).counts.misses ≡ 6
  pub policy : IsPolicy 2 [] (0 ∷ 1 ∷ 2 ∷ 0 ∷ 1 ∷ 2 ∷ []) far_sighted
  pub copies : copies far_sighted ≡ 4

-- in three slots each block is copied once, and each exit served once
pub record HasAll : Type 0 where
  pub words : words_of three_blocks ≡ 9
  pub exits : exits_of three_blocks ≡ (0, 1) ∷ (1, 1) ∷ (2, 1) ∷ []
  pub program : AreTransfers three_blocks (0 ∷ []) around
  pub services : (after_boot (fifo (slots_of 3)) three_blocks 0 around).counts.services ≡ 3
  pub writes : writes (after_boot (fifo (slots_of 3)) three_blocks 0 around) ≡ 12
