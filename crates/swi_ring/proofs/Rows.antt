-- The policy, computed over the transfers of small programs.
use Rattle.std.proofs.Common.{◌≡◌, ℕ, List, [], ◌∷◌, refl}
use Rattle.swi_isa.specs.Decode.{decoded, decoded_by}
use Rattle.swi_isa.specs.Table.{imm_j}
use Rattle.swi_image.specs.Format.{ImageData}
use Rattle.swi_image.specs.Place.{place_of, block_at}
use Rattle.swi_rom.specs.Record.{Record, Placement, Link, Transfer, direct, indirect, empty_record, exit_among, IsJump, jump_word}
use Rattle.swi_rom.specs.Service.{Setting}
use Rattle.swi_rom.specs.Policy.{served_by, went, linked, evicted, counted, is_placed, first_of, with_link, is_undone, is_kept}
use Rattle.swi_ring.specs.Fifo.{ring, arrived, appended, cleared, first_for}

abbrev run : Setting → Record → ImageData → List Transfer → Record
run by r v [] = r
run by r v (t ∷ ts) = run by (ring by r v t) v ts

abbrev of_words : ℕ → Setting
of_words n = record { slots = 1; slot_words = n; programs = 1 }

abbrev at : ℕ → ℕ → Placement
at b f = record { program = 0; block = b; first = f }

abbrev link : ℕ → ℕ → ℕ → Link
link b o c = record { program = 0; block = b; offset = o; into = c }

-- x5 = 3; subtract 1; branch back by 4 while x5 isn't 0; exit: in three blocks, of 4, 5 and 4 words
abbrev loop_5 : ImageData
loop_5 = record {
  version = 2;
  block_words = 5;
  base = 0x10000;
  starts = 0 ∷ 2 ∷ 3 ∷ [];
  offsets = 0 ∷ 1 ∷ 0 ∷ 0 ∷ 1 ∷ [];
  blocks = (0x00300293 ∷ 0xFFF28293 ∷ 0x00100073 ∷ 0x00010008 ∷ []) ∷ (0x00028663 ∷ 0x00100073 ∷ 0x00010004 ∷ 0x00100073 ∷ 0x0001000C ∷ []) ∷ (0x05D00893 ∷ 0x00000073 ∷ 0x00100073 ∷ 0x00010014 ∷ []) ∷ [];
}

-- three blocks of 5, 5 and 4 words
abbrev jumper : ImageData
jumper = record {
  version = 2;
  block_words = 5;
  base = 0x10000;
  starts = 0 ∷ 2 ∷ 4 ∷ [];
  offsets = 0 ∷ 2 ∷ 0 ∷ 2 ∷ 0 ∷ 1 ∷ [];
  blocks = (0x000100B7 ∷ 0x00008093 ∷ 0x00100073 ∷ 0x00C080E7 ∷ 0x00010008 ∷ []) ∷ (0x00100073 ∷ 0x00010009 ∷ 0x05D00893 ∷ 0x00100073 ∷ 0x00010010 ∷ []) ∷ (0x00008513 ∷ 0x00000073 ∷ 0x00100073 ∷ 0x00010018 ∷ []) ∷ [];
}

abbrev turns : List Transfer
turns = indirect 0x10000 ∷ direct 0 2 0x10008 ∷ direct 1 1 0x10004 ∷ direct 0 2 0x10008 ∷ direct 1 1 0x10004 ∷ direct 0 2 0x10008 ∷ direct 1 3 0x1000C ∷ []

-- in 10 words the third block doesn't fit behind the second, and takes the place of the first
ten_words : run (of_words 10) empty_record loop_5 turns ≡
    record { turn = 0; placed = at 1 4 ∷ at 2 0 ∷ []; links = link 1 3 2 ∷ []; counts = record { services = 3; misses = 3; evictions = 1; links = 3; unlinks = 1; copied = 13 }; more = 4 ∷ [] }
unfolding served_by went linked arrived appended cleared first_for evicted counted is_placed first_of with_link is_undone is_kept place_of block_at exit_among
ten_words = refl

-- a word less is enough
nine_words : run (of_words 9) empty_record loop_5 turns ≡ run (of_words 10) empty_record loop_5 turns
unfolding served_by went linked arrived appended cleared first_for evicted counted is_placed first_of with_link is_undone is_kept place_of block_at exit_among
nine_words = refl

jump_back : IsJump 7 0 0xFE5FF06F
unfolding decoded decoded_by imm_j jump_word
jump_back = record { word = refl; decodes = refl }

-- the second block, which is older than the third and not in the way, leaves with it
older_leaves : run (of_words 9) empty_record jumper (indirect 0x10000 ∷ indirect 0x10010 ∷ indirect 0x10008 ∷ indirect 0x10000 ∷ []) ≡
    record { turn = 0; placed = at 0 0 ∷ []; links = []; counts = record { services = 3; misses = 4; evictions = 3; links = 0; unlinks = 0; copied = 19 }; more = 5 ∷ [] }
unfolding served_by went linked arrived appended cleared first_for evicted counted is_placed first_of with_link is_undone is_kept place_of block_at exit_among
older_leaves = refl
