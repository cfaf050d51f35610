-- The policy, computed over the transfers of small programs.
use Rattle.std.proofs.Common.{◌≡◌, ℕ, true, false, List, [], ◌∷◌, refl}
use Rattle.swi_isa.specs.Decode.{decoded, decoded_by}
use Rattle.swi_isa.specs.Table.{imm_j}
use Rattle.swi_image.specs.Format.{ImageData}
use Rattle.swi_image.specs.Place.{place_of, block_at}
use Rattle.swi_rom.specs.Record.{Record, Placement, Link, Transfer, direct, indirect, exit_among, empty_record, IsJump, reaches, jump_word}
use Rattle.swi_rom.specs.Service.{Setting}
use Rattle.swi_rom.specs.Policy.{served_by, went, linked, evicted, counted, is_placed, first_of, with_link, is_undone, is_kept}
use Rattle.swi_slots.specs.Fifo.{fifo, arrived, appended}

abbrev run : Setting → Record → ImageData → List Transfer → Record
run by r v [] = r
run by r v (t ∷ ts) = run by (fifo by r v t) v ts

-- a setting for one program
abbrev slots : ℕ → ℕ → Setting
slots n words = record { slots = n; slot_words = words; programs = 1 }

abbrev at : ℕ → ℕ → Placement
at b f = record { program = 0; block = b; first = f }

abbrev link : ℕ → ℕ → ℕ → Link
link b o c = record { program = 0; block = b; offset = o; into = c }

-- x5 = 3; subtract 1; branch back by 4 while x5 isn't 0; exit: in one block
abbrev loop_16 : ImageData
loop_16 = record {
  version = 2;
  block_words = 16;
  base = 0x10000;
  starts = 0 ∷ [];
  offsets = 0 ∷ 1 ∷ 2 ∷ 5 ∷ 6 ∷ [];
  blocks = (0x00300293 ∷ 0xFFF28293 ∷ 0x00028663 ∷ 0x00100073 ∷ 0x00010004 ∷ 0x05D00893 ∷ 0x00000073 ∷ 0x00100073 ∷ 0x00010014 ∷ []) ∷ [];
}

-- and in three
abbrev loop_5 : ImageData
loop_5 = record {
  version = 2;
  block_words = 5;
  base = 0x10000;
  starts = 0 ∷ 2 ∷ 3 ∷ [];
  offsets = 0 ∷ 1 ∷ 0 ∷ 0 ∷ 1 ∷ [];
  blocks = (0x00300293 ∷ 0xFFF28293 ∷ 0x00100073 ∷ 0x00010008 ∷ []) ∷ (0x00028663 ∷ 0x00100073 ∷ 0x00010004 ∷ 0x00100073 ∷ 0x0001000C ∷ []) ∷ (0x05D00893 ∷ 0x00000073 ∷ 0x00100073 ∷ 0x00010014 ∷ []) ∷ [];
}

-- three jumps in a circle
abbrev circle : ImageData
circle = record {
  version = 2;
  block_words = 2;
  base = 0x10000;
  starts = 0 ∷ 1 ∷ 2 ∷ [];
  offsets = 0 ∷ 0 ∷ 0 ∷ [];
  blocks = (0x00100073 ∷ 0x00010004 ∷ []) ∷ (0x00100073 ∷ 0x00010008 ∷ []) ∷ (0x00100073 ∷ 0x00010000 ∷ []) ∷ [];
}

-- a JALR into the middle of a block
abbrev jumper : ImageData
jumper = record {
  version = 2;
  block_words = 5;
  base = 0x10000;
  starts = 0 ∷ 2 ∷ 4 ∷ [];
  offsets = 0 ∷ 2 ∷ 0 ∷ 2 ∷ 0 ∷ 1 ∷ [];
  blocks = (0x000100B7 ∷ 0x00008093 ∷ 0x00100073 ∷ 0x00C080E7 ∷ 0x00010008 ∷ []) ∷ (0x00100073 ∷ 0x00010009 ∷ 0x05D00893 ∷ 0x00100073 ∷ 0x00010010 ∷ []) ∷ (0x00008513 ∷ 0x00000073 ∷ 0x00100073 ∷ 0x00010018 ∷ []) ∷ [];
}

-- a block that is linked to itself
self_link : run (slots 1 16) empty_record loop_16 (indirect 0x10000 ∷ direct 0 3 0x10004 ∷ direct 0 3 0x10004 ∷ []) ≡
    record { turn = 0; placed = at 0 0 ∷ []; links = link 0 3 0 ∷ []; counts = record { services = 1; misses = 1; evictions = 0; links = 1; unlinks = 0; copied = 9 }; more = [] }
unfolding served_by went linked arrived appended evicted counted is_placed first_of with_link is_undone is_kept place_of block_at exit_among
self_link = refl

self_jump : IsJump 3 1 0xFF9FF06F
unfolding decoded decoded_by imm_j jump_word
self_jump = record { word = refl; decodes = refl }

abbrev turns : List Transfer
turns = indirect 0x10000 ∷ direct 0 2 0x10008 ∷ direct 1 1 0x10004 ∷ direct 0 2 0x10008 ∷ direct 1 1 0x10004 ∷ direct 0 2 0x10008 ∷ direct 1 3 0x1000C ∷ []

-- with one slot every exit's block is evicted by its target
one_slot : run (slots 1 5) empty_record loop_5 turns ≡
    record { turn = 0; placed = at 2 0 ∷ []; links = []; counts = record { services = 6; misses = 7; evictions = 6; links = 0; unlinks = 0; copied = 31 }; more = [] }
unfolding served_by went linked arrived appended evicted counted is_placed first_of with_link is_undone is_kept place_of block_at exit_among
one_slot = refl

two_slots : run (slots 2 5) empty_record loop_5 turns ≡
    record { turn = 0; placed = at 1 5 ∷ at 2 0 ∷ []; links = link 1 3 2 ∷ []; counts = record { services = 3; misses = 3; evictions = 1; links = 3; unlinks = 1; copied = 13 }; more = [] }
unfolding served_by went linked arrived appended evicted counted is_placed first_of with_link is_undone is_kept place_of block_at exit_among
two_slots = refl

two_jump : IsJump 8 0 0xFE1FF06F
unfolding decoded decoded_by imm_j jump_word
two_jump = record { word = refl; decodes = refl }

-- first-in order at its worst
circling : run (slots 2 2) empty_record circle (indirect 0x10000 ∷ direct 0 0 0x10004 ∷ direct 1 0 0x10008 ∷ direct 2 0 0x10000 ∷ direct 0 0 0x10004 ∷ direct 1 0 0x10008 ∷ direct 2 0 0x10000 ∷ []) ≡
    record { turn = 0; placed = at 2 2 ∷ at 0 0 ∷ []; links = link 2 0 0 ∷ []; counts = record { services = 6; misses = 7; evictions = 5; links = 6; unlinks = 0; copied = 14 }; more = [] }
unfolding served_by went linked arrived appended evicted counted is_placed first_of with_link is_undone is_kept place_of block_at exit_among
circling = refl

jumping : run (slots 3 5) empty_record jumper (indirect 0x10000 ∷ indirect 0x1000C ∷ direct 1 3 0x10010 ∷ []) ≡
    record { turn = 0; placed = at 0 0 ∷ at 1 5 ∷ at 2 10 ∷ []; links = link 1 3 2 ∷ []; counts = record { services = 2; misses = 3; evictions = 0; links = 1; unlinks = 0; copied = 14 }; more = [] }
unfolding served_by went linked arrived appended evicted counted is_placed first_of with_link is_undone is_kept place_of block_at exit_among
jumping = refl

-- how far a JAL reaches: back by 2^20 bytes, and forward by 2^20 - 4
far_back : reaches 262144 0 ≡ true
far_back = refl

too_far_back : reaches 262145 0 ≡ false
too_far_back = refl

far_on : reaches 0 262143 ≡ true
far_on = refl

too_far_on : reaches 0 262144 ≡ false
too_far_on = refl
