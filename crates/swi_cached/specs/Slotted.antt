-- The cache of slots.
use Rattle.std.specs.Prelude.{ℕ, ◌*◌, ◌/◌, min}
use Rattle.swi_image.specs.Format.{ImageData}
use Rattle.swi_rom.specs.Record.{empty_record}
use Rattle.swi_rom.specs.Service.{Setting, Cache}
use Rattle.swi_slots.specs.Fifo.{fifo}

-- as many slots as a cache of so many bytes has room for blocks
abbrev pub slots_of : ℕ → ImageData → ℕ
slots_of bytes v = bytes / (4 * v.block_words)

-- slots of a block each, for one program
abbrev pub slot_setting : ℕ → ImageData → Setting
slot_setting bytes v = record { slots = slots_of bytes v; slot_words = v.block_words; programs = 1 }

-- First in, first out. Before the boot nothing is kept; each miss fills another slot, the lowest first, until all are filled.
abbrev pub slotted : ℕ → ImageData → Cache
slotted bytes v = record {
  span = slots_of bytes v * v.block_words;
  empty = empty_record;
  policy = fifo (slot_setting bytes v);
  extent = λ r. min r.counts.misses (slots_of bytes v) * v.block_words;
}
