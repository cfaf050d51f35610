-- The cache of blocks of their own length, one behind the other.
use Rattle.std.specs.Prelude.{ℕ, ◌/◌, min}
use Rattle.swi_rom.specs.Record.{empty_record}
use Rattle.swi_rom.specs.Service.{Setting, Cache}
use Rattle.swi_ring.specs.Fifo.{ring}

-- one slot of all whole words of a cache of so many bytes, for one program
abbrev pub ring_setting : ℕ → Setting
ring_setting bytes = record { slots = 1; slot_words = bytes / 4; programs = 1 }

-- First in, first out, whatever the image. Before the boot nothing is kept; no more words can have been used than were copied.
abbrev pub ringed : ℕ → Cache
ringed bytes = record {
  span = bytes / 4;
  empty = empty_record;
  policy = ring (ring_setting bytes);
  extent = λ r. min r.counts.copied (bytes / 4);
}
