-- The laws of a ring.
use Rattle.std.proofs.Common.{ℕ, ◌≤◌, min, arith}
use Rattle.swi_rom.specs.Record.{Record}
use Rattle.swi_rom.specs.Service.{Setting, IsService}
use Rattle.swi_rom.specs.Policy.{with_link, served_over_link, served_outside, served_one, served_boot, served_writes}
use Rattle.swi_ring.specs.Fifo.{arrived, span_of, extent_of, ring_arrival, ring_extent}
use Rattle.swi_ring.specs.Coheres.{ring_coherent, ring_small, ring_image, ring_shown}
use Rattle.swi_ring.specs.Service.{ring_service}

extent_within : (by : Setting) (r : Record) → extent_of by r ≤ span_of by
extent_within by r = least r.counts.copied by.slot_words
  where
    least : (m k : ℕ) → min m k ≤ k
    least m k = grind arith

pub ring_laws : IsService ring_service
ring_laws = record {
  coherent = ring_coherent;
  small = ring_small;
  image = ring_image;
  shown_is = ring_shown;
  link_stays = served_over_link arrived with_link;
  outside_stays = served_outside arrived with_link;
  one_service = λ by. served_one arrived with_link by ring_arrival;
  boot_uncounted = λ by. served_boot arrived with_link by ring_arrival;
  writes_rise = λ by. served_writes arrived with_link by ring_arrival;
  within = extent_within;
  extent_rises = ring_extent;
}
