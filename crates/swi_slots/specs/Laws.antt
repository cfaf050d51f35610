-- The laws of a service with slots.
use Rattle.std.proofs.Common.{ℕ, ◌≤◌, min, arith}
use Rattle.std.proofs.lemmas.Nat.{mul-le}
use Rattle.swi_rom.specs.Record.{Record}
use Rattle.swi_rom.specs.Service.{Setting, IsService}
use Rattle.swi_rom.specs.Policy.{with_link, served_over_link, served_outside, served_one, served_boot, served_writes}
use Rattle.swi_slots.specs.Fifo.{arrived, extent_of, fifo_arrival, fifo_extent}
use Rattle.swi_slots.specs.Slots.{span_of}
use Rattle.swi_slots.specs.Coheres.{coheres, small_span, image_is}
use Rattle.swi_slots.specs.Readers.{shown_stands}
use Rattle.swi_slots.specs.Service.{slots_service}

extent_within : (by : Setting) (r : Record) → extent_of by r ≤ span_of by
extent_within by r = mul-le _ _ _ _ (least r.counts.misses by.slots) (omega arith)
  where
    least : (m k : ℕ) → min m k ≤ k
    least m k = grind arith

pub slots_laws : IsService slots_service
slots_laws = record {
  coherent = coheres;
  small = small_span;
  image = image_is;
  shown_is = shown_stands;
  link_stays = served_over_link arrived with_link;
  outside_stays = served_outside arrived with_link;
  one_service = λ by. served_one arrived with_link by fifo_arrival;
  boot_uncounted = λ by. served_boot arrived with_link by fifo_arrival;
  writes_rise = λ by. served_writes arrived with_link by fifo_arrival;
  within = extent_within;
  extent_rises = fifo_extent;
}
