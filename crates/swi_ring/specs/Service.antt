-- What a ring is as a service.
use Rattle.swi_rom.specs.Service.{ServiceOf}
use Rattle.swi_ring.specs.Fifo.{ring, extent_of, span_of}
use Rattle.swi_ring.specs.Ring.{Ring, kept_by, setting_of, shown_by}
use Rattle.swi_ring.specs.Sound.{RingSound, Serves}

abbrev pub ring_service : ServiceOf Ring
ring_service = record {
  kept = kept_by;
  setting = setting_of;
  span = span_of;
  extent = extent_of;
  policy = ring;
  sound = RingSound;
  serves = Serves;
  shown = shown_by;
}
