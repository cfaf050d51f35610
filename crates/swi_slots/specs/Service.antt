-- What a service with slots is.
use Rattle.swi_rom.specs.Service.{ServiceOf}
use Rattle.swi_slots.specs.Fifo.{fifo, extent_of}
use Rattle.swi_slots.specs.Slots.{Slots, kept_by, setting_of, span_of, shown_by}
use Rattle.swi_slots.specs.Sound.{SlotsSound, Serves}

abbrev pub slots_service : ServiceOf Slots
slots_service = record {
  kept = kept_by;
  setting = setting_of;
  span = span_of;
  extent = extent_of;
  policy = fifo;
  sound = SlotsSound;
  serves = Serves;
  shown = shown_by;
}
