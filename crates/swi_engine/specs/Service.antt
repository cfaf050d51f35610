-- What the service is.
use Rattle.swi_rom.specs.Service.{ServiceOf}
use Rattle.swi_engine.specs.Engine.{beside, extent_of, span_of}
use Rattle.swi_engine.specs.State.{EngineData, kept_by, setting_of, shown_by}
use Rattle.swi_engine.specs.Sound.{EngineSound, Serves}

abbrev pub engine_service : ServiceOf EngineData
engine_service = record {
  kept = kept_by;
  setting = setting_of;
  span = span_of;
  extent = extent_of;
  policy = beside;
  sound = EngineSound;
  serves = Serves;
  shown = shown_by;
}
