-- One event of the engine.
use Rattle.std.specs.Prelude.{◌≡◌, ℕ, ◌+◌, ◌<◌, ◌≤◌, Bool, true, false, Option, Some, None}
use Rattle.swi_image.specs.Format.{ImageData}
use Rattle.swi_outside.specs.CacheRam.{RamState}
use Rattle.swi_rom.specs.Record.{Record, Placed}
use Rattle.swi_rom.specs.Served.{SameFrom}
use Rattle.swi_engine.specs.Engine.{Event, event, extent_of, span_of, engine_words}
use Rattle.swi_engine.specs.State.{EngineData, kept_by, setting_of}
use Rattle.swi_engine.specs.Sound.{EngineSound}
use Rattle.swi_engine.specs.Moves.{OneSet}

-- the event's word is written and the record goes on; where there is no event, nothing changes
abbrev pub GoesTo : Option Event → Bool → ℕ → Record → Record → RamState → RamState → Type 0
GoesTo None wrote span old new before after = (wrote ≡ false) × (new ≡ old) × (after ≡ before)
GoesTo (Some e) wrote span old new before after = (wrote ≡ true) × (new ≡ e.next) × (e.at < span) × OneSet e.at e.word before after

pub record Worked (v : ImageData) (here : ℕ) (old new : EngineData) (wrote : Bool) (before after : RamState) : Type 0 where
  -- exactly where there is an event its word is written
  pub moves : GoesTo (event (setting_of old) (kept_by old) v here) wrote (span_of (setting_of old)) (kept_by old) (kept_by new) before after
  -- control's block stays where it stands
  pub stays : (f : ℕ) → Placed (kept_by old) here f → Placed (kept_by new) here f
  -- and so do the words of slots that were never taken
  pub unused : SameFrom (extent_of (setting_of old) (kept_by new)) before.words after.words
  pub sound : EngineSound new v after.words
  pub setting_stays : setting_of new ≡ setting_of old
  pub words_few : engine_words (kept_by new) ≤ engine_words (kept_by old) + 1
