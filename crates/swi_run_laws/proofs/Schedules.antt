-- Turns of others between two machine instructions.
use Rattle.std.proofs.Common.{ℕ, List, Option, refl, ap, ◌∙◌}
use Rattle.std.specs.Io.KnownBytes.{Appends}
use Rattle.swi_outside.specs.CacheRam.{RamState}
use Rattle.swi_outside.specs.Causes.{risen}
use Rattle.swi_outside.specs.Laws.{Appends-append}
use Rattle.swi_image.specs.Format.{ImageData}
use Rattle.swi_rom.specs.Rams.{risen_more}
use Rattle.swi_rom.specs.Record.{Record}
use Rattle.swi_hart.specs.Leaving.{RamServed}
use Rattle.swi_hart.specs.Staying.{StaysUnder, matches_on}
use Rattle.swi_board.proofs.Running.{kept_both}
use Rattle.swi_board.specs.Moments.{Moment}
use Rattle.swi_run_laws.specs.Schedules.{beside, told}
use Rattle.swi_board.specs.Tracking.{Point, Tracks}

-- words were set beside the hart, and control's block stays
pub beside_tracks : (span : ℕ) (v : ImageData) (s : Moment) (from a : Point) (r : Record) (q : RamState) (n : ℕ) → Tracks span v s from a → StaysUnder a.kept r a.hart.machine a.hart.control → RamServed span n a.ram q →
    Tracks span v (beside r n s) from (record a { kept = r; ram = q })
beside_tracks span v s from a r q n at stays served = record {
  image = at.image;
  matches = matches_on v a.kept r s.flat.machine a.hart.machine a.hart.control stays at.matches;
  here = at.here;
  spent = at.spent;
  kept = refl;
  count = at.count;
  input = at.input;
  output = at.output;
  error = at.error;
  words = served.fetched_at_stays ∙ at.words;
  ram = record {
    quiet = served.quiet ∙ at.ram.quiet;
    fetches = served.fetches_stay ∙ at.ram.fetches;
    sets = served.sets_rise ∙ ap (λ (x : ℕ). risen x n) at.ram.sets ∙ risen_more from.ram.sets s.sets n;
    kept = kept_both span from.ram a.ram q at.ram.kept served.kept;
  };
}

-- a line was written
pub told_tracks : (span : ℕ) (v : ImageData) (s : Moment) (from a : Point) (line : List ℕ) (err : Option (List ℕ)) → Tracks span v s from a → Appends a.err err line → Tracks span v (told line s) from (record a { err = err })
told_tracks span v s from a line err at wrote = record {
  image = at.image;
  matches = at.matches;
  here = at.here;
  spent = at.spent;
  kept = at.kept;
  count = at.count;
  input = at.input;
  output = at.output;
  error = Appends-append from.err a.err err s.flat.error line at.error wrote;
  words = at.words;
  ram = at.ram;
}
