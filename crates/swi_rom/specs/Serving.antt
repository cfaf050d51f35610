-- What a service's call leaves, by its answer, made from what was written.
use Rattle.std.proofs.Common.{◌≡◌, ℕ, ◌-◌, Some, None, Ok, Err, refl, ◌∙◌, ap, inl, arith}
use Rattle.std.proofs.lemmas.Bool.{both_ways}
use Rattle.swi_image.specs.Format.{ImageData}
use Rattle.swi_image.specs.Place.{place_of}
use Rattle.swi_outside.specs.Causes.{risen}
use Rattle.swi_outside.specs.CacheRam.{RamState}
use Rattle.swi_rom.specs.Record.{Record, has_link, writes}
use Rattle.swi_rom.specs.Coherent.{TargetAt}
use Rattle.swi_rom.specs.Served.{Served, WordsMove}
use Rattle.swi_rom.specs.Writing.{Wrote, FailedBelow}
use Rattle.swi_rom.specs.Rams.{spared_none}
use Rattle.swi_rom.specs.declared.rom.RomStop.TheVariants.{Outside, RamFault}

-- the target has a place, and its block stands there
pub served : (v : ImageData) (span target i k : ℕ) (c : ℕ × ℕ) (old next new : Record) (a b : RamState) → place_of v target ≡ Some c → new ≡ next → TargetAt v new target i → Wrote span k a b → k ≡ writes new - writes old → WordsMove v old new a b →
    Served v span target old next new a b (Ok i)
served v span target i k c old next new a b is moves at wrote number words = record {
  moves = moves;
  answer = at;
  outside = λ e. cc;
  only_outside = λ e. cc;
  nothing_changes = λ e. cc;
  failed = λ e. cc;
  last_failed = λ e. cc;
  quiet = wrote.quiet;
  spared = wrote.spared;
  sets_rise = wrote.sets_rise ∙ ap (λ (n : ℕ). risen a.sets n) number;
  words = words;
}

-- the target has a place, and the ram failed
pub fault_served : (v : ImageData) (span target : ℕ) (c : ℕ × ℕ) (old next new : Record) (a b : RamState) → place_of v target ≡ Some c → FailedBelow span a b → Served v span target old next new a b (Err RamFault)
fault_served v span target c old next new a b is f = record {
  moves = tt;
  answer = tt;
  outside = λ e. cc;
  only_outside = λ e. cc;
  nothing_changes = λ e. cc;
  failed = λ e. f.rose;
  last_failed = λ e. f.last_failed;
  quiet = tt;
  spared = f.spared;
  sets_rise = tt;
  words = tt;
}

-- the target has none
pub none_served : (v : ImageData) (span target : ℕ) (old next : Record) (a : RamState) → place_of v target ≡ None → old ≡ next → Served v span target old next old a a (Err Outside)
none_served v span target old next a none moves = record {
  moves = moves;
  answer = tt;
  outside = λ e. none;
  only_outside = λ e. refl;
  nothing_changes = λ e. refl;
  failed = λ e. cc;
  last_failed = λ e. cc;
  quiet = refl;
  spared = spared_none span a;
  sets_rise = omega arith;
  words = record { changes = λ i. inl refl; restored = λ k f was is h h'. absurd (both_ways (has_link old.links k) is was) };
}
