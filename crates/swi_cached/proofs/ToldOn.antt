-- A told run over each input from which what the source gave may have been read.
use Rattle.std.proofs.Common.{◌≡◌, ℕ, List, [], ◌++◌, Option, Some, None, true, sym, subst}
use Rattle.swi_outside.specs.Source.{HasGiven, ReadFrom}
use Rattle.swi_outside.specs.Told.{AsTold, told_as}
use Rattle.swi_outside.proofs.SourceLemmas.{given_more, given_still, read_first, read_last, rest_is}
use Rattle.swi_outside.proofs.ToldLemmas.{told_some}
use Rattle.swi_image.specs.Format.{ImageData}
use Rattle.swi_rom.specs.Service.{ServiceOf}
use Rattle.swi_hart.specs.Matching.{Fits}
use Rattle.swi_board.specs.Board.{BoardWithDevices}
use Rattle.swi_board.proofs.Along.{with_source}
use Rattle.swi_line.specs.declared.trace.Trace.{Trace}
use Rattle.swi_cached.specs.Traced.{ToldAlong, keeps_history}
use Rattle.swi_cached.proofs.Telling.{told_start}

-- Told machine instructions in a row, over each such input.
pub record ToldAlongOn {S : Type 0} (k : ServiceOf S) (v : ImageData) (telling : Trace) (n lines : ℕ) (old now : BoardWithDevices S) (history : Option (List ℕ)) : Type 0 where
  pub gave : HasGiven old.devices.input now.devices.input
  pub along : AsTold old.devices.input now.devices.input (λ before after. ToldAlong k v telling n lines (with_source old before) (with_source now after) history)

module _ {S : Type 0} {k : ServiceOf S} {v : ImageData} {telling : Trace} {n : ℕ} {old : BoardWithDevices S} where
  pub on_start : old.hart.machine.steps ≡ 0 → Fits v (k.kept old.rom) old.hart → old.hart.machine.ending ≡ None → k.sound old.rom v old.ram.words → (history : List ℕ) → history ≡ [] → true ≡ keeps_history telling →
      ToldAlongOn k v telling n 0 old old (Some history)
  on_start first fits running sound history empty kept = record {
    gave = given_still old.devices.input;
    along = λ input rest read. subst (λ (left : List ℕ). ToldAlong k v telling n 0 (with_source old (told_as old.devices.input input)) (with_source old (told_as old.devices.input left)) (Some history))
        (sym (rest_is read)) (told_start {k = k} first fits running sound history empty kept);
  }

  -- of some input: there always is one
  pub on_some : {now : BoardWithDevices S} {lines : ℕ} {history : Option (List ℕ)} → ToldAlongOn k v telling n lines old now history →
      (input rest : List ℕ) × ToldAlong k v telling n lines (with_source old (told_as old.devices.input input)) (with_source now (told_as now.devices.input rest)) history
  on_some {now} {lines} {history} on = told_some (λ before after. ToldAlong k v telling n lines (with_source old before) (with_source now after) history) on.gave on.along

  pub on_more : {now next : BoardWithDevices S} {lines lines' : ℕ} {history history' : Option (List ℕ)} → ToldAlongOn k v telling n lines old now history → HasGiven now.devices.input next.devices.input →
      ((input mid rest : List ℕ) → ToldAlong k v telling n lines (with_source old (told_as old.devices.input input)) (with_source now (told_as now.devices.input mid)) history →
      ReadFrom now.devices.input next.devices.input mid rest → ToldAlong k v telling n lines' (with_source old (told_as old.devices.input input)) (with_source next (told_as next.devices.input rest)) history') →
      ToldAlongOn k v telling n lines' old next history'
  on_more {now} {next} {lines} {lines'} {history} {history'} on gave step = record {
    gave = given_more on.gave gave;
    along = λ input rest read. step input (gave.0 ++ rest) rest (on.along input (gave.0 ++ rest) (read_first on.gave gave read)) (read_last on.gave gave read);
  }
