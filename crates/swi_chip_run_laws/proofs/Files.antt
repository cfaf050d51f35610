-- A run from a file on.
use Rattle.std.proofs.Common.{◌≡◌, ◌∙◌, ℕ, ◌≤◌, List, [], ◌∷◌, arith, Option, Some, None, replicate, ap, refl, sym, subst}
use Rattle.swi_memory.specs.Bus.{fetched}
use Rattle.swi_calls.specs.declared.end.End.{End}
use Rattle.swi_calls.specs.declared.machine.Machine.{Machine}
use Rattle.swi_calls.specs.Flat.{started}
use Rattle.swi_program.specs.Text.{TextData, word_of}
use Rattle.swi_image.specs.Format.{ImageData, image_of}
use Rattle.swi_render.specs.Carried.{Carries}
use Rattle.swi_render.proofs.Carrying.{image_carries}
use Rattle.swi_rom.specs.Record.{Record, Transfer, empty_record, indirect}
use Rattle.swi_rom.specs.Service.{Setting}
use Rattle.swi_slots.specs.Slots.{Slots, empty_slots, kept_by, setting_of}
use Rattle.swi_slots.proofs.Empty.{kept_empty}
use Rattle.swi_hart.specs.declared.hart.Stage.TheVariants.{Start, Low, Return, Leave}
use Rattle.swi_hart.specs.declared.hart.Control.{Control}
use Rattle.swi_hart.specs.declared.hart.Control.TheVariants.{At, Outside}
use Rattle.swi_hart.specs.Matching.{Matches}
use Rattle.swi_hart.proofs.Kept.{image_same}
use Rattle.swi_board.specs.Transfers.{after_all, here_of, spent_by, transfers}
use Rattle.swi_chip.specs.declared.chip.Chip.{Chip}
use Rattle.swi_chip.specs.Bounded.{IsBounded, fifo_few}
use Rattle.swi_chip.specs.Starting.{CanStart}
use Rattle.swi_chip.proofs.Bounding.{keeps_bound}
use Rattle.swi_chip.proofs.Repeating.{enters_repeated}
use Rattle.swi_chip_start_laws.proofs.Files.{starts_from_file}
use Rattle.swi_chip_run_laws.specs.Calls.{GoesOnAt, ProcessorState}
use Rattle.swi_chip_run_laws.specs.Files.{IsStarted, RunsFromFile, setting_in}
use Rattle.swi_chip_run_laws.specs.Runs.{EnteredAt, IsProcessorRun, ProcessorRan}
use Rattle.swi_chip_run_laws.proofs.Answering.{enters_right}
use Rattle.swi_chip_run_laws.proofs.Running.{processor_runs}

-- behind a call's answer an instruction begins
none_spent : (v : ImageData) (c : Chip) (t answer : ℕ) (f : Machine) (e : Option End) (k : Control) → GoesOnAt v c t answer k → spent_by e f k ≡ 0
none_spent v c t answer f (Some e) k goes = refl
none_spent v c t answer f None (At i b o Start) goes = refl
none_spent v c t answer f None (At i b o Low) goes = absurd goes
none_spent v c t answer f None (At i b o Return) goes = absurd goes
none_spent v c t answer f None (At i b o Leave) goes = absurd goes
none_spent v c t answer f None Outside goes = refl

module _ (t : TextData) (bytes : List ℕ) (f : Machine) (p : ProcessorState) (is : IsStarted t bytes f p) where
  can : CanStart is.given (image_of bytes)
  can = starts_from_file t bytes is.given is.checked is.file is.room

  entered : EnteredAt (image_of bytes) (empty_slots is.given.slots is.given.size.words 1) f p.chip p.hart.control
  entered =
      enters_right (image_of bytes) (empty_slots is.given.slots is.given.size.words 1) is.given.cache.now (replicate is.given.slots []) is.empty p.chip f is.answer p.hart.control
      (is.starts (image_of bytes) can) is.enters is.goes

  carried : Carries (fetched f.bus) (image_of bytes)
  carried = image_same (image_of bytes) (word_of t) (fetched f.bus) is.text (image_carries t (image_of bytes) is.sized can.image is.checked.image)

  matched : Matches (image_of bytes) (kept_by entered.next) f p.hart.machine p.hart.control
  matched = subst (λ (m : Machine). Matches (image_of bytes) (kept_by entered.next) f m p.hart.control) (sym is.machine) entered.matches

  -- the bound that was handed in
  bound : p.chip.most ≡ is.given.most
  bound = (enters_repeated (empty_slots is.given.slots is.given.size.words 1) (λ n. image_of bytes) is.given.cache.now (replicate is.given.slots []) is.empty p.chip f.pc is.answer (is.starts (image_of bytes) can) is.enters).0.bound.most ∙ is.stays.most

  boot : kept_by entered.next ≡ fifo_few is.given.most (setting_in is.given) empty_record (image_of bytes) (indirect f.pc)
  boot =
      let empty : Slots = empty_slots is.given.slots is.given.size.words 1 in
      entered.moves ∙ ap (λ (m : ℕ). fifo_few m (setting_in is.given) (kept_by (empty_slots is.given.slots is.given.size.words 1)) (image_of bytes) (indirect f.pc)) bound
      ∙ ap (λ (r : Record). fifo_few is.given.most (setting_in is.given) r (image_of bytes) (indirect f.pc)) (kept_empty empty refl refl refl refl refl)

  first_bounded : IsBounded is.given.most (kept_by entered.next)
  first_bounded =
      subst (λ (r : Record). IsBounded is.given.most r) (sym boot)
      (keeps_bound is.given.most (setting_in is.given) empty_record (image_of bytes) (indirect f.pc) (λ c. (let none : 0 ≤ is.given.most = omega arith in none)))

-- nor do more behind any transfers
all_bounded : (most : ℕ) (by : Setting) (v : ImageData) (r : Record) (ts : List Transfer) → IsBounded most r → IsBounded most (after_all (fifo_few most by) v r ts)
all_bounded most by v r [] few = few
all_bounded most by v r (t ∷ ts) few = all_bounded most by v (fifo_few most by r v t) ts (keeps_bound most by r v t few)

ran_bounded : (most : ℕ) (v : ImageData) (s : Slots) (ram : List ℕ) (k : ℕ) (f : Machine) (old new : ProcessorState) → old.chip.most ≡ most → IsBounded most (kept_by s) → (x : ProcessorRan v s ram k f old new) → IsBounded most (kept_by x.next)
ran_bounded most v s ram k f old new is few x =
    subst (λ (r : Record). IsBounded most r) (sym x.ran.kept)
    (subst (λ (m : ℕ). IsBounded most (after_all (fifo_few m (setting_of s)) v (kept_by s) (transfers v k (started f old.input) (here_of v f old.hart.control)))) (sym is)
    (all_bounded most (setting_of s) v (kept_by s) (transfers v k (started f old.input) (here_of v f old.hart.control)) few))

pub runs_from_file : RunsFromFile
runs_from_file t bytes n k f at is moves short many =
    let e = entered t bytes f (at 0) is in
    let run : IsProcessorRun (image_of bytes) e.next n f at = record { moves = moves; short = short; image = carried t bytes f (at 0) is; matches = matched t bytes f (at 0) is } in
    let ran = processor_runs (image_of bytes) e.next e.words e.lists n k f at e.stands run (none_spent (image_of bytes) (at 0).chip f.pc is.answer f f.ending (at 0).hart.control is.goes) many in
    record {
      s = e.next;
      words = e.words;
      setting = e.setting;
      boot = boot t bytes f (at 0) is;
      bound = bound t bytes f (at 0) is;
      ran = ran;
      few = ran_bounded is.given.most (image_of bytes) e.next e.words k f (at 0) (at n) (bound t bytes f (at 0) is) (first_bounded t bytes f (at 0) is) ran;
    }
