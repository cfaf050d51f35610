-- What stands after an image was checked, and its line was written or not.
use Rattle.std.proofs.Common.{◌≡◌, ℕ, ◌≤◌, List, [], Some, Ok, Err, refl, subst, ap}
use Rattle.std.specs.Io.KnownBytes.{Appends}
use Rattle.swi_outside.specs.Causes.{Rose}
use Rattle.swi_outside.specs.Laws.{Appends-append, Appends-none}
use Rattle.swi_outside.specs.Shelf.{ShelfState}
use Rattle.swi_outside.specs.Sink.{AppendsPrefix, SinkState}
use Rattle.swi_elf_read.specs.Loaded.{image_of as image_in}
use Rattle.swi_image.specs.Format.{image_of}
use Rattle.swi_answer.specs.declared.answer.Ending.TheVariants as ending
use Rattle.swi_answer.specs.declared.answer.Refusal.TheVariants as refusal
use Rattle.swi_task.specs.Devices.{Devices, stream_faults}
use Rattle.swi_task.specs.Answers.{Answers}
use Rattle.swi_file_commands.specs.CheckFile.{Confirms, ConfirmFailed, check_task, checked_line}
use Rattle.swi_task.specs.Checks.{IsAccepted, image_checks}
use Rattle.swi_task.proofs.Lines.{IsLined, done_lined}
use Rattle.swi_task.proofs.Refusals.{IsRead, calm_causes, keeps_read, none_long, out_causes, read_is, sized_err, sized_ok}

pub confirmed : (d : Devices) (s : ShelfState) (out : SinkState) (name bytes held : List ℕ) → IsRead d.shelf s name bytes →
    IsAccepted (image_checks bytes) → image_in bytes ≡ Some held → Appends d.output.held out.held (checked_line (image_of held)) → out.faults ≡ d.output.faults →
    Answers (check_task name) d (record d { shelf = s; output = out }) (Ok ending.Done) []
confirmed d s out name bytes held read accepted has written still = record {
  asked = λ e. let bad : ⊥ = cc in bad;
  sized = sized_ok ending.Done;
  checked = λ file are. subst (λ (f : List ℕ). IsAccepted (image_checks f)) (read_is read are refl) accepted;
  long = λ limit e. absurd (let bad : ⊥ = cc in bad);
  ended = refl;
  done = λ file are. subst (λ (f : List ℕ). Confirms f d (record d { shelf = s; output = out }) ending.Done) (read_is read are refl)
      (record { ending = refl; own = held; has = has; output = written; others = refl });
  failed = tt;
  refused = tt;
  shelf = keeps_read (check_task name) d.shelf s name bytes (Ok ending.Done) refl refl read (refl, refl) refl (λ e. let never : ⊥ = cc in never);
  input = refl;
  ram = refl;
  causes = calm_causes d (record d { shelf = s; output = out }) (Ok ending.Done) tt read.faults refl (ap (λ (n : ℕ). record (stream_faults d) { output = n }) still);
}

pub confirm_failed : (d : Devices) (s : ShelfState) (out : SinkState) (name bytes held : List ℕ) → IsRead d.shelf s name bytes →
    IsAccepted (image_checks bytes) → image_in bytes ≡ Some held → AppendsPrefix d.output.held out.held (checked_line (image_of held)) →
    d.output.faults ≤ out.faults → Rose d.output.faults out.faults →
    Answers (check_task name) d (record d { shelf = s; output = out }) (Err refusal.SinkFault) []
confirm_failed d s out name bytes held read accepted has written later rose = record {
  asked = λ e. let bad : ⊥ = cc in bad;
  sized = sized_err refusal.SinkFault (λ x. x);
  checked = λ file are. subst (λ (f : List ℕ). IsAccepted (image_checks f)) (read_is read are refl) accepted;
  long = none_long (check_task name) d.shelf.contents refusal.SinkFault (λ x. x);
  ended = tt;
  done = tt;
  failed = λ _ file are.
      subst (λ (f : List ℕ). ConfirmFailed f d (record d { shelf = s; output = out }) refusal.SinkFault [])
      (read_is read are refl)
      (record { own = held; has = has; output = written; error = Appends-none d.error.held; fault = refl; cause = rose });
  refused = λ never. absurd (never tt);
  shelf = keeps_read (check_task name) d.shelf s name bytes (Err refusal.SinkFault) refl refl read (refl, refl) refl (λ e. let never : ⊥ = cc in never);
  input = refl;
  ram = refl;
  causes = out_causes d (record d { shelf = s; output = out }) read.faults refl refl refl later rose;
}

-- no line stands behind it
pub check_lined : (name : List ℕ) → IsLined (check_task name)
check_lined name = done_lined (check_task name) (λ e is. is) (λ files d m r held line h p.
    record { own = h.own; has = h.has; output = h.output; error = Appends-append d.error.held m.error.held held [] line h.error p; fault = h.fault; cause = h.cause })
