-- A listing that is written block by block, and what a command answers that writes it.
use Rattle.std.proofs.Common.{◌≡◌, inl, inr, ℕ, zero, suc, ◌+◌, ◌<◌, ◌≤◌, List, [], ◌++◌, Option, Result, Ok, Err, IfOk, IfErr, refl, sym, ◌∙◌, subst, ap, arith}
use Rattle.std.proofs.lemmas.Bool.{cases_eq}
use Rattle.std.proofs.lemmas.List.{append-nil, append_assoc}
use Rattle.std.specs.Io.KnownBytes.{Appends}
use Rattle.swi_outside.specs.Causes.{HasCause}
use Rattle.swi_outside.specs.Laws.{Appends-append, Appends-none}
use Rattle.swi_outside.specs.Shelf.{ShelfState}
use Rattle.swi_outside.specs.Sink.{AppendsPrefix, SinkState}
use Rattle.swi_outside.proofs.SinkLemmas.{prefix_behind}
use Rattle.swi_elf_read.specs.Loaded.{image_of as image_in}
use Rattle.swi_program.specs.Text.{TextData}
use Rattle.swi_image.specs.Format.{ImageData}
use Rattle.swi_answer.specs.declared.answer.Ending.{Ending}
use Rattle.swi_answer.specs.declared.answer.Ending.TheVariants as ending
use Rattle.swi_answer.specs.declared.answer.Refusal.{Refusal}
use Rattle.swi_answer.specs.declared.answer.Refusal.TheVariants as refusal
use Rattle.swi_trace.specs.Block.{block_lines}
use Rattle.swi_task.specs.Answers.{Answers}
use Rattle.swi_task.specs.Checks.{IsAccepted, text_in}
use Rattle.swi_task.specs.Devices.{Devices, stream_faults}
use Rattle.swi_file_commands.specs.ListFile.{Lists, ListFailed, first_blocks, list_checks, list_task, listing}
use Rattle.swi_task.specs.Subject.{IsImageFor}
use Rattle.swi_task.proofs.Lines.{IsLined, done_lined}
use Rattle.swi_task.proofs.Refusals.{IsRead, calm_causes, keeps_read, none_long, out_causes, read_is, sized_err, sized_ok}

-- ---- block by block

-- the lines of the first blocks, and those of all others
parted : (t : TextData) (v : ImageData) (k n : ℕ) → k ≤ n → (rest : List ℕ) × (first_blocks t v n ≡ first_blocks t v k ++ rest)
unfolding first_blocks
parted t v k zero within =
    let none : k ≡ zero = omega arith in
    ([], rw none (sym (append-nil _)))
parted t v k (suc n) within = elim (cases_eq k (suc n)) [
  | inl all ↦ ([], rw all (sym (append-nil _)))
  | inr more ↦
      let before = parted t v k n (omega arith) in
      (before.0 ++ block_lines t v n, ap (λ l. l ++ block_lines t v n) before.1 ∙ append_assoc (first_blocks t v k) before.0 (block_lines t v n))
]

pub no_blocks : (t : TextData) (v : ImageData) (o : Option (List ℕ)) → Appends o o (first_blocks t v 0)
unfolding first_blocks
no_blocks t v o = Appends-none o

-- one more block
pub block_more : (t : TextData) (v : ImageData) (k : ℕ) (o p q : Option (List ℕ)) → Appends o p (first_blocks t v k) → Appends p q (block_lines t v k) →
    Appends o q (first_blocks t v (k + 1))
unfolding first_blocks
block_more t v k o p q written block =
    let next : k + 1 ≡ suc k = omega arith in
    rw next (Appends-append o p q (first_blocks t v k) (block_lines t v k) written block)

-- a block that could not be written whole
pub block_broken : (t : TextData) (v : ImageData) (k n : ℕ) (o p q : Option (List ℕ)) → k < n → Appends o p (first_blocks t v k) → AppendsPrefix p q (block_lines t v k) →
    AppendsPrefix o q (first_blocks t v n)
unfolding first_blocks
block_broken t v k n o p q within written front =
    let rest = parted t v (suc k) n (omega arith) in
    let all : first_blocks t v n ≡ first_blocks t v k ++ (block_lines t v k ++ rest.0) =
    rest.1 ∙ append_assoc (first_blocks t v k) (block_lines t v k) rest.0 in
    rw all (prefix_behind o p q (first_blocks t v k) (block_lines t v k) rest.0 written front)

-- ---- what a command answers that writes it

pub listed : (name : List ℕ) (most : ℕ) (d : Devices) (s : ShelfState) (out : SinkState) (bytes : List ℕ) (v : ImageData) (r : Result Ending Refusal) →
    IsRead d.shelf s name bytes → IsAccepted (list_checks most bytes) → IsImageFor bytes most (image_in bytes) v →
    IfOk r (λ e. (e ≡ ending.Done) × Appends d.output.held out.held (listing (text_in bytes) v)) →
    IfErr r (λ x. (x ≡ refusal.SinkFault) × AppendsPrefix d.output.held out.held (listing (text_in bytes) v)) → HasCause d.output.faults out.faults r →
    Answers (list_task name most) d (record d { shelf = s; output = out }) r []
listed name most d s out bytes v (Ok e) read accepted own written broke cause =
    let m : Devices = record d { shelf = s; output = out } in record {
      asked = λ x. let bad : ⊥ = cc in bad;
      sized = sized_ok e;
      checked = λ file are. subst (λ (f : List ℕ). IsAccepted (list_checks most f)) (read_is read are refl) accepted;
      long = λ limit x. absurd (let bad : ⊥ = cc in bad);
      ended = written.0;
      done = λ file are. subst (λ (f : List ℕ). Lists f most d m e) (read_is read are refl)
          (record { ending = written.0; image = v; own = own; output = written.1; others = refl });
      failed = tt;
      refused = tt;
      shelf = keeps_read (list_task name most) d.shelf s name bytes (Ok e) refl refl read (refl, refl) refl (λ x. let never : ⊥ = cc in never);
      input = refl;
      ram = refl;
      causes = calm_causes d m (Ok e) tt read.faults refl (ap (λ (n : ℕ). record (stream_faults d) { output = n }) cause.quiet);
    }
listed name most d s out bytes v (Err r) read accepted own written broke cause =
    let m : Devices = record d { shelf = s; output = out } in
    subst (λ (x : Refusal). Answers (list_task name most) d m (Err x) []) (sym broke.0) (record {
      asked = λ e. let bad : ⊥ = cc in bad;
      sized = sized_err refusal.SinkFault (λ x. x);
      checked = λ file are. subst (λ (f : List ℕ). IsAccepted (list_checks most f)) (read_is read are refl) accepted;
      long = none_long (list_task name most) d.shelf.contents refusal.SinkFault (λ x. x);
      ended = tt;
      done = tt;
      failed = λ _ file are. subst (λ (f : List ℕ). ListFailed f most d m refusal.SinkFault []) (read_is read are refl)
          (record { image = v; own = own; output = broke.1; error = Appends-none d.error.held; fault = refl; cause = cause.failed });
      refused = λ never. absurd (never tt);
      shelf = keeps_read (list_task name most) d.shelf s name bytes (Err refusal.SinkFault) refl refl read (refl, refl) refl (λ x. let never : ⊥ = cc in never);
      input = refl;
      ram = refl;
      causes = out_causes d m read.faults refl refl refl cause.later cause.failed;
    })

-- no line stands behind it
pub list_lined : (name : List ℕ) (most : ℕ) → IsLined (list_task name most)
list_lined name most = done_lined (list_task name most) (λ e is. is) (λ files d m r held line h p.
    record { image = h.image; own = h.own; output = h.output; error = Appends-append d.error.held m.error.held held [] line h.error p; fault = h.fault; cause = h.cause })
