-- What each command has written of a file.
use Rattle.std.proofs.Common.{◌≡◌, ℕ, ◌≤◌, Bool, true, false, List, [], ◌∷◌, ◌++◌, length, drop, Option, Some, sym, ◌∙◌, subst, ap, arith, length-append}
use Rattle.std.proofs.Math.Seq.{drop-append_seam}
use Rattle.swi_outside.specs.Shelf.{Passed}
use Rattle.swi_elf_read.specs.Loaded.{image_of as image_in}
use Rattle.swi_image.specs.Format.{ImageData, image_of}
use Rattle.swi_program.specs.Text.{TextData}
use Rattle.swi_render.specs.ImageOf.{IsImageOf}
use Rattle.swi_cut.specs.Cuts.{IsCutBy}
use Rattle.swi_command.specs.CommandLine.{Request, RewriteFile, RunAhead, RunShared, RunCached, RunPlain, ListFile, CheckFile, UpgradeFile, MeasureMade, RunSurvey, RunProfile}
use Rattle.swi_answer.specs.declared.answer.Ending.{Ending}
use Rattle.swi_file_commands.specs.RewriteFile.{cutting_of, rewrite_task}
use Rattle.swi_file_commands.specs.UpgradeFile.{upgrade_task}
use Rattle.swi_program.specs.ProgramOf.{program_of_file}
use Rattle.swi_task.specs.Checks.{block_words}
use Rattle.swi_task.specs.Devices.{Devices}
use Rattle.swi_task.specs.Task.{AreFiles}
use Rattle.swi_rewrite_laws.specs.Ran.{Outcome}
use Rattle.swi_rewrite_laws.specs.Written.{HasWrittenFile, IsAsOriginal, block_written}
use Rattle.swi_rewrite_laws.proofs.Left.{same_file}
use Rattle.swi_rewrite_laws.proofs.Same.{IsCopy, as_original}

-- the last that was stored
stored_last : (xs : Passed) (p q : List ℕ × List ℕ) → xs ++ p ∷ [] ≡ xs ++ q ∷ [] → q.1 ≡ p.1
stored_last xs p q e =
    let same : p ∷ [] ≡ q ∷ [] = sym (drop-append_seam xs (p ∷ [])) ∙ ap (λ (l : Passed). drop (length xs) l) e ∙ drop-append_seam xs (q ∷ []) in
    let one : p ≡ q = cc in
    ap (λ (r : List ℕ × List ℕ). r.1) (sym one)

none_stored : (xs ys : Passed) (p : List ℕ × List ℕ) → ys ≡ xs → ys ≡ xs ++ p ∷ [] → ⊥
none_stored xs ys p none one = omega (arith, ap (λ (l : Passed). length l) none, ap (λ (l : Passed). length l) one, length-append xs (p ∷ []))

-- an image of a text in blocks of so many words at most
record IsCutInto (t : TextData) (block : ℕ) (v : ImageData) : Type 0 where
  own : IsImageOf t v
  version : v.version ≡ 2
  blocks : v.block_words ≡ block

cut_into : (whole : Bool) (t : TextData) (block : ℕ) (v : ImageData) → IsCutBy (cutting_of whole) t block v → IsCutInto t block v
cut_into true t block v cut = record { own = cut.image; version = cut.version; blocks = cut.most_words }
cut_into false t block v cut = record { own = cut.image; version = cut.version; blocks = cut.most_words }

same_blocks : (x : Option (List ℕ)) (own : List ℕ) (n : ℕ) → x ≡ Some own → n ≡ (image_of own).block_words → n ≡ block_words x 0
same_blocks x own n has is = is ∙ ap (λ (y : Option (List ℕ)). block_words y 0) (sym has)

copied : (q : Request) (before after : Devices) (e : Ending) (file out : List ℕ) → HasWrittenFile file out (record { request = q; before = before; after = after; ending = e }) → IsCopy file out (block_written q file)
copied (RewriteFile input output block whole) before after e file out h =
    let is : h.ended.files ≡ file = same_file h.ended.files file h.ended.only in
    let are = subst (λ (f : List ℕ). AreFiles (rewrite_task input output block whole) before.shelf after.shelf f) is h.ended.are in
    let checked = h.ended.answers.answers.checked file are in
    let puts = h.ended.answers.answers.done file are in
    let cut = cut_into whole _ block _ puts.made.cut in
    record {
      accepted = checked.1.0;
      image = puts.made.image;
      is_image = puts.made.accepted;
      own = cut.own;
      version = cut.version;
      blocks = cut.blocks;
      made = stored_last before.shelf.stored (output, puts.bytes) (h.name, out) (sym puts.stored ∙ h.stored) ∙ puts.made.made;
    }
copied (UpgradeFile input output) before after e file out h =
    let is : h.ended.files ≡ file = same_file h.ended.files file h.ended.only in
    let are = subst (λ (f : List ℕ). AreFiles (upgrade_task input output) before.shelf after.shelf f) is h.ended.are in
    let checked = h.ended.answers.answers.checked file are in
    let puts = h.ended.answers.answers.done file are in
    record {
      accepted = checked.1.0;
      image = puts.made.image;
      is_image = puts.made.accepted;
      own = puts.made.upgrade.image;
      version = puts.made.upgrade.version;
      blocks = same_blocks (image_in file) puts.made.own _ puts.made.has puts.made.upgrade.most_words;
      made = stored_last before.shelf.stored (output, puts.bytes) (h.name, out) (sym puts.stored ∙ h.stored) ∙ puts.made.made;
    }
copied (RunPlain name o) before after e file out h = absurd (none_stored before.shelf.stored after.shelf.stored (h.name, out) h.ended.answers.answers.shelf.passed.stored h.stored)
copied (RunCached name cache o) before after e file out h = absurd (none_stored before.shelf.stored after.shelf.stored (h.name, out) h.ended.answers.answers.shelf.passed.stored h.stored)
copied (RunAhead name cache o rate) before after e file out h = absurd (none_stored before.shelf.stored after.shelf.stored (h.name, out) h.ended.answers.answers.shelf.passed.stored h.stored)
copied (CheckFile name) before after e file out h = absurd (none_stored before.shelf.stored after.shelf.stored (h.name, out) h.ended.answers.answers.shelf.passed.stored h.stored)
copied (ListFile name most) before after e file out h = absurd (none_stored before.shelf.stored after.shelf.stored (h.name, out) h.ended.answers.answers.shelf.passed.stored h.stored)
copied (MeasureMade seed functions cache) before after e file out h = absurd (none_stored before.shelf.stored after.shelf.stored (h.name, out) h.ended.answers.answers.shelf.passed.stored h.stored)
copied (RunShared names cache o) before after e file out h = absurd (none_stored before.shelf.stored after.shelf.stored (h.name, out) h.ended.answers.answers.shelf.passed.stored h.stored)
copied (RunSurvey name sizes block kind limits) before after e file out h = absurd (none_stored before.shelf.stored after.shelf.stored (h.name, out) h.ended.answers.answers.shelf.passed.stored h.stored)
copied (RunProfile name limits) before after e file out h = absurd (none_stored before.shelf.stored after.shelf.stored (h.name, out) h.ended.answers.answers.shelf.passed.stored h.stored)

pub written : (file out : List ℕ) (c : Outcome) → HasWrittenFile file out c → length (program_of_file file).segments ≤ 63 → IsAsOriginal file out (block_written c.request file)
written file out c h few = as_original file out (block_written c.request file) (copied c.request c.before c.after c.ending file out h) few
