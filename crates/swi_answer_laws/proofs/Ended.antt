-- Two endings of one command are the same, and leave the same.
use Rattle.std.proofs.Common.{◌≡◌, ℕ, ◌<◌, Bool, List, ◌++◌, get_or, Option, Some, Ok, sym, ap, subst, ◌∙◌}
use Rattle.std.specs.Prelude.{All}
use Rattle.swi_elf_read.specs.Loaded.{image_of as image_in}
use Rattle.swi_program.specs.Program.{ProgramData}
use Rattle.swi_program.specs.ProgramOf.{program_of_file}
use Rattle.swi_image.specs.Format.{ImageData, image_of}
use Rattle.swi_cut.specs.Upgrades.{IsUpgrade}
use Rattle.swi_cut_laws.proofs.Bytes.{cut_bytes_are_one, upgrade_bytes_are_one}
use Rattle.swi_elf_write.specs.FileHeader.{file_header_bytes, table_bytes}
use Rattle.swi_elf_write.specs.Rewritten.{contents, file_header, headers, padding, rewritten_file}
use Rattle.swi_command.specs.declared.command.CacheKind.{CacheKind}
use Rattle.swi_command.specs.declared.command.RunLimits.{RunLimits}
use Rattle.swi_command.specs.declared.command.RunOptions.{RunOptions}
use Rattle.swi_command.specs.CommandLine.{Request, RewriteFile, RunPlain, ListFile, CheckFile, UpgradeFile, RunSurvey, RunProfile}
use Rattle.swi_answer.specs.declared.answer.Ending.{Ending}
use Rattle.swi_answer.specs.Lines.{ending_line}
use Rattle.swi_task.specs.Answers.{Answers}
use Rattle.swi_task.specs.Checks.{text_in}
use Rattle.swi_task.specs.Devices.{Devices}
use Rattle.swi_task.specs.Task.{AreFiles}
use Rattle.swi_file_commands.specs.CheckFile.{checked_line}
use Rattle.swi_file_commands.specs.ListFile.{listing}
use Rattle.swi_file_commands.specs.RewriteFile.{IsRewritten, cutting_of}
use Rattle.swi_file_commands.specs.RunFlat.{run_of, told_of}
use Rattle.swi_file_commands.specs.RunPlain.{plain_report, plain_run}
use Rattle.swi_file_commands.specs.RunProfile.{profile_command}
use Rattle.swi_file_commands.specs.UpgradeFile.{IsUpgraded}
use Rattle.swi_survey_command.specs.RunSurvey.{SurveyRun, Surveys, limit_of, survey_lines, survey_of, surveyed}
use Rattle.swi_top.specs.Tasks.{task_of}
use Rattle.swi_answer_laws.specs.Answered.{GainAlike, RamsAlike, StoreAlike, cache_words}
use Rattle.swi_answer_laws.specs.Placed.{StandAlike, IsLeftBy, Standing}
use Rattle.swi_answer_laws.proofs.Alike.{behind_small, gain, gain_none, last_small, ran_alike, same_ram, store_none, store_one}
use Rattle.swi_answer_laws.proofs.Parts.{image_is_one}

-- a command's devices before and after it, and its ending
pub record End : Type 0 where
  pub before : Devices
  pub after : Devices
  pub ending : Ending

pub record Ended (q : Request) (files : (task_of q).Files) (input : List ℕ) (x : End) : Type 0 where
  pub answers : Answers (task_of q) x.before x.after (Ok x.ending) (ending_line x.ending)
  pub are : AreFiles (task_of q) x.before.shelf x.after.shelf files
  pub told : x.before.input.left ≡ Some input
  pub stored : All (λ p. (i : ℕ) → get_or p.1 i 0 < 256) x.after.shelf.stored

pub record EndAlike (q : Request) (files : (task_of q).Files) (input : List ℕ) (x y : End) : Type 0 where
  pub ending : x.ending ≡ y.ending
  pub output : GainAlike x.before.output x.after.output y.before.output y.after.output
  pub error : GainAlike x.before.error x.after.error y.before.error y.after.error
  pub left : x.after.input.left ≡ y.after.input.left
  pub stored : StoreAlike x.before.shelf.stored x.after.shelf.stored y.before.shelf.stored y.after.shelf.stored
  pub ram : RamsAlike (cache_words (task_of q).caches) x.after.ram y.after.ram
  pub placed : (s : Standing) → IsLeftBy q files input s → StandAlike s x.after.ram.words y.after.ram.words

abbrev pub SameRam : End → End → Type 0
SameRam x y = x.before.ram ≡ y.before.ram

abbrev pub EndOnce : (q : Request) → Type 0
EndOnce q = (files : (task_of q).Files) (input : List ℕ) (x y : End) → SameRam x y → Ended q files input x → Ended q files input y → EndAlike q files input x y

-- where neither the ram nor the input was asked
kept_ram : (x y : End) → SameRam x y → x.after.ram ≡ x.before.ram → y.after.ram ≡ y.before.ram → RamsAlike 0 x.after.ram y.after.ram
kept_ram x y same p q = same_ram 0 x.after.ram y.after.ram (p ∙ (same ∙ sym q))

kept_left : (input : List ℕ) (x y : End) → x.before.input.left ≡ Some input → y.before.input.left ≡ Some input → x.after.input ≡ x.before.input → y.after.input ≡ y.before.input → x.after.input.left ≡ y.after.input.left
kept_left input x y told told_ p q = ap (λ s. s.left) p ∙ (told ∙ (sym told_ ∙ sym (ap (λ s. s.left) q)))

same_some : (x : Option (List ℕ)) (a b : List ℕ) → x ≡ Some a → x ≡ Some b → a ≡ b
same_some x a b p q = let same : Some a ≡ Some b = sym p ∙ q in cc

-- ---- without a run

pub list_once : (name : List ℕ) (most : ℕ) → EndOnce (ListFile name most)
list_once name most file input x y same p q =
    let a = p.answers.done file p.are in
    let b = q.answers.done file q.are in
    let image : a.image ≡ b.image = image_is_one file most a.image b.image a.own b.own in
    record {
      ending = a.ending ∙ sym b.ending;
      output = gain x.before.output x.after.output y.before.output y.after.output (listing (text_in file) a.image) (listing (text_in file) b.image) (ap (λ (v : ImageData). listing (text_in file) v) image) a.output b.output;
      error = gain_none x.before.error x.after.error y.before.error y.after.error (ap (λ (d : Devices). d.error) a.others) (ap (λ (d : Devices). d.error) b.others);
      left = kept_left input x y p.told q.told p.answers.input q.answers.input;
      stored = store_none _ _ _ _ p.answers.shelf.passed.stored q.answers.shelf.passed.stored;
      ram = kept_ram x y same p.answers.ram q.answers.ram;
      placed = λ s none. absurd none;
    }

pub check_once : (name : List ℕ) → EndOnce (CheckFile name)
check_once name file input x y same p q =
    let a = p.answers.done file p.are in
    let b = q.answers.done file q.are in
    let own : a.own ≡ b.own = same_some (image_in file) a.own b.own a.has b.has in
    record {
      ending = a.ending ∙ sym b.ending;
      output = gain x.before.output x.after.output y.before.output y.after.output (checked_line (image_of a.own)) (checked_line (image_of b.own)) (ap (λ (l : List ℕ). checked_line (image_of l)) own) a.output b.output;
      error = gain_none x.before.error x.after.error y.before.error y.after.error (ap (λ (d : Devices). d.error) a.others) (ap (λ (d : Devices). d.error) b.others);
      left = kept_left input x y p.told q.told p.answers.input q.answers.input;
      stored = store_none _ _ _ _ p.answers.shelf.passed.stored q.answers.shelf.passed.stored;
      ram = kept_ram x y same p.answers.ram q.answers.ram;
      placed = λ s none. absurd none;
    }

-- the image that a written file carries is bytes, where the file is
image_small : (p : ProgramData) (image bytes : List ℕ) → bytes ≡ rewritten_file p image → ((i : ℕ) → get_or bytes i 0 < 256) → (i : ℕ) → get_or image i 0 < 256
unfolding rewritten_file
image_small p image bytes e s =
    behind_small (file_header_bytes (file_header p) ++ table_bytes (headers p.segments image) ++ contents p.segments ++ padding p.segments) image (subst (λ (l : List ℕ). (i : ℕ) → get_or l i 0 < 256) e s)

rewritten_once : (file : List ℕ) (block : ℕ) (whole : Bool) (xs ys : List ℕ) → ((i : ℕ) → get_or xs i 0 < 256) → ((i : ℕ) → get_or ys i 0 < 256) →
    IsRewritten file block whole xs → IsRewritten file block whole ys → xs ≡ ys
rewritten_once file block whole xs ys s r a b =
    let p : ProgramData = program_of_file file in
    let image : a.image ≡ b.image = cut_bytes_are_one (cutting_of whole) (text_in file) block a.image b.image (record { small = image_small p a.image xs a.made s; accepted = a.accepted })
    (record { small = image_small p b.image ys b.made r; accepted = b.accepted }) a.cut b.cut in
    a.made ∙ (ap (λ (l : List ℕ). rewritten_file p l) image ∙ sym b.made)

upgraded_once : (file xs ys : List ℕ) → ((i : ℕ) → get_or xs i 0 < 256) → ((i : ℕ) → get_or ys i 0 < 256) → IsUpgraded file xs → IsUpgraded file ys → xs ≡ ys
upgraded_once file xs ys s r a b =
    let p : ProgramData = program_of_file file in
    let own : b.own ≡ a.own = same_some (image_in file) b.own a.own b.has a.has in
    let other : IsUpgrade (text_in file) (image_of a.own) (image_of b.image) = subst (λ (l : List ℕ). IsUpgrade (text_in file) (image_of l) (image_of b.image)) own b.upgrade in
    let image : a.image ≡ b.image = upgrade_bytes_are_one (text_in file) (image_of a.own) a.image b.image (record { small = image_small p a.image xs a.made s; accepted = a.accepted })
    (record { small = image_small p b.image ys b.made r; accepted = b.accepted }) a.upgrade other in
    a.made ∙ (ap (λ (l : List ℕ). rewritten_file p l) image ∙ sym b.made)

pub rewrite_once : (from to : List ℕ) (block : ℕ) (whole : Bool) → EndOnce (RewriteFile from to block whole)
rewrite_once from to block whole file input x y same p q =
    let a = p.answers.done file p.are in
    let b = q.answers.done file q.are in
    let bytes : a.bytes ≡ b.bytes = rewritten_once file block whole a.bytes b.bytes (last_small _ _ to a.bytes a.stored p.stored) (last_small _ _ to b.bytes b.stored q.stored) a.made b.made in
    record {
      ending = a.ending ∙ sym b.ending;
      output = gain_none x.before.output x.after.output y.before.output y.after.output (ap (λ (d : Devices). d.output) a.others) (ap (λ (d : Devices). d.output) b.others);
      error = gain_none x.before.error x.after.error y.before.error y.after.error (ap (λ (d : Devices). d.error) a.others) (ap (λ (d : Devices). d.error) b.others);
      left = kept_left input x y p.told q.told p.answers.input q.answers.input;
      stored = store_one _ _ _ _ to a.bytes b.bytes bytes a.stored b.stored;
      ram = kept_ram x y same p.answers.ram q.answers.ram;
      placed = λ s none. absurd none;
    }

pub upgrade_once : (from to : List ℕ) → EndOnce (UpgradeFile from to)
upgrade_once from to file input x y same p q =
    let a = p.answers.done file p.are in
    let b = q.answers.done file q.are in
    let bytes : a.bytes ≡ b.bytes = upgraded_once file a.bytes b.bytes (last_small _ _ to a.bytes a.stored p.stored) (last_small _ _ to b.bytes b.stored q.stored) a.made b.made in
    record {
      ending = a.ending ∙ sym b.ending;
      output = gain_none x.before.output x.after.output y.before.output y.after.output (ap (λ (d : Devices). d.output) a.others) (ap (λ (d : Devices). d.output) b.others);
      error = gain_none x.before.error x.after.error y.before.error y.after.error (ap (λ (d : Devices). d.error) a.others) (ap (λ (d : Devices). d.error) b.others);
      left = kept_left input x y p.told q.told p.answers.input q.answers.input;
      stored = store_one _ _ _ _ to a.bytes b.bytes bytes a.stored b.stored;
      ram = kept_ram x y same p.answers.ram q.answers.ram;
      placed = λ s none. absurd none;
    }

-- ---- runs without the ram

pub plain_once : (name : List ℕ) (o : RunOptions) → EndOnce (RunPlain name o)
plain_once name o file input x y same p q =
    let s = plain_run o file input o.limits.steps in
    let r = ran_alike s (plain_report o s) x.before x.after y.before y.after x.ending y.ending (p.answers.done file p.are input p.told) (q.answers.done file q.are input q.told) in
    record {
      ending = r.ending;
      output = r.output;
      error = r.error;
      left = r.left;
      stored = store_none _ _ _ _ p.answers.shelf.passed.stored q.answers.shelf.passed.stored;
      ram = kept_ram x y same p.answers.ram q.answers.ram;
      placed = λ s none. absurd none;
    }

pub profile_once : (name : List ℕ) (limits : RunLimits) → EndOnce (RunProfile name limits)
profile_once name limits file input x y same p q =
    let s = run_of (profile_command limits) file input limits.steps in
    let r = ran_alike s (told_of (profile_command limits) file input) x.before x.after y.before y.after x.ending y.ending (p.answers.done file p.are input p.told) (q.answers.done file q.are input q.told) in
    record {
      ending = r.ending;
      output = r.output;
      error = r.error;
      left = r.left;
      stored = store_none _ _ _ _ p.answers.shelf.passed.stored q.answers.shelf.passed.stored;
      ram = kept_ram x y same p.answers.ram q.answers.ram;
      placed = λ s none. absurd none;
    }

pub survey_once : (name : List ℕ) (sizes : List ℕ) (block : ℕ) (kind : CacheKind) (limits : RunLimits) → EndOnce (RunSurvey name sizes block kind limits)
survey_once name sizes block kind limits file input x y same p q =
    let a = p.answers.done file p.are in
    let b = q.answers.done file q.are in
    let s : SurveyRun = survey_of kind sizes limits file a.0 input in
    let image : b.0 ≡ a.0 = image_is_one file block b.0 a.0 b.1 a.1 in
    let other : Surveys s y.before y.after y.ending (ending_line y.ending) =
    subst (λ (v : ImageData). Surveys (survey_of kind sizes limits file v input) y.before y.after y.ending (ending_line y.ending)) image (b.2 input q.told) in
    let r = ran_alike (surveyed s (limit_of s)) (survey_lines s) x.before x.after y.before y.after x.ending y.ending ((a.2 input p.told).ran) other.ran in
    record {
      ending = r.ending;
      output = r.output;
      error = r.error;
      left = r.left;
      stored = store_none _ _ _ _ p.answers.shelf.passed.stored q.answers.shelf.passed.stored;
      ram = kept_ram x y same p.answers.ram q.answers.ram;
      placed = λ s none. absurd none;
    }
