-- A file that was written with the program of another one, and an image of its text, is as that.
use Rattle.std.proofs.Common.{◌≡◌, ℕ, ◌*◌, ◌/◌, ◌%◌, ◌^◌, ◌≤◌, List, length, find, Option, Some, None, refl, sym, ◌∙◌, subst, ap, arith}
use Rattle.swi_elf_read.specs.Elf as elf
use Rattle.swi_elf_read.specs.Elf.{e_entry, e_flags}
use Rattle.swi_elf_read.specs.Loaded.{loaded_segments, image_of as image_in}
use Rattle.swi_elf_read.proofs.AcceptedFacts.{accepted_apart, accepted_each, accepted_entry, accepted_flags, accepted_memory, accepted_text}
use Rattle.swi_image.specs.Checks.{first_refusal}
use Rattle.swi_image.specs.Format.{image_of}
use Rattle.swi_program.specs.Layout.{laid_out}
use Rattle.swi_program.specs.Program.{IsProgram, ProgramData, SegmentData, can_execute}
use Rattle.swi_program.specs.ProgramOf.{program_of_file}
use Rattle.swi_program.specs.Text.{IsSized, TextData, text_in as text_there_in, text_of}
use Rattle.swi_program.proofs.FromFile.{file_program}
use Rattle.swi_program.proofs.Texts.{entry_word, text_facts, text_sized, text_there, texts-filter}
use Rattle.swi_render.specs.Cut.{Fits}
use Rattle.swi_render.specs.ImageOf.{IsImageOf}
use Rattle.swi_elf_write.specs.ReadsAs.{ReadsAs}
use Rattle.swi_elf_write.specs.Rewritten.{rewritten_file}
use Rattle.swi_elf_write.proofs.ReadBack.{IsSmall, read_back}
use Rattle.swi_calls.specs.Flat.{flat_start}
use Rattle.swi_calls.specs.State.{FlatState}
use Rattle.swi_command.specs.declared.command.RunLimits.{RunLimits}
use Rattle.swi_command.specs.declared.command.RunOptions.{RunOptions}
use Rattle.swi_task.specs.Checks.{HasRoom, OfImage, Passes, block_words, file_limit, text_in}
use Rattle.swi_task.specs.Runs.{layout_in, start_of}
use Rattle.swi_rewrite_laws.specs.Written.{IsAsOriginal, PassesAll}
use Rattle.swi_rewrite_laws.proofs.Left.{run_alike}
use Rattle.swi_rewrite_laws.proofs.Sizes.{file_few, image_few}

-- a file is the rewritten file of another one's program, with an image of its text, of blocks of so many words at most
pub record IsCopy (file out : List ℕ) (block : ℕ) : Type 0 where
  pub accepted : elf.first_refusal file ≡ None
  pub image : List ℕ
  pub is_image : first_refusal image ≡ None
  pub own : IsImageOf (text_in file) (image_of image)
  pub version : (image_of image).version ≡ 2
  pub blocks : (image_of image).block_words ≡ block
  pub made : out ≡ rewritten_file (program_of_file file) image

-- ---- the program of the other one

program_kept : (file : List ℕ) → elf.first_refusal file ≡ None → IsProgram (program_of_file file)
program_kept file e =
    file_program (program_of_file file).segments (loaded_segments file) (e_entry file) (e_flags file) refl (accepted_flags file e) (accepted_each file e) (accepted_apart file e) (accepted_text file e)
    (accepted_memory file e) (accepted_entry file e)

text_kept : (p : ProgramData) (o : Option SegmentData) → IsProgram p → find can_execute p.segments ≡ o → IsSized (text_there_in o)
text_kept p None sound e = absurd (text_there p sound e)
text_kept p (Some s) sound e = text_sized s (text_facts p s sound e)

sized : (p : ProgramData) → IsProgram p → IsSized (text_of p.segments)
unfolding text_of
sized p sound = text_kept p (find can_execute p.segments) sound refl

-- the flags are written as a word
abbrev as_word : ProgramData → ProgramData
as_word p = record p { flags = p.flags % 2 ^ 32 }

written_as_word : (p : ProgramData) (image : List ℕ) → rewritten_file (as_word p) image ≡ rewritten_file p image
unfolding rewritten_file
written_as_word p image =
    let a : p.flags % 4294967296 % 256 ≡ p.flags % 256 = omega arith in
    let b : p.flags % 4294967296 / 256 % 256 ≡ p.flags / 256 % 256 = omega arith in
    let c : p.flags % 4294967296 / 65536 % 256 ≡ p.flags / 65536 % 256 = omega arith in
    let d : p.flags % 4294967296 / 16777216 % 256 ≡ p.flags / 16777216 % 256 = omega arith in
    rw (a, b, c, d) refl

is_small : (p : ProgramData) → IsProgram p → length p.segments ≤ 63 → IsSmall (as_word p)
is_small p sound few =
    let word = entry_word p p refl sound in
    let text = sized p sound in
    record {
      few = few;
      entry = omega (arith, word.last, text.end);
      flags = omega arith;
      plain = omega (arith, sound.plain);
      each = sound.each;
      apart = sound.apart;
      one_text = texts-filter p.segments ∙ sound.one_text;
      memory = sound.memory;
      word = word;
    }

-- ---- what the file is read as

read : (file out : List ℕ) (block : ℕ) (c : IsCopy file out block) → length (program_of_file file).segments ≤ 63 → ReadsAs out (as_word (program_of_file file)) c.image
read file out block c few =
    let p : ProgramData = program_of_file file in
    let sound : IsProgram p = program_kept file c.accepted in
    let size = image_few (text_in file) c.image c.is_image c.own c.version in
    subst (λ (l : List ℕ). ReadsAs l (as_word p) c.image) (written_as_word p c.image ∙ sym c.made) (read_back (as_word p) c.image (is_small p sound few) (omega (arith, size)))

short : (file out : List ℕ) (block : ℕ) (c : IsCopy file out block) → length (program_of_file file).segments ≤ 63 → length out ≤ file_limit
short file out block c few =
    let p : ProgramData = program_of_file file in
    let sound : IsProgram p = program_kept file c.accepted in
    let size = image_few (text_in file) c.image c.is_image c.own c.version in
    subst (λ (l : List ℕ). length l ≤ file_limit) (sym c.made) (file_few p c.image few sound.each sound.memory size)

-- its runs begin as the other one's
abbrev begun_by : (o : RunOptions) (input : List ℕ) → ℕ → List SegmentData → FlatState
begun_by o input entry ss =
    flat_start (record { entry = entry; flags = 0; segments = ss }) (layout_in (laid_out ss o.limits.heap o.limits.stack)) o.reports.calls input

begun : (o : RunOptions) (file input : List ℕ) → start_of o file input ≡ begun_by o input (program_of_file file).entry (program_of_file file).segments
unfolding start_of
begun o file input = refl

begins_alike : (o : RunOptions) (file out input : List ℕ) → (program_of_file out).entry ≡ (program_of_file file).entry → (program_of_file out).segments ≡ (program_of_file file).segments →
    start_of o out input ≡ start_of o file input
begins_alike o file out input entry segments =
    begun o out input ∙ ap (λ (a : ℕ). begun_by o input a (program_of_file out).segments) entry ∙ ap (λ (ss : List SegmentData). begun_by o input (program_of_file file).entry ss) segments
    ∙ sym (begun o file input)

-- ---- the checks

of_image : (x : Option (List ℕ)) (P : List ℕ → Type 0) (bytes : List ℕ) → x ≡ Some bytes → P bytes → OfImage x P
of_image x P bytes e h = subst (λ (y : Option (List ℕ)). OfImage y P) (sym e) h

no_image : (x : Option (List ℕ)) (bytes : List ℕ) → x ≡ Some bytes → x ≡ None → ⊥
no_image x bytes some none = cc

passes : (file out bytes : List ℕ) (block : ℕ) → length out ≤ file_limit → elf.first_refusal out ≡ None → (program_of_file out).segments ≡ (program_of_file file).segments →
    image_in out ≡ Some bytes → first_refusal bytes ≡ None → IsImageOf (text_in file) (image_of bytes) → (image_of bytes).block_words ≡ block → PassesAll file out block
passes file out bytes block size accepted segments has good cut blocks =
    let text : text_in out ≡ text_in file = ap (λ (ss : List SegmentData). text_of ss) segments in
    let own : IsImageOf (text_in out) (image_of bytes) = subst (λ (t : TextData). IsImageOf t (image_of bytes)) (sym text) cut in
    let is_image = of_image (image_in out) (λ b. first_refusal b ≡ None) bytes has good in
    let is_own = of_image (image_in out) (λ b. IsImageOf (text_in out) (image_of b)) bytes has own in
    let fits : (most : ℕ) → image_in out ≡ None → Fits (text_in out) most = λ most none. absurd (no_image (image_in out) bytes has none) in
    let room : (limits : RunLimits) → Passes (HasRoom file limits) → Passes (HasRoom out limits) =
    λ limits h. (h.0, ap (λ (ss : List SegmentData). laid_out ss limits.heap limits.stack) segments ∙ h.1) in
    record {
      checked = (size, (accepted, ((bytes, has), (is_image, (is_own, tt)))));
      listed = λ most. (size, (accepted, (is_image, (is_own, (fits most, tt)))));
      rewritten = λ most h. (size, (accepted, (subst (λ (t : TextData). Fits t most) (sym text) h, tt)));
      plain = λ limits h. (size, (accepted, (room limits h, (is_image, (is_own, tt)))));
      cached = λ limits cache h holds.
          let least : 4 * block_words (image_in out) cache.block_words ≤ cache.cache_bytes = rw (has, blocks) holds in
          (size, (accepted, (room limits h, (is_image, (is_own, (fits cache.block_words, (least, tt)))))));
      shared = λ limits most h. (size, (accepted, (room limits h, (is_image, (is_own, (fits most, tt))))));
    }

-- ---- all of it

pub as_original : (file out : List ℕ) (block : ℕ) → IsCopy file out block → length (program_of_file file).segments ≤ 63 → IsAsOriginal file out block
as_original file out block c few =
    let r = read file out block c few in
    let entry : (program_of_file out).entry ≡ (program_of_file file).entry = ap (λ (p : ProgramData). p.entry) r.program in
    let segments : (program_of_file out).segments ≡ (program_of_file file).segments = ap (λ (p : ProgramData). p.segments) r.program in
    record {
      entry = entry;
      segments = segments;
      image = c.image;
      has = r.image;
      blocks = c.blocks;
      passes = passes file out c.image block (short file out block c few) r.accepted segments r.image c.is_image c.own c.blocks;
      runs = run_alike file out (λ o input. begins_alike o file out input entry segments);
    }
