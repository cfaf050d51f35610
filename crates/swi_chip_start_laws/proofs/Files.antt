-- The tables of a file's image are those that a service asks for.
use Rattle.std.proofs.Common.{◌≡◌, ◌∙◌, ℕ, ◌+◌, ◌%◌, ◌^◌, ◌<◌, List, length, slice_index, drop, ap, arith, sym, subst, length-take, length-drop}
use Rattle.swi_program.specs.Text.{TextData}
use Rattle.swi_image.specs.Checks.{begin_of, length_of}
use Rattle.swi_image.specs.Format.{ImageData, blocks_of, body_of, ends_of, image_of, image_of_words, len_of, offsets_at}
use Rattle.swi_image.specs.Kept.{IsAccepted}
use Rattle.swi_image.specs.Place.{block_at, length_at}
use Rattle.swi_image.specs.Sound.{IsImage}
use Rattle.swi_image.specs.Words.{part, words_of}
use Rattle.swi_image.proofs.Accepted.{accepted_words}
use Rattle.swi_image.proofs.Counting.{length_ends, length_starts}
use Rattle.swi_image.proofs.Reading.{get_part, length_words}
use Rattle.swi_image.proofs.Views.{accepted_sound, few_bytes, piece_at, seen_length, seen_ordered}
use Rattle.swi_render.specs.ImageOf.{IsImageOf}
use Rattle.swi_slots.specs.Keys.{number_of}
use Rattle.swi_chip.specs.declared.chip.Chip.{Chip}
use Rattle.swi_chip.specs.Held.{RowsHold}
use Rattle.swi_chip.specs.Service.{HasTables}
use Rattle.swi_chip.specs.Starting.{CanStart}
use Rattle.swi_chip.specs.Undone.{begin_in}
use Rattle.swi_chip_start_laws.specs.Files.{HasFile, HasRoom, StartsFromFile}
use Rattle.swi_chip_start_laws.proofs.Jumps.{no_jump}

-- a word of a piece of the body is one of the body
part_word : (begin size o : ℕ) (ws : List ℕ) → o < length (part begin size ws) → (begin + o < length ws) × (slice_index ws (begin + o) ≡ slice_index (part begin size ws) o)
part_word begin size o ws inside =
    let cut = length-take size (drop begin ws) in
    let rest = length-drop begin ws in
    (omega arith, sym (get_part begin size o ws (omega arith)))

module _ {t : TextData} {w : List ℕ} (a : IsAccepted w) (aligned : t.base % 4 ≡ 0) (i : IsImage (image_of_words w)) (of : IsImageOf t (image_of_words w)) (short : length w < 2 ^ 32) where
  v : ImageData
  v = image_of_words w

  block_is : (b : ℕ) → b < length (ends_of w) → block_at (image_of_words w) b ≡ part (begin_of (ends_of w) b) (length_of (ends_of w) b) (body_of w)
  unfolding block_at
  block_is b within = piece_at (ends_of w) (body_of w) b within

  ends_long : length (ends_of w) ≡ length (image_of_words w).blocks
  ends_long = (let e = length_ends w a.sizes in let s = length_starts w a.sizes in omega (arith, i.blocks))

  ends_are : (b : ℕ) → b < length (ends_of w) → slice_index (ends_of w) b ≡ begin_in (ends_of w) b + length_at (image_of_words w) b
  unfolding block_at
  ends_are b within =
      let inside : b < blocks_of w = (let e = length_ends w a.sizes in omega arith) in
      let size = seen_length w b a inside in
      let order = seen_ordered w b a inside in
      omega (arith, order.0)

  body_short : length (body_of w) < 2 ^ 32
  unfolding body_of
  body_short = (let d = length-drop (offsets_at w + len_of w) w in omega arith)

  rows : RowsHold (λ p. image_of_words w) (ends_of w) (body_of w)
  rows = record {
    row = λ k o known inside.
        let b : ℕ = number_of k in
        let within : b < length (ends_of w) = (let e = ends_long in omega arith) in
        let is = block_is b within in
        let word = part_word (begin_of (ends_of w) b) (length_of (ends_of w) b) o (body_of w) (subst (λ (ws : List ℕ). o < length ws) is inside) in
        (omega arith, word.0, word.1 ∙ ap (λ (ws : List ℕ). slice_index ws o) (sym is));
    no_jump = λ k o inside jump. no_jump t (image_of_words w) aligned i of (number_of k) o inside jump;
    few = body_short;
  }

  starts_from : {c : Chip} → HasFile w c → HasRoom (image_of_words w) c → CanStart c (image_of_words w)
  starts_from {c = c} f r = record {
    image = i;
    rows = subst (λ (e : List ℕ). RowsHold (λ p. image_of_words w) e c.words.now) (sym f.ends_are) (subst (λ (ws : List ℕ). RowsHold (λ p. image_of_words w) (ends_of w) ws) (sym f.words_are) rows);
    tables = subst (λ (e : List ℕ). HasTables (image_of_words w) c.base c.places.now e) (sym f.ends_are) (record {
      base_is = f.base_is;
      places_long = f.places_are.long;
      places_are = f.places_are.each;
      ends_long = ends_long;
      ends_are = ends_are;
    });
    starts_are = f.starts_are;
    some_slot = r.some_slot;
    fits = r.fits;
    cache_long = r.cache_long;
    few = r.few;
    heads_long = r.heads_long;
    links_long = r.links_long;
    blocks_long = r.blocks_long;
    marks_long = r.marks_long;
    numbers = r.numbers;
  }

pub starts_from_file : StartsFromFile
unfolding image_of
starts_from_file t bytes c k f r =
    let short : length (words_of bytes) < 2 ^ 32 = (let few = few_bytes bytes k.accepted in let all = length_words bytes in omega arith) in
    starts_from (accepted_words bytes k.accepted) k.aligned (accepted_sound bytes k.accepted) k.image short f r
