-- A draft of the whole text is its image.
use Rattle.std.proofs.Common.{◌≡◌, ◌≢◌, ℕ, ◌+◌, ◌-◌, ◌^◌, ◌<◌, ◌≤◌, zero, suc, List, [], ◌∷◌, length, get_or, take, drop, arith, refl, ap, ◌∙◌, sym, subst, get_or-take, get_or-drop}
use Rattle.swi_program.specs.Text.{TextData}
use Rattle.swi_program.specs.ProgramOf.{bytes_of_words}
use Rattle.swi_image.specs.Words.{part}
use Rattle.swi_image.specs.Format.{ImageData, pieces}
use Rattle.swi_image.specs.Checks.{begin_of, length_of}
use Rattle.swi_image.specs.Place.{next_of, next_start, block_at, word_at}
use Rattle.swi_image.specs.Sound.{IsImage, AreTables, image_of_tables, image_words}
use Rattle.swi_image.proofs.Views.{accepted_sound}
use Rattle.swi_image.proofs.Writing.{AreSmall, tables_written}
use Rattle.swi_render.specs.Rendering.{As}
use Rattle.swi_render.specs.ImageOf.{block_between, pad, AreWordsOf}
use Rattle.swi_render.proofs.Runs.{length_part, offset_first, offset_up, offset_below}
use Rattle.swi_cut.specs.declared.cutting.Cutting.{Cutting}
use Rattle.swi_cut.specs.declared.cutting.Cutting.TheVariants.{Greedy, WholeLoops}
use Rattle.swi_cut.specs.Cuts.{IsCutBy, IsSound}
use Rattle.swi_cut.specs.Upgrades.{IsMade}
use Rattle.swi_cut.specs.Drafts.{IsDone, AreDrafted, IsBlockEnd, AreBlockEnds}
use Rattle.swi_cut.proofs.Drafted.{test_lt, test_some}

next_before : (starts : List ℕ) (n b : ℕ) → b + 1 < length starts → next_of starts n b ≡ get_or starts (b + 1) 0
next_before starts n b more = rw (test_lt (b + 1) (length starts) more) refl

pub tables_done : (t : TextData) (most : ℕ) (starts ends offsets words : List ℕ) → AreDrafted t most (length t.words) starts ends offsets words → 0 < length t.words → length t.words ≤ 2 ^ 19 → 2 ≤ most → most ≤ 1024 →
    AreTables most starts ends offsets words
tables_done t most starts ends offsets words d some few least highest =
    let one : length starts ≢ 0 = λ none. omega (arith, d.none none) in
    record {
      least = least;
      highest = highest;
      some = omega arith;
      fewer = omega (arith, d.fewer, d.covered);
      few = omega (arith, d.covered);
      ended = d.ended;
      all = rw (test_some (length starts) one) at d.all;
      first = d.first (omega arith);
      ascending = λ b more. (let x = d.blocks b (omega arith) in omega (arith, x.run.some, next_before starts (length t.words) b more));
      inside = λ b within. (let x = d.blocks b within in omega (arith, x.run.some, x.held));
      lengths = λ b within.
          let x = d.blocks b within in
          let s : ℕ = get_or starts b 0 in
          let e : ℕ = next_of starts (length t.words) b in
          let some = offset_below t s s e (omega arith) (omega (arith, x.run.some)) x.run.within in
          (omega (arith, x.size, x.run.some), omega (arith, x.size, x.run.block));
      begins = λ b within.
          let x = d.blocks b within in
          x.offsets_right (get_or starts b 0) (omega arith) x.run.some ∙ offset_first t (get_or starts b 0);
      ordered = λ b k within low high.
          let x = d.blocks b within in
          let s : ℕ = get_or starts b 0 in
          let e : ℕ = next_of starts (length t.words) b in
          let inside : k < e = subst (λ (n : ℕ). k < next_of starts n b) d.covered high in
          let before = x.offsets_right (k - 1) (omega arith) (omega arith) in
          let here = x.offsets_right k (omega arith) inside in
          let up = offset_up t s (k - 1) k (omega arith) (omega arith) (omega (arith, x.run.within)) in
          omega arith;
      within = λ b k within low high.
          let x = d.blocks b within in
          let s : ℕ = get_or starts b 0 in
          let e : ℕ = next_of starts (length t.words) b in
          let inside : k < e = subst (λ (n : ℕ). k < next_of starts n b) d.covered high in
          let here = x.offsets_right k low inside in
          let up = offset_below t s k e low (omega arith) x.run.within in
          omega (arith, x.size);
    }

block_done : (t : TextData) (most first end from to : ℕ) (offsets words held : List ℕ) → IsDone t most first end from to offsets words → held ≡ part from (to - from) words → AreWordsOf (block_between t first end) held
block_done t most first end from to offsets words held x is =
    let whole : to - from ≡ length (block_between t first end) = omega (arith, x.size) in
    subst (λ (l : List ℕ). AreWordsOf (block_between t first end) l) (sym is) (record {
      size = omega (arith, length_part from (to - from) words (omega (arith, x.size, x.inside)), whole);
      each = λ o inside.
          let read : get_or (part from (to - from) words) o 0 ≡ get_or words (from + o) 0 = get_or-take (to - from) (drop from words) o 0 (omega arith) ∙ get_or-drop from words o 0 in
          subst (λ (y : ℕ). As (get_or (block_between t first end) o pad).asked y) (sym read) (x.words_right o inside);
    })

pub made_done : (t : TextData) (most : ℕ) (starts ends offsets words : List ℕ) → AreDrafted t most (length t.words) starts ends offsets words →
    ((b : ℕ) → b < length starts → get_or (pieces 0 ends words) b [] ≡ part (begin_of ends b) (length_of ends b) words) → IsMade t most starts (image_of_tables most t.base starts ends offsets words)
unfolding block_at
made_done t most starts ends offsets words d found =
    let v : ImageData = image_of_tables most t.base starts ends offsets words in
    let same : (b : ℕ) → next_of starts (length t.words) b ≡ next_start v b = λ (b : ℕ). ap (λ (n : ℕ). next_of starts n b) (sym d.covered) in
    record {
      image = record {
        base = refl;
        len = d.covered;
        blocks = λ b within.
            let x = subst (λ (e : ℕ). IsDone t most (get_or starts b 0) e (begin_of ends b) (get_or ends b 0) offsets words) (same b) (d.blocks b within) in
            record {
              offsets = x.offsets_right;
              fits = x.run.block;
              words = block_done t most (get_or starts b 0) (next_start v b) (begin_of ends b) (get_or ends b 0) offsets words (get_or (pieces 0 ends words) b []) x (found b within);
            };
      };
      version = refl;
      most_words = refl;
      same_starts = refl;
    }

-- the same of lists that are equal
pub made_tables : (t : TextData) (most base : ℕ) (starts starts_ ends ends_ offsets offsets_ words words_ : List ℕ) (v : ImageData) → base ≡ t.base → starts_ ≡ starts → ends_ ≡ ends → offsets_ ≡ offsets → words_ ≡ words →
    AreDrafted t most (length t.words) starts ends offsets words →
    ((b : ℕ) → b < length starts_ → get_or (pieces 0 ends_ words_) b [] ≡ part (begin_of ends_ b) (length_of ends_ b) words_) → v ≡ image_of_tables most base starts_ ends_ offsets_ words_ → IsMade t most starts v
made_tables t most base starts starts_ ends ends_ offsets offsets_ words words_ v n a b c e d found is =
    let found_ = rw (a, b, e) at found in
    rw is (rw (n, a, b, c, e) (made_done t most starts ends offsets words d found_))

-- tables of words make an image, in whose blocks are words

small_take : (n : ℕ) (xs : List ℕ) → ((i : ℕ) → get_or xs i 0 < 2 ^ 32) → (o : ℕ) → get_or (take n xs) o 0 < 2 ^ 32
small_take zero xs s o = omega arith
small_take (suc n) [] s o = omega arith
small_take (suc n) (x ∷ xs) s zero = s 0
small_take (suc n) (x ∷ xs) s (suc o) = small_take n xs (λ i. s (suc i)) o

small_part : (i n : ℕ) (ws : List ℕ) → ((i : ℕ) → get_or ws i 0 < 2 ^ 32) → (o : ℕ) → get_or (part i n ws) o 0 < 2 ^ 32
small_part i n ws s o = small_take n (drop i ws) (λ k. rw (get_or-drop i ws k 0) (s (i + k))) o

small_pieces : (from : ℕ) (ends ws : List ℕ) → ((i : ℕ) → get_or ws i 0 < 2 ^ 32) → (b o : ℕ) → get_or (get_or (pieces from ends ws) b []) o 0 < 2 ^ 32
unfolding pieces
small_pieces from [] ws s b o = omega arith
small_pieces from (e ∷ ends) ws s zero o = small_part from (e - from) ws s o
small_pieces from (e ∷ ends) ws s (suc b) o = small_pieces e ends ws s b o

words_tables : (most base : ℕ) (starts ends offsets words : List ℕ) → ((i : ℕ) → get_or words i 0 < 2 ^ 32) → (b o : ℕ) → word_at (image_of_tables most base starts ends offsets words) b o < 2 ^ 32
unfolding block_at
words_tables most base starts ends offsets words s = λ b o. small_pieces 0 ends words s b o

pub sound_made : (most base : ℕ) (starts ends offsets words : List ℕ) (v : ImageData) → v ≡ image_of_tables most base starts ends offsets words → AreTables most starts ends offsets words → AreSmall base starts ends offsets words → IsSound v
sound_made most base starts ends offsets words v is t s =
    let bytes : List ℕ = bytes_of_words (image_words most base starts ends offsets words) in
    let written = tables_written bytes most base starts ends offsets words refl t s in
    subst IsSound (sym is) (record {
      valid = subst IsImage written.1 (accepted_sound bytes written.0);
      words = words_tables most base starts ends offsets words s.words;
    })

next_made : (t : TextData) (most : ℕ) (starts : List ℕ) (v : ImageData) (b : ℕ) → IsMade t most starts v → next_start v b ≡ next_of starts (length t.words) b
next_made t most starts v b m = ap (λ (l : List ℕ). next_of l (length v.offsets) b) m.same_starts ∙ ap (λ (n : ℕ). next_of starts n b) m.image.len

end_of : (c : Cutting) (t : TextData) (most : ℕ) (starts : List ℕ) (v : ImageData) (b : ℕ) → AreBlockEnds c t most starts (length t.words) → IsMade t most starts v → b < length v.starts →
    IsBlockEnd c t most (get_or v.starts b 0) (next_start v b)
end_of c t most starts v b e m within =
    let same : get_or v.starts b 0 ≡ get_or starts b 0 = ap (λ (l : List ℕ). get_or l b 0) m.same_starts in
    let next = next_made t most starts v b m in
    rw (same, next) (e.each b (omega (arith, ap length m.same_starts)))

next_within : (t : TextData) (most : ℕ) (starts ends offsets words : List ℕ) (v : ImageData) (b : ℕ) → AreDrafted t most (length t.words) starts ends offsets words → IsMade t most starts v →
    b + 1 < length v.starts → next_start v b < length t.words
next_within t most starts ends offsets words v b d m more =
    let size : length v.starts ≡ length starts = ap length m.same_starts in
    let later = d.blocks (b + 1) (omega arith) in
    omega (arith, next_made t most starts v b m, next_before starts (length t.words) b (omega arith), later.run.some, later.run.within)

-- an image whose blocks end where they are to end is the cut
pub cut_of_made : (c : Cutting) (t : TextData) (most : ℕ) (starts ends offsets words : List ℕ) (v : ImageData) → AreDrafted t most (length t.words) starts ends offsets words →
    AreBlockEnds c t most starts (length t.words) → IsMade t most starts v → IsCutBy c t most v
cut_of_made Greedy t most starts ends offsets words v d e m = record {
  image = m.image;
  version = m.version;
  most_words = m.most_words;
  full = λ b more. (end_of Greedy t most starts v b e m (omega arith)).full (next_within t most starts ends offsets words v b d m more);
}
cut_of_made WholeLoops t most starts ends offsets words v d e m = record {
  image = m.image;
  version = m.version;
  most_words = m.most_words;
  keeps = λ b within. (end_of WholeLoops t most starts v b e m within).keeps;
  ends = λ b more. (end_of WholeLoops t most starts v b e m (omega arith)).ends (next_within t most starts ends offsets words v b d m more);
}
