-- Two images of a text whose blocks begin alike are the same.
use Rattle.std.proofs.Common.{◌≡◌, ◌==◌, ℕ, ◌<◌, List, [], length, get_or, false, arith, sym, ap, ◌∙◌}
use Rattle.std.proofs.lemmas.List.{ext_get_or}
use Rattle.std.proofs.lemmas.Bool.Decides.{nat_tests}
use Rattle.swi_program.specs.Text.{TextData}
use Rattle.swi_image.specs.Format.{ImageData}
use Rattle.swi_image.specs.Checks.{block_of}
use Rattle.swi_image.specs.Place.{next_of, next_start, block_at}
use Rattle.swi_image.specs.Laws.{in_block}
use Rattle.swi_render.specs.ImageOf.{IsImageOf, start_of, block_between, offset_in, AreWordsOf}
use Rattle.swi_cut.specs.Cuts.{IsSound}
use Rattle.swi_cut_laws.proofs.Words.{block_once}

-- a sound image of the text, of version 2, into blocks of so many words at most
pub record IsOf (t : TextData) (most : ℕ) (v : ImageData) : Type 0 where
  pub sound : IsSound v
  pub image : IsImageOf t v
  pub version : v.version ≡ 2
  pub most_words : v.block_words ≡ most

pub record BeginAlike (t : TextData) (most : ℕ) (v w : ImageData) : Type 0 where
  pub one : IsOf t most v
  pub other : IsOf t most w
  pub starts : v.starts ≡ w.starts

starts_at : (t : TextData) (most : ℕ) (v w : ImageData) → BeginAlike t most v w → (b : ℕ) → start_of v b ≡ start_of w b
starts_at t most v w a b = ap (λ (l : List ℕ). get_or l b 0) a.starts

as_many : (t : TextData) (most : ℕ) (v w : ImageData) → BeginAlike t most v w → length v.starts ≡ length w.starts
as_many t most v w a = ap (λ (l : List ℕ). length l) a.starts

next_at : (t : TextData) (most : ℕ) (v w : ImageData) → BeginAlike t most v w → (b : ℕ) → next_start v b ≡ next_start w b
next_at t most v w a b =
    ap (λ (l : List ℕ). next_of l (length v.offsets) b) a.starts ∙ ap (λ (n : ℕ). next_of w.starts n b) (a.one.image.len ∙ sym a.other.image.len)

offsets_are : (t : TextData) (most : ℕ) (v w : ImageData) → BeginAlike t most v w → v.offsets ≡ w.offsets
offsets_are t most v w a = ext_get_or 0 v.offsets w.offsets (a.one.image.len ∙ sym a.other.image.len) (λ k within.
    let own = in_block v.starts (length v.offsets) k (record { next = a.one.sound.valid.ascending }) a.one.sound.valid.some a.one.sound.valid.first within in
    let b : ℕ = block_of v.starts k in
    let begins = starts_at t most v w a b in
    let mine : get_or v.offsets k 0 ≡ offset_in t (start_of v b) k = (a.one.image.blocks b own.0).offsets k own.1 own.2 in
    let theirs : get_or w.offsets k 0 ≡ offset_in t (start_of w b) k =
    (a.other.image.blocks b (omega (arith, own.0, as_many t most v w a))).offsets k (omega (arith, own.1, begins)) (omega (arith, own.2, next_at t most v w a b)) in
    mine ∙ (ap (λ (n : ℕ). offset_in t n k) begins ∙ sym theirs))

-- in version 2 nothing is asked behind a block's exit
words_of_block : (t : TextData) (most : ℕ) (v : ImageData) (b : ℕ) → IsOf t most v → b < length v.starts → AreWordsOf (block_between t (start_of v b) (next_start v b)) (block_at v b)
words_of_block t most v b c within =
    let asked = (c.image.blocks b within).words in
    let test : (v.version == 1) ≡ false = (let is = c.version in grind (arith, nat_tests)) in
    rw test at asked

block_is : (t : TextData) (most : ℕ) (v w : ImageData) (b : ℕ) → BeginAlike t most v w → b < length v.starts → block_at v b ≡ block_at w b
block_is t most v w b a within =
    let mine = words_of_block t most v b a.one within in
    let theirs : AreWordsOf (block_between t (start_of v b) (next_start v b)) (block_at w b) =
    rw (starts_at t most v w a b, next_at t most v w a b) (words_of_block t most w b a.other (omega (arith, within, as_many t most v w a))) in
    block_once t (start_of v b) (next_start v b) (block_at v b) (block_at w b) mine theirs (a.one.sound.words b) (a.other.sound.words b)

blocks_are : (t : TextData) (most : ℕ) (v w : ImageData) → BeginAlike t most v w → v.blocks ≡ w.blocks
unfolding block_at
blocks_are t most v w a =
    ext_get_or [] v.blocks w.blocks (a.one.sound.valid.blocks ∙ (as_many t most v w a ∙ sym a.other.sound.valid.blocks)) (λ b within. block_is t most v w b a (omega (arith, a.one.sound.valid.blocks)))

same_image : (v w : ImageData) → v.version ≡ w.version → v.block_words ≡ w.block_words → v.base ≡ w.base → v.starts ≡ w.starts → v.offsets ≡ w.offsets → v.blocks ≡ w.blocks → v ≡ w
same_image v w a b c d e f = λ i. record { version = a i; block_words = b i; base = c i; starts = d i; offsets = e i; blocks = f i }

pub same_starts_same_image : (t : TextData) (most : ℕ) (v w : ImageData) → BeginAlike t most v w → v ≡ w
same_starts_same_image t most v w a =
    same_image v w (a.one.version ∙ sym a.other.version) (a.one.most_words ∙ sym a.other.most_words) (a.one.image.base ∙ sym a.other.image.base) a.starts (offsets_are t most v w a) (blocks_are t most v w a)
