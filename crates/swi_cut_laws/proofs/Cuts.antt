-- Two cuts of a text begin their blocks alike, and so are the same.
use Rattle.std.proofs.Common.{◌≡◌, ℕ, ◌+◌, ◌<◌, ◌≤◌, List, length, get_or, zero, suc, true, false, refl, arith, sym, ◌∙◌, inl, inr, nat_lt}
use Rattle.std.proofs.lemmas.List.{ext_get_or}
use Rattle.std.proofs.lemmas.Bool.{cases_lt}
use Rattle.std.proofs.lemmas.Bool.Decides.{nat_tests}
use Rattle.swi_isa.specs.Decode.{decoded, decoded_by}
use Rattle.swi_isa.specs.Table.{imm_u}
use Rattle.swi_encode.proofs.Back.{decoded_again}
use Rattle.swi_program.specs.Text.{TextData}
use Rattle.swi_image.specs.Format.{ImageData}
use Rattle.swi_image.specs.Place.{next_of, next_start}
use Rattle.swi_render.specs.ImageOf.{start_of, block_between}
use Rattle.swi_render.specs.Cut.{IsCut}
use Rattle.swi_render.specs.Loops.{IsLoopCut}
use Rattle.swi_render.proofs.Runs.{block_longer}
use Rattle.swi_cut.specs.declared.cutting.Cutting.TheVariants.{Greedy, WholeLoops}
use Rattle.swi_cut_laws.specs.Cuts.{CutIsOne, DecodesBeyond, DecodesOnce, IsSoundCut, UpgradeIsOne}
use Rattle.swi_cut_laws.proofs.Images.{IsOf, same_starts_same_image}

next_more : (starts : List ℕ) (n b : ℕ) → b + 1 < length starts → next_of starts n b ≡ get_or starts (b + 1) 0
next_more starts n b more = let test : nat_lt (b + 1) (length starts) ≡ true = grind (arith, nat_tests) in rw test refl

next_last : (starts : List ℕ) (n b : ℕ) → length starts ≤ b + 1 → next_of starts n b ≡ n
next_last starts n b last = let test : nat_lt (b + 1) (length starts) ≡ false = grind (arith, nat_tests) in rw test refl

-- a block ends within the text
ends_within : (t : TextData) (most : ℕ) (v : ImageData) (b : ℕ) → IsOf t most v → b < length v.starts → (start_of v b < next_start v b) × (next_start v b ≤ length t.words)
ends_within t most v b c within = elim (cases_lt (b + 1) (length v.starts)) [
  | inl more ↦
      let next = next_more v.starts (length v.offsets) b more in
      let up = c.sound.valid.ascending b more in
      let inside = c.sound.valid.inside (b + 1) more in
      (omega arith, omega (arith, c.image.len))
  | inr last ↦
      let next = next_last v.starts (length v.offsets) b last in
      let inside = c.sound.valid.inside b within in
      (omega arith, omega (arith, c.image.len))
]

-- a block of one that is followed by another doesn't end before the block of the other one that begins with the same text word
abbrev NotBefore : ImageData → ImageData → Type 0
NotBefore v w = (b : ℕ) → b + 1 < length v.starts → b < length w.starts → start_of v b ≡ start_of w b → next_start w b ≤ next_start v b

record EndAlike (t : TextData) (most : ℕ) (v w : ImageData) : Type 0 where
  one : IsOf t most v
  other : IsOf t most w
  not_before : NotBefore v w
  not_after : NotBefore w v

turned : (t : TextData) (most : ℕ) (v w : ImageData) → EndAlike t most v w → EndAlike t most w v
turned t most v w a = record { one = a.other; other = a.one; not_before = a.not_after; not_after = a.not_before }

-- a block of another that begins with the same text word and is longer has room for one text word more
has_room : (t : TextData) (most : ℕ) (v w : ImageData) (b k : ℕ) → IsOf t most w → b < length w.starts → start_of v b ≡ start_of w b → start_of v b < k → k ≤ next_start w b → length (block_between t (start_of v b) k) ≤ most
has_room t most v w b k c within same some less =
    let other = ends_within t most w b c within in
    let fits : length (block_between t (start_of w b) (next_start w b)) ≤ w.block_words = (c.image.blocks b within).fits in
    let here : length (block_between t (start_of v b) (next_start w b)) ≤ w.block_words = rw same fits in
    omega (arith, c.most_words, block_longer t (start_of v b) k (next_start w b) some less other.1)

greedy_not : (t : TextData) (most : ℕ) (v w : ImageData) → IsOf t most v → IsOf t most w → IsCut t most v → NotBefore v w
greedy_not t most v w p q c = λ b more within same. elim (cases_lt (next_start v b) (next_start w b)) [
  | inl less ↦
      let mine = ends_within t most v b p (omega arith) in
      let full : most < length (block_between t (start_of v b) (next_start v b + 1)) = c.full b more in
      absurd (omega (arith, has_room t most v w b (next_start v b + 1) q within same (omega (arith, mine.0)) (omega arith)))
  | inr no_less ↦ no_less
]

loops_not : (t : TextData) (most : ℕ) (v w : ImageData) → IsOf t most v → IsOf t most w → IsLoopCut t most v → IsLoopCut t most w → NotBefore v w
loops_not t most v w p q c d = λ b more within same. elim (cases_lt (next_start v b) (next_start w b)) [
  | inl less ↦
      let mine = ends_within t most v b p (omega arith) in
      elim (c.ends b more) [
        | inl full ↦ absurd (omega (arith, has_room t most v w b (next_start v b + 1) q within same (omega (arith, mine.0)) (omega arith)))
        | inr before ↦
            let sc : ℕ = before.0 in
            let behind = before.1.sequence.behind in
            let kept : sc < next_start w b = d.keeps b within (next_start v b) sc before.1 (omega (arith, mine.0, same)) less in
            absurd (omega (arith, before.2, has_room t most v w b (sc + 1) q within same (omega (arith, mine.0, behind)) (omega (arith, kept))))
      ]
  | inr no_less ↦ no_less
]

-- so each block of one is the block of another, and begins with the same text word
starts_once : (t : TextData) (most : ℕ) (v w : ImageData) → EndAlike t most v w → (b : ℕ) → b < length v.starts → (b < length w.starts) × (start_of v b ≡ start_of w b)
starts_once t most v w a zero within = (omega (arith, a.other.sound.valid.some), a.one.sound.valid.first ∙ sym a.other.sound.valid.first)
starts_once t most v w a (suc b) within =
    let before = starts_once t most v w a b (omega arith) in
    let on : suc b ≡ b + 1 = omega arith in
    let more : b + 1 < length v.starts = omega arith in
    let next = next_more v.starts (length v.offsets) b more in
    let low : next_start w b ≤ next_start v b = a.not_before b more before.0 before.1 in
    let inside : start_of v (b + 1) < length v.offsets = a.one.sound.valid.inside (b + 1) more in
    elim (cases_lt (b + 1) (length w.starts)) [
      | inl more_ ↦
          let next_ = next_more w.starts (length w.offsets) b more_ in
          let high : next_start v b ≤ next_start w b = a.not_after b more_ (omega arith) (sym before.1) in
          rw on (more_, omega arith)
      | inr last ↦
          let next_ = next_last w.starts (length w.offsets) b last in
          absurd (omega (arith, a.one.image.len, a.other.image.len))
    ]

count_once : (t : TextData) (most : ℕ) (v w : ImageData) → EndAlike t most v w → length v.starts ≡ length w.starts
count_once t most v w a = elim (cases_lt (length v.starts) (length w.starts)) [
  | inl less ↦ absurd (omega (arith, (starts_once t most w v (turned t most v w a) (length v.starts) less).0))
  | inr more ↦ elim (cases_lt (length w.starts) (length v.starts)) [
    | inl less ↦ absurd (omega (arith, (starts_once t most v w a (length w.starts) less).0))
    | inr other ↦ omega arith
  ]
]

alike_one : (t : TextData) (most : ℕ) (v w : ImageData) → EndAlike t most v w → v ≡ w
alike_one t most v w a = same_starts_same_image t most v w (record {
  one = a.one;
  other = a.other;
  starts = ext_get_or 0 v.starts w.starts (count_once t most v w a) (λ b within. (starts_once t most v w a b within).1);
})

of_greedy : (t : TextData) (most : ℕ) (v : ImageData) → IsSoundCut Greedy t most v → IsOf t most v
of_greedy t most v c = record { sound = c.sound; image = c.cut.image; version = c.cut.version; most_words = c.cut.most_words }

of_loops : (t : TextData) (most : ℕ) (v : ImageData) → IsSoundCut WholeLoops t most v → IsOf t most v
of_loops t most v c = record { sound = c.sound; image = c.cut.image; version = c.cut.version; most_words = c.cut.most_words }

pub cut_is_one : CutIsOne
cut_is_one Greedy t most v w c d =
    let p = of_greedy t most v c in
    let q = of_greedy t most w d in
    alike_one t most v w (record { one = p; other = q; not_before = greedy_not t most v w p q c.cut; not_after = greedy_not t most w v q p d.cut })
cut_is_one WholeLoops t most v w c d =
    let p = of_loops t most v c in
    let q = of_loops t most w d in
    alike_one t most v w (record { one = p; other = q; not_before = loops_not t most v w p q c.cut d.cut; not_after = loops_not t most w v q p d.cut c.cut })

pub upgrade_is_one : UpgradeIsOne
upgrade_is_one t old v w s r a b = same_starts_same_image t old.block_words v w (record {
  one = record { sound = s; image = a.image; version = a.version; most_words = a.most_words };
  other = record { sound = r; image = b.image; version = b.version; most_words = b.most_words };
  starts = a.same_starts ∙ sym b.same_starts;
})

pub decodes_once : DecodesOnce
decodes_once i x y p q a b = sym ((decoded_again x i p a).0) ∙ (decoded_again y i q b).0

pub decodes_beyond : DecodesBeyond
unfolding decoded decoded_by imm_u
decodes_beyond = refl
