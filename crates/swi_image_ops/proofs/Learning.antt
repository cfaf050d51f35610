-- Micro-ops that are learnt.
use Rattle.std.proofs.Common.{◌≡◌, ℕ, zero, suc, ◌+◌, ◌-◌, ◌/◌, ◌%◌, ◌^◌, ◌<◌, ◌≤◌, List, length, get_or, set, replicate, Option, Some, arith, refl, sym, ap, subst, ◌∙◌, inl, inr}
use Rattle.std.proofs.lemmas.List.{get_or-replicate, get_or-set_other, get_or-set_same, length-replicate, length-set}
use Rattle.std.proofs.lemmas.Bool.{cases_eq, cases_lt}
use Rattle.swi_isa.specs.Decode.{decoded}
use Rattle.swi_isa.specs.declared.instr.Instr.{Instr}
use Rattle.swi_image.specs.Format.{ImageData}
use Rattle.swi_image.specs.Sound.{IsImage}
use Rattle.swi_image.specs.Place.{distance, place_of, length_at, next_start, word_at}
use Rattle.swi_image.specs.Laws.{place_inside, place_is, place_lands}
use Rattle.swi_image.specs.Row.{row_index, row_inside, row_length, row_once}
use Rattle.swi_image.proofs.Views.{has_word}
use Rattle.swi_micro.specs.declared.translator.MicroOp.{MicroOp}
use Rattle.swi_micro.specs.MicroOp.{stop_op}
use Rattle.swi_render.specs.Rendering.{ebreak}
use Rattle.swi_image_ops.specs.ImageOp.{AreImageOps, IsWordOp, fall_op, row_of, text_op}

-- none is learnt
pub none_learnt : (text : ℕ → Option ℕ) (v : ImageData) (n : ℕ) → row_length v ≤ n → AreImageOps text v (replicate n stop_op)
none_learnt text v n room = record {
  count = let all = length-replicate n stop_op in omega (arith, room, all);
  each = λ b o known inside d. (let within = row_inside v b o known inside in inl (get_or-replicate n (row_index v b o) stop_op d (omega (arith, within, room))));
}

-- the micro-op of a word is
pub one_learnt : (text : ℕ → Option ℕ) (v : ImageData) (ops : List MicroOp) (b o : ℕ) (m : MicroOp) → AreImageOps text v ops → b < length v.starts → o < length_at v b → IsWordOp text v b o m →
    AreImageOps text v (set ops (row_index v b o) m)
one_learnt text v ops b o m h known inside is = record {
  count = let same = length-set ops (row_index v b o) m in let room = h.count in omega (arith, room, same);
  each = λ c q there within d. elim (cases_eq (row_index v c q) (row_index v b o)) [
    | inl same ↦
        let place : row_index v b o < length ops = (let room = h.count in omega (arith, row_inside v b o known inside, room)) in
        let set_is : get_or (set ops (row_index v b o) m) (row_index v c q) d ≡ m = ap (λ i. get_or (set ops (row_index v b o) m) i d) same ∙ get_or-set_same ops (row_index v b o) m d place in
        let one = row_once v b c o q inside within (sym same) in
        subst (λ n. IsWordOp text v c q n) (sym set_is) (subst (λ e. IsWordOp text v e q m) one.0 (subst (λ e. IsWordOp text v b e m) one.1 is))
    | inr other ↦ subst (λ n. IsWordOp text v c q n) (sym (get_or-set_other ops (row_index v b o) (row_index v c q) m d other)) (h.each c q there within d)
  ];
}

-- in a block the offsets of text words rise
pub rises : (v : ImageData) (b k d : ℕ) → IsImage v → b < length v.starts → get_or v.starts b 0 ≤ k → k + d < next_start v b → get_or v.offsets k 0 + d ≤ get_or v.offsets (k + d) 0
rises v b k zero i known from to = let same : k + 0 ≡ k = omega arith in rw same (omega arith)
rises v b k (suc d) i known from to =
    let before = rises v b k d i known from (omega arith) in
    let up = i.ordered b (k + suc d) known (omega arith) to in
    let less : k + suc d - 1 ≡ k + d = omega arith in
    let here : get_or v.offsets (k + d) 0 < get_or v.offsets (k + suc d) 0 = rw less at up in
    omega arith

-- no text word stands between one of a block and the next
pub none_between : (v : ImageData) (b t o end : ℕ) → IsImage v → b < length v.starts → get_or v.starts b 0 ≤ t → t < next_start v b → get_or v.offsets t 0 < o → o < end →
    (t + 1 < next_start v b → end ≡ get_or v.offsets (t + 1) 0) → (a : ℕ) → place_of v a ≡ Some (b, o) → ⊥
none_between v b t o end i known from to above below next a is =
    let k : ℕ = distance v a / 4 in
    let here = place_is v a b o is in
    let own = place_lands v i a b o is in
    let low : get_or v.starts b 0 ≤ k = own.from in
    let high : k < next_start v b = own.to in
    let at : o ≡ get_or v.offsets k 0 = here.2 in
    elim (cases_lt t k) [
      | inl behind ↦
          let last = next (omega (arith, behind, high)) in
          let on : t + 1 + (k - (t + 1)) ≡ k = omega (arith, behind) in
          let up = rw on at (rises v b (t + 1) (k - (t + 1)) i known (omega (arith, from)) (omega (arith, behind, high))) in
          omega (arith, up, last, at, below)
      | inr before ↦
          let on : k + (t - k) ≡ t = omega (arith, before) in
          let up = rw on at (rises v b k (t - k) i known low (omega (arith, before, to))) in
          omega (arith, up, at, above)
    ]

-- ---- what a reader has found

known_block : (v : ImageData) (a b o : ℕ) → IsImage v → place_of v a ≡ Some (b, o) → b < length v.starts
known_block v a b o i place = let inside = (place_inside v i a b o place).0 in let all = i.blocks in omega (arith, inside, all)

-- a place's offset is small, and its index is that of a micro-op
pub place_short : (v : ImageData) (a b o : ℕ) → IsImage v → place_of v a ≡ Some (b, o) → o < 1024
place_short v a b o i place =
    let inside = (place_inside v i a b o place).1 in
    let long = (i.lengths b (known_block v a b o i place)).1 in
    let most = i.most in
    omega (arith, inside, long, most)

pub place_among : (text : ℕ → Option ℕ) (v : ImageData) (ops : List MicroOp) (a b o : ℕ) → IsImage v → AreImageOps text v ops → place_of v a ≡ Some (b, o) → row_index v b o < length ops
place_among text v ops a b o i h place =
    let within = row_inside v b o (known_block v a b o i place) (place_inside v i a b o place).1 in
    let room = h.count in
    omega (arith, within, room)

-- that of a text word is learnt, and that of an exit
pub text_learnt : (text : ℕ → Option ℕ) (v : ImageData) (ops : List MicroOp) (a b o w : ℕ) (x : Instr) → IsImage v → AreImageOps text v ops → a < 2 ^ 32 → place_of v a ≡ Some (b, o) → text a ≡ Some w → decoded w ≡ Some x →
    AreImageOps text v (set ops (row_index v b o) (text_op v a x))
text_learnt text v ops a b o w x i h short place stands is =
    one_learnt text v ops b o (text_op v a x) h (known_block v a b o i place) (place_inside v i a b o place).1
    (inr (inl (record { address = a; short = short; place = place; word = w; stands = stands; instruction = x; decodes = is; is = refl })))

pub exit_learnt : (text : ℕ → Option ℕ) (v : ImageData) (ops : List MicroOp) (b o to : ℕ) → AreImageOps text v ops → b < length v.starts → ((a : ℕ) → place_of v a ≡ Some (b, o) → ⊥) → o + 1 < length_at v b →
    word_at v b o ≡ ebreak → word_at v b (o + 1) % 4 ≡ 0 → row_of v (word_at v b (o + 1)) ≡ Some to → AreImageOps text v (set ops (row_index v b o) (fall_op to))
exit_learnt text v ops b o to h known free inside leaves direct leads =
    one_learnt text v ops b o (fall_op to) h known (omega (arith, inside)) (inr (inr (record { free = free; inside = inside; leaves = leaves; direct = direct; to = to; leads = leads; is = refl })))

-- ---- where the words of a text word end: where the next one of its block begins, or where the block ends

pub own_inside : (v : ImageData) (b t : ℕ) → IsImage v → b < length v.starts → get_or v.starts b 0 ≤ t → t < next_start v b → next_start v b ≤ length v.offsets → get_or v.offsets t 0 < length_at v b
own_inside v b t i known from to within = (has_word v b t i known from to (omega (arith, to, within))).1.inside

pub own_short : (v : ImageData) (b t : ℕ) → IsImage v → b < length v.starts → get_or v.starts b 0 ≤ t → t < next_start v b → next_start v b ≤ length v.offsets → get_or v.offsets t 0 < 1024
own_short v b t i known from to within =
    let inside = own_inside v b t i known from to within in
    let long = (i.lengths b known).1 in
    let most = i.most in
    omega (arith, inside, long, most)
