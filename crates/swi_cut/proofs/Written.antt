-- Words and offsets that are appended.
use Rattle.std.proofs.Common.{◌≡◌, ℕ, ◌+◌, ◌-◌, ◌<◌, ◌≤◌, List, [], ◌∷◌, ◌++◌, length, get_or, arith, refl, ap, ◌∙◌, sym, subst, true, false, inl, inr, length-append, Result, Ok, Err}
use Rattle.std.specs.Prelude.{OnOk, IfOk}
use Rattle.std.proofs.Math.ListN.{get_or-append}
use Rattle.std.proofs.Math.Seq.{get_or-append_right}
use Rattle.std.proofs.lemmas.Bool.{cases_lt, cases_eq}
use Rattle.swi_program.specs.Text.{TextData}
use Rattle.swi_render.specs.Rendering.{Slot, As, AreThe, fall_exit}
use Rattle.swi_render.specs.ImageOf.{address_of, rendering_at, falls_at, renderings_between, block_between, pad}
use Rattle.swi_render.proofs.Lists.{the_each, the_length}
use Rattle.swi_render.proofs.Runs.{offset_first, renderings_next, block_falls, block_stays}
use Rattle.swi_cut.specs.Drafts.{Grew, IsAppended, AreAskedAt, IsWritten}

pub ok_as : {T E : Type 0} (r : Result T E) (P Q : Type 0) → OnOk r P → (P → Q) → OnOk r Q
ok_as (Ok x) P Q p f = f p
ok_as (Err e) P Q p f = tt

pub if_ok : {T E : Type 0} (r : Result T E) (P Q : T → Type 0) → IfOk r P → ((x : T) → P x → Q x) → IfOk r Q
if_ok (Ok x) P Q p f = f x p
if_ok (Err e) P Q p f = tt

-- the element that was appended
pub last_of : (xs : List ℕ) (x n : ℕ) → n ≡ length xs → get_or (xs ++ x ∷ []) n 0 ≡ x
last_of xs x n is =
    let none : n - length xs ≡ 0 = omega arith in
    rw none at (get_or-append_right xs (x ∷ []) n 0 (omega arith))

pub length_more : (xs : List ℕ) (x : ℕ) → length (xs ++ x ∷ []) ≡ length xs + 1
length_more xs x = length-append xs (x ∷ [])

grew_append : (old more : List ℕ) → Grew old (old ++ more)
grew_append old more = (omega (arith, length-append old more), λ i within. get_or-append old more 0 i within)

grew_twice : (a b c : List ℕ) → Grew a b → Grew b c → Grew a c
grew_twice a b c g h = (omega (arith, g.0, h.0), λ i within. h.1 i (omega (arith, g.0)) ∙ g.1 i within)

pub appended : (ss : List Slot) (old new xs : List ℕ) → new ≡ old ++ xs → AreThe ss xs → IsAppended ss old new
appended ss old new xs is the = subst (λ (l : List ℕ). IsAppended ss old l) (sym is) (record {
  grew = grew_append old xs;
  size = omega (arith, length-append old xs, the_length ss xs the);
  each = λ o within.
      let there : get_or (old ++ xs) (length old + o) 0 ≡ get_or xs (length old + o - length old) 0 = get_or-append_right old xs (length old + o) 0 (omega arith) in
      let here : length old + o - length old ≡ o = omega arith in
      let read : get_or (old ++ xs) (length old + o) 0 ≡ get_or xs o 0 = rw here at there in
      subst (λ (x : ℕ). As (get_or ss o pad).asked x) (sym read) (the_each ss xs the o within).here;
})

asked_both : (ss rr : List Slot) (xs : List ℕ) (from : ℕ) → AreAskedAt ss xs from → AreAskedAt rr xs (from + length ss) → AreAskedAt (ss ++ rr) xs from
asked_both ss rr xs from a b o within = elim (cases_lt o (length ss)) [
  | inl left ↦ rw (get_or-append ss rr pad o left) (a o left)
  | inr right ↦
      let there : get_or (ss ++ rr) o pad ≡ get_or rr (o - length ss) pad = get_or-append_right ss rr o pad right in
      let place : from + length ss + (o - length ss) ≡ from + o = omega arith in
      rw there (rw place at (b (o - length ss) (omega (arith, length-append ss rr))))
]

pub asked_grown : (ss : List Slot) (xs ys : List ℕ) (from : ℕ) → Grew xs ys → from + length ss ≤ length xs → AreAskedAt ss xs from → AreAskedAt ss ys from
asked_grown ss xs ys from g fits a o within =
    subst (λ (x : ℕ). As (get_or ss o pad).asked x) (sym (g.1 (from + o) (omega arith))) (a o within)

-- words behind words
appended_both : (ss rr : List Slot) (old middle new : List ℕ) → IsAppended ss old middle → IsAppended rr middle new → IsAppended (ss ++ rr) old new
appended_both ss rr old middle new a b = record {
  grew = grew_twice old middle new a.grew b.grew;
  size = omega (arith, a.size, b.size, length-append ss rr);
  each = asked_both ss rr new (length old) (asked_grown ss middle new (length old) b.grew (omega (arith, a.size)) a.each)
      (subst (λ (n : ℕ). AreAskedAt rr new n) a.size b.each);
}

pub written_none : (t : TextData) (first : ℕ) (offsets words : List ℕ) → length offsets ≡ first → IsWritten t first first (renderings_between t first first) offsets offsets words words
written_none t first offsets words covered =
    let none = offset_first t first in
    record {
      offsets_grew = (omega arith, λ i within. refl);
      offsets_size = covered;
      offsets_right = λ k low high. absurd (omega arith);
      words = record { grew = (omega arith, λ i within. refl); size = omega (arith, none); each = λ o within. absurd (omega (arith, none)) };
    }

pub written_more : (t : TextData) (first k offset : ℕ) (offsets_old offsets offsets_new words_old words words_new : List ℕ) → first ≤ k → k < length t.words →
    IsWritten t first k (renderings_between t first k) offsets_old offsets words_old words → offsets_new ≡ offsets ++ offset ∷ [] → offset ≡ length words - length words_old →
    IsAppended (rendering_at t k) words words_new → IsWritten t first (k + 1) (renderings_between t first (k + 1)) offsets_old offsets_new words_old words_new
written_more t first k offset offsets_old offsets offsets_new words_old words words_new low within w grown value more =
    let ss : List Slot = renderings_between t first k in
    let grew : Grew offsets offsets_new = subst (λ (l : List ℕ). Grew offsets l) (sym grown) (grew_append offsets (offset ∷ [])) in
    let last : get_or offsets_new k 0 ≡ offset = ap (λ (l : List ℕ). get_or l k 0) grown ∙ last_of offsets offset k (sym w.offsets_size) in
    record {
      offsets_grew = grew_twice offsets_old offsets offsets_new w.offsets_grew grew;
      offsets_size = omega (arith, ap length grown, length_more offsets offset, w.offsets_size);
      offsets_right = λ j down up. elim (cases_eq j k) [
        | inl same ↦ rw same (omega (arith, last, w.words.size))
        | inr other ↦ grew.1 j (omega (arith, w.offsets_size)) ∙ w.offsets_right j down (omega arith)
      ];
      words = subst (λ (l : List Slot). IsAppended l words_old words_new) (sym (renderings_next t first k low within)) (appended_both ss (rendering_at t k) words_old words words_new w.words more);
    }

-- a block without an exit, and with one

pub written_stays : (t : TextData) (first end : ℕ) (offsets_old offsets words_old words : List ℕ) → first < end → end ≤ length t.words → falls_at t (end - 1) ≡ false →
    IsWritten t first end (renderings_between t first end) offsets_old offsets words_old words → IsWritten t first end (block_between t first end) offsets_old offsets words_old words
written_stays t first end offsets_old offsets words_old words some within none w =
    subst (λ (l : List Slot). IsWritten t first end l offsets_old offsets words_old words) (sym (block_stays t first end some within none)) w

pub written_falls : (t : TextData) (first end : ℕ) (offsets_old offsets words_old words words_new exit : List ℕ) → first < end → end ≤ length t.words → falls_at t (end - 1) ≡ true →
    AreThe (fall_exit (address_of t (end - 1))) exit → IsWritten t first end (renderings_between t first end) offsets_old offsets words_old words → words_new ≡ words ++ exit →
    IsWritten t first end (block_between t first end) offsets_old offsets words_old words_new
written_falls t first end offsets_old offsets words_old words words_new exit some within on the w is =
    let ee : List Slot = fall_exit (address_of t (end - 1)) in
    record {
      offsets_grew = w.offsets_grew;
      offsets_size = w.offsets_size;
      offsets_right = w.offsets_right;
      words = subst (λ (l : List Slot). IsAppended l words_old words_new) (sym (block_falls t first end (address_of t (end - 1)) some within on refl))
          (appended_both (renderings_between t first end) ee words_old words words_new w.words (appended ee words words_new exit is the));
    }
