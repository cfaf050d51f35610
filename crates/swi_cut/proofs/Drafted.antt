-- A draft with one block more.
use Rattle.std.proofs.Common.{◌≡◌, ◌≢◌, ◌==◌, ℕ, ◌+◌, ◌-◌, ◌<◌, ◌≤◌, List, [], ◌∷◌, ◌++◌, length, get_or, nat_lt, arith, refl, ap, ◌∙◌, sym, subst, true, false, inl, inr}
use Rattle.std.proofs.Math.ListN.{get_or-append}
use Rattle.std.proofs.lemmas.Bool.{cases_lt, cases_eq}
use Rattle.std.proofs.lemmas.Bool.Decides.{nat_tests}
use Rattle.swi_program.specs.Text.{TextData}
use Rattle.swi_image.specs.Checks.{begin_of}
use Rattle.swi_image.specs.Place.{next_of}
use Rattle.swi_render.specs.ImageOf.{block_between}
use Rattle.swi_render.specs.Cut.{needs_of}
use Rattle.swi_cut.specs.declared.cutting.Cutting.{Cutting}
use Rattle.swi_cut.specs.declared.cutting.Cutting.TheVariants.{Greedy, WholeLoops}
use Rattle.swi_cut.specs.Drafts.{Grew, IsWritten, IsRun, IsBlockEnd, AreBlockEnds, IsDone, AreDrafted}
use Rattle.swi_cut.proofs.Written.{asked_grown, last_of, length_more}

pub test_lt : (a b : ℕ) → a < b → nat_lt a b ≡ true
test_lt a b h = grind (arith, nat_tests)

pub test_ge : (a b : ℕ) → b ≤ a → nat_lt a b ≡ false
test_ge a b h = grind (arith, nat_tests)

pub test_some : (a : ℕ) → a ≢ 0 → (a == 0) ≡ false
test_some a h = grind (arith, nat_tests)

-- where the next block begins, and where a block's words begin, with one block more
next_grown : (starts : List ℕ) (done end b : ℕ) → b < length starts → next_of (starts ++ done ∷ []) end b ≡ next_of starts done b
next_grown starts done end b within = elim (cases_lt (b + 1) (length starts)) [
  | inl more ↦ rw (length_more starts done, test_lt (b + 1) (length starts + 1) (omega arith), test_lt (b + 1) (length starts) more) (get_or-append starts (done ∷ []) 0 (b + 1) more)
  | inr last ↦ rw (length_more starts done, test_lt (b + 1) (length starts + 1) (omega arith), test_ge (b + 1) (length starts) last) (last_of starts done (b + 1) (omega arith))
]

next_last : (starts : List ℕ) (done end : ℕ) → next_of (starts ++ done ∷ []) end (length starts) ≡ end
next_last starts done end = rw (length_more starts done, test_ge (length starts + 1) (length starts + 1) (omega arith)) refl

begin_grown : (ends : List ℕ) (e b : ℕ) → b ≤ length ends → begin_of (ends ++ e ∷ []) b ≡ begin_of ends b
begin_grown ends e b within = elim (cases_eq b 0) [
  | inl none ↦ rw none refl
  | inr some ↦ rw (test_some b some) (get_or-append ends (e ∷ []) 0 (b - 1) (omega arith))
]

begin_last : (ends : List ℕ) (e n : ℕ) → n ≡ length ends → begin_of (ends ++ e ∷ []) (n + 1) ≡ e
begin_last ends e n is =
    let some : n + 1 ≢ 0 = λ z. omega arith in
    let same : n + 1 - 1 ≡ n = omega arith in
    rw (test_some (n + 1) some, same) (last_of ends e n is)

done_grown : (t : TextData) (most first end from to : ℕ) (offsets offsets_new words words_new : List ℕ) → Grew offsets offsets_new → Grew words words_new →
    IsDone t most first end from to offsets words → IsDone t most first end from to offsets_new words_new
done_grown t most first end from to offsets offsets_new words words_new g h d = record {
  run = d.run;
  held = omega (arith, d.held, g.0);
  size = d.size;
  inside = omega (arith, d.inside, h.0);
  offsets_right = λ k low high. g.1 k (omega (arith, d.held)) ∙ d.offsets_right k low high;
  words_right = asked_grown (block_between t first end) words words_new from h (omega (arith, d.size, d.inside)) d.words_right;
}

done_new : (t : TextData) (most done end e : ℕ) (offsets offsets_new words words_new : List ℕ) → IsRun t most done end →
    IsWritten t done end (block_between t done end) offsets offsets_new words words_new → e ≡ length words_new → IsDone t most done end (length words) e offsets_new words_new
done_new t most done end e offsets offsets_new words words_new r w is = record {
  run = r;
  held = omega (arith, w.offsets_size);
  size = omega (arith, w.words.size);
  inside = omega arith;
  offsets_right = w.offsets_right;
  words_right = w.words.each;
}

same_done : (t : TextData) (most first first_ end end_ from from_ to to_ : ℕ) (offsets words : List ℕ) → first ≡ first_ → end ≡ end_ → from ≡ from_ → to ≡ to_ →
    IsDone t most first_ end_ from_ to_ offsets words → IsDone t most first end from to offsets words
same_done t most first first_ end end_ from from_ to to_ offsets words a b c d h = rw (a, b, c, d) h

pub draft_more : (t : TextData) (most done end e : ℕ) (starts starts_new ends ends_new offsets offsets_new words words_new : List ℕ) → most ≤ 1024 →
    AreDrafted t most done starts ends offsets words → IsRun t most done end → IsWritten t done end (block_between t done end) offsets offsets_new words words_new →
    starts_new ≡ starts ++ done ∷ [] → ends_new ≡ ends ++ e ∷ [] → e ≡ length words_new → AreDrafted t most end starts_new ends_new offsets_new words_new
draft_more t most done end e starts starts_new ends ends_new offsets offsets_new words words_new few d r w starts_is ends_is is =
    subst (λ (l : List ℕ). AreDrafted t most end l ends_new offsets_new words_new) (sym starts_is)
    (subst (λ (l : List ℕ). AreDrafted t most end (starts ++ done ∷ []) l offsets_new words_new) (sym ends_is) (record {
      ended = omega (arith, length_more starts done, length_more ends e, d.ended);
      covered = w.offsets_size;
      all = rw (length_more starts done) (begin_last ends e (length starts) (omega (arith, d.ended)) ∙ is);
      few = omega (arith, w.words.size, d.few, r.block, r.some);
      fewer = omega (arith, length_more starts done, d.fewer, r.some);
      first = λ some. elim (cases_eq (length starts) 0) [
        | inl none ↦ last_of starts done 0 (omega arith) ∙ d.none none
        | inr more ↦ get_or-append starts (done ∷ []) 0 0 (omega arith) ∙ d.first (omega arith)
      ];
      none = λ none. absurd (omega (arith, length_more starts done));
      blocks = λ b within. elim (cases_lt b (length starts)) [
        | inl old ↦
            same_done t most (get_or (starts ++ done ∷ []) b 0) (get_or starts b 0) (next_of (starts ++ done ∷ []) end b) (next_of starts done b)
            (begin_of (ends ++ e ∷ []) b) (begin_of ends b) (get_or (ends ++ e ∷ []) b 0) (get_or ends b 0) offsets_new words_new
            (get_or-append starts (done ∷ []) 0 b old) (next_grown starts done end b old) (begin_grown ends e b (omega (arith, d.ended))) (get_or-append ends (e ∷ []) 0 b (omega (arith, d.ended)))
            (done_grown t most (get_or starts b 0) (next_of starts done b) (begin_of ends b) (get_or ends b 0) offsets offsets_new words words_new w.offsets_grew w.words.grew (d.blocks b old))
        | inr new ↦
            let here : b ≡ length starts = omega (arith, length_more starts done) in
            same_done t most (get_or (starts ++ done ∷ []) b 0) done (next_of (starts ++ done ∷ []) end b) end
            (begin_of (ends ++ e ∷ []) b) (length words) (get_or (ends ++ e ∷ []) b 0) e offsets_new words_new
            (last_of starts done b here) (rw here (next_last starts done end)) (begin_grown ends e b (omega (arith, d.ended)) ∙ rw here d.all) (last_of ends e b (omega (arith, d.ended)))
            (done_new t most done end e offsets offsets_new words words_new r w is)
      ];
    }))

same_end : (c : Cutting) (t : TextData) (most first first_ end end_ : ℕ) → first ≡ first_ → end ≡ end_ → IsBlockEnd c t most first_ end_ → IsBlockEnd c t most first end
same_end c t most first first_ end end_ a b e = rw (a, b) e

fit_of : (c : Cutting) (t : TextData) (most first end : ℕ) → IsBlockEnd c t most first end → (k : ℕ) → first ≤ k → k < end → needs_of t k ≤ most
fit_of Greedy t most first end e = e.fit
fit_of WholeLoops t most first end e = e.fit

pub ends_more : (c : Cutting) (t : TextData) (most done end : ℕ) (starts starts_new : List ℕ) → AreBlockEnds c t most starts done → IsBlockEnd c t most done end → starts_new ≡ starts ++ done ∷ [] → AreBlockEnds c t most starts_new end
ends_more c t most done end starts starts_new e new is =
    subst (λ (l : List ℕ). AreBlockEnds c t most l end) (sym is) (record {
      fit = λ j within. elim (cases_lt j done) [
        | inl old ↦ e.fit j old
        | inr later ↦ fit_of c t most done end new j later within
      ];
      each = λ b within. elim (cases_lt b (length starts)) [
        | inl old ↦ same_end c t most (get_or (starts ++ done ∷ []) b 0) (get_or starts b 0) (next_of (starts ++ done ∷ []) end b) (next_of starts done b)
            (get_or-append starts (done ∷ []) 0 b old) (next_grown starts done end b old) (e.each b old)
        | inr last ↦
            let here : b ≡ length starts = omega (arith, length_more starts done) in
            same_end c t most (get_or (starts ++ done ∷ []) b 0) done (next_of (starts ++ done ∷ []) end b) end (last_of starts done b here) (rw here (next_last starts done end)) new
      ];
    })

pub ends_none : (c : Cutting) (t : TextData) (most : ℕ) (starts : List ℕ) → starts ≡ [] → AreBlockEnds c t most starts 0
ends_none c t most starts is = record { fit = λ k within. absurd (omega arith); each = λ b within. absurd (omega (arith, ap length is)) }

pub draft_none : (t : TextData) (most : ℕ) → AreDrafted t most 0 [] [] [] []
draft_none t most = record {
  ended = refl;
  covered = refl;
  all = refl;
  few = omega arith;
  fewer = omega arith;
  first = λ some. absurd (omega arith);
  none = λ none. refl;
  blocks = λ b within. absurd (omega arith);
}
