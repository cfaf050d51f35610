-- Where the text words lie, and what is fetched.
use Rattle.std.proofs.Common.{◌≡◌, ℕ, ◌+◌, ◌-◌, ◌*◌, ◌/◌, ◌%◌, ◌<◌, ◌≤◌, ◌^◌, ◌&&◌, ◌==◌, zero, suc, min, max, List, [], ◌∷◌, length, get_or, drop, true, false, nat_lt, nat_le, Some, arith, refl, sym, ap, subst, ◌∙◌}
use Rattle.std.proofs.lemmas.Bool.Decides.{nat_tests}
use Rattle.std.proofs.lemmas.List.{drop_more, get_or_default, length-map}
use Rattle.swi_memory.specs.declared.bank.Bank.{Bank}
use Rattle.swi_memory.specs.declared.text.Text.{Text}
use Rattle.swi_memory.specs.Bus.{AreaData, AreInOrder, Execute, fetched, grants, has_word, is_text_word, number_in, touches_text}
use Rattle.swi_memory.specs.TextAt.{HasOne, executables, InArea, IsText, IsTextOf}
use Rattle.swi_memory.specs.Views.{area, areas}
use Rattle.swi_memory.specs.WordRange.{IsWordRange, in_range}
use Rattle.swi_memory.proofs.Accesses.{Within, number_within}
use Rattle.swi_memory.proofs.Looks.{InPlace, area_at, in_place}

-- a text word, in the bank that the text is in
pub record Word (bus : List AreaData) (b : Bank) (at a : ℕ) : Type 0 where
  pub end : at + 4 ≤ length b.bytes.items
  pub value : Some (number_in b.bytes.items at 4) ≡ fetched bus a

-- the address is as far behind the text's start as the code computes it
pub word_there : (banks : List Bank) (t : Text) (b : Bank) (a : ℕ) → AreInOrder (areas banks) → IsText (areas banks) t → b ≡ get_or banks t.bank b → a < 2 ^ 32 → a % 4 ≡ 0 → (a + (2 ^ 32 - t.from)) % 2 ^ 32 < t.len →
    Word (areas banks) b (t.skipped + (a + (2 ^ 32 - t.from)) % 2 ^ 32) a
word_there banks t b a order text is small aligned near =
    let at : area b ≡ get_or (areas banks) t.bank (area b) = area_at banks t.bank b is in
    let lies : InArea (area b) t = subst (λ s. InArea s t) (sym at) (text.area (omega arith) (area b)) in
    let bound : t.bank < length (areas banks) = text.place (omega arith) in
    let place : InPlace 0 (area b) = in_place 0 (areas banks) t.bank (area b) order bound at in
    let from : t.from ≤ a = omega (arith, lies.end, place.end) in
    let end : a + 4 ≤ t.from + t.len = omega (arith, text.first, text.whole) in
    let range : Within (areas banks) t.bank (area b) a 4 = record { order = order; bound = bound; is = at; from = omega (arith, lies.from); end = omega (arith, lies.end) } in
    let behind : t.skipped + (a + (2 ^ 32 - t.from)) % 2 ^ 32 ≡ a - b.base = omega (arith, lies.from) in
    let value : Some (number_in b.bytes.items (a - b.base) 4) ≡ fetched (areas banks) a = grind (arith, nat_tests, text.words a, number_within (areas banks) t.bank (area b) a 4 range) in
    record { end = omega (arith, range.from, range.end, behind); value = rw behind value }

pub word_end : (banks : List Bank) (t : Text) (b : Bank) (a : ℕ) → AreInOrder (areas banks) → IsText (areas banks) t → b ≡ get_or banks t.bank b → a < 2 ^ 32 → a % 4 ≡ 0 → (a + (2 ^ 32 - t.from)) % 2 ^ 32 < t.len →
    t.skipped + (a + (2 ^ 32 - t.from)) % 2 ^ 32 + 4 ≤ length b.bytes.items
word_end banks t b a order text is small aligned near = (word_there banks t b a order text is small aligned near).end

pub ruleset word = (word_there, word_end)

-- a word within the text is one of its words, by any of its bytes
word_of : (bus : List AreaData) (t : Text) (a : ℕ) → IsText bus t → is_text_word bus (a / 4 * 4) ≡ (nat_le t.from a && nat_lt a (t.from + t.len))
word_of bus t a text = grind (arith, nat_tests, text.words (a / 4 * 4), text.first, text.whole)

-- the bytes of a range are a text word's where the range meets the text
pub touches : (bus : List AreaData) (t : Text) (a n : ℕ) → IsText bus t → touches_text bus a n ≡ nat_lt (max t.from a) (min (t.from + t.len) (a + n))
touches bus t a zero text = grind (arith, nat_tests)
touches bus t a (suc n) text = rw (word_of bus t a text, touches bus t (a + 1) n text) (grind (arith, nat_tests))

-- the range of the text words
pub is_range : (bus : List AreaData) (t : Text) → IsText bus t → t.len < 2 ^ 32 → IsWordRange (record { from = t.from; words = t.len / 4 })
is_range bus t text small = record { first = text.first; few = omega arith; end = omega (arith, text.end) }

pub are_words : (bus : List AreaData) (t : Text) (a : ℕ) → IsText bus t → is_text_word bus a ≡ in_range (record { from = t.from; words = t.len / 4 }) a
are_words bus t a text =
    let whole : t.len ≡ 4 * (t.len / 4) = omega (arith, text.whole) in
    text.words a ∙ ap (λ len. (a % 4 == 0) && (nat_le t.from a && nat_lt a (t.from + len))) whole

-- where nothing can be executed there is no text word
pub no_words : (bus : List AreaData) (x : ℕ) → executables bus ≡ 0 → is_text_word bus x ≡ false
no_words [] x none = refl
no_words (s ∷ rest) x none = grind (arith, nat_tests, no_words rest x)

-- the words of the one area that can be executed are those of all from it on
one_area : (s : AreaData) (rest : List AreaData) (x : ℕ) → grants Execute s.flags ≡ true → HasOne (s ∷ rest) → is_text_word (s ∷ rest) x ≡ has_word s x
one_area s rest x granted one = grind (arith, nat_tests, no_words rest x)

-- the text of a bank that can be executed is that of all banks
pub text_found : (banks : List Bank) (i : ℕ) (b : Bank) (t : Text) → ((x : ℕ) → is_text_word (areas (drop i banks)) x ≡ is_text_word (areas banks) x) → HasOne (areas (drop i banks)) → i < length banks → b ≡ get_or banks i b → grants Execute b.flags ≡ true → IsTextOf (area b) i t → IsText (areas banks) t
text_found banks i b t before one bound is executable text =
    let from : areas (drop i banks) ≡ area b ∷ areas (drop (i + 1) banks) = ap areas (drop_more banks i b bound) ∙ ap (λ (c : Bank). area c ∷ areas (drop (i + 1) banks)) (sym is) in
    let one' : HasOne (area b ∷ areas (drop (i + 1) banks)) = rw from at one in
    let at : area b ≡ get_or (areas banks) i (area b) = area_at banks i b is in
    record {
      first = text.first;
      whole = text.whole;
      end = text.end;
      words = λ x. sym (before x) ∙ ap (λ bus. is_text_word bus x) from ∙ one_area (area b) (areas (drop (i + 1) banks)) x executable one' ∙ text.words x;
      place = λ some. omega (arith, text.here, length-map banks area, bound);
      area = λ some d.
          let same : area b ≡ get_or (areas banks) t.bank d = at ∙ get_or_default (areas banks) i (area b) d (omega (arith, length-map banks area, bound)) ∙ ap (λ j. get_or (areas banks) j d) (sym text.here) in
          rw (← same) (text.area some);
    }
