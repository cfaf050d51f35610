-- The sizes of caches, one by one.
use Rattle.std.proofs.Common.{◌≡◌, ◌∙◌, ap, refl, ℕ, ◌+◌, ◌<◌, ◌≤◌, List, [], ◌∷◌, ◌++◌, Option, Some, None, append_assoc, map, drop, length, sym, option_map, option_and_then, Bor}
use Rattle.std.proofs.lemmas.List.{append-nil, drop_more, drop_all}
use Rattle.std.specs.Prelude.{get_or}
use Rattle.clap.specs.Words.{Text}
use Rattle.swi_command.specs.CommandLine.{cache_form, number_in, sizes_in}

abbrev pub size_in : Text → Option ℕ
size_in t = number_in cache_form.least cache_form.most cache_form.unit t

abbrev texts_of : List (Bor Text) → List Text
texts_of texts = map (λ (t : Bor Text). t.now) texts

-- these are the sizes that the first i texts write
abbrev pub Reading : List (Bor Text) → ℕ → List ℕ → Type 0
Reading texts i sizes = sizes_in (texts_of texts) ≡ option_map (λ (ns : List ℕ). sizes ++ ns) (sizes_in (texts_of (drop i texts)))

whole : (o : Option (List ℕ)) → o ≡ option_map (λ (ns : List ℕ). [] ++ ns) o
whole None = refl
whole (Some ns) = refl

pub reading_first : (texts : List (Bor Text)) → Reading texts 0 []
reading_first texts = whole (sizes_in (texts_of texts))

one_more : (o : Option (List ℕ)) (sizes : List ℕ) (n : ℕ) →
    option_map (λ (ns : List ℕ). sizes ++ ns) (option_map (λ (ns : List ℕ). n ∷ ns) o) ≡ option_map (λ (ns : List ℕ). (sizes ++ n ∷ []) ++ ns) o
one_more None sizes n = refl
one_more (Some ns) sizes n = ap (λ (l : List ℕ). Some l) (sym (append_assoc sizes (n ∷ []) ns))

split : (texts : List (Bor Text)) (i : ℕ) (t : Bor Text) → i < length texts →
    sizes_in (texts_of (drop i texts)) ≡ option_and_then (λ (n : ℕ). option_map (λ (ns : List ℕ). n ∷ ns) (sizes_in (texts_of (drop (i + 1) texts)))) (size_in (get_or texts i t).now)
split texts i t lt = ap (λ (ts : List (Bor Text)). sizes_in (texts_of ts)) (drop_more texts i t lt)

pub reading_more : (texts : List (Bor Text)) (i : ℕ) (t : Bor Text) (sizes : List ℕ) (n : ℕ) → Reading texts i sizes → i < length texts → size_in (get_or texts i t).now ≡ Some n → Reading texts (i + 1) (sizes ++ n ∷ [])
reading_more texts i t sizes n was lt is =
    was
    ∙ ap (option_map (λ (ns : List ℕ). sizes ++ ns))
    (split texts i t lt ∙ ap (option_and_then (λ (m : ℕ). option_map (λ (ns : List ℕ). m ∷ ns) (sizes_in (texts_of (drop (i + 1) texts))))) is)
    ∙ one_more (sizes_in (texts_of (drop (i + 1) texts))) sizes n

pub reading_none : (texts : List (Bor Text)) (i : ℕ) (t : Bor Text) (sizes : List ℕ) → Reading texts i sizes → i < length texts → size_in (get_or texts i t).now ≡ None → sizes_in (texts_of texts) ≡ None
reading_none texts i t sizes was lt is =
    was
    ∙ ap (option_map (λ (ns : List ℕ). sizes ++ ns))
    (split texts i t lt ∙ ap (option_and_then (λ (m : ℕ). option_map (λ (ns : List ℕ). m ∷ ns) (sizes_in (texts_of (drop (i + 1) texts))))) is)

pub reading_all : (texts : List (Bor Text)) (i : ℕ) (sizes : List ℕ) → Reading texts i sizes → length texts ≤ i → sizes_in (texts_of texts) ≡ Some sizes
reading_all texts i sizes was past =
    was
    ∙ ap (λ (ts : List (Bor Text)). option_map (λ (ns : List ℕ). sizes ++ ns) (sizes_in (texts_of ts))) (drop_all i texts past)
    ∙ ap (λ (l : List ℕ). Some l) (append-nil sizes)
