-- What words ask for, by the command that the first of them names.
use Rattle.std.proofs.Common.{◌≡◌, ◌∙◌, ap, sym, refl, Bool, true, false, List, [], ◌∷◌, Option, Some, None, map, string_bytes, String, Global, codes, option_map, option_and_then, slice_get, option_copied, Bor}
use Rattle.std.specs.Str.{bytes_eq}
use Rattle.std.proofs.lemmas.Slice.Eq.{bytes_eq-Decides}
use Rattle.clap.specs.Words.{Text}
use Rattle.swi_command.specs.Arguments.{form_of}
use Rattle.swi_command.specs.CommandLine.{Form, form_named, form_first, command_of, request_by}
use Rattle.swi_command.specs.declared.name.CommandName.{CommandName}

-- the command that the first of the words names, where the code named it
pub form_first-named : (words : List (String Global)) (first : Option (Bor (String Global))) (w : Bor (String Global)) (text : Text)
    (found named : Option CommandName) → option_copied first ≡ slice_get words 0 → first ≡ Some w → text ≡ string_bytes w.now
    → option_map form_of found ≡ form_named text → found ≡ named → form_first (map (λ s. string_bytes s) words) ≡ option_map form_of named
unfolding form_first
form_first-named [] first w text found named at is read table same = cc
form_first-named (s ∷ rest) first w text found named at is read table same =
    let here : s ≡ w.now = cc in
    ap form_named (ap (λ (x : String Global). string_bytes x) here ∙ sym read) ∙ sym table ∙ ap (λ (n : Option CommandName). option_map form_of n) same

pub form_first-nothing : (words : List (String Global)) (first : Option (Bor (String Global)))
    → option_copied first ≡ slice_get words 0 → first ≡ None → form_first (map (λ s. string_bytes s) words) ≡ None
unfolding form_first
form_first-nothing [] first at none = refl
form_first-nothing (s ∷ rest) first at none = cc

-- what words ask for, by the form that their first names
pub command_of-by : (words : List Text) (form : Option Form) → form_first words ≡ form → command_of words ≡ option_and_then (request_by words) form
unfolding command_of
command_of-by words form is = ap (option_and_then (request_by words)) is

differs : (a b : Text) → (a ≡ b → ⊥) → bytes_eq a b ≡ false
differs a b other = go (bytes_eq a b) refl
  where
    go : (t : Bool) → bytes_eq a b ≡ t → t ≡ false
    go true same = absurd (other ((bytes_eq-Decides a b).0 same))
    go false same = refl

-- no command has another name than those of the table
pub form_named-none : (w : Text) → (w ≡ codes "rewrite" → ⊥) → (w ≡ codes "cached" → ⊥) → (w ≡ codes "plain" → ⊥) → (w ≡ codes "trace" → ⊥)
    → (w ≡ codes "list" → ⊥) → (w ≡ codes "check" → ⊥) → (w ≡ codes "upgrade" → ⊥) → (w ≡ codes "measure" → ⊥)
    → (w ≡ codes "share" → ⊥) → (w ≡ codes "prefetch" → ⊥) → (w ≡ codes "survey" → ⊥) → (w ≡ codes "profile" → ⊥) → form_named w ≡ None
unfolding form_named
form_named-none w rewrite cached plain trace list check upgrade measure share prefetch survey profile =
    let at_rewrite = differs w (codes "rewrite") rewrite in
    let at_cached = differs w (codes "cached") cached in
    let at_plain = differs w (codes "plain") plain in
    let at_trace = differs w (codes "trace") trace in
    let at_list = differs w (codes "list") list in
    let at_check = differs w (codes "check") check in
    let at_upgrade = differs w (codes "upgrade") upgrade in
    let at_measure = differs w (codes "measure") measure in
    let at_share = differs w (codes "share") share in
    let at_prefetch = differs w (codes "prefetch") prefetch in
    let at_survey = differs w (codes "survey") survey in
    let at_profile = differs w (codes "profile") profile in
    rw (at_rewrite, at_cached, at_plain, at_trace, at_list, at_check, at_upgrade, at_measure, at_share, at_prefetch, at_survey, at_profile) refl
