-- The files that are given at several places.
use Rattle.std.proofs.Common.{◌≡◌, ◌∙◌, ap, refl, ℕ, ◌+◌, ◌<◌, List, [], ◌∷◌, ◌++◌, Option, Some, None, append_assoc, map, drop, length, sym}
use Rattle.std.proofs.lemmas.List.{drop_more}
use Rattle.std.specs.Prelude.{get_or}
use Rattle.clap.specs.Words.{Row, Text, first_of}
use Rattle.swi_command.specs.Arguments.{positional_name}
use Rattle.swi_command.specs.CommandLine.{given_at, with_given}
use Rattle.swi_command.specs.declared.argument.Positional.{Positional}

given_then : (w : Option Text) (others : List Text) → with_given w [] ++ others ≡ with_given w others
given_then None others = refl
given_then (Some t) others = refl

-- one place more
pub given_more : (places : List Positional) (i : ℕ) (p : Positional) (now next all : List Text) (rows : List Row) → i < length places →
    now ++ given_at (map positional_name (drop i places)) rows ≡ all → next ≡ now ++ given_at (positional_name (get_or places i p) ∷ []) rows →
    next ++ given_at (map positional_name (drop (i + 1) places)) rows ≡ all
given_more places i p now next all rows lt was is =
    let split = ap (λ (ps : List Positional). given_at (map positional_name ps) rows) (drop_more places i p lt) in
    let rest : List Text = given_at (map positional_name (drop (i + 1) places)) rows in
    ap (λ (xs : List Text). xs ++ rest) is
    ∙ append_assoc now (given_at (positional_name (get_or places i p) ∷ []) rows) rest
    ∙ ap (λ (xs : List Text). now ++ xs) (given_then (first_of (positional_name (get_or places i p)) rows) rest)
    ∙ ap (λ (xs : List Text). now ++ xs) (sym split)
    ∙ was
