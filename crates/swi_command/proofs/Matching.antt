-- When a command has matches on words, by the kinds of error that `clap` states, and that the
-- commands of the table are ones of which it states them.
use Rattle.std.proofs.Common.{◌≡◌, ◌&&◌, ap, refl, Bool, true, false, List, [], ◌∷◌, Some, None}
use Rattle.clap.specs.Words.{App, Row, Text, Kinds, fault_of, matches_of, is_simple, is_simple_and_free}
use Rattle.clap.proofs.OnLiterals.{clap_on_literals}
use Rattle.swi_command.specs.Arguments.{form_of}
use Rattle.swi_command.specs.CommandLine.{matches_on, without_fault, app_by}
use Rattle.swi_command.specs.declared.name.CommandName.{CommandName}
use Rattle.swi_command.specs.declared.name.CommandName.TheVariants.{Rewrite, Cached, Plain, Trace, Listing, Check, Upgrade, Measure, Share, Prefetch, Survey, Profile}

pub app_is_simple : (name : CommandName) → is_simple_and_free (app_by (form_of name)) ≡ true
unfolding clap_on_literals
app_is_simple Rewrite = refl
app_is_simple Cached = refl
app_is_simple Plain = refl
app_is_simple Trace = refl
app_is_simple Listing = refl
app_is_simple Check = refl
app_is_simple Upgrade = refl
app_is_simple Measure = refl
app_is_simple Share = refl
app_is_simple Prefetch = refl
app_is_simple Survey = refl
app_is_simple Profile = refl

left_true : (a b : Bool) → (a && b) ≡ true → a ≡ true
left_true true b h = refl
left_true false b h = h

pub simple_of_free : (a : App) → is_simple_and_free a ≡ true → is_simple a ≡ true
simple_of_free a h = left_true (is_simple a) _ h

pub matches_where_taken : (a : App) (words : List Text) → fault_of a words ≡ []
    → matches_on a words ≡ Some (matches_of a words)
unfolding matches_on
matches_where_taken a words taken = ap (λ (ks : Kinds). without_fault ks (matches_of a words)) taken

without_fault-none : (ks : Kinds) (rows : List Row) → (ks ≡ [] → ⊥) → without_fault ks rows ≡ None
without_fault-none [] rows refused = absurd (refused refl)
without_fault-none (k ∷ ks) rows refused = refl

pub matches_where_refused : (a : App) (words : List Text) → (fault_of a words ≡ [] → ⊥)
    → matches_on a words ≡ None
unfolding matches_on
matches_where_refused a words refused = without_fault-none (fault_of a words) (matches_of a words) refused
