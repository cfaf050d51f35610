use Rattle.std.proofs.Common.{◌≡◌, List, ℕ, Some, sym, subst, refl}
use Rattle.swi_command.specs.CommandLine.{form_named, rewrite_form, cached_form, plain_form, trace_form, list_form, check_form, upgrade_form, measure_form, share_form, prefetch_form, survey_form, profile_form}
use Rattle.swi_command.proofs.Naming.{form_named-none}
use Rattle.swi_command.proofs.name.CommandName.named.Goals as goal

pub returns-in-rewrite : goal.returns-in-rewrite
unfolding form_named
returns-in-rewrite c = subst (λ (w : List ℕ). Some rewrite_form ≡ form_named w) (sym c.in-rewrite.is) refl

pub returns-in-cached : goal.returns-in-cached
unfolding form_named
returns-in-cached c = subst (λ (w : List ℕ). Some cached_form ≡ form_named w) (sym c.in-cached.is) refl

pub returns-in-plain : goal.returns-in-plain
unfolding form_named
returns-in-plain c = subst (λ (w : List ℕ). Some plain_form ≡ form_named w) (sym c.in-plain.is) refl

pub returns-in-trace : goal.returns-in-trace
unfolding form_named
returns-in-trace c = subst (λ (w : List ℕ). Some trace_form ≡ form_named w) (sym c.in-trace.is) refl

pub returns-in-list : goal.returns-in-list
unfolding form_named
returns-in-list c = subst (λ (w : List ℕ). Some list_form ≡ form_named w) (sym c.in-list.is) refl

pub returns-in-check : goal.returns-in-check
unfolding form_named
returns-in-check c = subst (λ (w : List ℕ). Some check_form ≡ form_named w) (sym c.in-check.is) refl

pub returns-in-upgrade : goal.returns-in-upgrade
unfolding form_named
returns-in-upgrade c = subst (λ (w : List ℕ). Some upgrade_form ≡ form_named w) (sym c.in-upgrade.is) refl

pub returns-in-measure : goal.returns-in-measure
unfolding form_named
returns-in-measure c = subst (λ (w : List ℕ). Some measure_form ≡ form_named w) (sym c.in-measure.is) refl

pub returns-in-share : goal.returns-in-share
unfolding form_named
returns-in-share c = subst (λ (w : List ℕ). Some share_form ≡ form_named w) (sym c.in-share.is) refl

pub returns-in-prefetch : goal.returns-in-prefetch
unfolding form_named
returns-in-prefetch c = subst (λ (w : List ℕ). Some prefetch_form ≡ form_named w) (sym c.in-prefetch.is) refl

pub returns-in-survey : goal.returns-in-survey
unfolding form_named
returns-in-survey c = subst (λ (w : List ℕ). Some survey_form ≡ form_named w) (sym c.in-survey.is) refl

pub returns-in-profile : goal.returns-in-profile
unfolding form_named
returns-in-profile c = subst (λ (w : List ℕ). Some profile_form ≡ form_named w) (sym c.in-profile.is) refl

pub returns-in_default : goal.returns-in_default
returns-in_default c =
    sym (form_named-none c.args.word.now c.in_default.not-rewrite c.in_default.not-cached c.in_default.not-plain
    c.in_default.not-trace c.in_default.not-list c.in_default.not-check c.in_default.not-upgrade c.in_default.not-measure
    c.in_default.not-share c.in_default.not-prefetch c.in_default.not-survey c.in_default.not-profile)
