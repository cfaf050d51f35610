-- Laws of what sinks hold after several writes, of what sources have left after several reads, and of the causes of faults.
use Rattle.std.proofs.Common.{◌≡◌, ◌⊎◌, ℕ, inl, inr, Ok, IsErrOf, refl, sym, subst, arith}
use Rattle.swi_outside.specs.Causes.{DeviceCause}
use Rattle.swi_outside.specs.Devices.{Faults, HasCauses}
pub use Rattle.std.proofs.KnownBytes.{Appends-nil as Appends-none, Appends-trans as Appends-append, Consumes-trans as Consumes-append}

-- a device that nothing happened to
pub no_cause : {a b : ℕ} {named : Type 0} → b ≡ a → (named → ⊥) → DeviceCause a b named
no_cause same never = record { later = omega (arith, same); cause = λ n. absurd (never n); told = inl same }

told_as : {A B C : Type 0} → A ⊎ B → (B → C) → A ⊎ C
told_as (inl a) f = inl a
told_as (inr b) f = inr (f b)

-- a device under another name
pub cause_as : {a b : ℕ} {named named' : Type 0} → DeviceCause a b named → (named → named') → (named' → named) → DeviceCause a b named'
cause_as d to from = record { later = d.later; cause = λ n. d.cause (from n); told = told_as d.told to }

-- after a call in which no count rose
pub cause_from : {a b c : ℕ} {named : Type 0} → b ≡ a → DeviceCause b c named → DeviceCause a c named
cause_from {a} {b} {c} {named} same d = subst (λ (n : ℕ). DeviceCause n c named) same d

pub causes_from : {first before after : Faults} {source sink : Type 0} → before ≡ first → HasCauses before after source sink → HasCauses first after source sink
causes_from {first} {before} {after} {source} {sink} same h = subst (λ (f : Faults). HasCauses f after source sink) same h

-- where the answer names none, no count rose
pub unmoved : {before after : Faults} {source sink : Type 0} → HasCauses before after source sink → (source → ⊥) → (sink → ⊥) → after ≡ before
unmoved {before} {after} {source} {sink} h no_source no_sink = same after before (or_not h.input.told no_source) (or_not h.sinks.one_told no_sink) (or_not h.sinks.other_told no_sink)
  where
    or_not : {A B : Type 0} → A ⊎ B → (B → ⊥) → A
    or_not (inl a) never = a
    or_not (inr b) never = absurd (never b)

    same : (a b : Faults) → a.input ≡ b.input → a.output ≡ b.output → a.error ≡ b.error → a ≡ b
    same a b e f g = λ i. record { input = e i; output = f i; error = g i }

-- the same under other names
pub named_as : {before after : Faults} {source sink source' sink' : Type 0} → HasCauses before after source sink → (source → source') → (source' → source) →
    (sink → sink') → (sink' → sink) → HasCauses before after source' sink'
named_as h to from on back = record {
  input = cause_as h.input to from;
  sinks = record {
    one_later = h.sinks.one_later;
    other_later = h.sinks.other_later;
    cause = λ n. h.sinks.cause (back n);
    one_told = told_as h.sinks.one_told on;
    other_told = told_as h.sinks.other_told on;
  };
  once = λ n. h.once (from n);
}

-- where no count rose and the answer names none
pub none_named : {before after : Faults} {source sink : Type 0} → after ≡ before → (source → ⊥) → (sink → ⊥) → HasCauses before after source sink
none_named {before} {after} {source} {sink} same no_source no_sink =
    subst (λ (f : Faults). HasCauses before f source sink) (sym same) (record {
      input = record { later = omega arith; cause = λ n. absurd (no_source n); told = inl refl };
      sinks = record {
        one_later = omega arith;
        other_later = omega arith;
        cause = λ n. absurd (no_sink n);
        one_told = inl refl;
        other_told = inl refl;
      };
      once = λ n. absurd (no_source n);
    })

ok_is_none : {T E : Type 0} (v : T) (e : E) → IsErrOf (Ok v) e → ⊥
ok_is_none v e is = cc

-- a call that answered Ok
pub ok_unmoved : {T E : Type 0} {v : T} {e f : E} {before after : Faults} → HasCauses before after (IsErrOf (Ok v) e) (IsErrOf (Ok v) f) → after ≡ before
ok_unmoved {v = v} {e = e} {f = f} h = unmoved h (ok_is_none v e) (ok_is_none v f)

pub ok_causes : {T E : Type 0} {v : T} {e f : E} {before after : Faults} → after ≡ before → HasCauses before after (IsErrOf (Ok v) e) (IsErrOf (Ok v) f)
ok_causes {v = v} {e = e} {f = f} same = none_named same (ok_is_none v e) (ok_is_none v f)
