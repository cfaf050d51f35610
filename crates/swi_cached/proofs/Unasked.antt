-- A sink to which a step gives nothing is not asked, also where its line is told.
use Rattle.std.proofs.Common.{◌≡◌, ℕ, Bool, true, false, List, [], ◌∷◌, ◌++◌, Option, Some, None, codes, refl, subst, ◌∙◌}
use Rattle.swi_memory.specs.Bus.{fetched}
use Rattle.swi_outside.specs.Devices.{Faults}
use Rattle.swi_calls.specs.State.{FlatState}
use Rattle.swi_calls.specs.declared.machine.Machine.{Machine}
use Rattle.swi_trace.specs.Text.{trace_line_of}
use Rattle.swi_board.specs.Ran.{Unasked, next_of}
use Rattle.swi_cached.specs.Told.{next_told, told_line}

front_none : (xs ys : List ℕ) → xs ++ ys ≡ [] → xs ≡ []
front_none [] ys e = refl
front_none (x ∷ xs) ys e = absurd (let bad : ⊥ = cc in bad)

rest_none : (xs ys : List ℕ) → xs ++ ys ≡ [] → ys ≡ []
rest_none [] ys e = e
rest_none (x ∷ xs) ys e = absurd (let bad : ⊥ = cc in bad)

-- a line is never empty
line_some : (a : ℕ) (w : Option ℕ) → trace_line_of a w ≡ [] → ⊥
line_some a None e = let tail : codes " -------- outside\n" ≡ [] = rest_none _ (codes " -------- outside\n") e in cc
line_some a (Some w) e = let tail : codes "\n" ≡ [] = rest_none _ (codes "\n") e in cc

pub told_some : (each : Bool) (m : Machine) → each ≡ true → told_line each m ≡ [] → ⊥
told_some true m is e = line_some m.pc (fetched m.bus m.pc) e
told_some false m is e = cc

-- behind its line, and after steps in which no count rose
pub told_unasked : (each : Bool) {q s : FlatState} {first before after : Faults} → q ≡ s → Unasked (next_of q) before after →
    before.output ≡ first.output → before.error ≡ first.error → Unasked (next_told each s) first after
told_unasked each {q} {s} {first} {before} {after} same now out_same err_same =
    let there = subst (λ (k : FlatState). Unasked (next_of k) before after) same now in
    record {
      output = λ none. there.output none ∙ out_same;
      error = λ none. there.error (rest_none (told_line each s.machine) (next_of s).error none) ∙ err_same;
    }

-- the error sink failed at the line
pub line_unasked : (each : Bool) (s : FlatState) {first after : Faults} → each ≡ true → after.output ≡ first.output → Unasked (next_told each s) first after
line_unasked each s {first} {after} is same = record {
  output = λ none. same;
  error = λ none. absurd (told_some each s.machine is (front_none (told_line each s.machine) (next_of s).error none));
}
