-- Where a sink failed there was something to write.
use Rattle.std.proofs.Common.{◌≡◌, ℕ, List, [], ◌∷◌, ◌++◌, Bool, true, Option, None, Some, refl, subst, if◌then◌else◌}
use Rattle.swi_exec.specs.Registers.{Registers}
use Rattle.swi_memory.specs.Bus.{AreaData}
use Rattle.swi_command.specs.declared.command.Reports.{Reports}
use Rattle.swi_report.specs.declared.stats.Work.{Work}
use Rattle.swi_report.specs.State.{state_text_of}
use Rattle.swi_report.specs.Stats.{stats_text_of}
use Rattle.swi_task.specs.Runs.{report_of}

pub left_empty : (xs ys : List ℕ) → xs ++ ys ≡ [] → xs ≡ []
left_empty [] ys e = refl
left_empty (x ∷ xs) ys e = let bad : ⊥ = cc in absurd bad

pub right_empty : (xs ys : List ℕ) → xs ++ ys ≡ [] → ys ≡ []
right_empty [] ys e = e
right_empty (x ∷ xs) ys e = let bad : ⊥ = cc in absurd bad

pub some_bytes : (x : ℕ) (xs : List ℕ) → x ∷ xs ≡ [] → ⊥
some_bytes x xs e = cc

-- ---- the report

state_some : (pc : ℕ) (regs : Registers) (areas : List AreaData) (now : ℕ) → state_text_of pc regs areas now ≡ [] → ⊥
unfolding state_text_of
state_some pc regs areas now e = some_bytes _ _ e

stats_some : (steps : ℕ) (work : Option Work) → stats_text_of steps work ≡ [] → ⊥
stats_some steps None e = some_bytes _ _ e
stats_some steps (Some w) e = some_bytes _ _ e

pub state_due : (r : Reports) (pc : ℕ) (regs : Registers) (bus : List AreaData) (now steps : ℕ) (work : Option Work) → r.state ≡ true →
    report_of r pc regs bus now steps work ≡ [] → ⊥
state_due r pc regs bus now steps work asked e =
    state_some pc regs bus now (subst (λ (b : Bool). (if b then state_text_of pc regs bus now else []) ≡ []) asked
    (left_empty (if r.state then state_text_of pc regs bus now else []) _ e))

pub stats_due : (r : Reports) (pc : ℕ) (regs : Registers) (bus : List AreaData) (now steps : ℕ) (work : Option Work) → r.stats ≡ true →
    report_of r pc regs bus now steps work ≡ [] → ⊥
stats_due r pc regs bus now steps work asked e =
    stats_some steps work (subst (λ (b : Bool). (if b then stats_text_of steps work else []) ≡ []) asked
    (right_empty (if r.state then state_text_of pc regs bus now else []) _ e))
