-- The flat machine over a fixed text, step by step.
use Rattle.std.proofs.Common.{◌≡◌, ◌⊎◌, if◌then◌else◌, ℕ, zero, suc, ◌+◌, Bool, true, false, Option, Some, None, is_some, List, refl, sym, ap, ◌∙◌, inl, inr}
use Rattle.std.proofs.lemmas.Bool.{false≢true, cases_Bool}
use Rattle.swi_isa.specs.declared.instr.Instr.{Instr}
use Rattle.swi_isa.specs.Decode.{decoded}
use Rattle.swi_memory.specs.Bus.{fetched}
use Rattle.swi_exec.specs.Execute.{executed}
use Rattle.swi_calls.specs.declared.end.End.{End}
use Rattle.swi_calls.specs.declared.machine.Machine.{Machine}
use Rattle.swi_calls.specs.State.{FlatState}
use Rattle.swi_calls.specs.StoresText.{next_store}
use Rattle.swi_calls.specs.Flat.{Made as Step, made, with_instruction, with_word as with_fetched}
use Rattle.swi_calls.specs.Laws.{held_run_over, held_run_more}
use Rattle.swi_image.specs.Format.{ImageData}
use Rattle.swi_image.specs.Place.{word_at}
use Rattle.swi_rom.specs.Record.{Record, Transfer}
use Rattle.swi_hart.specs.declared.hart.Stage.TheVariants.{Start, Low, Return, Leave}
use Rattle.swi_hart.specs.declared.hart.Control.{Control}
use Rattle.swi_hart.specs.declared.hart.Control.TheVariants.{At, Outside}
use Rattle.swi_calls.specs.Held.{held, held_made, held_step, held_run}
use Rattle.swi_hart.specs.Hart.{exit_kind}
use Rattle.swi_hart.specs.Matching.{Stands, Agrees, Matches}
use Rattle.swi_hart.specs.Leaving.{transfer_at, exit_transfer, moved}
use Rattle.swi_hart.proofs.Midway.{at_exit}
use Rattle.swi_hart.proofs.Growing.{after_one}

-- the machines agree but for registers
pub stands_steps : (v : ImageData) (r : Record) (f m : Machine) (c : Control) → Stands v r f m c → (m.steps ≡ f.steps) × (m.ending ≡ f.ending)
stands_steps v r f m (At i b o Start) at = (ap (λ (k : Machine). k.steps) at.1.0, ap (λ (k : Machine). k.ending) at.1.0)
stands_steps v r f m (At i b o Low) at = (ap (λ (k : Machine). k.steps) at.1.done, ap (λ (k : Machine). k.ending) at.1.done)
stands_steps v r f m (At i b o Return) at = (ap (λ (k : Machine). k.steps) at.1.done, ap (λ (k : Machine). k.ending) at.1.done)
stands_steps v r f m (At i b o Leave) (at, inl a) = (ap (λ (k : Machine). k.steps) a.done, ap (λ (k : Machine). k.ending) a.done)
stands_steps v r f m (At i b o Leave) (at, inr a) = (ap (λ (k : Machine). k.steps) a.done, ap (λ (k : Machine). k.ending) a.done)
stands_steps v r f m Outside at = (ap (λ (k : Machine). k.steps) at.0, ap (λ (k : Machine). k.ending) at.0)

pub same_steps : (v : ImageData) (r : Record) (f m : Machine) (c : Control) → Matches v r f m c → (m.steps ≡ f.steps) × (m.ending ≡ f.ending)
same_steps v r f m c same = by m.ending same
  where
    by : (e : Option End) → Agrees e v r f m c → (m.steps ≡ f.steps) × (m.ending ≡ f.ending)
    by None at = stands_steps v r f m c at
    by (Some e) at = (ap (λ (k : Machine). k.steps) at, ap (λ (k : Machine). k.ending) at)

-- a step of the flat machine is counted, but one that is held
instruction_one : (f : Machine) (x : Option Instr) (input : List ℕ) → (with_instruction f x input).machine.steps ≡ f.steps + 1
instruction_one f None input = refl
instruction_one f (Some i) input = after_one (record f { regs = (executed i f.pc f.regs f.bus).regs; bus = (executed i f.pc f.regs f.bus).bus }) (executed i f.pc f.regs f.bus).done input

fetched_one : (f : Machine) (k : Option ℕ) (input : List ℕ) → (with_fetched f k input).machine.steps ≡ f.steps + 1
fetched_one f None input = refl
fetched_one f (Some w) input = instruction_one f (decoded w) input

made_one : (f : Machine) (input : List ℕ) → (made f input).machine.steps ≡ f.steps + 1
unfolding made
made_one f input = fetched_one f (fetched f.bus f.pc) input

held_counts : (f : Machine) (a : Option ℕ) (M : Step) (input : List ℕ) → M.machine.steps ≡ f.steps + 1 →
    ((held f a M input).machine.steps ≡ f.steps + 1) ⊎ (((held f a M input).machine.steps ≡ f.steps) × (is_some (held f a M input).machine.ending ≡ true))
held_counts f None M input e = inl e
held_counts f (Some a) M input e = inr (refl, refl)

pub held_steps : (f : Machine) (input : List ℕ) → ((held_made f input).machine.steps ≡ f.steps + 1) ⊎ (((held_made f input).machine.steps ≡ f.steps) × (is_some (held_made f input).machine.ending ≡ true))
held_steps f input = held_counts f (next_store f) (made f input) input (made_one f input)

-- one step more, behind the others
pub run_snoc : (k : ℕ) (s : FlatState) → is_some (held_run k s).machine.ending ≡ false → held_run (suc k) s ≡ held_step (held_run k s)
unfolding held_run
run_snoc zero s going = rw going refl
run_snoc (suc k) s going =
    elim (cases_Bool (is_some s.machine.ending)) [
      | inl over ↦ absurd (false≢true (sym going ∙ (ap (λ (k : FlatState). is_some k.machine.ending) (held_run_over (suc k) s over) ∙ over)))
      | inr on ↦
          let one : held_run (suc k) s ≡ held_run k (held_step s) = held_run_more k s on in
          held_run_more (suc k) s on ∙ run_snoc k (held_step s) (ap (λ (k : FlatState). is_some k.machine.ending) (sym one) ∙ going) ∙ ap (λ (k : FlatState). held_step k) (sym one)
    ]

pub no_exit_no_transfer : (policy : Record → ImageData → Transfer → Record) (v : ImageData) (r new : Record) (m : Machine) (c : Control) → new ≡ moved policy r v (transfer_at v m c) → at_exit v c ≡ false → new ≡ r
no_exit_no_transfer policy v r new m (At i b o stage) moves none =
    moves ∙ ap (λ (t : Bool). moved policy r v (if t then exit_transfer (exit_kind (word_at v b (o + 1))) v m b o else None)) none
no_exit_no_transfer policy v r new m Outside moves none = moves

-- where the flat machine is after a step of the board
abbrev pub next_state : Bool → FlatState → FlatState
next_state true s = held_step s
next_state false s = s
