-- One step of the board, for the hart.
use Rattle.std.proofs.Common.{◌≡◌, ◌^◌, ◌<◌, ℕ, Option, Some, None, List, subst, sym, ap, ◌∙◌}
use Rattle.std.specs.Io.KnownBytes.{Appends}
use Rattle.swi_memory.specs.Bus.{fetched}
use Rattle.swi_calls.specs.declared.machine.Machine.{Machine}
use Rattle.swi_image.specs.Format.{ImageData}
use Rattle.swi_render.specs.Carried.{Carries}
use Rattle.swi_rom.specs.Record.{Record, Transfer}
use Rattle.swi_hart.specs.Hart.{HartData, next_made}
use Rattle.swi_hart.specs.Matching.{Matches}
use Rattle.swi_hart.specs.Calling.{Made}
use Rattle.swi_hart.specs.Leaving.{moved, transfer_at}
use Rattle.swi_board.specs.Ran.{Followed}
use Rattle.swi_hart.proofs.Midway.{step_follows}
use Rattle.swi_board.proofs.Held.{no_exit_no_transfer}

pub followed : (policy : Record → ImageData → Transfer → Record) (v : ImageData) (r new : Record) (h h' : HartData) (f : Machine) (left : List ℕ) (left' out out' err err' : Option (List ℕ)) → h.machine.ending ≡ None → h.machine.pc < 2 ^ 32 →
    Carries (fetched f.bus) v → Matches v r f h.machine h.control → new ≡ moved policy r v (transfer_at v h.machine h.control) → Made v new h h' left left' out out' err err' →
    Followed v new h' (next_made v h.machine h.control f left) left' out out' err err'
followed policy v r new h h' f left left' out out' err err' running word image same moves step =
    let follows = step_follows v r new f h.machine h.control step.stepped left image same running word (no_exit_no_transfer policy v r new h.machine h.control moves) step.step in
    record {
      matches = subst (λ (k : HartData). Matches v new (next_made v h.machine h.control f left).machine k.machine k.control) (sym step.did.hart) follows.matches;
      input = step.did.input ∙ ap (λ (l : List ℕ). Some l) follows.input;
      output = subst (λ (l : List ℕ). Appends out out' l) follows.output step.did.output;
      error = subst (λ (l : List ℕ). Appends err err' l) follows.error step.did.error;
    }
