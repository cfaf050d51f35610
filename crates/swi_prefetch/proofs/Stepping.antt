-- A machine step of the board is a turn of the hart.
use Rattle.std.proofs.Common.{◌≡◌, ℕ, ◌+◌, ◌*◌, List, Option, Some, None, Result, Ok, Err, OnOk, sym, ap, subst, ◌∙◌, arith}
use Rattle.swi_outside.specs.Devices.{Devices}
use Rattle.swi_memory.specs.Bus.{fetched}
use Rattle.swi_calls.specs.declared.end.End.{End}
use Rattle.swi_calls.specs.declared.machine.Machine.{Machine}
use Rattle.swi_image.specs.Format.{ImageData}
use Rattle.swi_render.specs.Carried.{Carries}
use Rattle.swi_rom.specs.Service.{ServiceOf}
use Rattle.swi_hart.specs.declared.fault.BoardFault.{BoardFault}
use Rattle.swi_hart.specs.Bounds.{depth, most, most_by}
use Rattle.swi_hart.specs.Hart.{HartData, next_made}
use Rattle.swi_hart.specs.MachineStep.{BoardStepped, BoardWithRam}
use Rattle.swi_hart.specs.Matching.{Matches}
use Rattle.swi_board.specs.Ran.{Followed}
use Rattle.swi_prefetch.specs.Turns.{Beside, HartTurned}

module _ {S : Type 0} (k : ServiceOf S) (v : ImageData) (old new : BoardWithRam S) (before after : Devices) (was : Beside k v old) (running : old.hart.machine.ending ≡ None) where
  still_beside : (u : Unit {0}) → BoardStepped k v old new before after (Ok u) → Beside k v new
  still_beside u step =
      let grown = step.grown was.sound in
      let now : most v old.hart.machine old.hart.control ≡ 3 * old.hart.machine.steps + depth v old.hart.machine old.hart.control = ap (λ (e : Option End). most_by e v old.hart.machine old.hart.control) running in
      let steps = was.steps_few in
      let count = grown.count in
      let most = grown.most in
      record {
        fits = step.fits;
        sound = (step.sound was.sound).0;
        unfailed = grown.failed ∙ was.unfailed;
        booted = grown.booted ∙ was.booted;
        steps_few = omega (arith, now, steps, count, most);
        services_few = λ going. let few = was.services_few running in let calls = grown.calls going in omega (arith, few, calls);
      }

  -- where the board follows each flat machine on this input
  pub turned_by : (result : Result Unit BoardFault) (left rest : List ℕ) → before.input.left ≡ Some left → after.input.left ≡ Some rest → BoardStepped k v old new before after result →
      OnOk result ((f : Machine) → Carries (fetched f.bus) v → Matches v (k.kept old.rom) f old.hart.machine old.hart.control →
      Followed v (k.kept new.rom) new.hart (next_made v old.hart.machine old.hart.control f left) (Some rest) before.output.held after.output.held before.error.held after.error.held) →
      HartTurned k v old new before after result
  turned_by (Ok u) left rest told leaves step follows = record {
    ended = λ x is. absurd (let clash : None ≡ Some x = sym running ∙ is in cc);
    stepped = λ _. step;
    follows = λ _. λ given is.
        let same : left ≡ given = cc in
        subst (λ (l : List ℕ). (f : Machine) → Carries (fetched f.bus) v → Matches v (k.kept old.rom) f old.hart.machine old.hart.control →
        Followed v (k.kept new.rom) new.hart (next_made v old.hart.machine old.hart.control f l) after.input.left before.output.held after.output.held before.error.held after.error.held) same
        (rw leaves follows);
    beside = still_beside u step;
    setting = step.setting;
    failed = tt;
  }
  turned_by (Err e) left rest told leaves step follows = record {
    ended = λ x is. absurd (let clash : None ≡ Some x = sym running ∙ is in cc);
    stepped = λ _. step;
    follows = λ _. tt;
    beside = tt;
    setting = step.setting;
    failed = ap (λ (h : HartData). h.failed) step.stopped;
  }
