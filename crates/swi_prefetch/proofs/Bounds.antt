-- At most three machine instructions for each original step.
use Rattle.std.proofs.Common.{◌≡◌, Some, None, sym, ◌∙◌}
use Rattle.swi_calls.specs.declared.end.End.{End}
use Rattle.swi_image.specs.Format.{ImageData}
use Rattle.swi_hart.specs.MachineStep.{BoardWithRam}
use Rattle.swi_run_laws.proofs.Between.{most_any, settled_most}
use Rattle.swi_engine.specs.Service.{engine_service}
use Rattle.swi_engine.specs.State.{EngineData}
use Rattle.swi_prefetch.specs.Laws.{CountFew}
use Rattle.swi_prefetch.specs.Turns.{Beside}

pub stays_few : (v : ImageData) (b : BoardWithRam EngineData) → Beside engine_service v b → CountFew b.hart
stays_few v b is = record {
  any = most_any v b.hart.machine b.hart.control b.hart.count is.steps_few;
  between = λ on between. (settled_most v b.hart.machine b.hart.control b.hart.count is.steps_few (λ e. between)).1 (λ a stopped. clash (sym on ∙ stopped));
  stopped = λ a ended. (settled_most v b.hart.machine b.hart.control b.hart.count is.steps_few (λ on. absurd (clash (sym on ∙ ended)))).0;
  ended = λ x ended other. (settled_most v b.hart.machine b.hart.control b.hart.count is.steps_few (λ on. absurd (clash (sym on ∙ ended)))).1
      (λ a stopped. other a (same (sym ended ∙ stopped)));
}
  where
    clash : {x : End} → None ≡ Some x → ⊥
    clash e = cc

    same : {x y : End} → Some x ≡ Some y → x ≡ y
    same e = cc
