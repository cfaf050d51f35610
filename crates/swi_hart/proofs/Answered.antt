-- A step that the ram broke off.
use Rattle.std.proofs.Common.{◌≡◌, List, Err, refl, sym, ap, ◌∙◌, inr}
use Rattle.swi_memory.specs.Bus.{AreaData}
use Rattle.swi_outside.specs.CacheRam.{RamState}
use Rattle.swi_image.specs.Format.{ImageData}
use Rattle.swi_rom.specs.Service.{Setting}
use Rattle.swi_rom.specs.Record.{Record}
use Rattle.swi_hart.specs.declared.fault.BoardFault.TheVariants.{RamFault}
use Rattle.swi_hart.specs.Hart.{HartData}
use Rattle.swi_hart.specs.Calling.{with_memory}
use Rattle.swi_hart.specs.Leaving.{RamBroken, broken}
use Rattle.swi_hart.specs.Service.{ServiceRules}
use Rattle.swi_hart.specs.MachineStep.{BoardState, MachineStepped}
use Rattle.swi_hart.proofs.Causing.{ram_causes}

pub ram_stopped : {rules : ServiceRules} {v : ImageData} {WasSound IsSound : Type 0} (s : BoardState)
    (h' : HartData) (kept' : Record) (setting' : Setting) (ram' : RamState) → h' ≡ broken s.hart → setting' ≡ s.setting → RamBroken v s.hart.machine s.hart.control (rules.span s.setting) s.ram ram' →
    MachineStepped rules v WasSound IsSound s (record s { hart = h'; kept = kept'; setting = setting'; ram = ram' }) (Err RamFault)
ram_stopped s h' kept' setting' ram' is stays failed = record {
  made = λ sound. tt;
  fits = tt;
  counted = tt;
  policy = tt;
  setting = stays;
  sound = λ sound. tt;
  unused = tt;
  words = tt;
  ram = tt;
  grown = λ sound. tt;
  stopped = is ∙ ap (λ (bus : List AreaData). broken (with_memory s.hart bus)) (sym (ap (λ (h : HartData). h.machine.bus) is));
  broke = λ sound. tt;
  call = tt;
  unserved = tt;
  unmoved = λ e. is;
  unwritten = λ e. absurd (cc);
  others_stay = λ e. refl;
  ram_failed = λ e. failed;
  kept = failed.kept;
  causes = ram_causes refl;
  ram_cause = record { later = failed.later; cause = λ e. failed.rose; told = inr refl };
}
