use Rattle.std.proofs.Common.{◌≡◌, ◌+◌, sym, ◌∙◌, refl, subst, ap}
use Rattle.swi_exec.specs.declared.done.FaultKind.TheVariants as kind
use Rattle.swi_calls.specs.declared.end.End.TheVariants.{Faulted}
use Rattle.swi_calls.specs.Flat.{ended}
use Rattle.swi_outside.proofs.SourceLemmas.{rest_is}
use Rattle.swi_hart.specs.Hart.{HartData}
use Rattle.swi_hart.specs.declared.hart.Control.{Control}
use Rattle.swi_hart.specs.declared.hart.Control.TheVariants.{Outside}
use Rattle.swi_hart.specs.Leaving.{transfer_at, moved}
use Rattle.swi_outside.specs.Laws.{no_cause, none_named}
use Rattle.swi_hart.proofs.Falls.{ram_same, words_same}
use Rattle.swi_hart.proofs.Homes.{home}
use Rattle.swi_hart.proofs.Grown.{grown_outside}
use Rattle.swi_hart.proofs.Steps.{made_outside, fits_outside, ram_outside_step}
use Rattle.swi_hart.proofs.quick.quick_step.Goals as goal

pub at_step-requires-clause-home : goal.at_step-requires-clause-home
at_step-requires-clause-home g c =
    home c.args.image.now (g.R.CacheRom.service.kept c.args.rom.now) c.args.hart.now c.in-At.index c.in-At.block c.in-At.offset c.in-At.stage c.requires.ready.fits
    (sym (ap (λ (h : HartData). h.control) c.hart.view_is) ∙ sym c.control.ensures ∙ c.in-At.is) c.requires.ready.running c.origin_pc-pc.ensures.word

pub returns-in-Outside-clause-stepped : goal.returns-in-Outside-clause-stepped
returns-in-Outside-clause-stepped g c i rest read =
    rw (rest_is read) (
    let v = c.args.image.now in
    let r = g.R.CacheRom.service.kept c.args.rom.now in
    let h = c.args.hart.now in
    let span = g.R.CacheRom.service.span (g.R.CacheRom.service.setting c.args.rom.now) in
    let policy = g.R.CacheRom.service.policy (g.R.CacheRom.service.setting c.args.rom.now) in
    let outside : h.control ≡ Outside = sym (ap (λ (h : HartData). h.control) c.hart.view_is) ∙ sym c.control.ensures ∙ c.in-Outside.is in
    let is = subst (λ p. c.end.new.hart ≡ record h { machine = ended h.machine (Faulted kind.FetchAccess p); count = h.count + 1 }) c.origin_pc-pc.ensures.value c.end.ensures in
    let grows = grown_outside v r r h c.end.new.hart kind.FetchAccess h.machine.pc outside refl is in
    record {
      made = λ sound left told. made_outside v r h c.end.new.hart left _ _ _ outside is told;
      fits = fits_outside v r h c.end.new.hart c.requires.ready.fits is;
      counted = record { count = grows.count; failed = grows.failed; booted = grows.booted };
      policy = sym (ap (λ (k : Control). moved policy r v (transfer_at v h.machine k)) outside);
      setting = refl;
      sound = λ sound. (c.requires.sound, λ images serves. serves);
      unused = λ i le. refl;
      words = words_same v r _ _ refl;
      ram = ram_outside_step span r h.control (g.M.CacheRam.state c.args.ram.now) outside;
      grown = λ sound. grows;
      stopped = tt;
      broke = λ sound. tt;
      call = tt;
      unserved = tt;
      unmoved = λ e. absurd (cc);
      unwritten = λ e. absurd (cc);
      others_stay = λ e. absurd (cc);
      ram_failed = λ e. absurd (cc);
      kept = (ram_same span r (g.M.CacheRam.state c.args.ram.now)).kept;
      causes = none_named refl (λ e. cc) (λ e. cc);
      ram_cause = no_cause refl (λ e. cc);
    })
