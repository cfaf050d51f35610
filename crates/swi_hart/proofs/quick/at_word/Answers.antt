use Rattle.std.specs.Io.KnownBytes.{Appends}
use Rattle.std.proofs.Common.{Option, Some, ap, subst, ◌+◌, ℕ, List, slice_index, sym, ◌∙◌, refl}
use Rattle.swi_outside.specs.CacheRam.{RamState}
use Rattle.swi_image.specs.Place.{word_at}
use Rattle.swi_memory.specs.Bus.{AreaData}
use Rattle.swi_outside.proofs.SourceLemmas.{rest_is}
use Rattle.swi_hart.specs.Calling.{Moved, with_memory}
use Rattle.swi_hart.specs.Hart.{HartData, Stepped, exit_kind}
use Rattle.swi_hart.specs.Leaving.{exit_transfer, broken}
use Rattle.swi_hart.proofs.Answered.{ram_stopped}
use Rattle.swi_outside.specs.Laws.{no_cause, none_named, unmoved}
use Rattle.swi_hart.proofs.Causing.{causes_answer, on_device, source_failed, ram_unfailed}
use Rattle.swi_hart.proofs.Falls.{ram_same, ram_none, words_same, words_after}
use Rattle.swi_hart.proofs.Fetching.{got_some, index_below, exit_home, word_home, exit_moves, word_moves}
use Rattle.swi_hart.proofs.Grown.{grown_exit, grown_word, moved_services}
use Rattle.swi_hart.proofs.Steps.{made_exit, fits_exit, made_word, fits_word, exit_placed, broken_word, between_call, ram_exit, ram_unserved, kept_after}
use Rattle.swi_hart.proofs.quick.at_word.Goals as goal

pub unreachable-requires : goal.unreachable-requires
unreachable-requires g c =
    got_some c.args.image.now (g.R.CacheRom.service.kept c.args.rom.now) c.args.hart.now.machine _ _ c.args.at.index c.args.at.block c.args.at.offset c.args.at.stage
    (g.met.R.CacheRom.laws.coherent _ _ _ c.requires.sound) c.requires.home c.args.got c.requires.got (sym c.in_default.is ∙ c.decode.ensures)

pub exit_step-requires-clause-home : goal.exit_step-requires-clause-home
exit_step-requires-clause-home g c =
    exit_home c.args.image.now (g.R.CacheRom.service.kept c.args.rom.now) c.args.hart.now.machine _ _ c.args.at.index c.args.at.block c.args.at.offset c.args.at.stage
    (g.met.R.CacheRom.laws.coherent _ _ _ c.requires.sound) c.requires.home c.args.got c.in-Some.x c.requires.got (sym c.in-Some.is ∙ c.decode.ensures) (sym c.leaves.ensures ∙ c.if-leaves.true)

pub returns-in-Ok-clause-stepped : goal.returns-in-Ok-clause-stepped
returns-in-Ok-clause-stepped g c i rest read before fetched =
    rw (rest_is read) (
    let v = c.args.image.now in
    let r = g.R.CacheRom.service.kept c.args.rom.now in
    let new = g.R.CacheRom.service.kept c.exit_step.new.rom in
    let h = c.args.hart.now in
    let policy = g.R.CacheRom.service.policy (g.R.CacheRom.service.setting c.args.rom.now) in
    let coherent = g.met.R.CacheRom.laws.coherent _ _ _ c.requires.sound in
    let e = exit_home v r h.machine _ _ c.args.at.index c.args.at.block c.args.at.offset c.args.at.stage
    coherent c.requires.home c.args.got c.in-Some.x c.requires.got (sym c.in-Some.is ∙ c.decode.ensures) (sym c.leaves.ensures ∙ c.if-leaves.true) in
    let below = index_below v r h.machine _ _ c.args.at.index c.args.at.block c.args.at.offset c.args.at.stage coherent c.requires.home in
    let s = c.in-Ok.ensures in
    let more = moved_services policy (λ r v t. g.met.R.CacheRom.laws.one_service (g.R.CacheRom.service.setting c.args.rom.now) r v t) r new v
    (exit_transfer (exit_kind (word_at v c.args.at.block (c.args.at.offset + 1))) v h.machine c.args.at.block c.args.at.offset) s.served.policy in
    record {
      made = λ sound left told. made_exit v r new h c.exit_step.new.hart c.args.at.index c.args.at.block c.args.at.offset c.args.at.stage c.requires.control left _ _ _ e s.step s.counted told;
      fits = fits_exit v r new h c.exit_step.new.hart c.args.at.index c.args.at.block c.args.at.offset c.args.at.stage c.requires.control c.requires.ready.fits (sym c.requires.ready.running) c.requires.word e s.step s.counted;
      counted = s.counted;
      policy = rw c.requires.control (exit_moves v new h.machine c.args.at.index c.args.at.block c.args.at.offset c.args.at.stage policy r e s.served.policy);
      setting = s.served.setting;
      sound = λ sound. (s.served.sound.0, λ images serves. s.served.sound.1 images (subst (λ (k : List ℕ). g.R.CacheRom.service.serves c.args.rom.now v images k) (sym (ap (λ (k : RamState). k.words) fetched.1)) serves));
      unused = λ j le. s.served.unused j le ∙ ap (λ (k : RamState). slice_index k.words j) fetched.1;
      words = words_after v r new before _ _ (ap (λ (k : RamState). k.words) fetched.1) s.served.words;
      ram = ram_exit _ _ c.args.at.index c.args.at.block c.args.at.offset c.args.at.stage h.control before _ _ c.requires.control below fetched.1 s.served.ram;
      grown = λ sound. grown_exit v r new h c.exit_step.new.hart c.args.at.index c.args.at.block c.args.at.offset c.args.at.stage c.requires.control (sym c.requires.ready.running) e s.step s.counted more;
      stopped = tt;
      broke = λ sound. tt;
      call = tt;
      unserved = tt;
      unmoved = λ is. absurd (cc);
      unwritten = λ is. absurd (cc);
      others_stay = λ is. absurd (cc);
      ram_failed = λ is. absurd (cc);
      kept = kept_after _ c.args.at.index before _ _ below fetched.1 s.served.ram.kept;
      causes = none_named refl (λ e. cc) (λ e. cc);
      ram_cause = no_cause (s.served.ram.quiet ∙ ap (λ (k : RamState). k.faults) fetched.1) (λ e. cc);
    })

pub returns-in-Err-clause-stepped : goal.returns-in-Err-clause-stepped
returns-in-Err-clause-stepped g c i rest read before fetched =
    rw (rest_is read) (
    let v = c.args.image.now in
    let r = g.R.CacheRom.service.kept c.args.rom.now in
    let h = c.args.hart.now in
    let coherent = g.met.R.CacheRom.laws.coherent _ _ _ c.requires.sound in
    let e = exit_home v r h.machine _ _ c.args.at.index c.args.at.block c.args.at.offset c.args.at.stage
    coherent c.requires.home c.args.got c.in-Some.x c.requires.got (sym c.in-Some.is ∙ c.decode.ensures) (sym c.leaves.ensures ∙ c.if-leaves.true) in
    let below = index_below v r h.machine _ _ c.args.at.index c.args.at.block c.args.at.offset c.args.at.stage coherent c.requires.home in
    let s = c.in-Err.ensures in
    ram_stopped _ _ _ _ _ (ap broken (c.hart.view_is ∙ s.stays)) s.served.setting
    (ram_unserved v h.machine h.control _ c.args.at.index c.args.at.block c.args.at.offset c.args.at.stage before _ _ c.requires.control below fetched.1 s.served.failed
    (exit_placed v h.machine h.control c.args.at.index c.args.at.block c.args.at.offset c.args.at.stage c.requires.control e s.served.placed)))

pub returns-in-Ok-word_step-clause-stepped : goal.returns-in-Ok-word_step-clause-stepped
returns-in-Ok-word_step-clause-stepped g c i rest read before fetched =
    let v = c.args.image.now in
    let r = g.R.CacheRom.service.kept c.args.rom.now in
    let h = c.args.hart.now in
    let coherent = g.met.R.CacheRom.laws.coherent _ _ _ c.requires.sound in
    let w = word_home v r h.machine _ _ c.args.at.index c.args.at.block c.args.at.offset c.args.at.stage
    coherent c.requires.home c.args.got c.in-Some.x c.requires.got (sym c.in-Some.is ∙ c.decode.ensures) (sym c.leaves.ensures ∙ c.if-leaves.false) in
    let below = index_below v r h.machine _ _ c.args.at.index c.args.at.block c.args.at.offset c.args.at.stage coherent c.requires.home in
    let same = ram_same (g.R.CacheRom.service.span (g.R.CacheRom.service.setting c.args.rom.now)) r (g.M.CacheRam.state c.args.ram.now) in
    let s = c.in-Ok-word_step.ensures.word i rest read in
    let grows = grown_word v r r h c.word_step.new.hart c.args.at.index c.args.at.block c.args.at.offset c.args.at.stage c.requires.control
    (sym c.requires.ready.running) c.in-Some.x c.role-role.result _ _ refl w c.role-role.ensures s.went in
    record {
      made = λ sound left told. made_word v r r h c.word_step.new.hart c.args.at.index c.args.at.block c.args.at.offset c.args.at.stage c.requires.control
          c.in-Some.x c.role-role.result left _ _ _ _ _ w c.role-role.ensures
          (record { hart = s.executed.hart left told; input = s.executed.devices.input left told; output = s.executed.devices.output left told; error = s.executed.devices.error left told });
      fits = fits_word v r r h c.word_step.new.hart c.args.at.index c.args.at.block c.args.at.offset c.args.at.stage c.requires.control
          c.in-Some.x c.role-role.result _ _ refl c.requires.ready.fits (sym c.requires.ready.running) c.requires.word w c.role-role.ensures s.went;
      counted = record { count = grows.count; failed = grows.failed; booted = grows.booted };
      policy = rw c.requires.control (word_moves v r h.machine c.args.at.index c.args.at.block c.args.at.offset c.args.at.stage (g.R.CacheRom.service.policy (g.R.CacheRom.service.setting c.args.rom.now)) r w.0);
      setting = refl;
      sound = λ sound. (c.requires.sound, λ images serves. subst (λ (k : List ℕ). g.R.CacheRom.service.serves c.args.rom.now v images k) (sym (ap (λ (k : RamState). k.words) fetched.1)) serves);
      unused = λ j le. ap (λ (k : RamState). slice_index k.words j) fetched.1;
      words = words_same v r before _ (ap (λ (k : RamState). k.words) fetched.1);
      ram = ram_exit _ _ c.args.at.index c.args.at.block c.args.at.offset c.args.at.stage h.control before _ _ c.requires.control below fetched.1 same;
      grown = λ sound. grows;
      stopped = tt;
      broke = λ sound. tt;
      call = tt;
      unserved = tt;
      unmoved = λ is. absurd (cc);
      unwritten = λ is. absurd (cc);
      others_stay = λ is. absurd (cc);
      ram_failed = λ is. absurd (cc);
      kept = kept_after _ c.args.at.index before _ _ below fetched.1 same.kept;
      causes = none_named (unmoved s.executed.devices.causes (λ e. cc) (λ e. cc)) (λ e. cc) (λ e. cc);
      ram_cause = no_cause (ap (λ (k : RamState). k.faults) fetched.1) (λ e. cc);
    }

pub returns-in-Err-word_step-clause-stepped : goal.returns-in-Err-word_step-clause-stepped
returns-in-Err-word_step-clause-stepped g c i rest read before fetched =
    let v = c.args.image.now in
    let r = g.R.CacheRom.service.kept c.args.rom.now in
    let h = c.args.hart.now in
    let coherent = g.met.R.CacheRom.laws.coherent _ _ _ c.requires.sound in
    let below = index_below v r h.machine _ _ c.args.at.index c.args.at.block c.args.at.offset c.args.at.stage coherent c.requires.home in
    let w = word_home v r h.machine _ _ c.args.at.index c.args.at.block c.args.at.offset c.args.at.stage
    coherent c.requires.home c.args.got c.in-Some.x c.requires.got (sym c.in-Some.is ∙ c.decode.ensures) (sym c.leaves.ensures ∙ c.if-leaves.false) in
    let s = c.in-Err-word_step.ensures.word i rest read in
    record {
      made = λ sound. tt;
      fits = tt;
      counted = tt;
      policy = tt;
      setting = refl;
      sound = λ sound. tt;
      unused = tt;
      words = tt;
      ram = tt;
      grown = λ sound. tt;
      stopped = ap broken (c.hart-2.view_is ∙ s.executed.stays) ∙ ap (λ (bus : List AreaData). broken (with_memory h bus)) (sym (ap (λ (k : HartData). k.machine.bus) c.hart-2.view_is));
      broke = λ sound. on_device Unit _ c.in-Err-word_step.fault c.fault_of.result c.fault_of.ensures (λ left told.
          broken_word v r h c.word_step.new.hart.machine.bus c.args.at.index c.args.at.block c.args.at.offset c.args.at.stage c.requires.control
          c.in-Some.x c.role-role.result left _ _ _ _ _ w c.role-role.ensures s.asked
          (subst (λ (k : Option (List ℕ)). Moved h.machine c.word_step.new.hart.machine.bus k (Some rest)) told s.moved)
          (s.executed.devices.output_prefix left told) (s.executed.devices.error_prefix left told));
      call = on_device Unit _ c.in-Err-word_step.fault c.fault_of.result c.fault_of.ensures (record {
        between = between_call v h.machine h.control c.args.at.index c.args.at.block c.args.at.offset c.args.at.stage c.requires.control c.in-Some.x w s.call;
        moved = subst (λ (k : List AreaData). Moved h.machine k (Some i) (Some rest)) (sym (ap (λ (k : HartData). k.machine.bus) c.hart-2.view_is)) s.moved;
        unasked_output = λ left none. s.executed.devices.unasked_output left (ap (λ (k : Stepped). k.made.output) (s.asked left) ∙ none);
        unasked_error = λ left none. s.executed.devices.unasked_error left (ap (λ (k : Stepped). k.made.error) (s.asked left) ∙ none);
        failed_output = s.executed.devices.failed_output;
        failed_error = λ rose left told. subst (λ (k : Stepped). Appends (g.O.Sink.state c.args.out.now).held (g.O.Sink.state c.word_step.new.out).held k.made.output) (s.asked left) (s.executed.devices.failed_error rose left told);
      });
      unserved = on_device Unit _ c.in-Err-word_step.fault c.fault_of.result c.fault_of.ensures (refl, ram_exit _ _ c.args.at.index c.args.at.block c.args.at.offset c.args.at.stage h.control before _ _ c.requires.control below fetched.1 (ram_none _ _), ap (λ (k : RamState). k.words) fetched.1);
      unmoved = λ is. absurd (ram_unfailed c.in-Err-word_step.fault c.fault_of.result c.fault_of.ensures is);
      unwritten = λ is. s.executed.devices.failed_input (source_failed c.in-Err-word_step.fault c.fault_of.result c.fault_of.ensures is);
      others_stay = λ is. absurd (ram_unfailed c.in-Err-word_step.fault c.fault_of.result c.fault_of.ensures is);
      ram_failed = λ is. absurd (ram_unfailed c.in-Err-word_step.fault c.fault_of.result c.fault_of.ensures is);
      kept = kept_after _ c.args.at.index before _ _ below fetched.1 (ram_same (g.R.CacheRom.service.span (g.R.CacheRom.service.setting c.args.rom.now)) r (g.M.CacheRam.state c.args.ram.now)).kept;
      causes = causes_answer c.in-Err-word_step.fault c.fault_of.result c.fault_of.ensures s.executed.devices.causes;
      ram_cause = no_cause (ap (λ (k : RamState). k.faults) fetched.1) (ram_unfailed c.in-Err-word_step.fault c.fault_of.result c.fault_of.ensures);
    }
