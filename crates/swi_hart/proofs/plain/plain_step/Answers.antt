use Rattle.std.proofs.Common.{ℕ, List, [], refl, sym, ap, ◌∙◌, slice_index, arith}
use Rattle.swi_isa.specs.Decode.{decoded}
use Rattle.swi_outside.specs.CacheRam.{RamState}
use Rattle.swi_outside.proofs.SourceLemmas.{given_still, rest_is}
use Rattle.swi_hart.specs.Hart.{HartData}
use Rattle.swi_hart.specs.Exchanged.{is_plain}
use Rattle.swi_hart.specs.Leaving.{broken}
use Rattle.swi_hart.proofs.Answered.{ram_stopped}
use Rattle.swi_outside.specs.Laws.{no_cause, none_named}
use Rattle.swi_hart.proofs.Exchanging.{plain_home, put_back, own_word, plain_below, plain_held, no_call, made_plain, fits_plain, grown_plain, executes_plain, same_at}
use Rattle.swi_hart.proofs.Falls.{ram_same, words_same}
use Rattle.swi_hart.proofs.Fetching.{offset_small, word_moves}
use Rattle.swi_hart.proofs.Steps.{ram_exit, ram_unfetched}
use Rattle.swi_hart.proofs.plain.plain_step.Goals as goal

pub returns-in-Err : goal.returns-in-Err
returns-in-Err g c =
    let v = c.args.image.now in
    let r = g.R.CacheRom.service.kept c.args.rom.now in
    let h = c.args.hart.now in
    let ram = g.M.CacheRam.state c.args.ram.now in
    let span = g.R.CacheRom.service.span (g.R.CacheRom.service.setting c.args.rom.now) in
    let sound = λ (ws : List ℕ). g.R.CacheRom.service.sound c.args.rom.now v ws in
    let coherent = λ (ws : List ℕ) (s : g.R.CacheRom.service.sound c.args.rom.now v ws). g.met.R.CacheRom.laws.coherent c.args.rom.now v ws s in
    let plain = ap (λ (w : ℕ). is_plain (decoded w)) (sym c.requires.own) ∙ c.requires.plain in
    let below = plain_below v r h.machine span ram.words c.args.at.index c.args.at.block c.args.at.offset c.args.at.stage sound coherent c.requires.home h.control c.requires.control plain c.requires.sound in
    let failed = ram_unfetched v h.machine h.control _ c.args.at.index c.args.at.block c.args.at.offset c.args.at.stage _ _ c.requires.control below c.in-Err.ensures.fetched in
    record { gave = given_still _; unasked = λ e. refl; stepped = λ i rest read. rw (rest_is read) (ram_stopped _ _ _ _ _ (ap broken c.hart.view_is) refl failed); executes = tt }

pub run_word-requires : goal.run_word-requires
run_word-requires g c =
    let v = c.args.image.now in
    let r = g.R.CacheRom.service.kept c.args.rom.now in
    let h = c.args.hart.now in
    let ram = g.M.CacheRam.state c.args.ram.now in
    let span = g.R.CacheRom.service.span (g.R.CacheRom.service.setting c.args.rom.now) in
    let sound = λ (ws : List ℕ). g.R.CacheRom.service.sound c.args.rom.now v ws in
    let coherent = λ (ws : List ℕ) (s : g.R.CacheRom.service.sound c.args.rom.now v ws). g.met.R.CacheRom.laws.coherent c.args.rom.now v ws s in
    let plain = ap (λ (w : ℕ). is_plain (decoded w)) (sym c.requires.own) ∙ c.requires.plain in
    let below = plain_below v r h.machine span ram.words c.args.at.index c.args.at.block c.args.at.offset c.args.at.stage sound coherent c.requires.home h.control c.requires.control plain c.requires.sound in
    let put = put_back v r h.machine span ram.words c.args.at.index c.args.at.block c.args.at.offset c.args.at.stage sound coherent c.requires.home h.control c.requires.control plain c.requires.sound in
    let small = g.met.R.CacheRom.laws.small _ _ _ put in
    record {
      running = c.requires.ready.running;
      few = c.requires.ready.few;
      count = c.requires.ready.count;
      control = c.requires.control;
      small = omega (arith, below, small);
      inside = offset_small v r h.machine _ _ c.args.at.index c.args.at.block c.args.at.offset c.args.at.stage (coherent _ put) c.requires.home (g.met.R.CacheRom.laws.image _ _ _ put);
    }

pub returns : goal.returns
returns g c =
    let v = c.args.image.now in
    let r = g.R.CacheRom.service.kept c.args.rom.now in
    let h = c.args.hart.now in
    let ram = g.M.CacheRam.state c.args.ram.now in
    let span = g.R.CacheRom.service.span (g.R.CacheRom.service.setting c.args.rom.now) in
    let sound = λ (ws : List ℕ). g.R.CacheRom.service.sound c.args.rom.now v ws in
    let coherent = λ (ws : List ℕ) (s : g.R.CacheRom.service.sound c.args.rom.now v ws). g.met.R.CacheRom.laws.coherent c.args.rom.now v ws s in
    let policy = g.R.CacheRom.service.policy (g.R.CacheRom.service.setting c.args.rom.now) in
    let plain = ap (λ (w : ℕ). is_plain (decoded w)) (sym c.requires.own) ∙ c.requires.plain in
    let held = plain_held v r h.machine span ram.words c.args.at.index c.args.at.block c.args.at.offset c.args.at.stage sound coherent c.requires.home h.control c.requires.control plain c.requires.sound in
    let held_is = sym c.in-Some-Some.is-1 ∙ c.decode-2.ensures ∙ ap decoded c.in-Ok.ensures.fetched.0 in
    let own_is = sym c.in-Some-Some.is-0 ∙ c.decode.ensures ∙ ap decoded c.requires.own in
    let runs = no_call c.in-Some-Some.x c.run_word.result (ap is_plain held_is ∙ held) c.run_word.ensures.asks in
    let below = plain_below v r h.machine span ram.words c.args.at.index c.args.at.block c.args.at.offset c.args.at.stage sound coherent c.requires.home h.control c.requires.control plain c.requires.sound in
    let w = plain_home v r h.machine c.args.at.index c.args.at.block c.args.at.offset c.args.at.stage c.requires.home plain in
    let same = ram_same span r (g.M.CacheRam.state c.fetch.new.self) in
    let fetched = c.in-Ok.ensures.fetched.1 in
    let ran = (c.run_word.ensures.ran runs).ran [] in
    record {
      gave = given_still _;
      unasked = λ e. refl;
      stepped = λ i rest read. rw (rest_is read) (record {
        made = λ s left told. made_plain v r h c.run_word.new.hart ram.words c.args.at.index c.args.at.block c.args.at.offset c.args.at.stage c.requires.home c.requires.control plain c.in-Some-Some.image_word c.in-Some-Some.x c.role-role.result own_is held_is c.role-role.ensures ((c.run_word.ensures.ran runs).ran) (own_word v r h.machine span ram.words c.args.at.index c.args.at.block c.args.at.offset c.args.at.stage sound coherent c.requires.home h.control c.requires.control plain s) (c.run_word.ensures.ran runs).took (c.run_word.ensures.ran runs).output (c.run_word.ensures.ran runs).error left _ _ _ told;
        fits = fits_plain v r h c.run_word.new.hart ram.words c.args.at.index c.args.at.block c.args.at.offset c.args.at.stage c.requires.home c.requires.control plain c.in-Some-Some.image_word c.in-Some-Some.x c.role-role.result own_is held_is c.role-role.ensures ((c.run_word.ensures.ran runs).ran) (ap is_plain held_is ∙ held) c.requires.ready.fits c.requires.ready.running c.requires.word;
        counted = record { count = ap (λ (k : HartData). k.count) ran; failed = ap (λ (k : HartData). k.failed) ran; booted = ap (λ (k : HartData). k.booted) ran };
        policy = rw c.requires.control (word_moves v r h.machine c.args.at.index c.args.at.block c.args.at.offset c.args.at.stage policy r w);
        setting = refl;
        sound = λ s. (rw fetched s, λ images serves. rw fetched serves);
        unused = λ i le. ap (λ (k : RamState). slice_index k.words i) fetched;
        words = words_same v r ram _ (ap (λ (k : RamState). k.words) fetched);
        ram = ram_exit _ _ c.args.at.index c.args.at.block c.args.at.offset c.args.at.stage h.control _ _ _ c.requires.control below fetched same;
        grown = λ s. grown_plain v r h c.run_word.new.hart ram.words c.args.at.index c.args.at.block c.args.at.offset c.args.at.stage c.requires.home c.requires.control plain c.in-Some-Some.image_word c.in-Some-Some.x c.role-role.result own_is held_is c.role-role.ensures ((c.run_word.ensures.ran runs).ran) (own_word v r h.machine span ram.words c.args.at.index c.args.at.block c.args.at.offset c.args.at.stage sound coherent c.requires.home h.control c.requires.control plain s) (sym c.requires.ready.running);
        stopped = tt;
        broke = λ s. tt;
        call = tt;
        unserved = tt;
        unmoved = λ e. absurd (cc);
        unwritten = λ e. absurd (cc);
        others_stay = λ e. absurd (cc);
        ram_failed = λ e. absurd (cc);
        kept = (ram_exit _ _ c.args.at.index c.args.at.block c.args.at.offset c.args.at.stage h.control _ _ _ c.requires.control below fetched same).kept;
        causes = none_named refl (λ e. cc) (λ e. cc);
        ram_cause = no_cause (ap (λ (k : RamState). k.faults) fetched) (λ e. cc);
      });
      executes = λ i b o stage p. same_at h c.run_word.new.hart c.args.rom.now ram.words (g.M.CacheRam.state c.fetch.new.self).words c.args.at.index c.args.at.block c.args.at.offset c.args.at.stage i b o stage _ _ _ (sym c.requires.control ∙ p.control) (ap (λ (k : RamState). k.words) fetched)
          (λ y is. executes_plain v r h c.run_word.new.hart ram.words c.args.at.index c.args.at.block c.args.at.offset c.args.at.stage c.requires.home c.requires.control plain c.in-Some-Some.image_word c.in-Some-Some.x c.role-role.result own_is held_is c.role-role.ensures (c.run_word.ensures.ran runs).ran y is);
    }
