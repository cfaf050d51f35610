use Rattle.std.proofs.Common.{◌≡◌, ◌<◌, ◌≤◌, ℕ, List, None, Some, is_some, true, sym, ap, ◌∙◌, inl, inr, refl, arith}
use Rattle.std.proofs.lemmas.Result.{err_from_is_err_and}
use Rattle.swi_outside.proofs.SourceLemmas.{given_more, read_first, read_last}
use Rattle.swi_outside.proofs.ToldLemmas.{as_told_stands}
use Rattle.swi_board.proofs.Running.{count_small, calls_small, falls}
use Rattle.swi_cached.proofs.Telling.{first_empty, first_kept, line_broken, nothing_told, quiet_broken, quiet_ended, told_broken, told_ended, told_more}
use Rattle.swi_cached.proofs.ToldOn.{on_more, on_some, on_start}
use Rattle.swi_cached.proofs.told.run_steps.Goals as goal

pub loop-telling-init : goal.loop-telling-init
loop-telling-init g c = on_start c.requires.first c.requires.fits c.requires.running c.requires.sound c.in-Some.last (first_empty c.args.telling c.in-Some.last (sym c.in-Some.is ∙ c.requires.empty))
    (first_kept c.args.telling c.in-Some.last (sym c.in-Some.is ∙ c.requires.empty))

pub tell-requires-clause-lines : goal.tell-requires-clause-lines
tell-requires-clause-lines g c = elim (on_some c.loop-telling.invariant).2.next [ inl same ↦ inl same | inr next ↦ inr next.0 ]

pub make_step-requires-clause-ready : goal.make_step-requires-clause-ready
make_step-requires-clause-ready g c =
    let more : c.loop-telling.board.hart.machine.steps < c.args.limit = omega (arith, c.loop-telling-test.true, c.steps.ensures) in
    let running : c.loop-telling.board.hart.machine.ending ≡ None = sym c.ending.ensures ∙ c.in-None.is in
    let point = (on_some c.loop-telling.invariant).2.stays.point in
    record {
      running = running;
      few = omega (arith, more, c.requires.limit);
      count = count_small point more running c.requires.limit c.requires.count;
      services = calls_small point more running c.requires.limit c.requires.services;
      fits = point.fits;
    }

pub make_step-requires-clause-sound : goal.make_step-requires-clause-sound
make_step-requires-clause-sound g c = (on_some c.loop-telling.invariant).2.stays.sound

pub loop-telling-preserved : goal.loop-telling-preserved
loop-telling-preserved g c =
    let more : c.loop-telling.board.hart.machine.steps < c.args.limit = omega (arith, c.loop-telling-test.true, c.steps.ensures) in
    let running : c.loop-telling.board.hart.machine.ending ≡ None = sym c.ending.ensures ∙ c.in-None.is in
    rw c.in-Ok.ensures.count (on_more c.loop-telling.invariant c.in_ok-make_step.ensures.gave (λ i mid rest was read.
    told_more c.requires.first (g.E.Sink.state c.tell.new.err) was g.met.S.CacheRom.laws more running c.in-Ok.ensures.word c.in-Ok.ensures.cause.quiet
    (record { wrote = c.in-Ok.ensures.line; noted = c.in-Ok.ensures.noted; rests = λ is. (let same = c.in-Ok.ensures.told is in (same.0, ap (λ (l : List ℕ). Some l) same.1)) }) refl (c.in_ok-make_step.ensures.stepped mid rest read)))

pub loop-telling-smaller : goal.loop-telling-smaller
loop-telling-smaller g c =
    let more : c.loop-telling.board.hart.machine.steps < c.args.limit = omega (arith, c.loop-telling-test.true, c.steps.ensures) in
    let running : c.loop-telling.board.hart.machine.ending ≡ None = sym c.ending.ensures ∙ c.in-None.is in
    let sound = (on_some c.loop-telling.invariant).2.stays.sound in
    falls more running (as_told_stands c.in_ok-make_step.ensures.gave (λ i rest read. (c.in_ok-make_step.ensures.stepped i rest read).grown sound))

pub returns-in_err-make_step-clause-gave : goal.returns-in_err-make_step-clause-gave
returns-in_err-make_step-clause-gave g c = given_more c.loop-telling.invariant.gave c.in_err-make_step.ensures.gave

pub returns-in_err-make_step-clause-ran : goal.returns-in_err-make_step-clause-ran
returns-in_err-make_step-clause-ran g c i rest read =
    let p = err_from_is_err_and c.from_residual-in_err-make_step.result c.from_residual-in_err-make_step.ensures.1 in
    let more : c.loop-telling.board.hart.machine.steps < c.args.limit = omega (arith, c.loop-telling-test.true, c.steps.ensures) in
    let running : c.loop-telling.board.hart.machine.ending ≡ None = sym c.ending.ensures ∙ c.in-None.is in
    let was = c.loop-telling.invariant.along i _ (read_first c.loop-telling.invariant.gave c.in_err-make_step.ensures.gave read) in
    rw (p.1, p.2) (told_broken c.requires.first {history' = Some c.tell.new.history} (g.E.Sink.state c.tell.new.err) was more running c.in-Ok.ensures.word c.in-Ok.ensures.cause.quiet
    (record { wrote = c.in-Ok.ensures.line; noted = c.in-Ok.ensures.noted; rests = λ is. (let same = c.in-Ok.ensures.told is in (same.0, ap (λ (l : List ℕ). Some l) same.1)) })
    (c.in_err-make_step.ensures.stepped _ rest (read_last c.loop-telling.invariant.gave c.in_err-make_step.ensures.gave read)))

pub returns-in-Err-clause-gave : goal.returns-in-Err-clause-gave
returns-in-Err-clause-gave g c = c.loop-telling.invariant.gave

pub returns-in-Err-clause-ran : goal.returns-in-Err-clause-ran
returns-in-Err-clause-ran g c i rest read =
    let more : c.loop-telling.board.hart.machine.steps < c.args.limit = omega (arith, c.loop-telling-test.true, c.steps.ensures) in
    let running : c.loop-telling.board.hart.machine.ending ≡ None = sym c.ending.ensures ∙ c.in-None.is in
    let e = c.in-Err.ensures in
    line_broken c.requires.first (g.E.Sink.state c.tell.new.err) (c.loop-telling.invariant.along i rest read) more running e.asked e.first e.front e.cause.later e.cause.failed

pub returns-in-Some-ending-clause-gave : goal.returns-in-Some-ending-clause-gave
returns-in-Some-ending-clause-gave g c = c.loop-telling.invariant.gave

pub returns-in-Some-ending-clause-ran : goal.returns-in-Some-ending-clause-ran
returns-in-Some-ending-clause-ran g c i rest read =
    let ended : is_some c.loop-telling.board.hart.machine.ending ≡ true = ap is_some (sym c.ending.ensures ∙ c.in-Some-ending.is) in
    told_ended c.requires.first (c.loop-telling.invariant.along i rest read) (inr ended)

pub returns-clause-gave : goal.returns-clause-gave
returns-clause-gave g c = c.loop-telling.invariant.gave

pub returns-clause-ran : goal.returns-clause-ran
returns-clause-ran g c i rest read =
    let least : c.args.limit ≤ c.loop-telling.board.hart.machine.steps = omega (arith, c.loop-telling-test.false, c.steps.ensures) in
    told_ended c.requires.first (c.loop-telling.invariant.along i rest read) (inl least)

pub returns-in_default-clause-gave : goal.returns-in_default-clause-gave
returns-in_default-clause-gave g c = c.in_ok-run.ensures.gave

pub returns-in_default-clause-ran : goal.returns-in_default-clause-ran
returns-in_default-clause-ran g c i rest read =
    quiet_ended c.requires.first c.args.telling (nothing_told c.args.telling (sym c.in_default.is ∙ c.requires.empty)) (c.in_ok-run.ensures.ran i rest read)

pub returns-in_err-run-clause-gave : goal.returns-in_err-run-clause-gave
returns-in_err-run-clause-gave g c = c.in_err-run.ensures.gave

pub returns-in_err-run-clause-ran : goal.returns-in_err-run-clause-ran
returns-in_err-run-clause-ran g c i rest read =
    let p = err_from_is_err_and c.from_residual.result c.from_residual.ensures.1 in
    rw (p.1, p.2) (quiet_broken c.requires.first c.args.telling (nothing_told c.args.telling (sym c.in_default.is ∙ c.requires.empty)) (c.in_err-run.ensures.ran i rest read))
