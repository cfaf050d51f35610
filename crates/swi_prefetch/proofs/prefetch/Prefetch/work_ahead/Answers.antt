use Rattle.std.proofs.Common.{◌≡◌, ◌<◌, ◌≤◌, ℕ, replicate, refl, subst, rules, arith}
use Rattle.swi_outside.specs.Devices.{Devices}
use Rattle.swi_rom.specs.Rams.{on_err}
use Rattle.swi_prefetch.specs.Events.{of_engine}
use Rattle.swi_prefetch.specs.Running.{CameOn, whole}
use Rattle.swi_prefetch.proofs.Rounds.{ahead_few, ahead_more, came_none, engine_came, no_devices, same_more, same_none}
use Rattle.swi_prefetch.proofs.prefetch.Prefetch.work_ahead.Goals as goal

pub loop-init : goal.loop-init
loop-init g c = record {
  came = λ d. came_none c.args.image.now (whole c.args.self.now.board (record { ram = g.M.CacheRam.state c.args.ram.now; devices = d })) c.requires.takes_turns;
  same = same_none c.args.image.now (g.M.CacheRam.state c.args.ram.now) c.args.self.now.board c.requires.takes_turns;
}

pub engine-requires-clause-takes_turns : goal.engine-requires-clause-takes_turns
engine-requires-clause-takes_turns g c = (c.loop.invariant.came no_devices).turns

pub engine-requires-clause-few : goal.engine-requires-clause-few
engine-requires-clause-few g c =
    let lt : c.loop.counter < c.args.rate = search rules in
    let le : c.loop.counter ≤ 1024 = omega (arith, lt, c.requires.rate) in
    ahead_few c.loop.counter c.args.self.now.board c.loop.self.board le (c.loop.invariant.came no_devices).words c.requires.few

pub returns-in_err-engine-clause-failed : goal.returns-in_err-engine-clause-failed
returns-in_err-engine-clause-failed g c =
    let lt : c.loop.counter < c.args.rate = search rules in
    on_err c.from_residual.result _ (λ d. record {
      made = c.loop.counter;
      fewer = lt;
      mid = whole c.loop.self.board (record { ram = g.M.CacheRam.state c.loop.ram; devices = d });
      came = c.loop.invariant.came d;
      same = c.loop.invariant.same;
      failed = c.in_err-engine.ensures.turned;
      devices = refl;
    })

pub loop-preserved : goal.loop-preserved
loop-preserved g c =
    let event = λ (d : Devices). engine_came c.args.image.now
    (whole c.loop.self.board (record { ram = g.M.CacheRam.state c.loop.ram; devices = d }))
    (whole c.engine.new.self.board (record { ram = g.M.CacheRam.state c.engine.new.ram; devices = d }))
    c.in_ok-engine.field-0 c.in_ok-engine.ensures.turned refl (c.in_ok-engine.ensures.leads d) in
    record {
      came = λ d. ahead_more c.args.image.now c.loop.counter
          (whole c.args.self.now.board (record { ram = g.M.CacheRam.state c.args.ram.now; devices = d }))
          (whole c.loop.self.board (record { ram = g.M.CacheRam.state c.loop.ram; devices = d }))
          (whole c.engine.new.self.board (record { ram = g.M.CacheRam.state c.engine.new.ram; devices = d }))
          (c.loop.invariant.came d) (event d).0;
      same = same_more c.args.self.now.board c.loop.self.board c.engine.new.self.board c.loop.invariant.same (event no_devices).1;
    }

pub returns-clause-came : goal.returns-clause-came
returns-clause-came g c = λ d.
    let done : c.loop.counter ≡ c.args.rate = search rules in
    subst (λ (n : ℕ). CameOn c.args.image.now (replicate n of_engine)
    (whole c.args.self.now.board (record { ram = g.M.CacheRam.state c.args.ram.now; devices = d }))
    (whole c.loop.self.board (record { ram = g.M.CacheRam.state c.loop.ram; devices = d }))) done (c.loop.invariant.came d)
