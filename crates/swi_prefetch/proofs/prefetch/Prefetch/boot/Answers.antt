use Rattle.std.proofs.Common.{refl, ap, ◌∙◌}
use Rattle.swi_calls.specs.declared.machine.Machine.{Machine}
use Rattle.swi_hart.specs.MachineStep.{BoardWithRam}
use Rattle.swi_calls.specs.Flat.{machine_of}
use Rattle.swi_rom.specs.Record.{indirect}
use Rattle.swi_engine.specs.Engine.{beside}
use Rattle.swi_engine.specs.State.{EngineData, kept_by, setting_of}
use Rattle.swi_prefetch.proofs.Booting.{booted_on, booted_steps, booted_words}
use Rattle.swi_prefetch.proofs.Beginning.{begins}
use Rattle.swi_prefetch.proofs.prefetch.Prefetch.boot.Goals as goal

pub returns-in-Ok-boot-clause-booted : goal.returns-in-Ok-boot-clause-booted
returns-in-Ok-boot-clause-booted g c =
    let q = c.in-Ok-boot.ensures in
    booted_on c.args.image.now (machine_of c.args.p.now c.args.l.now c.args.log) c.args.cache_bytes c.in-Ok.rom c.args.p.now.entry (g.M.CacheRam.state c.args.ram.now)
    (record { hart = c.in-Ok-boot.board.hart; rom = c.in-Ok-boot.board.rom; ram = g.M.CacheRam.state c.boot.new.ram }) c.in-Ok.ensures.empty refl refl q.entered q.count q.policy

pub returns-in-Ok-boot-clause-takes_turns : goal.returns-in-Ok-boot-clause-takes_turns
returns-in-Ok-boot-clause-takes_turns g c =
    let q = c.in-Ok-boot.ensures in
    (booted_on c.args.image.now (machine_of c.args.p.now c.args.l.now c.args.log) c.args.cache_bytes c.in-Ok.rom c.args.p.now.entry (g.M.CacheRam.state c.args.ram.now)
    (record { hart = c.in-Ok-boot.board.hart; rom = c.in-Ok-boot.board.rom; ram = g.M.CacheRam.state c.boot.new.ram }) c.in-Ok.ensures.empty refl refl q.entered q.count q.policy).beside

pub returns-in-Ok-boot-clause-begins : goal.returns-in-Ok-boot-clause-begins
returns-in-Ok-boot-clause-begins g c = λ d any left input.
    let q = c.in-Ok-boot.ensures in
    let on =
    booted_on c.args.image.now (machine_of c.args.p.now c.args.l.now c.args.log) c.args.cache_bytes c.in-Ok.rom c.args.p.now.entry (g.M.CacheRam.state c.args.ram.now)
    (record { hart = c.in-Ok-boot.board.hart; rom = c.in-Ok-boot.board.rom; ram = g.M.CacheRam.state c.boot.new.ram }) c.in-Ok.ensures.empty refl refl q.entered q.count q.policy in
    begins c.args.image.now (machine_of c.args.p.now c.args.l.now c.args.log) c.args.cache_bytes (g.M.CacheRam.state c.args.ram.now)
    (record { hart = c.in-Ok-boot.board.hart; rom = c.in-Ok-boot.board.rom; ram = g.M.CacheRam.state c.boot.new.ram }) on
    (q.policy ∙ ap (λ (e : EngineData). beside (setting_of e) (kept_by e) c.args.image.now (indirect c.args.p.now.entry)) c.in-Ok.ensures.empty) d any left input

pub returns-in-Ok-boot-clause-steps : goal.returns-in-Ok-boot-clause-steps
returns-in-Ok-boot-clause-steps g c = λ n.
    let q = c.in-Ok-boot.ensures in
    let b : BoardWithRam EngineData = record { hart = c.in-Ok-boot.board.hart; rom = c.in-Ok-boot.board.rom; ram = g.M.CacheRam.state c.boot.new.ram } in
    let m : Machine = machine_of c.args.p.now c.args.l.now c.args.log in
    let on = booted_on c.args.image.now m c.args.cache_bytes c.in-Ok.rom c.args.p.now.entry (g.M.CacheRam.state c.args.ram.now) b c.in-Ok.ensures.empty refl refl q.entered q.count q.policy in
    booted_steps c.args.image.now m c.args.cache_bytes (g.M.CacheRam.state c.args.ram.now) b refl on n

pub returns-in-Ok-boot-clause-words : goal.returns-in-Ok-boot-clause-words
returns-in-Ok-boot-clause-words g c = λ n.
    let q = c.in-Ok-boot.ensures in
    let b : BoardWithRam EngineData = record { hart = c.in-Ok-boot.board.hart; rom = c.in-Ok-boot.board.rom; ram = g.M.CacheRam.state c.boot.new.ram } in
    let m : Machine = machine_of c.args.p.now c.args.l.now c.args.log in
    let on = booted_on c.args.image.now m c.args.cache_bytes c.in-Ok.rom c.args.p.now.entry (g.M.CacheRam.state c.args.ram.now) b c.in-Ok.ensures.empty refl refl q.entered q.count q.policy in
    booted_words c.args.image.now m c.args.cache_bytes (g.M.CacheRam.state c.args.ram.now) b on n
