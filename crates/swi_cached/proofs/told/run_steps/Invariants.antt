use Rattle.std.proofs.Common.{◌*◌, ◌+◌, ◌-◌, Some}
use Rattle.swi_hart.specs.Bounds.{most}
use Rattle.swi_cached.proofs.ToldOn.{ToldAlongOn}
use Rattle.swi_cached.proofs.told.run_steps.Given as goal

abbrev pub invariant-loop-telling : goal.invariant-loop-telling
invariant-loop-telling g l = ToldAlongOn g.S.CacheRom.service l.image l.telling l.limit l.lines
    (record {
      hart = l.fn.board.hart;
      rom = l.fn.board.rom;
      ram = g.R.CacheRam.state l.fn.ram;
      devices = record { input = g.I.Source.state l.fn.input; output = g.O.Sink.state l.fn.out; error = g.E.Sink.state l.fn.err };
    })
    (record {
      hart = l.board.hart;
      rom = l.board.rom;
      ram = g.R.CacheRam.state l.ram;
      devices = record { input = g.I.Source.state l.input; output = g.O.Sink.state l.out; error = g.E.Sink.state l.err };
    }) (Some l.last)

abbrev pub decreases-loop-telling : goal.decreases-loop-telling
decreases-loop-telling g l = 3 * l.limit + 5 - most l.image l.board.hart.machine l.board.hart.control
