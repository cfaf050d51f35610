use Rattle.std.proofs.Common.{◌≡◌, ◌+◌, ◌-◌, ◌<◌, ◌≤◌, ◌/◌, length, arith, rules}
use Rattle.swi_report.specs.State.{numbered_row}
use Rattle.swi_outside.proofs.SinkLemmas.{written_part}
use Rattle.swi_report.proofs.Pieces.{numbered_none, numbered_more, numbered_broken}
use Rattle.swi_report.proofs.memory.write_rows.Goals as goal

pub loop-row-init : goal.loop-row-init
loop-row-init g c = record {
  from = search rules;
  written = numbered_none (numbered_row c.args.area.now.base c.args.area.now.bytes.now) (c.args.area.now.base / 16) _ (g.S.Sink.state c.args.sink.now).held (omega arith);
  still = search rules;
}

pub returns-in_err-write_row : goal.returns-in_err-write_row
returns-in_err-write_row g c =
    let from : c.args.area.now.base / 16 ≤ c.loop-row.row = c.loop-row.invariant.from in
    let within : c.loop-row.row - c.args.area.now.base / 16 < (c.args.area.now.base + length c.args.area.now.bytes.now + 15) / 16 - c.args.area.now.base / 16 =
    omega arith in
    written_part (g.S.Sink.state c.args.sink.now) (g.S.Sink.state c.loop-row.sink) (g.S.Sink.state c.write_row.new.sink) c.from_residual.result _ c.from_residual.ensures.0 c.loop-row.invariant.still c.in_err-write_row.ensures
    (numbered_broken (numbered_row c.args.area.now.base c.args.area.now.bytes.now) (c.args.area.now.base / 16) (c.loop-row.row - c.args.area.now.base / 16) c.loop-row.row _
    (g.S.Sink.state c.args.sink.now).held (g.S.Sink.state c.loop-row.sink).held (g.S.Sink.state c.write_row.new.sink).held (omega arith) within
    c.loop-row.invariant.written c.in_err-write_row.ensures.bytes)

pub loop-row-preserved : goal.loop-row-preserved
loop-row-preserved g c =
    let from : c.args.area.now.base / 16 ≤ c.loop-row.row = c.loop-row.invariant.from in
    let next : (c.loop-row.row + 1) - c.args.area.now.base / 16 ≡ (c.loop-row.row - c.args.area.now.base / 16) + 1 = omega arith in
    record {
      from = omega arith;
      written = rw next
          (numbered_more (numbered_row c.args.area.now.base c.args.area.now.bytes.now) (c.args.area.now.base / 16)
          (c.loop-row.row - c.args.area.now.base / 16) c.loop-row.row
          (g.S.Sink.state c.args.sink.now).held (g.S.Sink.state c.loop-row.sink).held (g.S.Sink.state c.write_row.new.sink).held (omega arith)
          c.loop-row.invariant.written c.in_ok-write_row.ensures.bytes);
      still = search rules;
    }
