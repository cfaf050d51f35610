use Rattle.swi_devices.proofs.Logs.{noted_piece}
use Rattle.swi_devices.proofs.real.RealSinkSink.write.Goals as goal

pub returns-clause-written : goal.returns-clause-written
returns-clause-written g c = rw (← c.self.view_is, c.count_failure.ensures.handed) (record {
  bytes = noted_piece c.write_whole.result c.write_whole.ensures.handed;
  cause = c.count_failure.ensures.cause;
})
