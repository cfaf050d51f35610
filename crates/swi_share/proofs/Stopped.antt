-- What stands where a device broke off an event of one of several programs.
use Rattle.swi_share.specs.Cuts.{CutsByRam, CutsBySink}
use Rattle.swi_share.specs.Sharing.{devices_with, seen}
use Rattle.swi_share.proofs.Breaking.{ram_cut, sink_broke}

pub sink_stopped : CutsBySink
sink_stopped g before after s =
    sink_broke (seen before.share).setting (record (seen before.share).kept { turn = g }) s.context s.running (devices_with before s.context.input) (devices_with after s.process.input.left) s.broke

pub ram_stopped : CutsByRam
ram_stopped g before after s =
    ram_cut (seen before.share).setting (record (seen before.share).kept { turn = g }) s.context s.running (devices_with before s.context.input) (devices_with after s.process.input.left) s.broke
