use Rattle.swi_share.specs.Sharing.{seen}
use Rattle.swi_share_command.proofs.SharedGuests.{HaveSome}
use Rattle.swi_share_command.proofs.command.have_ended.Given as goal

abbrev pub invariant-loop-g : goal.invariant-loop-g
invariant-loop-g l = HaveSome l.g (seen l.share).contexts
