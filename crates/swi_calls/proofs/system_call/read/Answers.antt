use Rattle.std.proofs.Common.{◌≡◌, true, sym, ◌∙◌, rules}
use Rattle.swi_memory.specs.declared.right.Right.TheVariants.{Write}
use Rattle.swi_memory.specs.Bus.{holds}
use Rattle.swi_outside.proofs.SourceLemmas.{rest_is}
use Rattle.swi_calls.proofs.MovesLemmas.{ReadDone, read_done}
use Rattle.swi_calls.proofs.ServeLemmas.{unread_buffer, unread_descriptor}
use Rattle.swi_calls.proofs.system_call.read.Goals as goal

pub returns-then-request-ne0-clause-input : goal.returns-then-request-ne0-clause-input
returns-then-request-ne0-clause-input g c input rest r = rest_is r ∙ sym (unread_descriptor c.args.request.first c.args.request.second c.args.request.third c.args.bus.now input (search rules))

pub returns-then-not-writable-clause-input : goal.returns-then-not-writable-clause-input
returns-then-not-writable-clause-input g c input rest r = rest_is r ∙ sym (unread_buffer c.args.request.first c.args.request.second c.args.request.third c.args.bus.now input (search rules))

-- the read that was made
pub returns-in-Ok-clause-answered : goal.returns-in-Ok-clause-answered
returns-in-Ok-clause-answered g c input rest r =
    sym (read_done c.args.request.first c.args.request.second c.args.request.third c.in-Ok.count c.args.bus.now c.read_into.new.bus _ _ input rest (search rules) (search rules)
    c.in-Ok.ensures.reads c.in-Ok.ensures.within c.in-Ok.ensures.at_end r).answer

pub returns-in-Ok-clause-bus : goal.returns-in-Ok-clause-bus
returns-in-Ok-clause-bus g c input rest r =
    sym (read_done c.args.request.first c.args.request.second c.args.request.third c.in-Ok.count c.args.bus.now c.read_into.new.bus _ _ input rest (search rules) (search rules)
    c.in-Ok.ensures.reads c.in-Ok.ensures.within c.in-Ok.ensures.at_end r).bus_is

pub returns-in-Ok-clause-input : goal.returns-in-Ok-clause-input
returns-in-Ok-clause-input g c input rest r =
    sym (read_done c.args.request.first c.args.request.second c.args.request.third c.in-Ok.count c.args.bus.now c.read_into.new.bus _ _ input rest (search rules) (search rules)
    c.in-Ok.ensures.reads c.in-Ok.ensures.within c.in-Ok.ensures.at_end r).rest_is
