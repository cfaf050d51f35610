use Rattle.std.proofs.Common.{slice_set, ap, ◌∙◌}
use Rattle.swi_devices.proofs.ZeroFilled.{set_written}
use Rattle.swi_devices.proofs.zeroed_words.ZeroedWords.set.Goals as goal

pub returns : goal.returns
returns c =
    set_written c.self.inside.count c.args.i c.args.w c.self.inside.front.items c.write_front.new.front.items c.write_front.ensures.items c.self.invariant.0 (rw (← c.self.view_is) at c.requires)
    ∙ ap (λ l. slice_set l c.args.i c.args.w) c.self.view_is
