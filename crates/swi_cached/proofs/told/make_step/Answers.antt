use Rattle.swi_cached.proofs.told.make_step.Goals as goal

pub returns-clause-stepped : goal.returns-clause-stepped
returns-clause-stepped g c i rest read = rw (← c.board.view_is) (c.quick_step.ensures.stepped i rest read)
