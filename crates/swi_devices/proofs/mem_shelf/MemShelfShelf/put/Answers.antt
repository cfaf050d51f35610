use Rattle.swi_devices.proofs.mem_shelf.MemShelfShelf.put.Goals as goal

pub returns-then-fails-clause-failed : goal.returns-then-fails-clause-failed
returns-then-fails-clause-failed c = λ _. rw (← c.self.view_is) (c.count_call-fails.ensures.listed.0 c.if-fails.true)
