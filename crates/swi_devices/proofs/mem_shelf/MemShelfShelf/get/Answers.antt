use Rattle.std.proofs.Common.{◌≡◌, None, inl, inr, arith}
use Rattle.std.proofs.lemmas.Grind.{common_steps}
use Rattle.swi_devices.proofs.mem_shelf.MemShelfShelf.get.Goals as goal
use Rattle.swi_devices.proofs.mem_shelf.MemShelfShelf.get.Goals.{in_default-via-in-Some+else-not-fails, in_default-via-in_default}

pub returns-in_default-clause-failed : goal.returns-in_default-clause-failed
returns-in_default-clause-failed c = elim c.in_default.branch [
  | in_default-via-in-Some+else-not-fails w ↦
      λ _. inl (rw (← c.self.view_is) (c.count_call-fails.ensures.listed.0 w.if-not-fails.false))
  | in_default-via-in_default w ↦
      let none : c.find.result ≡ None = grind (arith, common_steps) in
      λ _. inr (rw (← c.self.view_is, ← c.deref.ensures.value) (rw none at c.find.ensures))
]
