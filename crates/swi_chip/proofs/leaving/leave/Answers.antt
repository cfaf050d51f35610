use Rattle.std.proofs.Common.{◌∙◌, Bool, not, if◌then◌else◌, ap, arith, refl}
use Rattle.std.proofs.lemmas.Bool.{eq-eqb, ne_eqb}
use Rattle.swi_chip.specs.Leaving.{jalr_at, linked_by, value_at}
use Rattle.swi_chip.proofs.Stands.{room_is}
use Rattle.swi_chip.proofs.leaving.leave.Goals as goal

pub overflow_sub-chip : goal.overflow_sub-chip
overflow_sub-chip c = (let r = (room_is c.requires.some.stands).1 in omega (arith, r))

pub bounds-chip-at : goal.bounds-chip-at
bounds-chip-at c = (let r = (room_is c.requires.some.stands).0 in let lt = c.if-distance-chip.false in omega (arith, r, lt))

pub bounds-chip-at-2 : goal.bounds-chip-at-2
bounds-chip-at-2 c = (let r = (room_is c.requires.some.stands).0 in let lt = c.if-distance-chip.false in omega (arith, r, lt))

pub returns-then-distance-chip-clause-served : goal.returns-then-distance-chip-clause-served
returns-then-distance-chip-clause-served c = record {
  outside = λ _. (refl, refl);
  refuses = λ inside odd. absurd (let ge = c.if-distance-chip.true in omega (arith, inside, ge));
  enters = λ inside even. absurd (let ge = c.if-distance-chip.true in omega (arith, inside, ge));
}

pub returns-then-distance-chip-clause-links : goal.returns-then-distance-chip-clause-links
returns-then-distance-chip-clause-links c = record {
  outside = λ _. refl;
  refuses = λ _. refl;
  waits = λ inside even e. refl;
  links = λ inside even other. absurd (let ge = c.if-distance-chip.true in omega (arith, inside, ge));
}

pub returns-then-target-ne0-clause-served : goal.returns-then-target-ne0-clause-served
returns-then-target-ne0-clause-served c = record {
  outside = λ past. absurd (past (let lt = c.if-distance-chip.false in omega (arith, lt)));
  refuses = λ inside odd. (refl, refl);
  enters = λ inside even. absurd (c.if-target-ne0.true even);
}

pub returns-then-target-ne0-clause-links : goal.returns-then-target-ne0-clause-links
returns-then-target-ne0-clause-links c = record {
  outside = λ _. refl;
  refuses = λ _. refl;
  waits = λ inside even e. refl;
  links = λ inside even other. absurd (c.if-target-ne0.true even);
}

pub returns-clause-served : goal.returns-clause-served
returns-clause-served c = record {
  outside = λ past. absurd (past (let lt = c.if-distance-chip.false in omega (arith, lt)));
  refuses = λ inside odd. absurd (odd c.if-target-ne0.false);
  enters = λ inside even. c.enter-to.ensures.served;
}

pub returns-clause-links : goal.returns-clause-links
returns-clause-links c = record {
  outside = λ past. absurd (past (let lt = c.if-distance-chip.false in omega (arith, lt)));
  refuses = λ odd. absurd (odd c.if-target-ne0.false);
  waits = λ inside even e. c.link_register.ensures
      ∙ ap (λ (b : Bool). if not b then linked_by c.args.registers.now.x (jalr_at c.args.chip.now c.args.pc) (value_at c.args.chip.now c.args.pc) else c.args.registers.now.x) (eq-eqb c.enter-to.result 2 e);
  links = λ inside even other. c.link_register.ensures
      ∙ ap (λ (b : Bool). if not b then linked_by c.args.registers.now.x (jalr_at c.args.chip.now c.args.pc) (value_at c.args.chip.now c.args.pc) else c.args.registers.now.x) (ne_eqb c.enter-to.result 2 other);
}
