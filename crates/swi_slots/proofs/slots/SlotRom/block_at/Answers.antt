use Rattle.std.proofs.Common.{ℕ, ◌/◌, ap, arith, ◌∙◌}
use Rattle.swi_slots.proofs.Calls.{slot_within, slot_read}
use Rattle.swi_slots.proofs.slots.SlotRom.block_at.Goals as goal

pub index-requires : goal.index-requires
index-requires g c =
    let slot = c.divide-slot.ensures.quotient ∙ ap (λ (n : ℕ). c.args.at / n) c.self.invariant.5 in
    omega (arith, slot_within _ _ c.args.at _ c.self.view_is c.self.invariant.0 c.requires slot)

pub returns : goal.returns
returns g c =
    let slot = c.divide-slot.ensures.quotient ∙ ap (λ (n : ℕ). c.args.at / n) c.self.invariant.5 in
    slot_read _ _ c.args.at _ _ c.self.view_is c.self.invariant.0 c.requires slot c.index.ensures
