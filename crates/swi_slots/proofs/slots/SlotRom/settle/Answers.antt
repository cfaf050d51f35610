use Rattle.std.proofs.Common.{ℕ, ◌+◌, List, max, sym, subst, ◌∙◌, slice_set}
use Rattle.swi_slots.specs.Slots.{Slots}
use Rattle.swi_slots.proofs.Shapes.{settled_as, filled_more, next_few}
use Rattle.swi_slots.proofs.slots.SlotRom.settle.Goals as goal

pub invariant_of-self : goal.invariant_of-self
invariant_of-self g c =
    let s = c.self.inside in
    let old : Slots = record { slots = s.slots; size = s.size; next = s.next; filled = s.filled; programs = s.programs; turn = s.turn; blocks = s.blocks.items; lengths = s.lengths.items; targets = g.T.LinkTable.targets s.table; counts = s.counts } in (
      settled_as old _ c.key-key.result c.args.length _ _ c.self.invariant.0 c.settle.ensures.targets c.following-self-inside.ensures c.min-self-inside.ensures,
      c.settle.ensures.slots ∙ c.self.invariant.1,
      c.settle.ensures.size ∙ c.self.invariant.2,
      c.settle.ensures.blocks ∙ c.self.invariant.3,
      subst (λ (n : ℕ). g.T.LinkTable.knows c.settle.new.self n (slice_set s.blocks.items s.next c.key-key.result)) (filled_more old c.self.invariant.0 ∙ sym c.min-self-inside.ensures)
          (subst (λ (bs : List ℕ). g.T.LinkTable.knows c.settle.new.self (max s.filled (s.next + 1)) (slice_set bs s.next c.key-key.result)) c.deref.ensures.value c.settle.ensures.knows),
      c.self.invariant.5,
    )

pub settle-requires-clause-few : goal.settle-requires-clause-few
settle-requires-clause-few g c =
    let s = c.self.inside in
    let old : Slots = record { slots = s.slots; size = s.size; next = s.next; filled = s.filled; programs = s.programs; turn = s.turn; blocks = s.blocks.items; lengths = s.lengths.items; targets = g.T.LinkTable.targets s.table; counts = s.counts } in
    next_few old c.self.invariant.0
