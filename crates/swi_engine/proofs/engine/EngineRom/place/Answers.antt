use Rattle.std.proofs.Common.{◌≡◌, ◌<◌, ℕ, List, length, arith, ap, subst, sym, ◌∙◌, inl, inr, [], ◌∷◌, ◌++◌, slice_set, slice_index}
use Rattle.std.proofs.lemmas.List.{length-append, length-set}
use Rattle.swi_rom.specs.Record.{Has}
use Rattle.swi_engine.specs.State.{EngineData}
use Rattle.swi_engine.specs.Sound.{Homed}
use Rattle.swi_engine.proofs.Shapes.{has_last, placed_homed}
use Rattle.swi_engine.proofs.engine.EngineRom.place.Goals as goal

pub invariant_of-self : goal.invariant_of-self
invariant_of-self c =
    let s = c.self.invariant.0 in
    let items : c.push_back.new.self.items ≡ c.self.inside.queue.items ++ c.args.slot ∷ [] = c.in-Ok.ensures.items in
    let long : length c.self.inside.queue.items ≡ length c.args.self.now.queue = ap (λ (e : EngineData). length e.queue) c.self.view_is in
    let slots : c.self.inside.slots ≡ c.args.self.now.slots = ap (λ (e : EngineData). e.slots) c.self.view_is in
    let known : c.args.block < length c.self.inside.homes.items = omega (arith, c.requires.block, ap (λ (e : EngineData). length e.homes) c.self.view_is) in (
      record {
        slots_some = s.slots_some;
        size_least = s.size_least;
        size_most = s.size_most;
        words_few = s.words_few;
        used_most = omega (arith, c.requires.room, long, slots, ap (λ (xs : List ℕ). length xs) items, length-append c.self.inside.queue.items (c.args.slot ∷ []));
        blocks_long = length-set _ _ _ ∙ s.blocks_long;
        lengths_long = length-set _ _ _ ∙ s.lengths_long;
        below = λ n h. elim (has_last c.self.inside.queue.items c.args.slot n (subst (λ (xs : List ℕ). Has xs n) items h)) [ inl old ↦ s.below n old | inr e ↦ omega (arith, e, slots, c.requires.slot) ];
        homed = subst (λ (q : List ℕ). Homed c.self.inside.slots q (slice_set c.self.inside.blocks.items c.args.slot c.args.block) (slice_set c.self.inside.homes.items c.args.block c.args.slot)) (sym items)
            (placed_homed c.self.inside.slots c.self.inside.queue.items c.self.inside.blocks.items c.self.inside.homes.items c.args.slot c.args.block s.homed
            (λ h. c.requires.free (subst (λ (e : EngineData). Has e.queue c.args.slot) c.self.view_is h)) (omega (arith, s.blocks_long, slots, c.requires.slot)) known
            (λ m h is. c.requires.absent m (subst (λ (e : EngineData). Has e.queue m) c.self.view_is h) (subst (λ (e : EngineData). slice_index e.blocks m ≡ c.args.block) c.self.view_is is)));
      },
      omega (arith, c.self.invariant.1, c.push_back.ensures.capacity),
      c.self.invariant.2,
      omega (arith, c.self.invariant.3, length-set c.self.inside.homes.items c.args.block c.args.slot),
    )
