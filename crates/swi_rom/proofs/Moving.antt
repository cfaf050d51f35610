-- Which words change, where a record's counts are no part of it.
use Rattle.std.proofs.Common.{◌≡◌, ℕ, sym, ◌∙◌, ap, subst, inl, inr, List}
use Rattle.swi_image.specs.Format.{ImageData}
use Rattle.swi_outside.specs.CacheRam.{RamState}
use Rattle.swi_rom.specs.Record.{Record, Placement, Link, Has, Placed, has_link}
use Rattle.swi_rom.specs.Served.{WordsMove}

-- of a record with the same placed blocks and links just the same words have changed
pub moves_from : (v : ImageData) (old r new : Record) (before after : RamState) → old.placed ≡ r.placed → old.links ≡ r.links → old.turn ≡ r.turn → WordsMove v old new before after → WordsMove v r new before after
unfolding Placed
moves_from v old r new before after e f g w = record {
  changes = λ i. elim (w.changes i) [
    | inl same ↦ inl same
    | inr c ↦ elim c [
      | inl n ↦ inr (inl (record {
        block = n.block;
        first = n.first;
        offset = n.offset;
        stands = n.stands;
        is_new = λ h. n.is_new (was_has old r n.block n.first e g h);
        inside = n.inside;
        index = n.index;
      }))
      | inr l ↦ inr (inr (record {
        link = l.link;
        first = l.first;
        stood = elim l.stood [ inl h ↦ inl (subst (λ (es : List Placement). Has es (record { program = l.link.program; block = l.link.block; first = l.first })) e h) | inr h ↦ inr h ];
        changed = λ same. l.changed (ap (λ (ls : List Link). has_link ls l.link) f ∙ same);
        index = l.index;
      }))
    ]
  ];
  restored = λ k f' was is h h'. w.restored k f' (ap (λ (ls : List Link). has_link ls k) f ∙ was) is
      (subst (λ (es : List Placement). Has es (record { program = k.program; block = k.block; first = f' })) (sym e) h) h';
}
  where
    was_has : (old r : Record) (b g : ℕ) → old.placed ≡ r.placed → old.turn ≡ r.turn → Has r.placed (record { program = r.turn; block = b; first = g }) → Has old.placed (record { program = old.turn; block = b; first = g })
    was_has old r b g e t h = subst (λ (p : ℕ). Has old.placed (record { program = p; block = b; first = g })) (sym t) (subst (λ (es : List Placement). Has es (record { program = r.turn; block = b; first = g })) (sym e) h)
