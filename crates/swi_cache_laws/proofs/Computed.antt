-- The example, computed.
use Rattle.std.proofs.Common.{arith, refl, inl, inr}
use Rattle.swi_image.specs.Place.{place_of, block_at}
use Rattle.swi_rom.specs.Record.{exit_among}
use Rattle.swi_rom.specs.Policy.{served_by, went, counted, is_placed, evicted, is_kept, is_undone, linked, first_of, with_link}
use Rattle.swi_slots.specs.Fifo.{arrived, appended}
use Rattle.swi_cache_laws.specs.Example.{MissesAll, HasAll}

pub misses_all : MissesAll
unfolding place_of served_by went counted is_placed evicted is_kept is_undone linked first_of with_link exit_among arrived appended
misses_all = record {
  entered = refl;
  misses = refl;
  policy = (record { few = omega arith; has = inl refl; kept = λ b h. inr h }, (record { few = omega arith; has = inr (inl refl); kept = λ b h. elim h [ inl z ↦ inl (inl z) | inr r ↦ inr r ] }, (record { few = omega arith; has = inr (inl refl); kept = λ b h. elim h [ inl z ↦ inl (inl z) | inr r ↦ inr r ] }, (record { few = omega arith; has = inl refl; kept = λ b h. inl h }, (record { few = omega arith; has = inl refl; kept = λ b h. elim h [ inl one ↦ inr (inl one) | inr r ↦ inl (inr r) ] }, (record { few = omega arith; has = inr (inl refl); kept = λ b h. inl h }, tt))))));
  copies = refl;
}

pub has_all : HasAll
unfolding place_of block_at served_by went counted is_placed evicted is_kept is_undone linked first_of with_link exit_among arrived appended
has_all = record {
  words = refl;
  exits = refl;
  program = ((inl refl, record { inside = omega arith; leaves = refl; direct = refl }, refl), ((inl refl, record { inside = omega arith; leaves = refl; direct = refl }, refl), ((inl refl, record { inside = omega arith; leaves = refl; direct = refl }, refl), ((inl refl, record { inside = omega arith; leaves = refl; direct = refl }, refl), ((inl refl, record { inside = omega arith; leaves = refl; direct = refl }, refl), tt)))));
  services = refl;
  writes = refl;
}
