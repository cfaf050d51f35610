-- Links are no more than the words of the cache in which they stand.
use Rattle.std.proofs.Common.{ℕ, suc, zero, ◌+◌, ◌≤◌, List, length, Option, Some, None, arith}
use Rattle.swi_rom.specs.Record.{Link}
use Rattle.swi_rom.specs.Collected.{collected, add_link, length_with_all}
use Rattle.swi_slots.specs.Fifo as slots_fifo
use Rattle.swi_slots.specs.Slots as slots
use Rattle.swi_slots.specs.Service.{slots_service}
use Rattle.swi_ring.specs.Fifo as ring_fifo
use Rattle.swi_ring.specs.Ring as ring
use Rattle.swi_ring.specs.Service.{ring_service}
use Rattle.swi_cache_laws.specs.Writes.{WritesOnce}
use Rattle.swi_cache_laws.proofs.Serving.{slots_arriving, ring_arriving, writes_once}

added : (o : Option Link) (ls : List Link) → length (add_link o ls) ≤ length ls + 1
added None ls = omega arith
added (Some k) ls = omega (arith, length_with_all k ls)

collected_few : (f : ℕ → Option Link) (n : ℕ) → length (collected f n) ≤ n
unfolding collected
collected_few f zero = omega arith
collected_few f (suc n) = omega (arith, collected_few f n, added (f n) (collected f n))

slots_few : (s : slots.Slots) → length (slots.links_of s) ≤ slots.span_of (slots.setting_of s)
unfolding slots.links_of
slots_few s = collected_few (slots.link_at s) _

ring_few : (s : ring.Ring) → length (ring.links_of s) ≤ ring_fifo.span_of (ring.setting_of s)
unfolding ring.links_of
ring_few s = collected_few (ring.link_at s) _

pub slots_once : WritesOnce slots_service
slots_once s v t image = omega (arith, writes_once slots_fifo.arrived slots_arriving (slots.setting_of s) v (slots.kept_by s) t image, slots_few s)

pub ring_once : WritesOnce ring_service
ring_once s v t image = omega (arith, writes_once ring_fifo.arrived ring_arriving (ring.setting_of s) v (ring.kept_by s) t image, ring_few s)
