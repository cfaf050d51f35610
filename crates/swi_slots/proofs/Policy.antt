-- What an arrival leaves as it was, by the policy alone.
use Rattle.std.proofs.Common.{◌≡◌, ℕ, ◌+◌, ◌<◌, ◌≤◌, Bool, true, false, List, [], ◌∷◌, length, if◌then◌else◌, nat_lt, arith, refl, sym, ◌∙◌, ap}
use Rattle.std.proofs.lemmas.Bool.{and_parts}
use Rattle.swi_image.specs.Format.{ImageData}
use Rattle.swi_rom.specs.Service.{Setting}
use Rattle.swi_rom.specs.Record.{Record, Placement, Link, has_link, writes}
use Rattle.swi_rom.specs.Policy.{is_kept, is_placed, evicted, counted, more_services}
use Rattle.swi_slots.specs.Fifo.{appended, arrived}
use Rattle.swi_rom.specs.Collected.{has_filter}

-- the record after an arrival: no new link, the same number made, and no fewer words written
pub record Forward (r t : Record) : Type 0 where
  pub links_left : (k : Link) → has_link t.links k ≡ true → has_link r.links k ≡ true
  pub made : t.counts.links ≡ r.counts.links
  pub services : t.counts.services ≡ r.counts.services
  pub written : writes r ≤ writes t

evicted_forward : (r : Record) (es : List Placement) → Forward r (evicted r es)
unfolding evicted
evicted_forward r [] = record { links_left = λ k h. h; made = refl; services = refl; written = omega arith }
evicted_forward r (e ∷ es) = record {
  links_left = λ k h. (and_parts (has_link r.links k) (is_kept e k) (sym (has_filter (is_kept e) r.links k) ∙ h)).0;
  made = refl;
  services = refl;
  written = omega arith;
}

room_forward : (t : Bool) (r : Record) → Forward r (if t then r else evicted r r.placed)
room_forward true r = record { links_left = λ k h. h; made = refl; services = refl; written = omega arith }
room_forward false r = evicted_forward r r.placed

appended_forward : (by : Setting) (v : ImageData) (r m : Record) (c : ℕ) → Forward r m → Forward r (appended by v m c)
unfolding appended
appended_forward by v r m c f = record { links_left = f.links_left; made = f.made; services = f.services; written = omega (arith, f.written) }

arrived_in : (t : Bool) (by : Setting) (v : ImageData) (r : Record) (c : ℕ) →
    Forward r (if t then r else appended by v (if nat_lt (length r.placed) by.slots then r else evicted r r.placed) c)
arrived_in true by v r c = record { links_left = λ k h. h; made = refl; services = refl; written = omega arith }
arrived_in false by v r c = appended_forward by v r _ c (room_forward (nat_lt (length r.placed) by.slots) r)

pub arrived_forward : (by : Setting) (v : ImageData) (r : Record) (c : ℕ) → Forward r (arrived by v r c)
unfolding arrived
arrived_forward by v r c = arrived_in (is_placed r c) by v r c

pub counted_forward : (by : Setting) (v : ImageData) (r : Record) (c : ℕ) → 0 < length r.placed →
    ((k : Link) → has_link (arrived by v (counted r) c).links k ≡ true → has_link r.links k ≡ true)
    × ((arrived by v (counted r) c).counts.links ≡ r.counts.links) × ((arrived by v (counted r) c).counts.services ≡ r.counts.services + 1) × (writes r ≤ writes (arrived by v (counted r) c))
unfolding counted
counted_forward by v r c some =
    let f = arrived_forward by v (counted r) c in
    (f.links_left, f.made, f.services ∙ ap (λ (n : ℕ). r.counts.services + n) (more r.placed some), f.written)
  where
    more : (es : List Placement) → 0 < length es → more_services es ≡ 1
    more [] h = absurd (omega arith)
    more (e ∷ es) h = refl
