-- The policy of a service: what a transfer of control does to the record. Policies differ in how a block arrives and in where a
-- link is put in the list; all else is the same, and its laws are proved once.
use Rattle.std.specs.Prelude.{◌≡◌, ◌≤◌, ℕ, suc, zero, ◌+◌, ◌==◌, ◌&&◌, ◌||◌, Bool, true, false, not, List, [], ◌∷◌, length, filter, Option, Some, None, if◌then◌else◌, nat_lt}
use Rattle.std.specs.List.{list_any}
use Rattle.swi_image.specs.Format.{ImageData}
use Rattle.swi_image.specs.Place.{place_of}
use Rattle.swi_rom.specs.Record.{Record, Placement, Link, Transfer, direct, indirect, target_of, is_linked, reaches, writes}
use Rattle.swi_rom.specs.Service.{Setting}
use Rattle.std.proofs.Common.{arith, refl}

-- the link is from the block, or its target is in it
abbrev pub is_from : Placement → Link → Bool
is_from e l = l.program == e.program && l.block == e.block

abbrev pub leads_to : Placement → Link → Bool
leads_to e l = l.program == e.program && l.into == e.block

-- the link is undone, or it stays, when the block is evicted
unfoldable pub is_undone : Placement → Link → Bool
is_undone e l = not (is_from e l) && leads_to e l

unfoldable pub is_kept : Placement → Link → Bool
is_kept e l = not (is_from e l || leads_to e l)

-- the oldest block leaves, with the links from it and to it
unfoldable pub evicted : Record → List Placement → Record
evicted r [] = r
evicted r (e ∷ es) = record r {
  placed = es;
  links = filter (is_kept e) r.links;
  counts = record r.counts {
    evictions = r.counts.evictions + 1;
    unlinks = r.counts.unlinks + length (filter (is_undone e) r.links);
  };
}

unfoldable pub is_placed : Record → ℕ → Bool
is_placed r b = list_any (λ e. e.program == r.turn && e.block == b) r.placed

-- one more service, but for the boot, when no block is placed
abbrev pub more_service : ℕ → ℕ
more_service zero = 0
more_service (suc placed) = 1

abbrev pub more_services : List Placement → ℕ
more_services es = more_service (length es)

unfoldable pub counted : Record → Record
counted r = record r { counts = record r.counts { services = r.counts.services + more_services r.placed } }

-- the first word of a placed block
abbrev pub first_in : List Placement → ℕ → ℕ → ℕ
first_in [] p b = 0
first_in (e ∷ es) p b = if e.program == p && e.block == b then e.first else first_in es p b

unfoldable pub first_of : Record → ℕ → ℕ
first_of r b = first_in r.placed r.turn b

-- where a new link is put among the links
abbrev pub Putting : Type 0
Putting = Link → List Link → List Link

-- in ascending order, by program, then block, then offset, then the block to which they lead
abbrev pub link_before : Link → Link → Bool
link_before k l = nat_lt k.program l.program || (k.program == l.program && (nat_lt k.block l.block || (k.block == l.block && (nat_lt k.offset l.offset || (k.offset == l.offset && nat_lt k.into l.into)))))

unfoldable pub with_link : Link → List Link → List Link
with_link k [] = k ∷ []
with_link k (l ∷ ls) = if link_before k l then k ∷ l ∷ ls else l ∷ with_link k ls

-- the exit at (b, o) is linked to the target's place p, where its block still stands and a JAL reaches
unfoldable pub linked : Putting → Record → ℕ → ℕ → ℕ × ℕ → Record
linked put r b o p =
    if is_placed r b && reaches (first_of r b + o) (first_of r p.0 + p.1)
    then record r {
      links = put (record { program = r.turn; block = b; offset = o; into = p.0 }) r.links;
      counts = record r.counts { links = r.counts.links + 1 };
    }
    else r

abbrev pub linked_over : Putting → Record → Transfer → ℕ × ℕ → Record
linked_over put r (direct b o t) p = linked put r b o p
linked_over put r (indirect t) p = r

-- how a block comes to stand in the ram: nothing changes where it is placed
abbrev pub Arrival : Type 0
Arrival = Setting → ImageData → Record → ℕ → Record

-- a transfer to a place, or to none
unfoldable pub went : Arrival → Putting → Setting → ImageData → Record → Transfer → Option (ℕ × ℕ) → Record
went arrive put by v r t None = r
went arrive put by v r t (Some p) = linked_over put (arrive by v (counted r) p.0) t p

-- a direct exit that is linked
abbrev pub is_over_link : Record → Transfer → Bool
is_over_link r (direct b o t) = is_linked r b o
is_over_link r (indirect t) = false

-- Over a link, and to no place, nothing changes. Else a service is counted, the target's block arrives, and the exit is linked.
unfoldable pub served_by : Arrival → Putting → Setting → Record → ImageData → Transfer → Record
served_by arrive put by r v t = if is_over_link r t then r else went arrive put by v r t (place_of v (target_of t))

-- an arrival counts no service, and takes back nothing that was written
pub record IsArrival (arrive : Arrival) : Type 0 where
  pub services_stay : (by : Setting) (v : ImageData) (r : Record) (c : ℕ) → (arrive by v r c).counts.services ≡ r.counts.services
  pub writes_rise : (by : Setting) (v : ImageData) (r : Record) (c : ℕ) → writes r ≤ writes (arrive by v r c)

-- a number of the record that no arrival lowers, and that counting a service and linking leave alone
pub record Rises (arrive : Arrival) (put : Putting) (by : Setting) (f : Record → ℕ) : Type 0 where
  pub counting : (r : Record) → f (counted r) ≡ f r
  pub linking : (r : Record) (b o : ℕ) (p : ℕ × ℕ) → f (linked put r b o p) ≡ f r
  pub arriving : (v : ImageData) (r : Record) (c : ℕ) → f r ≤ f (arrive by v r c)

-- over a link nothing changes
pub served_over_link : (arrive : Arrival) (put : Putting) (by : Setting) (r : Record) (v : ImageData) (b o t : ℕ) → is_linked r b o ≡ true →
    served_by arrive put by r v (direct b o t) ≡ r
unfolding served_by
served_over_link arrive put by r v b o t over = rw over refl

-- of a transfer to an address where no text word stands nothing is kept
pub served_outside : (arrive : Arrival) (put : Putting) (by : Setting) (r : Record) (v : ImageData) (t : Transfer) → place_of v (target_of t) ≡ None →
    served_by arrive put by r v t ≡ r
unfolding served_by went
served_outside arrive put by r v t nowhere = rw nowhere (grind arith)

counted_more : (r : Record) (es : List Placement) → r.counts.services + more_services es ≤ r.counts.services + 1
counted_more r [] = omega arith
counted_more r (e ∷ es) = omega arith

pub evicted_services : (r : Record) (es : List Placement) → (evicted r es).counts.services ≡ r.counts.services
unfolding evicted
evicted_services r [] = refl
evicted_services r (e ∷ es) = refl

pub evicted_writes : (r : Record) (es : List Placement) → writes r ≤ writes (evicted r es)
unfolding evicted
evicted_writes r [] = omega arith
evicted_writes r (e ∷ es) = omega arith

pub evicted_misses : (r : Record) (es : List Placement) → (evicted r es).counts.misses ≡ r.counts.misses
unfolding evicted
evicted_misses r [] = refl
evicted_misses r (e ∷ es) = refl

pub evicted_copied : (r : Record) (es : List Placement) → (evicted r es).counts.copied ≡ r.counts.copied
unfolding evicted
evicted_copied r [] = refl
evicted_copied r (e ∷ es) = refl

linked_services : (put : Putting) (r : Record) (t : Transfer) (p : ℕ × ℕ) → (linked_over put r t p).counts.services ≡ r.counts.services
unfolding linked
linked_services put r (direct b o t) p = grind arith
linked_services put r (indirect t) p = refl

linked_writes : (put : Putting) (r : Record) (t : Transfer) (p : ℕ × ℕ) → writes r ≤ writes (linked_over put r t p)
unfolding linked
linked_writes put r (direct b o t) p = grind arith
linked_writes put r (indirect t) p = omega arith

-- linking leaves misses and copied words alone
pub linked_misses : (put : Putting) (r : Record) (b o : ℕ) (p : ℕ × ℕ) → (linked put r b o p).counts.misses ≡ r.counts.misses
unfolding linked
linked_misses put r b o p = grind arith

pub linked_copied : (put : Putting) (r : Record) (b o : ℕ) (p : ℕ × ℕ) → (linked put r b o p).counts.copied ≡ r.counts.copied
unfolding linked
linked_copied put r b o p = grind arith

-- and so does counting
pub counted_misses : (r : Record) → (counted r).counts.misses ≡ r.counts.misses
unfolding counted
counted_misses r = refl

pub counted_copied : (r : Record) → (counted r).counts.copied ≡ r.counts.copied
unfolding counted
counted_copied r = refl

went_services : (arrive : Arrival) (put : Putting) (by : Setting) → IsArrival arrive → (v : ImageData) (r : Record) (t : Transfer) (p : Option (ℕ × ℕ)) →
    (went arrive put by v r t p).counts.services ≤ r.counts.services + 1
unfolding went counted
went_services arrive put by is v r t None = omega arith
went_services arrive put by is v r t (Some p) =
    omega (arith, linked_services put (arrive by v (counted r) p.0) t p, is.services_stay by v (counted r) p.0, counted_more r r.placed)

-- one transfer is at most one service
pub served_one : (arrive : Arrival) (put : Putting) (by : Setting) → IsArrival arrive → (r : Record) (v : ImageData) (t : Transfer) →
    (served_by arrive put by r v t).counts.services ≤ r.counts.services + 1
unfolding served_by
served_one arrive put by is r v t = at (is_over_link r t)
  where
    at : (over : Bool) → (if over then r else went arrive put by v r t (place_of v (target_of t))).counts.services ≤ r.counts.services + 1
    at true = omega arith
    at false = went_services arrive put by is v r t (place_of v (target_of t))

boot_went : (arrive : Arrival) (put : Putting) (by : Setting) → IsArrival arrive → (v : ImageData) (r : Record) (t : Transfer) (p : Option (ℕ × ℕ)) → r.placed ≡ [] →
    (went arrive put by v r t p).counts.services ≡ r.counts.services
unfolding went counted
boot_went arrive put by is v r t None none = refl
boot_went arrive put by is v r t (Some p) none =
    omega (arith, linked_services put (arrive by v (counted r) p.0) t p, is.services_stay by v (counted r) p.0, uncounted r.placed none)
  where
    uncounted : (es : List Placement) → es ≡ [] → more_services es ≡ 0
    uncounted es e = rw e refl

-- and the boot is none
pub served_boot : (arrive : Arrival) (put : Putting) (by : Setting) → IsArrival arrive → (r : Record) (v : ImageData) (t : Transfer) → r.placed ≡ [] →
    (served_by arrive put by r v t).counts.services ≡ r.counts.services
unfolding served_by
served_boot arrive put by is r v t none = at (is_over_link r t)
  where
    at : (over : Bool) → (if over then r else went arrive put by v r t (place_of v (target_of t))).counts.services ≡ r.counts.services
    at true = refl
    at false = boot_went arrive put by is v r t (place_of v (target_of t)) none

went_writes : (arrive : Arrival) (put : Putting) (by : Setting) → IsArrival arrive → (v : ImageData) (r : Record) (t : Transfer) (p : Option (ℕ × ℕ)) →
    writes r ≤ writes (went arrive put by v r t p)
unfolding went counted
went_writes arrive put by is v r t None = omega arith
went_writes arrive put by is v r t (Some p) =
    omega (arith, linked_writes put (arrive by v (counted r) p.0) t p, is.writes_rise by v (counted r) p.0)

-- no transfer takes a write back
pub served_writes : (arrive : Arrival) (put : Putting) (by : Setting) → IsArrival arrive → (r : Record) (v : ImageData) (t : Transfer) →
    writes r ≤ writes (served_by arrive put by r v t)
unfolding served_by
served_writes arrive put by is r v t = at (is_over_link r t)
  where
    at : (over : Bool) → writes r ≤ writes (if over then r else went arrive put by v r t (place_of v (target_of t)))
    at true = omega arith
    at false = went_writes arrive put by is v r t (place_of v (target_of t))

went_rises : (arrive : Arrival) (put : Putting) (by : Setting) (f : Record → ℕ) → Rises arrive put by f → (v : ImageData) (r : Record) (t : Transfer) (p : Option (ℕ × ℕ)) →
    f r ≤ f (went arrive put by v r t p)
unfolding went
went_rises arrive put by f is v r t None = omega arith
went_rises arrive put by f is v r (direct b o t) (Some p) =
    omega (arith, is.counting r, is.arriving v (counted r) p.0, is.linking (arrive by v (counted r) p.0) b o p)
went_rises arrive put by f is v r (indirect t) (Some p) =
    omega (arith, is.counting r, is.arriving v (counted r) p.0)

-- nor lowers a number that no arrival lowers
pub served_rises : (arrive : Arrival) (put : Putting) (by : Setting) (f : Record → ℕ) → Rises arrive put by f → (r : Record) (v : ImageData) (t : Transfer) →
    f r ≤ f (served_by arrive put by r v t)
unfolding served_by
served_rises arrive put by f is r v t = at (is_over_link r t)
  where
    at : (over : Bool) → f r ≤ f (if over then r else went arrive put by v r t (place_of v (target_of t)))
    at true = omega arith
    at false = went_rises arrive put by f is v r t (place_of v (target_of t))
