-- A call that is made again while it answers that links were undone and there are more.
use Rattle.std.proofs.Common.{◌≡◌, ◌+◌, ◌-◌, ◌*◌, ◌/◌, ◌%◌, ◌^◌, ◌<◌, ◌≤◌, ℕ, zero, suc, Bool, true, false, List, slice_index, Option, Some, None, if◌then◌else◌, arith, refl, sym, ◌∙◌, ap, subst}
use Rattle.std.proofs.lemmas.Bool.{both_ways, false_from_ne_true}
use Rattle.swi_image.specs.Format.{ImageData}
use Rattle.swi_image.specs.Place.{length_at, place_of}
use Rattle.swi_rom.specs.Coherent.{ExitAt}
use Rattle.swi_rom.specs.Record.{Placed, Transfer, direct, exit_among, indirect, target_of}
use Rattle.swi_slots.specs.Keys.{Images}
use Rattle.swi_slots.specs.Slots.{Slots, kept_by, links_of, queue_of, setting_of}
use Rattle.swi_chip.specs.declared.chip.Chip.{Chip}
use Rattle.swi_chip.specs.Bounded.{fifo_few, is_refused}
use Rattle.swi_chip.specs.Leaving.{IsExitAt, Leaves}
use Rattle.swi_chip.specs.Repeated.{EntersRepeated, ExitsRepeated, LeavesRepeated, LeftAtLast, Repeats, StandsOn}
use Rattle.swi_chip.specs.Service.{AnswersAt, Called, ChipServed, ChipWaits, Enters, Exits, StandsFor, again, far_in, misaligned, must_wait, portion, with_links}

-- an answer of a call that served is none to make it again
no_again : (p : Option (ℕ × ℕ)) (s next : Slots) (v : ImageData) (c : Chip) (target answer : ℕ) → c.cache_at % 4 ≡ 0 → AnswersAt p s next v c target answer → answer ≡ again → ⊥
no_again None s next v c target answer aligned a is = (let e = a.0 in omega (arith, e, is))
no_again (Some p) s next v c target answer aligned a is = (let e = a.1 in omega (arith, e, is, aligned))

pub served_never : {s : Slots} {vs : Images} {t : Transfer} {answer : ℕ} {old c : Chip} → ChipServed s vs t answer old c → answer ≡ again → ⊥
served_never {s} {vs} {t} {answer} {old} {c} q = no_again (place_of (vs s.turn) (target_of t)) s q.next (vs s.turn) c (target_of t) answer q.stands.numbers.aligned q.answers

-- by the answer a call waits, or serves
pub called_waits : {s : Slots} {vs : Images} {t : Transfer} {old new : Chip} → Called s vs t old new again → (must_wait old (place_of (vs s.turn) (target_of t)) ≡ true) × ChipWaits s vs t old new
called_waits {s} {vs} {t} {old} {new} q = by (must_wait old (place_of (vs s.turn) (target_of t))) refl
  where
    by : (m : Bool) → must_wait old (place_of (vs s.turn) (target_of t)) ≡ m → (must_wait old (place_of (vs s.turn) (target_of t)) ≡ true) × ChipWaits s vs t old new
    by true e = (e, (q.waits e).1)
    by false e = absurd (served_never (q.serves e) refl)

pub called_serves : {s : Slots} {vs : Images} {t : Transfer} {old new : Chip} {answer : ℕ} → Called s vs t old new answer → (answer ≡ again → ⊥) → ChipServed s vs t answer old new
called_serves {s} {vs} {t} {old} {new} {answer} q ends = by (must_wait old (place_of (vs s.turn) (target_of t))) refl
  where
    by : (m : Bool) → must_wait old (place_of (vs s.turn) (target_of t)) ≡ m → ChipServed s vs t answer old new
    by true e = absurd (ends (q.waits e).0)
    by false e = q.serves e

-- what is served behind a portion is served
behind : {s : Slots} {vs : Images} {t : Transfer} {answer : ℕ} {a b c : Chip} → must_wait a (place_of (vs s.turn) (target_of t)) ≡ true → (w : ChipWaits s vs t a b) → ChipServed (with_links s w.targets w.unlinks) vs t answer b c → ChipServed s vs t answer a c
behind {s} {vs} {t} {answer} {a} {b} {c} must w q = record {
  next = q.next;
  words = q.words;
  lists = q.lists;
  stands = q.stands;
  setting = q.setting;
  moves = q.moves ∙ (ap (λ (n : ℕ). fifo_few n (setting_of s) (kept_by (with_links s w.targets w.unlinks)) (vs s.turn) t) w.bound.most ∙ w.moves);
  bound = record {
    most = q.bound.most ∙ w.bound.most;
    refused = q.bound.refused ∙ (ap (λ (x : Bool). if x then (b.counts.refused + 1) % 2 ^ 32 else b.counts.refused) refuses
        ∙ ap (λ (n : ℕ). if is_refused a.most (setting_of s) (kept_by s) (vs s.turn) t then (n + 1) % 2 ^ 32 else n) w.bound.refused);
  };
  answers = same (place_of (vs s.turn) (target_of t)) must q.answers;
}
  where
    refuses : is_refused b.most (setting_of s) (kept_by (with_links s w.targets w.unlinks)) (vs s.turn) t ≡ is_refused a.most (setting_of s) (kept_by s) (vs s.turn) t
    refuses = ap (λ (n : ℕ). is_refused n (setting_of s) (kept_by (with_links s w.targets w.unlinks)) (vs s.turn) t) w.bound.most ∙ w.refuses

    same : (p : Option (ℕ × ℕ)) → must_wait a p ≡ true → AnswersAt p (with_links s w.targets w.unlinks) q.next (vs s.turn) c (target_of t) answer → AnswersAt p s q.next (vs s.turn) c (target_of t) answer
    same None e x = absurd (both_ways false refl e)
    same (Some p) e x = x

-- ---- entries

-- at first, and behind a portion
on_first : {s : Slots} {vs : Images} {ram : List ℕ} {lists : List (List ℕ)} {c : Chip} → StandsFor s vs ram lists c → StandsOn s vs c c
on_first {s} {vs} {ram} {lists} {c} k = record { targets = s.targets; unlinks = s.counts.unlinks; words = ram; lists = lists; stands = k; among = λ p b o h. h; cache_at = refl }

on_more : {s : Slots} {vs : Images} {t : Transfer} {a b c : Chip} → (w : ChipWaits s vs t a b) → StandsOn (with_links s w.targets w.unlinks) vs b c → StandsOn s vs a c
on_more {s} {vs} {t} {a} {b} {c} w x = record {
  targets = x.targets;
  unlinks = x.unlinks;
  words = x.words;
  lists = x.lists;
  stands = x.stands;
  among = λ p y o h. w.among p y o (x.among p y o h);
  cache_at = x.cache_at ∙ w.cache_at;
}

entered_on : (n : ℕ) (s : Slots) (vs : Images) (ram : List ℕ) (lists : List (List ℕ)) (at : ℕ → Chip) (new : Chip) (target answer : ℕ) → StandsFor s vs ram lists (at 0) →
    ((j : ℕ) → j < n → Enters (at j) (at (suc j)) target again) → Enters (at n) new target answer → (answer ≡ again → ⊥) → LeftAtLast s vs (at 0) (at n) new target answer n
entered_on zero s vs ram lists at new target answer k waits last ends = record { served = called_serves (last s vs ram lists k) ends; few = omega arith; on = on_first k }
entered_on (suc n) s vs ram lists at new target answer k waits last ends =
    let q = called_waits (waits 0 (omega arith) s vs ram lists k) in
    let w = q.1 in
    let rest = entered_on n (with_links s w.targets w.unlinks) vs w.words w.lists (λ j. at (suc j)) new target answer w.stands (λ j lt. waits (suc j) (omega (arith, lt))) last ends in
    record { served = behind q.0 w rest.served; few = (let e = w.fewer in let f = rest.few in omega (arith, e, f)); on = on_more w rest.on }

pub enters_repeated : EntersRepeated
enters_repeated s vs ram lists old new target answer k r =
    let z = entered_on r.times s vs ram lists r.at new target answer (subst (λ (c : Chip). StandsFor s vs ram lists c) (sym r.first) k) r.waits r.last r.ends in
    (subst (λ (c : Chip). ChipServed s vs (indirect target) answer c new) r.first z.served, subst (λ (c : Chip). portion * r.times ≤ slice_index c.links.now c.next) r.first z.few)

-- a JALR's calls are entries
exit_at_still : {s : Slots} {vs : Images} {ram : List ℕ} {lists : List (List ℕ)} {a c : Chip} {t : Transfer} (pc : ℕ) → StandsFor s vs ram lists a → (w : ChipWaits s vs t a c) → IsExitAt a pc → IsExitAt c pc
exit_at_still {s} {vs} {ram} {lists} {a} {c} {t} pc k w x =
    let far : far_in c pc ≡ far_in a pc = ap (λ (n : ℕ). (pc + (2 ^ 32 - n)) % 2 ^ 32) w.cache_at in
    let bytes : c.cache_bytes ≡ a.cache_bytes = w.stands.numbers.bytes_are ∙ sym k.numbers.bytes_are in
    omega (arith, far, bytes, x)

record AreEntries (n : ℕ) (at : ℕ → Chip) (new : Chip) (target answer : ℕ) : Type 0 where
  waits : (j : ℕ) → j < n → Enters (at j) (at (suc j)) target again
  last : Enters (at n) new target answer

more_entries : (n : ℕ) (at : ℕ → Chip) (new : Chip) (target answer : ℕ) → Enters (at 0) (at 1) target again → AreEntries n (λ j. at (suc j)) new target answer → (j : ℕ) → j < suc n → Enters (at j) (at (suc j)) target again
more_entries n at new target answer e r zero lt = e
more_entries n at new target answer e r (suc j) lt = r.waits j (omega (arith, lt))

are_entries : (n : ℕ) (s : Slots) (vs : Images) (ram : List ℕ) (lists : List (List ℕ)) (at : ℕ → Chip) (new : Chip) (pc target answer : ℕ) → StandsFor s vs ram lists (at 0) → IsExitAt (at 0) pc → target % 4 ≡ 0 →
    ((j : ℕ) → j < n → Leaves (at j) (at (suc j)) pc target again) → Leaves (at n) new pc target answer → AreEntries n at new target answer
are_entries zero s vs ram lists at new pc target answer k x four waits last = record { waits = λ j lt. absurd (omega (arith, lt)); last = last.enters x four }
are_entries (suc n) s vs ram lists at new pc target answer k x four waits last =
    let e : Enters (at 0) (at 1) target again = (waits 0 (omega arith)).enters x four in
    let w = (called_waits (e s vs ram lists k)).1 in
    let rest = are_entries n (with_links s w.targets w.unlinks) vs w.words w.lists (λ j. at (suc j)) new pc target answer w.stands (exit_at_still pc k w x) four (λ j lt. waits (suc j) (omega (arith, lt))) last in
    record { waits = more_entries n at new target answer e rest; last = rest.last }

pub leaves_repeated : LeavesRepeated
leaves_repeated s vs ram lists old new pc target answer k x four r =
    let k' = subst (λ (c : Chip). StandsFor s vs ram lists c) (sym r.first) k in
    let e = are_entries r.times s vs ram lists r.at new pc target answer k' (subst (λ (c : Chip). IsExitAt c pc) (sym r.first) x) four r.waits r.last in
    subst (λ (c : Chip). LeftAtLast s vs c (r.at r.times) new target answer r.times) r.first (entered_on r.times s vs ram lists r.at new target answer k' e.waits e.last r.ends)

-- to a misaligned target there is one call, and nothing changes
pub leaves_refused : (old new : Chip) (pc target answer : ℕ) → IsExitAt old pc → (target % 4 ≡ 0 → ⊥) → (r : Repeats (λ a b x. Leaves a b pc target x) old new answer) → (answer ≡ misaligned) × (new ≡ old)
leaves_refused old new pc target answer x odd r = by r.times r.waits r.last
  where
    exit : IsExitAt (r.at 0) pc
    exit = subst (λ (c : Chip). IsExitAt c pc) (sym r.first) x

    by : (n : ℕ) → ((j : ℕ) → j < n → Leaves (r.at j) (r.at (suc j)) pc target again) → Leaves (r.at n) new pc target answer → (answer ≡ misaligned) × (new ≡ old)
    by zero waits last = (let q = last.refuses exit odd in (q.0, q.1 ∙ r.first))
    by (suc n) waits last = absurd (let q = ((waits 0 (omega arith)).refuses exit odd).0 in omega (arith, q))

-- ---- exits

-- what stands, and what is no link, still stands and is none
module _ (s : Slots) (targets : List ℕ) (unlinks : ℕ) where
  pub placed_still : (b f : ℕ) → Placed (kept_by s) b f → Placed (kept_by (with_links s targets unlinks)) b f
  unfolding Placed queue_of
  placed_still b f h = h

  pub exit_still : {v : ImageData} {i t : ℕ} → ((p b o : ℕ) → exit_among (links_of (with_links s targets unlinks)) p b o ≡ true → exit_among (links_of s) p b o ≡ true) → ExitAt v (kept_by s) i t → ExitAt v (kept_by (with_links s targets unlinks)) i t
  exit_still among x = record {
    block = x.block;
    offset = x.offset;
    first = x.first;
    is_placed = placed_still x.block x.first x.is_placed;
    is_exit = x.is_exit;
    index = x.index;
    not_linked = false_from_ne_true (exit_among (links_of (with_links s targets unlinks)) s.turn x.block x.offset) (λ is. both_ways (exit_among (links_of s) s.turn x.block x.offset) x.not_linked (among s.turn x.block x.offset is));
    descriptor = x.descriptor;
  }

-- the exit's address
record ExitHere (s : Slots) (vs : Images) (c : Chip) (pc target b o f : ℕ) : Type 0 where
  inside : far_in c pc < c.cache_bytes
  exit : ExitAt (vs s.turn) (kept_by s) (far_in c pc / 4) target
  placed : Placed (kept_by s) b f
  low : o < length_at (vs s.turn) b
  index : far_in c pc / 4 ≡ f + o

here_still : {s : Slots} {vs : Images} {ram : List ℕ} {lists : List (List ℕ)} {a c : Chip} {t : Transfer} {pc target b o f : ℕ} → StandsFor s vs ram lists a → (w : ChipWaits s vs t a c) → ExitHere s vs a pc target b o f → ExitHere (with_links s w.targets w.unlinks) vs c pc target b o f
here_still {s} {vs} {ram} {lists} {a} {c} {t} {pc} {target} {b} {o} {f} k w x =
    let far : far_in c pc ≡ far_in a pc = ap (λ (n : ℕ). (pc + (2 ^ 32 - n)) % 2 ^ 32) w.cache_at in
    let bytes : c.cache_bytes ≡ a.cache_bytes = w.stands.numbers.bytes_are ∙ sym k.numbers.bytes_are in
    record {
      inside = (let l = x.inside in omega (arith, far, bytes, l));
      exit = subst (λ (n : ℕ). ExitAt (vs s.turn) (kept_by (with_links s w.targets w.unlinks)) (n / 4) target) (sym far) (exit_still s w.targets w.unlinks w.among x.exit);
      placed = placed_still s w.targets w.unlinks b f x.placed;
      low = x.low;
      index = ap (λ (n : ℕ). n / 4) far ∙ x.index;
    }

exited_on : (n : ℕ) (s : Slots) (vs : Images) (ram : List ℕ) (lists : List (List ℕ)) (at : ℕ → Chip) (new : Chip) (pc target answer b o f : ℕ) → StandsFor s vs ram lists (at 0) → ExitHere s vs (at 0) pc target b o f →
    ((j : ℕ) → j < n → Exits (at j) (at (suc j)) pc target again) → Exits (at n) new pc target answer → (answer ≡ again → ⊥) → ChipServed s vs (direct b o target) answer (at 0) new × (portion * n ≤ slice_index (at 0).links.now (at 0).next)
exited_on zero s vs ram lists at new pc target answer b o f k x waits last ends = (called_serves (last.0 x.inside s vs ram lists k x.exit b o f x.placed x.low x.index) ends, omega arith)
exited_on (suc n) s vs ram lists at new pc target answer b o f k x waits last ends =
    let q = called_waits ((waits 0 (omega arith)).0 x.inside s vs ram lists k x.exit b o f x.placed x.low x.index) in
    let w = q.1 in
    let rest = exited_on n (with_links s w.targets w.unlinks) vs w.words w.lists (λ j. at (suc j)) new pc target answer b o f w.stands (here_still k w x) (λ j lt. waits (suc j) (omega (arith, lt))) last ends in
    (behind q.0 w rest.0, (let e = w.fewer in let g = rest.1 in omega (arith, e, g)))

pub exits_repeated : ExitsRepeated
exits_repeated s vs ram lists old new pc target answer k inside exit b o f placed low index r =
    let back : (P : Chip → Type 0) → P old → P (r.at 0) = λ P p. subst P (sym r.first) p in
    let z = exited_on r.times s vs ram lists r.at new pc target answer b o f (back (λ (c : Chip). StandsFor s vs ram lists c) k)
    (back (λ (c : Chip). ExitHere s vs c pc target b o f) (record { inside = inside; exit = exit; placed = placed; low = low; index = index })) r.waits r.last r.ends in
    (subst (λ (c : Chip). ChipServed s vs (direct b o target) answer c new) r.first z.0, subst (λ (c : Chip). portion * r.times ≤ slice_index c.links.now c.next) r.first z.1)
