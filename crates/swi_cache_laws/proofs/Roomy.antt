-- A cache with room for all blocks, over any list of transfers.
use Rattle.std.proofs.Common.{◌≡◌, ℕ, ◌+◌, ◌*◌, ◌-◌, ◌^◌, ◌<◌, ◌≤◌, ◌&&◌, Bool, true, false, List, [], ◌∷◌, ◌++◌, length, Option, Some, None, if◌then◌else◌, nat_le, arith, refl, sym, ◌∙◌, ap, subst, inl, inr}
use Rattle.std.proofs.lemmas.Bool.{cases_Bool, both_ways, and_from}
use Rattle.std.proofs.lemmas.Bool.Decides.{nat_tests}
use Rattle.std.proofs.lemmas.List.{length-map}
use Rattle.swi_image.specs.Format.{ImageData}
use Rattle.swi_image.specs.Place.{place_of, length_at, word_at}
use Rattle.swi_image.specs.Sound.{IsImage}
use Rattle.swi_image.specs.Laws.{place_inside}
use Rattle.swi_rom.specs.Record.{Record, Placement, Link, Transfer, Has, direct, indirect, target_of, is_linked, exit_among, reaches, empty_record}
use Rattle.swi_rom.specs.Coherent.{IsExit}
use Rattle.swi_rom.specs.Service.{Setting}
use Rattle.swi_rom.specs.Policy.{Arrival, is_placed, first_of, counted, linked, with_link, went, served_by, is_over_link}
use Rattle.swi_cache_laws.specs.Transfers.{block_entered, served_all, after_boot}
use Rattle.swi_cache_laws.specs.Room.{exits_of, register_jumps, LeavesByExit, AreTransfers, HasRoom}
use Rattle.swi_cache_laws.proofs.Few.{has_right, few_distinct}
use Rattle.swi_cache_laws.proofs.Queue.{blocks, stands_as}
use Rattle.swi_cache_laws.proofs.Exits.{exit_listed, words_most}
use Rattle.swi_cache_laws.proofs.Linked.{linked_more, linked_new, linked_cases}
use Rattle.swi_cache_laws.proofs.Keeping.{some_placed, Seat, Keeps, HasSeats, fewer_blocks, counts, entered_again, arrives}

-- where a word of a placed block stands
within : (v : ImageData) (extent : ℕ) (before : List ℕ) (registers : ℕ) (seat : Seat) (r : Record) (b o : ℕ) → Keeps v extent before registers seat r → is_placed r b ≡ true → o < length_at v b → first_of r b + o < extent
unfolding is_placed first_of
within v extent before registers seat r b o k there lt =
    let w = stands_as r.turn b r.placed there in
    omega (arith, k.ends w.entry w.has, w.first, ap (λ (c : ℕ). length_at v c) w.block)

near : (from to extent : ℕ) → from < extent → to < extent → extent ≤ 2 ^ 18 → reaches from to ≡ true
near from to extent p q small = and_from (nat_le (4 * (to - from)) (2 ^ 20 - 4)) (nat_le (4 * (from - to)) (2 ^ 20)) (grind (arith, nat_tests)) (grind (arith, nat_tests))

-- an exit is linked
links : (v : ImageData) (extent : ℕ) (before : List ℕ) (registers : ℕ) (seat : Seat) (m : Record) (b o : ℕ) (p : ℕ × ℕ) → Keeps v extent before (registers + 1) seat m →
    IsExit v b o → is_linked m b o ≡ false → place_of v (word_at v b (o + 1)) ≡ Some p → is_placed m p.0 ≡ true →
    let l : Link = record { program = m.turn; block = b; offset = o; into = p.0 } in
    Keeps v extent before registers seat (record m { links = with_link l m.links; counts = record m.counts { links = m.counts.links + 1 } })
unfolding is_placed
links v extent before registers seat m b o p k exit new to there =
    let l : Link = record { program = m.turn; block = b; offset = o; into = p.0 } in
    let x : ℕ × ℕ = (b, o) in
    record {
      ours = k.ours;
      known = k.known;
      ends = k.ends;
      apart = k.apart;
      were = k.were;
      evictions = k.evictions;
      unlinks = k.unlinks;
      misses = k.misses;
      copied = k.copied;
      made = x ∷ k.made;
      links = omega (arith, k.links);
      made_apart = (λ h. both_ways (is_linked m b o) new (k.made_linked x h), k.made_apart);
      made_exits = λ y h. elim h [ inl same ↦ subst (λ (z : ℕ × ℕ). Has (exits_of v) z) same (exit_listed v b o exit) | inr old ↦ k.made_exits y old ];
      made_linked = λ y h. elim h [
        | inl same ↦ subst (λ (z : ℕ × ℕ). exit_among (with_link l m.links) m.turn z.0 z.1 ≡ true) same (linked_new l m.links)
        | inr old ↦ linked_more l m.links m.turn y.0 y.1 (k.made_linked y old)
      ];
      over = λ c q h pl is. elim (linked_cases l m.links m.turn c q h) [
        | inl old ↦ k.over c q old pl is
        | inr same ↦ (let places : Some p ≡ Some pl = sym to ∙ ap (λ (y : ℕ). place_of v (word_at v y (o + 1))) same.0 ∙ ap (λ (y : ℕ). place_of v (word_at v c (y + 1))) same.1 ∙ is in
            subst (λ (y : ℕ × ℕ). is_placed m y.0 ≡ true) (some_is p pl places) there)
      ];
      services = λ small. omega (arith, k.services small);
      seated = k.seated;
    }
  where
    some_is : (p q : ℕ × ℕ) → Some p ≡ Some q → p ≡ q
    some_is p q e = cc

-- where it isn't, not all words are in a JAL's reach
far : (v : ImageData) (extent : ℕ) (before : List ℕ) (registers : ℕ) (seat : Seat) (m : Record) → Keeps v extent before (registers + 1) seat m → (extent ≤ 2 ^ 18 → ⊥) → Keeps v extent before registers seat m
far v extent before registers seat m k out = record {
  ours = k.ours;
  known = k.known;
  ends = k.ends;
  apart = k.apart;
  were = k.were;
  evictions = k.evictions;
  unlinks = k.unlinks;
  misses = k.misses;
  copied = k.copied;
  made = k.made;
  links = k.links;
  made_apart = k.made_apart;
  made_exits = k.made_exits;
  made_linked = k.made_linked;
  over = k.over;
  services = λ small. absurd (out small);
  seated = k.seated;
}

linking : (v : ImageData) (extent : ℕ) (before : List ℕ) (registers : ℕ) (seat : Seat) (m : Record) (b o : ℕ) (p : ℕ × ℕ) → Keeps v extent before (registers + 1) seat m →
    IsExit v b o → is_linked m b o ≡ false → place_of v (word_at v b (o + 1)) ≡ Some p → is_placed m p.0 ≡ true → is_placed m b ≡ true → p.1 < length_at v p.0 →
    Keeps v extent before registers seat (linked with_link m b o p)
unfolding linked
linking v extent before registers seat m b o p k exit new to there from lt = by_test (is_placed m b && reaches (first_of m b + o) (first_of m p.0 + p.1)) refl
  where
    by_test : (t : Bool) → (is_placed m b && reaches (first_of m b + o) (first_of m p.0 + p.1)) ≡ t → Keeps v extent before registers seat
        (if t then record m { links = with_link (record { program = m.turn; block = b; offset = o; into = p.0 }) m.links; counts = record m.counts { links = m.counts.links + 1 } } else m)
    by_test true is = links v extent before registers seat m b o p k exit new to there
    by_test false is = far v extent before registers seat m k (λ small. both_ways _ is (and_from _ _ from
        (near _ _ extent (within v extent before (registers + 1) seat m b o k from (omega (arith, exit.inside))) (within v extent before (registers + 1) seat m p.0 p.1 k there lt) small)))

-- whether a transfer is a jump over a register that enters a block
abbrev registers_at : Option (ℕ × ℕ) → Transfer → ℕ
registers_at p (direct b o t) = 0
registers_at p (indirect t) = length (block_entered p)

at_none : (t : Transfer) → registers_at None t ≡ 0
at_none (direct b o t) = refl
at_none (indirect t) = refl

at_link : (r : Record) (t : Transfer) (p : Option (ℕ × ℕ)) → is_over_link r t ≡ true → registers_at p t ≡ 0
at_link r (direct b o t) p e = refl
at_link r (indirect t) p e = absurd (both_ways false refl e)

-- a transfer, once a first block was entered
module _ (arrive : Arrival) (by : Setting) (v : ImageData) (image : IsImage v) (extent : ℕ) (seat : Seat) (has : HasSeats arrive by v extent seat) (first : ℕ) where
  links_stay : (before : List ℕ) (registers : ℕ) (r : Record) (c b o : ℕ) → Has before first → Keeps v extent before registers seat r → c < length v.blocks →
      is_linked (arrive by v (counted r) c) b o ≡ is_linked r b o
  unfolding counted
  links_stay before registers r c b o begun k lt = elim (cases_Bool (is_placed (counted r) c)) [
    | inl there ↦ ap (λ (t : Record). is_linked t b o) (has.stays (counted r) c there)
    | inr none ↦ (let more = counts v extent before registers seat r (some_placed v extent before registers seat r first k begun) k in
        let s = has.seats before (registers + 1) (counted r) c more none lt in
        ap (λ (ls : List Link). exit_among ls (arrive by v (counted r) c).turn b o) s.links ∙ ap (λ (p : ℕ). exit_among r.links p b o) s.turn)
  ]

  served : (before : List ℕ) (registers : ℕ) (r : Record) (t : Transfer) (p : ℕ × ℕ) → Has before first → Keeps v extent before registers seat r → LeavesByExit v before t →
      is_over_link r t ≡ false → place_of v (target_of t) ≡ Some p → Keeps v extent (p.0 ∷ before) (registers + registers_at (Some p) t) seat (went arrive with_link by v r t (Some p))
  unfolding went
  served before registers r (indirect t) p begun k leaves unlinked is =
      let more = counts v extent before registers seat r (some_placed v extent before registers seat r first k begun) k in
      arrives arrive by v extent seat has before (registers + 1) (counted r) p.0 more (place_inside v image t p.0 p.1 is).0
  served before registers r (direct b o t) p begun k leaves unlinked is =
      let inside = place_inside v image t p.0 p.1 is in
      let m : Record = arrive by v (counted r) p.0 in
      let more = counts v extent before registers seat r (some_placed v extent before registers seat r first k begun) k in
      let here = arrives arrive by v extent seat has before (registers + 1) (counted r) p.0 more inside.0 in
      subst (λ (n : ℕ). Keeps v extent (p.0 ∷ before) n seat (linked with_link m b o p)) (omega arith)
      (linking v extent (p.0 ∷ before) registers seat m b o p here leaves.1 (links_stay before registers r p.0 b o begun k inside.0 ∙ unlinked) (ap (place_of v) leaves.2 ∙ is)
      (here.were p.0 (inl refl)) (here.were b (inr leaves.0)) inside.1)

  linked_there : (before : List ℕ) (registers : ℕ) (r : Record) (t : Transfer) (p : ℕ × ℕ) → Keeps v extent before registers seat r → LeavesByExit v before t →
      is_over_link r t ≡ true → place_of v (target_of t) ≡ Some p → is_placed r p.0 ≡ true
  linked_there before registers r (direct b o t) p k leaves e is = k.over b o e p (ap (place_of v) leaves.2 ∙ is)
  linked_there before registers r (indirect t) p k leaves e is = absurd (both_ways false refl e)

  -- nothing is counted
  same_count : (before : List ℕ) (registers n : ℕ) (r : Record) → n ≡ 0 → Keeps v extent before registers seat r → Keeps v extent before (registers + n) seat r
  same_count before registers n r none k =
      let is : registers ≡ registers + n = omega (arith, none) in
      subst (λ (m : ℕ). Keeps v extent before m seat r) is k

  moved : (before : List ℕ) (registers : ℕ) (r : Record) (t : Transfer) → Has before first → Keeps v extent before registers seat r → LeavesByExit v before t →
      Keeps v extent (block_entered (place_of v (target_of t)) ++ before) (registers + registers_at (place_of v (target_of t)) t) seat (served_by arrive with_link by r v t)
  unfolding served_by went
  moved before registers r t begun k leaves = over (is_over_link r t) refl (place_of v (target_of t)) refl
    where
      over : (o : Bool) → is_over_link r t ≡ o → (p : Option (ℕ × ℕ)) → place_of v (target_of t) ≡ p →
          Keeps v extent (block_entered p ++ before) (registers + registers_at p t) seat (if o then r else went arrive with_link by v r t p)
      over true e None is = same_count before registers _ r (at_none t) k
      over true e (Some p) is =
          same_count (p.0 ∷ before) registers _ r (at_link r t (Some p) e) (entered_again v extent before registers seat r p.0 k (linked_there before registers r t p k leaves e is))
      over false e None is = same_count before registers _ r (at_none t) k
      over false e (Some p) is = served before registers r t p begun k leaves e is

  all : (before : List ℕ) (registers : ℕ) (r : Record) (ts : List Transfer) → Has before first → Keeps v extent before registers seat r → AreTransfers v before ts →
      (after : List ℕ) × Keeps v extent after (registers + register_jumps v ts) seat (served_all (served_by arrive with_link by) v r ts)
  all before registers r [] begun k are = (before, subst (λ (n : ℕ). Keeps v extent before n seat r) (omega arith) k)
  all before registers r (direct b o t ∷ ts) begun k are =
      let w = all (block_entered (place_of v t) ++ before) (registers + 0) (served_by arrive with_link by r v (direct b o t)) ts (has_right (block_entered (place_of v t)) before first begun)
      (moved before registers r (direct b o t) begun k are.0) are.1 in
      (w.0, subst (λ (n : ℕ). Keeps v extent w.0 n seat (served_all (served_by arrive with_link by) v (served_by arrive with_link by r v (direct b o t)) ts)) (omega arith) w.1)
  all before registers r (indirect t ∷ ts) begun k are =
      let w = all (block_entered (place_of v t) ++ before) (registers + length (block_entered (place_of v t))) (served_by arrive with_link by r v (indirect t)) ts
      (has_right (block_entered (place_of v t)) before first begun) (moved before registers r (indirect t) begun k are.0) are.1 in
      (w.0, subst (λ (n : ℕ). Keeps v extent w.0 n seat (served_all (served_by arrive with_link by) v (served_by arrive with_link by r v (indirect t)) ts)) (omega arith) w.1)

-- all transfers, from a boot on
module _ (arrive : Arrival) (by : Setting) (v : ImageData) (image : IsImage v) (extent : ℕ) (seat : Seat) (has : HasSeats arrive by v extent seat) where
  at_first : Keeps v extent [] 0 seat (counted empty_record)
  unfolding counted is_placed exit_among
  at_first = record {
    ours = λ e h. absurd h;
    known = λ b h. absurd h;
    ends = λ e h. absurd h;
    apart = tt;
    were = λ b h. absurd h;
    evictions = refl;
    unlinks = refl;
    misses = refl;
    copied = refl;
    made = [];
    links = refl;
    made_apart = tt;
    made_exits = λ x h. absurd h;
    made_linked = λ x h. absurd h;
    over = λ b o h p is. absurd (both_ways false refl h);
    services = λ small. refl;
    seated = has.empty;
  }

  -- the boot is no service
  booted : (boot : ℕ) (p : ℕ × ℕ) → place_of v boot ≡ Some p → Keeps v extent (p.0 ∷ []) 0 seat (served_by arrive with_link by empty_record v (indirect boot))
  unfolding served_by went
  booted boot p is = rw is (arrives arrive by v extent seat has [] 0 (counted empty_record) p.0 at_first (place_inside v image boot p.0 p.1 is).0)

  room_in : (before : List ℕ) (registers : ℕ) (r : Record) → Keeps v extent before registers seat r → HasRoom v extent registers r
  room_in before registers r k =
      let made = few_distinct k.made (exits_of v) k.made_apart k.made_exits in
      record {
        evictions = k.evictions;
        unlinks = k.unlinks;
        misses = omega (arith, k.misses, fewer_blocks v (blocks r.placed) k.apart k.known, length-map r.placed (λ (e : Placement). e.block));
        links = omega (arith, k.links, made);
        writes = omega (arith, k.copied, k.links, k.unlinks, made, words_most v (blocks r.placed) k.apart k.known);
        services = λ small. omega (arith, k.services small, k.links);
      }

  pub has_room : (boot : ℕ) (p : ℕ × ℕ) (ts : List Transfer) → place_of v boot ≡ Some p → AreTransfers v (p.0 ∷ []) ts → HasRoom v extent (register_jumps v ts) (after_boot (served_by arrive with_link by) v boot ts)
  has_room boot p ts is are =
      let w = all arrive by v image extent seat has p.0 (p.0 ∷ []) 0 _ ts (inl refl) (booted boot p is) are in
      subst (λ (n : ℕ). HasRoom v extent n (after_boot (served_by arrive with_link by) v boot ts)) (omega arith) (room_in w.0 (0 + register_jumps v ts) _ w.1)
