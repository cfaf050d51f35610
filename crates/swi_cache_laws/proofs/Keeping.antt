-- What a cache with room for all blocks keeps, however its blocks find their places.
use Rattle.std.proofs.Common.{◌≡◌, ◌⊎◌, ℕ, ◌+◌, ◌^◌, ◌<◌, ◌≤◌, true, false, List, [], ◌∷◌, ◌++◌, length, Some, arith, refl, sym, ◌∙◌, ap, subst, inl, inr}
use Rattle.std.proofs.lemmas.Bool.{both_ways, cases_Bool}
use Rattle.std.proofs.lemmas.List.{length-append, length-map, map-append}
use Rattle.swi_image.specs.Format.{ImageData}
use Rattle.swi_image.specs.Place.{place_of, length_at, word_at}
use Rattle.swi_rom.specs.Record.{Record, Placement, Has, is_linked}
use Rattle.swi_rom.specs.Service.{Setting}
use Rattle.swi_rom.specs.Policy.{Arrival, is_placed, counted, more_services}
use Rattle.swi_cache_laws.specs.Room.{words_of, exits_of}
use Rattle.swi_cache_laws.proofs.Few.{Distinct, AreIn, total, total_append, has_append, distinct_append, few_distinct, numbers, length_numbers, below_numbers}
use Rattle.swi_cache_laws.proofs.Queue.{blocks, stands, absent, stands_still, stands_last}
use Rattle.swi_cache_laws.proofs.Exits.{words_most}

-- what an arrival needs to know of the placed blocks, the further numbers and the words copied
abbrev pub Seat : Type 1
Seat = List Placement → List ℕ → ℕ → Type 0

-- Nothing has left. The exits that were linked are told one by one.
pub record Keeps (v : ImageData) (extent : ℕ) (before : List ℕ) (registers : ℕ) (seat : Seat) (r : Record) : Type 0 where
  pub ours : (e : Placement) → Has r.placed e → e.program ≡ r.turn
  pub known : (b : ℕ) → Has (blocks r.placed) b → b < length v.blocks
  pub ends : (e : Placement) → Has r.placed e → e.first + length_at v e.block ≤ extent
  pub apart : Distinct (blocks r.placed)
  pub were : (b : ℕ) → Has before b → is_placed r b ≡ true
  pub evictions : r.counts.evictions ≡ 0
  pub unlinks : r.counts.unlinks ≡ 0
  pub misses : r.counts.misses ≡ length r.placed
  pub copied : r.counts.copied ≡ total (length_at v) (blocks r.placed)
  pub made : List (ℕ × ℕ)
  pub links : r.counts.links ≡ length made
  pub made_apart : Distinct made
  pub made_exits : AreIn made (exits_of v)
  pub made_linked : (x : ℕ × ℕ) → Has made x → is_linked r x.0 x.1 ≡ true
  pub over : (b o : ℕ) → is_linked r b o ≡ true → (p : ℕ × ℕ) → place_of v (word_at v b (o + 1)) ≡ Some p → is_placed r p.0 ≡ true
  pub services : extent ≤ 2 ^ 18 → r.counts.services ≡ length made + registers
  pub seated : seat r.placed r.more r.counts.copied

-- a block arrives that wasn't there
pub record Seats (v : ImageData) (extent : ℕ) (seat : Seat) (r : Record) (c : ℕ) (t : Record) : Type 0 where
  pub first : ℕ
  pub placed : t.placed ≡ r.placed ++ record { program = r.turn; block = c; first = first } ∷ []
  pub turn : t.turn ≡ r.turn
  pub links : t.links ≡ r.links
  pub services : t.counts.services ≡ r.counts.services
  pub misses : t.counts.misses ≡ r.counts.misses + 1
  pub evictions : t.counts.evictions ≡ r.counts.evictions
  pub made : t.counts.links ≡ r.counts.links
  pub unlinks : t.counts.unlinks ≡ r.counts.unlinks
  pub copied : t.counts.copied ≡ r.counts.copied + length_at v c
  pub ends : first + length_at v c ≤ extent
  pub seated : seat t.placed t.more t.counts.copied

-- a cache that has a seat for each block that isn't there
pub record HasSeats (arrive : Arrival) (by : Setting) (v : ImageData) (extent : ℕ) (seat : Seat) : Type 0 where
  pub stays : (r : Record) (c : ℕ) → is_placed r c ≡ true → arrive by v r c ≡ r
  pub seats : (before : List ℕ) (registers : ℕ) (r : Record) (c : ℕ) → Keeps v extent before registers seat r → is_placed r c ≡ false → c < length v.blocks →
      Seats v extent seat r c (arrive by v r c)
  pub empty : seat [] [] 0

pub fewer_blocks : (v : ImageData) (bs : List ℕ) → Distinct bs → ((b : ℕ) → Has bs b → b < length v.blocks) → length bs ≤ length v.blocks
fewer_blocks v bs d known =
    omega (arith, few_distinct bs (numbers (length v.blocks)) d (λ b h. below_numbers (length v.blocks) b (known b h)), length_numbers (length v.blocks))

-- with one more
known_more : (v : ImageData) (bs : List ℕ) (c : ℕ) → ((b : ℕ) → Has bs b → b < length v.blocks) → c < length v.blocks → (b : ℕ) → Has (bs ++ c ∷ []) b → b < length v.blocks
known_more v bs c known lt b h = elim (has_append bs (c ∷ []) b h) [
  | inl old ↦ known b old
  | inr new ↦ elim new [ inl same ↦ subst (λ (x : ℕ). x < length v.blocks) same lt | inr none ↦ absurd none ]
]

-- the block isn't there, so that with it there are no more than all, and their words are no more than all
pub record OneMore (v : ImageData) (r : Record) (c : ℕ) : Type 0 where
  pub apart : Distinct (blocks r.placed ++ c ∷ [])
  pub known : (b : ℕ) → Has (blocks r.placed ++ c ∷ []) b → b < length v.blocks
  pub fewer : length r.placed + 1 ≤ length v.blocks
  pub words : r.counts.copied + length_at v c ≤ words_of v

pub one_more : (v : ImageData) (extent : ℕ) (before : List ℕ) (registers : ℕ) (seat : Seat) (r : Record) (c : ℕ) → Keeps v extent before registers seat r → is_placed r c ≡ false → c < length v.blocks → OneMore v r c
unfolding is_placed
one_more v extent before registers seat r c k none lt =
    let apart : Distinct (blocks r.placed ++ c ∷ []) = distinct_append (blocks r.placed) c k.apart (absent r.turn c r.placed none k.ours) in
    let known = known_more v (blocks r.placed) c k.known lt in
    record {
      apart = apart;
      known = known;
      fewer = omega (arith, fewer_blocks v (blocks r.placed ++ c ∷ []) apart known, length-append (blocks r.placed) (c ∷ []), length-map r.placed (λ (e : Placement). e.block));
      words = omega (arith, words_most v (blocks r.placed ++ c ∷ []) apart known, total_append (length_at v) (blocks r.placed) c, k.copied);
    }

blocks_more : (t r : Record) (c f : ℕ) → t.placed ≡ r.placed ++ record { program = r.turn; block = c; first = f } ∷ [] → blocks t.placed ≡ blocks r.placed ++ c ∷ []
blocks_more t r c f is = ap blocks is ∙ map-append (λ (e : Placement). e.block) r.placed (record { program = r.turn; block = c; first = f } ∷ [])

placed_more : (t r : Record) (c f b : ℕ) → t.placed ≡ r.placed ++ record { program = r.turn; block = c; first = f } ∷ [] → t.turn ≡ r.turn → is_placed r b ≡ true → is_placed t b ≡ true
unfolding is_placed
placed_more t r c f b is same h = rw (is, same) (stands_still r.turn b r.placed _ h)

placed_new : (t r : Record) (c f : ℕ) → t.placed ≡ r.placed ++ record { program = r.turn; block = c; first = f } ∷ [] → t.turn ≡ r.turn → is_placed t c ≡ true
unfolding is_placed
placed_new t r c f is same = rw (is, same) (stands_last r.turn c f r.placed)

linked_same : (t r : Record) (b o : ℕ) → t.turn ≡ r.turn → t.links ≡ r.links → is_linked t b o ≡ is_linked r b o
linked_same t r b o e f = rw (e, f) refl

-- a block arrives
arrived : (v : ImageData) (extent : ℕ) (before : List ℕ) (registers : ℕ) (seat : Seat) (r t : Record) (c : ℕ) → Keeps v extent before registers seat r → is_placed r c ≡ false → c < length v.blocks →
    Seats v extent seat r c t → Keeps v extent (c ∷ before) registers seat t
arrived v extent before registers seat r t c k none lt s =
    let x : Placement = record { program = r.turn; block = c; first = s.first } in
    let more = one_more v extent before registers seat r c k none lt in
    let blocks_are : blocks t.placed ≡ blocks r.placed ++ c ∷ [] = blocks_more t r c s.first s.placed in
    let still : (b : ℕ) → is_placed r b ≡ true → is_placed t b ≡ true = λ b h. placed_more t r c s.first b s.placed s.turn h in
    let has : (e : Placement) → Has t.placed e → Has r.placed e ⊎ (x ≡ e) = λ e h. elim (has_append r.placed (x ∷ []) e (subst (λ (es : List Placement). Has es e) s.placed h)) [
      | inl old ↦ inl old
      | inr new ↦ elim new [ inl same ↦ inr same | inr nothing ↦ absurd nothing ]
    ] in
    record {
      ours = λ e h. elim (has e h) [ inl old ↦ k.ours e old ∙ sym s.turn | inr same ↦ ap (λ (p : Placement). p.program) (sym same) ∙ sym s.turn ];
      known = subst (λ (bs : List ℕ). (b : ℕ) → Has bs b → b < length v.blocks) (sym blocks_are) more.known;
      ends = λ e h. elim (has e h) [ inl old ↦ k.ends e old | inr same ↦ subst (λ (p : Placement). p.first + length_at v p.block ≤ extent) same s.ends ];
      apart = subst (λ (bs : List ℕ). Distinct bs) (sym blocks_are) more.apart;
      were = λ b h. elim h [ inl same ↦ subst (λ (y : ℕ). is_placed t y ≡ true) same (placed_new t r c s.first s.placed s.turn) | inr old ↦ still b (k.were b old) ];
      evictions = s.evictions ∙ k.evictions;
      unlinks = s.unlinks ∙ k.unlinks;
      misses = omega (arith, s.misses, k.misses, ap length s.placed, length-append r.placed (x ∷ []));
      copied = omega (arith, s.copied, k.copied, ap (total (length_at v)) blocks_are, total_append (length_at v) (blocks r.placed) c);
      made = k.made;
      links = s.made ∙ k.links;
      made_apart = k.made_apart;
      made_exits = k.made_exits;
      made_linked = λ y h. linked_same t r y.0 y.1 s.turn s.links ∙ k.made_linked y h;
      over = λ b o h p is. still p.0 (k.over b o (sym (linked_same t r b o s.turn s.links) ∙ h) p is);
      services = λ small. omega (arith, s.services, k.services small);
      seated = s.seated;
    }

-- a service is counted
more_one : (es : List Placement) → 1 ≤ length es → more_services es ≡ 1
more_one [] some = absurd (omega arith)
more_one (e ∷ es) some = refl

-- once a block was entered, one is placed
pub some_placed : (v : ImageData) (extent : ℕ) (before : List ℕ) (registers : ℕ) (seat : Seat) (r : Record) (c : ℕ) → Keeps v extent before registers seat r → Has before c → 1 ≤ length r.placed
unfolding is_placed
some_placed v extent before registers seat r c k has = at_least r.placed (k.were c has)
  where
    at_least : (es : List Placement) → stands r.turn c es ≡ true → 1 ≤ length es
    at_least [] e = absurd (both_ways false refl e)
    at_least (x ∷ es) e = omega arith

pub counts : (v : ImageData) (extent : ℕ) (before : List ℕ) (registers : ℕ) (seat : Seat) (r : Record) → 1 ≤ length r.placed → Keeps v extent before registers seat r → Keeps v extent before (registers + 1) seat (counted r)
unfolding counted is_placed
counts v extent before registers seat r some k = record {
  ours = k.ours;
  known = k.known;
  ends = k.ends;
  apart = k.apart;
  were = k.were;
  evictions = k.evictions;
  unlinks = k.unlinks;
  misses = k.misses;
  copied = k.copied;
  made = k.made;
  links = k.links;
  made_apart = k.made_apart;
  made_exits = k.made_exits;
  made_linked = k.made_linked;
  over = k.over;
  services = λ small. omega (arith, k.services small, more_one r.placed some);
  seated = k.seated;
}

-- one that was entered is among those that were before
pub entered_again : (v : ImageData) (extent : ℕ) (before : List ℕ) (registers : ℕ) (seat : Seat) (r : Record) (c : ℕ) → Keeps v extent before registers seat r → is_placed r c ≡ true → Keeps v extent (c ∷ before) registers seat r
entered_again v extent before registers seat r c k there = record {
  ours = k.ours;
  known = k.known;
  ends = k.ends;
  apart = k.apart;
  were = λ b h. elim h [ inl same ↦ subst (λ (y : ℕ). is_placed r y ≡ true) same there | inr old ↦ k.were b old ];
  evictions = k.evictions;
  unlinks = k.unlinks;
  misses = k.misses;
  copied = k.copied;
  made = k.made;
  links = k.links;
  made_apart = k.made_apart;
  made_exits = k.made_exits;
  made_linked = k.made_linked;
  over = k.over;
  services = k.services;
  seated = k.seated;
}

pub arrives : (arrive : Arrival) (by : Setting) (v : ImageData) (extent : ℕ) (seat : Seat) → HasSeats arrive by v extent seat →
    (before : List ℕ) (registers : ℕ) (r : Record) (c : ℕ) → Keeps v extent before registers seat r → c < length v.blocks → Keeps v extent (c ∷ before) registers seat (arrive by v r c)
arrives arrive by v extent seat has before registers r c k lt = elim (cases_Bool (is_placed r c)) [
  | inl there ↦ subst (λ (t : Record). Keeps v extent (c ∷ before) registers seat t) (sym (has.stays r c there)) (entered_again v extent before registers seat r c k there)
  | inr none ↦ arrived v extent before registers seat r _ c k none lt (has.seats before registers r c k none lt)
]
