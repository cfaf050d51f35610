-- What a transfer does to the queue of slots: nothing, or a block that isn't there is appended, and where all slots are taken the
-- oldest leaves.
use Rattle.std.proofs.Common.{◌≡◌, ◌⊎◌, ℕ, ◌+◌, ◌*◌, ◌%◌, Bool, true, false, List, [], ◌∷◌, ◌++◌, length, Option, Some, None, if◌then◌else◌, nat_lt, refl, ◌∙◌, ap, inl, inr}
use Rattle.swi_image.specs.Format.{ImageData}
use Rattle.swi_image.specs.Place.{place_of}
use Rattle.swi_rom.specs.Record.{Record, Placement, Transfer, direct, indirect, target_of}
use Rattle.swi_rom.specs.Service.{Setting}
use Rattle.swi_rom.specs.Policy.{is_placed, evicted, counted, linked, linked_over, with_link, went, served_by, is_over_link}
use Rattle.swi_slots.specs.Fifo.{appended, arrived, fifo}

-- the queue, the program in turn and the misses stay
pub record Stays (r t : Record) : Type 0 where
  pub placed : t.placed ≡ r.placed
  pub turn : t.turn ≡ r.turn
  pub misses : t.counts.misses ≡ r.counts.misses

-- the queue once there is room for one more
abbrev pub behind : List Placement → List Placement
behind [] = []
behind (e ∷ es) = es

abbrev pub room : ℕ → List Placement → List Placement
room slots es = if nat_lt (length es) slots then es else behind es

-- the block wasn't there, and is the newest now
pub record Missed (by : Setting) (r : Record) (c : ℕ) (t : Record) : Type 0 where
  pub absent : is_placed r c ≡ false
  pub first : ℕ
  pub placed : t.placed ≡ room by.slots r.placed ++ record { program = r.turn; block = c; first = first } ∷ []
  pub turn : t.turn ≡ r.turn
  pub misses : t.counts.misses ≡ r.counts.misses + 1

abbrev pub Moves : Setting → Record → Option (ℕ × ℕ) → Record → Type 0
Moves by r None t = Stays r t
Moves by r (Some p) t = Stays r t ⊎ Missed by r p.0 t

stays_itself : (r : Record) → Stays r r
stays_itself r = record { placed = refl; turn = refl; misses = refl }

-- linking leaves the queue alone
linked_stays : (t : Bool) (r : Record) (l : Record) → Stays r l → Stays r (if t then l else r)
linked_stays true r l s = s
linked_stays false r l s = stays_itself r

over_stays : (r : Record) (t : Transfer) (p : ℕ × ℕ) → Stays r (linked_over with_link r t p)
unfolding linked
over_stays r (direct b o t) p = linked_stays _ r _ (record { placed = refl; turn = refl; misses = refl })
over_stays r (indirect t) p = stays_itself r

-- room is made
record Room (slots : ℕ) (r t : Record) : Type 0 where
  placed : t.placed ≡ room slots r.placed
  turn : t.turn ≡ r.turn
  misses : t.counts.misses ≡ r.counts.misses

evicted_placed : (r : Record) (es : List Placement) → r.placed ≡ es → (evicted r es).placed ≡ behind es
unfolding evicted
evicted_placed r [] e = e
evicted_placed r (x ∷ es) e = refl

evicted_turn : (r : Record) (es : List Placement) → ((evicted r es).turn ≡ r.turn) × ((evicted r es).counts.misses ≡ r.counts.misses)
unfolding evicted
evicted_turn r [] = (refl, refl)
evicted_turn r (x ∷ es) = (refl, refl)

has_room : (slots : ℕ) (r : Record) → Room slots r (if nat_lt (length r.placed) slots then r else evicted r r.placed)
has_room slots r = by_test (nat_lt (length r.placed) slots) refl
  where
    by_test : (t : Bool) → nat_lt (length r.placed) slots ≡ t → Room slots r (if t then r else evicted r r.placed)
    by_test true e = record { placed = rw e refl; turn = refl; misses = refl }
    by_test false e = record { placed = rw e (evicted_placed r r.placed refl); turn = (evicted_turn r r.placed).0; misses = (evicted_turn r r.placed).1 }

-- the block arrives
arrives : (by : Setting) (v : ImageData) (r : Record) (c : ℕ) → Stays r (arrived by v r c) ⊎ Missed by r c (arrived by v r c)
unfolding arrived appended
arrives by v r c = by_test (is_placed r c) refl
  where
    by_test : (t : Bool) → is_placed r c ≡ t →
        let after : Record = if t then r else appended by v (if nat_lt (length r.placed) by.slots then r else evicted r r.placed) c in
        Stays r after ⊎ Missed by r c after
    by_test true e = inl (stays_itself r)
    by_test false e =
        let m = has_room by.slots r in
        inr (record {
          absent = e;
          first = (if nat_lt (length r.placed) by.slots then r else evicted r r.placed).counts.misses % by.slots * by.slot_words;
          placed = rw (m.placed, m.turn) refl;
          turn = m.turn;
          misses = ap (λ (n : ℕ). n + 1) m.misses;
        })

-- a link put in behind it changes nothing of that
linked_behind : (by : Setting) (r m t : Record) (c : ℕ) → Stays r m ⊎ Missed by r c m → Stays m t → Stays r t ⊎ Missed by r c t
linked_behind by r m t c (inl s) l = inl (record { placed = l.placed ∙ s.placed; turn = l.turn ∙ s.turn; misses = l.misses ∙ s.misses })
linked_behind by r m t c (inr s) l = inr (record { absent = s.absent; first = s.first; placed = l.placed ∙ s.placed; turn = l.turn ∙ s.turn; misses = l.misses ∙ s.misses })

goes : (by : Setting) (v : ImageData) (r : Record) (t : Transfer) (p : Option (ℕ × ℕ)) → Moves by r p (went arrived with_link by v r t p)
unfolding went counted is_placed
goes by v r t None = stays_itself r
goes by v r t (Some p) = linked_behind by r (arrived by v (counted r) p.0) _ p.0 (from_counted (arrives by v (counted r) p.0)) (over_stays (arrived by v (counted r) p.0) t p)
  where
    from_counted : Stays (counted r) (arrived by v (counted r) p.0) ⊎ Missed by (counted r) p.0 (arrived by v (counted r) p.0) →
        Stays r (arrived by v (counted r) p.0) ⊎ Missed by r p.0 (arrived by v (counted r) p.0)
    from_counted (inl s) = inl (record { placed = s.placed; turn = s.turn; misses = s.misses })
    from_counted (inr s) = inr (record { absent = s.absent; first = s.first; placed = s.placed; turn = s.turn; misses = s.misses })

pub moves : (by : Setting) (v : ImageData) (r : Record) (t : Transfer) → Moves by r (place_of v (target_of t)) (fifo by r v t)
unfolding served_by
moves by v r t = over (is_over_link r t) (place_of v (target_of t)) _ (goes by v r t (place_of v (target_of t)))
  where
    over : (o : Bool) (p : Option (ℕ × ℕ)) (m : Record) → Moves by r p m → Moves by r p (if o then r else m)
    over true None m s = stays_itself r
    over true (Some p) m s = inl (stays_itself r)
    over false p m s = s
