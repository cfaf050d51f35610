-- An event of the engine, against its definition.
use Rattle.std.proofs.Common.{◌≡◌, ℕ, suc, zero, ◌+◌, ◌-◌, ◌*◌, ◌<◌, ◌≤◌, ◌==◌, ◌&&◌, ◌||◌, List, [], ◌∷◌, ◌++◌, map, remove, filter, Bool, true, false, not, cond, if◌then◌else◌, length, slice_index, slice_get, slice_set, Some, None, Option, arith, refl, sym, ◌∙◌, ap, subst, inl, inr}
use Rattle.std.specs.List.{list_any, position_from}
use Rattle.std.proofs.lemmas.List.{get_or-set_other, get_or-set_same}
use Rattle.std.proofs.lemmas.Bool.{cases_eq, eq-eqb, ne_eqb, or_left, or_right, false_from_ne_true}
use Rattle.std.proofs.lemmas.Nat.{same_from_place}
use Rattle.swi_image.specs.Format.{ImageData}
use Rattle.swi_image.specs.Place.{length_at}
use Rattle.swi_rom.specs.Record.{Placement, Link, Has, Placed, same_link}
use Rattle.swi_rom.specs.Policy.{is_undone, is_kept, evicted, first_of}
use Rattle.swi_rom.specs.Found.{first_in_has}
use Rattle.swi_engine.specs.declared.joints.Joint.{Joint}
use Rattle.swi_engine.specs.declared.copying.Copying.{Copying}
use Rattle.swi_engine.specs.Engine.{copies_begun, copy_of, copy_in, numbers, engine_words, engine_copies, is_taken, lowest, free_slot, wrote_next, with_block, oldest_but, others, newest_into, undone}
use Rattle.swi_engine.specs.State.{EngineData, kept_by, setting_of, spot, link_of, used}
use Rattle.swi_engine.specs.Sound.{Standing, HasCopy, CopyIs, CopyStands}
use Rattle.swi_engine.specs.Moves.{leads_in, is_block_in, undone_data, left_data, placed_data, wrote_data}
use Rattle.swi_rom.specs.Links.{same_same, same_is}
use Rattle.swi_engine.specs.Seats.{placed_slot, slot_placed}
use Rattle.swi_engine.proofs.Shapes.{has_get, has_index, removed_apart, remove_has, removed_distinct}

-- the further numbers of the record
pub copy_kept : (e : EngineData) → copy_of (kept_by e) ≡ e.copy
copy_kept e = by_copy e.words e.copies e.copy
  where
    by_copy : (w n : ℕ) (c : Option Copying) → copy_in (numbers w n c) ≡ c
    by_copy w n None = refl
    by_copy w n (Some c) = refl

pub words_kept : (e : EngineData) → engine_words (kept_by e) ≡ e.words
words_kept e = by_copy e.words e.copies e.copy
  where
    by_copy : (w n : ℕ) (c : Option Copying) → slice_index (numbers w n c) 0 ≡ w
    by_copy w n None = refl
    by_copy w n (Some c) = refl

pub copies_kept : (e : EngineData) → engine_copies (kept_by e) ≡ e.copies
copies_kept e = by_copy e.words e.copies e.copy
  where
    by_copy : (w n : ℕ) (c : Option Copying) → slice_index (numbers w n c) 1 ≡ n
    by_copy w n None = refl
    by_copy w n (Some c) = refl

-- a block that is put into a slot beside the queue
pub spots_same : (size : ℕ) (blocks : List ℕ) (slot b : ℕ) (ns : List ℕ) → (Has ns slot → ⊥) → map (λ n. spot size (slice_set blocks slot b) n) ns ≡ map (λ n. spot size blocks n) ns
spots_same size blocks slot b [] none = refl
spots_same size blocks slot b (n ∷ ns) none =
    let here : slice_index (slice_set blocks slot b) n ≡ slice_index blocks n = get_or-set_other blocks slot n b 0 (λ (s : n ≡ slot). none (inl s)) in
    rw here (ap (λ (ps : List Placement). spot size blocks n ∷ ps) (spots_same size blocks slot b ns (λ h. none (inr h))))

map_append : (size : ℕ) (blocks ns : List ℕ) (n : ℕ) → map (λ m. spot size blocks m) (ns ++ n ∷ []) ≡ map (λ m. spot size blocks m) ns ++ spot size blocks n ∷ []
map_append size blocks [] n = refl
map_append size blocks (m ∷ ms) n = ap (λ (ps : List Placement). spot size blocks m ∷ ps) (map_append size blocks ms n)

pub spots_placed : (size : ℕ) (blocks : List ℕ) (slot b : ℕ) (ns : List ℕ) → (Has ns slot → ⊥) → slot < length blocks →
    map (λ n. spot size (slice_set blocks slot b) n) (ns ++ slot ∷ []) ≡ map (λ n. spot size blocks n) ns ++ record { program = 0; block = b; first = slot * size } ∷ []
spots_placed size blocks slot b ns none lt =
    let here : slice_index (slice_set blocks slot b) slot ≡ b = get_or-set_same blocks slot b 0 lt in
    map_append size (slice_set blocks slot b) ns slot ∙ ap (λ (ps : List Placement). ps ++ spot size (slice_set blocks slot b) slot ∷ []) (spots_same size blocks slot b ns none)
    ∙ ap (λ (c : ℕ). map (λ n. spot size blocks n) ns ++ record { program = 0; block = c; first = slot * size } ∷ []) here

-- a word of the copy is written
pub wrote_kept : (e : EngineData) (v : ImageData) (c : Copying) → (Has e.queue c.slot → ⊥) → c.slot < length e.blocks → kept_by (wrote_data e c (length_at v c.block)) ≡ wrote_next e.size v (kept_by e) c
wrote_kept e v c none lt = rw (words_kept e, copies_kept e) (by_test (c.done + 1 == length_at v c.block))
  where
    by_test : (t : Bool) → kept_by (if t then record (placed_data e c.block c.slot (length_at v c.block)) { words = e.words + 1; copies = e.copies + 1 } else record e { copy = Some (record c { done = c.done + 1 }); words = e.words + 1 })
        ≡ (if t then record (kept_by e) { placed = with_block (kept_by e) c.block (c.slot * e.size); more = numbers (e.words + 1) (e.copies + 1) None } else record (kept_by e) { more = numbers (e.words + 1) e.copies (Some (record c { done = c.done + 1 })) })
    by_test true = ap (λ (ps : List Placement). record (kept_by e) { placed = ps; more = numbers (e.words + 1) (e.copies + 1) None }) (spots_placed e.size e.blocks c.slot c.block e.queue none lt)
    by_test false = refl

-- whether a block is placed
pub placed_is : (size : ℕ) (blocks : List ℕ) (b : ℕ) (ns : List ℕ) → list_any (λ (p : Placement). p.program == 0 && p.block == b) (map (λ n. spot size blocks n) ns) ≡ list_any (λ n. is_block_in blocks b n) ns
placed_is size blocks b [] = refl
placed_is size blocks b (n ∷ ns) = ap (λ (t : Bool). is_block_in blocks b n || t) (placed_is size blocks b ns)

-- the place of the first element that passes a test
pub found : {X : Type 0} (t : X → Bool) (i k : ℕ) (xs : List X) → position_from t i xs ≡ Some k → (i ≤ k) × (k < i + length xs) × ((x : X) × (slice_get xs (k - i) ≡ Some x) × (t x ≡ true))
found t i k [] e = absurd cc
found {X = X} t i k (x ∷ xs) e = one (t x) refl e (λ r. found t (i + 1) k xs r)
  where
    later : (i k : ℕ) → i + 1 ≤ k → suc (k - (i + 1)) ≡ k - i
    later i k le = omega arith

    one : (b : Bool) → t x ≡ b → cond b (Some i) (position_from t (i + 1) xs) ≡ Some k → (position_from t (i + 1) xs ≡ Some k → (i + 1 ≤ k) × (k < i + 1 + length xs) × ((y : X) × (slice_get xs (k - (i + 1)) ≡ Some y) × (t y ≡ true))) →
        (i ≤ k) × (k < i + length (x ∷ xs)) × ((y : X) × (slice_get (x ∷ xs) (k - i) ≡ Some y) × (t y ≡ true))
    one true test s rest =
        let same : i ≡ k = cc in
        let none : k - i ≡ 0 = omega (arith, same) in
        (omega (arith, same), omega (arith, same), (x, rw none refl, test))
    one false test s rest =
        let w = rest s in
        let at : k - i ≡ suc (k - (i + 1)) = sym (later i k w.0) in
        (omega (arith, w.0), omega (arith, w.1), (w.2.0, rw at w.2.1, w.2.2))

pub found_any : {X : Type 0} (t : X → Bool) (i k : ℕ) (xs : List X) → position_from t i xs ≡ Some k → list_any t xs ≡ true
found_any t i k [] e = absurd cc
found_any t i k (x ∷ xs) e = one (t x) e (λ r. found_any t (i + 1) k xs r)
  where
    one : (b : Bool) → cond b (Some i) (position_from t (i + 1) xs) ≡ Some k → (position_from t (i + 1) xs ≡ Some k → list_any t xs ≡ true) → (b || list_any t xs) ≡ true
    one true s rest = refl
    one false s rest = rest s

pub missing : {X : Type 0} (t : X → Bool) (i : ℕ) (xs : List X) → position_from t i xs ≡ None → (x : X) → Has xs x → t x ≡ false
missing t i [] e x h = absurd h
missing {X = X} t i (y ∷ ys) e x h = one (t y) refl e (λ r z hz. missing t (i + 1) ys r z hz) h
  where
    one : (b : Bool) → t y ≡ b → cond b (Some i) (position_from t (i + 1) ys) ≡ None → (position_from t (i + 1) ys ≡ None → (z : X) → Has ys z → t z ≡ false) → Has (y ∷ ys) x → t x ≡ false
    one true test s rest h = absurd cc
    one false test s rest (inl is) = ap t (sym is) ∙ test
    one false test s rest (inr h) = rest s x h

pub any_false : {X : Type 0} (t : X → Bool) (xs : List X) → ((x : X) → Has xs x → t x ≡ false) → list_any t xs ≡ false
any_false t [] f = refl
any_false t (x ∷ xs) f = rw (f x (inl refl)) (any_false t xs (λ y h. f y (inr h)))

pub any_true : {X : Type 0} (t : X → Bool) (xs : List X) (x : X) → Has xs x → t x ≡ true → list_any t xs ≡ true
any_true t [] x h e = absurd h
any_true t (y ∷ ys) x (inl s) e = or_left _ _ (ap t s ∙ e)
any_true t (y ∷ ys) x (inr h) e = or_right _ _ (any_true t ys x h e)

-- the lowest free slot
taken_is : (size : ℕ) (blocks : List ℕ) (n : ℕ) (ns : List ℕ) → is_taken size (map (λ m. spot size blocks m) ns) n ≡ list_any (λ m. m * size == n * size) ns
taken_is size blocks n [] = refl
taken_is size blocks n (m ∷ ms) = ap (λ (t : Bool). (m * size == n * size) || t) (taken_is size blocks n ms)

pub lowest_is : (size : ℕ) (ps : List Placement) (n k to : ℕ) → n ≤ to → to < n + k → ((m : ℕ) → m < to → is_taken size ps m ≡ true) → is_taken size ps to ≡ false → lowest size ps n k ≡ Some to
unfolding lowest
lowest_is size ps n zero to le lt taken free = absurd (omega (arith, le, lt))
lowest_is size ps n (suc k) to le lt taken free = elim (cases_eq n to) [
  | inl s ↦ rw (ap (λ (m : ℕ). is_taken size ps m) s ∙ free) (ap (λ (m : ℕ). Some m) s)
  | inr ne ↦ rw (taken n (below n to le ne)) (lowest_is size ps (n + 1) k to (omega (arith, below n to le ne)) (omega (arith, lt)) taken free)
]
  where
    below : (n to : ℕ) → n ≤ to → (n ≡ to → ⊥) → n < to
    below n to le ne = grind (arith)

pub lowest_none : (size : ℕ) (ps : List Placement) (n k : ℕ) → ((m : ℕ) → n ≤ m → m < n + k → is_taken size ps m ≡ true) → lowest size ps n k ≡ None
unfolding lowest
lowest_none size ps n zero taken = refl
lowest_none size ps n (suc k) taken = rw (taken n (omega arith) (omega arith)) (lowest_none size ps (n + 1) k (λ m le lt. taken m (omega (arith, le)) (omega (arith, lt))))

queued_taken : (e : EngineData) (n : ℕ) → Has e.queue n → is_taken e.size (kept_by e).placed n ≡ true
queued_taken e n h = taken_is e.size e.blocks n e.queue ∙ any_true (λ m. m * e.size == n * e.size) e.queue n h (eq-eqb _ _ refl)

unqueued_free : (e : EngineData) (n : ℕ) → 2 ≤ e.size → (Has e.queue n → ⊥) → is_taken e.size (kept_by e).placed n ≡ false
unqueued_free e n le none =
    taken_is e.size e.blocks n e.queue
    ∙ any_false (λ m. m * e.size == n * e.size) e.queue (λ m h. ne_eqb _ _ (λ (s : m * e.size ≡ n * e.size).
    let same = same_from_place m 0 n 0 e.size (omega arith) (omega arith) (ap (λ (x : ℕ). x + 0) s) in
    none (subst (λ (x : ℕ). Has e.queue x) same.0 h)))

pub free_is : (e : EngineData) (v : ImageData) (words : List ℕ) → Standing e v words → e.copy ≡ None → length e.queue < e.slots → free_slot (setting_of e) (kept_by e) ≡ Some (length e.queue)
free_is e v words stands none room =
    let few : used e ≡ length e.queue + 0 = ap (λ (k : Option Copying). length e.queue + copies_begun k) none in
    lowest_is e.size (kept_by e).placed 0 e.slots (length e.queue) (omega arith) (omega (arith, room))
    (λ m lt. elim (stands.filled m (omega (arith, lt, few))) [ inl h ↦ queued_taken e m h | inr h ↦ absurd (no_copy e.copy m none h) ])
    (unqueued_free e (length e.queue) stands.shape.size_least (λ h. omega (arith, stands.low (length e.queue) h, few)))
  where
    no_copy : (k : Option Copying) (n : ℕ) → k ≡ None → HasCopy k n → ⊥
    no_copy None n e h = h
    no_copy (Some c) n e h = cc

pub free_none : (e : EngineData) (v : ImageData) (words : List ℕ) → Standing e v words → e.copy ≡ None → e.slots ≤ length e.queue → free_slot (setting_of e) (kept_by e) ≡ None
free_none e v words stands none full =
    let few : used e ≡ length e.queue + 0 = ap (λ (k : Option Copying). length e.queue + copies_begun k) none in
    lowest_none e.size (kept_by e).placed 0 e.slots
    (λ m le lt. elim (stands.filled m (omega (arith, lt, full, few))) [ inl h ↦ queued_taken e m h | inr h ↦ absurd (no_copy e.copy m none h) ])
  where
    no_copy : (k : Option Copying) (n : ℕ) → k ≡ None → HasCopy k n → ⊥
    no_copy None n e h = h
    no_copy (Some c) n e h = cc

-- the copy's own slot is the lowest free one
pub free_copy : (e : EngineData) (v : ImageData) (words : List ℕ) (c : Copying) → Standing e v words → e.copy ≡ Some c → free_slot (setting_of e) (kept_by e) ≡ Some c.slot
free_copy e v words c stands is =
    let was : CopyStands e v words c = subst (λ (o : Option Copying). CopyIs o e v words) is stands.copy_is in
    lowest_is e.size (kept_by e).placed 0 e.slots c.slot (omega arith) (omega (arith, was.slot_used, stands.shape.used_most))
    (λ m lt. elim (stands.filled m (omega (arith, lt, was.slot_used))) [
      | inl h ↦ queued_taken e m h
      | inr h ↦ absurd (let same : c.slot ≡ m = subst (λ (o : Option Copying). HasCopy o m) is h in omega (arith, same, lt))
    ])
    (unqueued_free e c.slot stands.shape.size_least was.slot_free)

-- the oldest block but one
pub oldest_is : (size : ℕ) (blocks : List ℕ) (h i k : ℕ) (ns : List ℕ) → position_from (λ n. not (is_block_in blocks h n)) i ns ≡ Some k → oldest_but h (map (λ n. spot size blocks n) ns) ≡ Some (spot size blocks (slice_index ns (k - i)))
oldest_is size blocks h i k [] e = absurd cc
oldest_is size blocks h i k (n ∷ ns) e = one (slice_index blocks n == h) e (λ r. (found (λ m. not (is_block_in blocks h m)) (i + 1) k ns r).0) (λ r. oldest_is size blocks h (i + 1) k ns r)
  where
    later : (i k : ℕ) → i + 1 ≤ k → suc (k - (i + 1)) ≡ k - i
    later i k le = omega arith

    one : (t : Bool) → cond (not t) (Some i) (position_from (λ m. not (is_block_in blocks h m)) (i + 1) ns) ≡ Some k → (position_from (λ m. not (is_block_in blocks h m)) (i + 1) ns ≡ Some k → i + 1 ≤ k) →
        (position_from (λ m. not (is_block_in blocks h m)) (i + 1) ns ≡ Some k → oldest_but h (map (λ m. spot size blocks m) ns) ≡ Some (spot size blocks (slice_index ns (k - (i + 1))))) →
        (if t then oldest_but h (map (λ m. spot size blocks m) ns) else Some (spot size blocks n)) ≡ Some (spot size blocks (slice_index (n ∷ ns) (k - i)))
    one true s le rest = rest s ∙ ap (λ (x : ℕ). Some (spot size blocks (slice_index (n ∷ ns) x))) (later i k (le s))
    one false s le rest = let same : i ≡ k = cc in let none : k - i ≡ 0 = omega (arith, same) in rw none refl

pub oldest_none : (size : ℕ) (blocks : List ℕ) (h i : ℕ) (ns : List ℕ) → position_from (λ n. not (is_block_in blocks h n)) i ns ≡ None → oldest_but h (map (λ n. spot size blocks n) ns) ≡ None
oldest_none size blocks h i [] e = refl
oldest_none size blocks h i (n ∷ ns) e = one (slice_index blocks n == h) e (λ r. oldest_none size blocks h (i + 1) ns r)
  where
    one : (t : Bool) → cond (not t) (Some i) (position_from (λ m. not (is_block_in blocks h m)) (i + 1) ns) ≡ None → (position_from (λ m. not (is_block_in blocks h m)) (i + 1) ns ≡ None → oldest_but h (map (λ m. spot size blocks m) ns) ≡ None) →
        (if t then oldest_but h (map (λ m. spot size blocks m) ns) else Some (spot size blocks n)) ≡ None
    one true s rest = rest s
    one false s rest = absurd cc

-- a placed block of the program
abbrev pub own : ℕ → ℕ → Placement
own b f = record { program = 0; block = b; first = f }

-- the link into a block from another one, as the record sees it
pub undone_is : (b f : ℕ) (j : Joint) → is_undone (own b f) (link_of j) ≡ leads_in j b
unfolding is_undone
undone_is b f j = refl

pub newest_is : (b f i k : ℕ) (js : List Joint) → position_from (λ j. leads_in j b) i js ≡ Some k →
    (j : Joint) × (slice_get js (k - i) ≡ Some j) × (newest_into (own b f) (map (λ l. link_of l) js) ≡ Some (link_of j))
newest_is b f i k [] s = absurd cc
newest_is b f i k (j ∷ js) s =
    one (leads_in j b) (undone_is b f j) s (λ r. (found (λ j. leads_in j b) (i + 1) k js r).0) (λ r. newest_is b f (i + 1) k js r)
  where
    later : (i k : ℕ) → i + 1 ≤ k → suc (k - (i + 1)) ≡ k - i
    later i k le = omega arith

    one : (t : Bool) → is_undone (own b f) (link_of j) ≡ t → cond t (Some i) (position_from (λ j. leads_in j b) (i + 1) js) ≡ Some k → (position_from (λ j. leads_in j b) (i + 1) js ≡ Some k → i + 1 ≤ k) →
        (position_from (λ j. leads_in j b) (i + 1) js ≡ Some k → (l : Joint) × (slice_get js (k - (i + 1)) ≡ Some l) × (newest_into (own b f) (map (λ l. link_of l) js) ≡ Some (link_of l))) →
        (l : Joint) × (slice_get (j ∷ js) (k - i) ≡ Some l) × ((if is_undone (own b f) (link_of j) then Some (link_of j) else newest_into (own b f) (map (λ l. link_of l) js)) ≡ Some (link_of l))
    one true is r le rest = let same : i ≡ k = cc in let none : k - i ≡ 0 = omega (arith, same) in (j, rw none refl, rw is refl)
    one false is r le rest = let w = rest r in let at : k - i ≡ suc (k - (i + 1)) = sym (later i k (le r)) in (w.0, rw at w.1, rw is w.2)

pub newest_none : (b f i : ℕ) (js : List Joint) → position_from (λ j. leads_in j b) i js ≡ None → newest_into (own b f) (map (λ l. link_of l) js) ≡ None
newest_none b f i [] s = refl
newest_none b f i (j ∷ js) s = one (leads_in j b) (undone_is b f j) s (λ r. newest_none b f (i + 1) js r)
  where
    one : (t : Bool) → is_undone (own b f) (link_of j) ≡ t → cond t (Some i) (position_from (λ j. leads_in j b) (i + 1) js) ≡ None → (position_from (λ j. leads_in j b) (i + 1) js ≡ None → newest_into (own b f) (map (λ l. link_of l) js) ≡ None) →
        (if is_undone (own b f) (link_of j) then Some (link_of j) else newest_into (own b f) (map (λ l. link_of l) js)) ≡ None
    one true is r rest = absurd cc
    one false is r rest = rw is (rest r)

-- the links without one of them
same_block : (j k : Joint) → same_link (link_of k) (link_of j) ≡ true → (k.block ≡ j.block) × (k.offset ≡ j.offset)
same_block j k e =
    let s = same_is (link_of k) (link_of j) e in
    (ap (λ (l : Link). l.block) s, ap (λ (l : Link). l.offset) s)

pub same_at : (e : EngineData) (v : ImageData) (words : List ℕ) (j k : Joint) → Standing e v words → Has e.joints j → Has e.joints k → same_link (link_of k) (link_of j) ≡ true → k.at ≡ j.at
same_at e v words j k stands h h' same =
    let w = same_block j k same in
    let s = stands.linked j h in
    let t = stands.linked k h' in
    let home : t.home ≡ s.home = stands.distinct t.home s.home t.home_queued s.home_queued (t.home_is ∙ w.0 ∙ sym s.home_is) in
    t.index ∙ ap (λ (n : ℕ). n * e.size + k.offset) home ∙ ap (λ (o : ℕ). s.home * e.size + o) w.1 ∙ sym s.index

all_kept : (l : Link) (ks : List Joint) → ((k : Joint) → Has ks k → same_link (link_of k) l ≡ false) → filter (λ m. not (same_link m l)) (map (λ k. link_of k) ks) ≡ map (λ k. link_of k) ks
all_kept l [] none = refl
all_kept l (k ∷ ks) none = rw (none k (inl refl)) (ap (λ (ls : List Link). link_of k ∷ ls) (all_kept l ks (λ m h. none m (inr h))))

without_is : (ks : List Joint) (i : ℕ) (j : Joint) → slice_get ks i ≡ Some j → same_link (link_of j) (link_of j) ≡ true → ((k : Joint) → Has (remove ks i) k → same_link (link_of k) (link_of j) ≡ false) →
    filter (λ m. not (same_link m (link_of j))) (map (λ k. link_of k) ks) ≡ map (λ k. link_of k) (remove ks i)
without_is [] zero j e same none = absurd cc
without_is [] (suc i) j e same none = absurd cc
without_is (k ∷ ks) zero j e same none =
    let is : k ≡ j = cc in
    rw (ap (λ (l : Joint). same_link (link_of l) (link_of j)) is ∙ same) (all_kept (link_of j) ks none)
without_is (k ∷ ks) (suc i) j e same none = rw (none k (inl refl)) (ap (λ (ls : List Link). link_of k ∷ ls) (without_is ks i j e same (λ m h. none m (inr h))))

pub undone_kept : (e : EngineData) (v : ImageData) (words : List ℕ) (k : ℕ) (j : Joint) → Standing e v words → slice_get e.joints k ≡ Some j → kept_by (undone_data e k) ≡ undone (kept_by e) (link_of j)
undone_kept e v words k j stands get =
    ap (λ (ls : List Link). record (kept_by e) { links = ls; counts = record e.counts { unlinks = e.counts.unlinks + 1 } })
    (sym (without_is e.joints k j get (same_same (link_of j))
    (λ i h. false_from_ne_true _ (λ (s : same_link (link_of i) (link_of j) ≡ true).
    removed_apart e.joints k j i stands.apart get h (same_at e v words j i stands (has_get e.joints k j get) (remove_has e.joints k i h) s)))))

-- the placed blocks without one of them
others_all : (size : ℕ) (blocks : List ℕ) (b : ℕ) (p : Placement) (ns : List ℕ) → p.block ≡ b → ((n : ℕ) → Has ns n → slice_index blocks n ≡ b → ⊥) → filter (λ (f : Placement). not (f.block == p.block)) (map (λ n. spot size blocks n) ns) ≡ map (λ n. spot size blocks n) ns
others_all size blocks b p [] is none = refl
others_all size blocks b p (n ∷ ns) is none =
    rw (ne_eqb (slice_index blocks n) p.block (λ (s : slice_index blocks n ≡ p.block). none n (inl refl) (s ∙ is)))
    (ap (λ (ps : List Placement). spot size blocks n ∷ ps) (others_all size blocks b p ns is (λ m h. none m (inr h))))

others_is : (size : ℕ) (blocks : List ℕ) (p : Placement) (ns : List ℕ) (k : ℕ) → k < length ns → slice_index blocks (slice_index ns k) ≡ p.block → ((n : ℕ) → Has (remove ns k) n → slice_index blocks n ≡ p.block → ⊥) →
    others p (map (λ n. spot size blocks n) ns) ≡ map (λ n. spot size blocks n) (remove ns k)
others_is size blocks p [] k lt is none = absurd (omega arith)
others_is size blocks p (n ∷ ns) zero lt is none = rw (eq-eqb _ _ is) (others_all size blocks p.block p ns refl none)
others_is size blocks p (n ∷ ns) (suc k) lt is none =
    rw (ne_eqb (slice_index blocks n) p.block (none n (inl refl)))
    (ap (λ (ps : List Placement). spot size blocks n ∷ ps) (others_is size blocks p ns k (omega arith) is (λ m h. none m (inr h))))

-- the links that stay, and those that are undone
pub kept_links : (b f : ℕ) (js : List Joint) →
    (filter (is_kept (own b f)) (map (λ j. link_of j) js) ≡ map (λ j. link_of j) (filter (λ j. not (j.block == b)) (filter (λ j. not (leads_in j b)) js)))
    × (length (filter (is_undone (own b f)) (map (λ j. link_of j) js)) ≡ length (filter (λ j. leads_in j b) js))
unfolding is_kept is_undone
kept_links b f [] = (refl, refl)
kept_links b f (j ∷ js) = one (j.block == b) (j.into == b) refl refl (kept_links b f js)
  where
    one : (x y : Bool) → (j.block == b) ≡ x → (j.into == b) ≡ y →
        (filter (is_kept (own b f)) (map (λ j. link_of j) js) ≡ map (λ j. link_of j) (filter (λ j. not (j.block == b)) (filter (λ j. not (leads_in j b)) js)))
        × (length (filter (is_undone (own b f)) (map (λ j. link_of j) js)) ≡ length (filter (λ j. leads_in j b) js)) →
        (filter (is_kept (own b f)) (map (λ j. link_of j) (j ∷ js)) ≡ map (λ j. link_of j) (filter (λ j. not (j.block == b)) (filter (λ j. not (leads_in j b)) (j ∷ js))))
        × (length (filter (is_undone (own b f)) (map (λ j. link_of j) (j ∷ js))) ≡ length (filter (λ j. leads_in j b) (j ∷ js)))
    one true y e g ih = (rw (e, e) ih.0, rw e ih.1)
    one false true e g ih = (rw (e, g) ih.0, rw (e, g) (ap suc ih.1))
    one false false e g ih = (rw (e, g, e) (ap (λ (ls : List Link). link_of j ∷ ls) ih.0), rw (e, g) ih.1)

pub filter_every : {X : Type 0} (p : X → Bool) (xs : List X) → ((x : X) → Has xs x → p x ≡ true) → filter p xs ≡ xs
filter_every p [] all = refl
filter_every {X = X} p (x ∷ xs) all = rw (all x (inl refl)) (ap (λ (ys : List X). x ∷ ys) (filter_every p xs (λ y h. all y (inr h))))

-- a block leaves, into which no link leads from another one any more
pub evicted_is : (e : EngineData) (k u f : ℕ) (js : List Joint) (rest : List Placement) →
    filter (λ j. not (j.block == slice_index e.blocks (slice_index e.queue k))) js ≡ filter (λ j. not (j.block == slice_index e.blocks (slice_index e.queue k))) (filter (λ j. not (leads_in j (slice_index e.blocks (slice_index e.queue k)))) e.joints) →
    u ≡ e.counts.unlinks + length (filter (λ j. leads_in j (slice_index e.blocks (slice_index e.queue k))) e.joints) → map (λ n. spot e.size e.blocks n) (remove e.queue k) ≡ rest →
    kept_by (left_data (record e { joints = js; counts = record e.counts { unlinks = u } }) k) ≡ evicted (kept_by e) (own (slice_index e.blocks (slice_index e.queue k)) f ∷ rest)
unfolding evicted
evicted_is e k u f js rest links number places =
    let w = kept_links (slice_index e.blocks (slice_index e.queue k)) f e.joints in
    rw (w.0, w.1, sym places, sym links) (ap (λ (n : ℕ). record (kept_by e) { placed = map (λ n. spot e.size e.blocks n) (remove e.queue k); links = map (λ j. link_of j) (filter (λ j. not (j.block == slice_index e.blocks (slice_index e.queue k))) js); counts = record e.counts { evictions = e.counts.evictions + 1; unlinks = n } }) number)

pub none_filtered : (b : ℕ) (js : List Joint) → ((j : Joint) → Has js j → leads_in j b ≡ false) → filter (λ j. leads_in j b) js ≡ []
none_filtered b [] none = refl
none_filtered b (j ∷ js) none = rw (none j (inl refl)) (none_filtered b js (λ i h. none i (inr h)))

pub left_kept : (e : EngineData) (v : ImageData) (words : List ℕ) (k : ℕ) → Standing e v words → k < length e.queue → ((j : Joint) → Has e.joints j → leads_in j (slice_index e.blocks (slice_index e.queue k)) ≡ false) →
    kept_by (left_data e k) ≡ evicted (kept_by e) (spot e.size e.blocks (slice_index e.queue k) ∷ others (spot e.size e.blocks (slice_index e.queue k)) (kept_by e).placed)
left_kept e v words k stands lt none =
    let b : ℕ = slice_index e.blocks (slice_index e.queue k) in
    let here = has_index e.queue k lt in
    let places = others_is e.size e.blocks (spot e.size e.blocks (slice_index e.queue k)) e.queue k lt refl
    (λ n h is. removed_distinct e.queue k stands.once lt (subst (λ (m : ℕ). Has (remove e.queue k) m) (stands.distinct n (slice_index e.queue k) (remove_has e.queue k n h) here is) h)) in
    evicted_is e k e.counts.unlinks (slice_index e.queue k * e.size) e.joints (others (spot e.size e.blocks (slice_index e.queue k)) (kept_by e).placed)
    (ap (λ (js : List Joint). filter (λ j. not (j.block == slice_index e.blocks (slice_index e.queue k))) js) (sym (filter_every (λ j. not (leads_in j (slice_index e.blocks (slice_index e.queue k)))) e.joints (λ j h. ap (λ (t : Bool). not t) (none j h)))))
    (omega (arith, ap (λ (js : List Joint). length js) (none_filtered (slice_index e.blocks (slice_index e.queue k)) e.joints none)))
    (sym places)

-- where a placed block's first word is
pub first_is : (e : EngineData) (v : ImageData) (words : List ℕ) (n b : ℕ) → Standing e v words → Has e.queue n → slice_index e.blocks n ≡ b → first_of (kept_by e) b ≡ n * e.size
unfolding first_of Placed
first_is e v words n b stands h is =
    first_in_has (kept_by e).placed 0 b (n * e.size) (subst (λ (c : ℕ). Placed (kept_by e) c (n * e.size)) is (slot_placed e n h))
    (λ g p. let w = placed_slot e b g p in sym w.3 ∙ ap (λ (m : ℕ). m * e.size) (stands.distinct w.0 n w.1 h (w.2 ∙ sym is)))

-- and where a link is
pub joint_first : (e : EngineData) (v : ImageData) (words : List ℕ) (j : Joint) → Standing e v words → Has e.joints j → first_of (kept_by e) j.block + j.offset ≡ j.at
joint_first e v words j stands h =
    let s = stands.linked j h in
    ap (λ (f : ℕ). f + j.offset) (first_is e v words s.home j.block stands s.home_queued s.home_is) ∙ sym s.index
