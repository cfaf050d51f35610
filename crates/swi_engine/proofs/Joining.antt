-- A change of the links, by the lists of their words.
use Rattle.std.proofs.Common.{◌≡◌, ◌⊎◌, ℕ, suc, zero, ◌+◌, ◌-◌, ◌*◌, ◌<◌, ◌≤◌, ◌==◌, ◌&&◌, Bool, true, false, not, cond, List, [], ◌∷◌, map, filter, remove, replicate, length, slice_get, slice_set, slice_index, slice_index_or, Some, None, Option, MatchOption, arith, refl, sym, ◌∙◌, ap, subst, inl, inr}
use Rattle.std.specs.List.{position_from}
use Rattle.std.proofs.lemmas.Bool.{cases_eq, cases_lt, eq-eqb, ne_eqb}
use Rattle.std.proofs.lemmas.Nat.{same_from_place}
use Rattle.std.proofs.lemmas.List.{length-set, length-map, length-replicate, get_or-map, get_or-set_same, get_or-set_other, get_or-replicate, get_or_past, get_or_read}
use Rattle.swi_image.specs.Format.{ImageData}
use Rattle.swi_image.specs.Place.{length_at}
use Rattle.swi_outside.specs.CacheRam.{RamState}
use Rattle.swi_links.specs.Chains
use Rattle.swi_links.specs.Chains.{ChainsData, IsFree, list_of, without}
use Rattle.swi_links.specs.Undone.{is_own}
use Rattle.swi_links.specs.Tells.{own_is, own_not, is_own_from}
use Rattle.swi_rom.specs.Record.{Has, ebreak}
use Rattle.swi_engine.specs.declared.joints.Joint.{Joint}
use Rattle.swi_engine.specs.State.{EngineData}
use Rattle.swi_engine.specs.Sound.{Apart, Standing, JointStands}
use Rattle.swi_engine.specs.Seats.{length_most, joint_inside, joint_at}
use Rattle.swi_engine.specs.Moves.{leads_in, undone_data, OneSet}
use Rattle.swi_engine.specs.Cleared.{OwnsLinks}
use Rattle.swi_engine.specs.Joints.{JointsData, read_at, stands_at, LinkAt, NoneInto, NewestInto, linked_if, linked_into, Tied}
use Rattle.swi_engine.proofs.Shapes.{has_get, has_index}

-- what the fields show
abbrev pub joints_of : List Joint → ChainsData → ChainsData → JointsData
joints_of table order into = record { words = length table; blocks = length into.lists; joints = map (λ at. read_at table at) (list_of order 0) }

-- filters and maps
filter_alike : (p q : Joint → Bool) (xs : List Joint) → ((x : Joint) → Has xs x → p x ≡ q x) → filter p xs ≡ filter q xs
filter_alike p q [] same = refl
filter_alike p q (x ∷ xs) same =
    ap (λ (t : Bool). cond t (x ∷ filter p xs) (filter p xs)) (same x (inl refl))
    ∙ ap (λ (ys : List Joint). cond (q x) (x ∷ ys) ys) (filter_alike p q xs (λ y h. same y (inr h)))

filter_all : (p : Joint → Bool) (xs : List Joint) → ((x : Joint) → Has xs x → p x ≡ true) → filter p xs ≡ xs
filter_all p [] all = refl
filter_all p (x ∷ xs) all =
    ap (λ (t : Bool). cond t (x ∷ filter p xs) (filter p xs)) (all x (inl refl))
    ∙ ap (λ (ys : List Joint). x ∷ ys) (filter_all p xs (λ y h. all y (inr h)))

filter_swap : (p q : ℕ → Bool) (xs : List ℕ) → filter p (filter q xs) ≡ filter q (filter p xs)
filter_swap p q [] = refl
filter_swap p q (x ∷ xs) = both (p x) (q x) refl refl (filter_swap p q xs)
  where
    both : (s t : Bool) → p x ≡ s → q x ≡ t → filter p (filter q xs) ≡ filter q (filter p xs) → filter p (cond t (x ∷ filter q xs) (filter q xs)) ≡ filter q (cond s (x ∷ filter p xs) (filter p xs))
    both true true e f r = rw (e, f) (ap (λ (ys : List ℕ). x ∷ ys) r)
    both true false e f r = rw f r
    both false true e f r = rw e r
    both false false e f r = r

filter_twice : (p q r : Joint → Bool) (xs : List Joint) → ((x : Joint) → r x ≡ (q x && p x)) → filter p (filter q xs) ≡ filter r xs
filter_twice p q r [] is = refl
filter_twice p q r (x ∷ xs) is = both (p x) (q x) refl (is x) (filter_twice p q r xs is)
  where
    both : (s t : Bool) → p x ≡ s → r x ≡ (t && s) → filter p (filter q xs) ≡ filter r xs → filter p (cond t (x ∷ filter q xs) (filter q xs)) ≡ cond (r x) (x ∷ filter r xs) (filter r xs)
    both true true e f k = rw (e, f) (ap (λ (ys : List Joint). x ∷ ys) k)
    both false true e f k = rw (e, f) k
    both s false e f k = rw f k

filter_map : (f : ℕ → Joint) (q : Joint → Bool) (xs : List ℕ) → filter q (map f xs) ≡ map f (filter (λ x. q (f x)) xs)
filter_map f q [] = refl
filter_map f q (x ∷ xs) = one (q (f x)) (filter_map f q xs)
  where
    one : (t : Bool) → filter q (map f xs) ≡ map f (filter (λ x. q (f x)) xs) → cond t (f x ∷ filter q (map f xs)) (filter q (map f xs)) ≡ map f (cond t (x ∷ filter (λ x. q (f x)) xs) (filter (λ x. q (f x)) xs))
    one true e = ap (λ (ys : List Joint). f x ∷ ys) e
    one false e = e

map_alike : (f g : ℕ → Joint) (xs : List ℕ) → ((x : ℕ) → Chains.Has xs x → f x ≡ g x) → map f xs ≡ map g xs
map_alike f g [] same = refl
map_alike f g (x ∷ xs) same = ap (λ (y : Joint). y ∷ map f xs) (same x (inl refl)) ∙ ap (λ (ys : List Joint). g x ∷ ys) (map_alike f g xs (λ y h. same y (inr h)))

words_alike : (p q : ℕ → Bool) (xs : List ℕ) → ((x : ℕ) → Chains.Has xs x → p x ≡ q x) → filter p xs ≡ filter q xs
words_alike p q [] same = refl
words_alike p q (x ∷ xs) same =
    ap (λ (t : Bool). cond t (x ∷ filter p xs) (filter p xs)) (same x (inl refl))
    ∙ ap (λ (ys : List ℕ). cond (q x) (x ∷ ys) ys) (words_alike p q xs (λ y h. same y (inr h)))

among : (p : ℕ → Bool) (xs : List ℕ) (x : ℕ) → Chains.Has (filter p xs) x → Chains.Has xs x
among p [] x h = h
among p (y ∷ ys) x h = one (p y) (among p ys x) h
  where
    one : (t : Bool) → (Chains.Has (filter p ys) x → Chains.Has ys x) → Chains.Has (cond t (y ∷ filter p ys) (filter p ys)) x → (y ≡ x) ⊎ Chains.Has ys x
    one true f (inl e) = inl e
    one true f (inr i) = inr (f i)
    one false f i = inr (f i)

mapped : (f : ℕ → Joint) (xs : List ℕ) (x : ℕ) → Chains.Has xs x → Has (map f xs) (f x)
mapped f [] x h = absurd h
mapped f (y ∷ ys) x (inl e) = inl (ap f e)
mapped f (y ∷ ys) x (inr h) = inr (mapped f ys x h)

-- a word that no list has
without_none : (at : ℕ) (xs : List ℕ) → (Chains.Has xs at → ⊥) → without at xs ≡ xs
without_none at [] none = refl
without_none at (y ∷ ys) none = rw (ne_eqb y at (λ (e : y ≡ at). none (inl e))) (ap (λ (zs : List ℕ). y ∷ zs) (without_none at ys (λ h. none (inr h))))

lists_without : (ls : List (List ℕ)) (at : ℕ) → ((s : ℕ) → Chains.Has (slice_index_or ls s []) at → ⊥) → map (λ (xs : List ℕ). without at xs) ls ≡ ls
lists_without [] at none = refl
lists_without (xs ∷ ls) at none = rw (without_none at xs (none 0)) (ap (λ (ys : List (List ℕ)). xs ∷ ys) (lists_without ls at (λ s. none (suc s))))

pub dropped_free : (c : ChainsData) (at : ℕ) → IsFree c at → c ≡ record c { lists = map (λ (xs : List ℕ). without at xs) c.lists }
dropped_free c at free = ap (λ (ls : List (List ℕ)). record c { lists = ls }) (sym (lists_without c.lists at free))

-- no links yet
pub empty_is : (table : List Joint) (order into : ChainsData) (words blocks : ℕ) → length table ≡ words → order ≡ record { words = words; lists = replicate 1 [] } → into ≡ record { words = words; lists = replicate blocks [] } →
    joints_of table order into ≡ record { words = words; blocks = blocks; joints = [] }
empty_is table order into words blocks long order_is into_is =
    rw (order_is, into_is, long, length-replicate {A = List ℕ} blocks []) refl

pub empty_tied : (table : List Joint) (order into : ChainsData) (words blocks : ℕ) → length table ≡ words → order ≡ record { words = words; lists = replicate 1 [] } → into ≡ record { words = words; lists = replicate blocks [] } →
    Tied table order into
empty_tied table order into words blocks long order_is into_is = rw (order_is, into_is) (record {
  order_words = sym long;
  into_words = sym long;
  one_list = refl;
  chained = λ b lt. get_or-replicate {A = List ℕ} blocks b [] [] (omega (arith, lt, length-replicate {A = List ℕ} blocks []));
})

-- the newest link into a block
first_none : (f : ℕ → Joint) (q : Joint → Bool) (i : ℕ) (xs : List ℕ) → None ≡ slice_get (filter (λ x. q (f x)) xs) 0 → position_from q i (map f xs) ≡ None
first_none f q i [] e = refl
first_none f q i (x ∷ xs) e = one (q (f x)) (first_none f q (i + 1) xs) e
  where
    one : (t : Bool) → (None ≡ slice_get (filter (λ x. q (f x)) xs) 0 → position_from q (i + 1) (map f xs) ≡ None) → None ≡ slice_get (cond t (x ∷ filter (λ x. q (f x)) xs) (filter (λ x. q (f x)) xs)) 0 →
        cond t (Some i) (position_from q (i + 1) (map f xs)) ≡ None
    one true r e = absurd cc
    one false r e = r e

first_some : (f : ℕ → Joint) (q : Joint → Bool) (i at : ℕ) (xs : List ℕ) → ((x : ℕ) → (f x).at ≡ x) → Some at ≡ slice_get (filter (λ x. q (f x)) xs) 0 →
    (k : ℕ) × (position_from q i (map f xs) ≡ Some (i + k)) × LinkAt (map f xs) k at
first_some f q i at [] stands e = absurd cc
first_some f q i at (x ∷ xs) stands e = one (q (f x)) (first_some f q (i + 1) at xs stands) e
  where
    one : (t : Bool) → (Some at ≡ slice_get (filter (λ x. q (f x)) xs) 0 → (k : ℕ) × (position_from q (i + 1) (map f xs) ≡ Some (i + 1 + k)) × LinkAt (map f xs) k at) →
        Some at ≡ slice_get (cond t (x ∷ filter (λ x. q (f x)) xs) (filter (λ x. q (f x)) xs)) 0 →
        (k : ℕ) × (cond t (Some i) (position_from q (i + 1) (map f xs)) ≡ Some (i + k)) × LinkAt (f x ∷ map f xs) k at
    one true r e = let same : x ≡ at = cc in let none : i ≡ i + 0 = omega arith in (0, ap (λ (n : ℕ). Some n) none, (f x, refl, stands x ∙ same))
    one false r e = let w = r e in let more : i + 1 + w.0 ≡ i + suc w.0 = omega arith in (suc w.0, w.1 ∙ ap (λ (n : ℕ). Some n) more, w.2)

newest_of : (table : List Joint) (b : ℕ) (xs : List ℕ) (r : Option ℕ) → r ≡ slice_get (filter (λ at. leads_in (read_at table at) b) xs) 0 →
    MatchOption r (NoneInto (map (λ at. read_at table at) xs) b) (λ at. NewestInto (map (λ at. read_at table at) xs) b at)
newest_of table b xs None e = first_none (λ at. read_at table at) (λ j. leads_in j b) 0 xs e
newest_of table b xs (Some at) e =
    let w = first_some (λ at. read_at table at) (λ j. leads_in j b) 0 at xs (λ x. refl) e in
    let none : 0 + w.0 ≡ w.0 = omega arith in
    (w.0, w.1 ∙ ap (λ (n : ℕ). Some n) none, w.2)

pub newest_call : (table : List Joint) (order into : ChainsData) (now : JointsData) (b : ℕ) (r : Option ℕ) → joints_of table order into ≡ now → Tied table order into → b < now.blocks → r ≡ slice_get (list_of into b) 0 →
    MatchOption r (NoneInto now.joints b) (λ at. NewestInto now.joints b at)
newest_call table order into now b r same tied lt is =
    subst (λ (d : JointsData). MatchOption r (NoneInto d.joints b) (λ at. NewestInto d.joints b at)) same
    (newest_of table b (list_of order 0) r (is ∙ ap (λ (xs : List ℕ). slice_get xs 0) (tied.chained b (omega (arith, lt, ap (λ (d : JointsData). d.blocks) same)))))

-- no list has a word at which no link stands
pub free_order : (table : List Joint) (order into : ChainsData) (now : JointsData) (at : ℕ) → joints_of table order into ≡ now → Tied table order into → ((j : Joint) → Has now.joints j → j.at ≡ at → ⊥) → IsFree order at
free_order table order into now at same tied none = λ s h. elim (cases_lt s 1) [
  | inl lt ↦ (let first : s ≡ 0 = omega (arith, lt) in
      none (read_at table at) (subst (λ (d : JointsData). Has d.joints (read_at table at)) same (mapped (λ x. read_at table x) (list_of order 0) at (subst (λ (n : ℕ). Chains.Has (list_of order n) at) first h))) refl)
  | inr past ↦ subst (λ (xs : List ℕ). Chains.Has xs at) (get_or_past order.lists s [] (omega (arith, past, tied.one_list))) h
]

pub free_into : (table : List Joint) (order into : ChainsData) (now : JointsData) (at : ℕ) → joints_of table order into ≡ now → Tied table order into → ((j : Joint) → Has now.joints j → j.at ≡ at → ⊥) → IsFree into at
free_into table order into now at same tied none = λ s h. elim (cases_lt s (length into.lists)) [
  | inl lt ↦ free_order table order into now at same tied none 0 (among (λ x. leads_in (read_at table x) s) (list_of order 0) at (subst (λ (xs : List ℕ). Chains.Has xs at) (tied.chained s lt) h))
  | inr past ↦ subst (λ (xs : List ℕ). Chains.Has xs at) (get_or_past into.lists s [] past) h
]

-- a link comes first in its lists
linked_long : (c : ChainsData) (j : Joint) → length (linked_into c j) ≡ length c.lists
linked_long c j = one (leads_in j j.into)
  where
    one : (t : Bool) → length (linked_if t c.lists j.into j.at (list_of c j.into)) ≡ length c.lists
    one true = length-set c.lists j.into (j.at ∷ list_of c j.into)
    one false = refl

linked_list : (c : ChainsData) (j : Joint) (b : ℕ) → b < length c.lists → slice_index_or (linked_into c j) b [] ≡ cond (leads_in j b) (j.at ∷ list_of c b) (list_of c b)
linked_list c j b lt = elim (cases_eq b j.into) [
  | inl is ↦ subst (λ (n : ℕ). slice_index_or (linked_into c j) n [] ≡ cond (leads_in j n) (j.at ∷ list_of c n) (list_of c n)) (sym is) (here (leads_in j j.into) (omega (arith, lt, is)))
  | inr ne ↦ there (leads_in j j.into) ne ∙ ap (λ (t : Bool). cond t (j.at ∷ list_of c b) (list_of c b)) (sym (other ne))
]
  where
    here : (t : Bool) → j.into < length c.lists → slice_index_or (linked_if t c.lists j.into j.at (list_of c j.into)) j.into [] ≡ cond t (j.at ∷ list_of c j.into) (list_of c j.into)
    here true lt = get_or-set_same c.lists j.into (j.at ∷ list_of c j.into) [] lt
    here false lt = refl

    there : (t : Bool) → (b ≡ j.into → ⊥) → slice_index_or (linked_if t c.lists j.into j.at (list_of c j.into)) b [] ≡ list_of c b
    there true ne = get_or-set_other c.lists j.into b (j.at ∷ list_of c j.into) [] ne
    there false ne = refl

    second : (t : Bool) → (t && false) ≡ false
    second true = refl
    second false = refl

    other : (b ≡ j.into → ⊥) → leads_in j b ≡ false
    other ne = rw (ne_eqb j.into b (λ (e : j.into ≡ b). ne (sym e))) (second (not (j.block == b)))

set_here : (table : List Joint) (j : Joint) → j.at < length table → read_at (slice_set table j.at j) j.at ≡ j
set_here table j lt = ap (λ (x : Joint). record x { at = j.at }) (get_or-set_same table j.at j (record { block = 0; offset = 0; at = 0; into = 0 }) lt)

set_there : (table : List Joint) (j : Joint) (at : ℕ) → (at ≡ j.at → ⊥) → read_at (slice_set table j.at j) at ≡ read_at table at
set_there table j at ne = ap (λ (x : Joint). record x { at = at }) (get_or-set_other table j.at at j (record { block = 0; offset = 0; at = 0; into = 0 }) ne)

absent_ne : (xs : List ℕ) (x at : ℕ) → (Chains.Has xs at → ⊥) → Chains.Has xs x → x ≡ at → ⊥
absent_ne xs x at none h e = none (subst (λ (n : ℕ). Chains.Has xs n) e h)

order_linked : (order : ChainsData) (at : ℕ) → length order.lists ≡ 1 → slice_index_or (slice_set order.lists 0 (at ∷ list_of order 0)) 0 [] ≡ at ∷ list_of order 0
order_linked order at long = get_or-set_same order.lists 0 (at ∷ list_of order 0) [] (omega (arith, long))

pub linked_tied : (table : List Joint) (order into order' into' : ChainsData) (j : Joint) → Tied table order into → IsFree order j.at → j.at < length table →
    order' ≡ record order { lists = slice_set order.lists 0 (j.at ∷ list_of order 0) } → into' ≡ record into { lists = linked_into into j } → Tied (slice_set table j.at j) order' into'
linked_tied table order into order' into' j tied free lt order_is into_is = rw (order_is, into_is) (record {
  order_words = tied.order_words ∙ sym (length-set table j.at j);
  into_words = tied.into_words ∙ sym (length-set table j.at j);
  one_list = length-set order.lists 0 (j.at ∷ list_of order 0) ∙ tied.one_list;
  chained = λ b below.
      let known : b < length into.lists = omega (arith, below, linked_long into j) in
      linked_list into j b known
      ∙ ap (λ (xs : List ℕ). cond (leads_in j b) (j.at ∷ xs) xs)
      (tied.chained b known ∙ words_alike (λ at. leads_in (read_at table at) b) (λ at. leads_in (read_at (slice_set table j.at j) at) b) (list_of order 0)
      (λ x h. ap (λ (k : Joint). leads_in k b) (sym (set_there table j x (absent_ne (list_of order 0) x j.at (free 0) h)))))
      ∙ ap (λ (k : Joint). cond (leads_in k b) (j.at ∷ filter (λ at. leads_in (read_at (slice_set table j.at j) at) b) (list_of order 0)) (filter (λ at. leads_in (read_at (slice_set table j.at j) at) b) (list_of order 0))) (sym (set_here table j lt))
      ∙ ap (λ (xs : List ℕ). filter (λ at. leads_in (read_at (slice_set table j.at j) at) b) xs) (sym (order_linked order j.at tied.one_list));
})

linked_joints : (table : List Joint) (order : ChainsData) (j : Joint) → length order.lists ≡ 1 → IsFree order j.at → j.at < length table →
    map (λ at. read_at (slice_set table j.at j) at) (slice_index_or (slice_set order.lists 0 (j.at ∷ list_of order 0)) 0 []) ≡ j ∷ map (λ at. read_at table at) (list_of order 0)
linked_joints table order j long free lt =
    ap (λ (xs : List ℕ). map (λ at. read_at (slice_set table j.at j) at) xs) (order_linked order j.at long)
    ∙ ap (λ (k : Joint). k ∷ map (λ at. read_at (slice_set table j.at j) at) (list_of order 0)) (set_here table j lt)
    ∙ ap (λ (ks : List Joint). j ∷ ks) (map_alike (λ at. read_at (slice_set table j.at j) at) (λ at. read_at table at) (list_of order 0) (λ x h. set_there table j x (absent_ne (list_of order 0) x j.at (free 0) h)))

data_is : (w x b c : ℕ) (js ks : List Joint) → w ≡ x → b ≡ c → js ≡ ks → let d : JointsData = record { words = w; blocks = b; joints = js } in d ≡ record { words = x; blocks = c; joints = ks }
data_is w x b c js ks ww bb jj = rw (ww, bb, jj) refl

pub linked_call : (table : List Joint) (order into order' into' : ChainsData) (now : JointsData) (j : Joint) → joints_of table order into ≡ now → Tied table order into → IsFree order j.at → j.at < length table →
    order' ≡ record order { lists = slice_set order.lists 0 (j.at ∷ list_of order 0) } → into' ≡ record into { lists = linked_into into j } → joints_of (slice_set table j.at j) order' into' ≡ record now { joints = j ∷ now.joints }
linked_call table order into order' into' now j same tied free lt order_is into_is =
    rw (order_is, into_is)
    (data_is _ _ _ _ _ _ (length-set table j.at j) (linked_long into j) (linked_joints table order j tied.one_list free lt)
    ∙ ap (λ (d : JointsData). record d { joints = j ∷ d.joints }) same)

-- a word leaves the lists
order_unlinked : (order : ChainsData) (at : ℕ) → length order.lists ≡ 1 → slice_index_or (map (λ (xs : List ℕ). without at xs) order.lists) 0 [] ≡ without at (list_of order 0)
order_unlinked order at long = get_or-map (λ (xs : List ℕ). without at xs) order.lists 0 [] [] (omega (arith, long))

pub unlinked_tied : (table : List Joint) (order into order' into' : ChainsData) (at : ℕ) → Tied table order into →
    order' ≡ record order { lists = map (λ (xs : List ℕ). without at xs) order.lists } → into' ≡ record into { lists = map (λ (xs : List ℕ). without at xs) into.lists } → Tied table order' into'
unlinked_tied table order into order' into' at tied order_is into_is = rw (order_is, into_is) (record {
  order_words = tied.order_words;
  into_words = tied.into_words;
  one_list = length-map order.lists (λ (xs : List ℕ). without at xs) ∙ tied.one_list;
  chained = λ b below.
      let known : b < length into.lists = omega (arith, below, length-map into.lists (λ (xs : List ℕ). without at xs)) in
      get_or-map (λ (xs : List ℕ). without at xs) into.lists b [] [] known
      ∙ ap (λ (xs : List ℕ). without at xs) (tied.chained b known)
      ∙ filter_swap (λ y. not (y == at)) (λ x. leads_in (read_at table x) b) (list_of order 0)
      ∙ ap (λ (xs : List ℕ). filter (λ x. leads_in (read_at table x) b) xs) (sym (order_unlinked order at tied.one_list));
})

pub unlinked_call : (table : List Joint) (order into order' into' : ChainsData) (now : JointsData) (at : ℕ) → joints_of table order into ≡ now → Tied table order into →
    order' ≡ record order { lists = map (λ (xs : List ℕ). without at xs) order.lists } → into' ≡ record into { lists = map (λ (xs : List ℕ). without at xs) into.lists } →
    joints_of table order' into' ≡ record now { joints = filter (λ j. not (stands_at j at)) now.joints }
unlinked_call table order into order' into' now at same tied order_is into_is =
    rw (order_is, into_is)
    (data_is _ _ _ _ _ _ refl (length-map into.lists (λ (xs : List ℕ). without at xs))
    (ap (λ (xs : List ℕ). map (λ x. read_at table x) xs) (order_unlinked order at tied.one_list) ∙ sym (filter_map (λ x. read_at table x) (λ j. not (stands_at j at)) (list_of order 0)))
    ∙ ap (λ (d : JointsData). record d { joints = filter (λ j. not (stands_at j at)) d.joints }) same)

-- the words of a block leave, one after the other
own_none : (first x : ℕ) → not (is_own first (first - first) x) ≡ true
own_none first x = ap not (nothing (is_own first (first - first) x) refl)
  where
    nothing : (t : Bool) → is_own first (first - first) x ≡ t → t ≡ false
    nothing false e = refl
    nothing true e = let w = own_is first (first - first) x e in absurd (omega (arith, w.0, w.1))

own_next : (first at x : ℕ) → first ≤ at → not (is_own first (at + 1 - first) x) ≡ (not (is_own first (at - first) x) && not (x == at))
own_next first at x le = elim (cases_eq x at) [
  | inl is ↦ rw (eq-eqb x at is, is_own_from first (at + 1 - first) x (omega (arith, is, le)) (omega (arith, is, le))) (second (not (is_own first (at - first) x)))
  | inr ne ↦ rw (ne_eqb x at ne) (ap not (alike (is_own first (at + 1 - first) x) (is_own first (at - first) x) refl refl ne) ∙ sym (first_one (not (is_own first (at - first) x))))
]
  where
    second : (t : Bool) → false ≡ (t && false)
    second true = refl
    second false = refl

    first_one : (t : Bool) → (t && true) ≡ t
    first_one true = refl
    first_one false = refl

    alike : (s t : Bool) → is_own first (at + 1 - first) x ≡ s → is_own first (at - first) x ≡ t → (x ≡ at → ⊥) → s ≡ t
    alike true true e f ne = refl
    alike false false e f ne = refl
    alike true false e f ne = let w = own_is first (at + 1 - first) x e in absurd (elim (own_not first (at - first) x f) [ inl lt ↦ omega (arith, lt, w.0) | inr past ↦ ne (omega (arith, w.1, past, le)) ])
    alike false true e f ne = let w = own_is first (at - first) x f in absurd (elim (own_not first (at + 1 - first) x e) [ inl lt ↦ omega (arith, lt, w.0) | inr past ↦ omega (arith, w.1, past, le) ])

pub all_start : (first : ℕ) (d : JointsData) → (first ≤ first) × (d ≡ record d { joints = filter (λ j. not (is_own first (first - first) j.at)) d.joints })
all_start first d = (omega arith, ap (λ (js : List Joint). record d { joints = js }) (sym (filter_all (λ (j : Joint). not (is_own first (first - first) j.at)) d.joints (λ j h. own_none first j.at))))

pub all_next : (first at : ℕ) (old now next : JointsData) → (first ≤ at) × (now ≡ record old { joints = filter (λ j. not (is_own first (at - first) j.at)) old.joints }) → next ≡ record now { joints = filter (λ j. not (stands_at j at)) now.joints } →
    (first ≤ at + 1) × (next ≡ record old { joints = filter (λ j. not (is_own first (at + 1 - first) j.at)) old.joints })
all_next first at old now next was is = (
  omega (arith, was.0),
  is ∙ ap (λ (d : JointsData). record d { joints = filter (λ j. not (stands_at j at)) d.joints }) was.1
      ∙ ap (λ (js : List Joint). record old { joints = js }) (filter_twice (λ (j : Joint). not (stands_at j at)) (λ j. not (is_own first (at - first) j.at)) (λ j. not (is_own first (at + 1 - first) j.at)) old.joints (λ j. own_next first at j.at was.0)),
)

pub all_end : (first at size : ℕ) (old now : JointsData) → (first ≤ at) × (now ≡ record old { joints = filter (λ j. not (is_own first (at - first) j.at)) old.joints }) → at ≡ first + size → now ≡ record old { joints = filter (λ j. not (is_own first size j.at)) old.joints }
all_end first at size old now was is =
    let n : at - first ≡ size = omega (arith, is) in
    subst (λ (m : ℕ). now ≡ record old { joints = filter (λ j. not (is_own first m j.at)) old.joints }) n was.1

-- of links that stand apart only the one at an index stands at its word
pub unlinked_one : (js : List Joint) (k at : ℕ) → Apart js → LinkAt js k at → filter (λ j. not (stands_at j at)) js ≡ remove js k
unlinked_one [] zero at apart l = refl
unlinked_one [] (suc k) at apart l = refl
unlinked_one (i ∷ is) zero at apart l =
    let same : i ≡ l.0 = cc in
    let here : i.at ≡ at = ap (λ (j : Joint). j.at) same ∙ l.2 in
    rw (eq-eqb i.at at here) (filter_all (λ (j : Joint). not (stands_at j at)) is (λ j h. ap not (ne_eqb j.at at (λ (e : j.at ≡ at). apart.0 j h (e ∙ sym here)))))
unlinked_one (i ∷ is) (suc k) at apart l =
    rw (ne_eqb i.at at (λ (e : i.at ≡ at). apart.0 l.0 (has_get is k l.0 l.1) (l.2 ∙ sym e))) (ap (λ (js : List Joint). i ∷ js) (unlinked_one is k at apart.1 l))

own_joints : (first size b : ℕ) (js : List Joint) → ((j : Joint) → Has js j → is_own first size j.at ≡ (j.block == b)) → filter (λ j. not (is_own first size j.at)) js ≡ filter (λ j. not (j.block == b)) js
own_joints first size b js owns = filter_alike (λ (j : Joint). not (is_own first size j.at)) (λ j. not (j.block == b)) js (λ j h. ap not (owns j h))

-- the links from the block at a place of the queue are those at its words
pub owns_links : (e : EngineData) (v : ImageData) (words : List ℕ) (k : ℕ) → Standing e v words → k < length e.queue → OwnsLinks e k
owns_links e v words k stands lt =
    let here = has_index e.queue k lt in
    let long = stands.lengths_are (slice_index e.queue k) here in record {
      inside = omega (arith, long, length_most e v words (slice_index e.queue k) stands here);
      owns = λ j h.
          let s = stands.linked j h in
          elim (cases_eq j.block (slice_index e.blocks (slice_index e.queue k))) [
            | inl is ↦ (
                let at = joint_at e v words j (slice_index e.queue k) stands s here (sym is) in
                let few : j.offset < slice_index e.lengths (slice_index e.queue k) = omega (arith, s.is_exit.inside, long, ap (λ (b : ℕ). length_at v b) is) in
                is_own_from (slice_index e.queue k * e.size) (slice_index e.lengths (slice_index e.queue k)) j.at (omega (arith, at)) (omega (arith, at, few)) ∙ sym (eq-eqb j.block (slice_index e.blocks (slice_index e.queue k)) is))
            | inr ne ↦ none j s ne (is_own (slice_index e.queue k * e.size) (slice_index e.lengths (slice_index e.queue k)) j.at) refl ∙ sym (ne_eqb j.block (slice_index e.blocks (slice_index e.queue k)) ne)
          ];
    }
  where
    none : (j : Joint) → JointStands e v words j → (j.block ≡ slice_index e.blocks (slice_index e.queue k) → ⊥) → (t : Bool) → is_own (slice_index e.queue k * e.size) (slice_index e.lengths (slice_index e.queue k)) j.at ≡ t → t ≡ false
    none j s ne false is = refl
    none j s ne true is =
        let w = own_is (slice_index e.queue k * e.size) (slice_index e.lengths (slice_index e.queue k)) j.at is in
        let here = has_index e.queue k lt in
        let at : j.at ≡ slice_index e.queue k * e.size + (j.at - slice_index e.queue k * e.size) = omega (arith, w.0) in
        let less : j.at - slice_index e.queue k * e.size < e.size = omega (arith, w.0, w.1, stands.lengths_are (slice_index e.queue k) here, length_most e v words (slice_index e.queue k) stands here) in
        let same = same_from_place s.home j.offset (slice_index e.queue k) (j.at - slice_index e.queue k * e.size) e.size (joint_inside e v words j stands s) less (sym s.index ∙ at) in
        absurd (ne (sym s.home_is ∙ ap (λ (n : ℕ). slice_index e.blocks n) same.0))

-- what the parts leave, as their code meets it
pub undone_view : (e now : EngineData) (k at : ℕ) (js : List Joint) → e ≡ now → js ≡ filter (λ j. not (stands_at j at)) e.joints → Apart now.joints → LinkAt now.joints k at →
    record e { joints = js; counts = record e.counts { unlinks = e.counts.unlinks + 1 } } ≡ undone_data now k
undone_view e now k at js same is apart l =
    ap (λ (ks : List Joint). record e { joints = ks; counts = record e.counts { unlinks = e.counts.unlinks + 1 } }) is
    ∙ ap (λ (t : EngineData). record t { joints = filter (λ j. not (stands_at j at)) t.joints; counts = record t.counts { unlinks = t.counts.unlinks + 1 } }) same
    ∙ ap (λ (ks : List Joint). record now { joints = ks; counts = record now.counts { unlinks = now.counts.unlinks + 1 } }) (unlinked_one now.joints k at apart l)

pub left_joints : (e now : EngineData) (k n first size b : ℕ) (js : List Joint) → e ≡ now → OwnsLinks now k → n ≡ slice_index e.queue k → first ≡ n * e.size → size ≡ slice_index e.lengths n → b ≡ slice_index e.blocks n →
    js ≡ filter (λ j. not (is_own first size j.at)) e.joints → js ≡ filter (λ j. not (j.block == b)) e.joints
left_joints e now k n first size b js same owned n_is first_is size_is b_is is =
    is ∙ own_joints first size b e.joints (subst (λ (t : EngineData). (j : Joint) → Has t.joints j → is_own first size j.at ≡ (j.block == b)) (sym same) (λ j h.
    ap (λ (f : ℕ). is_own f size j.at) first_at ∙ ap (λ (s : ℕ). is_own (slice_index now.queue k * now.size) s j.at) size_at ∙ owned.owns j h ∙ ap (λ (c : ℕ). j.block == c) (sym block_at)))
  where
    slot_at : n ≡ slice_index now.queue k
    slot_at = n_is ∙ ap (λ (t : EngineData). slice_index t.queue k) same

    first_at : first ≡ slice_index now.queue k * now.size
    first_at = first_is ∙ ap (λ (t : EngineData). n * t.size) same ∙ ap (λ (m : ℕ). m * now.size) slot_at

    size_at : size ≡ slice_index now.lengths (slice_index now.queue k)
    size_at = size_is ∙ ap (λ (t : EngineData). slice_index t.lengths n) same ∙ ap (λ (m : ℕ). slice_index now.lengths m) slot_at

    block_at : b ≡ slice_index now.blocks (slice_index now.queue k)
    block_at = b_is ∙ ap (λ (t : EngineData). slice_index t.blocks n) same ∙ ap (λ (m : ℕ). slice_index now.blocks m) slot_at

pub own_short : (e now : EngineData) (k n : ℕ) → e ≡ now → OwnsLinks now k → k < length now.queue → n ≡ slice_index_or e.queue k n → slice_index e.lengths n ≤ e.size
own_short e now k n same owned lt n_is =
    let below : k < length e.queue = subst (λ (t : EngineData). k < length t.queue) (sym same) lt in
    let at : n ≡ slice_index e.queue k = get_or_read e.queue k n below n_is 0 in
    subst (λ (m : ℕ). slice_index e.lengths m ≤ e.size) (sym at) (subst (λ (t : EngineData). slice_index t.lengths (slice_index t.queue k) ≤ t.size) (sym same) owned.inside)

-- the newest link into a block, or none, in the service as it is known
pub newest_now : (e now : EngineData) (x y at : ℕ) → e ≡ now → x ≡ y → NewestInto e.joints x at → NewestInto now.joints y at
newest_now e now x y at same xy newest = subst (λ (t : EngineData). NewestInto t.joints y at) same (subst (λ (b : ℕ). NewestInto e.joints b at) xy newest)

pub none_now : (e now : EngineData) (x y : ℕ) → e ≡ now → x ≡ y → NoneInto e.joints x → NoneInto now.joints y
none_now e now x y same xy none = subst (λ (t : EngineData). NoneInto t.joints y) same (subst (λ (b : ℕ). NoneInto e.joints b) xy none)

pub set_now : (js : List Joint) (k at : ℕ) (a b : RamState) → LinkAt js k at → OneSet at ebreak a b → (j : Joint) → slice_get js k ≡ Some j → OneSet j.at ebreak a b
set_now js k at a b l set j get =
    let here = l.1 in
    let same : l.0 ≡ j = cc in
    subst (λ (n : ℕ). OneSet n ebreak a b) (sym l.2 ∙ ap (λ (i : Joint). i.at) same) set
