-- Laws of a schedule: each program makes a step at each of its events, and how many words all of them fetch.
use Rattle.std.proofs.Common.{◌≡◌, ℕ, zero, suc, ◌+◌, ◌-◌, ◌==◌, Bool, true, false, if◌then◌else◌, List, [], ◌∷◌, ◌++◌, slice_set, slice_index_or, Option, Some, None, is_some, arith, refl, sym, ◌∙◌, ap, subst, inl, inr}
use Rattle.std.proofs.lemmas.Bool.{cases_Bool, false≢true, eq-eqb, eqb-true}
use Rattle.swi_calls.specs.declared.end.End.{End}
use Rattle.swi_calls.specs.declared.machine.Machine.{Machine}
use Rattle.swi_calls.specs.Flat.{started}
use Rattle.swi_calls.specs.Held.{held_made, held_step, held_run}
use Rattle.swi_calls.specs.Laws.{held_run_none, held_run_over, held_run_more}
use Rattle.swi_calls.specs.State.{FlatState}
use Rattle.swi_image.specs.Format.{ImageData}
use Rattle.swi_rom.specs.Record.{Record, writes}
use Rattle.swi_rom.specs.Service.{Setting}
use Rattle.swi_board.specs.Board.{entries}
use Rattle.swi_board.specs.Transfers.{Here, at_fall, settled, step_size, size, cost, fetches}
use Rattle.swi_share.specs.Shared.{Context, Event, Shared, enters, begun_if, entered_if, flat_of, step_event, event_of, event_by, event_in, shared_event, shared_run}

-- ---- the events of one program

-- how many events of a schedule are of program g
unfoldable pub events_of : ℕ → List ℕ → ℕ
events_of g [] = 0
events_of g (x ∷ xs) = (if x == g then 1 else 0) + events_of g xs

-- a program stands where so many steps of the flat machine over the fixed text lead
pub record Follows (k : ℕ) (c now : Context) : Type 0 where
  pub image : now.image ≡ c.image
  pub machine : now.machine ≡ (held_run k (flat_of c)).machine
  pub input : now.input ≡ (held_run k (flat_of c)).input

-- ---- steps, whatever was written before them

abbrev written : Machine → List ℕ → List ℕ → List ℕ → FlatState
written m input output error = record { machine = m; input = input; output = output; error = error }

same_by : (t : Bool) (s s' next next' : FlatState) → s.machine ≡ s'.machine → s.input ≡ s'.input → next.machine ≡ next'.machine → next.input ≡ next'.input →
    ((if t then s else next).machine ≡ (if t then s' else next').machine) × ((if t then s else next).input ≡ (if t then s' else next').input)
same_by true s s' next next' a b e f = (a, b)
same_by false s s' next next' a b e f = (e, f)

same_run : (k : ℕ) (m : Machine) (input l1 l2 l3 l4 : List ℕ) → ((held_run k (written m input l1 l2)).machine ≡ (held_run k (written m input l3 l4)).machine)
    × ((held_run k (written m input l1 l2)).input ≡ (held_run k (written m input l3 l4)).input)
unfolding held_run
same_run zero m input l1 l2 l3 l4 = (refl, refl)
same_run (suc k) m input l1 l2 l3 l4 =
    let n = held_made m input in
    let rest = same_run k n.machine n.input (l1 ++ n.output) (l2 ++ n.error) (l3 ++ n.output) (l4 ++ n.error) in
    same_by (is_some m.ending) (written m input l1 l2) (written m input l3 l4) (held_run k (held_step (written m input l1 l2))) (held_run k (held_step (written m input l3 l4))) refl refl rest.0 rest.1

state_as : {m m' : Machine} {input input' : List ℕ} → m ≡ m' → input ≡ input' → started m input ≡ started m' input'
state_as {m} {m'} {input} {input'} e f = ap (λ (x : Machine). started x input) e ∙ ap (λ (l : List ℕ). started m' l) f

-- a step, and then so many more
run_then : (k : ℕ) (m : Machine) (input : List ℕ) → let one : FlatState = held_run 1 (started m input) in
    ((held_run (1 + k) (started m input)).machine ≡ (held_run k (started one.machine one.input)).machine)
    × ((held_run (1 + k) (started m input)).input ≡ (held_run k (started one.machine one.input)).input)
run_then k m input = elim (cases_Bool (is_some m.ending)) [
  | inl over ↦ (
      let s = started m input in
      let whole : held_run (1 + k) s ≡ s = held_run_over (1 + k) s over in
      let none : held_run 1 s ≡ s = held_run_over 1 s over in
      let rest : held_run k s ≡ s = held_run_over k s over in
      let back : s ≡ started (held_run 1 s).machine (held_run 1 s).input = ap (λ (q : FlatState). started q.machine q.input) (sym none) in
      let all : held_run (1 + k) s ≡ held_run k (started (held_run 1 s).machine (held_run 1 s).input) = whole ∙ sym rest ∙ ap (λ (q : FlatState). held_run k q) back in
      (ap (λ (q : FlatState). q.machine) all, ap (λ (q : FlatState). q.input) all))
  | inr going ↦ (
      let s = started m input in
      let next = held_step s in
      let one : held_run 1 s ≡ next = held_run_more 0 s going ∙ held_run_none next in
      let count : 1 + k ≡ suc k = omega arith in
      let more : held_run (1 + k) s ≡ held_run k next = ap (λ (n : ℕ). held_run n s) count ∙ held_run_more k s going in
      let same = same_run k next.machine next.input next.output next.error [] [] in
      let back : started next.machine next.input ≡ started (held_run 1 s).machine (held_run 1 s).input = ap (λ (q : FlatState). started q.machine q.input) (sym one) in (
        ap (λ (q : FlatState). q.machine) more ∙ same.0 ∙ ap (λ (q : FlatState). (held_run k q).machine) back,
        ap (λ (q : FlatState). q.input) more ∙ same.1 ∙ ap (λ (q : FlatState). (held_run k q).input) back,
      ))
]

follows_none : (c : Context) → Follows 0 c c
follows_none c = record {
  image = refl;
  machine = ap (λ (q : FlatState). q.machine) (sym (held_run_none (flat_of c)));
  input = ap (λ (q : FlatState). q.input) (sym (held_run_none (flat_of c)));
}

follows_over : (c : Context) → is_some c.machine.ending ≡ true → Follows 1 c c
follows_over c over = record {
  image = refl;
  machine = ap (λ (q : FlatState). q.machine) (sym (held_run_over 1 (flat_of c) over));
  input = ap (λ (q : FlatState). q.input) (sym (held_run_over 1 (flat_of c) over));
}

follows_then : (k : ℕ) (c mid now : Context) → Follows 1 c mid → Follows k mid now → Follows (1 + k) c now
follows_then k c mid now first rest =
    let two = run_then k c.machine c.input in
    let at : flat_of mid ≡ started (held_run 1 (flat_of c)).machine (held_run 1 (flat_of c)).input = state_as first.machine first.input in
    record {
      image = rest.image ∙ first.image;
      machine = rest.machine ∙ ap (λ (q : FlatState). (held_run k q).machine) at ∙ sym two.0;
      input = rest.input ∙ ap (λ (q : FlatState). (held_run k q).input) at ∙ sym two.1;
    }

-- ---- an event of the program, and one of another

index_set_same : (xs : List (Option Context)) (i : ℕ) (c d : Context) → slice_index_or xs i None ≡ Some c → slice_index_or (slice_set xs i (Some d)) i None ≡ Some d
index_set_same [] i c d is = absurd (cc)
index_set_same (x ∷ xs) zero c d is = refl
index_set_same (x ∷ xs) (suc i) c d is = index_set_same xs i c d is

index_set_other : (xs : List (Option Context)) (i j : ℕ) (y : Option Context) → (j ≡ i → ⊥) → slice_index_or (slice_set xs i y) j None ≡ slice_index_or xs j None
index_set_other [] i j y ne = refl
index_set_other (x ∷ xs) zero zero y ne = absurd (ne refl)
index_set_other (x ∷ xs) zero (suc j) y ne = refl
index_set_other (x ∷ xs) (suc i) zero y ne = refl
index_set_other (x ∷ xs) (suc i) (suc j) y ne = index_set_other xs i j y (λ e. ne (ap suc e))

step_follows : (t : Bool) (by : Setting) (sets : ℕ) (r : Record) (c : Context) → Follows 1 c (step_event by sets r (begun_if t c)).context
step_follows true by sets r c = record { image = refl; machine = refl; input = refl }
step_follows false by sets r c = record { image = refl; machine = refl; input = refl }

event_follows : (by : Setting) (r : Record) (c : Context) → Follows 1 c (event_of by r c).context
event_follows by r c = step_follows (enters r c) by (writes (entered_if (enters r c) by r c) - writes r) (entered_if (enters r c) by r c) c

-- where a program of a state stands afterwards
abbrev pub StandsAfter : ℕ → Context → ℕ → Shared → Type 0
StandsAfter k c g s = (now : Context) × (slice_index_or s.contexts g None ≡ Some now) × Follows k c now

pub event_own : (g : ℕ) (s : Shared) (c : Context) → slice_index_or s.contexts g None ≡ Some c → StandsAfter 1 c g (shared_event g s)
event_own g s c is = subst (λ (q : Shared). StandsAfter 1 c g q) (sym at) (by c.machine.ending refl)
  where
    at : shared_event g s ≡ event_by g s c c.machine.ending
    at = ap (λ (o : Option Context). event_in g s o) is

    by : (e : Option End) → c.machine.ending ≡ e → StandsAfter 1 c g (event_by g s c e)
    by None going =
        let e = event_of s.setting (record s.kept { turn = g }) c in
        (e.context, index_set_same s.contexts g c e.context is, event_follows s.setting (record s.kept { turn = g }) c)
    by (Some e) ended = (c, is, follows_over c (ap (λ (x : Option End). is_some x) ended))

other_by : (x g : ℕ) (s : Shared) (c : Context) (e : Option End) → (g ≡ x → ⊥) → slice_index_or (event_by x s c e).contexts g None ≡ slice_index_or s.contexts g None
other_by x g s c None ne = index_set_other s.contexts x g (Some (event_of s.setting (record s.kept { turn = x }) c).context) ne
other_by x g s c (Some e) ne = refl

other_in : (x g : ℕ) (s : Shared) (o : Option Context) → (g ≡ x → ⊥) → slice_index_or (event_in x s o).contexts g None ≡ slice_index_or s.contexts g None
other_in x g s None ne = refl
other_in x g s (Some c) ne = other_by x g s c c.machine.ending ne

pub event_other : (x g : ℕ) (s : Shared) → (g ≡ x → ⊥) → slice_index_or (shared_event x s).contexts g None ≡ slice_index_or s.contexts g None
event_other x g s ne = other_in x g s (slice_index_or s.contexts x None) ne

-- Each program stands where as many steps of the flat machine lead as it had events, whatever the others did.
pub follows : (order : List ℕ) (g : ℕ) (s : Shared) (c : Context) → slice_index_or s.contexts g None ≡ Some c → StandsAfter (events_of g order) c g (shared_run order s)
unfolding shared_run events_of
follows [] g s c is = (c, is, follows_none c)
follows (x ∷ xs) g s c is = elim (cases_Bool (x == g)) [
  | inl found ↦ (
      let same : x ≡ g = eqb-true x g found in
      let own = event_own g s c is in
      let rest = follows xs g (shared_event x s) own.0 (ap (λ (n : ℕ). slice_index_or (shared_event n s).contexts g None) same ∙ own.1) in
      (rest.0, rest.1, subst (λ (t : Bool). Follows ((if t then 1 else 0) + events_of g xs) c rest.0) (sym found) (follows_then (events_of g xs) c own.0 rest.0 own.2 rest.2)))
  | inr apart ↦ (
      let other : g ≡ x → ⊥ = λ e. false≢true (sym apart ∙ eq-eqb x g (sym e)) in
      let rest = follows xs g (shared_event x s) c (event_other x g s other ∙ is) in
      let none : 0 + events_of g xs ≡ events_of g xs = omega arith in
      (rest.0, rest.1, subst (λ (t : Bool). Follows ((if t then 1 else 0) + events_of g xs) c rest.0) (sym apart) (subst (λ (n : ℕ). Follows n c rest.0) (sym none) rest.2)))
]

-- ---- fetches

-- the machine instructions of an event that fetch no word: the service by which it enters the ram anew, and the step of a program that
-- stands outside its text
abbrev pub entered_by : Bool → Context → ℕ
entered_by true c = entries c.image c.machine.pc
entered_by false c = 0

abbrev pub outside_by : Here → ℕ
outside_by None = 1
outside_by (Some p) = 0

abbrev pub unfetched_at : Record → Context → ℕ
unfetched_at r c = entered_by (enters r c) c + outside_by (settled c.image c.machine (begun_if (enters r c) c).place)

abbrev pub unfetched_by : ℕ → Shared → Context → Option End → ℕ
unfetched_by g s c None = unfetched_at (record s.kept { turn = g }) c
unfetched_by g s c (Some e) = 0

abbrev pub unfetched_in : ℕ → Shared → Option Context → ℕ
unfetched_in g s None = 0
unfetched_in g s (Some c) = unfetched_by g s c c.machine.ending

-- and of all events
unfoldable pub unfetched : List ℕ → Shared → ℕ
unfetched [] s = 0
unfetched (g ∷ gs) s = unfetched_in g s (slice_index_or s.contexts g None) + unfetched gs (shared_event g s)

-- the machine instructions of all programs
abbrev pub count_in : Option Context → ℕ
count_in None = 0
count_in (Some c) = c.count

unfoldable pub counts_of : List (Option Context) → ℕ
counts_of [] = 0
counts_of (c ∷ cs) = count_in c + counts_of cs

one_size : (n : ℕ) (m : Machine) (here : Here) → n + step_size 1 m here + 0 ≡ n + step_size 0 m here + 0 + outside_by here
one_size n m None = omega arith
one_size n m (Some p) = omega arith

sizes : (v : ImageData) (s : FlatState) (here : Here) → is_some s.machine.ending ≡ false → cost v 1 s here ≡ fetches v 1 s here + outside_by (settled v s.machine here)
unfolding size
sizes v s here going = rw going (one_size (if at_fall v s.machine here then 1 else 0) s.machine (settled v s.machine here))

event_sizes : (t : Bool) (by : Setting) (sets : ℕ) (r : Record) (c : Context) → is_some c.machine.ending ≡ false →
    let e : Event = step_event by sets r (begun_if t c) in
    e.context.count ≡ c.count + (entered_by t c + outside_by (settled c.image c.machine (begun_if t c).place)) + e.fetches
event_sizes true by sets r c going = let b = begun_if true c in let is = sizes b.image (flat_of b) b.place going in omega (arith, is)
event_sizes false by sets r c going = let is = sizes c.image (flat_of c) c.place going in omega (arith, is)

counts_set : (cs : List (Option Context)) (g : ℕ) (c d : Context) → slice_index_or cs g None ≡ Some c → counts_of (slice_set cs g (Some d)) + c.count ≡ counts_of cs + d.count
unfolding counts_of
counts_set [] g c d is = absurd (cc)
counts_set (x ∷ xs) zero c d is = let same = ap count_in is in omega (arith, same)
counts_set (x ∷ xs) (suc g) c d is = let rest = counts_set xs g c d is in omega (arith, rest)

-- one event
sum_by : (g : ℕ) (s : Shared) (c : Context) (e : Option End) → c.machine.ending ≡ e → slice_index_or s.contexts g None ≡ Some c →
    counts_of (event_by g s c e).contexts + s.fetches ≡ counts_of s.contexts + (event_by g s c e).fetches + unfetched_by g s c e
sum_by g s c (Some e) ended is = omega arith
sum_by g s c None going is =
    let r = record s.kept { turn = g } in
    let e = event_of s.setting r c in
    let one = event_sizes (enters r c) s.setting (writes (entered_if (enters r c) s.setting r c) - writes r) (entered_if (enters r c) s.setting r c) c (ap (λ (x : Option End). is_some x) going) in
    let all = counts_set s.contexts g c e.context is in
    omega (arith, one, all)

sum_in : (g : ℕ) (s : Shared) (o : Option Context) → slice_index_or s.contexts g None ≡ o → counts_of (event_in g s o).contexts + s.fetches ≡ counts_of s.contexts + (event_in g s o).fetches + unfetched_in g s o
sum_in g s None is = omega arith
sum_in g s (Some c) is = sum_by g s c c.machine.ending refl is

-- The words that a schedule fetches are the machine instructions that it makes, but for those that fetch none.
pub fetched_words : (order : List ℕ) (s : Shared) → counts_of (shared_run order s).contexts + s.fetches ≡ counts_of s.contexts + (shared_run order s).fetches + unfetched order s
unfolding shared_run unfetched
fetched_words [] s = omega arith
fetched_words (g ∷ gs) s =
    let one = sum_in g s (slice_index_or s.contexts g None) refl in
    let rest = fetched_words gs (shared_event g s) in
    omega (arith, one, rest)
