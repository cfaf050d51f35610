-- One original step, or the exit before it, of a hart that is between two instructions: the machine instructions that it takes lead where
-- the definition's do.
use Rattle.std.proofs.Common.{◌≡◌, ◌⊎◌, if◌then◌else◌, ℕ, zero, suc, ◌+◌, ◌-◌, ◌*◌, ◌<◌, ◌≤◌, Bool, true, false, not, ◌&&◌, List, [], ◌∷◌, ◌++◌, length, reverse, Option, Some, None, is_some, slice_index, refl, sym, ap, subst, ◌∙◌, inl, inr, arith}
use Rattle.std.proofs.lemmas.Bool.{cases_lt, false≢true}
use Rattle.std.proofs.lemmas.List.{append_assoc, append-nil}
use Rattle.std.specs.Io.KnownBytes.{Appends}
use Rattle.swi_memory.specs.Bus.{fetched}
use Rattle.swi_outside.specs.Causes.{risen}
use Rattle.swi_outside.specs.CacheRam.{Fetch, RamState, KeepsBeyond, fetch, since}
use Rattle.swi_outside.specs.Fetches.{since_append, since_reverse}
use Rattle.swi_calls.specs.declared.end.End.{End}
use Rattle.swi_calls.specs.declared.machine.Machine.{Machine}
use Rattle.swi_calls.specs.Flat.{Made, joined, quiet}
use Rattle.swi_calls.specs.Held.{held_made, held_step}
use Rattle.swi_calls.specs.State.{FlatState}
use Rattle.swi_image.specs.Format.{ImageData}
use Rattle.swi_image.specs.Place.{place_of}
use Rattle.swi_render.specs.Carried.{GoesOn}
use Rattle.swi_rom.specs.Record.{Record, Transfer, Placed, direct, is_linked, writes}
use Rattle.swi_rom.specs.Rams.{risen_more}
use Rattle.swi_rom.specs.Standing.{first_is, word_in}
use Rattle.swi_hart.specs.declared.hart.Stage.TheVariants.{Start}
use Rattle.swi_hart.specs.declared.hart.Control.{Control}
use Rattle.swi_hart.specs.declared.hart.Control.TheVariants.{At, Outside}
use Rattle.swi_hart.specs.Bounds.{calls_by, depth, is_outside, most_calls}
use Rattle.swi_hart.specs.Hart.{HartData, original, slots}
use Rattle.swi_hart.specs.Matching.{Agrees, IsIn, Stands, StandsBy}
use Rattle.swi_hart.proofs.Kept.{image_same, next_text}
use Rattle.swi_hart.proofs.Stepping.{no_fall, two_places}
use Rattle.swi_board.specs.Fetching.{fetch_in, fetches_from, index_in}
use Rattle.swi_board.specs.Moments.{Moment, Policy, counted, events, fell, here_behind, next_fetch, written_in}
use Rattle.swi_board.specs.Ran.{RamRan}
use Rattle.swi_board.specs.Runs.{fetched_by, unfetched}
use Rattle.swi_board.specs.Tracking.{Came, Course, Point, Running, Stays, Tracks}
use Rattle.swi_board.specs.Transfers.{after_all, at_fall, here_after, here_of, spent, step_cost, step_transfers}
use Rattle.swi_board.proofs.Events.{events_more, events_one, events_none, fall_event, plain_made}
use Rattle.swi_board.proofs.Fetching.{HoldsRow, row_is}
use Rattle.swi_board.proofs.Held.{held_steps}
use Rattle.swi_board.proofs.Running.{goes_with, most_running}
use Rattle.swi_board.proofs.Tracks.{kept_both, running_spent}

-- ---- over moments alone

-- a moment so many words on from a place, at the end of an original step or of an exit: its machine, the service's record, and where it stands
abbrev pub arrived : ImageData → ℕ × ℕ → ℕ → ℕ → Machine → Record → ℕ × ℕ → Moment → Moment
arrived v p index n m r q s = record {
  flat = record s.flat { machine = m };
  here = Some q;
  spent = 0;
  kept = r;
  count = s.count + n;
  sets = s.sets + (writes r - writes s.kept);
  words = reverse (fetches_from (word_in v s.kept p.0) index n s.sets) ++ s.words;
}

-- so many machine instructions lead from the one moment to the other
pub record LeadsTo (by : Policy) (v : ImageData) (n : ℕ) (s t : Moment) : Type 0 where
  pub is : events by v n s ≡ t
  pub many : length t.words ≡ length s.words + n
  pub before : (j : ℕ) → j < n → (events by v j s).flat ≡ s.flat

moment_is : (s t : Moment) → s.flat ≡ t.flat → s.here ≡ t.here → s.spent ≡ t.spent → s.kept ≡ t.kept → s.count ≡ t.count → s.sets ≡ t.sets → s.words ≡ t.words → s ≡ t
moment_is s t a b c d e f g = rw (a, b, c, d, e, f, g) refl

state_is : (s : FlatState) (m : Machine) → held_made s.machine s.input ≡ quiet m s.input → held_step s ≡ record s { machine = m }
state_is s m step = ap (λ (k : Made). joined s k) step ∙ same (append-nil s.output) (append-nil s.error)
  where
    same : s.output ++ [] ≡ s.output → s.error ++ [] ≡ s.error → joined s (quiet m s.input) ≡ record s { machine = m }
    same a b = rw (a, b) refl

none_some : (e : Option End) → e ≡ None → is_some e ≡ false
none_some e is = ap (λ (k : Option End). is_some k) is

-- an original step that goes on, takes no input and writes nothing
module _ (by : Policy) (v : ImageData) (s : Moment) (p q : ℕ × ℕ) (m : Machine) (index : ℕ)
    (here : s.here ≡ Some p) (going : s.flat.machine.ending ≡ None) (plain : at_fall v s.flat.machine (Some p) ≡ false) (none : s.spent ≡ 0) (at : index_in s.kept p ≡ index)
    (step : (input : List ℕ) → held_made s.flat.machine input ≡ quiet m input) (on : m.ending ≡ None) (there : here_after v s.flat.machine (Some p) m ≡ Some q) where
  pub step_leads : LeadsTo by v (step_cost s.flat.machine (original s.flat.machine) (slots s.flat.machine)) s
      (arrived v p index (step_cost s.flat.machine (original s.flat.machine) (slots s.flat.machine)) m (after_all by v s.kept (step_transfers s.flat.machine (Some p) m)) q s)
  step_leads =
      let f : Machine = s.flat.machine in
      let n : ℕ = step_cost s.flat.machine (original s.flat.machine) (slots s.flat.machine) in
      let made = plain_made by v s (Some p) here (none_some s.flat.machine.ending going) plain none in
      let state = state_is s.flat m (step s.flat.input) in
      let next : (held_step s.flat).machine ≡ m = ap (λ (k : FlatState). k.machine) state in
      let kept = made.kept ∙ ap (λ (k : Machine). after_all by v s.kept (step_transfers s.flat.machine (Some p) k)) next in
      let words = made.words ∙ ap (λ (i : ℕ). reverse (fetches_from (word_in v s.kept p.0) i (step_cost s.flat.machine (original s.flat.machine) (slots s.flat.machine)) s.sets) ++ s.words) at in
      let is = moment_is _ (arrived v p index n m (after_all by v s.kept (step_transfers f (Some p) m)) q s)
      (made.flat ∙ state)
      (made.here ∙ ap (λ (k : Machine). here_behind v s.flat.machine (Some p) k) next
      ∙ ap (λ (e : Option End). if is_some e then Some p else here_after v s.flat.machine (Some p) m) on ∙ there)
      made.spent kept made.count
      (made.sets ∙ ap (λ (r : Record). s.sets + (writes r - writes s.kept)) kept)
      words in
      record {
        is = is;
        many = sym (ap (λ (t : Moment). length t.words) is) ∙ made.many;
        before = made.before;
      }

-- an exit behind a block's last text word
pub fall_leads : (by : Policy) (v : ImageData) (s : Moment) (p q : ℕ × ℕ) (index : ℕ) → s.here ≡ Some p → s.flat.machine.ending ≡ None → at_fall v s.flat.machine (Some p) ≡ true → s.spent ≡ 0 →
    index_in s.kept p ≡ index → place_of v s.flat.machine.pc ≡ Some q →
    LeadsTo by v 1 s (arrived v p index 1 s.flat.machine (by s.kept v (direct p.0 p.1 s.flat.machine.pc)) q s)
fall_leads by v s p q index here going falls none at there =
    let first : index_in s.kept p + s.spent ≡ index = omega (arith, none, at) in
    let is = events_one by v s ∙ fall_event by v s (none_some s.flat.machine.ending going) p here falls
    ∙ moment_is (counted (next_fetch v p s ∷ []) (fell by v p s)) (arrived v p index 1 s.flat.machine (by s.kept v (direct p.0 p.1 s.flat.machine.pc)) q s)
    refl there refl refl refl refl (ap (λ (i : ℕ). fetch_in v (written_in s) p.0 i ∷ s.words) first) in
    record {
      is = is;
      many = (let long : length (reverse (fetches_from (word_in v s.kept p.0) index 1 s.sets) ++ s.words) ≡ suc (length s.words) = refl in omega (arith, long));
      before = λ j lt. (let zero_is : j ≡ 0 = omega (arith, lt) in ap (λ (k : ℕ). (events by v k s).flat) zero_is ∙ ap (λ (t : Moment). t.flat) (events_none by v s));
    }

-- ---- over points

-- the ram behind so many fetches from an index on, and what a service did of its own
pub record RamStrode (span n more index : ℕ) (before after : RamState) : Type 0 where
  pub quiet : after.faults ≡ before.faults
  pub fetches : after.fetches ≡ risen before.fetches n
  pub fetched_at : after.fetched_at ≡ reverse (fetches_from (λ j. slice_index before.words j) index n before.sets) ++ before.fetched_at
  pub sets : after.sets ≡ risen before.sets more
  pub kept : KeepsBeyond span before after

-- In a run from `first` sets on so many words were fetched behind m of them, and in the ram behind k.
since_from : (word : ℕ → ℕ) (first i n m : ℕ) → since first (fetches_from word i n m) ≡ fetches_from word i n (risen first m)
since_from word first i zero m = refl
since_from word first i (suc n) m = ap (λ (l : List Fetch). fetch i (risen first m) (word i) ∷ l) (since_from word first (i + 1) n m)

words_on : (word : ℕ → ℕ) (i n first m k : ℕ) (words earlier before : List Fetch) → k ≡ risen first m → before ≡ since first words ++ earlier →
    reverse (fetches_from word i n k) ++ before ≡ since first (reverse (fetches_from word i n m) ++ words) ++ earlier
words_on word i n first m k words earlier before sets was =
    ap (λ (x : ℕ). reverse (fetches_from word i n x) ++ before) sets
    ∙ ap (λ (l : List Fetch). reverse l ++ before) (sym (since_from word first i n m))
    ∙ ap (λ (l : List Fetch). l ++ before) (sym (since_reverse first (fetches_from word i n m)))
    ∙ ap (λ (l : List Fetch). since first (reverse (fetches_from word i n m)) ++ l) was
    ∙ sym (append_assoc (since first (reverse (fetches_from word i n m))) (since first words) earlier)
    ∙ ap (λ (l : List Fetch). l ++ earlier) (sym (since_append first (reverse (fetches_from word i n m)) words))

-- From where a hart stands between two instructions to where it stands next.
pub record Stride (by : Policy) (span : ℕ) (v : ImageData) (old new : Point) : Type 0 where
  pub index : ℕ
  pub here : ℕ × ℕ
  pub to : ℕ
  pub there : ℕ × ℕ
  pub words : ℕ
  pub control : old.hart.control ≡ At index here.0 here.1 Start
  pub lands : new.hart.control ≡ At to there.0 there.1 Start
  pub going : old.hart.machine.ending ≡ None
  pub on : new.hart.machine.ending ≡ None
  -- the machine instructions of the definition lead there, and this is what they cost and transfer
  pub leads : (s : Moment) → s.flat.machine ≡ old.hart.machine → s.here ≡ Some here → s.spent ≡ 0 → s.kept ≡ old.kept → index_in s.kept here ≡ index →
      LeadsTo by v words s (arrived v here index words new.hart.machine new.kept there s)
  pub transfers : List Transfer
  pub moves : new.kept ≡ after_all by v old.kept transfers
  pub held : HoldsRow v old.kept old.ram.words here.0 index words
  pub is_in : IsIn new.kept to there.0 there.1
  pub goes : GoesOn v new.hart.machine.pc there.0 there.1
  pub text : (x : ℕ) → fetched new.hart.machine.bus x ≡ fetched old.hart.machine.bus x
  pub one : new.hart.machine.steps ≤ old.hart.machine.steps + 1
  pub most : 3 * old.hart.machine.steps + depth v old.hart.machine old.hart.control + words ≤ 3 * new.hart.machine.steps + depth v new.hart.machine new.hart.control
  pub calls : new.kept.counts.services + most_calls v old.hart.machine old.hart.control ≤ old.kept.counts.services + most_calls v new.hart.machine new.hart.control
  pub count : new.hart.count ≡ old.hart.count + words
  pub failed : new.hart.failed ≡ old.hart.failed
  pub booted : new.hart.booted ≡ old.hart.booted
  pub left : new.left ≡ old.left
  pub out : new.out ≡ old.out
  pub err : new.err ≡ old.err
  pub ram : RamStrode span words (writes new.kept - writes old.kept) index old.ram new.ram

-- what a policy keeps to
pub record Laws (policy : Policy) : Type 0 where
  pub linked : (r : Record) (v : ImageData) (b o t : ℕ) → is_linked r b o ≡ true → policy r v (direct b o t) ≡ r
  pub one : (r : Record) (v : ImageData) (t : Transfer) → (policy r v t).counts.services ≤ r.counts.services + 1
  pub written : (r : Record) (v : ImageData) (t : Transfer) → writes r ≤ writes (policy r v t)

-- what no transfer lowers, none of a list lowers
pub after_rises : (measure : Record → ℕ) (by : Policy) (v : ImageData) → ((r : Record) (v : ImageData) (t : Transfer) → measure r ≤ measure (by r v t)) →
    (r : Record) (ts : List Transfer) → measure r ≤ measure (after_all by v r ts)
after_rises measure by v law r [] = omega arith
after_rises measure by v law r (t ∷ ts) = let one = law r v t in let rest = after_rises measure by v law (by r v t) ts in omega (arith, one, rest)

module _ {by : Policy} {span : ℕ} {v : ImageData} {old new : Point} (w : Stride by span v old new) where
  -- the point stands where a moment does
  module _ (s : Moment) (from : Point) (at : Tracks span v s from old) (once : (b f g : ℕ) → Placed old.kept b f → Placed old.kept b g → f ≡ g) where
    stands : Stands v old.kept s.flat.machine old.hart.machine (At w.index w.here.0 w.here.1 Start)
    stands = subst (λ (c : Control). Stands v old.kept s.flat.machine old.hart.machine c) w.control
        (subst (λ (e : Option End). Agrees e v old.kept s.flat.machine old.hart.machine old.hart.control) w.going at.matches)

    same : s.flat.machine ≡ old.hart.machine
    same = sym stands.1.0

    flat_on : s.flat.machine.ending ≡ None
    flat_on = ap (λ (m : Machine). m.ending) same ∙ w.going

    first_at : index_in s.kept w.here ≡ w.index
    first_at =
        let first = first_is old.kept w.here.0 stands.0.0 once stands.0.1 in
        let index = stands.0.2 in
        let here : index_in old.kept w.here ≡ w.index = omega (arith, first, index) in
        ap (λ (r : Record). index_in r w.here) (sym at.kept) ∙ here

    pub leads_on : LeadsTo by v w.words s (arrived v w.here w.index w.words new.hart.machine new.kept w.there s)
    leads_on = w.leads s same (sym (at.here w.going) ∙ ap (λ (c : Control). here_of v s.flat.machine c) w.control)
        (sym at.spent ∙ running_spent s.flat.machine old.hart.control flat_on ∙ ap (λ (c : Control). spent s.flat.machine c) w.control)
        (sym at.kept) first_at

    arrives : Tracks span v (arrived v w.here w.index w.words new.hart.machine new.kept w.there s) from new
    arrives = record {
      image = image_same v (λ x. fetched s.flat.machine.bus x) (λ x. fetched new.hart.machine.bus x) (λ x. w.text x ∙ ap (λ (m : Machine). fetched m.bus x) (sym same)) at.image;
      matches = subst (λ (e : Option End). Agrees e v new.kept new.hart.machine new.hart.machine new.hart.control) (sym w.on)
          (subst (λ (c : Control). Stands v new.kept new.hart.machine new.hart.machine c) (sym w.lands) (w.is_in, (refl, w.goes)));
      here = λ on. ap (λ (c : Control). here_of v new.hart.machine c) w.lands;
      spent = running_spent new.hart.machine new.hart.control w.on ∙ ap (λ (c : Control). spent new.hart.machine c) w.lands;
      kept = refl;
      count = w.count ∙ ap (λ (n : ℕ). n + w.words) at.count;
      input = w.left ∙ at.input;
      output = subst (λ (o : Option (List ℕ)). Appends from.out o s.flat.output) (sym w.out) at.output;
      error = subst (λ (o : Option (List ℕ)). Appends from.err o s.flat.error) (sym w.err) at.error;
      words = w.ram.fetched_at
          ∙ ap (λ (l : List Fetch). reverse l ++ old.ram.fetched_at) (row_is v old.kept old.ram.words w.here.0 w.index w.words old.ram.sets w.held)
          ∙ ap (λ (r : Record). reverse (fetches_from (word_in v r w.here.0) w.index w.words old.ram.sets) ++ old.ram.fetched_at) at.kept
          ∙ words_on (word_in v s.kept w.here.0) w.index w.words from.ram.sets s.sets old.ram.sets s.words from.ram.fetched_at old.ram.fetched_at at.ram.sets at.words;
      ram = subst (λ (n : ℕ). RamRan span n (s.sets + (writes new.kept - writes s.kept)) from.ram new.ram) (sym leads_on.many)
          (subst (λ (r : Record). RamRan span (length s.words + w.words) (s.sets + (writes new.kept - writes r)) from.ram new.ram) at.kept
          (ram_strode span (length s.words) s.sets w.words (writes new.kept - writes old.kept) w.index from.ram old.ram new.ram at.ram w.ram));
    }
      where
        ram_strode : (span f n more set index : ℕ) (a b c : RamState) → RamRan span f n a b → RamStrode span more set index b c → RamRan span (f + more) (n + set) a c
        ram_strode span f n more set index a b c ran step = record {
          quiet = step.quiet ∙ ran.quiet;
          fetches = step.fetches ∙ ap (λ (x : ℕ). risen x more) ran.fetches ∙ risen_more a.fetches f more;
          sets = step.sets ∙ ap (λ (x : ℕ). risen x set) ran.sets ∙ risen_more a.sets n set;
          kept = kept_both span a b c ran.kept step.kept;
        }

    pub tracks_on : Tracks span v (events by v w.words s) from new
    tracks_on = subst (λ (t : Moment). Tracks span v t from new) (sym leads_on.is) arrives

  pub came_stride : {limit made : ℕ} {first : Point} → Came by span v limit made first old → old.hart.machine.steps < limit →
      ((b f g : ℕ) → Placed old.kept b f → Placed old.kept b g → f ≡ g) → Came by span v limit (made + w.words) first new
  came_stride {limit} {made} {first} was more once = record {
    tracks = λ s from at. subst (λ (t : Moment). Tracks span v t from new) (sym (events_more by v made w.words s)) (tracks_on (events by v made s) from (was.tracks s from at) once);
    going = λ s from at j lt. elim (cases_lt j made) [
      | inl less ↦ was.going s from at j less
      | inr least ↦
          let sum : j ≡ made + (j - made) = omega (arith, least) in
          let few : j - made < w.words = omega (arith, lt, least) in
          let same : (events by v j s).flat ≡ (events by v made s).flat =
          ap (λ (k : ℕ). (events by v k s).flat) sum ∙ ap (λ (t : Moment). t.flat) (events_more by v made (j - made) s)
          ∙ (leads_on (events by v made s) from (was.tracks s from at) once).before (j - made) few in
          subst (λ (f : FlatState). (f.machine.ending ≡ None) × (f.machine.steps < limit)) (sym same)
          (goes_with span v limit (events by v made s) from old (was.tracks s from at) w.going more)
    ];
  }

  pub stays_stride : {limit : ℕ} {first : Point} → Stays (record { policy = by; image = v; limit = limit; span = span; from = first }) old → old.hart.machine.steps < limit → Laws by →
      Stays (record { policy = by; image = v; limit = limit; span = span; from = first }) new
  stays_stride {limit} {first} so_far more laws = record {
    steps = let one = w.one in omega (arith, one, more);
    fits = record {
      image = image_same v (λ x. fetched old.hart.machine.bus x) (λ x. fetched new.hart.machine.bus x) w.text so_far.fits.image;
      place = subst (λ (e : Option End). StandsBy e v new.kept new.hart.machine new.hart.control) (sym w.on)
          (subst (λ (c : Control). StandsBy None v new.kept new.hart.machine c) (sym w.lands) (w.is_in, w.goes));
    };
    failed = w.failed ∙ so_far.failed;
    booted = w.booted ∙ so_far.booted;
    later = let l = so_far.later in let c = w.count in omega (arith, l, c);
    count =
        let before = most_running v old.hart.machine old.hart.control w.going in
        let after = most_running v new.hart.machine new.hart.control w.on in
        let c = so_far.count in
        let n = w.count in
        let m = w.most in
        omega (arith, before, after, c, n, m);
    calls = λ e. (let c = so_far.calls w.going in let k = w.calls in omega (arith, c, k));
    rises = λ measure law.
        let before = so_far.rises measure law in
        let up = rises_to measure law in
        omega (arith, before, up);
    ram = subst (λ (n : ℕ). RamRan span n (writes new.kept - writes first.kept) first.ram new.ram) (sym (fetched_more so_far.later))
        (subst (λ (n : ℕ). RamRan span (fetched_by first.hart old.hart + w.words) n first.ram new.ram)
        (sum_less (writes first.kept) (writes old.kept) (writes new.kept) (so_far.rises (λ r. writes r) laws.written) (rises_to (λ r. writes r) laws.written))
        (record {
          quiet = w.ram.quiet ∙ so_far.ram.quiet;
          fetches = w.ram.fetches ∙ ap (λ (x : ℕ). risen x w.words) so_far.ram.fetches ∙ risen_more first.ram.fetches (fetched_by first.hart old.hart) w.words;
          sets = w.ram.sets ∙ ap (λ (x : ℕ). risen x (writes new.kept - writes old.kept)) so_far.ram.sets ∙ risen_more first.ram.sets (writes old.kept - writes first.kept) (writes new.kept - writes old.kept);
          kept = kept_both span first.ram old.ram new.ram so_far.ram.kept w.ram.kept;
        }));
  }
    where
      rises_to : (measure : Record → ℕ) → ((r : Record) (v : ImageData) (t : Transfer) → measure r ≤ measure (by r v t)) → measure old.kept ≤ measure new.kept
      rises_to measure law = let up = after_rises measure by v law old.kept w.transfers in let is = ap (λ (r : Record). measure r) w.moves in omega (arith, up, is)

      sum_less : (a b c : ℕ) → a ≤ b → b ≤ c → b - a + (c - b) ≡ c - a
      sum_less a b c p q = omega arith

      none_unfetched : (h : HartData) → h.machine.ending ≡ None → unfetched h ≡ 0
      none_unfetched h is = ap (λ (e : Option End). if is_some e && is_outside h.control then 1 else 0) is

      fetched_more : first.hart.count ≤ old.hart.count → fetched_by first.hart new.hart ≡ fetched_by first.hart old.hart + w.words
      fetched_more later =
          let a = none_unfetched old.hart w.going in
          let b = none_unfetched new.hart w.on in
          let c = w.count in
          omega (arith, a, b, c, later)

pub runs_stride : {run : Course} {now next : Point} → Running run now → Stride run.policy run.span run.image now next → now.hart.machine.steps < run.limit → Laws run.policy →
    ((b f g : ℕ) → Placed now.kept b f → Placed now.kept b g → f ≡ g) → Running run next
runs_stride {run} {now} {next} so_far w more laws once = record {
  made = so_far.made + w.words;
  came = came_stride w so_far.came more once;
  stays = stays_stride w so_far.stays more laws;
}

-- ---- strides of a hart, by what its machine does

-- what a stride changes beside the machine: control, the count, and the ram
pub record Moves (span n index : ℕ) (p q : ℕ × ℕ) (to : ℕ) (old new : Point) : Type 0 where
  pub control : old.hart.control ≡ At index p.0 p.1 Start
  pub lands : new.hart.control ≡ At to q.0 q.1 Start
  pub count : new.hart.count ≡ old.hart.count + n
  pub failed : new.hart.failed ≡ old.hart.failed
  pub booted : new.hart.booted ≡ old.hart.booted
  pub left : new.left ≡ old.left
  pub out : new.out ≡ old.out
  pub err : new.err ≡ old.err
  pub ram : RamStrode span n (writes new.kept - writes old.kept) index old.ram new.ram

depth_place : (v : ImageData) (m : Machine) (i : ℕ) (p : ℕ × ℕ) → place_of v m.pc ≡ Some p → depth v m (At i p.0 p.1 Start) ≡ 1
depth_place v m i p at = ap (λ (t : Bool). if t then 0 else 1) (no_fall v m p.0 p.1 at)

depth_fall : (v : ImageData) (m : Machine) (i : ℕ) (p : ℕ × ℕ) → (place_of v m.pc ≡ Some (p.0, p.1) → ⊥) → depth v m (At i p.0 p.1 Start) ≡ 0
depth_fall v m i p apart = ap (λ (t : Bool). if not t then 0 else 1) (two_places (place_of v m.pc) p.0 p.1 apart)

calls_one : (n : ℕ) → n ≡ 1 → calls_by n ≡ 1
calls_one n is = ap (λ (k : ℕ). calls_by k) is

calls_none : (n : ℕ) → n ≡ 0 → calls_by n ≡ 0
calls_none n is = ap (λ (k : ℕ). calls_by k) is

calls_all : (n : ℕ) → calls_by n ≤ 1
calls_all zero = omega arith
calls_all (suc n) = omega arith

-- an original step at a text word's place: where it transfers nothing it takes two machine instructions at most, and else it leads to a text word's
-- place in three at most
module _ (by : Policy) (span : ℕ) (v : ImageData) (old new : Point) (n index to : ℕ) (p q : ℕ × ℕ) (laws : Laws by) (w : Moves span n index p q to old new)
    (going : old.hart.machine.ending ≡ None) (on : new.hart.machine.ending ≡ None) (place : place_of v old.hart.machine.pc ≡ Some p)
    (step : (input : List ℕ) → held_made old.hart.machine input ≡ quiet new.hart.machine input)
    (there : here_after v old.hart.machine (Some p) new.hart.machine ≡ Some q)
    (cost : step_cost old.hart.machine (original old.hart.machine) (slots old.hart.machine) ≡ n)
    (moves : new.kept ≡ after_all by v old.kept (step_transfers old.hart.machine (Some p) new.hart.machine))
    (few : ((n ≤ 2) × (new.kept ≡ old.kept)) ⊎ ((n ≤ 3) × (new.kept.counts.services ≤ old.kept.counts.services + 1) × (place_of v new.hart.machine.pc ≡ Some q)))
    (is_in : IsIn new.kept to q.0 q.1) (goes : GoesOn v new.hart.machine.pc q.0 q.1) (held : HoldsRow v old.kept old.ram.words p.0 index n) where
  steps_one : new.hart.machine.steps ≡ old.hart.machine.steps + 1
  steps_one = elim (held_steps old.hart.machine []) [
    | inl one ↦ sym (ap (λ (k : Made). k.machine.steps) (step [])) ∙ one
    | inr stop ↦
        let over : is_some new.hart.machine.ending ≡ true = sym (ap (λ (k : Made). is_some k.machine.ending) (step [])) ∙ stop.1 in
        absurd (false≢true (sym (ap (λ (e : Option End). is_some e) on) ∙ over))
  ]

  depth_old : depth v old.hart.machine old.hart.control ≡ 1
  depth_old = ap (λ (c : Control). depth v old.hart.machine c) w.control ∙ depth_place v old.hart.machine index p place

  abbrev deep : ℕ
  deep = depth v new.hart.machine new.hart.control

  deep_place : place_of v new.hart.machine.pc ≡ Some q → depth v new.hart.machine new.hart.control ≡ 1
  deep_place at = ap (λ (c : Control). depth v new.hart.machine c) w.lands ∙ depth_place v new.hart.machine to q at

  bound_most : 3 * old.hart.machine.steps + depth v old.hart.machine old.hart.control + n ≤ 3 * new.hart.machine.steps + depth v new.hart.machine new.hart.control
  bound_most = elim few [
    | inl stays ↦ omega (arith, stays.0, steps_one, depth_old)
    | inr leads ↦ (let d = deep_place leads.2 in omega (arith, leads.0, steps_one, depth_old, d))
  ]

  bound_calls : new.kept.counts.services + most_calls v old.hart.machine old.hart.control ≤ old.kept.counts.services + most_calls v new.hart.machine new.hart.control
  bound_calls =
      let one = calls_one (depth v old.hart.machine old.hart.control) depth_old in
      elim few [
        | inl stays ↦ (let same = ap (λ (r : Record). r.counts.services) stays.1 in omega (arith, same, steps_one, one))
        | inr leads ↦ (let next = calls_one (depth v new.hart.machine new.hart.control) (deep_place leads.2) in omega (arith, leads.1, steps_one, one, next))
      ]

  text_leads : (s : Moment) → s.flat.machine ≡ old.hart.machine → s.here ≡ Some p → s.spent ≡ 0 → s.kept ≡ old.kept → index_in s.kept p ≡ index →
      LeadsTo by v n s (arrived v p index n new.hart.machine new.kept q s)
  text_leads s same here none kept first =
      let f : Machine = s.flat.machine in
      let cost_is : step_cost s.flat.machine (original s.flat.machine) (slots s.flat.machine) ≡ n = ap (λ (g : Machine). step_cost g (original g) (slots g)) same ∙ cost in
      let moves_is : after_all by v s.kept (step_transfers s.flat.machine (Some p) new.hart.machine) ≡ new.kept =
      ap (λ (g : Machine). after_all by v s.kept (step_transfers g (Some p) new.hart.machine)) same
      ∙ ap (λ (r : Record). after_all by v r (step_transfers old.hart.machine (Some p) new.hart.machine)) kept ∙ sym moves in
      subst (λ (k : ℕ). LeadsTo by v k s (arrived v p index k new.hart.machine new.kept q s)) cost_is
      (subst (λ (r : Record). LeadsTo by v (step_cost s.flat.machine (original s.flat.machine) (slots s.flat.machine)) s (arrived v p index (step_cost s.flat.machine (original s.flat.machine) (slots s.flat.machine)) new.hart.machine r q s)) moves_is
      (step_leads by v s p q new.hart.machine index here (ap (λ (g : Machine). g.ending) same ∙ going)
      (ap (λ (g : Machine). at_fall v g (Some p)) same ∙ no_fall v old.hart.machine p.0 p.1 place) none first
      (λ input. ap (λ (g : Machine). held_made g input) same ∙ step input) on (ap (λ (g : Machine). here_after v g (Some p) new.hart.machine) same ∙ there)))

  pub text_stride : Stride by span v old new
  text_stride = record {
    index = index;
    here = p;
    to = to;
    there = q;
    words = n;
    control = w.control;
    lands = w.lands;
    going = going;
    on = on;
    leads = text_leads;
    transfers = step_transfers old.hart.machine (Some p) new.hart.machine;
    moves = moves;
    held = held;
    is_in = is_in;
    goes = goes;
    text = λ x. sym (ap (λ (k : Made). fetched k.machine.bus x) (step [])) ∙ next_text x v old.hart.machine Outside old.hart.machine [];
    one = omega (arith, steps_one);
    most = bound_most;
    calls = bound_calls;
    count = w.count;
    failed = w.failed;
    booted = w.booted;
    left = w.left;
    out = w.out;
    err = w.err;
    ram = w.ram;
  }

-- the exit behind a block's last text word
module _ (by : Policy) (span : ℕ) (v : ImageData) (old new : Point) (index to : ℕ) (p q : ℕ × ℕ) (laws : Laws by) (w : Moves span 1 index p q to old new)
    (going : old.hart.machine.ending ≡ None) (same : new.hart.machine ≡ old.hart.machine) (apart : place_of v old.hart.machine.pc ≡ Some (p.0, p.1) → ⊥)
    (moves : new.kept ≡ by old.kept v (direct p.0 p.1 old.hart.machine.pc)) (there : place_of v old.hart.machine.pc ≡ Some q) (is_in : IsIn new.kept to q.0 q.1)
    (held : HoldsRow v old.kept old.ram.words p.0 index 1) where
  falls_here : at_fall v old.hart.machine (Some p) ≡ true
  falls_here = ap (λ (t : Bool). not t) (two_places (place_of v old.hart.machine.pc) p.0 p.1 apart)

  pub fall_stride : Stride by span v old new
  fall_stride =
      let steps = ap (λ (m : Machine). m.steps) same in
      let before : depth v old.hart.machine old.hart.control ≡ 0 = ap (λ (c : Control). depth v old.hart.machine c) w.control ∙ depth_fall v old.hart.machine index p apart in
      let behind : depth v new.hart.machine new.hart.control ≡ 1 = ap (λ (c : Control). depth v new.hart.machine c) w.lands
      ∙ depth_place v new.hart.machine to q (ap (λ (m : Machine). place_of v m.pc) same ∙ there) in
      let once = laws.one old.kept v (direct p.0 p.1 old.hart.machine.pc) in
      let served = ap (λ (r : Record). r.counts.services) moves in
      let none = calls_none (depth v old.hart.machine old.hart.control) before in
      let more = calls_one (depth v new.hart.machine new.hart.control) behind in
      record {
        index = index;
        here = p;
        to = to;
        there = q;
        words = 1;
        control = w.control;
        lands = w.lands;
        going = going;
        on = ap (λ (m : Machine). m.ending) same ∙ going;
        leads = λ s machine here none kept first. subst (λ (m : Machine). LeadsTo by v 1 s (arrived v p index 1 m new.kept q s)) (machine ∙ sym same)
            (subst (λ (r : Record). LeadsTo by v 1 s (arrived v p index 1 s.flat.machine r q s))
            (ap (λ (g : Machine). by s.kept v (direct p.0 p.1 g.pc)) machine ∙ ap (λ (r : Record). by r v (direct p.0 p.1 old.hart.machine.pc)) kept ∙ sym moves)
            (fall_leads by v s p q index here (ap (λ (g : Machine). g.ending) machine ∙ going) (ap (λ (g : Machine). at_fall v g (Some p)) machine ∙ falls_here) none first
            (ap (λ (g : Machine). place_of v g.pc) machine ∙ there)));
        transfers = direct p.0 p.1 old.hart.machine.pc ∷ [];
        moves = moves;
        held = held;
        is_in = is_in;
        goes = inl (ap (λ (m : Machine). place_of v m.pc) same ∙ there);
        text = λ x. ap (λ (m : Machine). fetched m.bus x) same;
        one = omega (arith, steps);
        most = omega (arith, steps, before, behind);
        calls = omega (arith, steps, once, served, none, more);
        count = w.count;
        failed = w.failed;
        booted = w.booted;
        left = w.left;
        out = w.out;
        err = w.err;
        ram = w.ram;
      }
