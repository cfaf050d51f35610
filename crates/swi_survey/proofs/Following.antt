-- Caches follow a step that was made.
use Rattle.std.proofs.Common.{◌≡◌, ◌⊎◌, ℕ, zero, suc, ◌+◌, ◌^◌, ◌<◌, Bool, true, false, not, ◌&&◌, List, [], ◌∷◌, length, slice_get, slice_index, slice_index_or, Option, Some, None, is_some, if◌then◌else◌, arith, refl, sym, ◌∙◌, ap, subst, inl, inr}
use Rattle.std.proofs.lemmas.Option.{slice_get_read}
use Rattle.swi_isa.specs.declared.instr.Instr.{Instr}
use Rattle.swi_exec.specs.Arithmetic.{sum_of}
use Rattle.swi_memory.specs.Bus.{fetched}
use Rattle.swi_calls.specs.declared.end.End.{End}
use Rattle.swi_calls.specs.declared.machine.Machine.{Machine}
use Rattle.swi_calls.specs.StoresText.{instruction_store}
use Rattle.swi_calls.specs.Flat.{Made, with_instruction}
use Rattle.swi_calls.specs.Held.{held, held_made}
use Rattle.swi_image.specs.Format.{ImageData}
use Rattle.swi_image.specs.Place.{place_of, place_of_word}
use Rattle.swi_program.specs.Text.{TextData}
use Rattle.swi_render.specs.Rendering.{Slot, falls_of, rendering_of, sum}
use Rattle.swi_render.specs.ImageOf.{address_of}
use Rattle.swi_rom.specs.Record.{direct, indirect}
use Rattle.swi_hart.specs.Hart.{slots, whole_made}
use Rattle.swi_hart.proofs.Own.{held_as, held_none, is_own, own_made, whole_pc}
use Rattle.swi_board.specs.Transfers.{Here as Place, before_last, here_after, jumps_as, leaves_by, step_cost, step_size, step_transfers}
use Rattle.swi_tally.specs.declared.exits.Exit.{Exit}
use Rattle.swi_tally.specs.Exits.{ExitsData}
use Rattle.swi_tally.specs.Tallies.{TalliesData, AllServed, AreServing}
use Rattle.swi_tally.proofs.Siding.{all_serving}
use Rattle.swi_survey.specs.declared.leaving.Leaving.{Leaving}
use Rattle.swi_survey.specs.declared.leaving.Way.{Way}
use Rattle.swi_survey.specs.declared.leaving.Way.TheVariants as way
use Rattle.swi_survey.specs.declared.track.Here.{Here}
use Rattle.swi_survey.specs.declared.track.Here.TheVariants as here
use Rattle.swi_survey.specs.declared.track.Step.TheVariants as step
use Rattle.swi_survey.specs.declared.track.Track.{Track}
use Rattle.swi_survey.specs.declared.ways.Ways.{Ways}
use Rattle.swi_survey.specs.Leaving.{leaving_by}
use Rattle.swi_survey.specs.Ways.{AreAllWays, AreWays, HasNumber, exit_to, instr_at, is_last, jump_of, own_exit, own_if, place_behind}
use Rattle.swi_survey.specs.Track.{AllAfter, Follows, IsBehind, IsReady, IsStep, Leaves, Stands, StandsAt, behind_if, place_at, unfetched_at}
use Rattle.swi_survey.proofs.Mapping.{placed, same_some}
use Rattle.swi_survey.proofs.Places.{AtWord, Ground, at_word, next_stands, place_here, some_place}
use Rattle.swi_survey.proofs.Rows.{all_none, all_one, as_list}
use Rattle.swi_survey.proofs.Stepping.{Goes, goes, words_are, words_few}

-- a step at an address where no text word stands fetches nothing, and makes no transfer
pub followed_outside : (t : TextData) (v : ImageData) (f next : Machine) (input : List ℕ) (old new : Track) → old.here ≡ here.Outside → fetched f.bus f.pc ≡ None → next ≡ (held_made f input).machine →
    new.caches ≡ old.caches → new.ways.items ≡ old.ways.items → new.gates.items ≡ old.gates.items → new.here ≡ old.here → new.fetches ≡ old.fetches → new.outside ≡ old.outside + 1 → Follows t v f next old new
followed_outside t v f next input old new is none made caches ways gates same fetches outside =
    let here_is : place_at t v old.here ≡ None = ap (place_at t v) is in
    record {
      moves = record {
        rows = as_list v [] (step_transfers f (place_at t v old.here) next) old.caches new.caches (sym (ap (λ (h : Place). step_transfers f h next) here_is))
            (subst (λ (c : TalliesData). AllAfter v [] old.caches c) (sym caches) (all_none v old.caches));
        serving = λ n h. subst (λ (c : TalliesData). AreServing v (suc n) c) (sym caches) (all_serving v old.caches n h);
        exits = ap (λ (c : TalliesData). c.exits) caches;
        ways = ways;
        gates = gates;
        place_is = ap (place_at t v) same ∙ here_is ∙ sym (ap (λ (h : Place). here_after v f h next) here_is);
        fetches_are = omega (arith, fetches, ap (λ (h : Place). step_size 0 f h) here_is);
        outside_is = omega (arith, outside, ap (λ (h : Place). unfetched_at h) here_is);
      };
      few = omega (arith, fetches);
      stands = λ on. absurd (ended (ap (λ (m : Machine). m.ending) (made ∙ ap (λ (q : Made). q.machine) (held_none f input none))) on);
    }
  where
    ended : {o : Option End} {e : End} → o ≡ Some e → o ≡ None → ⊥
    ended is on = cc

and_false : (b : Bool) → (b && false) ≡ false
and_false true = refl
and_false false = refl

and_true : (b : Bool) → (b && true) ≡ b
and_true true = refl
and_true false = refl

none_of : {A : Type 0} (o : Option A) → is_some o ≡ false → o ≡ None
none_of None e = refl
none_of (Some y) e = absurd cc

-- caches have served a step that left its text word so, over this exit or to this address
abbrev pub ServedOn : ImageData → Way → Option ℕ → ℕ → TalliesData → TalliesData → Type 0
ServedOn v way.Next x a old new = new ≡ old
ServedOn v way.Over x a old new = (p : ℕ × ℕ) → HasNumber old.exits (exit_to v p a) x → AllServed v (direct p.0 p.1 a) old new
ServedOn v way.Away x a old new = AllServed v (indirect a) old new

-- ---- a step from a text word

-- what is known of it
pub record FromWord (t : TextData) (v : ImageData) (f next : Machine) (k : ℕ) : Type 0 where
  pub ground : Ground t v
  pub word : k < length t.words
  pub at : f.pc ≡ address_of t k
  pub fetch : AtWord t f k
  pub input : List ℕ
  pub plain : instruction_store f (instr_at t k) ≡ None
  pub next_is : next ≡ (held_made f input).machine

module _ {t : TextData} {v : ImageData} {f next : Machine} {k : ℕ} (s : FromWord t v f next k) where
  abbrev x : Option Instr
  x = instr_at t k

  abbrev w : ℕ
  w = slice_index t.words k

  abbrev p : ℕ × ℕ
  p = place_of_word v k

  abbrev left : Leaving
  left = leaving_by (instr_at t k) f.regs f.pc

  made_as : next ≡ (with_instruction f x s.input).machine
  made_as = s.next_is ∙ ap (λ (m : Made). m.machine) (held_as f s.input w x s.fetch.fetch refl)
      ∙ ap (λ (o : Option ℕ). (held f o (with_instruction f x s.input) s.input).machine) s.plain

  own_goes : (y : Instr) → x ≡ Some y → is_own y ≡ true → next.ending ≡ None → next.pc ≡ sum_of f.pc 4
  own_goes y is own on =
      let same : (whole_made 0 f y s.input).machine ≡ next = ap (λ (m : Made). m.machine) (own_made f 0 s.input w y s.fetch.fetch is own) ∙ sym s.next_is in
      sym (ap (λ (m : Machine). m.pc) same) ∙ whole_pc 0 f y s.input (ap (λ (m : Machine). m.ending) same ∙ on)

  goes_so : Goes v f next x (rendering_of x w f.pc) p left.way
  goes_so = goes v f next w p s.input x made_as own_goes

  here_is : place_at t v (here.At k) ≡ Some p
  here_is = some_place t v k s.ground s.word

  -- the definitions at that place, by the instruction and its rendering
  cost_is : step_size 0 f (place_at t v (here.At k)) ≡ left.words
  cost_is = ap (λ (h : Place). step_size 0 f h) here_is ∙ ap (λ (y : Option Instr). step_cost f y (slots f)) s.fetch.original_is
      ∙ ap (λ (ss : List Slot). step_cost f x ss) s.fetch.slots_is ∙ words_are f w x

  unfetched_is : unfetched_at (place_at t v (here.At k)) ≡ 0
  unfetched_is = ap (λ (h : Place). unfetched_at h) here_is

  transfers_are : step_transfers f (place_at t v (here.At k)) next ≡ (if jumps_as f x && not (is_some next.ending) then leaves_by f x (rendering_of x w f.pc) p next.pc else [])
  transfers_are = ap (λ (h : Place). step_transfers f h next) here_is
      ∙ ap (λ (y : Option Instr). if jumps_as f y && not (is_some next.ending) then leaves_by f y (slots f) p next.pc else []) s.fetch.original_is
      ∙ ap (λ (ss : List Slot). if jumps_as f x && not (is_some next.ending) then leaves_by f x ss p next.pc else []) s.fetch.slots_is

  after_is : here_after v f (place_at t v (here.At k)) next ≡ (if jumps_as f x then place_of v next.pc else Some (place_behind t k p))
  after_is = ap (λ (h : Place). here_after v f h next) here_is
      ∙ ap (λ (y : Option Instr). if jumps_as f y then place_of v next.pc else Some (p.0, p.1 + length (slots f))) s.fetch.original_is
      ∙ ap (λ (n : ℕ). if jumps_as f x then place_of v next.pc else Some (p.0, p.1 + n)) s.fetch.length_is

  at_stands : (h : Here) → StandsAt t next.pc h → Stands t v next.pc h
  at_stands (here.At j) at = at
  at_stands (here.Behind j) at = absurd at
  at_stands here.Outside at = at

  -- where the run stands then
  behind_stands : (last : Bool) (a : ℕ) (h : Here) → last ≡ is_last t v k p → jumps_as f x ≡ false → falls_of x ≡ true → h ≡ (if last then here.Behind k else here.At (suc k)) →
      (place_at t v h ≡ Some (place_behind t k p)) × (next.pc ≡ sum f.pc 4 → Stands t v next.pc h)
  behind_stands true a h last stays falls is = (
    ap (place_at t v) is ∙ ap (behind_if t k) here_is,
    λ pc. subst (λ (q : Here). Stands t v next.pc q) (sym is) (record {
      word = s.word;
      pc_is = pc ∙ ap (λ (n : ℕ). sum n 4) s.at;
      falls = falls;
      last = λ q at. ap (is_last t v k) (same_some q p (sym at ∙ here_is)) ∙ sym last;
    }),
  )
  behind_stands false a h last stays falls is =
      let n = next_stands t v k p s.ground s.word (sym last) in (
        ap (place_at t v) is ∙ n.place,
        λ pc. subst (λ (q : Here). Stands t v next.pc q) (sym is) (n.word, pc ∙ ap (λ (m : ℕ). sum m 4) s.at ∙ n.address),
      )

  stands_by : (way : Way) (last : Bool) (h : Here) → Goes v f next x (rendering_of x w f.pc) p way → last ≡ is_last t v k p → next.pc < 2 ^ 32 → IsBehind t k last way next.pc h →
      (place_at t v h ≡ here_after v f (place_at t v (here.At k)) next) × (next.ending ≡ None → Stands t v next.pc h)
  stands_by way.Next last h goes_next last_is small is =
      let b = behind_stands last next.pc h last_is goes_next.stays goes_next.falls is in
      (b.0 ∙ sym (after_is ∙ ap (λ (q : Bool). if q then place_of v next.pc else Some (place_behind t k p)) goes_next.stays), λ on. b.1 (goes_next.pc on))
  stands_by way.Over last h over last_is small is =
      (place_here t v next.pc h s.ground is small ∙ sym (after_is ∙ ap (λ (q : Bool). if q then place_of v next.pc else Some (place_behind t k p)) over.goes), λ on. at_stands h is)
  stands_by way.Away last h away last_is small is =
      (place_here t v next.pc h s.ground is small ∙ sym (after_is ∙ ap (λ (q : Bool). if q then place_of v next.pc else Some (place_behind t k p)) away.goes), λ on. at_stands h is)

  -- what the caches serve
  no_transfers : is_some next.ending ≡ true → step_transfers f (place_at t v (here.At k)) next ≡ []
  no_transfers over = transfers_are ∙ ap (λ (q : Bool). if q then leaves_by f x (rendering_of x w f.pc) p next.pc else []) (ap (λ (q : Bool). jumps_as f x && not q) over ∙ and_false (jumps_as f x))

  transfers_on : (b : Bool) → jumps_as f x ≡ b → is_some next.ending ≡ false → step_transfers f (place_at t v (here.At k)) next ≡ (if b then leaves_by f x (rendering_of x w f.pc) p next.pc else [])
  transfers_on b goes_so on = transfers_are ∙ ap (λ (q : Bool). if q && not (is_some next.ending) then leaves_by f x (rendering_of x w f.pc) p next.pc else []) goes_so
      ∙ ap (λ (q : Bool). if q then leaves_by f x (rendering_of x w f.pc) p next.pc else []) (ap (λ (q : Bool). b && not q) on ∙ and_true b)

  served_by : (way : Way) (exit : Option ℕ) (old new : TalliesData) → Goes v f next x (rendering_of x w f.pc) p way → HasNumber old.exits (own_exit t v k p) exit → is_some next.ending ≡ false →
      ServedOn v way exit next.pc old new → AllAfter v (step_transfers f (place_at t v (here.At k)) next) old new
  served_by way.Next exit old new goes_next has on served =
      as_list v [] _ old new (sym (transfers_on false goes_next.stays on)) (subst (λ (c : TalliesData). AllAfter v [] old c) (sym served) (all_none v old))
  served_by way.Over exit old new over has on served =
      let none = none_of next.ending on in
      let same : own_exit t v k p ≡ exit_to v (p.0, p.1 + before_last f x (rendering_of x w f.pc)) next.pc = ap (λ (n : ℕ). own_if v p (jump_of x n)) (sym s.at) ∙ over.exit none in
      as_list v _ _ old new (sym (transfers_on true over.goes on ∙ over.transfers none))
      (all_one v (direct p.0 (p.1 + before_last f x (rendering_of x w f.pc)) next.pc) old new (served (p.0, p.1 + before_last f x (rendering_of x w f.pc)) (subst (λ (e : Option Exit). HasNumber old.exits e exit) same has)))
  served_by way.Away exit old new away has on served =
      as_list v _ _ old new (sym (transfers_on true away.goes on ∙ away.transfers (none_of next.ending on))) (all_one v (indirect next.pc) old new served)

  -- what is counted, and where the run stands
  pub record Counts (old new : Track) (ways : Ways) : Type 0 where
    pub here_was : old.here ≡ here.At k
    pub ways_are : AreWays t v old.caches.exits k ways
    pub same_ways : new.ways.items ≡ old.ways.items
    pub same_gates : new.gates.items ≡ old.gates.items
    pub fetches : new.fetches ≡ old.fetches + left.words
    pub outside : new.outside ≡ old.outside
    pub behind : IsBehind t k ways.last left.way next.pc new.here
    pub small : next.pc < 2 ^ 32

  follows : (old new : Track) (ways : Ways) → Counts old new ways → AllAfter v (step_transfers f (place_at t v (here.At k)) next) old.caches new.caches →
      ((n : ℕ) → AreServing v n old.caches → AreServing v (suc n) new.caches) → new.caches.exits ≡ old.caches.exits → Follows t v f next old new
  follows old new ways c rows serving exits =
      let b = stands_by left.way ways.last new.here goes_so (c.ways_are.last p here_is) c.small c.behind in
      let at : place_at t v old.here ≡ place_at t v (here.At k) = ap (place_at t v) c.here_was in
      record {
        moves = record {
          rows = as_list v _ _ old.caches new.caches (sym (ap (λ (h : Place). step_transfers f h next) at)) rows;
          serving = serving;
          exits = exits;
          ways = c.same_ways;
          gates = c.same_gates;
          place_is = b.0 ∙ sym (ap (λ (h : Place). here_after v f h next) at);
          fetches_are = omega (arith, c.fetches, ap (λ (h : Place). step_size 0 f h) at, cost_is);
          outside_is = omega (arith, c.outside, ap (λ (h : Place). unfetched_at h) at, unfetched_is);
        };
        few = omega (arith, c.fetches, words_few f x);
        stands = b.1;
      }

  pub followed_end : (old new : Track) (ways : Ways) → Counts old new ways → is_some next.ending ≡ true → new.caches ≡ old.caches → Follows t v f next old new
  followed_end old new ways c over caches =
      follows old new ways c
      (as_list v [] _ old.caches new.caches (sym (no_transfers over)) (subst (λ (q : TalliesData). AllAfter v [] old.caches q) (sym caches) (all_none v old.caches)))
      (λ n h. subst (λ (q : TalliesData). AreServing v (suc n) q) (sym caches) (all_serving v old.caches n h))
      (ap (λ (q : TalliesData). q.exits) caches)

  pub followed_on : (old new : Track) (ways : Ways) → Counts old new ways → is_some next.ending ≡ false → ServedOn v left.way ways.own next.pc old.caches new.caches →
      ((n : ℕ) → AreServing v n old.caches → AreServing v (suc n) new.caches) → new.caches.exits ≡ old.caches.exits → Follows t v f next old new
  followed_on old new ways c on served serving exits =
      follows old new ways c (served_by left.way ways.own old.caches new.caches goes_so (c.ways_are.own p here_is) on served) serving exits

-- such a step, as it is told
pub from_word : (t : TextData) (v : ImageData) (f next : Machine) (failed : Bool) (h : Here) (k : ℕ) (l : Leaving) → Ground t v → k < length t.words → IsStep t f failed h (step.From k l) next →
    (h ≡ here.At k) × (l ≡ leaving_by (instr_at t k) f.regs f.pc) × FromWord t v f next k
from_word t v f next failed (here.At j) k l g lt s =
    let at : k ≡ j = s.step_is.0 in
    let pc : f.pc ≡ address_of t k = s.stands.1 ∙ ap (address_of t) (sym at) in (
      ap here.At (sym at),
      s.step_is.1 ∙ ap (λ (n : ℕ). leaving_by (instr_at t n) f.regs f.pc) (sym at),
      record {
        ground = g;
        word = lt;
        at = pc;
        fetch = at_word t f k g.sized s.text lt pc;
        input = s.input;
        plain = ap (λ (n : ℕ). instruction_store f (instr_at t n)) at ∙ s.step_is.2;
        next_is = s.next_is;
      },
    )
from_word t v f next failed (here.Behind j) k l g lt s = absurd s.step_is
from_word t v f next failed here.Outside k l g lt s = absurd (other s.step_is)
  where
    other : step.From k l ≡ step.Outside → ⊥
    other is = cc

-- ---- the calls, as their code meets them

pub outside_here : (t : TextData) (h : Here) → Leaves t h step.Outside → h ≡ here.Outside
outside_here t (here.At k) at = absurd at
outside_here t (here.Behind k) at = absurd at
outside_here t here.Outside at = refl

pub never_stores : (t : TextData) (h : Here) (a : ℕ) → Leaves t h (step.Store a) → ⊥
never_stores t (here.At k) a at = at
never_stores t (here.Behind k) a at = at
never_stores t here.Outside a at = at

pub word_left : (t : TextData) (h : Here) (k : ℕ) (l : Leaving) → Leaves t h (step.From k l) → k < length t.words
word_left t (here.At j) k l at = omega (arith, at.0, at.1)
word_left t (here.Behind j) k l at = absurd at
word_left t here.Outside k l at = absurd at

pub ways_at : (t : TextData) (v : ImageData) (k : Track) (j : ℕ) (w : Ways) → IsReady t v k → j < length t.words → w ≡ slice_index_or k.ways.items j w → AreWays t v k.caches.exits j w
ways_at t v k j w ready lt read = ready.ways_are.each j w (slice_get_read k.ways.items (length k.ways.items) j w refl (omega (arith, lt, ready.long)) read)

pub served_next : (v : ImageData) (by : Way) (x : Option ℕ) (a : ℕ) (c : TalliesData) → by ≡ way.Next → ServedOn v by x a c c
served_next v by x a c is = subst (λ (w : Way). ServedOn v w x a c c) (sym is) refl

pub served_over : (v : ImageData) (by : Way) (x : Option ℕ) (a : ℕ) (old new : TalliesData) → by ≡ way.Over → ((p : ℕ × ℕ) → HasNumber old.exits (exit_to v p a) x → AllServed v (direct p.0 p.1 a) old new) → ServedOn v by x a old new
served_over v by x a old new is served = subst (λ (w : Way). ServedOn v w x a old new) (sym is) served

pub served_away : (v : ImageData) (by : Way) (x : Option ℕ) (a : ℕ) (old new : TalliesData) → by ≡ way.Away → AllServed v (indirect a) old new → ServedOn v by x a old new
served_away v by x a old new is served = subst (λ (w : Way). ServedOn v w x a old new) (sym is) served

-- a run that stands at an address, and at no text word
pub no_word : (t : TextData) (v : ImageData) (a : ℕ) (h : Here) → StandsAt t a h → ((k : ℕ) × (h ≡ here.Behind k)) ⊎ (h ≡ here.Outside) → place_at t v h ≡ None
no_word t v a h stands (inl behind) = absurd (subst (λ (q : Here). StandsAt t a q) behind.1 stands)
no_word t v a h stands (inr is) = ap (place_at t v) is

-- the block of the text word at which a run stands
pub record InBlock (v : ImageData) (e : ExitsData) (a block : ℕ) : Type 0 where
  pub offset : ℕ
  pub place : place_of v a ≡ Some (block, offset)
  pub below : block < e.blocks

read_there : (list : List Ways) (k : ℕ) (w : Ways) → k < length list → slice_get list k ≡ Some (slice_index_or list k w)
read_there [] k w lt = absurd (omega (arith, lt))
read_there (x ∷ list) zero w lt = refl
read_there (x ∷ list) (suc k) w lt = read_there list k w (omega (arith, lt))

pub in_block : (t : TextData) (v : ImageData) (e : ExitsData) (list : List Ways) (k a : ℕ) (w : Ways) → Ground t v → AreAllWays t v e list → length list ≡ length t.words → StandsAt t a (here.At k) →
    InBlock v e a (slice_index_or list k w).block
in_block t v e list k a w g are long stands =
    let at : place_of v (address_of t k) ≡ Some (place_of_word v k) = some_place t v k g stands.0 in
    let ways : AreWays t v e k (slice_index_or list k w) = are.each k (slice_index_or list k w) (read_there list k w (omega (arith, stands.0, long))) in
    let same : (slice_index_or list k w).block ≡ (place_of_word v k).0 = ways.block (place_of_word v k) at in
    record {
      offset = (place_of_word v k).1;
      place = ap (place_of v) stands.1 ∙ at ∙ ap (λ (n : ℕ). Some (n, (place_of_word v k).1)) (sym same);
      below = omega (arith, same, are.blocks, (placed t v k (place_of_word v k) g.sized g.image g.of stands.0 at).block);
    }

module _ (t : TextData) (v : ImageData) (f next : Machine) (failed : Bool) (old new : Track) (k : ℕ) (l : Leaving) (ways : Ways) (pc : ℕ) (g : Ground t v) (lt : k < length t.words) (s : IsStep t f failed old.here (step.From k l) next)
    (are : AreWays t v old.caches.exits k ways) (same : new.ways.items ≡ old.ways.items) (gates : new.gates.items ≡ old.gates.items) (fetches : new.fetches ≡ old.fetches + l.words) (outside : new.outside ≡ old.outside)
    (behind : IsBehind t k ways.last l.way pc new.here) (at : next.pc ≡ pc) (small : pc < 2 ^ 32) where
  from : FromWord t v f next k
  from = (from_word t v f next failed old.here k l g lt s).2

  left_is : l ≡ left from
  left_is = (from_word t v f next failed old.here k l g lt s).1

  counts : Counts from old new ways
  counts = record {
    here_was = (from_word t v f next failed old.here k l g lt s).0;
    ways_are = are;
    same_ways = same;
    same_gates = gates;
    fetches = fetches ∙ ap (λ (m : Leaving). old.fetches + m.words) left_is;
    outside = outside;
    behind = subst (λ (n : ℕ). IsBehind t k ways.last (left from).way n new.here) (sym at) (subst (λ (m : Leaving). IsBehind t k ways.last m.way pc new.here) left_is behind);
    small = omega (arith, at, small);
  }

  pub call_end : is_some next.ending ≡ true → new.caches ≡ old.caches → Follows t v f next old new
  call_end over caches = followed_end from old new ways counts over caches

  pub call_on : is_some next.ending ≡ false → ServedOn v l.way ways.own pc old.caches new.caches → ((n : ℕ) → AreServing v n old.caches → AreServing v (suc n) new.caches) → new.caches.exits ≡ old.caches.exits → Follows t v f next old new
  call_on on served serving exits =
      followed_on from old new ways counts on
      (subst (λ (n : ℕ). ServedOn v (left from).way ways.own n old.caches new.caches) (sym at) (subst (λ (m : Leaving). ServedOn v m.way ways.own pc old.caches new.caches) left_is served)) serving exits
