-- The words that a run fetches: the one under control, and by its first step.
use Rattle.std.proofs.Common.{◌≡◌, if◌then◌else◌, ℕ, zero, suc, ◌+◌, ◌%◌, ◌==◌, Bool, true, false, Option, Some, None, is_some, List, [], ◌∷◌, ◌++◌, length, refl, sym, ap, subst, ◌∙◌, inl, inr, arith, slice_index, ◌-◌, ◌<◌, ◌≤◌, ◌^◌}
use Rattle.std.specs.Prelude.{⊤}
use Rattle.std.proofs.lemmas.List.{length-append}
use Rattle.swi_isa.specs.declared.instr.Instr.{Instr}
use Rattle.swi_isa.specs.declared.instr.Instr.TheVariants as instr
use Rattle.swi_exec.specs.Arithmetic.{sum_of}
use Rattle.swi_outside.specs.CacheRam.{Fetch, fetch}
use Rattle.swi_calls.specs.declared.end.End.{End}
use Rattle.swi_calls.specs.declared.machine.Machine.{Machine}
use Rattle.swi_calls.specs.State.{FlatState}
use Rattle.swi_calls.specs.Held.{held_step}
use Rattle.swi_image.specs.Format.{ImageData}
use Rattle.swi_image.specs.Place.{length_at}
use Rattle.swi_render.specs.Rendering.{Slot, rendering_of}
use Rattle.swi_rom.specs.Record.{Record, Transfer, Placed}
use Rattle.swi_rom.specs.Policy.{first_of}
use Rattle.swi_rom.specs.Coherent.{Coherent}
use Rattle.swi_rom.specs.Standing.{first_is, index_stands, word_in}
use Rattle.swi_hart.specs.declared.hart.Stage.TheVariants.{Start, Low, Return, Leave}
use Rattle.swi_hart.specs.declared.hart.Control.{Control}
use Rattle.swi_hart.specs.declared.hart.Control.TheVariants.{At, Outside}
use Rattle.swi_hart.specs.Hart.{HartData, instruction, original, slots}
use Rattle.swi_hart.specs.Matching.{Fits, IsIn, Stands, Agrees, Matches}
use Rattle.swi_hart.specs.Leaving.{fetch_under}
use Rattle.swi_board.specs.Transfers.{Here, at_fall, settled, step_cost, before_last, step_transfers, fall_transfers, here_after, here_of, spent, step_size, fetches}
use Rattle.swi_board.specs.Fetching.{Written, fetch_in, fetches_from, index_in, fall_words, step_words, words_run, written_by}
use Rattle.swi_hart.proofs.Homes.{home}
use Rattle.swi_hart.proofs.Exchanging.{home_inside}
use Rattle.swi_hart.proofs.Standing.{slots_are, linked_leads}
use Rattle.swi_board.proofs.Counting.{cost_none, cost_more, over_cost}

-- ---- the word under control

-- the word where the run stands, so many words into an instruction and behind so many sets
abbrev pub word_at_place : ImageData → Here → Record → ℕ → ℕ → List Fetch
word_at_place v None r n sets = []
word_at_place v (Some p) r n sets = fetch_in v (record { kept = r; sets = sets }) p.0 (index_in r p + n) ∷ []

abbrev pub word_under : ImageData → Record → Machine → Control → ℕ → List Fetch
word_under v r f c sets = word_at_place v (here_of v f c) r (spent f c) sets

-- at the word under control these words have what stands there
abbrev pub HoldsUnder : ImageData → Record → List ℕ → Control → Type 0
HoldsUnder v r words (At i b o stage) = slice_index words i ≡ word_in v r b i
HoldsUnder v r words Outside = ⊤

-- and from an index on they have so many of a block
abbrev pub HoldsRow : ImageData → Record → List ℕ → ℕ → ℕ → ℕ → Type 0
HoldsRow v r words b index n = (j : ℕ) → index ≤ j → j < index + n → slice_index words j ≡ word_in v r b j

-- as those of a coherent ram do
pub holds_under : (v : ImageData) (r : Record) (span : ℕ) (words : List ℕ) (h : HartData) → Coherent v r span words → Fits v r h → h.machine.ending ≡ None → h.machine.pc < 2 ^ 32 →
    HoldsUnder v r words h.control
holds_under v r span words h coherent fits running short = by h.control refl
  where
    by : (c : Control) → h.control ≡ c → HoldsUnder v r words c
    by Outside is = tt
    by (At i b o stage) is =
        let at = home v r h i b o stage fits is running short in
        index_stands v r span words coherent b at.first o i at.is_placed (home_inside v r h.machine i b o stage at) at.index

pub holds_row : (v : ImageData) (r : Record) (span : ℕ) (words : List ℕ) → Coherent v r span words → (b f o index n : ℕ) → Placed r b f → o + n ≤ length_at v b → index ≡ f + o → HoldsRow v r words b index n
holds_row v r span words coherent b f o index n placed room at = λ j least below.
    let inside : j - f < length_at v b = omega (arith, room, at, least, below) in
    let is : j ≡ f + (j - f) = omega (arith, at, least) in
    index_stands v r span words coherent b f (j - f) j placed inside is

fetches_alike : (one other : ℕ → ℕ) (i n sets : ℕ) → ((j : ℕ) → i ≤ j → j < i + n → one j ≡ other j) → fetches_from one i n sets ≡ fetches_from other i n sets
fetches_alike one other i zero sets same = refl
fetches_alike one other i (suc n) sets same =
    ap (λ (w : ℕ). fetch i sets w ∷ fetches_from one (i + 1) n sets) (same i (omega arith) (omega arith))
    ∙ ap (λ (l : List Fetch). fetch i sets (other i) ∷ l) (fetches_alike one other (i + 1) n sets (λ j least below. same j (omega (arith, least)) (omega (arith, below))))

-- so those that are fetched are those that stand there
pub row_is : (v : ImageData) (r : Record) (words : List ℕ) (b index n sets : ℕ) → HoldsRow v r words b index n →
    fetches_from (λ j. slice_index words j) index n sets ≡ fetches_from (word_in v r b) index n sets
row_is v r words b index n sets held = fetches_alike (λ j. slice_index words j) (word_in v r b) index n sets held

under_at : (v : ImageData) (r : Record) (words : List ℕ) (f : Machine) (c : Control) (sets : ℕ) (p : ℕ × ℕ) (i b o n : ℕ) → ((b f g : ℕ) → Placed r b f → Placed r b g → f ≡ g) → IsIn r i b o →
    slice_index words i ≡ word_in v r b i → here_of v f c ≡ Some p → p.0 ≡ b → o ≡ p.1 + n → spent f c ≡ n → word_under v r f c sets ≡ fetch i sets (slice_index words i) ∷ []
under_at v r words f c sets p i b o n once is_in held here block offset gone =
    let first : first_of r p.0 ≡ is_in.0 = ap (λ (k : ℕ). first_of r k) block ∙ first_is r b is_in.0 once is_in.1 in
    let index : index_in r p + n ≡ i = (let at = is_in.2 in omega (arith, first, offset, at)) in
    ap (λ (h : Here). word_at_place v h r (spent f c) sets) here
    ∙ ap (λ (k : ℕ). fetch_in v (record { kept = r; sets = sets }) p.0 (index_in r p + k) ∷ []) gone
    ∙ ap (λ (k : ℕ). fetch_in v (record { kept = r; sets = sets }) p.0 k ∷ []) index
    ∙ ap (λ (k : ℕ). fetch_in v (record { kept = r; sets = sets }) k i ∷ []) block
    ∙ ap (λ (k : ℕ). fetch i sets k ∷ []) (sym held)

module _ (v : ImageData) (r : Record) (words : List ℕ) (f m : Machine) (sets : ℕ) (once : (b f g : ℕ) → Placed r b f → Placed r b g → f ≡ g) where
  stands_under : (c : Control) → HoldsUnder v r words c → Stands v r f m c → word_under v r f c sets ≡ fetch_under c sets words
  stands_under Outside held at = refl
  stands_under (At i' b' o' Start) held at = under_at v r words f (At i' b' o' Start) sets (b', o') i' b' o' 0 once at.0 held refl refl (omega arith) refl
  stands_under (At i' b' o' Low) held at = under_at v r words f (At i' b' o' Low) sets (b', at.1.at) i' b' o' 1 once at.0 held at.1.start refl at.1.offset refl
  stands_under (At i' b' o' Return) held at = under_at v r words f (At i' b' o' Return) sets (b', at.1.at) i' b' o' 1 once at.0 held at.1.start refl at.1.offset refl
  stands_under (At i' b' o' Leave) held (at, inl a) =
      under_at v r words f (At i' b' o' Leave) sets (b', a.at) i' b' o' 2 once at held a.start refl a.offset
      (ap (λ (l : List Slot). before_last f (original f) l) (slots_are f a.w (Some (instr.Jal a.rd a.off)) a.fetch a.is)
      ∙ ap (λ (k : Option Instr). before_last f k (rendering_of (Some (instr.Jal a.rd a.off)) a.w f.pc)) (ap instruction a.fetch ∙ a.is)
      ∙ ap (λ n. n + 0) (linked_leads (sum_of f.pc a.off % 4 == 0) (a.rd == 0) a.rd (sum_of f.pc a.off) f.pc a.linking))
  stands_under (At i' b' o' Leave) held (at, inr a) =
      under_at v r words f (At i' b' o' Leave) sets (b', a.at) i' b' o' 1 once at held a.start refl a.offset
      (ap (λ (l : List Slot). before_last f (original f) l) (slots_are f a.w (Some (instr.Branch a.op a.rs1 a.rs2 a.off)) a.fetch a.is)
      ∙ ap (λ (k : Option Instr). before_last f k (rendering_of (Some (instr.Branch a.op a.rs1 a.rs2 a.off)) a.w f.pc)) (ap instruction a.fetch ∙ a.is)
      ∙ ap (λ (q : Bool). 0 + (if q then 1 else 0)) a.taken)

-- is what a step fetches
pub under_is : (v : ImageData) (r : Record) (words : List ℕ) (f m : Machine) (c : Control) (sets : ℕ) → ((b f g : ℕ) → Placed r b f → Placed r b g → f ≡ g) → HoldsUnder v r words c → m.ending ≡ None → Matches v r f m c →
    word_under v r f c sets ≡ fetch_under c sets words
under_is v r words f m c sets once held running same = stands_under v r words f m sets once c held (subst (λ (e : Option End). Agrees e v r f m c) running same)

-- ---- what is to come

pub words_over : (policy : Record → ImageData → Transfer → Record) (v : ImageData) (k : ℕ) (s : FlatState) (here : Here) (w : Written) → is_some s.machine.ending ≡ true → words_run policy v k s here w ≡ []
unfolding words_run
words_over policy v zero s here w over = refl
words_over policy v (suc k) s here w over = rw over refl

pub words_none : (policy : Record → ImageData → Transfer → Record) (v : ImageData) (s : FlatState) (here : Here) (w : Written) → words_run policy v 0 s here w ≡ []
unfolding words_run
words_none policy v s here w = refl

pub words_more : (policy : Record → ImageData → Transfer → Record) (v : ImageData) (k : ℕ) (s : FlatState) (here : Here) (w : Written) → is_some s.machine.ending ≡ false →
    words_run policy v (suc k) s here w ≡ fall_words v s.machine here w ++ (step_words v s.machine (settled v s.machine here) (written_by policy v w (fall_transfers v s.machine here))
    ++ words_run policy v k (held_step s) (here_after v s.machine (settled v s.machine here) (held_step s).machine)
    (written_by policy v (written_by policy v w (fall_transfers v s.machine here)) (step_transfers s.machine (settled v s.machine here) (held_step s).machine)))
unfolding words_run
words_more policy v k s here w going = rw going refl

-- ---- so many words as are counted

fetches_many : (word : ℕ → ℕ) (i n sets : ℕ) → length (fetches_from word i n sets) ≡ n
fetches_many word i zero sets = refl
fetches_many word i (suc n) sets = ap suc (fetches_many word (i + 1) n sets)

fall_many : (v : ImageData) (f : Machine) (here : Here) (w : Written) → length (fall_words v f here w) ≡ (if at_fall v f here then 1 else 0)
fall_many v f None w = refl
fall_many v f (Some p) w = by (at_fall v f (Some p))
  where
    by : (t : Bool) → length (if t then fetch_in v w p.0 (index_in w.kept p) ∷ [] else []) ≡ (if t then 1 else 0)
    by true = refl
    by false = refl

step_many : (v : ImageData) (f : Machine) (here : Here) (w : Written) → length (step_words v f here w) ≡ step_size 0 f here
step_many v f None w = refl
step_many v f (Some p) w = fetches_many (word_in v w.kept p.0) (index_in w.kept p) (step_cost f (original f) (slots f)) w.sets

sum_of_lengths : (xs ys zs : List Fetch) {a b c : ℕ} → length xs ≡ a → length ys ≡ b → length zs ≡ c → length (xs ++ (ys ++ zs)) ≡ a + b + c
sum_of_lengths xs ys zs {a} {b} {c} p q t =
    let outer = length-append xs (ys ++ zs) in
    let inner = length-append ys zs in
    omega (arith, outer, inner, p, q, t)

pub words_many : (policy : Record → ImageData → Transfer → Record) (v : ImageData) (k : ℕ) (s : FlatState) (here : Here) (w : Written) → length (words_run policy v k s here w) ≡ fetches v k s here
words_many policy v zero s here w = ap (λ (l : List Fetch). length l) (words_none policy v s here w) ∙ sym (cost_none 0 v s here)
words_many policy v (suc k) s here w = by (words_many policy v k (held_step s)) (is_some s.machine.ending) refl
  where
    by : ((next : Here) (behind : Written) → length (words_run policy v k (held_step s) next behind) ≡ fetches v k (held_step s) next) →
        (t : Bool) → is_some s.machine.ending ≡ t → length (words_run policy v (suc k) s here w) ≡ fetches v (suc k) s here
    by up true over = ap (λ (l : List Fetch). length l) (words_over policy v (suc k) s here w over) ∙ sym (over_cost 0 v (suc k) s here over)
    by up false going =
        let at = settled v s.machine here in
        let falls = fall_words v s.machine here w in
        let own = step_words v s.machine (settled v s.machine here) (written_by policy v w (fall_transfers v s.machine here)) in
        let next = here_after v s.machine (settled v s.machine here) (held_step s).machine in
        let behind = written_by policy v (written_by policy v w (fall_transfers v s.machine here)) (step_transfers s.machine (settled v s.machine here) (held_step s).machine) in
        let rest = words_run policy v k (held_step s) next behind in
        ap (λ (l : List Fetch). length l) (words_more policy v k s here w going)
        ∙ sum_of_lengths falls own rest (fall_many v s.machine here w) (step_many v s.machine at (written_by policy v w (fall_transfers v s.machine here)))
        (up next behind)
        ∙ sym (cost_more 0 v k s here going)
