-- What each program writes of a schedule is what it writes alone.
use Rattle.std.proofs.Common.{◌≡◌, ℕ, zero, suc, ◌+◌, ◌==◌, Bool, true, false, if◌then◌else◌, List, [], ◌∷◌, ◌++◌, slice_index_or, Option, Some, None, is_some, arith, refl, sym, ◌∙◌, ap, subst, inl, inr, append-nil, append_assoc}
use Rattle.std.proofs.lemmas.Bool.{cases_Bool, false≢true, eq-eqb, eqb-true}
use Rattle.swi_calls.specs.declared.end.End.{End}
use Rattle.swi_calls.specs.declared.machine.Machine.{Machine}
use Rattle.swi_calls.specs.Flat.{started}
use Rattle.swi_calls.specs.Held.{held_made, held_run, held_step}
use Rattle.swi_calls.specs.Laws.{held_run_more, held_run_none, held_run_over}
use Rattle.swi_calls.specs.State.{FlatState}
use Rattle.swi_share.specs.Laws.{Follows, event_other, event_own, events_of}
use Rattle.swi_share.specs.Pieces.{IsInPieces, Piece, WritesAlone, error_of, error_of_all, nothing_of, output_of, output_of_all, piece_by, piece_in, pieces}
use Rattle.swi_share.specs.Shared.{Context, Shared, begun_if, enters, event_by, event_in, flat_of, shared_event, shared_run}

-- ---- a run behind bytes that were written before it

abbrev written : Machine → List ℕ → List ℕ → List ℕ → FlatState
written m input output error = record { machine = m; input = input; output = output; error = error }

-- the bytes of one state are these, and then those of another
record Behind (out err : List ℕ) (s t : FlatState) : Type 0 where
  output : t.output ≡ out ++ s.output
  error : t.error ≡ err ++ s.error

behind_none : (s t : FlatState) → s.output ≡ t.output → s.error ≡ t.error → (out err : List ℕ) → out ≡ [] → err ≡ [] → Behind out err s t
behind_none s t a b out err no_out no_err = record {
  output = sym a ∙ ap (λ (l : List ℕ). l ++ s.output) (sym no_out);
  error = sym b ∙ ap (λ (l : List ℕ). l ++ s.error) (sym no_err);
}

behind_if : (b : Bool) (out err : List ℕ) (s t next next' : FlatState) → Behind out err s t → Behind out err next next' → Behind out err (if b then s else next) (if b then t else next')
behind_if true out err s t next next' first second = first
behind_if false out err s t next next' first second = second

run_behind : (k : ℕ) (m : Machine) (input out err : List ℕ) → Behind out err (held_run k (started m input)) (held_run k (written m input out err))
unfolding held_run
run_behind zero m input out err = record { output = sym (append-nil out); error = sym (append-nil err) }
run_behind (suc k) m input out err =
    let n = held_made m input in
    let far = run_behind k n.machine n.input (out ++ n.output) (err ++ n.error) in
    let near = run_behind k n.machine n.input n.output n.error in
    behind_if (is_some m.ending) out err (started m input) (written m input out err) (held_run k (held_step (started m input))) (held_run k (held_step (written m input out err)))
    (record { output = sym (append-nil out); error = sym (append-nil err) })
    (record {
      output = far.output ∙ append_assoc out n.output (held_run k (started n.machine n.input)).output ∙ ap (λ (l : List ℕ). out ++ l) (sym near.output);
      error = far.error ∙ append_assoc err n.error (held_run k (started n.machine n.input)).error ∙ ap (λ (l : List ℕ). err ++ l) (sym near.error);
    })

-- a step, and then so many more
run_bytes : (k : ℕ) (m : Machine) (input : List ℕ) → let one : FlatState = held_run 1 (started m input) in
    Behind one.output one.error (held_run k (started one.machine one.input)) (held_run (1 + k) (started m input))
run_bytes k m input = elim (cases_Bool (is_some m.ending)) [
  | inl over ↦ (
      let s = started m input in
      let none : held_run 1 s ≡ s = held_run_over 1 s over in
      let whole : held_run (1 + k) s ≡ s = held_run_over (1 + k) s over in
      let rest : held_run k (started (held_run 1 s).machine (held_run 1 s).input) ≡ s = ap (λ (q : FlatState). held_run k (started q.machine q.input)) none ∙ held_run_over k s over in
      behind_none (held_run k (started (held_run 1 s).machine (held_run 1 s).input)) (held_run (1 + k) s)
      (ap (λ (q : FlatState). q.output) (rest ∙ sym whole)) (ap (λ (q : FlatState). q.error) (rest ∙ sym whole)) (held_run 1 s).output (held_run 1 s).error
      (ap (λ (q : FlatState). q.output) none) (ap (λ (q : FlatState). q.error) none))
  | inr going ↦ (
      let s = started m input in
      let next = held_step s in
      let one : held_run 1 s ≡ next = held_run_more 0 s going ∙ held_run_none next in
      let count : 1 + k ≡ suc k = omega arith in
      let more : held_run (1 + k) s ≡ held_run k next = ap (λ (n : ℕ). held_run n s) count ∙ held_run_more k s going in
      subst (λ (q : FlatState). Behind q.output q.error (held_run k (started q.machine q.input)) (held_run (1 + k) s)) (sym one)
      (subst (λ (q : FlatState). Behind next.output next.error (held_run k (started next.machine next.input)) q) (sym more) (run_behind k next.machine next.input next.output next.error)))
]

-- ---- what a schedule writes

-- what one event adds
record Adds (p : Piece) (s next : Shared) : Type 0 where
  output : next.output ≡ s.output ++ p.output
  error : next.error ≡ s.error ++ p.error

adds_none : (g : ℕ) (s : Shared) → Adds (nothing_of g) s s
adds_none g s = record { output = sym (append-nil s.output); error = sym (append-nil s.error) }

event_adds : (g : ℕ) (s : Shared) → Adds (piece_in g s (slice_index_or s.contexts g None)) s (shared_event g s)
event_adds g s = by (slice_index_or s.contexts g None)
  where
    by_ending : (c : Context) (e : Option End) → Adds (piece_by g s c e) s (event_by g s c e)
    by_ending c None = record { output = refl; error = refl }
    by_ending c (Some e) = adds_none g s

    by : (o : Option Context) → Adds (piece_in g s o) s (event_in g s o)
    by None = adds_none g s
    by (Some c) = by_ending c c.machine.ending

pub in_pieces : (order : List ℕ) (s : Shared) → IsInPieces order s
unfolding shared_run pieces
in_pieces [] s = record { output = sym (append-nil s.output); error = sym (append-nil s.error) }
in_pieces (g ∷ gs) s =
    let one = event_adds g s in
    let rest = in_pieces gs (shared_event g s) in
    let p = piece_in g s (slice_index_or s.contexts g None) in
    record {
      output = rest.output ∙ ap (λ (l : List ℕ). l ++ output_of_all (pieces gs (shared_event g s))) one.output ∙ append_assoc s.output p.output (output_of_all (pieces gs (shared_event g s)));
      error = rest.error ∙ ap (λ (l : List ℕ). l ++ error_of_all (pieces gs (shared_event g s))) one.error ∙ append_assoc s.error p.error (error_of_all (pieces gs (shared_event g s)));
    }

-- ---- what one program writes of it

-- a piece of program g has what one step of a context writes alone
record IsStepOf (g : ℕ) (c : Context) (p : Piece) : Type 0 where
  program : p.program ≡ g
  output : p.output ≡ (held_run 1 (flat_of c)).output
  error : p.error ≡ (held_run 1 (flat_of c)).error

own_piece : (g : ℕ) (s : Shared) (c : Context) → slice_index_or s.contexts g None ≡ Some c → IsStepOf g c (piece_in g s (slice_index_or s.contexts g None))
own_piece g s c is = subst (λ (o : Option Context). IsStepOf g c (piece_in g s o)) (sym is) (by c.machine.ending refl)
  where
    begun : (t : Bool) → flat_of (begun_if t c) ≡ flat_of c
    begun true = refl
    begun false = refl

    by : (e : Option End) → c.machine.ending ≡ e → IsStepOf g c (piece_by g s c e)
    by None going =
        let same = begun (enters (record s.kept { turn = g }) c) in
        record { program = refl; output = ap (λ (q : FlatState). (held_run 1 q).output) same; error = ap (λ (q : FlatState). (held_run 1 q).error) same }
    by (Some e) ended =
        let stays = held_run_over 1 (flat_of c) (ap (λ (x : Option End). is_some x) ended) in
        record { program = refl; output = ap (λ (q : FlatState). q.output) (sym stays); error = ap (λ (q : FlatState). q.error) (sym stays) }

other_piece : (x : ℕ) (s : Shared) (o : Option Context) → (piece_in x s o).program ≡ x
other_piece x s None = refl
other_piece x s (Some c) = by c.machine.ending
  where
    by : (e : Option End) → (piece_by x s c e).program ≡ x
    by None = refl
    by (Some e) = refl

-- a piece of the program, and one of another
picked : (g n : ℕ) (l rest : List ℕ) → n ≡ g → (if n == g then l else []) ++ rest ≡ l ++ rest
picked g n l rest is = ap (λ (b : Bool). (if b then l else []) ++ rest) (eq-eqb n g is)

passed : (g n : ℕ) (l rest : List ℕ) → (n == g) ≡ false → (if n == g then l else []) ++ rest ≡ rest
passed g n l rest is = ap (λ (b : Bool). (if b then l else []) ++ rest) is

-- the bytes of program g among these are those of a state
record Wrote (g : ℕ) (ps : List Piece) (t : FlatState) : Type 0 where
  output : output_of g ps ≡ t.output
  error : error_of g ps ≡ t.error

own_first : (g n : ℕ) (c now : Context) (p : Piece) (ps : List Piece) → IsStepOf g c p → Follows 1 c now → Wrote g ps (held_run n (flat_of now)) → Wrote g (p ∷ ps) (held_run (1 + n) (flat_of c))
own_first g n c now p ps own follows rest =
    let one : FlatState = held_run 1 (flat_of c) in
    let at : flat_of now ≡ started one.machine one.input = ap (λ (x : Machine). started x now.input) follows.machine ∙ ap (λ (l : List ℕ). started one.machine l) follows.input in
    let behind = run_bytes n c.machine c.input in
    record {
      output = picked g p.program p.output (output_of g ps) own.program ∙ ap (λ (l : List ℕ). l ++ output_of g ps) own.output
          ∙ ap (λ (l : List ℕ). one.output ++ l) (rest.output ∙ ap (λ (q : FlatState). (held_run n q).output) at) ∙ sym behind.output;
      error = picked g p.program p.error (error_of g ps) own.program ∙ ap (λ (l : List ℕ). l ++ error_of g ps) own.error
          ∙ ap (λ (l : List ℕ). one.error ++ l) (rest.error ∙ ap (λ (q : FlatState). (held_run n q).error) at) ∙ sym behind.error;
    }

other_first : (g : ℕ) (t : FlatState) (p : Piece) (ps : List Piece) → (p.program == g) ≡ false → Wrote g ps t → Wrote g (p ∷ ps) t
other_first g t p ps apart rest = record {
  output = passed g p.program p.output (output_of g ps) apart ∙ rest.output;
  error = passed g p.program p.error (error_of g ps) apart ∙ rest.error;
}

all_wrote : (order : List ℕ) (g : ℕ) (s : Shared) (c : Context) → slice_index_or s.contexts g None ≡ Some c → Wrote g (pieces order s) (held_run (events_of g order) (flat_of c))
unfolding pieces events_of
all_wrote [] g s c is = let none = held_run_none (flat_of c) in record { output = ap (λ (q : FlatState). q.output) (sym none); error = ap (λ (q : FlatState). q.error) (sym none) }
all_wrote (x ∷ xs) g s c is = elim (cases_Bool (x == g)) [
  | inl found ↦ (
      let same : x ≡ g = eqb-true x g found in
      let own = event_own g s c is in
      let step = subst (λ (n : ℕ). IsStepOf g c (piece_in n s (slice_index_or s.contexts n None))) (sym same) (own_piece g s c is) in
      let rest = all_wrote xs g (shared_event x s) own.0 (ap (λ (n : ℕ). slice_index_or (shared_event n s).contexts g None) same ∙ own.1) in
      subst (λ (t : Bool). Wrote g (piece_in x s (slice_index_or s.contexts x None) ∷ pieces xs (shared_event x s)) (held_run ((if t then 1 else 0) + events_of g xs) (flat_of c))) (sym found)
      (own_first g (events_of g xs) c own.0 (piece_in x s (slice_index_or s.contexts x None)) (pieces xs (shared_event x s)) step own.2 rest))
  | inr apart ↦ (
      let other : g ≡ x → ⊥ = λ e. false≢true (sym apart ∙ eq-eqb x g (sym e)) in
      let rest = all_wrote xs g (shared_event x s) c (event_other x g s other ∙ is) in
      let none : 0 + events_of g xs ≡ events_of g xs = omega arith in
      subst (λ (t : Bool). Wrote g (piece_in x s (slice_index_or s.contexts x None) ∷ pieces xs (shared_event x s)) (held_run ((if t then 1 else 0) + events_of g xs) (flat_of c))) (sym apart)
      (subst (λ (n : ℕ). Wrote g (piece_in x s (slice_index_or s.contexts x None) ∷ pieces xs (shared_event x s)) (held_run n (flat_of c))) (sym none)
      (other_first g (held_run (events_of g xs) (flat_of c)) (piece_in x s (slice_index_or s.contexts x None)) (pieces xs (shared_event x s))
      (ap (λ (n : ℕ). n == g) (other_piece x s (slice_index_or s.contexts x None)) ∙ apart) rest)))
]

pub writes_alone : (order : List ℕ) (g : ℕ) (s : Shared) (c : Context) → slice_index_or s.contexts g None ≡ Some c → WritesAlone order s g (flat_of c)
writes_alone order g s c is = let all = all_wrote order g s c is in record { output = all.output; error = all.error }
