-- Which program has written which bytes of a schedule.
use Rattle.std.specs.Prelude.{◌≡◌, ℕ, ◌==◌, ◌++◌, List, [], ◌∷◌, Option, Some, None, slice_index_or, if◌then◌else◌}
use Rattle.std.specs.List.{flat_map}
use Rattle.swi_calls.specs.declared.end.End.{End}
use Rattle.swi_calls.specs.Held.{held_run}
use Rattle.swi_calls.specs.State.{FlatState}
use Rattle.swi_share.specs.Laws.{events_of}
use Rattle.swi_share.specs.Shared.{Context, Event, Shared, event_of, flat_of, shared_event, shared_run}

-- what an event writes, with its program
pub record Piece : Type 0 where
  pub program : ℕ
  pub output : List ℕ
  pub error : List ℕ

abbrev pub piece_of : ℕ → Event → Piece
piece_of g e = record { program = g; output = e.output; error = e.error }

-- that of a program that has ended writes nothing
abbrev pub nothing_of : ℕ → Piece
nothing_of g = record { program = g; output = []; error = [] }

abbrev pub piece_by : ℕ → Shared → Context → Option End → Piece
piece_by g s c None = piece_of g (event_of s.setting (record s.kept { turn = g }) c)
piece_by g s c (Some e) = nothing_of g

abbrev pub piece_in : ℕ → Shared → Option Context → Piece
piece_in g s None = nothing_of g
piece_in g s (Some c) = piece_by g s c c.machine.ending

-- what the events of a schedule write, in their order
unfoldable pub pieces : List ℕ → Shared → List Piece
pieces [] s = []
pieces (g ∷ gs) s = piece_in g s (slice_index_or s.contexts g None) ∷ pieces gs (shared_event g s)

-- one behind the other: all of them, and those of program g
abbrev pub output_of_all : List Piece → List ℕ
output_of_all ps = flat_map (λ p. p.output) ps

abbrev pub error_of_all : List Piece → List ℕ
error_of_all ps = flat_map (λ p. p.error) ps

abbrev pub output_of : ℕ → List Piece → List ℕ
output_of g ps = flat_map (λ p. if p.program == g then p.output else []) ps

abbrev pub error_of : ℕ → List Piece → List ℕ
error_of g ps = flat_map (λ p. if p.program == g then p.error else []) ps

-- what a schedule has written is what its events have, in their order
pub record IsInPieces (order : List ℕ) (s : Shared) : Type 0 where
  pub output : (shared_run order s).output ≡ s.output ++ output_of_all (pieces order s)
  pub error : (shared_run order s).error ≡ s.error ++ error_of_all (pieces order s)

-- and what program g has written of it is what the flat machine over the fixed text writes alone, in as many steps as it had events
pub record WritesAlone (order : List ℕ) (s : Shared) (g : ℕ) (alone : FlatState) : Type 0 where
  pub output : output_of g (pieces order s) ≡ (held_run (events_of g order) alone).output
  pub error : error_of g (pieces order s) ≡ (held_run (events_of g order) alone).error

-- so is every schedule, whatever the others do
abbrev pub IsSplit : Type 0
IsSplit = (order : List ℕ) (s : Shared) → IsInPieces order s

abbrev pub EachWritesAlone : Type 0
EachWritesAlone = (order : List ℕ) (g : ℕ) (s : Shared) (c : Context) → slice_index_or s.contexts g None ≡ Some c → WritesAlone order s g (flat_of c)
