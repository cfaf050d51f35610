-- The lines of a survey's caches, as they are written.
use Rattle.std.proofs.Common.{◌≡◌, ℕ, zero, suc, ◌+◌, ◌<◌, ◌≤◌, List, [], ◌∷◌, length, take, slice_get, Option, Some, None, Result, Ok, refl, sym, ◌∙◌, subst, ap, arith}
use Rattle.std.proofs.lemmas.List.{take_all}
use Rattle.std.specs.Io.KnownBytes.{Appends}
use Rattle.std.specs.List.{flat_map}
use Rattle.std.specs.Prelude.{slice_index}
use Rattle.swi_outside.specs.Sink.{SinkState, WasWritten}
use Rattle.swi_report.specs.declared.stats.Work.{Work}
use Rattle.swi_tally.specs.declared.tallies.Seat.{Seat}
use Rattle.swi_tally.specs.Tallies.{TalliesData, Row, row_at, row_if, row_of}
use Rattle.swi_survey.specs.declared.survey.Surveyed.{Surveyed}
use Rattle.swi_survey_command.specs.Rows.{CountsAs, work_by}

get_some : {A : Type 0} (xs : List A) (i : ℕ) → i < length xs → (x : A) × (slice_get xs i ≡ Some x)
get_some [] i lt = absurd (omega (arith, lt))
get_some (x ∷ xs) zero lt = (x, refl)
get_some (x ∷ xs) (suc i) lt = get_some xs i (omega (arith, lt))

-- a cache that is there has a row
row_some : (t : TalliesData) (k : ℕ) → k < length t.caches → (r : Row) × (row_at t k ≡ Some r)
unfolding row_at
row_some t k lt = let s = get_some t.caches k lt in (row_of t k s.0, ap (λ (o : Option Seat). row_if t k o) s.1)

-- and has counted what is told of its size
pub work_told : (s : Surveyed) (sizes : List ℕ) (work : ℕ → Work) (k : ℕ) (w : Work) → length s.caches.caches ≡ length sizes → k < length s.caches.caches → CountsAs s sizes work →
    ((r : Row) → row_at s.caches k ≡ Some r → w ≡ work_by s r.kept) → w ≡ work (slice_index sizes k)
work_told s sizes work k w long lt counts is = let r = row_some s.caches k lt in is r.0 r.1 ∙ counts k r.0 (omega (arith, lt, long)) r.1

-- when all are written
pub all_written : {E : Type 0} (o p : SinkState) (f : ℕ → List ℕ) (sizes : List ℕ) (k : ℕ) → length sizes ≤ k → p.faults ≡ o.faults → Appends o.held p.held (flat_map f (take k sizes)) →
    WasWritten {E = E} o p (Ok tt) (flat_map f sizes)
all_written o p f sizes k past still h = record {
  bytes = subst (λ (l : List ℕ). Appends o.held p.held (flat_map f l)) (take_all k sizes past) h;
  cause = record { later = omega (arith, still); failed = tt; quiet = still };
}
