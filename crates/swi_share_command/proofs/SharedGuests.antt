-- The programs of files that share a cache, and what is told of them.
use Rattle.std.proofs.Common.{◌≡◌, inl, inr, ℕ, suc, ◌+◌, ◌<◌, ◌≤◌, ◌-◌, ◌^◌, min, Bool, true, if◌then◌else◌, List, [], ◌∷◌, ◌++◌, length, drop, slice_index_or, Option, Some, None, refl, sym, ◌∙◌, ap, subst, arith}
use Rattle.std.specs.List.{AllZip}
use Rattle.std.proofs.lemmas.Bool.{cases_eq}
use Rattle.std.proofs.lemmas.List.{drop_all, drop_more}
use Rattle.std.proofs.lemmas.Option.{same_Some}
use Rattle.swi_outside.specs.Shelf.{ShelfState, Stands}
use Rattle.swi_command.specs.declared.command.RunLimits.{RunLimits}
use Rattle.swi_calls.specs.declared.machine.Machine.{Machine}
use Rattle.swi_hart.specs.Hart.{HartData}
use Rattle.swi_share.specs.declared.process.Guest.{Guest}
use Rattle.swi_share.specs.Laws.{count_in, counts_of}
use Rattle.swi_share.specs.Shared.{Context, Shared}
use Rattle.swi_share.specs.Sharing.{CountsTold, ShareData, Tells, seen}
use Rattle.swi_share.specs.declared.share.ShareCounts.{ShareCounts}
use Rattle.swi_rom.specs.Record.{writes}
use Rattle.swi_report.specs.declared.shared.SharedWork.{SharedWork}
use Rattle.swi_share.specs.Starting.{AreGuests, IsGuest}
use Rattle.swi_answer.specs.Lines.{guest_line}
use Rattle.swi_task.specs.Runs.{ending_by}
use Rattle.swi_share_command.specs.RunShared.{GuestsRead, HaveEnded, IsGuestOf, context_line, shared_work}
use Rattle.swi_share.proofs.Bounds.{process_at}
use Rattle.swi_share_command.proofs.Sharing.{process_below}

-- ---- the programs of the files

pub own_more : (xs : List Guest) (x : Guest) → AreGuests xs → IsGuest x → AreGuests (xs ++ x ∷ [])
own_more [] x h one = (one, tt)
own_more (y ∷ ys) x h one = (h.0, own_more ys x h.1 one)

zip_length : {A B : Type 0} (R : A → B → Type 0) (xs : List A) (ys : List B) → AllZip R xs ys → length xs ≡ length ys
zip_length R [] [] h = refl
zip_length R [] (y ∷ ys) h = absurd h
zip_length R (x ∷ xs) [] h = absurd h
zip_length R (x ∷ xs) (y ∷ ys) h = ap suc (zip_length R xs ys h.1)

-- there are as many as names
pub guests_count : (limits : RunLimits) (most : ℕ) (names : List (List ℕ)) (old new : ShelfState) (guests : List Guest) → GuestsRead limits most names old new guests → length guests ≡ length names
guests_count limits most names old new guests h = sym (zip_length (IsGuestOf limits most) h.files guests h.made) ∙ sym (zip_length (Stands old.contents) names h.files h.read.stand)

-- ---- programs that have ended

told_ended : (h : HartData) (x : Option Context) (c : Context) → Tells h x → x ≡ Some c → (h.machine.ending ≡ None → ⊥) → c.machine.ending ≡ None → ⊥
told_ended h None c told is never going = told
told_ended h (Some d) c told is never going =
    never (sym (ap (λ (m : Machine). m.ending) told.machine) ∙ ap (λ (x : Context). x.machine.ending) (same_Some d c is) ∙ going)

-- so many programs have
abbrev pub HaveSome : ℕ → List (Option Context) → Type 0
HaveSome n cs = (k : ℕ) (c : Context) → k < n → slice_index_or cs k None ≡ Some c → c.machine.ending ≡ None → ⊥

pub ended_more : (cs : List (Option Context)) (g : ℕ) (h : HartData) → HaveSome g cs → Tells h (slice_index_or cs g None) → (h.machine.ending ≡ None → ⊥) → HaveSome (g + 1) cs
ended_more cs g h was told never = λ k c lt is. elim (cases_eq k g) [
  | inl same ↦ told_ended h (slice_index_or cs g None) c told (subst (λ (n : ℕ). slice_index_or cs n None ≡ Some c) same is) never
  | inr other ↦ was k c (omega (arith, lt, other)) is
]

pub ended_all : (s : ShareData) (n : ℕ) → n ≡ length s.processes → HaveSome n (seen s).contexts → HaveEnded (seen s).contexts
ended_all s n is was = λ g c at.
    let p = process_at s.processes g c at in
    let few = process_below s.processes g p.0 p.1 in
    was g c (omega (arith, few, is)) at

-- ---- what is told of them

-- the line of a program, as its hart tells it
pub line_told : (g : ℕ) (h : HartData) (x : Option Context) → Tells h x → context_line g x ≡ guest_line g (ending_by h.machine.ending h.machine.pc h.machine.steps)
line_told g h None told = absurd told
line_told g h (Some c) told = ap (λ (m : Machine). guest_line g (ending_by m.ending m.pc m.steps)) told.machine

count_told : (h : HartData) (x : Option Context) → Tells h x → count_in x ≡ h.count
count_told h None told = absurd told
count_told h (Some c) told = told.count

capped_twice : (a n r m : ℕ) → min (min (a + n) m + r) m ≡ min (a + (n + r)) m
capped_twice a n r m = grind arith

-- the instructions of one program more
pub counts_more : (cs : List (Option Context)) (g sum next m whole : ℕ) (h : HartData) → g < length cs → Tells h (slice_index_or cs g None) → next ≡ min (sum + h.count) m →
    min (sum + counts_of (drop g cs)) m ≡ whole → min (next + counts_of (drop (g + 1) cs)) m ≡ whole
unfolding counts_of
counts_more cs g sum next m whole h lt told is was =
    let rest = counts_of (drop (g + 1) cs) in
    let split : counts_of (drop g cs) ≡ h.count + rest =
    ap counts_of (drop_more cs g None lt) ∙ ap (λ (n : ℕ). n + rest) (count_told h (slice_index_or cs g None) told) in
    ap (λ (n : ℕ). min (n + rest) m) is ∙ capped_twice sum h.count rest m ∙ ap (λ (n : ℕ). min (sum + n) m) (sym split) ∙ was

least_whole : (a m : ℕ) → a ≤ m → a ≡ min (a + 0) m
least_whole a m le = grind arith

pub counts_last : (cs : List (Option Context)) (g sum m whole : ℕ) → length cs ≤ g → sum ≤ m → min (sum + counts_of (drop g cs)) m ≡ whole → sum ≡ whole
unfolding counts_of
counts_last cs g sum m whole past few was =
    least_whole sum m few ∙ ap (λ (xs : List (Option Context)). min (sum + counts_of xs) m) (sym (drop_all g cs past)) ∙ was

pub capped_below : (a n m : ℕ) → n ≡ min a m → n ≤ m
capped_below a n m is = grind arith

capped_three : (a b d m x y : ℕ) → x ≡ min (a + b) m → y ≡ min (x + d) m → y ≡ min (a + b + d) m
capped_three a b d m x y first last = grind arith

-- the counts of all programs, as they are told
pub work_told : (s : Shared) (told : ShareCounts) (sum x y : ℕ) → CountsTold told s.kept.counts → sum ≡ min (counts_of s.contexts) (2 ^ 64 - 1) →
    x ≡ min (told.copied + told.links) (2 ^ 64 - 1) → y ≡ min (x + told.unlinks) (2 ^ 64 - 1) →
    ◌≡◌ {A = SharedWork} (record { instructions = sum; misses = told.misses; evictions = told.evictions; links = told.links; unlinks = told.unlinks; writes = y }) (shared_work s)
work_told s told sum x y t all first last =
    let three : told.copied + told.links + told.unlinks ≡ writes s.kept = rw (t.copied, t.links, t.unlinks) refl in
    let written : y ≡ min (writes s.kept) (2 ^ 64 - 1) = capped_three told.copied told.links told.unlinks (2 ^ 64 - 1) x y first last ∙ ap (λ (n : ℕ). min n (2 ^ 64 - 1)) three in
    rw (all, t.misses, t.evictions, t.links, t.unlinks, written) refl

-- what is told only where it is asked for
pub told_if : (t : Bool) (x : List ℕ) → t ≡ true → (if t then x else []) ≡ x
told_if t x on = rw on refl
