-- Transfers and cost of a run, by its first step.
use Rattle.std.proofs.Common.{◌≡◌, if◌then◌else◌, ℕ, zero, suc, ◌+◌, ◌*◌, ◌≤◌, Bool, true, false, not, ◌&&◌, Option, Some, None, is_some, List, [], ◌∷◌, ◌++◌, length, refl, ap, ◌∙◌, arith}
use Rattle.std.proofs.lemmas.List.{length-append}
use Rattle.swi_calls.specs.declared.machine.Machine.{Machine}
use Rattle.swi_calls.specs.State.{FlatState}
use Rattle.swi_image.specs.Format.{ImageData}
use Rattle.swi_image.specs.Place.{place_of}
use Rattle.swi_rom.specs.Record.{Record, Transfer, direct}
use Rattle.swi_calls.specs.Held.{held_step}
use Rattle.swi_hart.specs.Hart.{original, slots, is_place}
use Rattle.swi_board.specs.Transfers.{Here, at_fall, settled, jumps_as, leaves_by, step_transfers, here_after, here_run, fall_transfers, transfers, step_size, size, after_all}
use Rattle.swi_hart.proofs.Stepping.{same_place}
use Rattle.swi_board.proofs.Progress.{leaves_are}

transfers_over : (v : ImageData) (k : ℕ) (s : FlatState) (here : Here) → is_some s.machine.ending ≡ true → transfers v k s here ≡ []
unfolding transfers
transfers_over v zero s here over = refl
transfers_over v (suc k) s here over = rw over refl

cost_over : (outside : ℕ) (v : ImageData) (k : ℕ) (s : FlatState) (here : Here) → is_some s.machine.ending ≡ true → size outside v k s here ≡ 0
unfolding size
cost_over outside v zero s here over = refl
cost_over outside v (suc k) s here over = rw over refl

pub transfers_none : (v : ImageData) (s : FlatState) (here : Here) → transfers v 0 s here ≡ []
unfolding transfers
transfers_none v s here = refl

pub cost_none : (outside : ℕ) (v : ImageData) (s : FlatState) (here : Here) → size outside v 0 s here ≡ 0
unfolding size
cost_none outside v s here = refl

pub transfers_more : (v : ImageData) (k : ℕ) (s : FlatState) (here : Here) → is_some s.machine.ending ≡ false →
    transfers v (suc k) s here ≡ fall_transfers v s.machine here ++ (step_transfers s.machine (settled v s.machine here) (held_step s).machine ++ transfers v k (held_step s) (here_after v s.machine (settled v s.machine here) (held_step s).machine))
unfolding transfers
transfers_more v k s here going = rw going refl

pub cost_more : (outside : ℕ) (v : ImageData) (k : ℕ) (s : FlatState) (here : Here) → is_some s.machine.ending ≡ false →
    size outside v (suc k) s here ≡ (if at_fall v s.machine here then 1 else 0) + step_size outside s.machine (settled v s.machine here) + size outside v k (held_step s) (here_after v s.machine (settled v s.machine here) (held_step s).machine)
unfolding size
cost_more outside v k s here going = rw going refl

pub here_none : (v : ImageData) (s : FlatState) (here : Here) → here_run v 0 s here ≡ here
unfolding here_run
here_none v s here = refl

pub here_more : (v : ImageData) (k : ℕ) (s : FlatState) (here : Here) → is_some s.machine.ending ≡ false →
    here_run v (suc k) s here ≡ here_run v k (held_step s) (here_after v s.machine (settled v s.machine here) (held_step s).machine)
unfolding here_run
here_more v k s here going = rw going refl

few_if : (t : Bool) (xs : List Transfer) → length xs ≡ 1 → length (if t then xs else []) ≤ 1
few_if true xs one = omega (arith, one)
few_if false xs one = omega arith

-- a step makes two transfers at most
fall_few : (v : ImageData) (f : Machine) (here : Here) → length (fall_transfers v f here) ≤ 1
fall_few v f None = omega arith
fall_few v f (Some p) = few_if (at_fall v f (Some p)) (direct p.0 p.1 f.pc ∷ []) refl

step_few : (f : Machine) (here : Here) (next : Machine) → length (step_transfers f here next) ≤ 1
step_few f None next = omega arith
step_few f (Some p) next =
    few_if (jumps_as f (original f) && not (is_some next.ending)) (leaves_by f (original f) (slots f) p next.pc)
    (ap (λ (l : List Transfer). length l) (leaves_are f (original f) (slots f) p next.pc))

two_more : (t : Bool) (xs ys zs : List Transfer) (k : ℕ) → length xs ≤ 1 → length ys ≤ 1 → length zs ≤ 2 * k →
    length (if t then [] else xs ++ (ys ++ zs)) ≤ 2 * suc k
two_more true xs ys zs k a b c = omega arith
two_more false xs ys zs k a b c =
    let first = length-append xs (ys ++ zs) in
    let second = length-append ys zs in
    omega (arith, first, second, a, b, c)

pub transfers_few : (v : ImageData) (k : ℕ) (s : FlatState) (here : Here) → length (transfers v k s here) ≤ 2 * k
unfolding transfers
transfers_few v zero s here = omega arith
transfers_few v (suc k) s here =
    two_more (is_some s.machine.ending) (fall_transfers v s.machine here) (step_transfers s.machine (settled v s.machine here) (held_step s).machine)
    (transfers v k (held_step s) (here_after v s.machine (settled v s.machine here) (held_step s).machine)) k
    (fall_few v s.machine here) (step_few s.machine (settled v s.machine here) (held_step s).machine)
    (transfers_few v k (held_step s) (here_after v s.machine (settled v s.machine here) (held_step s).machine))

pub over_transfers : (v : ImageData) (k : ℕ) (s : FlatState) (here : Here) → is_some s.machine.ending ≡ true → transfers v k s here ≡ []
over_transfers v k s here over = transfers_over v k s here over

pub over_cost : (outside : ℕ) (v : ImageData) (k : ℕ) (s : FlatState) (here : Here) → is_some s.machine.ending ≡ true → size outside v k s here ≡ 0
over_cost outside v k s here over = cost_over outside v k s here over

pub after_append : (policy : Record → ImageData → Transfer → Record) (v : ImageData) (r : Record) (xs ys : List Transfer) → after_all policy v r (xs ++ ys) ≡ after_all policy v (after_all policy v r xs) ys
after_append policy v r [] ys = refl
after_append policy v r (x ∷ xs) ys = after_append policy v (policy r v x) xs ys

pub place_not_fall : (v : ImageData) (f : Machine) → at_fall v f (place_of v f.pc) ≡ false
place_not_fall v f = by (place_of v f.pc) refl
  where
    by : (p : Option (ℕ × ℕ)) → place_of v f.pc ≡ p → at_fall v f p ≡ false
    by None e = refl
    by (Some q) e = ap (λ (k : Option (ℕ × ℕ)). not (is_place k q.0 q.1)) e ∙ ap not (same_place q.0 q.1)
