-- Between two instructions, and how many machine instructions were made by then.
use Rattle.std.proofs.Common.{◌≡◌, ◌==◌, ◌&&◌, not, if◌then◌else◌, ℕ, ◌+◌, ◌*◌, ◌≤◌, true, Option, Some, None, refl, sym, ap, subst, ◌∙◌, inl, inr, arith}
use Rattle.std.proofs.lemmas.Bool.{false≢true}
use Rattle.swi_calls.specs.declared.end.End.{End}
use Rattle.swi_calls.specs.declared.end.End.TheVariants as end
use Rattle.swi_calls.specs.declared.machine.Machine.{Machine}
use Rattle.swi_image.specs.Format.{ImageData}
use Rattle.swi_image.specs.Place.{place_of}
use Rattle.swi_rom.specs.Record.{Record}
use Rattle.swi_hart.specs.declared.hart.Stage.TheVariants.{Start, Low, Return, Leave}
use Rattle.swi_hart.specs.declared.hart.Control.{Control}
use Rattle.swi_hart.specs.declared.hart.Control.TheVariants.{At, Outside}
use Rattle.swi_hart.specs.Bounds.{depth, most, most_by}
use Rattle.swi_hart.specs.Hart.{is_between, is_fall, is_place}
use Rattle.swi_hart.specs.Matching.{Agrees, Matches, Stands}
use Rattle.swi_hart.proofs.Growing.{depth_most, depth_start}
use Rattle.swi_board.specs.Transfers.{here_of, spent, spent_by, spent_run}
use Rattle.swi_board.proofs.Held.{same_steps}
use Rattle.swi_board.proofs.Spending.{exit_few, taken_few}

some_is_none : (n : ℕ) → 1 ≤ n → n ≡ 0 → ⊥
some_is_none n some none = omega (arith, some, none)

-- where no word of the instruction was executed, control is between two of them
rests_between : (v : ImageData) (r : Record) (f m : Machine) (c : Control) → Stands v r f m c → spent f c ≡ 0 → is_between c ≡ true
rests_between v r f m (At i b o Start) stands none = refl
rests_between v r f m (At i b o Low) stands none = absurd (some_is_none 1 (omega arith) none)
rests_between v r f m (At i b o Return) stands none = absurd (some_is_none 1 (omega arith) none)
rests_between v r f m (At i b o Leave) (at, inl a) none = absurd (some_is_none _ (exit_few v b o f m a) none)
rests_between v r f m (At i b o Leave) (at, inr a) none = absurd (some_is_none _ (taken_few v b o f m a) none)
rests_between v r f m Outside stands none = refl

pub between_at : (v : ImageData) (r : Record) (f m : Machine) (c : Control) → Matches v r f m c → spent_run f c ≡ 0 → m.ending ≡ None → is_between c ≡ true
between_at v r f m c matches none on =
    let same = same_steps v r f m c matches in
    rests_between v r f m c (subst (λ (e : Option End). Agrees e v r f m c) on matches)
    (ap (λ (e : Option End). spent_by e f c) (sym (sym same.1 ∙ on)) ∙ none)

-- so few machine instructions were made by then
pub settled_most : (v : ImageData) (m : Machine) (c : Control) (n : ℕ) → n ≤ most v m c → (m.ending ≡ None → is_between c ≡ true) →
    (n ≤ 3 * m.steps + 2) × (((a : ℕ) → m.ending ≡ Some (end.StoreText a) → ⊥) → n ≤ 3 * m.steps + 1)
settled_most v m c n = by m.ending
  where
    shallow : (c : Control) → is_between c ≡ true → depth v m c ≤ 1
    shallow (At i b o Start) between = depth_start (is_fall v m b o Start)
    shallow (At i b o Low) between = absurd (false≢true between)
    shallow (At i b o Return) between = absurd (false≢true between)
    shallow (At i b o Leave) between = absurd (false≢true between)
    shallow Outside between = omega arith

    by : (e : Option End) → n ≤ most_by e v m c → (e ≡ None → is_between c ≡ true) → (n ≤ 3 * m.steps + 2) × (((a : ℕ) → e ≡ Some (end.StoreText a) → ⊥) → n ≤ 3 * m.steps + 1)
    by None le between = let d = shallow c (between refl) in (omega (arith, le, d), λ _. omega (arith, le, d))
    by (Some (end.Exited code)) le between = (omega (arith, le), λ _. le)
    by (Some (end.Faulted k a)) le between = (omega (arith, le), λ _. le)
    by (Some (end.StoreText a)) le between = (le, λ never. absurd (never a refl))

pub most_any : (v : ImageData) (m : Machine) (c : Control) (n : ℕ) → n ≤ most v m c → n ≤ 3 * m.steps + 3
most_any v m c n = by m.ending
  where
    by : (e : Option End) → n ≤ most_by e v m c → n ≤ 3 * m.steps + 3
    by None le = let d = depth_most v m c in omega (arith, le, d)
    by (Some (end.Exited code)) le = omega (arith, le)
    by (Some (end.Faulted k a)) le = omega (arith, le)
    by (Some (end.StoreText a)) le = omega (arith, le)

-- a control at a text word's place is not at an exit behind a block's last text word
pub depth_booted : (v : ImageData) (m : Machine) (c : Control) → is_between c ≡ true → here_of v m c ≡ place_of v m.pc → depth v m c ≡ 1
depth_booted v m (At i b o Start) between here = ap (λ (p : Option (ℕ × ℕ)). if not (is_place p b o) then 0 else 1) (sym here) ∙ by b o
  where
    by : (b o : ℕ) → ◌≡◌ {A = ℕ} (if not (b == b && o == o) then 0 else 1) 1
    by b o = grind arith
depth_booted v m (At i b o Low) between here = absurd (false≢true between)
depth_booted v m (At i b o Return) between here = absurd (false≢true between)
depth_booted v m (At i b o Leave) between here = absurd (false≢true between)
depth_booted v m Outside between here = refl
