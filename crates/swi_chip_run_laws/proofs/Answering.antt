-- What a call answers, and where a processor goes on that takes it.
use Rattle.std.proofs.Common.{◌≡◌, ◌∙◌, ℕ, ◌+◌, ◌%◌, Option, Some, None, ap, arith, refl, sym, subst, inl}
use Rattle.swi_image.specs.Format.{ImageData}
use Rattle.swi_image.specs.Place.{place_of}
use Rattle.swi_calls.specs.declared.end.End.{End}
use Rattle.swi_calls.specs.declared.machine.Machine.{Machine}
use Rattle.swi_rom.specs.Record.{Placed, indirect}
use Rattle.swi_slots.specs.Slots.{Slots, kept_by, setting_of}
use Rattle.swi_hart.specs.declared.hart.Stage.TheVariants.{Start, Low, Return, Leave}
use Rattle.swi_hart.specs.declared.hart.Control.{Control}
use Rattle.swi_hart.specs.declared.hart.Control.TheVariants.{At, Outside}
use Rattle.swi_hart.specs.Matching.{Agrees, Arrives, Stands}
use Rattle.swi_chip.specs.declared.chip.Chip.{Chip}
use Rattle.swi_chip.specs.Bounded.{fifo_few}
use Rattle.swi_chip.proofs.Repeating.{enters_repeated}
use Rattle.swi_chip.specs.Service.{AnswersAt, ChipServed}
use Rattle.swi_chip_run_laws.specs.Calls.{GoesOnAt}
use Rattle.swi_chip_run_laws.specs.Runs.{EntersRight}

none_some : (p : ℕ × ℕ) → None ≡ Some p → ⊥
none_some p e = cc

same_pair : (p q : ℕ × ℕ) → Some p ≡ Some q → (p.0 ≡ q.0) × (p.1 ≡ q.1)
same_pair p q e =
    let same : p ≡ q = cc in
    (ap (λ (r : ℕ × ℕ). r.0) same, ap (λ (r : ℕ × ℕ). r.1) same)

module _ (s next : Slots) (v : ImageData) (c : Chip) (target answer : ℕ) (aligned : c.cache_at % 4 ≡ 0) where
  -- control has come to the target's place in the ram
  arrives_by : (p : Option (ℕ × ℕ)) → place_of v target ≡ p → AnswersAt p s next v c target answer → (k : Control) → GoesOnAt v c target answer k → Arrives v (kept_by next) target k
  arrives_by None is a Outside goes = is
  arrives_by None is a (At i b o Start) goes = absurd (none_some (b, o) (sym is ∙ goes.1))
  arrives_by None is a (At i b o Low) goes = absurd goes
  arrives_by None is a (At i b o Return) goes = absurd goes
  arrives_by None is a (At i b o Leave) goes = absurd goes
  arrives_by (Some p) is a Outside goes = absurd (let e = a.1 in omega (arith, e, goes, aligned))
  arrives_by (Some p) is a (At i b o Start) goes =
      let t = a.2 in
      let same = same_pair (t.block, t.offset) (b, o) (sym t.place_is ∙ goes.1) in
      let index : i ≡ t.first + o = (let e = a.1 in let f = goes.0 in let g = t.index in let h = same.1 in omega (arith, e, f, g, h)) in
      ((t.first, subst (λ (n : ℕ). Placed (kept_by next) n t.first) same.0 t.is_placed, index), goes.1)
  arrives_by (Some p) is a (At i b o Low) goes = absurd goes
  arrives_by (Some p) is a (At i b o Return) goes = absurd goes
  arrives_by (Some p) is a (At i b o Leave) goes = absurd goes

  pub arrives : AnswersAt (place_of v target) s next v c target answer → (k : Control) → GoesOnAt v c target answer k → Arrives v (kept_by next) target k
  arrives a k goes = arrives_by (place_of v target) refl a k goes

  answer_few_by : (p : Option (ℕ × ℕ)) → AnswersAt p s next v c target answer → (answer ≡ 2 → ⊥) × (answer ≡ 5 → ⊥)
  answer_few_by None a = (let e = a.0 in (λ f. omega (arith, e, f), λ f. omega (arith, e, f)))
  answer_few_by (Some p) a = (let e = a.1 in (λ f. omega (arith, e, f, aligned), λ f. omega (arith, e, f, aligned)))

  -- so it is no other reason
  pub answer_is : AnswersAt (place_of v target) s next v c target answer → (answer ≡ 2 → ⊥) × (answer ≡ 5 → ⊥)
  answer_is a = answer_few_by (place_of v target) a

stands_at : (v : ImageData) (next : Slots) (f : Machine) (c : Control) → Arrives v (kept_by next) f.pc c → Stands v (kept_by next) f f c
stands_at v next f (At i b o Start) a = (a.0, (refl, inl a.1))
stands_at v next f (At i b o Low) a = absurd a
stands_at v next f (At i b o Return) a = absurd a
stands_at v next f (At i b o Leave) a = absurd a
stands_at v next f Outside a = (refl, a)

agrees : (v : ImageData) (next : Slots) (f : Machine) (e : Option End) (c : Control) → Arrives v (kept_by next) f.pc c → Agrees e v (kept_by next) f f c
agrees v next f None c a = stands_at v next f c a
agrees v next f (Some e) c a = refl

pub enters_right : EntersRight
enters_right v s ram lists old new f answer c k e goes =
    let q : ChipServed s (λ p. v) (indirect f.pc) answer old new = (enters_repeated s (λ p. v) ram lists old new f.pc answer k e).0 in
    record {
      next = q.next;
      words = q.words;
      lists = q.lists;
      stands = q.stands;
      setting = q.setting;
      moves = q.moves ∙ ap (λ (m : ℕ). fifo_few m (setting_of s) (kept_by s) v (indirect f.pc)) (sym q.bound.most);
      matches = agrees v q.next f f.ending c (arrives s q.next v new f.pc answer q.stands.numbers.aligned q.answers c goes);
    }
