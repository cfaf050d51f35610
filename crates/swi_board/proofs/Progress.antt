-- What a step of the board costs, and which transfer it makes, against the flat machine: read off the cases of a step.
use Rattle.std.proofs.Common.{◌≡◌, if◌then◌else◌, ℕ, ◌+◌, Bool, true, false, not, ◌&&◌, Option, Some, None, is_some, List, [], ◌∷◌, length, arith, refl, sym, ◌∙◌, ap, subst, ◌<◌, ◌^◌}
use Rattle.swi_isa.specs.declared.instr.Instr.{Instr}
use Rattle.swi_memory.specs.Bus.{fetched}
use Rattle.swi_exec.specs.Registers.{reg}
use Rattle.swi_exec.specs.Execute.{is_taken}
use Rattle.swi_calls.specs.declared.end.End.{End}
use Rattle.swi_calls.specs.declared.machine.Machine.{Machine}
use Rattle.swi_calls.specs.Flat.{Made}
use Rattle.swi_image.specs.Format.{ImageData}
use Rattle.swi_image.specs.Place.{place_of}
use Rattle.swi_render.specs.Rendering.{Slot}
use Rattle.swi_hart.specs.Hart.{Stepped, behind, original, completes, slots}
use Rattle.swi_render.specs.Carried.{Carries}
use Rattle.swi_rom.specs.Record.{Record, Transfer, direct}
use Rattle.swi_hart.specs.declared.hart.Stage.{Stage}
use Rattle.swi_hart.specs.declared.hart.Stage.TheVariants.{Start, Low, Return, Leave}
use Rattle.swi_hart.specs.declared.hart.Control.{Control}
use Rattle.swi_hart.specs.declared.hart.Control.TheVariants.{At, Outside}
use Rattle.swi_calls.specs.Held.{held_made}
use Rattle.swi_hart.specs.Matching.{Arrives, Agrees, BoardStep, Matches}
use Rattle.swi_hart.specs.Leaving.{transfer_at, moved}
use Rattle.swi_board.specs.Transfers.{at_fall, jumps_as, step_cost, before_last, leaves_by, after_all, here_of, spent}
use Rattle.swi_hart.proofs.Stepping.{no_fall}
use Rattle.swi_hart.proofs.Cases.{Case, Departed, Fallen, Last, Led, Stayed, Stopped, Within, departed, fallen, goes_next, led, stayed, stopped, transfer_to, words_before}
use Rattle.swi_hart.proofs.Midway.{at_exit, held_outside, step_case}
use Rattle.swi_isa.specs.declared.instr.Instr.TheVariants as instr

-- the step completes the instruction x of f, which began at p and of which n machine steps were made before
pub record Completes (policy : Record → ImageData → Transfer → Record) (v : ImageData) (r new : Record) (f : Machine) (x : Option Instr) (ss : List Slot) (p : ℕ × ℕ) (n : ℕ) (s : Stepped) (next : Machine) : Type 0 where
  pub moves : new ≡ after_all policy v r (if jumps_as f x && not (is_some next.ending) then leaves_by f x ss p next.pc else [])
  pub here : next.ending ≡ None → here_of v next s.control ≡ (if jumps_as f x then place_of v next.pc else Some (p.0, p.1 + length ss))
  pub cost : step_cost f x ss ≡ n + 1
  pub spent_none : next.ending ≡ None → spent next s.control ≡ 0

pub data Progress (policy : Record → ImageData → Transfer → Record) (v : ImageData) (r new : Record) (f m : Machine) (c : Control) (s : Stepped) (input : List ℕ) : Type 0 where
  made_step : (p : ℕ × ℕ) → completes v m c ≡ true → here_of v f c ≡ Some p → at_fall v f (Some p) ≡ false →
      Completes policy v r new f (original f) (slots f) p (spent f c) s (held_made f input).machine → Progress policy v r new f m c s input
  lead : (p : ℕ × ℕ) → completes v m c ≡ false → here_of v f c ≡ Some p → at_fall v f (Some p) ≡ false → new ≡ r → here_of v f s.control ≡ Some p → spent f s.control ≡ spent f c + 1 → Progress policy v r new f m c s input
  fall : (p : ℕ × ℕ) → completes v m c ≡ false → here_of v f c ≡ Some p → at_fall v f (Some p) ≡ true → spent f c ≡ 0 → new ≡ policy r v (direct p.0 p.1 f.pc) → here_of v f s.control ≡ place_of v f.pc → spent f s.control ≡ 0 →
      Progress policy v r new f m c s input
  beside : completes v m c ≡ true → c ≡ Outside → new ≡ r → is_some (held_made f input).machine.ending ≡ true → Progress policy v r new f m c s input

arrived_here : (v : ImageData) (r : Record) (next : Machine) (t : ℕ) (c : Control) → next.pc ≡ t → Arrives v r t c → (here_of v next c ≡ place_of v next.pc) × (spent next c ≡ 0)
arrived_here v r next t (At i b o Start) is at = (sym (ap (λ n. place_of v n) is ∙ at.1), refl)
arrived_here v r next t (At i b o Low) is at = absurd at
arrived_here v r next t (At i b o Return) is at = absurd at
arrived_here v r next t (At i b o Leave) is at = absurd at
arrived_here v r next t Outside is at = (sym (ap (λ n. place_of v n) is ∙ at), refl)

no_and : (j : Bool) → (j && not true) ≡ false
no_and true = refl
no_and false = refl

not_not : (t : Bool) → t ≡ not (not t)
not_not true = refl
not_not false = refl

-- how the words of a case are those of a run's cost
jumps_are : (f : Machine) (x : Option Instr) → jumps_as f x ≡ not (goes_next f x)
jumps_are f (Some (instr.Branch op rs1 rs2 off)) = not_not (is_taken op (reg f.regs rs1) (reg f.regs rs2))
jumps_are f x = refl

before_are : (f : Machine) (x : Option Instr) (ss : List Slot) → before_last f x ss ≡ words_before f x ss
before_are f (Some (instr.Branch op rs1 rs2 off)) ss = refl
before_are f x ss = refl

pub leaves_are : (f : Machine) (x : Option Instr) (ss : List Slot) (p : ℕ × ℕ) (pc : ℕ) → leaves_by f x ss p pc ≡ transfer_to x p.0 (p.1 + before_last f x ss) pc ∷ []
leaves_are f (Some (instr.Jalr rd rs1 imm)) ss p pc = refl
leaves_are f x ss p pc = refl

module _ {v : ImageData} {f : Machine} {b o first n : ℕ} where
  here_is : (i : ℕ) (stage : Stage) → Within v f b o stage first n → here_of v f (At i b o stage) ≡ Some (b, first)
  here_is i Start w = ap (λ k. Some (b, k)) (let same : o ≡ first = omega (arith, w.offset, w.count) in same)
  here_is i Low w = w.start
  here_is i Return w = w.start
  here_is i Leave w = w.start

  spent_is : (i : ℕ) (stage : Stage) → Within v f b o stage first n → spent f (At i b o stage) ≡ n
  spent_is i Start w = sym w.count
  spent_is i Low w = sym w.count
  spent_is i Return w = sym w.count
  spent_is i Leave w = before_are f (original f) (slots f) ∙ w.count

  -- what a step that completes the instruction costs
  cost_is : {m : Machine} {i : ℕ} {stage : Stage} → Last v f m i b o stage first n → step_cost f (original f) (slots f) ≡ n + 1
  cost_is last = ap (λ k. k + 1) (before_are f (original f) (slots f) ∙ last.before)

module _ (policy : Record → ImageData → Transfer → Record) {v : ImageData} {r new : Record} {f m : Machine} {i b o : ℕ} {stage : Stage} {s : Stepped} {input : List ℕ} (moves : new ≡ moved policy r v (transfer_at v m (At i b o stage))) where
  finish : (first n : ℕ) → Last v f m i b o stage first n → Completes policy v r new f (original f) (slots f) (b, first) n s (held_made f input).machine → Progress policy v r new f m (At i b o stage) s input
  finish first n last c = made_step (b, first) last.complete (here_is i stage last.within) (no_fall v f b first last.within.start)
      (subst (λ (k : ℕ). Completes policy v r new f (original f) (slots f) (b, first) k s (held_made f input).machine) (sym (spent_is i stage last.within)) c)

  stayed_progress : (first n : ℕ) → Last v f m i b o stage first n → Stayed v r new f i b o stage s input first → Progress policy v r new f m (At i b o stage) s input
  stayed_progress first n last k = finish first n last (record {
    moves = k.same ∙ ap (λ (t : Bool). after_all policy v r (if t && not (is_some next.ending) then leaves_by f (original f) (slots f) (b, first) next.pc else [])) (sym stays);
    here = λ on. ap (λ (c : Control). here_of v next c) (control_is on) ∙ ap (λ n. Some (b, n)) (sym k.length) ∙ ap (λ (j : Bool). if j then place_of v next.pc else Some (b, first + length (slots f))) (sym stays);
    cost = cost_is last;
    spent_none = λ on. ap (λ (c : Control). spent next c) (control_is on);
  })
    where
      next : Machine
      next = (held_made f input).machine

      stays : jumps_as f (original f) ≡ false
      stays = jumps_are f (original f) ∙ ap not k.next

      control_is : next.ending ≡ None → s.control ≡ At k.index b k.offset Start
      control_is on = ap (λ (q : Stepped). q.control) k.is ∙ ap (λ (e : Option End). behind e (At k.index b k.offset Start) (At i b o stage)) on

  departed_progress : (first n : ℕ) → Last v f m i b o stage first n → Departed v new f m i b o stage s input → Progress policy v r new f m (At i b o stage) s input
  departed_progress first n last k = finish first n last (record {
    moves = moves ∙ ap (λ (t : Option Transfer). moved policy r v t) k.transfer ∙ ap (λ (l : List Transfer). after_all policy v r l) (sym list)
        ∙ ap (λ (t : Bool). after_all policy v r (if t then leaves_by f (original f) (slots f) (b, first) next.pc else [])) (sym (ap (λ (e : Option End). jumps_as f (original f) && not (is_some e)) k.on ∙ ap (λ (j : Bool). j && not false) jumps));
    here = λ on. there.0 ∙ ap (λ (j : Bool). if j then place_of v next.pc else Some (b, first + length (slots f))) (sym jumps);
    cost = cost_is last;
    spent_none = λ on. there.1;
  })
    where
      next : Machine
      next = (held_made f input).machine

      there : (here_of v next s.control ≡ place_of v next.pc) × (spent next s.control ≡ 0)
      there = arrived_here v new next k.to s.control k.pc k.arrives

      jumps : jumps_as f (original f) ≡ true
      jumps = jumps_are f (original f) ∙ ap not k.away

      list : leaves_by f (original f) (slots f) (b, first) next.pc ≡ transfer_to (original f) b o k.to ∷ []
      list =
          leaves_are f (original f) (slots f) (b, first) next.pc
          ∙ ap (λ n. transfer_to (original f) b (first + n) next.pc ∷ []) (before_are f (original f) (slots f) ∙ last.before)
          ∙ ap (λ n. transfer_to (original f) b n next.pc ∷ []) (sym last.within.offset) ∙ ap (λ n. transfer_to (original f) b o n ∷ []) k.pc

  stopped_progress : (first n : ℕ) → Last v f m i b o stage first n → Stopped v f m i b o stage s input → Progress policy v r new f m (At i b o stage) s input
  stopped_progress first n last k =
      let next = (held_made f input).machine in
      finish first n last (record {
        moves = moves ∙ ap (λ (t : Option Transfer). moved policy r v t) k.transfer ∙ ap (λ (t : Bool). after_all policy v r (if t then leaves_by f (original f) (slots f) (b, first) next.pc else []))
            (sym (ap (λ (e : Option End). jumps_as f (original f) && not (is_some e)) k.ending ∙ no_and (jumps_as f (original f))));
        here = λ on. absurd (let e = k.ending in cc);
        cost = cost_is last;
        spent_none = λ on. absurd (let e = k.ending in cc);
      })

  led_progress : Led v r new f m i b o stage s input → Progress policy v r new f m (At i b o stage) s input
  led_progress k =
      let control : s.control ≡ At (i + 1) b (o + 1) k.next = ap (λ (q : Stepped). q.control) k.is in
      lead (b, k.first) k.complete (here_is i stage k.within) (no_fall v f b k.first k.within.start) k.same
      (ap (λ (c : Control). here_of v f c) control ∙ here_is (i + 1) k.next k.later)
      (ap (λ (c : Control). spent f c) control ∙ spent_is (i + 1) k.next k.later ∙ ap (λ n. n + 1) (sym (spent_is i stage k.within)))

  fallen_progress : Fallen v new f m i b o stage s input → Progress policy v r new f m (At i b o stage) s input
  fallen_progress k =
      let there = arrived_here v new f f.pc s.control refl k.arrives in
      fall (b, o) k.complete (ap (λ (q : Stage). here_of v f (At i b o q)) k.starts) k.falls (ap (λ (q : Stage). spent f (At i b o q)) k.starts) (moves ∙ ap (λ (t : Option Transfer). moved policy r v t) k.transfer) there.0 there.1

  case_progress : Case v r new f m i b o stage s input → Progress policy v r new f m (At i b o stage) s input
  case_progress (stayed first n last k) = stayed_progress first n last k
  case_progress (departed first n last k) = departed_progress first n last k
  case_progress (stopped first n last k) = stopped_progress first n last k
  case_progress (led k) = led_progress k
  case_progress (fallen k) = fallen_progress k

-- each step of the board
pub progress : (policy : Record → ImageData → Transfer → Record) (v : ImageData) (r new : Record) (f m : Machine) (c : Control) (s : Stepped) (input : List ℕ) → Carries (fetched f.bus) v → Matches v r f m c → m.ending ≡ None → m.pc < 2 ^ 32 →
    new ≡ moved policy r v (transfer_at v m c) → (at_exit v c ≡ false → new ≡ r) → BoardStep v new m c s input → Progress policy v r new f m c s input
progress policy v r new f m (At i b o stage) s input image same running word moves stay step = case_progress policy moves (step_case v r new f m i b o stage s input image same running word stay step)
progress policy v r new f m Outside s input image same running word moves stay step =
    let stands = subst (λ (e : Option End). Agrees e v r f m Outside) running same in
    beside refl refl moves (ap (λ (M : Made). is_some M.machine.ending) (held_outside v f input image stands.1))
