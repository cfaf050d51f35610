-- A machine instruction at an exit that the service would have served: it takes no input and writes nothing, and the run goes on at a text word.
use Rattle.std.proofs.Common.{◌≡◌, ◌==◌, if◌then◌else◌, nat_lt, ℕ, suc, ◌+◌, ◌*◌, ◌/◌, ◌%◌, ◌^◌, ◌<◌, ◌&&◌, Bool, true, false, not, List, [], ◌∷◌, ◌++◌, Option, Some, None, is_some, refl, sym, ap, subst, ◌∙◌, inl, arith, append-nil}
use Rattle.std.proofs.lemmas.Bool.Decides.{nat_tests}
use Rattle.swi_isa.specs.declared.instr.Instr.{Instr}
use Rattle.swi_isa.specs.declared.instr.Instr.TheVariants as instr
use Rattle.swi_isa.specs.Decode.{decoded}
use Rattle.swi_memory.specs.Bus.{fetched}
use Rattle.swi_exec.specs.Registers.{with_reg}
use Rattle.swi_exec.specs.Execute.{address_of}
use Rattle.swi_calls.specs.declared.end.End.{End}
use Rattle.swi_calls.specs.declared.machine.Machine.{Machine}
use Rattle.swi_calls.specs.Flat.{Made, quiet}
use Rattle.swi_calls.specs.Held.{held_made, held_step}
use Rattle.swi_calls.specs.State.{FlatState}
use Rattle.swi_image.specs.Format.{ImageData}
use Rattle.swi_image.specs.Place.{place_of, word_at}
use Rattle.swi_render.specs.Carried.{Carries}
use Rattle.swi_render.specs.Rendering.{ebreak}
use Rattle.swi_rom.specs.Record.{Record, Placed, Transfer, direct, indirect}
use Rattle.swi_hart.specs.declared.hart.Stage.{Stage}
use Rattle.swi_hart.specs.declared.hart.Stage.TheVariants.{Start}
use Rattle.swi_hart.specs.declared.hart.Control.{Control}
use Rattle.swi_hart.specs.declared.hart.Control.TheVariants.{At, Outside}
use Rattle.swi_hart.specs.declared.hart.ExitKind.{ExitKind}
use Rattle.swi_hart.specs.declared.hart.ExitKind.TheVariants.{Direct, Misaligned, Trap, Indirect}
use Rattle.swi_hart.specs.Hart.{Stepped, exit_kind, is_fall, left_made, next_made, original, slots, stepped}
use Rattle.swi_hart.specs.Leaving.{HasPlace, exit_transfer, jump_transfer, moved, transfer_at}
use Rattle.swi_hart.specs.Matching.{Arrives, BoardStep, ExitStep, Follows, HomeStep, Jumps, JumpsBy, Matches}
use Rattle.swi_hart.proofs.Midway.{at_exit, step_follows}
use Rattle.swi_board.specs.Moments.{Moment, Policy, completed, counted, event, executed, fell, led, next_fetch, stepped_at}
use Rattle.swi_board.specs.Transfers.{Here, after_all, at_fall, before_last, here_after, here_of, jumps_as, leaves_by, spent}
use Rattle.swi_board.proofs.Held.{same_steps}
use Rattle.swi_board.proofs.Progress.{Completes, Progress, made_step, lead, fall, beside, progress}
use Rattle.swi_run_laws.specs.Broken.{SameBytes}

-- a record in which one block is placed, at the ram's first word, and another program has its turn
abbrev placed_alone : Record → ℕ → Record
placed_alone r b = record r { turn = suc r.turn; placed = record { program = suc r.turn; block = b; first = 0 } ∷ [] }

is_alone : (r : Record) (b : ℕ) → Placed (placed_alone r b) b 0
unfolding Placed
is_alone r b = inl refl

not_alone : (r : Record) (b : ℕ) → placed_alone r b ≡ r → ⊥
not_alone r b e = let turn : suc r.turn ≡ r.turn = ap (λ (q : Record). q.turn) e in omega (arith, turn)

-- the step that the board would have made, had the service succeeded
record Would (v : ImageData) (r : Record) (m : Machine) (c : Control) (input : List ℕ) : Type 0 where
  block : ℕ
  offset : ℕ
  target : ℕ
  place_is : place_of v target ≡ Some (block, offset)
  step : Stepped
  is : BoardStep v (placed_alone r block) m c step input
  control : step.control ≡ At offset block offset Start
  transfer : Transfer
  makes : transfer_at v m c ≡ Some transfer
  quiet_is : (step.made.input ≡ input) × ((step.made.output ≡ []) × (step.made.error ≡ []))

arrives_alone : (v : ImageData) (r : Record) (t b o : ℕ) → place_of v t ≡ Some (b, o) → Arrives v (placed_alone r b) t (At o b o Start)
arrives_alone v r t b o at = ((0, is_alone r b, omega arith), at)

left_quiet : (t : Bool) (m : Machine) (d : ℕ) (input : List ℕ) → ((left_made t m d input).input ≡ input) × (((left_made t m d input).output ≡ []) × ((left_made t m d input).error ≡ []))
left_quiet true m d input = (refl, (refl, refl))
left_quiet false m d input = (refl, (refl, refl))

by_place : {X : Type 0} (p : Option (ℕ × ℕ)) → (p ≡ None → ⊥) → ((b o : ℕ) → p ≡ Some (b, o) → X) → X
by_place {X} None some f = absurd (some refl)
by_place {X} (Some p) some f = f p.0 p.1 refl

module _ (v : ImageData) (r : Record) (m : Machine) (i b o : ℕ) (stage : Stage) (input : List ℕ) where
  makes_exit : (k : ExitKind) → (word_at v b o == ebreak) ≡ true → exit_kind (word_at v b (o + 1)) ≡ k → (t : Transfer) → exit_transfer k v m b o ≡ Some t → transfer_at v m (At i b o stage) ≡ Some t
  makes_exit k is kind t e = ap (λ (q : Bool). if q then exit_transfer (exit_kind (word_at v b (o + 1))) v m b o else None) is ∙ ap (λ (q : ExitKind). exit_transfer q v m b o) kind ∙ e

  makes_step : (k : ExitKind) (new : Record) (s : Stepped) → (word_at v b o == ebreak) ≡ true → exit_kind (word_at v b (o + 1)) ≡ k → ExitStep k v new m s input i b o stage → BoardStep v new m (At i b o stage) s input
  makes_step k new s is kind step =
      subst (λ (t : Bool). HomeStep t v new m s input i b o stage) (sym is) (subst (λ (q : ExitKind). ExitStep q v new m s input i b o stage) (sym kind) step)

  would_jump : (x : Option Instr) → decoded (word_at v b (o + 1)) ≡ x → (word_at v b o == ebreak) ≡ true → exit_kind (word_at v b (o + 1)) ≡ Indirect → HasPlace v (jump_transfer x m) → Would v r m (At i b o stage) input
  would_jump (Some (instr.Jalr rd rs1 imm)) x_is is kind placed = by_four (address_of m.regs rs1 imm / 2 * 2 % 4 == 0) refl placed
    where
      by_four : (q : Bool) → (address_of m.regs rs1 imm / 2 * 2 % 4 == 0) ≡ q → HasPlace v (if q then Some (indirect (address_of m.regs rs1 imm / 2 * 2)) else None) → Would v r m (At i b o stage) input
      by_four false e p = absurd p
      by_four true e p =
          by_place (place_of v (address_of m.regs rs1 imm / 2 * 2)) p (λ b' o' at.
          let s : Stepped = stepped (At o' b' o' Start) (quiet (record m { pc = address_of m.regs rs1 imm / 2 * 2; regs = with_reg m.regs rd (word_at v b (o + 2)); steps = m.steps + 1 }) input) in
          record {
            block = b';
            offset = o';
            target = address_of m.regs rs1 imm / 2 * 2;
            place_is = at;
            step = stepped (At o' b' o' Start) (quiet (record m { pc = address_of m.regs rs1 imm / 2 * 2; regs = with_reg m.regs rd (word_at v b (o + 2)); steps = m.steps + 1 }) input);
            is = makes_step Indirect (placed_alone r b') _ is kind
                (subst (λ (q : Option Instr). JumpsBy q v (placed_alone r b') (stepped (At o' b' o' Start) (quiet (record m { pc = address_of m.regs rs1 imm / 2 * 2; regs = with_reg m.regs rd (word_at v b (o + 2)); steps = m.steps + 1 }) input)) input (At i b o stage) m (word_at v b (o + 2))) (sym x_is)
                (subst (λ (q : Bool). Jumps q v (placed_alone r b') (stepped (At o' b' o' Start) (quiet (record m { pc = address_of m.regs rs1 imm / 2 * 2; regs = with_reg m.regs rd (word_at v b (o + 2)); steps = m.steps + 1 }) input)) input (At i b o stage) m rd (word_at v b (o + 2)) (address_of m.regs rs1 imm / 2 * 2)) (sym e)
                (arrives_alone v r (address_of m.regs rs1 imm / 2 * 2) b' o' at, refl)));
            control = refl;
            transfer = indirect (address_of m.regs rs1 imm / 2 * 2);
            makes = makes_exit Indirect is kind (indirect (address_of m.regs rs1 imm / 2 * 2))
                (ap (λ (q : Option Instr). jump_transfer q m) x_is ∙ ap (λ (q : Bool). if q then Some (indirect (address_of m.regs rs1 imm / 2 * 2)) else None) e);
            quiet_is = (refl, (refl, refl));
          })
  would_jump x x_is is kind placed = absurd placed

  would_exit : (k : ExitKind) → (word_at v b o == ebreak) ≡ true → exit_kind (word_at v b (o + 1)) ≡ k → HasPlace v (exit_transfer k v m b o) → Would v r m (At i b o stage) input
  would_exit Direct is kind placed =
      by_place (place_of v (word_at v b (o + 1))) placed (λ b' o' at. record {
        block = b';
        offset = o';
        target = word_at v b (o + 1);
        place_is = at;
        step = stepped (At o' b' o' Start) (left_made (is_fall v m b o stage) m (word_at v b (o + 1)) input);
        is = makes_step Direct (placed_alone r b') _ is kind (arrives_alone v r (word_at v b (o + 1)) b' o' at, refl);
        control = refl;
        transfer = direct b o (word_at v b (o + 1));
        makes = makes_exit Direct is kind (direct b o (word_at v b (o + 1))) refl;
        quiet_is = left_quiet (is_fall v m b o stage) m (word_at v b (o + 1)) input;
      })
  would_exit Misaligned is kind placed = absurd placed
  would_exit Trap is kind placed = absurd placed
  would_exit Indirect is kind placed = would_jump (decoded (word_at v b (o + 1))) refl is kind placed

  would_home : (t : Bool) → (word_at v b o == ebreak) ≡ t → HasPlace v (if t then exit_transfer (exit_kind (word_at v b (o + 1))) v m b o else None) → Would v r m (At i b o stage) input
  would_home false is placed = absurd placed
  would_home true is placed = would_exit (exit_kind (word_at v b (o + 1))) is refl placed

would : (v : ImageData) (r : Record) (m : Machine) (c : Control) (input : List ℕ) → HasPlace v (transfer_at v m c) → Would v r m c input
would v r m (At i b o stage) input placed = would_home v r m i b o stage input (word_at v b o == ebreak) refl placed
would v r m Outside input placed = absurd placed

no_transfer : (v : ImageData) (m : Machine) (c : Control) → at_exit v c ≡ false → HasPlace v (transfer_at v m c) → ⊥
no_transfer v m (At i b o stage) e p = subst (λ (t : Bool). HasPlace v (if t then exit_transfer (exit_kind (word_at v b (o + 1))) v m b o else None)) e p
no_transfer v m Outside e p = p

-- ---- the definition's event there

pub none_gone : (s : FlatState) → SameBytes s s
none_gone s = record { input = refl; output = refl; error = refl }

module _ (by : Policy) (v : ImageData) (s : Moment) (r : Record) (m : Machine) (c : Control) (image : Carries (fetched s.flat.machine.bus) v) (matches : Matches v r s.flat.machine m c) (running : m.ending ≡ None)
    (word : m.pc < 2 ^ 32) (here : here_of v s.flat.machine c ≡ s.here) (spends : spent s.flat.machine c ≡ s.spent) (placed : HasPlace v (transfer_at v m c)) where
  w : Would v r m c s.flat.input
  w = would v r m c s.flat.input placed

  abbrev alone : Record
  alone = placed_alone r w.block

  exits : at_exit v c ≡ false → alone ≡ r
  exits e = absurd (no_transfer v m c e placed)

  follows : Follows v alone w.step (next_made v m c s.flat.machine s.flat.input)
  follows = step_follows v r alone s.flat.machine m c w.step s.flat.input image matches running word exits w.is

  goes : Progress (λ q u t. alone) v r alone s.flat.machine m c w.step s.flat.input
  goes = progress (λ q u t. alone) v r alone s.flat.machine m c w.step s.flat.input image matches running word
      (ap (λ (t : Option Transfer). moved (λ q u k. alone) r v t) (sym w.makes)) exits w.is

  going : is_some s.flat.machine.ending ≡ false
  going = ap (λ (e : Option End). is_some e) (sym (same_steps v r s.flat.machine m c matches).1 ∙ running)

  abbrev Serves : Moment → Type 0
  Serves t = SameBytes s.flat t.flat × (t.flat.machine.ending ≡ None) × (t.here ≡ None → ⊥)

  event_at : (p : ℕ × ℕ) → here_of v s.flat.machine c ≡ Some p → event by v s ≡ stepped_at by v (Some p) s
  event_at p at = ap (λ (q : Bool). if q then s else stepped_at by v s.here s) going ∙ ap (λ (k : Here). stepped_at by v k s) (sym here ∙ at)

  -- it comes to a text word
  arrives : (f : Machine) (h : Here) → here_of v f w.step.control ≡ h → h ≡ None → ⊥
  arrives f h there none = let clash : ◌≡◌ {A = Here} (Some (w.block, w.offset)) None = ap (λ (k : Control). here_of v f k) (sym w.control) ∙ there ∙ none in let bad : ⊥ = cc in bad

  completes : (p : ℕ × ℕ) → next_made v m c s.flat.machine s.flat.input ≡ held_made s.flat.machine s.flat.input → here_of v s.flat.machine c ≡ Some p → at_fall v s.flat.machine (Some p) ≡ false →
      Completes (λ q u t. alone) v r alone s.flat.machine (original s.flat.machine) (slots s.flat.machine) p (spent s.flat.machine c) w.step (held_made s.flat.machine s.flat.input).machine → Serves (event by v s)
  completes p is at plain done =
      subst (λ (t : Moment). Serves t)
      (sym (event_at p at
      ∙ ap (λ (q : Bool). counted (next_fetch v p s ∷ []) (if q then fell by v p s else executed by v p s)) plain
      ∙ ap (λ (q : Bool). counted (next_fetch v p s ∷ []) (if q then led s else completed by v (Some p) s)) (last s.spent (before_last s.flat.machine (original s.flat.machine) (slots s.flat.machine)) (omega (arith, done.cost, spends))))) (
        bytes,
        goes_on,
        λ none. arrives (held_step s.flat).machine (here_after v s.flat.machine (Some p) (held_step s.flat).machine) (done.here goes_on)
            (ap (λ (e : Option End). if is_some e then Some p else here_after v s.flat.machine (Some p) (held_step s.flat).machine) (sym goes_on) ∙ none),
      )
    where
      last : (x y : ℕ) → x ≡ y → nat_lt x y ≡ false
      last x y e = grind (arith, nat_tests)

      bytes : SameBytes s.flat (held_step s.flat)
      bytes = record {
        input = ap (λ (M : Made). M.input) (sym is) ∙ (sym follows.input ∙ w.quiet_is.0);
        output = ap (λ (M : Made). s.flat.output ++ M.output) (sym is) ∙ ap (λ (l : List ℕ). s.flat.output ++ l) (sym follows.output ∙ w.quiet_is.1.0) ∙ append-nil s.flat.output;
        error = ap (λ (M : Made). s.flat.error ++ M.error) (sym is) ∙ ap (λ (l : List ℕ). s.flat.error ++ l) (sym follows.error ∙ w.quiet_is.1.1) ∙ append-nil s.flat.error;
      }

      -- a transfer was made
      by_end : (j : Bool) (e : Option End) (l : List Transfer) → alone ≡ after_all (λ q u t. alone) v r (if j && not (is_some e) then l else []) → e ≡ None
      by_end j None l moves = refl
      by_end true (Some x) l moves = absurd (not_alone r w.block moves)
      by_end false (Some x) l moves = absurd (not_alone r w.block moves)

      goes_on : (held_step s.flat).machine.ending ≡ None
      goes_on = by_end (jumps_as s.flat.machine (original s.flat.machine)) (held_step s.flat).machine.ending (leaves_by s.flat.machine (original s.flat.machine) (slots s.flat.machine) p (held_step s.flat).machine.pc) done.moves

  pub exit_serves : Serves (event by v s)
  exit_serves = by_case goes
    where
      by_case : Progress (λ q u t. alone) v r alone s.flat.machine m c w.step s.flat.input → Serves (event by v s)
      by_case (made_step p whole at plain done) = completes p (ap (λ (k : Bool). if k then held_made s.flat.machine s.flat.input else quiet s.flat.machine s.flat.input) whole) at plain done
      by_case (lead p part at plain same there deeper) = absurd (not_alone r w.block same)
      by_case (fall p part at falls none moves there none') =
          subst (λ (t : Moment). Serves t)
          (sym (event_at p at ∙ ap (λ (q : Bool). counted (next_fetch v p s ∷ []) (if q then fell by v p s else executed by v p s)) falls))
          (none_gone s.flat, sym (same_steps v r s.flat.machine m c matches).1 ∙ running, arrives s.flat.machine (place_of v s.flat.machine.pc) there)
      by_case (beside t is same over) = absurd (not_alone r w.block same)
