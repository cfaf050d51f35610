-- A run that is left before a word goes on right.
use Rattle.std.proofs.Common.{◌≡◌, ◌⊎◌, ◌==◌, ◌&&◌, ℕ, ◌+◌, ◌%◌, ◌^◌, ◌<◌, Bool, true, false, not, List, [], ◌∷◌, length, slice_set, append-nil, add-one, Option, Some, None, is_some, if◌then◌else◌, arith, refl, sym, ap, subst, ◌∙◌, inl, inr}
use Rattle.std.proofs.lemmas.Bool.{cases_Bool, and_parts, eq-eqb, eqb-true, both_ways, false≢true, and_from}
use Rattle.swi_isa.specs.declared.instr.Instr.{Instr}
use Rattle.swi_isa.specs.declared.instr.Instr.TheVariants as instr
use Rattle.swi_isa.specs.Decode.{decoded}
use Rattle.swi_memory.specs.Bus.{AreaData, fetched}
use Rattle.swi_program.specs.Text.{TextData, word_of}
use Rattle.swi_exec.specs.Arithmetic.{sum_of}
use Rattle.swi_exec.specs.Registers.{Registers, with_reg}
use Rattle.swi_calls.specs.declared.end.End.{End}
use Rattle.swi_calls.specs.declared.machine.Machine.{Machine}
use Rattle.swi_calls.specs.Flat.{Made, quiet, joined}
use Rattle.swi_calls.specs.Held.{held_made, held_run, held_step}
use Rattle.swi_calls.specs.Laws.{held_run_more}
use Rattle.swi_calls.specs.State.{FlatState}
use Rattle.swi_image.specs.Format.{ImageData}
use Rattle.swi_image.specs.Place.{origin_of, place_of, word_at}
use Rattle.swi_render.specs.Rendering.{ebreak, Slot, jump, rendering, rendering_of}
use Rattle.swi_render.specs.Carried.{Carries, GoesOn}
use Rattle.swi_render.proofs.Lists.{rendering_some}
use Rattle.swi_rom.specs.Record.{Record, Placement, Placed}
use Rattle.swi_hart.specs.declared.hart.Stage.{Stage}
use Rattle.swi_hart.specs.declared.hart.Stage.TheVariants.{Start, Low, Return, Leave}
use Rattle.swi_hart.specs.declared.hart.Control.{Control}
use Rattle.swi_hart.specs.declared.hart.Control.TheVariants.{At, Outside}
use Rattle.swi_hart.specs.declared.hart.ExitKind.{ExitKind}
use Rattle.swi_hart.specs.declared.hart.ExitKind.TheVariants.{Direct}
use Rattle.swi_hart.specs.Hart.{stepped, completes, exit_kind, is_between, is_fall, left_made, links, next_made, slots, slots_at}
use Rattle.swi_hart.specs.Matching.{StageAt, Stands, Agrees, Matches, Follows, Arrives, BoardStep, HomeStep, ExitStep}
use Rattle.swi_hart.proofs.Cases.{known}
use Rattle.swi_hart.proofs.Own.{held_as}
use Rattle.swi_hart.proofs.Midway.{step_follows}
use Rattle.swi_hart.proofs.Standing.{linked_jump, slots_are}
use Rattle.swi_hart.proofs.Stepping.{direct_kind, jumped, no_fall}
use Rattle.swi_interrupt_laws.specs.Interrupts.{resume_at, resume_of, resumed, IsOfText, BegunAgain, DoneAlready, GoesOnRight, RunsOn, RunsOnRight, EntersAgain}
use Rattle.swi_interrupt_laws.proofs.Origins.{origin_within}

-- ---- a register that is written anew

set_twice : (ws : List ℕ) (k a b : ℕ) → slice_set (slice_set ws k a) k b ≡ slice_set ws k b
set_twice [] k a b = refl
set_twice (w ∷ ws) ℕ.zero a b = refl
set_twice (w ∷ ws) (ℕ.suc k) a b = ap (λ (l : List ℕ). w ∷ l) (set_twice ws k a b)

reg_by : (regs : Registers) (rd u x : ℕ) (t : Bool) → t ≡ (rd == 0) → with_reg (with_reg regs rd u) rd x ≡ with_reg regs rd x
reg_by regs rd u x true e = rw (← e) refl
reg_by regs rd u x false e = rw (← e) (ap (λ (l : List ℕ). record regs { words = l }) (set_twice regs.words rd u x))

reg_twice : (regs : Registers) (rd u x : ℕ) → with_reg (with_reg regs rd u) rd x ≡ with_reg regs rd x
reg_twice regs rd u x = reg_by regs rd u x (rd == 0) refl

auipc_again : (f : Machine) (w rd imm u : ℕ) (input : List ℕ) → fetched f.bus f.pc ≡ Some w → decoded w ≡ Some (instr.Auipc rd imm) → held_made (record f { regs = with_reg f.regs rd u }) input ≡ held_made f input
auipc_again f w rd imm u input fetch is =
    held_as (record f { regs = with_reg f.regs rd u }) input w (Some (instr.Auipc rd imm)) fetch is
    ∙ (ap (λ (q : Registers). quiet (record f { pc = sum_of f.pc 4; regs = q; steps = f.steps + 1 }) input) (reg_twice f.regs rd u (sum_of f.pc imm))
    ∙ sym (held_as f input w (Some (instr.Auipc rd imm)) fetch is))

jal_made : (f : Machine) (w rd off : ℕ) (input : List ℕ) → fetched f.bus f.pc ≡ Some w → decoded w ≡ Some (instr.Jal rd off) → (sum_of f.pc off % 4 == 0) ≡ true →
    held_made f input ≡ quiet (record f { pc = sum_of f.pc off; regs = with_reg f.regs rd (sum_of f.pc 4); steps = f.steps + 1 }) input
jal_made f w rd off input fetch is four = held_as f input w (Some (instr.Jal rd off)) fetch is ∙ jumped f (sum_of f.pc off) (with_reg f.regs rd (sum_of f.pc 4)) input four

jal_again : (f : Machine) (w rd off u : ℕ) (input : List ℕ) → fetched f.bus f.pc ≡ Some w → decoded w ≡ Some (instr.Jal rd off) → (sum_of f.pc off % 4 == 0) ≡ true →
    held_made (record f { regs = with_reg f.regs rd u }) input ≡ held_made f input
jal_again f w rd off u input fetch is four =
    jal_made (record f { regs = with_reg f.regs rd u }) w rd off input fetch is four
    ∙ (ap (λ (q : Registers). quiet (record f { pc = sum_of f.pc off; regs = q; steps = f.steps + 1 }) input) (reg_twice f.regs rd u (sum_of f.pc 4))
    ∙ sym (jal_made f w rd off input fetch is four))

-- ---- where the run goes on

abbrev is_direct : ImageData → ℕ → ℕ → Bool
is_direct v b o = word_at v b o == ebreak && (word_at v b (o + 1) % 4 == 0)

direct_resumes : (v : ImageData) (b o : ℕ) → is_direct v b o ≡ true → resume_at v b o ≡ word_at v b (o + 1)
direct_resumes v b o e = ap (λ (t : Bool). if t then word_at v b (o + 1) else (origin_of v b o).0) e

other_resumes : (v : ImageData) (b o : ℕ) → is_direct v b o ≡ false → resume_at v b o ≡ (origin_of v b o).0
other_resumes v b o e = ap (λ (t : Bool). if t then word_at v b (o + 1) else (origin_of v b o).0) e

same_machine : {f m : Machine} {pc : ℕ} → m ≡ f → pc ≡ f.pc → BegunAgain f m pc
same_machine {f = f} {m = m} {pc = pc} is here = record {
  here = here;
  same = λ input. ap (λ (q : Machine). held_made (record q { pc = pc }) input) is ∙ ap (λ (n : ℕ). held_made (record f { pc = n }) input) here;
}

jump_long : (q z : Bool) (rd t a : ℕ) → (q && not z) ≡ true → length (jump q z rd t a) ≡ 4
jump_long true true rd t a e = absurd (false≢true e)
jump_long true false rd t a e = refl
jump_long false z rd t a e = absurd (false≢true e)

module _ (t : TextData) (v : ImageData) (f : Machine) (text : IsOfText t v f) where
  -- a word of the rendering of the instruction at f's pc
  own_origin : (b first o j w : ℕ) → fetched f.bus f.pc ≡ Some w → place_of v f.pc ≡ Some (b, first) → o ≡ first + j → j < length (slots f) → (origin_of v b o).0 ≡ f.pc
  own_origin b first o j w fetch start offset short =
      let long : length (slots f) ≡ length (rendering w f.pc) = ap (λ (k : Option ℕ). length (slots_at f.pc k)) fetch in
      let inside : j < length (rendering w f.pc) = subst (λ (n : ℕ). j < n) long short in
      ap (λ (n : ℕ). (origin_of v b n).0) offset ∙ origin_within t v f.pc w b first j text.sized text.carries.image text.image (text.text f.pc w fetch) start inside

  size_is : (w n : ℕ) (x : Instr) → fetched f.bus f.pc ≡ Some w → decoded w ≡ Some x → length (rendering_of (Some x) w f.pc) ≡ n → length (slots f) ≡ n
  size_is w n x fetch is e = ap (λ (ss : List Slot). length ss) (slots_are f w (Some x) fetch is) ∙ e

  jal_longer : (w rd off : ℕ) → fetched f.bus f.pc ≡ Some w → decoded w ≡ Some (instr.Jal rd off) → links rd (sum_of f.pc off) ≡ true → 1 < length (slots f)
  jal_longer w rd off fetch is linking = omega (arith, size_is w 4 (instr.Jal rd off) fetch is (jump_long (sum_of f.pc off % 4 == 0) (rd == 0) rd (sum_of f.pc off) f.pc linking))

  -- before a word that is no direct exit the instruction is begun again
  module _ (m : Machine) (b o : ℕ) (other : is_direct v b o ≡ false) where
    begun : (m ≡ f) → (origin_of v b o).0 ≡ f.pc → BegunAgain f m (resume_at v b o)
    begun is origin = same_machine is (other_resumes v b o other ∙ origin)

    begun_with : (regs : Registers) → m ≡ record f { regs = regs } → (origin_of v b o).0 ≡ f.pc → ((input : List ℕ) → held_made (record f { regs = regs }) input ≡ held_made f input) → BegunAgain f m (resume_at v b o)
    begun_with regs is origin same =
        let here : resume_at v b o ≡ f.pc = other_resumes v b o other ∙ origin in
        record {
          here = here;
          same = λ input. ap (λ (q : Machine). held_made (record q { pc = resume_at v b o }) input) is
              ∙ (ap (λ (n : ℕ). held_made (record f { regs = regs; pc = n }) input) here ∙ same input);
        }

    not_exit : (d : ℕ) → word_at v b o ≡ ebreak → word_at v b (o + 1) ≡ d → (d % 4 == 0) ≡ true → ⊥
    not_exit d leaves leads four =
        let e : (word_at v b o == ebreak) ≡ true = eq-eqb _ _ leaves in
        let g : (word_at v b (o + 1) % 4 == 0) ≡ true = ap (λ (n : ℕ). n % 4 == 0) leads ∙ four in
        both_ways (is_direct v b o) other (and_from (word_at v b o == ebreak) (word_at v b (o + 1) % 4 == 0) e g)

    begun_start : (k : Option ℕ) → f.pc < 2 ^ 32 → fetched f.bus f.pc ≡ k → m ≡ f → GoesOn v f.pc b o → BegunAgain f m (resume_at v b o)
    begun_start None low fetch is (inl start) = absurd (let none = text.carries.nowhere f.pc low fetch in cc)
    begun_start (Some w) low fetch is (inl start) =
        let some : 0 < length (slots f) = subst (λ (n : ℕ). 0 < n) (sym (ap (λ (k : Option ℕ). length (slots_at f.pc k)) fetch)) (rendering_some w f.pc) in
        begun is (own_origin b o o 0 w fetch start (omega arith) some)
    begun_start k low fetch is (inr fall) = absurd (not_exit f.pc fall.leaves fall.leads (eq-eqb _ _ fall.aligned))

    begun_stage : (stage : Stage) → f.pc < 2 ^ 32 → StageAt stage v b o f m → BegunAgain f m (resume_at v b o)
    begun_stage Start low (is, goes) = begun_start (fetched f.bus f.pc) low refl is goes
    begun_stage Low low a =
        begun_with (with_reg f.regs a.rd a.upper) a.done (own_origin b a.at o 1 a.w a.fetch a.start a.offset (omega (arith, size_is a.w 2 (instr.Auipc a.rd a.imm) a.fetch a.is refl)))
        (λ input. auipc_again f a.w a.rd a.imm a.upper input a.fetch a.is)
    begun_stage Return low a =
        let four = (and_parts (sum_of f.pc a.off % 4 == 0) (not (a.rd == 0)) a.linking).0 in
        begun_with (with_reg f.regs a.rd a.upper) a.done (own_origin b a.at o 1 a.w a.fetch a.start a.offset (jal_longer a.w a.rd a.off a.fetch a.is a.linking))
        (λ input. jal_again f a.w a.rd a.off a.upper input a.fetch a.is four)
    begun_stage Leave low (inl a) =
        let four = (and_parts (sum_of f.pc a.off % 4 == 0) (not (a.rd == 0)) a.linking).0 in
        let k = known {f = f} text.carries a.w a.fetch a.is a.start in
        let here = linked_jump v b a.at (sum_of f.pc a.off % 4 == 0) (a.rd == 0) a.rd (sum_of f.pc a.off) f.pc a.linking k.stands.words in
        let two : o ≡ a.at + 1 + 1 = omega (arith, a.offset) in
        absurd (not_exit (sum_of f.pc a.off) (ap (λ n. word_at v b n) two ∙ here.1.1.0) (ap (λ n. word_at v b (n + 1)) two ∙ here.1.1.1.0) four)
    begun_stage Leave low (inr a) =
        begun a.done (own_origin b a.at o 1 a.w a.fetch a.start a.offset (omega (arith, size_is a.w 3 (instr.Branch a.op a.rs1 a.rs2 a.off) a.fetch a.is refl)))

-- ---- before a direct exit

stands_same : (v : ImageData) (r : Record) (f m : Machine) (c : Control) → is_between c ≡ true → Stands v r f m c → m ≡ f
stands_same v r f m (At i b o Start) e s = s.1.0
stands_same v r f m (At i b o Low) e s = absurd (false≢true e)
stands_same v r f m (At i b o Return) e s = absurd (false≢true e)
stands_same v r f m (At i b o Leave) e s = absurd (false≢true e)
stands_same v r f m Outside e s = s.0

made_is : (A B : Made) → A.machine ≡ B.machine → A.input ≡ B.input → A.output ≡ B.output → A.error ≡ B.error → A ≡ B
made_is A B e f g h = λ i. record { machine = e i; input = f i; output = g i; error = h i }

-- a step that leads to between two instructions
follows_made : (v : ImageData) (new : Record) (c : Control) (M next : Made) → is_between c ≡ true → M.machine.ending ≡ None → Follows v new (stepped c M) next → M ≡ next
follows_made v new c M next between running g =
    let stands = subst (λ (e : Option End). Agrees e v new next.machine M.machine c) running g.matches in
    made_is M next (stands_same v new next.machine M.machine c between stands) g.input g.output g.error

left_running : (p : Bool) (m : Machine) (d : ℕ) (input : List ℕ) → (left_made p m d input).machine.ending ≡ m.ending
left_running true m d input = refl
left_running false m d input = refl

-- where control could go
record Somewhere (v : ImageData) (d : ℕ) : Type 0 where
  new : Record
  at : Control
  between : is_between at ≡ true
  arrives : Arrives v new d at

somewhere : (v : ImageData) (r : Record) (d : ℕ) (p : Option (ℕ × ℕ)) → place_of v d ≡ p → Somewhere v d
unfolding Placed
somewhere v r d None e = record { new = r; at = Outside; between = refl; arrives = e }
somewhere v r d (Some p) e =
    let x : Placement = record { program = r.turn; block = p.0; first = 0 } in
    record { new = record r { placed = x ∷ [] }; at = At p.1 p.0 p.1 Start; between = refl; arrives = ((0, inl refl, omega arith), e) }

-- how a machine midway differs
record Alike (f m : Machine) : Type 0 where
  pc : m.pc ≡ f.pc
  bus : m.bus ≡ f.bus
  steps : m.steps ≡ f.steps
  ending : m.ending ≡ f.ending

alike : (f m : Machine) (regs : Registers) → m ≡ record f { regs = regs } → Alike f m
alike f m regs e = record { pc = ap (λ (q : Machine). q.pc) e; bus = ap (λ (q : Machine). q.bus) e; steps = ap (λ (q : Machine). q.steps) e; ending = ap (λ (q : Machine). q.ending) e }

stands_alike : (v : ImageData) (r : Record) (f m : Machine) (c : Control) → Stands v r f m c → Alike f m
stands_alike v r f m (At i b o Start) s = alike f m f.regs s.1.0
stands_alike v r f m (At i b o Low) s = alike f m (with_reg f.regs s.1.rd s.1.upper) s.1.done
stands_alike v r f m (At i b o Return) s = alike f m (with_reg f.regs s.1.rd s.1.upper) s.1.done
stands_alike v r f m (At i b o Leave) (at, inl a) = alike f m (with_reg f.regs a.rd (sum_of f.pc 4)) a.done
stands_alike v r f m (At i b o Leave) (at, inr a) = alike f m f.regs a.done
stands_alike v r f m Outside s = alike f m f.regs s.0

module _ (v : ImageData) (r : Record) (f m : Machine) (i b o : ℕ) (stage : Stage) (carries : Carries (fetched f.bus) v) (direct : is_direct v b o ≡ true) where
  -- the exit is left as the flat machine's step says, if it makes one
  exit_made : (input : List ℕ) → m.ending ≡ None → m.pc < 2 ^ 32 → Matches v r f m (At i b o stage) →
      left_made (is_fall v m b o stage) m (word_at v b (o + 1)) input ≡ next_made v m (At i b o stage) f input
  exit_made input running low same =
      let d : ℕ = word_at v b (o + 1) in
      let both = and_parts (word_at v b o == ebreak) (d % 4 == 0) direct in
      let kind : exit_kind d ≡ Direct = direct_kind d (eqb-true _ _ both.1) in
      let there = somewhere v r d (place_of v d) refl in
      let M : Made = left_made (is_fall v m b o stage) m d input in
      let step : BoardStep v there.new m (At i b o stage) (stepped there.at M) input =
      subst (λ (q : Bool). HomeStep q v there.new m (stepped there.at M) input i b o stage) (sym both.0)
      (subst (λ (k : ExitKind). ExitStep k v there.new m (stepped there.at M) input i b o stage) (sym kind) (there.arrives, refl)) in
      let g = step_follows v r there.new f m (At i b o stage) (stepped there.at M) input carries same running low (λ e. absurd (both_ways (word_at v b o == ebreak) e both.0)) step in
      follows_made v there.new there.at M (next_made v m (At i b o stage) f input) there.between (left_running (is_fall v m b o stage) m d input ∙ running) g

  fall_is : (k : Stage) → is_fall v m b o k ≡ true → StageAt k v b o f m → (m ≡ f) × (word_at v b (o + 1) ≡ f.pc)
  fall_is Start e (is, inl place) = absurd (false≢true (sym (ap (λ (q : Machine). is_fall v q b o Start) is ∙ no_fall v f b o place) ∙ e))
  fall_is Start e (is, inr fall) = (is, fall.leads)
  fall_is Low e a = absurd (false≢true e)
  fall_is Return e a = absurd (false≢true e)
  fall_is Leave e a = absurd (false≢true e)

  exit_by : (p q : Bool) → is_fall v m b o stage ≡ p → StageAt stage v b o f m → m.steps ≡ f.steps → ((input : List ℕ) → left_made p m (word_at v b (o + 1)) input ≡ (if q then held_made f input else quiet f input)) →
      BegunAgain f m (resume_at v b o) ⊎ DoneAlready f m (resume_at v b o)
  exit_by true q fall stands steps made =
      let at = fall_is stage fall stands in
      inl (same_machine at.0 (direct_resumes v b o direct ∙ at.1))
  exit_by false true fall stands steps made =
      inr (record { leads = λ input. sym (made input) ∙ ap (λ (n : ℕ). quiet (record m { pc = n; steps = m.steps + 1 }) input) (sym (direct_resumes v b o direct)) })
  exit_by false false fall stands steps made = absurd (let one : m.steps + 1 ≡ f.steps = ap (λ (M : Made). M.machine.steps) (made []) in omega (arith, one, steps))

  exit_resumes : m.ending ≡ None → m.pc < 2 ^ 32 → m.steps ≡ f.steps → StageAt stage v b o f m → Matches v r f m (At i b o stage) → BegunAgain f m (resume_at v b o) ⊎ DoneAlready f m (resume_at v b o)
  exit_resumes running low steps stands same =
      exit_by (is_fall v m b o stage) (completes v m (At i b o stage)) refl stands steps (λ input. exit_made input running low same)

-- ---- the laws

pub goes_on_right : GoesOnRight
goes_on_right t v r f m (At i b o stage) text low running same =
    let stands = subst (λ (e : Option End). Agrees e v r f m (At i b o stage)) running same in
    let like = stands_alike v r f m (At i b o stage) stands in
    elim (cases_Bool (is_direct v b o)) [
      | inl direct ↦ exit_resumes v r f m i b o stage text.carries direct running (subst (λ (n : ℕ). n < 2 ^ 32) (sym like.pc) low) like.steps stands.1 same
      | inr other ↦ inl (begun_stage t v f text m b o other stage low stands.1)
    ]
goes_on_right t v r f m Outside text low running same =
    let stands = subst (λ (e : Option End). Agrees e v r f m Outside) running same in
    inl (same_machine stands.0 (ap (λ (q : Machine). q.pc) stands.0))

going : (s : FlatState) → s.machine.ending ≡ None → is_some s.machine.ending ≡ false
going s e = ap (λ (k : Option End). is_some k) e

run_more : (n : ℕ) (s : FlatState) → s.machine.ending ≡ None → held_run (n + 1) s ≡ held_run n (held_step s)
run_more n s e = rw add-one (held_run_more n s (going s e))

state_is : (a b : FlatState) → a.machine ≡ b.machine → a.input ≡ b.input → a.output ≡ b.output → a.error ≡ b.error → a ≡ b
state_is a b e f g h = λ i. record { machine = e i; input = f i; output = g i; error = h i }

runs_by : (s : FlatState) (m : Machine) (pc : ℕ) → s.machine.ending ≡ None → m.ending ≡ None → BegunAgain s.machine m pc ⊎ DoneAlready s.machine m pc → RunsOn s m pc
runs_by s m pc running still (inl a) = record {
  is_done = false;
  run = λ n. run_more n s running ∙ (ap (λ (M : Made). held_run n (joined s M)) (sym (a.same s.input)) ∙ sym (run_more n (record s { machine = record m { pc = pc } }) still));
}
runs_by s m pc running still (inr d) = record {
  is_done = true;
  run = λ n. run_more n s running ∙ (ap (λ (M : Made). held_run n (joined s M)) (d.leads s.input) ∙ ap (λ (q : FlatState). held_run n q) (joined_quiet s (record m { pc = pc; steps = m.steps + 1 })));
}
  where
    joined_quiet : (s : FlatState) (g : Machine) → joined s (quiet g s.input) ≡ record s { machine = g }
    joined_quiet s g = state_is (joined s (quiet g s.input)) (record s { machine = g }) refl refl (append-nil s.output) (append-nil s.error)

pub runs_on_right : RunsOnRight
runs_on_right t v r s m c text low running same =
    let stands = subst (λ (e : Option End). Agrees e v r s.machine m c) running same in
    let like = stands_alike v r s.machine m c stands in
    runs_by s m (resume_of v m c) (sym like.ending ∙ running) running (goes_on_right t v r s.machine m c text low running same)

-- ---- again

of_text_by : (t : TextData) (v : ImageData) (f g : Machine) → g.bus ≡ f.bus → IsOfText t v f → IsOfText t v g
of_text_by t v f g bus text = record {
  sized = text.sized;
  image = text.image;
  carries = subst (λ (q : List AreaData). Carries (fetched q) v) (sym bus) text.carries;
  text = subst (λ (q : List AreaData). (a w : ℕ) → fetched q a ≡ Some w → word_of t a ≡ Some w) (sym bus) text.text;
}

resumed_like : (m : Machine) (pc : ℕ) (is_done : Bool) → ((resumed m pc is_done).pc ≡ pc) × ((resumed m pc is_done).bus ≡ m.bus)
resumed_like m pc true = (refl, refl)
resumed_like m pc false = (refl, refl)

enters_by : (e : Option End) (v : ImageData) (new : Record) (g : Machine) (c : Control) → Arrives v new g.pc c → Agrees e v new g g c
enters_by (Some x) v new g c at = refl
enters_by None v new g (At i b o Start) at = (at.0, (refl, inl at.1))
enters_by None v new g (At i b o Low) at = absurd at
enters_by None v new g (At i b o Return) at = absurd at
enters_by None v new g (At i b o Leave) at = absurd at
enters_by None v new g Outside at = (refl, at)

pub enters_again : EntersAgain
enters_again t v r new f m c there is_done text running same at =
    let stands = subst (λ (e : Option End). Agrees e v r f m c) running same in
    let like = stands_alike v r f m c stands in
    let g : Machine = resumed m (resume_of v m c) is_done in
    let is = resumed_like m (resume_of v m c) is_done in
    record {
      text = of_text_by t v f g (is.1 ∙ like.bus) text;
      matches = enters_by g.ending v new g there (subst (λ (n : ℕ). Arrives v new n there) (sym is.0) at);
    }
