-- The cases of a step midway in what stands for an instruction and of any step, and that a step follows the flat machine.
use Rattle.std.proofs.Common.{◌≡◌, ◌==◌, ℕ, ◌+◌, ◌%◌, ◌^◌, ◌<◌, Bool, true, false, not, Option, Some, None, List, arith, refl, sym, ◌∙◌, ap, subst, inl, inr, if◌then◌else◌}
use Rattle.std.proofs.lemmas.Bool.{and_parts, false≢true}
use Rattle.swi_isa.specs.declared.instr.ImmOp.TheVariants.{Addi}
use Rattle.swi_isa.specs.Decode.{decoded}
use Rattle.swi_memory.specs.Bus.{fetched}
use Rattle.swi_exec.specs.Arithmetic.{sum_of}
use Rattle.swi_exec.specs.Registers.{Registers, reg, with_reg}
use Rattle.swi_exec.specs.Execute.{branches}
use Rattle.swi_calls.specs.declared.end.End.{End}
use Rattle.swi_calls.specs.declared.end.End.TheVariants.{Faulted}
use Rattle.swi_calls.specs.declared.machine.Machine.{Machine}
use Rattle.swi_calls.specs.Flat.{Made, quiet, ends, with_effect}
use Rattle.swi_image.specs.Format.{ImageData}
use Rattle.swi_image.specs.Place.{place_of, word_at}
use Rattle.swi_render.specs.Rendering.{ebreak, upper, lower}
use Rattle.swi_hart.specs.Hart.{Stepped, stepped, whole_made, next_made, completes, behind, links, original, slots}
use Rattle.swi_render.specs.Carried.{GoesOn, Carries}
use Rattle.swi_rom.specs.Record.{Record}
use Rattle.swi_hart.specs.declared.hart.Stage.{Stage}
use Rattle.swi_hart.specs.declared.hart.Stage.TheVariants.{Start, Low, Return, Leave}
use Rattle.swi_hart.specs.declared.hart.Control.{Control}
use Rattle.swi_hart.specs.declared.hart.Control.TheVariants.{At, Outside}
use Rattle.swi_calls.specs.Held.{held_made}
use Rattle.swi_hart.specs.Matching.{IsIn, BoardStep, AtLow, AtReturn, AtExit, AtTaken, StageAt, Stands, Agrees, Matches, Follows, Arrives}
use Rattle.swi_hart.proofs.Table.{branch_half}
use Rattle.swi_hart.proofs.Standing.{linked_jump, halves, linked_leads}
use Rattle.swi_hart.proofs.Own.{whole_pc, held_none, low_done}
use Rattle.swi_hart.proofs.Stepping.{executed_word, place_case, fall_case, lead_case, stay_case, target_case}
use Rattle.swi_hart.proofs.Cases.{Case, Ground, Known, Led, before_is, departed, fallen, goes_next, held_is, known, led, length_is, original_is, stayed, stopped, transfer_to, words_before}
use Rattle.swi_isa.specs.declared.instr.Instr.{Instr}
use Rattle.swi_isa.specs.declared.instr.Instr.TheVariants as instr
use Rattle.swi_exec.specs.declared.done.FaultKind.TheVariants as kind

-- LUI and ADDI together load the value
low_sum : (u t rd : ℕ) → t < 2 ^ 32 → Some (instr.Lui rd u) ≡ Some (instr.Lui rd (upper t)) → sum_of u (lower t) ≡ t
low_sum u t rd small e = let same : u ≡ upper t = cc in ap (λ n. sum_of n (lower t)) same ∙ halves t small

-- two words lead to the exit of a JAL that keeps its return address
linked_before : {v : ImageData} {f : Machine} {b first : ℕ} (rd off : ℕ) → Known v f b first (Some (instr.Jal rd off)) → links rd (sum_of f.pc off) ≡ true → words_before f (original f) (slots f) ≡ 2
linked_before {f = f} rd off k linking = before_is k ∙ ap (λ n. n + 0) (linked_leads (sum_of f.pc off % 4 == 0) (rd == 0) rd (sum_of f.pc off) f.pc linking)

module _ {v : ImageData} {r new : Record} {f m : Machine} {i b o : ℕ} {s : Stepped} {input : List ℕ} where
  -- the ADDI behind the LUI of an AUIPC
  low_case : Ground v r new f m i b o Low s input → AtLow v b o f m → Case v r new f m i b o Low s input
  low_case g a =
      let k = known g.image a.w a.fetch a.is a.start in
      let t = sum_of f.pc a.imm in
      let addi : decoded (word_at v b o) ≡ Some (instr.Alu Addi a.rd a.rd (lower t)) = ap (λ n. decoded (word_at v b n)) a.offset ∙ k.stands.words.1.0 in
      let two : a.at + 2 ≡ o + 1 = omega (arith, a.offset) in
      stay_case g a.at 1 1 (instr.Alu Addi a.rd a.rd (lower t)) (whole_made i m (instr.Alu Addi a.rd a.rd (lower t)) input)
      (record { within = record { start = a.start; offset = a.offset; count = refl }; before = before_is k; complete = refl }) addi refl (executed_word g (instr.Alu Addi a.rd a.rd (lower t)) addi refl)
      (ap (λ (q : Machine). whole_made i q (instr.Alu Addi a.rd a.rd (lower t)) input) a.done
      ∙ ap (λ (q : Registers). quiet (record f { pc = sum_of f.pc 4; regs = q; steps = f.steps + 1 }) input) (low_done f.regs a.rd a.upper (lower t) t (low_sum a.upper t a.rd (omega arith) (sym a.lui ∙ k.stands.words.0))) ∙ sym (held_is k input))
      (λ on. whole_pc i m (instr.Alu Addi a.rd a.rd (lower t)) input on ∙ ap (λ (q : Machine). sum_of q.pc 4) a.done)
      (subst (λ n. GoesOn v (sum_of f.pc 4) b n) two (k.stands.behind refl)) (ap (λ n. a.at + n) (length_is k) ∙ two) (ap (λ (q : Option Instr). goes_next f q) (original_is k))

  -- the ADDI behind the LUI of a return address
  return_case : Ground v r new f m i b o Return s input → AtReturn v b o f m → Case v r new f m i b o Return s input
  return_case g a =
      let k = known {f = f} g.image a.w a.fetch a.is a.start in
      let here = linked_jump v b a.at (sum_of f.pc a.off % 4 == 0) (a.rd == 0) a.rd (sum_of f.pc a.off) f.pc a.linking k.stands.words in
      let t = sum_of f.pc 4 in
      let addi : decoded (word_at v b o) ≡ Some (instr.Alu Addi a.rd a.rd (lower t)) = ap (λ n. decoded (word_at v b n)) a.offset ∙ here.1.0 in
      let two : o + 1 ≡ a.at + 2 = omega (arith, a.offset) in
      lead_case g a.at 1 Leave (record f { regs = with_reg f.regs a.rd t }) (instr.Alu Addi a.rd a.rd (lower t)) (record { start = a.start; offset = a.offset; count = refl })
      (record { start = a.start; offset = two; count = linked_before a.rd a.off k a.linking }) refl addi refl
      (executed_word g (instr.Alu Addi a.rd a.rd (lower t)) addi refl
      ∙ ap (λ (q : Machine). stepped (At (i + 1) b (o + 1) Leave) (quiet (record q { regs = with_reg q.regs a.rd (sum_of (reg q.regs a.rd) (lower t)) }) input)) a.done
      ∙ ap (λ (q : Registers). stepped (At (i + 1) b (o + 1) Leave) (quiet (record f { regs = q }) input)) (low_done f.regs a.rd a.upper (lower t) t (low_sum a.upper t a.rd (omega arith) (sym a.lui ∙ here.0)))) g.running
      (inl (record { at = a.at; w = a.w; rd = a.rd; off = a.off; fetch = a.fetch; is = a.is; linking = a.linking; start = a.start; offset = two; done = refl }))

  -- the exit of a JAL behind its return address
  exit_case : Ground v r new f m i b o Leave s input → AtExit v b o f m → Case v r new f m i b o Leave s input
  exit_case g a =
      let k = known g.image a.w a.fetch a.is a.start in
      let t = sum_of f.pc a.off in
      let here = linked_jump v b a.at (t % 4 == 0) (a.rd == 0) a.rd t f.pc a.linking k.stands.words in
      let two : o ≡ a.at + 1 + 1 = omega (arith, a.offset) in
      let four = (and_parts (t % 4 == 0) (not (a.rd == 0)) a.linking).0 in
      let before = linked_before a.rd a.off k a.linking in
      target_case g a.at 2 t (with_reg f.regs a.rd (sum_of f.pc 4)) (record { within = record { start = a.start; offset = a.offset; count = before }; before = before; complete = refl })
      (ap (λ (q : Option Instr). goes_next f q) (original_is k)) (ap (λ (q : Option Instr). transfer_to q b o t) (original_is k)) (held_is k input)
      (ap (λ n. word_at v b n) two ∙ here.1.1.0) (ap (λ n. word_at v b (n + 1)) two ∙ here.1.1.1.0)
      (λ four. ap (λ (q : Machine). quiet (record q { pc = t; steps = q.steps + 1 }) input) a.done) (λ other. absurd (false≢true (sym other ∙ four))) (t % 4 == 0) refl

  -- the exit of a branch that is taken
  taken_case : Ground v r new f m i b o Leave s input → AtTaken v b o f m → Case v r new f m i b o Leave s input
  taken_case g a =
      let k = known g.image a.w a.fetch a.is a.start in
      let here = k.stands.words in
      let t = sum_of f.pc a.off in
      let before = before_is k ∙ ap (λ (q : Bool). 0 + (if q then 1 else 0)) a.taken in
      target_case g a.at 1 t f.regs (record { within = record { start = a.start; offset = a.offset; count = before }; before = before; complete = refl })
      (ap (λ (q : Option Instr). goes_next f q) (original_is k) ∙ ap not a.taken) (ap (λ (q : Option Instr). transfer_to q b o t) (original_is k))
      (held_is k input ∙ ap (λ (q : Bool). with_effect f (branches q t f.pc f.regs f.bus) input) a.taken)
      (ap (λ n. word_at v b n) a.offset ∙ here.1.0) (ap (λ n. word_at v b (n + 1)) a.offset ∙ here.1.1.0)
      (λ four. ap (λ (q : Machine). quiet (record q { pc = t; steps = q.steps + 1 }) input) a.done) (λ other. (branch_half a.w a.op a.rs1 a.rs2 a.off f.pc a.is k.aligned other, a.done)) (t % 4 == 0) refl

module _ {v : ImageData} {r new : Record} {f : Machine} {i b o : ℕ} {s : Stepped} {input : List ℕ} where
  start_case : (k : Option ℕ) → f.pc < 2 ^ 32 → fetched f.bus f.pc ≡ k → GoesOn v f.pc b o → Ground v r new f f i b o Start s input → Case v r new f f i b o Start s input
  start_case None word fetch (inl start) g = absurd (let none = g.image.nowhere f.pc word fetch in cc)
  start_case (Some w) word fetch (inl start) g = place_case g (decoded w) (known g.image w fetch refl start)
  start_case k word fetch (inr there) g = fall_case g there

  stage_case : (stage : Stage) (m : Machine) → m.pc < 2 ^ 32 → StageAt stage v b o f m → Ground v r new f m i b o stage s input → Case v r new f m i b o stage s input
  stage_case Start m word here g =
      subst (λ (q : Machine). Ground v r new f q i b o Start s input → Case v r new f q i b o Start s input) (sym here.0)
      (start_case (fetched f.bus f.pc) (subst (λ (q : Machine). q.pc < 2 ^ 32) here.0 word) refl here.1) g
  stage_case Low m word a g = low_case g a
  stage_case Return m word a g = return_case g a
  stage_case Leave m word (inl a) g = exit_case g a
  stage_case Leave m word (inr a) g = taken_case g a

running_as : (v : ImageData) (r : Record) (f m : Machine) (c : Control) → Stands v r f m c → m.ending ≡ None → f.ending ≡ None
running_as v r f m (At i b o Start) at e = sym (ap (λ (k : Machine). k.ending) at.1.0) ∙ e
running_as v r f m (At i b o Low) at e = sym (ap (λ (k : Machine). k.ending) at.1.done) ∙ e
running_as v r f m (At i b o Return) at e = sym (ap (λ (k : Machine). k.ending) at.1.done) ∙ e
running_as v r f m (At i b o Leave) (at, inl a) e = sym (ap (λ (k : Machine). k.ending) a.done) ∙ e
running_as v r f m (At i b o Leave) (at, inr a) e = sym (ap (λ (k : Machine). k.ending) a.done) ∙ e
running_as v r f m Outside at e = sym (ap (λ (k : Machine). k.ending) at.0) ∙ e

-- the word under control is an exit
abbrev pub at_exit : ImageData → Control → Bool
at_exit v (At i b o stage) = word_at v b o == ebreak
at_exit v Outside = false

-- the case of each step at a word of the ram
pub step_case : (v : ImageData) (r new : Record) (f m : Machine) (i b o : ℕ) (stage : Stage) (s : Stepped) (input : List ℕ) → Carries (fetched f.bus) v → Matches v r f m (At i b o stage) → m.ending ≡ None → m.pc < 2 ^ 32 →
    (at_exit v (At i b o stage) ≡ false → new ≡ r) → BoardStep v new m (At i b o stage) s input → Case v r new f m i b o stage s input
step_case v r new f m i b o stage s input image same running word stay step =
    let stands = subst (λ (e : Option End). Agrees e v r f m (At i b o stage)) running same in
    stage_case stage m word stands.1 (record { running = running_as v r f m (At i b o stage) stands running; is_in = stands.0; stay = stay; image = image; step = step })

-- outside the text the flat machine ends
pub held_outside : (v : ImageData) (f : Machine) (input : List ℕ) → Carries (fetched f.bus) v → place_of v f.pc ≡ None → held_made f input ≡ ends f (Faulted kind.FetchAccess f.pc) input
held_outside v f input image nowhere = by_fetch (fetched f.bus f.pc) refl
  where
    by_fetch : (k : Option ℕ) → fetched f.bus f.pc ≡ k → held_made f input ≡ ends f (Faulted kind.FetchAccess f.pc) input
    by_fetch None fetch = held_none f input fetch
    by_fetch (Some w) fetch = absurd (let some = image.stands f.pc w fetch in let e = some.2 in cc)

module _ (v : ImageData) (new : Record) (s : Stepped) where
  -- the run ends
  ended_follows : (F : Made) (c : Control) (e : End) → s ≡ stepped c F → F.machine.ending ≡ Some e → Follows v new s F
  ended_follows F c e is ending =
      subst (λ (q : Stepped). Follows v new q F) (sym is) (record { matches = subst (λ (k : Option End). Agrees k v new F.machine F.machine c) (sym ending) refl; input = refl; output = refl; error = refl })

  stands_arrived : (t : ℕ) (c : Control) (f : Machine) → f.pc ≡ t → Arrives v new t c → Stands v new f f c
  stands_arrived t (At i b o Start) f is at = (at.0, (refl, inl (subst (λ n. place_of v n ≡ Some (b, o)) (sym is) at.1)))
  stands_arrived t (At i b o Low) f is at = absurd at
  stands_arrived t (At i b o Return) f is at = absurd at
  stands_arrived t (At i b o Leave) f is at = absurd at
  stands_arrived t Outside f is at = (refl, subst (λ n. place_of v n ≡ None) (sym is) at)

  -- control goes to an address
  arrived_follows : (F : Made) (t : ℕ) → s.made ≡ F → F.machine.ending ≡ None → F.machine.pc ≡ t → Arrives v new t s.control → Follows v new s F
  arrived_follows F t is running pc at = record {
    matches = subst (λ (M : Made). Matches v new F.machine M.machine s.control) (sym is)
        (subst (λ (e : Option End). Agrees e v new F.machine F.machine s.control) (sym running) (stands_arrived t s.control F.machine pc at));
    input = ap (λ (M : Made). M.input) is;
    output = ap (λ (M : Made). M.output) is;
    error = ap (λ (M : Made). M.error) is;
  }

  -- control goes on in its block
  behind_agrees : (F : Made) (i b o pc : ℕ) (here : Control) (e : Option End) → e ≡ F.machine.ending → (F.machine.ending ≡ None → F.machine.pc ≡ pc) → IsIn new i b o → GoesOn v pc b o → Agrees e v new F.machine F.machine (behind e (At i b o Start) here)
  behind_agrees F i b o pc here None e is at goes = (at, (refl, subst (λ n. GoesOn v n b o) (sym (is (sym e))) goes))
  behind_agrees F i b o pc here (Some x) e is at goes = refl

  -- by whether the step completes an instruction
  next_follows : (t : Bool) (m : Machine) (c : Control) (f : Machine) (input : List ℕ) → completes v m c ≡ t → Follows v new s (if t then held_made f input else quiet f input) → Follows v new s (next_made v m c f input)
  next_follows t m c f input is follows = subst (λ (q : Bool). Follows v new s (if q then held_made f input else quiet f input)) (sym is) follows

  module _ {r : Record} {f m : Machine} {i b o : ℕ} {stage : Stage} {input : List ℕ} where
    -- a word that leads to another of the same instruction
    led_follows : Led v r new f m i b o stage s input → Follows v new s (quiet f input)
    led_follows k = subst (λ (q : Stepped). Follows v new q (quiet f input)) (sym k.is) (record {
      matches = subst (λ (e : Option End). Agrees e v new f k.machine (At (i + 1) b (o + 1) k.next)) (sym k.running) (k.is_in, k.stage_at);
      input = refl;
      output = refl;
      error = refl;
    })

    case_follows : f.ending ≡ None → Case v r new f m i b o stage s input → Follows v new s (next_made v m (At i b o stage) f input)
    case_follows running (stayed first n last k) =
        let F = held_made f input in
        next_follows true m (At i b o stage) f input last.complete (subst (λ (q : Stepped). Follows v new q F) (sym k.is)
        (record { matches = behind_agrees F k.index b k.offset (sum_of f.pc 4) (At i b o stage) F.machine.ending refl k.pc k.is_in k.goes; input = refl; output = refl; error = refl }))
    case_follows running (departed first n last k) = next_follows true m (At i b o stage) f input last.complete (arrived_follows (held_made f input) k.to k.is k.on k.pc k.arrives)
    case_follows running (stopped first n last k) = next_follows true m (At i b o stage) f input last.complete (ended_follows (held_made f input) (At i b o stage) k.end k.is k.ending)
    case_follows running (led k) = next_follows false m (At i b o stage) f input k.complete (led_follows k)
    case_follows running (fallen k) = next_follows false m (At i b o stage) f input k.complete (arrived_follows (quiet f input) f.pc k.is running refl k.arrives)

-- A step of the board is one of the flat machine, or none.
pub step_follows : (v : ImageData) (r new : Record) (f m : Machine) (c : Control) (s : Stepped) (input : List ℕ) → Carries (fetched f.bus) v → Matches v r f m c → m.ending ≡ None → m.pc < 2 ^ 32 →
    (at_exit v c ≡ false → new ≡ r) → BoardStep v new m c s input → Follows v new s (next_made v m c f input)
step_follows v r new f m (At i b o stage) s input image same running word stay step =
    case_follows v new s (running_as v r f m (At i b o stage) (subst (λ (e : Option End). Agrees e v r f m (At i b o stage)) running same) running) (step_case v r new f m i b o stage s input image same running word stay step)
step_follows v r new f m Outside s input image same running word stay step =
    let stands = subst (λ (e : Option End). Agrees e v r f m Outside) running same in
    let F_is = held_outside v f input image stands.1 in
    ended_follows v new s (held_made f input) Outside (Faulted kind.FetchAccess f.pc) (step ∙ ap (λ (q : Machine). stepped Outside (ends q (Faulted kind.FetchAccess q.pc) input)) stands.0 ∙ ap (λ (M : Made). stepped Outside M) (sym F_is))
    (ap (λ (M : Made). M.machine.ending) F_is)
