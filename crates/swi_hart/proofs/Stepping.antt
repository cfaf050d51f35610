-- The cases of a step at the first word of what stands for an instruction, and at the exit behind a block's last text word.
use Rattle.std.proofs.Common.{◌≡◌, ◌==◌, if◌then◌else◌, ℕ, ◌+◌, ◌*◌, ◌/◌, ◌%◌, Bool, true, false, not, ◌&&◌, Option, Some, None, List, length, arith, refl, sym, ◌∙◌, ap, subst, inl, inr}
use Rattle.std.proofs.lemmas.Bool.{false≢true, cases_Bool, and_parts, eqb-true}
use Rattle.std.proofs.lemmas.Bool.Decides.{nat_tests}
use Rattle.swi_isa.specs.declared.instr.BranchOp.{BranchOp}
use Rattle.swi_isa.specs.declared.instr.Instr.{Instr}
use Rattle.swi_isa.specs.Decode.{decoded}
use Rattle.swi_exec.specs.Arithmetic.{sum_of}
use Rattle.swi_exec.specs.Registers.{Registers, reg, with_reg}
use Rattle.swi_exec.specs.Execute.{is_taken, address_of, branches, jumps, faults}
use Rattle.swi_calls.specs.declared.end.End.{End}
use Rattle.swi_calls.specs.declared.end.End.TheVariants.{Faulted}
use Rattle.swi_calls.specs.declared.machine.Machine.{Machine}
use Rattle.swi_calls.specs.StoresText.{instruction_store}
use Rattle.swi_calls.specs.Flat.{Made, quiet, ends, with_effect, with_instruction}
use Rattle.swi_image.specs.Format.{ImageData}
use Rattle.swi_image.specs.Place.{place_of, word_at}
use Rattle.swi_render.specs.Rendering.{ebreak, opposite, upper, rendering_of, trap}
use Rattle.swi_hart.specs.Hart.{links, Stepped, stepped, behind, whole_made, over_by, over_stepped, skips, word_stepped, role_of, first_role, original, exit_kind, is_place, is_fall, left_made, trap_kind, completes_as, completes, slots}
use Rattle.swi_hart.proofs.Standing.{linked_jump, plain_jump, plain_leads}
use Rattle.swi_render.specs.Carried.{GoesOn, FallAt, StandAt}
use Rattle.swi_rom.specs.Record.{Record, Transfer, direct, indirect}
use Rattle.swi_hart.specs.declared.hart.Stage.{Stage}
use Rattle.swi_hart.specs.declared.hart.Stage.TheVariants.{Start, Low, Return, Leave}
use Rattle.swi_hart.specs.declared.hart.Control.TheVariants.{At}
use Rattle.swi_hart.specs.declared.hart.Role.{Role}
use Rattle.swi_hart.specs.declared.hart.Role.TheVariants.{Whole}
use Rattle.swi_hart.specs.declared.hart.ExitKind.{ExitKind}
use Rattle.swi_hart.specs.declared.hart.ExitKind.TheVariants.{Direct, Misaligned, Trap, Indirect}
use Rattle.swi_calls.specs.Held.{held, held_made}
use Rattle.swi_hart.specs.Matching.{IsIn, Arrives, Jumps, JumpsBy, ExitStep, HomeStep, StageAt}
use Rattle.swi_hart.proofs.Table.{jal_half, not_exit, is_break}
use Rattle.swi_isa.specs.Laws.{jalr_low}
use Rattle.swi_hart.proofs.Own.{is_own, whole_pc, own_made, opposite_taken}
use Rattle.swi_hart.proofs.Cases.{Case, Ground, Known, Last, Within, before_is, departed, fallen, goes_next, held_is, led, length_is, original_is, stayed, stopped, transfer_to, words_before}
use Rattle.swi_hart.specs.Leaving.{exit_transfer, jump_transfer, transfer_at}
use Rattle.swi_isa.specs.declared.instr.Instr.TheVariants as instr
use Rattle.swi_exec.specs.declared.done.Done.TheVariants as done
use Rattle.swi_exec.specs.declared.done.FaultKind.TheVariants as kind

-- what an exit is for
pub direct_kind : (d : ℕ) → d % 4 ≡ 0 → exit_kind d ≡ Direct
direct_kind d e = rw e refl

pub half_kind : (d : ℕ) → d % 4 ≡ 2 → exit_kind d ≡ Misaligned
half_kind d e = rw e refl

pub trap_is : (d : ℕ) → d % 4 ≡ 1 → exit_kind d ≡ Trap
trap_is d e = rw e refl

jump_kind : (d : ℕ) → d % 4 ≡ 3 → exit_kind d ≡ Indirect
jump_kind d e = rw e refl

pub same_place : (b o : ℕ) → (b == b && o == o) ≡ true
same_place b o = grind (arith, nat_tests)

-- at a text word's place control is at no exit behind a block's last text word
pub no_fall : (v : ImageData) (f : Machine) (b o : ℕ) → place_of v f.pc ≡ Some (b, o) → is_fall v f b o Start ≡ false
no_fall v f b o start = ap (λ (p : Option (ℕ × ℕ)). not (is_place p b o)) start ∙ ap not (same_place b o)

pub two_places : (p : Option (ℕ × ℕ)) (b o : ℕ) → (p ≡ Some (b, o) → ⊥) → is_place p b o ≡ false
two_places None b o apart = refl
two_places (Some p) b o apart =
    elim (cases_Bool (p.0 == b && p.1 == o)) [
      | inl same ↦
          let both = and_parts (p.0 == b) (p.1 == o) same in
          let e0 : p.0 ≡ b = eqb-true _ _ both.0 in
          let e1 : p.1 ≡ o = eqb-true _ _ both.1 in
          let pair : ◌≡◌ {A = ℕ × ℕ} (p.0, p.1) (b, o) = cc in
          absurd (apart (ap (λ (q : ℕ × ℕ). Some q) pair))
      | inr other ↦ other
    ]

some_is : (x y : Instr) → Some x ≡ Some y → x ≡ y
some_is x y e = cc

-- an instruction that jumps, or faults where the target is not a multiple of 4
pub jumped : (f : Machine) (t : ℕ) (regs : Registers) (input : List ℕ) → (t % 4 == 0) ≡ true → with_effect f (jumps t f.regs regs f.bus) input ≡ quiet (record f { pc = t; regs = regs; steps = f.steps + 1 }) input
jumped f t regs input e = rw e refl

pub not_jumped : (f : Machine) (t : ℕ) (regs : Registers) (input : List ℕ) → (t % 4 == 0) ≡ false → with_effect f (jumps t f.regs regs f.bus) input ≡ ends f (Faulted kind.FetchMisaligned t) input
not_jumped f t regs input e = rw e refl

module _ {v : ImageData} {r new : Record} {f m : Machine} {i b o : ℕ} {stage : Stage} {s : Stepped} {input : List ℕ} (g : Ground v r new f m i b o stage s input) where
  -- the word at control, which is no exit, is executed
  pub executed_word : (x : Instr) → decoded (word_at v b o) ≡ Some x → is_break x ≡ false → s ≡ word_stepped (role_of stage (original m)) i b o stage m x input
  executed_word x is other =
      let got : HomeStep false v new m s input i b o stage = subst (λ (t : Bool). HomeStep t v new m s input i b o stage) (not_exit (word_at v b o) x is other) g.step in
      let same : got.0 ≡ x = some_is got.0 x (sym got.1 ∙ is) in
      subst (λ (k : Instr). s ≡ word_stepped (role_of stage (original m)) i b o stage m k input) same got.2

  -- and the record stays
  pub stays_in : (k : ℕ) (x : Instr) → decoded (word_at v b o) ≡ Some x → is_break x ≡ false → (new ≡ r) × IsIn new (i + k) b (o + k)
  stays_in k x is other =
      let same : new ≡ r = g.stay (not_exit (word_at v b o) x is other) in
      (same, subst (λ (q : Record). IsIn q (i + k) b (o + k)) (sym same) (g.is_in.0, g.is_in.1, omega (arith, g.is_in.2)))

  -- the word at control is an exit
  exit_at : (d : ℕ) (k : ExitKind) → word_at v b o ≡ ebreak → word_at v b (o + 1) ≡ d → exit_kind d ≡ k → ExitStep k v new m s input i b o stage
  exit_at d k is behind_is kind_is =
      subst (λ (e : ExitKind). ExitStep e v new m s input i b o stage) (ap exit_kind behind_is ∙ kind_is)
      (subst (λ (n : ℕ). HomeStep (n == ebreak) v new m s input i b o stage) is g.step)

  exit_transfers : (d : ℕ) (k : ExitKind) → word_at v b o ≡ ebreak → word_at v b (o + 1) ≡ d → exit_kind d ≡ k → transfer_at v m (At i b o stage) ≡ exit_transfer k v m b o
  exit_transfers d k is behind_is kind_is =
      ap (λ (n : ℕ). if n == ebreak then exit_transfer (exit_kind (word_at v b (o + 1))) v m b o else None) is
      ∙ ap (λ (e : ExitKind). exit_transfer e v m b o) (ap exit_kind behind_is ∙ kind_is)

  -- the instruction goes on at the next address
  pub stay_case : (first n k : ℕ) (x : Instr) (M : Made) → Last v f m i b o stage first n → decoded (word_at v b o) ≡ Some x → is_break x ≡ false →
      s ≡ stepped (behind M.machine.ending (At (i + k) b (o + k) Start) (At i b o stage)) M → M ≡ held_made f input → (M.machine.ending ≡ None → M.machine.pc ≡ sum_of f.pc 4) →
      GoesOn v (sum_of f.pc 4) b (o + k) → first + length (slots f) ≡ o + k → goes_next f (original f) ≡ true → Case v r new f m i b o stage s input
  stay_case first n k x M last word_is other is same pc goes long next = stayed first n last (record {
    index = i + k;
    offset = o + k;
    is = is ∙ ap (λ (F : Made). stepped (behind F.machine.ending (At (i + k) b (o + k) Start) (At i b o stage)) F) same;
    is_in = (stays_in k x word_is other).1;
    pc = subst (λ (F : Made). F.machine.ending ≡ None → F.machine.pc ≡ sum_of f.pc 4) same pc;
    goes = goes;
    length = long;
    next = next;
    same = (stays_in k x word_is other).0;
  })

  -- the word leads to the next one of its instruction
  pub lead_case : (first n : ℕ) (next : Stage) (m' : Machine) (x : Instr) → Within v f b o stage first n → Within v f b (o + 1) next first (n + 1) → completes v m (At i b o stage) ≡ false →
      decoded (word_at v b o) ≡ Some x → is_break x ≡ false → s ≡ stepped (At (i + 1) b (o + 1) next) (quiet m' input) → m'.ending ≡ None → StageAt next v b (o + 1) f m' → Case v r new f m i b o stage s input
  lead_case first n next m' x within later complete word_is other is on at = led (record {
    first = first;
    n = n;
    next = next;
    machine = m';
    within = within;
    later = later;
    complete = complete;
    is = is;
    running = on;
    is_in = (stays_in 1 x word_is other).1;
    stage_at = at;
    same = (stays_in 1 x word_is other).0;
  })

  -- the instruction faults at an exit
  stop_case : (first n d : ℕ) (k : ExitKind) (e : End) → Last v f m i b o stage first n → word_at v b o ≡ ebreak → word_at v b (o + 1) ≡ d → exit_kind d ≡ k → exit_transfer k v m b o ≡ None →
      s ≡ stepped (At i b o stage) (ends m e input) → ends m e input ≡ held_made f input → Case v r new f m i b o stage s input
  stop_case first n d k e last here next kind_is no_transfer is same = stopped first n last (record {
    end = e;
    transfer = exit_transfers d k here next kind_is ∙ no_transfer;
    is = is ∙ ap (λ (F : Made). stepped (At i b o stage) F) same;
    ending = ap (λ (F : Made). F.machine.ending) (sym same);
  })

  -- the instruction goes to the target of a direct exit, or faults there
  pub target_case : (first n t : ℕ) (regs : Registers) → Last v f m i b o stage first n → goes_next f (original f) ≡ false → transfer_to (original f) b o t ≡ direct b o t → held_made f input ≡ with_effect f (jumps t f.regs regs f.bus) input →
      word_at v b o ≡ ebreak → word_at v b (o + 1) ≡ t → ((t % 4 == 0) ≡ true → left_made (is_fall v m b o stage) m t input ≡ quiet (record f { pc = t; regs = regs; steps = f.steps + 1 }) input) →
      ((t % 4 == 0) ≡ false → (t % 4 ≡ 2) × (m ≡ f)) → (q : Bool) → q ≡ (t % 4 == 0) → Case v r new f m i b o stage s input
  target_case first n t regs last away to made_is here next four half true e =
      let kind_is = direct_kind t (eqb-true _ _ (sym e)) in
      let k = exit_at t Direct here next kind_is in
      let F_is = made_is ∙ jumped f t regs input (sym e) in
      departed first n last (record {
        to = t;
        transfer = exit_transfers t Direct here next kind_is ∙ ap (λ d. Some (direct b o d)) next ∙ ap (λ (d : Transfer). Some d) (sym to);
        away = away;
        arrives = subst (λ d. Arrives v new d s.control) next k.0;
        is = k.1 ∙ ap (λ d. left_made (is_fall v m b o stage) m d input) next ∙ four (sym e) ∙ sym F_is;
        on = ap (λ (F : Made). F.machine.ending) F_is ∙ g.running;
        pc = ap (λ (F : Made). F.machine.pc) F_is;
      })
  target_case first n t regs last away to made_is here next four half false e =
      let kind_is = half_kind t (half (sym e)).0 in
      let k = exit_at t Misaligned here next kind_is in
      stop_case first n t Misaligned (Faulted kind.FetchMisaligned t) last here next kind_is refl
      (k ∙ ap (λ d. stepped (At i b o stage) (ends m (Faulted kind.FetchMisaligned d) input)) next)
      (ap (λ (q : Machine). ends q (Faulted kind.FetchMisaligned t) input) (half (sym e)).1 ∙ sym (made_is ∙ not_jumped f t regs input (sym e)))

module _ {v : ImageData} {r new : Record} {f : Machine} {i b o : ℕ} {s : Stepped} {input : List ℕ} (g : Ground v r new f f i b o Start s input) where
  module _ {x : Option Instr} (k : Known v f b o x) where
    completes_is : completes v f (At i b o Start) ≡ completes_as f x
    completes_is = ap (λ (t : Bool). not t && completes_as f (original f)) (no_fall v f b o k.start) ∙ ap (λ (y : Option Instr). completes_as f y) (original_is k)

    begins : Within v f b o Start o 0
    begins = record { start = k.start; offset = omega arith; count = refl }

    only : completes_as f x ≡ true → words_before f x (rendering_of x k.w f.pc) ≡ 0 → Last v f f i b o Start o 0
    only complete few = record { within = begins; before = before_is k ∙ few; complete = completes_is ∙ complete }

    first_word : (y : Instr) → decoded (word_at v b o) ≡ Some y → is_break y ≡ false → s ≡ word_stepped (first_role x) i b o Start f y input
    first_word y word_is other = executed_word g y word_is other ∙ ap (λ (q : Option Instr). word_stepped (first_role q) i b o Start f y input) (original_is k)

    trap_case : completes_as f x ≡ true → words_before f x (rendering_of x k.w f.pc) ≡ 0 → ends f (Faulted (trap_kind x) f.pc) input ≡ held f (instruction_store f x) (with_instruction f x input) input →
        StandAt v b o (trap f.pc) → Case v r new f f i b o Start s input
    trap_case complete few made_is here =
        let low : sum_of f.pc 1 % 4 ≡ 1 = omega (arith, k.aligned) in
        stop_case g o 0 (sum_of f.pc 1) Trap (Faulted (trap_kind x) f.pc) (only complete few) here.0 here.1.0 (trap_is (sum_of f.pc 1) low) refl
        (exit_at g (sum_of f.pc 1) Trap here.0 here.1.0 (trap_is (sum_of f.pc 1) low) ∙ ap (λ (q : Option Instr). stepped (At i b o Start) (ends f (Faulted (trap_kind q) f.pc) input)) (original_is k))
        (made_is ∙ sym (held_is k input))

  -- a word that is rendered as itself
  own_case : (y : Instr) (k : Known v f b o (Some y)) → is_own y ≡ true → is_break y ≡ false → first_role (Some y) ≡ Whole → completes_as f (Some y) ≡ true → words_before f (Some y) (rendering_of (Some y) k.w f.pc) ≡ 0 → length (rendering_of (Some y) k.w f.pc) ≡ 1 →
      goes_next f (Some y) ≡ true → word_at v b o ≡ k.w → GoesOn v (sum_of f.pc 4) b (o + 1) → Case v r new f f i b o Start s input
  own_case y k own no_break role complete few one next here goes =
      let word_is : decoded (word_at v b o) ≡ Some y = ap decoded here ∙ k.is in
      stay_case g o 0 1 y (whole_made i f y input) (only k complete few) word_is no_break
      (first_word k y word_is no_break ∙ ap (λ (q : Role). word_stepped q i b o Start f y input) role) (own_made f i input k.w y k.fetch k.is own)
      (whole_pc i f y input) goes (ap (λ n. o + n) (length_is k ∙ one)) (ap (λ (q : Option Instr). goes_next f q) (original_is k) ∙ next)

  jalr_by : (rd rs1 imm t : ℕ) (k : Known v f b o (Some (instr.Jalr rd rs1 imm))) → held_made f input ≡ with_effect f (jumps t f.regs (with_reg f.regs rd (sum_of f.pc 4)) f.bus) input → word_at v b (o + 2) ≡ sum_of f.pc 4 →
      (q : Bool) → q ≡ (t % 4 == 0) → transfer_at v f (At i b o Start) ≡ (if q then Some (indirect t) else None) → Jumps q v new s input (At i b o Start) f rd (word_at v b (o + 2)) t → Case v r new f f i b o Start s input
  jalr_by rd rs1 imm t k made_is link true e transfer j =
      let F_is = made_is ∙ jumped f t (with_reg f.regs rd (sum_of f.pc 4)) input (sym e) in
      departed o 0 (only k refl refl) (record {
        to = t;
        transfer = transfer ∙ ap (λ (q : Option Instr). Some (transfer_to q b o t)) (sym (original_is k));
        away = ap (λ (q : Option Instr). goes_next f q) (original_is k);
        arrives = j.0;
        is = j.1 ∙ ap (λ (n : ℕ). quiet (record f { pc = t; regs = with_reg f.regs rd n; steps = f.steps + 1 }) input) link ∙ sym F_is;
        on = ap (λ (F : Made). F.machine.ending) F_is ∙ g.running;
        pc = ap (λ (F : Made). F.machine.pc) F_is;
      })
  jalr_by rd rs1 imm t k made_is link false e transfer j =
      let F_is = made_is ∙ not_jumped f t (with_reg f.regs rd (sum_of f.pc 4)) input (sym e) in
      stopped o 0 (only k refl refl) (record {
        end = Faulted kind.FetchMisaligned t;
        transfer = transfer;
        is = j ∙ ap (λ (F : Made). stepped (At i b o Start) F) (sym F_is);
        ending = ap (λ (F : Made). F.machine.ending) F_is;
      })

  jalr_case : (rd rs1 imm : ℕ) → Known v f b o (Some (instr.Jalr rd rs1 imm)) → Case v r new f f i b o Start s input
  jalr_case rd rs1 imm k =
      let here = k.stands.words in
      let kind_is = jump_kind k.w (jalr_low k.w rd rs1 imm k.is) in
      let two : o + 2 ≡ o + 1 + 1 = omega arith in
      let x_is : decoded (word_at v b (o + 1)) ≡ Some (instr.Jalr rd rs1 imm) = ap decoded here.1.0 ∙ k.is in
      let t = address_of f.regs rs1 imm / 2 * 2 in
      jalr_by rd rs1 imm t k (held_is k input) (ap (λ n. word_at v b n) two ∙ here.1.1.0) (t % 4 == 0) refl
      (exit_transfers g k.w Indirect here.0 here.1.0 kind_is ∙ ap (λ (q : Option Instr). jump_transfer q f) x_is)
      (subst (λ (q : Option Instr). JumpsBy q v new s input (At i b o Start) f (word_at v b (o + 2))) x_is (exit_at g k.w Indirect here.0 here.1.0 kind_is))

  auipc_case : (rd imm : ℕ) → Known v f b o (Some (instr.Auipc rd imm)) → Case v r new f f i b o Start s input
  auipc_case rd imm k =
      let lui = k.stands.words.0 in
      lead_case g o 0 Low (record f { regs = with_reg f.regs rd (upper (sum_of f.pc imm)) }) (instr.Lui rd (upper (sum_of f.pc imm))) (begins k) (record { start = k.start; offset = refl; count = refl }) (completes_is k) lui refl
      (first_word k (instr.Lui rd (upper (sum_of f.pc imm))) lui refl) g.running
      (record { at = o; w = k.w; rd = rd; imm = imm; upper = upper (sum_of f.pc imm); fetch = k.fetch; is = k.is; start = k.start; offset = refl; lui = lui; done = refl })

  jal_case : (rd off : ℕ) → Known v f b o (Some (instr.Jal rd off)) → (l : Bool) → links rd (sum_of f.pc off) ≡ l → Case v r new f f i b o Start s input
  jal_case rd off k true l =
      let here = linked_jump v b o (sum_of f.pc off % 4 == 0) (rd == 0) rd (sum_of f.pc off) f.pc l k.stands.words in
      lead_case g o 0 Return (record f { regs = with_reg f.regs rd (upper (sum_of f.pc 4)) }) (instr.Lui rd (upper (sum_of f.pc 4))) (begins k) (record { start = k.start; offset = refl; count = refl }) (completes_is k ∙ ap not l) here.0 refl
      (first_word k (instr.Lui rd (upper (sum_of f.pc 4))) here.0 refl) g.running
      (record { at = o; w = k.w; rd = rd; off = off; upper = upper (sum_of f.pc 4); fetch = k.fetch; is = k.is; linking = l; start = k.start; offset = refl; lui = here.0; done = refl })
  jal_case rd off k false l =
      let t = sum_of f.pc off in
      let here = plain_jump v b o (t % 4 == 0) (rd == 0) rd t f.pc l k.stands.words in
      let few = ap (λ n. n + 0) (plain_leads (t % 4 == 0) (rd == 0) rd t f.pc l) in
      target_case g o 0 t (with_reg f.regs rd (sum_of f.pc 4)) (only k (ap not l) few) (ap (λ (q : Option Instr). goes_next f q) (original_is k)) (ap (λ (q : Option Instr). transfer_to q b o t) (original_is k)) (held_is k input) here.0 here.1
      (λ four. ap (λ (q : Bool). left_made q f t input) (no_fall v f b o k.start) ∙ ap (λ (q : Registers). quiet (record f { pc = t; regs = q; steps = f.steps + 1 }) input) (sym (unlinked (rd == 0) refl (sym (ap (λ (q : Bool). q && not (rd == 0)) four) ∙ l))))
      (λ other. (jal_half k.w rd off f.pc k.is k.aligned other, refl)) (t % 4 == 0) refl
    where
      unlinked : (z : Bool) → z ≡ (rd == 0) → not z ≡ false → with_reg f.regs rd (sum_of f.pc 4) ≡ f.regs
      unlinked true z e = rw (← z) refl
      unlinked false z e = absurd (false≢true (sym e))

  branch_by : (op : BranchOp) (rs1 rs2 off : ℕ) (k : Known v f b o (Some (instr.Branch op rs1 rs2 off))) (t : Bool) → is_taken op (reg f.regs rs1) (reg f.regs rs2) ≡ t →
      s ≡ over_stepped i b o f (branches (not t) (sum_of (4 * i) 12) (4 * i) f.regs f.bus) input → Case v r new f f i b o Start s input
  branch_by op rs1 rs2 off k true t step =
      let skips_not : skips i (done.Next (sum_of (4 * i) 4)) ≡ false = grind (arith, nat_tests) in
      lead_case g o 0 Leave f (instr.Branch (opposite op) rs1 rs2 12) (begins k) (record { start = k.start; offset = refl; count = before_is k ∙ ap (λ (q : Bool). 0 + (if q then 1 else 0)) t }) (completes_is k ∙ ap not t) k.stands.words.0 refl
      (step ∙ ap (λ (q : Bool). over_by i b o f input q) skips_not) g.running
      (inr (record { at = o; w = k.w; op = op; rs1 = rs1; rs2 = rs2; off = off; fetch = k.fetch; is = k.is; taken = t; start = k.start; offset = refl; done = refl }))
  branch_by op rs1 rs2 off k false t step =
      let four : (sum_of (4 * i) 12 % 4 == 0) ≡ true = grind (arith, nat_tests) in
      let same : (sum_of (4 * i) 12 == sum_of (4 * i) 12) ≡ true = grind (arith, nat_tests) in
      let M : Made = quiet (record f { pc = sum_of f.pc 4; steps = f.steps + 1 }) input in
      stay_case g o 0 3 (instr.Branch (opposite op) rs1 rs2 12) M (only k (ap not t) (ap (λ (q : Bool). 0 + (if q then 1 else 0)) t)) k.stands.words.0 refl
      (step ∙ ap (λ (q : Bool). over_stepped i b o f (if q then record { done = done.Next (sum_of (4 * i) 12); regs = f.regs; bus = f.bus } else faults kind.FetchMisaligned (sum_of (4 * i) 12) f.regs f.bus) input) four
      ∙ ap (λ (q : Bool). over_by i b o f input q) same ∙ ap (λ (e : Option End). stepped (behind e (At (i + 3) b (o + 3) Start) (At i b o Start)) M) (sym g.running))
      (sym (held_is k input ∙ ap (λ (q : Bool). with_effect f (branches q (sum_of f.pc off) f.pc f.regs f.bus) input) t)) (λ on. refl)
      (k.stands.behind refl) (ap (λ n. o + n) (length_is k)) (ap (λ (q : Option Instr). goes_next f q) (original_is k) ∙ ap not t)

  branch_case : (op : BranchOp) (rs1 rs2 off : ℕ) → Known v f b o (Some (instr.Branch op rs1 rs2 off)) → Case v r new f f i b o Start s input
  branch_case op rs1 rs2 off k =
      branch_by op rs1 rs2 off k (is_taken op (reg f.regs rs1) (reg f.regs rs2)) refl
      (first_word k (instr.Branch (opposite op) rs1 rs2 12) k.stands.words.0 refl
      ∙ ap (λ (q : Bool). over_stepped i b o f (branches q (sum_of (4 * i) 12) (4 * i) f.regs f.bus) input) (opposite_taken op (reg f.regs rs1) (reg f.regs rs2)))

  -- control is at the first word of what stands for the text word at f's pc
  pub place_case : (x : Option Instr) → Known v f b o x → Case v r new f f i b o Start s input
  place_case None k = trap_case k refl refl refl k.stands.words
  place_case (Some instr.Ebreak) k = trap_case k refl refl refl k.stands.words
  place_case (Some (instr.Jalr rd rs1 imm)) k = jalr_case rd rs1 imm k
  place_case (Some (instr.Jal rd off)) k = jal_case rd off k (links rd (sum_of f.pc off)) refl
  place_case (Some (instr.Branch op rs1 rs2 off)) k = branch_case op rs1 rs2 off k
  place_case (Some (instr.Auipc rd imm)) k = auipc_case rd imm k
  place_case (Some y) k = own_case y k refl refl refl refl refl refl refl k.stands.words.0 (k.stands.behind refl)

  -- control is at an exit behind a block's last text word
  pub fall_case : FallAt v f.pc b o → Case v r new f f i b o Start s input
  fall_case fall =
      let falls_here : is_fall v f b o Start ≡ true = ap not (two_places (place_of v f.pc) b o (fall.no_place f.pc)) in
      let kind_is = direct_kind f.pc fall.aligned in
      let k = exit_at g f.pc Direct fall.leaves fall.leads kind_is in
      fallen (record {
        starts = refl;
        falls = falls_here;
        complete = ap (λ (t : Bool). not t && completes_as f (original f)) falls_here;
        transfer = exit_transfers g f.pc Direct fall.leaves fall.leads kind_is ∙ ap (λ d. Some (direct b o d)) fall.leads;
        arrives = subst (λ d. Arrives v new d s.control) fall.leads k.0;
        is = k.1 ∙ ap (λ (q : Bool). left_made q f (word_at v b (o + 1)) input) falls_here;
      })
