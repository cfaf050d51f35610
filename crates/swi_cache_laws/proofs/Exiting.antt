-- The transfers of a run leave blocks that were entered, by exits of the image: read off the flat steps.
use Rattle.std.proofs.Common.{◌≡◌, ◌==◌, if◌then◌else◌, ℕ, ◌+◌, ◌%◌, ◌<◌, Bool, true, false, Option, Some, None, List, ◌∷◌, ◌++◌, length, arith, refl, sym, ◌∙◌, ap, subst}
use Rattle.std.proofs.lemmas.Bool.{false≢true, eqb-true}
use Rattle.swi_isa.specs.declared.instr.BranchOp.{BranchOp}
use Rattle.swi_isa.specs.declared.instr.Instr.{Instr}
use Rattle.swi_isa.specs.declared.instr.Instr.TheVariants as instr
use Rattle.swi_isa.specs.Decode.{decoded}
use Rattle.swi_memory.specs.Bus.{fetched}
use Rattle.swi_exec.specs.Arithmetic.{sum_of}
use Rattle.swi_exec.specs.Registers.{reg, with_reg}
use Rattle.swi_exec.specs.Execute.{is_taken, branches}
use Rattle.swi_calls.specs.declared.end.End.{End}
use Rattle.swi_calls.specs.declared.machine.Machine.{Machine}
use Rattle.swi_calls.specs.Flat.{Made, with_effect}
use Rattle.swi_calls.specs.Held.{held_made}
use Rattle.swi_image.specs.Format.{ImageData}
use Rattle.swi_image.specs.Place.{place_of, word_at, length_at}
use Rattle.swi_render.specs.Rendering.{Slot, jump, rendering_of}
use Rattle.swi_render.specs.Carried.{GoesOn}
use Rattle.swi_rom.specs.Record.{Transfer, Has, direct, ebreak}
use Rattle.swi_hart.specs.Hart.{links, leads}
use Rattle.swi_hart.proofs.Cases.{Known, held_is}
use Rattle.swi_hart.proofs.Own.{is_own, whole_pc, own_made}
use Rattle.swi_hart.proofs.Standing.{linked_jump, plain_jump, plain_leads, plain_within, linked_leads, are_within}
use Rattle.swi_hart.proofs.Stepping.{jumped, not_jumped}
use Rattle.swi_board.specs.Transfers.{jumps_as, leaves_by}
use Rattle.swi_cache_laws.specs.Transfers.{block_entered}
use Rattle.swi_cache_laws.specs.Room.{LeavesByExit, AreTransfers}

-- a direct transfer over an exit that stands there
pub by_exit : (v : ImageData) (before : List ℕ) (b o t pc : ℕ) → Has before b → word_at v b o ≡ ebreak → word_at v b (o + 1) ≡ t → o + 1 < length_at v b → t % 4 ≡ 0 → pc ≡ t → LeavesByExit v before (direct b o pc)
by_exit v before b o t pc has leaves leads inside aligned to = (has, record { inside = inside; leaves = leaves; direct = ap (λ (n : ℕ). n % 4) leads ∙ aligned }, leads ∙ sym to)

aligned_by : (t : ℕ) → (t % 4 == 0) ≡ true → t % 4 ≡ 0
aligned_by t e = eqb-true (t % 4) 0 e

one_more : (t : Bool) → t ≡ true → 0 + (if t then 1 else 0) ≡ 1
one_more true e = refl
one_more false e = absurd (false≢true e)

some_none : {X : Type 0} (x : X) → Some x ≡ None → ⊥
some_none x e = cc

-- the step has ended the run, which it hasn't
ended : (f : Machine) (input : List ℕ) (e : End) (M : Made) → (held_made f input).machine.ending ≡ None → held_made f input ≡ M → M.machine.ending ≡ Some e → ⊥
ended f input e M on is ends = some_none e (sym ends ∙ (ap (λ (F : Made). F.machine.ending) (sym is) ∙ on))

-- the transfer of a step that leaves the block, and those behind it
abbrev pub Leaving : ImageData → Machine → List ℕ → List ℕ → ℕ → ℕ → Option Instr → List Slot → List Transfer → Type 0
Leaving v f input before b o x ss rest = AreTransfers v before (leaves_by f x ss (b, o) (held_made f input).machine.pc ++ rest)

module _ (v : ImageData) (f : Machine) (b o : ℕ) (input : List ℕ) (on : (held_made f input).machine.ending ≡ None) (before : List ℕ) (has : Has before b) where
  jal_leaves : (rd off : ℕ) (k : Known v f b o (Some (instr.Jal rd off))) (rest : List Transfer) → AreTransfers v (block_entered (place_of v (held_made f input).machine.pc) ++ before) rest →
      (q : Bool) → (sum_of f.pc off % 4 == 0) ≡ q → (l : Bool) → links rd (sum_of f.pc off) ≡ l → Leaving v f input before b o (Some (instr.Jal rd off)) (rendering_of (Some (instr.Jal rd off)) k.w f.pc) rest
  jal_leaves rd off k rest later false q l e =
      absurd (ended f input _ _ on (held_is k input ∙ not_jumped f (sum_of f.pc off) (with_reg f.regs rd (sum_of f.pc 4)) input q) refl)
  jal_leaves rd off k rest later true q true l =
      let t = sum_of f.pc off in
      let here = linked_jump v b o (t % 4 == 0) (rd == 0) rd t f.pc l k.stands.words in
      let to : (held_made f input).machine.pc ≡ t = ap (λ (F : Made). F.machine.pc) (held_is k input ∙ jumped f t (with_reg f.regs rd (sum_of f.pc 4)) input q) in
      let two : o + 1 + 1 ≡ o + (leads (rendering_of (Some (instr.Jal rd off)) k.w f.pc) + 0) = omega (arith, linked_leads (t % 4 == 0) (rd == 0) rd t f.pc l) in
      subst (λ (n : ℕ). AreTransfers v before (direct b n (held_made f input).machine.pc ∷ rest)) two
      (by_exit v before b (o + 1 + 1) t (held_made f input).machine.pc has here.1.1.0 here.1.1.1.0 (omega (arith, are_within v b o (jump true false rd t f.pc) here)) (aligned_by t q) to, later)
  jal_leaves rd off k rest later true q false l =
      let t = sum_of f.pc off in
      let here = plain_jump v b o (t % 4 == 0) (rd == 0) rd t f.pc l k.stands.words in
      let to : (held_made f input).machine.pc ≡ t = ap (λ (F : Made). F.machine.pc) (held_is k input ∙ jumped f t (with_reg f.regs rd (sum_of f.pc 4)) input q) in
      let none : o ≡ o + (leads (rendering_of (Some (instr.Jal rd off)) k.w f.pc) + 0) = omega (arith, plain_leads (t % 4 == 0) (rd == 0) rd t f.pc l) in
      subst (λ (n : ℕ). AreTransfers v before (direct b n (held_made f input).machine.pc ∷ rest)) none
      (by_exit v before b o t (held_made f input).machine.pc has here.0 here.1 (omega (arith, plain_within v b o (t % 4 == 0) (rd == 0) rd t f.pc l k.stands.words)) (aligned_by t q) to, later)

  branch_leaves : (op : BranchOp) (rs1 rs2 off : ℕ) (k : Known v f b o (Some (instr.Branch op rs1 rs2 off))) (rest : List Transfer) → AreTransfers v (block_entered (place_of v (held_made f input).machine.pc) ++ before) rest →
      is_taken op (reg f.regs rs1) (reg f.regs rs2) ≡ true → (q : Bool) → (sum_of f.pc off % 4 == 0) ≡ q →
      Leaving v f input before b o (Some (instr.Branch op rs1 rs2 off)) (rendering_of (Some (instr.Branch op rs1 rs2 off)) k.w f.pc) rest
  branch_leaves op rs1 rs2 off k rest later taken q e = by_aligned q e
    where
      made_is : held_made f input ≡ with_effect f (branches true (sum_of f.pc off) f.pc f.regs f.bus) input
      made_is = held_is k input ∙ ap (λ (t : Bool). with_effect f (branches t (sum_of f.pc off) f.pc f.regs f.bus) input) taken

      by_aligned : (q : Bool) → (sum_of f.pc off % 4 == 0) ≡ q → AreTransfers v before (leaves_by f (Some (instr.Branch op rs1 rs2 off)) (rendering_of (Some (instr.Branch op rs1 rs2 off)) k.w f.pc) (b, o) (held_made f input).machine.pc ++ rest)
      by_aligned false e = absurd (ended f input _ _ on (made_is ∙ not_jumped f (sum_of f.pc off) f.regs input e) refl)
      by_aligned true e =
          let t = sum_of f.pc off in
          let here = k.stands.words in
          let to : (held_made f input).machine.pc ≡ t = ap (λ (F : Made). F.machine.pc) (made_is ∙ jumped f t f.regs input e) in
          let one : o + 1 ≡ o + (0 + (if is_taken op (reg f.regs rs1) (reg f.regs rs2) then 1 else 0)) = omega (arith, one_more (is_taken op (reg f.regs rs1) (reg f.regs rs2)) taken) in
          subst (λ (n : ℕ). AreTransfers v before (direct b n (held_made f input).machine.pc ∷ rest)) one
          (by_exit v before b (o + 1) t (held_made f input).machine.pc has here.1.0 here.1.1.0 (omega (arith, are_within v b o (rendering_of (Some (instr.Branch op rs1 rs2 off)) k.w f.pc) here)) (aligned_by t e) to, later)

  pub leaves : (x : Option Instr) (k : Known v f b o x) (rest : List Transfer) → jumps_as f x ≡ true → AreTransfers v (block_entered (place_of v (held_made f input).machine.pc) ++ before) rest → Leaving v f input before b o x (rendering_of x k.w f.pc) rest
  leaves None k rest j later = absurd (ended f input _ _ on (held_is k input) refl)
  leaves (Some instr.Ebreak) k rest j later = absurd (ended f input _ _ on (held_is k input) refl)
  leaves (Some (instr.Jalr rd rs1 imm)) k rest j later = (tt, later)
  leaves (Some (instr.Jal rd off)) k rest j later = jal_leaves rd off k rest later (sum_of f.pc off % 4 == 0) refl (links rd (sum_of f.pc off)) refl
  leaves (Some (instr.Branch op rs1 rs2 off)) k rest j later = branch_leaves op rs1 rs2 off k rest later j (sum_of f.pc off % 4 == 0) refl
  leaves (Some y) k rest j later = absurd (false≢true j)

  -- where it goes on behind the word
  branch_behind : (op : BranchOp) (rs1 rs2 off : ℕ) (k : Known v f b o (Some (instr.Branch op rs1 rs2 off))) → is_taken op (reg f.regs rs1) (reg f.regs rs2) ≡ false →
      GoesOn v (held_made f input).machine.pc b (o + length (rendering_of (Some (instr.Branch op rs1 rs2 off)) k.w f.pc))
  branch_behind op rs1 rs2 off k untaken =
      let is : held_made f input ≡ with_effect f (branches false (sum_of f.pc off) f.pc f.regs f.bus) input = held_is k input ∙ ap (λ (t : Bool). with_effect f (branches t (sum_of f.pc off) f.pc f.regs f.bus) input) untaken in
      let to : (held_made f input).machine.pc ≡ sum_of f.pc 4 = ap (λ (F : Made). F.machine.pc) is in
      subst (λ (n : ℕ). GoesOn v n b (o + length (rendering_of (Some (instr.Branch op rs1 rs2 off)) k.w f.pc))) (sym to) (k.stands.behind refl)

  auipc_behind : (rd imm : ℕ) (k : Known v f b o (Some (instr.Auipc rd imm))) → GoesOn v (held_made f input).machine.pc b (o + length (rendering_of (Some (instr.Auipc rd imm)) k.w f.pc))
  auipc_behind rd imm k =
      let to : (held_made f input).machine.pc ≡ sum_of f.pc 4 = ap (λ (F : Made). F.machine.pc) (held_is k input) in
      subst (λ (n : ℕ). GoesOn v n b (o + length (rendering_of (Some (instr.Auipc rd imm)) k.w f.pc))) (sym to) (k.stands.behind refl)

  own_behind : (n : ℕ) (w : ℕ) (y : Instr) → fetched f.bus f.pc ≡ Some w → decoded w ≡ Some y → is_own y ≡ true → GoesOn v (sum_of f.pc 4) b n → GoesOn v (held_made f input).machine.pc b n
  own_behind n w y fetch is own goes =
      let same = own_made f 0 input w y fetch is own in
      let to : (held_made f input).machine.pc ≡ sum_of f.pc 4 = ap (λ (F : Made). F.machine.pc) (sym same) ∙ whole_pc 0 f y input (ap (λ (F : Made). F.machine.ending) same ∙ on) in
      subst (λ (m : ℕ). GoesOn v m b n) (sym to) goes

  pub behind : (x : Option Instr) (k : Known v f b o x) → jumps_as f x ≡ false → GoesOn v (held_made f input).machine.pc b (o + length (rendering_of x k.w f.pc))
  behind None k j = absurd (false≢true (sym j))
  behind (Some instr.Ebreak) k j = absurd (false≢true (sym j))
  behind (Some (instr.Jalr rd rs1 imm)) k j = absurd (false≢true (sym j))
  behind (Some (instr.Jal rd off)) k j = absurd (false≢true (sym j))
  behind (Some (instr.Branch op rs1 rs2 off)) k j = branch_behind op rs1 rs2 off k j
  behind (Some (instr.Auipc rd imm)) k j = auipc_behind rd imm k
  behind (Some y) k j = own_behind (o + 1) k.w y k.fetch k.is refl (k.stands.behind refl)
