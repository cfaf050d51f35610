-- What is known of the word under control.
use Rattle.std.proofs.Common.{◌≡◌, ◌⊎◌, ◌==◌, ℕ, ◌+◌, ◌%◌, ◌^◌, ◌<◌, ◌≤◌, Bool, true, false, not, Option, Some, None, [], ◌∷◌, length, arith, refl, sym, ◌∙◌, ap, subst, inl, inr}
use Rattle.std.proofs.lemmas.Bool.{false≢true, cases_Bool, and_parts, eqb-true}
use Rattle.swi_isa.specs.declared.instr.ImmOp.TheVariants.{Addi}
use Rattle.swi_isa.specs.declared.instr.Instr.{Instr}
use Rattle.swi_isa.specs.declared.instr.Instr.TheVariants as instr
use Rattle.swi_isa.specs.Decode.{decoded}
use Rattle.swi_memory.specs.Bus.{fetched}
use Rattle.swi_exec.specs.Arithmetic.{sum_of}
use Rattle.swi_calls.specs.declared.machine.Machine.{Machine}
use Rattle.swi_image.specs.Format.{ImageData}
use Rattle.swi_image.specs.Place.{place_of, word_at, length_at}
use Rattle.swi_render.specs.declared.parts.Part.TheVariants as part
use Rattle.swi_render.specs.Rendering.{ebreak, opposite, upper, lower, slot, Is, trap, jump, rendering_of}
use Rattle.swi_hart.specs.Hart.{HartData, links, original, exit_kind, is_fall, role_of}
use Rattle.swi_render.specs.Carried.{GoesOn, StandAt, Carries}
use Rattle.swi_rom.specs.Record.{Record}
use Rattle.swi_hart.specs.declared.hart.Stage.{Stage}
use Rattle.swi_hart.specs.declared.hart.Stage.TheVariants.{Start, Low, Return, Leave}
use Rattle.swi_hart.specs.declared.hart.Control.TheVariants.{At}
use Rattle.swi_hart.specs.declared.hart.ExitKind.{ExitKind}
use Rattle.swi_hart.specs.declared.hart.ExitKind.TheVariants.{Direct, Misaligned, Trap, Indirect}
use Rattle.swi_hart.specs.Matching.{Behind, BehindJal, BehindBranch, PlaceAt, Fits}
use Rattle.swi_hart.specs.Leaving.{ExitHome, WordHome, Home, quick_role, leaves}
use Rattle.swi_hart.proofs.Table.{jal_half, branch_half}
use Rattle.swi_hart.proofs.Cases.{Known, known, original_is}
use Rattle.swi_hart.proofs.Stepping.{direct_kind, half_kind, trap_is, no_fall}
use Rattle.swi_image.specs.Laws.{place_inside}
use Rattle.swi_hart.proofs.Fitting.{place_under_control}
use Rattle.swi_hart.proofs.Standing.{stands_for, linked_jump, plain_jump, plain_within, are_within}

-- an exit for something else than a JALR
plain_exit : {v : ImageData} {m : Machine} {b o : ℕ} {stage : Stage} (k : ExitKind) (d : ℕ) → word_at v b o ≡ ebreak → word_at v b (o + 1) ≡ d → exit_kind d ≡ k → (k ≡ Indirect → ⊥) → o + 1 < length_at v b →
    (is_fall v m b o stage ≡ true → word_at v b (o + 1) ≡ m.pc) → ExitHome v m b o stage
plain_exit k d is behind kind other inside falls = record {
  is_exit = is;
  inside = inside;
  jalr = λ e. absurd (other (sym kind ∙ ap exit_kind (sym behind) ∙ e));
  falls = falls;
}

-- an exit to the target of a jump
target_exit : {v : ImageData} {m : Machine} {b o : ℕ} {stage : Stage} (t : ℕ) → word_at v b o ≡ ebreak → word_at v b (o + 1) ≡ t → ((t % 4 == 0) ≡ false → t % 4 ≡ 2) → o + 1 < length_at v b → is_fall v m b o stage ≡ false → ExitHome v m b o stage
target_exit t is behind half inside stays =
    elim (cases_Bool (t % 4 == 0)) [
      | inl four ↦ plain_exit Direct t is behind (direct_kind t (eqb-true _ _ four)) (λ e. cc) inside (λ e. absurd (false≢true (sym stays ∙ e)))
      | inr no_four ↦ plain_exit Misaligned t is behind (half_kind t (half no_four)) (λ e. cc) inside (λ e. absurd (false≢true (sym stays ∙ e)))
    ]

module _ {v : ImageData} {f : Machine} {b o : ℕ} where
  first_word : {x : Option Instr} (k : Known v f b o x) (y : Instr) → decoded (word_at v b o) ≡ Some y → leaves y ≡ false → o < length_at v b → quick_role Start y x ≡ role_of Start x → (y ≡ instr.Ecall → (Start ≡ Start) × GoesOn v (sum_of f.pc 4) b (o + 1)) → WordHome v f b o Start
  first_word k y here no_leave inside roles goes = record {
    no_exit = λ e. cc;
    low = λ e. cc;
    goes = goes;
    instruction = y;
    is = here;
    inside = inside;
    stays = no_leave;
    role = ap (λ (q : Option Instr). quick_role Start y q) (original_is k) ∙ roles ∙ ap (λ (q : Option Instr). role_of Start q) (sym (original_is k));
  }

  own_home : (y : Instr) (k : Known v f b o (Some y)) → leaves y ≡ false → quick_role Start y (Some y) ≡ role_of Start (Some y) → StandAt v b o (slot part.Step (Is k.w) ∷ []) → GoesOn v (sum_of f.pc 4) b (o + 1) → ExitHome v f b o Start ⊎ WordHome v f b o Start
  own_home y k no_leave roles here goes =
      let within : o + 1 ≤ length_at v b = are_within v b o (slot part.Step (Is k.w) ∷ []) here in
      inr (first_word k y (ap decoded here.0 ∙ k.is) no_leave (omega (arith, within)) roles (λ call. (refl, goes)))

  jal_home : (rd off : ℕ) → Known v f b o (Some (instr.Jal rd off)) → (l : Bool) → links rd (sum_of f.pc off) ≡ l → ExitHome v f b o Start ⊎ WordHome v f b o Start
  jal_home rd off k true l =
      let here = linked_jump v b o (sum_of f.pc off % 4 == 0) (rd == 0) rd (sum_of f.pc off) f.pc l k.stands.words in
      let within : o + 4 ≤ length_at v b = are_within v b o (jump true false rd (sum_of f.pc off) f.pc) here in
      inr (first_word k (instr.Lui rd (upper (sum_of f.pc 4))) here.0 refl (omega (arith, within)) refl (λ e. cc))
  jal_home rd off k false l =
      let here = plain_jump v b o (sum_of f.pc off % 4 == 0) (rd == 0) rd (sum_of f.pc off) f.pc l k.stands.words in
      let within = plain_within v b o (sum_of f.pc off % 4 == 0) (rd == 0) rd (sum_of f.pc off) f.pc l k.stands.words in
      inl (target_exit (sum_of f.pc off) here.0 here.1 (jal_half k.w rd off f.pc k.is k.aligned) (omega (arith, within)) (no_fall v f b o k.start))

  trap_home : {x : Option Instr} (k : Known v f b o x) → StandAt v b o (trap f.pc) → ExitHome v f b o Start ⊎ WordHome v f b o Start
  trap_home k here =
      let within : o + 2 ≤ length_at v b = are_within v b o (trap f.pc) here in
      let low : sum_of f.pc 1 % 4 ≡ 1 = omega (arith, k.aligned) in
      inl (plain_exit Trap (sum_of f.pc 1) here.0 here.1.0 (trap_is _ low) (λ e. cc) (omega (arith, within)) (λ e. absurd (false≢true (sym (no_fall v f b o k.start) ∙ e))))

  place_home : (x : Option Instr) → Known v f b o x → ExitHome v f b o Start ⊎ WordHome v f b o Start
  place_home None k = trap_home k k.stands.words
  place_home (Some instr.Ebreak) k = trap_home k k.stands.words
  place_home (Some (instr.Jalr rd rs1 imm)) k =
      let here = k.stands.words in
      let within : o + 3 ≤ length_at v b = are_within v b o (rendering_of (Some (instr.Jalr rd rs1 imm)) k.w f.pc) here in
      inl (record {
        is_exit = here.0;
        inside = omega (arith, within);
        jalr = λ e. record { rd = rd; rs1 = rs1; imm = imm; is = ap decoded here.1.0 ∙ k.is; inside = omega (arith, within) };
        falls = λ e. absurd (false≢true (sym (no_fall v f b o k.start) ∙ e));
      })
  place_home (Some (instr.Jal rd off)) k = jal_home rd off k (links rd (sum_of f.pc off)) refl
  place_home (Some (instr.Branch op rs1 rs2 off)) k =
      let within : o + 3 ≤ length_at v b = are_within v b o (rendering_of (Some (instr.Branch op rs1 rs2 off)) k.w f.pc) k.stands.words in
      inr (first_word k (instr.Branch (opposite op) rs1 rs2 12) k.stands.words.0 refl (omega (arith, within)) refl (λ e. cc))
  place_home (Some (instr.Auipc rd imm)) k =
      let within : o + 2 ≤ length_at v b = are_within v b o (rendering_of (Some (instr.Auipc rd imm)) k.w f.pc) k.stands.words in
      inr (first_word k (instr.Lui rd (upper (sum_of f.pc imm))) k.stands.words.0 refl (omega (arith, within)) refl (λ e. cc))
  place_home (Some y) k = own_home y k refl refl k.stands.words (k.stands.behind refl)

-- the block of a text word is in the image
place_block : (v : ImageData) (f : Machine) (b o : ℕ) → Carries (fetched f.bus) v → place_of v f.pc ≡ Some (b, o) → b < length v.blocks
place_block v f b o image start = (place_inside v image.image f.pc b o start).0

module _ (v : ImageData) (f : Machine) (b o : ℕ) (image : Carries (fetched f.bus) v) where
  start_home : (k : Option ℕ) → f.pc < 2 ^ 32 → fetched f.bus f.pc ≡ k → GoesOn v f.pc b o → ExitHome v f b o Start ⊎ WordHome v f b o Start
  start_home None word fetch (inl start) = absurd (let none = image.nowhere f.pc word fetch in cc)
  start_home (Some w) word fetch (inl start) = place_home (decoded w) (known image w fetch refl start)
  start_home k word fetch (inr fall) = inl (plain_exit Direct f.pc fall.leaves fall.leads (direct_kind f.pc fall.aligned) (λ e. cc) fall.inside (λ e. fall.leads))

  start_block : GoesOn v f.pc b o → b < length v.blocks
  start_block (inl start) = place_block v f b o image start
  start_block (inr fall) = fall.known

  stage_block : (stage : Stage) → PlaceAt stage v b o f → b < length v.blocks
  stage_block Start here = start_block here
  stage_block Low a = place_block v f b a.behind.at image a.behind.start
  stage_block Return a = place_block v f b a.behind.at image a.behind.start
  stage_block Leave (inl a) = place_block v f b a.behind.at image a.behind.start
  stage_block Leave (inr a) = place_block v f b a.behind.at image a.behind.start

  -- what stands for the instruction behind whose first words control is
  rendered : (x : Instr) (words : ℕ) (k : Behind x words v b o f) → StandAt v b k.at (rendering_of (Some x) k.w f.pc)
  rendered x words k = (stands_for v f k.w b k.at (Some x) image k.fetch k.is k.start).words

  -- an ADDI behind a LUI
  low_home : (stage : Stage) (rd value at : ℕ) → o ≡ at + 1 → decoded (word_at v b (at + 1)) ≡ Some (instr.Alu Addi rd rd value) → at + 2 ≤ length_at v b →
      quick_role stage (instr.Alu Addi rd rd value) (original f) ≡ role_of stage (original f) → (stage ≡ Leave → ⊥) → WordHome v f b o stage
  low_home stage rd value at offset is within role no_exit = record {
    instruction = instr.Alu Addi rd rd value;
    is = ap (λ n. decoded (word_at v b n)) offset ∙ is;
    inside = omega (arith, within, offset);
    stays = refl;
    role = role;
    no_exit = no_exit;
    low = λ e. refl;
    goes = λ e. cc;
  }

  branch_home : BehindBranch v b o f → ExitHome v f b o Leave
  branch_home a =
      let k = a.behind in
      let here = rendered (instr.Branch a.op a.rs1 a.rs2 a.off) 1 k in
      let within : k.at + 3 ≤ length_at v b = are_within v b k.at (rendering_of (Some (instr.Branch a.op a.rs1 a.rs2 a.off)) k.w f.pc) here in
      let is_exit : word_at v b o ≡ ebreak = ap (λ n. word_at v b n) k.offset ∙ here.1.0 in
      let leads : word_at v b (o + 1) ≡ sum_of f.pc a.off = ap (λ n. word_at v b (n + 1)) k.offset ∙ here.1.1.0 in
      target_exit (sum_of f.pc a.off) is_exit leads (branch_half k.w a.op a.rs1 a.rs2 a.off f.pc k.is (image.aligned f.pc b k.at k.start)) (omega (arith, within, k.offset)) refl

  -- what stands for a JAL that keeps its return address
  linked : (words : ℕ) (a : BehindJal words v b o f) → StandAt v b a.behind.at (jump true false a.rd (sum_of f.pc a.off) f.pc)
  linked words a = linked_jump v b a.behind.at (sum_of f.pc a.off % 4 == 0) (a.rd == 0) a.rd (sum_of f.pc a.off) f.pc a.linking (rendered (instr.Jal a.rd a.off) words a.behind)

  stage_home : (stage : Stage) → f.pc < 2 ^ 32 → PlaceAt stage v b o f → ExitHome v f b o stage ⊎ WordHome v f b o stage
  stage_home Start word here = start_home (fetched f.bus f.pc) word refl here
  stage_home Low word a =
      let here = rendered (instr.Auipc a.rd a.imm) 1 a.behind in
      inr (low_home Low a.rd (lower (sum_of f.pc a.imm)) a.behind.at a.behind.offset here.1.0 (are_within v b a.behind.at (rendering_of (Some (instr.Auipc a.rd a.imm)) a.behind.w f.pc) here) refl (λ e. cc))
  stage_home Return word a =
      let here = linked 1 a in
      let within : a.behind.at + 4 ≤ length_at v b = are_within v b a.behind.at (jump true false a.rd (sum_of f.pc a.off) f.pc) here in
      inr (low_home Return a.rd (lower (sum_of f.pc 4)) a.behind.at a.behind.offset here.1.0 (omega (arith, within)) refl (λ e. cc))
  stage_home Leave word (inl a) =
      let here = linked 2 a in
      let within : a.behind.at + 4 ≤ length_at v b = are_within v b a.behind.at (jump true false a.rd (sum_of f.pc a.off) f.pc) here in
      let two : o ≡ a.behind.at + 1 + 1 = omega (arith, a.behind.offset) in
      let four = (and_parts (sum_of f.pc a.off % 4 == 0) (not (a.rd == 0)) a.linking).0 in
      inl (target_exit (sum_of f.pc a.off) (ap (λ n. word_at v b n) two ∙ here.1.1.0) (ap (λ n. word_at v b (n + 1)) two ∙ here.1.1.1.0) (λ other. absurd (false≢true (sym other ∙ four))) (omega (arith, within, a.behind.offset)) refl)
  stage_home Leave word (inr a) = inl (branch_home a)

-- what is known of the word under control of a hart that the image fits
pub home : (v : ImageData) (r : Record) (h : HartData) (i b o : ℕ) (stage : Stage) → Fits v r h → h.control ≡ At i b o stage → h.machine.ending ≡ None → h.machine.pc < 2 ^ 32 → Home v r h.machine i b o stage
home v r h i b o stage fits control running word =
    let place = place_under_control v r h i b o stage fits control running in
    record {
      first = place.0.0;
      is_placed = place.0.1;
      index = place.0.2;
      known = subst (λ n. b < n) fits.image.image.blocks (stage_block v h.machine b o fits.image stage place.1);
      kind = stage_home v h.machine b o fits.image stage word place.1;
    }
