-- What stands behind the word of a JALR: the value that it links, an address of a text word.
use Rattle.std.proofs.Common.{◌≡◌, ◌==◌, ◌&&◌, ℕ, ◌+◌, ◌%◌, ◌^◌, ◌<◌, Bool, true, false, not, bit_and, Option, Some, None, arith, refl, sym, ap, ◌∙◌, inl, inr}
use Rattle.std.proofs.lemmas.Bool.{cases_Bool, and_parts, eqb-true, false≢true}
use Rattle.std.proofs.lemmas.Nat.{and_mask, and_assoc}
use Rattle.swi_isa.specs.declared.instr.Instr.{Instr}
use Rattle.swi_isa.specs.declared.instr.Instr.TheVariants as instr
use Rattle.swi_isa.specs.Decode.{decoded}
use Rattle.swi_isa.specs.Table.{Row}
use Rattle.swi_isa.specs.Laws.{Found, found, ebreak_decodes}
use Rattle.swi_memory.specs.Bus.{fetched}
use Rattle.swi_exec.specs.Arithmetic.{sum_of}
use Rattle.swi_calls.specs.declared.machine.Machine.{Machine}
use Rattle.swi_image.specs.Format.{ImageData}
use Rattle.swi_image.specs.Place.{word_at}
use Rattle.swi_render.specs.Rendering.{ebreak, rendering_of, jump}
use Rattle.swi_render.specs.Carried.{Carries, GoesOn, StandAt}
use Rattle.swi_rom.specs.Record.{Record}
use Rattle.swi_hart.specs.declared.hart.Stage.{Stage}
use Rattle.swi_hart.specs.declared.hart.Stage.TheVariants.{Start, Low, Return, Leave}
use Rattle.swi_hart.specs.declared.hart.Control.TheVariants.{At}
use Rattle.swi_hart.specs.Hart.{HartData, links}
use Rattle.swi_hart.specs.Leaving.{JalrAt}
use Rattle.swi_hart.specs.Matching.{Behind, BehindJal, Fits, PlaceAt}
use Rattle.swi_hart.proofs.Cases.{Known, known}
use Rattle.swi_hart.proofs.Fitting.{place_under_control}
use Rattle.swi_hart.proofs.Standing.{stands_for, linked_jump, plain_jump}
use Rattle.swi_hart.proofs.Table.{branch_half, jal_half}

-- ---- the two low bits of an instruction's word are 11

abbrev has_low : Row → Bool
has_low r = (bit_and r.mask 3 == 3) && (bit_and r.value 3 == 3)

low_by : (w m v : ℕ) → bit_and m 3 ≡ 3 → bit_and v 3 ≡ 3 → bit_and w m ≡ v → w % 4 ≡ 3
low_by w m v em ev hit = sym (and_mask w 2) ∙ (ap (λ n. bit_and w n) (sym em) ∙ (sym (and_assoc 3 w m) ∙ (ap (λ n. bit_and n 3) hit ∙ ev)))

pub low_bits : (w : ℕ) (x : Instr) → decoded w ≡ Some x → w % 4 ≡ 3
low_bits w x is =
    let f : Found has_low w x = found has_low w x refl is in
    let both = and_parts (bit_and f.row.mask 3 == 3) (bit_and f.row.value 3 == 3) f.passes in
    low_by w f.row.mask f.row.value (eqb-true _ _ both.0) (eqb-true _ _ both.1) f.hit

pub ebreak_low : ebreak % 4 ≡ 3
ebreak_low = refl

-- ---- the exits that have a JALR behind them

-- an exit that has one of these behind it has no JALR there
no_three : (d : ℕ) → ((d % 4 == 0) ≡ false → d % 4 ≡ 2) → d % 4 ≡ 3 → ⊥
no_three d half three = elim (cases_Bool (d % 4 == 0)) [
  | inl four ↦ (let zero : d % 4 ≡ 0 = eqb-true _ _ four in omega (arith, zero, three))
  | inr other ↦ (let two : d % 4 ≡ 2 = half other in omega (arith, two, three))
]

module _ (v : ImageData) (b o : ℕ) (exit : word_at v b o ≡ ebreak) (three : word_at v b (o + 1) % 4 ≡ 3) where
  -- no exit stands where a word decodes otherwise
  executes : (y : Instr) → decoded (word_at v b o) ≡ Some y → (y ≡ instr.Ebreak → ⊥) → word_at v b (o + 2) % 4 ≡ 0
  executes y is other = absurd (other (let both : Some y ≡ Some instr.Ebreak = sym is ∙ ap decoded exit ∙ ebreak_decodes in cc))

  -- or where its descriptor is another
  describes : (d : ℕ) → word_at v b (o + 1) ≡ d → (d % 4 ≡ 3 → ⊥) → word_at v b (o + 2) % 4 ≡ 0
  describes d is other = absurd (other (ap (λ (n : ℕ). n % 4) (sym is) ∙ three))

  module _ {f : Machine} where
    jal_value : (rd off : ℕ) → Known v f b o (Some (instr.Jal rd off)) → (l : Bool) → links rd (sum_of f.pc off) ≡ l → word_at v b (o + 2) % 4 ≡ 0
    jal_value rd off k true l = executes _ (linked_jump v b o (sum_of f.pc off % 4 == 0) (rd == 0) rd (sum_of f.pc off) f.pc l k.stands.words).0 (λ e. cc)
    jal_value rd off k false l =
        describes (sum_of f.pc off) (plain_jump v b o (sum_of f.pc off % 4 == 0) (rd == 0) rd (sum_of f.pc off) f.pc l k.stands.words).1
        (no_three (sum_of f.pc off) (jal_half k.w rd off f.pc k.is k.aligned))

    trap_value : {x : Option Instr} → Known v f b o x → word_at v b (o + 1) ≡ sum_of f.pc 1 → word_at v b (o + 2) % 4 ≡ 0
    trap_value k is = describes (sum_of f.pc 1) is (λ e. (let a = k.aligned in omega (arith, a, e)))

    place_value : (x : Option Instr) → Known v f b o x → word_at v b (o + 2) % 4 ≡ 0
    place_value None k = trap_value k k.stands.words.1.0
    place_value (Some instr.Ebreak) k = trap_value k k.stands.words.1.0
    place_value (Some (instr.Jalr rd rs1 imm)) k =
        let two : o + 2 ≡ o + 1 + 1 = omega arith in
        let value : word_at v b (o + 2) ≡ sum_of f.pc 4 = ap (λ (n : ℕ). word_at v b n) two ∙ k.stands.words.1.1.0 in
        let a = k.aligned in
        omega (arith, a, value)
    place_value (Some (instr.Jal rd off)) k = jal_value rd off k (links rd (sum_of f.pc off)) refl
    place_value (Some (instr.Branch op rs1 rs2 off)) k = executes _ k.stands.words.0 (λ e. cc)
    place_value (Some (instr.Auipc rd imm)) k = executes _ k.stands.words.0 (λ e. cc)
    place_value (Some y) k = executes y (ap decoded k.stands.words.0 ∙ k.is) (λ e. cc)

module _ (v : ImageData) (f : Machine) (b o : ℕ) (image : Carries (fetched f.bus) v) (exit : word_at v b o ≡ ebreak) (three : word_at v b (o + 1) % 4 ≡ 3) where
  start_value : (k : Option ℕ) → f.pc < 2 ^ 32 → fetched f.bus f.pc ≡ k → GoesOn v f.pc b o → word_at v b (o + 2) % 4 ≡ 0
  start_value None low fetch (inl start) = absurd (let none = image.nowhere f.pc low fetch in cc)
  start_value (Some w) low fetch (inl start) = place_value v b o exit three {f = f} (decoded w) (known {f = f} image w fetch refl start)
  start_value k low fetch (inr fall) = describes v b o exit three f.pc fall.leads (λ e. (let a = fall.aligned in omega (arith, a, e)))

  -- what stands for the instruction behind whose first words control is
  rendered : (x : Instr) (words : ℕ) (k : Behind x words v b o f) → StandAt v b k.at (rendering_of (Some x) k.w f.pc)
  rendered x words k = (stands_for v f k.w b k.at (Some x) image k.fetch k.is k.start).words

  linked : (words : ℕ) (a : BehindJal words v b o f) → StandAt v b a.behind.at (jump true false a.rd (sum_of f.pc a.off) f.pc)
  linked words a = linked_jump v b a.behind.at (sum_of f.pc a.off % 4 == 0) (a.rd == 0) a.rd (sum_of f.pc a.off) f.pc a.linking (rendered (instr.Jal a.rd a.off) words a.behind)

  stage_value : (stage : Stage) → f.pc < 2 ^ 32 → PlaceAt stage v b o f → word_at v b (o + 2) % 4 ≡ 0
  stage_value Start low here = start_value (fetched f.bus f.pc) low refl here
  stage_value Low low a = executes v b o exit three _ (ap (λ (n : ℕ). decoded (word_at v b n)) a.behind.offset ∙ (rendered (instr.Auipc a.rd a.imm) 1 a.behind).1.0) (λ e. cc)
  stage_value Return low a = executes v b o exit three _ (ap (λ (n : ℕ). decoded (word_at v b n)) a.behind.offset ∙ (linked 1 a).1.0) (λ e. cc)
  stage_value Leave low (inl a) =
      let two : o + 1 ≡ a.behind.at + 1 + 1 + 1 = (let e = a.behind.offset in omega (arith, e)) in
      let four = (and_parts (sum_of f.pc a.off % 4 == 0) (not (a.rd == 0)) a.linking).0 in
      describes v b o exit three (sum_of f.pc a.off) (ap (λ (n : ℕ). word_at v b n) two ∙ (linked 2 a).1.1.1.0) (no_three (sum_of f.pc a.off) (λ other. absurd (false≢true (sym other ∙ four))))
  stage_value Leave low (inr a) =
      let two : o + 1 ≡ a.behind.at + 1 + 1 = (let e = a.behind.offset in omega (arith, e)) in
      describes v b o exit three (sum_of f.pc a.off) (ap (λ (n : ℕ). word_at v b n) two ∙ (rendered (instr.Branch a.op a.rs1 a.rs2 a.off) 1 a.behind).1.1.0)
      (no_three (sum_of f.pc a.off) (branch_half a.behind.w a.op a.rs1 a.rs2 a.off f.pc a.behind.is (image.aligned f.pc b a.behind.at a.behind.start)))

-- The value that a JALR links is a multiple of 4.
pub jalr_value : (v : ImageData) (r : Record) (h : HartData) (i b o : ℕ) (stage : Stage) → Fits v r h → h.control ≡ At i b o stage → h.machine.ending ≡ None → h.machine.pc < 2 ^ 32 → JalrAt v b o → word_at v b o ≡ ebreak →
    word_at v b (o + 2) % 4 ≡ 0
jalr_value v r h i b o stage fits control running low j exit =
    stage_value v h.machine b o fits.image exit (low_bits (word_at v b (o + 1)) (instr.Jalr j.rd j.rs1 j.imm) j.is) stage low (place_under_control v r h i b o stage fits control running).1
