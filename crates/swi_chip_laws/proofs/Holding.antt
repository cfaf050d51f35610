-- What a processor finds in a memory that holds a cache's words but for those behind links.
use Rattle.std.proofs.Common.{◌≡◌, ◌==◌, ℕ, ◌+◌, ◌*◌, ◌%◌, ◌^◌, ◌<◌, true, false, List, slice_index, Some, arith, refl, sym, ap, subst, ◌∙◌, inl, inr}
use Rattle.std.proofs.lemmas.Bool.{cases_Bool, eq-eqb, both_ways}
use Rattle.swi_isa.specs.declared.instr.Instr.TheVariants as instr
use Rattle.swi_isa.specs.Decode.{decoded}
use Rattle.swi_isa.specs.Laws.{ebreak_decodes}
use Rattle.swi_exec.specs.Arithmetic.{sum_of}
use Rattle.swi_memory.specs.Bus.{AreaData}
use Rattle.swi_exec.specs.Registers.{Registers}
use Rattle.swi_exec.specs.Execute.{jumps}
use Rattle.swi_exec.specs.declared.done.Done.TheVariants as done
use Rattle.swi_image.specs.Format.{ImageData}
use Rattle.swi_image.specs.Place.{word_at, length_at}
use Rattle.swi_image.specs.Laws.{place_inside}
use Rattle.swi_rom.specs.Record.{Record, ebreak, is_linked, jump_offset, IsJump}
use Rattle.swi_rom.specs.Coherent.{Coherent, IsExit}
use Rattle.swi_hart.specs.declared.hart.Stage.{Stage}
use Rattle.swi_hart.specs.Hart.{HartData, exit_kind}
use Rattle.swi_hart.specs.Leaving.{ExitHome, Home, JalrAt, leaves}
use Rattle.swi_hart.proofs.Homes.{home}
use Rattle.swi_chip_laws.proofs.Values.{low_bits, jalr_value}
use Rattle.swi_chip_laws.specs.Holding.{BehindLink, HoldsWords, Under, FetchesHeld, ReadsBehind, ReadsExits, LinksLead}

-- ---- under control stands no descriptor of a direct exit

module _ {v : ImageData} {r : Record} {span : ℕ} {words : List ℕ} {h : HartData} {i b o : ℕ} {stage : Stage} (u : Under v r span words h i b o stage) where
  pub own : Home v r h.machine i b o stage
  own = home v r h i b o stage u.fits u.control u.running u.short

  pub inside : o < length_at v b
  inside = elim own.kind [ inl e ↦ (let n = e.inside in omega (arith, n)) | inr w ↦ w.inside ]

  not_four : word_at v b o % 4 ≡ 0 → ⊥
  not_four four = elim own.kind [
    | inl e ↦ (let k : word_at v b o % 4 ≡ 3 = ap (λ (n : ℕ). n % 4) e.is_exit in omega (arith, k, four))
    | inr w ↦ (let k = low_bits (word_at v b o) w.instruction w.is in omega (arith, k, four))
  ]

  -- a word of the block that stands o + k words behind the first one's
  behind_is : (k : ℕ) (x : BehindLink r (i + k)) → o + k < length_at v b → (x.block ≡ b) × (x.offset + 1 ≡ o + k)
  behind_is k x lt =
      let e : IsExit v x.block x.offset = (u.coherent.exits x.block x.offset x.is_link).1 in
      let same : own.first + (o + k) ≡ x.first + (x.offset + 1) = (let a = own.index in let c = x.index in omega (arith, a, c)) in
      let t = u.coherent.apart b own.first (o + k) x.block x.first (x.offset + 1) own.is_placed x.stands lt e.inside same in
      (sym t.0, sym t.1)

  pub not_behind : BehindLink r i → ⊥
  not_behind x0 =
      let zero : i + 0 ≡ i = omega arith in
      let x : BehindLink r (i + 0) = subst (λ (n : ℕ). BehindLink r n) (sym zero) x0 in
      let t = behind_is 0 x (let n = inside in omega (arith, n)) in
      let e : IsExit v x.block x.offset = (u.coherent.exits x.block x.offset x.is_link).1 in
      let at : x.offset + 1 ≡ o = (let k = t.1 in omega (arith, k)) in
      not_four (subst (λ (n : ℕ). word_at v n o % 4 ≡ 0) t.0 (subst (λ (n : ℕ). word_at v x.block n % 4 ≡ 0) at e.direct))

  -- a linked exit is a jump
  not_linked : slice_index words i ≡ ebreak → is_linked r b o ≡ false
  not_linked is = elim (cases_Bool (is_linked r b o)) [
    | inl linked ↦
        let l = u.coherent.linked b own.first o own.is_placed linked in
        let jal : decoded (slice_index words (own.first + o)) ≡ Some (instr.Jal 0 (jump_offset (own.first + o) l.0)) = l.2.decodes in
        let got : slice_index words (own.first + o) ≡ ebreak = ap (λ n. slice_index words n) (sym own.index) ∙ is in
        let two : Some (instr.Jal 0 (jump_offset (own.first + o) l.0)) ≡ Some instr.Ebreak = sym jal ∙ ap decoded got ∙ ebreak_decodes in
        absurd (cc)
    | inr plain ↦ plain
  ]

  -- a word of the block, where no link stands at it or before it
  held_word : (k : ℕ) (held : List ℕ) → HoldsWords v r words held → o + (k + 1) < length_at v b → is_linked r b (o + k) ≡ false → is_linked r b (o + (k + 1)) ≡ false → slice_index held (i + (k + 1)) ≡ word_at v b (o + (k + 1))
  held_word k held holds lt before here =
      let apart : BehindLink r (i + (k + 1)) → ⊥ = λ x.
      (let t = behind_is (k + 1) x lt in
      let at : x.offset ≡ o + k = (let q = t.1 in omega (arith, q)) in
      both_ways (is_linked r b (o + k)) before (subst (λ (n : ℕ). is_linked r b n ≡ true) at (subst (λ (n : ℕ). is_linked r n x.offset ≡ true) t.0 x.is_link))) in
      let index : i + (k + 1) ≡ own.first + (o + (k + 1)) = (let a = own.index in omega (arith, a)) in
      holds.same (i + (k + 1)) (record { block = b; offset = o + (k + 1); first = own.first; stands = own.is_placed; inside = lt; index = index }) apart ∙ (ap (λ n. slice_index words n) index ∙ u.coherent.plain b own.first (o + (k + 1)) own.is_placed lt here)

pub fetches_held : FetchesHeld
fetches_held v r span words held h i b o stage u holds = holds.same i (record { block = b; offset = o; first = (own u).first; stands = (own u).is_placed; inside = inside u; index = (own u).index }) (not_behind u)

-- and where no link is, that of the image
pub plain_word : {v : ImageData} {r : Record} {span : ℕ} {words : List ℕ} {h : HartData} {i b o : ℕ} {stage : Stage} (u : Under v r span words h i b o stage) (held : List ℕ) → HoldsWords v r words held → is_linked r b o ≡ false →
    slice_index held i ≡ word_at v b o
plain_word {v} {r} {span} {words} {h} {i} {b} {o} {stage} u held holds plain =
    fetches_held v r span words held h i b o stage u holds ∙ (ap (λ n. slice_index words n) (own u).index ∙ u.coherent.plain b (own u).first o (own u).is_placed (inside u) plain)

-- a word that is no EBREAK is no link
no_link : (v : ImageData) (r : Record) (span : ℕ) (words : List ℕ) (b o : ℕ) → Coherent v r span words → (word_at v b o ≡ ebreak → ⊥) → is_linked r b o ≡ false
no_link v r span words b o coherent other = elim (cases_Bool (is_linked r b o)) [ inl linked ↦ absurd (other (coherent.exits b o linked).1.leaves) | inr plain ↦ plain ]

jalr_other : (w rd rs1 imm : ℕ) → decoded w ≡ Some (instr.Jalr rd rs1 imm) → w ≡ ebreak → ⊥
jalr_other w rd rs1 imm is e = (let two : Some (instr.Jalr rd rs1 imm) ≡ Some instr.Ebreak = sym is ∙ ap decoded e ∙ ebreak_decodes in cc)

-- an exit and what stands behind it
module _ {v : ImageData} {r : Record} {span : ℕ} {words : List ℕ} {h : HartData} {i b o : ℕ} {stage : Stage} (u : Under v r span words h i b o stage) (held : List ℕ) (holds : HoldsWords v r words held) (is : slice_index held i ≡ ebreak) where
  fetched_is : slice_index words i ≡ ebreak
  fetched_is = sym (fetches_held v r span words held h i b o stage u holds) ∙ is

  plain_here : is_linked r b o ≡ false
  plain_here = not_linked u fetched_is

  exit_here : word_at v b o ≡ ebreak
  exit_here = sym (u.coherent.plain b (own u).first o (own u).is_placed (inside u) plain_here) ∙ (ap (λ n. slice_index words n) (sym (own u).index) ∙ fetched_is)

  pub home_exit : ExitHome v h.machine b o stage
  home_exit = elim (own u).kind [
    | inl e ↦ e
    | inr w ↦ absurd (
        let one : Some w.instruction ≡ Some instr.Ebreak = sym w.is ∙ ap decoded exit_here ∙ ebreak_decodes in
        let two : w.instruction ≡ instr.Ebreak = cc in
        both_ways (leaves w.instruction) w.stays (ap leaves two))
  ]

  -- the descriptor is no exit itself
  descriptor_other : word_at v b (o + 1) ≡ ebreak → ⊥
  descriptor_other e =
      let j : JalrAt v b o = home_exit.jalr (ap exit_kind e) in
      jalr_other (word_at v b (o + 1)) j.rd j.rs1 j.imm j.is e

  pub reads_behind : ReadsBehind v held i b o
  reads_behind = record {
    exit = exit_here;
    descriptor =
        let zero : o + 0 ≡ o = omega arith in
        let one : i + (0 + 1) ≡ i + 1 = omega arith in
        let two : o + (0 + 1) ≡ o + 1 = omega arith in
        let lt : o + (0 + 1) < length_at v b = (let n = home_exit.inside in omega (arith, n)) in
        let got : slice_index held (i + (0 + 1)) ≡ word_at v b (o + (0 + 1)) = held_word u 0 held holds lt (subst (λ (n : ℕ). is_linked r b n ≡ false) (sym zero) plain_here) (subst (λ (n : ℕ). is_linked r b n ≡ false) (sym two) (no_link v r span words b (o + 1) u.coherent descriptor_other)) in
        ap (λ n. slice_index held n) (sym one) ∙ (got ∙ ap (λ n. word_at v b n) two);
    value = λ j.
        let four : word_at v b (o + 2) % 4 ≡ 0 = jalr_value v r h i b o stage u.fits u.control u.running u.short j exit_here in
        let two : i + (1 + 1) ≡ i + 2 = omega arith in
        let off : o + (1 + 1) ≡ o + 2 = omega arith in
        let lt : o + (1 + 1) < length_at v b = (let n = j.inside in omega (arith, n)) in
        let other : word_at v b (o + 2) ≡ ebreak → ⊥ = λ e. (let k : word_at v b (o + 2) % 4 ≡ 3 = ap (λ (n : ℕ). n % 4) e in omega (arith, k, four)) in
        let got : slice_index held (i + (1 + 1)) ≡ word_at v b (o + (1 + 1)) = held_word u 1 held holds lt (no_link v r span words b (o + 1) u.coherent descriptor_other) (subst (λ (n : ℕ). is_linked r b n ≡ false) (sym off) (no_link v r span words b (o + 2) u.coherent other)) in
        ap (λ n. slice_index held n) (sym two) ∙ (got ∙ ap (λ n. word_at v b n) off);
  }

pub reads_exits : ReadsExits
reads_exits v r span words held h i b o stage u holds is = reads_behind u held holds is

-- ---- links

sum_back : (i j : ℕ) → i < 2 ^ 21 → j < 2 ^ 21 → sum_of (4 * i) (jump_offset i j) ≡ 4 * j
sum_back i j low low' = omega arith

jumps_at : (j : ℕ) (regs : Registers) (bus : List AreaData) → jumps (4 * j) regs regs bus ≡ record { done = done.Next (4 * j); regs = regs; bus = bus }
jumps_at j regs bus = (let four : (4 * j % 4 == 0) ≡ true = (let z : 4 * j % 4 ≡ 0 = omega arith in eq-eqb _ _ z) in rw four refl)

pub links_lead : LinksLead
links_lead v r span words held h i b o stage u holds linked =
    let own : Home v r h.machine i b o stage = own u in
    let l = u.coherent.linked b own.first o own.is_placed linked in
    let index : own.first + o ≡ i = sym own.index in
    let jump : decoded (slice_index words i) ≡ Some (instr.Jal 0 (jump_offset i l.0)) = (subst (λ (n : ℕ). IsJump n l.0 (slice_index words n)) index l.2).decodes in
    let here : i < span = (let k = u.coherent.inside b own.first own.is_placed in let n = inside u in omega (arith, k, n, index)) in
    let into = (place_inside v u.fits.image.image (word_at v b (o + 1)) l.1.block l.1.offset l.1.place_is).1 in
    let there : l.0 < span = (let k = u.coherent.inside l.1.block l.1.first l.1.is_placed in let q = l.1.index in omega (arith, k, into, q)) in
    let low : i < 2 ^ 21 = (let m = u.small in omega (arith, here, m)) in
    let low' : l.0 < 2 ^ 21 = (let m = u.small in omega (arith, there, m)) in
    record {
      offset = jump_offset i l.0;
      is = ap decoded (fetches_held v r span words held h i b o stage u holds) ∙ jump;
      to = l.0;
      target = l.1;
      jumps = λ g. ap (λ (t : ℕ). jumps t g.machine.regs g.machine.regs g.machine.bus) (sum_back i l.0 low low') ∙ jumps_at l.0 g.machine.regs g.machine.bus;
    }
