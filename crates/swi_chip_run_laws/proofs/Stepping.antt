-- One machine instruction of a processor with the service of `swi_chip`.
use Rattle.std.proofs.Common.{◌≡◌, ◌∙◌, ◌==◌, ℕ, ◌+◌, ◌-◌, ◌*◌, ◌/◌, ◌%◌, ◌^◌, ◌<◌, ◌≤◌, Bool, true, false, List, slice_index, slice_set, Option, Some, None, ap, arith, refl, sym, subst, inl, inr, if◌then◌else◌}
use Rattle.std.proofs.lemmas.Bool.{both_ways, cases_Bool, eq-eqb, eqb-true, eqb-false, false_from_ne_true}
use Rattle.swi_isa.specs.declared.instr.Instr.{Instr}
use Rattle.swi_isa.specs.declared.instr.Instr.TheVariants as instr
use Rattle.swi_isa.specs.Decode.{decoded}
use Rattle.swi_isa.specs.Laws.{Found, found}
use Rattle.swi_isa.specs.Table.{Form, Jalr, made, rd_of}
use Rattle.swi_exec.specs.Registers.{with_word}
use Rattle.swi_calls.specs.Flat.{quiet}
use Rattle.swi_image.specs.Format.{ImageData}
use Rattle.swi_image.specs.Place.{length_at, word_at}
use Rattle.swi_image.specs.Sound.{IsImage}
use Rattle.swi_rom.specs.Record.{Placed, Record, Transfer, direct, ebreak, indirect, is_linked, jump_word}
use Rattle.swi_rom.specs.Coherent.{Coherent, ExitAt}
use Rattle.swi_slots.specs.Coheres.{coheres}
use Rattle.swi_slots.specs.Keys.{key_number, key_of, number_of}
use Rattle.swi_slots.specs.Slots.{Slots, kept_by, setting_of}
use Rattle.swi_hart.specs.declared.hart.Control.{Control}
use Rattle.swi_hart.specs.declared.hart.Control.TheVariants.{At, Outside}
use Rattle.swi_hart.specs.declared.hart.ExitKind.{ExitKind}
use Rattle.swi_hart.specs.declared.hart.ExitKind.TheVariants.{Direct, Misaligned, Trap, Indirect}
use Rattle.swi_hart.specs.Hart.{Stepped, exit_kind, place_under}
use Rattle.swi_hart.specs.Leaving.{ExitHome, Home, JalrAt, exit_transfer, moved, transfer_at}
use Rattle.swi_hart.specs.Staying.{StaysAt, fits_on}
use Rattle.swi_hart.specs.Matching.{Jumps, JumpsBy}
use Rattle.swi_chip.specs.declared.chip.Chip.{Chip}
use Rattle.swi_chip.specs.Leaving as leaving
use Rattle.swi_chip.specs.Owned.{is_jump}
use Rattle.swi_chip.specs.Bounded.{fifo_few}
use Rattle.swi_chip.specs.Service.{ChipServed, StandsFor, address_of, far_in, with_links}
use Rattle.swi_chip.specs.Repeated.{StandsOn}
use Rattle.swi_chip.proofs.Repeating.{exits_repeated, leaves_refused, leaves_repeated, placed_still}
use Rattle.swi_chip_laws.specs.Holding.{HoldsWords, ReadsBehind, Under}
use Rattle.swi_chip_laws.specs.Running.{ChipStepAt, ServesBy}
use Rattle.swi_chip_laws.specs.Stepping.{LeavesBy}
use Rattle.swi_chip_laws.proofs.Holding.{fetches_held, home_exit, inside, own, plain_word, reads_behind}
use Rattle.swi_chip_memory_laws.proofs.Memory.{holds_words}
use Rattle.swi_chip_run_laws.specs.Calls.{CallsBy, CallsExit, CallsLeave, ProcessorState, ProcessorStep, RunsWord, WordAt, control_of, held, jalr_target}
use Rattle.swi_chip_run_laws.proofs.Answering.{answer_is, arrives}

-- what the service stands for behind a machine instruction, which is one of a chip
pub record Behind (v : ImageData) (s : Slots) (a b : ProcessorState) (step : Stepped) (c : Control) : Type 0 where
  pub next : Slots
  pub words : List ℕ
  pub lists : List (List ℕ)
  pub stands : StandsFor next (λ p. v) words lists b.chip
  pub setting : setting_of next ≡ setting_of s
  pub bound : b.chip.most ≡ a.chip.most
  pub is : ChipStepAt c v (kept_by s) (kept_by next) a.hart.machine step a.input a.chip.cache.now
  pub serves : ServesBy (fifo_few a.chip.most (setting_of s)) v (kept_by s) (kept_by next) a.hart.machine a.chip.cache.now c

-- the word of a link is a JAL x0
low_jump : (x y z u : ℕ) → (x * 2 ^ 31 + y * 2 ^ 21 + z * 2 ^ 20 + u * 2 ^ 12 + 0 * 2 ^ 7 + 0x6F) % 2 ^ 12 ≡ 0x6f
low_jump x y z u = omega arith

jumps : (from to : ℕ) → is_jump (jump_word from to) ≡ true
unfolding jump_word
jumps from to = eq-eqb _ _ (low_jump _ _ _ _)

-- the register that a JALR names
abbrev HasRd : ℕ → Instr → Type 0
HasRd w (instr.Jalr rd rs1 imm) = rd_of w ≡ rd
HasRd w _ = Unit {0}

has_rd : (f : Form) (w : ℕ) → HasRd w (made f w)
has_rd Jalr w = refl
has_rd _ w = tt

jalr_rd : (w rd rs1 imm : ℕ) → decoded w ≡ Some (instr.Jalr rd rs1 imm) → w / 2 ^ 7 % 2 ^ 5 ≡ rd
jalr_rd w rd rs1 imm is =
    let f : Found (λ r. true) w (instr.Jalr rd rs1 imm) = found (λ r. true) w (instr.Jalr rd rs1 imm) refl is in
    subst (HasRd w) f.is (has_rd f.row.form w)

far_is : (from cells i : ℕ) → from + 4 * cells ≤ 2 ^ 32 → i < cells → (from + 4 * i + (2 ^ 32 - from)) % 2 ^ 32 ≡ 4 * i
far_is from cells i room within = omega arith

module _ (v : ImageData) (s : Slots) (ram : List ℕ) (lists : List (List ℕ)) (a b : ProcessorState) (step : Stepped) (k : StandsFor s (λ p. v) ram lists a.chip) where
  coherent : Coherent v (kept_by s) (s.slots * s.size) ram
  coherent = coheres s v ram ((λ p. v), (refl, k.serves))

  holds : HoldsWords v (kept_by s) ram a.chip.cache.now
  holds = holds_words k

  -- the service isn't asked
  stays : (c : Control) → b.chip ≡ a.chip → ChipStepAt c v (kept_by s) (kept_by s) a.hart.machine step a.input a.chip.cache.now →
      ServesBy (fifo_few a.chip.most (setting_of s)) v (kept_by s) (kept_by s) a.hart.machine a.chip.cache.now c → Behind v s a b step c
  stays c same is serves = record {
    next = s;
    words = ram;
    lists = lists;
    stands = subst (λ (x : Chip). StandsFor s (λ p. v) ram lists x) (sym same) k;
    setting = refl;
    bound = ap (λ (x : Chip). x.most) same;
    is = is;
    serves = serves;
  }

  module _ (w : WordAt) (u : Under v (kept_by s) (s.slots * s.size) ram a.hart w.index w.block w.offset w.stage) where
    home : Home v (kept_by s) a.hart.machine w.index w.block w.offset w.stage
    home = own u

    linked_jump : is_linked (kept_by s) w.block w.offset ≡ true → is_jump (held a w.index) ≡ true
    linked_jump linked =
        let l = coherent.linked w.block home.first w.offset home.is_placed linked in
        let word : slice_index ram (home.first + w.offset) ≡ jump_word (home.first + w.offset) l.0 = l.2.word in
        let here : held a w.index ≡ slice_index ram w.index = fetches_held v (kept_by s) (s.slots * s.size) ram a.chip.cache.now a.hart w.index w.block w.offset w.stage u holds in
        ap is_jump (here ∙ (ap (λ (i : ℕ). slice_index ram i) home.index ∙ word)) ∙ jumps (home.first + w.offset) l.0

    plain_jump : is_linked (kept_by s) w.block w.offset ≡ false → is_jump (held a w.index) ≡ true → ⊥
    plain_jump plain jump =
        let image : IsImage v = k.serves.images 0 in
        let word : held a w.index ≡ word_at v w.block w.offset = plain_word u a.chip.cache.now holds plain in
        let few : w.block < 2 ^ 19 = (let n = home.known in let m = image.fewer in let q = image.few in omega (arith, n, m, q)) in
        let number : number_of (key_of 0 w.block) ≡ w.block = key_number 0 w.block few in
        k.rows.no_jump (key_of 0 w.block) w.offset (subst (λ (n : ℕ). w.offset < length_at v n) (sym number) (inside u))
        (ap (λ (n : ℕ). is_jump (word_at v n w.offset)) number ∙ (ap is_jump (sym word) ∙ jump))

    no_ebreak : is_jump (held a w.index) ≡ true → held a w.index ≡ ebreak → ⊥
    no_ebreak jump is = (let e : is_jump ebreak ≡ true = ap is_jump (sym is) ∙ jump in cc)

    -- a word that is executed
    runs_word : RunsWord v a b step w → Behind v s a b step (control_of w)
    runs_word r = elim (cases_Bool (is_linked (kept_by s) w.block w.offset)) [
      | inl linked ↦
          let jump = linked_jump linked in
          stays (control_of w) r.same (inr (inl (linked, refl, r.link jump))) (λ is. absurd (no_ebreak jump is))
      | inr plain ↦
          let other : is_jump (held a w.index) ≡ false = elim (cases_Bool (is_jump (held a w.index))) [ inl jump ↦ absurd (plain_jump plain jump) | inr none ↦ none ] in
          let x = r.word other in
          stays (control_of w) r.same (inr (inr (plain, refl, x))) (λ is. absurd (x.other is))
    ]

    module _ (is : held a w.index ≡ ebreak) where
      read : ReadsBehind v a.chip.cache.now w.index w.block w.offset
      read = reads_behind u a.chip.cache.now holds is

      exit : ExitHome v a.hart.machine w.block w.offset w.stage
      exit = home_exit u a.chip.cache.now holds is

      not_linked : is_linked (kept_by s) w.block w.offset ≡ false
      not_linked = elim (cases_Bool (is_linked (kept_by s) w.block w.offset)) [ inl linked ↦ absurd (no_ebreak (linked_jump linked) is) | inr plain ↦ plain ]

      -- the transfer that is made there
      transfer : (d : ExitKind) → exit_kind (held a (w.index + 1)) ≡ d → transfer_at v a.hart.machine (control_of w) ≡ exit_transfer d v a.hart.machine w.block w.offset
      transfer d kind =
          ap (λ (t : Bool). if t then exit_transfer (exit_kind (word_at v w.block (w.offset + 1))) v a.hart.machine w.block w.offset else None) (eq-eqb _ _ read.exit)
          ∙ ap (λ (x : ExitKind). exit_transfer x v a.hart.machine w.block w.offset) (ap exit_kind (sym read.descriptor) ∙ kind)

      leaves : (d : ExitKind) (new : Record) → exit_kind (held a (w.index + 1)) ≡ d → LeavesBy d v new a.hart.machine step a.input a.chip.cache.now w.index w.block w.offset w.stage →
          ChipStepAt (control_of w) v (kept_by s) new a.hart.machine step a.input a.chip.cache.now
      leaves d new kind l =
          inl (is, subst (λ (x : ExitKind). LeavesBy x v new a.hart.machine step a.input a.chip.cache.now w.index w.block w.offset w.stage) (sym kind) l)

      serves_by : (d : ExitKind) (new : Record) → exit_kind (held a (w.index + 1)) ≡ d → new ≡ moved (fifo_few a.chip.most (setting_of s)) (kept_by s) v (exit_transfer d v a.hart.machine w.block w.offset) →
          ServesBy (fifo_few a.chip.most (setting_of s)) v (kept_by s) new a.hart.machine a.chip.cache.now (control_of w)
      serves_by d new kind e = λ ebreak_is. e ∙ ap (λ (t : Option Transfer). moved (fifo_few a.chip.most (setting_of s)) (kept_by s) v t) (sym (transfer d kind))

      -- where the block's words stand in the cache
      within : (n : ℕ) → w.offset + n < length_at v w.block → w.index + n < s.slots * s.size
      within n short = (let e = coherent.inside w.block home.first home.is_placed in let i = home.index in omega (arith, e, i, short))

      far : (n : ℕ) → w.offset + n < length_at v w.block → far_in a.chip (address_of a.chip w.index) ≡ 4 * w.index
      far n short = far_is a.chip.cache_at (s.slots * s.size) w.index k.numbers.room (let m = within n short in omega (arith, m))

      served : (t : Transfer) (answer : ℕ) (d : ExitKind) → exit_kind (held a (w.index + 1)) ≡ d → (q : ChipServed s (λ p. v) t answer a.chip b.chip) →
          exit_transfer d v a.hart.machine w.block w.offset ≡ Some t → LeavesBy d v (kept_by q.next) a.hart.machine step a.input a.chip.cache.now w.index w.block w.offset w.stage →
          Behind v s a b step (control_of w)
      served t answer d kind q made l = record {
        next = q.next;
        words = q.words;
        lists = q.lists;
        stands = q.stands;
        setting = q.setting;
        bound = q.bound.most;
        is = leaves d (kept_by q.next) kind l;
        serves = serves_by d (kept_by q.next) kind (q.moves ∙ ap (λ (x : Option Transfer). moved (fifo_few a.chip.most (setting_of s)) (kept_by s) v x) (sym made));
      }

      calls_exit : exit_kind (held a (w.index + 1)) ≡ Direct → CallsExit v a b step w → Behind v s a b step (control_of w)
      calls_exit kind c =
          let target : ℕ = held a (w.index + 1) in
          let short : w.offset + 1 < length_at v w.block = exit.inside in
          let at : far_in a.chip (address_of a.chip w.index) ≡ 4 * w.index = far 1 short in
          let cells : far_in a.chip (address_of a.chip w.index) < a.chip.cache_bytes = (let n = within 1 short in let e = k.numbers.bytes_are in omega (arith, at, n, e)) in
          let index : far_in a.chip (address_of a.chip w.index) / 4 ≡ w.index = omega (arith, at) in
          let four : word_at v w.block (w.offset + 1) % 4 ≡ 0 = ap (λ (n : ℕ). n % 4) (sym read.descriptor) ∙ direct_four target kind in
          let there : ExitAt v (kept_by s) w.index target = record {
            block = w.block;
            offset = w.offset;
            first = home.first;
            is_placed = home.is_placed;
            is_exit = record { inside = short; leaves = read.exit; direct = four };
            index = home.index;
            not_linked = not_linked;
            descriptor = read.descriptor;
          } in
          let q : ChipServed s (λ p. v) (direct w.block w.offset target) c.answer a.chip b.chip =
          (exits_repeated s (λ p. v) ram lists a.chip b.chip (address_of a.chip w.index) target c.answer k cells (subst (λ (i : ℕ). ExitAt v (kept_by s) i target) (sym index) there) w.block w.offset home.first home.is_placed (inside u) (index ∙ home.index) c.served).0 in
          served (direct w.block w.offset target) c.answer Direct kind q (ap (λ (n : ℕ). Some (direct w.block w.offset n)) (sym read.descriptor))
          (arrives s q.next v b.chip target c.answer q.stands.numbers.aligned q.answers step.control c.goes, c.made)
        where
          direct_four : (d : ℕ) → exit_kind d ≡ Direct → d % 4 ≡ 0
          direct_four d e = elim (cases_Bool (d % 4 == 0)) [
            | inl is ↦ eqb-true _ _ is
            | inr other ↦ absurd (elim (cases_Bool (d % 4 == 2)) [
              | inl two ↦ (let f : Misaligned ≡ Direct = rw (other, two) at e in cc)
              | inr none ↦ elim (cases_Bool (d % 4 == 1)) [
                | inl one ↦ (let f : Trap ≡ Direct = rw (other, none, one) at e in cc)
                | inr three ↦ (let f : Indirect ≡ Direct = rw (other, none, three) at e in cc)
              ]
            ])
          ]

      module _ (kind : exit_kind (held a (w.index + 1)) ≡ Indirect) (c : CallsLeave v a b step w) where
        target : ℕ
        target = jalr_target a.hart.machine c.rs1 c.imm

        jalr : JalrAt v w.block w.offset
        jalr = exit.jalr (ap exit_kind (sym read.descriptor) ∙ kind)

        at_exit : leaving.IsExitAt a.chip (address_of a.chip w.index)
        at_exit =
            let short = jalr.inside in
            let at : far_in a.chip (address_of a.chip w.index) ≡ 4 * w.index = far 2 short in
            let n = within 2 short in
            let e = k.numbers.bytes_are in
            omega (arith, at, n, e)

        index_is : far_in a.chip (address_of a.chip w.index) / 4 ≡ w.index
        index_is = (let at : far_in a.chip (address_of a.chip w.index) ≡ 4 * w.index = far 2 jalr.inside in omega (arith, at))

        decodes : decoded (word_at v w.block (w.offset + 1)) ≡ Some (instr.Jalr c.rd c.rs1 c.imm)
        decodes = ap decoded (sym read.descriptor) ∙ c.is

        by_test : (t : Bool) → (jalr_target a.hart.machine c.rs1 c.imm % 4 == 0) ≡ t → Jumps t v (kept_by s) step a.input (control_of w) a.hart.machine c.rd (held a (w.index + 2)) (jalr_target a.hart.machine c.rs1 c.imm) →
            JumpsBy (decoded (held a (w.index + 1))) v (kept_by s) step a.input (control_of w) a.hart.machine (held a (w.index + 2))
        by_test t test j = rw (c.is, test) j

        by_true : (new : Record) → (jalr_target a.hart.machine c.rs1 c.imm % 4 == 0) ≡ true → Jumps true v new step a.input (control_of w) a.hart.machine c.rd (held a (w.index + 2)) (jalr_target a.hart.machine c.rs1 c.imm) →
            JumpsBy (decoded (held a (w.index + 1))) v new step a.input (control_of w) a.hart.machine (held a (w.index + 2))
        by_true new test j = rw (c.is, test) j

        abbrev pc : ℕ
        pc = address_of a.chip w.index

        abbrev last : Chip
        last = c.served.calls.at c.served.calls.times

        -- the last call is over a service with fewer links, which has the same words there
        module _ (x : StandsOn s (λ p. v) a.chip last) where
          abbrev t : Slots
          t = with_links s x.targets x.unlinks

          placed_all : (b f : ℕ) → Placed (kept_by s) b f → Placed (kept_by t) b f
          placed_all = placed_still s x.targets x.unlinks

          stays_all : (p : Option (ℕ × ℕ)) → StaysAt (kept_by s) (kept_by t) p
          stays_all None = tt
          stays_all (Some p) = λ f h. placed_all p.0 f h

          under_last : Under v (kept_by t) (s.slots * s.size) x.words a.hart w.index w.block w.offset w.stage
          under_last = record {
            coherent = coheres t v x.words ((λ p. v), (refl, x.stands.serves));
            small = u.small;
            fits = fits_on v (kept_by s) (kept_by t) a.hart (stays_all (place_under a.hart.machine.ending a.hart.control)) u.fits;
            running = u.running;
            short = u.short;
            control = u.control;
          }

          still_plain : is_linked (kept_by t) w.block w.offset ≡ false
          still_plain = false_from_ne_true (is_linked (kept_by t) w.block w.offset) (λ is. both_ways (is_linked (kept_by s) w.block w.offset) not_linked (x.among s.turn w.block w.offset is))

          read_last : ReadsBehind v last.cache.now w.index w.block w.offset
          read_last =
              let held' = holds_words x.stands in
              reads_behind under_last last.cache.now held' (plain_word under_last last.cache.now held' still_plain ∙ read.exit)

          far_last : far_in last pc / 4 ≡ w.index
          far_last = ap (λ (n : ℕ). (pc + (2 ^ 32 - n)) % 2 ^ 32 / 4) x.cache_at ∙ index_is

          linked_words : c.registers ≡ leaving.linked_by a.hart.machine.regs.words (leaving.jalr_at last pc) (leaving.value_at last pc) →
              c.registers ≡ with_word a.hart.machine.regs.words c.rd (held a (w.index + 2))
          linked_words e =
              let one : leaving.jalr_at last pc ≡ held a (w.index + 1) = ap (λ (i : ℕ). slice_index last.cache.now (i + 1)) far_last ∙ (read_last.descriptor ∙ sym read.descriptor) in
              let two : leaving.value_at last pc ≡ held a (w.index + 2) = ap (λ (i : ℕ). slice_index last.cache.now (i + 2)) far_last ∙ (read_last.value jalr ∙ sym (read.value jalr)) in
              let rd : leaving.rd_of (leaving.jalr_at last pc) ≡ c.rd = ap (λ (n : ℕ). n / 2 ^ 7 % 2 ^ 5) one ∙ jalr_rd (held a (w.index + 1)) c.rd c.rs1 c.imm c.is in
              e ∙ ap (λ (n : ℕ). if n == 0 then a.hart.machine.regs.words else slice_set a.hart.machine.regs.words n (leaving.value_at last pc)) rd
              ∙ ap (λ (y : ℕ). with_word a.hart.machine.regs.words c.rd y) two

          last_exit : leaving.IsExitAt last pc
          last_exit =
              let far' : far_in last pc ≡ far_in a.chip pc = ap (λ (n : ℕ). (pc + (2 ^ 32 - n)) % 2 ^ 32) x.cache_at in
              let bytes : last.cache_bytes ≡ a.chip.cache_bytes = x.stands.numbers.bytes_are ∙ sym k.numbers.bytes_are in
              let e = at_exit in
              omega (arith, far', bytes, e)

        calls_leave : Behind v s a b step (control_of w)
        calls_leave = elim (cases_Bool (jalr_target a.hart.machine c.rs1 c.imm % 4 == 0)) [
          | inl even ↦
              let four : jalr_target a.hart.machine c.rs1 c.imm % 4 ≡ 0 = eqb-true _ _ even in
              let z = leaves_repeated s (λ p. v) ram lists a.chip b.chip pc (jalr_target a.hart.machine c.rs1 c.imm) c.answer k at_exit four c.served.calls in
              let q : ChipServed s (λ p. v) (indirect (jalr_target a.hart.machine c.rs1 c.imm)) c.answer a.chip b.chip = z.served in
              let few = answer_is s q.next v b.chip (jalr_target a.hart.machine c.rs1 c.imm) c.answer q.stands.numbers.aligned q.answers in
              let goes = c.goes few.1 in
              let words = linked_words z.on (c.served.links.links (last_exit z.on) four few.0) in
              served (indirect (jalr_target a.hart.machine c.rs1 c.imm)) c.answer Indirect kind q (rw (decodes, even) refl)
              (by_true (kept_by q.next) even (
                arrives s q.next v b.chip (jalr_target a.hart.machine c.rs1 c.imm) c.answer q.stands.numbers.aligned q.answers step.control goes.0,
                goes.1 ∙ ap (λ (ws : List ℕ). quiet (record a.hart.machine { pc = jalr_target a.hart.machine c.rs1 c.imm; regs = record a.hart.machine.regs { words = ws }; steps = a.hart.machine.steps + 1 }) a.input) words,
              ))
          | inr odd ↦
              let far' : jalr_target a.hart.machine c.rs1 c.imm % 4 ≡ 0 → ⊥ = eqb-false _ _ odd in
              let n = leaves_refused a.chip b.chip pc (jalr_target a.hart.machine c.rs1 c.imm) c.answer at_exit far' c.served.calls in
              stays (control_of w) n.1 (leaves Indirect (kept_by s) kind (by_test false odd (c.refused n.0))) (serves_by Indirect (kept_by s) kind (rw (decodes, odd) refl))
        ]

      calls : (d : ExitKind) → exit_kind (held a (w.index + 1)) ≡ d → CallsBy d v a b step w → Behind v s a b step (control_of w)
      calls Direct kind c = calls_exit kind c
      calls Misaligned kind c = stays (control_of w) c.0 (leaves Misaligned (kept_by s) kind c.1) (serves_by Misaligned (kept_by s) kind refl)
      calls Trap kind c = stays (control_of w) c.0 (leaves Trap (kept_by s) kind c.1) (serves_by Trap (kept_by s) kind refl)
      calls Indirect kind c = calls_leave kind c

  -- behind each machine instruction
  pub behind : (c : Control) → ((w : WordAt) → c ≡ control_of w → Under v (kept_by s) (s.slots * s.size) ram a.hart w.index w.block w.offset w.stage) → ProcessorStep c v a b step → Behind v s a b step c
  behind Outside under (same, is) = stays Outside same (refl, is) refl
  behind (At i o n stage) under (inl (is, c)) =
      let w : WordAt = record { index = i; block = o; offset = n; stage = stage } in
      calls w (under w refl) is (exit_kind (held a (i + 1))) refl c
  behind (At i o n stage) under (inr r) =
      let w : WordAt = record { index = i; block = o; offset = n; stage = stage } in
      runs_word w (under w refl) r
