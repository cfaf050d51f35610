-- A step keeps the text, and with it that the image fits.
use Rattle.std.proofs.Common.{◌≡◌, ◌⊎◌, ◌==◌, if◌then◌else◌, ℕ, zero, suc, ◌+◌, ◌*◌, ◌/◌, ◌%◌, ◌^◌, ◌<◌, ◌≤◌, Bool, true, false, ◌&&◌, ◌||◌, Option, Some, None, List, [], ◌∷◌, length, take, refl, sym, ap, subst, ◌∙◌, inl, inr, arith}
use Rattle.std.proofs.lemmas.Bool.{cases_Bool, and_parts}
use Rattle.swi_isa.specs.declared.instr.Instr.{Instr}
use Rattle.swi_isa.specs.declared.instr.Instr.TheVariants as instr
use Rattle.swi_isa.specs.Decode.{decoded}
use Rattle.swi_memory.specs.Bus.{AreaData, holds, fetched, touches_text, with_bytes}
use Rattle.swi_memory.specs.declared.right.Right.TheVariants.{Read, Write}
use Rattle.swi_memory.specs.Laws.{fetched_with_bytes, touches_front}
use Rattle.swi_exec.specs.Arithmetic.{sum_of}
use Rattle.swi_exec.specs.Registers.{Registers}
use Rattle.swi_exec.specs.Execute.{executed}
use Rattle.swi_exec.specs.declared.done.Done.{Done}
use Rattle.swi_exec.specs.declared.done.Done.TheVariants as done
use Rattle.swi_calls.specs.declared.heap.Heap.{Heap}
use Rattle.swi_calls.specs.declared.end.End.{End}
use Rattle.swi_calls.specs.declared.machine.Machine.{Machine}
use Rattle.swi_calls.specs.Call.{Served, CallEffect, called, served, room_of_call, read_room, number_of, first_argument, second_argument, third_argument, ends_run}
use Rattle.swi_calls.specs.Told.{ReadsIntoTold as ReadsInto}
use Rattle.swi_calls.specs.StoresText.{text_store_of, next_store, instruction_store, word_store}
use Rattle.swi_calls.specs.Flat.{Made, made, quiet, ends, after, call_made, past_call, with_call, with_instruction, with_word as with_fetched}
use Rattle.swi_image.specs.Format.{ImageData}
use Rattle.swi_render.specs.Carried.{GoesOn, Carries}
use Rattle.swi_rom.specs.Record.{Record}
use Rattle.swi_isa.specs.declared.instr.ImmOp.TheVariants.{Addi}
use Rattle.swi_exec.specs.Registers.{with_reg}
use Rattle.swi_exec.specs.Execute.{address_of}
use Rattle.swi_exec.specs.declared.done.FaultKind.TheVariants as kind
use Rattle.swi_calls.specs.declared.end.End.TheVariants.{Faulted}
use Rattle.swi_image.specs.Place.{place_of, word_at}
use Rattle.swi_render.specs.Rendering.{lower}
use Rattle.swi_hart.specs.declared.hart.Stage.{Stage}
use Rattle.swi_hart.specs.declared.hart.Stage.TheVariants.{Start, Low, Return, Leave}
use Rattle.swi_hart.specs.declared.hart.Role.TheVariants.{Lead, Whole}
use Rattle.swi_hart.specs.declared.hart.ExitKind.{ExitKind}
use Rattle.swi_hart.specs.declared.hart.ExitKind.TheVariants.{Direct, Misaligned, Trap, Indirect}
use Rattle.swi_hart.specs.declared.hart.Control.{Control}
use Rattle.swi_hart.specs.declared.hart.Control.TheVariants.{At, Outside}
use Rattle.swi_calls.specs.Held.{held, held_made}
use Rattle.swi_hart.specs.Hart.{HartData, Stepped, stepped, hart_after, behind, next_made, completes, word_stepped, exit_kind, is_fall, left_made, original, trap_kind, is_between}
use Rattle.swi_hart.specs.Matching.{IsIn, Arrives, Jumps, JumpsBy, ExitStep, Matches, BoardStep, StandsBy, Fits}
use Rattle.swi_hart.specs.Exchanged.{is_plain}
use Rattle.swi_hart.specs.Leaving.{ExitHome}
use Rattle.swi_hart.specs.Calling.{Called, Moved}
use Rattle.swi_hart.proofs.Texts.{untouched, executed_text}
use Rattle.swi_hart.proofs.Calls.{call_is}
use Rattle.swi_hart.proofs.Midway.{step_follows}
use Rattle.swi_hart.proofs.Standing.{stands_for, linked_jump}
use Rattle.swi_hart.proofs.Fitting.{place_under_control, own_matches, matched_fits}
use Rattle.swi_hart.proofs.Plainly.{plain_left, plain_by}

if_served : (x : ℕ) (bus : List AreaData) (t : Bool) (a b : Served) → (t ≡ true → fetched a.bus x ≡ fetched bus x) → (t ≡ false → fetched b.bus x ≡ fetched bus x) → fetched (if t then a else b).bus x ≡ fetched bus x
if_served x bus true a b p q = p refl
if_served x bus false a b p q = q refl

short : (n : ℕ) (l : List ℕ) → length (take n l) ≤ n
short zero l = omega arith
short (suc n) [] = omega arith
short (suc n) (x ∷ l) = let rest = short n l in omega arith

both_true : (s t : Bool) → s ≡ true → t ≡ true → (s && t) ≡ true
both_true true t e f = f
both_true false t e f = e

module _ (x : ℕ) (regs : Registers) (bus : List AreaData) (none : text_store_of instr.Ecall regs bus ≡ None) where
  -- a read that would not store into the text
  buffer_clear : (number_of regs == 63) ≡ true → (first_argument regs == 0) ≡ true → holds bus Write (second_argument regs) (third_argument regs) ≡ true →
      touches_text bus (second_argument regs) (third_argument regs) ≡ false
  buffer_clear n d h =
      untouched bus ((number_of regs == 63) && ((first_argument regs == 0) && holds bus Write (second_argument regs) (third_argument regs)))
      (second_argument regs) (third_argument regs) none (both_true _ _ n (both_true _ _ d h))

  filled_text : (bytes : List ℕ) → touches_text bus (second_argument regs) (third_argument regs) ≡ false → length bytes ≤ third_argument regs →
      fetched (with_bytes bus (second_argument regs) bytes) x ≡ fetched bus x
  filled_text bytes clear le = fetched_with_bytes bus (second_argument regs) bytes x (touches_front bus (second_argument regs) (third_argument regs) (length bytes) clear le)

  served_text : (heap : Heap) (input : List ℕ) → fetched (served regs bus heap input).bus x ≡ fetched bus x
  served_text heap input =
      if_served x bus (number_of regs == 63) _ _
      (λ n. if_served x bus (first_argument regs == 0) _ _
      (λ d. if_served x bus (holds bus Write (second_argument regs) (third_argument regs)) _ _
      (λ h. filled_text (take (third_argument regs) input) (buffer_clear n d h) (short (third_argument regs) input)) (λ e. refl)) (λ e. refl))
      (λ e. if_served x bus (number_of regs == 64) _ _
      (λ e. if_served x bus (first_argument regs == 1 || first_argument regs == 2) _ _ (λ e. if_served x bus (holds bus Read (second_argument regs) (third_argument regs)) _ _ (λ e. refl) (λ e. refl)) (λ e. refl))
      (λ e. if_served x bus (ends_run (number_of regs)) _ _ (λ e. refl) (λ e. if_served x bus (number_of regs == 214) _ _ (λ e. refl) (λ e. refl))))

  room_clear : (k : ℕ) → k ≤ room_of_call regs bus → (k ≡ 0) ⊎ ((touches_text bus (second_argument regs) (third_argument regs) ≡ false) × (k ≤ third_argument regs))
  room_clear k le =
      elim (cases_Bool (number_of regs == 63)) [
        | inl n ↦
            let room : room_of_call regs bus ≡ read_room (first_argument regs) (second_argument regs) (third_argument regs) bus = ap (λ (t : Bool). if t then read_room (first_argument regs) (second_argument regs) (third_argument regs) bus else 0) n in
            elim (cases_Bool ((first_argument regs == 0) && holds bus Write (second_argument regs) (third_argument regs))) [
              | inl both ↦
                  let parts = and_parts (first_argument regs == 0) (holds bus Write (second_argument regs) (third_argument regs)) both in
                  let all : read_room (first_argument regs) (second_argument regs) (third_argument regs) bus ≡ third_argument regs = ap (λ (t : Bool). if t then third_argument regs else 0) both in
                  inr (buffer_clear n parts.0 parts.1, subst (λ m. k ≤ m) (room ∙ all) le)
              | inr other ↦
                  let all : read_room (first_argument regs) (second_argument regs) (third_argument regs) bus ≡ 0 = ap (λ (t : Bool). if t then third_argument regs else 0) other in
                  let none : k ≤ 0 = subst (λ m. k ≤ m) (room ∙ all) le in
                  inl (omega arith)
            ]
        | inr other ↦
            let room : room_of_call regs bus ≡ 0 = ap (λ (t : Bool). if t then read_room (first_argument regs) (second_argument regs) (third_argument regs) bus else 0) other in
            let none : k ≤ 0 = subst (λ m. k ≤ m) room le in
            inl (omega arith)
      ]

  bytes_none : (bytes : List ℕ) → length bytes ≡ 0 → bytes ≡ []
  bytes_none [] e = refl
  bytes_none (b ∷ rest) e = absurd (omega (arith, e))

  moved_text : (bus' : List AreaData) (left left' : Option (List ℕ)) (k : ℕ) → k ≤ room_of_call regs bus → ReadsInto bus bus' left left' (second_argument regs) k → fetched bus' x ≡ fetched bus x
  moved_text bus' left left' k le reads =
      ap (λ (b : List AreaData). fetched b x) reads.stored
      ∙ elim (room_clear k le) [
        | inl zero_is ↦ ap (λ (l : List ℕ). fetched (with_bytes bus (second_argument regs) l) x) (bytes_none reads.bytes (reads.number ∙ zero_is))
        | inr clear ↦ filled_text reads.bytes clear.0 (omega (arith, reads.number, clear.1))
      ]

past_bus : (m : Machine) (c : CallEffect) (o : Option ℕ) → (past_call (with_call m c) o).bus ≡ c.bus
past_bus m c None = refl
past_bus m c (Some code) = refl

call_text : (x : ℕ) (m : Machine) (input : List ℕ) → text_store_of instr.Ecall m.regs m.bus ≡ None → fetched (call_made m input).machine.bus x ≡ fetched m.bus x
unfolding called
call_text x m input none =
    ap (λ (b : List AreaData). fetched b x) (past_bus m (called m.log m.regs m.bus m.heap input) (called m.log m.regs m.bus m.heap input).exited) ∙ served_text x m.regs m.bus none m.heap input

after_text : (x : ℕ) (m : Machine) (d : Done) (input : List ℕ) → (d ≡ done.Call → text_store_of instr.Ecall m.regs m.bus ≡ None) → fetched (after m d input).machine.bus x ≡ fetched m.bus x
after_text x m (done.Next pc) input none = refl
after_text x m done.Call input none = call_text x m input (none refl)
after_text x m done.Break input none = refl
after_text x m (done.Fault k a) input none = refl

instruction_text : (x : ℕ) (f : Machine) (i : Option Instr) (input : List ℕ) → instruction_store f i ≡ None → fetched (with_instruction f i input).machine.bus x ≡ fetched f.bus x
instruction_text x f None input none = refl
instruction_text x f (Some i) input none =
    after_text x (record f { regs = (executed i f.pc f.regs f.bus).regs; bus = (executed i f.pc f.regs f.bus).bus }) (executed i f.pc f.regs f.bus).done input
    (λ e. let is = call_is i f.pc f.regs f.bus e in
    ap (λ (k : Instr). text_store_of instr.Ecall (executed k f.pc f.regs f.bus).regs (executed k f.pc f.regs f.bus).bus) is
    ∙ (sym (ap (λ (k : Instr). text_store_of k f.regs f.bus) is) ∙ none))
    ∙ executed_text x f.regs f.bus i f.pc none

held_by : (x : ℕ) (f : Machine) (a : Option ℕ) (M : Made) (input : List ℕ) → a ≡ next_store f → (a ≡ None → fetched M.machine.bus x ≡ fetched f.bus x) → fetched (held f a M input).machine.bus x ≡ fetched f.bus x
held_by x f None M input is keeps = keeps refl
held_by x f (Some a) M input is keeps = refl

made_text : (x : ℕ) (f : Machine) (input : List ℕ) (k : Option ℕ) → fetched f.bus f.pc ≡ k → next_store f ≡ None → fetched (with_fetched f k input).machine.bus x ≡ fetched f.bus x
made_text x f input None fetch none = refl
made_text x f input (Some w) fetch none =
    instruction_text x f (decoded w) input (sym (ap (λ (k : Option ℕ). word_store f k) fetch) ∙ none)

-- a step over a text that is fixed
held_text : (x : ℕ) (f : Machine) (input : List ℕ) → fetched (held_made f input).machine.bus x ≡ fetched f.bus x
unfolding made
held_text x f input = held_by x f (next_store f) (made f input) input refl (λ none. made_text x f input (fetched f.bus f.pc) refl none)

pub next_text : (x : ℕ) (v : ImageData) (m : Machine) (c : Control) (f : Machine) (input : List ℕ) → fetched (next_made v m c f input).machine.bus x ≡ fetched f.bus x
next_text x v m c f input = by_test (completes v m c)
  where
    by_test : (t : Bool) → fetched (if t then held_made f input else quiet f input).machine.bus x ≡ fetched f.bus x
    by_test true = held_text x f input
    by_test false = refl

-- the image is one of whatever fetches the same
pub image_same : (v : ImageData) (g h : ℕ → Option ℕ) → ((x : ℕ) → h x ≡ g x) → Carries g v → Carries h v
image_same v g h same image = record {
  image = image.image;
  aligned = image.aligned;
  nowhere = λ a word e. image.nowhere a word (sym (same a) ∙ e);
  stands = λ a w e. image.stands a w (sym (same a) ∙ e);
}

-- a step keeps the text, and goes to where the image has what stands for an instruction
pub record Keeps (v : ImageData) (new : Record) (m : Machine) (s : Stepped) : Type 0 where
  pub text : (x : ℕ) → fetched s.made.machine.bus x ≡ fetched m.bus x
  pub stands : StandsBy s.made.machine.ending v new s.made.machine s.control

-- so the image fits after it
pub kept_fits : (v : ImageData) (r new : Record) (h h' : HartData) (s : Stepped) → Fits v r h → Keeps v new h.machine s → h' ≡ hart_after h s → Fits v new h'
kept_fits v r new h h' s fits keeps is =
    subst (λ (k : HartData). Fits v new k) (sym is) (record {
      image = image_same v (λ a. fetched h.machine.bus a) (λ a. fetched s.made.machine.bus a) keeps.text fits.image;
      place = keeps.stands;
    })

module _ (v : ImageData) (new : Record) (m : Machine) where
  -- the run has ended
  pub ended_keeps : (s : Stepped) (c : Control) (e : End) (input : List ℕ) → s ≡ stepped c (ends m e input) → Keeps v new m s
  ended_keeps s c e input is = subst (λ (k : Stepped). Keeps v new m k) (sym is) (record { text = λ x. refl; stands = tt })

  -- control has gone to an address
  arrived_keeps : (s : Stepped) (n : Machine) (input : List ℕ) (t : ℕ) → s.made ≡ quiet n input → n.ending ≡ None → n.bus ≡ m.bus → n.pc ≡ t → Arrives v new t s.control → Keeps v new m s
  arrived_keeps s n input t is on bus pc at = record {
    text = λ x. ap (λ (M : Made). fetched M.machine.bus x) is ∙ ap (λ (k : List AreaData). fetched k x) bus;
    stands = subst (λ (M : Made). StandsBy M.machine.ending v new M.machine s.control) (sym is) (subst (λ (e : Option End). StandsBy e v new n s.control) (sym on) (stands s.control at));
  }
    where
      stands : (c : Control) → Arrives v new t c → StandsBy None v new n c
      stands (At i b o Start) at = (at.0, inl (subst (λ (p : ℕ). place_of v p ≡ Some (b, o)) (sym pc) at.1))
      stands (At i b o Low) at = absurd at
      stands (At i b o Return) at = absurd at
      stands (At i b o Leave) at = absurd at
      stands Outside at = subst (λ (p : ℕ). place_of v p ≡ None) (sym pc) at

  module _ (running : m.ending ≡ None) (input : List ℕ) where
    left_keeps : (s : Stepped) (fall : Bool) (t : ℕ) → Arrives v new t s.control → s.made ≡ left_made fall m t input → (fall ≡ true → t ≡ m.pc) → Keeps v new m s
    left_keeps s true t at is falls = arrived_keeps s m input t is running refl (sym (falls refl)) at
    left_keeps s false t at is falls = arrived_keeps s (record m { pc = t; steps = m.steps + 1 }) input t is running refl refl at

    jump_keeps : (s : Stepped) (here : Control) (rd return t : ℕ) (q : Bool) → Jumps q v new s input here m rd return t → Keeps v new m s
    jump_keeps s here rd return t true step = arrived_keeps s (record m { pc = t; regs = with_reg m.regs rd return; steps = m.steps + 1 }) input t step.1 running refl refl step.0
    jump_keeps s here rd return t false step = ended_keeps s here (Faulted kind.FetchMisaligned t) input step

    -- an exit was left
    pub exit_keeps : (i b o : ℕ) (stage : Stage) (s : Stepped) (k : ExitKind) → ExitHome v m b o stage → exit_kind (word_at v b (o + 1)) ≡ k → ExitStep k v new m s input i b o stage → Keeps v new m s
    exit_keeps i b o stage s Direct e is step = left_keeps s (is_fall v m b o stage) (word_at v b (o + 1)) step.0 step.1 e.falls
    exit_keeps i b o stage s Misaligned e is step = ended_keeps s (At i b o stage) (Faulted kind.FetchMisaligned (word_at v b (o + 1))) input step
    exit_keeps i b o stage s Trap e is step = ended_keeps s (At i b o stage) (Faulted (trap_kind (original m)) m.pc) input step
    exit_keeps i b o stage s Indirect e is step =
        let j = e.jalr is in
        let t = address_of m.regs j.rs1 j.imm / 2 * 2 in
        jump_keeps s (At i b o stage) j.rd (word_at v b (o + 2)) t (t % 4 == 0)
        (subst (λ (x : Option Instr). JumpsBy x v new s input (At i b o stage) m (word_at v b (o + 2))) j.is step)

-- after a step between two instructions the image fits
pub fits_between : (v : ImageData) (r : Record) (h h' : HartData) (s : Stepped) (input : List ℕ) → Fits v r h → is_between h.control ≡ true → h.machine.ending ≡ None → h.machine.pc < 2 ^ 32 →
    BoardStep v r h.machine h.control s input → h' ≡ hart_after h s → Fits v r h'
fits_between v r h h' s input fits between running word step is =
    let m = h.machine in
    let next : Machine = (next_made v m h.control m input).machine in
    let follows = step_follows v r r m m h.control s input fits.image (own_matches v r m h.control between fits.place) running word (λ e. refl) step in
    matched_fits v r next h' (image_same v (λ a. fetched m.bus a) (λ a. fetched next.bus a) (λ a. next_text a v m h.control m input) fits.image)
    (subst (λ (k : HartData). Matches v r next k.machine k.control) (sym is) follows.matches)

module _ (v : ImageData) (r : Record) (h h' : HartData) (i b o : ℕ) (x : Instr) (fits : Fits v r h) (running : h.machine.ending ≡ None) (word_is : decoded (word_at v b o) ≡ Some x) where
  plain_addi : (rd value : ℕ) → decoded (word_at v b o) ≡ Some (instr.Alu Addi rd rd value) → is_plain (Some x) ≡ true
  plain_addi rd value is = ap is_plain (sym word_is ∙ is)

  next_in : IsIn r i b o → IsIn r (i + 1) b (o + 1)
  next_in at = (at.0, at.1, omega (arith, at.2))

  -- after the ADDI of an AUIPC
  pub fits_low : h.control ≡ At i b o Low → h' ≡ hart_after h (word_stepped Whole i b o Low h.machine x []) → Fits v r h'
  fits_low control is =
      let m = h.machine in
      let place = place_under_control v r h i b o Low fits control running in
      let a = place.1 in
      let k = a.behind in
      let st = stands_for v m k.w b k.at (Some (instr.Auipc a.rd a.imm)) fits.image k.fetch k.is k.start in
      let two : k.at + 2 ≡ o + 1 = omega (arith, k.offset) in
      let goes : GoesOn v (sum_of m.pc 4) b (k.at + 2) = st.behind refl in
      let left = plain_by i b o Low m running Whole x (plain_addi a.rd (lower (sum_of m.pc a.imm)) (ap (λ n. decoded (word_at v b n)) k.offset ∙ st.words.1.0)) in
      kept_fits v r r h h' (plain_left Whole i b o m left.regs []) fits (record {
        text = λ y. refl;
        stands = subst (λ (e : Option End). StandsBy e v r (record m { pc = sum_of m.pc 4; regs = left.regs; steps = m.steps + 1 }) (At (i + 1) b (o + 1) Start)) (sym running)
            (next_in place.0, subst (λ n. GoesOn v (sum_of m.pc 4) b n) two goes);
      }) (is ∙ ap (λ (s : Stepped). hart_after h s) (left.step []))

  -- after the ADDI of a return address
  pub fits_return : h.control ≡ At i b o Return → h' ≡ hart_after h (word_stepped (Lead Leave) i b o Return h.machine x []) → Fits v r h'
  fits_return control is =
      let m = h.machine in
      let place = place_under_control v r h i b o Return fits control running in
      let a = place.1 in
      let k = a.behind in
      let st = stands_for v m k.w b k.at (Some (instr.Jal a.rd a.off)) fits.image k.fetch k.is k.start in
      let here = linked_jump v b k.at (sum_of m.pc a.off % 4 == 0) (a.rd == 0) a.rd (sum_of m.pc a.off) m.pc a.linking st.words in
      let two : o + 1 ≡ k.at + 2 = omega (arith, k.offset) in
      let left = plain_by i b o Return m running (Lead Leave) x (plain_addi a.rd (lower (sum_of m.pc 4)) (ap (λ n. decoded (word_at v b n)) k.offset ∙ here.1.0)) in
      kept_fits v r r h h' (plain_left (Lead Leave) i b o m left.regs []) fits (record {
        text = λ y. refl;
        stands = subst (λ (e : Option End). StandsBy e v r (record m { regs = left.regs }) (At (i + 1) b (o + 1) Leave)) (sym running)
            (next_in place.0, inl (record { rd = a.rd; off = a.off; linking = a.linking; behind = record { at = k.at; w = k.w; fetch = k.fetch; is = k.is; start = k.start; offset = two } }));
      }) (is ∙ ap (λ (s : Stepped). hart_after h s) (left.step []))

-- after a system call the image fits, whatever was read
pub fits_call : (v : ImageData) (r : Record) (i b o : ℕ) (h h' : HartData) (left left' : Option (List ℕ)) → Fits v r h → h.machine.ending ≡ None → h.control ≡ At i b o Start → GoesOn v (sum_of h.machine.pc 4) b (o + 1) →
    text_store_of instr.Ecall h.machine.regs h.machine.bus ≡ None → Called i b o Start h h' → Moved h.machine h'.machine.bus left left' → Fits v r h'
fits_call v r i b o h h' left left' fits running control goes none went moved =
    let here = place_under_control v r h i b o Start fits control running in
    record {
      image = image_same v (λ a. fetched h.machine.bus a) (λ a. fetched h'.machine.bus a)
          (λ a. moved_text a h.machine.regs h.machine.bus none h'.machine.bus left left' moved.0 moved.1 moved.2) fits.image;
      place = subst (λ (c : Control). StandsBy h'.machine.ending v r h'.machine c) (sym went.control) (by_end h'.machine.ending refl here.0);
    }
  where
    by_end : (e : Option End) → e ≡ h'.machine.ending → IsIn r i b o → StandsBy e v r h'.machine (behind e (At (i + 1) b (o + 1) Start) (At i b o Start))
    by_end None e at = ((at.0, at.1, omega (arith, at.2)), subst (λ n. GoesOn v n b (o + 1)) (sym (went.pc (sym e))) goes)
    by_end (Some e) is at = tt
