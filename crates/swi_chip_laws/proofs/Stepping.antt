-- A machine instruction of a chip is a step of the model's board.
use Rattle.std.proofs.Common.{◌≡◌, ◌==◌, ℕ, ◌+◌, ◌*◌, Bool, false, List, slice_index, Some, arith, refl, sym, ap, subst, ◌∙◌, inl, inr}
use Rattle.std.proofs.lemmas.Bool.{both_ways, eq-eqb, ne_eqb}
use Rattle.swi_isa.specs.declared.instr.Instr.{Instr}
use Rattle.swi_isa.specs.declared.instr.Instr.TheVariants as instr
use Rattle.swi_isa.specs.Decode.{decoded}
use Rattle.swi_exec.specs.Execute.{Effect, executed}
use Rattle.swi_exec.specs.declared.done.Done.TheVariants as done
use Rattle.swi_exec.specs.declared.done.FaultKind.TheVariants as kind
use Rattle.swi_calls.specs.declared.end.End.TheVariants.{Faulted}
use Rattle.swi_calls.specs.declared.machine.Machine.{Machine}
use Rattle.swi_calls.specs.Flat.{ends}
use Rattle.swi_image.specs.Format.{ImageData}
use Rattle.swi_image.specs.Place.{word_at}
use Rattle.swi_rom.specs.Record.{Record, Placed, ebreak}
use Rattle.swi_rom.specs.Coherent.{IsExit}
use Rattle.swi_hart.specs.declared.hart.Stage.{Stage}
use Rattle.swi_hart.specs.declared.hart.Stage.TheVariants.{Start}
use Rattle.swi_hart.specs.declared.hart.Control.{Control}
use Rattle.swi_hart.specs.declared.hart.Control.TheVariants.{At}
use Rattle.swi_hart.specs.declared.hart.ExitKind.{ExitKind}
use Rattle.swi_hart.specs.declared.hart.ExitKind.TheVariants.{Direct, Misaligned, Trap, Indirect}
use Rattle.swi_hart.specs.Hart.{HartData, Stepped, stepped, exit_kind, is_fall, left_made}
use Rattle.swi_hart.specs.Matching.{Arrives, HomeStep, ExitStep, JumpsBy}
use Rattle.swi_hart.proofs.Stepping.{direct_kind}
use Rattle.swi_hart.proofs.Midway.{step_follows}
use Rattle.swi_chip_laws.specs.Holding.{HoldsWords, Under, ReadsBehind, LeadsOn}
use Rattle.swi_chip_laws.specs.Stepping.{LeavesBy, ChipStep, StepsAsModel, FollowsFlat}
use Rattle.swi_chip_laws.proofs.Holding.{home_exit, links_lead, plain_word, reads_behind}

-- an exit, by what the memory holds behind it
leaves_as : (k : ExitKind) (v : ImageData) (new : Record) (m : Machine) (s : Stepped) (input held : List ℕ) (i b o : ℕ) (stage : Stage) → slice_index held (i + 1) ≡ word_at v b (o + 1) →
    (k ≡ Indirect → slice_index held (i + 2) ≡ word_at v b (o + 2)) → LeavesBy k v new m s input held i b o stage → ExitStep k v new m s input i b o stage
leaves_as Direct v new m s input held i b o stage e f l = (subst (λ n. Arrives v new n s.control) e l.0, l.1 ∙ ap (λ n. left_made (is_fall v m b o stage) m n input) e)
leaves_as Misaligned v new m s input held i b o stage e f l = l ∙ ap (λ n. stepped (At i b o stage) (ends m (Faulted kind.FetchMisaligned n) input)) e
leaves_as Trap v new m s input held i b o stage e f l = l
leaves_as Indirect v new m s input held i b o stage e f l =
    subst (λ n. JumpsBy (decoded n) v new s input (At i b o stage) m (word_at v b (o + 2))) e
    (subst (λ n. JumpsBy (decoded (slice_index held (i + 1))) v new s input (At i b o stage) m n) (f refl) l)

same_next : (a b : ℕ) (e : Effect) (x y : Effect) → e ≡ x → e ≡ y → x.done ≡ done.Next (4 * a) → y.done ≡ done.Next (4 * b) → a ≡ b
same_next a b e x y p q f g =
    let both : done.Next (4 * a) ≡ done.Next (4 * b) = sym f ∙ (ap (λ (z : Effect). z.done) (sym p ∙ q) ∙ g) in
    let four : 4 * a ≡ 4 * b = cc in
    omega (arith, four)

pub steps_as_model : StepsAsModel
steps_as_model v r new span words held h s input i b o stage u holds (inl (is, leaves)) =
    let rb : ReadsBehind v held i b o = reads_behind u held holds is in
    let x = home_exit u held holds is in
    subst (λ (t : Bool). HomeStep t v new h.machine s input i b o stage) (sym (eq-eqb _ _ rb.exit))
    (subst (λ (k : ExitKind). ExitStep k v new h.machine s input i b o stage) (ap exit_kind rb.descriptor)
    (leaves_as (exit_kind (slice_index held (i + 1))) v new h.machine s input held i b o stage rb.descriptor
    (λ k. rb.value (x.jalr (ap exit_kind (sym rb.descriptor) ∙ k))) leaves))
steps_as_model v r new span words held h s input i b o stage u holds (inr (inl (linked, same, g))) =
    let e : IsExit v b o = (u.coherent.exits b o linked).1 in
    let l : LeadsOn v r (slice_index held i) i b o = links_lead v r span words held h i b o stage u holds linked in
    let ins : g.instruction ≡ instr.Jal 0 l.offset = (let p : Some g.instruction ≡ Some (instr.Jal 0 l.offset) = sym g.is ∙ l.is in cc) in
    let next : executed g.instruction (4 * i) h.machine.regs h.machine.bus ≡ record { done = done.Next (4 * l.to); regs = h.machine.regs; bus = h.machine.bus } = ap (λ (x : Instr). executed x (4 * i) h.machine.regs h.machine.bus) ins ∙ l.jumps h in
    let to : g.to ≡ l.to = same_next g.to l.to (executed g.instruction (4 * i) h.machine.regs h.machine.bus) _ _ g.next next refl refl in
    let pair : Some (l.target.block, l.target.offset) ≡ Some (g.block, g.offset) = sym l.target.place_is ∙ g.place in
    let two : (l.target.block, l.target.offset) ≡ (g.block, g.offset) = cc in
    let eb : l.target.block ≡ g.block = ap (λ (p : ℕ × ℕ). p.0) two in
    let eo : l.target.offset ≡ g.offset = ap (λ (p : ℕ × ℕ). p.1) two in
    let stands = subst (λ (n : ℕ). Placed r n l.target.first) eb l.target.is_placed in
    let arrives : Arrives v r (word_at v b (o + 1)) (At g.to g.block g.offset Start) = ((l.target.first, stands, to ∙ (l.target.index ∙ ap (λ (n : ℕ). l.target.first + n) eo)), g.place) in
    subst (λ (t : Bool). HomeStep t v new h.machine s input i b o stage) (sym (eq-eqb _ _ e.leaves))
    (subst (λ (k : ExitKind). ExitStep k v new h.machine s input i b o stage) (sym (direct_kind (word_at v b (o + 1)) e.direct))
    (subst (λ (q : Record). Arrives v q (word_at v b (o + 1)) s.control) (sym same) (subst (λ (c : Control). Arrives v r (word_at v b (o + 1)) c) (sym g.control) arrives), g.made))
steps_as_model v r new span words held h s input i b o stage u holds (inr (inr (plain, same, x))) =
    let word : slice_index held i ≡ word_at v b o = plain_word u held holds plain in
    subst (λ (t : Bool). HomeStep t v new h.machine s input i b o stage) (sym (ne_eqb (word_at v b o) ebreak (λ e. x.other (word ∙ e))))
    (x.instruction, ap decoded (sym word) ∙ x.is, x.step)

-- where no exit stands the service isn't asked
unasked : (v : ImageData) (r new : Record) (span : ℕ) (words held : List ℕ) (h : HartData) (s : Stepped) (input : List ℕ) (i b o : ℕ) (stage : Stage) → Under v r span words h i b o stage → HoldsWords v r words held →
    ChipStep v r new h.machine s input held i b o stage → (word_at v b o == ebreak) ≡ false → new ≡ r
unasked v r new span words held h s input i b o stage u holds (inl (is, leaves)) other = absurd (both_ways (word_at v b o == ebreak) other (eq-eqb _ _ (let rb : ReadsBehind v held i b o = reads_behind u held holds is in rb.exit)))
unasked v r new span words held h s input i b o stage u holds (inr (inl (linked, same, g))) other = same
unasked v r new span words held h s input i b o stage u holds (inr (inr (plain, same, x))) other = same

pub follows_flat : FollowsFlat
follows_flat v r new span words held h f s input i b o stage u holds image same step =
    step_follows v r new f h.machine (At i b o stage) s input image same u.running u.short
    (λ other. unasked v r new span words held h s input i b o stage u holds step other)
    (steps_as_model v r new span words held h s input i b o stage u holds step)
