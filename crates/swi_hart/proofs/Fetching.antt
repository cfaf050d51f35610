-- What is fetched at the word under control, and what a step at it is.
use Rattle.std.proofs.Common.{◌≡◌, ◌==◌, if◌then◌else◌, ℕ, ◌+◌, ◌^◌, ◌<◌, Bool, true, false, Option, Some, None, List, length, slice_index, refl, sym, ap, subst, ◌∙◌, inl, inr, arith}
use Rattle.std.proofs.lemmas.Bool.{false≢true, cases_Bool}
use Rattle.swi_isa.specs.declared.instr.Instr.{Instr}
use Rattle.swi_isa.specs.declared.instr.Instr.TheVariants as instr
use Rattle.swi_isa.specs.Decode.{decoded}
use Rattle.swi_outside.specs.Laws.{Appends-none}
use Rattle.swi_calls.specs.declared.machine.Machine.{Machine}
use Rattle.swi_image.specs.Format.{ImageData}
use Rattle.swi_image.specs.Place.{word_at, length_at}
use Rattle.swi_image.specs.Sound.{IsImage}
use Rattle.swi_render.specs.Rendering.{ebreak}
use Rattle.swi_rom.specs.Record.{jump_offset, Record, Transfer, is_linked}
use Rattle.swi_rom.specs.Coherent.{Coherent, StandsAt}
use Rattle.swi_hart.specs.declared.hart.Stage.{Stage}
use Rattle.swi_hart.specs.declared.hart.Role.{Role}
use Rattle.swi_hart.specs.declared.hart.Control.TheVariants.{At}
use Rattle.swi_hart.specs.Hart.{HartData, Stepped, hart_after, word_stepped, role_of, original, exit_kind}
use Rattle.swi_hart.specs.Matching.{ExitStep, HomeStep}
use Rattle.swi_hart.specs.Calling.{Did}
use Rattle.swi_hart.specs.Leaving.{ExitHome, WordHome, Home, PlacedAt, Counted, quick_role, leaves, step_to, exit_transfer, transfer_at, moved}
use Rattle.swi_hart.proofs.Table.{not_exit, is_break}
use Rattle.swi_isa.specs.Laws.{ebreak_decodes}

break_leaves : (x : Instr) → leaves x ≡ false → is_break x ≡ false
break_leaves instr.Ebreak e = e
break_leaves x e = refl

-- what stands under control
pub home_stands : {v : ImageData} {r : Record} {m : Machine} {i b o : ℕ} {stage : Stage} → Home v r m i b o stage → StandsAt v r i (Some (b, o))
home_stands h = (h.first, h.is_placed, elim h.kind [ inl e ↦ omega (arith, e.inside) | inr w ↦ w.inside ], h.index)

module _ (v : ImageData) (r : Record) (m : Machine) (span : ℕ) (words : List ℕ) (i b o : ℕ) (stage : Stage) (coherent : Coherent v r span words) (home : Home v r m i b o stage) where
  pub placed : PlacedAt r i b o
  placed = record { first = home.first; is_placed = home.is_placed; index = home.index }

  offset_below : o < length_at v b
  offset_below = (home_stands home).2

  pub index_below : i < span
  index_below = let end = coherent.inside b home.first home.is_placed in omega (arith, home.index, offset_below, end)

  pub index_fits : i < length words
  index_fits = omega (arith, index_below, coherent.fits)

  pub offset_small : IsImage v → o < 2 ^ 22
  offset_small image =
      omega (arith, offset_below, (image.lengths b home.known).1, image.most)

  -- a word that is no exit stands in the ram as in the image
  pub got_word : (w : WordHome v m b o stage) → slice_index words i ≡ word_at v b o
  got_word w =
      ap (λ n. slice_index words n) home.index ∙ elim (cases_Bool (is_linked r b o)) [
        | inl linked ↦
            let e = coherent.exits b o linked in
            let no : (word_at v b o == ebreak) ≡ false = not_exit (word_at v b o) w.instruction w.is (break_leaves w.instruction w.stays) in
            absurd (false≢true (sym no ∙ (ap (λ n. n == ebreak) e.1.leaves)))
        | inr plain ↦ coherent.plain b home.first o home.is_placed w.inside plain
      ]

  -- an exit stands in the ram, or a jump that is linked in its place
  got_exit : (e : ExitHome v m b o stage) → (x : Instr) × (decoded (slice_index words i) ≡ Some x) × (leaves x ≡ true)
  got_exit e =
      elim (cases_Bool (is_linked r b o)) [
        | inl linked ↦
            let l = coherent.linked b home.first o home.is_placed linked in
            (instr.Jal 0 (jump_offset (home.first + o) l.0), ap (λ n. decoded (slice_index words n)) home.index ∙ l.2.decodes, refl)
        | inr plain ↦
            (instr.Ebreak, ap (λ n. decoded (slice_index words n)) home.index ∙ ap decoded (coherent.plain b home.first o home.is_placed (omega (arith, e.inside)) plain ∙ e.is_exit) ∙ ebreak_decodes, refl)
      ]

  pub got_some : (got : ℕ) → got ≡ slice_index words i → None ≡ decoded got → ⊥
  got_some got is none =
      elim home.kind [
        | inl e ↦ let x = got_exit e in let k : None ≡ Some x.0 = none ∙ ap decoded is ∙ x.1 in absurd (cc)
        | inr w ↦ let k : None ≡ Some w.instruction = none ∙ ap decoded (is ∙ got_word w) ∙ w.is in absurd (cc)
      ]

  pub exit_home : (got : ℕ) (x : Instr) → got ≡ slice_index words i → Some x ≡ decoded got → leaves x ≡ true → ExitHome v m b o stage
  exit_home got x is decodes leaving =
      elim home.kind [
        | inl e ↦ e
        | inr w ↦
            let k : Some x ≡ Some w.instruction = decodes ∙ ap decoded (is ∙ got_word w) ∙ w.is in
            let same : x ≡ w.instruction = cc in
            absurd (false≢true (sym w.stays ∙ (ap leaves (sym same) ∙ leaving)))
      ]

  pub word_home : (got : ℕ) (x : Instr) → got ≡ slice_index words i → Some x ≡ decoded got → leaves x ≡ false → (w : WordHome v m b o stage) × (w.instruction ≡ x)
  word_home got x is decodes staying =
      elim home.kind [
        | inl e ↦
            let y = got_exit e in
            let k : Some x ≡ Some y.0 = decodes ∙ ap decoded is ∙ y.1 in
            let same : x ≡ y.0 = cc in
            absurd (false≢true (sym staying ∙ (ap leaves same ∙ y.2)))
        | inr w ↦
            let k : Some x ≡ Some w.instruction = decodes ∙ ap decoded (is ∙ got_word w) ∙ w.is in
            let same : x ≡ w.instruction = cc in
            (w, sym same)
      ]

module _ (v : ImageData) (new : Record) (m : Machine) (i b o : ℕ) (stage : Stage) where
  pub exit_test : ExitHome v m b o stage → (word_at v b o == ebreak) ≡ true
  exit_test e = ap (λ n. n == ebreak) e.is_exit

  pub word_test : WordHome v m b o stage → (word_at v b o == ebreak) ≡ false
  word_test w = not_exit (word_at v b o) w.instruction w.is (break_leaves w.instruction w.stays)

  pub at_exit_step : (s : Stepped) (input : List ℕ) → ExitHome v m b o stage → ExitStep (exit_kind (word_at v b (o + 1))) v new m s input i b o stage → HomeStep (word_at v b o == ebreak) v new m s input i b o stage
  at_exit_step s input e step = subst (λ (t : Bool). HomeStep t v new m s input i b o stage) (sym (exit_test e)) step

  pub at_word_step : (s : Stepped) (input : List ℕ) (x : Instr) (role : Role) → ((w : WordHome v m b o stage) × (w.instruction ≡ x)) → role ≡ quick_role stage x (original m) → s ≡ word_stepped role i b o stage m x input →
      HomeStep (word_at v b o == ebreak) v new m s input i b o stage
  at_word_step s input x role w by is =
      let role_is : role ≡ role_of stage (original m) = by ∙ (ap (λ (k : Instr). quick_role stage k (original m)) (sym w.1) ∙ w.0.role) in
      subst (λ (t : Bool). HomeStep t v new m s input i b o stage) (sym (word_test w.0))
      (x, w.0.is ∙ ap (λ (k : Instr). Some k) w.1, is ∙ ap (λ (k : Role). word_stepped k i b o stage m x input) role_is)

  pub exit_moves : (policy : Record → ImageData → Transfer → Record) (r : Record) → ExitHome v m b o stage → new ≡ moved policy r v (exit_transfer (exit_kind (word_at v b (o + 1))) v m b o) → new ≡ moved policy r v (transfer_at v m (At i b o stage))
  exit_moves policy r e moves = moves ∙ ap (λ (t : Bool). moved policy r v (if t then exit_transfer (exit_kind (word_at v b (o + 1))) v m b o else None)) (sym (exit_test e))

  pub word_moves : (policy : Record → ImageData → Transfer → Record) (r : Record) → WordHome v m b o stage → r ≡ moved policy r v (transfer_at v m (At i b o stage))
  word_moves policy r w = ap (λ (t : Bool). moved policy r v (if t then exit_transfer (exit_kind (word_at v b (o + 1))) v m b o else None)) (sym (word_test w))

pub counted_hart : (h h' : HartData) (input : List ℕ) → Counted h h' → h' ≡ hart_after h (step_to h' input)
counted_hart h h' input c =
    ap (λ (n : ℕ). record h' { count = n }) c.count ∙ ap (λ (b : Bool). record h' { count = h.count + 1; failed = b }) c.failed
    ∙ ap (λ (b : Bool). record h { control = h'.control; machine = h'.machine; count = h.count + 1; booted = b }) c.booted

pub did_quiet : (h h' : HartData) (input : List ℕ) (left out err : Option (List ℕ)) → Counted h h' → left ≡ Some input → Did h h' (step_to h' input) left out out err err
did_quiet h h' input left out err c told = record { hart = counted_hart h h' input c; input = told; output = Appends-none out; error = Appends-none err }
