-- A step over a plain word, which need not be the image's.
use Rattle.std.proofs.Common.{◌≡◌, ◌⊎◌, ℕ, ◌^◌, ◌<◌, Bool, true, false, Option, Some, None, List, [], slice_index, slice_set, refl, sym, ap, subst, ◌∙◌, inl, inr, arith}
use Rattle.std.proofs.lemmas.Bool.{false≢true}
use Rattle.std.proofs.lemmas.List.{set-get_or}
use Rattle.swi_isa.specs.declared.instr.Instr.{Instr}
use Rattle.swi_isa.specs.declared.instr.Instr.TheVariants as instr
use Rattle.swi_isa.specs.Decode.{decoded}
use Rattle.swi_isa.specs.Laws.{ebreak_decodes}
use Rattle.swi_exec.specs.Registers.{Registers}
use Rattle.std.specs.Io.KnownBytes.{Appends}
use Rattle.swi_outside.specs.Laws.{Appends-none}
use Rattle.swi_calls.specs.declared.machine.Machine.{Machine}
use Rattle.swi_calls.specs.Flat.{quiet}
use Rattle.swi_image.specs.Format.{ImageData}
use Rattle.swi_image.specs.Place.{word_at, length_at}
use Rattle.swi_rom.specs.Record.{Record}
use Rattle.swi_rom.specs.Coherent.{Coherent}
use Rattle.swi_hart.specs.declared.hart.Stage.{Stage}
use Rattle.swi_hart.specs.declared.hart.Role.{Role}
use Rattle.swi_hart.specs.declared.hart.Role.TheVariants.{Lead, Whole, Over}
use Rattle.swi_hart.specs.declared.hart.Control.{Control}
use Rattle.swi_hart.specs.declared.hart.Control.TheVariants.{At, Outside}
use Rattle.swi_hart.specs.Hart.{HartData, Stepped, hart_after, word_stepped, role_of, original}
use Rattle.swi_hart.specs.Matching.{Fits}
use Rattle.swi_hart.specs.Calling.{Made}
use Rattle.swi_hart.specs.Bounds.{Grown}
use Rattle.swi_hart.specs.Leaving.{WordHome, Home, quick_role}
use Rattle.swi_hart.specs.Exchanged.{Exchanged, ExecutesHeld, is_plain}
use Rattle.swi_hart.proofs.Fetching.{got_word, index_below}
use Rattle.swi_hart.proofs.Steps.{made_word, fits_word}
use Rattle.swi_hart.proofs.Grown.{grown_word}
use Rattle.swi_hart.proofs.Plainly.{plain_left, plain_by}
use Rattle.swi_hart.proofs.Fitting.{with_registers}

-- a plain word under control is no exit
pub plain_home : (v : ImageData) (r : Record) (m : Machine) (i b o : ℕ) (stage : Stage) → Home v r m i b o stage → is_plain (decoded (word_at v b o)) ≡ true → WordHome v m b o stage
plain_home v r m i b o stage home plain = elim home.kind [
  | inl e ↦ absurd (false≢true (ap is_plain (sym ebreak_decodes ∙ ap decoded (sym e.is_exit)) ∙ plain))
  | inr w ↦ w
]

pub home_inside : (v : ImageData) (r : Record) (m : Machine) (i b o : ℕ) (stage : Stage) → Home v r m i b o stage → o < length_at v b
home_inside v r m i b o stage home = elim home.kind [ inl e ↦ omega (arith, e.inside) | inr w ↦ w.inside ]

same_place : (i b o j c p : ℕ) (s t : Stage) → At i b o s ≡ At j c p t → (j ≡ i) × (c ≡ b) × (p ≡ o) × (t ≡ s)
same_place i b o j c p s t e = (cc, cc, cc, cc)

set_own : (words : List ℕ) (i w : ℕ) → slice_index words i ≡ w → slice_set words i w ≡ words
set_own words i w e = ap (λ (n : ℕ). slice_set words i n) (sym e) ∙ set-get_or words i 0

module _ (v : ImageData) (r : Record) (m : Machine) (span : ℕ) (words : List ℕ) (i b o : ℕ) (stage : Stage) (sound : List ℕ → Type 0) (coherent : (ws : List ℕ) → sound ws → Coherent v r span ws)
    (home : Home v r m i b o stage) (c : Control) (control : c ≡ At i b o stage) (plain : is_plain (decoded (word_at v b o)) ≡ true) where
  -- where the service is sound, the image's word stands in the ram
  pub own_word : sound words → slice_index words i ≡ word_at v b o
  own_word s = got_word v r m span words i b o stage (coherent words s) home (plain_home v r m i b o stage home plain)

  -- in either case it is sound with that put back
  pub put_back : sound words ⊎ Exchanged sound v words c → sound (slice_set words i (word_at v b o))
  put_back (inl s) = subst sound (sym (set_own words i (word_at v b o) (own_word s))) s
  put_back (inr x) =
      let same = same_place i b o x.index x.block x.offset stage x.stage (sym control ∙ x.plain.control) in
      subst (λ (k : ℕ). sound (slice_set words i (word_at v b k))) same.2
      (subst (λ (k : ℕ). sound (slice_set words i (word_at v k x.offset))) same.1 (subst (λ (k : ℕ). sound (slice_set words k (word_at v x.block x.offset))) same.0 x.put_back))

  pub plain_below : sound words ⊎ Exchanged sound v words c → i < span
  plain_below s = index_below v r m span _ i b o stage (coherent _ (put_back s)) home

  -- and the word that the ram holds is plain
  pub plain_held : sound words ⊎ Exchanged sound v words c → is_plain (decoded (slice_index words i)) ≡ true
  plain_held (inl s) = ap (λ (w : ℕ). is_plain (decoded w)) (own_word s) ∙ plain
  plain_held (inr x) =
      let same = same_place i b o x.index x.block x.offset stage x.stage (sym control ∙ x.plain.control) in
      subst (λ (k : ℕ). is_plain (decoded (slice_index words k)) ≡ true) same.0 x.plain.held

-- a plain word is no system call
pub no_call : {P : Type 0} (x : Instr) (t : Bool) → is_plain (Some x) ≡ true → (t ≡ true → (x ≡ instr.Ecall) × P) → t ≡ false
no_call {P} x true plain asks = absurd (false≢true (ap (λ (k : Instr). is_plain (Some k)) (sym (asks refl).0) ∙ plain))
no_call {P} x false plain asks = refl

some_instr : (x y : Instr) → Some x ≡ Some y → x ≡ y
some_instr x y e = cc

-- the step, by the words of the image and of the ram
-- what a plain word leaves is the same whatever is read
other_registers : (role : Role) (i b o : ℕ) (h : HartData) (regs : Registers) (input more : List ℕ) → hart_after h (plain_left role i b o h.machine regs input) ≡ hart_after h (plain_left role i b o h.machine regs more)
other_registers Whole i b o h regs input more = refl
other_registers (Lead next) i b o h regs input more = refl
other_registers Over i b o h regs input more = refl

-- and fits with any registers
any_registers : (role : Role) (v : ImageData) (r : Record) (h : HartData) (i b o : ℕ) (regs regs' : Registers) → Fits v r (hart_after h (plain_left role i b o h.machine regs [])) → Fits v r (hart_after h (plain_left role i b o h.machine regs' []))
any_registers Whole v r h i b o regs regs' fits = with_registers v r _ regs' fits
any_registers (Lead next) v r h i b o regs regs' fits = with_registers v r _ regs' fits
any_registers Over v r h i b o regs regs' fits = with_registers v r _ regs' fits

module _ (v : ImageData) (r : Record) (h h' : HartData) (words : List ℕ) (i b o : ℕ) (stage : Stage) (home : Home v r h.machine i b o stage) (control : h.control ≡ At i b o stage) (plain : is_plain (decoded (word_at v b o)) ≡ true)
    (own x : Instr) (role : Role) (own_is : Some own ≡ decoded (word_at v b o)) (held_is : Some x ≡ decoded (slice_index words i)) (by : role ≡ quick_role stage own (original h.machine))
    (ran : (input : List ℕ) → h' ≡ hart_after h (word_stepped role i b o stage h.machine x input)) where
  own_home : (w : WordHome v h.machine b o stage) × (w.instruction ≡ own)
  own_home = let w = plain_home v r h.machine i b o stage home plain in (w, some_instr w.instruction own (sym w.is ∙ sym own_is))

  role_is : role ≡ role_of stage (original h.machine)
  role_is = by ∙ ap (λ (k : Instr). quick_role stage k (original h.machine)) (sym own_home.1) ∙ own_home.0.role

  same : slice_index words i ≡ word_at v b o → own ≡ x
  same e = some_instr own x (own_is ∙ ap decoded (sym e) ∙ sym held_is)

  pub made_plain : slice_index words i ≡ word_at v b o → ((input : List ℕ) → (word_stepped role i b o stage h.machine x input).made.input ≡ input) →
      ((input : List ℕ) → (word_stepped role i b o stage h.machine x input).made.output ≡ []) → ((input : List ℕ) → (word_stepped role i b o stage h.machine x input).made.error ≡ []) →
      (left : List ℕ) (left' out err : Option (List ℕ)) → left' ≡ Some left → Made v r h h' left left' out out err err
  made_plain e took none quiet left left' out err told =
      made_word v r r h h' i b o stage control x role left left' out out err err (own_home.0, own_home.1 ∙ same e) (by ∙ ap (λ (k : Instr). quick_role stage k (original h.machine)) (same e))
      (record {
        hart = ran left;
        input = told ∙ ap (λ (l : List ℕ). Some l) (sym (took left));
        output = subst (λ (l : List ℕ). Appends out out l) (sym (none left)) (Appends-none out);
        error = subst (λ (l : List ℕ). Appends err err l) (sym (quiet left)) (Appends-none err);
      })

  pub grown_plain : slice_index words i ≡ word_at v b o → None ≡ h.machine.ending → Grown v r r h h'
  grown_plain e running =
      grown_word v r r h h' i b o stage control running x role None None refl (own_home.0, own_home.1 ∙ same e) (by ∙ ap (λ (k : Instr). quick_role stage k (original h.machine)) (same e)) (inl ran)

  pub executes_plain : (y : Instr) → decoded (slice_index words i) ≡ Some y → h' ≡ hart_after h (word_stepped (role_of stage (original h.machine)) i b o stage h.machine y [])
  executes_plain y is =
      ran [] ∙ ap (λ (k : Role). hart_after h (word_stepped k i b o stage h.machine x [])) role_is
      ∙ ap (λ (k : Instr). hart_after h (word_stepped (role_of stage (original h.machine)) i b o stage h.machine k [])) (some_instr x y (held_is ∙ is))

  -- the image fits again: control is where the image's word would have led
  pub fits_plain : is_plain (Some x) ≡ true → Fits v r h → h.machine.ending ≡ None → h.machine.pc < 2 ^ 32 → Fits v r h'
  fits_plain held fits running word =
      let image = plain_by i b o stage h.machine running role own (ap is_plain own_is ∙ plain) in
      let ram = plain_by i b o stage h.machine running role x held in
      let fitted : Fits v r (hart_after h (plain_left role i b o h.machine image.regs [])) =
      fits_word v r r h (hart_after h (plain_left role i b o h.machine image.regs [])) i b o stage control own role None None refl fits (sym running) word own_home by
      (inl (λ input. other_registers role i b o h image.regs [] input ∙ sym (ap (λ (s : Stepped). hart_after h s) (image.step input)))) in
      subst (λ (k : HartData). Fits v r k) (sym (ran [] ∙ ap (λ (s : Stepped). hart_after h s) (ram.step []))) (any_registers role v r h i b o image.regs ram.regs fitted)

-- the same at any name of the place
pub stage_same : (i b o : ℕ) (stage : Stage) (j c p : ℕ) (t : Stage) → At i b o stage ≡ At j c p t → stage ≡ t
stage_same i b o stage j c p t e = sym (same_place i b o j c p stage t e).3

pub same_at : {R : Type 0} (h h' : HartData) (rom : R) (words words' : List ℕ) (i b o : ℕ) (stage : Stage) (j c p : ℕ) (t : Stage) (left out err : Option (List ℕ)) → At i b o stage ≡ At j c p t → words' ≡ words →
    ((y : Instr) → decoded (slice_index words i) ≡ Some y → h' ≡ hart_after h (word_stepped (role_of stage (original h.machine)) i b o stage h.machine y [])) →
    ExecutesHeld h h' rom rom j c p t words words' left left out out err err
same_at {R} h h' rom words words' i b o stage j c p t left out err at stay ran =
    subst (λ (k : Control). Held k) at (record { hart = ran; rom_stays = refl; words_stay = stay; input = refl; output = refl; error = refl })
  where
    Held : Control → Type 0
    Held (At j c p t) = ExecutesHeld h h' rom rom j c p t words words' left left out out err err
    Held Outside = ⊥
