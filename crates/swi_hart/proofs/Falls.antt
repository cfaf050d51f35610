-- Which exits are behind a block's last text word.
use Rattle.std.proofs.Common.{◌≡◌, ◌⊎◌, ◌==◌, ℕ, ◌+◌, ◌-◌, ◌*◌, ◌/◌, ◌%◌, ◌<◌, Bool, true, false, not, ◌&&◌, Option, Some, List, length, slice_index, refl, sym, ap, subst, ◌∙◌, inl, inr, arith}
use Rattle.std.proofs.lemmas.Bool.{false≢true, cases_Bool, and_parts, eqb-true}
use Rattle.swi_image.specs.Format.{ImageData}
use Rattle.swi_image.specs.Place.{place_of, word_at}
use Rattle.swi_outside.specs.CacheRam.{RamState}
use Rattle.swi_rom.specs.Coherent.{Coherent, StandsAt}
use Rattle.swi_rom.specs.Record.{Record, Placed, writes}
use Rattle.swi_rom.specs.Served.{NewlyPlaced, LinkChanged, WordsMove}
use Rattle.swi_calls.specs.declared.machine.Machine.{Machine}
use Rattle.swi_hart.specs.declared.hart.Stage.{Stage}
use Rattle.swi_hart.specs.declared.hart.Stage.TheVariants.{Start, Low, Return, Leave}
use Rattle.swi_hart.specs.declared.hart.Control.{Control}
use Rattle.swi_hart.specs.declared.hart.Control.TheVariants.{At, Outside}
use Rattle.swi_isa.specs.declared.instr.Instr.TheVariants as instr
use Rattle.swi_exec.specs.Execute.{address_of}
use Rattle.swi_hart.specs.Hart.{Stepped, is_fall, is_place}
use Rattle.swi_hart.specs.Matching.{Arrives, Jumps, JumpsBy}
use Rattle.swi_hart.specs.Leaving.{ExitHome, PlacedAt, LeaveAt, RamServed, fell, is_back}

back_is : (v : ImageData) (r : Record) (t : ℕ) (c : Control) (b o : ℕ) → Arrives v r t c → is_place (place_of v t) b o ≡ is_back c b o
back_is v r t (At i b' o' Start) b o at = ap (λ (p : Option (ℕ × ℕ)). is_place p b o) at.1
back_is v r t (At i b' o' Low) b o at = absurd at
back_is v r t (At i b' o' Return) b o at = absurd at
back_is v r t (At i b' o' Leave) b o at = absurd at
back_is v r t Outside b o at = ap (λ (p : Option (ℕ × ℕ)). is_place p b o) at

-- control is back at the exit itself where it is at the exit's index
pub back_at : (v : ImageData) (r : Record) (span : ℕ) (words : List ℕ) (j b' o' i b o : ℕ) → Coherent v r span words → StandsAt v r j (Some (b', o')) → StandsAt v r i (Some (b, o)) →
    (j == i) ≡ is_back (At j b' o' Start) b o
back_at v r span words j b' o' i b o coherent to from =
    elim (cases_Bool (j == i)) [
      | inl same ↦
          let at : j ≡ i = eqb-true _ _ same in
          let p = coherent.apart b' to.0 o' b from.0 o to.1 from.1 to.2 from.2 (sym to.3 ∙ at ∙ from.3) in
          same ∙ sym (rw (p.0, p.1) (both (b == b) (o == o) (self b) (self o)))
      | inr other ↦
          elim (cases_Bool (b' == b && o' == o)) [
            | inl same ↦
                let p = and_parts (b' == b) (o' == o) same in
                let block : b' ≡ b = eqb-true _ _ p.0 in
                let offset : o' ≡ o = eqb-true _ _ p.1 in
                let first : to.0 ≡ from.0 = coherent.once b to.0 from.0 (subst (λ n. Placed r n to.0) block to.1) from.1 in
                let at : j ≡ i = to.3 ∙ ap (λ n. n + o') first ∙ ap (λ n. from.0 + n) offset ∙ sym from.3 in
                absurd (false≢true (sym other ∙ (ap (λ n. n == i) at ∙ self i)))
            | inr apart ↦ other ∙ sym apart
          ]
    ]
  where
    self : (n : ℕ) → (n == n) ≡ true
    self n = grind arith

    both : (p q : Bool) → p ≡ true → q ≡ true → (p && q) ≡ true
    both p q one other = rw (one, other) refl

-- an exit that only leads on goes to the pc
pub fell_here : (stage : Stage) (pc t : ℕ) (back : Bool) → fell stage pc t back ≡ true → t ≡ pc
fell_here Start pc t back is = eqb-true _ _ (and_parts (t == pc) (not back) is).0
fell_here Low pc t back is = absurd (cc)
fell_here Return pc t back is = absurd (cc)
fell_here Leave pc t back is = absurd (cc)

pub fell_is : (v : ImageData) (new : Record) (m : Machine) (b o : ℕ) (stage : Stage) (t : ℕ) (c : Control) → t ≡ word_at v b (o + 1) → ExitHome v m b o stage → Arrives v new t c → fell stage m.pc t (is_back c b o) ≡ is_fall v m b o stage
fell_is v new m b o Low t c is home at = refl
fell_is v new m b o Return t c is home at = refl
fell_is v new m b o Leave t c is home at = refl
fell_is v new m b o Start t c is home at =
    elim (cases_Bool (t == m.pc)) [
      | inl same ↦
          let e : t ≡ m.pc = eqb-true _ _ same in
          ap (λ (q : Bool). q && not (is_back c b o)) same ∙ ap not (sym (back_is v new t c b o at)) ∙ ap (λ n. not (is_place (place_of v n) b o)) e
      | inr other ↦
          ap (λ (q : Bool). q && not (is_back c b o)) other ∙ sym (no_fall other)
    ]
  where
    no_fall : (t == m.pc) ≡ false → is_fall v m b o Start ≡ false
    no_fall other =
        elim (cases_Bool (is_fall v m b o Start)) [
          | inl falls ↦
              let leads = home.falls falls in
              let e : t ≡ m.pc = is ∙ leads in
              absurd (false≢true (sym other ∙ (ap (λ n. n == m.pc) e ∙ self m.pc)))
          | inr stays ↦ stays
        ]
      where
        self : (n : ℕ) → (n == n) ≡ true
        self n = grind arith

pub leave_at : (v : ImageData) (r : Record) (words : List ℕ) (m : Machine) (w i b o : ℕ) (stage : Stage) → ExitHome v m b o stage → PlacedAt r i b o → b < length v.starts → w ≡ slice_index words i → word_at v b (o + 1) % 4 ≡ 0 → LeaveAt v r words w i b o
leave_at v r words m w i b o stage home at block got four = record {
  first = at.first;
  is_placed = at.is_placed;
  index = at.index;
  inside = home.inside;
  known = block;
  leaves = home.is_exit;
  is_direct = four;
  fetched = got;
}

-- where the service was not called
pub ram_none : (span : ℕ) (ram : RamState) → RamServed span 0 ram ram
ram_none span ram = record {
  quiet = refl;
  fetches_stay = refl;
  fetched_at_stays = refl;
  sets_rise = grind arith;
  kept = record { same_length = refl; beyond = λ i le. refl; reached = grind arith };
}

pub ram_same : (span : ℕ) (r : Record) (ram : RamState) → RamServed span (writes r - writes r) ram ram
ram_same span r ram = record {
  quiet = refl;
  fetches_stay = refl;
  fetched_at_stays = refl;
  sets_rise = grind arith;
  kept = record { same_length = refl; beyond = λ i le. refl; reached = grind arith };
}

-- and where no word changed
pub words_same : (v : ImageData) (r : Record) (before after : RamState) → after.words ≡ before.words → WordsMove v r r before after
words_same v r before after same = record {
  changes = λ i. inl (ap (λ (ws : List ℕ). slice_index ws i) same);
  restored = λ k f was gone old new. absurd (false≢true (sym gone ∙ was));
}

-- a fetch before a call of the service changes no word
pub words_after : (v : ImageData) (r new : Record) (first before after : RamState) → before.words ≡ first.words → WordsMove v r new before after → WordsMove v r new first after
words_after v r new first before after same moves = record {
  changes = λ i. subst (λ (ws : List ℕ). (slice_index after.words i ≡ slice_index ws i) ⊎ (NewlyPlaced v r new i ⊎ LinkChanged r new i)) same (moves.changes i);
  restored = moves.restored;
}

-- a jump over a register, by its instruction
pub jumps_by : (v : ImageData) (new : Record) (s : Stepped) (input : List ℕ) (here : Control) (m : Machine) (rd rs1 imm t link : ℕ) → t ≡ address_of m.regs rs1 imm / 2 * 2 →
    Jumps (t % 4 == 0) v new s input here m rd link t → JumpsBy (Some (instr.Jalr rd rs1 imm)) v new s input here m link
jumps_by v new s input here m rd rs1 imm t link to jumps = subst (λ n. Jumps (n % 4 == 0) v new s input here m rd link n) to jumps
