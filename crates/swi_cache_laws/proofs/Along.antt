-- All transfers of a run, step by step.
use Rattle.std.proofs.Common.{◌≡◌, ◌==◌, if◌then◌else◌, ℕ, suc, zero, ◌+◌, Bool, true, false, not, ◌&&◌, Option, Some, None, is_some, List, [], ◌∷◌, ◌++◌, length, refl, sym, ◌∙◌, ap, subst, inl, inr}
use Rattle.std.proofs.lemmas.Bool.{false≢true, both_ways, and_parts, eqb-true}
use Rattle.swi_isa.specs.declared.instr.Instr.{Instr}
use Rattle.swi_isa.specs.Decode.{decoded}
use Rattle.swi_memory.specs.Bus.{fetched}
use Rattle.swi_calls.specs.declared.end.End.{End}
use Rattle.swi_calls.specs.declared.machine.Machine.{Machine}
use Rattle.swi_calls.specs.Flat.{made, with_word, started}
use Rattle.swi_calls.specs.Held.{held, held_made, held_step}
use Rattle.swi_calls.specs.State.{FlatState}
use Rattle.swi_calls.specs.StoresText.{next_store}
use Rattle.swi_image.specs.Format.{ImageData}
use Rattle.swi_image.specs.Place.{place_of}
use Rattle.swi_render.specs.Rendering.{Slot}
use Rattle.swi_render.specs.Carried.{Carries, GoesOn}
use Rattle.swi_rom.specs.Record.{Transfer, Has, direct}
use Rattle.swi_hart.specs.Hart.{original, slots, is_place}
use Rattle.swi_hart.specs.declared.hart.Control.TheVariants.{Outside}
use Rattle.swi_hart.proofs.Cases.{Known, known, original_is, length_is}
use Rattle.swi_hart.proofs.Kept.{next_text, image_same}
use Rattle.swi_hart.proofs.Standing.{slots_are}
use Rattle.swi_hart.proofs.Stepping.{same_place}
use Rattle.swi_board.specs.Transfers.{Here, at_fall, settled, jumps_as, leaves_by, step_transfers, here_after, fall_transfers, transfers}
use Rattle.swi_board.proofs.Counting.{over_transfers}
use Rattle.swi_cache_laws.specs.Transfers.{block_entered}
use Rattle.swi_cache_laws.specs.Room.{LeavesByExit, AreTransfers}
use Rattle.swi_cache_laws.specs.Runs.{AreOfRuns}
use Rattle.swi_cache_laws.proofs.Exiting.{by_exit, leaves, behind}

-- where a run stands: in a block that was entered, at a text word's place or at the exit behind the last one
abbrev StandsAt : ImageData → Machine → List ℕ → Here → Type 0
StandsAt v f before None = Unit {0}
StandsAt v f before (Some p) = Has before p.0 × GoesOn v f.pc p.0 p.1

arrived : (v : ImageData) (f : Machine) (before : List ℕ) (p : Here) → place_of v f.pc ≡ p → StandsAt v f (block_entered p ++ before) p
arrived v f before None is = tt
arrived v f before (Some p) is = (inl refl, inl is)

-- a step that fetches nothing ends the run
unfetched : (f : Machine) (input : List ℕ) (w : Option ℕ) → fetched f.bus f.pc ≡ w → (held_made f input).machine.ending ≡ None → (x : ℕ) × (w ≡ Some x)
unfolding made
unfetched f input (Some w) is on = (w, refl)
unfetched f input None is on = absurd (by_store (next_store f) (ap (λ (k : Option ℕ). (held f (next_store f) (with_word f k input) input).machine.ending) (sym is) ∙ on))
  where
    by_store : (a : Option ℕ) → (held f a (with_word f None input) input).machine.ending ≡ None → ⊥
    by_store None e = cc
    by_store (Some a) e = cc

place_is : (p : Option (ℕ × ℕ)) (q : ℕ × ℕ) → is_place p q.0 q.1 ≡ true → p ≡ Some q
place_is None q e = absurd (false≢true e)
place_is (Some p) q e =
    let parts = and_parts (p.0 == q.0) (p.1 == q.1) e in
    same p.0 p.1 q.0 q.1 (eqb-true p.0 q.0 parts.0) (eqb-true p.1 q.1 parts.1)
  where
    same : (a b c d : ℕ) → a ≡ c → b ≡ d → (let x : Option (ℕ × ℕ) = Some (a, b) in let y : Option (ℕ × ℕ) = Some (c, d) in x ≡ y)
    same a b c d e g = rw (e, g) refl

not_twice : (t u : Bool) → not t ≡ u → t ≡ not u
not_twice true true e = absurd (false≢true e)
not_twice true false e = refl
not_twice false true e = refl
not_twice false false e = absurd (false≢true (sym e))

-- the transfers of later steps
abbrev Later : ImageData → ℕ → Type 0
Later v k = (s : FlatState) (here : Here) (before : List ℕ) → Carries (fetched s.machine.bus) v → StandsAt v s.machine before here → AreTransfers v before (transfers v k s here)

module _ (v : ImageData) (k : ℕ) (up : Later v k) (s : FlatState) (image : Carries (fetched s.machine.bus) v) where
  image_next : Carries (fetched (held_step s).machine.bus) v
  image_next = image_same v (λ a. fetched s.machine.bus a) (λ a. fetched (held_step s).machine.bus a) (λ a. next_text a v s.machine Outside s.machine s.input) image

  -- the instruction at a text word's place
  stepping : (q : ℕ × ℕ) (before : List ℕ) → Has before q.0 → place_of v s.machine.pc ≡ Some q → (e : Option End) → (held_step s).machine.ending ≡ e → (j : Bool) → jumps_as s.machine (original s.machine) ≡ j →
      AreTransfers v before ((if j && not (is_some e) then leaves_by s.machine (original s.machine) (slots s.machine) q (held_step s).machine.pc else [])
      ++ transfers v k (held_step s) (if j then place_of v (held_step s).machine.pc else Some (q.0, q.1 + length (slots s.machine))))
  stepping q before has is (Some e) over true j =
      subst (λ (l : List Transfer). AreTransfers v before l) (sym (over_transfers v k (held_step s) (place_of v (held_step s).machine.pc) (ap is_some over))) tt
  stepping q before has is (Some e) over false j =
      subst (λ (l : List Transfer). AreTransfers v before l) (sym (over_transfers v k (held_step s) (Some (q.0, q.1 + length (slots s.machine))) (ap is_some over))) tt
  stepping q before has is None on true j =
      let w = unfetched s.machine s.input (fetched s.machine.bus s.machine.pc) refl on in
      let x : Option Instr = decoded w.0 in
      let kn : Known v s.machine q.0 q.1 x = known image w.0 w.1 refl is in
      let rest : List Transfer = transfers v k (held_step s) (place_of v (held_step s).machine.pc) in
      let later = up (held_step s) (place_of v (held_step s).machine.pc) (block_entered (place_of v (held_step s).machine.pc) ++ before) image_next (arrived v (held_step s).machine before (place_of v (held_step s).machine.pc) refl) in
      let jumps : jumps_as s.machine x ≡ true = ap (λ (y : Option Instr). jumps_as s.machine y) (sym (original_is kn)) ∙ j in
      subst (λ (y : Option Instr). AreTransfers v before (leaves_by s.machine y (slots s.machine) q (held_step s).machine.pc ++ rest)) (sym (original_is kn))
      (subst (λ (ss : List Slot). AreTransfers v before (leaves_by s.machine x ss q (held_step s).machine.pc ++ rest)) (sym (slots_are s.machine kn.w x kn.fetch kn.is))
      (leaves v s.machine q.0 q.1 s.input on before has x kn rest jumps later))
  stepping q before has is None on false j =
      let w = unfetched s.machine s.input (fetched s.machine.bus s.machine.pc) refl on in
      let x : Option Instr = decoded w.0 in
      let kn : Known v s.machine q.0 q.1 x = known image w.0 w.1 refl is in
      let stays : jumps_as s.machine x ≡ false = ap (λ (y : Option Instr). jumps_as s.machine y) (sym (original_is kn)) ∙ j in
      let goes : GoesOn v (held_step s).machine.pc q.0 (q.1 + length (slots s.machine)) =
      subst (λ (n : ℕ). GoesOn v (held_step s).machine.pc q.0 (q.1 + n)) (sym (length_is kn)) (behind v s.machine q.0 q.1 s.input on before has x kn stays) in
      up (held_step s) (Some (q.0, q.1 + length (slots s.machine))) before image_next (has, goes)

  step_at : (q : ℕ × ℕ) (before : List ℕ) → Has before q.0 → place_of v s.machine.pc ≡ Some q →
      AreTransfers v before (step_transfers s.machine (Some q) (held_step s).machine ++ transfers v k (held_step s) (here_after v s.machine (Some q) (held_step s).machine))
  step_at q before has is = stepping q before has is (held_step s).machine.ending refl (jumps_as s.machine (original s.machine)) refl

  -- behind the exit of a block's last text word
  settles : (p : Here) (before : List ℕ) → place_of v s.machine.pc ≡ p →
      AreTransfers v (block_entered p ++ before) (step_transfers s.machine p (held_step s).machine ++ transfers v k (held_step s) (here_after v s.machine p (held_step s).machine))
  settles None before is = up (held_step s) None before image_next tt
  settles (Some q) before is = step_at q (q.0 ∷ before) (inl refl) is

  fallen : (p : ℕ × ℕ) (before : List ℕ) → Has before p.0 → GoesOn v s.machine.pc p.0 p.1 → is_place (place_of v s.machine.pc) p.0 p.1 ≡ false → LeavesByExit v before (direct p.0 p.1 s.machine.pc)
  fallen p before has (inl at) apart = absurd (both_ways (is_place (place_of v s.machine.pc) p.0 p.1) apart (ap (λ (q : Here). is_place q p.0 p.1) at ∙ same_place p.0 p.1))
  fallen p before has (inr fall) apart = by_exit v before p.0 p.1 s.machine.pc s.machine.pc has fall.leaves fall.leads fall.inside fall.aligned refl

  falling : (p : ℕ × ℕ) (before : List ℕ) → Has before p.0 → GoesOn v s.machine.pc p.0 p.1 → (t : Bool) → at_fall v s.machine (Some p) ≡ t →
      AreTransfers v before ((if t then direct p.0 p.1 s.machine.pc ∷ [] else [])
      ++ (step_transfers s.machine (if t then place_of v s.machine.pc else Some p) (held_step s).machine ++ transfers v k (held_step s) (here_after v s.machine (if t then place_of v s.machine.pc else Some p) (held_step s).machine)))
  falling p before has goes true fall = (fallen p before has goes (not_twice _ true fall), settles (place_of v s.machine.pc) before refl)
  falling p before has goes false at = step_at p before has (place_is (place_of v s.machine.pc) p (not_twice _ false at))

  whole : (here : Here) (before : List ℕ) → StandsAt v s.machine before here →
      AreTransfers v before (fall_transfers v s.machine here ++ (step_transfers s.machine (settled v s.machine here) (held_step s).machine ++ transfers v k (held_step s) (here_after v s.machine (settled v s.machine here) (held_step s).machine)))
  whole None before stands = up (held_step s) None before image_next tt
  whole (Some p) before stands = falling p before stands.0 stands.1 (at_fall v s.machine (Some p)) refl

running : (v : ImageData) (k : ℕ) → Later v k → (s : FlatState) (here : Here) (before : List ℕ) → Carries (fetched s.machine.bus) v → StandsAt v s.machine before here → (t : Bool) →
    AreTransfers v before (if t then [] else fall_transfers v s.machine here ++ (step_transfers s.machine (settled v s.machine here) (held_step s).machine
    ++ transfers v k (held_step s) (here_after v s.machine (settled v s.machine here) (held_step s).machine)))
running v k up s here before image stands true = tt
running v k up s here before image stands false = whole v k up s image here before stands

all : (v : ImageData) (k : ℕ) → Later v k
unfolding transfers
all v zero s here before image stands = tt
all v (suc k) s here before image stands = running v k (all v k) s here before image stands (is_some s.machine.ending)

pub are_of_runs : AreOfRuns
are_of_runs v n f input place image is = all v n (started f input) (Some place) (place.0 ∷ []) image (inl refl, inl is)
