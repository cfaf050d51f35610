-- The exit behind a block's last text word is made, or the run stands at none.
use Rattle.std.proofs.Common.{◌≡◌, ℕ, suc, ◌+◌, ◌^◌, ◌<◌, Bool, true, false, not, [], ◌∷◌, length, Option, Some, None, if◌then◌else◌, arith, refl, sym, ◌∙◌, ap, subst}
use Rattle.swi_calls.specs.declared.machine.Machine.{Machine}
use Rattle.swi_image.specs.Format.{ImageData}
use Rattle.swi_image.specs.Place.{place_of, place_of_word}
use Rattle.swi_program.specs.Text.{TextData}
use Rattle.swi_render.specs.Rendering.{falls_of, sum}
use Rattle.swi_render.specs.ImageOf.{address_of, rendering_at}
use Rattle.swi_rom.specs.Record.{direct}
use Rattle.swi_hart.specs.Hart.{is_place}
use Rattle.swi_board.specs.Transfers.{Here as Place, at_fall, fall_transfers}
use Rattle.swi_board.proofs.Counting.{place_not_fall}
use Rattle.swi_tally.specs.declared.exits.Exit.{Exit}
use Rattle.swi_tally.specs.Tallies.{AllServed, AreServing}
use Rattle.swi_tally.proofs.Siding.{all_serving}
use Rattle.swi_survey.specs.declared.track.Here.{Here}
use Rattle.swi_survey.specs.declared.track.Here.TheVariants as here
use Rattle.swi_survey.specs.declared.track.Track.{Track}
use Rattle.swi_survey.specs.declared.ways.Ways.{Ways}
use Rattle.swi_survey.specs.Ways.{AreWays, HasNumber, exit_behind, exit_to, instr_at, place_behind}
use Rattle.swi_survey.specs.Track.{Settles, Stands, StandsAt, StandsBehind, behind_if, place_at}
use Rattle.swi_survey.proofs.Places.{Ground, place_here, some_place}
use Rattle.swi_survey.proofs.Rows.{all_none, all_one, as_list}

fall_none : (v : ImageData) (f : Machine) (h : Place) → at_fall v f h ≡ false → fall_transfers v f h ≡ []
fall_none v f None off = refl
fall_none v f (Some p) off = ap (λ (b : Bool). if b then direct p.0 p.1 f.pc ∷ [] else []) off

fall_one : (v : ImageData) (f : Machine) (h : Place) (p : ℕ × ℕ) → h ≡ Some p → at_fall v f (Some p) ≡ true → fall_transfers v f h ≡ direct p.0 p.1 f.pc ∷ []
fall_one v f h p is on = ap (fall_transfers v f) is ∙ ap (λ (b : Bool). if b then direct p.0 p.1 f.pc ∷ [] else []) on

pub settled_same : (t : TextData) (v : ImageData) (f : Machine) (pc : ℕ) (k : Track) → Ground t v → StandsAt t pc k.here → pc < 2 ^ 32 → f.pc ≡ pc → Settles t v f k k
settled_same t v f pc k g at small same =
    let here_is : place_at t v k.here ≡ place_of v f.pc = place_here t v pc k.here g at small ∙ ap (place_of v) (sym same) in
    let off : at_fall v f (place_at t v k.here) ≡ false = ap (at_fall v f) here_is ∙ place_not_fall v f in
    let none : ◌≡◌ {A = ℕ} (if at_fall v f (place_at t v k.here) then 1 else 0) 0 = ap (λ (b : Bool). if b then 1 else 0) off in
    record {
      moves = record {
        rows = as_list v [] (fall_transfers v f (place_at t v k.here)) k.caches k.caches (sym (fall_none v f (place_at t v k.here) off)) (all_none v k.caches);
        serving = λ n h. all_serving v k.caches n h;
        exits = refl;
        ways = refl;
        gates = refl;
        place_is = sym (ap (λ (b : Bool). if b then place_of v f.pc else place_at t v k.here) off);
        fetches_are = omega (arith, none);
        outside_is = omega arith;
      };
      stands = subst (λ (n : ℕ). StandsAt t n k.here) (sym same) at;
    }

-- a run that does not stand behind a text word
pub not_behind : (t : TextData) (v : ImageData) (pc : ℕ) (h : Here) → Stands t v pc h → ((k : ℕ) → h ≡ here.Behind k → ⊥) → StandsAt t pc h
not_behind t v pc (here.At k) at none = at
not_behind t v pc (here.Behind k) at none = absurd (none k refl)
not_behind t v pc here.Outside at none = at

module _ (t : TextData) (v : ImageData) (f : Machine) (pc k : ℕ) (old new : Track) (w : Ways) (g : Ground t v) (is : old.here ≡ here.Behind k) (at : StandsBehind t v pc k) (small : pc < 2 ^ 32) (same : f.pc ≡ pc)
    (ways : AreWays t v old.caches.exits k w) where
  abbrev p : ℕ × ℕ
  p = place_of_word v k

  here_is : place_at t v old.here ≡ Some (place_behind t k p)
  here_is = ap (place_at t v) is ∙ ap (behind_if t k) (some_place t v k g at.word)

  falls_here : at_fall v f (Some (place_behind t k p)) ≡ true
  falls_here = ap (λ (n : ℕ). not (is_place (place_of v n) p.0 (p.1 + length (rendering_at t k)))) (same ∙ at.pc_is) ∙ at.last p (some_place t v k g at.word)

  exit_is : exit_behind t v k p ≡ exit_to v (place_behind t k p) f.pc
  exit_is =
      ap (λ (b : Bool). if b then (if falls_of (instr_at t k) then exit_to v (place_behind t k p) (sum (address_of t k) 4) else None) else None) (at.last p (some_place t v k g at.word))
      ∙ ap (λ (b : Bool). if b then exit_to v (place_behind t k p) (sum (address_of t k) 4) else None) at.falls
      ∙ ap (λ (n : ℕ). exit_to v (place_behind t k p) n) (sym (same ∙ at.pc_is))

  numbered : HasNumber old.caches.exits (exit_to v (place_behind t k p) f.pc) w.behind
  numbered = subst (λ (x : Option Exit). HasNumber old.caches.exits x w.behind) exit_is (ways.behind p (some_place t v k g at.word))

  pub settled_behind : ((q : ℕ × ℕ) (a : ℕ) → HasNumber old.caches.exits (exit_to v q a) w.behind → AllServed v (direct q.0 q.1 a) old.caches new.caches) →
      ((n : ℕ) → AreServing v n old.caches → AreServing v (suc n) new.caches) → new.caches.exits ≡ old.caches.exits → new.ways.items ≡ old.ways.items → new.gates.items ≡ old.gates.items → new.fetches ≡ old.fetches + 1 → new.outside ≡ old.outside →
      StandsAt t pc new.here → Settles t v f old new
  settled_behind served serving exits same_ways same_gates fetches outside stands =
      let on : at_fall v f (place_at t v old.here) ≡ true = ap (at_fall v f) here_is ∙ falls_here in
      let one : ◌≡◌ {A = ℕ} (if at_fall v f (place_at t v old.here) then 1 else 0) 1 = ap (λ (b : Bool). if b then 1 else 0) on in
      record {
        moves = record {
          rows = as_list v _ (fall_transfers v f (place_at t v old.here)) old.caches new.caches
              (sym (fall_one v f (place_at t v old.here) (place_behind t k p) here_is falls_here))
              (all_one v (direct p.0 (p.1 + length (rendering_at t k)) f.pc) old.caches new.caches (served (place_behind t k p) f.pc numbered));
          serving = serving;
          exits = exits;
          ways = same_ways;
          gates = same_gates;
          place_is = place_here t v pc new.here g stands small ∙ ap (place_of v) (sym same)
              ∙ sym (ap (λ (b : Bool). if b then place_of v f.pc else place_at t v old.here) on);
          fetches_are = omega (arith, fetches, one);
          outside_is = omega (arith, outside);
        };
        stands = subst (λ (n : ℕ). StandsAt t n new.here) (sym same) stands;
      }
