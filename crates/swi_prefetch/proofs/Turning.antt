-- A turn of the engine leaves the hart where it stands.
use Rattle.std.proofs.Common.{◌≡◌, ℕ, ◌≤◌, Bool, Option, Some, None, Result, Ok, Err, IfOk, arith, refl, sym, ◌∙◌, ap, subst}
use Rattle.swi_calls.specs.declared.end.End.{End}
use Rattle.swi_image.specs.Format.{ImageData}
use Rattle.swi_rom.specs.Record.{Record, Placed}
use Rattle.swi_rom.specs.Service.{ServiceOf, Setting}
use Rattle.swi_hart.specs.declared.hart.Control.{Control}
use Rattle.swi_hart.specs.declared.hart.Control.TheVariants.{At, Outside}
use Rattle.swi_hart.specs.Hart.{HartData, place_under}
use Rattle.swi_hart.specs.Matching.{StandsBy, Fits}
use Rattle.swi_hart.specs.MachineStep.{BoardWithRam}
use Rattle.swi_hart.specs.Service.{ServiceWithRam}
use Rattle.swi_hart.specs.Staying.{StaysAt, StaysUnder, fits_on, matches_on}
use Rattle.swi_outside.specs.CacheRam.{RamState}
use Rattle.swi_engine.specs.Engine.{Event}
use Rattle.swi_engine.specs.Worked.{GoesTo}
use Rattle.swi_prefetch.specs.Engines.{EngineOf, IsEngine, EventMade}
use Rattle.swi_prefetch.specs.Turns.{Beside, EngineTurned, event_at}

-- the block under control is placed
pub under_placed : (v : ImageData) (r : Record) (h : HartData) (p : ℕ × ℕ) → Fits v r h → place_under h.machine.ending h.control ≡ Some p → (f : ℕ) × Placed r p.0 f
under_placed v r h p fits under = by_parts h.machine.ending h.control fits.place under
  where
    by_parts : (e : Option End) (c : Control) → StandsBy e v r h.machine c → place_under e c ≡ Some p → (f : ℕ) × Placed r p.0 f
    by_parts None (At i b o stage) is under = let same : b ≡ p.0 = ap (λ (q : Option (ℕ × ℕ)). first q) under in (is.0.0, subst (λ (x : ℕ). Placed r x is.0.0) same is.0.1)
      where
        first : Option (ℕ × ℕ) → ℕ
        first None = 0
        first (Some q) = q.0
    by_parts None Outside is under = absurd cc
    by_parts (Some e) c is under = absurd cc

same_services : (o : Option Event) (wrote : Bool) (span : ℕ) (r r' : Record) (a b : RamState) → ((n : Event) → o ≡ Some n → n.next.counts.services ≡ r.counts.services) → GoesTo o wrote span r r' a b → r'.counts.services ≡ r.counts.services
same_services None wrote span r r' a b quiet goes = ap (λ (x : Record). x.counts.services) goes.1
same_services (Some n) wrote span r r' a b quiet goes = ap (λ (x : Record). x.counts.services) goes.1 ∙ quiet n refl

-- what an event leaves under control
pub stays_under : {S : Type 0} (k : ServiceOf S) (e : EngineOf) (v : ImageData) (h : HartData) (p : ℕ × ℕ) (a b : ServiceWithRam S) (wrote : Bool) → place_under h.machine.ending h.control ≡ Some p → EventMade k e v p.0 a b wrote →
    StaysUnder (k.kept a.rom) (k.kept b.rom) h.machine h.control
stays_under k e v h p a b wrote under made = subst (λ (o : Option (ℕ × ℕ)). StaysAt (k.kept a.rom) (k.kept b.rom) o) (sym under) made.stays

-- no part of the extent is given back
pub same_extent : {S : Type 0} (k : ServiceOf S) (by : Setting) (o : Option Event) (wrote : Bool) (span : ℕ) (r r' : Record) (a b : RamState) → ((n : Event) → o ≡ Some n → k.extent by r ≤ k.extent by n.next) →
    GoesTo o wrote span r r' a b → k.extent by r ≤ k.extent by r'
same_extent k by None wrote span r r' a b rises goes = let same = ap (λ (x : Record). k.extent by x) goes.1 in omega (arith, same)
same_extent k by (Some n) wrote span r r' a b rises goes = let same = ap (λ (x : Record). k.extent by x) goes.1 in omega (arith, same, rises n refl)

abbrev pub board_with : {S : Type 0} → HartData → ServiceWithRam S → BoardWithRam S
board_with h s = record { hart = h; rom = s.rom; ram = s.ram }

-- the turn is the event
pub turned_on : {S E : Type 0} (k : ServiceOf S) (e : EngineOf) (v : ImageData) (h : HartData) (p : ℕ × ℕ) (a b : ServiceWithRam S) (result : Result Bool E) → IsEngine k e → place_under h.machine.ending h.control ≡ Some p →
    IfOk result (λ (wrote : Bool). EventMade k e v p.0 a b wrote) → Beside k v (board_with h a) → IfOk result (λ (wrote : Bool). EngineTurned k e v (board_with h a) (board_with h b) wrote)
turned_on k e v h p a b (Err x) laws under made beside = tt
turned_on k e v h p a b (Ok wrote) laws under made beside =
    let stays = stays_under k e v h p a b wrote under made in
    let services = same_services _ wrote _ (k.kept a.rom) (k.kept b.rom) a.ram b.ram (λ x is. laws.uncounted _ _ v p.0 x is) made.moves in
    record {
      hart = refl;
      moves = subst (λ (o : Option (ℕ × ℕ)). GoesTo (event_at (e.event (k.setting a.rom)) (k.kept a.rom) v o) wrote (k.span (k.setting a.rom)) (k.kept a.rom) (k.kept b.rom) a.ram b.ram) (sym under) made.moves;
      stays = stays;
      unused = made.unused;
      grows = same_extent k (k.setting a.rom) _ wrote _ (k.kept a.rom) (k.kept b.rom) a.ram b.ram (λ x is. laws.extent_rises _ _ v p.0 x is) made.moves;
      matches = λ f was. matches_on v (k.kept a.rom) (k.kept b.rom) f h.machine h.control stays was;
      beside = record {
        fits = fits_on v (k.kept a.rom) (k.kept b.rom) h stays beside.fits;
        sound = made.sound;
        unfailed = beside.unfailed;
        booted = beside.booted;
        steps_few = beside.steps_few;
        services_few = λ going. let few = beside.services_few going in omega (arith, services, few);
      };
      setting = made.setting;
      words_few = made.words_few;
    }
