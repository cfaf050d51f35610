-- Where a hart stands that the image fits.
use Rattle.std.proofs.Common.{◌≡◌, ℕ, List, true, Option, Some, None, refl, sym, ap, subst, inl, inr}
use Rattle.std.proofs.lemmas.Bool.{false≢true}
use Rattle.swi_memory.specs.Bus.{AreaData, fetched}
use Rattle.swi_exec.specs.Registers.{Registers}
use Rattle.swi_calls.specs.declared.end.End.{End}
use Rattle.swi_calls.specs.declared.machine.Machine.{Machine}
use Rattle.swi_image.specs.Format.{ImageData}
use Rattle.swi_image.specs.Place.{place_of}
use Rattle.swi_render.specs.Carried.{Carries}
use Rattle.swi_rom.specs.Record.{Record}
use Rattle.swi_hart.specs.declared.hart.Stage.{Stage}
use Rattle.swi_hart.specs.declared.hart.Stage.TheVariants.{Start, Low, Return, Leave}
use Rattle.swi_hart.specs.declared.hart.Control.{Control}
use Rattle.swi_hart.specs.declared.hart.Control.TheVariants.{At, Outside}
use Rattle.swi_hart.specs.Hart.{HartData, is_between}
use Rattle.swi_hart.specs.Matching.{IsIn, AtLow, AtReturn, AtExit, AtTaken, StageAt, Agrees, Matches, PlaceAt, StandsBy, Fits}

-- the place under control of a hart that goes on
pub place_under_control : (v : ImageData) (r : Record) (h : HartData) (i b o : ℕ) (stage : Stage) → Fits v r h → h.control ≡ At i b o stage → h.machine.ending ≡ None → IsIn r i b o × PlaceAt stage v b o h.machine
place_under_control v r h i b o stage fits control running =
    subst (λ (c : Control). StandsBy None v r h.machine c) control (subst (λ (e : Option End). StandsBy e v r h.machine h.control) running fits.place)

pub place_outside : (v : ImageData) (r : Record) (h : HartData) → Fits v r h → h.control ≡ Outside → h.machine.ending ≡ None → place_of v h.machine.pc ≡ None
place_outside v r h fits control running =
    subst (λ (c : Control). StandsBy None v r h.machine c) control (subst (λ (e : Option End). StandsBy e v r h.machine h.control) running fits.place)

stands_with : (e : Option End) (v : ImageData) (r : Record) (m : Machine) (c : Control) (regs : Registers) → StandsBy e v r m c → StandsBy e v r (record m { regs = regs }) c
stands_with None v r m (At i b o Start) regs s = s
stands_with None v r m (At i b o Low) regs (at, a) = (at, record { rd = a.rd; imm = a.imm; behind = record { at = a.behind.at; w = a.behind.w; fetch = a.behind.fetch; is = a.behind.is; start = a.behind.start; offset = a.behind.offset } })
stands_with None v r m (At i b o Return) regs (at, a) = (at, record { rd = a.rd; off = a.off; linking = a.linking; behind = record { at = a.behind.at; w = a.behind.w; fetch = a.behind.fetch; is = a.behind.is; start = a.behind.start; offset = a.behind.offset } })
stands_with None v r m (At i b o Leave) regs (at, inl a) = (at, inl (record { rd = a.rd; off = a.off; linking = a.linking; behind = record { at = a.behind.at; w = a.behind.w; fetch = a.behind.fetch; is = a.behind.is; start = a.behind.start; offset = a.behind.offset } }))
stands_with None v r m (At i b o Leave) regs (at, inr a) = (at, inr (record { op = a.op; rs1 = a.rs1; rs2 = a.rs2; off = a.off; behind = record { at = a.behind.at; w = a.behind.w; fetch = a.behind.fetch; is = a.behind.is; start = a.behind.start; offset = a.behind.offset } }))
stands_with None v r m Outside regs s = s
stands_with (Some e) v r m c regs s = s

-- the registers may be any
pub with_registers : (v : ImageData) (r : Record) (h : HartData) (regs : Registers) → Fits v r h → Fits v r (record h { machine = record h.machine { regs = regs } })
with_registers v r h regs fits = record { image = fits.image; place = stands_with h.machine.ending v r h.machine h.control regs fits.place }

-- between two instructions the hart matches its own machine
pub own_matches : (v : ImageData) (r : Record) (m : Machine) (c : Control) → is_between c ≡ true → StandsBy m.ending v r m c → Matches v r m m c
own_matches v r m c between stands = by m.ending c between stands
  where
    by : (e : Option End) (c : Control) → is_between c ≡ true → StandsBy e v r m c → Agrees e v r m m c
    by None (At i b o Start) t s = (s.0, (refl, s.1))
    by None (At i b o Low) t s = absurd (false≢true t)
    by None (At i b o Return) t s = absurd (false≢true t)
    by None (At i b o Leave) t s = absurd (false≢true t)
    by None Outside t s = (refl, s)
    by (Some e) c t s = refl

-- a hart that matches a machine stands where the image has what stands for its instruction, and fetches the same text
record PlacedLike (v : ImageData) (b o : ℕ) (stage : Stage) (f m : Machine) : Type 0 where
  place : PlaceAt stage v b o m
  bus : m.bus ≡ f.bus

low_like : (v : ImageData) (b o : ℕ) (f m : Machine) → AtLow v b o f m → PlacedLike v b o Low f m
low_like v b o f m a = subst (λ (k : Machine). PlacedLike v b o Low f k) (sym a.done) (record {
  place = record { rd = a.rd; imm = a.imm; behind = record { at = a.at; w = a.w; fetch = a.fetch; is = a.is; start = a.start; offset = a.offset } };
  bus = refl;
})

return_like : (v : ImageData) (b o : ℕ) (f m : Machine) → AtReturn v b o f m → PlacedLike v b o Return f m
return_like v b o f m a = subst (λ (k : Machine). PlacedLike v b o Return f k) (sym a.done) (record {
  place = record { rd = a.rd; off = a.off; linking = a.linking; behind = record { at = a.at; w = a.w; fetch = a.fetch; is = a.is; start = a.start; offset = a.offset } };
  bus = refl;
})

exit_like : (v : ImageData) (b o : ℕ) (f m : Machine) → AtExit v b o f m → PlacedLike v b o Leave f m
exit_like v b o f m a = subst (λ (k : Machine). PlacedLike v b o Leave f k) (sym a.done) (record {
  place = inl (record { rd = a.rd; off = a.off; linking = a.linking; behind = record { at = a.at; w = a.w; fetch = a.fetch; is = a.is; start = a.start; offset = a.offset } });
  bus = refl;
})

taken_like : (v : ImageData) (b o : ℕ) (f m : Machine) → AtTaken v b o f m → PlacedLike v b o Leave f m
taken_like v b o f m a = subst (λ (k : Machine). PlacedLike v b o Leave f k) (sym a.done) (record {
  place = inr (record { op = a.op; rs1 = a.rs1; rs2 = a.rs2; off = a.off; behind = record { at = a.at; w = a.w; fetch = a.fetch; is = a.is; start = a.start; offset = a.offset } });
  bus = refl;
})

stage_like : (stage : Stage) (v : ImageData) (b o : ℕ) (f m : Machine) → StageAt stage v b o f m → PlacedLike v b o stage f m
stage_like Start v b o f m (same, goes) = subst (λ (k : Machine). PlacedLike v b o Start f k) (sym same) (record { place = goes; bus = refl })
stage_like Low v b o f m a = low_like v b o f m a
stage_like Return v b o f m a = return_like v b o f m a
stage_like Leave v b o f m (inl a) = exit_like v b o f m a
stage_like Leave v b o f m (inr a) = taken_like v b o f m a

-- so the image fits it
pub matched_fits : (v : ImageData) (r : Record) (f : Machine) (h : HartData) → Carries (fetched f.bus) v → Matches v r f h.machine h.control → Fits v r h
matched_fits v r f h image matches =
    let all = by h.machine.ending h.control matches in
    record { image = subst (λ (bus : List AreaData). Carries (fetched bus) v) (sym all.1) image; place = all.0 }
  where
    by : (e : Option End) (c : Control) → Agrees e v r f h.machine c → StandsBy e v r h.machine c × (h.machine.bus ≡ f.bus)
    by None (At i b o stage) is = let k = stage_like stage v b o f h.machine is.1 in ((is.0, k.place), k.bus)
    by None Outside is = (subst (λ (k : Machine). place_of v k.pc ≡ None) (sym is.0) is.1, ap (λ (k : Machine). k.bus) is.0)
    by (Some e) c is = (tt, ap (λ (k : Machine). k.bus) is)
