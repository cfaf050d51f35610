-- A hart that goes on where it stands, or enters the ram anew.
use Rattle.std.proofs.Common.{◌≡◌, ℕ, ◌+◌, ◌<◌, ◌==◌, ◌&&◌, ◌||◌, Bool, true, false, not, List, [], ◌∷◌, Option, Some, None, Result, Ok, Err, OnOk, OnErr, arith, refl, sym, ◌∙◌, ap, subst, inl, inr}
use Rattle.std.proofs.lemmas.Bool.{cases_Bool, and_parts, and_from, or_left, or_right, or_cases, both_ways, eq-eqb, eqb-true, false_from_ne_true}
use Rattle.std.specs.List.{list_any}
use Rattle.swi_calls.specs.declared.end.End.{End}
use Rattle.swi_calls.specs.declared.machine.Machine.{Machine}
use Rattle.swi_image.specs.Format.{ImageData}
use Rattle.swi_image.specs.Place.{place_of, length_at}
use Rattle.swi_image.specs.Sound.{IsImage}
use Rattle.swi_image.specs.Laws.{place_inside}
use Rattle.swi_render.specs.Carried.{GoesOn}
use Rattle.swi_rom.specs.Record.{Record, Placement, Has, Placed}
use Rattle.swi_rom.specs.Coherent.{Coherent, StandsAt}
use Rattle.swi_rom.specs.Policy.{is_placed}
use Rattle.swi_slots.specs.Slots.{Slots, kept_by, setting_of}
use Rattle.swi_outside.specs.CacheRam.{RamState}
use Rattle.swi_slots.specs.Service.{slots_service}
use Rattle.swi_board.specs.Board.{BoardOf, entries}
use Rattle.swi_board.specs.Entered.{Entered}
use Rattle.swi_hart.specs.declared.hart.Stage.TheVariants.{Start, Low, Return, Leave}
use Rattle.swi_hart.specs.declared.hart.Control.{Control}
use Rattle.swi_hart.specs.declared.hart.Control.TheVariants.{At, Outside}
use Rattle.swi_hart.specs.Hart.{HartData, is_place, index_of, place_under}
use Rattle.swi_hart.specs.Matching.{Agrees, Stands, Matches}
use Rattle.swi_board.specs.Transfers.{Here, here_of, spent, spent_by}
use Rattle.swi_hart.proofs.Fitting.{matched_fits}
use Rattle.swi_share.specs.Waiting.{WaitsAt, Holds, Waits, shows_place}
use Rattle.swi_share.specs.Shared.{Context, has_left, enters, entered_if, begun_if}
use Rattle.swi_share.specs.Event.{context, Boarded}

-- a block is among the placed ones exactly where it stands
any_has : (es : List Placement) (p b f : ℕ) → Has es (record { program = p; block = b; first = f }) → list_any (λ (e : Placement). e.program == p && e.block == b) es ≡ true
any_has [] p b f h = absurd h
any_has (e ∷ es) p b f (inl same) =
    or_left _ _ (and_from (e.program == p) (e.block == b) (eq-eqb _ _ (ap (λ (x : Placement). x.program) same)) (eq-eqb _ _ (ap (λ (x : Placement). x.block) same)))
any_has (e ∷ es) p b f (inr h) = or_right _ _ (any_has es p b f h)

place_is : (e : Placement) (p b : ℕ) → e.program ≡ p → e.block ≡ b → let x : Placement = record { program = p; block = b; first = e.first } in e ≡ x
place_is e p b f g = rw (← f, ← g) refl

has_any : (es : List Placement) (p b : ℕ) → list_any (λ (e : Placement). e.program == p && e.block == b) es ≡ true → (f : ℕ) × Has es (record { program = p; block = b; first = f })
has_any [] p b h = absurd (both_ways false refl h)
has_any (e ∷ es) p b h = elim (or_cases (e.program == p && e.block == b) (list_any (λ (x : Placement). x.program == p && x.block == b) es) h) [
  | inl t ↦ (let both = and_parts (e.program == p) (e.block == b) t in (e.first, inl (place_is e p b (eqb-true _ _ both.0) (eqb-true _ _ both.1))))
  | inr r ↦ (let w = has_any es p b r in (w.0, inr w.1))
]

pub placed_is : (r : Record) (b f : ℕ) → Placed r b f → is_placed r b ≡ true
unfolding is_placed Placed
placed_is r b f h = any_has r.placed r.turn b f h

pub is_placed_at : (r : Record) (b : ℕ) → is_placed r b ≡ true → (f : ℕ) × Placed r b f
unfolding is_placed Placed
is_placed_at r b h = has_any r.placed r.turn b h

-- a place that is shown
pub place_same : (x : Option (ℕ × ℕ)) (b o : ℕ) → is_place x b o ≡ true → x ≡ Some (b, o)
place_same None b o e = absurd (both_ways false refl e)
place_same (Some p) b o e = let both = and_parts (p.0 == b) (p.1 == o) e in some_pair p.0 b p.1 o (eqb-true _ _ both.0) (eqb-true _ _ both.1)
  where
    some_pair : (a b c d : ℕ) → a ≡ b → c ≡ d → (let x : Option (ℕ × ℕ) = Some (a, c) in let y : Option (ℕ × ℕ) = Some (b, d) in x ≡ y)
    some_pair a b c d e f = rw (e, f) refl

-- where control waits is inside its block
inside_at : (v : ImageData) (pc b o : ℕ) → IsImage v → GoesOn v pc b o → o < length_at v b
inside_at v pc b o image (inl at) = (place_inside v image pc b o at).1
inside_at v pc b o image (inr fall) = let i = fall.inside in omega (arith, i)

-- ---- the hart goes on

record GoesAt (v : ImageData) (r : Record) (m : Machine) (c : Control) : Type 0 where
  stands : Stands v r m m c
  stays : has_left r (place_under None c) ≡ false
  here : here_of v m c ≡ place_under None c
  spent_none : spent m c ≡ 0

goes_at : (v : ImageData) (r : Record) (m : Machine) (c : Control) (shown : ℕ → Option (ℕ × ℕ)) → ((i : ℕ) → StandsAt v r i (shown i)) → WaitsAt v m.pc c →
    shows_place (index_of None c) (place_under None c) shown ≡ true → GoesAt v r m c
goes_at v r m (At i b o Start) shown law at shows =
    let is = place_same (shown i) b o shows in
    let w : StandsAt v r i (Some (b, o)) = subst (λ (x : Option (ℕ × ℕ)). StandsAt v r i x) is (law i) in
    record {
      stands = ((w.0, w.1, w.3), (refl, at));
      stays = ap not (placed_is r b w.0 w.1);
      here = refl;
      spent_none = refl;
    }
goes_at v r m (At i b o Low) shown law at shows = absurd at
goes_at v r m (At i b o Return) shown law at shows = absurd at
goes_at v r m (At i b o Leave) shown law at shows = absurd at
goes_at v r m Outside shown law at shows = record { stands = (refl, at); stays = refl; here = refl; spent_none = refl }

-- ---- the context of a hart that is to make a step

begun_on : (t : Bool) (c : Context) (here : Here) → t ≡ false → c.booted ≡ true → here ≡ c.place → begun_if t c ≡ record c { booted = true; place = here }
begun_on t c here stays booted place =
    ap (λ (b : Bool). begun_if b c) stays ∙ ap (λ (b : Bool). let x : Context = record c { booted = b } in x) booted
    ∙ ap (λ (h : Here). let x : Context = record c { booted = true; place = h } in x) (sym place)

begun_anew : (t : Bool) (c : Context) (here : Here) (count : ℕ) → t ≡ true → here ≡ place_of c.image c.machine.pc → count ≡ c.count + entries c.image c.machine.pc →
    begun_if t c ≡ record c { booted = true; place = here; count = count }
begun_anew t c here count enters_now place counted =
    ap (λ (b : Bool). begun_if b c) enters_now ∙ ap (λ (h : Here). let x : Context = record c { booted = true; place = h; count = c.count + entries c.image c.machine.pc } in x) (sym place)
    ∙ ap (λ (n : ℕ). let x : Context = record c { booted = true; place = here; count = n } in x) (sym counted)

stays_in : (r : Record) (h : HartData) (v : ImageData) (left : List ℕ) → h.machine.ending ≡ None → h.booted ≡ true → has_left r (place_under None h.control) ≡ false → enters r (context h v left) ≡ false
stays_in r h v left running booted stays =
    ap (λ (b : Bool). not b || has_left r (place_under h.machine.ending h.control)) booted ∙ ap (λ (e : Option End). has_left r (place_under e h.control)) running ∙ stays

pub joined : (v : ImageData) (b : BoardOf Slots) (shown : ℕ → Option (ℕ × ℕ)) → Waits v (kept_by b.rom) b.hart → b.hart.machine.ending ≡ None → b.hart.booted ≡ true → ((i : ℕ) → StandsAt v (kept_by b.rom) i (shown i)) →
    shows_place (index_of b.hart.machine.ending b.hart.control) (place_under b.hart.machine.ending b.hart.control) shown ≡ true → Boarded v b b
joined v b shown waits running booted law shows =
    let h = b.hart in
    let r = kept_by b.rom in
    let g = goes_at v r h.machine h.control shown law (waits.stands booted running) (subst (λ (e : Option End). shows_place (index_of e h.control) (place_under e h.control) shown ≡ true) running shows) in
    let matches : Matches v r h.machine h.machine h.control = subst (λ (e : Option End). Agrees e v r h.machine h.machine h.control) (sym running) g.stands in
    record {
      hart = ap (λ (t : Bool). let x : HartData = record h { booted = t } in x) booted;
      matches = matches;
      fits = matched_fits v r h.machine h waits.image matches;
      begun = λ left. begun_on (enters r (context h v left)) (context h v left) (here_of v h.machine h.control) (stays_in r h v left running booted g.stays) booted
          (g.here ∙ ap (λ (e : Option End). place_under e h.control) (sym running));
      spent = subst (λ (e : Option End). spent_by e h.machine h.control ≡ 0) (sym running) g.spent_none;
      between = waits.between running;
      kept = λ left. ap (λ (t : Bool). entered_if t (setting_of b.rom) r (context h v left)) (sym (stays_in r h v left running booted g.stays));
    }

-- ---- the hart enters the ram anew: where it is booted, its block has left

gone : (v : ImageData) (r : Record) (span i b o : ℕ) (words : List ℕ) (shown : Option (ℕ × ℕ)) → Coherent v r span words → StandsAt v r i shown → o < length_at v b → ((f : ℕ) → Placed r b f → i ≡ f + o) → is_place shown b o ≡ false → is_placed r b ≡ false
gone v r span i b o words None coherent stands inside holds e =
    false_from_ne_true (is_placed r b) (λ (h : is_placed r b ≡ true).
    let w = is_placed_at r b h in
    let at = holds w.0 w.1 in
    let past = stands b w.0 w.1 (omega (arith, at)) in
    omega (arith, at, past, inside))
gone v r span i b o words (Some q) coherent stands inside holds e =
    false_from_ne_true (is_placed r b) (λ (h : is_placed r b ≡ true).
    let w = is_placed_at r b h in
    let at = holds w.0 w.1 in
    let same = coherent.apart b w.0 o q.0 stands.0 q.1 w.1 stands.1 inside stands.2 (sym at ∙ stands.3) in
    both_ways (is_place (Some q) b o) e (and_from (q.0 == b) (q.1 == o) (eq-eqb _ _ (sym same.0)) (eq-eqb _ _ (sym same.1))))

left_queue : (v : ImageData) (r : Record) (span : ℕ) (words : List ℕ) (pc : ℕ) (c : Control) (shown : ℕ → Option (ℕ × ℕ)) → Coherent v r span words → IsImage v → ((i : ℕ) → StandsAt v r i (shown i)) → WaitsAt v pc c → Holds r c →
    shows_place (index_of None c) (place_under None c) shown ≡ false → has_left r (place_under None c) ≡ true
left_queue v r span words pc (At i b o Start) shown coherent image law at holds shows =
    ap not (gone v r span i b o words (shown i) coherent (law i) (inside_at v pc b o image at) holds shows)
left_queue v r span words pc (At i b o Low) shown coherent image law at holds shows = absurd at
left_queue v r span words pc (At i b o Return) shown coherent image law at holds shows = absurd at
left_queue v r span words pc (At i b o Leave) shown coherent image law at holds shows = absurd at
left_queue v r span words pc Outside shown coherent image law at holds shows = absurd (both_ways true shows refl)

and_no : (x y : Bool) → (x && y) ≡ false → x ≡ true → y ≡ false
and_no x y e t = sym (ap (λ (b : Bool). b && y) t) ∙ e

pub is_anew : (v : ImageData) (r : Record) (span : ℕ) (words : List ℕ) (h : HartData) (shown : ℕ → Option (ℕ × ℕ)) → Waits v r h → h.machine.ending ≡ None → Coherent v r span words → IsImage v → ((i : ℕ) → StandsAt v r i (shown i)) →
    (h.booted && shows_place (index_of h.machine.ending h.control) (place_under h.machine.ending h.control) shown) ≡ false → (left : List ℕ) → enters r (context h v left) ≡ true
is_anew v r span words h shown waits running coherent image law e left = elim (cases_Bool h.booted) [
  | inl booted ↦ (
      let not_shown = subst (λ (x : Option End). shows_place (index_of x h.control) (place_under x h.control) shown ≡ false) running (and_no h.booted _ e booted) in
      ap (λ (b : Bool). not b || has_left r (place_under h.machine.ending h.control)) booted ∙ ap (λ (x : Option End). has_left r (place_under x h.control)) running
      ∙ left_queue v r span words h.machine.pc h.control shown coherent image law (waits.stands booted running) (waits.holds booted running) not_shown)
  | inr new ↦ ap (λ (b : Bool). not b || has_left r (place_under h.machine.ending h.control)) new
]

-- a board of a hart and slots that entered a ram with these words before and after
abbrev pub EnteredAs : ImageData → BoardOf Slots → RamState → BoardOf Slots → RamState → Type 0
EnteredAs v old before b after = Entered slots_service v old.hart (record { rom = old.rom; ram = before }) (record { hart = b.hart; rom = b.rom; ram = after })

pub entered : {T E : Type 0} (v : ImageData) (old b : BoardOf Slots) (before after : RamState) (result : Result T E) → ((left : List ℕ) → enters (kept_by old.rom) (context old.hart v left) ≡ true) →
    OnOk result (EnteredAs v old before b after) → OnOk result (Boarded v old b)
entered v old b before after (Ok x) anew e =
    let count : b.hart.count ≡ old.hart.count + entries v old.hart.machine.pc = ap (λ (h : HartData). h.count) e.hart in
    record {
      hart = e.hart ∙ ap (λ (n : ℕ). let x : HartData = record old.hart { control = b.hart.control; count = n; booted = true } in x) (sym count);
      matches = e.matches;
      fits = e.fits;
      begun = λ left. begun_anew (enters (kept_by old.rom) (context old.hart v left)) (context old.hart v left) (here_of v old.hart.machine b.hart.control) b.hart.count (anew left) e.here count;
      spent = e.spent;
      between = e.between;
      kept = λ left. e.policy ∙ ap (λ (t : Bool). entered_if t (setting_of old.rom) (kept_by old.rom) (context old.hart v left)) (sym (anew left));
    }
entered v old b before after (Err x) anew e = tt

pub on_err : {T E P : Type 0} (result : Result T E) → P → OnErr result P
on_err (Ok x) p = tt
on_err (Err e) p = p
