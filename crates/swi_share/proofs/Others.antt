-- What an event of one program leaves of the others' blocks: none of them comes, and those that stay stand where they stood.
use Rattle.std.proofs.Common.{◌≡◌, ◌⊎◌, ℕ, Bool, true, false, List, [], ◌∷◌, ◌++◌, length, Option, Some, None, is_some, if◌then◌else◌, nat_lt, refl, sym, ◌∙◌, ap, subst, inl, inr}
use Rattle.swi_image.specs.Format.{ImageData}
use Rattle.swi_image.specs.Place.{place_of}
use Rattle.swi_rom.specs.Record.{Record, Placement, Has, Placed, Transfer, direct, indirect, target_of}
use Rattle.swi_rom.specs.Service.{Setting}
use Rattle.swi_rom.specs.Policy.{served_by, went, linked, linked_over, is_over_link, evicted, counted, is_placed, with_link}
use Rattle.swi_slots.specs.Fifo.{fifo, arrived, appended}
use Rattle.swi_hart.specs.Leaving.{moved}
use Rattle.swi_hart.specs.Hart.{HartData}
use Rattle.swi_hart.specs.declared.hart.Control.{Control}
use Rattle.swi_hart.specs.declared.hart.Control.TheVariants.{At, Outside}
use Rattle.swi_board.specs.Transfers.{after_all, transfers}
use Rattle.swi_share.specs.Shared.{Context, enters, entered_if, begun_if, event_of, flat_of}
use Rattle.swi_share.specs.Waiting.{Holds, Waits}

-- the same program is in turn, and another program's block that stands stood
pub record Passes (r t : Record) : Type 0 where
  pub turn : t.turn ≡ r.turn
  pub stood : (e : Placement) → (e.program ≡ r.turn → ⊥) → Has t.placed e → Has r.placed e

pub passes_none : (r : Record) → Passes r r
passes_none r = record { turn = refl; stood = λ e ne h. h }

pub passes_more : (r s t : Record) → Passes r s → Passes s t → Passes r t
passes_more r s t p q = record { turn = q.turn ∙ p.turn; stood = λ e ne h. p.stood e ne (q.stood e (λ (x : e.program ≡ s.turn). ne (x ∙ p.turn)) h) }

evicted_passes : (r : Record) (es : List Placement) → r.placed ≡ es → Passes r (evicted r es)
unfolding evicted
evicted_passes r [] is = passes_none r
evicted_passes r (e ∷ es) is = record { turn = refl; stood = λ x ne h. subst (λ (xs : List Placement). Has xs x) (sym is) (inr h) }

has_append : (xs : List Placement) (y x : Placement) → Has (xs ++ y ∷ []) x → Has xs x ⊎ (y ≡ x)
has_append [] y x (inl e) = inr e
has_append [] y x (inr h) = absurd h
has_append (z ∷ xs) y x (inl e) = inl (inl e)
has_append (z ∷ xs) y x (inr h) = elim (has_append xs y x h) [ inl a ↦ inl (inr a) | inr b ↦ inr b ]

appended_passes : (by : Setting) (v : ImageData) (r m : Record) (c : ℕ) → Passes r m → Passes r (appended by v m c)
unfolding appended
appended_passes by v r m c p = record {
  turn = p.turn;
  stood = λ e ne h. elim (has_append m.placed _ e h) [
    | inl a ↦ p.stood e ne a
    | inr same ↦ absurd (ne (sym (ap (λ (x : Placement). x.program) same) ∙ p.turn))
  ];
}

room_passes : (t : Bool) (r : Record) → Passes r (if t then r else evicted r r.placed)
room_passes true r = passes_none r
room_passes false r = evicted_passes r r.placed refl

arrived_in : (t : Bool) (by : Setting) (v : ImageData) (r : Record) (c : ℕ) →
    Passes r (if t then r else appended by v (if nat_lt (length r.placed) by.slots then r else evicted r r.placed) c)
arrived_in true by v r c = passes_none r
arrived_in false by v r c = appended_passes by v r _ c (room_passes (nat_lt (length r.placed) by.slots) r)

counted_passes : (r : Record) → Passes r (counted r)
unfolding counted
counted_passes r = record { turn = refl; stood = λ e ne h. h }

arrived_passes : (by : Setting) (v : ImageData) (r : Record) (c : ℕ) → Passes r (arrived by v r c)
unfolding arrived
arrived_passes by v r c = arrived_in (is_placed r c) by v r c

linked_in : (t : Bool) (r s : Record) → s.turn ≡ r.turn → s.placed ≡ r.placed → Passes r (if t then s else r)
linked_in true r s turn same = record { turn = turn; stood = λ e ne h. subst (λ (xs : List Placement). Has xs e) same h }
linked_in false r s turn same = passes_none r

linked_passes : (r : Record) (t : Transfer) (p : ℕ × ℕ) → Passes r (linked_over with_link r t p)
unfolding linked
linked_passes r (direct b o t) p = linked_in _ r _ refl refl
linked_passes r (indirect t) p = passes_none r

went_passes : (by : Setting) (v : ImageData) (r : Record) (t : Transfer) (p : Option (ℕ × ℕ)) → Passes r (went arrived with_link by v r t p)
unfolding went
went_passes by v r t None = passes_none r
went_passes by v r t (Some p) =
    passes_more r (counted r) _ (counted_passes r) (passes_more (counted r) (arrived by v (counted r) p.0) _ (arrived_passes by v (counted r) p.0) (linked_passes _ t p))

fifo_in : (t : Bool) (r s : Record) → Passes r s → Passes r (if t then r else s)
fifo_in true r s p = passes_none r
fifo_in false r s p = p

fifo_passes : (by : Setting) (r : Record) (v : ImageData) (t : Transfer) → Passes r (fifo by r v t)
unfolding served_by
fifo_passes by r v t = fifo_in (is_over_link r t) r _ (went_passes by v r t (place_of v (target_of t)))

all_passes : (by : Setting) (v : ImageData) (r : Record) (ts : List Transfer) → Passes r (after_all (fifo by) v r ts)
all_passes by v r [] = passes_none r
all_passes by v r (t ∷ ts) = passes_more r (fifo by r v t) _ (fifo_passes by r v t) (all_passes by v (fifo by r v t) ts)

entered_passes : (t : Bool) (by : Setting) (r : Record) (c : Context) → Passes r (entered_if t by r c)
entered_passes false by r c = passes_none r
entered_passes true by r c = at (is_some (place_of c.image c.machine.pc))
  where
    at : (t : Bool) → Passes r (moved (fifo by) r c.image (if t then Some (indirect c.machine.pc) else None))
    at true = fifo_passes by r c.image (indirect c.machine.pc)
    at false = passes_none r

-- an event
pub event_passes : (by : Setting) (r : Record) (c : Context) → Passes r (event_of by r c).kept
event_passes by r c =
    let b = begun_if (enters r c) c in
    passes_more r (entered_if (enters r c) by r c) _ (entered_passes (enters r c) by r c) (all_passes by b.image (entered_if (enters r c) by r c) (transfers b.image 1 (flat_of b) b.place))

holds_on : (p : ℕ) (r t : Record) (c : Control) → Passes r t → (p ≡ r.turn → ⊥) → Holds (record r { turn = p }) c → Holds (record t { turn = p }) c
unfolding Placed
holds_on p r t (At i b o stage) pass ne holds = λ f h. holds f (pass.stood (record { program = p; block = b; first = f }) ne h)
holds_on p r t Outside pass ne holds = tt

-- an event of another program changes nothing for the hart
pub waits_on : (v : ImageData) (p : ℕ) (r t : Record) (h : HartData) → Passes r t → (p ≡ r.turn → ⊥) → Waits v (record r { turn = p }) h → Waits v (record t { turn = p }) h
waits_on v p r t h pass ne w = record {
  image = w.image;
  unfailed = w.unfailed;
  between = w.between;
  stands = w.stands;
  holds = λ booted going. holds_on p r t h.control pass ne (w.holds booted going);
  bounded = w.bounded;
  unbooted = w.unbooted;
}
