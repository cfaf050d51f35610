-- Words that are compared with what is asked of them.
use Rattle.std.proofs.Common.{◌≡◌, ◌≢◌, ℕ, ◌+◌, ◌-◌, ◌^◌, ◌<◌, ◌≤◌, List, length, get_or, arith, refl, ap, ◌∙◌, sym, subst, inl, inr}
use Rattle.std.proofs.lemmas.Bool.{cases_lt}
use Rattle.swi_render.specs.Rendering.{Slot, As, IsThe, AreThe}
use Rattle.swi_render.specs.ImageOf.{pad}
use Rattle.swi_render.specs.Among.{StandIn}
use Rattle.swi_render.proofs.Lists.{the_each, the_length}
use Rattle.swi_check.specs.Mismatches.{WordsRight, IsWrongWord}

-- the first n words from a place on are these
abbrev pub AreHeld : List ℕ → List ℕ → ℕ → ℕ → Type 0
AreHeld xs required from n = (j : ℕ) → j < n → get_or xs (from + j) 0 ≡ get_or required j 0

pub part_right : (ss rr : List Slot) (xs required : List ℕ) (from n to : ℕ) → AreThe rr required → StandIn ss rr from → WordsRight ss xs from → n ≤ length required → AreHeld xs required from n →
    to ≡ from + n → WordsRight ss xs to
part_right ss rr xs required from n to e s w few held is o within = elim (cases_lt o from) [
  | inl old ↦ w o old
  | inr new ↦
      let j : ℕ = o - from in
      let on : from + j ≡ o = omega arith in
      let inside : j < length rr = omega (arith, the_length rr required e) in
      let here : As (get_or ss (from + j) pad).asked (get_or xs (from + j) 0) =
      subst (λ (q : Slot). As q.asked (get_or xs (from + j) 0)) (sym (s.each j inside))
      (subst (λ (x : ℕ). As (get_or rr j pad).asked x) (sym (held j (omega arith))) (the_each rr required e j inside).here) in
      rw on at here
]

pub part_wrong : (ss rr : List Slot) (xs required : List ℕ) (from j offset held asked : ℕ) → AreThe rr required → StandIn ss rr from → WordsRight ss xs from → j < length required → AreHeld xs required from j →
    offset ≡ from + j → held ≡ get_or xs offset 0 → held < 2 ^ 32 → asked ≡ get_or required j 0 → held ≢ asked → IsWrongWord ss xs offset held asked
part_wrong ss rr xs required from j offset held asked e s w within before on is small asked_is differs =
    let inside : j < length rr = omega (arith, the_length rr required e) in
    let slot : get_or ss offset pad ≡ get_or rr j pad = ap (λ (n : ℕ). get_or ss n pad) on ∙ s.each j inside in
    let the : IsThe (get_or rr j pad).asked asked = subst (λ (x : ℕ). IsThe (get_or rr j pad).asked x) (sym asked_is) (the_each rr required e j inside) in
    record {
      within = omega (arith, s.fits);
      before = part_right ss rr xs required from j offset e s w (omega arith) before on;
      held_is = is;
      required_is = subst (λ (q : Slot). IsThe q.asked asked) (sym slot) the;
      wrong = λ a. differs (the.only held small (subst (λ (q : Slot). As q.asked held) slot a));
    }

-- zeros, where nothing else is asked

pub zeros_right : (ss : List Slot) (xs : List ℕ) (from to : ℕ) → ((o : ℕ) → from ≤ o → get_or ss o pad ≡ pad) → WordsRight ss xs from →
    ((o : ℕ) → from ≤ o → o < to → get_or xs o 0 ≡ 0) → WordsRight ss xs to
zeros_right ss xs from to behind w zeros o within = elim (cases_lt o from) [
  | inl old ↦ w o old
  | inr new ↦ subst (λ (q : Slot). As q.asked (get_or xs o 0)) (sym (behind o new)) (zeros o new within)
]

pub zeros_wrong : (ss : List Slot) (xs : List ℕ) (from offset held : ℕ) → ((o : ℕ) → from ≤ o → get_or ss o pad ≡ pad) → WordsRight ss xs from → length xs ≤ length ss →
    ((o : ℕ) → from ≤ o → o < offset → get_or xs o 0 ≡ 0) → from ≤ offset → offset < length xs → held ≡ get_or xs offset 0 → held ≢ 0 → IsWrongWord ss xs offset held 0
zeros_wrong ss xs from offset held behind w long zeros low within is differs = record {
  within = omega arith;
  before = zeros_right ss xs from offset behind w zeros;
  held_is = is;
  required_is = subst (λ (q : Slot). IsThe q.asked 0) (sym (behind offset low)) (record { here = refl; only = λ y small e. e });
  wrong = λ a. differs (subst (λ (q : Slot). As q.asked held) (behind offset low) a);
}
