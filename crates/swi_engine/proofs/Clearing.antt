-- The links into a block from others are undone, one after the other, before it leaves by a miss.
use Rattle.std.proofs.Common.{◌≡◌, ℕ, suc, zero, ◌+◌, ◌-◌, ◌*◌, ◌<◌, ◌≤◌, List, [], ◌∷◌, remove, filter, cond, Bool, true, false, not, length, slice_index, slice_get, slice_set, Some, arith, refl, sym, ◌∙◌, ap, subst, inl, inr}
use Rattle.std.proofs.lemmas.List.{get_or-set_other, get_or-set_same}
use Rattle.std.proofs.lemmas.List.Edits.{length-remove}
use Rattle.std.proofs.lemmas.Bool.{cases_eq}
use Rattle.swi_image.specs.Format.{ImageData}
use Rattle.swi_outside.specs.CacheRam.{RamState}
use Rattle.swi_rom.specs.Record.{Has, ebreak}
use Rattle.swi_rom.specs.Writing.{Wrote}
use Rattle.swi_rom.specs.Rams.{wrote_none, wrote_more, wrote_one}
use Rattle.swi_engine.specs.declared.joints.Joint.{Joint}
use Rattle.swi_engine.specs.State.{EngineData}
use Rattle.swi_engine.specs.Sound.{Standing}
use Rattle.swi_engine.specs.Seats.{joint_below}
use Rattle.swi_engine.specs.Moves.{leads_in, undone_data, OneSet}
use Rattle.swi_engine.specs.Cleared.{Clearing}
use Rattle.std.specs.List.{position_from}
use Rattle.swi_engine.specs.Joints.{NewestInto}
use Rattle.swi_engine.proofs.Joining.{set_now}
use Rattle.swi_engine.proofs.Eventing.{found}
use Rattle.swi_engine.proofs.Shapes.{has_get, remove_has, has_remove, removed_apart, length_filter}
use Rattle.swi_engine.proofs.Standing.{undone_stands}

pub clearing_none : (v : ImageData) (b : ℕ) (e : EngineData) (a : RamState) → Standing e v a.words → Clearing v b e e a a
clearing_none v b e a stands = record {
  stands = stands;
  rest = refl;
  others = refl;
  number = refl;
  fewer = refl;
  from = λ j h. h;
  later = omega arith;
  words = λ i. inl refl;
  gone = λ j h. inl h;
  wrote = subst (λ (n : ℕ). Wrote (e.slots * e.size) n a a) (omega arith) (wrote_none (e.slots * e.size) a);
}

filter_less : (t : Joint → Bool) (js : List Joint) (k : ℕ) (j : Joint) → slice_get js k ≡ Some j → t j ≡ true → length (filter t (remove js k)) + 1 ≡ length (filter t js)
filter_less t [] zero j e is = absurd cc
filter_less t [] (suc k) j e is = absurd cc
filter_less t (i ∷ is) zero j e yes' = let same : i ≡ j = cc in rw (ap t same ∙ yes') (omega arith)
filter_less t (i ∷ is) (suc k) j e yes' = one (t i) (filter_less t is k j e yes')
  where
    one : (u : Bool) → length (filter t (remove is k)) + 1 ≡ length (filter t is) → length (cond u (i ∷ filter t (remove is k)) (filter t (remove is k))) + 1 ≡ length (cond u (i ∷ filter t is) (filter t is))
    one true s = omega (arith, s)
    one false s = s

filter_same : (t : Joint → Bool) (js : List Joint) (k : ℕ) (j : Joint) → slice_get js k ≡ Some j → t j ≡ false → filter t (remove js k) ≡ filter t js
filter_same t [] zero j e is = refl
filter_same t [] (suc k) j e is = refl
filter_same t (i ∷ is) zero j e none = let same : i ≡ j = cc in rw (ap t same ∙ none) refl
filter_same t (i ∷ is) (suc k) j e none = ap (λ (xs : List Joint). cond (t i) (i ∷ xs) xs) (filter_same t is k j e none)

get_below : (js : List Joint) (k : ℕ) (j : Joint) → slice_get js k ≡ Some j → k < length js
get_below [] zero j e = absurd cc
get_below [] (suc k) j e = absurd cc
get_below (i ∷ is) zero j e = omega arith
get_below (i ∷ is) (suc k) j e = omega (arith, get_below is k j e)

-- one more of them
pub clearing_more : (v : ImageData) (b k : ℕ) (e f g : EngineData) (j : Joint) (a c d : RamState) → Clearing v b e f a c → slice_get f.joints k ≡ Some j → leads_in j b ≡ true → g ≡ undone_data f k → OneSet j.at ebreak c d → Clearing v b e g a d
clearing_more v b k e f g j a c d u get leads is set =
    let words : d.words ≡ slice_set c.words j.at ebreak = ap (λ (r : RamState). r.words) set in
    let has = has_get f.joints k j get in
    let sizes : f.slots * f.size ≡ e.slots * e.size = ap (λ (x : EngineData). x.slots * x.size) u.rest in
    let below : j.at < e.slots * e.size = omega (arith, sizes, joint_below f v c.words j u.stands (u.stands.linked j has)) in
    let inside : j.at < length c.words = omega (arith, joint_below f v c.words j u.stands (u.stands.linked j has), u.stands.fits) in
    rw is (record {
      stands = subst (λ (ws : List ℕ). Standing (undone_data f k) v ws) (sym words) (undone_stands f v c.words k j u.stands get);
      rest = ap (λ (x : EngineData). record x { joints = remove f.joints k; counts = record x.counts { unlinks = f.counts.unlinks + 1 } }) u.rest;
      others = filter_same (λ i. not (leads_in i b)) f.joints k j get (ap (λ (t : Bool). not t) leads) ∙ u.others;
      number = omega (arith, u.number, filter_less (λ i. leads_in i b) f.joints k j get leads);
      fewer = omega (arith, u.fewer, length-remove f.joints k (get_below f.joints k j get));
      from = λ i h. u.from i (remove_has f.joints k i h);
      later = omega (arith, u.later);
      words = λ i. elim (cases_eq i j.at) [
        | inl s ↦ inr (j, u.from j has, (λ (h : Has (remove f.joints k) j). removed_apart f.joints k j j u.stands.apart get h refl), sym s)
        | inr ne ↦ (
            let same : slice_index d.words i ≡ slice_index c.words i = ap (λ (ws : List ℕ). slice_index ws i) words ∙ get_or-set_other c.words j.at i ebreak 0 ne in
            elim (u.words i) [ inl w ↦ inl (same ∙ w) | inr w ↦ inr (w.0, w.1, (λ (h : Has (remove f.joints k) w.0). w.2 (remove_has f.joints k w.0 h)), w.3) ])
      ];
      gone = λ i h. elim (cases_eq i.at j.at) [
        | inl s ↦ inr (ap (λ (ws : List ℕ). slice_index ws i.at) words ∙ ap (λ (n : ℕ). slice_index (slice_set c.words j.at ebreak) n) s ∙ get_or-set_same c.words j.at ebreak 0 inside)
        | inr ne ↦ elim (u.gone i h) [
          | inl stays ↦ elim (has_remove f.joints k i j get stays) [ inl r ↦ inl r | inr is ↦ absurd (ne (ap (λ (x : Joint). x.at) (sym is))) ]
          | inr back ↦ inr (ap (λ (ws : List ℕ). slice_index ws i.at) words ∙ get_or-set_other c.words j.at i.at ebreak 0 ne ∙ back)
        ]
      ];
      wrote = subst (λ (n : ℕ). Wrote (e.slots * e.size) n a d) (omega (arith, u.later)) (wrote_more (e.slots * e.size) (e.slots * e.size) (f.counts.unlinks - e.counts.unlinks) 1 a c d u.wrote (wrote_one (e.slots * e.size) j.at ebreak c d below set) (omega arith));
    })

less_none : (k : ℕ) → k - 0 ≡ k
less_none k = omega arith

pub found_joint : (e : EngineData) (b k : ℕ) → position_from (λ j. leads_in j b) 0 e.joints ≡ Some k → (j : Joint) × (slice_get e.joints k ≡ Some j) × (leads_in j b ≡ true)
found_joint e b k at =
    let w = found (λ j. leads_in j b) 0 k e.joints at in
    (w.2.0, subst (λ (x : ℕ). slice_get e.joints x ≡ Some w.2.0) (less_none k) w.2.1, w.2.2)

pub clearing_step : (v : ImageData) (b at : ℕ) (e f g : EngineData) (a c d : RamState) → Clearing v b e f a c → (w : NewestInto f.joints b at) → g ≡ undone_data f w.0 → OneSet at ebreak c d → Clearing v b e g a d
clearing_step v b at e f g a c d u w is set =
    let j = found_joint f b w.0 w.1 in
    clearing_more v b w.0 e f g j.0 a c d u j.1 j.2 is (set_now f.joints w.0 at c d w.2 set j.0 j.1)

pub clearing_few : (v : ImageData) (b : ℕ) (e f : EngineData) (a c : RamState) → Clearing v b e f a c → f.counts.unlinks ≤ e.counts.unlinks + length e.joints
clearing_few v b e f a c u = omega (arith, u.number, length_filter (λ (j : Joint). leads_in j b) e.joints)
