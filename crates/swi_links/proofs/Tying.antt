-- The arrays stay tied to the lists, when a word joins or leaves.
use Rattle.std.proofs.Common.{◌≡◌, ◌⊎◌, ℕ, ◌<◌, ◌^◌, Bool, List, [], ◌∷◌, map, length, slice_index, slice_index_or, slice_set, nat_lt, if◌then◌else◌, arith, refl, sym, ◌∙◌, ap, subst, inl, inr}
use Rattle.std.proofs.lemmas.Bool.{lt-ltb, le-ltb, cases_eq, cases_lt}
use Rattle.std.proofs.lemmas.List.{length-set, get_or-set_same, get_or-set_other, length-map, get_or-map, ext_get_or}
use Rattle.swi_links.specs.Chains.{Has, without}
use Rattle.swi_links.specs.Tied.{walk, lists_in, Chain, SlotChain, Tied}
use Rattle.swi_links.specs.Laws.{has_without, without_has}
use Rattle.swi_links.proofs.Chain.{walk_chain, chain_below, chain_short, frame, joined, first_in, before_in, after_in, without_none, distinct_without, set_left, chain_left}

-- the arrays and the lists that they are to stand for
pub record Ready (words : ℕ) (heads nexts prevs owners : List ℕ) (lists : List (List ℕ)) : Type 0 where
  pub few : words < 2 ^ 32
  pub slots_few : length heads < 2 ^ 32
  pub nexts_long : length nexts ≡ words
  pub prevs_long : length prevs ≡ words
  pub owners_long : length owners ≡ words
  pub lists_long : length lists ≡ length heads
  pub chained : (s : ℕ) → s < length heads → SlotChain nexts prevs owners words s (slice_index heads s) (slice_index_or lists s [])
  pub listed : (x : ℕ) → x < words → slice_index owners x < length heads → Has (slice_index_or lists (slice_index owners x) []) x

ready_walk : (words : ℕ) (heads nexts prevs owners : List ℕ) (lists : List (List ℕ)) (s : ℕ) → Ready words heads nexts prevs owners lists → s < length heads → walk nexts words (slice_index heads s) ≡ slice_index_or lists s []
ready_walk words heads nexts prevs owners lists s r lt =
    let c = r.chained s lt in
    walk_chain nexts prevs words words (slice_index heads s) words (slice_index_or lists s []) c.chain r.nexts_long (chain_short nexts prevs words words (slice_index heads s) (slice_index_or lists s []) c.chain c.distinct)

pub ready_tied : (words : ℕ) (heads nexts prevs owners : List ℕ) (lists : List (List ℕ)) → Ready words heads nexts prevs owners lists → Tied words heads nexts prevs owners
ready_tied words heads nexts prevs owners lists r = record {
  few = r.few;
  slots_few = r.slots_few;
  nexts_long = r.nexts_long;
  prevs_long = r.prevs_long;
  owners_long = r.owners_long;
  chained = λ s lt. subst (λ (xs : List ℕ). SlotChain nexts prevs owners words s (slice_index heads s) xs) (sym (ready_walk words heads nexts prevs owners lists s r lt)) (r.chained s lt);
  listed = λ x lt lt'. subst (λ (xs : List ℕ). Has xs x) (sym (ready_walk words heads nexts prevs owners lists (slice_index owners x) r lt')) (r.listed x lt lt');
}

pub ready_lists : (words : ℕ) (heads nexts prevs owners : List ℕ) (lists : List (List ℕ)) → Ready words heads nexts prevs owners lists → lists_in nexts words heads ≡ lists
ready_lists words heads nexts prevs owners lists r =
    ext_get_or [] (lists_in nexts words heads) lists (length-map heads (λ (h : ℕ). walk nexts words h) ∙ sym r.lists_long)
    (λ s lt. let below : s < length heads = omega (arith, length-map heads (λ (h : ℕ). walk nexts words h)) in
    get_or-map (λ (h : ℕ). walk nexts words h) heads s 0 [] below ∙ ready_walk words heads nexts prevs owners lists s r below)

pub list_is : (words s : ℕ) (heads nexts : List ℕ) → s < length heads → slice_index_or (lists_in nexts words heads) s [] ≡ walk nexts words (slice_index heads s)
list_is words s heads nexts lt = get_or-map (λ (h : ℕ). walk nexts words h) heads s 0 [] lt

-- two slots have no word in common
word_apart : (nexts prevs owners : List ℕ) (words s t h g x : ℕ) (xs ys : List ℕ) → SlotChain nexts prevs owners words s h xs → SlotChain nexts prevs owners words t g ys → Has xs x → Has ys x → s ≡ t
word_apart nexts prevs owners words s t h g x xs ys c d a b = sym (c.owned x a) ∙ d.owned x b

pub link_ready : (words at slot : ℕ) (heads nexts prevs owners : List ℕ) → Tied words heads nexts prevs owners → at < words → slot < length heads →
    ((s : ℕ) → s < length heads → Has (walk nexts words (slice_index heads s)) at → ⊥) →
    Ready words (slice_set heads slot at) (slice_set nexts at (slice_index heads slot)) (slice_set (slice_set prevs (slice_index heads slot) at) at words) (slice_set owners at slot)
    (slice_set (lists_in nexts words heads) slot (at ∷ slice_index_or (lists_in nexts words heads) slot []))
link_ready words at slot heads nexts prevs owners tied lt below free =
    let first : ℕ = slice_index heads slot in
    let lists : List (List ℕ) = lists_in nexts words heads in
    let longs : length lists ≡ length heads = length-map heads (λ (h : ℕ). walk nexts words h) in
    let own : slice_index_or lists slot [] ≡ walk nexts words first = list_is words slot heads nexts below in
    let c = tied.chained slot below in
    record {
      few = tied.few;
      slots_few = omega (arith, tied.slots_few, length-set heads slot at);
      nexts_long = length-set nexts at first ∙ tied.nexts_long;
      prevs_long = length-set (slice_set prevs first at) at words ∙ length-set prevs first at ∙ tied.prevs_long;
      owners_long = length-set owners at slot ∙ tied.owners_long;
      lists_long = length-set lists slot (at ∷ slice_index_or lists slot []) ∙ longs ∙ sym (length-set heads slot at);
      chained = λ s lt'. elim (cases_eq s slot) [
        | inl e ↦ subst (λ (z : ℕ). SlotChain (slice_set nexts at first) (slice_set (slice_set prevs first at) at words) (slice_set owners at slot) words z (slice_index (slice_set heads slot at) z)
            (slice_index_or (slice_set lists slot (at ∷ slice_index_or lists slot [])) z [])) (sym e)
            (subst (λ (zs : List ℕ). SlotChain (slice_set nexts at first) (slice_set (slice_set prevs first at) at words) (slice_set owners at slot) words slot (slice_index (slice_set heads slot at) slot) zs)
            (sym (get_or-set_same lists slot (at ∷ slice_index_or lists slot []) [] (omega (arith, longs)) ∙ ap (λ (zs : List ℕ). at ∷ zs) own))
            (record {
              chain = subst (λ (h : ℕ). Chain (slice_set nexts at first) (slice_set (slice_set prevs first at) at words) words words h (at ∷ walk nexts words first)) (sym (get_or-set_same heads slot at 0 below))
                  (joined nexts prevs words first at (walk nexts words first) tied.nexts_long tied.prevs_long lt c.chain c.distinct (free slot below));
              distinct = (free slot below, c.distinct);
              owned = λ x has. elim has [
                | inl same ↦ ap (λ (z : ℕ). slice_index (slice_set owners at slot) z) (sym same) ∙ get_or-set_same owners at slot 0 (omega (arith, tied.owners_long))
                | inr i ↦ get_or-set_other owners at x slot 0 (λ (z : x ≡ at). free slot below (subst (λ (y : ℕ). Has (walk nexts words first) y) z i)) ∙ c.owned x i
              ];
            }))
        | inr ne ↦ (
            let here : s < length heads = omega (arith, length-set heads slot at) in
            let d = tied.chained s here in
            let xs : List ℕ = walk nexts words (slice_index heads s) in
            subst (λ (zs : List ℕ). SlotChain (slice_set nexts at first) (slice_set (slice_set prevs first at) at words) (slice_set owners at slot) words s (slice_index (slice_set heads slot at) s) zs)
            (sym (get_or-set_other lists slot s (at ∷ slice_index_or lists slot []) [] ne ∙ list_is words s heads nexts here))
            (subst (λ (h : ℕ). SlotChain (slice_set nexts at first) (slice_set (slice_set prevs first at) at words) (slice_set owners at slot) words s h (walk nexts words (slice_index heads s))) (sym (get_or-set_other heads slot s at 0 ne))
            (record {
              chain = frame nexts prevs _ _ words words (slice_index heads s) (walk nexts words (slice_index heads s)) d.chain
                  (λ x has. get_or-set_other nexts at x first 0 (λ (z : x ≡ at). free s here (subst (λ (y : ℕ). Has (walk nexts words (slice_index heads s)) y) z has)))
                  (λ x has. get_or-set_other (slice_set prevs first at) at x words 0 (λ (z : x ≡ at). free s here (subst (λ (y : ℕ). Has (walk nexts words (slice_index heads s)) y) z has))
                  ∙ get_or-set_other prevs first x at 0 (λ (z : x ≡ first). elim (first_in nexts prevs words words first (walk nexts words first) c.chain) [
                    | inl none ↦ omega (arith, chain_below nexts prevs words words (slice_index heads s) x (walk nexts words (slice_index heads s)) d.chain has)
                    | inr i ↦ ne (word_apart nexts prevs owners words s slot (slice_index heads s) first x _ _ d c has (subst (λ (y : ℕ). Has (walk nexts words first) y) (sym z) i))
                  ]));
              distinct = d.distinct;
              owned = λ x has. get_or-set_other owners at x slot 0 (λ (z : x ≡ at). free s here (subst (λ (y : ℕ). Has (walk nexts words (slice_index heads s)) y) z has)) ∙ d.owned x has;
            })))
      ];
      listed = λ x lt' o. elim (cases_eq x at) [
        | inl e ↦ subst (λ (z : ℕ). Has (slice_index_or (slice_set lists slot (at ∷ slice_index_or lists slot [])) z []) x)
            (sym (ap (λ (z : ℕ). slice_index (slice_set owners at slot) z) e ∙ get_or-set_same owners at slot 0 (omega (arith, tied.owners_long))))
            (subst (λ (zs : List ℕ). Has zs x) (sym (get_or-set_same lists slot (at ∷ slice_index_or lists slot []) [] (omega (arith, longs)))) (inl (sym e)))
        | inr ne ↦ (
            let same : slice_index (slice_set owners at slot) x ≡ slice_index owners x = get_or-set_other owners at x slot 0 ne in
            let o' : slice_index owners x < length heads = omega (arith, same, length-set heads slot at) in
            let has : Has (slice_index_or lists (slice_index owners x) []) x = subst (λ (zs : List ℕ). Has zs x) (sym (list_is words (slice_index owners x) heads nexts o')) (tied.listed x lt' o') in
            subst (λ (z : ℕ). Has (slice_index_or (slice_set lists slot (at ∷ slice_index_or lists slot [])) z []) x) (sym same)
            (elim (cases_eq (slice_index owners x) slot) [
              | inl e ↦ subst (λ (zs : List ℕ). Has zs x)
                  (sym (ap (λ (z : ℕ). slice_index_or (slice_set lists slot (at ∷ slice_index_or lists slot [])) z []) e ∙ get_or-set_same lists slot (at ∷ slice_index_or lists slot []) [] (omega (arith, longs))))
                  (inr (subst (λ (z : ℕ). Has (slice_index_or lists z []) x) e has))
              | inr ne' ↦ subst (λ (zs : List ℕ). Has zs x) (sym (get_or-set_other lists slot (slice_index owners x) (at ∷ slice_index_or lists slot []) [] ne')) has
            ]))
      ];
    }

abbrev pub head_place : ℕ → ℕ → ℕ → ℕ → ℕ
head_place p words slot slots = if nat_lt p words then slots else slot

-- the neighbours of a word stand in its list, or there is none
neighbour_apart : (nexts prevs owners : List ℕ) (words s t h g x y : ℕ) (xs ys : List ℕ) → SlotChain nexts prevs owners words s h xs → SlotChain nexts prevs owners words t g ys → (s ≡ t → ⊥) → Has xs x → (y ≡ words) ⊎ Has ys y → x ≡ y → ⊥
neighbour_apart nexts prevs owners words s t h g x y xs ys c d ne has (inl none) e = omega (arith, chain_below nexts prevs words words h x xs c.chain has)
neighbour_apart nexts prevs owners words s t h g x y xs ys c d ne has (inr i) e =
    ne (word_apart nexts prevs owners words s t h g x xs ys c d has (subst (λ (z : ℕ). Has ys z) (sym e) i))

head_here : (words slot n h : ℕ) (heads N' P' owners' xs : List ℕ) (p : ℕ) → slot < length heads → (p ≡ words) ⊎ Has xs p → ((x : ℕ) → Has xs x → x < words) → h ≡ slice_index heads slot → (at : ℕ) →
    ((p ≡ words) × Chain N' P' words words n (without at xs)) ⊎ ((p ≡ words → ⊥) × Chain N' P' words words h (without at xs)) →
    Chain N' P' words words (slice_index (slice_set heads (head_place p words slot (length heads)) n) slot) (without at xs)
head_here words slot n h heads N' P' owners' xs p lt place below is at (inl w) =
    let here : head_place p words slot (length heads) ≡ slot = ap (λ (b : Bool). if b then length heads else slot) (le-ltb p words (omega (arith, w.0))) in
    subst (λ (k : ℕ). Chain N' P' words words k (without at xs)) (sym (ap (λ (k : ℕ). slice_index (slice_set heads k n) slot) here ∙ get_or-set_same heads slot n 0 lt)) w.1
head_here words slot n h heads N' P' owners' xs p lt place below is at (inr w) =
    let small : p < words = elim place [ inl e ↦ absurd (w.0 e) | inr i ↦ below p i ] in
    let past : head_place p words slot (length heads) ≡ length heads = ap (λ (b : Bool). if b then length heads else slot) (lt-ltb p words small) in
    subst (λ (k : ℕ). Chain N' P' words words k (without at xs))
    (is ∙ sym (ap (λ (k : ℕ). slice_index (slice_set heads k n) slot) past ∙ get_or-set_other heads (length heads) slot n 0 (λ (e : slot ≡ length heads). omega arith))) w.1

other_head : (p words slot n s : ℕ) (heads : List ℕ) → (s ≡ slot → ⊥) → s < length heads → slice_index (slice_set heads (head_place p words slot (length heads)) n) s ≡ slice_index heads s
other_head p words slot n s heads ne lt = elim (cases_lt p words) [
  | inl small ↦ ap (λ (b : Bool). slice_index (slice_set heads (if b then length heads else slot) n) s) (lt-ltb p words small) ∙ get_or-set_other heads (length heads) s n 0 (λ (e : s ≡ length heads). omega arith)
  | inr past ↦ ap (λ (b : Bool). slice_index (slice_set heads (if b then length heads else slot) n) s) (le-ltb p words past) ∙ get_or-set_other heads slot s n 0 ne
]

pub unlink_ready : (words at : ℕ) (heads nexts prevs owners : List ℕ) → Tied words heads nexts prevs owners → (slice_index owners at < length heads) → Has (walk nexts words (slice_index heads (slice_index owners at))) at →
    Ready words (slice_set heads (head_place (slice_index prevs at) words (slice_index owners at) (length heads)) (slice_index nexts at))
    (slice_set nexts (slice_index prevs at) (slice_index nexts at)) (slice_set prevs (slice_index nexts at) (slice_index prevs at)) (slice_set owners at (length heads))
    (map (λ (xs : List ℕ). without at xs) (lists_in nexts words heads))
unlink_ready words at heads nexts prevs owners tied below has =
    let slot : ℕ = slice_index owners at in
    let n : ℕ = slice_index nexts at in
    let p : ℕ = slice_index prevs at in
    let place : ℕ = head_place p words slot (length heads) in
    let heads' : List ℕ = slice_set heads place n in
    let nexts' : List ℕ = slice_set nexts p n in
    let prevs' : List ℕ = slice_set prevs n p in
    let owners' : List ℕ = slice_set owners at (length heads) in
    let lists : List (List ℕ) = lists_in nexts words heads in
    let longs : length lists ≡ length heads = length-map heads (λ (h : ℕ). walk nexts words h) in
    let same_long : length heads' ≡ length heads = length-set heads place n in
    let c = tied.chained slot below in
    let own : List ℕ = walk nexts words (slice_index heads slot) in
    let small : at < words = chain_below nexts prevs words words (slice_index heads slot) at own c.chain has in
    let before : (p ≡ words) ⊎ Has own p = before_in nexts prevs words words (slice_index heads slot) at own c.chain has in
    let after : (n ≡ words) ⊎ Has own n = after_in nexts prevs words words (slice_index heads slot) at own c.chain has in
    let list_left : (s : ℕ) → s < length heads → slice_index_or (map (λ (xs : List ℕ). without at xs) lists) s [] ≡ without at (walk nexts words (slice_index heads s)) =
    λ s lt. get_or-map (λ (xs : List ℕ). without at xs) lists s [] [] (omega (arith, longs)) ∙ ap (λ (xs : List ℕ). without at xs) (list_is words s heads nexts lt) in
    record {
      few = tied.few;
      slots_few = omega (arith, tied.slots_few, same_long);
      nexts_long = length-set nexts p n ∙ tied.nexts_long;
      prevs_long = length-set prevs n p ∙ tied.prevs_long;
      owners_long = length-set owners at (length heads) ∙ tied.owners_long;
      lists_long = length-map lists (λ (xs : List ℕ). without at xs) ∙ longs ∙ sym same_long;
      chained = λ s lt. (let here : s < length heads = omega (arith, same_long) in
          subst (λ (zs : List ℕ). SlotChain nexts' prevs' owners' words s (slice_index heads' s) zs) (sym (list_left s here))
          (elim (cases_eq s slot) [
            | inl e ↦ subst (λ (z : ℕ). SlotChain nexts' prevs' owners' words z (slice_index heads' z) (without at (walk nexts words (slice_index heads z)))) (sym e) (record {
              chain = head_here words slot n (slice_index heads slot) heads nexts' prevs' owners' own p below before
                  (λ x i. chain_below nexts prevs words words (slice_index heads slot) x own c.chain i) refl at
                  (chain_left nexts prevs nexts' prevs' words words (slice_index heads slot) at own tied.nexts_long tied.prevs_long c.chain c.distinct
                  (λ (i : Has own words). omega (arith, chain_below nexts prevs words words (slice_index heads slot) words own c.chain i)) has (set_left nexts p n) (set_left prevs n p));
              distinct = distinct_without at own c.distinct;
              owned = λ x i. (let w = has_without at x own i in get_or-set_other owners at x (length heads) 0 w.1 ∙ c.owned x w.0);
            })
            | inr ne ↦ (
                let d = tied.chained s here in
                let xs : List ℕ = walk nexts words (slice_index heads s) in
                let all : without at xs ≡ xs = without_none at xs (λ (i : Has xs at). ne (word_apart nexts prevs owners words s slot (slice_index heads s) (slice_index heads slot) at xs own d c i has)) in
                subst (λ (zs : List ℕ). SlotChain nexts' prevs' owners' words s (slice_index heads' s) zs) (sym all)
                (subst (λ (h : ℕ). SlotChain nexts' prevs' owners' words s h xs) (sym (other_head p words slot n s heads ne here)) (record {
                  chain = frame nexts prevs nexts' prevs' words words (slice_index heads s) xs d.chain
                      (λ x i. get_or-set_other nexts p x n 0 (neighbour_apart nexts prevs owners words s slot (slice_index heads s) (slice_index heads slot) x p xs own d c ne i before))
                      (λ x i. get_or-set_other prevs n x p 0 (neighbour_apart nexts prevs owners words s slot (slice_index heads s) (slice_index heads slot) x n xs own d c ne i after));
                  distinct = d.distinct;
                  owned = λ x i. get_or-set_other owners at x (length heads) 0 (λ (z : x ≡ at). ne (word_apart nexts prevs owners words s slot (slice_index heads s) (slice_index heads slot) at xs own d c (subst (λ (y : ℕ). Has xs y) z i) has)) ∙ d.owned x i;
                })))
          ]));
      listed = λ x lt o. (
          let ne : x ≡ at → ⊥ = λ (e : x ≡ at). (let is : slice_index owners' x ≡ length heads = ap (λ (z : ℕ). slice_index owners' z) e ∙ get_or-set_same owners at (length heads) 0 (omega (arith, tied.owners_long)) in omega (arith, is, o, same_long)) in
          let same : slice_index owners' x ≡ slice_index owners x = get_or-set_other owners at x (length heads) 0 ne in
          let o' : slice_index owners x < length heads = omega (arith, same, o, same_long) in
          subst (λ (z : ℕ). Has (slice_index_or (map (λ (xs : List ℕ). without at xs) lists) z []) x) (sym same)
          (subst (λ (zs : List ℕ). Has zs x) (sym (list_left (slice_index owners x) o')) (without_has at x _ (tied.listed x lt o') ne)));
    }
