-- One link more leaves its list.
use Rattle.std.proofs.Common.{◌≡◌, ◌⊎◌, ℕ, ◌+◌, ◌-◌, ◌<◌, ◌≤◌, ◌==◌, ◌&&◌, true, false, not, List, [], ◌∷◌, length, slice_index, slice_set, Some, None, slice_get, arith, refl, sym, ◌∙◌, ap, subst, inl, inr}
use Rattle.std.proofs.lemmas.Bool.{cases_Bool, cases_eq, cases_lt, both_ways}
use Rattle.std.proofs.lemmas.List.{length-map, get_or-set_same, get_or-set_other}
use Rattle.swi_outside.specs.CacheRam.{RamState, with_set}
use Rattle.swi_links.specs.Chains.{ChainsData, Has, IsApart, AreFree, list_of, without}
use Rattle.swi_links.specs.Holders.{holder_of}
use Rattle.swi_links.specs.Lists.{first_has, holder_is, holder_has, holder_free, unlinked_lists, unlinked_here, unlinked_other}
use Rattle.swi_rom.specs.Record.{ebreak}
use Rattle.swi_rom.specs.Writing.{FailedBelow, Wrote}
use Rattle.swi_rom.specs.Rams.{failed_more, failed_wider, wrote_none, wrote_one, wrote_more}
use Rattle.swi_links.specs.Undone.{is_own, comes_in, coming_in, Undone, Stays, Leaves, IsEmptied, Released}
use Rattle.swi_links.specs.Tells.{own_tells, comes_tells, none_tells, coming_most, coming_alike, coming_less}

pub none_undone : (list first n : ℕ) (c : ChainsData) (a : RamState) → Undone list first n 0 c c a a
none_undone list first n c a = record {
  words_stay = refl;
  lists_stay = refl;
  each = λ i lt. inl (record { holder_stays = refl; word_stays = refl });
  beyond = λ i le. refl;
  number = omega arith;
  wrote = wrote_none c.words a;
}

abbrev pub taken : ChainsData → ℕ → ChainsData
taken c at = record c { lists = unlinked_lists c.lists at }

taken_long : (c : ChainsData) (at : ℕ) → length (taken c at).lists ≡ length c.lists
taken_long c at = length-map c.lists (λ (xs : List ℕ). without at xs)

-- another word is a link to the list as before
comes_other : (list first n at i : ℕ) (c : ChainsData) → (i ≡ at → ⊥) → comes_in list first n c.lists i ≡ comes_in list first n (taken c at).lists i
comes_other list first n at i c ne = ap (λ (t : ℕ). t == list && not (is_own first n i)) (sym (unlinked_other c.lists at i ne))

-- and the word itself is none
taken_holder : (list at : ℕ) (c : ChainsData) → list < length c.lists → holder_of (taken c at).lists at ≡ list → ⊥
taken_holder list at c below e = omega (arith, unlinked_here c.lists at, e)

number_own : (list first n k at : ℕ) (c : ChainsData) → is_own first n at ≡ true → coming_in list first n c.lists k ≡ coming_in list first n (taken c at).lists k
number_own list first n k at c own = coming_alike list first n k c.lists (taken c at).lists (λ i below. elim (cases_eq i at) [
  | inl e ↦ (own_tells list first n i c.lists (ap (λ (x : ℕ). is_own first n x) e ∙ own)).1 ∙ sym (own_tells list first n i (taken c at).lists (ap (λ (x : ℕ). is_own first n x) e ∙ own)).1
  | inr ne ↦ comes_other list first n at i c ne
])

number_foreign : (list first n k at : ℕ) (c : ChainsData) → at < k → list < length c.lists → holder_of c.lists at ≡ list → is_own first n at ≡ false →
    coming_in list first n c.lists k ≡ coming_in list first n (taken c at).lists k + 1
number_foreign list first n k at c lt below is foreign =
    coming_less list first n k at c.lists (taken c at).lists lt
    (comes_tells list first n at c.lists foreign is).1
    (none_tells list first n at (taken c at).lists foreign (taken_holder list at c below)).1
    (λ i small ne. comes_other list first n at i c ne)

-- what becomes of each word, when one leaves and the words beside it stay in the ram
each_more : (list first n k at i : ℕ) (old now : ChainsData) (a b c : RamState) → Undone list first n k old now a b → list < length old.lists → holder_of now.lists at ≡ list →
    (is_own first n at ≡ true → slice_index c.words at ≡ slice_index b.words at) → (is_own first n at ≡ false → slice_index c.words at ≡ ebreak) →
    ((j : ℕ) → (j ≡ at → ⊥) → slice_index c.words j ≡ slice_index b.words j) → i < old.words → Stays i old (taken now at) a c ⊎ Leaves list first n i old (taken now at) a c
each_more list first n k at i old now a b c u below is own foreign others lt = elim (cases_eq i at) [
  | inl e ↦ inr (elim (u.each i lt) [
    | inl s ↦ record {
      was = sym s.holder_stays ∙ ap (λ (x : ℕ). holder_of now.lists x) e ∙ is;
      is_none = ap (λ (x : ℕ). holder_of (unlinked_lists now.lists at) x) e ∙ unlinked_here now.lists at ∙ u.lists_stay;
      own = λ h. ap (λ (x : ℕ). slice_index c.words x) e ∙ own (ap (λ (x : ℕ). is_own first n x) (sym e) ∙ h) ∙ ap (λ (x : ℕ). slice_index b.words x) (sym e) ∙ s.word_stays;
      foreign = λ h. ap (λ (x : ℕ). slice_index c.words x) e ∙ foreign (ap (λ (x : ℕ). is_own first n x) (sym e) ∙ h);
    }
    | inr l ↦ absurd (omega (arith, sym l.is_none ∙ ap (λ (x : ℕ). holder_of now.lists x) e ∙ is, below))
  ])
  | inr ne ↦ elim (u.each i lt) [
    | inl s ↦ inl (record { holder_stays = unlinked_other now.lists at i ne ∙ s.holder_stays; word_stays = others i ne ∙ s.word_stays })
    | inr l ↦ inr (record {
      was = l.was;
      is_none = unlinked_other now.lists at i ne ∙ l.is_none;
      own = λ h. others i ne ∙ l.own h;
      foreign = λ h. others i ne ∙ l.foreign h;
    })
  ]
]

undone_own : (list first n k at : ℕ) (old now : ChainsData) (a b : RamState) → Undone list first n k old now a b → list < length old.lists → holder_of now.lists at ≡ list → is_own first n at ≡ true →
    Undone list first n (k + 0) old (taken now at) a b
undone_own list first n k at old now a b u below is own = record {
  words_stay = u.words_stay;
  lists_stay = taken_long now at ∙ u.lists_stay;
  each = λ i lt. each_more list first n k at i old now a b b u below is (λ h. refl) (λ f. absurd (both_ways (is_own first n at) f own)) (λ j ne. refl) lt;
  beyond = u.beyond;
  number = omega (arith, u.number, number_own list first n old.words at now own);
  wrote = subst (λ (m : ℕ). Wrote old.words m a b) (omega arith) u.wrote;
}

undone_foreign : (list first n k at : ℕ) (old now : ChainsData) (a b c : RamState) → Undone list first n k old now a b → list < length old.lists → at < now.words → holder_of now.lists at ≡ list → is_own first n at ≡ false → at < length b.words →
    c ≡ with_set b at ebreak → Undone list first n (k + 1) old (taken now at) a c
undone_foreign list first n k at old now a b c u below small is foreign fits e =
    let words : c.words ≡ slice_set b.words at ebreak = ap (λ (r : RamState). r.words) e in
    let others : (j : ℕ) → (j ≡ at → ⊥) → slice_index c.words j ≡ slice_index b.words j = λ j ne. ap (λ (ws : List ℕ). slice_index ws j) words ∙ get_or-set_other b.words at j ebreak 0 ne in
    let less = number_foreign list first n old.words at now (omega (arith, small, u.words_stay)) (omega (arith, below, u.lists_stay)) is foreign in
    record {
      words_stay = u.words_stay;
      lists_stay = taken_long now at ∙ u.lists_stay;
      each = λ i lt. each_more list first n k at i old now a b c u below is (λ h. absurd (both_ways (is_own first n at) foreign h))
          (λ f. ap (λ (ws : List ℕ). slice_index ws at) words ∙ get_or-set_same b.words at ebreak 0 fits) others lt;
      beyond = λ i le. others i (λ (f : i ≡ at). omega (arith, f, u.words_stay, small, le)) ∙ u.beyond i le;
      number = omega (arith, u.number, less);
      wrote = wrote_more old.words old.words k 1 a b c u.wrote (wrote_one old.words at ebreak b c (omega (arith, u.words_stay, small)) e) (omega arith);
    }

-- the word that stands first in the list leaves
pub undone_more : (list first n k m at : ℕ) (old now next : ChainsData) (a b c : RamState) → Undone list first n k old now a b → list < length old.lists → IsApart now → Some at ≡ slice_get (list_of now list) 0 → at < length b.words →
    (is_own first n at ≡ true → (m ≡ 0) × (c ≡ b)) →
    (is_own first n at ≡ false → (m ≡ 1) × (c ≡ with_set b at ebreak)) →
    next ≡ taken now at → Undone list first n (k + m) old next a c
undone_more list first n k m at old now next a b c u below apart front fits own foreign e =
    let h = first_has (list_of now list) at front in
    let small = apart.within list at h in
    let is = holder_is now list at apart h in
    subst (λ (d : ChainsData). Undone list first n (k + m) old d a c) (sym e) (elim (cases_Bool (is_own first n at)) [
      | inl o ↦ (let w = own o in
          subst (λ (x : ℕ). Undone list first n (k + x) old (taken now at) a c) (sym w.0)
          (subst (λ (r : RamState). Undone list first n (k + 0) old (taken now at) a r) (sym w.1) (undone_own list first n k at old now a b u below is o)))
      | inr f ↦ (let w = foreign f in
          subst (λ (x : ℕ). Undone list first n (k + x) old (taken now at) a c) (sym w.0) (undone_foreign list first n k at old now a b c u below small is f fits w.1))
    ])

pub first_within : (c : ChainsData) (list at n : ℕ) → IsApart c → Some at ≡ slice_get (list_of c list) 0 → c.words ≤ n → at < n
first_within c list at n apart front le = omega (arith, apart.within list at (first_has (list_of c list) at front), le)

pub few_undone : (list first n k : ℕ) (old now : ChainsData) (a b : RamState) → Undone list first n k old now a b → k ≤ old.words
few_undone list first n k old now a b u = omega (arith, u.number, coming_most list first n old.words old.lists)

-- an empty list has no word
pub emptied : (c : ChainsData) (list : ℕ) → list < length c.lists → None ≡ slice_get (list_of c list) 0 → IsEmptied list c
emptied c list lt none = record {
  none = λ i e. nothing (list_of c list) i none (subst (λ (s : ℕ). Has (list_of c s) i) e (holder_has c.lists i (omega (arith, e, lt))));
}
  where
    nothing : (xs : List ℕ) (x : ℕ) → None ≡ slice_get xs 0 → Has xs x → ⊥
    nothing [] x e h = h
    nothing (y ∷ ys) x e h = cc

-- a word that is no link now
pub released_one : (c : ChainsData) (at : ℕ) → Released at 1 c (taken c at)
released_one c at = record {
  words_stay = refl;
  lists_stay = taken_long c at;
  dropped = λ i le lt. (let e : i ≡ at = omega arith in ap (λ (x : ℕ). holder_of (unlinked_lists c.lists at) x) e ∙ unlinked_here c.lists at);
  others = λ i out. unlinked_other c.lists at i (λ (e : i ≡ at). away i at e out);
}
  where
    away : (i at : ℕ) → i ≡ at → (i < at) ⊎ (at + 1 ≤ i) → ⊥
    away i at e (inl lt) = omega (arith, e)
    away i at e (inr le) = omega (arith, e)

pub released_free : (c : ChainsData) (from to : ℕ) → AreFree c from to → Released from (to - from) c c
released_free c from to free = record {
  words_stay = refl;
  lists_stay = refl;
  dropped = λ i le lt. holder_free c.lists i (free i le (omega arith));
  others = λ i out. refl;
}

released_none : (c : ChainsData) (first : ℕ) → Released first 0 c c
released_none c first = record { words_stay = refl; lists_stay = refl; dropped = λ i le lt. absurd (omega arith); others = λ i out. refl }

released_more : (first n at m : ℕ) (old now next : ChainsData) → Released first n old now → Released at m now next → at ≡ first + n → Released first (n + m) old next
released_more first n at m old now next r s e = record {
  words_stay = s.words_stay ∙ r.words_stay;
  lists_stay = s.lists_stay ∙ r.lists_stay;
  dropped = λ i le lt. elim (cases_lt i at) [
    | inl below ↦ s.others i (inl below) ∙ r.dropped i le (omega (arith, e))
    | inr here ↦ s.dropped i here (omega (arith, e)) ∙ r.lists_stay
  ];
  others = λ i out. s.others i (away i at first n m e out) ∙ r.others i (nearer i first n m out);
}
  where
    away : (i at first n m : ℕ) → at ≡ first + n → (i < first) ⊎ (first + (n + m) ≤ i) → (i < at) ⊎ (at + m ≤ i)
    away i at first n m e (inl lt) = inl (omega (arith, e))
    away i at first n m e (inr le) = inr (omega (arith, e))

    nearer : (i first n m : ℕ) → (i < first) ⊎ (first + (n + m) ≤ i) → (i < first) ⊎ (first + n ≤ i)
    nearer i first n m (inl lt) = inl lt
    nearer i first n m (inr le) = inr (omega arith)

-- the words up to a link are none, and the link leaves
released_to : (first from to : ℕ) (old now : ChainsData) → first ≤ from → from ≤ to → Released first (from - first) old now → AreFree now from to → Released first (to - first) old now
released_to first from to old now after order r free =
    subst (λ (n : ℕ). Released first n old now) (omega arith)
    (released_more first (from - first) from (to - from) old now now r (released_free now from to free) (omega arith))

pub released_next : (first from at : ℕ) (old now next : ChainsData) → first ≤ from → from ≤ at → Released first (from - first) old now → AreFree now from at → next ≡ taken now at →
    Released first (at + 1 - first) old next
released_next first from at old now next after order r free is =
    let here = released_to first from at old now after order r free in
    let left : Released at 1 now next = subst (λ (d : ChainsData). Released at 1 now d) (sym is) (released_one now at) in
    subst (λ (n : ℕ). Released first n old next) (omega (arith, after, order)) (released_more first (at - first) at 1 old now next here left (omega (arith, after, order)))

pub released_end : (first size from : ℕ) (old now : ChainsData) → first ≤ from → from ≤ first + size → Released first (from - first) old now → AreFree now from (first + size) → Released first size old now
released_end first size from old now after order r free =
    subst (λ (n : ℕ). Released first n old now) (omega arith) (released_to first from (first + size) old now after order r free)

pub released_start : (first : ℕ) (c : ChainsData) → Released first (first - first) c c
released_start first c = subst (λ (n : ℕ). Released first n c c) (omega arith) (released_none c first)

-- a failure after some were undone
pub undone_failed : (list first n k at : ℕ) (old now : ChainsData) (a b c : RamState) → Undone list first n k old now a b → at < now.words → FailedBelow (at + 1) b c → FailedBelow old.words a c
undone_failed list first n k at old now a b c u lt failed =
    failed_more old.words old.words k a b c u.wrote (failed_wider (at + 1) old.words b c failed (omega (arith, lt, u.words_stay))) (omega arith)
