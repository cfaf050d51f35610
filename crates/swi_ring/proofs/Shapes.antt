-- The numbers of a ring keep their shape, and what they say of its code.
use Rattle.std.proofs.Common.{◌≡◌, ◌⊎◌, ℕ, suc, zero, ◌+◌, ◌-◌, ◌<◌, ◌≤◌, ◌&&◌, Bool, true, false, List, [], ◌∷◌, ◌++◌, length, Some, None, slice_index, slice_index_or, slice_set, nat_le, nat_lt, if◌then◌else◌, arith, refl, sym, ◌∙◌, ap, subst, inl, inr}
use Rattle.std.proofs.lemmas.Bool.{cases_eq, cases_lt, lt-ltb, le-ltb}
use Rattle.std.proofs.lemmas.Bool.Decides.{nat_tests}
use Rattle.std.proofs.lemmas.List.{length-set, get_or_read, get_or-set_same, get_or-set_other}
use Rattle.swi_links.specs.Chains.{ChainsData, Has, IsFree}
use Rattle.swi_rom.specs.Coherent.{resident_of}
use Rattle.swi_rom.specs.declared.rom.Counts.{Counts}
use Rattle.swi_ring.specs.Fifo.{first_for}
use Rattle.swi_ring.specs.Ring.{Ring, InShape, first_at, target_at, stands_at, shown_by, behind, kept_by}
use Rattle.swi_ring.specs.Steps.{marked, first_in}
use Rattle.swi_ring.specs.Coheres.{has_or, resident_is, resident_none}
use Rattle.swi_links.specs.Lists.{linked_lists, unheld_free}
use Rattle.swi_links.proofs.Numbers.{append_distinct, append_has, append_here, distinct_fewer, has_append}

-- lists of blocks
pub index_has : (xs : List ℕ) (k : ℕ) → k < length xs → Has xs (slice_index xs k)
index_has [] k lt = absurd (omega arith)
index_has (x ∷ xs) zero lt = inl refl
index_has (x ∷ xs) (suc k) lt = inr (index_has xs k (omega arith))

pub append_long : (xs : List ℕ) (b : ℕ) → length (xs ++ b ∷ []) ≡ length xs + 1
append_long [] b = refl
append_long (y ∷ ys) b = omega (arith, append_long ys b)

-- there is room for one more
pub queue_short : (s : Ring) (b : ℕ) → InShape s → b < length s.firsts → (Has s.queue b → ⊥) → length s.queue < length s.firsts
queue_short s b shape lt lacks = distinct_fewer s.queue (length s.firsts) b shape.distinct shape.known lt lacks

-- the words of a block
pub marked_long : (owners : List ℕ) (first n b : ℕ) → length (marked owners first n b) ≡ length owners
marked_long owners first zero b = refl
marked_long owners first (suc n) b = length-set (marked owners first n b) (first + n) b ∙ marked_long owners first n b

pub marked_in : (owners : List ℕ) (first n b i : ℕ) → first + n ≤ length owners → first ≤ i → i < first + n → slice_index (marked owners first n b) i ≡ b
marked_in owners first zero b i fits le lt = absurd (omega arith)
marked_in owners first (suc n) b i fits le lt = elim (cases_eq i (first + n)) [
  | inl e ↦ ap (λ (j : ℕ). slice_index (slice_set (marked owners first n b) (first + n) b) j) e ∙ get_or-set_same (marked owners first n b) (first + n) b 0 (omega (arith, marked_long owners first n b, fits))
  | inr ne ↦ get_or-set_other (marked owners first n b) (first + n) i b 0 ne ∙ marked_in owners first n b i (omega (arith, fits)) le (nearer i first n lt ne)
]
  where
    nearer : (i first n : ℕ) → i < first + suc n → (i ≡ first + n → ⊥) → i < first + n
    nearer i first n lt ne = grind (arith)

pub marked_other : (owners : List ℕ) (first n b i : ℕ) → (i < first) ⊎ (first + n ≤ i) → slice_index (marked owners first n b) i ≡ slice_index owners i
marked_other owners first zero b i away = refl
marked_other owners first (suc n) b i away =
    get_or-set_other (marked owners first n b) (first + n) i b 0 (λ (e : i ≡ first + n). apart i first n away e) ∙ marked_other owners first n b i (nearer i first n away)
  where
    apart : (i first n : ℕ) → (i < first) ⊎ (first + suc n ≤ i) → i ≡ first + n → ⊥
    apart i first n (inl lt) e = omega (arith, lt, e)
    apart i first n (inr le) e = omega (arith, le, e)

    nearer : (i first n : ℕ) → (i < first) ⊎ (first + suc n ≤ i) → (i < first) ⊎ (first + n ≤ i)
    nearer i first n (inl lt) = inl lt
    nearer i first n (inr le) = inr (omega (arith, le))

marked_small : (owners : List ℕ) (first n b m : ℕ) → first + n ≤ length owners → b < m → ((i : ℕ) → i < length owners → slice_index owners i < m) → (i : ℕ) → i < length owners → slice_index (marked owners first n b) i < m
marked_small owners first n b m fits small all i lt = elim (cases_lt i first) [
  | inl below ↦ omega (arith, marked_other owners first n b i (inl below), all i lt)
  | inr from ↦ elim (cases_lt i (first + n)) [
    | inl inside ↦ omega (arith, marked_in owners first n b i fits from inside, small)
    | inr past ↦ omega (arith, marked_other owners first n b i (inr past), all i lt)
  ]
]

-- a block has taken some words
pub settled_shape : (s : Ring) (b first n : ℕ) (counts : Counts) → InShape s → b < length s.firsts → (Has s.queue b → ⊥) → 1 ≤ n → first + n ≤ s.words → InShape (record s {
  next = first + n;
  queue = s.queue ++ b ∷ [];
  firsts = slice_set s.firsts b first;
  lengths = slice_set s.lengths b n;
  owners = marked s.owners first n b;
  counts = counts;
})
settled_shape s b first n counts shape lt lacks some fits =
    let long : length (slice_set s.firsts b first) ≡ length s.firsts = length-set s.firsts b first in
    let long' : length (slice_set s.lengths b n) ≡ length s.lengths = length-set s.lengths b n in
    let other : (c : ℕ) → Has s.queue c → c ≡ b → ⊥ = λ c h e. lacks (subst (λ (x : ℕ). Has s.queue x) e h) in
    record {
      words_few = shape.words_few;
      blocks_few = omega (arith, long, shape.blocks_few);
      next_most = fits;
      lengths_long = long' ∙ shape.lengths_long ∙ sym long;
      owners_long = marked_long s.owners first n b ∙ shape.owners_long;
      chain_words = shape.chain_words;
      chain_lists = shape.chain_lists ∙ sym long;
      owners_known = λ i small. marked_small s.owners first n b (length (slice_set s.firsts b first)) (omega (arith, fits, shape.owners_long)) (omega (arith, lt, long))
          (λ j within. omega (arith, shape.owners_known j (omega (arith, within, shape.owners_long)), long)) i (omega (arith, small, shape.owners_long));
      distinct = append_distinct s.queue b shape.distinct lacks;
      known = λ c h. elim (has_append s.queue b c h) [ inl i ↦ omega (arith, shape.known c i, long) | inr e ↦ omega (arith, e, lt, long) ];
      some = λ c h. elim (has_append s.queue b c h) [
        | inl i ↦ omega (arith, get_or-set_other s.lengths b c n 0 (other c i), shape.some c i)
        | inr e ↦ omega (arith, ap (λ (x : ℕ). slice_index (slice_set s.lengths b n) x) (sym e), get_or-set_same s.lengths b n 0 (omega (arith, lt, shape.lengths_long)), some)
      ];
      within = λ c h. elim (has_append s.queue b c h) [
        | inl i ↦ omega (arith, get_or-set_other s.lengths b c n 0 (other c i), get_or-set_other s.firsts b c first 0 (other c i), shape.within c i)
        | inr e ↦ omega (
          arith,
          ap (λ (x : ℕ). slice_index (slice_set s.lengths b n) x) (sym e),
          get_or-set_same s.lengths b n 0 (omega (arith, lt, shape.lengths_long)),
          ap (λ (x : ℕ). slice_index (slice_set s.firsts b first) x) (sym e),
          get_or-set_same s.firsts b first 0 lt,
          fits,
        )
      ];
      absent = λ c small none. get_or-set_other s.firsts b c first 0 (λ (e : c ≡ b). none (subst (λ (x : ℕ). Has (s.queue ++ b ∷ []) x) (sym e) (append_here s.queue b)))
          ∙ shape.absent c (omega (arith, small, long)) (λ h. none (append_has s.queue b c h));
    }

-- as the code meets it
pub settled_as : (s : Ring) (b first n : ℕ) (queue owners : List ℕ) (counts : Counts) → InShape s → b < length s.firsts → (Has s.queue b → ⊥) → 1 ≤ n → first + n ≤ s.words → queue ≡ s.queue ++ b ∷ [] → owners ≡ marked s.owners first n b → InShape (record s {
  next = first + n;
  queue = queue;
  firsts = slice_set s.firsts b first;
  lengths = slice_set s.lengths b n;
  owners = owners;
  counts = counts;
})
settled_as s b first n queue owners counts shape lt lacks some fits e f = rw (e, f) (settled_shape s b first n counts shape lt lacks some fits)

-- a word has become a link
pub linked_shape : (s : Ring) (at b : ℕ) (chains : ChainsData) (counts : Counts) → InShape s → chains ≡ record s.chains { lists = linked_lists s.chains.lists at b } → InShape (record s { chains = chains; counts = counts })
linked_shape s at b chains counts shape e = record {
  words_few = shape.words_few;
  blocks_few = shape.blocks_few;
  next_most = shape.next_most;
  lengths_long = shape.lengths_long;
  owners_long = shape.owners_long;
  chain_words = ap (λ (c : ChainsData). c.words) e ∙ shape.chain_words;
  chain_lists = ap (λ (c : ChainsData). length c.lists) e ∙ length-set s.chains.lists b _ ∙ shape.chain_lists;
  owners_known = shape.owners_known;
  distinct = shape.distinct;
  known = shape.known;
  some = shape.some;
  within = shape.within;
  absent = shape.absent;
}

-- the calls, as their code meets them
pub found_call : (s t : Ring) (b f : ℕ) → s ≡ t → InShape s → b < length t.firsts → f ≡ slice_index_or s.firsts b f → f < s.words → Has t.queue b × (slice_index t.firsts b ≡ f)
found_call s t b f e shape lt is below =
    let small : b < length s.firsts = omega (arith, lt, ap (λ (x : Ring). length x.firsts) e) in
    let here : f ≡ slice_index s.firsts b = get_or_read s.firsts b f small is 0 in
    subst (λ (x : Ring). Has x.queue b × (slice_index x.firsts b ≡ f)) e (elim (has_or s.queue b) [
      | inl h ↦ (h, sym here)
      | inr lacks ↦ absurd (omega (arith, shape.absent b small lacks, here, below))
    ])

next_behind : (n : ℕ) → slice_index (behind n) 0 ≡ n
next_behind zero = refl
next_behind (suc n) = refl

pub behind_some : (n : ℕ) → 1 ≤ n → behind n ≡ n ∷ []
behind_some zero pos = absurd (omega (arith, pos))
behind_some (suc n) pos = refl

abbrev front : ℕ → ℕ → ℕ → ℕ
front next n words = if nat_le (next + n) words then next else 0

first_is : (s : Ring) (n : ℕ) → first_in s n ≡ front s.next n s.words
unfolding first_for
first_is s n = ap (λ (k : ℕ). front k n s.words) (next_behind s.next)

pub first_least : (s : Ring) (n : ℕ) → first_in s n ≤ s.next
first_least s n = omega (arith, first_is s n, least s.next n s.words)
  where
    least : (k n w : ℕ) → front k n w ≤ k
    least k n w = grind (arith, nat_tests)

pub first_fits : (s : Ring) (n : ℕ) → n ≤ s.words → first_in s n + n ≤ s.words
first_fits s n le = omega (arith, first_is s n, fits s.next n s.words le)
  where
    fits : (k n w : ℕ) → n ≤ w → front k n w + n ≤ w
    fits k n w le = grind (arith, nat_tests)

pub next_call : (s t : Ring) (n : ℕ) → s ≡ t → s.next + n ≤ s.words → s.next ≡ first_in t n
next_call s t n e le = subst (λ (x : Ring). s.next ≡ first_in x n) e (here s.next n s.words le ∙ sym (first_is s n))
  where
    here : (k n w : ℕ) → k + n ≤ w → k ≡ front k n w
    here k n w le = grind (arith, nat_tests)

pub front_call : (s t : Ring) (n : ℕ) → s ≡ t → (s.next + n ≤ s.words → ⊥) → 0 ≡ first_in t n
front_call s t n e past = subst (λ (x : Ring). 0 ≡ first_in x n) e (none s.next n s.words past ∙ sym (first_is s n))
  where
    none : (k n w : ℕ) → (k + n ≤ w → ⊥) → 0 ≡ front k n w
    none k n w past = grind (arith, nat_tests)

pub shown_past : (s t : Ring) (i : ℕ) → s ≡ t → s.words ≤ i → None ≡ shown_by t i
unfolding shown_by
shown_past s t i e le = subst (λ (x : Ring). None ≡ shown_by x i) e (past s i le)
  where
    past : (s : Ring) (i : ℕ) → s.words ≤ i → None ≡ shown_by s i
    past s i le = rw (le-ltb i s.words le) refl

pub shown_unused : (t : Ring) (i : ℕ) → stands_at t i (slice_index t.owners i) ≡ false → None ≡ shown_by t i
unfolding shown_by
shown_unused t i e = rw (e, and_no (nat_lt i t.words)) refl
  where
    and_no : (x : Bool) → (x && false) ≡ false
    and_no true = refl
    and_no false = refl

pub shown_used : (s t : Ring) (i b f : ℕ) → s ≡ t → InShape s → i < s.words → stands_at t i (slice_index t.owners i) ≡ true → b ≡ slice_index_or s.owners i b → f ≡ slice_index_or s.firsts b f → Some (b, i - f) ≡ shown_by t i
unfolding shown_by
shown_used s t i b f e shape lt stands owner first =
    let own : b ≡ slice_index s.owners i = get_or_read s.owners i b (omega (arith, lt, shape.owners_long)) owner 0 in
    let small : b < length s.firsts = omega (arith, own, shape.owners_known i lt) in
    let here : f ≡ slice_index s.firsts b = get_or_read s.firsts b f small first 0 in
    subst (λ (x : Ring). Some (b, i - f) ≡ shown_by x i) e
    (ap (λ (g : ℕ). Some (b, i - g)) here ∙ ap (λ (c : ℕ). Some (c, i - first_at s c)) own ∙ shows s i lt (subst (λ (x : Ring). stands_at x i (slice_index x.owners i) ≡ true) (sym e) stands))
  where
    shows : (s : Ring) (i : ℕ) → i < s.words → stands_at s i (slice_index s.owners i) ≡ true → Some (slice_index s.owners i, i - first_at s (slice_index s.owners i)) ≡ shown_by s i
    shows s i lt e = rw (lt-ltb i s.words lt, e) refl

pub resident_past : (s t : Ring) (k : ℕ) → s ≡ t → length s.queue ≤ k → None ≡ resident_of (kept_by t) k
resident_past s t k e le = subst (λ (x : Ring). None ≡ resident_of (kept_by x) k) e (sym (resident_none s k le))

pub resident_call : (s t : Ring) (k b f : ℕ) → s ≡ t → InShape s → k < length s.queue → b ≡ slice_index s.queue k → f ≡ slice_index_or s.firsts b f → Some (b, f) ≡ resident_of (kept_by t) k
resident_call s t k b f e shape lt is first =
    let small : b < length s.firsts = omega (arith, is, shape.known (slice_index s.queue k) (index_has s.queue k lt)) in
    let here : f ≡ slice_index s.firsts b = get_or_read s.firsts b f small first 0 in
    subst (λ (x : Ring). Some (b, f) ≡ resident_of (kept_by x) k) e
    (ap (λ (g : ℕ). Some (b, g)) here ∙ ap (λ (c : ℕ). Some (c, first_at s c)) is ∙ sym (resident_is s k lt))

pub free_at : (s t : Ring) (at : ℕ) → s ≡ t → InShape s → length t.firsts ≤ target_at t at → IsFree s.chains at
free_at s t at e shape le = unheld_free s.chains at (omega (arith, shape.chain_lists, subst (λ (x : Ring). length x.firsts ≤ target_at x at) (sym e) le))
