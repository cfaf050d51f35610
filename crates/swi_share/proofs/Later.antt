-- Fetches behind the sets of what came before them.
use Rattle.std.proofs.Common.{◌≡◌, ℕ, zero, suc, ◌+◌, ◌-◌, Bool, true, false, if◌then◌else◌, List, [], ◌∷◌, ◌++◌, reverse, Some, None, is_some, arith, refl, sym, ◌∙◌, ap, append_assoc}
use Rattle.std.proofs.lemmas.List.{reverse-append}
use Rattle.swi_outside.specs.CacheRam.{Fetch, RamState, fetch, since, later}
use Rattle.swi_outside.specs.Causes.{risen}
use Rattle.swi_outside.specs.Fetches.{later_append, since_append, since_later, since_reverse}
use Rattle.swi_calls.specs.declared.machine.Machine.{Machine}
use Rattle.swi_calls.specs.Held.{held_step}
use Rattle.swi_calls.specs.State.{FlatState}
use Rattle.swi_image.specs.Format.{ImageData}
use Rattle.swi_rom.specs.Record.{Record, Transfer, writes}
use Rattle.swi_rom.specs.Standing.{word_in}
use Rattle.swi_hart.specs.Hart.{original, slots}
use Rattle.swi_board.specs.Fetching.{FetchedFront, HasFetched, Written, fall_words, fetch_in, fetches_from, index_in, step_words, words_run, written_by}
use Rattle.swi_board.specs.Moments.{Policy}
use Rattle.swi_board.specs.Transfers.{Here, after_all, at_fall, fall_transfers, here_after, settled, step_cost, step_transfers}

-- ---- two runs, one behind the other

pub later_none : (xs : List Fetch) → later 0 xs ≡ xs
later_none [] = refl
later_none (x ∷ xs) = ap (λ (n : ℕ). fetch x.index n x.word ∷ later 0 xs) (none_more x.sets_before) ∙ ap (λ (l : List Fetch). x ∷ l) (later_none xs)
  where
    none_more : (n : ℕ) → 0 + n ≡ n
    none_more n = omega arith

-- fetches behind m sets of a run, in the count of a ram that had made n before the run, and k by then
pub since_behind : (n m k : ℕ) (xs : List Fetch) → k ≡ risen n m → since n (reverse (later m xs)) ≡ since k (reverse xs)
since_behind n m k xs is =
    since_reverse n (later m xs) ∙ ap (λ (l : List Fetch). reverse l) (since_later n m xs)
    ∙ ap (λ (i : ℕ). reverse (since i xs)) (sym is) ∙ sym (since_reverse k xs)

pub fetched_both : (n : ℕ) (xs ys : List Fetch) (a b d : RamState) → b.sets ≡ risen a.sets n → HasFetched xs a b → HasFetched ys b d → HasFetched (xs ++ later n ys) a d
fetched_both n xs ys a b d is one two =
    let own = since b.sets (reverse ys) in
    let first = since a.sets (reverse xs) in
    let both : since a.sets (reverse (xs ++ later n ys)) ≡ own ++ first =
    ap (λ (l : List Fetch). since a.sets l) (reverse-append xs (later n ys)) ∙ since_append a.sets (reverse (later n ys)) (reverse xs)
    ∙ ap (λ (l : List Fetch). l ++ first) (since_behind a.sets n b.sets ys is) in
    two ∙ ap (λ (l : List Fetch). own ++ l) one ∙ sym (append_assoc own first a.fetched_at) ∙ ap (λ (l : List Fetch). l ++ a.fetched_at) (sym both)

-- the words of the first, and a front of those of the other
pub front_then : (n : ℕ) (first mid after : RamState) (xs ys whole : List Fetch) → mid.sets ≡ risen first.sets n → whole ≡ xs ++ later n ys → HasFetched xs first mid → FetchedFront ys mid after → FetchedFront whole first after
front_then n first mid after xs ys whole sets is one two =
    let fetched = two.1.fetched in (
      later n two.0,
      record {
        fetched = xs ++ later n fetched;
        are = fetched_both n xs fetched first mid after sets one two.1.are;
        front = append_assoc xs (later n fetched) (later n two.0) ∙ ap (λ (l : List Fetch). xs ++ l) (sym (later_append n fetched two.0) ∙ ap (λ (l : List Fetch). later n l) two.1.front) ∙ sym is;
      },
    )

-- ---- the words of a run, by how many sets it begins behind

abbrev behind : ℕ → Written → Written
behind m w = record { kept = w.kept; sets = m + w.sets }

written_behind : (policy : Policy) (v : ImageData) (m : ℕ) (w : Written) (ts : List Transfer) → written_by policy v (behind m w) ts ≡ behind m (written_by policy v w ts)
written_behind policy v m w ts =
    ap (λ (n : ℕ). let x : Written = record { kept = after_all policy v w.kept ts; sets = n } in x) (sum m w.sets (writes (after_all policy v w.kept ts) - writes w.kept))
  where
    sum : (a b c : ℕ) → a + b + c ≡ a + (b + c)
    sum a b c = omega arith

fetches_behind : (word : ℕ → ℕ) (i n m sets : ℕ) → fetches_from word i n (m + sets) ≡ later m (fetches_from word i n sets)
fetches_behind word i zero m sets = refl
fetches_behind word i (suc n) m sets = ap (λ (l : List Fetch). fetch i (m + sets) (word i) ∷ l) (fetches_behind word (i + 1) n m sets)

step_behind : (v : ImageData) (f : Machine) (here : Here) (m : ℕ) (w : Written) → step_words v f here (behind m w) ≡ later m (step_words v f here w)
step_behind v f None m w = refl
step_behind v f (Some p) m w = fetches_behind (word_in v w.kept p.0) (index_in w.kept p) (step_cost f (original f) (slots f)) m w.sets

fall_behind : (v : ImageData) (f : Machine) (here : Here) (m : ℕ) (w : Written) → fall_words v f here (behind m w) ≡ later m (fall_words v f here w)
fall_behind v f None m w = refl
fall_behind v f (Some p) m w = by (at_fall v f (Some p))
  where
    by : (t : Bool) → (if t then fetch_in v (behind m w) p.0 (index_in w.kept p) ∷ [] else []) ≡ later m (if t then fetch_in v w p.0 (index_in w.kept p) ∷ [] else [])
    by true = refl
    by false = refl

three_later : (m : ℕ) (a b c x y z : List Fetch) → a ≡ later m x → b ≡ later m y → c ≡ later m z → a ++ (b ++ c) ≡ later m (x ++ (y ++ z))
three_later m a b c x y z p q t =
    ap (λ (l : List Fetch). l ++ (b ++ c)) p ∙ ap (λ (l : List Fetch). later m x ++ (l ++ c)) q ∙ ap (λ (l : List Fetch). later m x ++ (later m y ++ l)) t
    ∙ ap (λ (l : List Fetch). later m x ++ l) (sym (later_append m y z)) ∙ sym (later_append m x (y ++ z))

goes_on_later : (t : Bool) (m : ℕ) (xs ys : List Fetch) → xs ≡ later m ys → (if t then [] else xs) ≡ later m (if t then [] else ys)
goes_on_later true m xs ys is = refl
goes_on_later false m xs ys is = is

words_behind : (policy : Policy) (v : ImageData) (k : ℕ) (s : FlatState) (here : Here) (m : ℕ) (w : Written) → words_run policy v k s here (behind m w) ≡ later m (words_run policy v k s here w)
unfolding words_run
words_behind policy v zero s here m w = refl
words_behind policy v (suc k) s here m w =
    let at = settled v s.machine here in
    let next = here_after v s.machine at (held_step s).machine in
    let falls = fall_transfers v s.machine here in
    let steps = step_transfers s.machine at (held_step s).machine in
    let first = written_by policy v w falls in
    let fell = written_behind policy v m w falls in
    goes_on_later (is_some s.machine.ending) m _ _ (three_later m _ _ _ _ _ _ (fall_behind v s.machine here m w)
    (ap (λ (x : Written). step_words v s.machine at x) fell ∙ step_behind v s.machine at m first)
    (ap (λ (x : Written). words_run policy v k (held_step s) next (written_by policy v x steps)) fell
    ∙ ap (λ (x : Written). words_run policy v k (held_step s) next x) (written_behind policy v m first steps)
    ∙ words_behind policy v k (held_step s) next m (written_by policy v first steps)))

-- those of a run behind so many sets are those of one from none, so many sets later
pub words_later : (policy : Policy) (v : ImageData) (k : ℕ) (s : FlatState) (here : Here) (r : Record) (m : ℕ) →
    words_run policy v k s here (record { kept = r; sets = m }) ≡ later m (words_run policy v k s here (record { kept = r; sets = 0 }))
words_later policy v k s here r m =
    ap (λ (n : ℕ). words_run policy v k s here (record { kept = r; sets = n })) (none_more m) ∙ words_behind policy v k s here m (record { kept = r; sets = 0 })
  where
    none_more : (n : ℕ) → n ≡ n + 0
    none_more n = omega arith
