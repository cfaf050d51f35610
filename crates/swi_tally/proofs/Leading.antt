-- Which blocks came before which, and the links that lead back to an earlier one.
use Rattle.std.proofs.Common.{◌≡◌, ◌⊎◌, ℕ, ◌++◌, true, false, List, [], ◌∷◌, slice_index_or, slice_set, arith, sym, ◌∙◌, subst, inl, inr}
use Rattle.std.proofs.lemmas.Bool.{cases_eq}
use Rattle.std.proofs.lemmas.List.{get_or-set_same, get_or-set_other}
use Rattle.swi_links.specs.Chains.{Has, Distinct}
use Rattle.swi_links.proofs.Numbers.{append_has, append_here, has_append}
use Rattle.swi_tally.specs.Tally.{TallyData, InShape, Before, Leads, AreLeading, settled}
use Rattle.swi_tally.proofs.Queueing.{other_rest}

before_has : (queue : List ℕ) (a b : ℕ) → Before queue a b → Has queue b
before_has [] a b h = absurd h
before_has (q ∷ qs) a b (inl h) = inr h.1
before_has (q ∷ qs) a b (inr h) = inr (before_has qs a b h)

before_append : (queue : List ℕ) (n a b : ℕ) → Before queue a b → Before (queue ++ n ∷ []) a b
before_append [] n a b h = absurd h
before_append (q ∷ qs) n a b (inl h) = inl (h.0, append_has qs n b h.1)
before_append (q ∷ qs) n a b (inr h) = inr (before_append qs n a b h)

last_before : (queue : List ℕ) (n a : ℕ) → Has queue a → Before (queue ++ n ∷ []) a n
last_before [] n a h = absurd h
last_before (q ∷ qs) n a (inl same) = inl (same, append_here qs n)
last_before (q ∷ qs) n a (inr h) = inr (last_before qs n a h)

-- none came before the oldest
pub none_before : (b : ℕ) (rest : List ℕ) (a : ℕ) → Distinct (b ∷ rest) → Before (b ∷ rest) a b → ⊥
none_before b rest a distinct (inl h) = distinct.0 h.1
none_before b rest a distinct (inr h) = distinct.0 (before_has rest a b h)

rest_before : (b : ℕ) (rest : List ℕ) (x y : ℕ) → (x ≡ b → ⊥) → Before (b ∷ rest) x y → Before rest x y
rest_before b rest x y ne (inl h) = absurd (ne (sym h.0))
rest_before b rest x y ne (inr h) = h

-- the oldest has left
pub leads_left : (s : TallyData) (b : ℕ) (rest : List ℕ) (x y : ℕ) → s.queue ≡ b ∷ rest → (x ≡ b → ⊥) → (y ≡ b → ⊥) → Leads s x y → Before rest x y ⊎ (Has rest y × (slice_index_or s.led y true ≡ true))
leads_left s b rest x y is ne ne' (inl h) = inl (rest_before b rest x y ne (subst (λ (q : List ℕ). Before q x y) is h))
leads_left s b rest x y is ne ne' (inr h) = inr (other_rest s b rest is y h.0 ne', h.1)

-- one comes behind all others
pub leads_settled : (s : TallyData) (b first n x y : ℕ) → (Has s.queue b → ⊥) → Leads s x y → Leads (settled s b first n) x y
leads_settled s b first n x y none (inl h) = inl (before_append s.queue b x y h)
leads_settled s b first n x y none (inr h) =
    inr (append_has s.queue b y h.0, get_or-set_other s.led b y false true (λ (same : y ≡ b). none (subst (λ (z : ℕ). Has s.queue z) same h.0)) ∙ h.1)

pub settled_leading : (s : TallyData) (b first n : ℕ) → AreLeading (settled s b first n) b
settled_leading s b first n a h ne = inl (last_before s.queue b a (earlier (has_append s.queue b a h)))
  where
    earlier : Has s.queue a ⊎ (b ≡ a) → Has s.queue a
    earlier (inl i) = i
    earlier (inr same) = absurd (ne (sym same))

-- it is kept that a later one may have a link into the block
abbrev pub led_tally : ℕ → TallyData → TallyData
led_tally b s = record s { led = slice_set s.led b true }

pub leads_led : (b : ℕ) (s : TallyData) (x y : ℕ) → InShape s → Leads s x y → Leads (led_tally b s) x y
leads_led b s x y shape (inl h) = inl h
leads_led b s x y shape (inr h) = inr (
  h.0,
  elim (cases_eq y b) [
    | inl same ↦ rw same (get_or-set_same s.led b true true (omega (arith, shape.known y h.0, shape.led_long, same)))
    | inr ne ↦ get_or-set_other s.led b y true true ne ∙ h.1
  ],
)

pub led_leading : (b : ℕ) (s : TallyData) → InShape s → Has s.queue b → AreLeading (led_tally b s) b
led_leading b s shape there a h ne = inr (there, get_or-set_same s.led b true true (omega (arith, shape.known b there, shape.led_long)))

-- the call, as its code meets it
pub settled_last : (s t : TallyData) (b first n : ℕ) → t ≡ settled s b first n → AreLeading t b
settled_last s t b first n is = subst (λ (q : TallyData). AreLeading q b) (sym is) (settled_leading s b first n)
