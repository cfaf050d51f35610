-- First in, first out against any other policy. From a miss on, as many misses as there are slots are of blocks that differ, and that
-- differ from the first one: so the other policy, which held that one and at most h - 1 others, copied the rest.
use Rattle.std.proofs.Common.{◌≡◌, ◌⊎◌, ℕ, ◌+◌, ◌-◌, ◌*◌, ◌≤◌, false, List, [], ◌∷◌, ◌++◌, length, Option, Some, None, arith, refl, sym, ◌∙◌, ap, subst, inl, inr}
use Rattle.std.proofs.lemmas.Bool.{cases_lt, lt-ltb, le-ltb}
use Rattle.std.proofs.lemmas.List.{length-append, length-map, map-append, append_assoc}
use Rattle.std.proofs.lemmas.Nat.{mul-le}
use Rattle.swi_image.specs.Format.{ImageData}
use Rattle.swi_image.specs.Place.{place_of}
use Rattle.swi_rom.specs.Record.{Record, Placement, Transfer, Has, target_of}
use Rattle.swi_rom.specs.Service.{Setting}
use Rattle.swi_rom.specs.Policy.{is_placed}
use Rattle.swi_slots.specs.Fifo.{fifo}
use Rattle.swi_cache_laws.specs.Transfers.{block_entered, entered, served_all}
use Rattle.swi_cache_laws.specs.Paging.{Choice, IsChoice, IsPolicy, MissesFew, copies}
use Rattle.swi_cache_laws.proofs.Few.{Distinct, AreIn, has_left, has_right, has_append, distinct_append, few_distinct}
use Rattle.swi_cache_laws.proofs.Queue.{blocks, stands, absent, absent_behind}
use Rattle.swi_cache_laws.proofs.Moving.{Stays, Missed, Moves, behind, room, moves}

-- From a miss on, j more misses: the newest j + 1 blocks of the queue differ and are the program's, and the other policy has used them all,
-- which has copied c blocks meanwhile.
record Phase (slots : ℕ) (r : Record) (h : ℕ) (held : List ℕ) (j c : ℕ) : Type 0 where
  olds : List Placement
  news : List Placement
  used : List ℕ
  placed : r.placed ≡ olds ++ news
  most : length r.placed ≤ slots
  count : length news ≡ j + 1
  ours : (e : Placement) → Has news e → e.program ≡ r.turn
  apart : Distinct (blocks news)
  were : AreIn (blocks news) used
  holds : AreIn held used
  few : length used ≤ h + c

-- the policy's choice: what it has used is what it had used, and what it copies
chosen : (slots : ℕ) (r : Record) (h : ℕ) (held : List ℕ) (j c b : ℕ) (t : Choice) → Phase slots r h held j c → IsChoice h held b t → Phase slots r h t.held j (c + length t.copied)
chosen slots r h held j c b t s is = record {
  olds = s.olds;
  news = s.news;
  used = t.copied ++ s.used;
  placed = s.placed;
  most = s.most;
  count = s.count;
  ours = s.ours;
  apart = s.apart;
  were = λ x g. has_right t.copied s.used x (s.were x g);
  holds = λ x g. elim (is.kept x g) [ inl before ↦ has_right t.copied s.used x (s.holds x before) | inr copied ↦ has_left t.copied s.used x copied ];
  few = omega (arith, s.few, length-append t.copied s.used);
}

-- another record with the same queue
stayed : (slots : ℕ) (r t : Record) (h : ℕ) (held : List ℕ) (j c : ℕ) → Stays r t → Phase slots r h held j c → Phase slots t h held j c
stayed slots r t h held j c same s = record {
  olds = s.olds;
  news = s.news;
  used = s.used;
  placed = same.placed ∙ s.placed;
  most = subst (λ (es : List Placement). length es ≤ slots) (sym same.placed) s.most;
  count = s.count;
  ours = λ e g. s.ours e g ∙ sym same.turn;
  apart = s.apart;
  were = s.were;
  holds = s.holds;
  few = s.few;
}

room_few : (slots : ℕ) (es : List Placement) → 1 ≤ slots → length es ≤ slots → length (room slots es) + 1 ≤ slots
room_few slots es some le = elim (cases_lt (length es) slots) [
  | inl lt ↦ rw (lt-ltb (length es) slots lt) (omega arith)
  | inr full ↦ rw (le-ltb (length es) slots full) (one_less es le)
]
  where
    one_less : (es : List Placement) → length es ≤ slots → length (behind es) + 1 ≤ slots
    one_less [] le = some
    one_less (e ∷ es) le = omega arith

-- a phase begins with a miss
begun : (by : Setting) (r t : Record) (h b : ℕ) (before : List ℕ) (u : Choice) → 1 ≤ by.slots → length r.placed ≤ by.slots → Missed by r b t → IsChoice h before b u → Phase by.slots t h u.held 0 0
begun by r t h b before u some most miss is =
    let x : Placement = record { program = r.turn; block = b; first = miss.first } in
    record {
      olds = room by.slots r.placed;
      news = x ∷ [];
      used = u.held;
      placed = miss.placed;
      most = subst (λ (es : List Placement). length es ≤ by.slots) (sym miss.placed) (omega (arith, length-append (room by.slots r.placed) (x ∷ []), room_few by.slots r.placed some most));
      count = refl;
      ours = λ e g. elim g [ inl same ↦ ap (λ (p : Placement). p.program) (sym same) ∙ sym miss.turn | inr none ↦ absurd none ];
      apart = (λ g. g, tt);
      were = λ y g. elim g [ inl same ↦ subst (λ (z : ℕ). Has u.held z) same is.has | inr none ↦ absurd none ];
      holds = λ y g. g;
      few = omega (arith, is.few);
    }

-- what is in the phase differs from what is missed next
new_block : (slots : ℕ) (r : Record) (h : ℕ) (held : List ℕ) (j c b : ℕ) (s : Phase slots r h held j c) → is_placed r b ≡ false → Has (blocks s.news) b → ⊥
unfolding is_placed
new_block slots r h held j c b s none =
    absent r.turn b s.news (absent_behind r.turn b s.olds s.news (subst (λ (es : List Placement). stands r.turn b es ≡ false) s.placed none)) s.ours

-- with it they are all that the other policy has used
in_used : (slots : ℕ) (r : Record) (h : ℕ) (held : List ℕ) (j c b : ℕ) (s : Phase slots r h held j c) → Has held b → AreIn (blocks s.news ++ b ∷ []) s.used
in_used slots r h held j c b s has = λ x g. elim (has_append (blocks s.news) (b ∷ []) x g) [
  | inl old ↦ s.were x old
  | inr new ↦ elim new [ inl same ↦ s.holds x (subst (λ (z : ℕ). Has held z) same has) | inr none ↦ absurd none ]
]

news_few : (slots : ℕ) (r : Record) (h : ℕ) (held : List ℕ) (j c : ℕ) (s : Phase slots r h held j c) → length s.news ≤ slots
news_few slots r h held j c s = omega (arith, s.most, ap length s.placed, length-append s.olds s.news)

-- the phase ends where all that stands is in it
ended : (slots : ℕ) (r : Record) (h : ℕ) (held : List ℕ) (j c b : ℕ) (s : Phase slots r h held j c) → is_placed r b ≡ false → Has held b → slots ≤ length s.news → slots + 1 ≤ h + c
ended slots r h held j c b s none has all =
    let apart = distinct_append (blocks s.news) b s.apart (new_block slots r h held j c b s none) in
    let few = few_distinct (blocks s.news ++ b ∷ []) s.used apart (in_used slots r h held j c b s has) in
    omega (arith, few, s.few, all, length-append (blocks s.news) (b ∷ []), length-map s.news (λ (e : Placement). e.block))

-- else an older block leaves, or none
room_left : (slots : ℕ) (olds news : List Placement) → ((left : List Placement) × (room slots (olds ++ news) ≡ left ++ news)) ⊎ (slots ≤ length news)
room_left slots olds news = elim (cases_lt (length (olds ++ news)) slots) [
  | inl lt ↦ inl (olds, rw (lt-ltb (length (olds ++ news)) slots lt) refl)
  | inr full ↦ oldest olds full
]
  where
    oldest : (olds : List Placement) → slots ≤ length (olds ++ news) → ((left : List Placement) × (room slots (olds ++ news) ≡ left ++ news)) ⊎ (slots ≤ length news)
    oldest [] full = inr full
    oldest (o ∷ olds) full = inl (olds, rw (le-ltb (length (o ∷ olds ++ news)) slots full) refl)

-- and the phase goes on
gone_on : (by : Setting) (r t : Record) (h : ℕ) (held : List ℕ) (j c b : ℕ) (s : Phase by.slots r h held j c) → 1 ≤ by.slots → Missed by r b t → Has held b →
    (left : List Placement) → room by.slots (s.olds ++ s.news) ≡ left ++ s.news → Phase by.slots t h held (j + 1) c
gone_on by r t h held j c b s some miss has left is =
    let x : Placement = record { program = r.turn; block = b; first = miss.first } in
    let placed : t.placed ≡ left ++ (s.news ++ x ∷ []) =
    miss.placed ∙ ap (λ (es : List Placement). room by.slots es ++ x ∷ []) s.placed ∙ ap (λ (es : List Placement). es ++ x ∷ []) is ∙ append_assoc left s.news (x ∷ []) in
    let blocks_are : blocks (s.news ++ x ∷ []) ≡ blocks s.news ++ b ∷ [] = map-append (λ (e : Placement). e.block) s.news (x ∷ []) in
    record {
      olds = left;
      news = s.news ++ x ∷ [];
      used = s.used;
      placed = placed;
      most = subst (λ (es : List Placement). length es ≤ by.slots) (sym miss.placed) (omega (arith, length-append (room by.slots r.placed) (x ∷ []), room_few by.slots r.placed some s.most));
      count = omega (arith, length-append s.news (x ∷ []), s.count);
      ours = λ e g. elim (has_append s.news (x ∷ []) e g) [
        | inl old ↦ s.ours e old ∙ sym miss.turn
        | inr new ↦ elim new [ inl same ↦ ap (λ (p : Placement). p.program) (sym same) ∙ sym miss.turn | inr none ↦ absurd none ]
      ];
      apart = subst (λ (bs : List ℕ). Distinct bs) (sym blocks_are) (distinct_append (blocks s.news) b s.apart (new_block by.slots r h held j c b s miss.absent));
      were = subst (λ (bs : List ℕ). AreIn bs s.used) (sym blocks_are) (in_used by.slots r h held j c b s has);
      holds = s.holds;
      few = s.few;
    }

-- ---- the sums

-- the last phase, which isn't over
sum_last : (a k h j c m copied : ℕ) → a ≤ k → j + 1 ≤ h + c → a * (m + j + 1) ≤ k * (copied + c) + a * (h + m)
sum_last a k h j c m copied le few = omega (arith, mul-le a (j + 1) a (h + c) (omega arith) few, mul-le a c k c le (omega arith), mul-le k 0 k copied (omega arith) (omega arith))

-- one that is over, and all behind it
sum_over : (a k h j c m copied all : ℕ) → j + 1 ≤ k → a ≤ c → a * (all + 0 + 1) ≤ k * (copied + 0) + a * (h + (m + 1)) → a * (all + j + 1) ≤ k * (copied + c) + a * (h + m)
sum_over a k h j c m copied all few le rest = omega (arith, mul-le a (j + 1) c k le few, rest)

-- ---- all transfers

abbrev misses_after : Setting → ImageData → Record → List Transfer → ℕ
misses_after by v r ts = (served_all (fifo by) v r ts).counts.misses

-- from a miss on
abbrev Bounded : Setting → ImageData → ℕ → List Transfer → Type 0
Bounded by v h ts = (r : Record) (held : List ℕ) (j c : ℕ) (choices : List Choice) → Phase by.slots r h held j c → IsPolicy h held (entered v ts) choices →
    (by.slots - h + 1) * (misses_after by v r ts + j + 1) ≤ by.slots * (copies choices + c) + (by.slots - h + 1) * (h + r.counts.misses)

has_some : (xs : List ℕ) (x : ℕ) → Has xs x → 1 ≤ length xs
has_some [] x h = absurd h
has_some (y ∷ xs) x h = omega arith

choice_some : (h : ℕ) (before : List ℕ) (b : ℕ) (t : Choice) → IsChoice h before b t → 1 ≤ h
choice_some h before b t is = omega (arith, is.few, has_some t.held b is.has)

bounded_miss : (by : Setting) (v : ImageData) (h : ℕ) (ts : List Transfer) → h ≤ by.slots → Bounded by v h ts →
    (r t : Record) (held : List ℕ) (j c b : ℕ) (u : Choice) (choices : List Choice) → Missed by r b t → Phase by.slots r h held j c → IsChoice h held b u → IsPolicy h u.held (entered v ts) choices →
    (by.slots - h + 1) * (misses_after by v t ts + j + 1) ≤ by.slots * (length u.copied + copies choices + c) + (by.slots - h + 1) * (h + r.counts.misses)
bounded_miss by v h ts le up r t held j c b u choices miss s is later =
    let a : ℕ = by.slots - h + 1 in
    let some : 1 ≤ by.slots = omega (arith, choice_some h held b u is) in
    let s' = chosen by.slots r h held j c b u s is in
    let Goal : Type 0 = (by.slots - h + 1) * (misses_after by v t ts + j + 1) ≤ by.slots * (length u.copied + copies choices + c) + (by.slots - h + 1) * (h + r.counts.misses) in
    let one_more : (rest : ℕ) → rest + (by.slots - h + 1) * (h + t.counts.misses) ≡ rest + (by.slots - h + 1) * (h + (r.counts.misses + 1)) = λ rest. ap (λ (m : ℕ). rest + (by.slots - h + 1) * (h + m)) miss.misses in
    elim (room_left by.slots s'.olds s'.news) [
      | inl w ↦ (let rest = up t u.held (j + 1) (c + length u.copied) choices (gone_on by r t h u.held j (c + length u.copied) b s' some miss is.has w.0 w.1) later in
          omega (arith, rest, one_more 0))
      | inr all ↦ (let rest = up t u.held 0 0 choices (begun by r t h b held u some s.most miss is) later in
          let over = ended by.slots r h u.held j (c + length u.copied) b s' miss.absent is.has all in
          omega (
            arith,
            sum_over (by.slots - h + 1) by.slots h j (c + length u.copied) r.counts.misses (copies choices) (misses_after by v t ts)
                (omega (arith, s'.count, news_few by.slots r h u.held j (c + length u.copied) s')) (omega (arith, over)) (omega (arith, rest, one_more 0)),
          ))
    ]

bounded_step : (by : Setting) (v : ImageData) (h : ℕ) (ts : List Transfer) → h ≤ by.slots → Bounded by v h ts →
    (r t : Record) (held : List ℕ) (j c : ℕ) (p : Option (ℕ × ℕ)) (choices : List Choice) → Moves by r p t → Phase by.slots r h held j c → IsPolicy h held (block_entered p ++ entered v ts) choices →
    (by.slots - h + 1) * (misses_after by v t ts + j + 1) ≤ by.slots * (copies choices + c) + (by.slots - h + 1) * (h + r.counts.misses)
bounded_step by v h ts le up r t held j c None choices same s is =
    subst (λ (m : ℕ). (by.slots - h + 1) * (misses_after by v t ts + j + 1) ≤ by.slots * (copies choices + c) + (by.slots - h + 1) * (h + m)) same.misses
    (up t held j c choices (stayed by.slots r t h held j c same s) is)
bounded_step by v h ts le up r t held j c (Some p) [] moved s is = absurd is
bounded_step by v h ts le up r t held j c (Some p) (u ∷ choices) (inl same) s is =
    let rest = up t u.held j (c + length u.copied) choices (stayed by.slots r t h u.held j (c + length u.copied) same (chosen by.slots r h held j c p.0 u s is.0)) is.1 in
    let rest' = subst (λ (m : ℕ). (by.slots - h + 1) * (misses_after by v t ts + j + 1) ≤ by.slots * (copies choices + (c + length u.copied)) + (by.slots - h + 1) * (h + m)) same.misses rest in
    omega (arith, rest')
bounded_step by v h ts le up r t held j c (Some p) (u ∷ choices) (inr miss) s is = bounded_miss by v h ts le up r t held j c p.0 u choices miss s is.0 is.1

bounded : (by : Setting) (v : ImageData) (h : ℕ) (ts : List Transfer) → 1 ≤ h → h ≤ by.slots → Bounded by v h ts
bounded by v h [] some le r held j c choices s is =
    sum_last (by.slots - h + 1) by.slots h j c r.counts.misses (copies choices) (omega arith)
    (omega (arith, few_distinct (blocks s.news) s.used s.apart s.were, s.few, s.count, length-map s.news (λ (e : Placement). e.block)))
bounded by v h (t ∷ ts) some le r held j c choices s is =
    bounded_step by v h ts le (bounded by v h ts some le) r (fifo by r v t) held j c (place_of v (target_of t)) choices (moves by v r t) s is

-- before the first miss
abbrev Few : Setting → ImageData → ℕ → List Transfer → Type 0
Few by v h ts = (r : Record) (held : List ℕ) (choices : List Choice) → length r.placed ≤ by.slots → IsPolicy h held (entered v ts) choices →
    (by.slots - h + 1) * misses_after by v r ts ≤ by.slots * copies choices + (by.slots - h + 1) * (h + r.counts.misses)

few_step : (by : Setting) (v : ImageData) (h : ℕ) (ts : List Transfer) → h ≤ by.slots → Few by v h ts →
    (r t : Record) (held : List ℕ) (p : Option (ℕ × ℕ)) (choices : List Choice) → Moves by r p t → length r.placed ≤ by.slots → IsPolicy h held (block_entered p ++ entered v ts) choices →
    (by.slots - h + 1) * misses_after by v t ts ≤ by.slots * copies choices + (by.slots - h + 1) * (h + r.counts.misses)
few_step by v h ts le up r t held None choices same most is =
    subst (λ (m : ℕ). (by.slots - h + 1) * misses_after by v t ts ≤ by.slots * copies choices + (by.slots - h + 1) * (h + m)) same.misses
    (up t held choices (subst (λ (es : List Placement). length es ≤ by.slots) (sym same.placed) most) is)
few_step by v h ts le up r t held (Some p) [] moved most is = absurd is
few_step by v h ts le up r t held (Some p) (u ∷ choices) (inl same) most is =
    let rest = up t u.held choices (subst (λ (es : List Placement). length es ≤ by.slots) (sym same.placed) most) is.1 in
    let rest' = subst (λ (m : ℕ). (by.slots - h + 1) * misses_after by v t ts ≤ by.slots * copies choices + (by.slots - h + 1) * (h + m)) same.misses rest in
    omega (arith, rest', mul-le by.slots 0 by.slots (length u.copied) (omega arith) (omega arith))
few_step by v h ts le up r t held (Some p) (u ∷ choices) (inr miss) most is =
    let some : 1 ≤ h = choice_some h held p.0 u is.0 in
    let rest = bounded by v h ts some le t u.held 0 0 choices (begun by r t h p.0 held u (omega arith) most miss is.0) is.1 in
    let rest' = subst (λ (m : ℕ). (by.slots - h + 1) * (misses_after by v t ts + 0 + 1) ≤ by.slots * (copies choices + 0) + (by.slots - h + 1) * (h + m)) miss.misses rest in
    omega (arith, rest', mul-le by.slots 0 by.slots (length u.copied) (omega arith) (omega arith))

few : (by : Setting) (v : ImageData) (h : ℕ) (ts : List Transfer) → h ≤ by.slots → Few by v h ts
few by v h [] le r held choices most is =
    omega (arith, mul-le by.slots 0 by.slots (copies choices) (omega arith) (omega arith), mul-le (by.slots - h + 1) 0 (by.slots - h + 1) h (omega arith) (omega arith))
few by v h (t ∷ ts) le r held choices most is =
    few_step by v h ts le (few by v h ts le) r (fifo by r v t) held (place_of v (target_of t)) choices (moves by v r t) most is

pub misses_few : MissesFew
misses_few by v r ts most h before choices le is = few by v h ts le r before choices most is
