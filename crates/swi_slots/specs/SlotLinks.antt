-- Which links the words of the slots are.
use Rattle.std.proofs.Common.{◌≡◌, ℕ, ◌+◌, ◌*◌, ◌/◌, ◌%◌, ◌<◌, ◌≤◌, ◌^◌, Bool, true, false, if◌then◌else◌, Some, None, slice_index, nat_lt, arith, refl, sym, ◌∙◌, ap, subst}
use Rattle.std.proofs.lemmas.Bool.{ltb-true, lt-ltb, ltb-false, false_from_ne_true}
use Rattle.std.proofs.lemmas.Nat.{mod-mul-add, div-mul-add, div-add-mod', mod_below, row_fits}
use Rattle.swi_rom.specs.Record.{Link, has_link, exit_among}
use Rattle.swi_slots.specs.Keys.{key_of, owner_of, number_of, key_owner, key_number, key_parts, number_below}
use Rattle.swi_slots.specs.Slots.{Slots, InShape, link_at, links_of}
use Rattle.swi_rom.specs.Collected.{Differ, collected_has, has_collected, collected_ascending}
use Rattle.swi_rom.specs.Links.{Ascending, among_has, has_among}

-- no block stands twice, and only words of filled slots are links
pub record Tidy (s : Slots) : Type 0 where
  pub shape : InShape s
  pub distinct : (n m : ℕ) → n < s.filled → m < s.filled → slice_index s.blocks n ≡ slice_index s.blocks m → n ≡ m
  pub stands : (i : ℕ) → i < s.slots * s.size → slice_index s.targets i < s.slots → i / s.size < s.filled

abbrev pub link_of : Slots → ℕ → ℕ → Link
link_of s n o = record {
  program = owner_of (slice_index s.blocks n);
  block = number_of (slice_index s.blocks n);
  offset = o;
  into = number_of (slice_index s.blocks (slice_index s.targets (n * s.size + o)));
}

-- the block of a link is that of its slot
pub link_key : (s : Slots) (n o : ℕ) (k : Link) → link_of s n o ≡ k → slice_index s.blocks n ≡ key_of k.program k.block
link_key s n o k e =
    sym (key_parts (slice_index s.blocks n)) ∙ ap (λ (x : ℕ). key_of x (number_of (slice_index s.blocks n))) (ap (λ (l : Link). l.program) e) ∙ ap (λ (x : ℕ). key_of k.program x) (ap (λ (l : Link). l.block) e)

pub some_same : (k l : Link) → Some k ≡ Some l → k ≡ l
some_same k l e = cc

abbrev pub link_here : Slots → ℕ → Link
link_here s i = record {
  program = owner_of (slice_index s.blocks (i / s.size));
  block = number_of (slice_index s.blocks (i / s.size));
  offset = i % s.size;
  into = number_of (slice_index s.blocks (slice_index s.targets i));
}

link_at_some : (s : Slots) (i : ℕ) (k : Link) → link_at s i ≡ Some k → (slice_index s.targets i < s.slots) × (link_here s i ≡ k)
unfolding link_at
link_at_some s i k e = ways (nat_lt (slice_index s.targets i) s.slots) refl e
  where
    ways : (t : Bool) → nat_lt (slice_index s.targets i) s.slots ≡ t → (if t then Some (link_here s i) else None) ≡ Some k →
        (slice_index s.targets i < s.slots) × (link_here s i ≡ k)
    ways true t e = (ltb-true _ _ t, some_same _ k e)
    ways false t e = absurd (cc)

some_link_at : (s : Slots) (i : ℕ) → slice_index s.targets i < s.slots → link_at s i ≡ Some (link_here s i)
unfolding link_at
some_link_at s i lt = rw (lt-ltb (slice_index s.targets i) s.slots lt) refl

pub word_below : (s : Slots) (n o : ℕ) → InShape s → n < s.slots → o < s.size → n * s.size + o < s.slots * s.size
word_below s n o shape lt lt' = omega (arith, row_fits n s.size s.slots s.size lt (omega arith))

pub word_slot : (s : Slots) (n o : ℕ) → o < s.size → ((n * s.size + o) / s.size ≡ n) × ((n * s.size + o) % s.size ≡ o)
word_slot s n o lt = (div-mul-add n s.size o lt, mod-mul-add n s.size o lt)

pub word_is : (s : Slots) (i : ℕ) → InShape s → (i / s.size * s.size + i % s.size ≡ i) × (i % s.size < s.size)
word_is s i shape = (div-add-mod' i s.size, mod_below i s.size (omega (arith, shape.size_least)))

-- at a word's own place
pub here_of_word : (s : Slots) (i : ℕ) → InShape s → link_here s i ≡ link_of s (i / s.size) (i % s.size)
here_of_word s i shape =
    ap (λ (j : ℕ). let l : Link = record {
      program = owner_of (slice_index s.blocks (i / s.size));
      block = number_of (slice_index s.blocks (i / s.size));
      offset = i % s.size;
      into = number_of (slice_index s.blocks (slice_index s.targets j));
    } in l) (sym (word_is s i shape).0)

word_here : (s : Slots) (n o : ℕ) → o < s.size → link_here s (n * s.size + o) ≡ link_of s n o
word_here s n o lt =
    let p = word_slot s n o lt in
    let key : slice_index s.blocks ((n * s.size + o) / s.size) ≡ slice_index s.blocks n = ap (λ (m : ℕ). slice_index s.blocks m) p.0 in
    link_parts _ _ _ _ _ _ (number_of (slice_index s.blocks (slice_index s.targets (n * s.size + o)))) (ap owner_of key) (ap number_of key) p.1
  where
    link_parts : (p q b c o u i : ℕ) → p ≡ q → b ≡ c → o ≡ u →
        let k : Link = record { program = p; block = b; offset = o; into = i } in let l : Link = record { program = q; block = c; offset = u; into = i } in k ≡ l
    link_parts p q b c o u i e f g = rw (e, f, g) refl

abbrev pub Found : Slots → Link → Type 0
Found s k = (n : ℕ) × (o : ℕ) × (n < s.filled) × (o < s.size) × (link_of s n o ≡ k) × (slice_index s.targets (n * s.size + o) < s.slots)

pub linked_word : (s : Slots) (k : Link) → Tidy s → has_link (links_of s) k ≡ true → Found s k
unfolding links_of
linked_word s k tidy h =
    let w = collected_has (link_at s) (s.slots * s.size) k h in
    let e = link_at_some s w.0 k w.2 in
    let p = word_is s w.0 tidy.shape in
    (w.0 / s.size, w.0 % s.size, tidy.stands w.0 w.1 e.0, p.1, sym (here_of_word s w.0 tidy.shape) ∙ e.1, subst (λ (i : ℕ). slice_index s.targets i < s.slots) (sym p.0) e.0)

pub word_linked : (s : Slots) (n o : ℕ) → InShape s → n < s.slots → o < s.size → slice_index s.targets (n * s.size + o) < s.slots → has_link (links_of s) (link_of s n o) ≡ true
unfolding links_of
word_linked s n o shape lt lt' t =
    has_collected (link_at s) (s.slots * s.size) (n * s.size + o) (link_of s n o) (word_below s n o shape lt lt')
    (some_link_at s (n * s.size + o) t ∙ ap (λ (l : Link). Some l) (word_here s n o lt'))

differ_at : (s : Slots) → Tidy s → Differ (link_at s) (s.slots * s.size)
differ_at s tidy i j k lt lt' e f =
    let a = link_at_some s i k e in
    let b = link_at_some s j k f in
    let here : link_of s (i / s.size) (i % s.size) ≡ k = sym (here_of_word s i tidy.shape) ∙ a.1 in
    let there : link_of s (j / s.size) (j % s.size) ≡ k = sym (here_of_word s j tidy.shape) ∙ b.1 in
    let row : i / s.size ≡ j / s.size = tidy.distinct (i / s.size) (j / s.size) (tidy.stands i lt a.0) (tidy.stands j lt' b.0) (link_key s (i / s.size) (i % s.size) k here ∙ sym (link_key s (j / s.size) (j % s.size) k there)) in
    let column : i % s.size ≡ j % s.size = ap (λ (l : Link). l.offset) (here ∙ sym there) in
    sym (word_is s i tidy.shape).0 ∙ ap (λ (m : ℕ). m * s.size + i % s.size) row ∙ ap (λ (m : ℕ). j / s.size * s.size + m) column ∙ (word_is s j tidy.shape).0

pub links_ascending : (s : Slots) → Tidy s → Ascending (links_of s)
unfolding links_of
links_ascending s tidy = collected_ascending (link_at s) (s.slots * s.size) (differ_at s tidy)

-- the word of a link has a target
pub link_target : (s : Slots) (n o : ℕ) (k : Link) → Tidy s → n < s.filled → slice_index s.blocks n ≡ key_of k.program k.block → o ≡ k.offset → has_link (links_of s) k ≡ true →
    slice_index s.targets (n * s.size + o) < s.slots
link_target s n o k tidy lt key column h =
    let w = linked_word s k tidy h in
    let same : w.0 ≡ n = tidy.distinct w.0 n w.2 lt (link_key s w.0 w.1 k w.4 ∙ sym key) in
    let here : w.1 ≡ o = ap (λ (l : Link). l.offset) w.4 ∙ sym column in
    subst (λ (x : ℕ). slice_index s.targets (n * s.size + x) < s.slots) here (subst (λ (x : ℕ). slice_index s.targets (x * s.size + w.1) < s.slots) same w.5)

pub never_link : (s : Slots) (n o : ℕ) (k : Link) → Tidy s → n < s.filled → slice_index s.blocks n ≡ key_of k.program k.block → o ≡ k.offset → s.slots ≤ slice_index s.targets (n * s.size + o) →
    has_link (links_of s) k ≡ false
never_link s n o k tidy lt key column free =
    false_from_ne_true (has_link (links_of s) k) (λ (h : has_link (links_of s) k ≡ true). let t = link_target s n o k tidy lt key column h in omega (arith, t, free))

-- a word of a filled slot is a link exactly where it has a target
linked_in : (s : Slots) (n o : ℕ) (t : Bool) → Tidy s → n < s.filled → o < s.size → nat_lt (slice_index s.targets (n * s.size + o)) s.slots ≡ t → has_link (links_of s) (link_of s n o) ≡ t
linked_in s n o true tidy lt lt' t = word_linked s n o tidy.shape (omega (arith, tidy.shape.filled_most)) lt' (ltb-true _ _ t)
linked_in s n o false tidy lt lt' t = never_link s n o (link_of s n o) tidy lt (link_key s n o (link_of s n o) refl) refl (ltb-false _ _ t)

-- the word of an exit that is linked
abbrev pub LinkedAt : Slots → ℕ → ℕ → ℕ → Type 0
LinkedAt s p b o = (n : ℕ) × (n < s.filled) × (o < s.size) × (slice_index s.blocks n ≡ key_of p b) × (slice_index s.targets (n * s.size + o) < s.slots) × (b < 2 ^ 19)

pub among_word : (s : Slots) (p b o : ℕ) → Tidy s → exit_among (links_of s) p b o ≡ true → LinkedAt s p b o
among_word s p b o tidy h =
    let l = among_has (links_of s) p b o h in
    let w = linked_word s l.link tidy l.has in
    let here : w.1 ≡ o = ap (λ (k : Link). k.offset) w.4 ∙ l.offset in (
      w.0,
      w.2,
      omega (arith, here, w.3),
      link_key s w.0 w.1 l.link w.4 ∙ ap (λ (x : ℕ). key_of x l.link.block) l.program ∙ ap (λ (x : ℕ). key_of p x) l.block,
      subst (λ (x : ℕ). slice_index s.targets (w.0 * s.size + x) < s.slots) here w.5,
      subst (λ (x : ℕ). x < 2 ^ 19) (ap (λ (k : Link). k.block) w.4 ∙ l.block) (number_below (slice_index s.blocks w.0)),
    )

pub word_among : (s : Slots) (n p b o : ℕ) → InShape s → n < s.slots → o < s.size → b < 2 ^ 19 → slice_index s.blocks n ≡ key_of p b → slice_index s.targets (n * s.size + o) < s.slots →
    exit_among (links_of s) p b o ≡ true
word_among s n p b o shape lt lt' small e t =
    subst (λ (x : ℕ). exit_among (links_of s) p x o ≡ true) (ap number_of e ∙ key_number p b small)
    (subst (λ (x : ℕ). exit_among (links_of s) x (number_of (slice_index s.blocks n)) o ≡ true) (ap owner_of e ∙ key_owner p b small)
    (has_among (links_of s) (link_of s n o) (word_linked s n o shape lt lt' t)))

-- an exit whose block stands in a slot is linked exactly where its word has a target
among_in : (s : Slots) (n p b o : ℕ) (t : Bool) → Tidy s → n < s.filled → o < s.size → b < 2 ^ 19 → slice_index s.blocks n ≡ key_of p b → nat_lt (slice_index s.targets (n * s.size + o)) s.slots ≡ t →
    exit_among (links_of s) p b o ≡ t
among_in s n p b o true tidy lt lt' small e t = word_among s n p b o tidy.shape (omega (arith, lt, tidy.shape.filled_most)) lt' small e (ltb-true _ _ t)
among_in s n p b o false tidy lt lt' small e t =
    false_from_ne_true (exit_among (links_of s) p b o) (λ (h : exit_among (links_of s) p b o ≡ true).
    let w = among_word s p b o tidy h in
    let same : w.0 ≡ n = tidy.distinct w.0 n w.1 lt (w.3 ∙ sym e) in
    let below : slice_index s.targets (n * s.size + o) < s.slots = subst (λ (m : ℕ). slice_index s.targets (m * s.size + o) < s.slots) same w.4 in
    omega (arith, below, ltb-false _ _ t))

pub among_is : (s : Slots) (n p b o : ℕ) → Tidy s → n < s.filled → o < s.size → b < 2 ^ 19 → slice_index s.blocks n ≡ key_of p b →
    exit_among (links_of s) p b o ≡ nat_lt (slice_index s.targets (n * s.size + o)) s.slots
among_is s n p b o tidy lt lt' small e = among_in s n p b o (nat_lt (slice_index s.targets (n * s.size + o)) s.slots) tidy lt lt' small e refl
