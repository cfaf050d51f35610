-- A whole call: an arrival, and after a direct exit the link.
use Rattle.std.proofs.Common.{◌≡◌, ◌⊎◌, ℕ, ◌+◌, ◌-◌, ◌<◌, ◌≤◌, ◌^◌, ◌&&◌, ◌||◌, Bool, true, false, List, [], ◌∷◌, Option, Some, None, Ok, Err, length, min, slice_index, slice_index_or, nat_lt, arith, refl, sym, ◌∙◌, ap, subst, inl, inr}
use Rattle.std.proofs.lemmas.Bool.{cases_Bool, cases_eq, lt-ltb, le-ltb, ltb-true, ltb-false, both_ways, and_left, or_left, false_from_ne_true, or_parts, and_parts}
use Rattle.std.proofs.lemmas.List.{get_or_read}
use Rattle.swi_image.specs.Format.{ImageData}
use Rattle.swi_image.specs.Place.{place_of, word_at, length_at}
use Rattle.swi_image.specs.Laws.{place_inside}
use Rattle.swi_outside.specs.CacheRam.{RamState}
use Rattle.swi_links.specs.Chains.{Has}
use Rattle.swi_rom.specs.Record.{Record, Placement, Link, Transfer, direct, indirect, target_of, Placed, has_link, same_link, exit_among, is_linked, writes, reaches}
use Rattle.swi_rom.specs.Record.{Has as HasPlacement}
use Rattle.swi_rom.specs.Coherent.{TargetAt, ExitAt, IsExit}
use Rattle.swi_rom.specs.Policy.{served_by, went, linked, is_over_link, counted, is_placed, first_of, with_link}
use Rattle.swi_rom.specs.Served.{Served, WordsMove, SameFrom}
use Rattle.swi_rom.specs.Writing.{Wrote, FailedBelow}
use Rattle.swi_rom.specs.Policy.{more_service}
use Rattle.swi_rom.specs.declared.rom.RomStop.TheVariants.{Outside, RamFault}
use Rattle.swi_rom.specs.Rams.{wrote_more, failed_more}
use Rattle.swi_rom.specs.Serving.{served, fault_served, none_served}
use Rattle.swi_rom.specs.Links.{has_with, same_is, same_same, among_has, has_among}
use Rattle.swi_rom.specs.Service.{Setting}
use Rattle.swi_ring.specs.Fifo.{span_of, arrived, ring, extent_of, ring_extent}
use Rattle.swi_ring.specs.Ring.{Ring, InShape, first_at, target_at, queue_of, links_of, behind, kept_by, setting_of}
use Rattle.swi_ring.specs.Sound.{RingSound}
use Rattle.swi_ring.specs.Steps.{Arrived, Linked, MaybeLinked, can_link, counted_ring}
use Rattle.swi_ring.specs.Coheres.{have_spots, placed_has, has_placed, word_below, found_at, linked_is, has_or, same_word}
use Rattle.swi_ring.proofs.Linking.{first_of_is, linked_ring, CanLink, linked_links, linked_sound}
use Rattle.swi_ring.proofs.Placing.{placed_is, absent_is, hit_arrived}

arrived_target : (v : ImageData) (s t : Ring) (c q first target : ℕ) (a b : RamState) → Arrived v s c first t a b → place_of v target ≡ Some (c, q) → TargetAt v (kept_by t) target (first + q)
arrived_target v s t c q first target a b arr is = record {
  block = c;
  offset = q;
  first = first;
  place_is = is;
  is_placed = subst (λ (f : ℕ). Placed (kept_by t) c f) arr.first_is (has_placed t c arr.stands);
  index = refl;
}

outside_moves : (by : Setting) (v : ImageData) (r : Record) (t : Transfer) → is_over_link r t ≡ false → place_of v (target_of t) ≡ None → r ≡ ring by r v t
unfolding served_by went
outside_moves by v r t over none = rw (over, none) refl

pub outside_served : (v : ImageData) (s : Ring) (t : Transfer) (a : RamState) → is_over_link (kept_by s) t ≡ false → place_of v (target_of t) ≡ None →
    Served v (span_of (setting_of s)) (target_of t) (kept_by s) (ring (setting_of s) (kept_by s) v t) (kept_by s) a a (Err Outside)
outside_served v s t a over none = none_served v _ _ _ _ a none (outside_moves (setting_of s) v (kept_by s) t over none)

indirect_moves : (v : ImageData) (s : Ring) (target c q : ℕ) → place_of v target ≡ Some (c, q) → arrived (setting_of s) v (counted (kept_by s)) c ≡ ring (setting_of s) (kept_by s) v (indirect target)
unfolding served_by went
indirect_moves v s target c q is = rw is refl

-- a jump
pub entered : (v : ImageData) (s t : Ring) (c q first target : ℕ) (a b : RamState) → Arrived v s c first t a b → place_of v target ≡ Some (c, q) →
    Served v (span_of (setting_of s)) target (kept_by s) (ring (setting_of s) (kept_by s) v (indirect target)) (kept_by t) a b (Ok (first + q))
entered v s t c q first target a b arr is =
    served v s.words target (first + q) _ (c, q) (kept_by s) _ (kept_by t) a b is (arr.moves ∙ indirect_moves v s target c q is) (arrived_target v s t c q first target a b arr is) arr.wrote refl arr.words

-- an exit by its block
pub record ExitIn (v : ImageData) (s : Ring) (at target : ℕ) : Type 0 where
  pub block : ℕ
  pub offset : ℕ
  pub placed : Has s.queue block
  pub inside : offset < length_at v block
  pub index : at ≡ first_at s block + offset
  pub is_exit : IsExit v block offset
  pub free : is_linked (kept_by s) block offset ≡ false
  pub descriptor : target ≡ word_at v block (offset + 1)

pub exit_in : (v : ImageData) (s : Ring) (at target : ℕ) → ExitAt v (kept_by s) at target → ExitIn v s at target
exit_in v s at target e =
    let p = placed_has s e.block e.first e.is_placed in
    record {
      block = e.block;
      offset = e.offset;
      placed = p.0;
      inside = omega (arith, e.is_exit.inside);
      index = e.index ∙ ap (λ (f : ℕ). f + e.offset) (sym p.1);
      is_exit = e.is_exit;
      free = e.not_linked;
      descriptor = e.descriptor;
    }

-- the exit that stands at an index is one
pub exit_same : (v : ImageData) (s : Ring) (words : List ℕ) (at target b o f : ℕ) → RingSound s v words → (e : ExitIn v s at target) → Placed (kept_by s) b f → o < length_at v b → at ≡ f + o → (e.block ≡ b) × (e.offset ≡ o)
exit_same v s words at target b o f sound e h lt at_is =
    let p = placed_has s b f h in
    same_word s v words e.block e.offset b o sound e.placed p.0 e.inside lt (sym e.index ∙ at_is ∙ ap (λ (x : ℕ). x + o) (sym p.1))

-- the code's test is the policy's
link_test : (v : ImageData) (s t : Ring) (c q first b o : ℕ) (x y : RamState) → RingSound s v x.words → Arrived v s c first t x y → Has s.queue b →
    (is_placed (kept_by t) b && reaches (first_of (kept_by t) b + o) (first_of (kept_by t) c + q)) ≡ can_link t (first_at s b + o) b (first + q)
link_test v s t c q first b o x y sound arr h = elim (has_or t.queue b) [
  | inl stands ↦ (
      let here : first_of (kept_by t) b ≡ first_at s b = first_of_is t b stands ∙ arr.older b h stands in
      let there : first_of (kept_by t) c ≡ first = first_of_is t c arr.stands ∙ arr.first_is in
      let below : first_at t b < t.words = omega (arith, arr.sound.shape.within b stands, arr.sound.shape.some b stands) in
      rw (placed_is t b stands, here, there, lt-ltb (first_at t b) t.words below) refl)
  | inr gone ↦ (
      let small : b < length t.firsts = omega (arith, sound.shape.known b h, arr.blocks_stay) in
      let none : nat_lt (first_at t b) t.words ≡ false = le-ltb _ _ (omega (arith, arr.sound.shape.absent b small gone)) in
      and_left _ _ (absent_is t b gone) ∙ sym (and_left _ _ none))
]

direct_moves : (v : ImageData) (s : Ring) (b o target c q : ℕ) → is_linked (kept_by s) b o ≡ false → place_of v target ≡ Some (c, q) →
    linked with_link (arrived (setting_of s) v (counted (kept_by s)) c) b o (c, q) ≡ ring (setting_of s) (kept_by s) v (direct b o target)
unfolding served_by went
direct_moves v s b o target c q free is = rw (free, is) refl

linked_when : (r : Record) (b o : ℕ) (p : ℕ × ℕ) → (is_placed r b && reaches (first_of r b + o) (first_of r p.0 + p.1)) ≡ true →
    linked with_link r b o p ≡ record r { links = with_link (record { program = r.turn; block = b; offset = o; into = p.0 }) r.links; counts = record r.counts { links = r.counts.links + 1 } }
unfolding linked
linked_when r b o p t = rw t refl

linked_not : (r : Record) (b o : ℕ) (p : ℕ × ℕ) → (is_placed r b && reaches (first_of r b + o) (first_of r p.0 + p.1)) ≡ false → linked with_link r b o p ≡ r
unfolding linked
linked_not r b o p t = rw t refl

more_one : (xs : List ℕ) (x : ℕ) → Has xs x → more_service (length xs) ≡ 1
more_one [] x h = absurd h
more_one (y ∷ ys) x h = refl

-- a word that was no link before the arrival is none after it
still_free : (v : ImageData) (s t : Ring) (c first b o : ℕ) (x y : RamState) → Arrived v s c first t x y → is_linked (kept_by s) b o ≡ false → is_linked (kept_by t) b o ≡ false
still_free v s t c first b o x y arr free = false_from_ne_true (is_linked (kept_by t) b o) (λ (h : is_linked (kept_by t) b o ≡ true).
    let w = among_has (links_of t) 0 b o h in
    let was : exit_among (links_of s) w.link.program w.link.block w.link.offset ≡ true = has_among (links_of s) w.link (arr.links_left w.link w.has) in
    both_ways (is_linked (kept_by s) b o) free
    (ap (λ (n : ℕ). exit_among (links_of s) 0 b n) (sym w.offset) ∙ ap (λ (n : ℕ). exit_among (links_of s) 0 n w.link.offset) (sym w.block) ∙ ap (λ (n : ℕ). exit_among (links_of s) n w.link.block w.link.offset) (sym w.program) ∙ was))

-- the exit can be linked where its block still stands
can_be : (v : ImageData) (s t : Ring) (c q first at target : ℕ) (x y : RamState) → Arrived v s c first t x y → place_of v target ≡ Some (c, q) → (e : ExitIn v s at target) → Has t.queue e.block → CanLink t v e.block e.offset c q
can_be v s t c q first at target x y arr is e stands = record {
  placed = stands;
  inside = e.inside;
  free = ltb-false _ _ (sym (linked_is t v y.words e.block e.offset arr.sound stands e.inside) ∙ still_free v s t c first e.block e.offset x y arr e.free);
  target = arr.stands;
  is_exit = e.is_exit;
  place_is = ap (λ (z : ℕ). place_of v z) (sym e.descriptor) ∙ is;
}

-- the exit as a link into a block
abbrev exit_link : ℕ → ℕ → ℕ → Link
exit_link b o c = record { program = 0; block = b; offset = o; into = c }

not_there : (ls : List Link) (b o c : ℕ) → exit_among ls 0 b o ≡ false → has_link ls (exit_link b o c) ≡ false
not_there ls b o c free = false_from_ne_true (has_link ls (exit_link b o c)) (λ (h : has_link ls (exit_link b o c) ≡ true). both_ways (exit_among ls 0 b o) free (has_among ls (exit_link b o c) h))

abbrev with_new : Ring → ℕ → ℕ → ℕ → Record
with_new t b o c = record (kept_by t) { links = with_link (exit_link b o c) (links_of t); counts = record t.counts { links = t.counts.links + 1 } }

same_kept : (u : Ring) (ls : List Link) → links_of u ≡ ls → let r : Record = record { turn = 0; placed = queue_of u.firsts u.queue; links = ls; counts = u.counts; more = behind u.next } in kept_by u ≡ r
same_kept u ls e = rw e refl

linked_kept : (t : Ring) (v : ImageData) (words : List ℕ) (b o c q : ℕ) → RingSound t v words → CanLink t v b o c q → kept_by (linked_ring t (first_at t b + o) c) ≡ with_new t b o c
linked_kept t v words b o c q sound can = same_kept (linked_ring t (first_at t b + o) c) _ (linked_links t v words b o c q sound can)

new_in : (t : Ring) (b o c : ℕ) → has_link (with_link (exit_link b o c) (links_of t)) (exit_link b o c) ≡ true
new_in t b o c = has_with (exit_link b o c) (links_of t) (exit_link b o c) ∙ or_left _ _ (same_same (exit_link b o c))

-- an older link's word isn't that of the exit
other_link : (v : ImageData) (s : Ring) (words : List ℕ) (b o f : ℕ) (k : Link) → RingSound s v words → Has s.queue b → o < length_at v b → is_linked (kept_by s) b o ≡ false → has_link (links_of s) k ≡ true →
    HasPlacement (queue_of s.firsts s.queue) (record { program = k.program; block = k.block; first = f }) → f + k.offset ≡ first_at s b + o → ⊥
unfolding queue_of
other_link v s words b o f k sound h lt free was p e =
    let w = found_at s v words k sound was in
    let first : f ≡ first_at s k.block = ap (λ (x : Placement). x.first) (have_spots s.firsts s.queue (record { program = k.program; block = k.block; first = f }) p).1 in
    let same = same_word s v words k.block k.offset b o sound w.placed h w.inside lt (ap (λ (x : ℕ). x + k.offset) (sym first) ∙ e) in
    let high : length s.firsts ≤ target_at s (first_at s b + o) = ltb-false _ _ (sym (linked_is s v words b o sound h lt) ∙ free) in
    let low : target_at s (first_at s b + o) < length s.firsts = subst (λ (j : ℕ). target_at s j < length s.firsts) (ap (λ (x : ℕ). x + k.offset) (sym first) ∙ e) w.target in
    omega (arith, high, low)

linked_words : (v : ImageData) (s t u : Ring) (b o c q to : ℕ) (x y z : RamState) → RingSound s v x.words → Has s.queue b → o < length_at v b → first_at t b ≡ first_at s b → CanLink t v b o c q →
    is_linked (kept_by s) b o ≡ false → is_linked (kept_by t) b o ≡ false → Linked t u (first_at t b + o) c to y z → WordsMove v (kept_by s) (kept_by t) x y → WordsMove v (kept_by s) (with_new t b o c) x z
unfolding Placed
linked_words v s t u b o c q to x y z sound h lt first can free gone link w = record {
  changes = λ i. elim (cases_eq i (first_at t b + o)) [
    | inl e ↦ inr (inr (record {
      link = exit_link b o c;
      first = first_at t b;
      stood = inr (has_placed t b can.placed);
      changed = λ same. both_ways (has_link (links_of s) (exit_link b o c)) (not_there (links_of s) b o c free) (same ∙ new_in t b o c);
      index = e;
    }))
    | inr ne ↦ elim (w.changes i) [
      | inl e ↦ inl (link.others i ne ∙ e)
      | inr d ↦ elim d [
        | inl p ↦ inr (inl (record { block = p.block; first = p.first; offset = p.offset; stands = p.stands; is_new = p.is_new; inside = p.inside; index = p.index }))
        | inr l ↦ inr (inr (record {
          link = l.link;
          first = l.first;
          stood = l.stood;
          index = l.index;
          changed = λ same. elim (cases_Bool (same_link l.link (exit_link b o c))) [
            | inl e ↦ (let is = same_is l.link (exit_link b o c) e in
                l.changed (ap (λ (j : Link). has_link (links_of s) j) is ∙ not_there (links_of s) b o c free ∙ sym (not_there (links_of t) b o c gone) ∙ ap (λ (j : Link). has_link (links_of t) j) (sym is)))
            | inr e ↦ l.changed (same ∙ has_with (exit_link b o c) (links_of t) l.link ∙ ap (λ (j : Bool). j || has_link (links_of t) l.link) e)
          ];
        }))
      ]
    ]
  ];
  restored = λ k f was is p p'.
      (let parts = or_parts (same_link k (exit_link b o c)) (has_link (links_of t) k) (sym (has_with (exit_link b o c) (links_of t) k) ∙ is) in
      link.others (f + k.offset) (λ (e : f + k.offset ≡ first_at t b + o). other_link v s x.words b o f k sound h lt free was p (e ∙ ap (λ (n : ℕ). n + o) first)) ∙ w.restored k f was parts.1 p p');
}

new_target : (v : ImageData) (t : Ring) (b o c target i : ℕ) → TargetAt v (kept_by t) target i → TargetAt v (with_new t b o c) target i
unfolding Placed
new_target v t b o c target i at = record { block = at.block; offset = at.offset; first = at.first; place_is = at.place_is; is_placed = at.is_placed; index = at.index }

abbrev Crossed : ImageData → Ring → ℕ → ℕ → ℕ → ℕ → Ring → RamState → RamState → ℕ → Type 0
Crossed v s b o at target u x z index =
    Served v (span_of (setting_of s)) target (kept_by s) (ring (setting_of s) (kept_by s) v (direct b o target)) (kept_by u) x z (Ok index)

crossed_link : (v : ImageData) (s t u : Ring) (c q first at target : ℕ) (x y z : RamState) → RingSound s v x.words → (e : ExitIn v s at target) → place_of v target ≡ Some (c, q) → Arrived v s c first t x y →
    Linked t u at c (first + q) y z → Has t.queue e.block → (with_new t e.block e.offset c ≡ ring (setting_of s) (kept_by s) v (direct e.block e.offset target)) →
    Crossed v s e.block e.offset at target u x z (first + q) × RingSound u v z.words
crossed_link v s t u c q first at target x y z sound e is arr link stands moves =
    let b : ℕ = e.block in
    let o : ℕ = e.offset in
    let can : CanLink t v e.block e.offset c q = can_be v s t c q first at target x y arr is e stands in
    let same : first_at t e.block ≡ first_at s e.block = arr.older e.block e.placed stands in
    let at_is : at ≡ first_at t e.block + e.offset = e.index ∙ ap (λ (f : ℕ). f + e.offset) (sym same) in
    let gone = still_free v s t c first e.block e.offset x y arr e.free in
    let few : t.counts.links < t.counts.services = omega (arith, arr.links_stay, arr.services_are, more_one s.queue e.block e.placed, sound.links_few) in
    let link' : Linked t u (first_at t e.block + e.offset) c (first + q) y z = subst (λ (i : ℕ). Linked t u i c (first + q) y z) at_is link in
    let u_is : u ≡ linked_ring t (first_at t e.block + e.offset) c = link'.ring_is in
    let kept_u : kept_by u ≡ with_new t e.block e.offset c = ap (λ (r : Ring). kept_by r) u_is ∙ linked_kept t v y.words e.block e.offset c q arr.sound can in
    let whole : Linked t (linked_ring t (first_at t e.block + e.offset) c) (first_at t e.block + e.offset) c (first_at t c + q) y z =
    subst (λ (r : Ring). Linked t r (first_at t e.block + e.offset) c (first_at t c + q) y z) u_is
    (subst (λ (f : ℕ). Linked t u (first_at t e.block + e.offset) c (f + q) y z) (sym arr.first_is) link') in
    let wrote : Wrote s.words 1 y z = subst (λ (n : ℕ). Wrote n 1 y z) arr.words_stay link'.wrote in
    let words = linked_words v s t u e.block e.offset c q (first + q) x y z sound e.placed e.inside same can e.free gone link' arr.words in (
      subst (λ (r : Record). Served v (span_of (setting_of s)) target (kept_by s) (ring (setting_of s) (kept_by s) v (direct e.block e.offset target)) r x z (Ok (first + q))) (sym kept_u)
          (served v s.words target (first + q) (writes (kept_by t) - writes (kept_by s) + 1) (c, q) (kept_by s) _ (with_new t e.block e.offset c) x z is moves
          (new_target v t e.block e.offset c target (first + q) (arrived_target v s t c q first target x y arr is))
          (wrote_more s.words s.words _ 1 x y z arr.wrote wrote (omega arith)) (omega (arith, arr.written)) words),
      subst (λ (r : Ring). RingSound r v z.words) (sym u_is) (linked_sound t v e.block e.offset c q y z arr.sound can few whole),
    )

-- a block whose first word is one of the ring's is placed
stood : (v : ImageData) (s t : Ring) (c first b : ℕ) (x y : RamState) → RingSound s v x.words → Arrived v s c first t x y → Has s.queue b → nat_lt (first_at t b) t.words ≡ true → Has t.queue b
stood v s t c first b x y sound arr h lt = elim (has_or t.queue b) [
  | inl stands ↦ stands
  | inr lacks ↦ absurd (omega (arith, arr.sound.shape.absent b (omega (arith, sound.shape.known b h, arr.blocks_stay)) lacks, ltb-true _ _ lt))
]

-- the exit has been linked, or it can't be
crossed_at : (v : ImageData) (s t u : Ring) (c q first at target : ℕ) (x y z : RamState) → RingSound s v x.words → (e : ExitIn v s at target) → place_of v target ≡ Some (c, q) → Arrived v s c first t x y →
    MaybeLinked t u (can_link t at e.block (first + q)) at c (first + q) y z → Crossed v s e.block e.offset at target u x z (first + q) × RingSound u v z.words
crossed_at v s t u c q first at target x y z sound e is arr maybe =
    let moves : linked with_link (kept_by t) e.block e.offset (c, q) ≡ ring (setting_of s) (kept_by s) v (direct e.block e.offset target) =
    ap (λ (r : Record). linked with_link r e.block e.offset (c, q)) arr.moves ∙ direct_moves v s e.block e.offset target c q e.free is in
    let test : (is_placed (kept_by t) e.block && reaches (first_of (kept_by t) e.block + e.offset) (first_of (kept_by t) c + q)) ≡ can_link t at e.block (first + q) =
    link_test v s t c q first e.block e.offset x y sound arr e.placed ∙ ap (λ (i : ℕ). can_link t i e.block (first + q)) (sym e.index) in
    elim (cases_Bool (can_link t at e.block (first + q))) [
      | inr stays ↦ (let same = maybe.no stays in (
        subst (λ (r : Ring). Crossed v s e.block e.offset at target r x z (first + q)) (sym same.0)
            (subst (λ (r : RamState). Crossed v s e.block e.offset at target t x r (first + q)) (sym same.1)
            (served v s.words target (first + q) _ (c, q) (kept_by s) _ (kept_by t) x y is (sym (linked_not (kept_by t) e.block e.offset (c, q) (test ∙ stays)) ∙ moves) (arrived_target v s t c q first target x y arr is) arr.wrote refl arr.words)),
        subst (λ (r : Ring). RingSound r v z.words) (sym same.0) (subst (λ (r : RamState). RingSound t v r.words) (sym same.1) arr.sound),
      ))
      | inl can ↦ crossed_link v s t u c q first at target x y z sound e is arr (maybe.yes can) (stood v s t c first e.block x y sound arr e.placed (and_parts (nat_lt (first_at t e.block) t.words) (reaches at (first + q)) can).0)
          (sym (linked_when (kept_by t) e.block e.offset (c, q) (test ∙ can)) ∙ moves)
    ]

pub crossed_call : (v : ImageData) (s t u : Ring) (c q first at target home index : ℕ) (x y z : RamState) → RingSound s v x.words → ExitAt v (kept_by s) at target → place_of v target ≡ Some (c, q) → Arrived v s c first t x y →
    home ≡ slice_index s.owners at → index ≡ first + q → MaybeLinked t u (can_link t at home index) at c index y z →
    ((b o f : ℕ) → Placed (kept_by s) b f → o < length_at v b → at ≡ f + o → Crossed v s b o at target u x z index) × RingSound u v z.words
crossed_call v s t u c q first at target home index x y z sound ex is arr home_is index_is maybe =
    let e = exit_in v s at target ex in
    let own : home ≡ e.block = home_is ∙ ap (λ (i : ℕ). slice_index s.owners i) e.index ∙ sound.owned e.block e.offset e.placed e.inside in
    let maybe' : MaybeLinked t u (can_link t at e.block (first + q)) at c (first + q) y z =
    subst (λ (i : ℕ). MaybeLinked t u (can_link t at e.block i) at c i y z) index_is (subst (λ (k : ℕ). MaybeLinked t u (can_link t at k index) at c index y z) own maybe) in
    let both = crossed_at v s t u c q first at target x y z sound e is arr maybe' in (
      λ b o f h lt at_is. (let same = exit_same v s x.words at target b o f sound e h lt at_is in
          subst (λ (i : ℕ). Crossed v s b o at target u x z i) (sym index_is)
          (subst (λ (k : ℕ). Crossed v s b k at target u x z (first + q)) same.1 (subst (λ (k : ℕ). Crossed v s k e.offset at target u x z (first + q)) same.0 both.0))),
      both.1,
    )

-- what the code has to know
pub place_block : (v : ImageData) (s : Ring) (words : List ℕ) (p : ℕ × ℕ) (target : ℕ) → RingSound s v words → Some p ≡ place_of v target → (p.0 < length v.blocks) × (p.1 < length_at v p.0)
place_block v s words p target sound e = place_inside v sound.image target p.0 p.1 (sym e)

pub index_below : (v : ImageData) (s t : Ring) (c q first : ℕ) (a b : RamState) → Arrived v s c first t a b → q < length_at v c → first + q < s.words
index_below v s t c q first a b arr lt = omega (arith, word_below t v b.words c q arr.sound arr.stands lt, arr.first_is, arr.words_stay)

pub index_fits : (v : ImageData) (s t : Ring) (c q first : ℕ) (a b : RamState) → RingSound s v a.words → Arrived v s c first t a b → q < length_at v c → first + q < 2 ^ 22
index_fits v s t c q first a b sound arr lt = omega (arith, index_below v s t c q first a b arr lt, sound.shape.words_few)

-- a block that isn't placed has no placed target
pub absent_target : (v : ImageData) (s : Ring) (b o target i : ℕ) → place_of v target ≡ Some (b, o) → (Has s.queue b → ⊥) → TargetAt v (kept_by s) target i → ⊥
absent_target v s b o target i is lacks at =
    let same : Some (at.block, at.offset) ≡ Some (b, o) = sym at.place_is ∙ is in
    lacks (subst (λ (x : ℕ). Has s.queue x) (ap (λ (p : Option (ℕ × ℕ)). block_in p) same) (placed_has s at.block at.first at.is_placed).0)
  where
    block_in : Option (ℕ × ℕ) → ℕ
    block_in None = 0
    block_in (Some p) = p.0

pub found_target : (v : ImageData) (s : Ring) (b o f target : ℕ) → place_of v target ≡ Some (b, o) → Has s.queue b → first_at s b ≡ f → TargetAt v (kept_by s) target (f + o)
found_target v s b o f target is h first = record {
  block = b;
  offset = o;
  first = f;
  place_is = is;
  is_placed = subst (λ (g : ℕ). Placed (kept_by s) b g) first (has_placed s b h);
  index = refl;
}

-- a jump to a target that stands, once a service is counted
pub visited : (v : ImageData) (s t : Ring) (target i : ℕ) (a : RamState) → t ≡ counted_ring s → RingSound s v a.words → TargetAt v (kept_by s) target i →
    Served v (span_of (setting_of s)) target (kept_by s) (ring (setting_of s) (kept_by s) v (indirect target)) (kept_by t) a a (Ok i)
visited v s t target i a e sound at =
    let stood = placed_has s at.block at.first at.is_placed in
    let hit = subst (λ (f : ℕ). Arrived v s at.block f (counted_ring s) a a) stood.1 (hit_arrived v s at.block a sound stood.0) in
    subst (λ (j : ℕ). Served v (span_of (setting_of s)) target (kept_by s) (ring (setting_of s) (kept_by s) v (indirect target)) (kept_by t) a a (Ok j)) (sym at.index)
    (entered v s t at.block at.offset at.first target a a (subst (λ (x : Ring). Arrived v s at.block at.first x a a) (sym e) hit) at.place_is)

pub exit_below : (v : ImageData) (s : Ring) (words : List ℕ) (at target : ℕ) → RingSound s v words → ExitAt v (kept_by s) at target → at < s.words
exit_below v s words at target sound x = let e = exit_in v s at target x in omega (arith, e.index, word_below s v words e.block e.offset sound e.placed e.inside)

-- the exit's own block
pub home_is : (s r : Ring) (at home : ℕ) → r ≡ s → InShape r → at < s.words → home ≡ slice_index_or r.owners at home → home ≡ slice_index s.owners at
home_is s r at home e shape lt is =
    subst (λ (x : Ring). home ≡ slice_index x.owners at) e (get_or_read r.owners at home (omega (arith, lt, ap (λ (x : Ring). x.words) e, shape.owners_long)) is 0)

pub home_known : (v : ImageData) (s t : Ring) (c first at target home : ℕ) (x y : RamState) → RingSound s v x.words → ExitAt v (kept_by s) at target → Arrived v s c first t x y → home ≡ slice_index s.owners at → home < length t.firsts
home_known v s t c first at target home x y sound ex arr is =
    omega (arith, is, sound.shape.owners_known at (exit_below v s x.words at target sound ex), arr.blocks_stay)

pub exit_free : (v : ImageData) (s t : Ring) (c q first at target home : ℕ) (x y : RamState) → RingSound s v x.words → ExitAt v (kept_by s) at target → place_of v target ≡ Some (c, q) → Arrived v s c first t x y → home ≡ slice_index s.owners at →
    slice_index t.firsts home < t.words → length t.firsts ≤ target_at t at
exit_free v s t c q first at target home x y sound ex is arr home_at lt =
    let e = exit_in v s at target ex in
    let own : home ≡ e.block = home_at ∙ ap (λ (i : ℕ). slice_index s.owners i) e.index ∙ sound.owned e.block e.offset e.placed e.inside in
    let stands : Has t.queue e.block = stood v s t c first e.block x y sound arr e.placed (lt-ltb _ _ (subst (λ (b : ℕ). first_at t b < t.words) own lt)) in
    let can = can_be v s t c q first at target x y arr is e stands in
    subst (λ (i : ℕ). length t.firsts ≤ target_at t i) (ap (λ (f : ℕ). f + e.offset) (arr.older e.block e.placed stands) ∙ sym e.index) can.free

pub exit_not_linked : (v : ImageData) (s : Ring) (words : List ℕ) (at target b o f : ℕ) → RingSound s v words → ExitAt v (kept_by s) at target → Placed (kept_by s) b f → o < length_at v b → at ≡ f + o → is_linked (kept_by s) b o ≡ false
exit_not_linked v s words at target b o f sound x h lt at_is =
    let e = exit_in v s at target x in
    let same = exit_same v s words at target b o f sound e h lt at_is in
    subst (λ (k : ℕ). is_linked (kept_by s) b k ≡ false) same.1 (subst (λ (c : ℕ). is_linked (kept_by s) c e.offset ≡ false) same.0 e.free)

-- the ram failed at the link
pub crossed_fault : (v : ImageData) (s t u : Ring) (c q first target b o : ℕ) (x y z : RamState) → place_of v target ≡ Some (c, q) → Arrived v s c first t x y → FailedBelow t.words y z →
    Served v (span_of (setting_of s)) target (kept_by s) (ring (setting_of s) (kept_by s) v (direct b o target)) (kept_by u) x z (Err RamFault)
crossed_fault v s t u c q first target b o x y z is arr failed =
    fault_served v s.words target (c, q) (kept_by s) _ (kept_by u) x z is
    (failed_more s.words s.words _ x y z arr.wrote (subst (λ (n : ℕ). FailedBelow n y z) arr.words_stay failed) (omega arith))

pub links_after : (v : ImageData) (s t : Ring) (c first : ℕ) (x y : RamState) → RingSound s v x.words → Arrived v s c first t x y → s.counts.services < 2 ^ 50 → t.counts.links < 2 ^ 60
links_after v s t c first x y sound arr few = omega (arith, arr.links_stay, sound.links_few, few)

-- the words beyond the extent stay
placed_within : (s : Ring) (v : ImageData) (words : List ℕ) (b o : ℕ) → RingSound s v words → Has s.queue b → o < length_at v b → first_at s b + o < extent_of (setting_of s) (kept_by s)
placed_within s v words b o sound h lt = least (first_at s b + o) s.counts.copied s.words (omega (arith, sound.ends b h, lt)) (word_below s v words b o sound h lt)
  where
    least : (i m n : ℕ) → i < m → i < n → i < min m n
    least i m n lt lt' = grind arith

same_from_link : (x y : Bool) → (x ≡ y → ⊥) → (x ≡ true) ⊎ (y ≡ true)
same_from_link true y ne = inl refl
same_from_link false true ne = inr refl
same_from_link false false ne = absurd (ne refl)

pub unused_stays : (s u : Ring) (v : ImageData) (t : Transfer) (a d : RamState) → RingSound s v a.words → RingSound u v d.words → u.words ≡ s.words → kept_by u ≡ ring (setting_of s) (kept_by s) v t →
    WordsMove v (kept_by s) (kept_by u) a d → SameFrom (extent_of (setting_of s) (kept_by u)) a.words d.words
unfolding queue_of
unused_stays s u v t a d sound sound' same moves words = λ i le. elim (words.changes i) [
  | inl e ↦ e
  | inr (inl new) ↦ (let p = placed_has u new.block new.first new.stands in
      let inside = in_new new.block new.offset p.0 new.inside in absurd (omega (arith, inside, p.1, new.index, le)))
  | inr (inr link) ↦ (let inside = in_either link.link link.first (same_from_link _ _ link.changed) link.stood in absurd (omega (arith, inside, link.index, le)))
]
  where
    in_new : (b o : ℕ) → Has u.queue b → o < length_at v b → first_at u b + o < extent_of (setting_of s) (kept_by u)
    in_new b o h lt = subst (λ (n : ℕ). first_at u b + o < min u.counts.copied n) same (placed_within u v d.words b o sound' h lt)

    grew : extent_of (setting_of s) (kept_by s) ≤ extent_of (setting_of s) (kept_by u)
    grew = subst (λ (r : Record). extent_of (setting_of s) (kept_by s) ≤ extent_of (setting_of s) r) (sym moves) (ring_extent (setting_of s) (kept_by s) v t)

    inside_of : (l : Link) → (has_link (links_of s) l ≡ true) ⊎ (has_link (links_of u) l ≡ true) → l.offset < length_at v l.block
    inside_of l (inl is) = (found_at s v a.words l sound is).inside
    inside_of l (inr is) = (found_at u v d.words l sound' is).inside

    in_either : (l : Link) (f : ℕ) → (has_link (links_of s) l ≡ true) ⊎ (has_link (links_of u) l ≡ true) →
        HasPlacement (queue_of s.firsts s.queue) (record { program = l.program; block = l.block; first = f }) ⊎ HasPlacement (queue_of u.firsts u.queue) (record { program = l.program; block = l.block; first = f }) →
        f + l.offset < extent_of (setting_of s) (kept_by u)
    in_either l f is (inl h) = (let w = have_spots s.firsts s.queue (record { program = l.program; block = l.block; first = f }) h in
        let first : f ≡ first_at s l.block = ap (λ (x : Placement). x.first) w.1 in
        let old = placed_within s v a.words l.block l.offset sound w.0 (inside_of l is) in omega (arith, first, old, grew))
    in_either l f is (inr h) = (let w = have_spots u.firsts u.queue (record { program = l.program; block = l.block; first = f }) h in
        let first : f ≡ first_at u l.block = ap (λ (x : Placement). x.first) w.1 in
        let new = in_new l.block l.offset w.0 (inside_of l is) in omega (arith, first, new))
