-- A whole call: an arrival, and after a direct exit the link.
use Rattle.std.proofs.Common.{◌≡◌, ℕ, ◌+◌, ◌-◌, ◌*◌, ◌/◌, ◌%◌, ◌<◌, ◌≤◌, ◌^◌, ◌&&◌, ◌||◌, Bool, true, false, List, [], ◌∷◌, map, Some, None, Ok, Err, length, slice_index, slice_index_or, slice_set, nat_lt, arith, refl, sym, ◌∙◌, ap, subst, inl, inr}
use Rattle.std.proofs.lemmas.Bool.{cases_Bool, cases_eq, lt-ltb, ltb-true, both_ways, and_left, and_parts, or_parts, false_from_ne_true}
use Rattle.std.proofs.lemmas.List.{get_or_read, get_or-set_other}
use Rattle.swi_image.specs.Format.{ImageData}
use Rattle.swi_image.specs.Place.{place_of, word_at, length_at}
use Rattle.swi_outside.specs.CacheRam.{RamState}
use Rattle.swi_rom.specs.Record.{Record, Link, Transfer, direct, indirect, target_of, Has, Placed, has_link, same_link, is_linked, writes, reaches, IsJump}
use Rattle.swi_rom.specs.Coherent.{TargetAt, ExitAt, IsExit}
use Rattle.swi_rom.specs.Policy.{served_by, went, linked, is_over_link, counted, is_placed, first_of}
use Rattle.swi_rom.specs.Served.{Served, WordsMove}
use Rattle.swi_rom.specs.Writing.{Wrote, FailedBelow}
use Rattle.swi_rom.specs.declared.rom.RomStop.TheVariants.{Outside, RamFault}
use Rattle.swi_rom.specs.Rams.{wrote_one, wrote_more, failed_more}
use Rattle.swi_rom.specs.Serving.{served, fault_served, none_served}
use Rattle.swi_rom.specs.Service.{Setting}
use Rattle.swi_rom.specs.Links.{has_next, has_first, same_is}
use Rattle.swi_engine.specs.declared.joints.Joint.{Joint}
use Rattle.swi_engine.specs.Engine.{span_of, arrived, beside, newest_first}
use Rattle.swi_engine.specs.State.{EngineData, kept_by, setting_of, link_of}
use Rattle.swi_engine.specs.Sound.{Standing, EngineSound, Few, NoJoint}
use Rattle.swi_engine.specs.Seats.{in_joints, placed_slot, slot_placed, joint_at, joint_linked, length_most, slot_within}
use Rattle.swi_engine.specs.Laws.{not_linked_none, word_slot}
use Rattle.swi_engine.specs.Moves.{OneSet, IsAbsent, counted_data, linked_data, can_link, more_service}
use Rattle.swi_engine.specs.Arrived.{Arrived, Linked, MaybeLinked}
use Rattle.swi_engine.proofs.Standing.{linked_stands}
use Rattle.swi_engine.proofs.Eventing.{first_is}
use Rattle.swi_engine.proofs.Counting.{stands_placed, absent_unplaced}
use Rattle.swi_engine.proofs.Filling.{hit_now}

spans : (v : ImageData) (c n : ℕ) (e t : EngineData) (x y : RamState) → Arrived v c n e t x y → t.slots * t.size ≡ e.slots * e.size
spans v c n e t x y arr = ap (λ (s : Setting). span_of s) arr.setting_stays

sizes : (v : ImageData) (c n : ℕ) (e t : EngineData) (x y : RamState) → Arrived v c n e t x y → t.size ≡ e.size
sizes v c n e t x y arr = ap (λ (s : Setting). s.slot_words) arr.setting_stays

arrived_target : (v : ImageData) (e t : EngineData) (c q n target : ℕ) (x y : RamState) → Arrived v c n e t x y → place_of v target ≡ Some (c, q) → TargetAt v (kept_by t) target (n * e.size + q)
arrived_target v e t c q n target x y arr is = record {
  block = c;
  offset = q;
  first = n * t.size;
  place_is = is;
  is_placed = subst (λ (b : ℕ). Placed (kept_by t) b (n * t.size)) arr.block_is (slot_placed t n arr.stands);
  index = ap (λ (s : ℕ). n * s + q) (sym (sizes v c n e t x y arr));
}

outside_moves : (by : Setting) (v : ImageData) (r : Record) (t : Transfer) → is_over_link r t ≡ false → place_of v (target_of t) ≡ None → r ≡ beside by r v t
unfolding served_by went
outside_moves by v r t over none = rw (over, none) refl

pub outside_served : (v : ImageData) (e : EngineData) (t : Transfer) (a : RamState) → is_over_link (kept_by e) t ≡ false → place_of v (target_of t) ≡ None →
    Served v (span_of (setting_of e)) (target_of t) (kept_by e) (beside (setting_of e) (kept_by e) v t) (kept_by e) a a (Err Outside)
outside_served v e t a over none = none_served v _ _ _ _ a none (outside_moves (setting_of e) v (kept_by e) t over none)

indirect_moves : (v : ImageData) (e : EngineData) (target c q : ℕ) → place_of v target ≡ Some (c, q) → arrived (setting_of e) v (counted (kept_by e)) c ≡ beside (setting_of e) (kept_by e) v (indirect target)
unfolding served_by went
indirect_moves v e target c q is = rw is refl

-- a jump
pub entered : (v : ImageData) (e t : EngineData) (c q n target : ℕ) (a b : RamState) → Arrived v c n e t a b → place_of v target ≡ Some (c, q) →
    Served v (span_of (setting_of e)) target (kept_by e) (beside (setting_of e) (kept_by e) v (indirect target)) (kept_by t) a b (Ok (n * e.size + q))
entered v e t c q n target a b arr is =
    served v (e.slots * e.size) target (n * e.size + q) _ (c, q) (kept_by e) _ (kept_by t) a b is (arr.moves ∙ indirect_moves v e target c q is) (arrived_target v e t c q n target a b arr is) arr.wrote refl arr.words

pub entered_call : (v : ImageData) (e t : EngineData) (c q n target size : ℕ) (a b : RamState) → Arrived v c n e t a b → Some (c, q) ≡ place_of v target → size ≡ t.size →
    Served v (span_of (setting_of e)) target (kept_by e) (beside (setting_of e) (kept_by e) v (indirect target)) (kept_by t) a b (Ok (n * size + q))
entered_call v e t c q n target size a b arr is size_is =
    subst (λ (s : ℕ). Served v (span_of (setting_of e)) target (kept_by e) (beside (setting_of e) (kept_by e) v (indirect target)) (kept_by t) a b (Ok (n * s + q))) (sym (size_is ∙ sizes v c n e t a b arr))
    (entered v e t c q n target a b arr (sym is))

-- a jump to a target that stands, once a service is counted
pub visited : (v : ImageData) (e t : EngineData) (target i : ℕ) (a : RamState) → t ≡ counted_data e → EngineSound e v a.words → e.counts.services < 2 ^ 50 → TargetAt v (kept_by e) target i →
    Served v (span_of (setting_of e)) target (kept_by e) (beside (setting_of e) (kept_by e) v (indirect target)) (kept_by t) a a (Ok i)
visited v e t target i a is sound lt at =
    let slot = placed_slot e at.block at.first at.is_placed in
    subst (λ (j : ℕ). Served v (span_of (setting_of e)) target (kept_by e) (beside (setting_of e) (kept_by e) v (indirect target)) (kept_by t) a a (Ok j)) (ap (λ (f : ℕ). f + at.offset) slot.3 ∙ sym at.index)
    (entered v e t at.block at.offset slot.0 target a a (hit_now v e t at.block slot.0 a is sound lt (slot.1, slot.2)) at.place_is)

-- an exit by its block's slot
pub record ExitIn (v : ImageData) (e : EngineData) (at target : ℕ) : Type 0 where
  pub block : ℕ
  pub offset : ℕ
  pub slot : ℕ
  pub queued : Has e.queue slot
  pub slot_is : slice_index e.blocks slot ≡ block
  pub index : at ≡ slot * e.size + offset
  pub is_exit : IsExit v block offset
  pub free : is_linked (kept_by e) block offset ≡ false
  pub descriptor : target ≡ word_at v block (offset + 1)

pub exit_in : (v : ImageData) (e : EngineData) (at target : ℕ) → ExitAt v (kept_by e) at target → ExitIn v e at target
exit_in v e at target x =
    let p = placed_slot e x.block x.first x.is_placed in
    record {
      block = x.block;
      offset = x.offset;
      slot = p.0;
      queued = p.1;
      slot_is = p.2;
      index = x.index ∙ ap (λ (f : ℕ). f + x.offset) (sym p.3);
      is_exit = x.is_exit;
      free = x.not_linked;
      descriptor = x.descriptor;
    }

offset_small : (v : ImageData) (e : EngineData) (words : List ℕ) (at target : ℕ) → Standing e v words → (x : ExitIn v e at target) → (x.offset < e.size) × (x.offset < length_at v x.block)
offset_small v e words at target stands x =
    let most : length_at v x.block ≤ e.size = subst (λ (b : ℕ). length_at v b ≤ e.size) x.slot_is (length_most e v words x.slot stands x.queued) in
    (omega (arith, most, x.is_exit.inside), omega (arith, x.is_exit.inside))

-- what stands at the index is that exit
pub exit_read : (v : ImageData) (e : EngineData) (words : List ℕ) (at target : ℕ) → Standing e v words → (x : ExitIn v e at target) → (at / e.size ≡ x.slot) × (at % e.size ≡ x.offset) × (at < e.slots * e.size) × (x.slot < e.slots)
exit_read v e words at target stands x =
    let small = (offset_small v e words at target stands x).0 in
    let w = word_slot x.slot x.offset e.size small in
    let slot : x.slot < e.slots = stands.shape.below x.slot x.queued in
    (ap (λ (i : ℕ). i / e.size) x.index ∙ w.0, ap (λ (i : ℕ). i % e.size) x.index ∙ w.1, omega (arith, x.index, slot_within e x.slot stands.shape slot, small), slot)

pub exit_same : (v : ImageData) (e : EngineData) (words : List ℕ) (at target b o f : ℕ) → Standing e v words → (x : ExitIn v e at target) → Placed (kept_by e) b f → o < length_at v b → at ≡ f + o → (x.block ≡ b) × (x.offset ≡ o)
exit_same v e words at target b o f stands x h lt at_is =
    let p = placed_slot e b f h in
    let most : length_at v b ≤ e.size = subst (λ (c : ℕ). length_at v c ≤ e.size) p.2 (length_most e v words p.0 stands p.1) in
    let w = exit_read v e words at target stands x in
    let s = word_slot p.0 o e.size (omega (arith, lt, most)) in
    let here : at ≡ p.0 * e.size + o = at_is ∙ ap (λ (g : ℕ). g + o) (sym p.3) in
    let slot : x.slot ≡ p.0 = sym w.0 ∙ ap (λ (i : ℕ). i / e.size) here ∙ s.0 in
    (sym x.slot_is ∙ ap (λ (m : ℕ). slice_index e.blocks m) slot ∙ p.2, sym w.1 ∙ ap (λ (i : ℕ). i % e.size) here ∙ s.1)

-- no link stands there, and none after the arrival
none_before : (v : ImageData) (e : EngineData) (words : List ℕ) (at target : ℕ) → Standing e v words → ExitIn v e at target → NoJoint e at
none_before v e words at target stands x = λ j h is.
    not_linked_none e v words x.slot x.offset stands x.queued (subst (λ (b : ℕ). x.offset < length_at v b) (sym x.slot_is) (offset_small v e words at target stands x).1)
    (subst (λ (b : ℕ). is_linked (kept_by e) b x.offset ≡ false) (sym x.slot_is) x.free) j h (is ∙ x.index)

none_after : (v : ImageData) (e t : EngineData) (c n at target : ℕ) (a b : RamState) → EngineSound e v a.words → Arrived v c n e t a b → ExitIn v e at target → NoJoint t at
none_after v e t c n at target a b sound arr x = λ j h is. none_before v e a.words at target sound.stands x j (arr.joints_left j h) is

-- where a block stands that the table of slots has
home_stands : (e : EngineData) (v : ImageData) (words : List ℕ) (b : ℕ) → Standing e v words → b < length e.homes → nat_lt (slice_index e.homes b) e.slots ≡ true → Has e.queue (slice_index e.homes b) × (slice_index e.blocks (slice_index e.homes b) ≡ b)
home_stands e v words b stands lt is = stands.shape.homed.only b lt (ltb-true _ _ is)

home_absent : (e : EngineData) (v : ImageData) (words : List ℕ) (b : ℕ) → Standing e v words → nat_lt (slice_index e.homes b) e.slots ≡ false → IsAbsent e b
home_absent e v words b stands none = λ n h is.
    let home : slice_index e.homes b ≡ n = ap (λ (c : ℕ). slice_index e.homes c) (sym is) ∙ stands.shape.homed.home n h in
    both_ways _ none (lt-ltb _ _ (omega (arith, home, stands.shape.below n h)))

-- the code's test is the policy's
link_test : (v : ImageData) (e t : EngineData) (c q n at target : ℕ) (a b : RamState) → EngineSound e v a.words → Arrived v c n e t a b → (x : ExitIn v e at target) → (j : Joint) → j.block ≡ x.block → j.at ≡ at →
    (is_placed (kept_by t) x.block && reaches (first_of (kept_by t) x.block + x.offset) (first_of (kept_by t) c + q)) ≡ can_link t j (n * e.size + q)
link_test v e t c q n at target a b sound arr x j block here =
    let there : first_of (kept_by t) c ≡ n * e.size = first_is t v b.words n c arr.sound.stands arr.stands arr.block_is ∙ ap (λ (s : ℕ). n * s) (sizes v c n e t a b arr) in
    let known : x.block < length t.homes = omega (arith, ap (λ (m : ℕ). m) (sym x.slot_is), sound.stands.known x.slot x.queued, arr.sound.stands.blocks_most) in
    let same : can_link t j (n * e.size + q) ≡ (nat_lt (slice_index t.homes x.block) t.slots && reaches at (n * e.size + q)) = rw (block, here) refl in
    elim (cases_Bool (nat_lt (slice_index t.homes x.block) t.slots)) [
      | inl stands ↦ (
          let home = home_stands t v b.words x.block arr.sound.stands known stands in
          let slot : slice_index t.homes x.block ≡ x.slot = arr.older x.slot x.block x.queued x.slot_is (slice_index t.homes x.block) home.0 home.1 in
          let first : first_of (kept_by t) x.block + x.offset ≡ at =
          ap (λ (f : ℕ). f + x.offset) (first_is t v b.words (slice_index t.homes x.block) x.block arr.sound.stands home.0 home.1 ∙ ap (λ (m : ℕ). m * t.size) slot ∙ ap (λ (s : ℕ). x.slot * s) (sizes v c n e t a b arr)) ∙ sym x.index in
          rw (stands_placed t x.block (slice_index t.homes x.block) home.0 home.1, first, there) (sym (same ∙ ap (λ (u : Bool). u && reaches at (n * e.size + q)) stands)))
      | inr gone ↦ and_left _ _ (absent_unplaced t x.block (home_absent t v b.words x.block arr.sound.stands gone)) ∙ sym (same ∙ and_left _ _ gone)
    ]

direct_moves : (v : ImageData) (e : EngineData) (b o target c q : ℕ) → is_linked (kept_by e) b o ≡ false → place_of v target ≡ Some (c, q) →
    linked newest_first (arrived (setting_of e) v (counted (kept_by e)) c) b o (c, q) ≡ beside (setting_of e) (kept_by e) v (direct b o target)
unfolding served_by went
direct_moves v e b o target c q free is = rw (free, is) refl

linked_when : (r : Record) (b o : ℕ) (p : ℕ × ℕ) → (is_placed r b && reaches (first_of r b + o) (first_of r p.0 + p.1)) ≡ true →
    linked newest_first r b o p ≡ record r { links = record { program = r.turn; block = b; offset = o; into = p.0 } ∷ r.links; counts = record r.counts { links = r.counts.links + 1 } }
unfolding linked
linked_when r b o p t = rw t refl

linked_not : (r : Record) (b o : ℕ) (p : ℕ × ℕ) → (is_placed r b && reaches (first_of r b + o) (first_of r p.0 + p.1)) ≡ false → linked newest_first r b o p ≡ r
unfolding linked
linked_not r b o p t = rw t refl

more_one : (xs : List ℕ) (x : ℕ) → Has xs x → more_service xs ≡ 1
more_one [] x h = absurd h
more_one (y ∷ ys) x h = refl

-- the exit is among no links before
not_there : (v : ImageData) (e t : EngineData) (words : List ℕ) (at target : ℕ) (l : Link) → Standing e v words → (x : ExitIn v e at target) → ((k : Joint) → Has t.joints k → Has e.joints k) → l.block ≡ x.block → l.offset ≡ x.offset → has_link (kept_by t).links l ≡ false
not_there v e t words at target l stands x left block offset = false_from_ne_true _ (λ (h : has_link (kept_by t).links l ≡ true).
    let w = in_joints t.joints l h in
    let linked' : is_linked (kept_by e) w.0.block w.0.offset ≡ true = joint_linked e w.0 (left w.0 w.1) in
    both_ways _ x.free (subst (λ (o : ℕ). is_linked (kept_by e) x.block o ≡ true) (ap (λ (k : Link). k.offset) w.2 ∙ offset) (subst (λ (b : ℕ). is_linked (kept_by e) b w.0.offset ≡ true) (ap (λ (k : Link). k.block) w.2 ∙ block) linked')))

-- which words have changed
linked_words : (v : ImageData) (e t : EngineData) (c n at target w : ℕ) (j : Joint) (x y z : RamState) → EngineSound e v x.words → Arrived v c n e t x y → (i : ExitIn v e at target) → j.block ≡ i.block → j.offset ≡ i.offset → j.at ≡ at → OneSet j.at w y z →
    WordsMove v (kept_by e) (kept_by (linked_data t j)) x z
unfolding Placed
linked_words v e t c n at target w j x y z sound arr i block offset here set = record {
  changes = λ k. elim (cases_eq k at) [
    | inl s ↦ inr (inr (record {
      link = link_of j;
      first = i.slot * e.size;
      stood = inl (subst (λ (b : ℕ). Placed (kept_by e) b (i.slot * e.size)) (i.slot_is ∙ sym block) (slot_placed e i.slot i.queued));
      changed = λ same. both_ways _ before (same ∙ has_first (link_of j) (map (λ k. link_of k) t.joints));
      index = s ∙ i.index ∙ ap (λ (o : ℕ). i.slot * e.size + o) (sym offset);
    }))
    | inr ne ↦ elim (arr.words.changes k) [
      | inl same ↦ inl (other k ne ∙ same)
      | inr d ↦ elim d [
        | inl p ↦ inr (inl (record { block = p.block; first = p.first; offset = p.offset; stands = p.stands; is_new = p.is_new; inside = p.inside; index = p.index }))
        | inr l ↦ inr (inr (record {
          link = l.link;
          first = l.first;
          stood = l.stood;
          index = l.index;
          changed = λ same. elim (cases_Bool (same_link l.link (link_of j))) [
            | inl alike ↦ (let is = same_is l.link (link_of j) alike in
                l.changed (ap (λ (k : Link). has_link (kept_by e).links k) is ∙ before ∙ sym after ∙ ap (λ (k : Link). has_link (kept_by t).links k) (sym is)))
            | inr differs ↦ l.changed (same ∙ has_next l.link (link_of j) (map (λ k. link_of k) t.joints) ∙ ap (λ (u : Bool). u || has_link (kept_by t).links l.link) differs)
          ];
        }))
      ]
    ]
  ];
  restored = λ k f was is p p'.
      let parts = or_parts (same_link k (link_of j)) (has_link (kept_by t).links k) (sym (has_next k (link_of j) (map (λ k. link_of k) t.joints)) ∙ is) in
      let m = in_joints e.joints k was in
      let stood : Placed (kept_by e) m.0.block f = subst (λ (l : Link). Has (kept_by e).placed (record { program = l.program; block = l.block; first = f })) (sym m.2) p in
      let q = placed_slot e m.0.block f stood in
      let at' : m.0.at ≡ f + k.offset = joint_at e v x.words m.0 q.0 sound.stands (sound.stands.linked m.0 m.1) q.1 q.2 ∙ ap (λ (g : ℕ). g + m.0.offset) q.3 ∙ ap (λ (l : Link). f + l.offset) m.2 in
      other (f + k.offset) (λ (s : f + k.offset ≡ at). none_before v e x.words at target sound.stands i m.0 m.1 (at' ∙ s)) ∙ arr.words.restored k f was parts.1 p p';
}
  where
    other : (k : ℕ) → (k ≡ at → ⊥) → slice_index z.words k ≡ slice_index y.words k
    other k ne = ap (λ (r : RamState). slice_index r.words k) set ∙ get_or-set_other y.words j.at k w 0 (λ (s : k ≡ j.at). ne (s ∙ here))

    before : has_link (kept_by e).links (link_of j) ≡ false
    before = not_there v e e x.words at target (link_of j) sound.stands i (λ m h. h) block offset

    after : has_link (kept_by t).links (link_of j) ≡ false
    after = not_there v e t x.words at target (link_of j) sound.stands i arr.joints_left block offset

new_target : (v : ImageData) (t : EngineData) (j : Joint) (target i : ℕ) → TargetAt v (kept_by t) target i → TargetAt v (kept_by (linked_data t j)) target i
unfolding Placed
new_target v t j target i at = record { block = at.block; offset = at.offset; first = at.first; place_is = at.place_is; is_placed = at.is_placed; index = at.index }

abbrev pub Crossed : ImageData → EngineData → ℕ → ℕ → ℕ → EngineData → RamState → RamState → ℕ → Type 0
Crossed v e b o target u x z index =
    Served v (span_of (setting_of e)) target (kept_by e) (beside (setting_of e) (kept_by e) v (direct b o target)) (kept_by u) x z (Ok index)

few_linked : (t : EngineData) (j : Joint) → Few t → t.counts.links < t.counts.services → Few (linked_data t j)
few_linked t j few lt = record {
  misses_few = few.misses_few;
  unbooted = few.unbooted;
  copied_few = few.copied_few;
  evictions_few = few.evictions_few;
  links_few = omega (arith, lt);
  unlinks_few = omega (arith, few.unlinks_few);
  copies_few = few.copies_few;
  queue_few = few.queue_few;
  words_few = few.words_few;
  services_few = few.services_few;
}

-- the joint is the exit's, with its target's block
pub record IsJoint (v : ImageData) (e : EngineData) (at target c : ℕ) (x : ExitIn v e at target) (j : Joint) : Type 0 where
  pub block : j.block ≡ x.block
  pub offset : j.offset ≡ x.offset
  pub here : j.at ≡ at
  pub into : j.into ≡ c

crossed_link : (v : ImageData) (e t u : EngineData) (c q n at target : ℕ) (j : Joint) (x y z : RamState) → EngineSound e v x.words → (i : ExitIn v e at target) → IsJoint v e at target c i j → place_of v target ≡ Some (c, q) → Arrived v c n e t x y →
    Linked t u j (n * e.size + q) y z → nat_lt (slice_index t.homes i.block) t.slots ≡ true →
    (record (kept_by t) { links = link_of j ∷ (kept_by t).links; counts = record t.counts { links = t.counts.links + 1 } } ≡ beside (setting_of e) (kept_by e) v (direct i.block i.offset target)) →
    Crossed v e i.block i.offset target u x z (n * e.size + q) × EngineSound u v z.words
crossed_link v e t u c q n at target j x y z sound i own is arr link stands moves =
    let known : i.block < length t.homes = omega (arith, ap (λ (m : ℕ). m) (sym i.slot_is), sound.stands.known i.slot i.queued, arr.sound.stands.blocks_most) in
    let home = home_stands t v y.words i.block arr.sound.stands known stands in
    let slot : slice_index t.homes i.block ≡ i.slot = arr.older i.slot i.block i.queued i.slot_is (slice_index t.homes i.block) home.0 home.1 in
    let size = sizes v c n e t x y arr in
    let span = spans v c n e t x y arr in
    let read = exit_read v e x.words at target sound.stands i in
    let below : j.at < e.slots * e.size = omega (arith, own.here, read.2) in
    let few : t.counts.links < t.counts.services = omega (arith, arr.links_stay, arr.services_are, more_one e.queue i.slot i.queued, sound.few.links_few) in
    let exit : IsExit v j.block j.offset = subst (λ (o : ℕ). IsExit v j.block o) (sym own.offset) (subst (λ (b : ℕ). IsExit v b i.offset) (sym own.block) i.is_exit) in
    let goes : target ≡ word_at v j.block (j.offset + 1) = i.descriptor ∙ ap (λ (b : ℕ). word_at v b (i.offset + 1)) (sym own.block) ∙ ap (λ (o : ℕ). word_at v j.block (o + 1)) (sym own.offset) in
    let place : place_of v (word_at v j.block (j.offset + 1)) ≡ Some (j.into, q) = ap (λ (g : ℕ). place_of v g) (sym goes) ∙ is ∙ ap (λ (b : ℕ). Some (b, q)) (sym own.into) in
    let at_is : j.at ≡ slice_index t.homes i.block * t.size + j.offset =
    own.here ∙ i.index ∙ ap (λ (o : ℕ). i.slot * e.size + o) (sym own.offset) ∙ ap (λ (s : ℕ). i.slot * s + j.offset) (sym size) ∙ ap (λ (m : ℕ). m * t.size + j.offset) (sym slot) in
    let jumps : IsJump j.at (n * t.size + q) link.word = subst (λ (s : ℕ). IsJump j.at (n * s + q) link.word) (sym size) link.jumps in
    let none : NoJoint t j.at = subst (λ (k : ℕ). NoJoint t k) (sym own.here) (none_after v e t c n at target x y sound arr i) in
    let next : Standing (linked_data t j) v (slice_set y.words j.at link.word) =
    linked_stands t v y.words j link.word (slice_index t.homes i.block) n q arr.sound.stands none home.0 (home.1 ∙ sym own.block) at_is exit arr.stands (arr.block_is ∙ sym own.into) place jumps in
    let one : Wrote (e.slots * e.size) 1 y z = wrote_one (e.slots * e.size) j.at link.word y z below link.set in
    let words = linked_words v e t c n at target link.word j x y z sound arr i own.block own.offset own.here link.set in (
      subst (λ (f : EngineData). Served v (span_of (setting_of e)) target (kept_by e) (beside (setting_of e) (kept_by e) v (direct i.block i.offset target)) (kept_by f) x z (Ok (n * e.size + q))) (sym link.data_is)
          (served v (e.slots * e.size) target (n * e.size + q) (writes (kept_by t) - writes (kept_by e) + 1) (c, q) (kept_by e) _ (kept_by (linked_data t j)) x z is moves
          (new_target v t j target (n * e.size + q) (arrived_target v e t c q n target x y arr is))
          (wrote_more (e.slots * e.size) (e.slots * e.size) _ 1 x y z arr.wrote one (omega arith)) (omega (arith, arr.written)) words),
      subst (λ (f : EngineData). EngineSound f v z.words) (sym link.data_is)
          (record { stands = subst (λ (ws : List ℕ). Standing (linked_data t j) v ws) (sym (ap (λ (r : RamState). r.words) link.set)) next; few = few_linked t j arr.sound.few few }),
    )

-- the exit has been linked, or it can't be
crossed_at : (v : ImageData) (e t u : EngineData) (c q n at target : ℕ) (j : Joint) (x y z : RamState) → EngineSound e v x.words → (i : ExitIn v e at target) → IsJoint v e at target c i j → place_of v target ≡ Some (c, q) → Arrived v c n e t x y →
    MaybeLinked t u (can_link t j (n * e.size + q)) j (n * e.size + q) y z → Crossed v e i.block i.offset target u x z (n * e.size + q) × EngineSound u v z.words
crossed_at v e t u c q n at target j x y z sound i own is arr maybe =
    let moves : linked newest_first (kept_by t) i.block i.offset (c, q) ≡ beside (setting_of e) (kept_by e) v (direct i.block i.offset target) =
    ap (λ (r : Record). linked newest_first r i.block i.offset (c, q)) arr.moves ∙ direct_moves v e i.block i.offset target c q i.free is in
    let test = link_test v e t c q n at target x y sound arr i j own.block own.here in
    elim (cases_Bool (can_link t j (n * e.size + q))) [
      | inr stays ↦ (let same = maybe.stays stays in (
        subst (λ (f : EngineData). Served v (span_of (setting_of e)) target (kept_by e) (beside (setting_of e) (kept_by e) v (direct i.block i.offset target)) (kept_by f) x z (Ok (n * e.size + q))) (sym same.0)
            (subst (λ (r : RamState). Served v (span_of (setting_of e)) target (kept_by e) (beside (setting_of e) (kept_by e) v (direct i.block i.offset target)) (kept_by t) x r (Ok (n * e.size + q))) (sym same.1)
            (served v (e.slots * e.size) target (n * e.size + q) _ (c, q) (kept_by e) _ (kept_by t) x y is (sym (linked_not (kept_by t) i.block i.offset (c, q) (test ∙ stays)) ∙ moves) (arrived_target v e t c q n target x y arr is) arr.wrote refl arr.words)),
        subst (λ (f : EngineData). EngineSound f v z.words) (sym same.0) (subst (λ (r : RamState). EngineSound t v r.words) (sym same.1) arr.sound),
      ))
      | inl can ↦ crossed_link v e t u c q n at target j x y z sound i own is arr (maybe.linked can)
          (subst (λ (b : ℕ). nat_lt (slice_index t.homes b) t.slots ≡ true) own.block (and_parts (nat_lt (slice_index t.homes j.block) t.slots) (reaches j.at (n * e.size + q)) can).0)
          (linked_now (kept_by t) i.block i.offset c (link_of j) (ap (λ (b : ℕ). record { program = 0; block = b; offset = j.offset; into = j.into }) own.block ∙ ap (λ (o : ℕ). record { program = 0; block = i.block; offset = o; into = j.into }) own.offset ∙ ap (λ (b : ℕ). record { program = 0; block = i.block; offset = i.offset; into = b }) own.into)
          ∙ sym (linked_when (kept_by t) i.block i.offset (c, q) (test ∙ can)) ∙ moves)
    ]
  where
    linked_now : (r : Record) (b o c : ℕ) (l : Link) → let k : Link = record { program = r.turn; block = b; offset = o; into = c } in l ≡ k →
        let s : Record = record r { links = l ∷ r.links; counts = record r.counts { links = r.counts.links + 1 } } in let w : Record = record r { links = k ∷ r.links; counts = record r.counts { links = r.counts.links + 1 } } in s ≡ w
    linked_now r b o c l is = rw is refl

joint_is : (v : ImageData) (e r : EngineData) (words : List ℕ) (at target c block : ℕ) → r ≡ e → Standing e v words → (i : ExitIn v e at target) → block ≡ slice_index_or r.blocks (at / r.size) block →
    IsJoint v e at target c i (record { block = block; offset = at % r.size; at = at; into = c })
joint_is v e r words at target c block same stands i read =
    let w = exit_read v e words at target stands i in
    let size : r.size ≡ e.size = ap (λ (x : EngineData). x.size) same in
    let row : at / r.size ≡ i.slot = ap (λ (s : ℕ). at / s) size ∙ w.0 in
    let below : at / r.size < length r.blocks = subst (λ (x : EngineData). at / r.size < length x.blocks) (sym same) (omega (arith, row, w.3, stands.shape.blocks_long)) in
    record {
      block = get_or_read r.blocks (at / r.size) block below read 0 ∙ ap (λ (x : EngineData). slice_index x.blocks (at / r.size)) same ∙ ap (λ (m : ℕ). slice_index e.blocks m) row ∙ i.slot_is;
      offset = ap (λ (s : ℕ). at % s) size ∙ w.1;
      here = refl;
      into = refl;
    }

pub crossed_call : (v : ImageData) (e r t u : EngineData) (c q n at target block index size : ℕ) (x y z : RamState) → r ≡ e → EngineSound e v x.words → ExitAt v (kept_by e) at target → place_of v target ≡ Some (c, q) → Arrived v c n e t x y →
    block ≡ slice_index_or r.blocks (at / r.size) block → size ≡ t.size → index ≡ n * size + q →
    MaybeLinked t u (can_link t (record { block = block; offset = at % r.size; at = at; into = c }) index) (record { block = block; offset = at % r.size; at = at; into = c }) index y z →
    ((b o f : ℕ) → Placed (kept_by e) b f → o < length_at v b → at ≡ f + o → Crossed v e b o target u x z index) × EngineSound u v z.words
crossed_call v e r t u c q n at target block index size x y z same sound ex is arr read size_is index_is maybe =
    let i = exit_in v e at target ex in
    let j : Joint = record { block = block; offset = at % r.size; at = at; into = c } in
    let own = joint_is v e r x.words at target c block same sound.stands i read in
    let to : index ≡ n * e.size + q = index_is ∙ ap (λ (s : ℕ). n * s + q) (size_is ∙ sizes v c n e t x y arr) in
    let maybe' : MaybeLinked t u (can_link t (record { block = block; offset = at % r.size; at = at; into = c }) (n * e.size + q)) (record { block = block; offset = at % r.size; at = at; into = c }) (n * e.size + q) y z =
    subst (λ (k : ℕ). MaybeLinked t u (can_link t (record { block = block; offset = at % r.size; at = at; into = c }) k) (record { block = block; offset = at % r.size; at = at; into = c }) k y z) to maybe in
    let both = crossed_at v e t u c q n at target (record { block = block; offset = at % r.size; at = at; into = c }) x y z sound i own is arr maybe' in (
      λ b o f h lt at_is. (let alike = exit_same v e x.words at target b o f sound.stands i h lt at_is in
          subst (λ (k : ℕ). Crossed v e b o target u x z k) (sym to)
          (subst (λ (k : ℕ). Crossed v e b k target u x z (n * e.size + q)) alike.1 (subst (λ (k : ℕ). Crossed v e k i.offset target u x z (n * e.size + q)) alike.0 both.0))),
      both.1,
    )

-- what the code has to know of the exit
pub record LinkNeeds (t : EngineData) (j : Joint) (words : List ℕ) : Type 0 where
  pub block : j.block < length t.homes
  pub at : j.at < t.slots * t.size
  pub small : t.slots * t.size ≤ 2 ^ 21
  pub fits : t.slots * t.size ≤ length words
  pub links : t.counts.links < 2 ^ 60
  pub into : j.into < length t.homes
  pub free : NoJoint t j.at

pub link_needs : (v : ImageData) (e r t : EngineData) (c n at target block : ℕ) (x y : RamState) → r ≡ e → EngineSound e v x.words → ExitAt v (kept_by e) at target → Arrived v c n e t x y → block ≡ slice_index_or r.blocks (at / r.size) block →
    LinkNeeds t (record { block = block; offset = at % r.size; at = at; into = c }) y.words
link_needs v e r t c n at target block x y same sound ex arr read =
    let i = exit_in v e at target ex in
    let own = joint_is v e r x.words at target c block same sound.stands i read in
    let w = exit_read v e x.words at target sound.stands i in
    let span = spans v c n e t x y arr in
    let stands = arr.sound.stands in
    let known : i.block < length v.blocks = subst (λ (b : ℕ). b < length v.blocks) i.slot_is (sound.stands.known i.slot i.queued) in
    record {
      block = omega (arith, own.block, known, stands.blocks_most);
      at = omega (arith, w.2, span);
      small = stands.shape.words_few;
      fits = stands.fits;
      links = omega (arith, arr.sound.few.links_few, arr.sound.few.services_few);
      into = omega (arith, subst (λ (b : ℕ). b < length v.blocks) arr.block_is (stands.known n arr.stands), stands.blocks_most);
      free = none_after v e t c n at target x y sound arr i;
    }

-- where the code reads the exit's own block
pub exit_below : (v : ImageData) (e r : EngineData) (words : List ℕ) (at target : ℕ) → r ≡ e → EngineSound e v words → ExitAt v (kept_by e) at target → at / r.size < length r.blocks
exit_below v e r words at target same sound ex =
    let i = exit_in v e at target ex in
    let w = exit_read v e words at target sound.stands i in
    let row : at / r.size ≡ i.slot = ap (λ (x : EngineData). at / x.size) same ∙ w.0 in
    subst (λ (x : EngineData). at / r.size < length x.blocks) (sym same) (omega (arith, row, w.3, sound.stands.shape.blocks_long))

pub exit_not_linked : (v : ImageData) (e : EngineData) (words : List ℕ) (at target b o f : ℕ) → EngineSound e v words → ExitAt v (kept_by e) at target → Placed (kept_by e) b f → o < length_at v b → at ≡ f + o → is_linked (kept_by e) b o ≡ false
exit_not_linked v e words at target b o f sound ex h lt at_is =
    let i = exit_in v e at target ex in
    let same = exit_same v e words at target b o f sound.stands i h lt at_is in
    subst (λ (k : ℕ). is_linked (kept_by e) b k ≡ false) same.1 (subst (λ (c : ℕ). is_linked (kept_by e) c i.offset ≡ false) same.0 i.free)

-- the ram failed at the link
pub crossed_fault : (v : ImageData) (e t u : EngineData) (c q n target b o : ℕ) (x y z : RamState) → place_of v target ≡ Some (c, q) → Arrived v c n e t x y → FailedBelow (t.slots * t.size) y z →
    Served v (span_of (setting_of e)) target (kept_by e) (beside (setting_of e) (kept_by e) v (direct b o target)) (kept_by u) x z (Err RamFault)
crossed_fault v e t u c q n target b o x y z is arr failed =
    fault_served v (e.slots * e.size) target (c, q) (kept_by e) _ (kept_by u) x z is
    (failed_more (e.slots * e.size) (e.slots * e.size) _ x y z arr.wrote (subst (λ (m : ℕ). FailedBelow m y z) (spans v c n e t x y arr) failed) (omega arith))

-- a link is made, or not
pub linked_yes : (e f : EngineData) (j : Joint) (to : ℕ) (a b : RamState) (t : Bool) → t ≡ true → f ≡ linked_data e j → (w : ℕ) × IsJump j.at to w × OneSet j.at w a b → MaybeLinked e f t j to a b
linked_yes e f j to a b t is data_is made = record {
  linked = λ s. record { data_is = data_is; word = made.0; jumps = made.1; set = made.2 };
  stays = λ s. absurd (both_ways _ s is);
}

pub linked_no : (e : EngineData) (j : Joint) (to : ℕ) (a : RamState) (t : Bool) → t ≡ false → MaybeLinked e e t j to a a
linked_no e j to a t is = record { linked = λ s. absurd (both_ways _ is s); stays = λ s. (refl, refl) }
