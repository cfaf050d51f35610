-- A block that stood nowhere has been copied.
use Rattle.std.proofs.Common.{◌≡◌, ◌⊎◌, ℕ, ◌+◌, ◌-◌, ◌*◌, ◌<◌, ◌≤◌, ◌^◌, List, [], ◌∷◌, ◌++◌, true, false, Result, Ok, Err, IfOk, length, slice_index, slice_set, Some, None, Option, arith, refl, sym, ◌∙◌, ap, subst, inl, inr}
use Rattle.std.proofs.lemmas.Bool.{cases_lt, both_ways, false_from_ne_true}
use Rattle.std.proofs.lemmas.List.{get_or-set_other, get_or-set_same, length_push}
use Rattle.std.proofs.lemmas.Nat.{same_from_place, row_fits}
use Rattle.swi_image.specs.Format.{ImageData}
use Rattle.swi_image.specs.Place.{length_at}
use Rattle.swi_outside.specs.CacheRam.{RamState}
use Rattle.swi_rom.specs.Record.{Record, Placement, Link, Has, Placed, has_link, same_link, ebreak}
use Rattle.swi_rom.specs.Policy.{counted, is_placed}
use Rattle.swi_rom.specs.Served.{WordsMove, NewlyPlaced, LinkChanged}
use Rattle.swi_rom.specs.Writing.{Wrote, FailedBelow}
use Rattle.swi_rom.specs.Rams.{wrote_none, wrote_more, wrote_wider, failed_more, failed_wider}
use Rattle.swi_rom.specs.declared.rom.Counts.{Counts}
use Rattle.swi_rom.specs.Service.{Setting}
use Rattle.swi_rom.specs.Links.{same_same}
use Rattle.swi_engine.specs.declared.joints.Joint.{Joint}
use Rattle.swi_engine.specs.declared.copying.Copying.{Copying}
use Rattle.swi_engine.specs.Engine.{span_of, arrived, missed, brought}
use Rattle.swi_engine.specs.State.{EngineData, kept_by, setting_of, link_of}
use Rattle.swi_engine.specs.Sound.{Standing, EngineSound, Few, CopyStands}
use Rattle.swi_engine.specs.Seats.{joint_in, in_joints, placed_slot, slot_placed, joint_at, joint_inside}
use Rattle.swi_engine.specs.Moves.{CopiedOn, IsAbsent, counted_data, more_service, placed_data, brought_data}
use Rattle.swi_engine.specs.Arrived.{Ready, Filled, Arrived}
use Rattle.swi_engine.proofs.Shapes.{has_last, has_here}
use Rattle.swi_engine.proofs.Standing.{copy_short, placed_stands, recounted}
use Rattle.swi_engine.proofs.Eventing.{copy_kept, spots_placed, same_at}
use Rattle.swi_engine.proofs.Counting.{counted_kept, counted_sound, stands_placed, absent_unplaced}

-- what is ready for a block that is to be copied into a slot
abbrev ReadyFor : ImageData → Copying → EngineData → EngineData → RamState → RamState → Type 0
ReadyFor v c e f a m = Ready v c.block c e f a m

size_same : (v : ImageData) (c : Copying) (e f : EngineData) (a m : RamState) → ReadyFor v c e f a m → f.size ≡ e.size
size_same v c e f a m r = ap (λ (s : Setting). s.slot_words) r.setting_stays

slots_same : (v : ImageData) (c : Copying) (e f : EngineData) (a m : RamState) → ReadyFor v c e f a m → f.slots ≡ e.slots
slots_same v c e f a m r = ap (λ (s : Setting). s.slots) r.setting_stays

copy_stands : (v : ImageData) (c : Copying) (e f : EngineData) (a m : RamState) → ReadyFor v c e f a m → CopyStands (record f { copy = Some c }) v m.words c
copy_stands v c e f a m r = r.stands.copy_is

-- what the code has to know
pub record Needs (v : ImageData) (b : ℕ) (c : Copying) (f : EngineData) (words : List ℕ) : Type 0 where
  pub from : c.done ≤ length_at v b
  pub long : length_at v b ≤ 1024
  pub row : c.slot * f.size + length_at v b ≤ f.slots * f.size
  pub most : f.slots * f.size ≤ 2 ^ 21
  pub fits : f.slots * f.size ≤ length words
  pub slot : c.slot < f.slots
  pub free : Has f.queue c.slot → ⊥
  pub room : length f.queue < f.slots
  pub known : b < length f.homes
  pub absent : IsAbsent f b

needs_own : (v : ImageData) (c : Copying) (e f : EngineData) (a m : RamState) → ReadyFor v c e f a m → Needs v c.block c f m.words
needs_own v c e f a m r =
    let was = copy_stands v c e f a m r in
    let short = copy_short (record f { copy = Some c }) v m.words c r.stands was in
    let slot : c.slot < f.slots = omega (arith, was.slot_used, r.stands.shape.used_most) in
    record {
      from = omega (arith, was.more);
      long = omega (arith, short, r.stands.shape.size_most);
      row = omega (arith, row_fits c.slot f.size f.slots f.size slot (omega arith), short);
      most = r.stands.shape.words_few;
      fits = r.stands.fits;
      slot = slot;
      free = was.slot_free;
      room = omega (arith, r.stands.shape.used_most);
      known = omega (arith, was.known, r.stands.blocks_most);
      absent = was.absent;
    }

pub needs : (v : ImageData) (b : ℕ) (c : Copying) (e f : EngineData) (a m : RamState) → Ready v b c e f a m → Needs v b c f m.words
needs v b c e f a m r = subst (λ (x : ℕ). Needs v x c f m.words) r.is_block (needs_own v c e f a m (subst (λ (x : ℕ). Ready v x c e f a m) (sym r.is_block) r))

-- a word of another slot is as before
other_slot : (v : ImageData) (b size : ℕ) (c : Copying) (m d : RamState) → CopiedOn v b (c.slot * size) c.done (length_at v b) m d → length_at v b ≤ size → (n o : ℕ) → (n ≡ c.slot → ⊥) → o < size →
    slice_index d.words (n * size + o) ≡ slice_index m.words (n * size + o)
other_slot v b size c m d copied short n o ne lt = elim (cases_lt (n * size + o) (c.slot * size + c.done)) [
  | inl below ↦ copied.below (n * size + o) below
  | inr from ↦ elim (cases_lt (n * size + o) (c.slot * size + length_at v b)) [
    | inl inside ↦ absurd (ne (same_from_place n o c.slot (n * size + o - c.slot * size) size lt (omega (arith, from, inside, short)) (omega (arith, from))).0)
    | inr past ↦ copied.wrote.spared.beyond (n * size + o) past
  ]
]

block_stands : (v : ImageData) (c : Copying) (e f : EngineData) (a m d : RamState) → ReadyFor v c e f a m → CopiedOn v c.block (c.slot * f.size) c.done (length_at v c.block) m d →
    Standing (placed_data f c.block c.slot (length_at v c.block)) v d.words
block_stands v c e f a m d r copied =
    let was = copy_stands v c e f a m r in
    let short = copy_short (record f { copy = Some c }) v m.words c r.stands was in
    placed_stands (record f { copy = Some c }) v m.words d.words c r.stands refl copied.wrote.spared.length_stays
    (λ k lt. elim (cases_lt k c.done) [
      | inl old ↦ copied.below (c.slot * f.size + k) (omega (arith, old)) ∙ was.stands k old
      | inr new ↦ copied.copied k new lt
    ])
    (λ n o ne lt. other_slot v c.block f.size c m d copied short n o ne lt)

-- the record after it
filled_kept : (v : ImageData) (c : Copying) (e f : EngineData) (a m : RamState) (missing : ℕ) → ReadyFor v c e f a m →
    kept_by (brought_data f c.block c.slot (length_at v c.block) missing) ≡ brought (kept_by (record f { copy = None })) c.block (c.slot * f.size) missing
filled_kept v c e f a m missing r =
    let was = copy_stands v c e f a m r in
    ap (λ (ps : List Placement). record (kept_by (record f { copy = None })) { placed = ps; counts = record f.counts { misses = f.counts.misses + 1; copied = f.counts.copied + missing } })
    (spots_placed f.size f.blocks c.slot c.block f.queue was.slot_free (omega (arith, was.slot_used, r.stands.shape.used_most, r.stands.shape.blocks_long)))

arrived_missed : (e : EngineData) (v : ImageData) (b : ℕ) → IsAbsent e b → arrived (setting_of e) v (kept_by e) b ≡ missed (setting_of e) v (kept_by e) b e.copy
unfolding arrived
arrived_missed e v b absent = rw (absent_unplaced e b absent) (ap (λ (o : Option Copying). missed (setting_of e) v (kept_by e) b o) (copy_kept e))

filled_moves : (v : ImageData) (c : Copying) (e f : EngineData) (a m : RamState) → IsAbsent e c.block → ReadyFor v c (counted_data e) f a m →
    kept_by (brought_data f c.block c.slot (length_at v c.block) (length_at v c.block - c.done)) ≡ arrived (setting_of e) v (counted (kept_by e)) c.block
filled_moves v c e f a m absent r =
    filled_kept v c (counted_data e) f a m (length_at v c.block - c.done) r
    ∙ ap (λ (s : ℕ). brought (kept_by (record f { copy = None })) c.block (c.slot * s) (length_at v c.block - c.done)) (size_same v c (counted_data e) f a m r)
    ∙ sym r.brings ∙ sym (arrived_missed (counted_data e) v c.block absent) ∙ ap (λ (x : Record). arrived (setting_of e) v x c.block) (counted_kept e)

-- the counts stay small
filled_few : (v : ImageData) (c : Copying) (e f : EngineData) (a m : RamState) → ReadyFor v c e f a m → Few e → e.counts.misses ≤ e.counts.services →
    Few (brought_data f c.block c.slot (length_at v c.block) (length_at v c.block - c.done))
filled_few v c e f a m r few misses =
    let w = needs_own v c e f a m r in
    let services : f.counts.services ≡ e.counts.services = ap (λ (x : Counts). x.services) r.counts_are in
    let missed' : f.counts.misses ≡ e.counts.misses = ap (λ (x : Counts). x.misses) r.counts_are in
    let links : f.counts.links ≡ e.counts.links = ap (λ (x : Counts). x.links) r.counts_are in
    let copied : f.counts.copied ≡ e.counts.copied = ap (λ (x : Counts). x.copied) r.counts_are in record {
      misses_few = omega (arith, services, missed', misses);
      unbooted = λ s. absurd (no_end f.queue c.slot s);
      copied_few = omega (arith, copied, missed', few.copied_few, w.long);
      evictions_few = omega (arith, missed', few.evictions_few, r.evicts_one, r.words_stay);
      links_few = omega (arith, links, services, few.links_few);
      unlinks_few = omega (arith, links, few.unlinks_few, r.links_few);
      copies_few = omega (arith, few.copies_few, r.words_stay, r.copies_stay);
      queue_few = omega (arith, missed', few.queue_few, r.queue_few, r.copies_stay, length_push f.queue c.slot);
      words_few = omega (arith, few.words_few, r.words_stay);
      services_few = omega (arith, services, few.services_few);
    }
  where
    no_end : (xs : List ℕ) (x : ℕ) → xs ++ x ∷ [] ≡ [] → ⊥
    no_end [] x s = cc
    no_end (y ∷ ys) x s = cc

-- two links that the record tells alike are one
same_joint : (e : EngineData) (v : ImageData) (words : List ℕ) (j k : Joint) → Standing e v words → Has e.joints j → Has e.joints k → link_of k ≡ link_of j → k ≡ j
same_joint e v words j k stands h h' is =
    let at : k.at ≡ j.at = same_at e v words j k stands h h' (ap (λ (l : Link). same_link l (link_of j)) is ∙ same_same (link_of j)) in
    let block : k.block ≡ j.block = ap (λ (l : Link). l.block) is in
    let offset : k.offset ≡ j.offset = ap (λ (l : Link). l.offset) is in
    let into : k.into ≡ j.into = ap (λ (l : Link). l.into) is in
    parts k.block j.block k.offset j.offset k.at j.at k.into j.into block offset at into
  where
    parts : (b b' o o' i i' t t' : ℕ) → b ≡ b' → o ≡ o' → i ≡ i' → t ≡ t' → let x : Joint = record { block = b; offset = o; at = i; into = t } in let y : Joint = record { block = b'; offset = o'; at = i'; into = t' } in x ≡ y
    parts b b' o o' i i' t t' p q r s = rw (p, q, r, s) refl

gone_link : (e f : EngineData) (v : ImageData) (words : List ℕ) (j : Joint) → Standing e v words → ((k : Joint) → Has f.joints k → Has e.joints k) → Has e.joints j → (Has f.joints j → ⊥) → has_link (kept_by f).links (link_of j) ≡ false
gone_link e f v words j stands left h none = false_from_ne_true _ (λ (is : has_link (kept_by f).links (link_of j) ≡ true).
    let w = in_joints f.joints (link_of j) is in
    none (subst (λ (x : Joint). Has f.joints x) (same_joint e v words j w.0 stands h (left w.0 w.1) w.2) w.1))

-- a word that changed where a link was undone
link_gone : (v : ImageData) (e f : EngineData) (new : Record) (words : List ℕ) (i : ℕ) (j : Joint) → Standing e v words → ((k : Joint) → Has f.joints k → Has e.joints k) → new.links ≡ (kept_by f).links → Has e.joints j → (Has f.joints j → ⊥) → j.at ≡ i → LinkChanged (kept_by e) new i
unfolding Placed
link_gone v e f new words i j stands left links h none at =
    let s = stands.linked j h in record {
      link = link_of j;
      first = s.home * e.size;
      stood = inl (subst (λ (b : ℕ). Placed (kept_by e) b (s.home * e.size)) s.home_is (slot_placed e s.home s.home_queued));
      changed = λ same. both_ways _ (ap (λ (ls : List Link). has_link ls (link_of j)) links ∙ gone_link e f v words j stands left h none) (sym same ∙ joint_in e.joints j h);
      index = sym at ∙ s.index;
    }

-- a placed block's slot after the block has come
after_slot : (f : EngineData) (b slot long missing c first : ℕ) → (Has f.queue slot → ⊥) → slot < length f.blocks → Placed (kept_by (brought_data f b slot long missing)) c first →
    ((n : ℕ) × Has f.queue n × (slice_index f.blocks n ≡ c) × (n * f.size ≡ first)) ⊎ ((b ≡ c) × (slot * f.size ≡ first))
after_slot f b slot long missing c first free lt h =
    let w = placed_slot (brought_data f b slot long missing) c first h in
    elim (has_last f.queue slot w.0 w.1) [
      | inl old ↦ inl (w.0, old, sym (get_or-set_other f.blocks slot w.0 b 0 (λ (s : w.0 ≡ slot). free (subst (λ (x : ℕ). Has f.queue x) s old))) ∙ w.2, w.3)
      | inr new ↦ inr (sym (get_or-set_same f.blocks slot b 0 lt) ∙ ap (λ (x : ℕ). slice_index (slice_set f.blocks slot b) x) new ∙ w.2, ap (λ (x : ℕ). x * f.size) new ∙ w.3)
    ]

same_row : (n m size : ℕ) → 2 ≤ size → n * size ≡ m * size → n ≡ m
same_row n m size le is = (same_from_place n 0 m 0 size (omega (arith, le)) (omega (arith, le)) (ap (λ (x : ℕ). x + 0) is)).0

-- a link that is gone, and whose block stays, is an exit again
back_again : (v : ImageData) (c : Copying) (e f : EngineData) (a m d : RamState) (missing : ℕ) → Standing e v a.words → IsAbsent e c.block → ReadyFor v c e f a m → CopiedOn v c.block (c.slot * f.size) c.done (length_at v c.block) m d →
    (j : Joint) (first : ℕ) → Has e.joints j → (Has f.joints j → ⊥) → Placed (kept_by e) j.block first → Placed (kept_by (brought_data f c.block c.slot (length_at v c.block) missing)) j.block first →
    slice_index d.words (first + j.offset) ≡ ebreak
back_again v c e f a m d missing stands absent r copied j first h none was is =
    let need = needs_own v c e f a m r in
    let old = placed_slot e j.block first was in
    let s = stands.linked j h in
    let size = size_same v c e f a m r in
    let at : j.at ≡ old.0 * e.size + j.offset = joint_at e v a.words j old.0 stands s old.1 old.2 in
    let inside : j.offset < f.size = omega (arith, size, joint_inside e v a.words j stands s) in
    let short = copy_short (record f { copy = Some c }) v m.words c r.stands (copy_stands v c e f a m r) in
    elim (after_slot f c.block c.slot (length_at v c.block) missing j.block first need.free (omega (arith, need.slot, r.stands.shape.blocks_long)) is) [
      | inr new ↦ absurd (absent old.0 old.1 (old.2 ∙ sym new.0))
      | inl stays ↦ (
          let kept : slice_index e.blocks stays.0 ≡ j.block = ap (λ (bs : List ℕ). slice_index bs stays.0) (sym r.blocks_stay) ∙ stays.2 in
          let here : first + j.offset ≡ stays.0 * f.size + j.offset = ap (λ (x : ℕ). x + j.offset) (sym stays.3) in
          let there : first + j.offset ≡ j.at = ap (λ (x : ℕ). x + j.offset) (sym old.3) ∙ sym at in
          elim (r.gone j h) [
            | inl left ↦ absurd (none left)
            | inr (inr gone) ↦ absurd (gone stays.0 stays.1 kept)
            | inr (inl back) ↦ (ap (λ (i : ℕ). slice_index d.words i) here
                ∙ other_slot v c.block f.size c m d copied short stays.0 j.offset (λ (x : stays.0 ≡ c.slot). need.free (subst (λ (y : ℕ). Has f.queue y) x stays.1)) inside
                ∙ ap (λ (i : ℕ). slice_index m.words i) (sym here ∙ there) ∙ back)
          ])
    ]

-- which words have changed
filled_words : (v : ImageData) (c : Copying) (e f : EngineData) (a m d : RamState) (missing : ℕ) → Standing e v a.words → IsAbsent e c.block → ReadyFor v c (counted_data e) f a m → CopiedOn v c.block (c.slot * f.size) c.done (length_at v c.block) m d →
    WordsMove v (kept_by e) (kept_by (brought_data f c.block c.slot (length_at v c.block) missing)) a d
unfolding Placed
filled_words v c e f a m d missing stands absent r copied = record {
  changes = λ i. elim (cases_lt i (c.slot * f.size + c.done)) [
    | inl below ↦ older i (copied.below i below)
    | inr from ↦ elim (cases_lt i (c.slot * f.size + length_at v c.block)) [
      | inl inside ↦ inr (inl (record {
        block = c.block;
        first = c.slot * f.size;
        offset = i - c.slot * f.size;
        stands = subst (λ (b : ℕ). Placed (kept_by (brought_data f c.block c.slot (length_at v c.block) missing)) b (c.slot * f.size))
            (get_or-set_same f.blocks c.slot c.block 0 (omega (arith, need.slot, r.stands.shape.blocks_long)))
            (slot_placed (brought_data f c.block c.slot (length_at v c.block) missing) c.slot (has_here f.queue c.slot));
        is_new = λ h. (let w = placed_slot e c.block (c.slot * f.size) h in absent w.0 w.1 w.2);
        inside = omega (arith, inside, from);
        index = omega (arith, from);
      }))
      | inr past ↦ older i (copied.wrote.spared.beyond i past)
    ]
  ];
  restored = λ k first was is h h'.
      let w = in_joints e.joints k was in
      let link : link_of w.0 ≡ k = w.2 in
      let gone : Has f.joints w.0 → ⊥ = λ has. both_ways _ is (subst (λ (l : Link). has_link (kept_by f).links l ≡ true) link (joint_in f.joints w.0 has)) in
      subst (λ (l : Link). slice_index d.words (first + l.offset) ≡ ebreak) link
      (back_again v c (counted_data e) f a m d missing (recounted e v a.words _ e.words e.copies stands) absent r copied w.0 first w.1 gone
      (subst (λ (l : Link). Has (kept_by e).placed (record { program = l.program; block = l.block; first = first })) (sym link) h)
      (subst (λ (l : Link). Has (kept_by (brought_data f c.block c.slot (length_at v c.block) missing)).placed (record { program = l.program; block = l.block; first = first })) (sym link) h'));
}
  where
    need : Needs v c.block c f m.words
    need = needs_own v c (counted_data e) f a m r

    older : (i : ℕ) → slice_index d.words i ≡ slice_index m.words i →
        (slice_index d.words i ≡ slice_index a.words i) ⊎ (NewlyPlaced v (kept_by e) (kept_by (brought_data f c.block c.slot (length_at v c.block) missing)) i ⊎ LinkChanged (kept_by e) (kept_by (brought_data f c.block c.slot (length_at v c.block) missing)) i)
    older i same = elim (r.words i) [
      | inl w ↦ inl (same ∙ w)
      | inr w ↦ inr (inr (link_gone v e f _ a.words i w.0 stands r.joints_left refl w.1 w.2 w.3))
    ]

-- no more misses than services, once the service is counted
pub misses_most : (e : EngineData) → Few e → (counted_data e).counts.misses ≤ (counted_data e).counts.services
misses_most e few = by_queue e.queue few.unbooted few.misses_few
  where
    by_queue : (ns : List ℕ) → (ns ≡ [] → e.counts.misses ≡ 0) → e.counts.misses ≤ e.counts.services + 1 → e.counts.misses ≤ e.counts.services + more_service ns
    by_queue [] none le = omega (arith, none refl)
    by_queue (n ∷ ns) none le = omega (arith, le)

-- the block has arrived
own_arrived : (v : ImageData) (c : Copying) (e f : EngineData) (a m d : RamState) → EngineSound e v a.words → e.counts.services < 2 ^ 50 → IsAbsent e c.block → ReadyFor v c (counted_data e) f a m → CopiedOn v c.block (c.slot * f.size) c.done (length_at v c.block) m d →
    Arrived v c.block c.slot e (brought_data f c.block c.slot (length_at v c.block) (length_at v c.block - c.done)) a d
own_arrived v c e f a m d sound lt absent r copied =
    let need = needs_own v c (counted_data e) f a m r in
    let size = size_same v c (counted_data e) f a m r in
    let slots = slots_same v c (counted_data e) f a m r in
    let services : f.counts.services ≡ e.counts.services + more_service e.queue = ap (λ (x : Counts). x.services) r.counts_are in
    let links : f.counts.links ≡ e.counts.links = ap (λ (x : Counts). x.links) r.counts_are in
    let were : f.counts.copied ≡ e.counts.copied = ap (λ (x : Counts). x.copied) r.counts_are in
    let spans : f.slots * f.size ≡ e.slots * e.size = ap (λ (s : Setting). span_of s) r.setting_stays in
    let blocks_long : c.slot < length f.blocks = omega (arith, need.slot, r.stands.shape.blocks_long) in
    record {
      moves = filled_moves v c e f a m absent r;
      sound = record {
        stands = recounted _ v d.words _ f.words f.copies (block_stands v c (counted_data e) f a m d r copied);
        few = filled_few v c (counted_data e) f a m r (counted_sound e v a.words sound lt).few (misses_most e sound.few);
      };
      setting_stays = r.setting_stays;
      stands = has_here f.queue c.slot;
      block_is = get_or-set_same f.blocks c.slot c.block 0 blocks_long;
      older = λ n b h is k h' is'. elim (has_last f.queue c.slot k h') [
        | inl old ↦ sound.stands.distinct k n (r.fewer k old) h
            (ap (λ (bs : List ℕ). slice_index bs k) (sym r.blocks_stay) ∙ sym (get_or-set_other f.blocks c.slot k c.block 0 (λ (s : k ≡ c.slot). need.free (subst (λ (x : ℕ). Has f.queue x) s old))) ∙ is' ∙ sym is)
        | inr new ↦ absurd (absent n h (is ∙ sym is' ∙ ap (λ (x : ℕ). slice_index (slice_set f.blocks c.slot c.block) x) (sym new) ∙ get_or-set_same f.blocks c.slot c.block 0 blocks_long))
      ];
      joints_left = r.joints_left;
      wrote = subst (λ (k : ℕ). Wrote (e.slots * e.size) k a d) (omega (arith, links, were, r.later))
          (wrote_more (e.slots * e.size) (e.slots * e.size) _ (length_at v c.block - c.done) a m d r.wrote (wrote_wider _ (e.slots * e.size) (length_at v c.block - c.done) m d copied.wrote (omega (arith, need.row, spans))) (omega arith));
      written = omega (arith, links, were, r.later);
      links_stay = links;
      services_are = services;
      words = filled_words v c e f a m d _ sound.stands absent r copied;
    }

pub fill_arrived : (v : ImageData) (b n : ℕ) (e t : EngineData) (a d : RamState) → EngineSound e v a.words → e.counts.services < 2 ^ 50 → IsAbsent e b → Filled v b n (counted_data e) t a d → Arrived v b n e t a d
fill_arrived v b n e t a d sound lt absent x =
    let c : Copying = x.copy in
    let size = ap (λ (s : Setting). s.slot_words) x.ready.setting_stays in
    let whole : Arrived v x.copy.block x.copy.slot e (brought_data x.room x.copy.block x.copy.slot (length_at v x.copy.block) (length_at v x.copy.block - x.copy.done)) a d =
    own_arrived v x.copy e x.room a x.between d sound lt (subst (λ (y : ℕ). IsAbsent e y) (sym x.ready.is_block) absent)
    (subst (λ (y : ℕ). Ready v y x.copy (counted_data e) x.room a x.between) (sym x.ready.is_block) x.ready)
    (subst (λ (s : ℕ). CopiedOn v x.copy.block (x.copy.slot * s) x.copy.done (length_at v x.copy.block) x.between d) (sym size)
    (subst (λ (y : ℕ). CopiedOn v y (x.copy.slot * e.size) x.copy.done (length_at v y) x.between d) (sym x.ready.is_block) x.copied)) in
    subst (λ (u : EngineData). Arrived v b n e u a d) (sym x.settles)
    (subst (λ (s : ℕ). Arrived v b s e (brought_data x.room b x.copy.slot (length_at v b) (length_at v b - x.copy.done)) a d) (sym x.slot)
    (subst (λ (y : ℕ). Arrived v y x.copy.slot e (brought_data x.room y x.copy.slot (length_at v y) (length_at v y - x.copy.done)) a d) x.ready.is_block whole))

-- the block stood
pub hit_arrived : (v : ImageData) (b n : ℕ) (e : EngineData) (a : RamState) → EngineSound e v a.words → e.counts.services < 2 ^ 50 → Has e.queue n → slice_index e.blocks n ≡ b → Arrived v b n e (counted_data e) a a
unfolding arrived
hit_arrived v b n e a sound lt h is =
    let stands : is_placed (counted (kept_by e)) b ≡ true = subst (λ (x : Record). is_placed x b ≡ true) (counted_kept e) (stands_placed (counted_data e) b n h is) in record {
      moves = counted_kept e ∙ sym (rw stands refl);
      sound = counted_sound e v a.words sound lt;
      setting_stays = refl;
      stands = h;
      block_is = is;
      older = λ m c hm im k hk ik. sound.stands.distinct k m hk hm (ik ∙ sym im);
      joints_left = λ j has. has;
      wrote = subst (λ (k : ℕ). Wrote (e.slots * e.size) k a a) (omega arith) (wrote_none (e.slots * e.size) a);
      written = omega arith;
      links_stay = refl;
      services_are = refl;
      words = record { changes = λ i. inl refl; restored = λ k f was now p p'. absurd (both_ways _ now was) };
    }

-- as the code meets them
pub miss_result : {E : Type 0} (r : Result ℕ E) (v : ImageData) (e e' t : EngineData) (b : ℕ) (a d : RamState) → e' ≡ counted_data e → EngineSound e v a.words → e.counts.services < 2 ^ 50 → IsAbsent e' b → IfOk r (λ n. Filled v b n e' t a d) →
    IfOk r (λ n. Arrived v b n e t a d)
miss_result (Err x) v e e' t b a d is sound lt absent filled = tt
miss_result (Ok n) v e e' t b a d is sound lt absent filled =
    fill_arrived v b n e t a d sound lt (subst (λ (x : EngineData). IsAbsent x b) is absent) (subst (λ (x : EngineData). Filled v b n x t a d) is filled)

pub hit_call : (v : ImageData) (e t : EngineData) (b n : ℕ) (a : RamState) → t ≡ counted_data e → EngineSound e v a.words → e.counts.services < 2 ^ 50 → Has t.queue n × (slice_index t.blocks n ≡ b) → Arrived v b n e t a a
hit_call v e t b n a is sound lt found =
    let w : Has e.queue n × (slice_index e.blocks n ≡ b) = subst (λ (x : EngineData). Has x.queue n × (slice_index x.blocks n ≡ b)) is found in
    subst (λ (x : EngineData). Arrived v b n e x a a) (sym is) (hit_arrived v b n e a sound lt w.0 w.1)

-- a service is counted
pub counted_few : (e t : EngineData) (v : ImageData) (words : List ℕ) → t ≡ counted_data e → EngineSound e v words → e.counts.services < 2 ^ 50 → EngineSound t v words × (t.counts.misses ≤ t.counts.services)
counted_few e t v words is sound lt = subst (λ (x : EngineData). EngineSound x v words × (x.counts.misses ≤ x.counts.services)) (sym is) (counted_sound e v words sound lt, misses_most e sound.few)

-- the ram failed while the block was copied
pub fill_fault : (v : ImageData) (b long : ℕ) (c : Copying) (e f g : EngineData) (a m d : RamState) → f ≡ g → Ready v b c e g a m → long ≡ length_at v b → FailedBelow (c.slot * f.size + long) m d → FailedBelow (e.slots * e.size) a d
fill_fault v b long c e f g a m d is r size failed =
    let need = needs v b c e g a m r in
    let spans : g.slots * g.size ≡ e.slots * e.size = ap (λ (s : Setting). span_of s) r.setting_stays in
    let same : f.size ≡ g.size = ap (λ (x : EngineData). x.size) is in
    let row : c.slot * f.size + long ≤ e.slots * e.size = subst (λ (s : ℕ). c.slot * s + long ≤ e.slots * e.size) (sym same) (omega (arith, need.row, spans, size)) in
    failed_more (e.slots * e.size) (e.slots * e.size) _ a m d r.wrote (failed_wider (c.slot * f.size + long) (e.slots * e.size) m d failed row) (omega arith)

-- the block that is found stood, and a service is counted
pub hit_now : (v : ImageData) (e t : EngineData) (b n : ℕ) (a : RamState) → t ≡ counted_data e → EngineSound e v a.words → e.counts.services < 2 ^ 50 → Has e.queue n × (slice_index e.blocks n ≡ b) → Arrived v b n e t a a
hit_now v e t b n a is sound lt found = subst (λ (x : EngineData). Arrived v b n e x a a) (sym is) (hit_arrived v b n e a sound lt found.0 found.1)
