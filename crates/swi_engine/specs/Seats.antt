-- The record of the service, by its slots and links.
use Rattle.std.proofs.Common.{◌≡◌, ℕ, ◌+◌, ◌*◌, ◌<◌, ◌≤◌, true, List, [], ◌∷◌, map, slice_index, arith, refl, sym, ◌∙◌, ap, subst, inl, inr}
use Rattle.std.proofs.lemmas.Bool.{or_cases, or_right, or_left, both_ways}
use Rattle.std.proofs.lemmas.Nat.{row_fits}
use Rattle.swi_image.specs.Format.{ImageData}
use Rattle.swi_image.specs.Place.{length_at}
use Rattle.swi_rom.specs.Record.{Link, Placement, Has, Placed, has_link, is_linked, same_link}
use Rattle.swi_rom.specs.Links.{same_is, has_none, has_next, same_same, among_has, has_among}
use Rattle.swi_rom.specs.Blocks.{block_short}
use Rattle.swi_engine.specs.declared.joints.Joint.{Joint}
use Rattle.swi_engine.specs.State.{EngineData, kept_by, spot, link_of}
use Rattle.swi_engine.specs.Sound.{Standing, JointStands, InShape}

pub has_map : {X Y : Type 0} (g : X → Y) (xs : List X) (x : X) → Has xs x → Has (map g xs) (g x)
has_map g [] x h = absurd h
has_map g (y ∷ ys) x (inl e) = inl (ap g e)
has_map g (y ∷ ys) x (inr h) = inr (has_map g ys x h)

pub map_has : {X Y : Type 0} (g : X → Y) (xs : List X) (y : Y) → Has (map g xs) y → (x : X) × Has xs x × (g x ≡ y)
map_has g [] y h = absurd h
map_has g (x ∷ xs) y (inl e) = (x, inl refl, e)
map_has g (x ∷ xs) y (inr h) = let w = map_has g xs y h in (w.0, inr w.1, w.2)

-- a placed block stands in a slot of the queue, and the other way round
pub placed_slot : (e : EngineData) (b f : ℕ) → Placed (kept_by e) b f → (n : ℕ) × Has e.queue n × (slice_index e.blocks n ≡ b) × (n * e.size ≡ f)
unfolding Placed
placed_slot e b f h =
    let w = map_has (λ (n : ℕ). spot e.size e.blocks n) e.queue (record { program = 0; block = b; first = f }) h in
    (w.0, w.1, ap (λ (p : Placement). p.block) w.2, ap (λ (p : Placement). p.first) w.2)

pub slot_placed : (e : EngineData) (n : ℕ) → Has e.queue n → Placed (kept_by e) (slice_index e.blocks n) (n * e.size)
unfolding Placed
slot_placed e n h = has_map (λ (n : ℕ). spot e.size e.blocks n) e.queue n h

pub joint_in : (js : List Joint) (j : Joint) → Has js j → has_link (map (λ k. link_of k) js) (link_of j) ≡ true
joint_in [] j h = absurd h
joint_in (k ∷ ks) j (inl e) = has_next (link_of j) (link_of k) (map (λ k. link_of k) ks) ∙ or_left _ _ (ap (λ (l : Joint). same_link (link_of j) (link_of l)) e ∙ same_same (link_of j))
joint_in (k ∷ ks) j (inr h) = has_next (link_of j) (link_of k) (map (λ k. link_of k) ks) ∙ or_right _ _ (joint_in ks j h)

pub in_joints : (js : List Joint) (l : Link) → has_link (map (λ k. link_of k) js) l ≡ true → (j : Joint) × Has js j × (link_of j ≡ l)
in_joints [] l h = absurd (both_ways (has_link [] l) (has_none l) h)
in_joints (k ∷ ks) l h = elim (or_cases _ _ (sym (has_next l (link_of k) (map (λ k. link_of k) ks)) ∙ h)) [
  | inl s ↦ (k, inl refl, sym (same_is l (link_of k) s))
  | inr i ↦ (let w = in_joints ks l i in (w.0, inr w.1, w.2))
]

-- a link of the record is one of the service, and the other way round
pub linked_joint : (e : EngineData) (b o : ℕ) → is_linked (kept_by e) b o ≡ true → (j : Joint) × Has e.joints j × (j.block ≡ b) × (j.offset ≡ o)
linked_joint e b o h =
    let l = among_has (map (λ j. link_of j) e.joints) 0 b o h in
    let w = in_joints e.joints l.link l.has in
    (w.0, w.1, ap (λ (l : Link). l.block) w.2 ∙ l.block, ap (λ (l : Link). l.offset) w.2 ∙ l.offset)

pub joint_linked : (e : EngineData) (j : Joint) → Has e.joints j → is_linked (kept_by e) j.block j.offset ≡ true
joint_linked e j h = has_among (map (λ j. link_of j) e.joints) (link_of j) (joint_in e.joints j h)

pub length_most : (e : EngineData) (v : ImageData) (words : List ℕ) (n : ℕ) → Standing e v words → Has e.queue n → length_at v (slice_index e.blocks n) ≤ e.size
length_most e v words n sound h = omega (arith, block_short v (slice_index e.blocks n) sound.image (sound.known n h), sound.holds_block)

pub slot_within : (e : EngineData) (n : ℕ) → InShape e → n < e.slots → n * e.size + e.size ≤ e.slots * e.size
slot_within e n shape lt = row_fits n e.size e.slots e.size lt (omega arith)

-- the offset of a link lies within its block
pub joint_inside : (e : EngineData) (v : ImageData) (words : List ℕ) (j : Joint) → Standing e v words → (s : JointStands e v words j) → j.offset < e.size
joint_inside e v words j sound s =
    omega (arith, s.is_exit.inside, subst (λ (b : ℕ). length_at v b ≤ e.size) s.home_is (length_most e v words s.home sound s.home_queued))

-- where a link of a placed block stands
pub joint_home : (e : EngineData) (v : ImageData) (words : List ℕ) (j : Joint) (n : ℕ) → Standing e v words → (s : JointStands e v words j) → Has e.queue n → slice_index e.blocks n ≡ j.block → s.home ≡ n
joint_home e v words j n sound s h is = sound.distinct s.home n s.home_queued h (s.home_is ∙ sym is)

pub joint_at : (e : EngineData) (v : ImageData) (words : List ℕ) (j : Joint) (n : ℕ) → Standing e v words → JointStands e v words j → Has e.queue n → slice_index e.blocks n ≡ j.block → j.at ≡ n * e.size + j.offset
joint_at e v words j n sound s h is = s.index ∙ ap (λ (m : ℕ). m * e.size + j.offset) (joint_home e v words j n sound s h is)

-- at one word one link stands
pub joint_below : (e : EngineData) (v : ImageData) (words : List ℕ) (j : Joint) → Standing e v words → JointStands e v words j → j.at < e.slots * e.size
joint_below e v words j sound s = omega (arith, s.index, slot_within e s.home sound.shape (sound.shape.below s.home s.home_queued), joint_inside e v words j sound s)
