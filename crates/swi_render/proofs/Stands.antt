-- Where the slots of a text word stand in its block.
use Rattle.std.proofs.Common.{◌≡◌, ◌==◌, ℕ, ◌+◌, ◌-◌, ◌*◌, ◌<◌, ◌≤◌, zero, suc, List, [], ◌∷◌, ◌++◌, length, get_or, drop, arith, refl, ap, ◌∙◌, sym, subst, true, inl, inr, if◌then◌else◌, length-append, take-take}
use Rattle.std.proofs.Math.ListN.{get_or-append}
use Rattle.std.proofs.Math.Seq.{get_or-append_right}
use Rattle.std.proofs.lemmas.List.{take-append-drop}
use Rattle.std.proofs.lemmas.Bool.{cases_Bool}
use Rattle.swi_program.specs.Text.{TextData}
use Rattle.swi_image.specs.Words.{part}
use Rattle.swi_image.specs.Format.{ImageData}
use Rattle.swi_render.specs.Rendering.{Slot, fall_exit}
use Rattle.swi_render.specs.ImageOf.{address_of, rendering_at, falls_at, renderings, block_between, renderings_between, offset_in, pad, pads, filled}
use Rattle.swi_render.specs.Among.{StandIn}
use Rattle.swi_render.proofs.Runs.{renderings_append, renderings_next, offset_next, offset_up, block_parts, block_falls}

-- what fills a block

pub filled_front : (v : ImageData) (ss : List Slot) (o : ℕ) → o < length ss → get_or (filled v ss) o pad ≡ get_or ss o pad
filled_front v ss o within = elim (cases_Bool (v.version == 1)) [
  | inl one ↦ rw one (get_or-append ss (pads (v.block_words - length ss)) pad o within)
  | inr two ↦ rw two refl
]

get_pads : (n o : ℕ) → get_or (pads n) o pad ≡ pad
unfolding pads
get_pads zero o = refl
get_pads (suc n) zero = refl
get_pads (suc n) (suc o) = get_pads n o

past_end : (ss : List Slot) (o : ℕ) → length ss ≤ o → get_or ss o pad ≡ pad
past_end [] o far = refl
past_end (s ∷ ss) zero far = absurd (omega arith)
past_end (s ∷ ss) (suc o) far = past_end ss o (omega arith)

pub filled_behind : (v : ImageData) (ss : List Slot) (o : ℕ) → length ss ≤ o → get_or (filled v ss) o pad ≡ pad
filled_behind v ss o far = elim (cases_Bool (v.version == 1)) [
  | inl one ↦ rw one (get_or-append_right ss (pads (v.block_words - length ss)) o pad far ∙ get_pads (v.block_words - length ss) (o - length ss))
  | inr two ↦ rw two (past_end ss o far)
]

length_pads : (n : ℕ) → length (pads n) ≡ n
unfolding pads
length_pads zero = refl
length_pads (suc n) = rw (length_pads n) refl

pub filled_one : (v : ImageData) (ss : List Slot) → v.version ≡ 1 → length ss ≤ v.block_words → length (filled v ss) ≡ v.block_words
filled_one v ss one fits = rw one (omega (arith, length-append ss (pads (v.block_words - length ss)), length_pads (v.block_words - length ss)))

pub filled_two : (v : ImageData) (ss : List Slot) → v.version ≡ 2 → filled v ss ≡ ss
filled_two v ss two = rw two refl

pub filled_longer : (v : ImageData) (ss : List Slot) → length ss ≤ length (filled v ss)
filled_longer v ss = elim (cases_Bool (v.version == 1)) [
  | inl one ↦ rw one (omega (arith, length-append ss (pads (v.block_words - length ss))))
  | inr two ↦ rw two (omega arith)
]

-- the renderings of the first words, and the rest
front : (t : TextData) (first k end : ℕ) → first ≤ k → k ≤ end →
    renderings_between t first end ≡ renderings_between t first k ++ renderings (t.base + 4 * first + 4 * length (part first (k - first) t.words)) (drop (k - first) (part first (end - first) t.words))
front t first k end low high =
    let rest : List ℕ = drop (k - first) (part first (end - first) t.words) in
    let split : part first (end - first) t.words ≡ part first (k - first) t.words ++ rest =
    sym (take-append-drop (k - first) (part first (end - first) t.words)) ∙ ap (λ (l : List ℕ). l ++ rest) (take-take (k - first) (end - first) (drop first t.words) (omega arith)) in
    ap (renderings (t.base + 4 * first)) split ∙ renderings_append (t.base + 4 * first) (part first (k - first) t.words) rest

front_get : (t : TextData) (first k end i : ℕ) → first ≤ k → k ≤ end → i < offset_in t first k → get_or (renderings_between t first end) i pad ≡ get_or (renderings_between t first k) i pad
front_get t first k end i low high within =
    ap (λ (l : List Slot). get_or l i pad) (front t first k end low high)
    ∙ get_or-append (renderings_between t first k) (renderings (t.base + 4 * first + 4 * length (part first (k - first) t.words)) (drop (k - first) (part first (end - first) t.words))) pad i within

-- the rendering of text word k among those of a block
stands_among : (t : TextData) (first k end : ℕ) (ss : List Slot) → first ≤ k → k < end → end ≤ length t.words → StandIn ss (renderings_between t first end) 0 →
    StandIn ss (rendering_at t k) (offset_in t first k)
stands_among t first k end ss low high within s =
    let r : List Slot = rendering_at t k in
    let next = offset_next t first k low (omega arith) in
    let all = offset_up t first (k + 1) end (omega arith) (omega arith) within in
    record {
      fits = omega (arith, s.fits);
      each = λ j inside.
          let i : ℕ = offset_in t first k + j in
          let there : get_or ss (0 + i) pad ≡ get_or (renderings_between t first end) i pad = s.each i (omega arith) in
          let on : 0 + i ≡ i = omega arith in
          let here : get_or (renderings_between t first end) i pad ≡ get_or (renderings_between t first (k + 1)) i pad = front_get t first (k + 1) end i (omega arith) (omega arith) (omega arith) in
          let both : get_or (renderings_between t first (k + 1)) i pad ≡ get_or (renderings_between t first k ++ r) i pad = ap (λ (l : List Slot). get_or l i pad) (renderings_next t first k low (omega arith)) in
          let right : get_or (renderings_between t first k ++ r) i pad ≡ get_or r (i - offset_in t first k) pad = get_or-append_right (renderings_between t first k) r i pad (omega arith) in
          let back : i - offset_in t first k ≡ j = omega arith in
          (rw on at there) ∙ (here ∙ (both ∙ (rw back at right)));
    }

-- the renderings stand at the front of their block
stands_renderings : (t : TextData) (v : ImageData) (first end : ℕ) → first < end → end ≤ length t.words → StandIn (filled v (block_between t first end)) (renderings_between t first end) 0
stands_renderings t v first end some within =
    let exit : List Slot = if falls_at t (end - 1) then fall_exit (address_of t (end - 1)) else [] in
    let parts = block_parts t first end some within in
    let size : length (block_between t first end) ≡ offset_in t first end + length exit = ap length parts ∙ length-append (renderings_between t first end) exit in
    record {
      fits = omega (arith, filled_longer v (block_between t first end));
      each = λ j inside.
          let on : 0 + j ≡ j = omega arith in
          rw on (filled_front v (block_between t first end) j (omega arith) ∙ (ap (λ (l : List Slot). get_or l j pad) parts ∙ get_or-append (renderings_between t first end) exit pad j inside));
    }

-- the rendering of text word k stands at its offset
pub stands_word : (t : TextData) (v : ImageData) (first k end from : ℕ) → from ≡ offset_in t first k → first ≤ k → k < end → end ≤ length t.words →
    StandIn (filled v (block_between t first end)) (rendering_at t k) from
stands_word t v first k end from is low high within =
    let ss : List Slot = filled v (block_between t first end) in
    subst (λ (n : ℕ). StandIn ss (rendering_at t k) n) (sym is)
    (stands_among t first k end ss low high within (stands_renderings t v first end (omega arith) within))

-- and the exit behind the last of them
pub stands_exit : (t : TextData) (v : ImageData) (first end a from : ℕ) → from ≡ offset_in t first end → first < end → end ≤ length t.words → falls_at t (end - 1) ≡ true → a ≡ address_of t (end - 1) →
    StandIn (filled v (block_between t first end)) (fall_exit a) from
stands_exit t v first end a from at_end some within on is =
    let ss : List Slot = block_between t first end in
    let parts : ss ≡ renderings_between t first end ++ fall_exit a = block_falls t first end a some within on is in
    let size : length ss ≡ offset_in t first end + 2 = ap length parts ∙ length-append (renderings_between t first end) (fall_exit a) in
    record {
      fits = omega (arith, filled_longer v ss);
      each = λ j inside.
          let back : from + j - offset_in t first end ≡ j = omega arith in
          filled_front v ss (from + j) (omega arith)
          ∙ (ap (λ (l : List Slot). get_or l (from + j) pad) parts
          ∙ (rw back at (get_or-append_right (renderings_between t first end) (fall_exit a) (from + j) pad (omega arith))));
    }
