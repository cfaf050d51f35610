-- An exit becomes a link: what the chip's lists and words are then stands for what the model says.
use Rattle.std.proofs.Common.{◌≡◌, ◌⊎◌, ◌&&◌, ℕ, ◌+◌, ◌-◌, ◌*◌, ◌/◌, ◌%◌, ◌^◌, ◌<◌, ◌≤◌, Bool, true, eqb, List, [], ◌∷◌, length, slice_index, slice_set, bit_and, Some, arith, refl, sym, ◌∙◌, ap, subst, inl, inr}
use Rattle.std.proofs.lemmas.Bool.{cases_eq, and_parts, eqb-true, eq-eqb}
use Rattle.std.proofs.lemmas.List.{length-set, get_or-set_same, get_or-set_other}
use Rattle.std.proofs.lemmas.Nat.{and_mask}
use Rattle.swi_isa.specs.declared.instr.Instr.{Instr}
use Rattle.swi_isa.specs.declared.instr.Instr.TheVariants as instr
use Rattle.swi_isa.specs.Decode.{decoded}
use Rattle.swi_isa.specs.Table.{Form, Jal, Row, made, imm_j, rd_of}
use Rattle.swi_isa.specs.Laws.{Found, found}
use Rattle.swi_rom.specs.Record.{ebreak, IsJump, jump_offset}
use Rattle.swi_rom.specs.Coherent.{IsExit}
use Rattle.swi_links.specs.Chains.{Has}
use Rattle.swi_links.proofs.Numbers.{distinct_fewer}
use Rattle.swi_slots.specs.Slots.{Slots}
use Rattle.swi_slots.specs.Keys.{Images, owner_of, number_of, word_in}
use Rattle.swi_chip.specs.Lists.{StandIn, nexts, befores, list_at}
use Rattle.swi_chip.specs.Owned.{AreCounted, is_jump, lands_in}
use Rattle.swi_chip.specs.Linked.{ToLink, LinkedSo}
use Rattle.swi_chip.proofs.Runs.{run_inside, first_in}
use Rattle.swi_chip.proofs.Owning.{set_has, has_set_other}
use Rattle.swi_chip.proofs.Facts.{LinkAt, cell_link}
use Rattle.swi_chip.proofs.Arriving.{stands_frame}

-- ---- the word of a link

abbrev IsLinkWord : ℕ → Instr → Type 0
IsLinkWord w (instr.Jal rd off) = (w % 128 ≡ 0x6F) × (rd ≡ rd_of w) × (off ≡ imm_j w)
IsLinkWord w _ = Unit

abbrev jal_test : Form → ℕ → ℕ → Bool
jal_test Jal m v = eqb m 0x7F && eqb v 0x6F
jal_test _ m v = true

abbrev has_jal : Row → Bool
has_jal r = jal_test r.form r.mask r.value

jal_row : (f : Form) (m v w : ℕ) → jal_test f m v ≡ true → bit_and w m ≡ v → IsLinkWord w (made f w)
jal_row Jal m v w e hit =
    let parts : (eqb m 0x7F ≡ true) × (eqb v 0x6F ≡ true) = and_parts _ _ e in
    let low : bit_and w 0x7F ≡ 0x6F = ap (bit_and w) (sym (eqb-true _ _ parts.0)) ∙ hit ∙ eqb-true _ _ parts.1 in
    (sym (and_mask w 7) ∙ low, refl, refl)
jal_row _ m v w e hit = tt

link_word : (w off : ℕ) → decoded w ≡ Some (instr.Jal 0 off) → (is_jump w ≡ true) × (imm_j w ≡ off)
link_word w off is =
    let f : Found has_jal w (instr.Jal 0 off) = found has_jal w (instr.Jal 0 off) refl is in
    let k : IsLinkWord w (instr.Jal 0 off) = subst (IsLinkWord w) f.is (jal_row f.row.form f.row.mask f.row.value w f.passes f.hit) in
    let whole : w % 2 ^ 12 ≡ 0x6f = (let a = k.0 in let b = k.1 in omega (arith, a, b)) in
    (eq-eqb _ _ whole, sym k.2)

lands_at : (size at to slot w : ℕ) → at < 2 ^ 21 → to < 2 ^ 21 → imm_j w ≡ jump_offset at to → to / size ≡ slot → lands_in size at w ≡ slot
lands_at size at to slot w low low' off is =
    let sum : (4 * at + imm_j w) % 2 ^ 32 / 4 ≡ to = ap (λ (z : ℕ). (4 * at + z) % 2 ^ 32 / 4) off ∙ back at to low low' in
    ap (λ (z : ℕ). z / size) sum ∙ is
  where
    back : (at to : ℕ) → at < 2 ^ 21 → to < 2 ^ 21 → (4 * at + jump_offset at to) % 2 ^ 32 / 4 ≡ to
    back at to low low' = omega arith

-- ---- an exit is no cell

module _ {s : Slots} {vs : Images} {ram cache heads links blocks : List ℕ} {at slot to : ℕ} {lists : List (List ℕ)} (k : ToLink s vs ram cache heads links blocks at slot to lists) where
  pub exit_clear : (n : ℕ) → Has (list_at lists n) at → ⊥
  exit_clear n has =
      let a = k.holds.linked n at has in
      let pos = a.1 in
      let l : LinkAt k.serves k.holds (at - 1) = cell_link k.serves k.holds n at has in
      let e : IsExit (vs (owner_of (slice_index s.blocks l.slot))) (number_of (slice_index s.blocks l.slot)) l.offset = l.is_exit in
      let whole : l.slot * s.size + (l.offset + 1) ≡ at = (let q = l.index in omega (arith, q, pos)) in
      let free : s.slots ≤ slice_index s.targets (l.slot * s.size + (l.offset + 1)) = subst (λ (z : ℕ). s.slots ≤ slice_index s.targets z) (sym whole) k.free in
      let word : slice_index ram (l.slot * s.size + (l.offset + 1)) ≡ word_in vs (slice_index s.blocks l.slot) (l.offset + 1) = k.serves.plain l.slot (l.offset + 1) l.filled e.inside free in
      let is : word_in vs (slice_index s.blocks l.slot) (l.offset + 1) ≡ ebreak = sym word ∙ (ap (λ (z : ℕ). slice_index ram z) whole ∙ k.exit) in
      let three : word_in vs (slice_index s.blocks l.slot) (l.offset + 1) % 4 ≡ 3 = ap (λ (z : ℕ). z % 4) is in
      (let four = e.direct in omega (arith, three, four))

  pub cell_free : (n : ℕ) → Has (list_at lists n) (at + 1) → ⊥
  cell_free n has =
      let a = k.holds.linked n (at + 1) has in
      let back : at + 1 - 1 ≡ at = omega arith in
      let target : slice_index s.targets at ≡ n = ap (λ (z : ℕ). slice_index s.targets z) (sym back) ∙ a.3 in
      (let low = a.0 in let free = k.free in omega (arith, low, free, target))

  pub inside : slot < length heads
  inside = (let a = k.low in let b = k.holds.slots_are in omega (arith, a, b))

  inside_lists : slot < length lists
  inside_lists = (let a = inside in let b = k.holds.stand.long in omega (arith, a, b))

  -- there is room for one more
  pub links_fewer : slice_index links slot < length cache
  links_fewer =
      let c = k.holds.counted slot inside_lists in
      let n = distinct_fewer (list_at lists slot) (length cache) (at + 1) (k.holds.stand.distinct slot inside)
      (λ x h. (run_inside (nexts cache) (befores cache) (length cache) 0 (slice_index heads slot) x (list_at lists slot) (k.holds.stand.runs slot inside) h).1)
      (let a = k.behind in let b = k.holds.long in omega (arith, a, b)) (cell_free slot) in
      omega (arith, c, n)

  pub stands_set : (w : ℕ) → StandIn (slice_set cache at w) heads lists
  stands_set w = stands_frame cache (slice_set cache at w) heads lists k.holds.stand (length-set cache at w)
      (λ n x h. get_or-set_other cache at x w 0 (λ e. exit_clear n (subst (λ (z : ℕ). Has (list_at lists n) z) e h)))

  module _ (cache2 heads2 : List ℕ) (w : ℕ) (jumps : IsJump at to w) (st : StandIn cache2 heads2 (slice_set lists slot ((at + 1) ∷ list_at lists slot))) (long2 : length cache2 ≡ length cache) (longh : length heads2 ≡ length heads)
      (others : (i : ℕ) → (i ≡ at + 1 → ⊥) → (i ≡ slice_index heads slot → i ≡ 0) → slice_index cache2 i ≡ slice_index (slice_set cache at w) i) where
    abbrev lists2 : List (List ℕ)
    lists2 = slice_set lists slot ((at + 1) ∷ list_at lists slot)

    at_low : at < s.slots * s.size
    at_low = (let a = k.behind in omega (arith, a))

    -- a cell is the new one, or it was there
    were : (n x : ℕ) → Has (list_at lists2 n) x → ((n ≡ slot) × (x ≡ at + 1)) ⊎ Has (list_at lists n) x
    were n x h = elim (set_has lists slot ((at + 1) ∷ list_at lists slot) n x inside_lists h) [
      | inl own ↦ elim own.1 [ inl e ↦ inl (own.0, sym e) | inr there ↦ inr (subst (λ (z : ℕ). Has (list_at lists z) x) (sym own.0) there) ]
      | inr other ↦ inr other.1
    ]

    stay : (n x : ℕ) → Has (list_at lists n) x → Has (list_at lists2 n) x
    stay n x h = elim (cases_eq n slot) [
      | inl e ↦ subst (λ (z : ℕ). Has (list_at lists2 z) x) (sym e) (subst (λ (L : List ℕ). Has L x) (sym (get_or-set_same lists slot ((at + 1) ∷ list_at lists slot) [] inside_lists)) (inr (subst (λ (z : ℕ). Has (list_at lists z) x) e h)))
      | inr ne ↦ has_set_other lists slot ((at + 1) ∷ list_at lists slot) n x ne h
    ]

    new_has : Has (list_at lists2 slot) (at + 1)
    new_has = subst (λ (L : List ℕ). Has L (at + 1)) (sym (get_or-set_same lists slot ((at + 1) ∷ list_at lists slot) [] inside_lists)) (inl refl)

    target_here : slice_index (slice_set s.targets at slot) at ≡ slot
    target_here = get_or-set_same s.targets at slot 0 (let a = k.serves.shape.targets_long in let b = at_low in omega (arith, a, b))

    target_other : (i : ℕ) → (i ≡ at → ⊥) → slice_index (slice_set s.targets at slot) i ≡ slice_index s.targets i
    target_other i ne = get_or-set_other s.targets at i slot 0 ne

    word_here : slice_index (slice_set ram at w) at ≡ w
    word_here = get_or-set_same ram at w 0 (let a = k.serves.fits in let b = at_low in omega (arith, a, b))

    word_other : (i : ℕ) → (i ≡ at → ⊥) → slice_index (slice_set ram at w) i ≡ slice_index ram i
    word_other i ne = get_or-set_other ram at i w 0 ne

    link_is : (is_jump w ≡ true) × (lands_in s.size at w ≡ slot)
    link_is =
        let a = link_word w (jump_offset at to) jumps.decodes in
        let few = k.serves.shape.words_few in
        let low : at < 2 ^ 21 = (let q = at_low in omega (arith, q, few)) in
        let low' : to < 2 ^ 21 = (let q = k.target in omega (arith, q, few)) in
        (a.0, lands_at s.size at to slot w low low' a.1 k.in_slot)

    first_known : (slice_index heads slot ≡ 0) ⊎ Has (list_at lists slot) (slice_index heads slot)
    first_known = first_in (nexts cache) (befores cache) (length cache) 0 (slice_index heads slot) (list_at lists slot) (k.holds.stand.runs slot inside)

    cache_same : (i : ℕ) → ((n : ℕ) → Has (list_at lists2 n) i → ⊥) → slice_index cache2 i ≡ slice_index (slice_set cache at w) i
    cache_same i none = others i (λ e. none slot (subst (λ (z : ℕ). Has (list_at lists2 slot) z) (sym e) new_has))
        (λ e. elim first_known [ inl nil ↦ e ∙ nil | inr h ↦ absurd (none slot (stay slot i (subst (λ (z : ℕ). Has (list_at lists slot) z) (sym e) h))) ])

    counted_now : AreCounted (slice_set links slot (slice_index links slot + 1)) lists2
    counted_now n lt = elim (cases_eq n slot) [
      | inl e ↦
          let a : slice_index (slice_set links slot (slice_index links slot + 1)) slot ≡ slice_index links slot + 1 = get_or-set_same links slot (slice_index links slot + 1) 0 (let q = inside in let r = k.holds.links_long in omega (arith, q, r)) in
          let b : list_at lists2 slot ≡ (at + 1) ∷ list_at lists slot = get_or-set_same lists slot ((at + 1) ∷ list_at lists slot) [] inside_lists in
          let c : length (list_at lists2 slot) ≡ length (list_at lists slot) + 1 = (let q = ap (λ (L : List ℕ). length L) b in omega (arith, q)) in
          let d = k.holds.counted slot inside_lists in
          subst (λ (m : ℕ). slice_index (slice_set links slot (slice_index links slot + 1)) m ≡ length (list_at lists2 m)) (sym e) (omega (arith, a, c, d))
      | inr ne ↦
          get_or-set_other links slot n (slice_index links slot + 1) 0 ne
          ∙ (k.holds.counted n (let a = length-set lists slot ((at + 1) ∷ list_at lists slot) in omega (arith, a, lt))
          ∙ ap (λ (L : List ℕ). length L) (sym (get_or-set_other lists slot n ((at + 1) ∷ list_at lists slot) [] ne)))
    ]

    pub linked_so : LinkedSo s ram at slot to cache2 heads2 (slice_set links slot (slice_index links slot + 1)) blocks
    linked_so = record {
      word = w;
      jumps = jumps;
      lists = lists2;
      holds = record {
        stand = st;
        slots_are = longh ∙ k.holds.slots_are;
        long = (let a = k.holds.long in omega (arith, a, long2));
        links_long = length-set links slot (slice_index links slot + 1) ∙ (k.holds.links_long ∙ sym longh);
        counted = counted_now;
        linked = λ n x h. elim (were n x h) [
          | inl e ↦
              let back : x - 1 ≡ at = (let q = e.1 in omega (arith, q)) in (
                subst (λ (z : ℕ). z < s.slots) (sym e.0) k.low,
                (let q = e.1 in omega (arith, q)),
                subst (λ (z : ℕ). z < s.slots * s.size) (sym back) at_low,
                ap (λ (z : ℕ). slice_index (slice_set s.targets at slot) z) back ∙ (target_here ∙ sym e.0),
              )
          | inr there ↦
              let a = k.holds.linked n x there in
              let ne : x - 1 ≡ at → ⊥ = λ e. (let t : slice_index s.targets at ≡ n = ap (λ (z : ℕ). slice_index s.targets z) (sym e) ∙ a.3 in let low = a.0 in let free = k.free in omega (arith, t, low, free)) in
              (a.0, a.1, a.2, target_other (x - 1) ne ∙ a.3)
        ];
        listed = λ i lt linked. elim (cases_eq i at) [
          | inl e ↦ subst (λ (z : ℕ). Has (list_at lists2 (slice_index (slice_set s.targets at slot) z)) (z + 1)) (sym e) (subst (λ (z : ℕ). Has (list_at lists2 z) (at + 1)) (sym target_here) new_has)
          | inr ne ↦ subst (λ (z : ℕ). Has (list_at lists2 z) (i + 1)) (sym (target_other i ne)) (stay (slice_index s.targets i) (i + 1) (k.holds.listed i lt (subst (λ (z : ℕ). z < s.slots) (target_other i ne) linked)))
        ];
        leads = λ i lt linked. elim (cases_eq i at) [
          | inl e ↦ (
            ap is_jump (ap (λ (z : ℕ). slice_index (slice_set ram at w) z) e ∙ word_here) ∙ link_is.0,
            subst (λ (z : ℕ). lands_in s.size z (slice_index (slice_set ram at w) z) ≡ slice_index (slice_set s.targets at slot) z) (sym e) (ap (lands_in s.size at) word_here ∙ (link_is.1 ∙ sym target_here)),
          )
          | inr ne ↦ (
              let a = k.holds.leads i lt (subst (λ (z : ℕ). z < s.slots) (target_other i ne) linked) in
              (ap is_jump (word_other i ne) ∙ a.0, ap (lands_in s.size i) (word_other i ne) ∙ (a.1 ∙ sym (target_other i ne))))
        ];
        held = λ i lt b none. elim (cases_eq i at) [
          | inl e ↦ cache_same i none ∙ subst (λ (z : ℕ). slice_index (slice_set cache at w) z ≡ slice_index (slice_set ram at w) z) (sym e)
              (get_or-set_same cache at w 0 (let a = k.holds.long in let q = at_low in omega (arith, a, q)) ∙ sym word_here)
          | inr ne ↦ cache_same i none ∙ (get_or-set_other cache at i w 0 ne ∙ (k.holds.held i lt b (λ n h. none n (stay n i h)) ∙ sym (word_other i ne)))
        ];
        blocks_long = k.holds.blocks_long;
        blocks_are = k.holds.blocks_are;
      };
    }
