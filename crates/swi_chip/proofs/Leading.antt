-- A slot's count is that of the links into its block.
use Rattle.std.proofs.Common.{◌≡◌, ℕ, ◌+◌, ◌*◌, ◌/◌, ◌%◌, ◌^◌, ◌<◌, ◌≤◌, ◌==◌, ◌&&◌, Bool, true, false, List, length, filter, nat_lt, slice_index, Some, None, if◌then◌else◌, arith, refl, sym, ◌∙◌, ap, subst, inl, inr}
use Rattle.std.proofs.lemmas.Bool.{cases_eq, ltb-true, ltb-false, eq-eqb, ne_eqb, eqb-true}
use Rattle.swi_rom.specs.Collected.{length_collected, passes}
use Rattle.swi_rom.specs.Policy.{leads_to}
use Rattle.swi_rom.specs.Record.{Link}
use Rattle.swi_links.specs.Chains.{Has}
use Rattle.swi_slots.specs.Keys.{Images, key_of, key_number, key_owner, number_of, owner_of}
use Rattle.swi_slots.specs.SlotLinks.{here_of_word, link_here, link_of, word_is}
use Rattle.swi_slots.specs.Slots.{Slots, kept_by, link_at, links_of}
use Rattle.swi_slots.specs.Sound.{LinkStands, SlotsServe}
use Rattle.swi_slots.proofs.MissLinks.{entry, leads_at}
use Rattle.swi_chip.specs.Bounded.{leading_into}
use Rattle.swi_chip.specs.Held.{Holds}
use Rattle.swi_chip.specs.Lists.{list_at}
use Rattle.swi_chip.proofs.Counting.{counted_cells, passing_told, told_same}

module _ {s : Slots} {vs : Images} {ram : List ℕ} (serves : SlotsServe s vs ram) (slot : ℕ) (filled : slot < s.filled) where
  by_slot : (m : ℕ) → m < s.filled → (slice_index s.blocks m == slice_index s.blocks slot) ≡ (m == slot)
  by_slot m lt = elim (cases_eq m slot) [
    | inl e ↦ eq-eqb _ _ (ap (λ (x : ℕ). slice_index s.blocks x) e) ∙ sym (eq-eqb m slot e)
    | inr ne ↦ ne_eqb _ _ (λ (e : slice_index s.blocks m ≡ slice_index s.blocks slot). ne (serves.distinct m slot lt filled e)) ∙ sym (ne_eqb m slot ne)
  ]

  -- whether a word is a link into the slot's block
  leads_here : (i : ℕ) → i < s.slots * s.size → passes (leads_to (entry s slot)) (link_at s i) ≡ (slice_index s.targets i == slot)
  unfolding link_at
  leads_here i below = ways (nat_lt (slice_index s.targets i) s.slots) refl
    where
      ways : (t : Bool) → nat_lt (slice_index s.targets i) s.slots ≡ t → passes (leads_to (entry s slot)) (if t then Some (link_here s i) else None) ≡ (slice_index s.targets i == slot)
      ways true t =
          let small : slice_index s.targets i < s.slots = ltb-true _ _ t in
          let p = word_is s i serves.shape in
          let row : i / s.size < s.filled = serves.stands i below small in
          let link : LinkStands s vs ram (i / s.size) (i % s.size) = serves.linked (i / s.size) (i % s.size) row p.1 (subst (λ (j : ℕ). slice_index s.targets j < s.slots) (sym p.0) small) in
          let is : link_here s i ≡ link_of s (i / s.size) (i % s.size) = here_of_word s i serves.shape in
          ap (λ (l : Link). leads_to (entry s slot) l) is ∙ leads_at s vs ram (i / s.size) (i % s.size) slot serves link
          ∙ ap (λ (j : ℕ). slice_index s.blocks (slice_index s.targets j) == slice_index s.blocks slot) p.0
          ∙ by_slot (slice_index s.targets i) (subst (λ (j : ℕ). slice_index s.targets j < s.filled) p.0 link.target)
      ways false t = (let le : s.slots ≤ slice_index s.targets i = ltb-false _ _ t in let f = serves.shape.filled_most in sym (ne_eqb _ _ (λ (e : slice_index s.targets i ≡ slot). omega (arith, le, e, filled, f))))

  module _ {cache heads links blocks : List ℕ} {lists : List (List ℕ)} (h : Holds s ram cache heads links blocks lists) where
    low : slot < s.slots
    low = (let f = serves.shape.filled_most in omega (arith, filled, f))

    pub counts_links : slice_index links slot ≡ length (filter (leads_to (entry s slot)) (links_of s))
    unfolding links_of
    counts_links =
        h.counted slot (let a = h.stand.long in let b = h.slots_are in let l = low in omega (arith, a, b, l))
        ∙ counted_cells (λ i. slice_index s.targets i == slot) (s.slots * s.size) (list_at lists slot) (h.stand.distinct slot (let b = h.slots_are in let l = low in omega (arith, b, l)))
        (λ x has. (let a = h.linked slot x has in (a.1, a.2, eq-eqb _ _ a.3)))
        (λ i lt e. (let is = eqb-true _ _ e in subst (λ (n : ℕ). Has (list_at lists n) (i + 1)) is (h.listed i lt (let l = low in omega (arith, is, l)))))
        ∙ sym (length_collected (leads_to (entry s slot)) (link_at s) (s.slots * s.size)
        ∙ passing_told (leads_to (entry s slot)) (link_at s) (s.slots * s.size)
        ∙ told_same (λ i. passes (leads_to (entry s slot)) (link_at s i)) (λ i. slice_index s.targets i == slot) (s.slots * s.size) leads_here)

    pub counts_leading : (c : ℕ) → c < 2 ^ 19 → slice_index s.blocks slot ≡ key_of s.turn c → slice_index links slot ≡ leading_into (kept_by s) c
    counts_leading c small is =
        counts_links
        ∙ ap (λ (p : ℕ). length (filter (λ (l : Link). l.program == p && l.into == number_of (slice_index s.blocks slot)) (links_of s))) (ap owner_of is ∙ key_owner s.turn c small)
        ∙ ap (λ (b : ℕ). length (filter (λ (l : Link). l.program == s.turn && l.into == b) (links_of s))) (ap number_of is ∙ key_number s.turn c small)
