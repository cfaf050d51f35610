-- Which exits are linked once a link is put among the others.
use Rattle.std.proofs.Common.{◌≡◌, ◌⊎◌, ℕ, true, List, sym, ◌∙◌, ap, subst, inl, inr}
use Rattle.std.proofs.lemmas.Bool.{or_left, or_right, or_cases}
use Rattle.swi_rom.specs.Record.{Link, same_link, has_link, exit_among}
use Rattle.swi_rom.specs.Policy.{with_link}
use Rattle.swi_rom.specs.Links.{same_same, same_is, has_with, among_has, has_among}

among_at : (ls : List Link) (l : Link) (p b o : ℕ) → exit_among ls l.program l.block l.offset ≡ true → l.program ≡ p → l.block ≡ b → l.offset ≡ o → exit_among ls p b o ≡ true
among_at ls l p b o h e f g = subst (λ (x : ℕ). exit_among ls p b x ≡ true) g (subst (λ (x : ℕ). exit_among ls p x l.offset ≡ true) f (subst (λ (x : ℕ). exit_among ls x l.block l.offset ≡ true) e h))

pub linked_more : (k : Link) (ls : List Link) (p b o : ℕ) → exit_among ls p b o ≡ true → exit_among (with_link k ls) p b o ≡ true
linked_more k ls p b o h =
    let w = among_has ls p b o h in
    among_at (with_link k ls) w.link p b o (has_among (with_link k ls) w.link (has_with k ls w.link ∙ or_right _ _ w.has)) w.program w.block w.offset

pub linked_new : (k : Link) (ls : List Link) → exit_among (with_link k ls) k.program k.block k.offset ≡ true
linked_new k ls = has_among (with_link k ls) k (has_with k ls k ∙ or_left _ _ (same_same k))

pub linked_cases : (k : Link) (ls : List Link) (p b o : ℕ) → exit_among (with_link k ls) p b o ≡ true → (exit_among ls p b o ≡ true) ⊎ ((k.block ≡ b) × (k.offset ≡ o))
linked_cases k ls p b o h =
    let w = among_has (with_link k ls) p b o h in
    elim (or_cases (same_link w.link k) (has_link ls w.link) (sym (has_with k ls w.link) ∙ w.has)) [
      | inl same ↦ (let is : w.link ≡ k = same_is w.link k same in inr (ap (λ (l : Link). l.block) (sym is) ∙ w.block, ap (λ (l : Link). l.offset) (sym is) ∙ w.offset))
      | inr old ↦ inl (among_at ls w.link p b o (has_among ls w.link old) w.program w.block w.offset)
    ]
