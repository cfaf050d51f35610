-- A block that is placed once is found where it was placed.
use Rattle.std.proofs.Common.{◌≡◌, ℕ, ◌==◌, ◌&&◌, Bool, true, false, List, [], ◌∷◌, if◌then◌else◌, refl, sym, ap, inl, inr}
use Rattle.std.proofs.lemmas.Bool.{both_ways, and_parts, and_from, eq-eqb, eqb-true}
use Rattle.swi_rom.specs.Record.{Placement, Has}
use Rattle.swi_rom.specs.Policy.{first_in}

place_same : (e : Placement) (p b f : ℕ) → let x : Placement = record { program = p; block = b; first = f } in e ≡ x → (e.program == p && e.block == b) ≡ true
place_same e p b f same = and_from (e.program == p) (e.block == b) (eq-eqb _ _ (ap (λ (x : Placement). x.program) same)) (eq-eqb _ _ (ap (λ (x : Placement). x.block) same))

place_of : (e : Placement) (p b : ℕ) → (e.program == p && e.block == b) ≡ true → let x : Placement = record { program = p; block = b; first = e.first } in e ≡ x
place_of e p b t =
    let both = and_parts (e.program == p) (e.block == b) t in
    let f : p ≡ e.program = sym (eqb-true _ _ both.0) in
    let g : b ≡ e.block = sym (eqb-true _ _ both.1) in
    rw (f, g) refl

first_step : (t : Bool) (e : Placement) (es : List Placement) (p b f : ℕ) → (e.program == p && e.block == b) ≡ t → Has (e ∷ es) (record { program = p; block = b; first = f }) →
    ((g : ℕ) → Has (e ∷ es) (record { program = p; block = b; first = g }) → g ≡ f) → (Has es (record { program = p; block = b; first = f }) → first_in es p b ≡ f) → (if t then e.first else first_in es p b) ≡ f
first_step true e es p b f t h once rest = once e.first (inl (place_of e p b t))
first_step false e es p b f t (inl same) once rest = absurd (both_ways (e.program == p && e.block == b) t (place_same e p b f same))
first_step false e es p b f t (inr h) once rest = rest h

pub first_in_has : (es : List Placement) (p b f : ℕ) → Has es (record { program = p; block = b; first = f }) → ((g : ℕ) → Has es (record { program = p; block = b; first = g }) → g ≡ f) → first_in es p b ≡ f
first_in_has [] p b f h once = absurd h
first_in_has (e ∷ es) p b f h once =
    first_step (e.program == p && e.block == b) e es p b f refl h once (λ h'. first_in_has es p b f h' (λ g i. once g (inr i)))
