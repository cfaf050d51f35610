-- Targets and links that are kept.
use Rattle.std.proofs.Common.{◌≡◌, ◌+◌, ◌*◌, ◌/◌, ◌%◌, ◌^◌, ◌<◌, ◌≤◌, ℕ, List, length, get_or, slice_set, replicate, Some, None, arith, refl, ap, sym, subst, ◌∙◌, inl, inr}
use Rattle.std.proofs.lemmas.List.{get_or-replicate, get_or-set_other, get_or-set_same, length-replicate, length-set}
use Rattle.std.proofs.lemmas.Bool.{cases_eq}
use Rattle.swi_isa.specs.Decode.{decoded, decoded_by}
use Rattle.swi_isa.specs.declared.instr.Instr.TheVariants.{Jal}
use Rattle.swi_exec.specs.Arithmetic.{sum_of}
use Rattle.swi_image.specs.Format.{ImageData}
use Rattle.swi_rom.specs.Record.{IsJump, Record, jump_offset}
use Rattle.swi_rom.specs.Still.{still_at}
use Rattle.swi_hart.specs.Leaving.{offset_of}
use Rattle.swi_board.specs.declared.links.Link.{Link}
use Rattle.swi_board.specs.declared.targets.Found.{Found}
use Rattle.swi_board.specs.Links.{AreLinks, IsLink}
use Rattle.swi_board.specs.Targets.{AreFound, FoundAt, IsNothing}

-- where no address is kept
pub nothing_found : (v : ImageData) (r : Record) (found : List Found) → IsNothing found → AreFound v r found
nothing_found v r found none = λ k inside d four.
    let odd : 1 % 4 ≡ 0 = ap (λ (f : Found). f.target % 4) (sym (none k inside d)) ∙ four in
    absurd (omega (arith, odd))

-- where another one is kept
pub kept_found : (v : ImageData) (r : Record) (found : List Found) (i : ℕ) (e : Found) → AreFound v r found → FoundAt v r e.target e → AreFound v r (slice_set found i e)
kept_found v r found i e h at = λ k inside d four.
    let count : length (slice_set found i e) ≡ length found = length-set found i e in
    let within : k < length found = omega (arith, inside, count) in
    elim (cases_eq k i) [
      | inl own ↦ subst (λ (f : Found). FoundAt v r f.target f) (sym (ap (λ j. get_or (slice_set found i e) j d) own ∙ get_or-set_same found i e d (omega (arith, own, within)))) at
      | inr apart ↦
          let same = get_or-set_other found i k e d apart in
          subst (λ (f : Found). FoundAt v r f.target f) (sym same) (h k within d (ap (λ (f : Found). f.target % 4) (sym same) ∙ four))
    ]

-- where nothing but the counts has changed
pub still_found : (v : ImageData) (r s : Record) (found : List Found) → s ≡ record r { counts = s.counts } → AreFound v r found → AreFound v s found
still_found v r s found same h = λ k inside d four. (let at = h k inside d four in record { stands = still_at v r s same _ _ at.stands; row = at.row })

-- ---- links

-- how far a jump goes by its offset in bytes
pub ahead : (i j off : ℕ) → off ≡ jump_offset i j → i < 2 ^ 21 → j < 2 ^ 21 → off < 2 ^ 31 → sum_of i (off / 4) ≡ j
ahead i j off is low high near = omega (arith, is, low, high, near)

pub back : (i j off : ℕ) → off ≡ jump_offset i j → i < 2 ^ 21 → j < 2 ^ 21 → 2 ^ 31 ≤ off → sum_of i (off / 4 + 3 * 2 ^ 30) ≡ j
back i j off is low high far = omega (arith, is, low, high, far)

pub offset_is : (i j w off : ℕ) → IsJump i j w → off ≡ offset_of (decoded w) → off ≡ jump_offset i j
offset_is i j w off jumps is = is ∙ ap offset_of jumps.decodes

-- 0 is no instruction, and so no jump
no_instruction : decoded 0 ≡ None
unfolding decoded decoded_by
no_instruction = refl

pub none_link : (distance : ℕ) → IsLink 0 distance
none_link distance = record {
  linked = λ e. absurd (omega (arith, e));
  leads = λ i j jumps low high. absurd (let never : None ≡ Some (Jal 0 (jump_offset i j)) = sym no_instruction ∙ jumps.decodes in cc);
}

-- so no link is one
abbrev pub no_link : Link
no_link = record { word = 0; distance = 0 }

pub none_links : (n : ℕ) → AreLinks (replicate n no_link)
none_links n = λ k inside d.
    let count = length-replicate n no_link in
    subst (λ (l : Link). IsLink l.word l.distance) (sym (get_or-replicate n k no_link d (omega (arith, inside, count)))) (none_link 0)

pub kept_link : (links : List Link) (i : ℕ) (e : Link) → AreLinks links → IsLink e.word e.distance → AreLinks (slice_set links i e)
kept_link links i e h at = λ k inside d.
    let count : length (slice_set links i e) ≡ length links = length-set links i e in
    let within : k < length links = omega (arith, inside, count) in
    elim (cases_eq k i) [
      | inl own ↦ subst (λ (l : Link). IsLink l.word l.distance) (sym (ap (λ j. get_or (slice_set links i e) j d) own ∙ get_or-set_same links i e d (omega (arith, own, within)))) at
      | inr apart ↦ subst (λ (l : Link). IsLink l.word l.distance) (sym (get_or-set_other links i k e d apart)) (h k within d)
    ]
