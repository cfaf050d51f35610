-- The image that a file has.
use Rattle.std.proofs.Common.{◌≡◌, ◌⊎◌, inl, inr, ℕ, ◌≤◌, List, [], ◌∷◌, ◌++◌, length, take, drop, Option, Some, None, Result, Ok, Err, IfOk, MatchResult, sym, ap, arith, subst}
use Rattle.std.specs.Prelude.{option_map, find}
use Rattle.std.proofs.lemmas.List.{length-take, length-drop}
use Rattle.swi_elf_read.specs.declared.program_header.ProgramHeader.{ProgramHeader}
use Rattle.swi_elf_read.specs.Elf.{first_refusal, program_headers}
use Rattle.swi_elf_read.specs.ProgramHeaders.{is_image}
use Rattle.swi_elf_read.specs.Loaded.{image_of, bytes_of}
use Rattle.swi_image.specs.Format.{ImageData}
use Rattle.swi_memory.specs.declared.layout.Layout.{Layout}
use Rattle.swi_render.specs.Cut.{Fits}
use Rattle.swi_command.specs.declared.command.RunLimits.{RunLimits}
use Rattle.swi_answer.specs.declared.answer.Refusal.{Refusal}
use Rattle.swi_answer.specs.declared.answer.Refusal.TheVariants as refusal
use Rattle.swi_task.specs.Checks.{Check, IsShort, IsAcceptedElf, HasRoom, IsAcceptedImage, IsOwnImage, Fails, ImageFails, ImagePasses, IsAccepted, IsLong, IsRefusedBy, IsRefusedOr, OfImage, Passes, block_words, file_limit, room_in, subject_checks, text_in}
use Rattle.swi_task.specs.Subject.{IsImageFor}

part_short : (file held : List ℕ) (h : Option ProgramHeader) → option_map (bytes_of file) h ≡ Some held → length held ≤ length file
part_short file held None e = absurd (let never : ⊥ = cc in never)
part_short file held (Some h) e =
    let same : take h.p_filesz (drop h.p_offset file) ≡ held = cc in
    subst (λ (xs : List ℕ). length xs ≤ length file) same
    (omega (arith, length-take h.p_filesz (drop h.p_offset file), length-drop h.p_offset file))

-- an image is no longer than its file
pub image_short : (file held : List ℕ) → image_of file ≡ Some held → length held ≤ length file
unfolding image_of
image_short file held e = part_short file held (find is_image (program_headers file)) e

pub of_none : (x : Option (List ℕ)) (P : List ℕ → Type 0) → x ≡ None → OfImage x P
of_none x P e = subst (λ (y : Option (List ℕ)). OfImage y P) (sym e) tt

pub of_some : (x : Option (List ℕ)) (P : List ℕ → Type 0) (bytes : List ℕ) → x ≡ Some bytes → P bytes → OfImage x P
of_some x P bytes e h = subst (λ (y : Option (List ℕ)). OfImage y P) (sym e) h

-- ---- the checks of a file's image

pub passes_none : (file : List ℕ) (most : ℕ) → image_of file ≡ None → Fits (text_in file) most → IsAccepted (subject_checks most file)
passes_none file most none fits = (of_none (image_of file) _ none, (of_none (image_of file) _ none, ((λ _. fits), tt)))

pub passes_some : (file : List ℕ) (most : ℕ) (bytes : List ℕ) → image_of file ≡ Some bytes → ImagePasses (text_in file) bytes → IsAccepted (subject_checks most file)
passes_some file most bytes has passes =
    (of_some (image_of file) _ bytes has passes.0, (of_some (image_of file) _ bytes has passes.1, ((λ none. absurd (let bad : ⊥ = cc in bad)), tt)))

pub fails_none : (file : List ℕ) (most : ℕ) (r : Refusal) → image_of file ≡ None → (r ≡ refusal.Memory) ⊎ IsLong (text_in file) most r → IsRefusedOr (subject_checks most file) r
fails_none file most r none why = elim why [
  | inl e ↦ inl e
  | inr long ↦ inr (inr (of_none (image_of file) _ none, inr (of_none (image_of file) _ none, inl (none, long))))
]

-- whatever is checked behind them
pub fails_some : (file : List ℕ) (more : List Check) (bytes : List ℕ) (r : Refusal) → image_of file ≡ Some bytes → ImageFails (text_in file) bytes r →
    IsRefusedBy (IsAcceptedImage file ∷ IsOwnImage file ∷ more) r
fails_some file more bytes r has fails = elim fails [
  | inl e ↦ inl (bytes, has, e)
  | inr e ↦ inr (of_some (image_of file) _ bytes has e.0, inl (bytes, has, e.1))
]

-- ---- one list of checks behind another

pub behind : (c : Check) (cs : List Check) (r : Refusal) → Passes c → IsRefusedOr cs r → IsRefusedOr (c ∷ cs) r
behind c cs r passes why = elim why [ inl e ↦ inl e | inr by ↦ inr (inr (passes, by)) ]

pub front_fails : (cs more : List Check) (r : Refusal) → IsRefusedBy cs r → IsRefusedBy (cs ++ more) r
front_fails [] more r h = absurd h
front_fails (c ∷ cs) more r h = elim h [ inl f ↦ inl f | inr rest ↦ inr (rest.0, front_fails cs more r rest.1) ]

pub last_fails : (cs : List Check) (c : Check) (r : Refusal) → IsAccepted cs → Fails c r → IsRefusedBy (cs ++ (c ∷ [])) r
last_fails [] c r passed fails = inl fails
last_fails (x ∷ xs) c r passed fails = inr (passed.0, last_fails xs c r passed.1 fails)

pub last_passes : (cs : List Check) (c : Check) → IsAccepted cs → Passes c → IsAccepted (cs ++ (c ∷ []))
last_passes [] c passed passes = (passes, tt)
last_passes (x ∷ xs) c passed passes = (passed.0, last_passes xs c passed.1 passes)

-- ---- a run's checks, of a file that is accepted and whose program has room

pub run_refused : (file : List ℕ) (limits : RunLimits) (l : Layout) (cs : List Check) (r : Refusal) → length file ≤ file_limit → first_refusal file ≡ None →
    room_in file limits ≡ Ok l → IsRefusedOr cs r → IsRefusedOr (IsShort file ∷ IsAcceptedElf file ∷ HasRoom file limits ∷ cs) r
run_refused file limits l cs r short elf room why =
    behind (IsShort file) (IsAcceptedElf file ∷ HasRoom file limits ∷ cs) r short (behind (IsAcceptedElf file) (HasRoom file limits ∷ cs) r elf (behind (HasRoom file limits) cs r (l, room) why))

pub run_passes : (file : List ℕ) (limits : RunLimits) (l : Layout) (cs : List Check) → length file ≤ file_limit → first_refusal file ≡ None →
    room_in file limits ≡ Ok l → IsAccepted cs → IsAccepted (IsShort file ∷ IsAcceptedElf file ∷ HasRoom file limits ∷ cs)
run_passes file limits l cs short elf room rest = (short, (elf, ((l, room), rest)))

-- the words of a block are those of the image that is used
pub size_is : (file : List ℕ) (most : ℕ) (own : Option (List ℕ)) (v : ImageData) → IsImageFor file most own v → block_words own most ≡ v.block_words
size_is file most None v cut = sym cut.1.most_words
size_is file most (Some bytes) v is = ap (λ (x : ImageData). x.block_words) (sym is)

-- what is known of the value that `map_err(..)?` lets through
pub let_through : {T E : Type 0} (P : T → Type 0) (r : Result T E) (y : T) → IfOk r P → MatchResult r (λ x. ◌≡◌ {A = Result T Refusal} (Ok y) (Ok x)) (λ _. ⊥) → P y
let_through P (Ok x) y p same = subst P (let e : x ≡ y = cc in e) p
let_through P (Err e) y p same = absurd same
