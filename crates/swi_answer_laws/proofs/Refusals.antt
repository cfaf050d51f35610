-- The first check that fails gives one refusal.
use Rattle.std.proofs.Common.{◌≡◌, ◌^◌, ℕ, ◌+◌, ◌*◌, ◌<◌, ◌≤◌, ◌⊎◌, List, [], ◌∷◌, length, get_or, Option, Some, option_map, Err, refl, arith, sym, ap, subst, ◌∙◌, inl, inr}
use Rattle.std.proofs.lemmas.Bool.{cases_lt}
use Rattle.swi_elf_read.specs.Loaded.{image_of as image_in}
use Rattle.swi_program.specs.Text.{TextData, text_of}
use Rattle.swi_program.specs.Program.{ProgramData}
use Rattle.swi_image.specs.Checks as image
use Rattle.swi_image.specs.Format.{ImageData, image_of}
use Rattle.swi_image.specs.Place.{block_at, next_start}
use Rattle.swi_render.specs.Cut.{needs_of}
use Rattle.swi_render.specs.Rendering.{As, Slot}
use Rattle.swi_render.specs.ImageOf.{IsBlockOf, OffsetsRight, block_between, offset_in, pad, start_of}
use Rattle.swi_render.proofs.Stands.{filled_two}
use Rattle.swi_check.specs.declared.mismatch.Mismatch.{Mismatch}
use Rattle.swi_check.specs.declared.mismatch.Mismatch.TheVariants.{Cover, Place, Long, Length, Word}
use Rattle.swi_check.specs.Mismatches.{IsFirstWrong, IsMismatch, IsUncovered, IsWrongBetween, IsWrongIn, IsWrongPlace, IsWrongWord, Covers, asked_between}
use Rattle.swi_check.proofs.Never.{not_block}
use Rattle.swi_answer.specs.declared.answer.Refusal.{Refusal}
use Rattle.swi_answer.specs.declared.answer.Refusal.TheVariants as refusal
use Rattle.swi_task.specs.Checks.{Check, IsShort, IsAcceptedElf, HasRoom, HasImage, IsAcceptedImage, IsOwnImage, FitsBlocks, FitsUnlessImage, FitsMade, HoldsBlock, Fails, IsLong, text_in}
use Rattle.swi_top.proofs.Alike.{fails_not}
use Rattle.swi_answer_laws.specs.Answered.{HasWord}
use Rattle.swi_answer_laws.specs.Parts.{RefusalIsOne}
use Rattle.swi_answer_laws.proofs.Parts.{program_is_one}

-- ---- the first difference

-- of two places below which nothing is wrong, and at which something is, neither stands before the other
least_once : (P : ℕ → Type 0) (m n : ℕ) → ((k : ℕ) → k < m → P k) → (P m → ⊥) → ((k : ℕ) → k < n → P k) → (P n → ⊥) → m ≡ n
least_once P m n below wrong below_ wrong_ = elim (cases_lt m n) [
  | inl less ↦ absurd (wrong (below_ m less))
  | inr more ↦ elim (cases_lt n m) [
    | inl less ↦ absurd (wrong_ (below n less))
    | inr other ↦ omega arith
  ]
]

place_eq : (a b h k r s : ℕ) → a ≡ b → h ≡ k → r ≡ s → Place a h r ≡ Place b k s
place_eq a b h k r s p q e = λ i. Place (p i) (q i) (e i)

long_eq : (a b n m : ℕ) → a ≡ b → n ≡ m → Long a n ≡ Long b m
long_eq a b n m p q = λ i. Long (p i) (q i)

length_eq : (a b h k r s : ℕ) → a ≡ b → h ≡ k → r ≡ s → Length a h r ≡ Length b k s
length_eq a b h k r s p q e = λ i. Length (p i) (q i) (e i)

word_eq : (a b o q h k r s : ℕ) → a ≡ b → o ≡ q → h ≡ k → r ≡ s → Word a o h r ≡ Word b q k s
word_eq a b o q h k r s x y z e = λ i. Word (x i) (y i) (z i) (e i)

place_once : (t : TextData) (offsets : List ℕ) (first end a h r b k s : ℕ) → IsWrongPlace t offsets first end a h r → IsWrongPlace t offsets first end b k s → Place a h r ≡ Place b k s
place_once t offsets first end a h r b k s x y =
    let P : ℕ → Type 0 = λ i. first ≤ i → get_or offsets i 0 ≡ offset_in t first i in
    let same : x.word ≡ y.word = least_once P x.word y.word (λ i less low. x.before i low less) (λ p. x.wrong (x.held_is ∙ (p x.low ∙ sym x.required_is)))
    (λ i less low. y.before i low less) (λ p. y.wrong (y.held_is ∙ (p y.low ∙ sym y.required_is))) in
    place_eq a b h k r s (x.address_is ∙ (ap (λ (i : ℕ). t.base + 4 * i) same ∙ sym y.address_is)) (x.held_is ∙ (ap (λ (i : ℕ). get_or offsets i 0) same ∙ sym y.held_is))
    (x.required_is ∙ (ap (λ (i : ℕ). offset_in t first i) same ∙ sym y.required_is))

placed_right : (t : TextData) (offsets : List ℕ) (first end a h r : ℕ) → OffsetsRight t offsets first end → IsWrongPlace t offsets first end a h r → ⊥
placed_right t offsets first end a h r right x = x.wrong (x.held_is ∙ (right x.word x.low x.high ∙ sym x.required_is))

offset_once : (ss : List Slot) (xs : List ℕ) (o h r q k s : ℕ) → IsWrongWord ss xs o h r → IsWrongWord ss xs q k s → o ≡ q
offset_once ss xs o h r q k s x y =
    let P : ℕ → Type 0 = λ i. As (get_or ss i pad).asked (get_or xs i 0) in
    least_once P o q x.before (λ p. x.wrong (subst (λ (n : ℕ). As (get_or ss o pad).asked n) (sym x.held_is) p))
    y.before (λ p. y.wrong (subst (λ (n : ℕ). As (get_or ss q pad).asked n) (sym y.held_is) p))

wrong_word_once : (ss : List Slot) (xs : List ℕ) (b o h r c q k s : ℕ) → r < 2 ^ 32 → s < 2 ^ 32 → b ≡ c → IsWrongWord ss xs o h r → IsWrongWord ss xs q k s → Word b o h r ≡ Word c q k s
wrong_word_once ss xs b o h r c q k s small small_ block x y =
    let same : o ≡ q = offset_once ss xs o h r q k s x y in
    let asked : As (get_or ss o pad).asked s = subst (λ (i : ℕ). As (get_or ss i pad).asked s) (sym same) y.required_is.here in
    word_eq b c o q h k r s block same (x.held_is ∙ (ap (λ (i : ℕ). get_or xs i 0) same ∙ sym y.held_is)) (sym (x.required_is.only s small_ asked))

wrong_once : (t : TextData) (v : ImageData) (b first end : ℕ) (m n : Mismatch) → HasWord (Err (refusal.Mismatch m)) → HasWord (Err (refusal.Mismatch n)) →
    IsWrongBetween t v b first end m → IsWrongBetween t v b first end n → m ≡ n
wrong_once t v b first end (Cover a) n p q x y = absurd x
wrong_once t v b first end (Place a h r) (Cover c) p q x y = absurd y
wrong_once t v b first end (Place a h r) (Place c k s) p q x y = place_once t v.offsets first end a h r c k s x y
wrong_once t v b first end (Place a h r) (Long c k) p q x y = absurd (placed_right t v.offsets first end a h r y.1 x)
wrong_once t v b first end (Place a h r) (Length c k s) p q x y = absurd (placed_right t v.offsets first end a h r y.1 x)
wrong_once t v b first end (Place a h r) (Word c o k s) p q x y = absurd (placed_right t v.offsets first end a h r y.1 x)
wrong_once t v b first end (Long a h) (Cover c) p q x y = absurd y
wrong_once t v b first end (Long a h) (Place c k s) p q x y = absurd (placed_right t v.offsets first end c k s x.1 y)
wrong_once t v b first end (Long a h) (Long c k) p q x y = long_eq a c h k (x.0 ∙ sym y.0) (x.2 ∙ sym y.2)
wrong_once t v b first end (Long a h) (Length c k s) p q x y = absurd (omega (arith, x.2, x.3, y.2, y.3))
wrong_once t v b first end (Long a h) (Word c o k s) p q x y = absurd (omega (arith, x.2, x.3, y.2))
wrong_once t v b first end (Length a h r) (Cover c) p q x y = absurd y
wrong_once t v b first end (Length a h r) (Place c k s) p q x y = absurd (placed_right t v.offsets first end c k s x.1 y)
wrong_once t v b first end (Length a h r) (Long c k) p q x y = absurd (omega (arith, x.2, x.3, y.2, y.3))
wrong_once t v b first end (Length a h r) (Length c k s) p q x y = length_eq a c h k r s (x.0 ∙ sym y.0) (x.5 ∙ sym y.5) (x.2 ∙ sym y.2)
wrong_once t v b first end (Length a h r) (Word c o k s) p q x y =
    absurd (x.6 (x.5 ∙ (y.3 ∙ (ap length (filled_two v (block_between t first end) x.4) ∙ sym x.2))))
wrong_once t v b first end (Word a o h r) (Cover c) p q x y = absurd y
wrong_once t v b first end (Word a o h r) (Place c k s) p q x y = absurd (placed_right t v.offsets first end c k s x.1 y)
wrong_once t v b first end (Word a o h r) (Long c k) p q x y = absurd (omega (arith, x.2, y.2, y.3))
wrong_once t v b first end (Word a o h r) (Length c k s) p q x y =
    absurd (y.6 (y.5 ∙ (x.3 ∙ (ap length (filled_two v (block_between t first end) y.4) ∙ sym y.2))))
wrong_once t v b first end (Word a o h r) (Word c e k s) p q x y = wrong_word_once (asked_between t v first end) (block_at v b) a o h r c e k s p q (x.0 ∙ sym y.0) x.4 y.4

first_once : (t : TextData) (v : ImageData) (m n : Mismatch) → HasWord (Err (refusal.Mismatch m)) → HasWord (Err (refusal.Mismatch n)) → IsFirstWrong t v m → IsFirstWrong t v n → m ≡ n
first_once t v m n p q x y =
    let same : x.block ≡ y.block = least_once (IsBlockOf t v) x.block y.block x.before (not_block t v x.block m x.wrong) y.before (not_block t v y.block n y.wrong) in
    wrong_once t v x.block (start_of v x.block) (next_start v x.block) m n p q x.wrong (subst (λ (b : ℕ). IsWrongIn t v b n) (sym same) y.wrong)

covered : (t : TextData) (v : ImageData) (address : ℕ) → IsUncovered t v address → Covers t v → ⊥
covered t v address (inl x) c = x.0 c.0
covered t v address (inr x) c = x.1 c.1

cover_once : (t : TextData) (v : ImageData) (a b : ℕ) → IsUncovered t v a → IsUncovered t v b → a ≡ b
cover_once t v a b (inl x) (inl y) = x.1 ∙ sym y.1
cover_once t v a b (inl x) (inr y) = absurd (x.0 y.0)
cover_once t v a b (inr x) (inl y) = absurd (y.0 x.0)
cover_once t v a b (inr x) (inr y) = x.2 ∙ sym y.2

-- an image that begins where its text does, or another
by_cover : (t : TextData) (v : ImageData) (m : Mismatch) → IsMismatch t v m → ((a : ℕ) × (m ≡ Cover a) × IsUncovered t v a) ⊎ IsFirstWrong t v m
by_cover t v (Cover a) w = inl (a, refl, w)
by_cover t v (Place a h r) w = inr w
by_cover t v (Long a n) w = inr w
by_cover t v (Length a h r) w = inr w
by_cover t v (Word b o h r) w = inr w

mismatch_once : (t : TextData) (v : ImageData) (m n : Mismatch) → HasWord (Err (refusal.Mismatch m)) → HasWord (Err (refusal.Mismatch n)) → IsMismatch t v m → IsMismatch t v n → m ≡ n
mismatch_once t v m n p q x y = elim (by_cover t v m x) [
  | inl c ↦ elim (by_cover t v n y) [
    | inl d ↦ c.1 ∙ (ap (λ (a : ℕ). Cover a) (cover_once t v c.0 d.0 c.2 d.2) ∙ sym d.1)
    | inr f ↦ absurd (covered t v c.0 c.2 f.covers)
  ]
  | inr f ↦ elim (by_cover t v n y) [
    | inl d ↦ absurd (covered t v d.0 d.2 f.covers)
    | inr g ↦ first_once t v m n p q f g
  ]
]

-- ---- a check

same_some : (x : Option (List ℕ)) (a b : List ℕ) → x ≡ Some a → x ≡ Some b → a ≡ b
same_some x a b p q = let same : Some a ≡ Some b = sym p ∙ q in cc

long_once : (t : TextData) (most : ℕ) (r s : Refusal) → IsLong t most r → IsLong t most s → r ≡ s
long_once t most r s x y =
    let same : x.0 ≡ y.0 = least_once (λ k. needs_of t k ≤ most) x.0 y.0 x.1.before (λ few. let long = x.1.long in omega (arith, few, long))
    y.1.before (λ few. let long = y.1.long in omega (arith, few, long)) in
    x.2 ∙ (ap (λ (k : ℕ). refusal.Long (t.base + 4 * k) (needs_of t k)) same ∙ sym y.2)

own_once : (t : TextData) (bytes : List ℕ) (m n : Mismatch) (r s : Refusal) → HasWord (Err r) → HasWord (Err s) → r ≡ refusal.Mismatch m → s ≡ refusal.Mismatch n →
    IsMismatch t (image_of bytes) m → IsMismatch t (image_of bytes) n → r ≡ s
own_once t bytes m n r s p q is is_ x y =
    is ∙ (ap (λ (k : Mismatch). refusal.Mismatch k) (mismatch_once t (image_of bytes) m n (subst (λ (k : Refusal). HasWord (Err k)) is p) (subst (λ (k : Refusal). HasWord (Err k)) is_ q) x y) ∙ sym is_)

fails_once : (c : Check) (r s : Refusal) → HasWord (Err r) → HasWord (Err s) → Fails c r → Fails c s → r ≡ s
fails_once (IsShort file) r s p q x y = x.1 ∙ sym y.1
fails_once (IsAcceptedElf file) r s p q x y = let same : Some r ≡ Some s = sym x ∙ y in cc
fails_once (HasRoom file limits) r s p q x y = let one = x.1 in let other = y.1 in let is = x.2 in let is_ = y.2 in cc
fails_once (HasImage file) r s p q x y = x.1 ∙ sym y.1
fails_once (IsAcceptedImage file) r s p q x y =
    let bytes : x.0 ≡ y.0 = same_some (image_in file) x.0 y.0 x.1 y.1 in
    let same : Some r ≡ Some s = sym x.2 ∙ (ap (λ (l : List ℕ). option_map (λ e. refusal.Image e) (image.first_refusal l)) bytes ∙ y.2) in
    cc
fails_once (IsOwnImage file) r s p q x y =
    let bytes : y.0 ≡ x.0 = same_some (image_in file) y.0 x.0 y.1 x.1 in
    own_once (text_in file) x.0 x.2.0 y.2.0 r s p q x.2.2 y.2.2 x.2.1 (subst (λ (l : List ℕ). IsMismatch (text_in file) (image_of l) y.2.0) bytes y.2.1)
fails_once (FitsBlocks file most) r s p q x y = long_once (text_in file) most r s x y
fails_once (FitsUnlessImage file most) r s p q x y = long_once (text_in file) most r s x.1 y.1
fails_once (FitsMade seed functions most) r s p q x y =
    long_once (text_of x.0.segments) most r s x.2 (subst (λ (m : ProgramData). IsLong (text_of m.segments) most s) (program_is_one seed functions y.0 x.0 y.1 x.1) y.2)
fails_once (HoldsBlock bytes least) r s p q x y = x.1 ∙ sym y.1

pub refusal_is_one : RefusalIsOne
refusal_is_one [] r s p q x y = absurd x
refusal_is_one (c ∷ cs) r s p q x y = elim x [
  | inl f ↦ elim y [ inl g ↦ fails_once c r s p q f g | inr g ↦ absurd (fails_not c r g.0 f) ]
  | inr f ↦ elim y [ inl g ↦ absurd (fails_not c s f.0 g) | inr g ↦ refusal_is_one cs r s p q f.1 g.1 ]
]
