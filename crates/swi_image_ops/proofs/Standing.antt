-- What a micro-op at a place is of: the text word that stands there, or an exit behind a block's last one.
use Rattle.std.proofs.Common.{◌≡◌, ◌⊎◌, ◌==◌, ℕ, ◌+◌, ◌-◌, ◌*◌, ◌/◌, ◌%◌, ◌^◌, ◌<◌, ◌≤◌, false, true, length, get_or, Option, Some, None, arith, refl, sym, ap, subst, ◌∙◌, inl, inr}
use Rattle.std.proofs.lemmas.Bool.{cases_lt}
use Rattle.swi_isa.specs.Decode.{decoded}
use Rattle.swi_isa.specs.declared.instr.Instr.{Instr}
use Rattle.swi_memory.specs.Bus.{fetched}
use Rattle.swi_calls.specs.declared.machine.Machine.{Machine}
use Rattle.swi_image.specs.Format.{ImageData}
use Rattle.swi_image.specs.Sound.{IsImage}
use Rattle.swi_image.specs.Place.{distance, length_at, next_start, origin_of, place_of, word_before}
use Rattle.swi_image.specs.Laws.{place_found, place_inside, place_is, place_lands, place_whole}
use Rattle.swi_image.specs.Row.{row_index}
use Rattle.swi_image.proofs.Views.{Narrowed, narrowed_word}
use Rattle.swi_render.specs.Carried.{Carries, FallAt, GoesOn, StandsFor}
use Rattle.swi_micro.specs.declared.class.Class.TheVariants as class
use Rattle.swi_micro.specs.declared.translator.MicroOp.{MicroOp}
use Rattle.swi_micro.specs.Classes.{class_of}
use Rattle.swi_image_ops.specs.ImageOp.{IsExitOp, IsTextOp, IsWordOp, fall_op, row_at, row_of, text_op}
use Rattle.swi_image_ops.proofs.Learning.{rises}
use Rattle.swi_image_ops.proofs.Forms.{jal_unmarked}

-- ---- places

-- two options of one place
same_place : (o : Option (ℕ × ℕ)) (b c p q : ℕ) → o ≡ Some (b, p) → o ≡ Some (c, q) → (c ≡ b) × (q ≡ p)
same_place o b c p q one two =
    let same : Some (b, p) ≡ Some (c, q) = sym one ∙ two in
    let pair : (b, p) ≡ (c, q) = cc in
    (ap (λ (r : ℕ × ℕ). r.0) (sym pair), ap (λ (r : ℕ × ℕ). r.1) (sym pair))

-- no base lies above the addresses: else one that is no multiple of 4 had a place
odd : 1 % 4 ≡ 0 → ⊥
odd e = omega (arith, e)

base_low : (text : ℕ → Option ℕ) (v : ImageData) → Carries text v → v.base ≤ 2 ^ 32
base_low text v c = elim (cases_lt (2 ^ 32) v.base) [
  | inl high ↦
      let near : distance v 1 ≡ 4 * 0 = omega (arith, high) in
      let i = c.image in
      let some : 0 < length v.offsets = omega (arith, i.some, i.fewer) in
      absurd (odd (c.aligned 1 _ _ (place_found v 1 0 near some)))
  | inr low ↦ low
]

same_address : (base a c k : ℕ) → base ≤ 2 ^ 32 → a < 2 ^ 32 → c < 2 ^ 32 → (a + 2 ^ 32 - base) % 2 ^ 32 ≡ (c + 2 ^ 32 - base) % 2 ^ 32 → a ≡ c
same_address base a c k low short less same = omega arith

-- the text words of one place are one
no_later : (v : ImageData) (a c b o : ℕ) → IsImage v → place_of v a ≡ Some (b, o) → place_of v c ≡ Some (b, o) → distance v a / 4 < distance v c / 4 → ⊥
no_later v a c b o i one two less =
    let k : ℕ = distance v a / 4 in
    let n : ℕ = distance v c / 4 in
    let here = place_is v a b o one in
    let there = place_is v c b o two in
    let own = place_lands v i a b o one in
    let other = place_lands v i c b o two in
    let on : k + (n - k) ≡ n = omega (arith, less) in
    let known : b < length v.starts = (let inside = (place_inside v i a b o one).0 in let all = i.blocks in omega (arith, inside, all)) in
    let from : get_or v.starts b 0 ≤ k = own.from in
    let to : k + (n - k) < next_start v b = (let last : n < next_start v b = other.to in omega (arith, last, on)) in
    let up : get_or v.offsets k 0 + (n - k) ≤ get_or v.offsets n 0 = rw on at (rises v b k (n - k) i known from to) in
    let first : o ≡ get_or v.offsets k 0 = here.2 in
    let last : o ≡ get_or v.offsets n 0 = there.2 in
    omega (arith, up, first, last, less)

pub place_once : (text : ℕ → Option ℕ) (v : ImageData) (a c b o : ℕ) → Carries text v → a < 2 ^ 32 → c < 2 ^ 32 → place_of v a ≡ Some (b, o) → place_of v c ≡ Some (b, o) → a ≡ c
place_once text v a c b o carried short less one two =
    let whole = place_whole v a (b, o) one in
    let even = place_whole v c (b, o) two in
    elim (cases_lt (distance v a / 4) (distance v c / 4)) [
      | inl below ↦ absurd (no_later v a c b o carried.image one two below)
      | inr most ↦ elim (cases_lt (distance v c / 4) (distance v a / 4)) [
        | inl above ↦ absurd (no_later v c a b o carried.image two one above)
        | inr least ↦
            let same : distance v a ≡ distance v c = omega (arith, whole, even, most, least) in
            same_address v.base a c 0 (base_low text v carried) short less same
      ]
    ]

-- the text word that begins last at or before a place's offset is that of the place
back : (base a : ℕ) → base ≤ 2 ^ 32 → a < 2 ^ 32 → (base + (a + 2 ^ 32 - base) % 2 ^ 32) % 2 ^ 32 ≡ a
back base a low short = omega arith

pub origin_is : (text : ℕ → Option ℕ) (v : ImageData) (a b o : ℕ) → Carries text v → a < 2 ^ 32 → place_of v a ≡ Some (b, o) → (origin_of v b o).0 ≡ a
origin_is text v a b o carried short place =
    let i = carried.image in
    let k : ℕ = distance v a / 4 in
    let own = place_lands v i a b o place in
    let at : o ≡ get_or v.offsets k 0 = (place_is v a b o place).2 in
    let known : b < length v.starts = (let inside = (place_inside v i a b o place).0 in let all = i.blocks in omega (arith, inside, all)) in
    let same : k + 1 - 1 ≡ k = omega arith in
    let from : get_or v.starts b 0 ≤ k = own.from in
    let to : k < next_start v b = own.to in
    let next : k + 1 < next_start v b → o < get_or v.offsets (k + 1) 0 =
    λ more. (let up = i.ordered b (k + 1) known (omega (arith, from)) more in let less : get_or v.offsets k 0 < get_or v.offsets (k + 1) 0 = rw same at up in omega (arith, less, at)) in
    let here : get_or v.offsets k 0 ≤ o = omega (arith, at) in
    let n : Narrowed v b o (k + 1) (k + 1) = record { first = omega (arith, from); order = omega arith; fits = omega (arith, to); below = λ some. rw same here; above = next } in
    let word : word_before v b o ≡ k + 1 - 1 = (narrowed_word v b o (k + 1) (k + 1) i known n (omega arith)).0 in
    let whole = place_whole v a (b, o) place in
    let behind : 4 * word_before v b o ≡ distance v a = omega (arith, word, same, whole) in
    ap (λ d. (v.base + d) % 2 ^ 32) behind ∙ back v.base a (base_low text v carried) short

-- where a run goes on is a word of a block
pub on_inside : (text : ℕ → Option ℕ) (v : ImageData) (a b o : ℕ) → Carries text v → GoesOn v a b o → (b < length v.starts) × (o < length_at v b)
on_inside text v a b o c (inl place) =
    let inside = place_inside v c.image a b o place in
    let all = c.image.blocks in
    (omega (arith, inside.0, all), inside.1)
on_inside text v a b o c (inr fall) =
    let known = fall.known in
    let inside = fall.inside in
    let all = c.image.blocks in
    (omega (arith, known, all), omega (arith, inside))

-- an address has a place, and this index in the row
pub record InRow (v : ImageData) (a k : ℕ) : Type 0 where
  pub block : ℕ
  pub offset : ℕ
  pub place : place_of v a ≡ Some (block, offset)
  pub index : k ≡ row_index v block offset

pub in_row : (v : ImageData) (a k : ℕ) → row_of v a ≡ Some k → InRow v a k
in_row v a k is = of_place (place_of v a) refl is
  where
    of_place : (p : Option (ℕ × ℕ)) → place_of v a ≡ p → row_at v p ≡ Some k → InRow v a k
    of_place None at e = absurd (cc)
    of_place (Some q) at e = record { block = q.0; offset = q.1; place = at; index = cc }

-- ---- what stands at a place

-- the text word at the machine's pc stands at a place, and the micro-op there is that of its instruction
pub record AtText (v : ImageData) (f : Machine) (b o : ℕ) (m : MicroOp) : Type 0 where
  pub short : f.pc < 2 ^ 32
  pub aligned : f.pc % 4 ≡ 0
  pub place : place_of v f.pc ≡ Some (b, o)
  pub word : ℕ
  pub reads : fetched f.bus f.pc ≡ Some word
  pub instruction : Instr
  pub decodes : decoded word ≡ Some instruction
  pub is : m ≡ text_op v f.pc instruction
  pub stands : StandsFor v word f.pc b o

-- an exit to the machine's pc stands at a place, behind a block's last text word
pub record AtFall (v : ImageData) (pc b o : ℕ) (m : MicroOp) : Type 0 where
  pub behind : FallAt v pc b o
  pub to : ℕ
  pub target : row_of v pc ≡ Some to
  pub is : m ≡ fall_op to

abbrev pub IsKnown : ImageData → Machine → ℕ → ℕ → MicroOp → Type 0
IsKnown v f b o m = AtText v f b o m ⊎ AtFall v f.pc b o m

-- the rendering of a text word stands at its place
pub stands_here : (text : ℕ → Option ℕ) (v : ImageData) (a w b o : ℕ) → Carries text v → text a ≡ Some w → place_of v a ≡ Some (b, o) → StandsFor v w a b o
stands_here text v a w b o c is place =
    let at = c.stands a w is in
    let same = same_place (place_of v a) b at.0 o at.1 place at.2 in
    subst (λ n. StandsFor v w a b n) same.1 (subst (λ n. StandsFor v w a n at.1) same.0 at.3)

module _ (v : ImageData) (f : Machine) (b o : ℕ) (m : MicroOp) (carried : Carries (fetched f.bus) v) (short : f.pc < 2 ^ 32) where
  of_text : place_of v f.pc ≡ Some (b, o) → IsTextOp (fetched f.bus) v b o m → AtText v f b o m
  of_text place h =
      let same : h.address ≡ f.pc = place_once (fetched f.bus) v h.address f.pc b o carried h.short short h.place place in
      let reads : fetched f.bus f.pc ≡ Some h.word = ap (λ a. fetched f.bus a) (sym same) ∙ h.stands in
      record {
        short = short;
        aligned = carried.aligned f.pc b o place;
        place = place;
        word = h.word;
        reads = reads;
        instruction = h.instruction;
        decodes = h.decodes;
        is = h.is ∙ ap (λ a. text_op v a h.instruction) same;
        stands = stands_here (fetched f.bus) v f.pc h.word b o carried reads place;
      }

  of_exit : FallAt v f.pc b o → IsExitOp v b o m → AtFall v f.pc b o m
  of_exit fall h = record { behind = fall; to = h.to; target = ap (λ a. row_of v a) (sym fall.leads) ∙ h.leads; is = h.is }

  of_word : GoesOn v f.pc b o → IsTextOp (fetched f.bus) v b o m ⊎ IsExitOp v b o m → IsKnown v f b o m
  of_word (inl place) (inl text) = inl (of_text place text)
  of_word (inl place) (inr exit) = absurd (exit.free f.pc place)
  of_word (inr fall) (inl text) = absurd (fall.no_place text.address text.place)
  of_word (inr fall) (inr exit) = inr (of_exit fall exit)

-- where a micro-op doesn't stop, and the run goes on at its place, it is of one of the two
pub known : (v : ImageData) (f : Machine) (b o : ℕ) (m : MicroOp) → Carries (fetched f.bus) v → f.pc < 2 ^ 32 → GoesOn v f.pc b o → IsWordOp (fetched f.bus) v b o m →
    (class_of m.code ≡ class.Stop → ⊥) → IsKnown v f b o m
known v f b o m carried short on (inl stops) goes = absurd (goes (ap (λ (q : MicroOp). class_of q.code) stops))
known v f b o m carried short on (inr word) goes = of_word v f b o m carried short on word

-- ---- which of the two

module _ (v : ImageData) (f : Machine) (b o : ℕ) (m : MicroOp) where
  pub text_of_class : IsKnown v f b o m → (class_of m.code ≡ class.Jal → ⊥) → AtText v f b o m
  text_of_class (inl text) other = text
  text_of_class (inr fall) other = absurd (other (ap (λ (q : MicroOp). class_of q.code) fall.is))

  pub text_of_return : IsKnown v f b o m → (m.rd ≡ 0 → ⊥) → AtText v f b o m
  text_of_return (inl text) keeps = text
  text_of_return (inr fall) keeps = absurd (keeps (ap (λ (q : MicroOp). q.rd) fall.is))

  pub text_of_exit : IsKnown v f b o m → (m.rs1 == 1) ≡ false → AtText v f b o m
  text_of_exit (inl text) plain = text
  text_of_exit (inr fall) plain = absurd (let marked : (m.rs1 == 1) ≡ true = ap (λ (q : MicroOp). q.rs1 == 1) fall.is in cc)

  pub fall_of_exit : IsKnown v f b o m → class_of m.code ≡ class.Jal → (m.rs1 == 1) ≡ true → AtFall v f.pc b o m
  fall_of_exit (inl text) jumps marked =
      absurd (
      let none : (m.rs1 == 1) ≡ false = ap (λ (q : MicroOp). q.rs1 == 1) text.is ∙ jal_unmarked v f.pc text.instruction (ap (λ (q : MicroOp). class_of q.code) (sym text.is) ∙ jumps) in cc
      )
  fall_of_exit (inr fall) jumps marked = fall
