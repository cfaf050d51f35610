-- A listing that is written line by line.
use Rattle.std.proofs.Common.{inl, inr, ◌≡◌, ℕ, zero, suc, ◌+◌, ◌<◌, ◌≤◌, List, [], ◌++◌, arith, sym, ap, ◌∙◌, Option}
use Rattle.std.proofs.lemmas.Bool.{cases_eq}
use Rattle.std.proofs.lemmas.List.{append_assoc, append-nil}
use Rattle.std.specs.Io.KnownBytes.{Appends}
use Rattle.swi_image.specs.Format.{ImageData}
use Rattle.swi_outside.specs.Laws.{Appends-none, Appends-append}
use Rattle.swi_outside.specs.Sink.{AppendsPrefix}
use Rattle.swi_outside.proofs.SinkLemmas.{prefix_behind}
use Rattle.swi_program.specs.Text.{TextData}
use Rattle.swi_trace.specs.Block.{first_lines, list_line}

-- the lines of the first words, and those of all others
parted : (t : TextData) (v : ImageData) (b k n : ℕ) → k ≤ n → (rest : List ℕ) × (first_lines t v b n ≡ first_lines t v b k ++ rest)
unfolding first_lines
parted t v b k zero within =
    let none : k ≡ zero = omega arith in
    ([], rw none (sym (append-nil _)))
parted t v b k (suc n) within = elim (cases_eq k (suc n)) [
  | inl all ↦ ([], rw all (sym (append-nil _)))
  | inr more ↦
      let before = parted t v b k n (omega arith) in
      (before.0 ++ list_line t v b n, ap (λ l. l ++ list_line t v b n) before.1 ∙ append_assoc (first_lines t v b k) before.0 (list_line t v b n))
]

pub no_lines : (t : TextData) (v : ImageData) (b : ℕ) (o : Option (List ℕ)) → Appends o o (first_lines t v b 0)
unfolding first_lines
no_lines t v b o = Appends-none o

-- one more line
pub line_more : (t : TextData) (v : ImageData) (b k : ℕ) (o p q : Option (List ℕ))
    → Appends o p (first_lines t v b k) → Appends p q (list_line t v b k) → Appends o q (first_lines t v b (k + 1))
unfolding first_lines
line_more t v b k o p q written line =
    let next : k + 1 ≡ suc k = omega arith in
    rw next (Appends-append o p q (first_lines t v b k) (list_line t v b k) written line)

-- a line that could not be written whole
pub line_broken : (t : TextData) (v : ImageData) (b k n : ℕ) (o p q : Option (List ℕ)) → k < n
    → Appends o p (first_lines t v b k) → AppendsPrefix p q (list_line t v b k) → AppendsPrefix o q (first_lines t v b n)
unfolding first_lines
line_broken t v b k n o p q within written front =
    let rest = parted t v b (suc k) n (omega arith) in
    let all : first_lines t v b n ≡ first_lines t v b k ++ (list_line t v b k ++ rest.0) =
    rest.1 ∙ append_assoc (first_lines t v b k) (list_line t v b k) rest.0 in
    rw all (prefix_behind o p q (first_lines t v b k) (list_line t v b k) rest.0 written front)
