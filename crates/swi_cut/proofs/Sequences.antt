-- LR/SC sequences, and the blocks that keep them.
use Rattle.std.proofs.Common.{◌≡◌, ◌≢◌, ◌↔◌, ℕ, ◌+◌, ◌<◌, ◌≤◌, length, Option, Some, arith, ◌∙◌, sym, inl, inr}
use Rattle.std.specs.Prelude.{IsTrue, nat_lt}
use Rattle.std.proofs.lemmas.Bool.{cases_eq, cases_lt, false≢true}
use Rattle.swi_isa.specs.declared.instr.AtomicOp.{AtomicOp}
use Rattle.swi_isa.specs.declared.instr.AtomicOp.TheVariants.{LrW, ScW}
use Rattle.swi_program.specs.Text.{TextData}
use Rattle.swi_image.specs.Format.{ImageData}
use Rattle.swi_image.specs.Place.{next_start}
use Rattle.swi_render.specs.ImageOf.{block_between}
use Rattle.swi_render.specs.Cut.{needs_of, IsCut}
use Rattle.swi_render.specs.Loops.{atomic_at, IsSequence, HasNoLr}
use Rattle.swi_render.proofs.Runs.{block_length, block_longer}
use Rattle.swi_cut.specs.declared.cutting.Cutting.{Cutting}
use Rattle.swi_cut.specs.declared.cutting.Cutting.TheVariants.{Greedy, WholeLoops}
use Rattle.swi_cut.specs.Cuts.{IsCutBy}
use Rattle.swi_cut.specs.Drafts.{IsRun, IsGreedy, IsWhole, IsSplit}
use Rattle.swi_cut.proofs.Drafted.{test_lt, test_ge}

not_both : (o : Option AtomicOp) → o ≡ Some LrW → o ≡ Some ScW → ⊥
not_both o a b = let e : Some LrW ≡ Some ScW = sym a ∙ b in cc

-- the text words from an LR.W up to another one are neither LR.W nor SC.W
pub record IsOpen (t : TextData) (lr k : ℕ) : Type 0 where
  pub no_lr : (j : ℕ) → lr < j → j < k → atomic_at t j ≢ Some LrW
  pub no_sc : (j : ℕ) → lr < j → j < k → atomic_at t j ≢ Some ScW

-- sequences have no text word in common
apart : (t : TextData) (lr sc lr_ sc_ : ℕ) → IsSequence t lr sc → IsSequence t lr_ sc_ → lr < lr_ → sc < lr_
apart t lr sc lr_ sc_ s s_ low = elim (cases_lt sc lr_) [
  | inl yes_ ↦ yes_
  | inr more ↦ elim (cases_eq sc lr_) [
    | inl same ↦ absurd (not_both (atomic_at t lr_) s_.reserves (rw same at s.stores))
    | inr less ↦ absurd (s.no_other_lr lr_ low (omega arith) s_.reserves)
  ]
]

-- a sequence fits into a block where the longest block that begins with it goes on behind it

pub split_yes : (t : TextData) (most lr sc end longest : ℕ) → IsSequence t lr sc → end ≤ sc → IsRun t most lr longest → sc < longest → IsSplit t most lr end
split_yes t most lr sc end longest s low r more = (
  sc,
  record {
    sequence = s;
    fits = omega (arith, block_longer t lr (sc + 1) longest (omega (arith, s.behind)) (omega arith) r.within, r.block);
  },
  low,
)

same_sc : (t : TextData) (lr sc sc_ : ℕ) → IsSequence t lr sc → IsSequence t lr sc_ → sc_ ≡ sc
same_sc t lr sc sc_ s s_ = elim (cases_lt sc sc_) [
  | inl more ↦ absurd (s_.no_other_sc sc s.behind more s.stores)
  | inr other ↦ elim (cases_eq sc_ sc) [
    | inl same ↦ same
    | inr less ↦ absurd (s.no_other_sc sc_ s_.behind (omega arith) s_.stores)
  ]
]

pub split_long : (t : TextData) (most lr sc end longest : ℕ) → IsSequence t lr sc → IsRun t most lr longest → IsGreedy t most lr longest → longest ≤ sc → IsSplit t most lr end → ⊥
split_long t most lr sc end longest s r g long p =
    let same = same_sc t lr sc p.0 s p.1.sequence in
    let fits : length (block_between t lr (sc + 1)) ≤ most = rw same at p.1.fits in
    let full = g.full (omega (arith, s.within)) in
    absurd (omega (arith, block_longer t lr (longest + 1) (sc + 1) (omega (arith, r.some)) (omega arith) (omega (arith, s.within))))

pub split_never : (t : TextData) (most lr end : ℕ) → most < needs_of t lr → IsSplit t most lr end → ⊥
split_never t most lr end long p =
    let s = p.1.sequence in
    absurd (omega (arith, block_longer t lr (lr + 1) (p.0 + 1) (omega arith) (omega (arith, s.behind)) (omega (arith, s.within)), block_length t lr lr (omega arith) (omega (arith, s.behind, s.within)), p.1.fits))

pub split_test : (t : TextData) (most lr sc end longest : ℕ) → IsSequence t lr sc → end ≤ sc → IsRun t most lr longest → IsGreedy t most lr longest → IsTrue (nat_lt sc longest) ↔ IsSplit t most lr end
split_test t most lr sc end longest s low r g = elim (cases_lt sc longest) [
  | inl more ↦ (λ yes_. split_yes t most lr sc end longest s low r more, λ p. test_lt sc longest more)
  | inr long ↦ (λ yes_. absurd (false≢true (sym (test_ge sc longest long) ∙ yes_)), λ p. absurd (split_long t most lr sc end longest s r g long p))
]

-- the text words so far begin no sequence that the block would split
abbrev pub SplitsNone : TextData → ℕ → ℕ → ℕ → ℕ → Type 0
SplitsNone t most first end k = (lr : ℕ) → first ≤ lr → lr < k → IsSplit t most lr end → ⊥

pub none_more : (t : TextData) (most first end k : ℕ) → SplitsNone t most first end k → (IsSplit t most k end → ⊥) → SplitsNone t most first end (k + 1)
none_more t most first end k n here = λ lr low high. elim (cases_eq lr k) [
  | inl same ↦ rw same here
  | inr other ↦ n lr low (omega arith)
]

-- a longest block that splits none is whole
pub whole_all : (t : TextData) (most first end : ℕ) → IsGreedy t most first end → SplitsNone t most first end end → IsWhole t most first end
whole_all t most first end g n = record {
  fit = g.fit;
  keeps = λ lr sc k low high. elim (cases_lt sc end) [
    | inl yes_ ↦ yes_
    | inr split ↦ absurd (n lr low high (sc, k, split))
  ];
  ends = λ more. inl (g.full more);
}

-- else it ends before the first that it would split

split_some : (t : TextData) (most first end lr : ℕ) → IsRun t most first end → IsGreedy t most first end → first ≤ lr → lr < end → IsSplit t most lr end → first < lr
split_some t most first end lr r g low high p = elim (cases_eq first lr) [
  | inl same ↦
      let s = p.1.sequence in
      let fits : length (block_between t first (p.0 + 1)) ≤ most = rw same p.1.fits in
      let full = g.full (omega (arith, s.within, p.2)) in
      absurd (omega (arith, block_longer t first (end + 1) (p.0 + 1) (omega (arith, r.some)) (omega (arith, p.2)) (omega (arith, s.within))))
  | inr other ↦ omega arith
]

pub whole_run : (t : TextData) (most first end lr : ℕ) → IsRun t most first end → IsGreedy t most first end → first ≤ lr → lr < end → IsSplit t most lr end → IsRun t most first lr
whole_run t most first end lr r g low high p =
    let some = split_some t most first end lr r g low high p in
    record {
      some = some;
      within = omega (arith, r.within);
      block = omega (arith, block_longer t first lr end some (omega arith) r.within, r.block);
    }

pub whole_before : (t : TextData) (most first end lr : ℕ) → IsRun t most first end → IsGreedy t most first end → SplitsNone t most first end lr → first ≤ lr → lr < end → IsSplit t most lr end → IsWhole t most first lr
whole_before t most first end lr r g n low high p =
    let s = p.1.sequence in
    record {
      fit = λ k from to. g.fit k from (omega arith);
      keeps = λ lr_ sc_ k from to. apart t lr_ sc_ lr p.0 k.sequence s to;
      ends = λ more. inr (p.0, p.1, omega (arith, g.full (omega (arith, s.within, p.2)), block_longer t first (end + 1) (p.0 + 1) (omega (arith, r.some)) (omega (arith, p.2)) (omega (arith, s.within))));
    }

-- a text without LR.W has the greedy cut
pub cut_plain : (c : Cutting) (t : TextData) (most : ℕ) (v : ImageData) → HasNoLr t → IsCutBy c t most v → IsCut t most v
cut_plain Greedy t most v none i = i
cut_plain WholeLoops t most v none i = record {
  image = i.image;
  version = i.version;
  most_words = i.most_words;
  full = λ b more. elim (i.ends b more) [
    | inl full ↦ full
    | inr before ↦ (let s = before.1.sequence in absurd (none (next_start v b) (omega (arith, s.behind, s.within)) s.reserves))
  ];
}
