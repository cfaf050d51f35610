-- The longest block from a text word on.
use Rattle.std.proofs.Common.{◌≡◌, ℕ, ◌+◌, ◌<◌, ◌≤◌, length, arith, sym, inl, inr}
use Rattle.std.proofs.lemmas.Bool.{cases_eq}
use Rattle.swi_program.specs.Text.{TextData}
use Rattle.swi_render.specs.ImageOf.{block_between, rendering_at, offset_in}
use Rattle.swi_render.specs.Cut.{needs_of}
use Rattle.swi_render.proofs.Runs.{offset_first, offset_next, block_length}
use Rattle.swi_cut.specs.Drafts.{IsRun, IsGreedy}

-- the text words so far fit into a block
pub record IsGrowing (t : TextData) (most first k used : ℕ) : Type 0 where
  pub low : first ≤ k
  pub high : k ≤ length t.words
  pub used_is : used ≡ offset_in t first k
  pub fit : (j : ℕ) → first ≤ j → j < k → needs_of t j ≤ most
  pub block : first < k → length (block_between t first k) ≤ most

pub growing_start : (t : TextData) (most first : ℕ) → first < length t.words → IsGrowing t most first first 0
growing_start t most first within = record {
  low = omega arith;
  high = omega arith;
  used_is = sym (offset_first t first);
  fit = λ j low high. absurd (omega arith);
  block = λ more. absurd (omega arith);
}

pub growing_next : (t : TextData) (most first k used len needs : ℕ) → IsGrowing t most first k used → k < length t.words → needs ≡ needs_of t k → used + needs ≤ most → len ≡ length (rendering_at t k) →
    IsGrowing t most first (k + 1) (used + len)
growing_next t most first k used len needs g within needs_is room len_is = record {
  low = omega (arith, g.low);
  high = omega arith;
  used_is = omega (arith, offset_next t first k g.low within, g.used_is);
  fit = λ j low high. elim (cases_eq j k) [
    | inl same ↦ let here : needs_of t k ≤ most = omega arith in rw same here
    | inr other ↦ g.fit j low (omega arith)
  ];
  block = λ longer. omega (arith, block_length t first k g.low within, g.used_is);
}

pub growing_run : (t : TextData) (most first k used : ℕ) → IsGrowing t most first k used → first < k → IsRun t most first k
growing_run t most first k used g some = record { some = some; within = g.high; block = g.block some }

pub growing_stops : (t : TextData) (most first k used needs : ℕ) → IsGrowing t most first k used → k < length t.words → needs ≡ needs_of t k → most < used + needs → IsGreedy t most first k
growing_stops t most first k used needs g within needs_is long = record {
  fit = g.fit;
  full = λ more. omega (arith, block_length t first k g.low within, g.used_is);
}

pub growing_ends : (t : TextData) (most first k used : ℕ) → IsGrowing t most first k used → length t.words ≤ k → IsGreedy t most first k
growing_ends t most first k used g all = record { fit = g.fit; full = λ more. absurd (omega arith) }

pub ruleset runs = (growing_start, growing_run, growing_ends)
