-- The blocks of an image, cut again.
use Rattle.std.proofs.Common.{◌≡◌, ℕ, ◌+◌, ◌<◌, List, [], ◌∷◌, ◌++◌, length, get_or, take, nat_lt, arith, refl, ap, ◌∙◌, sym, subst, inl, inr, add-one, if◌then◌else◌}
use Rattle.std.proofs.Math.Seq.{take-suc}
use Rattle.std.proofs.lemmas.Bool.{cases_lt}
use Rattle.swi_program.specs.Text.{TextData}
use Rattle.swi_image.specs.Format.{ImageData}
use Rattle.swi_image.specs.Place.{next_start}
use Rattle.swi_image.specs.Sound.{IsImage}
use Rattle.swi_render.specs.ImageOf.{IsImageOf}
use Rattle.swi_cut.specs.declared.draft.Draft.{Draft}
use Rattle.swi_cut.specs.Upgrades.{IsMade}
use Rattle.swi_cut.specs.Drafts.{IsRun, IsDraft}
use Rattle.swi_cut.proofs.Drafted.{test_lt, test_ge}

-- the first text word of a block, and behind the last block the number of text words
abbrev pub done_at : ImageData → ℕ → ℕ
done_at v b = if nat_lt b (length v.starts) then get_or v.starts b 0 else length v.offsets

pub done_here : (v : ImageData) (b : ℕ) → b < length v.starts → done_at v b ≡ get_or v.starts b 0
done_here v b within = rw (test_lt b (length v.starts) within) refl

pub run_of : (t : TextData) (v : ImageData) (b : ℕ) → IsImageOf t v → IsImage v → b < length v.starts → IsRun t v.block_words (get_or v.starts b 0) (next_start v b)
run_of t v b i s within = record {
  some = elim (cases_lt (b + 1) (length v.starts)) [
    | inl more ↦ rw (test_lt (b + 1) (length v.starts) more) (s.ascending b more)
    | inr last ↦ rw (test_ge (b + 1) (length v.starts) last) (s.inside b within)
  ];
  within = elim (cases_lt (b + 1) (length v.starts)) [
    | inl more ↦ rw (test_lt (b + 1) (length v.starts) more) (omega (arith, s.inside (b + 1) more, i.len))
    | inr last ↦ rw (test_ge (b + 1) (length v.starts) last) (omega (arith, i.len))
  ];
  block = (i.blocks b within).fits;
}

-- what is cut after b blocks
pub record IsUpgrading (t : TextData) (v : ImageData) (b : ℕ) (d : Draft) : Type 0 where
  pub draft : IsDraft t v.block_words (done_at v b) d
  pub same : d.starts.items ≡ take b v.starts

pub upgrading_none : (t : TextData) (v : ImageData) (d : Draft) → IsImage v → IsDraft t v.block_words 0 d → d.starts.items ≡ [] → IsUpgrading t v 0 d
upgrading_none t v d i empty is = record {
  draft = subst (λ (n : ℕ). IsDraft t v.block_words n d) (sym (done_here v 0 (omega (arith, i.some)) ∙ i.first)) empty;
  same = is;
}

pub upgrading_more : (t : TextData) (v : ImageData) (b : ℕ) (d new : Draft) → b < length v.starts → IsUpgrading t v b d → new.starts.items ≡ d.starts.items ++ get_or v.starts b 0 ∷ [] →
    IsDraft t v.block_words (next_start v b) new → IsUpgrading t v (b + 1) new
upgrading_more t v b d new within u grown more = record {
  draft = more;
  same = grown ∙ (ap (λ (l : List ℕ). l ++ get_or v.starts b 0 ∷ []) u.same ∙ sym (rw add-one (take-suc v.starts b 0 within)));
}

pub made_as : (t : TextData) (most most_ : ℕ) (starts starts_ : List ℕ) (v : ImageData) → most ≡ most_ → starts ≡ starts_ → IsMade t most starts v → IsMade t most_ starts_ v
made_as t most most_ starts starts_ v a b m = rw (← a, ← b) m
