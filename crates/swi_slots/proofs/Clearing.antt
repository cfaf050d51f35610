-- One word more, in the loop that drops the links of a slot.
use Rattle.std.proofs.Common.{◌≡◌, ℕ, ◌+◌, ◌*◌, ◌<◌, true, false, if◌then◌else◌, length, slice_index, slice_set, List, arith, refl, sym, ◌∙◌, ap, subst, inl, inr}
use Rattle.std.proofs.lemmas.List.{length-set, get_or-set_same, get_or-set_other}
use Rattle.std.proofs.lemmas.Bool.{cases_eq}
use Rattle.swi_outside.specs.CacheRam.{RamState, with_set}
use Rattle.swi_rom.specs.Record.{ebreak}
use Rattle.swi_rom.specs.Writing.{Wrote}
use Rattle.swi_slots.specs.Steps.{Cleared, leads_in, is_dropped, leading_in}
use Rattle.swi_slots.specs.Tells.{leading_more}
use Rattle.swi_rom.specs.Rams.{wrote_none, wrote_one, wrote_more}

pub cleared_none : (slots size slot : ℕ) (old : List ℕ) (a : RamState) → Cleared slots size slot 0 old old a a
unfolding leading_in
cleared_none slots size slot old a = record {
  length_stays = refl;
  dropped = λ i h. absurd (omega arith);
  rest = λ i h. refl;
  undone = λ i h. absurd (omega arith);
  beyond = λ i h. refl;
  wrote = wrote_none (slots * size) a;
}

-- every index below n + 1
below_next : (P : ℕ → Type 0) (n : ℕ) → ((i : ℕ) → i < n → P i) → P n → (i : ℕ) → i < n + 1 → P i
below_next P n below here i h = elim (cases_eq i n) [ inl e ↦ subst P (sym e) here | inr ne ↦ below i (grind arith) ]

-- the word is no link from or to the slot
pub cleared_keep : (slots size slot n : ℕ) (old new : List ℕ) (a b : RamState) → Cleared slots size slot n old new a b →
    is_dropped size slot old n ≡ false → leads_in size slot old n ≡ false → Cleared slots size slot (n + 1) old new a b
cleared_keep slots size slot n old new a b c keep quiet = record {
  length_stays = c.length_stays;
  dropped = below_next (λ (i : ℕ). slice_index new i ≡ (if is_dropped size slot old i then slots else slice_index old i)) n c.dropped (rw keep (c.rest n (omega arith)));
  rest = λ i h. c.rest i (omega arith);
  undone = below_next (λ (i : ℕ). slice_index b.words i ≡ (if leads_in size slot old i then ebreak else slice_index a.words i)) n c.undone (rw quiet (c.beyond n (omega arith)));
  beyond = λ i h. c.beyond i (omega arith);
  wrote = rw (leading_more size slot n old false quiet) c.wrote;
}

-- the targets after one is dropped
set_here : (slots size slot n : ℕ) (old mid : List ℕ) → length mid ≡ length old → n < length old → is_dropped size slot old n ≡ true →
    ((i : ℕ) → i < n → slice_index mid i ≡ (if is_dropped size slot old i then slots else slice_index old i)) →
    (i : ℕ) → i < n + 1 → slice_index (slice_set mid n slots) i ≡ (if is_dropped size slot old i then slots else slice_index old i)
set_here slots size slot n old mid long lt drops below =
    below_next (λ (i : ℕ). slice_index (slice_set mid n slots) i ≡ (if is_dropped size slot old i then slots else slice_index old i)) n
    (λ (i : ℕ) (h : i < n). get_or-set_other mid n i slots 0 (λ (e : i ≡ n). omega arith) ∙ below i h)
    (rw drops (get_or-set_same mid n slots 0 (omega arith)))

-- the word is a link of the slot itself
pub cleared_drop : (slots size slot n : ℕ) (old mid : List ℕ) (a b : RamState) → Cleared slots size slot n old mid a b → n < length old →
    is_dropped size slot old n ≡ true → leads_in size slot old n ≡ false → Cleared slots size slot (n + 1) old (slice_set mid n slots) a b
cleared_drop slots size slot n old mid a b c lt drops quiet = record {
  length_stays = length-set mid n slots ∙ c.length_stays;
  dropped = set_here slots size slot n old mid c.length_stays lt drops c.dropped;
  rest = λ i h. get_or-set_other mid n i slots 0 (λ (e : i ≡ n). omega arith) ∙ c.rest i (omega arith);
  undone = below_next (λ (i : ℕ). slice_index b.words i ≡ (if leads_in size slot old i then ebreak else slice_index a.words i)) n c.undone (rw quiet (c.beyond n (omega arith)));
  beyond = λ i h. c.beyond i (omega arith);
  wrote = rw (leading_more size slot n old false quiet) c.wrote;
}

-- the word is a link from another slot, and it has been undone
pub cleared_undo : (slots size slot n : ℕ) (old mid : List ℕ) (a b d : RamState) → Cleared slots size slot n old mid a b → n < length old → length old ≡ slots * size → n < length b.words →
    is_dropped size slot old n ≡ true → leads_in size slot old n ≡ true →
    d ≡ with_set b n ebreak →
    Cleared slots size slot (n + 1) old (slice_set mid n slots) a d
cleared_undo slots size slot n old mid a b d c lt long fits drops leads e =
    let words : d.words ≡ slice_set b.words n ebreak = ap (λ (s : RamState). s.words) e in
    record {
      length_stays = length-set mid n slots ∙ c.length_stays;
      dropped = set_here slots size slot n old mid c.length_stays lt drops c.dropped;
      rest = λ i h. get_or-set_other mid n i slots 0 (λ (e : i ≡ n). omega arith) ∙ c.rest i (omega arith);
      undone = rw words (below_next (λ (i : ℕ). slice_index (slice_set b.words n ebreak) i ≡ (if leads_in size slot old i then ebreak else slice_index a.words i)) n
          (λ (i : ℕ) (h : i < n). get_or-set_other b.words n i ebreak 0 (λ (e : i ≡ n). omega arith) ∙ c.undone i h)
          (rw leads (get_or-set_same b.words n ebreak 0 fits)));
      beyond = λ i h. rw words (get_or-set_other b.words n i ebreak 0 (λ (e : i ≡ n). omega arith) ∙ c.beyond i (omega arith));
      wrote = rw (leading_more size slot n old true leads) (subst (λ (k : ℕ). Wrote (slots * size) k a d) (omega arith)
          (wrote_more (slots * size) (slots * size) (leading_in size slot old n) 1 a b d c.wrote (wrote_one (slots * size) n ebreak b d (omega arith) e) (omega arith)));
    }
