-- Sets of a ram, one after the other.
use Rattle.std.proofs.Common.{◌≡◌, ◌⊎◌, ℕ, ◌+◌, ◌<◌, ◌≤◌, max, length, slice_index, slice_set, List, Result, Ok, Err, OnErr, true, arith, refl, ◌∙◌, ap, subst, inl, inr}
use Rattle.std.proofs.lemmas.List.{length-set, get_or-set_other}
use Rattle.swi_outside.specs.Causes.{Rose, risen}
use Rattle.swi_outside.specs.CacheRam.{RamState, with_set}
use Rattle.swi_rom.specs.Served.{Spared}
use Rattle.swi_rom.specs.Writing.{Wrote, FailedBelow}

pub on_err : {T E : Type 0} (r : Result T E) (P : Type 0) → P → OnErr r P
on_err (Ok x) P p = tt
on_err (Err e) P p = p

pub risen_more : (a n m : ℕ) → risen (risen a n) m ≡ risen a (n + m)
risen_more a n m = grind arith

pub spared_none : (span : ℕ) (a : RamState) → Spared span a a
spared_none span a = record { later = omega arith; fetches_stay = refl; fetched_at_stays = refl; length_stays = refl; beyond = λ i h. refl; reached = omega arith }

pub spared_more : (n m : ℕ) (a b c : RamState) → Spared n a b → Spared m b c → n ≤ m → Spared m a c
spared_more n m a b c p q le = record {
  later = omega arith;
  fetches_stay = q.fetches_stay ∙ p.fetches_stay;
  fetched_at_stays = q.fetched_at_stays ∙ p.fetched_at_stays;
  length_stays = q.length_stays ∙ p.length_stays;
  beyond = λ i h. q.beyond i h ∙ p.beyond i (omega arith);
  reached = omega arith;
}

pub wrote_none : (span : ℕ) (a : RamState) → Wrote span 0 a a
wrote_none span a = record { spared = spared_none span a; quiet = refl; sets_rise = omega arith }

pub wrote_more : (n m i j : ℕ) (a b c : RamState) → Wrote n i a b → Wrote m j b c → n ≤ m → Wrote m (i + j) a c
wrote_more n m i j a b c p q le = record {
  spared = spared_more n m a b c p.spared q.spared le;
  quiet = q.quiet ∙ p.quiet;
  sets_rise = q.sets_rise ∙ ap (λ (s : ℕ). risen s j) p.sets_rise ∙ risen_more a.sets i j;
}

pub failed_more : (n m i : ℕ) (a b c : RamState) → Wrote n i a b → FailedBelow m b c → n ≤ m → FailedBelow m a c
failed_more n m i a b c p q le = record {
  spared = spared_more n m a b c p.spared q.spared le;
  rose = subst (λ (f : ℕ). Rose f c.faults) p.quiet q.rose;
  last_failed = q.last_failed;
}

pub failed_wider : (n m : ℕ) (a b : RamState) → FailedBelow n a b → n ≤ m → FailedBelow m a b
failed_wider n m a b p le = record {
  spared = record { later = p.spared.later; fetches_stay = p.spared.fetches_stay; fetched_at_stays = p.spared.fetched_at_stays; length_stays = p.spared.length_stays; beyond = λ i h. p.spared.beyond i (omega arith); reached = omega (arith, p.spared.reached) };
  rose = p.rose;
  last_failed = p.last_failed;
}

pub wrote_wider : (n m i : ℕ) (a b : RamState) → Wrote n i a b → n ≤ m → Wrote m i a b
wrote_wider n m i a b p le = record {
  spared = record { later = p.spared.later; fetches_stay = p.spared.fetches_stay; fetched_at_stays = p.spared.fetched_at_stays; length_stays = p.spared.length_stays; beyond = λ j h. p.spared.beyond j (omega arith); reached = omega (arith, p.spared.reached) };
  quiet = p.quiet;
  sets_rise = p.sets_rise;
}

-- one set that succeeds
pub wrote_one : (span i w : ℕ) (a b : RamState) → i < span → b ≡ with_set a i w → Wrote span 1 a b
wrote_one span i w a b lt e = rw e (record {
  spared = record {
    later = omega arith;
    fetches_stay = refl;
    fetched_at_stays = refl;
    length_stays = length-set a.words i w;
    beyond = λ j h. get_or-set_other a.words i j w 0 (λ (s : j ≡ i). omega arith);
    reached = omega arith;
  };
  quiet = refl;
  sets_rise = refl;
})

set_either : (words before : List ℕ) (i j w : ℕ) → (words ≡ before) ⊎ (words ≡ slice_set before i w) → (j ≡ i → ⊥) →
    (length words ≡ length before) × (slice_index words j ≡ slice_index before j)
set_either words before i j w (inl e) ne = (ap length e, ap (λ (xs : List ℕ). slice_index xs j) e)
set_either words before i j w (inr e) ne = (ap length e ∙ length-set before i w, ap (λ (xs : List ℕ). slice_index xs j) e ∙ get_or-set_other before i j w 0 ne)

-- and one that fails
pub failed_one : (span i w : ℕ) (a b : RamState) → i < span →
    Rose a.faults b.faults × (a.faults ≤ b.faults) × ((b.words ≡ a.words) ⊎ (b.words ≡ slice_set a.words i w)) × (b ≡ record a { words = b.words; faults = b.faults; reach = max a.reach (i + 1); last_failed = true }) →
    FailedBelow span a b
failed_one span i w a b lt f = record {
  spared = record {
    later = f.1;
    fetches_stay = ap (λ (s : RamState). s.fetches) f.3;
    fetched_at_stays = ap (λ (s : RamState). s.fetched_at) f.3;
    length_stays = (set_either b.words a.words i (i + 1) w f.2 (λ (e : i + 1 ≡ i). omega arith)).0;
    beyond = λ j h. (set_either b.words a.words i j w f.2 (λ (e : j ≡ i). omega arith)).1;
    reached = omega (arith, ap (λ (s : RamState). s.reach) f.3);
  };
  rose = f.0;
  last_failed = ap (λ (s : RamState). s.last_failed) f.3;
}
