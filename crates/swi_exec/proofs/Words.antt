-- The first 32 of 33 words, and a read or a write of one of them.
use Rattle.std.proofs.Common.{◌≡◌, ◌==◌, if◌then◌else◌, ℕ, ◌<◌, ◌≤◌, List, take, set, get_or, arith, sym, ap, ◌∙◌}
use Rattle.std.proofs.Math.Seq.{take-set-lt}
use Rattle.std.proofs.lemmas.Bool.Decides.{nat_tests}
use Rattle.std.proofs.lemmas.List.{get_or-set_other, get_or-take, set-get_or, set-set, set_comm, take-set-le}
use Rattle.swi_exec.specs.Registers.{register_at, with_word}

-- a read of register r
pub front_get : (words : List ℕ) (r : ℕ) → r < 32 → get_or words 0 0 ≡ 0 → get_or words r 0 ≡ (if r == 0 then 0 else get_or (take 32 words) r 0)
front_get words r below first = grind (arith, nat_tests, get_or-take 32 words r 0)

-- a write to register r and then of 0 to x0
pub front_set : (words : List ℕ) (r v : ℕ) → r < 32 → get_or words 0 0 ≡ 0 → take 32 (set (set words r v) 0 0) ≡ with_word (take 32 words) r v
front_set words r v below first =
    let same : set words 0 0 ≡ words = ap (λ (w : ℕ). set words 0 w) (sym first) ∙ set-get_or words 0 0 in
    grind (arith, nat_tests, set-set words 0 v 0, set_comm words r 0 v 0, take-set-lt 32 words r v)

-- a write to a place
pub front_put : (words : List ℕ) (place v : ℕ) → 0 < place → place ≤ 32 → take 32 (set words place v) ≡ with_word (take 32 words) (register_at place) v
front_put words place v some within = grind (arith, nat_tests, take-set-lt 32 words place v, take-set-le 32 words place v)

-- it leaves the first word
pub first_stays : (words : List ℕ) (place v : ℕ) → 0 < place → get_or (set words place v) 0 0 ≡ get_or words 0 0
first_stays words place v some = get_or-set_other words place 0 v 0 (λ e. omega (arith, e, some))

pub ruleset fronts = (front_get, front_set, front_put, first_stays)
