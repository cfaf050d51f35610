use Rattle.std.proofs.Common.{ℕ, ◌*◌, ◌/◌, ◌^◌, ◌≤◌, arith, refl, rules}
use Rattle.std.proofs.lemmas.Grind.{common_steps}
use Rattle.std.proofs.lemmas.Nat.{le-div, div-add-mod'}
use Rattle.swi_slots.proofs.Empty.{empty_serves, kept_empty}
use Rattle.swi_slots.proofs.slots.SlotRom.shared.Goals as goal

-- a cache of some slots, all in reach
some_slots : (bytes size : ℕ) → 2 ≤ size → 4 * size ≤ bytes → 1 ≤ bytes / 4 / size
some_slots bytes size least most = le-div 1 (bytes / 4) size (omega (arith, least)) (omega (arith, most))

few_words : (bytes size : ℕ) → bytes ≤ 2 ^ 23 → bytes / 4 / size * size ≤ 2 ^ 21
few_words bytes size limit = omega (arith, div-add-mod' (bytes / 4) size, limit)

pub invariant_of-result : goal.invariant_of-result
invariant_of-result g c = (
  record {
    some_slot = some_slots c.args.cache_bytes c.args.block_words c.requires.least c.requires.bytes;
    size_least = c.requires.least;
    size_most = c.requires.most;
    words_few = few_words c.args.cache_bytes c.args.block_words c.requires.limit;
    turn_below = c.requires.programs;
    programs_most = c.requires.few;
    next_below = some_slots c.args.cache_bytes c.args.block_words c.requires.least c.requires.bytes;
    filled_most = omega arith;
    blocks_long = grind (arith, common_steps);
    lengths_long = grind (arith, common_steps);
    targets_long = grind (arith, common_steps);
    next_is = omega arith;
    filled_is = omega arith;
  },
  search rules,
  search rules,
  search rules,
  search rules,
  search rules,
)

pub returns-clause-serves : goal.returns-clause-serves
returns-clause-serves g c = λ vs words images sizes fits.
    let slots = c.args.cache_bytes / 4 / c.args.block_words in (
      refl,
      empty_serves _ vs words (record {
        shape = record {
          some_slot = some_slots c.args.cache_bytes c.args.block_words c.requires.least c.requires.bytes;
          size_least = c.requires.least;
          size_most = c.requires.most;
          words_few = few_words c.args.cache_bytes c.args.block_words c.requires.limit;
          turn_below = c.requires.programs;
          programs_most = c.requires.few;
          next_below = some_slots c.args.cache_bytes c.args.block_words c.requires.least c.requires.bytes;
          filled_most = omega arith;
          blocks_long = grind (arith, common_steps);
          lengths_long = grind (arith, common_steps);
          targets_long = grind (arith, common_steps);
          next_is = omega arith;
          filled_is = omega arith;
        };
        filled = refl;
        targets = grind (arith, common_steps);
        services = refl;
        misses = refl;
        evictions = refl;
        links = refl;
        unlinks = refl;
        copied = refl;
      }) images sizes fits,
    )

pub returns-clause-kept : goal.returns-clause-kept
returns-clause-kept g c = kept_empty _ refl refl refl (grind (arith, common_steps)) refl
