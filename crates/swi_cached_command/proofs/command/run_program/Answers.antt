use Rattle.swi_outside.proofs.SourceLemmas.{given_still, rest_is}
use Rattle.swi_cached_task.proofs.Caching.{ring_chosen, slots_chosen}
use Rattle.swi_cached_command.proofs.Caching.{in_cache, none_run}
use Rattle.swi_cached_command.proofs.command.run_program.Goals as goal

pub returns-in-Ok-clause-gave : goal.returns-in-Ok-clause-gave
returns-in-Ok-clause-gave g c = c.run_over.ensures.gave

pub returns-in-Ok-clause-ran : goal.returns-in-Ok-clause-ran
returns-in-Ok-clause-ran g c = λ d input rest read. in_cache c.args.options.now c.args.cache.now c.args.image.now c.args.program.now c.args.layout.now _ _ _ _
    (slots_chosen c.args.cache.now c.args.image.now _ c.in-Slots.is c.in-Ok.ensures.cache) (c.run_over.ensures.ran d input rest read)

pub returns-in-Ok-ring_for-clause-gave : goal.returns-in-Ok-ring_for-clause-gave
returns-in-Ok-ring_for-clause-gave g c = c.run_over-in-Ring.ensures.gave

pub returns-in-Ok-ring_for-clause-ran : goal.returns-in-Ok-ring_for-clause-ran
returns-in-Ok-ring_for-clause-ran g c = λ d input rest read. in_cache c.args.options.now c.args.cache.now c.args.image.now c.args.program.now c.args.layout.now _ _ _ _
    (ring_chosen c.args.cache.now c.args.image.now _ c.in-Ring.is c.in-Ok-ring_for.ensures.cache) (c.run_over-in-Ring.ensures.ran d input rest read)

pub returns-in_default-clause-gave : goal.returns-in_default-clause-gave
returns-in_default-clause-gave g c = given_still _

pub returns-in_default-clause-ran : goal.returns-in_default-clause-ran
returns-in_default-clause-ran g c = λ d input rest read. rw (rest_is read) (none_run c.args.options.now _ c.args.image.now c.args.program.now c.args.layout.now _)

pub returns-in_default-ring_for-clause-gave : goal.returns-in_default-ring_for-clause-gave
returns-in_default-ring_for-clause-gave g c = given_still _

pub returns-in_default-ring_for-clause-ran : goal.returns-in_default-ring_for-clause-ran
returns-in_default-ring_for-clause-ran g c = λ d input rest read. rw (rest_is read) (none_run c.args.options.now _ c.args.image.now c.args.program.now c.args.layout.now _)
