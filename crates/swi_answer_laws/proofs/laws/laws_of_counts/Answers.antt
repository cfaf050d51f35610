use Rattle.swi_answer_laws.proofs.Counted.{stats_cost_few, stats_have_room, stats_miss_few}
use Rattle.swi_answer_laws.proofs.laws.laws_of_counts.Goals as goal

pub returns : goal.returns
returns c = record { room = stats_have_room; misses = stats_miss_few; cost = stats_cost_few }
