-- The cache of a ring, from what a ring tells that was just made.
use Rattle.std.proofs.Common.{◌≡◌, ℕ, ◌/◌, ap, ◌∙◌}
use Rattle.swi_rom.specs.Record.{Record, empty_record}
use Rattle.swi_rom.specs.Service.{Setting, Cache, cache_of}
use Rattle.swi_ring.specs.Fifo.{ring, span_of, extent_of}
use Rattle.swi_ring.specs.Ring.{Ring, kept_by, setting_of}
use Rattle.swi_ring.specs.Service.{ring_service}
use Rattle.swi_ring.specs.Steps.{empty_ring}
use Rattle.swi_cached.specs.Ringed.{ring_setting, ringed}

-- the cache by a setting and what is kept
by : Setting → Record → Cache
by setting kept = record { span = span_of setting; empty = kept; policy = ring setting; extent = extent_of setting }

pub ring_cache_is : (bytes blocks : ℕ) (s : Ring) → s ≡ empty_ring (bytes / 4) blocks → kept_by s ≡ empty_record → cache_of ring_service s ≡ ringed bytes
unfolding by
ring_cache_is bytes blocks s is empty = ap (λ (k : Setting). by k (kept_by s)) (ap setting_of is) ∙ ap (λ (r : Record). by (ring_setting bytes) r) empty
