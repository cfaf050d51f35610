-- The laws of a cache, and how few services its boot counts.
use Rattle.std.proofs.Common.{◌≡◌, ◌+◌, ◌≤◌, [], ap, ◌∙◌}
use Rattle.swi_calls.specs.declared.machine.Machine.{Machine}
use Rattle.swi_image.specs.Format.{ImageData}
use Rattle.swi_rom.specs.Record.{Record, Transfer, indirect}
use Rattle.swi_rom.specs.Service.{ServiceOf, IsService, Cache, cache_of}
use Rattle.swi_cached.specs.Cached.{CachedRun, IsFresh, record_at_boot}

-- the laws of a cache's policy, as those of a service
pub record Lawful (k : Cache) : Type 0 where
  pub one_service : (r : Record) (v : ImageData) (t : Transfer) → (k.policy r v t).counts.services ≤ r.counts.services + 1
  pub boot_uncounted : (r : Record) (v : ImageData) (t : Transfer) → r.placed ≡ [] → (k.policy r v t).counts.services ≡ r.counts.services

pub lawful : {S : Type 0} (k : ServiceOf S) → IsService k → (s : S) → Lawful (cache_of k s)
lawful {S} k laws s = record { one_service = laws.one_service (k.setting s); boot_uncounted = laws.boot_uncounted (k.setting s) }

-- the boot counts no service
pub boot_serves : (c : CachedRun) → Lawful c.cache → IsFresh c.cache.empty → (record_at_boot c).counts.services ≡ 0
boot_serves c laws fresh = laws.boot_uncounted c.cache.empty c.image (indirect c.start.machine.pc) fresh.unplaced ∙ fresh.unserved

pub services_booted : {S : Type 0} (k : ServiceOf S) → IsService k → (v : ImageData) (rom : S) (m : Machine) (kept : Record) → IsFresh (k.kept rom) → kept ≡ k.policy (k.setting rom) (k.kept rom) v (indirect m.pc) → kept.counts.services ≡ 0
services_booted k laws v rom m kept fresh is =
    ap (λ (r : Record). r.counts.services) is ∙ laws.boot_uncounted (k.setting rom) (k.kept rom) v (indirect m.pc) fresh.unplaced ∙ fresh.unserved
