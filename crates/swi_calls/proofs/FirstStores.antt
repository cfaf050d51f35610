-- The first step that would store into the text.
use Rattle.std.proofs.Common.{◌≡◌, ℕ, zero, suc, ◌<◌, true, false, [], ◌∷◌, Some, None, refl, arith}
use Rattle.swi_isa.specs.Table.{imm_u, imm_s}
use Rattle.swi_isa.specs.Decode.{decoded, decoded_by}
use Rattle.swi_memory.specs.Bus.{AreaData}
use Rattle.swi_exec.specs.Registers.{new_regs}
use Rattle.swi_exec.specs.declared.done.FaultKind.TheVariants.{StoreAccess}
use Rattle.swi_calls.specs.declared.end.End.TheVariants.{Faulted}
use Rattle.swi_calls.specs.State.{FlatState}
use Rattle.swi_calls.specs.Flat.{made, flat_run, started}
use Rattle.swi_calls.specs.FirstStore.{StoresAt}
use Rattle.swi_calls.specs.Held.{held_run, stopped_at}

-- auipc x5, 0 and sw x0, 0(x5), where they can be written
text : AreaData
text = record { base = 0x10000; flags = 7; file_size = 8; bytes = 0x97 ∷ 0x02 ∷ 0x00 ∷ 0x00 ∷ 0x23 ∷ 0xA0 ∷ 0x02 ∷ 0x00 ∷ [] }

-- the same, where they can't
fixed_text : AreaData
fixed_text = record text { flags = 5 }

-- a machine at the first of them
abbrev at_start : AreaData → FlatState
at_start area = started (record {
  pc = 0x10000;
  regs = new_regs;
  bus = area ∷ [];
  heap = record { base = 0; limit = 0; now = 0 };
  log = false;
  ending = None;
  steps = 0;
}) []

-- the second step is the first that would store into the text
none_before : (j : ℕ) → suc j < 2 → StoresAt (at_start text) j → ⊥
unfolding text flat_run made decoded decoded_by imm_u imm_s
none_before zero early h = let no_store : false ≡ true = h.stores in cc
none_before (suc j) early h = omega (arith, early)

second_stores_at : StoresAt (at_start text) 1
unfolding text flat_run made decoded decoded_by imm_u imm_s
second_stores_at = record { going = refl; stores = refl }

-- a store that faults is none
faults_first : StoresAt (at_start fixed_text) 1 → ⊥
unfolding text fixed_text flat_run made decoded decoded_by imm_u imm_s
faults_first h = let no_store : false ≡ true = h.stores in cc

-- over the fixed text the run ends before that store, and where the store faults it is the flat machine's
held_there : held_run 9 (at_start text) ≡ stopped_at (flat_run 1 (at_start text)) 0x10000
unfolding text flat_run held_run made decoded decoded_by imm_u imm_s
held_there = refl

held_fault : (held_run 9 (at_start fixed_text)).machine.ending ≡ Some (Faulted StoreAccess 0x10000)
unfolding text fixed_text held_run made decoded decoded_by imm_u imm_s
held_fault = refl
