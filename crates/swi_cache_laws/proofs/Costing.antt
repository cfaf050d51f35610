-- What one step costs at most, and what n steps write.
use Rattle.std.proofs.Common.{if◌then◌else◌, ℕ, ◌+◌, ◌*◌, ◌%◌, ◌^◌, ◌≤◌, ◌==◌, Bool, true, false, Option, Some, None, is_some, arith}
use Rattle.std.proofs.lemmas.Nat.{mul-le}
use Rattle.swi_isa.specs.declared.instr.Instr.{Instr}
use Rattle.swi_isa.specs.declared.instr.Instr.TheVariants as instr
use Rattle.swi_isa.specs.Decode.{decoded}
use Rattle.swi_memory.specs.Bus.{fetched}
use Rattle.swi_exec.specs.Registers.{reg}
use Rattle.swi_exec.specs.Execute.{is_taken}
use Rattle.swi_calls.specs.declared.machine.Machine.{Machine}
use Rattle.swi_calls.specs.Flat.{started}
use Rattle.swi_calls.specs.State.{FlatState}
use Rattle.swi_image.specs.Format.{ImageData}
use Rattle.swi_render.specs.Rendering.{jump, rendering, rendering_of}
use Rattle.swi_hart.specs.Hart.{instruction, slots_at, leads}
use Rattle.swi_rom.specs.Record.{writes}
use Rattle.swi_rom.specs.Service.{Setting}
use Rattle.swi_board.specs.Transfers.{Here, at_fall, settled, before_last, step_size, size, cost}
use Rattle.swi_board.proofs.Counting.{transfers_few}
use Rattle.swi_cache_laws.specs.Transfers.{after_boot}
use Rattle.swi_board.specs.Moments.{Policy}
use Rattle.swi_cache_laws.specs.Writes.{WritesFew}
use Rattle.swi_cache_laws.specs.Runs.{StepsCostFew, StepsWriteFew, transfers_from}

one_or_none : (t : Bool) → (if t then 1 else 0) ≤ 1
one_or_none true = omega arith
one_or_none false = omega arith

jump_leads : (q z : Bool) (rd t a : ℕ) → leads (jump q z rd t a) ≤ 2
jump_leads true true rd t a = omega arith
jump_leads true false rd t a = omega arith
jump_leads false z rd t a = omega arith

most : (f : Machine) (x : Option Instr) (w a : ℕ) → before_last f x (rendering_of x w a) ≤ 2
most f None w a = omega arith
most f (Some instr.Ebreak) w a = omega arith
most f (Some (instr.Auipc rd imm)) w a = omega arith
most f (Some (instr.Jal rd off)) w a = omega (arith, jump_leads ((a + off) % 2 ^ 32 % 4 == 0) (rd == 0) rd ((a + off) % 2 ^ 32) a)
most f (Some (instr.Jalr rd rs1 imm)) w a = omega arith
most f (Some (instr.Branch op rs1 rs2 off)) w a = omega (arith, one_or_none (is_taken op (reg f.regs rs1) (reg f.regs rs2)))
most f (Some y) w a = omega arith

before_most : (f : Machine) (w : Option ℕ) → before_last f (instruction w) (slots_at f.pc w) ≤ 2
unfolding rendering
before_most f None = omega arith
before_most f (Some w) = most f (decoded w) w f.pc

step_most : (f : Machine) (here : Here) → step_size 1 f here ≤ 3
step_most f None = omega arith
step_most f (Some p) = omega (arith, before_most f (fetched f.bus f.pc))

cost_most : (v : ImageData) (s : FlatState) (here : Here) → cost v 1 s here ≤ 4
unfolding size
cost_most v s here = by_end (is_some s.machine.ending)
  where
    by_end : (t : Bool) → (if t then 0 else (if at_fall v s.machine here then 1 else 0) + step_size 1 s.machine (settled v s.machine here) + 0) ≤ 4
    by_end true = omega arith
    by_end false = omega (arith, one_or_none (at_fall v s.machine here), step_most s.machine (settled v s.machine here))

pub steps_cost_few : StepsCostFew
steps_cost_few v s here = (cost_most v s here, λ n. transfers_few v n s here)

pub steps_write_few : (policy : Setting → Policy) → WritesFew policy → StepsWriteFew policy
steps_write_few policy few by v n f input place image is =
    let ts = transfers_from v n f input place in
    let w = few by v f.pc place ts image.image is in
    let r = after_boot (policy by) v f.pc ts in
    let services : r.counts.services ≤ 2 * n = omega (arith, w.services, transfers_few v n (started f input) (Some place)) in
    omega (arith, at_most (writes r) r.counts.services v.block_words (2 * n) services w.writes)
  where
    at_most : (wrote services words n : ℕ) → services ≤ n → wrote ≤ (services + 1) * words + 2 * services → wrote ≤ (n + 1) * words + 2 * n
    at_most wrote services words n le w = omega (arith, w, mul-le (services + 1) words (n + 1) words (omega arith) (omega arith))
