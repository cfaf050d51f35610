-- What the loop leaves behind each kind of micro-op.
use Rattle.std.proofs.Common.{◌≡◌, if◌then◌else◌, ℕ, ◌+◌, ◌-◌, ◌*◌, ◌/◌, ◌%◌, ◌^◌, ◌<◌, Bool, true, false, List, [], ◌∷◌, Some, refl, sym, ap, subst, ◌∙◌, arith}
use Rattle.swi_isa.specs.declared.instr.Instr.TheVariants as instr
use Rattle.swi_isa.specs.declared.instr.BranchOp.{BranchOp}
use Rattle.swi_memory.specs.Bus.{AreaData}
use Rattle.swi_outside.specs.CacheRam.{RamState, with_fetch}
use Rattle.swi_exec.specs.Arithmetic.{sum_of}
use Rattle.swi_exec.specs.Execute.{address_of, is_taken}
use Rattle.swi_exec.specs.Registers.{Registers, reg, with_reg}
use Rattle.swi_calls.specs.declared.machine.Machine.{Machine}
use Rattle.swi_calls.specs.Flat.{quiet}
use Rattle.swi_calls.specs.Held.{held_made}
use Rattle.swi_image.specs.Format.{ImageData}
use Rattle.swi_image.specs.Place.{length_at, word_at}
use Rattle.swi_micro.specs.declared.translator.MicroOp.{MicroOp}
use Rattle.swi_micro.specs.Ran.{is_gone}
use Rattle.swi_image_ops.specs.ImageOp.{row_of}
use Rattle.swi_image_ops.proofs.Standing.{AtFall, AtText}
use Rattle.swi_image_ops.proofs.Strides.{Branches, Calls, ExitTo, Exits, Pair, Returns, Straight, behind_pair, behind_straight, went}
use Rattle.swi_rom.specs.Record.{direct, indirect}
use Rattle.swi_rom.specs.Service.{IsService, ServiceOf}
use Rattle.swi_board.specs.Reached.{Passed, Reached}
use Rattle.swi_board.specs.Turning.{Begins, Turn, Turned, machine_at}
use Rattle.swi_board.proofs.Arms.{fall_arm, itself_jumps, itself_words, leap_arm, next_index, stay_arm}
use Rattle.swi_board.proofs.Turns.{FetchedRow, fetched_one, fetched_three, fetched_two}

module _ {S : Type 0} {k : ServiceOf S} {v : ImageData} {limit : ℕ} {first : Turn S} (laws : IsService k) (u : Begins k v limit first)
    {t : Turn S} (i : Turned k v limit first u.at t) (some : 0 < t.cursor.left) (m : MicroOp) where
  abbrev f : Machine
  f = machine_at limit t i.at.pc

  -- ---- steps that go on behind their words

  pub straight_turn : (x : AtText v (machine_at limit t i.at.pc) i.at.block i.at.offset m) (regs : Registers) (bus : List AreaData) (ram : RamState) →
      Straight (machine_at limit t i.at.pc) x.word regs bus → ram ≡ with_fetch t.ram (sum_of t.cursor.row t.cursor.delta) →
      Turned k v limit first u.at (record {
        machine = record t.machine { regs = regs; bus = bus };
        rom = t.rom;
        ram = ram;
        cursor = record { row = t.cursor.row + 1; delta = t.cursor.delta; left = t.cursor.left - 1; total = t.cursor.total };
      })
  straight_turn x regs bus ram s is =
      stay_arm laws u i some regs bus ram 1 1 t.cursor.total x.word s.instruction _ x.place x.reads s.is s.slots
      (itself_jumps (machine_at limit t i.at.pc) s.instruction s.itself) (ap (λ (n : ℕ). 0 + n + 1) (itself_words (machine_at limit t i.at.pc) s.instruction s.itself)) refl
      s.step (behind_straight v (machine_at limit t i.at.pc) i.at.block i.at.offset m x regs bus s) (omega arith, omega arith, omega arith)
      (subst (λ (r : RamState). FetchedRow 1 (sum_of t.cursor.row t.cursor.delta) t.ram r) (sym is) (fetched_one (sum_of t.cursor.row t.cursor.delta) t.ram)) refl

  pub pair_turn : (x : AtText v (machine_at limit t i.at.pc) i.at.block i.at.offset m) (regs : Registers) (ram : RamState) → Pair (machine_at limit t i.at.pc) x.word m →
      regs ≡ with_reg t.machine.regs m.rd m.imm → i.at.offset + 2 < length_at v i.at.block →
      ram ≡ with_fetch (with_fetch t.ram (sum_of t.cursor.row t.cursor.delta)) (sum_of (t.cursor.row + 1) t.cursor.delta) →
      Turned k v limit first u.at (record {
        machine = record t.machine { regs = regs };
        rom = t.rom;
        ram = ram;
        cursor = record { row = t.cursor.row + 2; delta = t.cursor.delta; left = t.cursor.left - 1; total = t.cursor.total + 1 };
      })
  pair_turn x regs ram p regs_is inside is =
      stay_arm laws u i some regs t.machine.bus ram 2 2 (t.cursor.total + 1) x.word (instr.Auipc m.rd p.imm) _ x.place x.reads p.is p.slots
      refl refl refl
      (subst (λ (r : Registers). (input : List ℕ) → held_made (machine_at limit t i.at.pc) input ≡ quiet (went (machine_at limit t i.at.pc) (sum_of i.at.pc 4) r t.machine.bus) input) (sym regs_is) p.step)
      (behind_pair v (machine_at limit t i.at.pc) i.at.block i.at.offset m x p) (omega arith, omega arith, omega arith)
      (subst (λ (r : RamState). FetchedRow 2 (sum_of t.cursor.row t.cursor.delta) t.ram r) (sym is)
      (fetched_two (sum_of t.cursor.row t.cursor.delta) (sum_of (t.cursor.row + 1) t.cursor.delta) t.ram (next_index laws u i 1 (omega (arith, inside))))) (omega arith)

  pub passed_turn : (by : BranchOp) (x : AtText v (machine_at limit t i.at.pc) i.at.block i.at.offset m) (ram : RamState) → Branches by v (machine_at limit t i.at.pc) i.at.block i.at.offset x.word m →
      is_gone by m t.machine.regs ≡ false → ram ≡ with_fetch t.ram (sum_of t.cursor.row t.cursor.delta) →
      Turned k v limit first u.at (record {
        machine = t.machine;
        rom = t.rom;
        ram = ram;
        cursor = record { row = t.cursor.row + 3; delta = t.cursor.delta; left = t.cursor.left - 1; total = t.cursor.total };
      })
  passed_turn by x ram b stays is =
      let untaken : is_taken b.op (reg t.machine.regs b.rs1) (reg t.machine.regs b.rs2) ≡ false = b.same ∙ stays in
      stay_arm laws u i some t.machine.regs t.machine.bus ram 1 3 t.cursor.total x.word (instr.Branch b.op b.rs1 b.rs2 b.off) _ x.place x.reads b.is b.slots
      untaken (ap (λ (q : Bool). 0 + (if q then 1 else 0) + 1) untaken) refl
      (b.passed stays) b.behind (omega arith, omega arith, omega arith)
      (subst (λ (r : RamState). FetchedRow 1 (sum_of t.cursor.row t.cursor.delta) t.ram r) (sym is) (fetched_one (sum_of t.cursor.row t.cursor.delta) t.ram)) refl

  -- ---- steps that jump

  -- the transfer over an exit of the block to the text word at an address
  over_exit : (d a row there exit : ℕ) (left : RamState) (rom : S) (ram : RamState) → ExitTo v i.at.block (i.at.offset + d) a row → exit ≡ t.cursor.row + d →
      Passed k v exit (record { rom = t.rom; ram = left }) (record { rom = rom; ram = ram }) there →
      Reached k v (direct i.at.block (i.at.offset + d) a) (record { rom = t.rom; ram = left }) (record { rom = rom; ram = ram }) there
  over_exit d a row there exit left rom ram e is passed =
      let room = e.room in
      let at = i.at.is_row in
      subst (λ (n : ℕ). Reached k v (direct i.at.block (i.at.offset + d) n) (record { rom = t.rom; ram = left }) (record { rom = rom; ram = ram }) there) e.leads
      (passed i.at.block (i.at.offset + d) i.at.known (omega (arith, room)) (omega (arith, is, at)))

  pub taken_turn : (by : BranchOp) (x : AtText v (machine_at limit t i.at.pc) i.at.block i.at.offset m) (b : Branches by v (machine_at limit t i.at.pc) i.at.block i.at.offset x.word m) →
      is_gone by m t.machine.regs ≡ true → (rom : S) (ram : RamState) (there delta : ℕ) →
      Passed k v (t.cursor.row + 1) (record { rom = t.rom; ram = with_fetch (with_fetch t.ram (sum_of t.cursor.row t.cursor.delta)) (sum_of (t.cursor.row + 1) t.cursor.delta) }) (record { rom = rom; ram = ram }) there →
      sum_of m.imm delta ≡ there →
      Turned k v limit first u.at (record {
        machine = t.machine;
        rom = rom;
        ram = ram;
        cursor = record { row = m.imm; delta = delta; left = t.cursor.left - 1; total = t.cursor.total + 1 };
      })
  taken_turn by x b goes rom ram there delta passed lands =
      let taken : is_taken b.op (reg t.machine.regs b.rs1) (reg t.machine.regs b.rs2) ≡ true = b.same ∙ goes in
      let room = b.exit.room in
      leap_arm laws u i (direct i.at.block (i.at.offset + 1) (sum_of i.at.pc b.off))
      (with_fetch (with_fetch t.ram (sum_of t.cursor.row t.cursor.delta)) (sum_of (t.cursor.row + 1) t.cursor.delta)) rom ram (sum_of i.at.pc b.off) there m.imm delta (omega arith)
      (over_exit 1 (sum_of i.at.pc b.off) m.imm there (t.cursor.row + 1) (with_fetch (with_fetch t.ram (sum_of t.cursor.row t.cursor.delta)) (sum_of (t.cursor.row + 1) t.cursor.delta)) rom ram b.exit refl passed)
      refl b.exit.target lands some t.machine.regs 2 (t.cursor.total + 1) x.word (instr.Branch b.op b.rs1 b.rs2 b.off) _ x.place x.reads b.is b.slots
      taken (ap (λ (q : Bool). 0 + (if q then 1 else 0) + 1) taken)
      (ap (λ (q : Bool). direct i.at.block (i.at.offset + (0 + (if q then 1 else 0))) (sum_of i.at.pc b.off) ∷ []) taken)
      (b.taken goes) (omega arith, omega arith) (omega (arith, room))
      (fetched_two (sum_of t.cursor.row t.cursor.delta) (sum_of (t.cursor.row + 1) t.cursor.delta) t.ram (next_index laws u i 1 (omega (arith, room)))) (omega arith)

  pub exit_turn : (x : AtText v (machine_at limit t i.at.pc) i.at.block i.at.offset m) (e : Exits v (machine_at limit t i.at.pc) i.at.block i.at.offset x.word m.imm) (rom : S) (ram : RamState) (there delta : ℕ) →
      Passed k v t.cursor.row (record { rom = t.rom; ram = with_fetch t.ram (sum_of t.cursor.row t.cursor.delta) }) (record { rom = rom; ram = ram }) there → sum_of m.imm delta ≡ there →
      Turned k v limit first u.at (record {
        machine = t.machine;
        rom = rom;
        ram = ram;
        cursor = record { row = m.imm; delta = delta; left = t.cursor.left - 1; total = t.cursor.total };
      })
  exit_turn x e rom ram there delta passed lands =
      let room = e.exit.room in
      let at = i.at.is_row in
      let reached = subst (λ (n : ℕ). Reached k v (direct i.at.block i.at.offset n) (record { rom = t.rom; ram = with_fetch t.ram (sum_of t.cursor.row t.cursor.delta) }) (record { rom = rom; ram = ram }) there) e.exit.leads
      (passed i.at.block i.at.offset i.at.known i.at.inside at) in
      let none : i.at.offset + (0 + 0) ≡ i.at.offset = omega arith in
      leap_arm laws u i (direct i.at.block i.at.offset (sum_of i.at.pc e.off)) (with_fetch t.ram (sum_of t.cursor.row t.cursor.delta)) rom ram (sum_of i.at.pc e.off) there m.imm delta (omega arith)
      reached refl e.exit.target lands some t.machine.regs 1 t.cursor.total x.word (instr.Jal 0 e.off) _ x.place x.reads e.is e.slots
      refl refl (ap (λ (n : ℕ). direct i.at.block n (sum_of i.at.pc e.off) ∷ []) none)
      e.step (omega arith, omega arith) (omega (arith, room))
      (fetched_one (sum_of t.cursor.row t.cursor.delta) t.ram) refl

  pub call_turn : (x : AtText v (machine_at limit t i.at.pc) i.at.block i.at.offset m) (row : ℕ) (c : Calls v (machine_at limit t i.at.pc) i.at.block i.at.offset x.word m row) (regs : Registers) →
      regs ≡ with_reg t.machine.regs m.rd m.imm → (rom : S) (ram : RamState) (there delta : ℕ) →
      Passed k v (t.cursor.row + 2) (record {
        rom = t.rom;
        ram = with_fetch (with_fetch (with_fetch t.ram (sum_of t.cursor.row t.cursor.delta)) (sum_of (t.cursor.row + 1) t.cursor.delta)) (sum_of (t.cursor.row + 2) t.cursor.delta);
      }) (record { rom = rom; ram = ram }) there → sum_of row delta ≡ there →
      Turned k v limit first u.at (record {
        machine = record t.machine { regs = regs };
        rom = rom;
        ram = ram;
        cursor = record { row = row; delta = delta; left = t.cursor.left - 1; total = t.cursor.total + 2 };
      })
  call_turn x row c regs regs_is rom ram there delta passed lands =
      let room = c.exit.room in
      let left : RamState = with_fetch (with_fetch (with_fetch t.ram (sum_of t.cursor.row t.cursor.delta)) (sum_of (t.cursor.row + 1) t.cursor.delta)) (sum_of (t.cursor.row + 2) t.cursor.delta) in
      leap_arm laws u i (direct i.at.block (i.at.offset + 2) (sum_of i.at.pc c.off))
      (with_fetch (with_fetch (with_fetch t.ram (sum_of t.cursor.row t.cursor.delta)) (sum_of (t.cursor.row + 1) t.cursor.delta)) (sum_of (t.cursor.row + 2) t.cursor.delta))
      rom ram (sum_of i.at.pc c.off) there row delta (omega arith)
      (over_exit 2 (sum_of i.at.pc c.off) row there (t.cursor.row + 2)
      (with_fetch (with_fetch (with_fetch t.ram (sum_of t.cursor.row t.cursor.delta)) (sum_of (t.cursor.row + 1) t.cursor.delta)) (sum_of (t.cursor.row + 2) t.cursor.delta)) rom ram c.exit refl passed)
      refl c.exit.target lands some regs 3 (t.cursor.total + 2) x.word (instr.Jal m.rd c.off) _ x.place x.reads c.is c.slots
      refl refl refl
      (subst (λ (r : Registers). (input : List ℕ) → held_made (machine_at limit t i.at.pc) input ≡ quiet (went (machine_at limit t i.at.pc) (sum_of i.at.pc c.off) r t.machine.bus) input) (sym regs_is) c.step)
      (omega arith, omega arith) (omega (arith, room))
      (fetched_three (sum_of t.cursor.row t.cursor.delta) (sum_of (t.cursor.row + 1) t.cursor.delta) (sum_of (t.cursor.row + 2) t.cursor.delta) t.ram
      (next_index laws u i 1 (omega (arith, room))) (next_index laws u i 2 (omega (arith, room)))) (omega arith)

  pub return_turn : (x : AtText v (machine_at limit t i.at.pc) i.at.block i.at.offset m) (r : Returns v (machine_at limit t i.at.pc) i.at.block i.at.offset x.word m) (a row : ℕ) (regs : Registers) →
      a ≡ address_of t.machine.regs m.rs1 m.imm / 2 * 2 → a % 4 ≡ 0 → a < 2 ^ 32 → row_of v a ≡ Some row → regs ≡ with_reg t.machine.regs m.rd (word_at v i.at.block (i.at.offset + 2)) →
      (rom : S) (ram : RamState) (there delta : ℕ) →
      Reached k v (indirect a) (record { rom = t.rom; ram = with_fetch t.ram (sum_of t.cursor.row t.cursor.delta) }) (record { rom = rom; ram = ram }) there → sum_of row delta ≡ there →
      Turned k v limit first u.at (record {
        machine = record t.machine { regs = regs };
        rom = rom;
        ram = ram;
        cursor = record { row = row; delta = delta; left = t.cursor.left - 1; total = t.cursor.total };
      })
  return_turn x r a row regs is four short target regs_is rom ram there delta reached lands =
      let room = r.room in
      let step = r.step (ap (λ (n : ℕ). n % 4) (sym is) ∙ four) in
      let regs_are : with_reg t.machine.regs m.rd (sum_of i.at.pc 4) ≡ regs = ap (λ (n : ℕ). with_reg t.machine.regs m.rd n) (sym r.return) ∙ sym regs_is in
      leap_arm laws u i (indirect a) (with_fetch t.ram (sum_of t.cursor.row t.cursor.delta)) rom ram a there row delta short
      reached refl target lands some regs 1 t.cursor.total x.word (instr.Jalr m.rd m.rs1 m.imm) _ x.place x.reads r.is r.slots
      refl refl refl
      (subst (λ (q : Registers). (input : List ℕ) → held_made (machine_at limit t i.at.pc) input ≡ quiet (went (machine_at limit t i.at.pc) a q t.machine.bus) input) regs_are
      (subst (λ (n : ℕ). (input : List ℕ) → held_made (machine_at limit t i.at.pc) input ≡ quiet (went (machine_at limit t i.at.pc) n (with_reg t.machine.regs m.rd (sum_of i.at.pc 4)) t.machine.bus) input) (sym is) step))
      (omega arith, omega arith) (omega (arith, room))
      (fetched_one (sum_of t.cursor.row t.cursor.delta) t.ram) refl

  -- ---- the exit behind a block's last text word

  pub fall_turn : (x : AtFall v i.at.pc i.at.block i.at.offset m) (rom : S) (ram : RamState) (there delta total left : ℕ) →
      Passed k v t.cursor.row (record { rom = t.rom; ram = with_fetch t.ram (sum_of t.cursor.row t.cursor.delta) }) (record { rom = rom; ram = ram }) there → sum_of m.imm delta ≡ there →
      total ≡ t.cursor.total + 1 → left ≡ t.cursor.left →
      Turned k v limit first u.at (record { machine = t.machine; rom = rom; ram = ram; cursor = record { row = m.imm; delta = delta; left = left; total = total } })
  fall_turn x rom ram there delta total left passed lands more same =
      let at = i.at.is_row in
      let reached = subst (λ (n : ℕ). Reached k v (direct i.at.block i.at.offset n) (record { rom = t.rom; ram = with_fetch t.ram (sum_of t.cursor.row t.cursor.delta) }) (record { rom = rom; ram = ram }) there) x.behind.leads
      (passed i.at.block i.at.offset i.at.known i.at.inside at) in
      fall_arm laws u i (direct i.at.block i.at.offset i.at.pc) (with_fetch t.ram (sum_of t.cursor.row t.cursor.delta)) rom ram i.at.pc there m.imm delta i.at.short reached refl
      (x.target ∙ ap (λ (q : MicroOp). Some q.imm) (sym x.is)) lands some total left x.behind refl refl
      (fetched_one (sum_of t.cursor.row t.cursor.delta) t.ram) more same
