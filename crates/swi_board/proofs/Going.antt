-- A step of the loop: what it may count on, and what it leaves, by what its calls gave.
use Rattle.std.proofs.Common.{◌≡◌, ◌==◌, if◌then◌else◌, ℕ, ◌+◌, ◌-◌, ◌*◌, ◌/◌, ◌%◌, ◌^◌, ◌<◌, ◌≤◌, Bool, true, false, List, length, get_or, slice_set, Option, Some, None, refl, sym, ap, subst, ◌∙◌, inl, inr, arith}
use Rattle.std.proofs.lemmas.List.{get_or_default}
use Rattle.swi_isa.specs.declared.instr.BranchOp.{BranchOp}
use Rattle.swi_isa.specs.declared.instr.BranchOp.TheVariants.{Beq, Blt, Bltu}
use Rattle.swi_memory.specs.Bus.{AreaData, fetched}
use Rattle.swi_memory.specs.declared.word_range.WordRange.{WordRange}
use Rattle.swi_outside.specs.CacheRam.{RamState, with_fetch}
use Rattle.swi_exec.specs.Arithmetic.{sum_of}
use Rattle.swi_exec.specs.Execute.{address_of}
use Rattle.swi_exec.specs.Registers.{Registers, with_reg}
use Rattle.swi_image.specs.Format.{ImageData}
use Rattle.swi_image.specs.Place.{length_at, place_of, word_at}
use Rattle.swi_image.specs.Row.{row_index, row_inside, row_length}
use Rattle.swi_micro.specs.declared.class.Class.{Class}
use Rattle.swi_micro.specs.declared.class.Class.TheVariants as class
use Rattle.swi_micro.specs.declared.translator.MicroOp.{MicroOp}
use Rattle.swi_micro.specs.Classes.{class_of, code_of}
use Rattle.swi_micro.specs.Classes.{is_straight}
use Rattle.swi_micro.specs.MicroOp.{stop_op}
use Rattle.swi_micro.specs.Ran.{is_gone, ran_as}
use Rattle.swi_image_ops.specs.ImageOp.{AreImageOps, IsWordOp, row_at, row_of}
use Rattle.swi_image_ops.proofs.Standing.{AtFall, AtText, IsKnown, fall_of_exit, in_row, known, on_inside, text_of_class, text_of_exit, text_of_return}
use Rattle.swi_image_ops.proofs.Strides.{Branches, Calls, ExitTo, Exits, Pair, Returns, Straight, behind_pair, branches, call_room, calls, comparison_of, exits, pair, returns, straight, upper}
use Rattle.swi_rom.specs.Record.{indirect}
use Rattle.swi_rom.specs.Service.{IsService, ServiceOf}
use Rattle.swi_board.specs.Reached.{ExitInRow, Passed, Reached}
use Rattle.swi_board.specs.Turning.{Begins, IsComparison, IsOpInRow, Turn, Turned, machine_at}
use Rattle.swi_board.proofs.Arms.{carries, inside_ram, next_index}
use Rattle.swi_board.proofs.Falling.{is_fall_op, place_unmarked, turn_falls}
use Rattle.swi_board.proofs.OpSteps.{call_turn, exit_turn, fall_turn, pair_turn, passed_turn, return_turn, straight_turn, taken_turn}
use Rattle.swi_board.proofs.Turns.{count_room, services_room}

-- what has an index in the row has a place
placed : (v : ImageData) (a row : ℕ) → row_of v a ≡ Some row → place_of v a ≡ None → ⊥
placed v a row target none = let never : None ≡ Some row = sym (ap (λ (p : Option (ℕ × ℕ)). row_at v p) none) ∙ target in cc

-- the comparison of a class of branches
pub compared : (c : Class) (r : Bool) (m : MicroOp) (regs : Registers) → IsComparison c → (c ≡ class.Equal → r ≡ is_gone Beq m regs) → (c ≡ class.Less → r ≡ is_gone Blt m regs) →
    (c ≡ class.Below → r ≡ is_gone Bltu m regs) → (by : BranchOp) × (comparison_of c ≡ Some by) × (r ≡ is_gone by m regs)
compared c r m regs (inl is) equal less below = (Beq, ap (λ (d : Class). comparison_of d) is, equal is)
compared c r m regs (inr (inl is)) equal less below = (Blt, ap (λ (d : Class). comparison_of d) is, less is)
compared c r m regs (inr (inr is)) equal less below = (Bltu, ap (λ (d : Class). comparison_of d) is, below is)

no_stop : (c d : Class) → c ≡ d → (d ≡ class.Stop → ⊥) → c ≡ class.Stop → ⊥
no_stop c d is other stops = other (sym is ∙ stops)

-- x0 keeps what it has
pub kept_zero : (regs : Registers) (r n : ℕ) → (r == 0) ≡ true → regs ≡ with_reg regs r n
kept_zero regs r n is = ap (λ (b : Bool). record regs { words = if b then regs.words else slice_set regs.words r n }) (sym is)

-- the micro-ops of a row, one by one
pub op_in_row : {text : ℕ → Option ℕ} {v : ImageData} {ops : List MicroOp} → AreImageOps text v ops → (row : ℕ) (d m : MicroOp) → m ≡ get_or ops row d → IsOpInRow text v row m
op_in_row {text} {v} {ops} are row d m is b o known inside at =
    subst (λ (q : MicroOp). IsWordOp text v b o q) (sym is)
    (subst (λ (n : ℕ). IsWordOp text v b o (get_or ops n d)) (sym at) (are.each b o known inside d))

-- ---- turns are fewer and fewer

pub stays_fewer : (left next : ℕ) (x y : Bool) → 0 < left → next ≡ left → 2 * (next - 1) + (if x then 1 else 0) < 2 * left + (if y then 1 else 0)
stays_fewer left next x y some is = subst (λ (n : ℕ). 2 * (n - 1) + (if x then 1 else 0) < 2 * left + (if y then 1 else 0)) (sym is) (turn_falls left x y some)

falls_fewer : (left next : ℕ) (x y : Bool) → next ≡ left + 1 → x ≡ false → y ≡ true → 2 * (next - 1) + (if x then 1 else 0) < 2 * left + (if y then 1 else 0)
falls_fewer left next false true is none falls = omega (arith, is)
falls_fewer left next true y is none falls = absurd (let never : true ≡ false = none in cc)
falls_fewer left next false false is none falls = absurd (let never : false ≡ true = falls in cc)

module _ {S : Type 0} {k : ServiceOf S} {v : ImageData} {limit : ℕ} {first : Turn S} (laws : IsService k) (u : Begins k v limit first)
    {t : Turn S} (i : Turned k v limit first u.at t) (some : 0 < t.cursor.left) where
  -- ---- what it may count on

  pub row_in : t.cursor.row < row_length v
  row_in =
      let within = row_inside v i.at.block i.at.offset i.at.known i.at.inside in
      let is = i.at.is_row in
      omega (arith, within, is)

  pub at_inside : sum_of t.cursor.row t.cursor.delta < length t.ram.words
  at_inside = let inside = inside_ram laws u i i.at.offset i.at.inside in let is = i.at.index in omega (arith, inside, is)

  pub few_services : (k.kept t.rom).counts.services < 2 ^ 50
  few_services = services_room laws i u.hart u.underway u.small some

  pub total_short : t.cursor.total < 2 ^ 57
  total_short =
      let few = count_room laws i u.hart u.underway u.small some in
      let left = i.within.left in
      let small = u.small in
      omega (arith, few, left, small)

  pub left_short : t.cursor.left ≤ 2 ^ 48
  left_short = let left = i.within.left in let small = u.small in omega (arith, left, small)

  -- the micro-op there, and one behind it
  pub op_here : (m : MicroOp) → IsOpInRow (fetched t.machine.bus) v t.cursor.row m → IsWordOp (fetched t.machine.bus) v i.at.block i.at.offset m
  op_here m is = is i.at.block i.at.offset i.at.known i.at.inside i.at.is_row

  pub known_here : (m : MicroOp) → IsOpInRow (fetched t.machine.bus) v t.cursor.row m → (class_of m.code ≡ class.Stop → ⊥) → IsKnown v (machine_at limit t i.at.pc) i.at.block i.at.offset m
  known_here m is goes = known v (machine_at limit t i.at.pc) i.at.block i.at.offset m (carries laws u i) i.at.short i.at.goes (op_here m is) goes

  pub text_here : (m : MicroOp) (c : Class) → class_of m.code ≡ c → (c ≡ class.Stop → ⊥) → (c ≡ class.Jal → ⊥) → IsOpInRow (fetched t.machine.bus) v t.cursor.row m → AtText v (machine_at limit t i.at.pc) i.at.block i.at.offset m
  text_here m c is goes other op = text_of_class v (machine_at limit t i.at.pc) i.at.block i.at.offset m (known_here m op (λ stops. goes (sym is ∙ stops))) (λ jumps. other (sym is ∙ jumps))

  -- an exit of the block
  exit_on : (d a row : ℕ) → ExitTo v i.at.block (i.at.offset + d) a row → ExitInRow v (k.kept t.rom) (t.cursor.row + d) (sum_of (t.cursor.row + d) t.cursor.delta)
  exit_on d a row e =
      let room = e.room in
      let is = i.at.is_row in
      let at = i.at.index in
      let on = next_index laws u i d (omega (arith, room)) in
      record {
        block = i.at.block;
        offset = i.at.offset + d;
        first = i.at.first;
        known = i.at.known;
        is_exit = record { inside = omega (arith, room); leaves = e.leaves; direct = ap (λ (n : ℕ). n % 4) e.leads ∙ e.aligned };
        leads = λ none. placed v a row e.target (ap (λ (n : ℕ). place_of v n) (sym e.leads) ∙ none);
        row = omega (arith, is);
        is_placed = i.at.is_placed;
        index = omega (arith, on, at);
      }

  exit_here : (a row : ℕ) → ExitTo v i.at.block i.at.offset a row → ExitInRow v (k.kept t.rom) t.cursor.row (sum_of t.cursor.row t.cursor.delta)
  exit_here a row e =
      let room = e.room in
      record {
        block = i.at.block;
        offset = i.at.offset;
        first = i.at.first;
        known = i.at.known;
        is_exit = record { inside = omega (arith, room); leaves = e.leaves; direct = ap (λ (n : ℕ). n % 4) e.leads ∙ e.aligned };
        leads = λ none. placed v a row e.target (ap (λ (n : ℕ). place_of v n) (sym e.leads) ∙ none);
        row = i.at.is_row;
        is_placed = i.at.is_placed;
        index = i.at.index;
      }

  fall_here : (m : MicroOp) → AtFall v i.at.pc i.at.block i.at.offset m → ExitInRow v (k.kept t.rom) t.cursor.row (sum_of t.cursor.row t.cursor.delta)
  fall_here m x = record {
    block = i.at.block;
    offset = i.at.offset;
    first = i.at.first;
    known = i.at.known;
    is_exit = record { inside = x.behind.inside; leaves = x.behind.leaves; direct = ap (λ (n : ℕ). n % 4) x.behind.leads ∙ x.behind.aligned };
    leads = λ none. placed v i.at.pc x.to x.target (ap (λ (n : ℕ). place_of v n) (sym x.behind.leads) ∙ none);
    row = i.at.is_row;
    is_placed = i.at.is_placed;
    index = i.at.index;
  }

  -- ---- branches

  module _ (m : MicroOp) (by : BranchOp) (op : IsOpInRow (fetched t.machine.bus) v t.cursor.row m) (compares : comparison_of (class_of m.code) ≡ Some by) where
    branch_text : AtText v (machine_at limit t i.at.pc) i.at.block i.at.offset m
    branch_text =
        text_of_class v (machine_at limit t i.at.pc) i.at.block i.at.offset m
        (known_here m op (λ stops. let never : None ≡ Some by = sym (ap (λ (c : Class). comparison_of c) stops) ∙ compares in cc))
        (λ jumps. let never : None ≡ Some by = sym (ap (λ (c : Class). comparison_of c) jumps) ∙ compares in cc)

    branch_is : Branches by v (machine_at limit t i.at.pc) i.at.block i.at.offset branch_text.word m
    branch_is = branches v (machine_at limit t i.at.pc) i.at.block i.at.offset m branch_text (carries laws u i) by compares

    pub branch_exit : ExitInRow v (k.kept t.rom) (t.cursor.row + 1) (sum_of (t.cursor.row + 1) t.cursor.delta)
    branch_exit = exit_on 1 _ m.imm branch_is.exit

    pub branch_passed : (at : ℕ) (ram : RamState) → is_gone by m t.machine.regs ≡ false → at ≡ sum_of t.cursor.row t.cursor.delta → ram ≡ with_fetch t.ram at →
        Turned k v limit first u.at (record {
          machine = t.machine;
          rom = t.rom;
          ram = ram;
          cursor = record { row = t.cursor.row + 3; delta = t.cursor.delta; left = t.cursor.left - 1; total = t.cursor.total };
        })
    branch_passed at ram stays is fetches = passed_turn laws u i some m by branch_text ram branch_is stays (fetches ∙ ap (λ (n : ℕ). with_fetch t.ram n) is)

    pub branch_taken : (at exit : ℕ) (ram : RamState) → is_gone by m t.machine.regs ≡ true → at ≡ sum_of t.cursor.row t.cursor.delta → ram ≡ with_fetch t.ram at → exit ≡ sum_of (t.cursor.row + 1) t.cursor.delta →
        (rom : S) (after : RamState) (there row delta : ℕ) → Passed k v (t.cursor.row + 1) (record { rom = t.rom; ram = with_fetch ram exit }) (record { rom = rom; ram = after }) there →
        row ≡ m.imm → sum_of row delta ≡ there →
        Turned k v limit first u.at (record {
          machine = t.machine;
          rom = rom;
          ram = after;
          cursor = record { row = row; delta = delta; left = t.cursor.left - 1; total = t.cursor.total + 1 };
        })
    branch_taken at exit ram goes is fetches out rom after there row delta passed to lands =
        let left : with_fetch ram exit ≡ with_fetch (with_fetch t.ram (sum_of t.cursor.row t.cursor.delta)) (sum_of (t.cursor.row + 1) t.cursor.delta) =
        ap (λ (n : ℕ). with_fetch ram n) out ∙ ap (λ (r : RamState). with_fetch r (sum_of (t.cursor.row + 1) t.cursor.delta)) (fetches ∙ ap (λ (n : ℕ). with_fetch t.ram n) is) in
        subst (λ (n : ℕ). Turned k v limit first u.at (record {
          machine = t.machine;
          rom = rom;
          ram = after;
          cursor = record { row = n; delta = delta; left = t.cursor.left - 1; total = t.cursor.total + 1 };
        })) (sym to)
        (taken_turn laws u i some m by branch_text branch_is goes rom after there delta
        (subst (λ (r : RamState). Passed k v (t.cursor.row + 1) (record { rom = t.rom; ram = r }) (record { rom = rom; ram = after }) there) left passed)
        (ap (λ (n : ℕ). sum_of n delta) (sym to) ∙ lands))

  -- ---- exits

  module _ (m : MicroOp) (op : IsOpInRow (fetched t.machine.bus) v t.cursor.row m) (jumps : class_of m.code ≡ class.Jal) where
    jal_known : IsKnown v (machine_at limit t i.at.pc) i.at.block i.at.offset m
    jal_known = known_here m op (λ stops. let never : class.Jal ≡ class.Stop = sym jumps ∙ stops in cc)

    module _ (unmarked : (m.rs1 == 1) ≡ false) (none : m.rd ≡ 0) where
      exit_text : AtText v (machine_at limit t i.at.pc) i.at.block i.at.offset m
      exit_text = text_of_exit v (machine_at limit t i.at.pc) i.at.block i.at.offset m jal_known unmarked

      exit_is : Exits v (machine_at limit t i.at.pc) i.at.block i.at.offset exit_text.word m.imm
      exit_is = exits v (machine_at limit t i.at.pc) i.at.block i.at.offset m exit_text (carries laws u i) jumps none

      exit_step_exit : ExitInRow v (k.kept t.rom) t.cursor.row (sum_of t.cursor.row t.cursor.delta)
      exit_step_exit = exit_here _ m.imm exit_is.exit

    fall_is : (m.rs1 == 1) ≡ true → AtFall v i.at.pc i.at.block i.at.offset m
    fall_is marked = fall_of_exit v (machine_at limit t i.at.pc) i.at.block i.at.offset m jal_known jumps marked

    pub jal_exit : m.rd ≡ 0 → ExitInRow v (k.kept t.rom) t.cursor.row (sum_of t.cursor.row t.cursor.delta)
    jal_exit none = by (m.rs1 == 1) refl
      where
        by : (b : Bool) → (m.rs1 == 1) ≡ b → ExitInRow v (k.kept t.rom) t.cursor.row (sum_of t.cursor.row t.cursor.delta)
        by true is = fall_here m (fall_is is)
        by false is = exit_step_exit is none

    -- where it leads stands a text word
    pub jal_lands : m.rd ≡ 0 → (a : ℕ) × (row_of v a ≡ Some m.imm)
    jal_lands none = by (m.rs1 == 1) refl
      where
        by : (b : Bool) → (m.rs1 == 1) ≡ b → (a : ℕ) × (row_of v a ≡ Some m.imm)
        by true is = let x = fall_is is in (i.at.pc, x.target ∙ ap (λ (q : MicroOp). Some q.imm) (sym x.is))
        by false is = (_, (exit_is is none).exit.target)

    module _ (at : ℕ) (rom : S) (after : RamState) (there row delta : ℕ) (is : at ≡ sum_of t.cursor.row t.cursor.delta)
        (passed : Passed k v t.cursor.row (record { rom = t.rom; ram = with_fetch t.ram at }) (record { rom = rom; ram = after }) there) (to : row ≡ m.imm) (lands : sum_of row delta ≡ there) where
      passed_here : Passed k v t.cursor.row (record { rom = t.rom; ram = with_fetch t.ram (sum_of t.cursor.row t.cursor.delta) }) (record { rom = rom; ram = after }) there
      passed_here = subst (λ (n : ℕ). Passed k v t.cursor.row (record { rom = t.rom; ram = with_fetch t.ram n }) (record { rom = rom; ram = after }) there) is passed

      pub exit_made : m.rd ≡ 0 → (m.rs1 == 1) ≡ false →
          Turned k v limit first u.at (record {
            machine = t.machine;
            rom = rom;
            ram = after;
            cursor = record { row = row; delta = delta; left = t.cursor.left - 1; total = t.cursor.total };
          })
      exit_made none unmarked =
          subst (λ (n : ℕ). Turned k v limit first u.at (record {
            machine = t.machine;
            rom = rom;
            ram = after;
            cursor = record { row = n; delta = delta; left = t.cursor.left - 1; total = t.cursor.total };
          })) (sym to)
          (exit_turn laws u i some m (exit_text unmarked none) (exit_is unmarked none) rom after there delta passed_here (ap (λ (n : ℕ). sum_of n delta) (sym to) ∙ lands))

      pub fall_made : (m.rs1 == 1) ≡ true →
          Turned k v limit first u.at (record {
            machine = t.machine;
            rom = rom;
            ram = after;
            cursor = record { row = row; delta = delta; left = t.cursor.left + 1 - 1; total = t.cursor.total + 1 };
          })
      fall_made marked =
          subst (λ (n : ℕ). Turned k v limit first u.at (record {
            machine = t.machine;
            rom = rom;
            ram = after;
            cursor = record { row = n; delta = delta; left = t.cursor.left + 1 - 1; total = t.cursor.total + 1 };
          })) (sym to)
          (fall_turn laws u i some m (fall_is marked) rom after there delta (t.cursor.total + 1) (t.cursor.left + 1 - 1) passed_here (ap (λ (n : ℕ). sum_of n delta) (sym to) ∙ lands) refl (omega arith))

    -- ---- calls

    module _ (keeps : m.rd ≡ 0 → ⊥) where
      call_text : AtText v (machine_at limit t i.at.pc) i.at.block i.at.offset m
      call_text = text_of_return v (machine_at limit t i.at.pc) i.at.block i.at.offset m jal_known keeps

      pub call_inside : t.cursor.row + 2 < row_length v
      call_inside =
          let room = call_room v (machine_at limit t i.at.pc) i.at.block i.at.offset m call_text (carries laws u i) jumps keeps in
          let within = row_inside v i.at.block (i.at.offset + 2) i.at.known (omega (arith, room)) in
          let is = i.at.is_row in
          omega (arith, within, is)

      module _ (exit : MicroOp) (last : IsOpInRow (fetched t.machine.bus) v (t.cursor.row + 2) exit) (leaves : (exit.code ≡ code_of class.Jal) × (exit.rd ≡ 0)) where
        last_op : IsWordOp (fetched t.machine.bus) v i.at.block (i.at.offset + 2) exit
        last_op =
            let room = call_room v (machine_at limit t i.at.pc) i.at.block i.at.offset m call_text (carries laws u i) jumps keeps in
            let is = i.at.is_row in
            last i.at.block (i.at.offset + 2) i.at.known (omega (arith, room)) (omega (arith, is))

        call_is : Calls v (machine_at limit t i.at.pc) i.at.block i.at.offset call_text.word m exit.imm
        call_is = calls v (machine_at limit t i.at.pc) i.at.block i.at.offset m call_text (carries laws u i) jumps keeps exit last_op leaves.0 leaves.1

        pub call_exit : ExitInRow v (k.kept t.rom) (t.cursor.row + 2) (sum_of (t.cursor.row + 2) t.cursor.delta)
        call_exit = exit_on 2 _ exit.imm call_is.exit

        -- the index of the word between
        pub middle_inside : sum_of (t.cursor.row + 1) t.cursor.delta < length t.ram.words
        middle_inside =
            let room = call_is.exit.room in
            let on = next_index laws u i 1 (omega (arith, room)) in
            let inside = inside_ram laws u i (i.at.offset + 1) (omega (arith, room)) in
            let at = i.at.index in
            omega (arith, on, inside, at)

        pub call_made : (at middle out : ℕ) (one two : RamState) → at ≡ sum_of t.cursor.row t.cursor.delta → one ≡ with_fetch t.ram at → middle ≡ sum_of (t.cursor.row + 1) t.cursor.delta → two ≡ with_fetch one middle →
            out ≡ sum_of (t.cursor.row + 2) t.cursor.delta → (regs : Registers) → regs ≡ with_reg t.machine.regs m.rd m.imm → (rom : S) (after : RamState) (there row delta : ℕ) →
            Passed k v (t.cursor.row + 2) (record { rom = t.rom; ram = with_fetch two out }) (record { rom = rom; ram = after }) there → row ≡ exit.imm → sum_of row delta ≡ there →
            Turned k v limit first u.at (record {
              machine = record t.machine { regs = regs };
              rom = rom;
              ram = after;
              cursor = record { row = row; delta = delta; left = t.cursor.left - 1; total = t.cursor.total + 2 };
            })
        call_made at middle out one two is first_is between second_is last_is regs regs_is rom after there row delta passed to lands =
            let one_is : one ≡ with_fetch t.ram (sum_of t.cursor.row t.cursor.delta) = first_is ∙ ap (λ (n : ℕ). with_fetch t.ram n) is in
            let two_is : two ≡ with_fetch (with_fetch t.ram (sum_of t.cursor.row t.cursor.delta)) (sum_of (t.cursor.row + 1) t.cursor.delta) =
            second_is ∙ ap (λ (n : ℕ). with_fetch one n) between ∙ ap (λ (r : RamState). with_fetch r (sum_of (t.cursor.row + 1) t.cursor.delta)) one_is in
            let left : with_fetch two out ≡ with_fetch (with_fetch (with_fetch t.ram (sum_of t.cursor.row t.cursor.delta)) (sum_of (t.cursor.row + 1) t.cursor.delta)) (sum_of (t.cursor.row + 2) t.cursor.delta) =
            ap (λ (n : ℕ). with_fetch two n) last_is ∙ ap (λ (r : RamState). with_fetch r (sum_of (t.cursor.row + 2) t.cursor.delta)) two_is in
            subst (λ (n : ℕ). Turned k v limit first u.at (record {
              machine = record t.machine { regs = regs };
              rom = rom;
              ram = after;
              cursor = record { row = n; delta = delta; left = t.cursor.left - 1; total = t.cursor.total + 2 };
            })) (sym to)
            (call_turn laws u i some m call_text exit.imm call_is regs regs_is rom after there delta
            (subst (λ (r : RamState). Passed k v (t.cursor.row + 2) (record { rom = t.rom; ram = r }) (record { rom = rom; ram = after }) there) left passed)
            (ap (λ (n : ℕ). sum_of n delta) (sym to) ∙ lands))

  -- ---- jumps over a register

  module _ (m : MicroOp) (op : IsOpInRow (fetched t.machine.bus) v t.cursor.row m) (jumps : class_of m.code ≡ class.Jalr) where
    return_text : AtText v (machine_at limit t i.at.pc) i.at.block i.at.offset m
    return_text = text_here m class.Jalr jumps (λ e. cc) (λ e. cc) op

    return_is : Returns v (machine_at limit t i.at.pc) i.at.block i.at.offset return_text.word m
    return_is = returns v (machine_at limit t i.at.pc) i.at.block i.at.offset m return_text jumps

    -- the word that has the return address
    pub link_inside : t.cursor.row + 2 < row_length v
    link_inside =
        let room = return_is.room in
        let within = row_inside v i.at.block (i.at.offset + 2) i.at.known (omega (arith, room)) in
        let is = i.at.is_row in
        omega (arith, within, is)

    pub link_at : (word at : ℕ) → at ≡ t.cursor.row + 2 → ((b o : ℕ) → b < length v.starts → o < length_at v b → at ≡ row_index v b o → word ≡ word_at v b o) → word ≡ word_at v i.at.block (i.at.offset + 2)
    link_at word at at_is reads =
        let room = return_is.room in
        let is = i.at.is_row in
        reads i.at.block (i.at.offset + 2) i.at.known (omega (arith, room)) (omega (arith, is, at_is))

    pub return_made : (a at : ℕ) (regs : Registers) (rom : S) (after : RamState) (there row delta : ℕ) → a ≡ address_of t.machine.regs m.rs1 m.imm / 2 * 2 → a % 4 ≡ 0 → a < 2 ^ 32 → row_of v a ≡ Some row →
        regs ≡ with_reg t.machine.regs m.rd (word_at v i.at.block (i.at.offset + 2)) → at ≡ sum_of t.cursor.row t.cursor.delta →
        Reached k v (indirect a) (record { rom = t.rom; ram = with_fetch t.ram at }) (record { rom = rom; ram = after }) there → sum_of row delta ≡ there →
        Turned k v limit first u.at (record {
          machine = record t.machine { regs = regs };
          rom = rom;
          ram = after;
          cursor = record { row = row; delta = delta; left = t.cursor.left - 1; total = t.cursor.total };
        })
    return_made a at regs rom after there row delta a_is four short target regs_is is reached lands =
        return_turn laws u i some m return_text return_is a row regs a_is four short target regs_is rom after there delta
        (subst (λ (n : ℕ). Reached k v (indirect a) (record { rom = t.rom; ram = with_fetch t.ram n }) (record { rom = rom; ram = after }) there) is reached) lands

  -- ---- steps that go on behind their words

  module _ (m : MicroOp) (op : IsOpInRow (fetched t.machine.bus) v t.cursor.row m) (c : Class) (is_class : class_of m.code ≡ c) (goes_on : is_straight c ≡ true) where
    straight_text : AtText v (machine_at limit t i.at.pc) i.at.block i.at.offset m
    straight_text =
        text_here m c is_class (λ stops. let never : false ≡ true = ap (λ (d : Class). is_straight d) (sym stops) ∙ goes_on in cc)
        (λ jumps. let never : false ≡ true = ap (λ (d : Class). is_straight d) (sym jumps) ∙ goes_on in cc) op

    -- one of no LUI or AUIPC
    pub straight_made : (c ≡ class.Lui → ⊥) → (range : WordRange) (next : ℕ) → (ran_as c range m t.cursor.row t.machine.regs t.machine.bus).next ≡ Some next → (regs : Registers) (bus : List AreaData) →
        regs ≡ (ran_as c range m t.cursor.row t.machine.regs t.machine.bus).regs → bus ≡ (ran_as c range m t.cursor.row t.machine.regs t.machine.bus).bus →
        (at : ℕ) (ram : RamState) → at ≡ sum_of t.cursor.row t.cursor.delta → ram ≡ with_fetch t.ram at →
        Turned k v limit first u.at (record {
          machine = record t.machine { regs = regs; bus = bus };
          rom = t.rom;
          ram = ram;
          cursor = record { row = next; delta = t.cursor.delta; left = t.cursor.left - 1; total = t.cursor.total };
        })
    straight_made other range next ran regs bus regs_is bus_is at ram is fetches =
        let made = straight v (machine_at limit t i.at.pc) i.at.block i.at.offset m straight_text c goes_on other is_class range t.cursor.row next ran in
        let own = subst (λ (l : List AreaData). Straight (machine_at limit t i.at.pc) straight_text.word regs l) (sym bus_is)
        (subst (λ (r : Registers). Straight (machine_at limit t i.at.pc) straight_text.word r (ran_as c range m t.cursor.row t.machine.regs t.machine.bus).bus) (sym regs_is) made.1) in
        subst (λ (n : ℕ). Turned k v limit first u.at (record {
          machine = record t.machine { regs = regs; bus = bus };
          rom = t.rom;
          ram = ram;
          cursor = record { row = n; delta = t.cursor.delta; left = t.cursor.left - 1; total = t.cursor.total };
        })) (sym made.0)
        (straight_turn laws u i some m straight_text regs bus ram own (fetches ∙ ap (λ (n : ℕ). with_fetch t.ram n) is))

  module _ (m : MicroOp) (op : IsOpInRow (fetched t.machine.bus) v t.cursor.row m) (upper_class : class_of m.code ≡ class.Lui) where
    upper_text : AtText v (machine_at limit t i.at.pc) i.at.block i.at.offset m
    upper_text = straight_text m op class.Lui upper_class refl

    -- LUI
    pub upper_made : (m.rs1 == 1) ≡ false → (regs : Registers) → regs ≡ with_reg t.machine.regs m.rd m.imm → (at : ℕ) (ram : RamState) → at ≡ sum_of t.cursor.row t.cursor.delta → ram ≡ with_fetch t.ram at →
        Turned k v limit first u.at (record {
          machine = record t.machine { regs = regs };
          rom = t.rom;
          ram = ram;
          cursor = record { row = t.cursor.row + 1; delta = t.cursor.delta; left = t.cursor.left - 1; total = t.cursor.total };
        })
    upper_made unmarked regs regs_is at ram is fetches =
        let made = upper v (machine_at limit t i.at.pc) i.at.block i.at.offset m upper_text upper_class unmarked in
        let own = subst (λ (r : Registers). Straight (machine_at limit t i.at.pc) upper_text.word r t.machine.bus) (sym regs_is) made in
        straight_turn laws u i some m upper_text regs t.machine.bus ram own (fetches ∙ ap (λ (n : ℕ). with_fetch t.ram n) is)

    -- AUIPC, by two words
    module _ (marked : (m.rs1 == 1) ≡ true) where
      pair_is : Pair (machine_at limit t i.at.pc) upper_text.word m
      pair_is = pair v (machine_at limit t i.at.pc) i.at.block i.at.offset m upper_text upper_class marked

      pair_room : i.at.offset + 2 < length_at v i.at.block
      pair_room =
          (on_inside (fetched t.machine.bus) v (sum_of i.at.pc 4) i.at.block (i.at.offset + 2) (carries laws u i)
          (behind_pair v (machine_at limit t i.at.pc) i.at.block i.at.offset m upper_text pair_is)).1

      pub pair_inside : sum_of (t.cursor.row + 1) t.cursor.delta < length t.ram.words
      pair_inside =
          let room = pair_room in
          let on = next_index laws u i 1 (omega (arith, room)) in
          let inside = inside_ram laws u i (i.at.offset + 1) (omega (arith, room)) in
          let at = i.at.index in
          omega (arith, on, inside, at)

      pub pair_made : (regs : Registers) → regs ≡ with_reg t.machine.regs m.rd m.imm → (at behind : ℕ) (one two : RamState) → at ≡ sum_of t.cursor.row t.cursor.delta → one ≡ with_fetch t.ram at →
          behind ≡ sum_of (t.cursor.row + 1) t.cursor.delta → two ≡ with_fetch one behind →
          Turned k v limit first u.at (record {
            machine = record t.machine { regs = regs };
            rom = t.rom;
            ram = two;
            cursor = record { row = t.cursor.row + 1 + 1; delta = t.cursor.delta; left = t.cursor.left - 1; total = t.cursor.total + 1 };
          })
      pair_made regs regs_is at behind one two is first_is next second_is =
          let fetches : two ≡ with_fetch (with_fetch t.ram (sum_of t.cursor.row t.cursor.delta)) (sum_of (t.cursor.row + 1) t.cursor.delta) =
          second_is ∙ ap (λ (n : ℕ). with_fetch one n) next ∙ ap (λ (r : RamState). with_fetch r (sum_of (t.cursor.row + 1) t.cursor.delta)) (first_is ∙ ap (λ (n : ℕ). with_fetch t.ram n) is) in
          let on : t.cursor.row + 2 ≡ t.cursor.row + 1 + 1 = omega arith in
          subst (λ (n : ℕ). Turned k v limit first u.at (record {
            machine = record t.machine { regs = regs };
            rom = t.rom;
            ram = two;
            cursor = record { row = n; delta = t.cursor.delta; left = t.cursor.left - 1; total = t.cursor.total + 1 };
          })) on
          (pair_turn laws u i some m upper_text regs two pair_is regs_is pair_room fetches)

  -- ---- behind an exit a text word stands

  module _ {ops : List MicroOp} (are : AreImageOps (fetched t.machine.bus) v ops) (m : MicroOp) (m_is : m ≡ get_or ops t.cursor.row m) (jumps : class_of m.code ≡ class.Jal) where
    op : IsOpInRow (fetched t.machine.bus) v t.cursor.row m
    op = op_in_row are t.cursor.row m m m_is

    lands_unmarked : (row : ℕ) → (a : ℕ) × (row_of v a ≡ Some row) → is_fall_op (get_or ops row stop_op) ≡ false
    lands_unmarked row to =
        let at = in_row v to.0 row to.1 in
        let inside = on_inside (fetched t.machine.bus) v to.0 at.block at.offset (carries laws u i) (inl at.place) in
        place_unmarked (fetched t.machine.bus) v to.0 at.block at.offset (get_or ops row stop_op) at.place
        (subst (λ (n : ℕ). IsWordOp (fetched t.machine.bus) v at.block at.offset (get_or ops n stop_op)) (sym at.index) (are.each at.block at.offset inside.0 inside.1 stop_op))

    here_marked : (m.rs1 == 1) ≡ true → is_fall_op (get_or ops t.cursor.row stop_op) ≡ true
    here_marked marked =
        let count = are.count in
        let within = row_in in
        let same : get_or ops t.cursor.row stop_op ≡ m = get_or_default ops t.cursor.row stop_op m (omega (arith, count, within)) ∙ sym m_is in
        ap (λ (q : MicroOp). is_fall_op q) (same ∙ (fall_is m op jumps marked).is)

    pub exit_fewer : (next row : ℕ) → next ≡ (if m.rs1 == 1 then t.cursor.left + 1 else t.cursor.left) → (a : ℕ) × (row_of v a ≡ Some row) →
        2 * (next - 1) + (if is_fall_op (get_or ops row stop_op) then 1 else 0) < 2 * t.cursor.left + (if is_fall_op (get_or ops t.cursor.row stop_op) then 1 else 0)
    exit_fewer next row is to = by (m.rs1 == 1) refl
      where
        by : (q : Bool) → (m.rs1 == 1) ≡ q →
            2 * (next - 1) + (if is_fall_op (get_or ops row stop_op) then 1 else 0) < 2 * t.cursor.left + (if is_fall_op (get_or ops t.cursor.row stop_op) then 1 else 0)
        by true marked =
            falls_fewer t.cursor.left next (is_fall_op (get_or ops row stop_op)) (is_fall_op (get_or ops t.cursor.row stop_op))
            (is ∙ ap (λ (q : Bool). if q then t.cursor.left + 1 else t.cursor.left) marked) (lands_unmarked row to) (here_marked marked)
        by false unmarked =
            stays_fewer t.cursor.left next (is_fall_op (get_or ops row stop_op)) (is_fall_op (get_or ops t.cursor.row stop_op)) some
            (is ∙ ap (λ (q : Bool). if q then t.cursor.left + 1 else t.cursor.left) unmarked)
