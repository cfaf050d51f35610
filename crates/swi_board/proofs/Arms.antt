-- What each arm of the loop of steps leaves.
use Rattle.std.proofs.Common.{◌≡◌, ◌⊎◌, if◌then◌else◌, ℕ, ◌+◌, ◌-◌, ◌^◌, ◌<◌, ◌≤◌, Bool, true, false, not, ◌&&◌, List, [], ◌∷◌, length, Option, Some, None, is_some, refl, sym, ap, subst, ◌∙◌, inl, inr, arith}
use Rattle.swi_isa.specs.declared.instr.Instr.{Instr}
use Rattle.swi_isa.specs.declared.instr.Instr.TheVariants as instr
use Rattle.swi_isa.specs.Decode.{decoded}
use Rattle.swi_memory.specs.Bus.{AreaData, fetched}
use Rattle.swi_outside.specs.CacheRam.{RamState}
use Rattle.swi_exec.specs.Arithmetic.{sum_of}
use Rattle.swi_exec.specs.Registers.{Registers}
use Rattle.swi_calls.specs.declared.end.End.{End}
use Rattle.swi_calls.specs.declared.machine.Machine.{Machine}
use Rattle.swi_calls.specs.Flat.{quiet}
use Rattle.swi_image.specs.Format.{ImageData}
use Rattle.swi_image.specs.Place.{length_at, place_of}
use Rattle.swi_image.specs.Row.{row_index}
use Rattle.swi_render.specs.Carried.{Carries, FallAt, GoesOn}
use Rattle.swi_render.specs.Rendering.{Slot, rendering}
use Rattle.swi_image_ops.specs.ImageOp.{row_at, row_of}
use Rattle.swi_image_ops.proofs.Standing.{on_inside}
use Rattle.swi_image_ops.proofs.Strides.{Goes, stands_as_itself, went}
use Rattle.swi_rom.specs.Record.{Record, Transfer, direct, target_of, writes}
use Rattle.swi_rom.specs.Coherent.{TargetAt}
use Rattle.swi_rom.specs.Service.{IsService, ServiceOf, Setting}
use Rattle.swi_hart.specs.Hart.{HartData, instruction, original, slots, slots_at}
use Rattle.swi_hart.specs.Leaving.{RamServed}
use Rattle.swi_hart.proofs.Falls.{ram_same}
use Rattle.swi_board.specs.Advancing.{ServiceStays, with_board}
use Rattle.swi_board.specs.Moments.{Policy}
use Rattle.swi_board.specs.Reached.{Reached}
use Rattle.swi_board.specs.Tracking.{Point}
use Rattle.swi_board.specs.Transfers.{after_all, here_after, jumps_as, branch_words, leaves_by, step_cost, step_transfers}
use Rattle.swi_board.specs.Turning.{Begins, Stood, StoodAt, Turn, Turned, board_at, machine_at, service_at}
use Rattle.swi_board.proofs.Fetching.{HoldsRow, holds_row}
use Rattle.swi_board.proofs.Strides.{Moves, RamStrode, fall_stride, text_stride}
use Rattle.swi_board.proofs.Turns.{FetchedRow, laws_of, stays_fetched, stays_more, stays_reached, strode, turned_on, turned_running}

-- ---- the words of an original step and its transfer, by its instruction

module _ (v : ImageData) (f : Machine) (w : ℕ) (x : Instr) (ss : List Slot) (reads : fetched f.bus f.pc ≡ Some w) (decodes : decoded w ≡ Some x) (rendered : rendering w f.pc ≡ ss) where
  original_is : original f ≡ Some x
  original_is = ap (λ (o : Option ℕ). instruction o) reads ∙ decodes

  slots_is : slots f ≡ ss
  slots_is = ap (λ (o : Option ℕ). slots_at f.pc o) reads ∙ rendered

  pub cost_by : step_cost f (original f) (slots f) ≡ step_cost f (Some x) ss
  cost_by = ap (λ (o : Option Instr). step_cost f o (slots f)) original_is ∙ ap (λ (l : List Slot). step_cost f (Some x) l) slots_is

  -- one that goes on at the next word makes no transfer
  module _ (p : ℕ × ℕ) (m : Machine) (stays : jumps_as f (Some x) ≡ false) where
    stays_as : jumps_as f (original f) ≡ false
    stays_as = ap (λ (o : Option Instr). jumps_as f o) original_is ∙ stays

    pub no_transfers : step_transfers f (Some p) m ≡ []
    no_transfers = ap (λ (t : Bool). if t && not (is_some m.ending) then leaves_by f (original f) (slots f) p m.pc else []) stays_as

    pub here_next : here_after v f (Some p) m ≡ Some (p.0, p.1 + length ss)
    here_next = ap (λ (t : Bool). if t then place_of v m.pc else Some (p.0, p.1 + length (slots f))) stays_as ∙ ap (λ (l : List Slot). Some (p.0, p.1 + length l)) slots_is

  -- and one that goes elsewhere makes one
  module _ (p : ℕ × ℕ) (m : Machine) (goes : jumps_as f (Some x) ≡ true) where
    goes_as : jumps_as f (original f) ≡ true
    goes_as = ap (λ (o : Option Instr). jumps_as f o) original_is ∙ goes

    pub transfers_by : m.ending ≡ None → step_transfers f (Some p) m ≡ leaves_by f (Some x) ss p m.pc
    transfers_by on =
        ap (λ (t : Bool). if t && not (is_some m.ending) then leaves_by f (original f) (slots f) p m.pc else []) goes_as
        ∙ ap (λ (e : Option End). if not (is_some e) then leaves_by f (original f) (slots f) p m.pc else []) on
        ∙ ap (λ (o : Option Instr). leaves_by f o (slots f) p m.pc) original_is ∙ ap (λ (l : List Slot). leaves_by f (Some x) l p m.pc) slots_is

    pub here_target : here_after v f (Some p) m ≡ place_of v m.pc
    here_target = ap (λ (t : Bool). if t then place_of v m.pc else Some (p.0, p.1 + length (slots f))) goes_as

pub itself_jumps : (f : Machine) (x : Instr) → stands_as_itself x ≡ true → jumps_as f (Some x) ≡ false
itself_jumps f (instr.Lui rd imm) e = refl
itself_jumps f (instr.Load op rd rs1 imm) e = refl
itself_jumps f (instr.Store op rs1 rs2 imm) e = refl
itself_jumps f (instr.Alu op rd rs1 imm) e = refl
itself_jumps f (instr.Op op rd rs1 rs2) e = refl
itself_jumps f instr.Fence e = refl
itself_jumps f x e = absurd (cc)

pub itself_words : (f : Machine) (x : Instr) → stands_as_itself x ≡ true → branch_words f (Some x) ≡ 0
itself_words f (instr.Lui rd imm) e = refl
itself_words f (instr.Load op rd rs1 imm) e = refl
itself_words f (instr.Store op rs1 rs2 imm) e = refl
itself_words f (instr.Alu op rd rs1 imm) e = refl
itself_words f (instr.Op op rd rs1 rs2) e = refl
itself_words f instr.Fence e = refl
itself_words f x e = absurd (cc)

-- ---- arms

-- the ram's index of a word behind one of its block
pub index_on : (row delta n span : ℕ) → sum_of row delta + n < span → span ≤ 2 ^ 21 → sum_of (row + n) delta ≡ sum_of row delta + n
index_on row delta n span below small = omega (arith, below, small)

module _ {S : Type 0} {k : ServiceOf S} {v : ImageData} {limit : ℕ} {first : Turn S} (laws : IsService k) (u : Begins k v limit first) where
  abbrev policy : Policy
  policy = k.policy (k.setting first.rom)

  abbrev span : ℕ
  span = k.span (k.setting first.rom)

  module _ {t : Turn S} (i : Turned k v limit first u.at t) where
    abbrev pub now : Machine
    now = machine_at limit t i.at.pc

    pub carries : Carries (fetched t.machine.bus) v
    carries = (turned_running laws i u.hart u.underway).stays.fits.image

    pub span_small : k.span (k.setting first.rom) ≤ 2 ^ 21
    span_small = ap_le i.stays.setting (laws.small t.rom v t.ram.words i.stays.sound.0)
      where
        ap_le : {a b : Setting} → a ≡ b → k.span a ≤ 2 ^ 21 → k.span b ≤ 2 ^ 21
        ap_le {a} {b} e le = subst (λ (s : Setting). k.span s ≤ 2 ^ 21) e le

    -- a word of the block lies in the part of the ram that the service uses
    pub inside_span : (o : ℕ) → o < length_at v i.at.block → i.at.first + o < k.span (k.setting first.rom)
    inside_span o below =
        let end = (laws.coherent t.rom v t.ram.words i.stays.sound.0).inside i.at.block i.at.first i.at.is_placed in
        let same = ap (λ (s : Setting). k.span s) i.stays.setting in
        omega (arith, below, end, same)

    pub inside_ram : (o : ℕ) → o < length_at v i.at.block → i.at.first + o < length t.ram.words
    inside_ram o below =
        let c = laws.coherent t.rom v t.ram.words i.stays.sound.0 in
        let end = c.inside i.at.block i.at.first i.at.is_placed in
        let fits = c.fits in
        omega (arith, below, end, fits)

    -- the ram's index of a word behind it
    pub next_index : (n : ℕ) → i.at.offset + n < length_at v i.at.block → sum_of (t.cursor.row + n) t.cursor.delta ≡ sum_of t.cursor.row t.cursor.delta + n
    next_index n inside =
        let end = inside_span (i.at.offset + n) inside in
        let at = i.at.index in
        index_on t.cursor.row t.cursor.delta n (k.span (k.setting first.rom)) (omega (arith, end, at)) span_small

    -- and the ram has what stands at them
    pub row_held : (n : ℕ) → i.at.offset + n ≤ length_at v i.at.block → HoldsRow v (k.kept t.rom) t.ram.words i.at.block (sum_of t.cursor.row t.cursor.delta) n
    row_held n room =
        holds_row v (k.kept t.rom) (k.span (k.setting t.rom)) t.ram.words (laws.coherent t.rom v t.ram.words i.stays.sound.0) i.at.block i.at.first i.at.offset (sum_of t.cursor.row t.cursor.delta) n
        i.at.is_placed room i.at.index

    -- an original step
    module _ (some : 0 < t.cursor.left) (next : Turn S) (to : StoodAt k v next) (n : ℕ)
        (rest : next.machine ≡ record t.machine { regs = next.machine.regs; bus = next.machine.bus })
        (fewer : next.cursor.left ≡ t.cursor.left - 1) (more : next.cursor.total + 1 ≡ t.cursor.total + n) (words : 1 ≤ n)
        (place : place_of v i.at.pc ≡ Some (i.at.block, i.at.offset))
        (step : Goes (machine_at limit t i.at.pc) to.pc next.machine.regs next.machine.bus)
        (there : here_after v (machine_at limit t i.at.pc) (Some (i.at.block, i.at.offset)) (went (machine_at limit t i.at.pc) to.pc next.machine.regs next.machine.bus) ≡ Some (to.block, to.offset))
        (cost : step_cost (machine_at limit t i.at.pc) (original (machine_at limit t i.at.pc)) (slots (machine_at limit t i.at.pc)) ≡ n)
        (moves : k.kept next.rom ≡ after_all policy v (k.kept t.rom) (step_transfers (machine_at limit t i.at.pc) (Some (i.at.block, i.at.offset)) (went (machine_at limit t i.at.pc) to.pc next.machine.regs next.machine.bus)))
        (few : ((n ≤ 2) × (k.kept next.rom ≡ k.kept t.rom)) ⊎ ((n ≤ 3) × ((k.kept next.rom).counts.services ≤ (k.kept t.rom).counts.services + 1) × (place_of v to.pc ≡ Some (to.block, to.offset))))
        (ram : RamStrode span n (writes (k.kept next.rom) - writes (k.kept t.rom)) (sum_of t.cursor.row t.cursor.delta) t.ram next.ram)
        (stays : ServiceStays k v (service_at t) (service_at next)) (room : i.at.offset + n ≤ length_at v i.at.block) where
      machine_is : went (machine_at limit t i.at.pc) to.pc next.machine.regs next.machine.bus ≡ machine_at limit next to.pc
      machine_is =
          let below = i.within.left in
          let steps : limit - t.cursor.left + 1 ≡ limit - next.cursor.left = omega (arith, some, below, fewer) in
          ap (λ (s : ℕ). record t.machine { pc = to.pc; regs = next.machine.regs; bus = next.machine.bus; steps = s }) steps
          ∙ ap (λ (m : Machine). record m { pc = to.pc; steps = limit - next.cursor.left }) (sym rest)

      moves_at : (h : HartData) (p : Point) → Moves span n (sum_of t.cursor.row t.cursor.delta) (i.at.block, i.at.offset) (to.block, to.offset) (sum_of next.cursor.row next.cursor.delta)
          (with_board k p (board_at k v h limit t i.at)) (with_board k p (board_at k v h limit next to))
      moves_at h p = record {
        control = refl;
        lands = refl;
        count = (let all = i.within.counted in omega (arith, some, fewer, more, words, all));
        failed = refl;
        booted = refl;
        left = refl;
        out = refl;
        err = refl;
        ram = ram;
      }

      pub text_arm : Turned k v limit first u.at next
      text_arm =
          turned_on laws i some to (ap (λ (m : Machine). m.ending) rest ∙ i.going)
          (let left = i.within.left in let all = i.within.counted in record { left = omega (arith, left, fewer); counted = omega (arith, all, fewer, more, words, some) })
          (λ h p. text_stride policy span v (with_board k p (board_at k v h limit t i.at)) (with_board k p (board_at k v h limit next to)) n (sum_of t.cursor.row t.cursor.delta)
          (sum_of next.cursor.row next.cursor.delta) (i.at.block, i.at.offset) (to.block, to.offset) (laws_of laws (k.setting first.rom)) (moves_at h p) i.going (ap (λ (m : Machine). m.ending) rest ∙ i.going) place
          (λ input. step input ∙ ap (λ (m : Machine). quiet m input) machine_is)
          (subst (λ (m : Machine). here_after v (machine_at limit t i.at.pc) (Some (i.at.block, i.at.offset)) m ≡ Some (to.block, to.offset)) machine_is there)
          cost
          (subst (λ (m : Machine). k.kept next.rom ≡ after_all policy v (k.kept t.rom) (step_transfers (machine_at limit t i.at.pc) (Some (i.at.block, i.at.offset)) m)) machine_is moves)
          few (to.first, to.is_placed, to.index) to.goes (row_held n room))
          stays

    -- one that goes on behind the words that stand for it
    module _ (some : 0 < t.cursor.left) (regs : Registers) (bus : List AreaData) (ram : RamState) (n d total w : ℕ) (x : Instr) (ss : List Slot)
        (place : place_of v i.at.pc ≡ Some (i.at.block, i.at.offset)) (reads : fetched t.machine.bus i.at.pc ≡ Some w) (decodes : decoded w ≡ Some x) (rendered : rendering w i.at.pc ≡ ss)
        (stays : jumps_as (machine_at limit t i.at.pc) (Some x) ≡ false) (cost : step_cost (machine_at limit t i.at.pc) (Some x) ss ≡ n) (long : length ss ≡ d)
        (step : Goes (machine_at limit t i.at.pc) (sum_of i.at.pc 4) regs bus) (goes : GoesOn v (sum_of i.at.pc 4) i.at.block (i.at.offset + d))
        (words : (1 ≤ n) × (n ≤ 2) × (n ≤ d)) (row : FetchedRow n (sum_of t.cursor.row t.cursor.delta) t.ram ram) (more : total + 1 ≡ t.cursor.total + n) where
      abbrev pub stayed : Turn S
      stayed = record {
        machine = record t.machine { regs = regs; bus = bus };
        rom = t.rom;
        ram = ram;
        cursor = record { row = t.cursor.row + d; delta = t.cursor.delta; left = t.cursor.left - 1; total = total };
      }

      behind_inside : i.at.offset + d < length_at v i.at.block
      behind_inside = (on_inside (fetched t.machine.bus) v (sum_of i.at.pc 4) i.at.block (i.at.offset + d) carries goes).1

      behind_span : sum_of t.cursor.row t.cursor.delta + d < k.span (k.setting first.rom)
      behind_span = let at = i.at.index in let inside = inside_span (i.at.offset + d) behind_inside in omega (arith, at, inside)

      stayed_at : StoodAt k v stayed
      stayed_at = record {
        block = i.at.block;
        offset = i.at.offset + d;
        first = i.at.first;
        pc = sum_of i.at.pc 4;
        known = i.at.known;
        inside = behind_inside;
        is_row = (let is = i.at.is_row in omega (arith, is));
        is_placed = i.at.is_placed;
        index = (let at = i.at.index in let on = index_on t.cursor.row t.cursor.delta d (k.span (k.setting first.rom)) behind_span span_small in omega (arith, at, on));
        goes = goes;
        short = omega arith;
      }

      pub stay_arm : Turned k v limit first u.at stayed
      unfolding stayed_at
      stay_arm =
          text_arm some stayed stayed_at n refl refl more words.0 place step
          (here_next v (machine_at limit t i.at.pc) w x ss reads decodes rendered (i.at.block, i.at.offset) (went (machine_at limit t i.at.pc) (sum_of i.at.pc 4) regs bus) stays
          ∙ ap (λ (j : ℕ). Some (i.at.block, i.at.offset + j)) long)
          (cost_by v (machine_at limit t i.at.pc) w x ss reads decodes rendered ∙ cost)
          (sym (ap (λ (l : List Transfer). after_all policy v (k.kept t.rom) l)
          (no_transfers v (machine_at limit t i.at.pc) w x ss reads decodes rendered (i.at.block, i.at.offset) (went (machine_at limit t i.at.pc) (sum_of i.at.pc 4) regs bus) stays)))
          (inl (words.1, refl))
          (let inside = behind_span in let few = words.2 in
          strode (k.span (k.setting first.rom)) n (writes (k.kept t.rom) - writes (k.kept t.rom)) (sum_of t.cursor.row t.cursor.delta) t.ram ram ram (omega (arith, inside, few)) row (ram_same (k.span (k.setting first.rom)) (k.kept t.rom) ram))
          (stays_fetched i.stays.sound.0 row.words)
          (let inside = behind_inside in let few = words.2 in omega (arith, inside, few))

    -- where a transfer leads that was served
    module _ (transfer : Transfer) (left : RamState) (rom : S) (ram : RamState) (a there row delta : ℕ) (short : a < 2 ^ 32)
        (reached : Reached k v transfer (record { rom = t.rom; ram = left }) (record { rom = rom; ram = ram }) there) (to : target_of transfer ≡ a)
        (target : row_of v a ≡ Some row) (lands : sum_of row delta ≡ there) where
      pub stands : TargetAt v (k.kept rom) a there
      stands = subst (λ (b : ℕ). TargetAt v (k.kept rom) b there) to reached.stands

      in_block : (stands.block < length v.starts) × (stands.offset < length_at v stands.block)
      in_block = on_inside (fetched t.machine.bus) v a stands.block stands.offset carries (inl stands.place_is)

      pub reached_at : Stood v (k.kept rom) row delta
      reached_at = record {
        block = stands.block;
        offset = stands.offset;
        first = stands.first;
        pc = a;
        known = in_block.0;
        inside = in_block.1;
        is_row = row_is row (sym target ∙ ap (λ (q : Option (ℕ × ℕ)). row_at v q) stands.place_is);
        is_placed = stands.is_placed;
        index = lands ∙ stands.index;
        goes = inl stands.place_is;
        short = short;
      }
        where
          row_is : (n : ℕ) → Some n ≡ Some (row_index v stands.block stands.offset) → n ≡ row_index v stands.block stands.offset
          row_is n e = cc

      pub reached_place : place_of v a ≡ Some (stands.block, stands.offset)
      reached_place = stands.place_is

      pub reached_moves : k.kept rom ≡ k.policy (k.setting first.rom) (k.kept t.rom) v transfer
      reached_moves = reached.served.policy ∙ ap (λ (s : Setting). k.policy s (k.kept t.rom) v transfer) i.stays.setting

      pub reached_services : (k.kept rom).counts.services ≤ (k.kept t.rom).counts.services + 1
      reached_services =
          let one = laws.one_service (k.setting first.rom) (k.kept t.rom) v transfer in
          let is = ap (λ (r : Record). r.counts.services) reached_moves in
          omega (arith, one, is)

      pub reached_ram : RamServed (k.span (k.setting first.rom)) (writes (k.kept rom) - writes (k.kept t.rom)) left ram
      reached_ram = subst (λ (s : Setting). RamServed (k.span s) (writes (k.kept rom) - writes (k.kept t.rom)) left ram) i.stays.setting reached.served.ram

      pub reached_stays : left.words ≡ t.ram.words → ServiceStays k v (service_at t) (record { rom = rom; ram = ram })
      reached_stays same = stays_more (stays_fetched {s = service_at t} {ram = left} i.stays.sound.0 same) (stays_reached laws reached)

      -- a step that jumps
      module _ (some : 0 < t.cursor.left) (regs : Registers) (n total w : ℕ) (x : Instr) (ss : List Slot)
          (place : place_of v i.at.pc ≡ Some (i.at.block, i.at.offset)) (reads : fetched t.machine.bus i.at.pc ≡ Some w) (decodes : decoded w ≡ Some x) (rendered : rendering w i.at.pc ≡ ss)
          (jumps : jumps_as (machine_at limit t i.at.pc) (Some x) ≡ true) (cost : step_cost (machine_at limit t i.at.pc) (Some x) ss ≡ n)
          (leaves : leaves_by (machine_at limit t i.at.pc) (Some x) ss (i.at.block, i.at.offset) a ≡ transfer ∷ [])
          (step : Goes (machine_at limit t i.at.pc) a regs t.machine.bus)
          (words : (1 ≤ n) × (n ≤ 3)) (inside : i.at.offset + n ≤ length_at v i.at.block) (fetches : FetchedRow n (sum_of t.cursor.row t.cursor.delta) t.ram left) (more : total + 1 ≡ t.cursor.total + n) where
        abbrev pub leapt : Turn S
        leapt = record {
          machine = record t.machine { regs = regs };
          rom = rom;
          ram = ram;
          cursor = record { row = row; delta = delta; left = t.cursor.left - 1; total = total };
        }

        pub leap_arm : Turned k v limit first u.at leapt
        unfolding reached_at
        leap_arm =
            text_arm some leapt reached_at n refl refl more words.0 place step
            (here_target v (machine_at limit t i.at.pc) w x ss reads decodes rendered (i.at.block, i.at.offset) (went (machine_at limit t i.at.pc) a regs t.machine.bus) jumps ∙ reached_place)
            (cost_by v (machine_at limit t i.at.pc) w x ss reads decodes rendered ∙ cost)
            (reached_moves ∙ sym (ap (λ (l : List Transfer). after_all policy v (k.kept t.rom) l)
            (transfers_by v (machine_at limit t i.at.pc) w x ss reads decodes rendered (i.at.block, i.at.offset) (went (machine_at limit t i.at.pc) a regs t.machine.bus) jumps i.going ∙ leaves)))
            (inr (words.1, reached_services, reached_place))
            (strode (k.span (k.setting first.rom)) n (writes (k.kept rom) - writes (k.kept t.rom)) (sum_of t.cursor.row t.cursor.delta) t.ram left ram (spans n inside) fetches reached_ram)
            (reached_stays fetches.words) inside
          where
            spans : (n : ℕ) → i.at.offset + n ≤ length_at v i.at.block → sum_of t.cursor.row t.cursor.delta + n ≤ k.span (k.setting first.rom)
            spans n le =
                let end = (laws.coherent t.rom v t.ram.words i.stays.sound.0).inside i.at.block i.at.first i.at.is_placed in
                let same = ap (λ (s : Setting). k.span s) i.stays.setting in
                let at = i.at.index in
                omega (arith, le, end, same, at)

      -- the exit behind a block's last text word
      module _ (some : 0 < t.cursor.left) (total less : ℕ) (falls : FallAt v i.at.pc i.at.block i.at.offset) (own : transfer ≡ direct i.at.block i.at.offset i.at.pc) (pc : a ≡ i.at.pc)
          (fetches : FetchedRow 1 (sum_of t.cursor.row t.cursor.delta) t.ram left) (more : total ≡ t.cursor.total + 1) (same : less ≡ t.cursor.left) where
        abbrev pub fallen : Turn S
        fallen = record { machine = t.machine; rom = rom; ram = ram; cursor = record { row = row; delta = delta; left = less; total = total } }

        fallen_at : StoodAt k v fallen
        fallen_at = reached_at

        moves_fall : (h : HartData) (p : Point) → Moves (k.span (k.setting first.rom)) 1 (sum_of t.cursor.row t.cursor.delta) (i.at.block, i.at.offset) (stands.block, stands.offset) (sum_of row delta)
            (with_board k p (board_at k v h limit t i.at)) (with_board k p (board_at k v h limit fallen fallen_at))
        unfolding stands fallen_at reached_at
        moves_fall h p = record {
          control = refl;
          lands = refl;
          count = (let all = i.within.counted in omega (arith, all, more, same));
          failed = refl;
          booted = refl;
          left = refl;
          out = refl;
          err = refl;
          ram =
              let end = inside_span i.at.offset i.at.inside in
              let at = i.at.index in
              strode (k.span (k.setting first.rom)) 1 (writes (k.kept rom) - writes (k.kept t.rom)) (sum_of t.cursor.row t.cursor.delta) t.ram left ram (omega (arith, end, at)) fetches reached_ram;
        }

        pub fall_arm : Turned k v limit first u.at fallen
        unfolding stands fallen_at reached_at
        fall_arm =
            turned_on laws i some fallen_at i.going
            (let left_is = i.within.left in let all = i.within.counted in record { left = omega (arith, left_is, same); counted = omega (arith, all, more, same) })
            (λ h p. fall_stride policy (k.span (k.setting first.rom)) v (with_board k p (board_at k v h limit t i.at)) (with_board k p (board_at k v h limit fallen fallen_at))
            (sum_of t.cursor.row t.cursor.delta) (sum_of row delta) (i.at.block, i.at.offset) (stands.block, stands.offset) (laws_of laws (k.setting first.rom)) (moves_fall h p) i.going
            (ap (λ (n : ℕ). record t.machine { pc = n; steps = limit - less }) pc ∙ ap (λ (n : ℕ). record t.machine { pc = i.at.pc; steps = limit - n }) same)
            (falls.no_place i.at.pc)
            (reached_moves ∙ ap (λ (x : Transfer). policy (k.kept t.rom) v x) own)
            (ap (λ (n : ℕ). place_of v n) (sym pc) ∙ reached_place)
            (stands.first, stands.is_placed, lands ∙ stands.index)
            (let inside = i.at.inside in row_held 1 (omega (arith, inside))))
            (reached_stays fetches.words)
