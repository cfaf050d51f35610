-- A stretch of a board's steps: the turn at which it begins, and the board with which it ends.
use Rattle.std.proofs.Common.{◌≡◌, ℕ, ◌-◌, ◌^◌, ◌<◌, ◌≤◌, None, sym, ap, subst, ◌∙◌, arith}
use Rattle.swi_memory.specs.Bus.{fetched}
use Rattle.swi_outside.specs.CacheRam.{RamState}
use Rattle.swi_exec.specs.Arithmetic.{sum_of}
use Rattle.swi_image.specs.Format.{ImageData}
use Rattle.swi_image.specs.Place.{length_at}
use Rattle.swi_image.specs.Row.{row_index, row_inside, row_length, row_once}
use Rattle.swi_render.specs.Carried.{GoesOn}
use Rattle.swi_rom.specs.Service.{IsService, ServiceOf}
use Rattle.swi_hart.specs.declared.hart.Control.{Control}
use Rattle.swi_hart.specs.declared.hart.Control.TheVariants.{At}
use Rattle.swi_hart.specs.declared.hart.Stage.TheVariants.{Start}
use Rattle.swi_hart.specs.Hart.{HartData}
use Rattle.swi_hart.specs.MachineStep.{BoardWithRam}
use Rattle.swi_board.specs.Advancing.{Onward, StandsInRow, Underway}
use Rattle.swi_board.specs.Turning.{Begins, Origin, StoodAt, Turn, Turned, board_at}
use Rattle.swi_board.proofs.Arms.{carries}
use Rattle.swi_board.proofs.Turns.{first_board, first_stood, first_turn}

-- the board at a turn, by its control and the address there
abbrev pub end_board : {S : Type 0} → HartData → ℕ → Turn S → Control → ℕ → BoardWithRam S
end_board h limit t control pc = record {
  hart = record h { control = control; machine = record t.machine { pc = pc; steps = limit - t.cursor.left }; count = t.cursor.total - t.cursor.left };
  rom = t.rom;
  ram = t.ram;
}

end_is : {S : Type 0} (k : ServiceOf S) (v : ImageData) (h : HartData) (limit : ℕ) (t : Turn S) (at : StoodAt k v t) (block offset pc : ℕ) → at.block ≡ block → at.offset ≡ offset → at.pc ≡ pc →
    board_at k v h limit t at ≡ end_board h limit t (At (sum_of t.cursor.row t.cursor.delta) block offset Start) pc
end_is k v h limit t at block offset pc b o p =
    ap (λ (n : ℕ). end_board h limit t (At (sum_of t.cursor.row t.cursor.delta) n at.offset Start) at.pc) b
    ∙ ap (λ (n : ℕ). end_board h limit t (At (sum_of t.cursor.row t.cursor.delta) block n Start) at.pc) o
    ∙ ap (λ (n : ℕ). end_board h limit t (At (sum_of t.cursor.row t.cursor.delta) block offset Start) n) p

-- a board at which a stretch begins
pub record Starts {S : Type 0} (k : ServiceOf S) (v : ImageData) (limit : ℕ) (h : HartData) (rom : S) (ram : RamState) (row delta : ℕ) : Type 0 where
  pub underway : Underway k v limit (record { hart = h; rom = rom; ram = ram })
  pub going : h.machine.ending ≡ None
  pub within : h.machine.steps ≤ limit
  pub small : limit ≤ 2 ^ 48
  pub sound : k.sound rom v ram.words
  pub at : StandsInRow v h row delta

-- by another name of its hart and of its index in the row
pub starts : {S : Type 0} {k : ServiceOf S} {v : ImageData} {limit : ℕ} {old h : HartData} {rom : S} {ram : RamState} {first row delta : ℕ} → old ≡ h → row ≡ first →
    Underway k v limit (record { hart = old; rom = rom; ram = ram }) → old.machine.ending ≡ None → old.machine.steps ≤ limit → limit ≤ 2 ^ 48 → k.sound rom v ram.words → StandsInRow v old first delta →
    Starts k v limit h rom ram row delta
starts {S} {k} {v} {limit} {old} {h} {rom} {ram} {first} {row} {delta} same is underway going within small sound at =
    subst (λ (x : HartData). Starts k v limit x rom ram row delta) same
    (subst (λ (n : ℕ). Starts k v limit old rom ram n delta) (sym is) (record { underway = underway; going = going; within = within; small = small; sound = sound; at = at }))

module _ {S : Type 0} {k : ServiceOf S} {v : ImageData} {limit : ℕ} {h : HartData} {rom : S} {ram : RamState} {row delta : ℕ} (laws : IsService k) (s : Starts k v limit h rom ram row delta) where
  pub begins : Begins k v limit (first_turn limit h rom ram row delta)
  begins = record {
    at = first_stood k v h rom row delta s.underway.running.stays.fits s.going s.at;
    hart = h;
    underway = subst (λ (b : BoardWithRam S). Underway k v limit b) (sym (first_board k v h rom row delta s.underway.running.stays.fits s.going s.at limit ram s.within)) s.underway;
    going = s.going;
    small = s.small;
    within = record { left = omega arith; counted = omega arith };
    sound = s.sound;
  }

  -- where it has come to, by the place of the row's index
  module _ {t : Turn S} (i : Turned k v limit (first_turn limit h rom ram row delta) begins.at t) where
    pub end_inside : t.cursor.row < row_length v
    end_inside =
        let within = row_inside v i.at.block i.at.offset i.at.known i.at.inside in
        let is = i.at.is_row in
        omega (arith, within, is)

    module _ (block offset : ℕ) (inside : offset < length_at v block) (is : row_index v block offset ≡ t.cursor.row) where
      same_place : (i.at.block ≡ block) × (i.at.offset ≡ offset)
      same_place = row_once v i.at.block block i.at.offset offset i.at.inside inside (sym i.at.is_row ∙ sym is)

      pub end_origin : Origin v block offset
      end_origin = record {
        text = fetched t.machine.bus;
        pc = i.at.pc;
        carries = carries laws begins i;
        short = i.at.short;
        goes = subst (λ (n : ℕ). GoesOn v i.at.pc n offset) same_place.0 (subst (λ (n : ℕ). GoesOn v i.at.pc i.at.block n) same_place.1 i.at.goes);
      }

      pub end_onward : (control : Control) (index pc : ℕ) → control ≡ At index block offset Start → index ≡ sum_of t.cursor.row t.cursor.delta → pc ≡ end_origin.pc →
          Onward k v limit (record { hart = h; rom = rom; ram = ram }) (end_board h limit t control pc)
      unfolding begins end_origin
      end_onward control index pc control_is index_is pc_is =
          let there : control ≡ At (sum_of t.cursor.row t.cursor.delta) block offset Start = control_is ∙ ap (λ (n : ℕ). At n block offset Start) index_is in
          subst (λ (c : Control). Onward k v limit (record { hart = h; rom = rom; ram = ram }) (end_board h limit t c pc)) (sym there)
          (subst (λ (b : BoardWithRam S). Onward k v limit (record { hart = h; rom = rom; ram = ram }) b) (end_is k v h limit t i.at block offset pc same_place.0 same_place.1 (sym pc_is))
          (subst (λ (b : BoardWithRam S). Onward k v limit b (board_at k v h limit t i.at)) (first_board k v h rom row delta s.underway.running.stays.fits s.going s.at limit ram s.within) (i.ran h)))
