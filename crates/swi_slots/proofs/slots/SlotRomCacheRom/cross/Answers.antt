use Rattle.std.proofs.Common.{ℕ, ◌+◌, ◌*◌, ap, arith, sym, ◌∙◌}
use Rattle.swi_rom.specs.Record.{direct}
use Rattle.swi_slots.specs.Slots.{Slots}
use Rattle.swi_slots.proofs.Crossing.{outside_served}
use Rattle.swi_slots.proofs.Calls.{place_block, index_fits, exit_not_linked, exit_within, exit_after, index_after, links_after, free_after, crossed_call, crossed_serves, crossed_fault}
use Rattle.swi_slots.proofs.Unused.{setting_same, unused_stays}
use Rattle.swi_slots.proofs.slots.SlotRomCacheRom.cross.Goals as goal

pub returns-in_default-clause-served : goal.returns-in_default-clause-served
returns-in_default-clause-served g c = λ b o f h lt at.
    outside_served _ _ (direct b o c.args.target) _ (exit_not_linked _ _ _ _ _ b o f c.requires.sound c.requires.exit h lt at) (sym c.in_default.ensures.place)

pub block_at-home-requires : goal.block_at-home-requires
block_at-home-requires g c = exit_within _ _ _ _ _ c.requires.sound c.requires.exit

pub overflow_mul-index : goal.overflow_mul-index
overflow_mul-index g c =
    let q = (place_block _ _ _ _ _ c.requires.sound c.in-Some.ensures.place).1 in
    omega (arith, index_fits _ _ _ _ _ c.in-Ok.slot c.self-2.inside.size _ _ c.requires.sound c.in-Ok.ensures.arrived q (ap (λ (s : Slots). s.size) c.self-2.view_is ∙ c.in-Ok.ensures.size))

pub link_exit-requires-clause-fits : goal.link_exit-requires-clause-fits
link_exit-requires-clause-fits g c = (c.in-Ok.ensures.arrived c.requires.sound.0 c.requires.sound.1).sound.fits

pub overflow_add-index : goal.overflow_add-index
overflow_add-index g c =
    let q = (place_block _ _ _ _ _ c.requires.sound c.in-Some.ensures.place).1 in
    omega (arith, index_fits _ _ _ _ _ c.in-Ok.slot c.self-2.inside.size _ _ c.requires.sound c.in-Ok.ensures.arrived q (ap (λ (s : Slots). s.size) c.self-2.view_is ∙ c.in-Ok.ensures.size))

pub link_exit-requires-clause-at : goal.link_exit-requires-clause-at
link_exit-requires-clause-at g c = exit_after _ _ _ _ _ _ _ _ _ c.requires.sound c.requires.exit c.in-Ok.ensures.arrived

pub link_exit-requires-clause-to : goal.link_exit-requires-clause-to
link_exit-requires-clause-to g c =
    index_after _ _ _ _ _ c.in-Ok.slot c.self-2.inside.size _ _ c.requires.sound c.in-Ok.ensures.arrived (place_block _ _ _ _ _ c.requires.sound c.in-Some.ensures.place).1 (ap (λ (s : Slots). s.size) c.self-2.view_is ∙ c.in-Ok.ensures.size)

pub link_exit-requires-clause-free : goal.link_exit-requires-clause-free
link_exit-requires-clause-free g c = free_after _ _ _ _ _ _ _ _ _ _ c.requires.sound c.requires.exit c.in-Ok.ensures.arrived c.block_at-home.ensures

pub link_exit-requires-clause-slot : goal.link_exit-requires-clause-slot
link_exit-requires-clause-slot g c =
    let arr = c.in-Ok.ensures.arrived c.requires.sound.0 c.requires.sound.1 in
    omega (arith, arr.filled, arr.sound.shape.filled_most)

pub link_exit-requires-clause-links : goal.link_exit-requires-clause-links
link_exit-requires-clause-links g c = links_after _ _ _ _ _ _ _ _ _ c.requires.sound c.requires.exit c.in-Ok.ensures.arrived c.requires.services

pub returns-clause-served : goal.returns-clause-served
returns-clause-served g c =
    (crossed_call _ _ _ _ _ _ c.in-Ok.slot _ _ _ _ _ _ _ c.requires.sound c.requires.exit (sym c.in-Some.ensures.place) c.in-Ok.ensures.arrived
    c.block_at-home.ensures
    (ap (λ (n : ℕ). c.in-Ok.slot * n + c.in-Some.offset) (ap (λ (s : Slots). s.size) c.self-2.view_is ∙ c.in-Ok.ensures.size))
    c.in-Ok-link_exit.ensures.linked)

pub returns-clause-stays : goal.returns-clause-stays
returns-clause-stays g c = (
  c.requires.sound.0,
  crossed_serves _ _ _ _ _ _ c.in-Ok.slot _ _ _ _ _ _ _ c.requires.exit (sym c.in-Some.ensures.place) c.in-Ok.ensures.arrived
      c.block_at-home.ensures
      (ap (λ (n : ℕ). c.in-Ok.slot * n + c.in-Some.offset) (ap (λ (s : Slots). s.size) c.self-2.view_is ∙ c.in-Ok.ensures.size))
      c.in-Ok-link_exit.ensures.linked c.requires.sound.0 c.requires.sound.1,
)

pub returns-clause-keeps : goal.returns-clause-keeps
returns-clause-keeps g c =
    crossed_serves _ _ _ _ _ _ c.in-Ok.slot _ _ _ _ _ _ _ c.requires.exit (sym c.in-Some.ensures.place) c.in-Ok.ensures.arrived
    c.block_at-home.ensures
    (ap (λ (n : ℕ). c.in-Ok.slot * n + c.in-Some.offset) (ap (λ (s : Slots). s.size) c.self-2.view_is ∙ c.in-Ok.ensures.size))
    c.in-Ok-link_exit.ensures.linked

pub returns-in_default-link_exit-clause-served : goal.returns-in_default-link_exit-clause-served
returns-in_default-link_exit-clause-served g c = λ b o f h lt at.
    crossed_fault _ _ _ _ _ _ _ _ _ _ _ _ c.requires.sound (sym c.in-Some.ensures.place) c.in-Ok.ensures.arrived c.in_default-link_exit.ensures.failed

pub returns-clause-unused : goal.returns-clause-unused
returns-clause-unused g c =
    let x = c.requires.exit in
    let home = c.block_at-home.ensures in
    let index = ap (λ (n : ℕ). c.in-Ok.slot * n + c.in-Some.offset) (ap (λ (s : Slots). s.size) c.self-2.view_is ∙ c.in-Ok.ensures.size) in
    let served = crossed_call _ _ _ _ _ _ c.in-Ok.slot _ _ _ _ _ _ _ c.requires.sound x (sym c.in-Some.ensures.place) c.in-Ok.ensures.arrived home index c.in-Ok-link_exit.ensures.linked x.block x.offset x.first x.is_placed (omega (arith, x.is_exit.inside)) x.index in
    let serves = crossed_serves _ _ _ _ _ _ c.in-Ok.slot _ _ _ _ _ _ _ x (sym c.in-Some.ensures.place) c.in-Ok.ensures.arrived home index c.in-Ok-link_exit.ensures.linked c.requires.sound.0 c.requires.sound.1 in
    unused_stays c.args.self.now c.link_exit.new.self c.args.image.now (direct x.block x.offset c.args.target) _ _ c.requires.sound (c.requires.sound.0, serves)
    (setting_same c.args.self.now c.link_exit.new.self (c.in-Ok-link_exit.ensures.slots ∙ c.in-Ok.ensures.slots) (c.in-Ok-link_exit.ensures.size ∙ c.in-Ok.ensures.size) (c.in-Ok-link_exit.ensures.programs ∙ c.in-Ok.ensures.programs)) served.moves served.words
