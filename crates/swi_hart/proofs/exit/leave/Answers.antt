use Rattle.std.proofs.Common.{Option, arith, refl, sym, subst, ap, ◌∙◌}
use Rattle.swi_isa.specs.declared.instr.Instr.{Instr}
use Rattle.swi_rom.specs.Coherent.{TargetAt}
use Rattle.swi_hart.specs.Leaving.{offset_of}
use Rattle.swi_hart.proofs.Falls.{ram_same, words_same}
use Rattle.swi_hart.proofs.Leaving.{by_error, served_at, served_outside, served_not, exit_unlinked, jump_linked, link_target}
use Rattle.swi_hart.proofs.exit.leave.Goals as goal

pub returns-then-got-ne-EBREAK-clause-control : goal.returns-then-got-ne-EBREAK-clause-control
returns-then-got-ne-EBREAK-clause-control g c =
    let s = c.requires.sound in
    let v = c.args.image.now in
    let r = g.R.CacheRom.service.kept c.args.rom.now in
    let coherent = g.met.R.CacheRom.laws.coherent _ _ _ s in
    let to = link_target v r _ _ c.args.got c.args.at.index c.args.at.block c.args.at.offset c.jump_index.result coherent (g.met.R.CacheRom.laws.image _ _ _ s) (g.met.R.CacheRom.laws.small _ _ _ s)
    c.requires.exit c.if-got-ne-EBREAK.true (λ n jumps. c.jump_index.ensures n (c.requires.offset ∙ ap (λ (x : Option Instr). offset_of x) jumps.decodes)) in
    c.control_at.ensures v _ c.args.target s (subst (λ n. TargetAt v r n c.jump_index.result) (sym c.requires.target) to)

pub returns-then-got-ne-EBREAK-clause-served : goal.returns-then-got-ne-EBREAK-clause-served
returns-then-got-ne-EBREAK-clause-served g c =
    let s = c.requires.sound in
    let linked = jump_linked _ _ _ _ c.args.got c.args.at.index c.args.at.block c.args.at.offset (g.met.R.CacheRom.laws.coherent _ _ _ s) c.requires.exit c.if-got-ne-EBREAK.true in
    record {
      policy = sym (g.met.R.CacheRom.laws.link_stays _ _ _ _ _ _ linked);
      setting = refl;
      sound = (s, λ images serves. serves);
      unused = λ i le. refl;
      words = words_same _ (g.R.CacheRom.service.kept c.args.rom.now) _ _ refl;
      ram = ram_same _ (g.R.CacheRom.service.kept c.args.rom.now) _;
      failed = tt;
      placed = tt;
    }

pub cross-requires-clause-exit : goal.cross-requires-clause-exit
cross-requires-clause-exit g c =
    let e = c.requires.exit in
    record {
      block = c.args.at.block;
      offset = c.args.at.offset;
      first = e.first;
      is_placed = e.is_placed;
      index = e.index;
      not_linked = exit_unlinked _ _ _ _ _ _ _ _ (g.met.R.CacheRom.laws.coherent _ _ _ c.requires.sound) e c.if-got-ne-EBREAK.false;
      is_exit = record { inside = e.inside; leaves = e.leaves; direct = e.is_direct };
      descriptor = c.requires.target;
    }

pub returns-in-Ok-clause-control : goal.returns-in-Ok-clause-control
returns-in-Ok-clause-control g c =
    let e = c.requires.exit in
    let s = c.in-Ok.ensures.served c.args.at.block c.args.at.offset e.first e.is_placed (omega (arith, e.inside)) e.index in
    c.control_at-in-Ok.ensures _ _ c.args.target c.in-Ok.ensures.stays s.answer

pub returns-in-Ok-clause-served : goal.returns-in-Ok-clause-served
returns-in-Ok-clause-served g c =
    let e = c.requires.exit in
    let q = c.in-Ok.ensures in
    served_at q.setting _ _ (q.served c.args.at.block c.args.at.offset e.first e.is_placed (omega (arith, e.inside)) e.index) q.unused (q.stays, q.keeps)

pub returns-in-Err-Outside : goal.returns-in-Err-Outside
returns-in-Err-Outside g c =
    let e = c.requires.exit in
    let q = c.in-Err-Outside.ensures in
    let s = by_error c.in-Err-Outside.field-0-is (q.served c.args.at.block c.args.at.offset e.first e.is_placed (omega (arith, e.inside)) e.index) in
    let unused = rw c.in-Err-Outside.field-0-is at q.unused in
    let stays = rw c.in-Err-Outside.field-0-is at q.stays in
    let keeps = rw c.in-Err-Outside.field-0-is at q.keeps in
    record { control = s.outside refl; served = served_outside q.setting _ s unused (stays, keeps) }

pub returns-in-Err-RamFault-clause-served : goal.returns-in-Err-RamFault-clause-served
returns-in-Err-RamFault-clause-served g c =
    let e = c.requires.exit in
    let q = c.in-Err-RamFault.ensures in
    served_not q.setting _ (by_error c.in-Err-RamFault.field-0-is (q.served c.args.at.block c.args.at.offset e.first e.is_placed (omega (arith, e.inside)) e.index))
