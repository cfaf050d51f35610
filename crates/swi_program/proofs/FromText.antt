-- The program of a text alone.
use Rattle.std.proofs.Common.{◌≡◌, ℕ, ◌+◌, ◌%◌, ◌^◌, ◌<◌, ◌≤◌, List, length, refl, arith, subst, sym}
use Rattle.std.proofs.lemmas.Bool.Decides.{nat_tests}
use Rattle.swi_program.specs.Program.{SegmentData, IsProgram}
use Rattle.swi_program.specs.ProgramOf.{program_of_text}

pub text_program : (base : ℕ) (segments : List SegmentData) (text : List ℕ) → segments ≡ (program_of_text base text).segments →
    base % 4 ≡ 0 → length text % 4 ≡ 0 → 0 < length text → length text ≤ 2 ^ 21 → base + length text ≤ 2 ^ 32 →
    IsProgram (record { entry = base; flags = 0; segments = segments })
text_program base segments text is aligned whole some few end =
    let made : IsProgram (program_of_text base text) = record {
      plain = refl;
      each = (record { rights = omega arith; some = omega arith; front = omega arith; end = omega arith; text = λ e. omega arith }, tt);
      apart = (tt, tt);
      one_text = refl;
      memory = omega arith;
      word = grind (arith, nat_tests);
    } in
    subst (λ (l : List SegmentData). IsProgram (record { entry = base; flags = 0; segments = l })) (sym is) made
