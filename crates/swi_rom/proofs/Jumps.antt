-- The word that a service writes into an exit.
use Rattle.std.proofs.Common.{◌≡◌, ◌^◌, ℕ, ◌<◌, Some, sym}
use Rattle.swi_isa.specs.declared.instr.Instr.TheVariants.{Jal}
use Rattle.swi_isa.specs.Decode.{decoded}
use Rattle.swi_encode.proofs.Back.{decoded_again}
use Rattle.swi_rom.specs.Record.{IsJump, jump_offset, jump_word}

pub is_jump : (from to w : ℕ) → w < 2 ^ 32 → decoded w ≡ Some (Jal 0 (jump_offset from to)) → IsJump from to w
unfolding jump_word
is_jump from to w small is = record { word = sym (decoded_again w (Jal 0 (jump_offset from to)) small is).0; decodes = is }
