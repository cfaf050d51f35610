-- A call that doesn't read into the text leaves what is fetched.
use Rattle.std.proofs.Common.{◌≡◌, ℕ, ◌≤◌, Option, None, List, [], ◌∷◌, length, arith, refl}
use Rattle.std.proofs.lemmas.Bool.Decides.{nat_tests}
use Rattle.swi_memory.specs.Bus.{AreaData, fetched, with_bytes}
use Rattle.swi_memory.specs.Laws.{fetched_with_bytes, touches_front}
use Rattle.swi_exec.specs.Registers.{Registers}
use Rattle.swi_outside.specs.Source.{SourceState}
use Rattle.swi_calls.specs.Call.{second_argument, third_argument, room_of_call}
use Rattle.swi_calls.specs.Moves.{ReadsInto}
use Rattle.swi_calls.specs.StoresText.{read_into_text}

put_text : (regs : Registers) (bus : List AreaData) (x : ℕ) (bytes : List ℕ) → read_into_text regs bus ≡ None → length bytes ≤ room_of_call regs bus → fetched (with_bytes bus (second_argument regs) bytes) x ≡ fetched bus x
put_text regs bus x [] none within = refl
put_text regs bus x (b ∷ bytes) none within =
    grind (arith, nat_tests, fetched_with_bytes bus (second_argument regs) (b ∷ bytes) x, touches_front bus (second_argument regs) (third_argument regs) (length (b ∷ bytes)))

pub moved_text : (regs : Registers) (bus bus' : List AreaData) (old new : SourceState) →
    (k : ℕ) × (k ≤ room_of_call regs bus) × ReadsInto bus bus' old new (second_argument regs) k → read_into_text regs bus ≡ None → (x : ℕ) → fetched bus' x ≡ fetched bus x
moved_text regs bus bus' old new moved none x =
    let (k, within, reads) = moved in
    rw reads.stored (put_text regs bus x reads.bytes none (omega (arith, reads.number, within)))
