-- The rights of an area. Source: System V ABI, "Program Header", p_flags: PF_R is 4, PF_W is 2, PF_X is 1.
use Rattle.std.specs.Prelude.{◌==◌, ℕ, ◌/◌, ◌%◌, Bool}
use Rattle.swi_memory.specs.declared.right.Right.{Right}
use Rattle.swi_memory.specs.declared.right.Right.TheVariants.{Read, Write, Execute}

-- whether the flags have this right
abbrev pub grants : Right → ℕ → Bool
grants Read flags = flags / 4 % 2 == 1
grants Write flags = flags / 2 % 2 == 1
grants Execute flags = flags % 2 == 1
