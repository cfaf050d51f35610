-- How often devices were asked, and how often they failed.
use Rattle.std.specs.Prelude.{ℕ, ◌+◌, ◌==◌, if◌then◌else◌, Bool, Result, Ok, Err}
use Rattle.swi_devices.specs.declared.count.Tally.{Tally}
use Rattle.swi_devices.specs.declared.count.Tally.TheVariants.{None, More', Sum'}

abbrev pub number_in : Tally → ℕ
number_in None = 0
number_in (More' _ _ before) = number_in before + 1
number_in (Sum' _ _ before _ _ more) = number_in before + number_in more

-- how often a device has failed, after a call that answered so
abbrev pub failures_after : {T E : Type 0} → ℕ → Result T E → ℕ
failures_after n (Ok v) = n
failures_after n (Err e) = n + 1

-- whether a reader's end was reached, after a read that answered so: it is where no byte came
abbrev pub ended_after : {E : Type 0} → Bool → Result ℕ E → Bool
ended_after ended (Ok n) = n == 0
ended_after ended (Err e) = ended

-- how often a reader was asked behind its end, after one read more
abbrev pub late_after : ℕ → Bool → ℕ
late_after n ended = if ended then n + 1 else n
