-- Counts of faults, and the answers that they license. A failed answer has a cause that can
-- be seen, the device's count of faults, which stands still at its type's last value.
use Rattle.std.specs.Prelude.{◌≡◌, ◌⊎◌, ℕ, ◌+◌, ◌-◌, ◌^◌, ◌≤◌, min, max, Result, OnErr, OnOk}

-- a count after so many more: it stands still at 2^64 - 1
abbrev pub risen : ℕ → ℕ → ℕ
risen n more = max n (min (n + more) (2 ^ 64 - 1))

-- a count after one more
abbrev pub counted : ℕ → ℕ
counted n = risen n 1

-- the count has risen, or stands at its last value
abbrev pub Rose : ℕ → ℕ → Type 0
Rose before now = min (before + 1) (2 ^ 64 - 1) ≤ now

-- the count never falls, a failure comes only where it rose, and only a failure raises it
pub record HasCause {T E : Type 0} (before now : ℕ) (result : Result T E) : Type 0 where
  pub later : before ≤ now
  pub failed : OnErr result (Rose before now)
  pub quiet : OnOk result (now ≡ before)

-- A device over a call that names it by one of its answers: the count never falls, the answer comes only where it rose, and where it
-- rose the answer comes.
pub record DeviceCause (before now : ℕ) (named : Type 0) : Type 0 where
  pub later : before ≤ now
  pub cause : named → Rose before now
  pub told : (now ≡ before) ⊎ named

-- the same of two devices that one answer names
pub record PairCause (one one' other other' : ℕ) (named : Type 0) : Type 0 where
  pub one_later : one ≤ one'
  pub other_later : other ≤ other'
  pub cause : named → Rose one one' ⊎ Rose other other'
  pub one_told : (one' ≡ one) ⊎ named
  pub other_told : (other' ≡ other) ⊎ named
