-- When a call to the outside may fail: only where a count of its faults rises.
use Rattle.std.specs.Prelude.{◌≡◌, ℕ, ◌+◌, ◌-◌, ◌^◌, ◌≤◌, min, Result, OnOk, OnErr}

-- the greatest number that a counter of calls or faults reaches, where it stays
abbrev pub last_count : ℕ
last_count = 2 ^ 64 - 1

-- the count after this one
abbrev pub next_count : ℕ → ℕ
next_count n = min (n + 1) last_count

-- The count rose, or stands at the counter's greatest value.
abbrev pub Rose : ℕ → ℕ → Type 0
Rose before now = next_count before ≤ now

-- A call's answer has its cause: the count stays at Ok, and a failed call is one fault more.
pub record HasCause {T E : Type 0} (before now : ℕ) (result : Result T E) : Type 0 where
  pub later : before ≤ now
  pub done : OnOk result (now ≡ before)
  pub failed : OnErr result (now ≡ next_count before)
