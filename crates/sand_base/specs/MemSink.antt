-- A sink in memory with room for so many bytes, which fails where it is full and at the calls that a list names.
use Rattle.std.specs.Prelude.{◌≡◌, ℕ, ◌-◌, nat_eq, ◌||◌, min, List, ◌++◌, length, take, Result, Ok, IsErr, MatchBool}
use Rattle.sand_base.specs.Calls.{CallsState, one_more, one_fault, is_next_named}

-- The bytes taken, how many fit in all, and the calls so far.
pub record SinkState : Type 0 where
  pub taken : List ℕ
  pub room : ℕ
  pub calls : CallsState

-- how many bytes more the sink takes
abbrev pub free_count : SinkState → ℕ
free_count sink = sink.room - length sink.taken

-- A write takes nothing where the list names its call or no byte fits, and is a fault. Any other takes the longest front that fits.
abbrev pub WritesBytes : {E : Type 0} → SinkState → SinkState → Result ℕ E → List ℕ → Type 0
WritesBytes old new result piece = MatchBool (is_next_named old.calls || nat_eq (free_count old) 0)
    (IsErr result × (new ≡ record old { calls = one_fault (one_more old.calls) }))
    (let n = min (free_count old) (length piece) in
    (result ≡ Ok n) × (new ≡ record old { taken = old.taken ++ take n piece; calls = one_more old.calls }))
