-- The calls of an object in memory: they are numbered from 1, and a list names those that fail.
use Rattle.std.specs.Prelude.{◌≡◌, ℕ, Bool, nat_eq, nat_lt, ◌&&◌, List, Result, IsErr, IsOk, MatchBool}
use Rattle.std.specs.List.{list_any}
use Rattle.sand_base.specs.Faults.{last_count, next_count}

-- The numbers of the calls that fail, the number of the last call that was made (0 before the first), and how many faults were counted.
pub record CallsState : Type 0 where
  pub fails : List ℕ
  pub made : ℕ
  pub faults : ℕ

-- before the first call
abbrev pub no_calls : List ℕ → CallsState
no_calls fails = record { fails = fails; made = 0; faults = 0 }

-- these calls and one more
abbrev pub one_more : CallsState → CallsState
one_more calls = record calls { made = next_count calls.made }

-- these calls, the last of which was a fault
abbrev pub one_fault : CallsState → CallsState
one_fault calls = record calls { faults = next_count calls.faults }

-- the list names the next call, whose number is below the greatest
abbrev pub is_next_named : CallsState → Bool
is_next_named calls =
    let number = next_count calls.made in nat_lt number last_count && list_any (λ n. nat_eq n number) calls.fails

-- One more call began: it is a fault where the list names it, and only there.
abbrev pub Begins : {T E : Type 0} → CallsState → CallsState → Result T E → Type 0
Begins old new result = MatchBool (is_next_named old)
    (IsErr result × (new ≡ one_fault (one_more old)))
    (IsOk result × (new ≡ one_more old))
