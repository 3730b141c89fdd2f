-- A source in memory that fails at the calls that a list names.
use Rattle.std.specs.Prelude.{◌≡◌, ℕ, List, drop, Result, Ok, IsErr, MatchBool}
use Rattle.sand_base.specs.Calls.{CallsState, one_more, one_fault, is_next_named}
use Rattle.sand_base.specs.SureSource.{given_count}

-- The bytes that are left, how many of them a read gives at most, and the calls so far.
pub record SourceState : Type 0 where
  pub left : List ℕ
  pub chunk : ℕ
  pub calls : CallsState

-- A read into a piece of this length takes nothing where the list names its call, and is a fault. Any other gives all that it may.
abbrev pub ReadsPiece : {E : Type 0} → SourceState → SourceState → Result ℕ E → ℕ → Type 0
ReadsPiece old new result room = MatchBool (is_next_named old.calls)
    (IsErr result × (new ≡ record old { calls = one_fault (one_more old.calls) }))
    (let n = given_count old.chunk old.left room in
    (result ≡ Ok n) × (new ≡ record old { left = drop n old.left; calls = one_more old.calls }))
