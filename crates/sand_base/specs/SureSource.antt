-- A source in memory that never fails: what it has left, and how much of it a read gives.
use Rattle.std.specs.Prelude.{◌≡◌, ℕ, min, List, length, drop, Result, Ok}

-- The bytes that are left, and how many of them a read gives at most.
pub record SureState : Type 0 where
  pub left : List ℕ
  pub chunk : ℕ

-- how many bytes a read into a piece of this length gives: all that the chunk, the piece and what is left allow
abbrev pub given_count : ℕ → List ℕ → ℕ → ℕ
given_count chunk left room = min chunk (min room (length left))

-- A read into a piece of this length gives that many bytes, and takes them from what is left.
abbrev pub SureReads : {E : Type 0} → SureState → SureState → Result ℕ E → ℕ → Type 0
SureReads old new result room =
    let n = given_count old.chunk old.left room in (result ≡ Ok n) × (new ≡ record old { left = drop n old.left })
