-- Which stamps a pool holds, between the calls of a run.
use Rattle.std.specs.Prelude.{◌≢◌, ℕ, IsTrue}
use Rattle.std.specs.FinMap as map
use Rattle.page_pool.specs.Pool.{PoolState}

-- the pool holds a stamp of this number
abbrev pub HoldsStamp : PoolState → ℕ → Type 0
HoldsStamp s id = IsTrue (map.contains_key s.stamps id)

-- each stamp that was held is held still
abbrev pub HoldsStill : PoolState → PoolState → Type 0
HoldsStill old new = (id : ℕ) → HoldsStamp old id → HoldsStamp new id

-- A stamp is held that is none of those which were held before, and these are held still.
pub record TakesStamp (old new : PoolState) (stamp : ℕ) : Type 0 where
  pub held : HoldsStamp new stamp
  pub still : HoldsStill old new
  pub fresh : (id : ℕ) → HoldsStamp old id → id ≢ stamp

-- two stamps are held, and they are not the same
pub record HoldsBoth (s : PoolState) (older younger : ℕ) : Type 0 where
  pub first : HoldsStamp s older
  pub second : HoldsStamp s younger
  pub apart : older ≢ younger

-- each stamp that was held is held still, except this one
abbrev pub HoldsOtherStamps : PoolState → PoolState → ℕ → Type 0
HoldsOtherStamps old new stamp = (id : ℕ) → id ≢ stamp → HoldsStamp old id → HoldsStamp new id
