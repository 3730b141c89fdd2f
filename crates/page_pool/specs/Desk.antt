-- A desk: the pages of a pool, lent for reading, and the visits that were noted.
use Rattle.std.specs.Prelude.{List}
use Rattle.sand_base.specs.declared.visit.Visit.{Visit}
use Rattle.page_pool.specs.Pool.{PoolState}

-- the pool, and the visits in their order
pub record DeskState : Type 0 where
  pub pool : PoolState
  pub visits : List Visit
