-- Stamps of a pool: a map is held as it is, and is let go.
use Rattle.std.specs.Prelude.{◌≡◌, ℕ, ◌≤◌, None}
use Rattle.std.specs.FinMap as map
use Rattle.page_pool.specs.Pool.{PoolState, shown_of}

-- The live map is held under a stamp that wasn't held, and all else is as it was.
pub record KeepsMap (old new : PoolState) (stamp : ℕ) : Type 0 where
  pub fresh : map.get old.stamps stamp ≡ None
  pub after : new ≡ record old { stamps = map.insert old.stamps stamp (shown_of old) }

-- The stamp is held no more, and all else is as it was. The images that are kept become no more.
pub record LetsMapGo (old new : PoolState) (stamp : ℕ) : Type 0 where
  pub after : new ≡ record old { stamps = map.remove old.stamps stamp; places = new.places }
  pub places : new.places ≤ old.places
