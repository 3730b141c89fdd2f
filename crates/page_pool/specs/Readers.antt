-- What a reader of a pool shows. (For proofs; no clause above speaks of it.)
use Rattle.std.specs.Prelude.{◌≡◌, Some, IsTrue}
use Rattle.std.specs.FinMap as map
use Rattle.page_pool.specs.declared.view.View.{View}
use Rattle.page_pool.specs.declared.view.View.TheVariants.{Live, Alike, Older}
use Rattle.page_pool.specs.Pool.{PoolState, IsClosed, seen_at, shown_of}

-- a pool as a reader shows it
abbrev pub viewed : PoolState → View → PoolState
viewed s Live = s
viewed s (Alike slot) = seen_at s slot
viewed s (Older slot) = seen_at s slot

-- A pool that is read is closed, and the reader's stamp is held. One since which no command began has the live map.
abbrev pub IsViewed : PoolState → View → Type 0
IsViewed s Live = IsClosed s
IsViewed s (Alike slot) = IsClosed s × (map.get s.stamps slot ≡ Some (shown_of s))
IsViewed s (Older slot) = IsClosed s × IsTrue (map.contains_key s.stamps slot)
