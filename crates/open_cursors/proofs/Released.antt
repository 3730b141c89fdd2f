-- A store of which a map was taken or let go, and what a statement that reads leaves.
use Rattle.std.proofs.Common.{◌≡◌, ℕ, refl, ◌∙◌, ap, sym}
use Rattle.page_pool.specs.Causes.{failures_of}
use Rattle.page_pool.specs.Pool.{PoolState, StampMap}
use Rattle.page_pool.specs.Reads.{IsRead}
use Rattle.page_pool.specs.Stamps.{KeepsMap, LetsMapGo}
use Rattle.page_pool.specs.declared.fault.PageFault.TheVariants.{Memory}
use Rattle.sand_store.specs.Catalog.{StoreState}
use Rattle.statement_exec.specs.Ending.{FailsOnceAtMost}
use Rattle.open_cursors.specs.OverPages.{HoldsOthers, LeavesPages}

-- the state with the stamps and places of another
with_those : PoolState → PoolState → PoolState
with_those old new = record old { stamps = new.stamps; places = new.places }

-- a map was let go: which are held, and how many images are kept, changed alone
pub released_alone : (old new : PoolState) (stamp : ℕ) → LetsMapGo old new stamp → new ≡ record old { stamps = new.stamps; places = new.places }
released_alone old new stamp lets = lets.after ∙ ap (λ (m : StampMap). record old { stamps = m; places = new.places }) (sym (ap (λ (q : PoolState). q.stamps) lets.after))

-- a map was taken
pub kept_alone : (old new : PoolState) (stamp : ℕ) → KeepsMap old new stamp → new ≡ record old { stamps = new.stamps; places = new.places }
unfolding with_those
kept_alone old new stamp kept = kept.after ∙ sym (ap (λ (q : PoolState). with_those old q) kept.after)

-- a cursor was opened or closed
pub leaves_held : (old new : StoreState) → HoldsOthers old new → LeavesPages old.pool new.pool
leaves_held old new h = record {
  pages = ap (λ (q : PoolState). q.pages) h.pool;
  told = ap (λ (q : PoolState). q.disk.told) h.pool;
  counted = (Memory, ap (λ (q : PoolState). failures_of q) h.pool);
}

-- pages were read
pub leaves_read : (old new : PoolState) → IsRead old new → FailsOnceAtMost old new → LeavesPages old new
leaves_read old new read counted = record { pages = read.pages; told = read.told; counted = counted }

-- nothing was read
pub leaves_all : (pool : PoolState) → LeavesPages pool pool
leaves_all pool = record { pages = refl; told = refl; counted = (Memory, refl) }
