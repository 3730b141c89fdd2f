-- A pool that was lent at a stamp and comes back is closed, and holds the same stamps.
use Rattle.std.proofs.Common.{◌≡◌, ℕ, refl, sym, ap, subst, ◌∙◌, Option, None, Some, IsNone}
use Rattle.std.specs.FinMap as map
use Rattle.std.specs.Option.{option_map_or}
use Rattle.page_pool.specs.Pool.{PoolState, Shown, IsClosed, showing, seen_at, live_again, back}
use Rattle.page_pool.specs.Reads.{IsRead}
use Rattle.fault_tables.specs.Holding.{HoldsStill}

-- no command begins when a stamp's map is shown
shown-beginning : (s : PoolState) (o : Option Shown) → (option_map_or (showing s) o s).beginning ≡ s.beginning
shown-beginning s None = refl
shown-beginning s (Some m) = refl

-- the same stamps are held when one's map is shown
shown-stamps : (s : PoolState) (o : Option Shown) → (option_map_or (showing s) o s).stamps ≡ s.stamps
shown-stamps s None = refl
shown-stamps s (Some m) = refl

-- no command begins when the live map is shown again
back-beginning : (s : PoolState) (o : Option Shown) → (option_map_or (live_again s) o s).beginning ≡ s.beginning
back-beginning s None = refl
back-beginning s (Some m) = refl

-- the same stamps are held when the live map is shown again
back-stamps : (s : PoolState) (o : Option Shown) → (option_map_or (live_again s) o s).stamps ≡ s.stamps
back-stamps s None = refl
back-stamps s (Some m) = refl

-- then it isn't kept beside another
back-none : (s : PoolState) (o : Option Shown) → s.live ≡ o → IsNone (option_map_or (live_again s) o s).live
back-none s None is = subst IsNone (sym is) refl
back-none s (Some m) is = refl

-- a pool that was read at a stamp is closed again
pub closed_again : (pool read : PoolState) (stamp : ℕ) → IsClosed pool → IsRead (seen_at pool stamp) read → IsClosed (back read)
closed_again pool read stamp closed h = (
  subst IsNone (sym (back-beginning read read.live ∙ h.beginning ∙ shown-beginning pool (map.get pool.stamps stamp))) closed.0,
  back-none read read.live refl,
)

-- it holds the stamps that it held
pub held_again : (pool read : PoolState) (stamp : ℕ) → IsRead (seen_at pool stamp) read → HoldsStill pool (back read)
held_again pool read stamp h id was =
    ap (λ m. map.contains_key m id) (back-stamps read read.live ∙ h.stamps ∙ shown-stamps pool (map.get pool.stamps stamp)) ∙ was
