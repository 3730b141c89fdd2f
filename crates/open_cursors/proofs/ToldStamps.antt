-- The maps of the held stamps, where the disk tells its pages.
use Rattle.std.proofs.Common.{◌≡◌, Bool, true, false, Option, Some, None, refl, sym, ◌∙◌, ap, subst, true≢false}
use Rattle.std.specs.Prelude.{IfSome, if◌then◌else◌, is_some}
use Rattle.page_pool.specs.Pool.{IsTold, PoolState, StampMap}
use Rattle.page_pool.specs.Reads.{IsRead}
use Rattle.page_pool.specs.Steps.{IsRead-refl}
use Rattle.open_cursors.specs.OverPages.{told_stamps}

-- the maps, where they are told
abbrev pub told_of : Bool → StampMap → Option StampMap
told_of told stamps = if told then Some stamps else None

-- what is read is told as before
pub same_told : (old new : PoolState) → IsRead old new → told_stamps new ≡ told_stamps old
same_told old new read = ap (λ (t : Bool). told_of t new.stamps) read.told ∙ ap (λ (m : StampMap). told_of old.disk.told m) read.stamps

-- where no maps are told, the disk doesn't tell
pub not_told : (pool : PoolState) → told_stamps pool ≡ None → pool.disk.told ≡ false
not_told pool none = go pool.disk.told refl where
  go : (t : Bool) → pool.disk.told ≡ t → t ≡ false
  go false e = refl
  go true e =
      let some : Some pool.stamps ≡ None = sym (ap (λ (t : Bool). told_of t pool.stamps) e) ∙ none in
      absurd (true≢false (ap (λ (o : Option StampMap). is_some o) some))

-- the maps that are told are those of the pool, and the disk tells
pub are_told : (pool : PoolState) (stamps : StampMap) → told_stamps pool ≡ Some stamps → IsTold pool × (pool.stamps ≡ stamps)
are_told pool stamps is = go pool.disk.told refl is where
  inside : Option StampMap → StampMap
  inside None = stamps
  inside (Some m) = m

  go : (t : Bool) → pool.disk.told ≡ t → told_of t pool.stamps ≡ Some stamps → IsTold pool × (pool.stamps ≡ stamps)
  go true e k = (e, ap inside k)
  go false e k = absurd (true≢false (sym (ap (λ (o : Option StampMap). is_some o) k)))

-- what holds of the maps holds where they are told
pub when_told : (pool : PoolState) (P : StampMap → Type 0) → P pool.stamps → IfSome (told_stamps pool) P
when_told pool P h = go pool.disk.told where
  go : (t : Bool) → IfSome (told_of t pool.stamps) P
  go true = h
  go false = tt

-- what holds where they are told holds of the maps of a pool whose disk tells
pub told_here : (pool : PoolState) (P : StampMap → Type 0) → IsTold pool → IfSome (told_stamps pool) P → P pool.stamps
told_here pool P told h = subst (λ (t : Bool). IfSome (told_of t pool.stamps) P) told h

-- nothing is said where they aren't
pub never_told : (pool : PoolState) (P : StampMap → Type 0) → pool.disk.told ≡ false → IfSome (told_stamps pool) P
never_told pool P untold = subst (λ (t : Bool). IfSome (told_of t pool.stamps) P) (sym untold) tt

-- pages of which nothing was read are as they were
pub unread_pages : (pool : PoolState) → IsRead pool pool
unread_pages pool = IsRead-refl pool
