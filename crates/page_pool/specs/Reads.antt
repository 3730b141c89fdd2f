-- What reading pages leaves as it is.
use Rattle.std.specs.Prelude.{◌≡◌, ℕ, Result, IfErr}
use Rattle.sand_base.specs.Faults.{next_count}
use Rattle.page_pool.specs.declared.fault.PageFault.{PageFault}
use Rattle.page_pool.specs.Pool.{PoolState}
use Rattle.page_pool.specs.Causes.{HasPageCause, Names}

-- Nothing changes but the frames, the page that the disk last gave, its count of faults, and the numbers of gets and of damaged pages.
pub record IsRead (old new : PoolState) : Type 0 where
  pub pages : new.pages ≡ old.pages
  pub beginning : new.beginning ≡ old.beginning
  pub dirty : new.dirty ≡ old.dirty
  pub freed : new.freed ≡ old.freed
  pub kept : new.kept ≡ old.kept
  pub top : new.top ≡ old.top
  pub spare : new.spare ≡ old.spare
  pub told : new.disk.told ≡ old.disk.told
  pub stored : new.disk.pages ≡ old.disk.pages
  pub frames : new.frames ≡ old.frames
  pub stamps : new.stamps ≡ old.stamps
  pub live : new.live ≡ old.live
  pub places : new.places ≡ old.places

-- One get of page n, whatever its answer: it is counted, it changes nothing, and a refusal has its cause in this call, is counted, and names this page.
pub record Gets {T : Type 0} (old new : PoolState) (n : ℕ) (result : Result T PageFault) : Type 0 where
  pub read : IsRead old new
  pub gets : new.gets ≡ next_count old.gets
  pub cause : HasPageCause old new result
  pub named : IfErr result (Names n)
