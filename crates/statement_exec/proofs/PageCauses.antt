-- The cause of a fault of a page, as one of the refusal by it.
use Rattle.std.proofs.Common.{refl, inl}
use Rattle.std.specs.Prelude.{Err}
use Rattle.page_pool.specs.Causes.{HasPageCause}
use Rattle.page_pool.specs.Pool.{PoolState, shown_of}
use Rattle.page_pool.specs.declared.fault.PageFault.{PageFault}
use Rattle.page_pool.specs.declared.fault.PageFault.TheVariants as page
use Rattle.sand_store.specs.Calls.{refusal_of}
use Rattle.statement_exec.specs.Ending.{IsCausedByPages}

-- a fault of a page is the cause of the refusal
pub caused_by_pages : {T : Type 0} (old new : PoolState) (fault : PageFault) → HasPageCause {T = T} old new (Err fault) → IsCausedByPages old new (refusal_of fault)
caused_by_pages old new page.Memory h = record { counted = h.counted; damaged = tt }
caused_by_pages old new page.Device h = record { counted = h.counted; damaged = tt }
caused_by_pages old new (page.Damaged n kept read) h = record {
  counted = h.counted;
  damaged = record {
    seen = shown_of new;
    is_seen = inl refl;
    damage = record { kept_is = h.damaged.kept_is; read_is = h.damaged.read_is; differ = h.damaged.differ; untold = h.damaged.untold };
  };
}
