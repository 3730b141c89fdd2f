-- A step of the lazy iterator says of the search what the step of the search itself says.
use Rattle.std.proofs.Common.{Option, None, Some, Result, IfSome}
use Rattle.std.specs.declared.cmp.Ordering.{Ordering}
use Rattle.page_pool.specs.Disk.{PageMap}
use Rattle.page_pool.specs.declared.fault.PageFault.{PageFault}
use Rattle.sand_base.specs.declared.visit.Visit.{Visit}
use Rattle.best_first.specs.declared.hit.Hit.{Hit}
use Rattle.best_first.specs.declared.item.Item.{Item}
use Rattle.best_first.specs.Hierarchy.{Meaning}
use Rattle.best_first.specs.Frontier.{StandsOver}
use Rattle.best_first.specs.Visits.{SearchState, MakesVisits}
use Rattle.best_first.specs.Rows.{StepsSearch}

-- where the pages are known, the search stands over them behind the step, and its visits are those of the step
pub stepped : {N : Type 0} (cmp : N → N → Ordering) (m : PageMap → Meaning N) (note : Item N → Visit) (pages : Option PageMap) (old new : SearchState N) (answer : Result (Option Hit) PageFault)
    → IfSome pages (λ p. StandsOver cmp (m p) new.held new.last) → IfSome pages (λ p. MakesVisits cmp (m p) note old new answer)
    → IfSome pages (λ p. StepsSearch cmp (m p) note old new answer)
stepped cmp m note None old new answer stands visits = tt
stepped cmp m note (Some p) old new answer stands visits = record { stands = stands; visits = visits }
