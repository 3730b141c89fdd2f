-- The steps of the lazy iterator over the rows to come, and its outcome.
use Rattle.std.specs.Prelude.{◌≡◌, ◌⊎◌, Bool, true, false, Option, None, Some, Result, Ok, Err, IfOk, ⊤}
use Rattle.std.specs.declared.cmp.Ordering.{Ordering}
use Rattle.page_pool.specs.Causes.{HasPageCause}
use Rattle.page_pool.specs.Desk.{DeskState}
use Rattle.page_pool.specs.Reads.{IsRead}
use Rattle.page_pool.specs.declared.fault.PageFault.{PageFault}
use Rattle.sand_base.specs.declared.visit.Visit.{Visit}
use Rattle.best_first.specs.declared.hit.Hit.{Hit}
use Rattle.best_first.specs.declared.item.Item.{Item}
use Rattle.best_first.specs.Hierarchy.{Meaning}
use Rattle.best_first.specs.Answer.{IsNext, IsExhausted}
use Rattle.best_first.specs.Frontier.{StandsOver}
use Rattle.best_first.specs.Visits.{SearchState, MakesVisits}

-- A row comes only while no step has given None, and leaves that so; the first step that gives None leaves the end, or the fault, and each later one leaves that as it is.
abbrev pub StepsOutcome : Result Bool PageFault → Option Hit → Result Bool PageFault → Type 0
StepsOutcome before (Some hit) after = (before ≡ Ok false) × (after ≡ Ok false)
StepsOutcome before None after = IfOk after (λ over. over ≡ true) × ((before ≡ Ok false) ⊎ (after ≡ before))

-- the row is the next one of the answer, and where the end is the outcome none is left
abbrev pub GivesRowsNext : {N : Type 0} → Meaning N → Option Hit → Option Hit → Result Bool PageFault → Type 0
GivesRowsNext m last (Some hit) after = IsNext m last hit
GivesRowsNext m last None (Ok over) = IsExhausted m last
GivesRowsNext m last None (Err fault) = ⊤

-- a step reads pages alone, and a fault that it leaves has its cause in it
abbrev pub StepsDesk : DeskState → DeskState → Result Bool PageFault → Type 0
StepsDesk old new after = IsRead old.pool new.pool × HasPageCause old.pool new.pool after

-- what the search answered to a step, by the row that the step gave and the outcome that it left
abbrev pub search_answer : Option Hit → Result Bool PageFault → Result (Option Hit) PageFault
search_answer (Some hit) after = Ok (Some hit)
search_answer None (Ok over) = Ok None
search_answer None (Err fault) = Err fault

-- A step makes the visits of one step of the search, and the search stands over the same hierarchy behind it.
pub record StepsSearch {N : Type 0} (cmp : N → N → Ordering) (m : Meaning N) (note : Item N → Visit) (old new : SearchState N) (answer : Result (Option Hit) PageFault) : Type 0 where
  pub stands : StandsOver cmp m new.held new.last
  pub visits : MakesVisits cmp m note old new answer
