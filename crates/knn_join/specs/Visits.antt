-- The visits of a join with k partners: those of its search, for the row that it gives and for the rows that it passes over before.
use Rattle.std.specs.Prelude.{◌≡◌, ◌≤◌, true, List, ◌∷◌, ◌++◌, length, All, Option, None, Some, Result, Ok, Err}
use Rattle.std.specs.declared.cmp.Ordering.{Ordering}
use Rattle.sand_base.specs.declared.visit.Visit.{Visit}
use Rattle.sand_model.specs.Sources.{Found}
use Rattle.page_pool.specs.declared.fault.PageFault.{PageFault}
use Rattle.best_first.specs.declared.hit.Hit.{Hit}
use Rattle.best_first.specs.declared.item.Item.{Item}
use Rattle.best_first.specs.Item.{gap_of}
use Rattle.best_first.specs.Reach.{IsAtMost, within}
use Rattle.best_first.specs.Hierarchy.{Meaning}
use Rattle.best_first.specs.Frontier.{Stands}
use Rattle.best_first.specs.Visits.{SearchState, Makes, VisitsUpTo, VisitsAll}
use Rattle.semi_join.specs.Listed.{ListsAnswer}
use Rattle.knn_join.specs.PartnerCounts.{PartnerCounts}
use Rattle.knn_join.specs.Listed.{partners_left}

-- After a refusal at most one visit was attempted in vain, and all visits lie within the gap of the partner that would come next, and within the ceiling.
pub record VisitsBeforePartner {N : Type 0} (m : Meaning N) (last : Option Hit) (counts : PartnerCounts) (attempt all : List (Item N)) : Type 0 where
  pub few : length attempt ≤ 1
  pub near : (answer : List Found) → ListsAnswer m answer → (found : Found) (more : List Found) → partners_left last counts answer ≡ found ∷ more
      → All (λ item. IsAtMost (gap_of item) found.gap) (all ++ attempt)
  pub inside : All (λ item. within m.ceiling (gap_of item) ≡ true) (all ++ attempt)

-- how far the visits go, by the call's answer
abbrev pub PartnerBounds : {N : Type 0} → (N → N → Ordering) → Meaning N → Option Hit → PartnerCounts → Result (Option Hit) PageFault → List (Item N) → List (Item N) → Type 0
PartnerBounds cmp m last counts (Ok (Some hit)) attempt all = VisitsUpTo cmp m hit attempt all
PartnerBounds cmp m last counts (Ok None) attempt all = VisitsAll cmp m attempt all
PartnerBounds cmp m last counts (Err fault) attempt all = VisitsBeforePartner m last counts attempt all

-- The visits of one call of `next`, where the search had taken this before it.
pub record PartnerVisits {N : Type 0} (cmp : N → N → Ordering) (m : Meaning N) (note : Item N → Visit) (counts : PartnerCounts)
    (done : List (Item N)) (old new : SearchState N) (result : Result (Option Hit) PageFault) : Type 0 where
  pub attempt : List (Item N)
  pub makes : Makes cmp m note done old new attempt
  pub bounds : PartnerBounds cmp m old.last counts result attempt (done ++ makes.taken)

-- the visits of one call of `next`, whatever the search had taken before it
abbrev pub MakesPartnerVisits : {N : Type 0} → (N → N → Ordering) → Meaning N → (Item N → Visit) → PartnerCounts
    → SearchState N → SearchState N → Result (Option Hit) PageFault → Type 0
MakesPartnerVisits {N} cmp m note counts old new result =
    (done : List (Item N)) → Stands cmp m old.held old.last done → PartnerVisits cmp m note counts done old new result
