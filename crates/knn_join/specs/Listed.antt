-- What is left of a ranked answer as a list: the rows after the last one that the search gave, and the partners among them.
use Rattle.std.specs.Prelude.{Bool, true, List, filter, Option, None, Some, IfSome, Result}
use Rattle.std.specs.Ordering.{is_lt}
use Rattle.sand_model.specs.Sources.{Found}
use Rattle.page_pool.specs.Disk.{PageMap}
use Rattle.page_pool.specs.declared.fault.PageFault.{PageFault}
use Rattle.best_first.specs.declared.hit.Hit.{Hit}
use Rattle.best_first.specs.Answer.{hit_cmp}
use Rattle.best_first.specs.Hierarchy.{Meaning}
use Rattle.semi_join.specs.Listed.{hit_of, ListsAnswer, TakesFirst}
use Rattle.sand_model.specs.Sources.{nearest_after}
use Rattle.knn_join.specs.PartnerCounts.{PartnerCounts, given_to}

-- whether an element comes after the last row that was given, if any was
abbrev pub comes_after : Option Hit → Found → Bool
comes_after None found = true
comes_after (Some last) found = is_lt (hit_cmp last (hit_of found))

-- the elements of a list that come after the last row that was given
abbrev pub later_than : Option Hit → List Found → List Found
later_than last answer = filter (comes_after last) answer

-- the partners that are left: of the elements after the last row of the search, those before which their left row had fewer than the most partners
abbrev pub partners_left : Option Hit → PartnerCounts → List Found → List Found
partners_left last counts answer = nearest_after counts.most (given_to counts) (later_than last answer)

-- a call takes the first of what is left of each list that is the answer over the pages that a disk tells
abbrev pub LeavesRest : {N : Type 0} → (PageMap → Meaning N) → Option PageMap → Option Hit → PartnerCounts → Option Hit → PartnerCounts → Result (Option Hit) PageFault → Type 0
LeavesRest meaning pages old_last old new_last new result =
    IfSome pages (λ p. (answer : List Found) → ListsAnswer (meaning p) answer → TakesFirst (partners_left old_last old answer) (partners_left new_last new answer) result)
