-- The answer of a hierarchy as a list, as plans know it, and what a semi-join has left of it.
use Rattle.std.specs.Prelude.{◌≡◌, not, List, [], ◌∷◌, filter, Contains, Option, None, Some, Result, Ok, Err}
use Rattle.std.specs.List.Sorted.{IsStrictlySortedBy}
use Rattle.std.specs.FinSet as set
use Rattle.page_pool.specs.declared.fault.PageFault.{PageFault}
use Rattle.sand_model.specs.Sources.{Found, found_cmp, first_of_each}
use Rattle.best_first.specs.declared.hit.Hit.{Hit}
use Rattle.best_first.specs.Item.{IsSameRow}
use Rattle.best_first.specs.Hierarchy.{Meaning}
use Rattle.best_first.specs.Answer.{IsAnswer}
use Rattle.semi_join.specs.LeftRows.{IdSet}

-- the element of a list as a row of a search
abbrev pub hit_of : Found → Hit
hit_of found = record { gap = found.gap; left = found.left; right = found.right }

-- the row stands in the list, by its ids and the value of its gap
pub record IsInList (answer : List Found) (hit : Hit) : Type 0 where
  pub found : Found
  pub among : Contains answer found
  pub same : IsSameRow hit (hit_of found)

-- the element is a row of the answer, by its ids and the value of its gap
pub record IsOfAnswer {N : Type 0} (m : Meaning N) (found : Found) : Type 0 where
  pub row : Hit
  pub answer : IsAnswer m row
  pub same : IsSameRow row (hit_of found)

-- The list is the answer of the hierarchy: it rises by gap, left id and right id, has each row of the answer, and nothing else.
pub record ListsAnswer {N : Type 0} (m : Meaning N) (answer : List Found) : Type 0 where
  pub rising : IsStrictlySortedBy found_cmp answer
  pub whole : (hit : Hit) → IsAnswer m hit → IsInList answer hit
  pub only : (found : Found) → Contains answer found → IsOfAnswer m found

-- the first pairs of the answer whose left ids were not given yet
abbrev pub pairs_left : IdSet → List Found → List Found
pairs_left given answer = filter (λ found. not (set.contains given found.left)) (first_of_each answer)

-- A row that is given is the first of those that were left, and the others are left; at the end none is left; after a refusal the same are left.
abbrev pub TakesFirst : List Found → List Found → Result (Option Hit) PageFault → Type 0
TakesFirst old new (Ok (Some hit)) = (found : Found) × (old ≡ found ∷ new) × IsSameRow hit (hit_of found)
TakesFirst old new (Ok None) = (old ≡ []) × (new ≡ [])
TakesFirst old new (Err fault) = new ≡ old
