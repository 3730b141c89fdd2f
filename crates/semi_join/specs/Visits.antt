-- The visits of a semi-join: those of its search, for the row that it gives and for the rows that it passes over before.
use Rattle.std.specs.Prelude.{◌≡◌, ◌≤◌, true, List, ◌++◌, length, All, Option, None, Some, Result, Ok, Err}
use Rattle.std.specs.declared.cmp.Ordering.{Ordering}
use Rattle.sand_base.specs.declared.visit.Visit.{Visit}
use Rattle.page_pool.specs.declared.fault.PageFault.{PageFault}
use Rattle.best_first.specs.declared.hit.Hit.{Hit}
use Rattle.best_first.specs.declared.item.Item.{Item}
use Rattle.best_first.specs.Item.{gap_of}
use Rattle.best_first.specs.Reach.{IsAtMost, within}
use Rattle.best_first.specs.Hierarchy.{Meaning}
use Rattle.best_first.specs.Visits.{SearchState, VisitsUpTo, VisitsAll}
use Rattle.best_first.specs.Wanted.{StandsFor, MakesFor, wants_after}
use Rattle.semi_join.specs.LeftRows.{IdSet, LeftRows, is_waiting}
use Rattle.semi_join.specs.FirstPairs.{IsFirstPair}

-- After a refusal at most one visit was attempted in vain, and all visits lie within the gap of the first pair that would come next, and within the ceiling.
pub record VisitsBeforePair {N : Type 0} (m : Meaning N) (given : IdSet) (attempt all : List (Item N)) : Type 0 where
  pub few : length attempt ≤ 1
  pub near : (hit : Hit) → IsFirstPair m given hit → All (λ item. IsAtMost (gap_of item) hit.gap) (all ++ attempt)
  pub inside : All (λ item. within m.ceiling (gap_of item) ≡ true) (all ++ attempt)

-- how far the visits go, by the call's answer
abbrev pub PairBounds : {N : Type 0} → (N → N → Ordering) → Meaning N → IdSet → Result (Option Hit) PageFault → List (Item N) → List (Item N) → Type 0
PairBounds cmp m given (Ok (Some hit)) attempt all = VisitsUpTo cmp m hit attempt all
PairBounds cmp m given (Ok None) attempt all = VisitsAll cmp m attempt all
PairBounds cmp m given (Err fault) attempt all = VisitsBeforePair m given attempt all

-- The visits of one call of `next`, where the search had taken this before it. It stands for the left rows that wait, before the call and behind it.
pub record PairVisits {N : Type 0} (cmp : N → N → Ordering) (m : Meaning N) (note : Item N → Visit) (lefts : LeftRows) (done : List (Item N)) (old new : SearchState N)
    (result : Result (Option Hit) PageFault) : Type 0 where
  pub attempt : List (Item N)
  pub makes : MakesFor cmp m note (wants_after (is_waiting lefts) result) done old new attempt
  pub bounds : PairBounds cmp m lefts.given result attempt (done ++ makes.taken)

-- the visits of one call of `next`, whatever the search had taken before it
abbrev pub MakesPairVisits : {N : Type 0} → (N → N → Ordering) → Meaning N → (Item N → Visit) → LeftRows → SearchState N → SearchState N → Result (Option Hit) PageFault → Type 0
MakesPairVisits {N} cmp m note lefts old new result =
    (done : List (Item N)) → StandsFor cmp m (is_waiting lefts) old.held done → PairVisits cmp m note lefts done old new result
