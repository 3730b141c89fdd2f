-- A search that is asked for the rows of some left ids alone, the wanted ones: what its frontier leads to, what it gives and what it visits.
use Rattle.std.specs.Prelude.{◌≡◌, ℕ, ◌≤◌, List, [], ◌++◌, length, All, Contains, IsPermutation, Bool, true, false, not, ◌&&◌, nat_eq, filter, Option, None, Some, Result, Ok, Err, ◌⊎◌, ⊤}
use Rattle.std.specs.Ordering.{is_gt}
use Rattle.std.specs.declared.cmp.Ordering.{Ordering}
use Rattle.exact_frac.specs.declared.frac.Frac.{Frac}
use Rattle.sand_base.specs.declared.visit.Visit.{Visit}
use Rattle.page_pool.specs.declared.fault.PageFault.{PageFault}
use Rattle.rank_queue.specs.Least.{IsFirst}
use Rattle.best_first.specs.declared.hit.Hit.{Hit}
use Rattle.best_first.specs.declared.item.Item.{Item}
use Rattle.best_first.specs.declared.item.Item.TheVariants.{Node, Rough, Row}
use Rattle.best_first.specs.Item.{gap_of, row_item, nodes_of, IsSameRow}
use Rattle.best_first.specs.Reach.{IsAtMost, within}
use Rattle.best_first.specs.Hierarchy.{Meaning, MeetsLaws, IsHonest}
use Rattle.best_first.specs.Answer.{hit_cmp, IsAnswer}
use Rattle.best_first.specs.Frontier.{IsPending, Tracks}
use Rattle.best_first.specs.Visits.{SearchState, Noted, RoseBy, IsCounted, IsVisit, VisitsUpTo, VisitsAll}

-- ---- the frontier

-- whether an item is of use for the wanted left ids: a node or a rough object always, a row where its left id is wanted
abbrev pub is_wanted : {N : Type 0} → (ℕ → Bool) → Item N → Bool
is_wanted wants (Node gap node) = true
is_wanted wants (Rough gap left right) = true
is_wanted wants (Row gap left right) = wants left

-- the items that are of use for the wanted left ids
abbrev pub wanted_of : {N : Type 0} → (ℕ → Bool) → List (Item N) → List (Item N)
wanted_of wants items = filter (is_wanted wants) items

-- The search stands for the wanted left ids, when it has taken this: each row of the answer with a wanted left id is led to by a queued item;
-- rows with other left ids may be queued or not. A queued row is one of the rows.
pub record StandsFor {N : Type 0} (cmp : N → N → Ordering) (m : Meaning N) (wants : ℕ → Bool) (held done : List (Item N)) : Type 0 where
  pub sound : All (IsHonest m) held
  pub whole : (hit : Hit) → IsAnswer m hit → wants hit.left ≡ true → IsPending m held hit
  pub tracks : Tracks cmp m held done

-- the hierarchy meets its laws, and the search stands for the wanted left ids, whatever it has taken
abbrev pub StandsOverFor : {N : Type 0} → (N → N → Ordering) → Meaning N → (ℕ → Bool) → List (Item N) → Type 0
StandsOverFor {N} cmp m wants held = MeetsLaws m × ((done : List (Item N)) × StandsFor cmp m wants held done)

-- Nothing has to be read for the next wanted row: nothing is queued, or a wanted row is queued that no item comes before.
abbrev pub IsSettledFor : {N : Type 0} → (Item N → Item N → Ordering) → (ℕ → Bool) → List (Item N) → Type 0
IsSettledFor cmp wants held = (held ≡ []) ⊎ ((hit : Hit) × (IsFirst cmp (row_item hit) held × (wants hit.left ≡ true)))

-- ---- the answer

-- The row is the first of the answer whose left id is wanted, with its ids and the value of its gap.
pub record IsFirstWanted {N : Type 0} (m : Meaning N) (wants : ℕ → Bool) (hit : Hit) : Type 0 where
  pub row : Hit
  pub same : IsSameRow row hit
  pub answer : IsAnswer m row
  pub wanted : wants row.left ≡ true
  pub first : (other : Hit) → IsAnswer m other → wants other.left ≡ true → is_gt (hit_cmp row other) ≡ false

-- no row of the answer has a wanted left id
abbrev pub HasNoneWanted : {N : Type 0} → Meaning N → (ℕ → Bool) → Type 0
HasNoneWanted m wants = (hit : Hit) → IsAnswer m hit → wants hit.left ≡ false

-- a row that is given is the first wanted one, and at the end none is left
abbrev pub GivesWanted : {N : Type 0} → Meaning N → (ℕ → Bool) → Result (Option Hit) PageFault → Type 0
GivesWanted m wants (Ok (Some hit)) = IsFirstWanted m wants hit
GivesWanted m wants (Ok None) = HasNoneWanted m wants
GivesWanted m wants (Err fault) = ⊤

-- a row that is given has a wanted left id
abbrev pub IsWantedRow : (ℕ → Bool) → Result (Option Hit) PageFault → Type 0
IsWantedRow wants (Ok (Some hit)) = wants hit.left ≡ true
IsWantedRow wants (Ok None) = ⊤
IsWantedRow wants (Err fault) = ⊤

-- the left ids that are wanted after a call: all but that of a row that was given
abbrev pub wants_after : (ℕ → Bool) → Result (Option Hit) PageFault → (ℕ → Bool)
wants_after wants (Ok (Some hit)) = λ id. not (nat_eq id hit.left) && wants id
wants_after wants (Ok None) = wants
wants_after wants (Err fault) = wants

-- ---- the visits

-- A call takes more from the frontier, as any call of a search does, and the search stands for these left ids behind it.
pub record MakesFor {N : Type 0} (cmp : N → N → Ordering) (m : Meaning N) (note : Item N → Visit) (wants : ℕ → Bool) (done : List (Item N)) (old new : SearchState N)
    (attempt : List (Item N)) : Type 0 where
  pub taken : List (Item N)
  pub noted : Noted note m.price (taken ++ attempt) old.desk new.desk
  pub rose : RoseBy (length (nodes_of taken)) old.desk new.desk
  pub stands : StandsFor cmp m wants new.held (done ++ taken)
  pub visits : All IsVisit (taken ++ attempt)
  pub tried : All (Contains new.held) attempt
  pub nearer : All (λ item. All (λ other. IsAtMost (gap_of item) (gap_of other)) new.held) attempt
  pub counted : IsCounted done old.counts → IsCounted (done ++ taken) new.counts

-- After a refusal at most one visit was attempted in vain, and all visits lie within the gap of the first wanted row, and within the ceiling.
pub record VisitsBeforeWanted {N : Type 0} (m : Meaning N) (wants : ℕ → Bool) (attempt all : List (Item N)) : Type 0 where
  pub few : length attempt ≤ 1
  pub near : (hit : Hit) → IsFirstWanted m wants hit → All (λ item. IsAtMost (gap_of item) hit.gap) (all ++ attempt)
  pub inside : All (λ item. within m.ceiling (gap_of item) ≡ true) (all ++ attempt)

-- how far the visits go, by the call's answer
abbrev pub WantedBounds : {N : Type 0} → (N → N → Ordering) → Meaning N → (ℕ → Bool) → Result (Option Hit) PageFault → List (Item N) → List (Item N) → Type 0
WantedBounds cmp m wants (Ok (Some hit)) attempt all = VisitsUpTo cmp m hit attempt all
WantedBounds cmp m wants (Ok None) attempt all = VisitsAll cmp m attempt all
WantedBounds cmp m wants (Err fault) attempt all = VisitsBeforeWanted m wants attempt all

-- The visits of one call of `next_wanted`, where the search had taken this before it.
pub record WantedVisits {N : Type 0} (cmp : N → N → Ordering) (m : Meaning N) (note : Item N → Visit) (wants : ℕ → Bool) (done : List (Item N)) (old new : SearchState N)
    (result : Result (Option Hit) PageFault) : Type 0 where
  pub attempt : List (Item N)
  pub makes : MakesFor cmp m note (wants_after wants result) done old new attempt
  pub bounds : WantedBounds cmp m wants result attempt (done ++ makes.taken)

-- the visits of one call of `next_wanted`, whatever the search had taken before it
abbrev pub MakesWantedVisits : {N : Type 0} → (N → N → Ordering) → Meaning N → (Item N → Visit) → (ℕ → Bool) → SearchState N → SearchState N → Result (Option Hit) PageFault → Type 0
MakesWantedVisits {N} cmp m note wants old new result = (done : List (Item N)) → StandsFor cmp m wants old.held done → WantedVisits cmp m note wants done old new result

-- ---- the steps inside a call

-- What a fetch adds for the wanted left ids: the row, where its left id is wanted, its gap is at least the rough one and within the ceiling, and nothing else.
pub record AddsFor {N : Type 0} (wants : ℕ → Bool) (ceiling : Option ℕ) (rough : Frac) (hit : Hit) (old new : List (Item N)) : Type 0 where
  pub added : List (Item N)
  pub only : All (λ item. (item ≡ row_item hit) × IsAtMost rough hit.gap × (within ceiling hit.gap ≡ true)) added
  pub whole : wants hit.left ≡ true → IsAtMost rough hit.gap → within ceiling hit.gap ≡ true → Contains added (row_item hit)
  pub put : IsPermutation (added ++ old) new
  pub few : length added ≤ 1

-- more was taken, and nothing attempted in vain
abbrev pub GoesFor : {N : Type 0} → (N → N → Ordering) → Meaning N → (Item N → Visit) → (ℕ → Bool) → SearchState N → SearchState N → Type 0
GoesFor {N} cmp m note wants old new = (done : List (Item N)) → StandsFor cmp m wants old.held done → MakesFor cmp m note wants done old new []

-- A refused step: more was taken, and at most one visit attempted in vain.
pub record CutShortFor {N : Type 0} (cmp : N → N → Ordering) (m : Meaning N) (note : Item N → Visit) (wants : ℕ → Bool) (done : List (Item N)) (old new : SearchState N) : Type 0 where
  pub attempt : List (Item N)
  pub makes : MakesFor cmp m note wants done old new attempt
  pub few : length attempt ≤ 1

-- more was taken, and at most one visit attempted in vain
abbrev pub FailsFor : {N : Type 0} → (N → N → Ordering) → Meaning N → (Item N → Visit) → (ℕ → Bool) → SearchState N → SearchState N → Type 0
FailsFor {N} cmp m note wants old new = (done : List (Item N)) → StandsFor cmp m wants old.held done → CutShortFor cmp m note wants done old new

-- a step that found nothing to do leaves the frontier settled
abbrev pub StepSettlesFor : {N : Type 0} → (Item N → Item N → Ordering) → (ℕ → Bool) → List (Item N) → Result Bool PageFault → Type 0
StepSettlesFor cmp wants held (Ok true) = ⊤
StepSettlesFor cmp wants held (Ok false) = IsSettledFor cmp wants held
StepSettlesFor cmp wants held (Err fault) = ⊤

-- a step went on, found the front settled, or was refused
abbrev pub StepMovesFor : {N : Type 0} → (N → N → Ordering) → Meaning N → (Item N → Visit) → (ℕ → Bool) → SearchState N → SearchState N → Result Bool PageFault → Type 0
StepMovesFor cmp m note wants old new (Ok on) = GoesFor cmp m note wants old new
StepMovesFor cmp m note wants old new (Err fault) = FailsFor cmp m note wants old new
