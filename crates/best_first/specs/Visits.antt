-- The visits and page gets of a search: what a call notes in the desk's log, and what it may cost.
use Rattle.std.specs.Prelude.{◌≡◌, ℕ, ◌+◌, ◌≤◌, min, List, [], ◌∷◌, ◌++◌, length, map, sum_by, Bool, true, if◌then◌else◌, Option, None, Some, ◌⊎◌, All, Contains}
use Rattle.std.specs.Prelude.{IsPermutation, Result, Ok, Err, MatchResult, ⊤}
use Rattle.std.specs.declared.cmp.Ordering.{Ordering}
use Rattle.exact_frac.specs.declared.frac.Frac.{Frac}
use Rattle.sand_base.specs.Faults.{last_count}
use Rattle.sand_base.specs.declared.visit.Visit.{Visit}
use Rattle.page_pool.specs.Disk.{PageMap}
use Rattle.page_pool.specs.Desk.{DeskState}
use Rattle.page_pool.specs.declared.fault.PageFault.{PageFault}
use Rattle.best_first.specs.declared.hit.Hit.{Hit}
use Rattle.best_first.specs.declared.counts.Counts.{Counts}
use Rattle.best_first.specs.declared.item.Item.{Item}
use Rattle.best_first.specs.declared.item.Item.TheVariants.{Node, Rough, Row}
use Rattle.best_first.specs.Item.{gap_of, nodes_of, roughs_of}
use Rattle.best_first.specs.Reach.{IsAtMost, within, up_to}
use Rattle.best_first.specs.Hierarchy.{Meaning, nodes_within, listed_roughs_within}
use Rattle.best_first.specs.Answer.{IsNext, IsExhausted}
use Rattle.best_first.specs.Frontier.{HasAlike, IsOnce, Stands}

-- the desk's pages, where its disk tells them
abbrev pub told_pages : DeskState → Option PageMap
told_pages desk = if desk.pool.disk.told then Some desk.pool.pages else None

-- A search and its desk at one moment: the frontier, the last row given, the counts of visits, and the desk.
pub record SearchState (N : Type 0) : Type 0 where
  pub held : List (Item N)
  pub last : Option Hit
  pub counts : Counts
  pub desk : DeskState

-- these parts of a search, and the desk
abbrev pub state : {N : Type 0} → List (Item N) → Option Hit → Counts → DeskState → SearchState N
state held last counts desk = record { held = held; last = last; counts = counts; desk = desk }

-- ---- the log and the gets

-- The visits of these items were noted, in this order, for no more gets than their price.
pub record Noted {N : Type 0} (note : Item N → Visit) (price : Item N → ℕ) (items : List (Item N)) (old new : DeskState) : Type 0 where
  pub log : new.visits ≡ old.visits ++ map note items
  pub up : old.pool.gets ≤ new.pool.gets
  pub most : new.pool.gets ≤ old.pool.gets + sum_by price items

-- the gets rose by at least this number, or stand at the counter's greatest value
abbrev pub RoseBy : ℕ → DeskState → DeskState → Type 0
RoseBy n old new = min (old.pool.gets + n) last_count ≤ new.pool.gets

-- A visit of the item was tried: it was noted, or nothing was.
pub record Attempts {N : Type 0} (note : Item N → Visit) (price : Item N → ℕ) (item : Item N) (old new : DeskState) : Type 0 where
  pub tried : List (Item N)
  pub few : (tried ≡ []) ⊎ (tried ≡ item ∷ [])
  pub noted : Noted note price tried old new

-- one visit of the item where the call was accepted, and at most one where it was refused
abbrev pub VisitsOne : {N T : Type 0} → (Item N → Visit) → (Item N → ℕ) → Item N → DeskState → DeskState → Result T PageFault → Type 0
VisitsOne note price item old new result = MatchResult result (λ _. Noted note price (item ∷ []) old new) (λ _. Attempts note price item old new)

-- ---- what a search has visited

-- What was taken is exactly what lies within the reach: each node of the tree within it was opened once, and of the rough objects that its leaves list within it each was fetched once.
pub record Reached {N : Type 0} (cmp : N → N → Ordering) (m : Meaning N) (reach : Frac → Bool) (done : List (Item N)) : Type 0 where
  pub nodes : IsPermutation (nodes_within m reach) (nodes_of done)
  pub roughs : All (HasAlike cmp (listed_roughs_within m reach)) (roughs_of done)
  pub all_roughs : All (HasAlike cmp (roughs_of done)) (listed_roughs_within m reach)
  pub once : IsOnce cmp (roughs_of done)

-- the counts are those of the nodes and of the rough objects that were taken, and stay at the counter's greatest value
abbrev pub IsCounted : {N : Type 0} → List (Item N) → Counts → Type 0
IsCounted done counts = (counts.visited ≡ min (length (nodes_of done)) last_count) × (counts.fetched ≡ min (length (roughs_of done)) last_count)

-- the item is visited: it is no row
abbrev pub IsVisit : {N : Type 0} → Item N → Type 0
IsVisit (Node gap node) = ⊤
IsVisit (Rough gap left right) = ⊤
IsVisit (Row gap left right) = ⊥

-- A call takes more from the frontier. It notes one visit for each item taken, and after them those attempted, for no more gets than their
-- price and at least one for each node; what was attempted is still queued and no farther than all that is queued.
pub record Makes {N : Type 0} (cmp : N → N → Ordering) (m : Meaning N) (note : Item N → Visit) (done : List (Item N)) (old new : SearchState N) (attempt : List (Item N)) : Type 0 where
  pub taken : List (Item N)
  pub noted : Noted note m.price (taken ++ attempt) old.desk new.desk
  pub rose : RoseBy (length (nodes_of taken)) old.desk new.desk
  pub stands : Stands cmp m new.held new.last (done ++ taken)
  pub visits : All IsVisit (taken ++ attempt)
  pub tried : All (Contains new.held) attempt
  pub nearer : All (λ item. All (λ other. IsAtMost (gap_of item) (gap_of other)) new.held) attempt
  pub counted : IsCounted done old.counts → IsCounted (done ++ taken) new.counts

-- After a row nothing was attempted in vain, and all that was ever taken is exactly what lies within the row's gap.
pub record VisitsUpTo {N : Type 0} (cmp : N → N → Ordering) (m : Meaning N) (hit : Hit) (attempt all : List (Item N)) : Type 0 where
  pub settled : attempt ≡ []
  pub near : All (λ item. IsAtMost (gap_of item) hit.gap) all
  pub reached : Reached cmp m (up_to hit.gap) all

-- After the end nothing was attempted in vain, and all that was ever taken is exactly what lies within the ceiling.
pub record VisitsAll {N : Type 0} (cmp : N → N → Ordering) (m : Meaning N) (attempt all : List (Item N)) : Type 0 where
  pub settled : attempt ≡ []
  pub reached : Reached cmp m (within m.ceiling) all

-- After a refusal at most one visit was attempted in vain, and all visits lie within the gap of the row that would come next, and within the ceiling.
pub record VisitsBefore {N : Type 0} (m : Meaning N) (last : Option Hit) (attempt all : List (Item N)) : Type 0 where
  pub few : length attempt ≤ 1
  pub near : (hit : Hit) → IsNext m last hit → All (λ item. IsAtMost (gap_of item) hit.gap) (all ++ attempt)
  pub inside : All (λ item. within m.ceiling (gap_of item) ≡ true) (all ++ attempt)

-- how far the visits go, by the call's answer
abbrev pub Bounds : {N : Type 0} → (N → N → Ordering) → Meaning N → Option Hit → Result (Option Hit) PageFault → List (Item N) → List (Item N) → Type 0
Bounds cmp m last (Ok (Some hit)) attempt all = VisitsUpTo cmp m hit attempt all
Bounds cmp m last (Ok None) attempt all = VisitsAll cmp m attempt all
Bounds cmp m last (Err fault) attempt all = VisitsBefore m last attempt all

-- The visits of one call of `next`, where the search had taken this before it.
pub record CallVisits {N : Type 0} (cmp : N → N → Ordering) (m : Meaning N) (note : Item N → Visit) (done : List (Item N)) (old new : SearchState N)
    (result : Result (Option Hit) PageFault) : Type 0 where
  pub attempt : List (Item N)
  pub makes : Makes cmp m note done old new attempt
  pub bounds : Bounds cmp m old.last result attempt (done ++ makes.taken)

-- the visits of one call of `next`, whatever the search had taken before it
abbrev pub MakesVisits : {N : Type 0} → (N → N → Ordering) → Meaning N → (Item N → Visit) → SearchState N → SearchState N → Result (Option Hit) PageFault → Type 0
MakesVisits {N} cmp m note old new result = (done : List (Item N)) → Stands cmp m old.held old.last done → CallVisits cmp m note done old new result

-- ---- the answer of a call

-- a row that is given is the next one of the answer, and at the end none is left
abbrev pub GivesNext : {N : Type 0} → Meaning N → Option Hit → Result (Option Hit) PageFault → Type 0
GivesNext m last (Ok (Some hit)) = IsNext m last hit
GivesNext m last (Ok None) = IsExhausted m last
GivesNext m last (Err fault) = ⊤

-- the last row given after a call: the row that it gave, or the one before
abbrev pub last_after : Option Hit → Result (Option Hit) PageFault → Option Hit
last_after last (Ok (Some hit)) = Some hit
last_after last (Ok None) = last
last_after last (Err fault) = last

-- ---- the steps inside a call

-- more was taken, and nothing attempted in vain
abbrev pub Goes : {N : Type 0} → (N → N → Ordering) → Meaning N → (Item N → Visit) → SearchState N → SearchState N → Type 0
Goes {N} cmp m note old new = (done : List (Item N)) → Stands cmp m old.held old.last done → Makes cmp m note done old new []

-- A refused step: more was taken, and at most one visit attempted in vain.
pub record CutShort {N : Type 0} (cmp : N → N → Ordering) (m : Meaning N) (note : Item N → Visit) (done : List (Item N)) (old new : SearchState N) : Type 0 where
  pub attempt : List (Item N)
  pub makes : Makes cmp m note done old new attempt
  pub few : length attempt ≤ 1

-- more was taken, and at most one visit attempted in vain
abbrev pub Fails : {N : Type 0} → (N → N → Ordering) → Meaning N → (Item N → Visit) → SearchState N → SearchState N → Type 0
Fails {N} cmp m note old new = (done : List (Item N)) → Stands cmp m old.held old.last done → CutShort cmp m note done old new
