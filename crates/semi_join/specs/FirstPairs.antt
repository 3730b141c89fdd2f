-- The rows of a semi-join: of a ranked answer, the first row of each left id. After G. Hjaltason and H. Samet (1998).
use Rattle.std.specs.Prelude.{◌≡◌, ℕ, ◌≤◌, ◌<◌, true, false, List, length, ◌⊎◌, All, Contains, Option, None, Some, Result, Ok, Err, ⊤}
use Rattle.std.specs.Ordering.{is_gt}
use Rattle.std.specs.FinSet as set
use Rattle.std.specs.declared.cmp.Ordering.{Ordering}
use Rattle.page_pool.specs.declared.fault.PageFault.{PageFault}
use Rattle.best_first.specs.declared.hit.Hit.{Hit}
use Rattle.best_first.specs.declared.item.Item.{Item}
use Rattle.best_first.specs.Item.{IsSameRow}
use Rattle.best_first.specs.Hierarchy.{Meaning}
use Rattle.best_first.specs.Answer.{hit_cmp, IsAnswer}
use Rattle.best_first.specs.Wanted.{StandsOverFor}
use Rattle.semi_join.specs.LeftRows.{IdSet, LeftRows, is_waiting}

-- The row is the first of the answer whose left id was not given before, with its ids and the value of its gap.
pub record IsFirstPair {N : Type 0} (m : Meaning N) (given : IdSet) (hit : Hit) : Type 0 where
  pub row : Hit
  pub same : IsSameRow row hit
  pub answer : IsAnswer m row
  pub fresh : set.contains given row.left ≡ false
  pub first : (other : Hit) → IsAnswer m other → set.contains given other.left ≡ false → is_gt (hit_cmp row other) ≡ false

-- the left id of each row of the answer was given
abbrev pub AreAllGiven : {N : Type 0} → Meaning N → IdSet → Type 0
AreAllGiven m given = (hit : Hit) → IsAnswer m hit → set.contains given hit.left ≡ true

-- a row that is given is the next first pair, and at the end none is left
abbrev pub GivesFirstPair : {N : Type 0} → Meaning N → IdSet → Result (Option Hit) PageFault → Type 0
GivesFirstPair m given (Ok (Some hit)) = IsFirstPair m given hit
GivesFirstPair m given (Ok None) = AreAllGiven m given
GivesFirstPair m given (Err fault) = ⊤

-- The left relation of a hierarchy has so many rows, none of them with a greater id than this: these are their ids, and each row of the hierarchy has one of them on its left.
pub record HasLefts {N : Type 0} (m : Meaning N) (lefts greatest : ℕ) : Type 0 where
  pub ids : List ℕ
  pub count : length ids ≡ lefts
  pub small : All (λ id. id ≤ greatest) ids
  pub among : (hit : Hit) → Contains m.rows hit → Contains ids hit.left

-- How far the left rows are. Those that wait have these ids, which have their bits, and each row of the hierarchy has a left id that was given or waits.
pub record AreWaiting {N : Type 0} (m : Meaning N) (lefts : LeftRows) : Type 0 where
  pub rest : List ℕ
  pub count : length rest ≡ lefts.waiting
  pub small : All (λ id. id < lefts.below) rest
  pub among : (hit : Hit) → Contains m.rows hit → (set.contains lefts.given hit.left ≡ true) ⊎ Contains rest hit.left

-- the search stands over the meaning for the left rows that wait, and these are all that were not given
abbrev pub SemiStands : {N : Type 0} → (N → N → Ordering) → Meaning N → List (Item N) → LeftRows → Type 0
SemiStands cmp m held lefts = StandsOverFor cmp m (is_waiting lefts) held × AreWaiting m lefts
