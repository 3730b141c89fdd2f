-- Where a join with k partners stands: its search, and its counts of what the search has given.
use Rattle.std.specs.Prelude.{◌≡◌, ℕ, suc, ◌+◌, ◌≤◌, ◌<◌, min, cond, nat_eq, List, [], ◌∷◌, length, map, All, Contains, Option, IfSome}
use Rattle.std.specs.declared.cmp.Ordering.{Ordering}
use Rattle.sand_model.specs.Sources.{Found}
use Rattle.page_pool.specs.Disk.{PageMap}
use Rattle.best_first.specs.declared.hit.Hit.{Hit}
use Rattle.best_first.specs.declared.item.Item.{Item}
use Rattle.best_first.specs.Hierarchy.{Meaning}
use Rattle.best_first.specs.Frontier.{StandsOver}
use Rattle.semi_join.specs.Listed.{ListsAnswer}
use Rattle.knn_join.specs.PartnerCounts.{PartnerCounts, given_to}
use Rattle.knn_join.specs.Listed.{later_than}

-- The two relations of a hierarchy have so many rows, and no left id is above this one: these are their ids, and each row of the hierarchy has one of them on each side.
pub record HasSides {N : Type 0} (m : Meaning N) (lefts rights greatest : ℕ) : Type 0 where
  pub left_ids : List ℕ
  pub left_count : length left_ids ≡ lefts
  pub small : All (λ id. id ≤ greatest) left_ids
  pub on_left : (hit : Hit) → Contains m.rows hit → Contains left_ids hit.left
  pub right_ids : List ℕ
  pub right_count : length right_ids ≡ rights
  pub on_right : (hit : Hit) → Contains m.rows hit → Contains right_ids hit.right

-- how often an id stands in a list
abbrev pub how_often : ℕ → List ℕ → ℕ
how_often id [] = 0
how_often id (other ∷ more) = cond (nat_eq other id) (suc (how_often id more)) (how_often id more)

-- how many elements of a list have this left id
abbrev pub with_left : ℕ → List Found → ℕ
with_left id list = how_often id (map (λ found. found.left) list)

-- The counts of a search that has given an answer up to this row. The rows to come have these left ids, enough of each.
-- Each left id has a place. A left row was given at most what came of it, and has at most one row for each right one.
pub record AreCountedUpTo (answer : List Found) (last : Option Hit) (counts : PartnerCounts) : Type 0 where
  pub rights : ℕ
  pub rest : List ℕ
  pub count : length rest ≡ counts.waiting
  pub enough : (found : Found) → Contains answer found → min counts.most rights ≤ given_to counts found.left + how_often found.left rest
  pub places : (found : Found) → Contains answer found → found.left < length counts.given
  pub came : (id : ℕ) → given_to counts id + with_left id (later_than last answer) ≤ with_left id answer
  pub few : (id : ℕ) → with_left id answer ≤ rights

-- the search stands over the meaning, and the counts are as far as it is, whichever list is the answer
abbrev pub KnnStands : {N : Type 0} → (N → N → Ordering) → Meaning N → List (Item N) → Option Hit → PartnerCounts → Type 0
KnnStands cmp m held last counts =
    StandsOver cmp m held last × ((answer : List Found) → ListsAnswer m answer → AreCountedUpTo answer last counts)

-- it stands over the meaning of the pages that a disk tells
abbrev pub KnnStandsOn : {N : Type 0} → (N → N → Ordering) → (PageMap → Meaning N) → Option PageMap → List (Item N) → Option Hit → PartnerCounts → Type 0
KnnStandsOn cmp meaning pages held last counts = IfSome pages (λ p. KnnStands cmp (meaning p) held last counts)
