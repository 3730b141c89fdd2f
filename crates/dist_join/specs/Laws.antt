-- The laws of joins, for whoever searches by them.
use Rattle.std.specs.Prelude.{◌≤◌, ℕ, Bool, List, [], All, length}
use Rattle.std.specs.Cmp.{IsTotalOrder}
use Rattle.std.specs.declared.cmp.Ordering.{Ordering}
use Rattle.exact_frac.specs.declared.frac.Frac.{Frac}
use Rattle.z_code.specs.declared.block.Block.{Block}
use Rattle.sand_model.specs.Measure.{Measure, IsMeasure}
use Rattle.sand_model.specs.Reach.{Reach, Nothing}
use Rattle.sand_model.specs.Sources.{joined}
use Rattle.best_first.specs.Hierarchy.{MeetsLaws}
use Rattle.best_first.specs.Visits.{Reached}
use Rattle.best_first.specs.declared.item.Item.{Item}
use Rattle.rank_cursor.specs.Answers.{GivesList, IsTestOf}
use Rattle.semi_join.specs.FirstPairs.{HasLefts}
use Rattle.semi_join.specs.Listed.{ListsAnswer}
use Rattle.dist_join.specs.Joining.{Side, Joining, join_meaning}
use Rattle.dist_join.specs.Answers.{CountsAsJoin}

-- A join meets the laws of a hierarchy. It gives the joined rows, told by any measure, and its answer is their list. Its left rows are
-- those of its left side. A search over it that has taken just what lies within a reach has visited as much as is counted there.
pub record IsLawfulJoin (j : Joining) : Type 0 where
  pub hierarchy : MeetsLaws (join_meaning j)
  pub rows : (gap : Measure) → IsMeasure gap → GivesList (join_meaning j) (joined gap j.ceiling j.left.shapes j.right.shapes)
  pub lists : (gap : Measure) → IsMeasure gap → ListsAnswer (join_meaning j) (joined gap j.ceiling j.left.shapes j.right.shapes)
  pub lefts : (greatest : ℕ) → All (λ row. row.0 ≤ greatest) j.left.shapes → HasLefts (join_meaning j) (length j.left.shapes) greatest
  pub counts : (gap : Measure) → IsMeasure gap → (cmp : Block × Block → Block × Block → Ordering) → IsTotalOrder cmp → (to : Reach) (test : Frac → Bool)
      → IsTestOf to test → (done : List (Item (Block × Block))) → Reached cmp (join_meaning j) test done → CountsAsJoin gap j.left j.right to done

-- before anything was taken nothing counts
abbrev pub NoPairIsCounted : Type 0
NoPairIsCounted = (gap : Measure) (left right : Side) → CountsAsJoin gap left right Nothing []
