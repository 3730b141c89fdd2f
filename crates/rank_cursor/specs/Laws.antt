-- The laws of rankings, for whoever searches by them.
use Rattle.std.specs.Prelude.{Bool, List, [], Option, ℕ}
use Rattle.std.specs.Cmp.{IsTotalOrder}
use Rattle.std.specs.declared.cmp.Ordering.{Ordering}
use Rattle.exact_frac.specs.declared.frac.Frac.{Frac}
use Rattle.z_code.specs.declared.block.Block.{Block}
use Rattle.sand_model.specs.Measure.{Measure, IsMeasure}
use Rattle.sand_base.specs.declared.goal.Goal.{Goal}
use Rattle.sand_base.specs.declared.shape.Shape.{Shape}
use Rattle.sand_model.specs.Reach.{Reach, Nothing, UpTo, Ceiling}
use Rattle.sand_model.specs.Sources.{ranked}
use Rattle.sand_model.specs.Tree.{Tree}
use Rattle.best_first.specs.Hierarchy.{MeetsLaws}
use Rattle.best_first.specs.Reach.{IsSameGap, within, up_to}
use Rattle.best_first.specs.Visits.{Reached}
use Rattle.best_first.specs.declared.item.Item.{Item}
use Rattle.rank_cursor.specs.Ranking.{Ranking, rank_meaning}
use Rattle.rank_cursor.specs.Answers.{GivesList, IsTestOf, CountsAs}

-- A ranking meets the laws of a hierarchy. It gives the ranked rows, told by any measure. A search over it that has taken just what lies within a reach has visited as much as is counted there.
pub record IsLawful (r : Ranking) : Type 0 where
  pub hierarchy : MeetsLaws (rank_meaning r)
  pub rows : (gap : Measure) → IsMeasure gap → GivesList (rank_meaning r) (ranked gap r.goal r.ceiling r.shapes)
  pub counts : (gap : Measure) → IsMeasure gap → (cmp : Block → Block → Ordering) → IsTotalOrder cmp → (to : Reach) (test : Frac → Bool)
      → IsTestOf to test → (done : List (Item Block)) → Reached cmp (rank_meaning r) test done → CountsAs gap r.goal r.shapes r.tree to done

-- what a search has taken after a row lies within the reach of that row
abbrev pub RowIsReach : Type 0
RowIsReach = (g h : Frac) → IsSameGap g h → IsTestOf (UpTo h) (up_to g)

-- and at its end within the ceiling
abbrev pub CeilingIsReach : Type 0
CeilingIsReach = (ceiling : Option ℕ) → IsTestOf (Ceiling ceiling) (within ceiling)

-- before anything was taken nothing counts
abbrev pub NothingIsCounted : Type 0
NothingIsCounted = (gap : Measure) (goal : Goal) (shapes : List (ℕ × Shape)) (tree : Tree) → CountsAs gap goal shapes tree Nothing []
