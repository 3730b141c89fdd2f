-- How far a search has reached, and how many nodes and rough objects lie within its reach.
use Rattle.std.specs.Prelude.{ℕ, ◌*◌, min, Bool, false, cond, ◌&&◌, not, nat_eq, List, [], ◌∷◌, filter, length, take, Option, Some, None}
use Rattle.std.specs.Ordering.{is_gt, is_eq}
use Rattle.exact_frac.specs.Frac.{value_cmp}
use Rattle.exact_frac.specs.declared.frac.Frac.{Frac}
use Rattle.sand_base.specs.declared.goal.Goal.{Goal}
use Rattle.sand_base.specs.declared.goal.Goal.TheVariants as figure
use Rattle.sand_base.specs.declared.shape.Shape.{Shape}
use Rattle.sand_model.specs.Answer.{source}
use Rattle.sand_model.specs.Database.{Database, Relation, Index, Quadtree, relation_named, column_named, index_at}
use Rattle.sand_model.specs.Measure.{Measure}
use Rattle.sand_model.specs.Nodes.{LeafItem, rank_items, rank_gaps, pair_nodes, pair_gap, join_items}
use Rattle.sand_model.specs.Operators.{PlanRow}
use Rattle.sand_model.specs.Roughs.{is_rough, rough_figure}
use Rattle.statements.specs.Plan as plan
use Rattle.statements.specs.Plan.{Plan}
use Rattle.statements.specs.declared.column.Column.{Column}
use Rattle.sand_model.specs.Sources.{is_within, column_shapes}
use Rattle.sand_model.specs.Taken.{Taken, has_taken}
use Rattle.sand_model.specs.Tree.{Tree, root_block, empty_tree}

-- the reach of a search: nothing yet, up to the gap of a row, or up to the ceiling, which is everything where there is none
pub data Reach : Type 0 where
  Nothing : Reach
  UpTo : Frac → Reach
  Ceiling : Option ℕ → Reach

-- whether a gap lies within a reach
abbrev pub reaches : Reach → Frac → Bool
reaches Nothing gap = false
reaches (UpTo most) gap = not (is_gt (value_cmp gap most))
reaches (Ceiling most) gap = is_within most gap

-- how many blocks, pairs of blocks and rough objects a search has visited
pub record Counts : Type 0 where
  pub blocks : ℕ
  pub pairs : ℕ
  pub geometries : ℕ

-- no visits
abbrev pub no_counts : Counts
no_counts = record { blocks = 0; pairs = 0; geometries = 0 }

-- the source of a plan, at its innermost place
abbrev pub innermost : Plan → Plan
innermost (plan.Filter p tests) = innermost p
innermost (plan.Match p place column) = innermost p
innermost (plan.Fetch p places) = innermost p
innermost (plan.First count p) = innermost p
innermost (plan.SortBy p place) = innermost p
innermost (plan.SortNear p place goal) = innermost p
innermost p = p

-- the ceiling of a source
abbrev pub ceiling_of : Plan → Option ℕ
ceiling_of (plan.Rank column goal within) = within
ceiling_of (plan.Near column goal within) = within
ceiling_of (plan.Window column window) = Some 0
ceiling_of (plan.Join left right within) = within
ceiling_of (plan.Semi left right within) = within
ceiling_of (plan.Knn k left right within) = within
ceiling_of _ = None

-- the reach of the last of some rows, and nothing where there is none or it has no gap
abbrev pub reach_of_last : List PlanRow → Reach
reach_of_last [] = Nothing
reach_of_last (row ∷ []) = of_gap row.gap where
  of_gap : Option Frac → Reach
  of_gap (Some gap) = UpTo gap
  of_gap None = Nothing
reach_of_last (row ∷ next ∷ rows) = reach_of_last (next ∷ rows)

-- the source is a semi-join with a row for each row of its left relation, or a join of k partners with all that each of these can have
abbrev pub is_saturated : Database → Plan → List PlanRow → Bool
is_saturated database (plan.Semi left right within) rows =
    nat_eq (length rows) (length (column_shapes database left))
is_saturated database (plan.Knn k left right within) rows =
    nat_eq (length rows) (length (column_shapes database left) * min k (length (column_shapes database right)))
is_saturated database _ rows = false

-- the reach of a source of which so much was taken
abbrev pub reach : Measure → Database → Plan → Taken → Reach
reach gap database p so_far =
    let rows = source gap database p in
    cond (so_far.is_ended && not (is_saturated database (innermost p) rows)) (Ceiling (ceiling_of (innermost p)))
    (reach_of_last (take so_far.rows rows))

-- the quadtree of a column; the empty tree where it has none
abbrev pub quadtree_of : Database → Column → Tree
quadtree_of database column = in_relation (relation_named database column.relation) where
  of_index : Option Index → Tree
  of_index (Some (Quadtree threshold tree)) = tree
  of_index _ = empty_tree

  of_column : Relation → Option ℕ → Tree
  of_column relation (Some at) = of_index (index_at relation at)
  of_column relation None = empty_tree

  in_relation : Option Relation → Tree
  in_relation (Some relation) = of_column relation (column_named relation.schema column.column)
  in_relation None = empty_tree

-- two items are one: the same ids, and gaps of one value
abbrev pub same_item : LeafItem → LeafItem → Bool
same_item a b = nat_eq a.left b.left && (nat_eq a.right b.right && is_eq (value_cmp a.gap b.gap))

-- each item once
abbrev pub distinct : List LeafItem → List LeafItem
distinct [] = []
distinct (item ∷ items) = item ∷ filter (λ other. not (same_item item other)) (distinct items)

-- the rough items within a reach, each with each of its gaps once
abbrev pub roughs_within : Reach → List LeafItem → List LeafItem
roughs_within to items = distinct (filter (λ item. item.is_rough && reaches to item.gap) items)

-- the counts of a ranking at a reach
abbrev pub rank_counts : Measure → Database → Column → Goal → Reach → Counts
rank_counts gap database column goal to = record {
  blocks = length (filter (reaches to) (rank_gaps gap goal (quadtree_of database column)));
  pairs = 0;
  geometries =
      length (roughs_within to (rank_items gap goal (column_shapes database column) (quadtree_of database column)));
}

-- the rows of polygons whose bounding rectangles lie within the reach
abbrev pub polygons_within : Measure → Goal → List (ℕ × Shape) → Reach → List (ℕ × Shape)
polygons_within gap goal rows to = filter (λ row. is_rough row.1 && reaches to (gap goal (rough_figure row.1))) rows

-- the counts of a ranking by an R-tree at a reach: the polygons whose bounding rectangles lie within it
abbrev pub near_counts : Measure → Database → Column → Goal → Reach → Counts
near_counts gap database column goal to = record {
  blocks = 0;
  pairs = 0;
  geometries = length (polygons_within gap goal (column_shapes database column) to);
}

-- the counts of a join at a reach
abbrev pub join_counts : Measure → Database → Column → Column → Reach → Counts
join_counts gap database left right to =
    let nodes = pair_nodes root_block (quadtree_of database left) root_block (quadtree_of database right) in record {
      blocks = 0;
      pairs = length (filter (λ node. reaches to (pair_gap gap node)) nodes);
      geometries =
          length (roughs_within to (join_items gap (column_shapes database left) (column_shapes database right) nodes));
    }

-- the counts of a source at a reach; a scan and a pick visit nothing
abbrev pub counts_at : Measure → Database → Plan → Reach → Counts
counts_at gap database (plan.Rank column goal within) to = rank_counts gap database column (figure.Shape goal) to
counts_at gap database (plan.Near column goal within) to = near_counts gap database column (figure.Shape goal) to
counts_at gap database (plan.Window column window) to = rank_counts gap database column (figure.Rect window) to
counts_at gap database (plan.Join left right within) to = join_counts gap database left right to
counts_at gap database (plan.Semi left right within) to = join_counts gap database left right to
counts_at gap database (plan.Knn k left right within) to = join_counts gap database left right to
counts_at gap database _ to = no_counts

-- the counts of a cursor over a plan that has given so many rows, and whether it has come to its end
abbrev pub counts : Measure → Database → Plan → ℕ → Bool → Counts
counts gap database p given is_ended =
    counts_at gap database (innermost p) (reach gap database p (has_taken gap database p given is_ended))
