-- Steps of making an R-tree.
use Rattle.std.specs.Prelude.{◌≡◌, ℕ, ◌++◌, [], ◌∷◌, List, true, not, Option, Some, None}
use Rattle.sand_base.specs.declared.kind.Kind.{Kind}
use Rattle.sand_base.specs.declared.refusal.Refusal.{Refusal}
use Rattle.sand_base.specs.declared.refusal.Refusal.TheVariants as why
use Rattle.sand_base.specs.Shape.{is_spatial}
use Rattle.sand_model.specs.Checks.{first_refusal}
use Rattle.sand_model.specs.Database.{element, column_named}
use Rattle.sand_model.specs.StatementChecks.{refused_where, is_there}
use Rattle.r_tree.specs.declared.tree.RTree.{RTree}
use Rattle.sand_store.specs.Catalog.{RelationView}
use Rattle.sand_store.specs.Paths.{rtree_at}

-- the checks of an R-tree of a relation's column, and of one of a relation that is to be found

-- the checks of an R-tree of a column of a relation, by its name
abbrev pub rtree_check : RelationView → List ℕ → Option Refusal
rtree_check r name = of_place (column_named r.schema name) where
  of_column : ℕ → Option (List ℕ × Kind) → Option Refusal
  of_column at None = Some why.UnknownColumn
  of_column at (Some column) =
      first_refusal (refused_where (not (is_spatial column.1)) why.WrongKind ∷ refused_where (is_there (rtree_at r.trees at)) why.IndexThere ∷ [])

  of_place : Option ℕ → Option Refusal
  of_place None = Some why.UnknownColumn
  of_place (Some at) = of_column at (element r.schema at)

-- the checks of an R-tree of a relation that is to be found
abbrev pub found_rtree_check : List ℕ → Option RelationView → Option Refusal
found_rtree_check name None = Some why.UnknownRelation
found_rtree_check name (Some r) = rtree_check r name

-- What the checks find: the column is there, of shapes and without an R-tree.
pub record IsTreeWanted (r : RelationView) (name : List ℕ) (at : ℕ) : Type 0 where
  pub passes : rtree_check r name ≡ None
  pub place : column_named r.schema name ≡ Some at
  pub column : List ℕ × Kind
  pub here : element r.schema at ≡ Some column
  pub spatial : is_spatial column.1 ≡ true
  pub free : rtree_at r.trees at ≡ None

-- a relation with one R-tree more
abbrev pub treed_view : RelationView → ℕ → RTree → RelationView
treed_view r at tree =
    record { name = r.name; schema = r.schema; next = r.next; file = r.file; spans = r.spans; paths = r.paths; trees = r.trees ++ (at, tree) ∷ [] }

-- the relation has got an R-tree of a column
pub record HasTree (r u : RelationView) (at : ℕ) : Type 0 where
  pub tree : RTree
  pub added : u ≡ treed_view r at tree
