-- What holds of every database that the five changes make from the empty one.
use Rattle.std.specs.Prelude.{◌≡◌, ℕ, ◌+◌, nat_eq, ◌<◌, ◌≤◌, Bool, true, false, ◌||◌, List, [], ◌∷◌, length, map, All, Some, ⊤}
use Rattle.std.specs.List.{list_any}
use Rattle.sand_base.specs.declared.kind.Kind.{Kind}
use Rattle.sand_base.specs.declared.limits.Limits.{Limits}
use Rattle.sand_base.specs.InRange.{IsRowOf, IsRowInRange, IsSchemaInRange}
use Rattle.sand_base.specs.Shape.{is_spatial}
use Rattle.sand_model.specs.Database.{Database, Relation, Index, Quadtree, Attribute, Rectangles, same_name, element, shapes_of, rough_shapes, meets_block}
use Rattle.sand_model.specs.Measure.{Measure}
use Rattle.sand_model.specs.RowSize.{row_size}
use Rattle.sand_model.specs.Tree.{Tree, root_block, Fits, IsShallow, IsFull, listings}

-- the most relations that there may be
abbrev pub most_relations : ℕ
most_relations = 64

-- the most bytes that a row takes where it is kept
abbrev pub longest_row : ℕ
longest_row = 3900

-- the name is in the list
abbrev pub has_same : List ℕ → List (List ℕ) → Bool
has_same name [] = false
has_same name (other ∷ names) = same_name other name || has_same name names

-- some name stands twice in the list
abbrev pub has_twice : List (List ℕ) → Bool
has_twice [] = false
has_twice (name ∷ names) = has_same name names || has_twice names

-- the numbers ascend, each once
abbrev pub IsAscending : List ℕ → Type 0
IsAscending [] = ⊤
IsAscending (n ∷ ns) = All (λ m. n < m) ns × IsAscending ns

-- some number stands twice in the list
abbrev pub has_number_twice : List ℕ → Bool
has_number_twice [] = false
has_number_twice (n ∷ ns) = list_any (nat_eq n) ns || has_number_twice ns

-- a column of a kind that is asked stands at the place
abbrev pub HasColumn : Relation → ℕ → Bool → Type 0
HasColumn relation at spatial = (name : List ℕ) × (kind : Kind) × (element relation.schema at ≡ Some (name, kind)) × (is_spatial kind ≡ spatial)

-- The quadtree of a column: its threshold is from 1 to 64, it fits the rows, no level is below the finest, no deletion would have merged a place, and its listings are within the limit.
pub record IsQuadtree (gap : Measure) (limits : Limits) (relation : Relation) (column threshold : ℕ) (tree : Tree) : Type 0 where
  pub split : (1 ≤ threshold) × (threshold ≤ 64)
  pub fits : Fits (meets_block gap (shapes_of column relation.rows)) (map (λ s. s.0) (shapes_of column relation.rows)) root_block tree
  pub shallow : IsShallow root_block tree
  pub full : IsFull threshold tree
  pub few : listings tree ≤ limits.listings

-- an index of a column of its kind
abbrev pub IsIndex : Measure → Limits → Relation → ℕ × Index → Type 0
IsIndex gap limits relation (column, Quadtree threshold tree) =
    HasColumn relation column true × IsQuadtree gap limits relation column threshold tree
IsIndex gap limits relation (column, Attribute) = HasColumn relation column false

-- an R-tree of a spatial column lists the rough shapes of the relation's rows, by id
abbrev pub IsRectangles : Relation → Rectangles → Type 0
IsRectangles relation tree = HasColumn relation tree.0 true × (tree.1 ≡ rough_shapes tree.0 relation.rows)

-- A relation: columns with names of their own, rows of the schema by ascending id, all given out before, one index a column and one R-tree a column.
pub record IsRelation (gap : Measure) (limits : Limits) (relation : Relation) : Type 0 where
  pub schema : IsSchemaInRange relation.schema
  pub columns : has_twice (map (λ column. column.0) relation.schema) ≡ false
  pub rows : All (λ row. IsRowOf relation.schema row.1 × IsRowInRange row.1 × (row_size row.1 ≤ longest_row)) relation.rows
  pub ids : IsAscending (map (λ row. row.0) relation.rows)
  pub begun : 1 ≤ relation.next
  pub few : relation.next ≤ limits.ids + 1
  pub given_out : All (λ row. (1 ≤ row.0) × (row.0 < relation.next)) relation.rows
  pub indexed : has_number_twice (map (λ index. index.0) relation.indexes) ≡ false
  pub indexes : All (IsIndex gap limits relation) relation.indexes
  pub bounded : has_number_twice (map (λ tree. tree.0) relation.rectangles) ≡ false
  pub rectangles : All (IsRectangles relation) relation.rectangles

-- a database: relations with names of their own, at most 64
pub record IsDatabase (gap : Measure) (limits : Limits) (database : Database) : Type 0 where
  pub names : has_twice (map (λ relation. relation.name) database) ≡ false
  pub few : length database ≤ most_relations
  pub relations : All (IsRelation gap limits) database
