-- Relations with their rows, indexes and R-trees, and the five changes of a database.
use Rattle.std.specs.Prelude.{ℕ, zero, suc, ◌+◌, Bool, false, cond, nat_eq, not, List, [], ◌∷◌, ◌++◌, map, filter, filter_map, find, Option, Some, None, option_map}
use Rattle.std.specs.Cmp.Lexicographic.{pointwise}
use Rattle.sand_base.specs.declared.goal.Goal.{Goal}
use Rattle.sand_base.specs.declared.kind.Kind.{Kind}
use Rattle.sand_base.specs.declared.shape.Shape.{Shape}
use Rattle.sand_base.specs.declared.value.Value.{Value}
use Rattle.sand_base.specs.declared.value.Value.TheVariants as value
use Rattle.z_code.specs.Block.{square_of}
use Rattle.z_code.specs.declared.block.Block.{Block}
use Rattle.sand_model.specs.Measure.{Measure, meets}
use Rattle.sand_model.specs.Roughs.{row_figure}
use Rattle.sand_model.specs.Tree.{Tree, root_block, empty_tree, grown, shrunk}

-- an index of a column: a quadtree with its splitting threshold, or an attribute index
pub data Index : Type 0 where
  Quadtree : ℕ → Tree → Index
  Attribute : Index

-- an R-tree of a column: the place of the column, and what the R-tree lists, ids with rough shapes
abbrev pub Rectangles : Type 0
Rectangles = ℕ × List (ℕ × Goal)

-- A relation: its name, its columns with their kinds, its rows by ascending id, the id that the next row gets, its indexes, each with the place of its column, and its R-trees.
pub record Relation : Type 0 where
  pub name : List ℕ
  pub schema : List (List ℕ × Kind)
  pub rows : List (ℕ × List Value)
  pub next : ℕ
  pub indexes : List (ℕ × Index)
  pub rectangles : List Rectangles

-- a database is a list of relations, the oldest first
abbrev pub Database : Type 0
Database = List Relation

-- two names are one
abbrev pub same_name : List ℕ → List ℕ → Bool
same_name = pointwise nat_eq

-- the relation has the name
abbrev pub has_name : List ℕ → Relation → Bool
has_name name relation = same_name relation.name name

-- the relation of this name
abbrev pub relation_named : Database → List ℕ → Option Relation
relation_named database name = find (has_name name) database

-- the element at a place of a list
abbrev pub element : {A : Type 0} → List A → ℕ → Option A
element [] at = None
element (x ∷ xs) zero = Some x
element (x ∷ xs) (suc at) = element xs at

-- the shape that a row has at a column
abbrev pub shape_in : ℕ → List Value → Option Shape
shape_in column row = only_shape (element row column) where
  only_shape : Option Value → Option Shape
  only_shape (Some (value.Shape s)) = Some s
  only_shape _ = None

-- the shapes of a column, with the ids of their rows
abbrev pub shapes_of : ℕ → List (ℕ × List Value) → List (ℕ × Shape)
shapes_of column rows = filter_map (λ row. option_map (λ s. (row.0, s)) (shape_in column row.1)) rows

-- the shape of this id
abbrev pub shape_at : List (ℕ × Shape) → ℕ → Option Shape
shape_at shapes id = option_map (λ pair. pair.1) (find (λ pair. nat_eq pair.0 id) shapes)

-- whether the shape of the id meets the closed square of the block
abbrev pub meets_block : Measure → List (ℕ × Shape) → Block → ℕ → Bool
meets_block gap shapes b id = is_met (shape_at shapes id) where
  is_met : Option Shape → Bool
  is_met (Some s) = meets gap s (square_of b)
  is_met None = false

-- the quadtree with the row of the id, among rows of these shapes
abbrev pub tree_with : Measure → List (ℕ × Shape) → ℕ → ℕ → Tree → Tree
tree_with gap shapes threshold id tree = grown (meets_block gap shapes) threshold id root_block tree

-- the quadtree of the rows, entered in the order of their ids
abbrev pub tree_of : Measure → List (ℕ × Shape) → ℕ → Tree
tree_of gap shapes threshold = entered (map (λ pair. pair.0) shapes) empty_tree where
  entered : List ℕ → Tree → Tree
  entered [] tree = tree
  entered (id ∷ ids) tree = entered ids (tree_with gap shapes threshold id tree)

-- a relation without rows, indexes and R-trees, whose ids begin at 1
abbrev pub new_relation : List ℕ → List (List ℕ × Kind) → Relation
new_relation name schema = record { name = name; schema = schema; rows = []; next = 1; indexes = []; rectangles = [] }

-- an index of a column with the new row of this id, among these rows
abbrev pub index_with : Measure → List (ℕ × List Value) → ℕ → ℕ × Index → ℕ × Index
index_with gap rows id (column, Quadtree threshold tree) =
    (column, Quadtree threshold (tree_with gap (shapes_of column rows) threshold id tree))
index_with gap rows id (column, Attribute) = (column, Attribute)

-- an index of a column without the row of this id
abbrev pub index_without : ℕ → ℕ × Index → ℕ × Index
index_without id (column, Quadtree threshold tree) = (column, Quadtree threshold (shrunk threshold id tree))
index_without id (column, Attribute) = (column, Attribute)

-- the rough shapes of a column, with the ids of their rows
abbrev pub rough_shapes : ℕ → List (ℕ × List Value) → List (ℕ × Goal)
rough_shapes column rows = map row_figure (shapes_of column rows)

-- an R-tree of a column with the row of this id, its rough shape at the end of the list
abbrev pub rectangles_with : ℕ → List Value → Rectangles → Rectangles
rectangles_with id row tree = (tree.0, tree.1 ++ rough_shapes tree.0 ((id, row) ∷ []))

-- an R-tree of a column without the row of this id
abbrev pub rectangles_without : ℕ → Rectangles → Rectangles
rectangles_without id tree = (tree.0, filter (λ listed. not (nat_eq listed.0 id)) tree.1)

-- the relation with one row more, under the next id, each quadtree grown by it, and listed in each R-tree
abbrev pub with_row : Measure → List Value → Relation → Relation
with_row gap row relation =
    let rows = relation.rows ++ (relation.next, row) ∷ [] in record relation {
      rows = rows;
      next = relation.next + 1;
      indexes = map (index_with gap rows relation.next) relation.indexes;
      rectangles = map (rectangles_with relation.next row) relation.rectangles;
    }

-- the relation without the row of the id, each quadtree shrunk by it, and listed in no R-tree
abbrev pub without_row : ℕ → Relation → Relation
without_row id relation = record relation {
  rows = filter (λ row. not (nat_eq row.0 id)) relation.rows;
  indexes = map (index_without id) relation.indexes;
  rectangles = map (rectangles_without id) relation.rectangles;
}

-- the index that a column gets: a quadtree of this threshold, or an attribute index where none is given
abbrev pub new_index : Measure → List (ℕ × List Value) → ℕ → Option ℕ → Index
new_index gap rows column (Some threshold) = Quadtree threshold (tree_of gap (shapes_of column rows) threshold)
new_index gap rows column None = Attribute

-- the relation with an index of a column
abbrev pub with_index : Measure → ℕ → Option ℕ → Relation → Relation
with_index gap column threshold relation = record relation {
  indexes = relation.indexes ++ (column, new_index gap relation.rows column threshold) ∷ [];
}

-- the relation with an R-tree of a column
abbrev pub with_rectangles : ℕ → Relation → Relation
with_rectangles column relation = record relation {
  rectangles = relation.rectangles ++ (column, rough_shapes column relation.rows) ∷ [];
}

-- the database with the relation of this name changed
abbrev pub changed_at : List ℕ → (Relation → Relation) → Database → Database
changed_at name change [] = []
changed_at name change (relation ∷ database) =
    cond (has_name name relation) (change relation ∷ database) (relation ∷ changed_at name change database)

-- the place of the column of this name
abbrev pub column_named : List (List ℕ × Kind) → List ℕ → Option ℕ
column_named schema name = counted_from 0 schema where
  counted_from : ℕ → List (List ℕ × Kind) → Option ℕ
  counted_from at [] = None
  counted_from at (column ∷ columns) = cond (same_name column.0 name) (Some at) (counted_from (at + 1) columns)

-- the index of a column
abbrev pub index_at : Relation → ℕ → Option Index
index_at relation column =
    option_map (λ pair. pair.1) (find (λ pair. nat_eq pair.0 column) relation.indexes)

-- the database with one relation more, at its end
abbrev pub with_relation : Relation → Database → Database
with_relation relation database = database ++ relation ∷ []

-- the values of the row of the id
abbrev pub row_at : Relation → ℕ → Option (List Value)
row_at relation id = option_map (λ row. row.1) (find (λ row. nat_eq row.0 id) relation.rows)
