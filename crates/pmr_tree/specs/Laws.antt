-- Laws of quadtrees that grow and shrink as values, by rows of shapes.
use Rattle.std.specs.Prelude.{◌≡◌, ℕ, List, [], ◌∷◌, Some}
use Rattle.sand_base.specs.Plane.{IsShapeInPlane}
use Rattle.sand_base.specs.declared.shape.Shape.{Shape}
use Rattle.sand_model.specs.Measure.{Measure, IsMeasure}
use Rattle.sand_model.specs.Database.{shape_at, meets_block, tree_with}
use Rattle.sand_model.specs.Tree.{Tree, root_block, add, without, shrunk, Fits, IsShallow, IsFull}
use Rattle.pmr_tree.specs.Lists.{Each, RiseStrictly}
use Rattle.pmr_tree.specs.Changes.{ListsWhere}

-- trees grow alike where the shapes of all ids are the same
abbrev pub ShapesDecide : Type 0
ShapesDecide =
    (gap : Measure) (rows others : List (ℕ × Shape)) (threshold id : ℕ) (tree : Tree)
    → ((other : ℕ) → shape_at rows other ≡ shape_at others other) → tree_with gap rows threshold id tree ≡ tree_with gap others threshold id tree

-- rows whose shapes lie in the plane
abbrev pub AreInPlane : List (ℕ × Shape) → Type 0
AreInPlane rows = Each (λ row. IsShapeInPlane row.1) rows

-- a tree that fits ascending ids of rows, and grows by a row, fits them and this one
abbrev pub GrownFits : Type 0
GrownFits =
    (gap : Measure) → IsMeasure gap → (rows : List (ℕ × Shape)) (ids : List ℕ) (threshold id : ℕ) (tree : Tree) → AreInPlane rows → RiseStrictly ids
    → IsShallow root_block tree → Fits (meets_block gap rows) ids root_block tree
    → Fits (meets_block gap rows) (add id ids) root_block (tree_with gap rows threshold id tree)

-- and a full one stays full, and shallow
abbrev pub GrownIsFull : Type 0
GrownIsFull =
    (gap : Measure) → IsMeasure gap → (rows : List (ℕ × Shape)) (ids : List ℕ) (threshold id : ℕ) (tree : Tree) → AreInPlane rows → RiseStrictly ids
    → IsShallow root_block tree → Fits (meets_block gap rows) ids root_block tree → IsFull threshold tree
    → IsFull threshold (tree_with gap rows threshold id tree)

-- an insertion leaves no leaf below the last level
abbrev pub GrownIsShallow : Type 0
GrownIsShallow =
    (gap : Measure) (rows : List (ℕ × Shape)) (threshold id : ℕ) (tree : Tree) → IsShallow root_block tree
    → IsShallow root_block (tree_with gap rows threshold id tree)

-- a tree that has shrunk by a row fits the ids without it, and is full and shallow
abbrev pub ShrunkFits : Type 0
ShrunkFits =
    (gap : Measure) → IsMeasure gap → (rows : List (ℕ × Shape)) (ids : List ℕ) (threshold id : ℕ) (tree : Tree) → AreInPlane rows → RiseStrictly ids
    → IsShallow root_block tree → Fits (meets_block gap rows) ids root_block tree → Fits (meets_block gap rows) (without id ids) root_block (shrunk threshold id tree)

-- a deletion leaves no four leaves that could be one
abbrev pub ShrunkIsFull : Type 0
ShrunkIsFull = (threshold id : ℕ) (tree : Tree) → IsFull threshold (shrunk threshold id tree)

-- a deletion leaves no leaf below the last level
abbrev pub ShrunkIsShallow : Type 0
ShrunkIsShallow = (threshold id : ℕ) (tree : Tree) → IsShallow root_block tree → IsShallow root_block (shrunk threshold id tree)

-- whether a tree fits ids depends on their shapes alone
abbrev pub ShapesDecideFit : Type 0
ShapesDecideFit =
    (gap : Measure) (rows others : List (ℕ × Shape)) (ids : List ℕ) (tree : Tree) → Each (λ id. shape_at rows id ≡ shape_at others id) ids
    → Fits (meets_block gap rows) ids root_block tree → Fits (meets_block gap others) ids root_block tree

-- a tree that fits rows lists an id only where its shape meets
abbrev pub FittedIsListedWhereMet : Type 0
FittedIsListedWhereMet =
    (gap : Measure) (rows : List (ℕ × Shape)) (ids : List ℕ) (id : ℕ) (s : Shape) (tree : Tree) → shape_at rows id ≡ Some s
    → Fits (meets_block gap rows) ids root_block tree → ListsWhere (meets_block gap ((id, s) ∷ [])) id root_block tree
