-- The quadtree of a column whose leaves are to be printed, or why there is none.
use Rattle.std.specs.Prelude.{◌≡◌, ⊤, List, Some, None}
use Rattle.page_pool.specs.Disk.{PageMap}
use Rattle.pmr_tree.specs.Quadtree.{IsPmr, tree_at}
use Rattle.pmr_tree.specs.declared.quadtree.Pmr.{Pmr}
use Rattle.sand_base.specs.declared.refusal.Refusal.{Refusal}
use Rattle.sand_base.specs.declared.refusal.Refusal.TheVariants as why
use Rattle.sand_model.specs.Cursor.{State, Cursor}
use Rattle.sand_model.specs.Database.{Relation, relation_named}
use Rattle.sand_model.specs.Outcome.{leaf_lines}
use Rattle.statements.specs.declared.column.Column.{Column}
use Rattle.statements.specs.Statement.{Blocks}
use Rattle.sand_model.specs.StatementChecks.{Setting, early}
use Rattle.sand_model.specs.Tree.{leaves, root_block}
use Rattle.sand_store.specs.Catalog.{CatalogView}
use Rattle.sand_store.specs.Contents.{database_in}
use Rattle.sand_store.specs.Standing.{CatalogStands}
use Rattle.statement_exec.specs.LeafWalk.{lines_of}

-- the state of a catalog over pages, beside these cursors
abbrev pub state_beside : CatalogView → PageMap → List Cursor → State
state_beside catalog pages cursors = record { database = database_in pages catalog.relations; cursors = cursors }

-- no check fails, and the lines are those of the leaves of this quadtree
pub record HasQuadtree (catalog : CatalogView) (column : Column) (tree : Pmr) (pages : PageMap) : Type 0 where
  pub passes : (setting : Setting) (cursors : List Cursor) → early setting (state_beside catalog pages cursors) (Blocks column) ≡ None
  pub relation : Relation
  pub named : relation_named (database_in pages catalog.relations) column.relation ≡ Some relation
  pub lines : leaf_lines relation column.column ≡ lines_of (leaves root_block (tree_at pages tree))
  pub stands : CatalogStands pages catalog → IsPmr pages tree

-- the first check that fails gives this refusal
abbrev pub LacksTree : CatalogView → Column → Refusal → PageMap → Type 0
LacksTree catalog column refusal pages =
    (setting : Setting) (cursors : List Cursor) → early setting (state_beside catalog pages cursors) (Blocks column) ≡ Some refusal

-- the refusal is one of a check
abbrev pub IsOfCheck : Refusal → Type 0
IsOfCheck why.Memory = ⊥
IsOfCheck why.Device = ⊥
IsOfCheck (why.Damaged n kept read) = ⊥
IsOfCheck why.File = ⊥
IsOfCheck _ = ⊤
