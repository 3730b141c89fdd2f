-- Changes of the code, as contracts see them.
use Rattle.std.proofs.Common.{◌≡◌, ℕ, ◌≤◌, List, Option, Some, None, refl, ap}
use Rattle.std.specs.Prelude.{IfSome}
use Rattle.sand_base.specs.declared.kind.Kind.{Kind}
use Rattle.sand_journal.specs.ChangeBody.{Line, Rows, IsKept, change_value, line_value}
use Rattle.sand_journal.specs.declared.change.Change as declared
use Rattle.sand_journal.specs.declared.change.Change.TheVariants as change
use Rattle.script_text.specs.InRange.{IsThresholdInRange}
use Rattle.statements.specs.Statement.{Create, Delete, Index, Rtree, statement_value}
use Rattle.statements.specs.declared.column.Column.{Column}
use Rattle.statements.specs.declared.statement.Statement.{Statement}
use Rattle.statements.specs.declared.statement.Statement.TheVariants as statement

-- the tree of a statement that makes a relation, removes a row, or makes an index or an R-tree
pub create_is : (s : Statement) (relation : List ℕ) (columns : List (List ℕ × Kind)) → s ≡ statement.Create relation columns → line_value s ≡ Create relation columns
unfolding line_value
create_is s relation columns is = ap statement_value is

pub delete_is : (s : Statement) (relation : List ℕ) (id : ℕ) → s ≡ statement.Delete relation id → line_value s ≡ Delete relation id
unfolding line_value
delete_is s relation id is = ap statement_value is

pub index_is : (s : Statement) (column : Column) (threshold : Option ℕ) → s ≡ statement.Index column threshold → line_value s ≡ Index column threshold
unfolding line_value
index_is s column threshold is = ap statement_value is

pub rtree_is : (s : Statement) (column : Column) → s ≡ statement.Rtree column → line_value s ≡ Rtree column
unfolding line_value
rtree_is s column is = ap statement_value is

-- a change that is a statement, or rows
pub line_is : (c : declared.Change) (s : Statement) → c ≡ change.Line s → change_value c ≡ Line (line_value s)
unfolding change_value
line_is c s is = ap change_value is

pub rows_are : (c : declared.Change) (relation : List ℕ) (rows : List (List ℕ)) → c ≡ change.Rows relation rows → change_value c ≡ Rows relation rows
unfolding change_value
rows_are c relation rows is = ap change_value is

-- a threshold in range
pub threshold_fits : (o : Option ℕ) → IsThresholdInRange o → IfSome o (λ t. (1 ≤ t) × (t ≤ 64))
threshold_fits None h = tt
threshold_fits (Some n) h = h

-- a journal keeps no other statement
pub kept_ones : (s : Statement) → IsKept (line_value s) → ((relation : List ℕ) (columns : List (List ℕ × Kind)) → s ≡ statement.Create relation columns → ⊥)
    → ((relation : List ℕ) (id : ℕ) → s ≡ statement.Delete relation id → ⊥) → ((column : Column) (threshold : Option ℕ) → s ≡ statement.Index column threshold → ⊥)
    → ((column : Column) → s ≡ statement.Rtree column → ⊥) → ⊥
unfolding line_value
kept_ones (statement.Create relation columns) kept create delete index rtree = create relation columns refl
kept_ones (statement.Insert relation values) kept create delete index rtree = kept
kept_ones (statement.Delete relation id) kept create delete index rtree = delete relation id refl
kept_ones (statement.Load relation file header) kept create delete index rtree = kept
kept_ones (statement.Index column threshold) kept create delete index rtree = index column threshold refl
kept_ones (statement.Rtree column) kept create delete index rtree = rtree column refl
kept_ones (statement.OpenCursor cursor plan) kept create delete index rtree = kept
kept_ones (statement.Next cursor count) kept create delete index rtree = kept
kept_ones (statement.CloseCursor cursor) kept create delete index rtree = kept
kept_ones (statement.Show count plan) kept create delete index rtree = kept
kept_ones (statement.Stats cursor) kept create delete index rtree = kept
kept_ones (statement.Far count column goal) kept create delete index rtree = kept
kept_ones (statement.Blocks column) kept create delete index rtree = kept
