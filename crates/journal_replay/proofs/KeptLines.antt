-- What is kept of a statement, by its kind.
use Rattle.std.specs.Prelude.{Result, Ok, Err, IfOk}
use Rattle.std.specs.List.{AllByRecursion, find}
use Rattle.std.proofs.Common.{◌≡◌, ℕ, ◌<◌, length, List, [], ◌∷◌, Option, Some, None, refl, sym, ap, subst, ◌∙◌}
use Rattle.sand_journal.specs.ChangeBody.{Line, Rows, IsChange, IsEncodingShort, IsKept, body_of, change_value, line_value}
use Rattle.sand_base.specs.declared.value.Value.{Value}
use Rattle.sand_base.specs.declared.kind.Kind.{Kind}
use Rattle.sand_journal.specs.declared.change.Change.TheVariants as change
use Rattle.sand_store.specs.Catalog.{CatalogView, RelationView, is_named}
use Rattle.statements.specs.Statement.{Statement, Create, Insert, Delete, Load, Index, Rtree, OpenCursor, Next, CloseCursor, Show, Stats, Far, Blocks, statement_value}
use Rattle.script_text.specs.Name.{IsName}
use Rattle.statements.specs.declared.column.Column.{Column}
use Rattle.statements.specs.declared.statement.Statement as spoken
use Rattle.statements.specs.declared.statement.Statement.TheVariants as statement
use Rattle.journal_replay.specs.KeptBody.{AreShortEncodingsOf, IsBodyOfRows, IsKeptOf, IsKeptOfRows}
use Rattle.journal_replay.proofs.Lines.{rows_are}

-- the tree of an insertion
pub insert_is : (s : spoken.Statement) (relation : List ℕ) (values : List Value) → s ≡ statement.Insert relation values → line_value s ≡ Insert relation values
unfolding line_value
insert_is s relation values is = ap statement_value is

-- what is kept of an insertion is what is kept of its row
pub insert_kept : {E : Type 0} (catalog : CatalogView) (s : spoken.Statement) (relation : List ℕ) (values : List Value) (rows : List (List Value)) (r : Result (Option (List ℕ)) E)
    → s ≡ statement.Insert relation values
    → rows ≡ values ∷ [] → IfOk r (IsKeptOfRows catalog relation rows) → IfOk r (IsKeptOf catalog (line_value s))
insert_kept catalog s relation values rows (Ok kept) is same h =
    subst (λ (v : Statement). IsKeptOf catalog v kept) (sym (insert_is s relation values is)) (subst (λ (rs : List (List Value)). IsKeptOfRows catalog relation rs kept) same h)
insert_kept catalog s relation values rows (Err e) is same h = tt

-- what is kept of a line is its body
pub line_kept : (catalog : CatalogView) (v : Statement) (kept : Option (List ℕ)) → IsKept v → kept ≡ Some (body_of (Line v)) → IsKeptOf catalog v kept
line_kept catalog (Create relation columns) kept is body = body
line_kept catalog (Insert relation values) kept is body = absurd is
line_kept catalog (Delete relation id) kept is body = body
line_kept catalog (Load relation file header) kept is body = absurd is
line_kept catalog (Index column threshold) kept is body = body
line_kept catalog (Rtree column) kept is body = body
line_kept catalog (OpenCursor cursor plan) kept is body = absurd is
line_kept catalog (Next cursor count) kept is body = absurd is
line_kept catalog (CloseCursor cursor) kept is body = absurd is
line_kept catalog (Show count plan) kept is body = absurd is
line_kept catalog (Stats cursor) kept is body = absurd is
line_kept catalog (Far count column goal) kept is body = absurd is
line_kept catalog (Blocks column) kept is body = absurd is

-- nothing is kept of a statement that is no line and no insertion
pub none_kept : (catalog : CatalogView) (s : spoken.Statement) → (IsKept (line_value s) → ⊥) → ((relation : List ℕ) (values : List Value) → s ≡ statement.Insert relation values → ⊥)
    → IsKeptOf catalog (line_value s) None
unfolding line_value
none_kept catalog (statement.Create relation columns) line insert = absurd (line tt)
none_kept catalog (statement.Insert relation values) line insert = absurd (insert relation values refl)
none_kept catalog (statement.Delete relation id) line insert = absurd (line tt)
none_kept catalog (statement.Load relation file header) line insert = refl
none_kept catalog (statement.Index column threshold) line insert = absurd (line tt)
none_kept catalog (statement.Rtree column) line insert = absurd (line tt)
none_kept catalog (statement.OpenCursor cursor plan) line insert = refl
none_kept catalog (statement.Next cursor count) line insert = refl
none_kept catalog (statement.CloseCursor cursor) line insert = refl
none_kept catalog (statement.Show count plan) line insert = refl
none_kept catalog (statement.Stats cursor) line insert = refl
none_kept catalog (statement.Far count column goal) line insert = refl
none_kept catalog (statement.Blocks column) line insert = refl

-- a copy of a line is the line
pub create_copied : (s : spoken.Statement) (relation relation' : List ℕ) (columns columns' : List (List ℕ × Kind)) → s ≡ statement.Create relation columns → relation' ≡ relation → columns' ≡ columns
    → (line_value (statement.Create relation' columns') ≡ line_value s) × IsKept (line_value s)
unfolding line_value
create_copied s relation relation' columns columns' is same same_columns = rw (is, same, same_columns) (refl, tt)

pub delete_copied : (s : spoken.Statement) (relation relation' : List ℕ) (id : ℕ) → s ≡ statement.Delete relation id → relation' ≡ relation
    → (line_value (statement.Delete relation' id) ≡ line_value s) × IsKept (line_value s)
unfolding line_value
delete_copied s relation relation' id is same = rw (is, same) (refl, tt)

pub index_copied : (s : spoken.Statement) (column : Column) (relation' column' : List ℕ) (threshold : Option ℕ) → s ≡ statement.Index column threshold
    → relation' ≡ column.relation → column' ≡ column.column
    → (line_value (statement.Index (record { relation = relation'; column = column' }) threshold) ≡ line_value s) × IsKept (line_value s)
unfolding line_value
index_copied s column relation' column' threshold is same same_column = rw (is, same, same_column) (refl, tt)

pub rtree_copied : (s : spoken.Statement) (column : Column) (relation' column' : List ℕ) → s ≡ statement.Rtree column → relation' ≡ column.relation → column' ≡ column.column
    → (line_value (statement.Rtree (record { relation = relation'; column = column' })) ≡ line_value s) × IsKept (line_value s)
unfolding line_value
rtree_copied s column relation' column' is same same_column = rw (is, same, same_column) (refl, tt)

-- the change of short encodings is one that a record holds
pub rows_change : (name label : List ℕ) (encodings rows : List (List ℕ)) → label ≡ name → rows ≡ encodings → IsName name → AllByRecursion IsEncodingShort encodings
    → length (body_of (Rows name encodings)) < 4294967296 → IsChange (change_value (change.Rows label rows))
rows_change name label encodings rows same same_rows named short few =
    subst IsChange (sym (rows_are (change.Rows label rows) name encodings (rw (same, same_rows) refl))) (named, short, few)

-- its body is that of the rows
pub rows_body : (catalog : CatalogView) (relation : RelationView) (name label : List ℕ) (values : List (List Value)) (encodings rows : List (List ℕ)) (one : List ℕ)
    → find (is_named name) catalog.relations ≡ Some relation
    → AreShortEncodingsOf relation.schema values encodings → label ≡ name → rows ≡ encodings → IsName name → length (body_of (Rows name encodings)) < 4294967296
    → one ≡ body_of (change_value (change.Rows label rows)) → IsBodyOfRows catalog name values one
rows_body catalog relation name label values encodings rows one found all same same_rows named few is = record {
  encodings = encodings;
  encoded = record { relation = relation; named = found; encoded = all.encoded };
  is = (named, all.short, few);
  body = is ∙ ap body_of (rows_are (change.Rows label rows) name encodings (rw (same, same_rows) refl));
}
