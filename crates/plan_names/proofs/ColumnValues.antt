-- The values of a column are those that the rows of its relation have there.
use Rattle.std.proofs.Common.{◌≡◌, ℕ, List, [], ◌∷◌, refl, ap}
use Rattle.std.specs.Prelude.{Option, None, Some, filter_map}
use Rattle.code_btree.specs.Items.{Each}
use Rattle.sand_base.specs.declared.value.Value.{Value}
use Rattle.sand_model.specs.Database.{Database, Relation, relation_named, column_named, element}
use Rattle.statements.specs.declared.column.Column.{Column}
use Rattle.sand_model.specs.Sources.{column_values}
use Rattle.plan_names.specs.Steps.{values_at}
use Rattle.plan_names.proofs.Above.{Pairs}

abbrev pub Rows : Type 0
Rows = List (ℕ × List Value)

filter_map_is : (at : ℕ) (f : ℕ × List Value → Option (ℕ × Value)) → ((row : ℕ × List Value) → element row.1 at ≡ None → f row ≡ None)
    → ((row : ℕ × List Value) (v : Value) → element row.1 at ≡ Some v → f row ≡ Some (row.0, v)) → (rows : Rows) → filter_map f rows ≡ values_at at rows
filter_map_is at f none some [] = refl
filter_map_is at f none some (row ∷ rows) =
    let rest = filter_map_is at f none some rows in
    let go : (o : Option Value) → element row.1 at ≡ o → filter_map f (row ∷ rows) ≡ values_at at (row ∷ rows) =
    elim [ None ↦ λ e. rw (none row e, e) rest | Some v ↦ λ e. rw (some row v e, e) (ap (λ (ps : Pairs). (row.0, v) ∷ ps) rest) ] in
    go (element row.1 at) refl

pub values_are : (d : Database) (column : Column) (r : Relation) (at : ℕ) → relation_named d column.relation ≡ Some r → column_named r.schema column.column ≡ Some at
    → column_values d column ≡ values_at at r.rows
values_are d column r at named placed = rw (named, placed) (filter_map_is at _ (λ row e. rw e refl) (λ row v e. rw e refl) r.rows)

-- what holds of each value that a row has
pub each_value : (P : ℕ × Value → Type 0) (at : ℕ) (rows : Rows) → Each (λ row. (v : Value) → element row.1 at ≡ Some v → P (row.0, v)) rows → Each P (values_at at rows)
each_value P at [] h = tt
each_value P at (row ∷ rows) h =
    let rest = each_value P at rows h.1 in
    let go : (o : Option Value) → element row.1 at ≡ o → Each P (values_at at (row ∷ rows)) = elim [ None ↦ λ e. rw e rest | Some v ↦ λ e. rw e (h.0 v e, rest) ] in
    go (element row.1 at) refl
