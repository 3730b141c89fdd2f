-- The value that is read in place of a row is that of the relation's row.
use Rattle.std.proofs.Common.{◌≡◌, ℕ, List, subst, sym, ◌∙◌, refl, ap}
use Rattle.std.specs.Prelude.{Option, None, Some, MatchOption, option_and_then}
use Rattle.page_pool.specs.Disk.{PageMap}
use Rattle.pmr_tree.specs.Quadtree.{store_of}
use Rattle.sand_base.specs.declared.kind.Kind.{Kind}
use Rattle.sand_base.specs.declared.value.Value.{Value}
use Rattle.sand_model.specs.Database.{Database, element}
use Rattle.sand_model.specs.Operators.{PlanRow, kth, value_at}
use Rattle.statements.specs.declared.column.Place.{Place}
use Rattle.tuple_codec.specs.Decoding.{HasValue}
use Rattle.tuple_file.specs.declared.file.TupleFile.{TupleFile}
use Rattle.tuple_file.specs.Calls.{IsValueAt}
use Rattle.tuple_file.specs.File.{tuples_of}
use Rattle.tuple_file.specs.Rows.{of_id}
use Rattle.tuple_file.proofs.Tables.{value_fetched}
use Rattle.sand_store.specs.Catalog.{RelationView}
use Rattle.sand_store.specs.Contents.{rows_in}
use Rattle.plan_names.specs.declared.spot.Spot.{Spot}
use Rattle.plan_names.specs.Spots.{Stands, IsSpot}
use Rattle.plan_names.specs.Steps.{column_value}

value_of_row : (row : Option (List Value)) (column : ℕ) (found : Option Value) → MatchOption row (found ≡ None) (λ values. HasValue values column found)
    → found ≡ option_and_then (λ values. element values column) row
value_of_row None column found h = h
value_of_row (Some values) column found h = h

-- what is fetched in place of a row is its value
pub value_read : (m : PageMap) (r : RelationView) (schema : List (List ℕ × Kind)) (file : TupleFile) (id column : ℕ) (found : Option Value) → schema ≡ r.schema → file ≡ r.file → Stands m r
    → IsValueAt schema (tuples_of (store_of m) file) id column found → found ≡ column_value (rows_in m r) id column
value_read m r schema file id column found s f h is =
    let P : List (List ℕ × Kind) → Type 0 = λ cs. IsValueAt cs (tuples_of (store_of m) file) id column found in
    let F : TupleFile → Type 0 = λ x. IsValueAt r.schema (tuples_of (store_of m) x) id column found in
    let Q : List (ℕ × List ℕ) → Type 0 = λ ts. IsValueAt r.schema ts id column found in
    value_of_row (of_id id (rows_in m r)) column found
    (value_fetched r.schema (rows_in m r) id column found h.1.table.rows (subst Q h.1.table.tuples (subst F f (subst P s is))))

-- it is the value at the place of a row with the id
pub spot_value : (d : Database) (names : List (List ℕ)) (place : Place) (spot : Spot) (m : PageMap) (row : PlanRow) (ids : List ℕ) (id : ℕ) (found : Option Value)
    → IsSpot d names place spot m → row.ids ≡ ids → kth ids spot.k ≡ Some id → found ≡ column_value (rows_in m spot.relation.value) id spot.column → found ≡ value_at d names row place
spot_value d names place spot m row ids id found is e at h =
    let here : kth row.ids place.k ≡ Some id = ap (λ (xs : List ℕ). kth xs place.k) e ∙ ap (λ (k : ℕ). kth ids k) (sym is.number) ∙ at in
    let go : (o : Option (List Value)) → of_id id (rows_in m spot.relation.value) ≡ o → column_value (rows_in m spot.relation.value) id spot.column ≡ value_at d names row place =
    elim [ None ↦ λ n. rw (is.named, here, is.relation, is.at, n) refl | Some values ↦ λ n. rw (is.named, here, is.relation, is.at, n) refl ] in
    h ∙ go (of_id id (rows_in m spot.relation.value)) refl
