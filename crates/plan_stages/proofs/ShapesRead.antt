-- A shape at a place of a row lies in the plane.
use Rattle.std.proofs.Common.{◌≡◌, ℕ, Bool, true, false, true≢false, nat_eq, List, [], ◌∷◌, refl, sym, ap, ◌∙◌}
use Rattle.std.specs.Prelude.{Option, None, Some, is_some}
use Rattle.std.proofs.lemmas.List.Elements.{All-head, All-tail}
use Rattle.sand_base.specs.InRange.{IsRowInRange}
use Rattle.sand_base.specs.Plane.{IsShapeInPlane}
use Rattle.sand_base.specs.declared.kind.Kind.{Kind}
use Rattle.sand_base.specs.declared.shape.Shape.{Shape}
use Rattle.sand_base.specs.declared.value.Value.{Value}
use Rattle.sand_base.specs.declared.value.Value.TheVariants as value
use Rattle.page_pool.specs.Disk.{PageMap}
use Rattle.sand_model.specs.Database.{Database, Relation, relation_named, column_named, row_at, element}
use Rattle.sand_model.specs.Operators.{PlanRow, kth, value_at}
use Rattle.statements.specs.declared.column.Place.{Place}
use Rattle.tuple_codec.specs.Decoding.{IsRowFor}
use Rattle.tuple_file.specs.Rows.{of_id}
use Rattle.tuple_file.specs.Table.{AreRowsFor}
use Rattle.sand_store.specs.Contents.{relation_in, rows_in}
use Rattle.sand_store.specs.TableLaws.{shape_plane}
use Rattle.plan_names.specs.Spots.{IsSpot}
use Rattle.plan_names.specs.declared.spot.Spot.{Spot}

not_some : {A : Type 0} (x : A) → None ≡ Some x → ⊥
not_some x e = true≢false (sym (ap (λ o. is_some o) e))

-- the value that a row, where there is one, has in a column
abbrev value_in : ℕ → Option (List Value) → Option Value
value_in at None = None
value_in at (Some values) = element values at

-- the value at a place is that of the row of the id
seen : (d : Database) (names : List (List ℕ)) (row : PlanRow) (place : Place) (name : List ℕ) (id : ℕ) (r : Relation) (at : ℕ)
    → kth names place.k ≡ Some name → kth row.ids place.k ≡ Some id → relation_named d name ≡ Some r → column_named r.schema place.column ≡ Some at
    → value_at d names row place ≡ value_in at (row_at r id)
seen d names row place name id r at a b c e =
    let go : (o : Option (List Value)) → row_at r id ≡ o → value_at d names row place ≡ value_in at (row_at r id) =
    elim [ None ↦ λ h. rw (a, b, c, e, h) refl | Some values ↦ λ h. rw (a, b, c, e, h) refl ] in
    go (row_at r id) refl

-- without an id there is none
unseen : (d : Database) (names : List (List ℕ)) (row : PlanRow) (place : Place) (name : List ℕ)
    → kth names place.k ≡ Some name → kth row.ids place.k ≡ None → value_at d names row place ≡ None
unseen d names row place name a b = rw (a, b) refl

-- a shape of a row
in_row : (values : List Value) (at : ℕ) (s : Shape) → IsRowInRange values → element values at ≡ Some (value.Shape s) → IsShapeInPlane s
in_row values at s h e = shape_plane values at s h (rw e refl)

-- a shape of the row of an id
in_rows : (schema : List (List ℕ × Kind)) (rows : List (ℕ × List Value)) (id at : ℕ) (s : Shape) → AreRowsFor schema rows
    → value_in at (of_id id rows) ≡ Some (value.Shape s) → IsShapeInPlane s
in_rows schema [] id at s h e = absurd (not_some (value.Shape s) e)
in_rows schema (row ∷ rows) id at s h e =
    go (nat_eq row.0 id) refl (in_rows schema rows id at s (All-tail (λ (r : ℕ × List Value). IsRowFor schema r.1) row rows h))
  where
    here : IsRowFor schema row.1
    here = All-head (λ (r : ℕ × List Value). IsRowFor schema r.1) row rows h

    go : (b : Bool) → nat_eq row.0 id ≡ b → (value_in at (of_id id rows) ≡ Some (value.Shape s) → IsShapeInPlane s) → IsShapeInPlane s
    go true t more =
        let found : of_id id (row ∷ rows) ≡ Some row.1 = rw t refl in in_row row.1 at s here.in_range (ap (value_in at) (sym found) ∙ e)
    go false t more =
        let found : of_id id (row ∷ rows) ≡ of_id id rows = rw t refl in more (ap (value_in at) (sym found) ∙ e)

-- the shape at a place lies in the plane
pub spot_plane : (d : Database) (names : List (List ℕ)) (place : Place) (spot : Spot) (pages : PageMap) (row : PlanRow) (s : Shape) → IsSpot d names place spot pages
    → value_at d names row place ≡ Some (value.Shape s) → IsShapeInPlane s
spot_plane d names place spot pages row s h e = go (kth row.ids place.k) refl
  where
    go : (o : Option ℕ) → kth row.ids place.k ≡ o → IsShapeInPlane s
    go None k = absurd (not_some (value.Shape s) (sym (unseen d names row place h.name h.named k) ∙ e))
    go (Some id) k =
        in_rows spot.relation.value.schema (rows_in pages spot.relation.value) id spot.column s h.stands.1.table.rows
        (sym (seen d names row place h.name id (relation_in pages spot.relation.value) spot.column h.named k h.relation h.at) ∙ e)
