-- A column of shapes has one shape for each row of its relation.
use Rattle.std.proofs.Common.{◌≡◌, ℕ, zero, suc, ◌≤◌, true, true≢false, List, [], ◌∷◌, map, length, All, Option, None, Some, option_map, refl, sym, ap, ◌∙◌, subst}
use Rattle.std.proofs.lemmas.List.Elements.{All-head, All-tail, All-contains}
use Rattle.sand_base.specs.Shape.{value_kind, is_spatial}
use Rattle.sand_base.specs.declared.kind.Kind.{Kind}
use Rattle.sand_base.specs.declared.shape.Shape.{Shape}
use Rattle.sand_base.specs.declared.value.Value.{Value}
use Rattle.sand_base.specs.declared.value.Value.TheVariants as value
use Rattle.sand_model.specs.Database.{element, shape_in, shapes_of}
use Rattle.tuple_codec.specs.Decoding.{IsRowFor}
use Rattle.tuple_file.specs.Table.{AreRowsFor}
use Rattle.sand_store.specs.Catalog.{IsColumnAt}
use Rattle.best_first.proofs.Bags.{All-by}
use Rattle.rank_cursor.proofs.Elements.{from_filter_map, some_is}
use Rattle.rank_cursor.proofs.Places.{mapped_some}

abbrev head_of : {A : Type 0} → List A → Option A
head_of [] = None
head_of (x ∷ xs) = Some x

abbrev tail_of : {A : Type 0} → List A → List A
tail_of [] = []
tail_of (x ∷ xs) = xs

-- a value of a spatial kind is a shape
is_shape : (v : Value) → is_spatial (value_kind v) ≡ true → (vs : List Value) → (s : Shape) × (shape_in 0 (v ∷ vs) ≡ Some s)
is_shape (value.Int n) e vs = absurd (true≢false (sym e))
is_shape (value.Text bytes) e vs = absurd (true≢false (sym e))
is_shape (value.Shape s) e vs = (s, refl)

-- a row of the schema has a shape in a column of shapes
has_shape : (schema : List (List ℕ × Kind)) (row : List Value) (at : ℕ) → map value_kind row ≡ map (λ column. column.1) schema
    → (column : List ℕ × Kind) → element schema at ≡ Some column → is_spatial column.1 ≡ true → (s : Shape) × (shape_in at row ≡ Some s)
has_shape [] row at same column there spatial = absurd (let clash : ⊥ = cc in clash)
has_shape (c ∷ cs) [] at same column there spatial = absurd (let clash : ⊥ = cc in clash)
has_shape (c ∷ cs) (v ∷ vs) zero same column there spatial =
    let kind : value_kind v ≡ c.1 = some_is (value_kind v) c.1 (ap head_of same) in
    let is : c ≡ column = some_is c column there in
    is_shape v (ap is_spatial kind ∙ ap (λ (x : List ℕ × Kind). is_spatial x.1) is ∙ spatial) vs
has_shape (c ∷ cs) (v ∷ vs) (suc at) same column there spatial = has_shape cs vs at (ap tail_of same) column there spatial

-- as many shapes as rows
pub shapes_long : (schema : List (List ℕ × Kind)) (at : ℕ) → IsColumnAt schema at true → (rows : List (ℕ × List Value)) → AreRowsFor schema rows → length (shapes_of at rows) ≡ length rows
shapes_long schema at column [] h = refl
shapes_long schema at (name, kind, there, spatial) (row ∷ rows) h =
    let rest = shapes_long schema at (name, kind, there, spatial) rows (All-tail (λ (r : ℕ × List Value). IsRowFor schema r.1) row rows h) in
    let first : IsRowFor schema row.1 = All-head (λ (r : ℕ × List Value). IsRowFor schema r.1) row rows h in
    let (s, is) = has_shape schema row.1 at first.of_schema (name, kind) there spatial in
    rw is (ap suc rest)

-- and their ids are those of rows
pub shapes_small : (at greatest : ℕ) (rows : List (ℕ × List Value)) → All (λ row. row.0 ≤ greatest) rows → All (λ row. row.0 ≤ greatest) (shapes_of at rows)
shapes_small at greatest rows small = All-by (λ (row : ℕ × Shape). row.0 ≤ greatest) (shapes_of at rows) (λ x among.
    let (row, there, is) = from_filter_map (λ (row : ℕ × List Value). option_map (λ s. (row.0, s)) (shape_in at row.1)) rows x among in
    let (s, found, same) = mapped_some (λ (s : Shape). (row.0, s)) (shape_in at row.1) x is in
    subst (λ (y : ℕ × Shape). y.0 ≤ greatest) same (All-contains (λ (row : ℕ × List Value). row.0 ≤ greatest) rows row small there))
