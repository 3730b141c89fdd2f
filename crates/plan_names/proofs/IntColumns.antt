-- The values of a column of ints are ints in range.
use Rattle.std.proofs.Common.{◌≡◌, ℕ, ℤ, zero, suc, ◌^◌, ◌<◌, List, [], ◌∷◌, refl, sym, ap, subst, true≢false}
use Rattle.std.specs.Prelude.{Option, Some, None, is_some}
use Rattle.std.proofs.lemmas.List.Elements.{All-head, All-tail}
use Rattle.code_btree.specs.Items.{Each}
use Rattle.code_btree.proofs.Lists.{Each-zip}
use Rattle.sand_base.specs.InRange.{IsIntInRange, IsValueInRange, IsRowInRange}
use Rattle.sand_base.specs.Shape.{value_kind, same_kind}
use Rattle.sand_base.specs.declared.kind.Kind.{Kind}
use Rattle.sand_base.specs.declared.kind.Kind.TheVariants as kind
use Rattle.sand_base.specs.declared.shape.Shape.TheVariants as shape
use Rattle.sand_base.specs.declared.value.Value.{Value}
use Rattle.sand_base.specs.declared.value.Value.TheVariants as value
use Rattle.sand_model.specs.Database.{element}
use Rattle.tuple_codec.specs.Decoding.{IsRowFor}
use Rattle.sand_store.specs.Standing.{kind_at}
use Rattle.sand_store.proofs.IndexGrowth.{kind_of_value}
use Rattle.plan_names.specs.Steps.{values_at}
use Rattle.plan_names.proofs.ColumnValues.{each_value}

-- an int in range, with an id of 32 bits
abbrev pub IsIntPair : ℕ × Value → Type 0
IsIntPair p = (n : ℤ) × ((p.1 ≡ value.Int n) × (IsIntInRange n × (p.0 < 2 ^ 32)))

-- a value of the kind of ints is one
int_of_kind : (v : Value) → value_kind v ≡ kind.Int → (n : ℤ) × (v ≡ value.Int n)
int_of_kind (value.Int n) e = (n, refl)
int_of_kind (value.Text bytes) e = absurd (true≢false (sym (ap (λ (k : Kind). same_kind k kind.Int) e)))
int_of_kind (value.Shape (shape.Point p)) e = absurd (true≢false (sym (ap (λ (k : Kind). same_kind k kind.Int) e)))
int_of_kind (value.Shape (shape.Segment s)) e = absurd (true≢false (sym (ap (λ (k : Kind). same_kind k kind.Int) e)))
int_of_kind (value.Shape (shape.Polygon r)) e = absurd (true≢false (sym (ap (λ (k : Kind). same_kind k kind.Int) e)))

some_is : (x y : Value) → Some x ≡ Some y → x ≡ y
some_is x y e = ap value_or e where
  value_or : Option Value → Value
  value_or None = x
  value_or (Some n) = n

range_of : (row : List Value) (at : ℕ) (v : Value) → IsRowInRange row → element row at ≡ Some v → IsValueInRange v
range_of [] at v h e = absurd (true≢false (sym (ap (λ (o : Option Value). is_some o) e)))
range_of (x ∷ row) zero v h e = subst IsValueInRange (some_is x v e) (All-head IsValueInRange x row h)
range_of (x ∷ row) (suc at) v h e = range_of row at v (All-tail IsValueInRange x row h) e

int_pair : (schema : List (List ℕ × Kind)) (at : ℕ) (row : ℕ × List Value) (v : Value) → IsRowFor schema row.1 → kind_at schema at ≡ Some kind.Int → row.0 < 2 ^ 32
    → element row.1 at ≡ Some v → IsIntPair (row.0, v)
int_pair schema at row v h k s e =
    let number = int_of_kind v (kind_of_value schema row.1 at v kind.Int h.of_schema e k) in
    (number.0, (number.1, (subst IsValueInRange number.1 (range_of row.1 at v h.in_range e), s)))

-- all values of a column of ints are
pub int_pairs : (schema : List (List ℕ × Kind)) (at : ℕ) (rows : List (ℕ × List Value)) → Each (λ row. IsRowFor schema row.1) rows → Each (λ row. row.0 < 2 ^ 32) rows
    → kind_at schema at ≡ Some kind.Int
    → Each IsIntPair (values_at at rows)
int_pairs schema at rows h s k =
    each_value IsIntPair at rows
    (Each-zip (λ row. IsRowFor schema row.1) (λ row. row.0 < 2 ^ 32) (λ row. (v : Value) → element row.1 at ≡ Some v → IsIntPair (row.0, v)) (λ row f b v e. int_pair schema at row v f k b e) rows h s)
