-- Which bytes are the encoding of a row of a schema, which value it has in a column, and that no two rows have one encoding.
use Rattle.std.specs.Prelude.{◌≡◌, ℕ, List, Option}
use Rattle.sand_base.specs.InRange.{IsValueInRange, IsRowOf, IsRowInRange}
use Rattle.sand_base.specs.Shape.{value_kind}
use Rattle.sand_base.specs.declared.kind.Kind.{Kind}
use Rattle.sand_base.specs.declared.value.Value.{Value}
use Rattle.sand_model.specs.Database.{element}
use Rattle.tuple_codec.specs.Encoding.{encoding}

-- the value is of the kind and in range
pub record IsValueOf (kind : Kind) (v : Value) : Type 0 where
  pub of_kind : value_kind v ≡ kind
  pub in_range : IsValueInRange v

-- the row is of the schema and in range
pub record IsRowFor (schema : List (List ℕ × Kind)) (row : List Value) : Type 0 where
  pub of_schema : IsRowOf schema row
  pub in_range : IsRowInRange row

-- the bytes are the encoding of the row, which is of the schema and in range
pub record IsEncodingOf (schema : List (List ℕ × Kind)) (row : List Value) (bytes : List ℕ) : Type 0 where
  pub fitting : IsRowFor schema row
  pub encoded : encoding row ≡ bytes

-- the value is the one that the row has in the column, or it has no such column, and there is none
abbrev pub HasValue : List Value → ℕ → Option Value → Type 0
HasValue row column value = value ≡ element row column

-- where the bytes are the encoding of a row of the schema, the value is the one that it has in the column
abbrev pub IsValueIn : List (List ℕ × Kind) → List ℕ → ℕ → Option Value → Type 0
IsValueIn schema bytes column value = (row : List Value) → IsEncodingOf schema row bytes → HasValue row column value

-- rows of one schema with one encoding are one row
abbrev pub HaveOneEncoding : Type 0
HaveOneEncoding =
    (schema : List (List ℕ × Kind)) (bytes : List ℕ) (a b : List Value)
    → IsEncodingOf schema a bytes → IsEncodingOf schema b bytes → a ≡ b
