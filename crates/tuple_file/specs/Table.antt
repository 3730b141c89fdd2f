-- A file's list, where its bytes are the encodings of rows of a schema.
use Rattle.std.specs.Prelude.{ℕ, List, map}
use Rattle.std.specs.List.{All}
use Rattle.sand_base.specs.declared.kind.Kind.{Kind}
use Rattle.sand_base.specs.declared.value.Value.{Value}
use Rattle.tuple_codec.specs.Encoding.{encoding}
use Rattle.tuple_codec.specs.Decoding.{IsRowFor}

-- the encodings of rows, by id
abbrev pub encodings : List (ℕ × List Value) → List (ℕ × List ℕ)
encodings table = map (λ r. (r.0, encoding r.1)) table

-- all rows are of the schema and in range
abbrev pub AreRowsFor : List (List ℕ × Kind) → List (ℕ × List Value) → Type 0
AreRowsFor schema table = All (λ r. IsRowFor schema r.1) table
