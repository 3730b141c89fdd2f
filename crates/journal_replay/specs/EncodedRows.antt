-- Rows of a schema and the bytes that encode them, side by side.
use Rattle.std.specs.Prelude.{◌≡◌, ℕ, List, [], ◌∷◌, Option, Some, None, find, ⊤}
use Rattle.sand_base.specs.declared.kind.Kind.{Kind}
use Rattle.sand_base.specs.declared.value.Value.{Value}
use Rattle.sand_store.specs.Catalog.{CatalogView, RelationView, is_named}
use Rattle.tuple_codec.specs.Decoding.{IsEncodingOf}

-- these bytes, one list for each row, are the encodings of these rows of the schema
abbrev pub AreEncodingsOf : List (List ℕ × Kind) → List (List Value) → List (List ℕ) → Type 0
AreEncodingsOf schema [] [] = ⊤
AreEncodingsOf schema [] (bytes ∷ encodings) = ⊥
AreEncodingsOf schema (row ∷ rows) [] = ⊥
AreEncodingsOf schema (row ∷ rows) (bytes ∷ encodings) = IsEncodingOf schema row bytes × AreEncodingsOf schema rows encodings

-- no rows of the schema have these encodings
abbrev pub EncodeNone : List (List ℕ × Kind) → List (List ℕ) → Type 0
EncodeNone schema encodings = (rows : List (List Value)) → AreEncodingsOf schema rows encodings → ⊥

-- What encodings are read as by a schema: its rows that have them, or None where there are no such rows.
abbrev pub AreReadAs : List (List ℕ × Kind) → List (List ℕ) → Option (List (List Value)) → Type 0
AreReadAs schema encodings None = EncodeNone schema encodings
AreReadAs schema encodings (Some rows) = AreEncodingsOf schema rows encodings

-- The relation of this name is there, and these are the rows of its schema that have these encodings.
pub record HasRowsFor (catalog : CatalogView) (name : List ℕ) (encodings : List (List ℕ)) (rows : List (List Value)) : Type 0 where
  pub relation : RelationView
  pub named : find (is_named name) catalog.relations ≡ Some relation
  pub encoded : AreEncodingsOf relation.schema rows encodings

-- where the relation of this name is there, no rows of its schema have these encodings
abbrev pub LacksRowsFor : CatalogView → List ℕ → List (List ℕ) → Type 0
LacksRowsFor catalog name encodings = (relation : RelationView) → find (is_named name) catalog.relations ≡ Some relation → EncodeNone relation.schema encodings
