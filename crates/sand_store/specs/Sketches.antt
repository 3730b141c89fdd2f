-- What is known of relations without a page.
use Rattle.std.specs.Prelude.{ℕ, ◌+◌, cond, List, [], ◌∷◌, ◌++◌, map, Option, Some, None}
use Rattle.sand_base.specs.declared.kind.Kind.{Kind}
use Rattle.sand_model.specs.Database.{same_name, column_named}
use Rattle.sand_store.specs.Catalog.{RelationView, StoreState}

-- a sketch of a relation: its name, its columns, the id that the next row gets, and the places of the columns that have an index, and of those that have an R-tree
pub record Sketch : Type 0 where
  pub name : List ℕ
  pub schema : List (List ℕ × Kind)
  pub next : ℕ
  pub indexed : List ℕ
  pub treed : List ℕ

-- what is known of a relation without a page
abbrev pub sketch_of : RelationView → Sketch
sketch_of r = record { name = r.name; schema = r.schema; next = r.next; indexed = map (λ path. path.0) r.paths; treed = map (λ tree. tree.0) r.trees }

-- the sketches of a store's relations, the oldest first
abbrev pub sketches : StoreState → List Sketch
sketches store = map sketch_of store.catalog.relations

-- of a relation without rows, indexes and R-trees, whose ids begin at 1
abbrev pub new_sketch : List ℕ → List (List ℕ × Kind) → Sketch
new_sketch name schema = record { name = name; schema = schema; next = 1; indexed = []; treed = [] }

-- when so many rows more got an id
abbrev pub with_ids : ℕ → Sketch → Sketch
with_ids count s = record { name = s.name; schema = s.schema; next = s.next + count; indexed = s.indexed; treed = s.treed }

-- when the column of this name got an index
abbrev pub with_indexed : List ℕ → Sketch → Sketch
with_indexed name s = at_place (column_named s.schema name) where
  at_place : Option ℕ → Sketch
  at_place None = s
  at_place (Some at) = record { name = s.name; schema = s.schema; next = s.next; indexed = s.indexed ++ at ∷ []; treed = s.treed }

-- when the column of this name got an R-tree
abbrev pub with_treed : List ℕ → Sketch → Sketch
with_treed name s = at_place (column_named s.schema name) where
  at_place : Option ℕ → Sketch
  at_place None = s
  at_place (Some at) = record { name = s.name; schema = s.schema; next = s.next; indexed = s.indexed; treed = s.treed ++ at ∷ [] }

-- the sketches with that of the relation of this name changed, and the others as they were
abbrev pub sketched_at : List ℕ → (Sketch → Sketch) → List Sketch → List Sketch
sketched_at name change [] = []
sketched_at name change (s ∷ rest) = cond (same_name s.name name) (change s ∷ rest) (s ∷ sketched_at name change rest)
