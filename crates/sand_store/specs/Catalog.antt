-- A catalog as contracts see it: of each relation its name, its columns, the next id, the numbers under which its rows and indexes stand in pages, and what is known of where its rows lie.
use Rattle.std.specs.Prelude.{◌≡◌, ℕ, ◌+◌, ◌≤◌, Bool, true, false, List, [], length, map, All, Some}
use Rattle.page_pool.specs.Pool.{PoolState}
use Rattle.sand_base.specs.declared.kind.Kind.{Kind}
use Rattle.sand_base.specs.declared.limits.Limits.{Limits}
use Rattle.sand_base.specs.InRange.{IsSchemaInRange}
use Rattle.sand_base.specs.Shape.{is_spatial}
use Rattle.sand_model.specs.Database.{element, same_name}
use Rattle.sand_model.specs.Kept.{has_twice, has_number_twice, most_relations}
use Rattle.r_tree.specs.declared.tree.RTree.{RTree}
use Rattle.tuple_file.specs.declared.file.TupleFile.{TupleFile}
use Rattle.sand_store.specs.declared.path.AccessPath.{AccessPath}
use Rattle.sand_store.specs.declared.path.AccessPath.TheVariants.{Quadtree, Attribute}

-- a relation: each access path and each R-tree has the place of its column, and they stand in the order in which they were made
pub record RelationView : Type 0 where
  pub name : List ℕ
  pub schema : List (List ℕ × Kind)
  pub next : ℕ
  pub file : TupleFile
  pub spans : List ℕ
  pub paths : List (ℕ × AccessPath)
  pub trees : List (ℕ × RTree)

-- the relations, the oldest first, and the limits within which they grow
pub record CatalogView : Type 0 where
  pub relations : List RelationView
  pub limits : Limits

-- a store: its catalog, and the pool in whose pages all of it stands
pub record StoreState : Type 0 where
  pub catalog : CatalogView
  pub pool : PoolState

-- the most ids that a relation may be allowed to give out, and the most listings that a quadtree may be allowed

-- the most ids that a relation may be allowed to give out
abbrev pub most_ids : ℕ
most_ids = 1000000

-- the most listings that a quadtree may be allowed
abbrev pub most_listings : ℕ
most_listings = 16000000

-- limits from 1 on
pub record IsLimits (limits : Limits) : Type 0 where
  pub some_ids : 1 ≤ limits.ids
  pub few_ids : limits.ids ≤ most_ids
  pub some_listings : 1 ≤ limits.listings
  pub few_listings : limits.listings ≤ most_listings

-- a column of a kind that is asked stands at the place
abbrev pub IsColumnAt : List (List ℕ × Kind) → ℕ → Bool → Type 0
IsColumnAt schema at spatial = (name : List ℕ) × (kind : Kind) × (element schema at ≡ Some (name, kind)) × (is_spatial kind ≡ spatial)

-- an access path of a column of its kind
abbrev pub IsPathOf : List (List ℕ × Kind) → ℕ × AccessPath → Type 0
IsPathOf schema (column, Quadtree tree) = IsColumnAt schema column true
IsPathOf schema (column, Attribute index) = IsColumnAt schema column false

-- What holds of a relation over any pages: columns with names of their own, ids within the limit, at most one access path and one R-tree a column.
pub record IsDescribed (limits : Limits) (r : RelationView) : Type 0 where
  pub schema : IsSchemaInRange r.schema
  pub columns : has_twice (map (λ column. column.0) r.schema) ≡ false
  pub begun : 1 ≤ r.next
  pub few : r.next ≤ limits.ids + 1
  pub indexed : has_number_twice (map (λ path. path.0) r.paths) ≡ false
  pub paths : All (IsPathOf r.schema) r.paths
  pub bounded : has_number_twice (map (λ tree. tree.0) r.trees) ≡ false
  pub trees : All (λ column. IsColumnAt r.schema column true) (map (λ tree. tree.0) r.trees)

-- What holds of a catalog over any pages: relations with names of their own, at most 64.
pub record IsCatalog (catalog : CatalogView) : Type 0 where
  pub limits : IsLimits catalog.limits
  pub names : has_twice (map (λ r. r.name) catalog.relations) ≡ false
  pub few : length catalog.relations ≤ most_relations
  pub relations : All (IsDescribed catalog.limits) catalog.relations

-- a relation whose file was just planted
abbrev pub new_view : List ℕ → List (List ℕ × Kind) → TupleFile → RelationView
new_view name schema file = record { name = name; schema = schema; next = 1; file = file; spans = []; paths = []; trees = [] }

-- a catalog without relations
abbrev pub new_catalog : Limits → CatalogView
new_catalog limits = record { relations = []; limits = limits }

-- the relation has the name
abbrev pub is_named : List ℕ → RelationView → Bool
is_named name r = same_name r.name name
