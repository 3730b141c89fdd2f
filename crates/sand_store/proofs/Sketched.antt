-- What the changes of a relation are to its sketch, and a change in its place to the sketches of all.
use Rattle.std.proofs.Common.{◌≡◌, ℕ, zero, suc, ◌+◌, ◌<◌, List, [], ◌∷◌, ◌++◌, length, map, get_or, set, Some, sym, ◌∙◌, ap, ap₂, subst, arith}
use Rattle.std.proofs.lemmas.List.{map-append}
use Rattle.sand_base.specs.declared.kind.Kind.{Kind}
use Rattle.sand_base.specs.declared.limits.Limits.{Limits}
use Rattle.sand_model.specs.Database.{column_named}
use Rattle.r_tree.specs.declared.tree.RTree.{RTree}
use Rattle.tuple_file.specs.declared.file.TupleFile.{TupleFile}
use Rattle.sand_store.specs.declared.path.AccessPath.{AccessPath}
use Rattle.sand_store.specs.Building.{HasPath}
use Rattle.sand_store.specs.Catalog.{RelationView, new_view}
use Rattle.sand_store.specs.Leaving.{shrunk_view}
use Rattle.sand_store.specs.Loads.{CountsRows}
use Rattle.sand_store.specs.Sketches.{Sketch, sketch_of, new_sketch, with_ids, with_indexed, sketched_at}
use Rattle.sand_store.specs.Steps.{FirstAt, SamePlaces, SameColumns, grown_view}

-- a relation behind the others
pub sketched_more : (rs us : List RelationView) (name : List ℕ) (schema : List (List ℕ × Kind)) (file : TupleFile) → us ≡ rs ++ new_view name schema file ∷ []
    → map sketch_of us ≡ map sketch_of rs ++ new_sketch name schema ∷ []
sketched_more rs us name schema file is = ap (λ (xs : List RelationView). map sketch_of xs) is ∙ map-append sketch_of rs (new_view name schema file ∷ [])

-- a change of one in its place
sketched_set : (name : List ℕ) (rs : List RelationView) (at : ℕ) (r u : RelationView) (change : Sketch → Sketch) → FirstAt name rs at → r ≡ get_or rs at r
    → sketch_of u ≡ change (sketch_of r) → map sketch_of (set rs at u) ≡ sketched_at name change (map sketch_of rs)
sketched_set name [] at r u change first here changed = absurd first
sketched_set name (x ∷ rs) zero r u change first here changed =
    rw first (ap (λ (s : Sketch). s ∷ map sketch_of rs) (changed ∙ ap (λ (y : RelationView). change (sketch_of y)) here))
sketched_set name (x ∷ rs) (suc at) r u change first here changed =
    rw first.0 (ap (λ (rest : List Sketch). sketch_of x ∷ rest) (sketched_set name rs at r u change first.1 here changed))

pub sketched_in_place : (name : List ℕ) (rs us : List RelationView) (at : ℕ) (r u : RelationView) (change : Sketch → Sketch) → FirstAt name rs at → r ≡ get_or rs at r
    → us ≡ set rs at u → sketch_of u ≡ change (sketch_of r) → map sketch_of us ≡ sketched_at name change (map sketch_of rs)
sketched_in_place name rs us at r u change first here is changed =
    ap (λ (xs : List RelationView). map sketch_of xs) is ∙ sketched_set name rs at r u change first here changed

-- one that keeps its sketch
kept_set : (rs : List RelationView) (at : ℕ) (r u : RelationView) → at < length rs → r ≡ get_or rs at r → sketch_of u ≡ sketch_of r → map sketch_of (set rs at u) ≡ map sketch_of rs
kept_set [] at r u l here same = absurd (omega arith)
kept_set (x ∷ rs) zero r u l here same = ap (λ (s : Sketch). s ∷ map sketch_of rs) (same ∙ ap sketch_of here)
kept_set (x ∷ rs) (suc at) r u l here same = ap (λ (rest : List Sketch). sketch_of x ∷ rest) (kept_set rs at r u (omega arith) here same)

pub kept_in_place : (rs us : List RelationView) (at : ℕ) (r u : RelationView) → at < length rs → r ≡ get_or rs at r → us ≡ set rs at u → sketch_of u ≡ sketch_of r
    → map sketch_of us ≡ map sketch_of rs
kept_in_place rs us at r u l here is same = ap (λ (xs : List RelationView). map sketch_of xs) is ∙ kept_set rs at r u l here same

-- a row more, and a row less
pub grown_sketch : (r : RelationView) (file : TupleFile) (paths : List (ℕ × AccessPath)) (trees : List (ℕ × RTree)) (spans : List ℕ) → SamePlaces r.schema r.paths paths → SameColumns r.trees trees
    → sketch_of (grown_view r file paths trees spans) ≡ with_ids 1 (sketch_of r)
grown_sketch r file paths trees spans p t = ap₂ (λ (ns ts : List ℕ). record { name = r.name; schema = r.schema; next = r.next + 1; indexed = ns; treed = ts }) p.places t

pub shrunk_sketch : (r : RelationView) (spans : List ℕ) (file : TupleFile) (paths : List (ℕ × AccessPath)) (trees : List (ℕ × RTree)) → SamePlaces r.schema r.paths paths → SameColumns r.trees trees
    → sketch_of (shrunk_view r spans file paths trees) ≡ sketch_of r
shrunk_sketch r spans file paths trees p t = ap₂ (λ (ns ts : List ℕ). record { name = r.name; schema = r.schema; next = r.next; indexed = ns; treed = ts }) p.places t

-- an index more
pub indexed_sketch : (r u : RelationView) (name : List ℕ) (at : ℕ) → column_named r.schema name ≡ Some at → HasPath r u at → sketch_of u ≡ with_indexed name (sketch_of r)
indexed_sketch r u name at place h =
    let P : RelationView → Type 0 = λ y. sketch_of y ≡ with_indexed name (sketch_of r) in
    subst P (sym h.added) (rw place (
    ap (λ (ns : List ℕ). record { name = r.name; schema = r.schema; next = r.next; indexed = ns; treed = map (λ (t : ℕ × RTree). t.0) r.trees })
    (map-append (λ (p : ℕ × AccessPath). p.0) r.paths ((at, h.path) ∷ []))))

-- so many rows more
pub counted_sketch : (limits : Limits) (r u : RelationView) (count : ℕ) → CountsRows limits r u count → sketch_of u ≡ with_ids count (sketch_of r)
counted_sketch limits r u count c =
    ap₂ (λ (name : List ℕ) (schema : List (List ℕ × Kind)).
    record { name = name; schema = schema; next = u.next; indexed = map (λ path. path.0) u.paths; treed = map (λ tree. tree.0) u.trees }) c.name c.schema
    ∙ (ap₂ (λ (next : ℕ) (places : List ℕ). record { name = r.name; schema = r.schema; next = next; indexed = places; treed = map (λ tree. tree.0) u.trees }) c.next c.places
    ∙ ap (λ (ts : List ℕ). record { name = r.name; schema = r.schema; next = r.next + count; indexed = map (λ path. path.0) r.paths; treed = ts }) c.columns)
