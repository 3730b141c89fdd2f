-- A new relation over a file that was just planted.
use Rattle.std.proofs.Common.{◌≡◌, ℕ, ◌+◌, ◌<◌, ◌≤◌, true, false, List, [], ◌∷◌, ◌++◌, length, map, None, refl, sym, ◌∙◌, ap, ap₂, subst, arith, All}
use Rattle.std.proofs.lemmas.List.{map-append, length-append}
use Rattle.std.proofs.lemmas.List.Concat.{flat_map-append}
use Rattle.std.proofs.lemmas.List.Elements.{All-nil, All-push}
use Rattle.page_pool.specs.Disk.{PageMap}
use Rattle.page_pool.specs.Pool.{PoolState, IsTold, IsClosed}
use Rattle.sand_base.specs.InRange.{IsSchemaInRange}
use Rattle.code_btree.specs.Tree.{times, live, pages_in}
use Rattle.code_btree.specs.Calls.{Keeps}
use Rattle.code_btree.proofs.Lists.{times-append}
use Rattle.pmr_tree.specs.Quadtree.{store_of}
use Rattle.tuple_file.specs.declared.file.TupleFile.{TupleFile}
use Rattle.tuple_file.specs.File.{IsFile, tuples_of, file_pages}
use Rattle.tuple_file.specs.Calls.{FilePlanted}
use Rattle.tuple_file.specs.Table.{encodings, AreRowsFor}
use Rattle.tuple_codec.specs.Decoding.{IsRowFor}
use Rattle.sand_base.specs.declared.kind.Kind.{Kind}
use Rattle.sand_base.specs.declared.limits.Limits.{Limits}
use Rattle.sand_base.specs.declared.value.Value.{Value}
use Rattle.sand_model.specs.Database.{Database, Relation, new_relation, with_relation}
use Rattle.sand_model.specs.Kept.{longest_row, has_twice}
use Rattle.sand_model.specs.RowSize.{row_size}
use Rattle.tuple_file.proofs.Leads.{none_known}
use Rattle.sand_store.specs.Catalog.{RelationView, new_view, IsColumnAt, IsPathOf, IsDescribed, IsCatalog}
use Rattle.sand_store.specs.Contents.{rows_in, relation_in, database_in}
use Rattle.sand_store.specs.Ownership.{relation_pages, catalog_pages, OwnsPages}
use Rattle.sand_store.specs.Standing.{PathStands, TreeStands, RelationStands, CatalogStands, IsStore}
use Rattle.sand_store.specs.Calls.{Created, IsUnchanged}
use Rattle.sand_store.specs.Steps.{store_from, create_check, AddsRelation, Reverts}
use Rattle.sand_store.specs.Tuples.{row_in}
use Rattle.sand_store.proofs.Places.{early_create, twice_none}
use Rattle.sand_store.proofs.Refusals.{IsNew, create_passes}
use Rattle.sand_store.proofs.Frames.{untouched}
use Rattle.sand_store.proofs.Sketched.{sketched_more}
use Rattle.sand_store.specs.TableLaws.{SameOn}
use Rattle.sand_store.proofs.Stays.{database_stays, relations_stand, catalog_pages_stay}

-- what a command began with and ended with are the pages of before and after it
pub planted_over : (old begun planted new : PoolState) (file : TupleFile) → (IsTold old → begun.pages ≡ old.pages) → begun.disk.told ≡ old.disk.told
    → new.pages ≡ planted.pages → (IsTold begun → FilePlanted (pages_in begun) (pages_in planted) file) → IsTold old → FilePlanted (store_of old.pages) (store_of new.pages) file
planted_over old begun planted new file same told pages h is =
    let P : PageMap → Type 0 = λ a. FilePlanted (store_of a) (store_of new.pages) file in
    let Q : PageMap → Type 0 = λ b. FilePlanted (store_of begun.pages) (store_of b) file in
    subst P (same is) (subst Q (sym pages) (h (told ∙ is)))

-- the rows of a file without tuples
rows_none : (w : PageMap) (r : RelationView) → tuples_of (store_of w) r.file ≡ [] → rows_in w r ≡ []
rows_none w r e = ap (λ (ts : List (ℕ × List ℕ)). map (λ t. (t.0, row_in r.schema t.1)) ts) e

-- a relation over a file without tuples stands
pub new_stands : (w : PageMap) (limits : Limits) (name : List ℕ) (schema : List (List ℕ × Kind)) (file : TupleFile) → IsFile (store_of w) file
    → tuples_of (store_of w) file ≡ [] → RelationStands w limits (new_view name schema file)
new_stands w limits name schema file is e =
    let r : RelationView = new_view name schema file in
    let none : rows_in w r ≡ [] = rows_none w r e in
    let Short : List (ℕ × List Value) → Type 0 = λ rows. All (λ row. row_size row.1 ≤ longest_row) rows in
    let Given : List (ℕ × List Value) → Type 0 = λ rows. All (λ row. (1 ≤ row.0) × (row.0 < 1)) rows in
    record {
      table = record {
        file = is;
        tuples = e ∙ ap (λ (rows : List (ℕ × List Value)). encodings rows) (sym none);
        rows = subst (AreRowsFor schema) (sym none) (All-nil (λ (row : ℕ × List Value). IsRowFor schema row.1));
      };
      short = subst Short (sym none) (All-nil (λ (row : ℕ × List Value). row_size row.1 ≤ longest_row));
      given_out = subst Given (sym none) (All-nil (λ (row : ℕ × List Value). (1 ≤ row.0) × (row.0 < 1)));
      known = none_known (store_of w) file;
      paths = All-nil (PathStands w limits schema (rows_in w r));
      trees = All-nil (TreeStands w (rows_in w r));
    }

-- it is the new relation
new_means : (w : PageMap) (name : List ℕ) (schema : List (List ℕ × Kind)) (file : TupleFile) → tuples_of (store_of w) file ≡ []
    → relation_in w (new_view name schema file) ≡ new_relation name schema
new_means w name schema file e =
    ap (λ (rows : List (ℕ × List Value)). record { name = name; schema = schema; rows = rows; next = 1; indexes = []; rectangles = [] }) (rows_none w (new_view name schema file) e)

-- the pages of the catalog with one relation more, counted
pages_more : (w : PageMap) (rs : List RelationView) (r : RelationView) (q : ℕ) → times q (catalog_pages w (rs ++ r ∷ [])) ≡ times q (catalog_pages w rs) + times q (relation_pages w r)
pages_more w rs r q =
    omega (
      arith,
      ap (λ (ps : List ℕ). times q ps) (flat_map-append (relation_pages w) rs (r ∷ [])),
      times-append q (catalog_pages w rs) (catalog_pages w (r ∷ [])),
      times-append q (relation_pages w r) [],
    )

-- the pages of a relation without access paths, counted
pages_new : (w : PageMap) (name : List ℕ) (schema : List (List ℕ × Kind)) (file : TupleFile) (q : ℕ) → times q (relation_pages w (new_view name schema file)) ≡ times q (file_pages (store_of w) file)
pages_new w name schema file q = omega (arith, times-append q (file_pages (store_of w) file) [])

-- the other relations stay
pub others_stay : (m w : PageMap) (rs : List RelationView) (after : List ℕ) → OwnsPages m (catalog_pages m rs) → Keeps (store_of m) (store_of w) [] after → SameOn m w (catalog_pages m rs)
others_stay m w rs after owns k q l =
    untouched (store_of m) (store_of w) [] after (catalog_pages m rs) k (λ p. (let h : times p (catalog_pages m rs) ≤ live (store_of m) p = owns p in omega (arith, h))) q l

-- a catalog with a new relation stands
pub catalog_more : (m w : PageMap) (rs : List RelationView) (limits : Limits) (name : List ℕ) (schema : List (List ℕ × Kind)) (file : TupleFile)
    → CatalogStands m (record { relations = rs; limits = limits }) → FilePlanted (store_of m) (store_of w) file
    → CatalogStands w (record { relations = rs ++ new_view name schema file ∷ []; limits = limits })
catalog_more m w rs limits name schema file h p =
    let same : SameOn m w (catalog_pages m rs) = others_stay m w rs (file_pages (store_of w) file) h.owns p.keeps in
    record {
      relations = All-push (RelationStands w limits) rs (new_view name schema file) (relations_stand m w limits rs same h.relations)
          (new_stands w limits name schema file p.file p.rows);
      owns = λ q.
          let o : times q (catalog_pages m rs) ≤ live (store_of m) q = h.owns q in
          omega (arith, pages_more w rs (new_view name schema file) q, pages_new w name schema file q, ap (λ (ps : List ℕ). times q ps) (catalog_pages_stay m w rs same), o, p.keeps.moved q);
    }

-- and its database has the new relation
pub database_more : (m w : PageMap) (rs : List RelationView) (limits : Limits) (name : List ℕ) (schema : List (List ℕ × Kind)) (file : TupleFile)
    → CatalogStands m (record { relations = rs; limits = limits }) → FilePlanted (store_of m) (store_of w) file
    → database_in w (rs ++ new_view name schema file ∷ []) ≡ with_relation (new_relation name schema) (database_in m rs)
database_more m w rs limits name schema file h p =
    map-append (relation_in w) rs (new_view name schema file ∷ [])
    ∙ ap₂ (λ (a : Database) (r : Relation). a ++ r ∷ []) (database_stays m w rs (others_stay m w rs (file_pages (store_of w) file) h.owns p.keeps))
    (new_means w name schema file p.rows)

-- a new relation is described
new_described : (limits : Limits) (name : List ℕ) (schema : List (List ℕ × Kind)) (file : TupleFile) → IsSchemaInRange schema
    → has_twice (map (λ column. column.0) schema) ≡ false → IsDescribed limits (new_view name schema file)
new_described limits name schema file range once = record {
  schema = range;
  columns = once;
  begun = omega arith;
  few = omega arith;
  indexed = refl;
  paths = All-nil (IsPathOf schema);
  bounded = refl;
  trees = All-nil (λ n. IsColumnAt schema n true);
}

-- a catalog with a new relation is one
catalog_is : (rs : List RelationView) (limits : Limits) (name : List ℕ) (schema : List (List ℕ × Kind)) (file : TupleFile) → IsSchemaInRange schema
    → IsNew rs name schema → IsCatalog (record { relations = rs; limits = limits }) → IsCatalog (record { relations = rs ++ new_view name schema file ∷ []; limits = limits })
catalog_is rs limits name schema file range new h = record {
  limits = h.limits;
  names = twice_none rs (new_view name schema file) h.names new.none;
  few = (let n : length (rs ++ new_view name schema file ∷ []) ≡ length rs + 1 = length-append rs (new_view name schema file ∷ []) in omega (arith, n, new.room));
  relations = All-push (IsDescribed limits) rs (new_view name schema file) h.relations (new_described limits name schema file range new.once);
}

-- the store with a new relation is one
pub created_store : (old new : PoolState) (rs us : List RelationView) (limits : Limits) (name : List ℕ) (schema : List (List ℕ × Kind))
    → IsStore (record { relations = rs; limits = limits }) old → IsSchemaInRange schema → create_check rs name schema ≡ None
    → AddsRelation old new rs us name schema → new.disk.told ≡ old.disk.told → IsClosed new → IsStore (record { relations = us; limits = limits }) new
created_store old new rs us limits name schema h range passes a told closed =
    let P : List RelationView → Type 0 = λ xs. IsStore (record { relations = xs; limits = limits }) new in
    subst P (sym a.added) (record {
      closed = closed;
      described = catalog_is rs limits name schema a.file range (create_passes rs name schema passes) h.described;
      stands = λ is. (let t : IsTold old = sym told ∙ is in catalog_more old.pages new.pages rs limits name schema a.file (h.stands t) (a.planted t));
    })

-- what a new relation is to the database
pub created_is : (old new : PoolState) (rs us : List RelationView) (limits : Limits) (name : List ℕ) (schema : List (List ℕ × Kind))
    → IsStore (record { relations = rs; limits = limits }) old → create_check rs name schema ≡ None
    → AddsRelation old new rs us name schema → Created (store_from rs limits old) (store_from us limits new) name schema
created_is old new rs us limits name schema h passes a = record {
  passes = λ setting is l. (early_create setting old.pages rs name schema ∙ passes, λ told. refl);
  sketched = sketched_more rs us name schema a.file a.added;
  becomes = λ told gap is. (
      ap (λ (xs : List RelationView). database_in new.pages xs) a.added
      ∙ database_more old.pages new.pages rs limits name schema a.file (h.stands told) (a.planted told));
}

-- what a refused command leaves
pub reverted_store : (old new : PoolState) (rs us : List RelationView) (limits : Limits) → IsStore (record { relations = rs; limits = limits }) old
    → Reverts old new rs us → new.disk.told ≡ old.disk.told → IsClosed new → IsStore (record { relations = us; limits = limits }) new
reverted_store old new rs us limits h r told closed =
    let P : List RelationView → Type 0 = λ xs. IsStore (record { relations = xs; limits = limits }) new in
    let Q : PageMap → Type 0 = λ m. CatalogStands m (record { relations = rs; limits = limits }) in
    subst P (sym r.relations) (record {
      closed = closed;
      described = h.described;
      stands = λ is. (let t : IsTold old = sym told ∙ is in subst Q (sym (r.pages t)) (h.stands t));
    })

pub reverted_is : (old new : PoolState) (rs us : List RelationView) (limits : Limits) → Reverts old new rs us → new.disk.told ≡ old.disk.told
    → IsUnchanged (store_from rs limits old) (store_from us limits new)
reverted_is old new rs us limits r told = record {
  catalog = ap (λ (xs : List RelationView). record { relations = xs; limits = limits }) r.relations;
  told = told;
  pages = r.pages;
}
