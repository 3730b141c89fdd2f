-- A new index before any row, and with all rows of a relation.
use Rattle.std.proofs.Common.{◌≡◌, ℕ, ◌<◌, ◌≤◌, Bool, true, List, [], Option, Some, None, refl, sym, ◌∙◌, ap, subst, arith, All}
use Rattle.std.proofs.lemmas.List.Elements.{All-weaker}
use Rattle.code_btree.specs.Tree.{times, live}
use Rattle.page_pool.specs.Disk.{PageMap}
use Rattle.pmr_tree.specs.Quadtree.{store_of}
use Rattle.pmr_tree.proofs.OwnPages.{keeps_then}
use Rattle.sand_base.specs.declared.kind.Kind.{Kind}
use Rattle.sand_base.specs.declared.limits.Limits.{Limits}
use Rattle.sand_base.specs.declared.value.Value.{Value}
use Rattle.sand_model.specs.Database.{Index, new_index}
use Rattle.sand_model.specs.Measure.{Measure}
use Rattle.sand_model.specs.StatementChecks.{is_overfull, is_there}
use Rattle.tuple_file.specs.File.{file_pages}
use Rattle.tuple_file.proofs.Houses as houses
use Rattle.sand_store.specs.declared.path.AccessPath.{AccessPath}
use Rattle.sand_store.specs.declared.path.AccessPath.TheVariants.{Quadtree, Attribute}
use Rattle.sand_store.specs.Building.{IsOfKind, empty_index, index_after, PlantsPath, CanFill, Fills, Builds}
use Rattle.sand_store.specs.Catalog.{RelationView, IsColumnAt, IsPathOf}
use Rattle.sand_store.specs.Contents.{rows_at, rows_in, index_in}
use Rattle.sand_store.specs.Ownership.{path_pages}
use Rattle.sand_store.specs.Standing.{PathStands, RelationStands}
use Rattle.sand_store.specs.TableLaws.{SameOn, rows_same, table_same}
use Rattle.sand_store.proofs.Frames.{untouched}
use Rattle.sand_store.proofs.RowLists.{Rows}

-- it is of the column's kind
of_kind : (schema : List (List ℕ × Kind)) (column : ℕ) (threshold : Option ℕ) (a : AccessPath) → IsColumnAt schema column (is_there threshold) → IsOfKind threshold a → IsPathOf schema (column, a)
of_kind schema column threshold (Quadtree t) at is = (let P : Bool → Type 0 = λ b. IsColumnAt schema column b in subst P is at)
of_kind schema column threshold (Attribute x) at is = (let P : Bool → Type 0 = λ b. IsColumnAt schema column b in subst P is at)

-- the file stays while it is planted
file_stays : (m w : PageMap) (limits : Limits) (r : RelationView) (threshold : Option ℕ) (a : AccessPath) → RelationStands m limits r → PlantsPath m w threshold a
    → SameOn m w (file_pages (store_of m) r.file)
file_stays m w limits r threshold a h p =
    untouched (store_of m) (store_of w) [] (path_pages w a) (file_pages (store_of m) r.file) p.keeps
    (λ q. (let o : times q (file_pages (store_of m) r.file) ≤ live (store_of m) q = h.table.file.owns q in omega (arith, o)))

-- so it can take all rows
pub can_fill : (m w : PageMap) (limits : Limits) (r : RelationView) (column : ℕ) (threshold : Option ℕ) (a : AccessPath) → 1 ≤ limits.listings → RelationStands m limits r → PlantsPath m w threshold a
    → CanFill w limits r.schema r.file (column, a)
can_fill m w limits r column threshold a some h p =
    let same : SameOn m w (file_pages (store_of m) r.file) = file_stays m w limits r threshold a h p in
    let rows : rows_at w r.schema r.file ≡ rows_in m r = rows_same m w r.schema r.file same in
    let pages : file_pages (store_of w) r.file ≡ file_pages (store_of m) r.file = (houses.unmoved (store_of m) (store_of w) r.file same).pages in
    let P : Rows → Type 0 = λ xs. All (λ (x : ℕ × List Value). 1 ≤ x.0) xs in
    record {
      table = table_same m w r.schema r.file same h.table;
      given_out = subst P (sym rows) (All-weaker (λ (x : ℕ × List Value). (1 ≤ x.0) × (x.0 < r.next)) (λ (x : ℕ × List Value). 1 ≤ x.0) (λ x b. b.0) (rows_in m r) h.given_out);
      stands = p.stands limits r.schema column some;
      apart = λ q.
          let o : times q (file_pages (store_of m) r.file) ≤ live (store_of m) q = h.table.file.owns q in
          omega (arith, o, p.keeps.moved q, ap (λ (ps : List ℕ). times q ps) pages);
    }

-- an index of all rows is the column's new index
after_all : (gap : Measure) (rows : Rows) (column : ℕ) (threshold : Option ℕ) → index_after gap rows column rows (empty_index threshold) ≡ new_index gap rows column threshold
after_all gap rows column (Some threshold) = refl
after_all gap rows column None = refl

pub new_after : (gap : Measure) (m w : PageMap) (limits : Limits) (r : RelationView) (column : ℕ) (threshold : Option ℕ) (a : AccessPath) → RelationStands m limits r → PlantsPath m w threshold a
    → index_after gap (rows_at w r.schema r.file) column (rows_at w r.schema r.file) (index_in w a) ≡ new_index gap (rows_in m r) column threshold
new_after gap m w limits r column threshold a h p =
    let rows : rows_at w r.schema r.file ≡ rows_in m r = rows_same m w r.schema r.file (file_stays m w limits r threshold a h p) in
    ap (λ (xs : Rows). index_after gap xs column xs (index_in w a)) rows
    ∙ (ap (λ (i : Index). index_after gap (rows_in m r) column (rows_in m r) i) p.means ∙ after_all gap (rows_in m r) column threshold)

-- the new index, with all rows
pub built_is : (m w v : PageMap) (limits : Limits) (r : RelationView) (column : ℕ) (threshold : Option ℕ) (a b : AccessPath) → RelationStands m limits r → PlantsPath m w threshold a
    → Fills w v limits r.schema (rows_at w r.schema r.file) column a b → Builds m v limits r.schema (rows_in m r) column threshold b
built_is m w v limits r column threshold a b h p f =
    let rows : rows_at w r.schema r.file ≡ rows_in m r = rows_same m w r.schema r.file (file_stays m w limits r threshold a h p) in
    let S : Rows → Type 0 = λ xs. PathStands v limits r.schema xs (column, b) in
    record {
      stands = subst S rows f.stands;
      means = λ gap is. f.means gap is ∙ new_after gap m w limits r column threshold a h p;
      keeps = keeps_then (store_of m) (store_of w) (store_of v) [] (path_pages w a) (path_pages v b) p.keeps f.keeps;
    }

-- The same of a relation x that is r, as code sees its parts.

pub asks_fill : (m w : PageMap) (limits : Limits) (x r : RelationView) (column : ℕ) (threshold : Option ℕ) (a : AccessPath) → x ≡ r → 1 ≤ limits.listings
    → RelationStands m limits r → PlantsPath m w threshold a
    → CanFill w limits x.schema x.file (column, a)
asks_fill m w limits x r column threshold a e some h p =
    let H : RelationView → Type 0 = λ y. RelationStands m limits y in
    can_fill m w limits x column threshold a some (subst H (sym e) h) p

pub got_built : (m w v : PageMap) (limits : Limits) (x r : RelationView) (column : ℕ) (threshold : Option ℕ) (a b : AccessPath) → x ≡ r → RelationStands m limits r → PlantsPath m w threshold a
    → Fills w v limits x.schema (rows_at w x.schema x.file) column a b → Builds m v limits r.schema (rows_in m r) column threshold b
got_built m w v limits x r column threshold a b e h p f =
    let H : RelationView → Type 0 = λ y. RelationStands m limits y in
    let B : RelationView → Type 0 = λ y. Builds m v limits y.schema (rows_in m y) column threshold b in
    subst B e (built_is m w v limits x column threshold a b (subst H (sym e) h) p f)

pub built_full : (gap : Measure) (m w : PageMap) (limits : Limits) (x r : RelationView) (column : ℕ) (threshold : Option ℕ) (a : AccessPath) → x ≡ r
    → RelationStands m limits r → PlantsPath m w threshold a
    → is_overfull limits (column, index_after gap (rows_at w x.schema x.file) column (rows_at w x.schema x.file) (index_in w a)) ≡ true
    → is_overfull limits (column, new_index gap (rows_in m r) column threshold) ≡ true
built_full gap m w limits x r column threshold a e h p full =
    let H : RelationView → Type 0 = λ y. RelationStands m limits y in
    let B : RelationView → Type 0 = λ y. is_overfull limits (column, new_index gap (rows_in m y) column threshold) ≡ true in
    subst B e (ap (λ (i : Index). is_overfull limits (column, i)) (sym (new_after gap m w limits x column threshold a (subst H (sym e) h) p)) ∙ full)

pub built_of : (x r : RelationView) (column : ℕ) (threshold : Option ℕ) (a b : AccessPath) → x ≡ r → IsColumnAt r.schema column (is_there threshold) → IsOfKind threshold a
    → (IsPathOf x.schema (column, a) → IsPathOf x.schema (column, b)) → IsPathOf r.schema (column, b)
built_of x r column threshold a b e at kind f =
    let P : RelationView → Type 0 = λ y. IsPathOf y.schema (column, a) → IsPathOf y.schema (column, b) in
    subst P e f (of_kind r.schema column threshold a at kind)
