-- An attribute index takes the row of an id of a file, after those of lesser ids.
use Rattle.std.proofs.Common.{◌≡◌, ℕ, ◌^◌, ◌<◌, List, [], ◌∷◌, ◌++◌, refl, ◌∙◌, ap, Some, subst, arith, All}
use Rattle.page_pool.specs.Disk.{PageMap}
use Rattle.code_btree.specs.Tree.{times}
use Rattle.pmr_tree.specs.Quadtree.{store_of}
use Rattle.attr_index.specs.declared.index.AttrIndex.{AttrIndex}
use Rattle.attr_index.specs.Calls.{EntryAdded}
use Rattle.attr_index.specs.Entries.{Entry, entry_number}
use Rattle.attr_index.specs.Index.{index_entries}
use Rattle.attr_index.specs.Key.{value_key}
use Rattle.sand_base.specs.declared.kind.Kind.{Kind}
use Rattle.sand_base.specs.declared.kind.Kind.TheVariants as kind
use Rattle.sand_base.specs.declared.limits.Limits.{Limits}
use Rattle.sand_base.specs.declared.value.Value.{Value}
use Rattle.sand_base.specs.InRange.{IsRowOf}
use Rattle.sand_model.specs.Database.{element}
use Rattle.tuple_codec.specs.Decoding.{IsRowFor}
use Rattle.tuple_file.specs.declared.file.TupleFile.{TupleFile}
use Rattle.std.proofs.lemmas.List.Elements.{All-head, All-tail}
use Rattle.sand_store.specs.declared.path.AccessPath.{AccessPath}
use Rattle.sand_store.specs.declared.path.AccessPath.TheVariants.{Attribute}
use Rattle.sand_store.specs.Building.{CanTake, PathTook}
use Rattle.sand_store.specs.Contents.{rows_at}
use Rattle.sand_store.specs.Standing.{column_entries}
use Rattle.sand_store.proofs.IndexGrowth.{numbers, entries_more, entries_below, entry_fresh, times_with, times_last, kind_of_value}
use Rattle.sand_store.proofs.RowLists.{Rows}

-- a row among others
pub row_among : (P : ℕ × List Value → Type 0) (before rest : Rows) (r : ℕ × List Value) → All P (before ++ r ∷ rest) → P r
row_among P [] rest r h = All-head P r rest h
row_among P (x ∷ before) rest r h = row_among P before rest r (All-tail P x (before ++ r ∷ rest) h)

pub row_is_for : (m : PageMap) (limits : Limits) (schema : List (List ℕ × Kind)) (file : TupleFile) (id : ℕ) (row : List Value) (p : ℕ × AccessPath)
    → CanTake m limits schema file id row p → IsRowFor schema row
row_is_for m limits schema file id row p h =
    let P : ℕ × List Value → Type 0 = λ r. IsRowFor schema r.1 in
    let Q : Rows → Type 0 = λ rows. All P rows in
    row_among P h.before h.rest (id, row) (subst Q h.rows h.table.rows)

-- An attribute index has taken the row.
pub index_took : (m w : PageMap) (limits : Limits) (schema : List (List ℕ × Kind)) (file : TupleFile) (id column : ℕ) (row : List Value) (x y : AttrIndex) (v : Value)
    → id < 2 ^ 32 → (h : CanTake m limits schema file id row (column, Attribute x)) → element row column ≡ Some v
    → EntryAdded (store_of m) (store_of w) x y v id → PathTook m w limits schema (rows_at m schema file) h.before id row column (Attribute x) (Attribute y)
index_took m w limits schema file id column row x y v l h e a =
    let e0 : Entry = (value_key v, id) in
    let old : List Entry = column_entries column h.before in
    let es : List Entry = index_entries (store_of m) x in
    let new : column_entries column (h.before ++ (id, row) ∷ []) ≡ old ++ e0 ∷ [] = entries_more column h.before id row v e in
    let fresh : times (entry_number e0) (numbers es) ≡ 0 = h.stands.entries (entry_number e0) ∙ entry_fresh (value_key v) id old l (entries_below column id h.before h.below) in
    let of : IsRowOf schema row = (row_is_for m limits schema file id row (column, Attribute x) h).of_schema in
    record {
      stands = record {
        is = a.index;
        ints = λ k. a.ints (kind_of_value schema row column v kind.Int of e k) (h.stands.ints k);
        entries = λ n.
            let had : times n (numbers es) ≡ times n (numbers old) = h.stands.entries n in
            omega (arith, ap (λ (xs : List Entry). times n (numbers xs)) a.entries, times_with e0 es n fresh, had, ap (λ (xs : List Entry). times n (numbers xs)) new, times_last e0 old n);
      };
      means = λ gap is more. refl;
      keeps = a.keeps;
    }
