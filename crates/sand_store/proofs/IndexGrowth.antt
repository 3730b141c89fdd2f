-- An attribute index grows by the last row of a file.
use Rattle.std.proofs.Common.{◌≡◌, ℕ, zero, suc, ◌+◌, ◌*◌, ◌^◌, ◌<◌, ◌≤◌, false, List, [], ◌∷◌, ◌++◌, map, refl, sym, ◌∙◌, ap, Option, Some, None, arith, inl, inr, All, nat_lt, true≢false}
use Rattle.std.specs.List.{filter}
use Rattle.std.specs.Option.{option_map}
use Rattle.std.proofs.lemmas.Bool.Decides.{leb_tells}
use Rattle.std.proofs.lemmas.List.{map-append}
use Rattle.std.proofs.lemmas.List.Elements.{All-head, All-tail}
use Rattle.page_pool.specs.Disk.{PageMap}
use Rattle.code_btree.specs.Items.{Each}
use Rattle.code_btree.specs.Tree.{same, times}
use Rattle.code_btree.proofs.Lists.{same_cases, times-append}
use Rattle.code_btree.proofs.Orders.{lt_is, lt_not}
use Rattle.pmr_tree.specs.Quadtree.{store_of}
use Rattle.attr_index.specs.declared.index.AttrIndex.{AttrIndex}
use Rattle.attr_index.specs.Calls.{EntryAdded}
use Rattle.attr_index.specs.Entries.{Entry, entry_number, with_entry}
use Rattle.attr_index.specs.Index.{index_entries}
use Rattle.attr_index.specs.Key.{value_key, IsAttribute}
use Rattle.sand_base.specs.declared.kind.Kind.{Kind}
use Rattle.sand_base.specs.declared.kind.Kind.TheVariants as kind
use Rattle.sand_base.specs.declared.limits.Limits.{Limits}
use Rattle.sand_base.specs.declared.shape.Shape.TheVariants as shape
use Rattle.sand_base.specs.declared.value.Value.{Value}
use Rattle.sand_base.specs.declared.value.Value.TheVariants as value
use Rattle.sand_base.specs.InRange.{IsRowOf}
use Rattle.sand_base.specs.Shape.{value_kind, is_spatial}
use Rattle.sand_model.specs.Database.{element}
use Rattle.tuple_file.specs.declared.file.TupleFile.{TupleFile}
use Rattle.sand_store.specs.declared.path.AccessPath.TheVariants.{Attribute}
use Rattle.sand_store.specs.Catalog.{IsColumnAt}
use Rattle.sand_store.specs.Contents.{rows_at}
use Rattle.sand_store.specs.Standing.{column_entries, kind_at}
use Rattle.sand_store.specs.Steps.{CanGrow, PathGrew}
use Rattle.sand_store.proofs.ColumnsOfShapes.{some_same}
use Rattle.sand_store.proofs.RowLists.{Rows}

-- the numbers of entries
abbrev pub numbers : List Entry → List ℕ
numbers es = map entry_number es

-- the entries of rows with one more
pub entries_more : (column : ℕ) (rows : Rows) (id : ℕ) (row : List Value) (v : Value) → element row column ≡ Some v
    → column_entries column (rows ++ (id, row) ∷ []) ≡ column_entries column rows ++ (value_key v, id) ∷ []
entries_more column [] id row v e = rw e refl
entries_more column (r ∷ rows) id row v e =
    let rest : column_entries column (rows ++ (id, row) ∷ []) ≡ column_entries column rows ++ (value_key v, id) ∷ [] = entries_more column rows id row v e in
    let go : (o : Option Value) → element r.1 column ≡ o → column_entries column ((r ∷ rows) ++ (id, row) ∷ []) ≡ column_entries column (r ∷ rows) ++ (value_key v, id) ∷ [] =
    elim [ None ↦ λ n. rw n rest | Some x ↦ λ n. rw n (ap (λ (es : List Entry). (value_key x, r.0) ∷ es) rest) ] in
    go (element r.1 column) refl

-- their ids are ids of rows
pub entries_below : (column id : ℕ) (rows : Rows) → All (λ r. (1 ≤ r.0) × (r.0 < id)) rows → Each (λ (e : Entry). e.1 < id) (column_entries column rows)
entries_below column id [] h = tt
entries_below column id (r ∷ rows) h =
    let rest : Each (λ (e : Entry). e.1 < id) (column_entries column rows) = entries_below column id rows (All-tail (λ (x : ℕ × List Value). (1 ≤ x.0) × (x.0 < id)) r rows h) in
    let here : (1 ≤ r.0) × (r.0 < id) = All-head (λ (x : ℕ × List Value). (1 ≤ x.0) × (x.0 < id)) r rows h in
    let go : (o : Option Value) → element r.1 column ≡ o → Each (λ (e : Entry). e.1 < id) (column_entries column (r ∷ rows)) =
    elim [ None ↦ λ n. rw n rest | Some x ↦ λ n. rw n (here.1, rest) ] in
    go (element r.1 column) refl

-- so the entry of a greater id is none of them
pub entry_fresh : (k id : ℕ) (es : List Entry) → id < 2 ^ 32 → Each (λ (e : Entry). e.1 < id) es → times (entry_number (k, id)) (numbers es) ≡ 0
entry_fresh k id [] l h = refl
entry_fresh k id (e ∷ es) l h = elim (same_cases (entry_number (k, id)) (entry_number e)) [
  | inl x ↦ absurd (let c : k * 2 ^ 32 + id ≡ e.0 * 2 ^ 32 + e.1 = x.1 in omega (arith, c, l, h.0))
  | inr x ↦ omega (arith, x.0, entry_fresh k id es l h.1)
]

-- the entries below and above one that isn't there are all
entry_parts : (x n : ℕ) (es : List Entry) → times x (numbers es) ≡ 0
    → times n (numbers (filter (λ d. nat_lt (entry_number d) x) es)) + times n (numbers (filter (λ d. nat_lt x (entry_number d)) es)) ≡ times n (numbers es)
entry_parts x n [] h = omega arith
entry_parts x n (d ∷ es) h =
    let rest : times x (numbers es) ≡ 0 = omega (arith, h) in
    elim (leb_tells (suc (entry_number d)) x) [
      | inl y ↦ rw (lt_is (entry_number d) x y.1, lt_not x (entry_number d) (omega (arith, y.1))) (omega (arith, entry_parts x n es rest))
      | inr y ↦ elim (same_cases x (entry_number d)) [
        | inl z ↦ absurd (omega (arith, h, z.0))
        | inr z ↦
            let above : x < entry_number d = omega (arith, y.1, z.1) in
            rw (lt_not (entry_number d) x (omega (arith, above)), lt_is x (entry_number d) above) (omega (arith, entry_parts x n es rest))
      ]
    ]

-- an entry that is put in stands there once more
pub times_with : (e : Entry) (es : List Entry) (n : ℕ) → times (entry_number e) (numbers es) ≡ 0 → times n (numbers (with_entry e es)) ≡ same n (entry_number e) + times n (numbers es)
times_with e es n h =
    let low : List Entry = filter (λ d. nat_lt (entry_number d) (entry_number e)) es in
    let high : List Entry = filter (λ d. nat_lt (entry_number e) (entry_number d)) es in
    omega (arith, ap (λ (ns : List ℕ). times n ns) (map-append entry_number low (e ∷ high)), times-append n (numbers low) (numbers (e ∷ high)), entry_parts (entry_number e) n es h)

pub times_last : (e : Entry) (es : List Entry) (n : ℕ) → times n (numbers (es ++ e ∷ [])) ≡ times n (numbers es) + same n (entry_number e)
times_last e es n = omega (arith, ap (λ (ns : List ℕ). times n ns) (map-append entry_number es (e ∷ [])), times-append n (numbers es) (numbers (e ∷ [])))

-- the value of a row in a column is of the column's kind
element_map : {A B : Type 0} (f : A → B) (xs : List A) (at : ℕ) → element (map f xs) at ≡ option_map f (element xs at)
element_map f [] at = refl
element_map f (x ∷ xs) zero = refl
element_map f (x ∷ xs) (suc at) = element_map f xs at

pub kind_of_value : (schema : List (List ℕ × Kind)) (row : List Value) (column : ℕ) (v : Value) (k : Kind) → IsRowOf schema row → element row column ≡ Some v
    → kind_at schema column ≡ Some k → value_kind v ≡ k
kind_of_value schema row column v k of e is =
    some_same (value_kind v) k (sym (ap (λ (o : Option Value). option_map value_kind o) e) ∙ (sym (element_map value_kind row column)
    ∙ (ap (λ (ks : List Kind). element ks column) of ∙ (element_map (λ (c : List ℕ × Kind). c.1) schema column ∙ is))))

-- a value that is no shape can be indexed
attribute_of : (v : Value) → is_spatial (value_kind v) ≡ false → IsAttribute v
attribute_of (value.Int n) h = tt
attribute_of (value.Text bytes) h = tt
attribute_of (value.Shape (shape.Point p)) h = absurd (true≢false h)
attribute_of (value.Shape (shape.Segment s)) h = absurd (true≢false h)
attribute_of (value.Shape (shape.Polygon corners)) h = absurd (true≢false h)

pub attribute_at : (schema : List (List ℕ × Kind)) (row : List Value) (column : ℕ) (v : Value) → IsRowOf schema row → element row column ≡ Some v
    → IsColumnAt schema column false → IsAttribute v
attribute_at schema row column v of e at =
    let k : kind_at schema column ≡ Some at.1 = ap (λ (o : Option (List ℕ × Kind)). option_map (λ (c : List ℕ × Kind). c.1) o) at.2 in
    attribute_of v (ap is_spatial (kind_of_value schema row column v at.1 of e k) ∙ at.3)

-- An attribute index has grown.
pub index_grew : (m w : PageMap) (limits : Limits) (schema : List (List ℕ × Kind)) (file : TupleFile) (id column : ℕ) (row : List Value) (x y : AttrIndex) (v : Value)
    → id < 2 ^ 32 → IsRowOf schema row → CanGrow m limits schema file id row (column, Attribute x) → element row column ≡ Some v
    → EntryAdded (store_of m) (store_of w) x y v id → PathGrew m w limits schema (rows_at m schema file) id column (Attribute x) (Attribute y)
index_grew m w limits schema file id column row x y v l of h e a =
    let e0 : Entry = (value_key v, id) in
    let old : List Entry = column_entries column h.before in
    let es : List Entry = index_entries (store_of m) x in
    let new : column_entries column (rows_at m schema file) ≡ old ++ e0 ∷ [] = ap (λ (rows : Rows). column_entries column rows) h.rows ∙ entries_more column h.before id row v e in
    let fresh : times (entry_number e0) (numbers es) ≡ 0 = h.stands.entries (entry_number e0) ∙ entry_fresh (value_key v) id old l (entries_below column id h.before h.below) in
    record {
      stands = record {
        is = a.index;
        ints = λ k. a.ints (kind_of_value schema row column v kind.Int of e k) (h.stands.ints k);
        entries = λ n.
            let had : times n (numbers es) ≡ times n (numbers old) = h.stands.entries n in
            omega (arith, ap (λ (xs : List Entry). times n (numbers xs)) a.entries, times_with e0 es n fresh, had, ap (λ (xs : List Entry). times n (numbers xs)) new, times_last e0 old n);
      };
      means = λ gap is. refl;
      keeps = a.keeps;
    }
