-- A look-up over pages: what is left of the rows with an equal value while entries are passed over.
use Rattle.std.proofs.Common.{◌≡◌, ℕ, ◌^◌, ◌<◌, ◌≤◌, Bool, true, false, cond, List, [], ◌∷◌, map, filter, refl, sym, ◌∙◌, ap, arith, All, true≢false, ℤ, subst}
use Rattle.std.specs.Prelude.{Option, None, Some, option_and_then}
use Rattle.std.proofs.lemmas.List.Elements.{All-head, All-tail}
use Rattle.code_btree.specs.Items.{Each}
use Rattle.code_btree.proofs.Lists.{Each-map}
use Rattle.code_btree.proofs.Orders.{lt_is}
use Rattle.page_pool.specs.Disk.{PageMap}
use Rattle.attr_index.specs.Entries.{equal_id}
use Rattle.attr_index.specs.Index.{index_entries}
use Rattle.attr_index.specs.Key.{value_key, key_bytes, key_number, IsFit}
use Rattle.tuple_codec.specs.Decoding.{IsRowFor}
use Rattle.tuple_file.specs.Rows.{of_id}
use Rattle.pmr_tree.specs.Lists.{RiseStrictly, Above as AboveAll}
use Rattle.pmr_tree.specs.Quadtree.{store_of}
use Rattle.sand_base.specs.declared.shape.Shape.{Shape}
use Rattle.sand_base.specs.declared.value.Value.{Value}
use Rattle.sand_base.specs.declared.value.Value.TheVariants as value
use Rattle.sand_model.specs.Database.{Database, element}
use Rattle.statements.specs.declared.column.Column.{Column}
use Rattle.sand_model.specs.Sources.{same_value, column_values}
use Rattle.sand_store.specs.Contents.{rows_in, relation_in}
use Rattle.sand_store.proofs.Databases.{rises_at}
use Rattle.plan_names.specs.Equals.{equals, above}
use Rattle.plan_names.specs.Indexed.{Holds, HasInts, IsLookUp}
use Rattle.plan_names.specs.declared.look_up.LookUp.{LookUp}
use Rattle.plan_names.proofs.Above.{Pairs, none_above}
use Rattle.plan_names.proofs.ColumnValues.{Rows, values_are, each_value}
use Rattle.plan_names.proofs.LookedUp.{RowsRise, Keeps, looked_none, looked_past, looked_found, looked_told}
use Rattle.plan_names.proofs.IntColumns.{int_pairs}
use Rattle.plan_names.specs.Steps.{column_value, IsInt, is_equal, has_equal, values_at, found_in, IsCandidate}

rises_rows : (rows : Rows) → RiseStrictly (map (λ (r : ℕ × List Value). r.0) rows) → RowsRise rows
rises_rows [] h = tt
rises_rows (row ∷ rows) h = (behind rows h.0, rises_rows rows h.1) where
  behind : (others : Rows) → AboveAll row.0 (map (λ (r : ℕ × List Value). r.0) others) → Each (λ other. row.0 < other.0) others
  behind [] a = tt
  behind (other ∷ others) a = (a.0, behind others a.1)

pub each_all : (P : ℕ × List Value → Type 0) (rows : Rows) → All P rows → Each P rows
each_all P [] h = tt
each_all P (row ∷ rows) h = (All-head P row rows h, each_all P rows (All-tail P row rows h))

-- the index has the entries of the rows
pub keeps_of : (m : PageMap) (l : LookUp) → Holds m l → l.spot.relation.value.next ≤ 4294967296 → Keeps (store_of m) l.spot.column (rows_in m l.spot.relation.value) l.index
keeps_of m l h s = record {
  is = h.index.is;
  entries = h.index.entries;
  rise = rises_rows (rows_in m l.spot.relation.value) (rises_at m l.spot.relation.value.schema l.spot.relation.value.file h.stands.1.table.file);
  small =
      Each-map (λ row. (1 ≤ row.0) × (row.0 < l.spot.relation.value.next)) (λ row. row.0 < 2 ^ 32) (λ row b. omega (arith, b.1, s)) (rows_in m l.spot.relation.value)
      (each_all (λ row. (1 ≤ row.0) × (row.0 < l.spot.relation.value.next)) (rows_in m l.spot.relation.value) h.stands.1.given_out);
}

-- the rows with an equal value are the model's
pub equals_are : (d : Database) (column : Column) (l : LookUp) (m : PageMap) (v : Value) → IsLookUp d column l m → equals d column v ≡ found_in m l v
equals_are d column l m v h =
    ap (λ (ps : Pairs). filter (λ pair. same_value pair.1 v) ps) (values_are d column (relation_in m l.spot.relation.value) l.spot.column h.is.relation h.is.at)

-- no id is above the greatest
pub none_behind : (m : PageMap) (l : LookUp) (v : Value) (last greatest : ℕ) → All (λ row. row.0 ≤ greatest) (rows_in m l.spot.relation.value) → greatest ≤ last → above last (found_in m l v) ≡ []
none_behind m l v last greatest h b =
    none_above (λ pair. same_value pair.1 v) last (values_at l.spot.column (rows_in m l.spot.relation.value))
    (each_value (λ p. same_value p.1 v ≡ true → p.0 ≤ last) l.spot.column (rows_in m l.spot.relation.value)
    (Each-map (λ row. row.0 ≤ greatest) (λ row. (w : Value) → element row.1 l.spot.column ≡ Some w → same_value w v ≡ true → row.0 ≤ last)
    (λ row k w e s. omega (arith, k, b)) (rows_in m l.spot.relation.value) (each_all (λ row. row.0 ≤ greatest) (rows_in m l.spot.relation.value) h)))

-- no entry: no row with the value is left
pub no_candidate : (m : PageMap) (l : LookUp) (v : Value) (last : ℕ) (key : List ℕ) (o : Option ℕ) → Holds m l → l.spot.relation.value.next ≤ 4294967296 → key ≡ key_bytes v
    → o ≡ equal_id (key_number key) last (index_entries (store_of m) l.index) → o ≡ None → above last (found_in m l v) ≡ []
no_candidate m l v last key o h s k e is =
    looked_none (store_of m) l.spot.column (rows_in m l.spot.relation.value) l.index v last (keeps_of m l h s)
    (ap (λ (bytes : List ℕ). equal_id (key_number bytes) last (index_entries (store_of m) l.index)) (sym k) ∙ (sym e ∙ is))

-- an entry leads to a row
pub candidate_is : (m w : PageMap) (l : LookUp) (v : Value) (last id : ℕ) (key : List ℕ) (o : Option ℕ) (found : Option Value) (equal : Bool) → Holds m l → l.spot.relation.value.next ≤ 4294967296
    → last < id → key ≡ key_bytes v → o ≡ equal_id (key_number key) last (index_entries (store_of m) l.index) → o ≡ Some id → w ≡ m
    → found ≡ column_value (rows_in w l.spot.relation.value) id l.spot.column
    → equal ≡ is_equal v found → IsCandidate last (found_in m l v) id equal
candidate_is m w l v last id key o found equal h s b k e is same f q =
    go equal (q ∙ ap (λ (x : Option Value). is_equal v x) held ∙ of_row (of_id id (rows_in m l.spot.relation.value)))
  where
    entry : equal_id (value_key v) last (index_entries (store_of m) l.index) ≡ Some id
    entry = ap (λ (bytes : List ℕ). equal_id (key_number bytes) last (index_entries (store_of m) l.index)) (sym k) ∙ (sym e ∙ is)

    held : found ≡ column_value (rows_in m l.spot.relation.value) id l.spot.column
    held = f ∙ ap (λ (pages : PageMap). column_value (rows_in pages l.spot.relation.value) id l.spot.column) same

    of_row : (row : Option (List Value)) → is_equal v (option_and_then (λ values. element values l.spot.column) row) ≡ has_equal l.spot.column v row
    of_row None = refl
    of_row (Some values) = refl

    go : (b : Bool) → b ≡ has_equal l.spot.column v (of_id id (rows_in m l.spot.relation.value)) → IsCandidate last (found_in m l v) id b
    go true q =
        looked_found (store_of m) l.spot.column (rows_in m l.spot.relation.value) l.index v last id (of_id id (rows_in m l.spot.relation.value)) (keeps_of m l h s) b entry refl (sym q)
    go false q =
        looked_past (store_of m) l.spot.column (rows_in m l.spot.relation.value) l.index v last id (of_id id (rows_in m l.spot.relation.value)) (keeps_of m l h s) b entry refl (sym q)

-- an entry of an int leads to a row with it, in a column of ints
pub told_candidate : (m : PageMap) (l : LookUp) (v : Value) (last id : ℕ) (key : List ℕ) (o : Option ℕ) → Holds m l → HasInts l → IsInt v → IsFit v
    → l.spot.relation.value.next ≤ 4294967296 → last < id
    → key ≡ key_bytes v → o ≡ equal_id (key_number key) last (index_entries (store_of m) l.index) → o ≡ Some id → IsCandidate last (found_in m l v) id true
told_candidate m l v last id key o h ints int fit s b k e is =
    let n : ℤ = int.0 in
    let kept = keeps_of m l h s in
    let rows : Rows = rows_in m l.spot.relation.value in
    let fitting : Each (λ (row : ℕ × List Value). IsRowFor l.spot.relation.value.schema row.1) rows = each_all (λ row. IsRowFor l.spot.relation.value.schema row.1) rows h.stands.1.table.rows in
    let V : Value → Type 0 = λ w. IsCandidate last (found_in m l w) id true in
    let same_key : key_number key ≡ value_key (value.Int n) = ap key_number k ∙ ap value_key int.1 in
    let entry : equal_id (value_key (value.Int n)) last (index_entries (store_of m) l.index) ≡ Some id =
    ap (λ (x : ℕ). equal_id x last (index_entries (store_of m) l.index)) (sym same_key) ∙ (sym e ∙ is) in
    subst V (sym int.1) (looked_told (store_of m) l.spot.column rows l.index n last id kept (int_pairs l.spot.relation.value.schema l.spot.column rows fitting kept.small ints)
    (subst IsFit int.1 fit) b entry)

not_shape : (w : Value) (s : Shape) → same_value w (value.Shape s) ≡ false
not_shape (value.Int n) s = refl
not_shape (value.Text bytes) s = refl
not_shape (value.Shape x) s = refl

each_any : (P : ℕ × Value → Type 0) (ps : Pairs) → ((p : ℕ × Value) → P p) → Each P ps
each_any P [] h = tt
each_any P (p ∷ ps) h = (h p, each_any P ps h)

-- no value equals a shape
pub none_of_shape : (d : Database) (column : Column) (v : Value) (s : Shape) (after : ℕ) → v ≡ value.Shape s → above after (equals d column v) ≡ []
none_of_shape d column v s after e =
    none_above (λ pair. same_value pair.1 v) after (column_values d column)
    (each_any (λ p. same_value p.1 v ≡ true → p.0 ≤ after) (column_values d column) (λ p t. absurd (true≢false (sym t ∙ (ap (λ (x : Value). same_value p.1 x) e ∙ not_shape p.1 s)))))

-- no row with the value is left where the last id is the greatest
pub all_looked_up : (d : Database) (column : Column) (m : PageMap) (l : LookUp) (v : Value) (after last greatest : ℕ) → IsLookUp d column l m
    → All (λ row. row.0 ≤ greatest) (rows_in m l.spot.relation.value)
    → greatest ≤ last → above after (found_in m l v) ≡ above last (found_in m l v) → above after (equals d column v) ≡ []
all_looked_up d column m l v after last greatest h all b left =
    ap (λ (ps : Pairs). above after ps) (equals_are d column l m v h) ∙ (left ∙ none_behind m l v last greatest all b)

above_zero : (test : ℕ × Value → Bool) (ps : Pairs) → Each (λ p. 1 ≤ p.0) ps → above 0 (filter test ps) ≡ filter test ps
above_zero test [] h = refl
above_zero test (p ∷ ps) h =
    let rest = above_zero test ps h.1 in
    elim (test p) as (λ b. above 0 (cond b (p ∷ filter test ps) (filter test ps)) ≡ cond b (p ∷ filter test ps) (filter test ps)) [
      | true ↦ rw (lt_is 0 p.0 h.0) (ap (λ (xs : Pairs). p ∷ xs) rest)
      | false ↦ rest
    ]

-- All rows with an equal value have ids above 0.
pub all_above_zero : (d : Database) (column : Column) (l : LookUp) (m : PageMap) (v : Value) → IsLookUp d column l m → above 0 (equals d column v) ≡ equals d column v
all_above_zero d column l m v h =
    let e = equals_are d column l m v h in
    let given : Each (λ row. (1 ≤ row.0) × (row.0 < l.spot.relation.value.next)) (rows_in m l.spot.relation.value) =
    each_all (λ row. (1 ≤ row.0) × (row.0 < l.spot.relation.value.next)) (rows_in m l.spot.relation.value) h.holds.stands.1.given_out in
    let some : Each (λ p. 1 ≤ p.0) (values_at l.spot.column (rows_in m l.spot.relation.value)) =
    each_value (λ p. 1 ≤ p.0) l.spot.column (rows_in m l.spot.relation.value)
    (Each-map (λ row. (1 ≤ row.0) × (row.0 < l.spot.relation.value.next)) (λ row. (w : Value) → element row.1 l.spot.column ≡ Some w → 1 ≤ row.0) (λ row k w f. k.0)
    (rows_in m l.spot.relation.value) given) in
    ap (λ (ps : Pairs). above 0 ps) e ∙ (above_zero (λ pair. same_value pair.1 v) (values_at l.spot.column (rows_in m l.spot.relation.value)) some ∙ sym e)
