-- A row that is fetched, a value of it, and the least id.
use Rattle.std.proofs.Common.{◌≡◌, ℕ, ◌+◌, ◌-◌, ◌*◌, ◌<◌, ◌≤◌, List, get_or, arith, refl, sym, ◌∙◌, ap, ap₂, subst}
use Rattle.std.specs.Prelude.{Option, None, Some, option_map, IfSome, MatchOption}
use Rattle.sand_base.specs.declared.kind.Kind.{Kind}
use Rattle.sand_base.specs.declared.value.Value.{Value}
use Rattle.tuple_codec.specs.Decoding.{IsEncodingOf, IsValueIn}
use Rattle.code_btree.specs.Node.{Pair}
use Rattle.code_btree.specs.Items.{find_item, ceiling_item}
use Rattle.code_btree.specs.Tree.{Store, tree_items}
use Rattle.tuple_file.specs.declared.file.TupleFile.{TupleFile}
use Rattle.tuple_file.specs.Page.{tuple_at}
use Rattle.tuple_file.specs.Rows.{of_id, least_id_from}
use Rattle.tuple_file.specs.File.{bytes_of, page_of, slot_of, tuple_of, tuples_of}
use Rattle.tuple_file.specs.Calls.{IsDecoded, IsRowAt, IsValueAt}
use Rattle.tuple_file.specs.declared.span.Span.{Span}
use Rattle.tuple_file.specs.Spans.{Lies, AreKnown, span_of}
use Rattle.tuple_file.proofs.Counts.{none_some, page_back, slot_back}
use Rattle.tuple_file.proofs.Pastes.{tuple_in}
use Rattle.code_btree.specs.Bytes.{piece}
use Rattle.tuple_file.proofs.Lists.{tuples_find, tuples_least}
use Rattle.tuple_file.proofs.Houses.{tuple_here}

-- the answer of decode
pub decoded : (schema : List (List ℕ × Kind)) (bytes tuple : List ℕ) (found : Option (List Value)) → bytes ≡ tuple
    → IfSome found (λ row. IsEncodingOf schema row bytes) → ((row : List Value) → IsEncodingOf schema row bytes → found ≡ Some row) → IsDecoded schema tuple found
decoded schema bytes tuple None e h k = λ row is.
    let P : List ℕ → Type 0 = λ b. IsEncodingOf schema row b in
    none_some row (sym (k row (subst P (sym e) is)))
decoded schema bytes tuple (Some row) e h k = let P : List ℕ → Type 0 = λ b. IsEncodingOf schema row b in subst P e h

row_here : (schema : List (List ℕ × Kind)) (rows : List (ℕ × List ℕ)) (id : ℕ) (tuple : List ℕ) (found : Option (List Value)) → of_id id rows ≡ Some tuple
    → IsDecoded schema tuple found → IsRowAt schema rows id found
row_here schema rows id tuple None e h = λ bytes row at is.
    let P : Option (List ℕ) → Type 0 = λ o. IfSome o (λ b. IsEncodingOf schema row b) in
    h row (subst P (sym at ∙ e) is)
row_here schema rows id tuple (Some row) e h = (tuple, (e, h))

-- the bytes of the id, where the tree leads to them, and where it doesn't
bytes_here : (m : Store) (f : TupleFile) (id v n slot : ℕ) → Some v ≡ find_item id (tree_items m f.tree) → n ≡ page_of v → slot ≡ slot_of v
    → of_id id (tuples_of m f) ≡ Some (tuple_at (bytes_of (m n)) slot)
bytes_here m f id v n slot e en es =
    tuples_find m id (tree_items m f.tree) ∙ (ap (λ (o : Option ℕ). option_map (λ k. tuple_of m k) o) (sym e) ∙ ap (λ (b : List ℕ). Some b) (tuple_here m v n slot (sym en) (sym es)))

bytes_absent : (m : Store) (f : TupleFile) (id : ℕ) → None ≡ find_item id (tree_items m f.tree) → of_id id (tuples_of m f) ≡ None
bytes_absent m f id e = tuples_find m id (tree_items m f.tree) ∙ ap (λ (o : Option ℕ). option_map (λ k. tuple_of m k) o) (sym e)

pub row_found : (schema : List (List ℕ × Kind)) (m : Store) (f : TupleFile) (id v n slot : ℕ) (found : Option (List Value))
    → Some v ≡ find_item id (tree_items m f.tree) → n ≡ page_of v → slot ≡ slot_of v → IsDecoded schema (tuple_at (bytes_of (m n)) slot) found → IsRowAt schema (tuples_of m f) id found
row_found schema m f id v n slot found e en es h =
    row_here schema (tuples_of m f) id (tuple_at (bytes_of (m n)) slot) found (bytes_here m f id v n slot e en es) h

pub row_absent : (schema : List (List ℕ × Kind)) (m : Store) (f : TupleFile) (id : ℕ) → None ≡ find_item id (tree_items m f.tree) → IsRowAt schema (tuples_of m f) id None
row_absent schema m f id e = λ bytes row at is. none_some bytes (sym at ∙ bytes_absent m f id e)

pub least_is : (m : Store) (f : TupleFile) (from : ℕ) (o : Option Pair) → o ≡ ceiling_item from (tree_items m f.tree) → option_map (λ (e : Pair). e.0) o ≡ least_id_from from (tuples_of m f)
least_is m f from o e = ap (λ (p : Option Pair). option_map (λ (i : Pair). i.0) p) e ∙ sym (tuples_least m from (tree_items m f.tree))

-- the same with what the code has: the key, the answer of the tree, and pages that stay
pub row_found_by : (schema : List (List ℕ × Kind)) (m x : Store) (f : TupleFile) (id key v n slot : ℕ) (place : Option ℕ) (found : Option (List Value)) → key ≡ id → x ≡ m
    → place ≡ find_item key (tree_items m f.tree) → place ≡ Some v → n ≡ page_of v → slot ≡ slot_of v → IsDecoded schema (tuple_at (bytes_of (x n)) slot) found
    → IsRowAt schema (tuples_of m f) id found
row_found_by schema m x f id key v n slot place found ek ex e is en es h =
    let D : Store → Type 0 = λ s. IsDecoded schema (tuple_at (bytes_of (s n)) slot) found in
    row_found schema m f id v n slot found (sym is ∙ (e ∙ ap (λ (k : ℕ). find_item k (tree_items m f.tree)) ek)) en es (subst D ex h)

pub row_absent_by : (schema : List (List ℕ × Kind)) (m : Store) (f : TupleFile) (id key : ℕ) (place : Option ℕ) → key ≡ id → place ≡ find_item key (tree_items m f.tree)
    → place ≡ None → IsRowAt schema (tuples_of m f) id None
row_absent_by schema m f id key place ek e is = row_absent schema m f id (sym is ∙ (e ∙ ap (λ (k : ℕ). find_item k (tree_items m f.tree)) ek))

pub least_by : (m : Store) (f : TupleFile) (from key : ℕ) (o : Option Pair) (given : Option ℕ) → key ≡ from → o ≡ ceiling_item key (tree_items m f.tree)
    → option_map (λ (e : Pair). e.0) o ≡ given → given ≡ least_id_from from (tuples_of m f)
least_by m f from key o given ek e is = sym is ∙ least_is m f from o (e ∙ ap (λ (k : ℕ). ceiling_item k (tree_items m f.tree)) ek)

-- the value in a column of the row of the id, and none where the id isn't there
pub value_found_by : (schema : List (List ℕ × Kind)) (m x : Store) (f : TupleFile) (id key v n slot column : ℕ) (place : Option ℕ) (found : Option Value) → key ≡ id → x ≡ m
    → place ≡ find_item key (tree_items m f.tree) → place ≡ Some v → n ≡ page_of v → slot ≡ slot_of v → IsValueIn schema (tuple_at (bytes_of (x n)) slot) column found
    → IsValueAt schema (tuples_of m f) id column found
value_found_by schema m x f id key v n slot column place found ek ex e is en es h =
    let V : Store → Type 0 = λ s. IsValueIn schema (tuple_at (bytes_of (s n)) slot) column found in
    let P : Option (List ℕ) → Type 0 = λ o. MatchOption o (found ≡ None) (λ bytes. IsValueIn schema bytes column found) in
    subst P (sym (bytes_here m f id v n slot (sym is ∙ (e ∙ ap (λ (k : ℕ). find_item k (tree_items m f.tree)) ek)) en es)) (subst V ex h)

pub value_absent_by : (schema : List (List ℕ × Kind)) (m : Store) (f : TupleFile) (id key column : ℕ) (place : Option ℕ) → key ≡ id
    → place ≡ find_item key (tree_items m f.tree) → place ≡ None → IsValueAt schema (tuples_of m f) id column None
value_absent_by schema m f id key column place ek e is =
    let none : Option Value = None in
    let P : Option (List ℕ) → Type 0 = λ o. MatchOption o (none ≡ None) (λ bytes. IsValueIn schema bytes column none) in
    subst P (sym (bytes_absent m f id (sym is ∙ (e ∙ ap (λ (k : ℕ). find_item k (tree_items m f.tree)) ek)))) refl

-- and of an id of which it is known where its tuple lies
pub value_placed : (schema : List (List ℕ × Kind)) (m : Store) (f : TupleFile) (spans : List ℕ) (id column : ℕ) (span : Span) (found : Option Value) → AreKnown m f spans
    → 1 ≤ id → 1 ≤ get_or spans (id - 1) 0
    → span ≡ span_of (get_or spans (id - 1) 0) → IsValueIn schema (piece span.length span.start (bytes_of (m span.page))) column found → IsValueAt schema (tuples_of m f) id column found
value_placed schema m f spans id column span found known l k e h =
    let same : id - 1 + 1 ≡ id = omega (arith, l) in
    let P : ℕ → Type 0 = λ i. Lies m f i (span_of (get_or spans (id - 1) 0)) in
    let Q : Span → Type 0 = λ s. Lies m f id s in
    let at : Lies m f id span = subst Q (sym e) (subst P same (known (id - 1) k)) in
    let page : List ℕ = bytes_of (m span.page) in
    let small : at.slot < 65536 = omega (arith, at.has.there) in
    let here : of_id id (tuples_of m f) ≡ Some (tuple_at page at.slot) =
    bytes_here m f id (span.page * 65536 + at.slot) span.page at.slot (sym at.leads) (sym (page_back span.page at.slot small)) (sym (slot_back span.page at.slot small)) in
    let tuple : tuple_at page at.slot ≡ piece span.length span.start page = tuple_in page at.slot at.has.there ∙ ap₂ (λ (w a : ℕ). piece w a page) at.has.length_is at.has.start_is in
    let V : Option (List ℕ) → Type 0 = λ o. MatchOption o (found ≡ None) (λ bytes. IsValueIn schema bytes column found) in
    subst V (sym (here ∙ ap (λ (b : List ℕ). Some b) tuple)) h
