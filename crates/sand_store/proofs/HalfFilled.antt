-- An index that has the first rows of a file, and each step from one row to the next.
use Rattle.std.proofs.Common.{◌≡◌, ℕ, ◌+◌, ◌<◌, ◌≤◌, Bool, true, false, cond, List, [], ◌∷◌, ◌++◌, map, Option, Some, None, refl, sym, ◌∙◌, ap, ap₂, subst, arith, inl, inr, All, true≢false}
use Rattle.std.specs.Prelude.{nat_le, is_some}
use Rattle.std.specs.List.{find}
use Rattle.std.specs.Option.{option_map}
use Rattle.std.proofs.lemmas.Bool.Decides.{leb_tells, eqb_tells}
use Rattle.std.proofs.lemmas.List.{append_assoc, append-nil}
use Rattle.std.proofs.lemmas.List.Elements.{All-nil, All-cons, All-head, All-tail, All-push, All-weaker}
use Rattle.code_btree.specs.Tree.{times, live}
use Rattle.code_btree.specs.Calls.{Keeps}
use Rattle.page_pool.specs.Causes.{failures_of}
use Rattle.page_pool.specs.Disk.{PageMap}
use Rattle.page_pool.specs.Pool.{PoolState, IsTold}
use Rattle.page_pool.specs.Steps.{InCommand}
use Rattle.pmr_tree.specs.Lists.{Above, RiseStrictly}
use Rattle.pmr_tree.specs.Quadtree.{store_of}
use Rattle.pmr_tree.proofs.OwnPages.{keeps_then, keeps_none}
use Rattle.sand_base.specs.declared.kind.Kind.{Kind}
use Rattle.sand_base.specs.declared.limits.Limits.{Limits}
use Rattle.sand_base.specs.declared.value.Value.{Value}
use Rattle.sand_model.specs.Database.{Index, Quadtree as tree_index, Attribute as attribute_index}
use Rattle.sand_model.specs.Measure.{Measure, IsMeasure}
use Rattle.tuple_file.specs.declared.file.TupleFile.{TupleFile}
use Rattle.tuple_file.specs.Calls.{IsRowAt}
use Rattle.tuple_file.specs.File.{file_pages}
use Rattle.tuple_file.specs.Rows.{of_id, least_id_from}
use Rattle.tuple_file.specs.Table.{encodings, AreRowsFor}
use Rattle.tuple_file.proofs.Houses as houses
use Rattle.tuple_file.proofs.Tables.{fetched}
use Rattle.tuple_codec.specs.Encoding.{encoding}
use Rattle.sand_store.specs.declared.path.AccessPath.{AccessPath}
use Rattle.sand_store.specs.Building.{index_after, CanTake, PathTook, CanFill, Fills}
use Rattle.sand_store.specs.Catalog.{IsPathOf}
use Rattle.sand_store.specs.Contents.{rows_at, index_in}
use Rattle.sand_store.specs.Ownership.{path_pages}
use Rattle.sand_store.specs.Standing.{TableStands, PathStands}
use Rattle.sand_store.specs.TableLaws.{SameOn, rows_same, table_same}
use Rattle.sand_store.proofs.ColumnsOfShapes.{some_same}
use Rattle.sand_store.proofs.Databases.{rises_at}
use Rattle.sand_store.proofs.Frames.{untouched}
use Rattle.sand_store.proofs.RowLists.{Rows}

least_encoded : (from : ℕ) (rows : Rows) → least_id_from from (encodings rows) ≡ least_id_from from rows
least_encoded from [] = refl
least_encoded from (r ∷ rows) =
    let go : (b : Bool) → option_map (λ (x : ℕ × List ℕ). x.0) (cond b (Some (r.0, encoding r.1)) (find (λ x. nat_le from x.0) (encodings rows)))
    ≡ option_map (λ (x : ℕ × List Value). x.0) (cond b (Some r) (find (λ x. nat_le from x.0) rows)) =
    elim [ true ↦ refl | false ↦ least_encoded from rows ] in
    go (nat_le from r.0)

-- what is found is from the id on
found_from : (from : ℕ) (rows : Rows) (r : ℕ × List Value) → find (λ x. nat_le from x.0) rows ≡ Some r → from ≤ r.0
found_from from [] r e = absurd (true≢false (sym (ap (λ (o : Option (ℕ × List Value)). is_some o) e)))
found_from from (x ∷ rows) r e =
    let go : (b : Bool) → nat_le from x.0 ≡ b → cond b (Some x) (find (λ y. nat_le from y.0) rows) ≡ Some r → from ≤ r.0 =
    elim [
      | true ↦ λ t k. elim (leb_tells from x.0) [
        | inl y ↦ (let same : x ≡ r = some_same x r k in omega (arith, y.1, ap (λ (z : ℕ × List Value). z.0) same))
        | inr y ↦ absurd (true≢false (sym t ∙ y.0))
      ]
      | false ↦ λ t k. found_from from rows r k
    ] in
    go (nat_le from x.0) refl e

-- and it is the row of its id
found_of_id : (from : ℕ) (rows : Rows) (r : ℕ × List Value) → find (λ x. nat_le from x.0) rows ≡ Some r → of_id r.0 rows ≡ Some r.1
found_of_id from [] r e = absurd (true≢false (sym (ap (λ (o : Option (ℕ × List Value)). is_some o) e)))
found_of_id from (x ∷ rows) r e =
    let go : (b : Bool) → nat_le from x.0 ≡ b → cond b (Some x) (find (λ y. nat_le from y.0) rows) ≡ Some r → of_id r.0 (x ∷ rows) ≡ Some r.1 =
    elim [
      | true ↦ λ t k.
          let P : ℕ × List Value → Type 0 = λ z. of_id z.0 (x ∷ rows) ≡ Some z.1 in
          let own : of_id x.0 (x ∷ rows) ≡ Some x.1 = elim (eqb_tells x.0 x.0) [ inl y ↦ rw y.0 refl | inr y ↦ absurd (y.1 refl) ] in
          subst P (some_same x r k) own
      | false ↦ λ t k. elim (leb_tells from x.0) [
        | inl y ↦ absurd (true≢false (sym y.0 ∙ t))
        | inr y ↦ elim (eqb_tells x.0 r.0) [
          | inl z ↦ absurd (let l : from ≤ r.0 = found_from from rows r k in omega (arith, l, y.1, z.1))
          | inr z ↦ rw z.0 (found_of_id from rows r k)
        ]
      ]
    ] in
    go (nat_le from x.0) refl e

-- what the scan and the fetch of a file give is the first row from an id on
pub row_is_first : (schema : List (List ℕ × Kind)) (rows : Rows) (from id : ℕ) (row : List Value) → AreRowsFor schema rows
    → Some id ≡ least_id_from from (encodings rows) → IsRowAt schema (encodings rows) id (Some row) → Some (id, row) ≡ find (λ r. nat_le from r.0) rows
row_is_first schema rows from id row all least at = go (find (λ r. nat_le from r.0) rows) refl where
  go : (o : Option (ℕ × List Value)) → find (λ r. nat_le from r.0) rows ≡ o → Some (id, row) ≡ find (λ r. nat_le from r.0) rows
  go None e =
      let none : Some id ≡ None = least ∙ (least_encoded from rows ∙ ap (λ (o : Option (ℕ × List Value)). option_map (λ (r : ℕ × List Value). r.0) o) e) in
      absurd (true≢false (ap (λ (o : Option ℕ). is_some o) none))
  go (Some r) e =
      let same : id ≡ r.0 = some_same id r.0 (least ∙ (least_encoded from rows ∙ ap (λ (o : Option (ℕ × List Value)). option_map (λ (x : ℕ × List Value). x.0) o) e)) in
      let it : Some row ≡ of_id id rows = fetched schema rows id (Some row) all at in
      let its : Some row ≡ Some r.1 = it ∙ (ap (λ (n : ℕ). of_id n rows) same ∙ found_of_id from rows r e) in
      let value : row ≡ r.1 = some_same row r.1 its in
      ap₂ (λ (n : ℕ) (v : List Value). Some (n, v)) same value ∙ sym e

pub none_is_first : (rows : Rows) (from : ℕ) → None ≡ least_id_from from (encodings rows) → None ≡ find (λ (r : ℕ × List Value). nat_le from r.0) rows
none_is_first rows from least = go (find (λ r. nat_le from r.0) rows) refl where
  go : (o : Option (ℕ × List Value)) → find (λ r. nat_le from r.0) rows ≡ o → None ≡ find (λ (r : ℕ × List Value). nat_le from r.0) rows
  go None e = sym e
  go (Some r) e =
      let none : None ≡ Some r.0 = least ∙ (least_encoded from rows ∙ ap (λ (o : Option (ℕ × List Value)). option_map (λ (x : ℕ × List Value). x.0) o) e) in
      absurd (true≢false (sym (ap (λ (o : Option ℕ). is_some o) none)))

-- Rows in two parts, those below an id and those from it on: the second begins with what is found.

abbrev pub first_of : Rows → Option (ℕ × List Value)
first_of [] = None
first_of (r ∷ rows) = Some r

found_first : (from : ℕ) (before rest : Rows) → All (λ r. (1 ≤ r.0) × (r.0 < from)) before → All (λ r. from ≤ r.0) rest → find (λ r. nat_le from r.0) (before ++ rest) ≡ first_of rest
found_first from [] [] h k = refl
found_first from [] (r ∷ rest) h k =
    let l : from ≤ r.0 = All-head (λ (x : ℕ × List Value). from ≤ x.0) r rest k in
    elim (leb_tells from r.0) [ inl y ↦ rw y.0 refl | inr y ↦ absurd (omega (arith, l, y.1)) ]
found_first from (r ∷ before) rest h k =
    let l : (1 ≤ r.0) × (r.0 < from) = All-head (λ (x : ℕ × List Value). (1 ≤ x.0) × (x.0 < from)) r before h in
    elim (leb_tells from r.0) [
      | inl y ↦ absurd (omega (arith, l.1, y.1))
      | inr y ↦ rw y.0 (found_first from before rest (All-tail (λ (x : ℕ × List Value). (1 ≤ x.0) × (x.0 < from)) r before h) k)
    ]

abbrev pub ids : Rows → List ℕ
ids rows = map (λ (r : ℕ × List Value). r.0) rows

above_part : (n : ℕ) (a b : Rows) → Above n (ids (a ++ b)) → Above n (ids a)
above_part n [] b h = tt
above_part n (r ∷ a) b h = (h.0, above_part n a b h.1)

pub rises_part : (a b : Rows) → RiseStrictly (ids (a ++ b)) → RiseStrictly (ids a)
rises_part [] b h = tt
rises_part (r ∷ a) b h = (above_part r.0 a b h.0, rises_part a b h.1)

pub rises_rest : (a b : Rows) → RiseStrictly (ids (a ++ b)) → RiseStrictly (ids b)
rises_rest [] b h = h
rises_rest (r ∷ a) b h = rises_rest a b h.1

pub all_above : (n : ℕ) (rows : Rows) → Above n (ids rows) → All (λ r. n + 1 ≤ r.0) rows
all_above n [] h = All-nil (λ (r : ℕ × List Value). n + 1 ≤ r.0)
all_above n (r ∷ rows) h = All-cons (λ (x : ℕ × List Value). n + 1 ≤ x.0) r rows (omega (arith, h.0)) (all_above n rows h.1)

-- What holds between two steps. Over pages m no row had been entered, over pages w those below an id have.
pub record HalfFilled (m w : PageMap) (limits : Limits) (schema : List (List ℕ × Kind)) (file : TupleFile) (column : ℕ) (a b : AccessPath) (from : ℕ) : Type 0 where
  pub before : Rows
  pub rest : Rows
  pub table : TableStands w schema file
  pub same : rows_at w schema file ≡ rows_at m schema file
  pub rows : rows_at m schema file ≡ before ++ rest
  pub below : All (λ r. (1 ≤ r.0) × (r.0 < from)) before
  pub above : All (λ r. from ≤ r.0) rest
  pub stands : PathStands w limits schema before (column, b)
  pub means : (gap : Measure) → IsMeasure gap
      → index_after gap (rows_at m schema file) column rest (index_in w b) ≡ index_after gap (rows_at m schema file) column (rows_at m schema file) (index_in m a)
  pub keeps : Keeps (store_of m) (store_of w) (path_pages m a) (path_pages w b)
  pub apart : (q : ℕ) → times q (path_pages w b) + times q (file_pages (store_of w) file) ≤ live (store_of w) q

pub half_start : (m : PageMap) (limits : Limits) (schema : List (List ℕ × Kind)) (file : TupleFile) (column : ℕ) (a : AccessPath) → CanFill m limits schema file (column, a)
    → HalfFilled m m limits schema file column a a 1
half_start m limits schema file column a h = record {
  before = [];
  rest = rows_at m schema file;
  table = h.table;
  same = refl;
  rows = refl;
  below = All-nil (λ (r : ℕ × List Value). (1 ≤ r.0) × (r.0 < 1));
  above = h.given_out;
  stands = h.stands;
  means = λ gap is. refl;
  keeps = keeps_none (store_of m) (path_pages m a);
  apart = h.apart;
}

-- the rows that are left begin with the one that is found
pub record Begins (rest : Rows) (r : ℕ × List Value) : Type 0 where
  pub more : Rows
  pub is : rest ≡ r ∷ more

pub begins : (rest : Rows) (r : ℕ × List Value) → first_of rest ≡ Some r → Begins rest r
begins [] r e = absurd (true≢false (sym (ap (λ (o : Option (ℕ × List Value)). is_some o) e)))
begins (x ∷ rest) r e = record { more = rest; is = ap (λ (y : ℕ × List Value). y ∷ rest) (some_same x r e) }

pub half_begins : (m w : PageMap) (limits : Limits) (schema : List (List ℕ × Kind)) (file : TupleFile) (column : ℕ) (a b : AccessPath) (from id : ℕ) (row : List Value)
    → (k : HalfFilled m w limits schema file column a b from) → Some (id, row) ≡ find (λ r. nat_le from r.0) (rows_at w schema file) → Begins k.rest (id, row)
half_begins m w limits schema file column a b from id row k e =
    begins k.rest (id, row) (sym (found_first from k.before k.rest k.below k.above) ∙ (ap (λ (rows : Rows). find (λ r. nat_le from r.0) rows) (sym (k.same ∙ k.rows)) ∙ sym e))

pub half_rows : (m w : PageMap) (limits : Limits) (schema : List (List ℕ × Kind)) (file : TupleFile) (column : ℕ) (a b : AccessPath) (from id : ℕ) (row : List Value)
    → (k : HalfFilled m w limits schema file column a b from) → (g : Begins k.rest (id, row)) → rows_at w schema file ≡ k.before ++ (id, row) ∷ g.more
half_rows m w limits schema file column a b from id row k g = k.same ∙ (k.rows ∙ ap (λ (rows : Rows). k.before ++ rows) g.is)

pub half_least : (m w : PageMap) (limits : Limits) (schema : List (List ℕ × Kind)) (file : TupleFile) (column : ℕ) (a b : AccessPath) (from id : ℕ) (row : List Value)
    → (k : HalfFilled m w limits schema file column a b from) → (g : Begins k.rest (id, row)) → from ≤ id
half_least m w limits schema file column a b from id row k g =
    let P : Rows → Type 0 = λ rows. All (λ r. from ≤ r.0) rows in
    All-head (λ (r : ℕ × List Value). from ≤ r.0) (id, row) g.more (subst P g.is k.above)

-- which the index can take
unfoldable pub half_can : (m w : PageMap) (limits : Limits) (schema : List (List ℕ × Kind)) (file : TupleFile) (column : ℕ) (a b : AccessPath) (from id : ℕ) (row : List Value)
    → (k : HalfFilled m w limits schema file column a b from) → (g : Begins k.rest (id, row)) → CanTake w limits schema file id row (column, b)
half_can m w limits schema file column a b from id row k g =
    let rows : rows_at w schema file ≡ k.before ++ (id, row) ∷ g.more = half_rows m w limits schema file column a b from id row k g in
    let l : from ≤ id = half_least m w limits schema file column a b from id row k g in
    let R : Rows → Type 0 = λ xs. RiseStrictly (ids xs) in
    record {
      before = k.before;
      rest = g.more;
      table = k.table;
      rows = rows;
      rise = rises_part k.before ((id, row) ∷ g.more) (subst R rows (rises_at w schema file k.table.file));
      below = All-weaker (λ (r : ℕ × List Value). (1 ≤ r.0) × (r.0 < from)) (λ (r : ℕ × List Value). (1 ≤ r.0) × (r.0 < id)) (λ r h. (h.0, omega (arith, h.1, l))) k.before k.below;
      stands = k.stands;
      apart = k.apart;
    }

-- a step
pub half_next : (m w v : PageMap) (limits : Limits) (schema : List (List ℕ × Kind)) (file : TupleFile) (column : ℕ) (a b c : AccessPath) (from id : ℕ) (row : List Value) → 1 ≤ from
    → (k : HalfFilled m w limits schema file column a b from) → (g : Begins k.rest (id, row)) → PathTook w v limits schema (rows_at w schema file) k.before id row column b c
    → HalfFilled m v limits schema file column a c (id + 1)
half_next m w v limits schema file column a b c from id row begun k g t =
    let fp : List ℕ = file_pages (store_of w) file in
    let all : Rows = rows_at m schema file in
    let rows : rows_at w schema file ≡ k.before ++ (id, row) ∷ g.more = half_rows m w limits schema file column a b from id row k g in
    let l : from ≤ id = half_least m w limits schema file column a b from id row k g in
    let same : SameOn w v fp = untouched (store_of w) (store_of v) (path_pages w b) (path_pages v c) fp t.keeps k.apart in
    let pages : file_pages (store_of v) file ≡ fp = (houses.unmoved (store_of w) (store_of v) file same).pages in
    let R : Rows → Type 0 = λ xs. RiseStrictly (ids xs) in
    let rise : RiseStrictly (ids (k.before ++ (id, row) ∷ g.more)) = subst R rows (rises_at w schema file k.table.file) in
    record {
      before = k.before ++ (id, row) ∷ [];
      rest = g.more;
      table = table_same w v schema file same k.table;
      same = rows_same w v schema file same ∙ k.same;
      rows = sym k.same ∙ (rows ∙ sym (append_assoc k.before ((id, row) ∷ []) g.more));
      below = All-push (λ (r : ℕ × List Value). (1 ≤ r.0) × (r.0 < id + 1)) k.before (id, row)
          (All-weaker (λ (r : ℕ × List Value). (1 ≤ r.0) × (r.0 < from)) (λ (r : ℕ × List Value). (1 ≤ r.0) × (r.0 < id + 1)) (λ r h. (h.0, omega (arith, h.1, l))) k.before k.below)
          (omega (arith, begun, l), omega arith);
      above = all_above id g.more (rises_rest k.before ((id, row) ∷ g.more) rise).0;
      stands = t.stands;
      means = λ gap is.
          ap (λ (xs : Rows). index_after gap xs column g.more (index_in v c)) (sym k.same)
          ∙ (t.means gap is g.more
          ∙ (ap (λ (xs : Rows). index_after gap xs column ((id, row) ∷ g.more) (index_in w b)) k.same
          ∙ (ap (λ (xs : Rows). index_after gap all column xs (index_in w b)) (sym g.is) ∙ k.means gap is)));
      keeps = keeps_then (store_of m) (store_of w) (store_of v) (path_pages m a) (path_pages w b) (path_pages v c) k.keeps t.keeps;
      apart = λ q. omega (arith, k.apart q, t.keeps.moved q, ap (λ (ps : List ℕ). times q ps) pages);
    }

-- all rows are entered where none is found
pub nothing_left : (rest : Rows) → None ≡ first_of rest → rest ≡ []
nothing_left [] e = refl
nothing_left (r ∷ rest) e = absurd (true≢false (sym (ap (λ (o : Option (ℕ × List Value)). is_some o) e)))

after_none : (gap : Measure) (rows : Rows) (column : ℕ) (i : Index) → index_after gap rows column [] i ≡ i
after_none gap rows column (tree_index threshold tree) = refl
after_none gap rows column attribute_index = refl

pub half_end : (m w : PageMap) (limits : Limits) (schema : List (List ℕ × Kind)) (file : TupleFile) (column : ℕ) (a b : AccessPath) (from : ℕ) → HalfFilled m w limits schema file column a b from
    → None ≡ find (λ (r : ℕ × List Value). nat_le from r.0) (rows_at w schema file) → Fills m w limits schema (rows_at m schema file) column a b
half_end m w limits schema file column a b from k e =
    let none : k.rest ≡ [] =
    nothing_left k.rest (e ∙ (ap (λ (rows : Rows). find (λ r. nat_le from r.0) rows) (k.same ∙ k.rows) ∙ found_first from k.before k.rest k.below k.above)) in
    let all : k.before ≡ rows_at m schema file = sym (append-nil k.before) ∙ (ap (λ (rows : Rows). k.before ++ rows) (sym none) ∙ sym k.rows) in
    let S : Rows → Type 0 = λ rows. PathStands w limits schema rows (column, b) in
    record {
      stands = subst S all k.stands;
      means = λ gap is. sym (after_none gap (rows_at m schema file) column (index_in w b))
          ∙ (ap (λ (rows : Rows). index_after gap (rows_at m schema file) column rows (index_in w b)) (sym none) ∙ k.means gap is);
      keeps = k.keeps;
    }

-- Between two steps of the loop: what holds of the pages where they are told, and what holds anyway.
pub record Filling (first now : PoolState) (limits : Limits) (schema : List (List ℕ × Kind)) (file : TupleFile) (column : ℕ) (a b : AccessPath) (from : ℕ) : Type 0 where
  pub within : InCommand first now
  pub counted : failures_of now ≡ failures_of first
  pub begun : 1 ≤ from
  pub of : IsPathOf schema (column, a) → IsPathOf schema (column, b)
  pub midway : IsTold first → CanFill first.pages limits schema file (column, a) → HalfFilled first.pages now.pages limits schema file column a b from
