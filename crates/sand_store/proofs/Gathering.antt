-- The members of a column's rows are gathered by ascending id: those before an id, and the rows from it on, make up all.
use Rattle.std.proofs.Common.{◌≡◌, ◌≢◌, ℕ, ◌+◌, ◌<◌, ◌≤◌, Bool, List, [], ◌∷◌, ◌++◌, map, Option, Some, None, refl, sym, ◌∙◌, ap, ap₂, subst, arith, inl, inr, All, ◌⊎◌}
use Rattle.std.specs.Prelude.{nat_le}
use Rattle.std.specs.List.{find}
use Rattle.std.proofs.lemmas.Bool.Decides.{leb_tells}
use Rattle.std.proofs.lemmas.List.{append_assoc, append-nil, map-append}
use Rattle.std.proofs.lemmas.List.Elements.{All-nil, All-head, All-tail, All-push, All-weaker}
use Rattle.code_btree.specs.Tree.{same, times}
use Rattle.code_btree.proofs.Lists.{same_cases}
use Rattle.page_pool.specs.Causes.{failures_of}
use Rattle.page_pool.specs.Disk.{PageMap}
use Rattle.page_pool.specs.Pool.{PoolState, IsTold}
use Rattle.page_pool.specs.Reads.{IsRead}
use Rattle.page_pool.specs.Steps.{IsRead-refl, IsRead-trans}
use Rattle.pmr_tree.specs.Entries.{figure_of}
use Rattle.pmr_tree.specs.Lists.{Above, RiseStrictly}
use Rattle.r_tree.specs.Entry.{Member}
use Rattle.r_tree.specs.Listing.{member_figure, AreMembersOf, HasRowsOnce}
use Rattle.sand_base.specs.declared.goal.Goal.{Goal}
use Rattle.sand_base.specs.declared.kind.Kind.{Kind}
use Rattle.sand_base.specs.declared.rough.Rough.{Rough}
use Rattle.sand_base.specs.declared.shape.Shape.{Shape}
use Rattle.sand_base.specs.declared.value.Value.{Value}
use Rattle.sand_model.specs.Database.{shape_in, shapes_of}
use Rattle.sand_model.specs.Roughs.{rough_figure, row_figure}
use Rattle.tuple_file.specs.declared.file.TupleFile.{TupleFile}
use Rattle.sand_base.specs.declared.limits.Limits.{Limits}
use Rattle.sand_store.specs.Catalog.{RelationView}
use Rattle.sand_store.specs.Contents.{rows_at, rows_in}
use Rattle.sand_store.specs.Standing.{TableStands, RelationStands}
use Rattle.sand_store.proofs.Databases.{rises_at}
use Rattle.sand_store.proofs.HalfFilled.{first_of, Begins, begins, nothing_left, rises_rest, all_above}
use Rattle.sand_store.proofs.RowLists.{Rows, Shapes, ids_of, rises_shapes, shapes_more}

-- rows in two parts, those below an id and those from it on: the second begins with what is found
found_next : (from : ℕ) (before rest : Rows) → All (λ r. r.0 < from) before → All (λ r. from ≤ r.0) rest → find (λ r. nat_le from r.0) (before ++ rest) ≡ first_of rest
found_next from [] [] h k = refl
found_next from [] (r ∷ rest) h k =
    let l : from ≤ r.0 = All-head (λ (x : ℕ × List Value). from ≤ x.0) r rest k in
    elim (leb_tells from r.0) [ inl y ↦ rw y.0 refl | inr y ↦ absurd (omega (arith, l, y.1)) ]
found_next from (r ∷ before) rest h k =
    let l : r.0 < from = All-head (λ (x : ℕ × List Value). x.0 < from) r before h in
    elim (leb_tells from r.0) [
      | inl y ↦ absurd (omega (arith, l, y.1))
      | inr y ↦ rw y.0 (found_next from before rest (All-tail (λ (x : ℕ × List Value). x.0 < from) r before h) k)
    ]

-- What is gathered of the rows below an id.
pub record Gathered (rows : Rows) (column from : ℕ) (done : List Member) : Type 0 where
  pub before : Rows
  pub rest : Rows
  pub parts : rows ≡ before ++ rest
  pub below : All (λ r. r.0 < from) before
  pub above : All (λ r. from ≤ r.0) rest
  pub members : AreMembersOf done (shapes_of column before)

gathered_start : (rows : Rows) (column : ℕ) → Gathered rows column 0 []
gathered_start rows column = record {
  before = [];
  rest = rows;
  parts = refl;
  below = All-nil (λ (r : ℕ × List Value). r.0 < 0);
  above = λ k d l. omega arith;
  members = refl;
}

-- one member more
gathered_next : (rows : Rows) (column from id : ℕ) (done : List Member) (row : List Value) (s : Shape) (q : Rough) → RiseStrictly (map (λ (r : ℕ × List Value). r.0) rows)
    → Gathered rows column from done → Some (id, row) ≡ find (λ r. nat_le from r.0) rows → shape_in column row ≡ Some s → figure_of q ≡ rough_figure s
    → Gathered rows column (id + 1) (done ++ (id, q) ∷ [])
gathered_next rows column from id done row s q rise k e shape figure =
    let g : Begins k.rest (id, row) = begins k.rest (id, row) (sym (found_next from k.before k.rest k.below k.above) ∙ (ap (λ (xs : Rows). find (λ r. nat_le from r.0) xs) (sym k.parts) ∙ sym e)) in
    let split : rows ≡ k.before ++ (id, row) ∷ g.more = k.parts ∙ ap (λ (xs : Rows). k.before ++ xs) g.is in
    let A : Rows → Type 0 = λ xs. All (λ r. from ≤ r.0) xs in
    let R : Rows → Type 0 = λ xs. RiseStrictly (map (λ (r : ℕ × List Value). r.0) xs) in
    let l : from ≤ id = All-head (λ (r : ℕ × List Value). from ≤ r.0) (id, row) g.more (subst A g.is k.above) in
    record {
      before = k.before ++ (id, row) ∷ [];
      rest = g.more;
      parts = split ∙ sym (append_assoc k.before ((id, row) ∷ []) g.more);
      below = All-push (λ (r : ℕ × List Value). r.0 < id + 1) k.before (id, row)
          (All-weaker (λ (r : ℕ × List Value). r.0 < from) (λ (r : ℕ × List Value). r.0 < id + 1) (λ r h. omega (arith, h, l)) k.before k.below) (omega arith);
      above = all_above id g.more (rises_rest k.before ((id, row) ∷ g.more) (subst R split rise)).0;
      members = map-append member_figure done ((id, q) ∷ [])
          ∙ (ap₂ (λ (xs : List (ℕ × Goal)) (f : Goal). xs ++ (id, f) ∷ []) k.members figure
          ∙ (sym (map-append row_figure (shapes_of column k.before) ((id, s) ∷ [])) ∙ ap (λ (xs : Shapes). map row_figure xs) (sym (shapes_more column k.before id row s shape))));
    }

-- all are gathered where no row is found
gathered_end : (rows : Rows) (column from : ℕ) (done : List Member) → Gathered rows column from done → None ≡ find (λ (r : ℕ × List Value). nat_le from r.0) rows
    → AreMembersOf done (shapes_of column rows)
gathered_end rows column from done k e =
    let none : k.rest ≡ [] = nothing_left k.rest (e ∙ (ap (λ (xs : Rows). find (λ r. nat_le from r.0) xs) k.parts ∙ found_next from k.before k.rest k.below k.above)) in
    let all : k.before ≡ rows = sym (append-nil k.before) ∙ (ap (λ (xs : Rows). k.before ++ xs) (sym none) ∙ sym k.parts) in
    let P : Rows → Type 0 = λ xs. AreMembersOf done (shapes_of column xs) in
    subst P all k.members

-- Between two steps of the loop: nothing was changed, and where the pages are told the rows below an id are gathered.
pub record Gathering (first now : PoolState) (schema : List (List ℕ × Kind)) (file : TupleFile) (column from : ℕ) (done : List Member) : Type 0 where
  pub read : IsRead first now
  pub counted : failures_of now ≡ failures_of first
  pub midway : IsTold first → Gathered (rows_at first.pages schema file) column from done

pub gathering_start : (pool : PoolState) (schema : List (List ℕ × Kind)) (file : TupleFile) (column : ℕ) → Gathering pool pool schema file column 0 []
gathering_start pool schema file column = record { read = IsRead-refl pool; counted = refl; midway = λ told. gathered_start (rows_at pool.pages schema file) column }

-- the file stands still
pub gathering_table : (first now : PoolState) (schema : List (List ℕ × Kind)) (file : TupleFile) (column from : ℕ) (done : List Member) → Gathering first now schema file column from done
    → (IsTold first → TableStands first.pages schema file) → IsTold now → TableStands now.pages schema file
gathering_table first now schema file column from done k table told =
    let P : PageMap → Type 0 = λ m. TableStands m schema file in
    subst P (sym k.read.pages) (table (sym k.read.told ∙ told))

-- what a look finds is the first row from the id on
found_first : (first now : PoolState) (schema : List (List ℕ × Kind)) (file : TupleFile) (from : ℕ) (found : Option (ℕ × List Value)) → IsRead first now
    → (IsTold now → found ≡ find (λ r. nat_le from r.0) (rows_at now.pages schema file)) → IsTold first → found ≡ find (λ r. nat_le from r.0) (rows_at first.pages schema file)
found_first first now schema file from found r e told =
    let P : PageMap → Type 0 = λ m. found ≡ find (λ r. nat_le from r.0) (rows_at m schema file) in
    subst P r.pages (e (r.told ∙ told))

-- a step of the loop
pub gathering_next : (first now next : PoolState) (schema : List (List ℕ × Kind)) (file : TupleFile) (column from id : ℕ) (done : List Member) (row : List Value) (s : Shape) (q : Rough)
    → Gathering first now schema file column from done → (IsTold first → TableStands first.pages schema file) → IsRead now next → failures_of next ≡ failures_of now
    → (IsTold now → Some (id, row) ≡ find (λ r. nat_le from r.0) (rows_at now.pages schema file)) → shape_in column row ≡ Some s → figure_of q ≡ rough_figure s
    → Gathering first next schema file column (id + 1) (done ++ (id, q) ∷ [])
gathering_next first now next schema file column from id done row s q k table r faults e shape figure = record {
  read = IsRead-trans first now next k.read r;
  counted = faults ∙ k.counted;
  midway = λ told.
      gathered_next (rows_at first.pages schema file) column from id done row s q (rises_at first.pages schema file (table told).file) (k.midway told)
      (found_first first now schema file from (Some (id, row)) k.read e told) shape figure;
}

-- all are gathered
pub gathering_end : (first now : PoolState) (schema : List (List ℕ × Kind)) (file : TupleFile) (column from : ℕ) (done : List Member) → Gathering first now schema file column from done
    → (IsTold now → None ≡ find (λ (r : ℕ × List Value). nat_le from r.0) (rows_at now.pages schema file)) → IsTold first
    → AreMembersOf done (shapes_of column (rows_at first.pages schema file))
gathering_end first now schema file column from done k e told =
    gathered_end (rows_at first.pages schema file) column from done (k.midway told) (found_first first now schema file from None k.read e told)

-- no id of a file's rows is that of two shapes

none_above : (q n : ℕ) (ns : List ℕ) → q ≤ n → Above n ns → times q ns ≡ 0
none_above q n [] l h = refl
none_above q n (x ∷ ns) l h = elim (same_cases q x) [
  | inl y ↦ absurd (omega (arith, l, h.0, y.1))
  | inr y ↦ omega (arith, y.0, none_above q n ns l h.1)
]

rises_once : (q : ℕ) (ns : List ℕ) → RiseStrictly ns → times q ns ≤ 1
rises_once q [] h = omega arith
rises_once q (x ∷ ns) h = elim (same_cases q x) [
  | inl y ↦ omega (arith, y.0, none_above q x ns (omega (arith, y.1)) h.0)
  | inr y ↦ omega (arith, y.0, rises_once q ns h.1)
]

pub shapes_once : (m : PageMap) (schema : List (List ℕ × Kind)) (file : TupleFile) (column : ℕ) → TableStands m schema file → HasRowsOnce (shapes_of column (rows_at m schema file))
shapes_once m schema file column h id =
    rises_once id (ids_of (shapes_of column (rows_at m schema file))) (rises_shapes column (rows_at m schema file) (rises_at m schema file h.file))

-- What is gathered of a relation x that is r, as code sees it, can be built into a tree.
pub gathered_asks : (m : PageMap) (limits : Limits) (x r : RelationView) (column : ℕ) (list is : List Member) → x ≡ r → list ≡ is → RelationStands m limits r
    → AreMembersOf is (shapes_of column (rows_in m x)) → (shapes : Shapes) × (AreMembersOf list shapes × HasRowsOnce shapes)
gathered_asks m limits x r column list is e same h members =
    let H : RelationView → Type 0 = λ y. RelationStands m limits y in
    let M : List Member → Type 0 = λ xs. AreMembersOf xs (shapes_of column (rows_in m x)) in
    (shapes_of column (rows_in m x), (subst M (sym same) members, shapes_once m x.schema x.file column (subst H (sym e) h).table))
