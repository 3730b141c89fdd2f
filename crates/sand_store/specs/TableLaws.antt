-- A file of rows depends only on its own pages, and the shapes of its rows lie in the plane.
use Rattle.std.proofs.Common.{◌≡◌, ℕ, zero, suc, ◌≤◌, List, [], ◌∷◌, map, refl, sym, ◌∙◌, ap, subst, true≢false}
use Rattle.std.specs.Prelude.{Option, None, Some, is_some, option_map, filter_map}
use Rattle.std.proofs.lemmas.List.Elements.{All-head, All-tail}
use Rattle.page_pool.specs.Disk.{PageMap}
use Rattle.code_btree.specs.Tree.{times}
use Rattle.sand_base.specs.declared.kind.Kind.{Kind}
use Rattle.sand_base.specs.declared.shape.Shape.{Shape}
use Rattle.sand_base.specs.declared.value.Value.{Value}
use Rattle.sand_base.specs.declared.value.Value.TheVariants as value
use Rattle.sand_base.specs.InRange.{IsValueInRange, IsRowInRange}
use Rattle.sand_base.specs.Plane.{IsShapeInPlane}
use Rattle.sand_model.specs.Database.{shape_in, shapes_of}
use Rattle.tuple_codec.specs.Decoding.{IsRowFor}
use Rattle.pmr_tree.specs.Laws.{AreInPlane}
use Rattle.pmr_tree.specs.Quadtree.{store_of}
use Rattle.tuple_file.specs.declared.file.TupleFile.{TupleFile}
use Rattle.tuple_file.specs.File.{file_pages}
use Rattle.tuple_file.specs.Table.{encodings, AreRowsFor}
use Rattle.tuple_file.proofs.Houses.{unmoved}
use Rattle.sand_store.specs.Contents.{rows_at}
use Rattle.sand_store.specs.Standing.{TableStands}
use Rattle.sand_store.specs.Tuples.{row_in}

-- these pages are in w what they are in m
abbrev pub SameOn : PageMap → PageMap → List ℕ → Type 0
SameOn m w owned = (q : ℕ) → 1 ≤ times q owned → store_of w q ≡ store_of m q

-- a file whose pages stay has the same rows
pub rows_same : (m w : PageMap) (schema : List (List ℕ × Kind)) (file : TupleFile) → SameOn m w (file_pages (store_of m) file) → rows_at w schema file ≡ rows_at m schema file
rows_same m w schema file same = ap (λ (ts : List (ℕ × List ℕ)). map (λ t. (t.0, row_in schema t.1)) ts) (unmoved (store_of m) (store_of w) file same).rows

-- a file whose pages stay has the same shapes in a column
pub shapes_same : (m w : PageMap) (schema : List (List ℕ × Kind)) (file : TupleFile) (column : ℕ) → SameOn m w (file_pages (store_of m) file)
    → shapes_of column (rows_at w schema file) ≡ shapes_of column (rows_at m schema file)
shapes_same m w schema file column same = ap (λ (rows : List (ℕ × List Value)). shapes_of column rows) (rows_same m w schema file same)

-- a table whose pages stay still stands
pub table_same : (m w : PageMap) (schema : List (List ℕ × Kind)) (file : TupleFile) → SameOn m w (file_pages (store_of m) file) → TableStands m schema file → TableStands w schema file
table_same m w schema file same h =
    let u = unmoved (store_of m) (store_of w) file same in
    let e : rows_at w schema file ≡ rows_at m schema file = rows_same m w schema file same in
    record {
      file = u.file h.file;
      tuples = u.rows ∙ (h.tuples ∙ ap (λ (rows : List (ℕ × List Value)). encodings rows) (sym e));
      rows = subst (AreRowsFor schema) (sym e) h.rows;
    }

-- a file whose pages stay has no page more
pub pages_same : (m w : PageMap) (file : TupleFile) → SameOn m w (file_pages (store_of m) file) → (q : ℕ) → 1 ≤ times q (file_pages (store_of w) file) → 1 ≤ times q (file_pages (store_of m) file)
pages_same m w file same q l =
    let P : List ℕ → Type 0 = λ ps. 1 ≤ times q ps in
    subst P (unmoved (store_of m) (store_of w) file same).pages l

some_none : {A : Type 0} (x : A) → None ≡ Some x → ⊥
some_none x e = true≢false (sym (ap (λ o. is_some o) e))

some_is : (x y : Shape) → Some x ≡ Some y → x ≡ y
some_is x y e = ap value_or e where
  value_or : Option Shape → Shape
  value_or None = x
  value_or (Some s) = s

-- the shape of a row in range lies in the plane
pub shape_plane : (row : List Value) (column : ℕ) (s : Shape) → IsRowInRange row → shape_in column row ≡ Some s → IsShapeInPlane s
shape_plane [] column s h e = absurd (some_none s e)
shape_plane (value.Int n ∷ row) zero s h e = absurd (some_none s e)
shape_plane (value.Text bytes ∷ row) zero s h e = absurd (some_none s e)
shape_plane (value.Shape x ∷ row) zero s h e = subst IsShapeInPlane (some_is x s e) (All-head IsValueInRange (value.Shape x) row h)
shape_plane (v ∷ row) (suc column) s h e = shape_plane row column s (All-tail IsValueInRange v row h) e

-- so do those of all rows
pub shapes_plane : (schema : List (List ℕ × Kind)) (column : ℕ) (rows : List (ℕ × List Value)) → AreRowsFor schema rows → AreInPlane (shapes_of column rows)
shapes_plane schema column [] h = tt
shapes_plane schema column (row ∷ rows) h =
    let rest : AreInPlane (shapes_of column rows) = shapes_plane schema column rows (All-tail (λ (r : ℕ × List Value). IsRowFor schema r.1) row rows h) in
    let here : IsRowFor schema row.1 = All-head (λ (r : ℕ × List Value). IsRowFor schema r.1) row rows h in
    let go : (o : Option Shape) → shape_in column row.1 ≡ o → AreInPlane (filter_map (λ (r : ℕ × List Value). option_map (λ s. (r.0, s)) (shape_in column r.1)) (row ∷ rows)) =
    elim [ None ↦ λ e. rw e rest | Some s ↦ λ e. rw e (shape_plane row.1 column s here.in_range e, rest) ] in
    go (shape_in column row.1) refl
