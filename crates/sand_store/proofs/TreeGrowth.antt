-- A quadtree grows by the last row of a file.
use Rattle.std.proofs.Common.{◌≡◌, ◌≢◌, ℕ, ◌<◌, ◌≤◌, true, List, [], ◌∷◌, ◌++◌, sym, ◌∙◌, ap, ap₂, Some, subst, arith, inl, inr}
use Rattle.std.proofs.lemmas.Bool.{lt-ltb}
use Rattle.std.proofs.lemmas.Bool.Decides.{eqb_tells}
use Rattle.page_pool.specs.Disk.{PageMap}
use Rattle.pmr_tree.specs.Calls.{Grows}
use Rattle.pmr_tree.specs.Laws.{AreInPlane, GrownFits}
use Rattle.pmr_tree.specs.Lists.{Each}
use Rattle.pmr_tree.specs.Quadtree.{tree_at, FitsOthers, KeepsShape}
use Rattle.pmr_tree.specs.declared.quadtree.Pmr.{Pmr}
use Rattle.pmr_tree.proofs.AscendingLists.{each_map}
use Rattle.pmr_tree.proofs.ShapeLaws.{meets_alike, grown_alike, fits_alike}
use Rattle.pmr_tree.proofs.TreeAt.{shaped_shallow}
use Rattle.sand_base.specs.declared.kind.Kind.{Kind}
use Rattle.sand_base.specs.declared.limits.Limits.{Limits}
use Rattle.sand_base.specs.declared.shape.Shape.{Shape}
use Rattle.sand_base.specs.declared.value.Value.{Value}
use Rattle.sand_model.specs.Database.{Quadtree as tree_index, shape_in, shapes_of, shape_at, meets_block, tree_with, index_with}
use Rattle.sand_model.specs.Measure.{Measure, IsMeasure}
use Rattle.sand_model.specs.StatementChecks.{is_overfull}
use Rattle.sand_model.specs.Tree.{Tree, root_block, Fits, add, listings}
use Rattle.tuple_file.specs.declared.file.TupleFile.{TupleFile}
use Rattle.sand_store.specs.declared.path.AccessPath.{AccessPath}
use Rattle.sand_store.specs.declared.path.AccessPath.TheVariants.{Quadtree}
use Rattle.sand_store.specs.Contents.{rows_at, index_in}
use Rattle.sand_store.specs.Steps.{CanGrow, PathGrew}
use Rattle.sand_store.specs.TableLaws.{shapes_plane}
use Rattle.sand_store.proofs.ColumnsOfShapes.{some_same}
use Rattle.sand_store.proofs.RowLists.{Rows, Shapes, ids_of, Below, shapes_more, below_shapes, rises_shapes, add_last, ids_more, shape_before, shape_last, shape_front}
use Rattle.sand_store.proofs.RowLists.{known_id, all_known, all_before, known_more, not_there}

-- shapes with the one of a new id, the greatest
record More (old new : Shapes) (id : ℕ) (s : Shape) : Type 0 where
  ids : ids_of new ≡ ids_of old ++ id ∷ []
  last : shape_at new id ≡ Some s
  front : (other : ℕ) → shape_at ((id, s) ∷ new) other ≡ shape_at new other
  before : Each (λ other. shape_at old other ≡ shape_at new other) (ids_of old)
  known : Each (λ other. Rattle.std.specs.Prelude.is_some (shape_at new other) ≡ true) (ids_of old)
  other : (i : ℕ) → i ≢ id → shape_at new i ≡ shape_at old i

more : (old new : Shapes) (id : ℕ) (s : Shape) → new ≡ old ++ (id, s) ∷ [] → Below id (ids_of old) → More old new id s
more old new id s e b =
    let P : Shapes → Type 0 = λ xs. More old xs id s in
    subst P (sym e) (record {
      ids = ids_more old id s;
      last = shape_last old id s b;
      front = λ i. shape_front old id s b i;
      before = all_before old id s (ids_of old) b;
      known = known_more old id s (ids_of old) b (all_known old);
      other = λ i n. shape_before old id i s n;
    })

-- the shapes of the file are those of the rows before, and the new one
grown_shapes : (m : PageMap) (limits : Limits) (schema : List (List ℕ × Kind)) (file : TupleFile) (id column : ℕ) (row : List Value) (a : AccessPath) (s : Shape)
    → (h : CanGrow m limits schema file id row (column, a)) → shape_in column row ≡ Some s
    → More (shapes_of column h.before) (shapes_of column (rows_at m schema file)) id s
grown_shapes m limits schema file id column row a s h e =
    more (shapes_of column h.before) (shapes_of column (rows_at m schema file)) id s
    (ap (λ (rows : Rows). shapes_of column rows) h.rows ∙ shapes_more column h.before id row s e) (below_shapes column id h.before h.below)

-- it fits the rows before, told by the shapes of all
fits_before : (gap : Measure) (old new : Shapes) (id : ℕ) (s : Shape) (tree : Tree) → More old new id s
    → Fits (meets_block gap old) (ids_of old) root_block tree → Fits (meets_block gap new) (ids_of old) root_block tree
fits_before gap old new id s tree k fit =
    fits_alike (meets_block gap old) (meets_block gap new) (ids_of old)
    (λ b. each_map (λ i. shape_at old i ≡ shape_at new i) (λ i. meets_block gap old b i ≡ meets_block gap new b i) (λ i e. meets_alike gap old new b i e) (ids_of old) k.before) root_block tree fit

-- what an insertion asks
pub fits_others : (m : PageMap) (limits : Limits) (schema : List (List ℕ × Kind)) (file : TupleFile) (id column : ℕ) (row : List Value) (t : Pmr) (s : Shape)
    → CanGrow m limits schema file id row (column, Quadtree t) → shape_in column row ≡ Some s → (gap : Measure) → IsMeasure gap
    → FitsOthers gap (shapes_of column (rows_at m schema file)) id (tree_at m t)
fits_others m limits schema file id column row t s h e gap is =
    let old : Shapes = shapes_of column h.before in
    let new : Shapes = shapes_of column (rows_at m schema file) in
    let k = grown_shapes m limits schema file id column row (Quadtree t) s h e in
    record {
      ids = ids_of old;
      rise = rises_shapes column h.before h.rise;
      listed = k.known;
      new = not_there id (ids_of old) (below_shapes column id h.before h.below);
      fits = fits_before gap old new id s (tree_at m t) k (h.stands.fits.fits gap is);
    }

-- the new row in front of the others changes no tree
pub grown_same : (gap : Measure) (m : PageMap) (limits : Limits) (schema : List (List ℕ × Kind)) (file : TupleFile) (id column : ℕ) (row : List Value) (a : AccessPath) (s : Shape)
    (threshold : ℕ) (tree : Tree) → CanGrow m limits schema file id row (column, a) → shape_in column row ≡ Some s
    → tree_with gap ((id, s) ∷ shapes_of column (rows_at m schema file)) threshold id tree ≡ tree_with gap (shapes_of column (rows_at m schema file)) threshold id tree
grown_same gap m limits schema file id column row a s threshold tree h e =
    let new : Shapes = shapes_of column (rows_at m schema file) in
    let k = grown_shapes m limits schema file id column row a s h e in
    grown_alike (meets_block gap ((id, s) ∷ new)) (meets_block gap new) (λ b i. meets_alike gap ((id, s) ∷ new) new b i (k.front i)) threshold id root_block tree

-- the rough shapes of all rows
roughs_grown : (m w : PageMap) (old new : Shapes) (id : ℕ) (s : Shape) (t u : Pmr) → More old new id s → Below id (ids_of old)
    → ((i : ℕ) (x : Shape) → shape_at old i ≡ Some x → KeepsShape m t i x) → Grows m w t u new id s → (i : ℕ) (x : Shape) → shape_at new i ≡ Some x → KeepsShape w u i x
roughs_grown m w old new id s t u k below had g i x e = elim (eqb_tells i id) [
  | inl y ↦
      let P : ℕ → Type 0 = λ j. KeepsShape w u j s in
      let Q : Shape → Type 0 = λ o. KeepsShape w u i o in
      let same : s ≡ x = some_same s x (sym k.last ∙ (ap (λ (j : ℕ). shape_at new j) (sym y.1) ∙ e)) in
      subst Q same (subst P (sym y.1) g.rough)
  | inr y ↦
      let was : shape_at old i ≡ Some x = sym (k.other i y.1) ∙ e in
      let some : 1 ≤ i = known_id old i x (λ j. 1 ≤ j) (each_map (λ j. (1 ≤ j) × (j < id)) (λ j. 1 ≤ j) (λ j b. b.0) (ids_of old) below) was in
      g.others i x some y.1 (had i x was)
]

-- A quadtree has grown.
pub tree_grew : GrownFits → (m w : PageMap) (limits : Limits) (schema : List (List ℕ × Kind)) (file : TupleFile) (id column : ℕ) (row : List Value) (t u : Pmr) (s : Shape)
    → CanGrow m limits schema file id row (column, Quadtree t) → shape_in column row ≡ Some s → Grows m w t u (shapes_of column (rows_at m schema file)) id s
    → listings (tree_at w u) ≤ limits.listings → PathGrew m w limits schema (rows_at m schema file) id column (Quadtree t) (Quadtree u)
tree_grew law m w limits schema file id column row t u s h e g few =
    let old : Shapes = shapes_of column h.before in
    let new : Shapes = shapes_of column (rows_at m schema file) in
    let k = grown_shapes m limits schema file id column row (Quadtree t) s h e in
    let below : Below id (ids_of old) = below_shapes column id h.before h.below in
    let plane : AreInPlane new = shapes_plane schema column (rows_at m schema file) h.table.rows in
    let tree : (gap : Measure) → IsMeasure gap → tree_at w u ≡ tree_with gap new t.threshold id (tree_at m t) =
    λ gap is. g.grown gap is ∙ grown_same gap m limits schema file id column row (Quadtree t) s t.threshold (tree_at m t) h e in
    let ids : add id (ids_of old) ≡ ids_of new = add_last id (ids_of old) below ∙ sym k.ids in
    record {
      stands = record {
        split = (omega (arith, h.stands.split.0, g.stays.threshold), omega (arith, h.stands.split.1, g.stays.threshold));
        fits = record {
          tree = g.stays.is;
          fits = λ gap is.
              let P : List ℕ → Type 0 = λ ns. Fits (meets_block gap new) ns root_block (tree_with gap new t.threshold id (tree_at m t)) in
              let Q : Tree → Type 0 = λ x. Fits (meets_block gap new) (ids_of new) root_block x in
              subst Q (sym (tree gap is)) (subst P ids (law gap is new (ids_of old) t.threshold id (tree_at m t) plane (rises_shapes column h.before h.rise)
              (shaped_shallow root_block (tree_at m t) h.stands.fits.tree.shaped) (fits_before gap old new id s (tree_at m t) k (h.stands.fits.fits gap is))));
          roughs = roughs_grown m w old new id s t u k below h.stands.fits.roughs g;
        };
        few = few;
      };
      means = λ gap is. ap₂ (λ (n : ℕ) (x : Tree). (column, tree_index n x)) g.stays.threshold (tree gap is);
      keeps = g.stays.keeps;
    }

-- a full quadtree is an overfull index
pub tree_full : (gap : Measure) (m : PageMap) (limits : Limits) (schema : List (List ℕ × Kind)) (file : TupleFile) (id column : ℕ) (row : List Value) (t : Pmr) (s : Shape)
    → CanGrow m limits schema file id row (column, Quadtree t) → shape_in column row ≡ Some s
    → limits.listings < listings (tree_with gap ((id, s) ∷ shapes_of column (rows_at m schema file)) t.threshold id (tree_at m t))
    → is_overfull limits (index_with gap (rows_at m schema file) id (column, index_in m (Quadtree t))) ≡ true
tree_full gap m limits schema file id column row t s h e l =
    lt-ltb limits.listings (listings (tree_with gap (shapes_of column (rows_at m schema file)) t.threshold id (tree_at m t)))
    (let same = ap (λ (x : Tree). listings x) (grown_same gap m limits schema file id column row (Quadtree t) s t.threshold (tree_at m t) h e) in omega (arith, l, same))
