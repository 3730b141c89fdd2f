-- A quadtree takes the row of an id of a file, after those of lesser ids; rows of greater ids stand in the file too.
use Rattle.std.proofs.Common.{◌≡◌, ℕ, ◌<◌, ◌≤◌, Bool, true, false, nat_eq, List, [], ◌∷◌, ◌++◌, refl, sym, ◌∙◌, ap, ap₂, Some, None, Option, subst, arith, inl, inr, true≢false}
use Rattle.std.specs.Prelude.{is_some}
use Rattle.std.proofs.lemmas.List.{append_assoc}
use Rattle.std.proofs.lemmas.Bool.{lt-ltb}
use Rattle.std.proofs.lemmas.Bool.Decides.{eqb_tells}
use Rattle.page_pool.specs.Disk.{PageMap}
use Rattle.pmr_tree.specs.Calls.{Grows}
use Rattle.pmr_tree.specs.Laws.{AreInPlane, GrownFits}
use Rattle.pmr_tree.specs.Lists.{Each, RiseStrictly}
use Rattle.pmr_tree.specs.Quadtree.{tree_at, FitsOthers, KeepsShape}
use Rattle.pmr_tree.specs.declared.quadtree.Pmr.{Pmr}
use Rattle.pmr_tree.proofs.AscendingLists.{each_map, rises_add}
use Rattle.pmr_tree.proofs.ShapeLaws.{meets_alike, grown_alike, fits_alike, shallow_grown}
use Rattle.pmr_tree.proofs.TreeAt.{shaped_shallow}
use Rattle.sand_base.specs.declared.kind.Kind.{Kind}
use Rattle.sand_base.specs.declared.limits.Limits.{Limits}
use Rattle.sand_base.specs.declared.shape.Shape.{Shape}
use Rattle.sand_base.specs.declared.value.Value.{Value}
use Rattle.sand_model.specs.Database.{Quadtree as tree_index, shape_in, shapes_of, shape_at, meets_block, tree_with}
use Rattle.sand_model.specs.Measure.{Measure, IsMeasure}
use Rattle.sand_model.specs.StatementChecks.{is_overfull}
use Rattle.sand_model.specs.Tree.{Tree, root_block, Fits, IsShallow, add, listings}
use Rattle.tuple_file.specs.declared.file.TupleFile.{TupleFile}
use Rattle.sand_store.specs.declared.path.AccessPath.TheVariants.{Quadtree}
use Rattle.sand_store.specs.Building.{rows_entered, index_after, CanTake, PathTook}
use Rattle.sand_store.specs.Contents.{rows_at, index_in}
use Rattle.sand_store.specs.TableLaws.{shapes_plane}
use Rattle.ring_geom.specs.MeasureLaws.{ChildrenMeet}
use Rattle.sand_store.proofs.Listings.{entered_listings}
use Rattle.sand_store.proofs.ColumnsOfShapes.{some_same}
use Rattle.sand_store.proofs.RowLists.{Rows, Shapes, ids_of, Below, shapes_more, below_shapes, rises_shapes, add_last, ids_more, shape_before, shape_last, known_id, all_known, not_there}

-- the shapes of rows in two parts
pub shapes_append : (column : ℕ) (a b : Rows) → shapes_of column (a ++ b) ≡ shapes_of column a ++ shapes_of column b
shapes_append column [] b = refl
shapes_append column (r ∷ a) b =
    let rest : shapes_of column (a ++ b) ≡ shapes_of column a ++ shapes_of column b = shapes_append column a b in
    let go : (o : Option Shape) → shape_in column r.1 ≡ o → shapes_of column ((r ∷ a) ++ b) ≡ shapes_of column (r ∷ a) ++ shapes_of column b =
    elim [ None ↦ λ n. rw n rest | Some x ↦ λ n. rw n (ap (λ (xs : Shapes). (r.0, x) ∷ xs) rest) ] in
    go (shape_in column r.1) refl

-- and of a row before others
pub shapes_first : (column : ℕ) (rows : Rows) (id : ℕ) (row : List Value) (s : Shape) → shape_in column row ≡ Some s → shapes_of column ((id, row) ∷ rows) ≡ (id, s) ∷ shapes_of column rows
shapes_first column rows id row s e = rw e refl

-- an id that has a shape among some has the same among more
shape_stays : (a b : Shapes) (id : ℕ) → is_some (shape_at a id) ≡ true → shape_at a id ≡ shape_at (a ++ b) id
shape_stays [] b id h = absurd (true≢false (sym h))
shape_stays (x ∷ a) b id h =
    let go : (t : Bool) → nat_eq x.0 id ≡ t → shape_at (x ∷ a) id ≡ shape_at ((x ∷ a) ++ b) id =
    elim [ true ↦ λ e. rw e refl | false ↦ λ e. rw e (shape_stays a b id (sym (ap (λ (o : Option Shape). is_some o) (there e)) ∙ h)) ] in
    go (nat_eq x.0 id) refl
  where
    there : nat_eq x.0 id ≡ false → shape_at (x ∷ a) id ≡ shape_at a id
    there e = rw e refl

pub shapes_stay : (a b : Shapes) → Each (λ id. shape_at a id ≡ shape_at (a ++ b) id) (ids_of a)
shapes_stay a b = each_map (λ id. is_some (shape_at a id) ≡ true) (λ id. shape_at a id ≡ shape_at (a ++ b) id) (λ id h. shape_stays a b id h) (ids_of a) (all_known a)

-- a tree that fits some ids fits them by the shapes of more, and back
fits_by : (gap : Measure) (a b : Shapes) (ids : List ℕ) (tree : Tree) → Each (λ id. shape_at a id ≡ shape_at b id) ids
    → Fits (meets_block gap a) ids root_block tree → Fits (meets_block gap b) ids root_block tree
fits_by gap a b ids tree same fit =
    fits_alike (meets_block gap a) (meets_block gap b) ids
    (λ block. each_map (λ i. shape_at a i ≡ shape_at b i) (λ i. meets_block gap a block i ≡ meets_block gap b block i) (λ i e. meets_alike gap a b block i e) ids same) root_block tree fit

-- Shapes of a file, those before an id, its own, and those after it.
pub record Parts (all old : Shapes) (id : ℕ) (s : Shape) : Type 0 where
  pub more : Shapes
  pub parts : all ≡ (old ++ (id, s) ∷ []) ++ more
  pub below : Below id (ids_of old)

pub shapes_in_parts : (m : PageMap) (limits : Limits) (schema : List (List ℕ × Kind)) (file : TupleFile) (id column : ℕ) (row : List Value) (t : Pmr) (s : Shape)
    → (h : CanTake m limits schema file id row (column, Quadtree t)) → shape_in column row ≡ Some s → Parts (shapes_of column (rows_at m schema file)) (shapes_of column h.before) id s
shapes_in_parts m limits schema file id column row t s h e =
    let mid : Rows = h.before ++ (id, row) ∷ [] in
    let rows : rows_at m schema file ≡ mid ++ h.rest = h.rows ∙ sym (append_assoc h.before ((id, row) ∷ []) h.rest) in
    record {
      more = shapes_of column h.rest;
      parts = ap (λ (xs : Rows). shapes_of column xs) rows ∙ (shapes_append column mid h.rest ∙ ap (λ (xs : Shapes). xs ++ shapes_of column h.rest) (shapes_more column h.before id row s e));
      below = below_shapes column id h.before h.below;
    }

-- the shapes of those before are among all
before_among : (all old : Shapes) (id : ℕ) (s : Shape) → Parts all old id s → Each (λ other. shape_at old other ≡ shape_at all other) (ids_of old)
before_among all old id s p =
    let P : Shapes → Type 0 = λ xs. Each (λ other. shape_at old other ≡ shape_at xs other) (ids_of old) in
    subst P (sym (p.parts ∙ append_assoc old ((id, s) ∷ []) p.more)) (shapes_stay old ((id, s) ∷ [] ++ p.more))

-- and those with its own
with_among : (all old : Shapes) (id : ℕ) (s : Shape) → Parts all old id s
    → Each (λ other. shape_at (old ++ (id, s) ∷ []) other ≡ shape_at all other) (ids_of (old ++ (id, s) ∷ []))
with_among all old id s p =
    let new : Shapes = old ++ (id, s) ∷ [] in
    let P : Shapes → Type 0 = λ xs. Each (λ other. shape_at new other ≡ shape_at xs other) (ids_of new) in
    subst P (sym p.parts) (shapes_stay new p.more)

-- the id has this shape among all
its_shape : (all old : Shapes) (id : ℕ) (s : Shape) → Parts all old id s → shape_at all id ≡ Some s
its_shape all old id s p =
    let new : Shapes = old ++ (id, s) ∷ [] in
    let last : shape_at new id ≡ Some s = shape_last old id s p.below in
    let there : shape_at new id ≡ shape_at (new ++ p.more) id = shape_stays new p.more id (ap (λ (o : Option Shape). is_some o) last) in
    ap (λ (xs : Shapes). shape_at xs id) p.parts ∙ (sym there ∙ last)

-- what an insertion asks
pub fits_before : (m : PageMap) (limits : Limits) (schema : List (List ℕ × Kind)) (file : TupleFile) (id column : ℕ) (row : List Value) (t : Pmr) (s : Shape)
    → CanTake m limits schema file id row (column, Quadtree t) → shape_in column row ≡ Some s → (gap : Measure) → IsMeasure gap
    → FitsOthers gap (shapes_of column (rows_at m schema file)) id (tree_at m t)
fits_before m limits schema file id column row t s h e gap is =
    let old : Shapes = shapes_of column h.before in
    let all : Shapes = shapes_of column (rows_at m schema file) in
    let p = shapes_in_parts m limits schema file id column row t s h e in
    let same = before_among all old id s p in
    record {
      ids = ids_of old;
      rise = rises_shapes column h.before h.rise;
      listed = listed old all (ids_of old) same (all_known old);
      new = not_there id (ids_of old) p.below;
      fits = fits_by gap old all (ids_of old) (tree_at m t) same (h.stands.fits.fits gap is);
    }
  where
    listed : (old all : Shapes) (ids : List ℕ) → Each (λ other. shape_at old other ≡ shape_at all other) ids → Each (λ other. is_some (shape_at old other) ≡ true) ids
        → Each (λ other. is_some (shape_at all other) ≡ true) ids
    listed old all [] a b = tt
    listed old all (n ∷ ns) a b = (sym (ap (λ (o : Option Shape). is_some o) a.0) ∙ b.0, listed old all ns a.1 b.1)

-- the shape of the id in front of all changes no tree
grown_same : (gap : Measure) (all : Shapes) (id threshold : ℕ) (s : Shape) (tree : Tree) → shape_at all id ≡ Some s
    → tree_with gap ((id, s) ∷ all) threshold id tree ≡ tree_with gap all threshold id tree
grown_same gap all id threshold s tree e =
    grown_alike (meets_block gap ((id, s) ∷ all)) (meets_block gap all) (λ b i. meets_alike gap ((id, s) ∷ all) all b i (front i)) threshold id root_block tree
  where
    front : (i : ℕ) → shape_at ((id, s) ∷ all) i ≡ shape_at all i
    front i = elim (eqb_tells id i) [ inl y ↦ rw y.0 (sym (ap (λ (k : ℕ). shape_at all k) (sym y.1) ∙ e)) | inr y ↦ rw y.0 refl ]

-- the tree that an insertion makes is that of all rows
pub tree_same : (gap : Measure) (m : PageMap) (limits : Limits) (schema : List (List ℕ × Kind)) (file : TupleFile) (id column : ℕ) (row : List Value) (t : Pmr)
    (s : Shape) (threshold : ℕ) (tree : Tree)
    → CanTake m limits schema file id row (column, Quadtree t) → shape_in column row ≡ Some s
    → tree_with gap ((id, s) ∷ shapes_of column (rows_at m schema file)) threshold id tree ≡ tree_with gap (shapes_of column (rows_at m schema file)) threshold id tree
tree_same gap m limits schema file id column row t s threshold tree h e =
    let all : Shapes = shapes_of column (rows_at m schema file) in
    grown_same gap all id threshold s tree (its_shape all (shapes_of column h.before) id s (shapes_in_parts m limits schema file id column row t s h e))

-- the rough shapes of all rows that were entered
roughs_taken : (m w : PageMap) (all old : Shapes) (id : ℕ) (s : Shape) (t u : Pmr) → Below id (ids_of old) → ((i : ℕ) (x : Shape) → shape_at old i ≡ Some x → KeepsShape m t i x)
    → Grows m w t u all id s → (i : ℕ) (x : Shape) → shape_at (old ++ (id, s) ∷ []) i ≡ Some x → KeepsShape w u i x
roughs_taken m w all old id s t u below had g i x e = elim (eqb_tells i id) [
  | inl y ↦
      let new : Shapes = old ++ (id, s) ∷ [] in
      let P : ℕ → Type 0 = λ j. KeepsShape w u j s in
      let Q : Shape → Type 0 = λ o. KeepsShape w u i o in
      let same : s ≡ x = some_same s x (sym (shape_last old id s below) ∙ (ap (λ (j : ℕ). shape_at new j) (sym y.1) ∙ e)) in
      subst Q same (subst P (sym y.1) g.rough)
  | inr y ↦
      let was : shape_at old i ≡ Some x = sym (shape_before old id i s y.1) ∙ e in
      let some : 1 ≤ i = known_id old i x (λ j. 1 ≤ j) (each_map (λ j. (1 ≤ j) × (j < id)) (λ j. 1 ≤ j) (λ j b. b.0) (ids_of old) below) was in
      g.others i x some y.1 (had i x was)
]

-- A quadtree has taken the row.
pub tree_took : GrownFits → (m w : PageMap) (limits : Limits) (schema : List (List ℕ × Kind)) (file : TupleFile) (id column : ℕ) (row : List Value) (t u : Pmr) (s : Shape)
    → (h : CanTake m limits schema file id row (column, Quadtree t)) → shape_in column row ≡ Some s → Grows m w t u (shapes_of column (rows_at m schema file)) id s
    → listings (tree_at w u) ≤ limits.listings → PathTook m w limits schema (rows_at m schema file) h.before id row column (Quadtree t) (Quadtree u)
tree_took law m w limits schema file id column row t u s h e g few =
    let old : Shapes = shapes_of column h.before in
    let new : Shapes = old ++ (id, s) ∷ [] in
    let all : Shapes = shapes_of column (rows_at m schema file) in
    let p = shapes_in_parts m limits schema file id column row t s h e in
    let plane : AreInPlane all = shapes_plane schema column (rows_at m schema file) h.table.rows in
    let tree : (gap : Measure) → IsMeasure gap → tree_at w u ≡ tree_with gap all t.threshold id (tree_at m t) =
    λ gap is. g.grown gap is ∙ tree_same gap m limits schema file id column row t s t.threshold (tree_at m t) h e in
    let ids : add id (ids_of old) ≡ ids_of new = add_last id (ids_of old) p.below ∙ sym (ids_more old id s) in
    let back : Each (λ other. shape_at all other ≡ shape_at new other) (ids_of new) =
    each_map (λ other. shape_at new other ≡ shape_at all other) (λ other. shape_at all other ≡ shape_at new other) (λ other k. sym k) (ids_of new) (with_among all old id s p) in
    let mine : shapes_of column (h.before ++ (id, row) ∷ []) ≡ new = shapes_more column h.before id row s e in
    let F : Shapes → Type 0 = λ xs. (gap : Measure) → IsMeasure gap → Fits (meets_block gap xs) (ids_of xs) root_block (tree_at w u) in
    let K : Shapes → Type 0 = λ xs. (i : ℕ) (x : Shape) → shape_at xs i ≡ Some x → KeepsShape w u i x in
    record {
      stands = record {
        split = (omega (arith, h.stands.split.0, g.stays.threshold), omega (arith, h.stands.split.1, g.stays.threshold));
        fits = record {
          tree = g.stays.is;
          fits = subst F (sym mine) (λ gap is. (let P : List ℕ → Type 0 = λ ns. Fits (meets_block gap all) ns root_block (tree_with gap all t.threshold id (tree_at m t)) in
              let Q : Tree → Type 0 = λ x. Fits (meets_block gap new) (ids_of new) root_block x in
              subst Q (sym (tree gap is)) (fits_by gap all new (ids_of new) (tree_with gap all t.threshold id (tree_at m t)) back
              (subst P ids (law gap is all (ids_of old) t.threshold id (tree_at m t) plane (rises_shapes column h.before h.rise)
              (shaped_shallow root_block (tree_at m t) h.stands.fits.tree.shaped)
              (fits_by gap old all (ids_of old) (tree_at m t) (before_among all old id s p) (h.stands.fits.fits gap is)))))));
          roughs = subst K (sym mine) (roughs_taken m w all old id s t u p.below h.stands.fits.roughs g);
        };
        few = few;
      };
      means = λ gap is more.
          let ids : List ℕ = ids_of (shapes_of column more) in
          ap₂ (λ (n : ℕ) (x : Tree). tree_index n (rows_entered gap all n ids x)) g.stays.threshold (tree gap is)
          ∙ ap (λ (xs : Shapes). tree_index t.threshold (rows_entered gap all t.threshold (ids_of xs) (tree_at m t))) (sym (shapes_first column more id row s e));
      keeps = g.stays.keeps;
    }

-- A quadtree that would be too full is so with all rows.
pub tree_too_full : ChildrenMeet → GrownFits → (gap : Measure) → IsMeasure gap
    → (m : PageMap) (limits : Limits) (schema : List (List ℕ × Kind)) (file : TupleFile) (id column : ℕ) (row : List Value) (t : Pmr) (s : Shape)
    → (h : CanTake m limits schema file id row (column, Quadtree t)) → shape_in column row ≡ Some s
    → limits.listings < listings (tree_with gap ((id, s) ∷ shapes_of column (rows_at m schema file)) t.threshold id (tree_at m t))
    → is_overfull limits (column, index_after gap (rows_at m schema file) column ((id, row) ∷ h.rest) (index_in m (Quadtree t))) ≡ true
tree_too_full children law gap is m limits schema file id column row t s h e l =
    let old : Shapes = shapes_of column h.before in
    let all : Shapes = shapes_of column (rows_at m schema file) in
    let p = shapes_in_parts m limits schema file id column row t s h e in
    let plane : AreInPlane all = shapes_plane schema column (rows_at m schema file) h.table.rows in
    let next : Tree = tree_with gap all t.threshold id (tree_at m t) in
    let ids : List ℕ = ids_of (shapes_of column h.rest) in
    let last : Tree = rows_entered gap all t.threshold ids next in
    let shallow : IsShallow root_block (tree_at m t) = shaped_shallow root_block (tree_at m t) h.stands.fits.tree.shaped in
    let rise : RiseStrictly (ids_of old) = rises_shapes column h.before h.rise in
    let rises : listings next ≤ listings last =
    entered_listings children law gap is all (add id (ids_of old)) ids t.threshold next plane (rises_add id (ids_of old) rise)
    (shallow_grown (meets_block gap all) t.threshold id root_block (tree_at m t) shallow)
    (law gap is all (ids_of old) t.threshold id (tree_at m t) plane rise shallow (fits_by gap old all (ids_of old) (tree_at m t) (before_among all old id s p) (h.stands.fits.fits gap is))) in
    let same : listings (tree_with gap ((id, s) ∷ all) t.threshold id (tree_at m t)) ≡ listings next =
    ap (λ (x : Tree). listings x) (tree_same gap m limits schema file id column row t s t.threshold (tree_at m t) h e) in
    ap (λ (xs : Shapes). is_overfull limits (column, tree_index t.threshold (rows_entered gap all t.threshold (ids_of xs) (tree_at m t)))) (shapes_first column h.rest id row s e)
    ∙ lt-ltb limits.listings (listings last) (omega (arith, l, same, rises))
