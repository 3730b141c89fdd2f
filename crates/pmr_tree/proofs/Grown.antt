-- What the entries of a grown quadtree stand for.
use Rattle.std.proofs.Common.{◌≡◌, ℕ, suc, ◌≤◌, ◌↔◌, Bool, true, false, not, ◌||◌, List, [], ◌∷◌, refl, sym, ◌∙◌, ap, ap₂, subst, arith}
use Rattle.std.specs.Prelude.{nat_eq, Contains, IsTrue, Option, None, Some, is_some}
use Rattle.std.proofs.lemmas.Bool.{false≢true}
use Rattle.std.proofs.lemmas.Bool.Decides.{nat_tests}
use Rattle.page_pool.specs.Disk.{PageMap}
use Rattle.code_btree.specs.Tree.{IsTree}
use Rattle.code_btree.specs.Calls.{Keeps}
use Rattle.sand_base.specs.Plane.{IsShapeInPlane}
use Rattle.sand_base.specs.declared.goal.Goal.TheVariants as figure
use Rattle.sand_base.specs.declared.shape.Shape.{Shape}
use Rattle.z_code.specs.Block.{IsBlock, square_of}
use Rattle.z_code.specs.declared.block.Block.{Block}
use Rattle.z_code.proofs.Blocks.{square_in_closed_plane}
use Rattle.sand_model.specs.FigureGap.{IsMeeting}
use Rattle.sand_model.specs.Measure.{Measure, IsMeasure, meets}
use Rattle.sand_model.specs.Nodes.{rough_figure}
use Rattle.sand_model.specs.Database.{shape_at, meets_block, tree_with}
use Rattle.sand_model.specs.Tree.{root_block, IsFull}
use Rattle.ring_geom.specs.MeasureLaws.{ChildrenMeet, TestIsMeeting}
use Rattle.ring_geom.specs.Laws.{GapExists}
use Rattle.pmr_tree.specs.Lists.{Each}
use Rattle.pmr_tree.specs.Keys.{id_in}
use Rattle.pmr_tree.specs.Leaves.{Passes, id_test, Told}
use Rattle.pmr_tree.specs.Listing.{Pair}
use Rattle.pmr_tree.specs.Changes.{Becomes, grown_where}
use Rattle.pmr_tree.specs.Entries.{value_of}
use Rattle.pmr_tree.specs.Laws.{AreInPlane}
use Rattle.pmr_tree.specs.Quadtree.{store_of, quadtree_entries, keys_at, pages_at, tree_at, IsPmr, FitsOthers}
use Rattle.pmr_tree.specs.Calls.{Grows}
use Rattle.pmr_tree.specs.Plot.{TellsOf}
use Rattle.pmr_tree.specs.declared.quadtree.Pmr.{Pmr}
use Rattle.pmr_tree.proofs.AscendingLists.{each_map}
use Rattle.pmr_tree.proofs.GrownTrees.{grown_where_same, full_grown}
use Rattle.pmr_tree.proofs.TreeAt.{Changed, changed, shaped_shallow, fitted_keys, each_firsts}
use Rattle.pmr_tree.proofs.ShapeLaws.{rows_quarters, row_in_plane, shape_in_closed, is_root, meets_alike, fits_alike}

-- the ids that have a shape
abbrev pub has_shape : List (ℕ × Shape) → ℕ → Bool
has_shape rows id = is_some (shape_at rows id)

-- a measure tells of rows
pub measure_tells : TestIsMeeting → (gap : Measure) → IsMeasure gap → (rows : List (ℕ × Shape)) → AreInPlane rows → TellsOf rows (meets_block gap rows) (has_shape rows)
measure_tells law gap measure rows plane id has = go (shape_at rows id) refl where
  Told : Type 0
  Told = (s : Shape) × ((shape_at rows id ≡ Some s) × ((b : Block) → IsBlock b → IsTrue (meets_block gap rows b id) ↔ IsMeeting (figure.Shape s) (figure.Rect (square_of b))))

  go : (o : Option Shape) → shape_at rows id ≡ o
      → (s : Shape) × ((shape_at rows id ≡ Some s) × ((b : Block) → IsBlock b → IsTrue (meets_block gap rows b id) ↔ IsMeeting (figure.Shape s) (figure.Rect (square_of b))))
  go None e = absurd (false≢true (sym (ap is_some e) ∙ has))
  go (Some s) e = (
    s,
    (
      e,
      λ b block. subst (λ t. IsTrue t ↔ IsMeeting (figure.Shape s) (figure.Rect (square_of b))) (sym (meets_is b s e))
          (law gap measure s (square_of b) (shape_in_closed s (row_in_plane rows id s plane e)) (square_in_closed_plane b block)),
    ),
  )
    where
      meets_is : (b : Block) (s : Shape) → shape_at rows id ≡ Some s → meets_block gap rows b id ≡ meets gap s (square_of b)
      meets_is b s e = rw e refl

itself : (x : ℕ) → nat_eq x x ≡ true
itself x = grind (arith, nat_tests)

apart : (x y : ℕ) → (x ≡ y → ⊥) → nat_eq x y ≡ false
apart x y h = grind (arith, nat_tests)

same_of : (x y : ℕ) → nat_eq x y ≡ true → x ≡ y
same_of x y h = grind (arith, nat_tests)

-- the shape of a row that comes first, and of the others
pub first_shape : (id : ℕ) (s : Shape) (rows : List (ℕ × Shape)) → shape_at ((id, s) ∷ rows) id ≡ Some s
first_shape id s rows = rw (itself id) refl

pub other_shape : (id : ℕ) (s : Shape) (rows : List (ℕ × Shape)) (other : ℕ) → (id ≡ other → ⊥) → shape_at ((id, s) ∷ rows) other ≡ shape_at rows other
other_shape id s rows other h = rw (apart id other h) refl

-- ids among which one is not are each another one
each_other : (ids : List ℕ) (id : ℕ) → (Contains ids id → ⊥) → Each (λ other. id ≡ other → ⊥) ids
each_other [] id h = tt
each_other (x ∷ xs) id h = ((λ e. h (0, omega arith, sym e)), each_other xs id (λ c. h (suc c.0, omega (arith, c.1), c.2)))

-- the tests that entries pass
abbrev pub keeps_test : ℕ → ℕ → ℕ → ℕ → Bool
keeps_test id value i v = not (nat_eq i id) || nat_eq v value

pub passes_keeps : (es : List Pair) (id value : ℕ) → 1 ≤ id → Passes (keeps_test id value) es → Each (λ e. id_in e.0 ≡ id → e.1 ≡ value) es
passes_keeps [] id value some h = tt
passes_keeps (e ∷ es) id value some h = ((λ same. go same (h.0 (omega (arith, same, some)))), passes_keeps es id value some h.1) where
  go : id_in e.0 ≡ id → (not (nat_eq (id_in e.0) id) || nat_eq e.1 value) ≡ true → e.1 ≡ value
  go same t =
      let yes : nat_eq (id_in e.0) id ≡ true = subst (λ x. nat_eq (id_in e.0) x ≡ true) same (itself (id_in e.0)) in
      same_of e.1 value (subst (λ c. (not c || nat_eq e.1 value) ≡ true) yes t)

pub keeps_passes : (es : List Pair) (id value : ℕ) → Each (λ e. id_in e.0 ≡ id → e.1 ≡ value) es → Passes (keeps_test id value) es
keeps_passes [] id value h = tt
keeps_passes (e ∷ es) id value h = ((λ some. go (nat_eq (id_in e.0) id) refl), keeps_passes es id value h.1) where
  go : (c : Bool) → nat_eq (id_in e.0) id ≡ c → (not (nat_eq (id_in e.0) id) || nat_eq e.1 value) ≡ true
  go true t = (let v = h.0 (same_of (id_in e.0) id t) in rw (t, subst (λ x. nat_eq e.1 x ≡ true) v (itself e.1)) refl)
  go false t = rw t refl

-- another id passes
other_passes : (other value id v : ℕ) → (id ≡ other → ⊥) → keeps_test other value id v ≡ true
other_passes other value id v h = rw (apart id other h) refl

this_passes : (id value : ℕ) → keeps_test id value id value ≡ true
this_passes id value = rw (itself id, itself value) refl

-- all that is known of a change by an id with a shape
pub record Grew (old new : PageMap) (t u : Pmr) (rows : List (ℕ × Shape)) (id : ℕ) (s : Shape) : Type 0 where
  pub tree : IsTree (store_of new) u.map
  pub threshold : u.threshold ≡ t.threshold
  pub number : u.number ≡ t.number
  pub keeps : Keeps (store_of old) (store_of new) (pages_at old t) (pages_at new u)
  pub becomes : (m : Block → ℕ → Bool) (has : ℕ → Bool) → TellsOf ((id, s) ∷ rows) m has → Passes (id_test has) (quadtree_entries old t) → has id ≡ true
      → Becomes root_block (grown_where m t.threshold id root_block) (keys_at old t) (keys_at new u)
  pub values : (test : ℕ → ℕ → Bool) → test id (value_of (rough_figure s)) ≡ true → Passes test (quadtree_entries old t) → Passes test (quadtree_entries new u)

pub record Premises (old : PageMap) (t : Pmr) (rows : List (ℕ × Shape)) (id : ℕ) (s : Shape) : Type 0 where
  pub quarters : ChildrenMeet
  pub tests : TestIsMeeting
  pub is : IsPmr old t
  pub rows_in : AreInPlane rows
  pub shape_in : IsShapeInPlane s
  pub some : 1 ≤ id
  pub fits : (gap : Measure) → IsMeasure gap → FitsOthers gap rows id (tree_at old t)

-- the listed ids are those of rows, and not this one
listed_have : (old : PageMap) (t : Pmr) (rows : List (ℕ × Shape)) (id : ℕ) (s : Shape) → Premises old t rows id s → (gap : Measure) → IsMeasure gap
    → Passes (id_test (has_shape ((id, s) ∷ rows))) (quadtree_entries old t)
listed_have old t rows id s h gap measure =
    let f = h.fits gap measure in
    let P : ℕ → Type 0 = λ i. has_shape ((id, s) ∷ rows) i ≡ true in
    each_firsts (λ k. 1 ≤ id_in k → P (id_in k)) (quadtree_entries old t)
    (subst (Each (λ k. 1 ≤ id_in k → P (id_in k))) (sym h.is.keys)
    (fitted_keys P (meets_block gap rows) f.ids (each_two f.ids f.listed (each_other f.ids id f.new)) root_block (tree_at old t) h.is.shaped f.fits))
  where
    each_two : (ids : List ℕ) → Each (λ other. is_some (shape_at rows other) ≡ true) ids → Each (λ other. id ≡ other → ⊥) ids → Each (λ i. has_shape ((id, s) ∷ rows) i ≡ true) ids
    each_two [] a b = tt
    each_two (x ∷ xs) a b = (ap is_some (other_shape id s rows x b.0) ∙ a.0, each_two xs a.1 b.1)

unlisted : (old : PageMap) (t : Pmr) (rows : List (ℕ × Shape)) (id : ℕ) (s : Shape) → Premises old t rows id s → (gap : Measure) → IsMeasure gap → (value : ℕ)
    → Passes (keeps_test id value) (quadtree_entries old t)
unlisted old t rows id s h gap measure value =
    let f = h.fits gap measure in
    let P : ℕ → Type 0 = λ i. id ≡ i → ⊥ in
    let all = each_firsts (λ k. 1 ≤ id_in k → P (id_in k)) (quadtree_entries old t)
    (subst (Each (λ k. 1 ≤ id_in k → P (id_in k))) (sym h.is.keys)
    (fitted_keys P (meets_block gap rows) f.ids (each_other f.ids id f.new) root_block (tree_at old t) h.is.shaped f.fits)) in
    each_map (λ e. 1 ≤ id_in e.0 → P (id_in e.0)) (λ e. 1 ≤ id_in e.0 → keeps_test id value (id_in e.0) e.1 ≡ true)
    (λ e g some. other_passes id value (id_in e.0) e.1 (λ same. g some (sym same))) (quadtree_entries old t) all

-- the tree has grown by the model's rule
grown_by : (old new : PageMap) (t u : Pmr) (rows : List (ℕ × Shape)) (id : ℕ) (s : Shape) → Premises old t rows id s → Grew old new t u rows id s → (gap : Measure) → IsMeasure gap
    → Changed old t new u (tree_with gap ((id, s) ∷ rows) t.threshold id (tree_at old t))
grown_by old new t u rows id s h g gap measure =
    let others = (id, s) ∷ rows in
    let m = meets_block gap others in
    let plane : AreInPlane others = (h.shape_in, h.rows_in) in
    let quarters = rows_quarters h.quarters gap measure others plane in
    let same = grown_where_same m quarters t.threshold id root_block (tree_at old t) is_root (shaped_shallow root_block (tree_at old t) h.is.shaped) in
    subst (Changed old t new u) same
    (changed old t new u (grown_where m t.threshold id root_block) h.is
    (g.becomes m (has_shape others) (measure_tells h.tests gap measure others plane) (listed_have old t rows id s h gap measure) (ap is_some (first_shape id s rows))))

full_by : (old : PageMap) (t : Pmr) (rows : List (ℕ × Shape)) (id : ℕ) (s : Shape) → Premises old t rows id s → (gap : Measure) → IsMeasure gap
    → IsFull t.threshold (tree_with gap ((id, s) ∷ rows) t.threshold id (tree_at old t))
full_by old t rows id s h gap measure =
    let f = h.fits gap measure in
    let others = (id, s) ∷ rows in
    let m = meets_block gap others in
    let quarters = rows_quarters h.quarters gap measure others (h.shape_in, h.rows_in) in
    let alike : (b : Block) → Each (λ i. meets_block gap rows b i ≡ m b i) f.ids =
    λ b. each_map (λ other. id ≡ other → ⊥) (λ i. meets_block gap rows b i ≡ m b i) (λ i e. meets_alike gap rows others b i (sym (other_shape id s rows i e))) f.ids (each_other f.ids id f.new) in
    full_grown m quarters t.threshold id f.ids f.rise root_block (tree_at old t) is_root (shaped_shallow root_block (tree_at old t) h.is.shaped)
    (fits_alike (meets_block gap rows) m f.ids alike root_block (tree_at old t) f.fits) h.is.full

pub grows : (old new : PageMap) (t u : Pmr) (rows : List (ℕ × Shape)) (id : ℕ) (s : Shape) → Premises old t rows id s → Grew old new t u rows id s → (gap : Measure)
    → IsMeasure gap → Grows old new t u rows id s
grows old new t u rows id s h g gap measure =
    let one = grown_by old new t u rows id s h g gap measure in
    let full = subst (IsFull t.threshold) (sym one.tree_is) (full_by old t rows id s h gap measure) in record {
      stays = record {
        is = record { entries = g.tree; keys = one.keys; shaped = one.shaped; full = subst (λ n. IsFull n (tree_at new u)) (sym g.threshold) full };
        threshold = g.threshold;
        number = g.number;
        keeps = g.keeps;
      };
      grown = λ gap measure. (grown_by old new t u rows id s h g gap measure).tree_is;
      rough = (let v = value_of (rough_figure s) in passes_keeps (quadtree_entries new u) id v h.some (g.values (keeps_test id v) (this_passes id v) (unlisted old t rows id s h gap measure v)));
      others = λ other o some differ kept.
          (let v = value_of (rough_figure o) in
          passes_keeps (quadtree_entries new u) other v some
          (g.values (keeps_test other v) (other_passes other v id (value_of (rough_figure s)) (λ e. differ (sym e))) (keeps_passes (quadtree_entries old t) other v kept)));
    }

-- the block of code 0 and level 0 is the root
pub root_is : (b : Block) → b.z ≡ 0 → b.level ≡ 0 → b ≡ root_block
root_is b e f = (let at : ℕ → ℕ → Block = λ z level. record { z = z; level = level } in ap₂ at e f)

-- a measure tells of all listed ids and this one
pub told_of : (old : PageMap) (t : Pmr) (rows : List (ℕ × Shape)) (id : ℕ) (s : Shape) → Premises old t rows id s → GapExists → Told (TellsOf ((id, s) ∷ rows)) (quadtree_entries old t) id
told_of old t rows id s h measured = record {
  meets = meets_block measured.0 ((id, s) ∷ rows);
  has = has_shape ((id, s) ∷ rows);
  told = measure_tells h.tests measured.0 measured.1 ((id, s) ∷ rows) (h.shape_in, h.rows_in);
  listed = listed_have old t rows id s h measured.0 measured.1;
  one = ap is_some (first_shape id s rows);
}
