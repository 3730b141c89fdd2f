-- A quadtree in pages that fits its rows makes a sound ranking: in particular each row has an id of its own.
use Rattle.std.proofs.Common.{◌≡◌, ◌≢◌, ⊎_elim, ℕ, ◌<◌, Bool, true, false, cond, true≢false, List, [], ◌∷◌, map, filter, All, Contains, Option, None, Some, option_map, sym, ap, ◌∙◌, subst, arith}
use Rattle.std.proofs.lemmas.List.Elements.{All-nil, All-cons, All-contains}
use Rattle.std.proofs.lemmas.Bool.{lt-ltb, eq-eqb}
use Rattle.std.specs.Prelude.{nat_eq}
use Rattle.sand_base.specs.Plane.{IsGoalInClosedPlane, IsShapeInPlane, IsShapeInClosedPlane}
use Rattle.sand_base.specs.declared.TheConstants.{COORDINATE_BITS}
use Rattle.sand_base.specs.declared.goal.Goal.{Goal}
use Rattle.sand_base.specs.declared.goal.Goal.TheVariants as figure
use Rattle.sand_base.specs.declared.shape.Shape.{Shape}
use Rattle.sand_base.specs.declared.shape.Shape.TheVariants as shape
use Rattle.z_code.specs.Block.{child, square_of}
use Rattle.z_code.specs.declared.block.Block.{Block}
use Rattle.sand_model.specs.Database.{meets_block}
use Rattle.sand_model.specs.Measure.{meets}
use Rattle.sand_model.specs.Nodes.{square_figure}
use Rattle.sand_model.specs.Tree.{Tree, Leaf, Inner, places, leaves, root_block, IsShallow}
use Rattle.ring_geom.proofs.EdgeLemmas.{corner_of_plane}
use Rattle.ring_geom.proofs.Measured.{measured}
use Rattle.ring_geom.proofs.TreeLaws.{leaves_cover}
use Rattle.page_pool.specs.Disk.{PageMap}
use Rattle.pmr_tree.specs.Keys.{IsShaped}
use Rattle.pmr_tree.specs.Laws.{AreInPlane}
use Rattle.pmr_tree.specs.Lists.{Each, RiseStrictly}
use Rattle.pmr_tree.specs.Quadtree.{tree_at, FitsRows}
use Rattle.pmr_tree.specs.declared.quadtree.Pmr.{Pmr}
use Rattle.best_first.specs.Reach.{IsAtMost}
use Rattle.best_first.proofs.Bags.{here, there, cons_cases, none, only, All-by, in_filter}
use Rattle.rank_cursor.specs.Cursor.{the_measure, ranking_over}
use Rattle.rank_cursor.specs.Ranking.{HaveOwnIds, IsSound}
use Rattle.rank_cursor.proofs.Elements.{in_map, from_map, some_term}
use Rattle.rank_cursor.proofs.Places.{pick, by_four, place_cases, leaf_place, leaf_fits, some_found, found_is}

-- ---- shapes in the plane

pub closed_shape : (s : Shape) → IsShapeInPlane s → IsShapeInClosedPlane s
closed_shape (shape.Point p) h = corner_of_plane p h
closed_shape (shape.Segment s) h = record { a = corner_of_plane s.a h.a; b = corner_of_plane s.b h.b }
closed_shape (shape.Polygon ring) h = h

closed_rows : (rows : List (ℕ × Shape)) → AreInPlane rows → All (λ (row : ℕ × Shape). IsShapeInClosedPlane row.1) rows
closed_rows [] h = All-nil (λ (row : ℕ × Shape). IsShapeInClosedPlane row.1)
closed_rows (row ∷ rows) h = All-cons (λ (row : ℕ × Shape). IsShapeInClosedPlane row.1) row rows (closed_shape row.1 h.0) (closed_rows rows h.1)

-- ---- trees in pages

pub shaped_shallow : (b : Block) (tree : Tree) → IsShaped b tree → IsShallow b tree
shaped_shallow b (Leaf ids) h = tt
shaped_shallow b (Inner p q s t) h = (
  lt-ltb b.level COORDINATE_BITS h.0,
  (shaped_shallow (child b 0) p h.1.0, (shaped_shallow (child b 1) q h.1.1.0, (shaped_shallow (child b 2) s h.1.1.1.0, shaped_shallow (child b 3) t h.1.1.1.1))),
)

-- the ids of each leaf ascend
leaf_rises : (b : Block) (tree : Tree) → IsShaped b tree → (c : Block) (ids : List ℕ) → Contains (places b tree) (c, Leaf ids) → RiseStrictly ids
leaf_rises b (Leaf listed) h c ids at =
    subst (λ (x : Block × Tree). elim x.1 as (λ _. Type 0) [ Leaf l ↦ RiseStrictly l | Inner p q s t ↦ Unit {0} ]) (only (b, Leaf listed) (c, Leaf ids) at) h.1.0
leaf_rises b (Inner p q s t) h c ids at =
    ⊎_elim (λ e. absurd (true≢false (ap is_inner e)))
    (λ (i, small, below).
    by_four (λ j. Contains (places (child b j) (pick p q s t j)) (c, Leaf ids) → RiseStrictly ids)
    (leaf_rises (child b 0) p h.1.0 c ids) (leaf_rises (child b 1) q h.1.1.0 c ids)
    (leaf_rises (child b 2) s h.1.1.1.0 c ids) (leaf_rises (child b 3) t h.1.1.1.1 c ids) i small below)
    (place_cases b p q s t (c, Leaf ids) at)
  where
    is_inner : Block × Tree → Bool
    is_inner x = elim x.1 as (λ _. Bool) [ Leaf l ↦ false | Inner p q s t ↦ true ]

-- ---- ids of their own

each_of : (P : ℕ → Type 0) (xs : List ℕ) (x : ℕ) → Each P xs → Contains xs x → P x
each_of P [] x h at = absurd (none x at)
each_of P (y ∷ ys) x h at = ⊎_elim (λ e. subst P e h.0) (λ t. each_of P ys x h.1 t) (cons_cases y ys x at)

below_itself : (n : ℕ) → n < n → ⊥
below_itself n h = omega arith

rest_step : (x : ℕ) (ys : List ℕ) (b : Bool) → RiseStrictly (cond b (x ∷ ys) ys) → RiseStrictly ys
rest_step x ys true h = h.1
rest_step x ys false h = h

first_step : (p : ℕ → Bool) (x : ℕ) (xs : List ℕ) (b : Bool) → b ≡ true → RiseStrictly (cond b (x ∷ filter p xs) (filter p xs)) → Contains (filter p xs) x → ⊥
first_step p x xs true e h at = below_itself x (each_of (λ y. x < y) (filter p xs) x h.0 at)
first_step p x xs false e h at = absurd (true≢false (sym e))

-- ids some of which, each id among them somewhere, ascend
own_ids : (rows : List (ℕ × Shape)) → ((id : ℕ) → Contains (map (λ (row : ℕ × Shape). row.0) rows) id
    → (p : ℕ → Bool) × (p id ≡ true) × RiseStrictly (filter p (map (λ (row : ℕ × Shape). row.0) rows)))
    → HaveOwnIds rows
own_ids [] each = tt
own_ids (row ∷ rows) each =
    let ids = map (λ (row : ℕ × Shape). row.0) rows in
    let (p, passes, rises) = each row.0 (here row.0 ids) in (
      All-by (λ (other : ℕ × Shape). row.0 ≢ other.0) rows (λ other at e.
          first_step p row.0 ids (p row.0) passes rises
          (in_filter p ids row.0 (subst (Contains ids) (sym e) (in_map (λ (row : ℕ × Shape). row.0) rows other at)) passes)),
      own_ids rows (λ id at. let (q, yes_it_does, rise) = each id (there row.0 ids id at) in (q, yes_it_does, rest_step row.0 (filter q ids) (q row.0) rise)),
    )

-- ---- the ranking

module _ (pages : PageMap) (t : Pmr) (rows : List (ℕ × Shape)) (fits : FitsRows pages t rows) (plane : AreInPlane rows) (goal : Goal) (reach : IsGoalInClosedPlane goal) where
  abbrev tree : Tree
  tree = tree_at pages t

  shallow : IsShallow root_block tree
  shallow = shaped_shallow root_block tree fits.tree.shaped

  -- some leaf lists the id of a row
  listed_somewhere : (id : ℕ) → Contains (map (λ (row : ℕ × Shape). row.0) rows) id
      → (p : ℕ → Bool) × (p id ≡ true) × RiseStrictly (filter p (map (λ (row : ℕ × Shape). row.0) rows))
  listed_somewhere id at =
      let (row, among, same) = from_map (λ (row : ℕ × Shape). row.0) rows id at in
      let test : ℕ × Shape → Bool = λ (pair : ℕ × Shape). nat_eq pair.0 id in
      let (pair, found) = some_found test rows row among (eq-eqb row.0 id same) in
      let (there_is, passes) = found_is test rows pair found in
      let s = pair.1 in
      let closed = All-contains (λ (row : ℕ × Shape). IsShapeInClosedPlane row.1) rows pair (closed_rows rows plane) there_is in
      let (leaf, in_leaves, met) = some_term (λ (leaf : Block × List ℕ). (meets the_measure s (square_of leaf.0) ≡ true)
      × IsAtMost (the_measure goal (square_figure leaf.0)) (the_measure goal (figure.Shape s))) (leaves root_block tree)
      (leaves_cover the_measure measured.1 goal s tree reach closed shallow) in
      let place = leaf_place root_block tree leaf.0 leaf.1 in_leaves in (
        meets_block the_measure rows leaf.0,
        ap (met_at leaf.0) (ap (option_map (λ (pair : ℕ × Shape). pair.1)) found) ∙ met.0,
        subst RiseStrictly (leaf_fits (meets_block the_measure rows) (map (λ (row : ℕ × Shape). row.0) rows) root_block tree (fits.fits the_measure measured.1) leaf.0 leaf.1 place)
            (leaf_rises root_block tree fits.tree.shaped leaf.0 leaf.1 place),
      )
    where
      met_at : Block → Option Shape → Bool
      met_at c (Some s) = meets the_measure s (square_of c)
      met_at c None = false

  pub sound_over : (Stands : Type 0) → Stands → (price : ℕ) (ceiling : Option ℕ) → IsSound (ranking_over (λ p. rows) (λ p. Stands) price t goal ceiling pages)
  sound_over Stands stands price ceiling = record {
    readable = (fits, stands);
    measure = measured.1;
    goal = reach;
    plane = closed_rows rows plane;
    apart = own_ids rows listed_somewhere;
    fits = fits.fits the_measure measured.1;
    shallow = shallow;
  }
