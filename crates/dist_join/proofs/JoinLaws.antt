-- A sound join meets the laws of a hierarchy.
use Rattle.std.proofs.Common.{◌≡◌, ℕ, ◌<◌, Bool, true, false, cond, not, ◌||◌, List, ◌∷◌, map, filter_map, flat_map, All}
use Rattle.std.proofs.Common.{Contains, Option, None, Some, refl, sym, ap, ap₂, ◌∙◌, subst, arith}
use Rattle.std.specs.Ordering.{is_lt}
use Rattle.std.proofs.lemmas.List.Elements.{All-nil, All-append, All-contains}
use Rattle.exact_frac.specs.Frac.{value_cmp}
use Rattle.exact_frac.specs.declared.frac.Frac.{Frac}
use Rattle.sand_base.specs.Plane.{IsShapeInClosedPlane}
use Rattle.sand_base.specs.declared.goal.Goal.TheVariants as figure
use Rattle.sand_base.specs.declared.shape.Shape.{Shape}
use Rattle.z_code.specs.Block.{child, children_of, square_of}
use Rattle.z_code.specs.declared.block.Block.{Block}
use Rattle.z_code.proofs.Blocks.{square_in_closed_plane}
use Rattle.sand_model.specs.Measure.{meets}
use Rattle.sand_model.specs.Nodes.{LeafItem, pairs_of, leaf_pairs, under_children, pair_nodes, pair_item, is_queued, is_rough, greater, rough_figure, square_figure}
use Rattle.sand_model.specs.Rings.{SomeOf}
use Rattle.sand_model.specs.Tree.{Tree, Leaf, Inner, places, leaves, root_block}
use Rattle.ring_geom.proofs.BlockLemmas.{root_is_block}
use Rattle.ring_geom.proofs.Farther.{part_held, pair_no_farther}
use Rattle.ring_geom.proofs.RoughLemmas.{roughs_no_farther}
use Rattle.ring_geom.proofs.TreeLaws.{leaf_pairs_cover}
use Rattle.best_first.specs.Hierarchy.{Meaning, MeetsLaws, HasGap, IsHonest, HasRow, IsListedUnder, Shows}
use Rattle.best_first.specs.Item.{gap_of, nodes_of}
use Rattle.best_first.specs.Reach.{IsSameGap, IsAtMost}
use Rattle.best_first.specs.declared.hit.Hit.{Hit}
use Rattle.best_first.specs.declared.item.Item.{Item}
use Rattle.best_first.specs.declared.item.Item.TheVariants.{Rough, Row}
use Rattle.best_first.proofs.Bags.{All-by, in_filter, from_flat_map}
use Rattle.best_first.proofs.Gaps.{same_itself}
use Rattle.rank_cursor.specs.Ranking.{place_at}
use Rattle.rank_cursor.proofs.Elements.{in_map, from_map, in_filter_map, some_term}
use Rattle.rank_cursor.proofs.Places.{pick, place_here, inside, is_place, place_is, leaf_place}
use Rattle.rank_cursor.proofs.RankedItems.{greater_least, is_shape}
use Rattle.dist_join.specs.Joining.{Joining, IsSoundJoin, pair_node_at, blocks_of, squares_gap, blocks_item, ids_of_both, divided, leaf_pair_item, pairs_shown, pairs_found_at}
use Rattle.dist_join.specs.Joining.{pairs_under, row_of_pair, join_meaning}
use Rattle.dist_join.proofs.PairPlaces.{leaf_node, leaf_pair}
use Rattle.dist_join.proofs.JoinPlaces.{at_least_not_less, flat_twice, four_maps, four_same, in_pairs, one_item, pair_given, IsShown, shown_is, leaf_item_gap}
use Rattle.dist_join.proofs.JoinPlaces.{found_nodes, shown_far, divided_lies, child_place, listed_there, own_shape, row_among}

-- ---- the laws

module _ (j : Joining) (sound : IsSoundJoin j) where
  abbrev m : Meaning (Block × Block)
  m = join_meaning j

  -- what stands below a pair of places
  pub under_places : (b c : Block) (t u : Tree) → place_at j.left.tree b ≡ Some t → place_at j.right.tree c ≡ Some u → m.under (b, c) ≡ map blocks_of (pair_nodes b t c u)
  under_places b c t u e f = ap₂ (λ o q. pairs_under (b, c) o q) e f

  -- all pairs of places
  pub under_root : m.under m.root ≡ map blocks_of (pair_nodes root_block j.left.tree root_block j.right.tree)
  under_root =
      under_places root_block root_block j.left.tree j.right.tree
      (is_place j.left.tree sound.left.shallow root_block j.left.tree (place_here root_block j.left.tree))
      (is_place j.right.tree sound.right.shallow root_block j.right.tree (place_here root_block j.right.tree))

  below_divided : (b : Block) (t : Tree) (c : Block) (u : Tree) → place_at j.left.tree b ≡ Some t → place_at j.right.tree c ≡ Some u
      → map blocks_of (pair_nodes b t c u) ≡ (b, c) ∷ flat_map m.under (divided b t c u)
  below_divided b (Leaf lefts) c (Leaf rights) e f = refl
  below_divided b (Leaf lefts) c (Inner v w x y) e f =
      let one : (i : ℕ) → i < 4 → map blocks_of (leaf_pairs b lefts (child c i) (pick v w x y i)) ≡ m.under (b, child c i) =
      λ i small. sym (under_places b (child c i) (Leaf lefts) (pick v w x y i) e (child_place j.measure j.right sound.right c v w x y f i small)) in
      ap (λ (l : List (Block × Block)). (b, c) ∷ l)
      (four_maps blocks_of (leaf_pairs b lefts (child c 0) v) (leaf_pairs b lefts (child c 1) w) (leaf_pairs b lefts (child c 2) x) (leaf_pairs b lefts (child c 3) y)
      ∙ four_same _ _ _ _ _ _ _ _ (one 0 (omega arith)) (one 1 (omega arith)) (one 2 (omega arith)) (one 3 (omega arith)))
  below_divided b (Inner p q s t) c (Leaf rights) e f =
      let one : (i : ℕ) → i < 4 → map blocks_of (pair_nodes (child b i) (pick p q s t i) c (Leaf rights)) ≡ m.under (child b i, c) =
      λ i small. sym (under_places (child b i) c (pick p q s t i) (Leaf rights) (child_place j.measure j.left sound.left b p q s t e i small) f) in
      ap (λ (l : List (Block × Block)). (b, c) ∷ l)
      (four_maps blocks_of (pair_nodes (child b 0) p c (Leaf rights)) (pair_nodes (child b 1) q c (Leaf rights)) (pair_nodes (child b 2) s c (Leaf rights)) (pair_nodes (child b 3) t c (Leaf rights))
      ∙ four_same _ _ _ _ _ _ _ _ (one 0 (omega arith)) (one 1 (omega arith)) (one 2 (omega arith)) (one 3 (omega arith)))
  below_divided b (Inner p q s t) c (Inner v w x y) e f =
      let one : (i : ℕ) → i < 4 → (k : ℕ) → k < 4 → map blocks_of (pair_nodes (child b i) (pick p q s t i) (child c k) (pick v w x y k)) ≡ m.under (child b i, child c k) =
      λ i small k little. sym (under_places (child b i) (child c k) (pick p q s t i) (pick v w x y k)
      (child_place j.measure j.left sound.left b p q s t e i small) (child_place j.measure j.right sound.right c v w x y f k little)) in
      let row : (i : ℕ) → i < 4 → map blocks_of (under_children (pair_nodes (child b i) (pick p q s t i)) c v w x y) ≡ flat_map m.under (map (λ (d : Block). (child b i, d)) (children_of c)) =
      λ i small.
      four_maps blocks_of (pair_nodes (child b i) (pick p q s t i) (child c 0) v) (pair_nodes (child b i) (pick p q s t i) (child c 1) w)
      (pair_nodes (child b i) (pick p q s t i) (child c 2) x) (pair_nodes (child b i) (pick p q s t i) (child c 3) y)
      ∙ four_same _ _ _ _ _ _ _ _ (one i small 0 (omega arith)) (one i small 1 (omega arith)) (one i small 2 (omega arith)) (one i small 3 (omega arith)) in
      ap (λ (l : List (Block × Block)). (b, c) ∷ l)
      (four_maps blocks_of (under_children (pair_nodes (child b 0) p) c v w x y) (under_children (pair_nodes (child b 1) q) c v w x y)
      (under_children (pair_nodes (child b 2) s) c v w x y) (under_children (pair_nodes (child b 3) t) c v w x y)
      ∙ four_same _ _ _ _ _ _ _ _ (row 0 (omega arith)) (row 1 (omega arith)) (row 2 (omega arith)) (row 3 (omega arith))
      ∙ sym (flat_twice m.under (λ (d : Block). map (λ (e : Block). (d, e)) (children_of c)) (children_of b)))

  unfolds_at : (pair : Block × Block) (o q : Option Tree) → place_at j.left.tree pair.0 ≡ o → place_at j.right.tree pair.1 ≡ q
      → pairs_under pair o q ≡ pair ∷ flat_map m.under (nodes_of (pairs_found_at j pair o q))
  unfolds_at pair None q e f = refl
  unfolds_at pair (Some t) None e f = refl
  unfolds_at pair (Some t) (Some u) e f =
      below_divided pair.0 t pair.1 u e f
      ∙ ap (λ (l : List (Block × Block)). pair ∷ flat_map m.under l) (sym (found_nodes j (divided pair.0 t pair.1 u) (pairs_shown j pair (ids_of_both t u))))

  -- what holds of all that a pair of places finds
  all_found : (P : Item (Block × Block) → Type 0) (pair : Block × Block) (o q : Option Tree) → place_at j.left.tree pair.0 ≡ o → place_at j.right.tree pair.1 ≡ q
      → ((t u : Tree) → place_at j.left.tree pair.0 ≡ Some t → place_at j.right.tree pair.1 ≡ Some u → (x : Block × Block) → Contains (divided pair.0 t pair.1 u) x → P (blocks_item j x))
      → ((ids : List (ℕ × ℕ)) (item : LeafItem) → IsShown j pair ids item → P (leaf_pair_item item)) → All P (pairs_found_at j pair o q)
  all_found P pair None q e f nodes items = All-nil P
  all_found P pair (Some t) None e f nodes items = All-nil P
  all_found P pair (Some t) (Some u) e f nodes items =
      let pairs = divided pair.0 t pair.1 u in
      let ids = ids_of_both t u in
      All-append P (map (blocks_item j) pairs) (map leaf_pair_item (pairs_shown j pair ids))
      (All-by P (map (blocks_item j) pairs) (λ y at. let (x, among, is) = from_map (blocks_item j) pairs y at in subst P is (nodes t u e f x among)))
      (All-by P (map leaf_pair_item (pairs_shown j pair ids)) (λ y at. let (item, among, is) = from_map leaf_pair_item (pairs_shown j pair ids) y at in
      subst P is (items ids item (shown_is j pair ids item among))))

  at_all : (P : Item (Block × Block) → Type 0) (pair : Block × Block)
      → ((t u : Tree) → place_at j.left.tree pair.0 ≡ Some t → place_at j.right.tree pair.1 ≡ Some u → (x : Block × Block) → Contains (divided pair.0 t pair.1 u) x → P (blocks_item j x))
      → ((ids : List (ℕ × ℕ)) (item : LeafItem) → IsShown j pair ids item → P (leaf_pair_item item)) → All P (m.finds pair)
  at_all P pair nodes items = all_found P pair (place_at j.left.tree pair.0) (place_at j.right.tree pair.1) refl refl nodes items

  leaf_has_gap : (item : LeafItem) → HasGap m (leaf_pair_item item)
  leaf_has_gap item =
      let go : (b : Bool) → HasGap m (cond b (Rough item.gap item.left item.right) (Row item.gap item.left item.right)) = elim [ true ↦ tt | false ↦ tt ] in
      go item.is_rough

  -- a pair into which places are divided is no nearer than they
  divided_far : (b : Block) (t : Tree) (c : Block) (u : Tree) → place_at j.left.tree b ≡ Some t → place_at j.right.tree c ≡ Some u → (x : Block × Block)
      → Contains (divided b t c u) x → IsAtMost (squares_gap j (b, c)) (squares_gap j x)
  divided_far b t c u e f x at =
      let k = inside root_block j.left.tree root_is_block sound.left.shallow b t (place_is j.left.tree b t e) in
      let l = inside root_block j.right.tree root_is_block sound.right.shallow c u (place_is j.right.tree c u f) in
      let (lies, too) = divided_lies b t c u k.block k.shallow l.block l.shallow x at in
      pair_no_farther (square_figure x.0) (square_figure x.1) (square_of b) (square_of c)
      (squares_gap j x).num (squares_gap j x).den (squares_gap j (b, c)).num (squares_gap j (b, c)).den
      (part_held (square_of x.0) (square_of b) lies.part) (part_held (square_of x.1) (square_of c) too.part)
      (sound.measure (square_figure x.0) (square_figure x.1) (square_in_closed_plane x.0 lies.block) (square_in_closed_plane x.1 too.block))
      (sound.measure (square_figure b) (square_figure c) (square_in_closed_plane b k.block) (square_in_closed_plane c l.block))

  -- the row of an exact item
  exact_row : (row other : ℕ × Shape) → Contains j.left.shapes row → Contains j.right.shapes other → HasRow m (row_of_pair j row other)
  exact_row row other at too = record {
    row = row_of_pair j row other;
    among = row_among j row other at too;
    same = (same_itself (j.measure (figure.Shape row.1) (figure.Shape other.1)), refl, refl);
  }

  item_honest : (pair : Block × Block) (one : ℕ × ℕ) (s t : Shape) → Contains j.left.shapes (one.0, s) → Contains j.right.shapes (one.1, t)
      → IsHonest m (leaf_pair_item (one_item j pair one s t))
  item_honest pair one s t at too =
      let rough = greater (j.measure (rough_figure s) (rough_figure t)) (squares_gap j pair) in
      let exact = j.measure (figure.Shape s) (figure.Shape t) in
      let go : (k : Bool) → IsHonest m (cond k (Rough (cond k rough exact) one.0 one.1) (Row (cond k rough exact) one.0 one.1)) =
      elim [ true ↦ tt | false ↦ exact_row (one.0, s) (one.1, t) at too ] in
      go (is_rough s || is_rough t)

  -- ---- covers

  pub plane_left : (id : ℕ) (s : Shape) → Contains j.left.shapes (id, s) → IsShapeInClosedPlane s
  plane_left id s at = All-contains (λ (row : ℕ × Shape). IsShapeInClosedPlane row.1) j.left.shapes (id, s) sound.left.plane at

  pub plane_right : (id : ℕ) (s : Shape) → Contains j.right.shapes (id, s) → IsShapeInClosedPlane s
  plane_right id s at = All-contains (λ (row : ℕ × Shape). IsShapeInClosedPlane row.1) j.right.shapes (id, s) sound.right.plane at

  is_queued_there : (pair : Block × Block) (one : ℕ × ℕ) (s t : Shape) → IsAtMost (squares_gap j pair) (j.measure (figure.Shape s) (figure.Shape t))
      → is_queued (squares_gap j pair) (one_item j pair one s t) ≡ true
  is_queued_there pair one s t near =
      let rough = greater (j.measure (rough_figure s) (rough_figure t)) (squares_gap j pair) in
      let exact = j.measure (figure.Shape s) (figure.Shape t) in
      let go : (k : Bool) → (k || not (is_lt (value_cmp (cond k rough exact) (squares_gap j pair)))) ≡ true =
      elim [ true ↦ refl | false ↦ ap not (at_least_not_less exact (squares_gap j pair) near) ] in
      go (is_rough s || is_rough t)

  shows_row : (pair : Block × Block) (row other : ℕ × Shape) → IsShapeInClosedPlane row.1 → IsShapeInClosedPlane other.1
      → IsAtMost (squares_gap j pair) (j.measure (figure.Shape row.1) (figure.Shape other.1))
      → Shows (row_of_pair j row other) (leaf_pair_item (one_item j pair (row.0, other.0) row.1 other.1))
  shows_row pair row other in_left in_right near =
      let rough = j.measure (rough_figure row.1) (rough_figure other.1) in
      let exact = j.measure (figure.Shape row.1) (figure.Shape other.1) in
      let go : (k : Bool) → Shows {N = Block × Block} (row_of_pair j row other)
      (cond k (Rough (cond k (greater rough (squares_gap j pair)) exact) row.0 other.0) (Row (cond k (greater rough (squares_gap j pair)) exact) row.0 other.0)) =
      elim [
        | true ↦ (refl, refl, greater_least rough (squares_gap j pair) exact (roughs_no_farther j.measure sound.measure row.1 other.1 in_left in_right) near)
        | false ↦ (same_itself exact, refl, refl)
      ] in
      go (is_rough row.1 || is_rough other.1)

  -- what two leaves find
  pub leaves_find : (c d : Block) (lefts rights : List ℕ) → Contains (places root_block j.left.tree) (c, Leaf lefts) → Contains (places root_block j.right.tree) (d, Leaf rights)
      → m.finds (c, d) ≡ map leaf_pair_item (pairs_shown j (c, d) (pairs_of lefts rights))
  leaves_find c d lefts rights at too =
      ap₂ (λ o q. pairs_found_at j (c, d) o q) (is_place j.left.tree sound.left.shallow c (Leaf lefts) at) (is_place j.right.tree sound.right.shallow d (Leaf rights) too)

  -- two shapes meet these leaves, which are no farther apart than they
  abbrev AreReached : Shape → Shape → Block × List ℕ → Block × List ℕ → Type 0
  AreReached s t leaf other =
      (meets j.measure s (square_of leaf.0) ≡ true) × (meets j.measure t (square_of other.0) ≡ true)
      × IsAtMost (j.measure (square_figure leaf.0) (square_figure other.0)) (j.measure (figure.Shape s) (figure.Shape t))

  -- two leaves show the item of two rows that they list and that are no nearer than they
  shown_there : (pair : Block × Block) (ids : List (ℕ × ℕ)) (row other : ℕ × Shape) → Contains ids (row.0, other.0) → Contains j.left.shapes row → Contains j.right.shapes other
      → IsAtMost (squares_gap j pair) (j.measure (figure.Shape row.1) (figure.Shape other.1)) → Contains (pairs_shown j pair ids) (one_item j pair (row.0, other.0) row.1 other.1)
  shown_there pair ids row other listed at too near =
      let one : ℕ × ℕ = (row.0, other.0) in
      let item = one_item j pair one row.1 other.1 in
      let gives = pair_item j.measure j.left.shapes j.right.shapes (pair_node_at pair ids) in
      in_filter (is_queued (squares_gap j pair)) (filter_map gives ids) item
      (in_filter_map gives ids one item listed
      (pair_given j pair ids one row.1 other.1 (is_shape j.left.shapes sound.left.apart row.0 row.1 at) (is_shape j.right.shapes sound.right.apart other.0 other.1 too)))
      (is_queued_there pair one row.1 other.1 near)

  covers_in : (row other : ℕ × Shape) → Contains j.left.shapes row → Contains j.right.shapes other → (leaf second : Block × List ℕ)
      → Contains (leaves root_block j.left.tree) leaf → Contains (leaves root_block j.right.tree) second → AreReached row.1 other.1 leaf second
      → IsListedUnder m m.root (row_of_pair j row other)
  covers_in row other at too leaf second among among_too met =
      let pair : Block × Block = (leaf.0, second.0) in
      let ids = pairs_of leaf.1 second.1 in
      let place = leaf_place root_block j.left.tree leaf.0 leaf.1 among in
      let place_too = leaf_place root_block j.right.tree second.0 second.1 among_too in
      let item = one_item j pair (row.0, other.0) row.1 other.1 in
      let listed = in_pairs leaf.1 second.1 row.0 other.0 (listed_there j.measure j.left sound.left leaf.0 leaf.1 place row.0 row.1 at met.0)
      (listed_there j.measure j.right sound.right second.0 second.1 place_too other.0 other.1 too met.1) in
      record {
        leaf = pair;
        below = subst (λ (l : List (Block × Block)). Contains l pair) (sym under_root)
            (in_map blocks_of (pair_nodes root_block j.left.tree root_block j.right.tree) (leaf_node leaf second)
            (leaf_pair root_block j.left.tree root_block j.right.tree leaf second among among_too));
        item = leaf_pair_item item;
        listed = subst (λ (l : List (Item (Block × Block))). Contains l (leaf_pair_item item)) (sym (leaves_find leaf.0 second.0 leaf.1 second.1 place place_too))
            (in_map leaf_pair_item (pairs_shown j pair ids) item (shown_there pair ids row other listed at too met.2));
        shows = shows_row pair row other (plane_left row.0 row.1 at) (plane_right other.0 other.1 too) met.2;
      }

  covers_row : (row other : ℕ × Shape) → Contains j.left.shapes row → Contains j.right.shapes other → IsListedUnder m m.root (row_of_pair j row other)
  covers_row row other at too =
      let (leaf, among, more) = some_term (λ (p : Block × List ℕ). SomeOf (AreReached row.1 other.1 p) (leaves root_block j.right.tree)) (leaves root_block j.left.tree)
      (leaf_pairs_cover j.measure sound.measure row.1 other.1 j.left.tree j.right.tree (plane_left row.0 row.1 at) (plane_right other.0 other.1 too) sound.left.shallow sound.right.shallow) in
      let (second, among_too, met) = some_term (AreReached row.1 other.1 leaf) (leaves root_block j.right.tree) more in
      covers_in row other at too leaf second among among_too met

  -- a row is that of two rows
  pub row_is : (hit : Hit) → Contains m.rows hit → (row : ℕ × Shape) × (other : ℕ × Shape) × Contains j.left.shapes row × Contains j.right.shapes other × (row_of_pair j row other ≡ hit)
  row_is hit at =
      let (row, among, more) = from_flat_map (λ (row : ℕ × Shape). map (row_of_pair j row) j.right.shapes) j.left.shapes hit at in
      let (other, too, is) = from_map (row_of_pair j row) j.right.shapes hit more in
      (row, other, among, too, is)

  covers_hit : (hit : Hit) → Contains m.rows hit → IsListedUnder m m.root hit
  covers_hit hit at =
      let (row, other, among, too, is) = row_is hit at in
      subst (IsListedUnder m m.root) is (covers_row row other among too)

  -- ---- one gap for each pair of rows

  one_gap : (hit second : Hit) → Contains m.rows hit → Contains m.rows second → hit.left ≡ second.left → hit.right ≡ second.right → IsSameGap hit.gap second.gap
  one_gap hit second at at_too e f =
      let (row, other, among, too, is) = row_is hit at in
      let (row', other', among', too', is') = row_is second at_too in
      let ids : row.0 ≡ row'.0 = ap (λ (h : Hit). h.left) is ∙ e ∙ sym (ap (λ (h : Hit). h.left) is') in
      let ids_too : other.0 ≡ other'.0 = ap (λ (h : Hit). h.right) is ∙ f ∙ sym (ap (λ (h : Hit). h.right) is') in
      let shape : row.1 ≡ row'.1 = own_shape j.measure j.left sound.left row'.0 row.1 row'.1 (subst (λ (n : ℕ). Contains j.left.shapes (n, row.1)) ids among) among' in
      let shape_too : other.1 ≡ other'.1 = own_shape j.measure j.right sound.right other'.0 other.1 other'.1 (subst (λ (n : ℕ). Contains j.right.shapes (n, other.1)) ids_too too) too' in
      subst (λ (g : Frac). IsSameGap hit.gap g)
      (sym (ap (λ (h : Hit). h.gap) is) ∙ ap₂ (λ (s : Shape) (t : Shape). j.measure (figure.Shape s) (figure.Shape t)) shape shape_too ∙ ap (λ (h : Hit). h.gap) is')
      (same_itself hit.gap)

  pub join_laws : MeetsLaws m
  join_laws = record {
    readable = sound.readable;
    unfolds = λ pair. unfolds_at pair (place_at j.left.tree pair.0) (place_at j.right.tree pair.1) refl refl;
    gaps = λ pair. at_all (HasGap m) pair (λ t u e f x at. same_itself (squares_gap j x)) (λ ids item h. leaf_has_gap item);
    bound = λ pair. at_all (λ item. IsAtMost (squares_gap j pair) (gap_of item)) pair (λ t u e f x at. divided_far pair.0 t pair.1 u e f x at)
        (λ ids item h. subst (IsAtMost (squares_gap j pair)) (sym (leaf_item_gap item)) (shown_far j pair ids item h));
    honest = λ pair. at_all (IsHonest m) pair (λ t u e f x at. tt)
        (λ ids item h. subst (λ (x : LeafItem). IsHonest m (leaf_pair_item x)) h.is (item_honest pair h.one h.shape h.other h.row h.other_row));
    covers = covers_hit;
    once = one_gap;
  }
