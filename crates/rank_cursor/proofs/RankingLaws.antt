-- A sound ranking meets the laws of a hierarchy.
use Rattle.std.proofs.Common.{◌≡◌, ⊎_elim, ℕ, ◌<◌, Bool, true, false, cond, not, ◌||◌, List, [], ◌∷◌, ◌++◌, map, filter_map, flat_map, All}
use Rattle.std.proofs.Common.{Contains, Option, None, Some, option_map, refl, sym, ap, ap₂, ◌∙◌, subst, arith, append-nil}
use Rattle.std.specs.Ordering.{is_lt}
use Rattle.std.proofs.lemmas.Bool.{ltb-true}
use Rattle.std.proofs.lemmas.List.Elements.{All-nil, All-contains}
use Rattle.exact_frac.specs.Frac.{value_cmp}
use Rattle.exact_frac.specs.declared.frac.Frac.{Frac}
use Rattle.sand_base.specs.Plane.{IsShapeInClosedPlane}
use Rattle.sand_base.specs.declared.TheConstants.{COORDINATE_BITS}
use Rattle.sand_base.specs.declared.goal.Goal.TheVariants as figure
use Rattle.sand_base.specs.declared.shape.Shape.{Shape}
use Rattle.z_code.specs.Block.{child, children_of, square_of}
use Rattle.z_code.specs.declared.block.Block.{Block}
use Rattle.sand_model.specs.Database.{meets_block}
use Rattle.sand_model.specs.Measure.{meets}
use Rattle.sand_model.specs.Nodes.{LeafItem, single_item, is_queued, is_rough, greater, rough_figure, square_figure}
use Rattle.sand_model.specs.Tree.{Tree, Leaf, Inner, places, leaves, root_block}
use Rattle.ring_geom.proofs.BlockLemmas.{root_is_block}
use Rattle.ring_geom.proofs.RoughLemmas.{rough_no_farther}
use Rattle.ring_geom.proofs.TreeLaws.{block_no_farther, leaves_cover}
use Rattle.best_first.specs.Hierarchy.{Meaning, MeetsLaws, HasGap, IsHonest, HasRow, IsListedUnder, Shows}
use Rattle.best_first.specs.Item.{gap_of, nodes_of}
use Rattle.best_first.specs.Reach.{IsSameGap, IsAtMost}
use Rattle.best_first.specs.declared.hit.Hit.{Hit}
use Rattle.best_first.specs.declared.item.Item.{Item}
use Rattle.best_first.specs.declared.item.Item.TheVariants.{Rough, Row}
use Rattle.best_first.proofs.Bags.{there, cons_cases, only, All-by, in_filter}
use Rattle.best_first.proofs.Gaps.{same_itself}
use Rattle.rank_cursor.specs.Ranking.{Ranking, place_at, blocks_under, block_gap, block_item, leaf_item, shown, found_at, hit_at, rank_meaning, IsSound}
use Rattle.rank_cursor.proofs.Elements.{in_map, from_map, map_append, in_filter_map, some_term}
use Rattle.rank_cursor.proofs.Places.{pick, place_below, place_here, place_more, inside, is_place, place_is, leaf_place, leaf_fits}
use Rattle.rank_cursor.proofs.RankedItems.{at_least_not_less, greater_least, own_shape, is_shape, one_item, IsShown, shown_is, leaf_item_gap, leaf_nodes, shown_far}

-- ---- the laws

module _ (r : Ranking) (sound : IsSound r) where
  abbrev m : Meaning Block
  m = rank_meaning r

  -- what stands below a place
  pub under_place : (b : Block) (place : Tree) → Contains (places root_block r.tree) (b, place) → m.under b ≡ map (λ (x : Block × Tree). x.0) (places b place)
  under_place b place at = ap (blocks_under b) (is_place r.tree sound.shallow b place at)

  child_place : (b : Block) (p q s t : Tree) → place_at r.tree b ≡ Some (Inner p q s t) → (i : ℕ) → i < 4 → Contains (places root_block r.tree) (child b i, pick p q s t i)
  child_place b p q s t e i small =
      place_more root_block r.tree b (Inner p q s t) (child b i, pick p q s t i) (place_is r.tree b (Inner p q s t) e)
      (place_below b p q s t (child b i, pick p q s t i) i small (place_here (child b i) (pick p q s t i)))

  four_maps : {X Y : Type 0} (f : X → Y) (xs ys zs ws : List X) → map f (xs ++ (ys ++ (zs ++ ws))) ≡ map f xs ++ (map f ys ++ (map f zs ++ (map f ws ++ [])))
  four_maps f xs ys zs ws =
      map_append f xs (ys ++ (zs ++ ws)) ∙ ap (λ l. map f xs ++ l) (map_append f ys (zs ++ ws)
      ∙ ap (λ l. map f ys ++ l) (map_append f zs ws ∙ ap (λ l. map f zs ++ l) (sym (append-nil (map f ws)))))

  unfolds_at : (b : Block) (o : Option Tree) → place_at r.tree b ≡ o → blocks_under b o ≡ b ∷ flat_map m.under (nodes_of (found_at r b o))
  unfolds_at b None e = refl
  unfolds_at b (Some (Leaf ids)) e = ap (λ (l : List Block). b ∷ flat_map m.under l) (sym (leaf_nodes (shown r b ids)))
  unfolds_at b (Some (Inner p q s t)) e =
      let below : (i : ℕ) → i < 4 → map (λ (x : Block × Tree). x.0) (places (child b i) (pick p q s t i)) ≡ m.under (child b i) =
      λ i small. sym (under_place (child b i) (pick p q s t i) (child_place b p q s t e i small)) in
      ap (λ (l : List Block). b ∷ l)
      (four_maps (λ (x : Block × Tree). x.0) (places (child b 0) p) (places (child b 1) q) (places (child b 2) s) (places (child b 3) t)
      ∙ ap₂ (λ (x : List Block) (y : List Block). x ++ y) (below 0 (omega arith))
      (ap₂ (λ (x : List Block) (y : List Block). x ++ y) (below 1 (omega arith))
      (ap₂ (λ (x : List Block) (y : List Block). x ++ y) (below 2 (omega arith))
      (ap (λ (x : List Block). x ++ []) (below 3 (omega arith))))))

  children_all : (P : Item Block → Type 0) (b : Block) → ((i : ℕ) → i < 4 → P (block_item r (child b i))) → All P (map (block_item r) (children_of b))
  children_all P b each =
      All-by P (map (block_item r) (children_of b)) (λ x at.
      ⊎_elim (λ e. subst P e (each 0 (omega arith)))
      (λ more. ⊎_elim (λ e. subst P e (each 1 (omega arith)))
      (λ less. ⊎_elim (λ e. subst P e (each 2 (omega arith))) (λ last. subst P (only (block_item r (child b 3)) x last) (each 3 (omega arith)))
      (cons_cases (block_item r (child b 2)) (block_item r (child b 3) ∷ []) x less))
      (cons_cases (block_item r (child b 1)) (block_item r (child b 2) ∷ block_item r (child b 3) ∷ []) x more))
      (cons_cases (block_item r (child b 0)) (block_item r (child b 1) ∷ block_item r (child b 2) ∷ block_item r (child b 3) ∷ []) x at))

  leaf_all : (P : Item Block → Type 0) (b : Block) (ids : List ℕ) → ((item : LeafItem) → IsShown r b ids item → P (leaf_item item)) → All P (map leaf_item (shown r b ids))
  leaf_all P b ids each =
      All-by P (map leaf_item (shown r b ids)) (λ x at.
      let (item, among, is) = from_map leaf_item (shown r b ids) x at in subst P is (each item (shown_is r b ids item among)))

  leaf_has_gap : (item : LeafItem) → HasGap m (leaf_item item)
  leaf_has_gap item =
      let go : (b : Bool) → HasGap m (cond b (Rough item.gap item.left item.right) (Row item.gap item.left item.right)) = elim [ true ↦ tt | false ↦ tt ] in
      go item.is_rough

  gaps_at : (b : Block) (o : Option Tree) → All (HasGap m) (found_at r b o)
  gaps_at b None = All-nil (HasGap m)
  gaps_at b (Some (Leaf ids)) = leaf_all (HasGap m) b ids (λ item h. leaf_has_gap item)
  gaps_at b (Some (Inner p q s t)) = children_all (HasGap m) b (λ i small. same_itself (block_gap r (child b i)))

  bound_at : (b : Block) (o : Option Tree) → place_at r.tree b ≡ o → All (λ item. IsAtMost (block_gap r b) (gap_of item)) (found_at r b o)
  bound_at b None e = All-nil (λ (item : Item Block). IsAtMost (block_gap r b) (gap_of item))
  bound_at b (Some (Leaf ids)) e =
      leaf_all (λ item. IsAtMost (block_gap r b) (gap_of item)) b ids (λ item h. subst (IsAtMost (block_gap r b)) (sym (leaf_item_gap item)) (shown_far r b ids item h))
  bound_at b (Some (Inner p q s t)) e =
      let k = inside root_block r.tree root_is_block sound.shallow b (Inner p q s t) (place_is r.tree b (Inner p q s t) e) in
      children_all (λ item. IsAtMost (block_gap r b) (gap_of item)) b (λ i small.
      block_no_farther r.measure sound.measure r.goal b i sound.goal k.block (ltb-true b.level COORDINATE_BITS k.shallow.0) small)

  -- the row of an exact item
  exact_row : (id : ℕ) (s : Shape) → Contains r.shapes (id, s) → HasRow m (record { gap = r.measure r.goal (figure.Shape s); left = id; right = 0 })
  exact_row id s at = record {
    row = hit_at r (id, s);
    among = in_map (hit_at r) r.shapes (id, s) at;
    same = (same_itself (r.measure r.goal (figure.Shape s)), refl, refl);
  }

  leaf_honest : (b : Block) (id : ℕ) (s : Shape) → Contains r.shapes (id, s) → IsHonest m (leaf_item (one_item r b id s))
  leaf_honest b id s at =
      let rough = r.measure r.goal (rough_figure s) in
      let exact = r.measure r.goal (figure.Shape s) in
      let go : (k : Bool) → IsHonest m (cond k (Rough (cond k (greater rough (block_gap r b)) exact) id 0) (Row (cond k (greater rough (block_gap r b)) exact) id 0)) =
      elim [ true ↦ tt | false ↦ exact_row id s at ] in
      go (is_rough s)

  honest_at : (b : Block) (o : Option Tree) → All (IsHonest m) (found_at r b o)
  honest_at b None = All-nil (IsHonest m)
  honest_at b (Some (Leaf ids)) =
      leaf_all (IsHonest m) b ids (λ item h. subst (λ (x : LeafItem). IsHonest m (leaf_item x)) h.is (leaf_honest b h.id h.shape h.row))
  honest_at b (Some (Inner p q s t)) = children_all (IsHonest m) b (λ i small. tt)

  -- ---- covers

  -- the leaf lists the row
  is_listed : (c : Block) (ids : List ℕ) → Contains (places root_block r.tree) (c, Leaf ids) → (id : ℕ) (s : Shape) → Contains r.shapes (id, s)
      → meets r.measure s (square_of c) ≡ true → Contains ids id
  is_listed c ids place id s at met =
      let all = map (λ (row : ℕ × Shape). row.0) r.shapes in
      subst (λ (l : List ℕ). Contains l id) (sym (leaf_fits (meets_block r.measure r.shapes) all root_block r.tree sound.fits c ids place))
      (in_filter (meets_block r.measure r.shapes c) all id (in_map (λ (row : ℕ × Shape). row.0) r.shapes (id, s) at)
      (ap (met_at) (is_shape r.shapes sound.apart id s at) ∙ met))
    where
      met_at : Option Shape → Bool
      met_at (Some t) = meets r.measure t (square_of c)
      met_at None = false

  is_queued_there : (c : Block) (id : ℕ) (s : Shape) → IsAtMost (block_gap r c) (r.measure r.goal (figure.Shape s)) → is_queued (block_gap r c) (one_item r c id s) ≡ true
  is_queued_there c id s near =
      let rough = r.measure r.goal (rough_figure s) in
      let exact = r.measure r.goal (figure.Shape s) in
      let go : (k : Bool) → (k || not (is_lt (value_cmp (cond k (greater rough (block_gap r c)) exact) (block_gap r c)))) ≡ true =
      elim [ true ↦ refl | false ↦ ap not (at_least_not_less exact (block_gap r c) near) ] in
      go (is_rough s)

  shows_row : (c : Block) (id : ℕ) (s : Shape) → Contains r.shapes (id, s) → IsAtMost (block_gap r c) (r.measure r.goal (figure.Shape s))
      → Shows (hit_at r (id, s)) (leaf_item (one_item r c id s))
  shows_row c id s at near =
      let rough = r.measure r.goal (rough_figure s) in
      let exact = r.measure r.goal (figure.Shape s) in
      let go : (k : Bool) → Shows {N = Block} (hit_at r (id, s)) (cond k (Rough (cond k (greater rough (block_gap r c)) exact) id 0) (Row (cond k (greater rough (block_gap r c)) exact) id 0)) =
      elim [
        | true ↦ (
          refl,
          refl,
          greater_least rough (block_gap r c) exact
              (rough_no_farther r.measure sound.measure r.goal s sound.goal (All-contains (λ (row : ℕ × Shape). IsShapeInClosedPlane row.1) r.shapes (id, s) sound.plane at)) near,
        )
        | false ↦ (same_itself exact, refl, refl)
      ] in
      go (is_rough s)

  covers_row : (id : ℕ) (s : Shape) → Contains r.shapes (id, s) → IsListedUnder m root_block (hit_at r (id, s))
  covers_row id s at =
      let plane = All-contains (λ (row : ℕ × Shape). IsShapeInClosedPlane row.1) r.shapes (id, s) sound.plane at in
      let (leaf, among, met) = some_term (λ (leaf : Block × List ℕ). (meets r.measure s (square_of leaf.0) ≡ true)
      × IsAtMost (r.measure r.goal (square_figure leaf.0)) (r.measure r.goal (figure.Shape s)))
      (leaves root_block r.tree) (leaves_cover r.measure sound.measure r.goal s r.tree sound.goal plane sound.shallow) in
      let c = leaf.0 in
      let ids = leaf.1 in
      let place = leaf_place root_block r.tree c ids among in
      let listed = is_listed c ids place id s at met.0 in
      record {
        leaf = c;
        below = subst (λ (l : List Block). Contains l c) (sym (under_place root_block r.tree (place_here root_block r.tree)))
            (in_map (λ (x : Block × Tree). x.0) (places root_block r.tree) (c, Leaf ids) place);
        item = leaf_item (one_item r c id s);
        listed = subst (λ (o : Option Tree). Contains (found_at r c o) (leaf_item (one_item r c id s))) (sym (is_place r.tree sound.shallow c (Leaf ids) place))
            (in_map leaf_item (shown r c ids) (one_item r c id s)
            (in_filter (is_queued (block_gap r c)) (filter_map (single_item r.measure r.goal r.shapes c) ids) (one_item r c id s)
            (in_filter_map (single_item r.measure r.goal r.shapes c) ids id (one_item r c id s) listed
            (ap (option_map (one_item r c id)) (is_shape r.shapes sound.apart id s at)))
            (is_queued_there c id s met.1)));
        shows = shows_row c id s at met.1;
      }

  covers_hit : (hit : Hit) → Contains m.rows hit → IsListedUnder m root_block hit
  covers_hit hit at =
      let (row, among, is) = from_map (hit_at r) r.shapes hit at in
      subst (IsListedUnder m root_block) is (covers_row row.0 row.1 among)

  -- ---- one gap for each row

  one_gap : (hit other : Hit) → Contains m.rows hit → Contains m.rows other → hit.left ≡ other.left → IsSameGap hit.gap other.gap
  one_gap hit other at there e =
      let (row, among, is) = from_map (hit_at r) r.shapes hit at in
      let (second, too, same) = from_map (hit_at r) r.shapes other there in
      let ids : row.0 ≡ second.0 = ap (λ (h : Hit). h.left) is ∙ e ∙ sym (ap (λ (h : Hit). h.left) same) in
      let shape : row.1 ≡ second.1 = own_shape r.shapes sound.apart second.0 row.1 second.1 (subst (λ (n : ℕ). Contains r.shapes (n, row.1)) ids among) too in
      subst (λ (g : Frac). IsSameGap hit.gap g)
      (sym (ap (λ (h : Hit). h.gap) is) ∙ ap (λ (s : Shape). r.measure r.goal (figure.Shape s)) shape ∙ ap (λ (h : Hit). h.gap) same)
      (same_itself hit.gap)

  pub rank_laws : MeetsLaws m
  rank_laws = record {
    readable = sound.readable;
    unfolds = λ b. unfolds_at b (place_at r.tree b) refl;
    gaps = λ b. gaps_at b (place_at r.tree b);
    bound = λ b. bound_at b (place_at r.tree b) refl;
    honest = λ b. honest_at b (place_at r.tree b);
    covers = covers_hit;
    once = λ hit other at there l e. one_gap hit other at there l;
  }
