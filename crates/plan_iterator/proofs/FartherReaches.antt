-- A farther reach takes in more: the visits that lie within it, and their counts.
use Rattle.std.proofs.Common.{◌≡◌, ℕ, ◌≤◌, Bool, true, false, cond, not, ◌&&◌, true≢false, List, [], ◌∷◌, length, filter, Option, None, Some, refl, sym, ap, ◌∙◌, arith}
use Rattle.std.specs.Ordering.{is_gt}
use Rattle.exact_frac.specs.Frac.{value_cmp}
use Rattle.exact_frac.specs.declared.frac.Frac.{Frac}
use Rattle.sand_base.specs.declared.goal.Goal.{Goal}
use Rattle.sand_base.specs.declared.goal.Goal.TheVariants as figure
use Rattle.sand_base.specs.declared.rect.Rect.{Rect}
use Rattle.sand_base.specs.declared.shape.Shape.{Shape}
use Rattle.sand_base.specs.declared.visit.Visit.{Visit}
use Rattle.sand_base.specs.declared.visit.Visit.TheVariants as visit
use Rattle.page_pool.specs.Disk.{PageMap}
use Rattle.sand_model.specs.Database.{Database}
use Rattle.sand_model.specs.Measure.{Measure}
use Rattle.sand_model.specs.Nodes.{LeafItem, PairNode, rank_items, rank_gaps, pair_nodes, pair_gap, join_items}
use Rattle.statements.specs.Plan as plan
use Rattle.statements.specs.Plan.{Plan}
use Rattle.statements.specs.declared.column.Column.{Column}
use Rattle.sand_model.specs.Reach.{Reach, Nothing, UpTo, Ceiling, reaches, Counts, roughs_within, rank_counts, near_counts, join_counts, counts_at, no_counts, quadtree_of}
use Rattle.sand_model.specs.Roughs.{is_rough, rough_figure}
use Rattle.sand_model.specs.Sources.{is_within, column_shapes}
use Rattle.sand_model.specs.Tree.{Tree, root_block}
use Rattle.best_first.specs.Reach.{IsAtMost}
use Rattle.best_first.proofs.Gaps.{at_most_trans, not_greater, at_most_not_greater, within_reach}
use Rattle.plan_iterator.specs.Needed.{AreAtMost}
use Rattle.plan_iterator.proofs.DistinctItems.{passing_more}
use Rattle.plan_iterator.specs.Visited.{IsBlockWithin, IsRoughWithin, IsPairWithin, IsBoundWithin, IsRankVisit, IsNearVisit, IsJoinVisit, IsSourceVisit, nodes_of_columns, page_bound}

-- what the first reach takes in, the second does too
abbrev pub IsPartOf : Reach → Reach → Type 0
IsPartOf to more = (g : Frac) → reaches to g ≡ true → reaches more g ≡ true

pub part_itself : (to : Reach) → IsPartOf to to
part_itself to g h = h

pub part_trans : (a b c : Reach) → IsPartOf a b → IsPartOf b c → IsPartOf a c
part_trans a b c h k g is = k g (h g is)

-- nothing is a part of every reach
pub nothing_part : (to : Reach) → IsPartOf Nothing to
nothing_part to g h = absurd (true≢false (sym h))

-- ---- what a reach up to a gap takes in

not_is : (b : Bool) → not b ≡ true → b ≡ false
not_is true h = absurd (true≢false (sym h))
not_is false h = refl

pub up_to_reaches : (most g : Frac) → reaches (UpTo most) g ≡ true → IsAtMost g most
up_to_reaches most g h = not_greater g most (not_is (is_gt (value_cmp g most)) h)

pub reaches_up_to : (most g : Frac) → IsAtMost g most → reaches (UpTo most) g ≡ true
reaches_up_to most g h = ap not (at_most_not_greater g most h)

-- a gap's reach is a part of a farther one's
pub up_to_part : (f g : Frac) → IsAtMost f g → IsPartOf (UpTo f) (UpTo g)
up_to_part f g h x is = reaches_up_to g x (at_most_trans x f g (up_to_reaches f x is) h)

-- and of a ceiling that it is within
pub ceiling_part : (most : Option ℕ) (f : Frac) → is_within most f ≡ true → IsPartOf (UpTo f) (Ceiling most)
ceiling_part None f h x is = refl
ceiling_part (Some most) f h x is = within_reach (Some most) x f (up_to_reaches f x is) h

-- ---- counts

no_more_counts : AreAtMost no_counts no_counts
no_more_counts = record { blocks = omega arith; pairs = omega arith; geometries = omega arith }

-- a test that holds wherever another does passes at least as many
pub filter_more : {X : Type 0} (p q : X → Bool) → ((x : X) → p x ≡ true → q x ≡ true) → (xs : List X) → length (filter p xs) ≤ length (filter q xs)
filter_more p q h [] = omega arith
filter_more {X} p q h (x ∷ xs) = step (p x) (q x) refl refl (filter_more p q h xs)
  where
    step : (b c : Bool) → p x ≡ b → q x ≡ c → length (filter p xs) ≤ length (filter q xs) → length (cond b (x ∷ filter p xs) (filter p xs)) ≤ length (cond c (x ∷ filter q xs) (filter q xs))
    step true true e f more = omega arith
    step true false e f more = absurd (true≢false (sym (h x e) ∙ f))
    step false true e f more = omega arith
    step false false e f more = more

both_true : (a b : Bool) → a && b ≡ true → (a ≡ true) × (b ≡ true)
both_true true b e = (refl, e)
both_true false b e = absurd (true≢false (sym e))

true_both : (a b : Bool) → a ≡ true → b ≡ true → a && b ≡ true
true_both true b e f = f
true_both false b e f = absurd (true≢false (sym e))

module _ (to more : Reach) (part : IsPartOf to more) where
  roughs_more : (items : List LeafItem) → length (roughs_within to items) ≤ length (roughs_within more items)
  roughs_more items =
      passing_more (λ item. item.is_rough && reaches to item.gap) (λ item. item.is_rough && reaches more item.gap)
      (λ item h. let both = both_true item.is_rough (reaches to item.gap) h in true_both item.is_rough (reaches more item.gap) both.0 (part item.gap both.1)) items

  rank_more : (gap : Measure) (d : Database) (column : Column) (goal : Goal) → AreAtMost (rank_counts gap d column goal to) (rank_counts gap d column goal more)
  rank_more gap d column goal = record {
    blocks = filter_more (reaches to) (reaches more) part (rank_gaps gap goal (quadtree_of d column));
    pairs = omega arith;
    geometries = roughs_more (rank_items gap goal (column_shapes d column) (quadtree_of d column));
  }

  join_more : (gap : Measure) (d : Database) (left right : Column) → AreAtMost (join_counts gap d left right to) (join_counts gap d left right more)
  join_more gap d left right =
      let nodes = pair_nodes root_block (quadtree_of d left) root_block (quadtree_of d right) in record {
        blocks = omega arith;
        pairs = filter_more (λ node. reaches to (pair_gap gap node)) (λ node. reaches more (pair_gap gap node)) (λ node. part (pair_gap gap node)) nodes;
        geometries = roughs_more (join_items gap (column_shapes d left) (column_shapes d right) nodes);
      }

  near_more : (gap : Measure) (d : Database) (column : Column) (goal : Goal) → AreAtMost (near_counts gap d column goal to) (near_counts gap d column goal more)
  near_more gap d column goal = record {
    blocks = omega arith;
    pairs = omega arith;
    geometries =
        filter_more (λ (row : ℕ × Shape). is_rough row.1 && reaches to (gap goal (rough_figure row.1))) (λ (row : ℕ × Shape). is_rough row.1 && reaches more (gap goal (rough_figure row.1)))
        (λ row h. let both = both_true (is_rough row.1) (reaches to (gap goal (rough_figure row.1))) h in
        true_both (is_rough row.1) (reaches more (gap goal (rough_figure row.1))) both.0 (part (gap goal (rough_figure row.1)) both.1)) (column_shapes d column);
  }

  -- a farther reach counts at least as much
  pub counts_more : (gap : Measure) (d : Database) (p : Plan) → AreAtMost (counts_at gap d p to) (counts_at gap d p more)
  counts_more gap d (plan.Rank column goal within) = rank_more gap d column (figure.Shape goal)
  counts_more gap d (plan.Near column goal within) = near_more gap d column (figure.Shape goal)
  counts_more gap d (plan.Window column window) = rank_more gap d column (figure.Rect window)
  counts_more gap d (plan.Join left right within) = join_more gap d left right
  counts_more gap d (plan.Semi left right within) = join_more gap d left right
  counts_more gap d (plan.Knn k left right within) = join_more gap d left right
  counts_more gap d (plan.Scan relation) = no_more_counts
  counts_more gap d (plan.PickEqual column v) = no_more_counts
  counts_more gap d (plan.PickBetween column low high) = no_more_counts
  counts_more gap d (plan.Filter p tests) = no_more_counts
  counts_more gap d (plan.Match p place column) = no_more_counts
  counts_more gap d (plan.Fetch p places) = no_more_counts
  counts_more gap d (plan.First count p) = no_more_counts
  counts_more gap d (plan.SortBy p place) = no_more_counts
  counts_more gap d (plan.SortNear p place goal) = no_more_counts

  block_more : (gap : Measure) (goal : Goal) (tree : Tree) (z level : ℕ) → IsBlockWithin gap goal tree to z level → IsBlockWithin gap goal tree more z level
  block_more gap goal tree z level h = record { place = h.place; among = h.among; code = h.code; size = h.size; near = part _ h.near }

  rough_more : (items : List LeafItem) (left right : ℕ) → IsRoughWithin items to left right → IsRoughWithin items more left right
  rough_more items left right h = record {
    item = h.item;
    among = h.among;
    rough = h.rough;
    left_id = h.left_id;
    right_id = h.right_id;
    near = part _ h.near;
  }

  pair_more : (gap : Measure) (nodes : List PairNode) (left right : ℕ × ℕ) → IsPairWithin gap nodes to left right → IsPairWithin gap nodes more left right
  pair_more gap nodes left right h = record { node = h.node; among = h.among; left_block = h.left_block; right_block = h.right_block; near = part _ h.near }

  rank_visit_more : (gap : Measure) (d : Database) (column : Column) (goal : Goal) (v : Visit) → IsRankVisit gap d column goal to v → IsRankVisit gap d column goal more v
  rank_visit_more gap d column goal (visit.Block number z level) h = block_more gap goal (quadtree_of d column) z level h
  rank_visit_more gap d column goal (visit.Geometry id) h = rough_more (rank_items gap goal (column_shapes d column) (quadtree_of d column)) id 0 h
  rank_visit_more gap d column goal _ h = absurd h

  join_visit_more : (gap : Measure) (d : Database) (left right : Column) (v : Visit) → IsJoinVisit gap d left right to v → IsJoinVisit gap d left right more v
  join_visit_more gap d left right (visit.Pair b c) h = pair_more gap (nodes_of_columns d left right) (b.1, b.2) (c.1, c.2) h
  join_visit_more gap d left right (visit.GeometryPair l r) h =
      rough_more (join_items gap (column_shapes d left) (column_shapes d right) (nodes_of_columns d left right)) l r h
  join_visit_more gap d left right _ h = absurd h

  bound_more : (gap : Measure) (goal : Goal) (bound : Option Rect) → IsBoundWithin gap goal to bound → IsBoundWithin gap goal more bound
  bound_more gap goal (Some r) h = part (gap goal (figure.Rect r)) h
  bound_more gap goal None h = λ least is. part least (h least is)

  near_visit_more : (gap : Measure) (pages : PageMap) (d : Database) (column : Column) (goal : Goal) (v : Visit) → IsNearVisit gap pages d column goal to v
      → IsNearVisit gap pages d column goal more v
  near_visit_more gap pages d column goal (visit.Tree number page) h = bound_more gap goal (page_bound pages page) h
  near_visit_more gap pages d column goal (visit.Geometry id) h = record { polygon = h.polygon; among = h.among; rough = h.rough; near = part _ h.near }
  near_visit_more gap pages d column goal _ h = absurd h

  -- a visit that lies within a reach lies within a farther one
  pub visit_more : (gap : Measure) (pages : PageMap) (d : Database) (p : Plan) (v : Visit) → IsSourceVisit gap pages d p to v → IsSourceVisit gap pages d p more v
  visit_more gap pages d (plan.Rank column goal within) v h = rank_visit_more gap d column (figure.Shape goal) v h
  visit_more gap pages d (plan.Near column goal within) v h = near_visit_more gap pages d column (figure.Shape goal) v h
  visit_more gap pages d (plan.Window column window) v h = rank_visit_more gap d column (figure.Rect window) v h
  visit_more gap pages d (plan.Join left right within) v h = join_visit_more gap d left right v h
  visit_more gap pages d (plan.Semi left right within) v h = join_visit_more gap d left right v h
  visit_more gap pages d (plan.Knn k left right within) v h = join_visit_more gap d left right v h
  visit_more gap pages d _ v h = absurd h
